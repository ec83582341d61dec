use Rattle.services_files.specs.Services.{tried_at, whole_triplets}
use Rattle.services_files.proofs.FillingLemmas.{accepted_heard}
use Rattle.services_files.proofs.TakenLemmas.{heard-none, unheard-none}
use Rattle.services_files.proofs.WholeFileLemmas.{frames_whole}
use Rattle.services_files.proofs.laws.triplets_are_tried_and_taken.Goals as goal

pub returns-clause-taken : goal.returns-clause-taken
returns-clause-taken c = λ before next.
    (unheard-none (whole_triplets before) (tried_at next), heard-none (whole_triplets before) (tried_at next))

pub returns-clause-heard : goal.returns-clause-heard
returns-clause-heard c = accepted_heard

pub returns-clause-frames : goal.returns-clause-frames
returns-clause-frames c = frames_whole
