use Rattle.std.proofs.Common.{◌∙◌, ap, sym}
use Rattle.frame_carrier.proofs.CarryingLemmas.{twenty_are}
use Rattle.frame_carrier.proofs.carrier.put_pairs.Goals as goal
use Rattle.words_files.specs.CarriedWords.{carried_words, triplets_packet}

pub returns-in-20-Some-Some : goal.returns-in-20-Some-Some
returns-in-20-Some-Some c =
    c.write_triplets.ensures
    ∙ ap (λ triplets. carried_words (triplets_packet c.args.rate c.args.counter triplets)) (c.twenty_triplets.ensures
    ∙ sym (twenty_are c.args.rate c.args.frame.now c.in-20-Some-Some.one c.in-20-Some-Some.two
    (sym c.triplets.ensures ∙ c.in-20-Some-Some.is-0) c.in-20-Some-Some.is-1 c.in-20-Some-Some.is-2))
