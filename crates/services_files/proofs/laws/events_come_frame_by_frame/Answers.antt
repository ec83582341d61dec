use Rattle.services_files.proofs.EventLemmas.{events_more}
use Rattle.services_files.proofs.laws.events_come_frame_by_frame.Goals as goal

pub returns : goal.returns
returns c = events_more
