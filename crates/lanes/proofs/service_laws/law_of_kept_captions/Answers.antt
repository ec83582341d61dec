use Rattle.lanes.proofs.CaptionsKept.{captions_kept}
use Rattle.lanes.proofs.service_laws.law_of_kept_captions.Goals as goal

pub returns : goal.returns
returns c = captions_kept
