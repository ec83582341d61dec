use Rattle.dtvcc_screen.proofs.LawLemmas.{put_off}
use Rattle.dtvcc_screen.proofs.laws.delays_only_put_off.Goals as goal

pub returns : goal.returns
returns c = put_off
