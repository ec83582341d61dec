use Rattle.mcc_words.proofs.PlaceLemmas.{packets_stand_at_their_frames}
use Rattle.mcc_words.proofs.missing_laws.packets_stand_at_their_frames.Goals as goal

pub returns : goal.returns
returns c = packets_stand_at_their_frames
