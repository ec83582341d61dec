use Rattle.xds_frames.proofs.XdsLemmas.{packets_leave_sound}
use Rattle.xds_frames.proofs.beside_laws.packets_leave_frames_sound.Goals as goal

pub returns : goal.returns
returns c = packets_leave_sound
