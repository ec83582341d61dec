use Rattle.services_shown.proofs.SoundLemmas.{fit_sound}
use Rattle.services_shown.proofs.sound_laws.law_of_fit_frames.Goals as goal

pub returns : goal.returns
returns c = fit_sound
