use Rattle.cue_lists.proofs.WindowsFound.{each_cue_shown}
use Rattle.cue_lists.proofs.grid_laws.a_service_shows_the_windows_of_its_cues.Goals as goal

pub returns : goal.returns
returns c = each_cue_shown
