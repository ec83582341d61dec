use Rattle.cue_lists.proofs.WindowsFound.{each_cue_shown}
use Rattle.cue_lists.proofs.OneAtATime.{one_at_a_time}
use Rattle.cue_lists.proofs.laws.a_window_shows_one_cue_at_a_time.Goals as goal

pub returns : goal.returns
returns c = record {
  one = one_at_a_time;
  shown = λ list formed ruled service id frame. each_cue_shown service id frame list.cues (one_at_a_time list formed ruled service id frame);
}
