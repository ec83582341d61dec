-- Believed: the program's answer stands on these definitions.
-- The words that `dual` puts of two lists, and what holds of them.
use Rattle.cue_list_commands.specs.Output.{list_windows}
use Rattle.dual_commands.specs.DualLists.{PlacedLists}
use Rattle.dual_plans.specs.DualShown.{dual_grids, dual_told}
use Rattle.dual_plans.specs.DualPlacement.{dual_columns}
use Rattle.cue_list_commands.specs.Planned.{share_in}
use Rattle.cue_list_commands.specs.Framing.{Framing, packets_of}
use Rattle.cue_list_commands.specs.Delays.{AreDelaysSent}
use Rattle.cue_list_commands.specs.Shares.{AreSharesKept}
use Rattle.cue_list_commands.specs.Showing.{ShowsFrames}
use Rattle.cue_list_commands.specs.Sound.{IsSoundFrames}

-- the frames of both lists in their placements
abbrev pub dual_framing : PlacedLists → Framing
dual_framing lists = record { rate = lists.one.rate; columns = dual_columns lists.one lists.two lists.placed; count = lists.one.frames }

-- what holds of the words that `dual` puts: their frames are sound, no service gets more than its share of the first list; a
-- receiver that was reset before the first frame shows at each frame that is settled for a channel by its own list the first list on CC1
-- and CC3, the second on CC2 and CC4, and the first list's windows at every frame; and the delay of each of its window cues is sent
pub record IsSoundDual (lists : PlacedLists) : Type 0 where
  pub frames : IsSoundFrames lists.one.rate lists.one.frames (dual_columns lists.one lists.two lists.placed)
  pub shares : AreSharesKept lists.one.rate (share_in lists.one) lists.one.frames (packets_of (dual_framing lists))
  pub shows : ShowsFrames (dual_told lists.one lists.two) (dual_grids lists.one lists.two) (list_windows lists.one) lists.one.frames (packets_of (dual_framing lists))
  pub delayed : AreDelaysSent lists.one lists.placed.services
