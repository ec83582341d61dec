-- Between crates: the program's answer stands on none of these definitions.
-- No frame knows a cue that is loaded later: what `build` puts of an accepted list, and of one with further cues at its end.
use Rattle.std.specs.Prelude.{ℕ, ◌≤◌, List}
use Rattle.cue_lists.specs.Listing.{Listing}
use Rattle.cue_lists.specs.declared.cue.Cue.{Cue}
use Rattle.cue_list_commands.specs.Planned.{Placement}
use Rattle.cue_list_commands.specs.Accepted.{IsAccepted}
use Rattle.cue_list_commands.specs.Output.{build_output}
use Rattle.live_frames.specs.LaneFronts.{AreLoadedFrom}
use Rattle.live_frames.specs.Longer.{BothBegin, first_words, longer}

-- both outputs begin with the words of the first k frames: none of these is at the LOAD of a further cue, or after the end of a list
abbrev pub EarlierWordsStay : Type 0
EarlierWordsStay = (bytes others : List ℕ) (list : Listing) (frames : ℕ) (more : List Cue) (placed moved : Placement)
    → IsAccepted bytes list placed → IsAccepted others (longer list frames more) moved
    → (k : ℕ) → AreLoadedFrom k more → k ≤ list.frames → k ≤ frames
    → BothBegin (first_words list placed k) (build_output list placed) (build_output (longer list frames more) moved)
