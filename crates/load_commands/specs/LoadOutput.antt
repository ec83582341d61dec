-- Believed: the program's answer stands on these definitions.
-- What `load` puts: how many captions its list has, and what came of the list as it was planned, carried and received.
use Rattle.std.specs.Prelude.{◌≡◌, ℕ, ◌+◌, if◌then◌else◌, List, [], ◌∷◌, ◌++◌, length, codes, decimal}
use Rattle.cue_list_commands.specs.Framing.{words_of}
use Rattle.cc_base.specs.Texts.{text}
use Rattle.cdp_packets.specs.Packets.{Frame}
use Rattle.cue_list_commands.specs.Output.{built_packets, list_framing}
use Rattle.cue_list_commands.specs.Planned.{IsListPlaced, Placement}
use Rattle.grid_print.specs.GridTexts.{screens_differ}
use Rattle.grid_print.specs.Screens.{received_screens}
use Rattle.load_commands.specs.LoadList.{load_list}
use Rattle.load_commands.specs.declared.summary.Summary.{Summary}

-- the number of frames at which the screens differ from the previous frame's, of frames that follow others. Just at these `decode`
-- prints something. Before the first frame of all, every screen is empty and no window is shown
abbrev pub change_count : List Frame → List Frame → ℕ
change_count before [] = 0
change_count before (frame ∷ frames) =
    (if screens_differ (received_screens before) (received_screens (before ++ frame ∷ [])) then 1 else 0)
    + change_count (before ++ frame ∷ []) frames

-- the four lines
abbrev pub summary_text : Summary → List ℕ
summary_text summary =
    text (codes "cues " ∷ decimal summary.cues ∷ codes "\nframes " ∷ decimal summary.frames ∷ codes "\nbytes " ∷ decimal summary.bytes
    ∷ codes "\nchanges " ∷ decimal summary.changes ∷ codes "\n" ∷ [])

-- these are the lines of the list of this many captions, whose units stand in their earliest placement: of its captions, its frames, the
-- bytes that `build` puts of it, and the changes of the frames that these words carry
pub record AreLoadLines (count : ℕ) (text : List ℕ) : Type 0 where
  pub placed : Placement
  pub placement : IsListPlaced (load_list count) placed
  pub text_is : text ≡ summary_text (record {
    cues = count;
    frames = (load_list count).frames;
    bytes = length (words_of (list_framing (load_list count) placed));
    changes = change_count [] (built_packets (load_list count) placed);
  })
