-- Between crates: the program's answer stands on none of these definitions.
-- Worked examples of the rules: short lists of 100 frames, or 300 for windows, and their faults.
use Rattle.std.specs.Prelude.{ℕ, false, List, [], ◌∷◌, Option, Some, None}
use Rattle.cc_base.specs.declared.rate.Rate.TheVariants as rate
use Rattle.cc_base.specs.declared.why.Why.{Why}
use Rattle.line21_codes.specs.declared.channels.Chan.{Chan}
use Rattle.line21_codes.specs.declared.channels.Chan.TheVariants as chan
use Rattle.line21_codes.specs.declared.styles.Colour.{Colour}
use Rattle.line21_codes.specs.declared.styles.Colour.TheVariants as colour
use Rattle.cue_types.specs.Listing.{Listing}
use Rattle.cue_types.specs.declared.cue.Cue.{Cue}
use Rattle.cue_types.specs.declared.cue.Kind.{Kind}
use Rattle.cue_types.specs.declared.cue.Kind.TheVariants as kind
use Rattle.cue_types.specs.declared.cue.Pen.TheVariants as pen
use Rattle.cue_types.specs.declared.cue.Run.{Run}
use Rattle.cue_lists.specs.declared.rules.RuleFault.{RuleFault}

-- a list of 100 frames at 29.97 frames a second, without shares
abbrev pub example_list : List Cue → Listing
example_list cues = record { rate = rate.F2997; frames = 100; shares = []; cues = cues }

-- a run of a text in a row, from a column on
abbrev pub example_run : Colour → ℕ → ℕ → List ℕ → Run
example_run colour row col text = record {
  row = row;
  col = col;
  pen = pen.Line21 (record { colour = colour; italic = false; underline = false });
  text = text;
  colors = None;
}

-- a cue with these runs
abbrev pub example_cue : Kind → ℕ → ℕ → Option ℕ → List Run → Cue
example_cue kind load show hide runs = record { load = load; show = show; hide = hide; kind = kind; runs = runs }

-- a white letter A at the left of row 15
abbrev pub example_letter : List Run
example_letter = example_run colour.White 15 0 (65 ∷ []) ∷ []

-- a pop-on cue
abbrev pub pop : Chan → ℕ → ℕ → ℕ → Cue
pop channel load show hide = example_cue (kind.Pop channel) load show (Some hide) example_letter

-- a paint-on cue
abbrev pub paint : Chan → ℕ → ℕ → ℕ → Cue
paint channel load show hide = example_cue (kind.Paint channel) load show (Some hide) example_letter

-- a roll-up cue of this many rows
abbrev pub roll : Chan → ℕ → ℕ → ℕ → Option ℕ → Cue
roll channel rows load show hide = example_cue (kind.Roll channel rows) load show hide example_letter

-- a pop-on cue of the white letters AB, and a red C right after them
abbrev pub white_then_red : Cue
white_then_red = example_cue (kind.Pop chan.Cc1) 0 7 (Some 20)
    (example_run colour.White 15 0 (65 ∷ 66 ∷ []) ∷ example_run colour.Red 15 2 (67 ∷ []) ∷ [])

-- a list of 300 frames at 29.97 frames a second, where service 1 has a share
abbrev pub window_list : List Cue → Listing
window_list cues = record { rate = rate.F2997; frames = 300; shares = record { service = 1; bytes = 31 } ∷ []; cues = cues }

-- a cue in a window of service 1, with a DELAY in tenths of a second: ten of them are 30 frames
abbrev pub window : ℕ → ℕ → ℕ → ℕ → ℕ → Cue
window id load show hide tenths =
    example_cue (kind.Win (record {
      service = 1;
      id = id;
      delay = tenths;
      anchor = 0;
      av = 60;
      ah = 50;
      rows = 1;
      cols = 10;
      priority = 0;
      ws = 1;
      ps = 1;
      attr = None;
    })) load show (Some hide) (record { row = 0; col = 0; pen = pen.Dtv false false; text = 65 ∷ []; colors = None } ∷ [])

-- a fault
abbrev pub fault : Why → ℕ → Option ℕ → RuleFault
fault why cue other = record { why = why; cue = cue; other = other }
