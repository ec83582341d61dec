-- Believed in part: the program's answer stands on some of these definitions.
-- Which bytes are an SCC file of which pairs at which frames.
use Rattle.std.specs.Prelude.{◌≡◌, ℕ, ◌+◌, ◌-◌, ◌<◌, ◌≤◌, max, List, [], ◌∷◌, ◌++◌, length, Option, Some, None, unwrap_or, Ok, ⊤}
use Rattle.line21_codes.specs.declared.pairs.Pair.{Pair}
use Rattle.time_codes.specs.Frames.{frame_number, frame_of}
use Rattle.scc_files.specs.Lines.{IsForm, TimedLine}

-- every line's time code is of the day, and none is before the previous line's, of this frame of the day
abbrev pub AreTimed : ℕ → List (Option TimedLine) → Type 0
AreTimed last [] = ⊤
AreTimed last (None ∷ lines) = AreTimed last lines
AreTimed last (Some line ∷ lines) = (frame : ℕ) × (frame_of line.time ≡ Ok frame) × (last ≤ frame) × AreTimed frame lines

-- pairs one a frame, from a frame on
abbrev pub one_a_frame : ℕ → List Pair → List (ℕ × Pair)
one_a_frame frame [] = []
one_a_frame frame (pair ∷ pairs) = (frame, pair) ∷ one_a_frame (frame + 1) pairs

-- the pairs of lines at their frames, counted from a frame of the day, `start`, or else from the first time code's: a line's first pair
-- stands at the line's frame, or at `next`, the frame after the last pair, whichever is later
abbrev pub placed_from : Option ℕ → ℕ → List (Option TimedLine) → List (ℕ × Pair)
placed_from start next [] = []
placed_from start next (None ∷ lines) = placed_from start next lines
placed_from start next (Some line ∷ lines) =
    let first = unwrap_or start (frame_number line.time) in
    let frame = max (frame_number line.time - first) next in
    one_a_frame frame (line.first ∷ line.more) ++ placed_from (Some first) (frame + 1 + length line.more) lines

-- the bytes are an SCC file of the pairs. Frame 0 is at `opening`, a frame of the day before which no line stands; where none is given, it
-- is at the first line's time code
pub record IsSccFile (opening : Option ℕ) (pairs : List (ℕ × Pair)) (bytes : List ℕ) : Type 0 where
  pub lines : List (Option TimedLine)
  pub form : IsForm lines bytes
  pub timed : AreTimed (unwrap_or opening 0) lines
  pub placed : pairs ≡ placed_from opening 0 lines

-- pairs at frames that rise strictly, none before this one
abbrev pub AreRising : ℕ → List (ℕ × Pair) → Type 0
AreRising low [] = ⊤
AreRising low (placed ∷ pairs) = (low ≤ placed.0) × AreRising (placed.0 + 1) pairs

-- pairs of two bytes each
abbrev pub AreBytes : List (ℕ × Pair) → Type 0
AreBytes [] = ⊤
AreBytes (placed ∷ pairs) = (placed.1.a < 256) × (placed.1.b < 256) × AreBytes pairs
