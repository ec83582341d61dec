-- Lines on their way to a sink: what is put, what is held, and what is to come.
use Rattle.std.proofs.Common.{◌≡◌, ◌++◌, ◌+◌, refl, ℕ, List, Option, add-one}
use Rattle.cc_base.specs.Streams.{Puts}
use Rattle.cc_base.specs.declared.streams.Put.{Put}
use Rattle.cc_base.specs.declared.streams.Put.TheVariants as put
use Rattle.frame_carrier.specs.Columns.{Columns}
use Rattle.frame_carrier.specs.FrameBytes.{FrameBytes}
use Rattle.frame_carrier.proofs.OnTheWay.{IsOnTheWay, piece_gathered, way_ended, way_failed}
use Rattle.text_output.specs.Gathered.{Flushes, Gathers}
use Rattle.cue_list_commands.specs.Lines.{pair_line, pair_lines}

-- the lines of columns are on their way: the earlier frames' lines are put or held, and these frames, of which this many are left, give the others
abbrev pub LinesOnTheWay : {F : Type 0} → (F → ℕ) → (Columns → ℕ → F → Type 0) → Columns → Option (List ℕ) → Option (List ℕ) → List ℕ → F → List ℕ → Type 0
LinesOnTheWay {F} left Gives columns old new held frames all =
    (frame : ℕ) × Gives columns frame frames × IsOnTheWay old new (held ++ pair_lines columns frame (left frames)) all

-- the line of a frame more was added
pub line_added : {F : Type 0} (left : F → ℕ) (Gives : Columns → ℕ → F → Type 0) (columns : Columns) (a b c : Option (List ℕ)) (before after line all : List ℕ) (old new : F) (pairs : FrameBytes)
    → LinesOnTheWay left Gives columns a b before old all → left new + 1 ≡ left old
    → ((columns : Columns) (frame : ℕ) → Gives columns frame old → (pairs ≡ columns frame) × Gives columns (frame + 1) new)
    → line ≡ pair_line pairs.one pairs.two → Gathers b c before after put.Done line → LinesOnTheWay left Gives columns a c after new all
line_added left Gives columns a b c before after line all old new pairs (frame, gives, way) fewer next line_is gathered =
    let (pairs_is, more) = next columns frame gives in
    let lines : pair_lines columns frame (left old) ≡ line ++ pair_lines columns (frame + 1) (left new) =
    rw (← fewer, add-one (left new), add-one frame, line_is, pairs_is) refl in
    (frame + 1, more, piece_gathered a b c before after line _ all (rw lines at way) gathered)

-- a put of what is held failed
pub lines_failed : {F : Type 0} (left : F → ℕ) (Gives : Columns → ℕ → F → Type 0) (columns : Columns) (a b c : Option (List ℕ)) (held all : List ℕ) (frames : F)
    → LinesOnTheWay left Gives columns a b held frames all → Puts b c put.Failed held → Puts a c put.Failed all
lines_failed left Gives columns a b c held all frames (frame, gives, way) failed = way_failed a b c held _ all way failed

-- what is held is put, and no frame is left
pub lines_ended : {F : Type 0} (left : F → ℕ) (Gives : Columns → ℕ → F → Type 0) (columns : Columns) (a b c : Option (List ℕ)) (r : Put) (held after all : List ℕ) (frames : F)
    → LinesOnTheWay left Gives columns a b held frames all → left frames ≡ 0 → Flushes b c held after r → Puts a c r all
lines_ended left Gives columns a b c r held after all frames (frame, gives, way) none last =
    way_ended a b c r held after all (rw none at way) last
