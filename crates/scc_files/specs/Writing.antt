-- Between crates: the program's answer stands on none of these definitions.
-- How pairs are written as an SCC file, call by call.
use Rattle.std.specs.Prelude.{◌≡◌, ℕ, ◌+◌, ◌==◌, Bool, true, false, if◌then◌else◌, List, [], ◌∷◌, ◌++◌, Option, Some, None, Result, Ok, Err}
use Rattle.cc_base.specs.Streams.{PutCause, Puts}
use Rattle.cc_base.specs.declared.streams.Put.{Put}
use Rattle.cc_base.specs.declared.streams.Put.TheVariants as put
use Rattle.line21_codes.specs.declared.pairs.Pair.{Pair}
use Rattle.line21_codes.specs.NullPairs.{is_null}
use Rattle.time_codes.specs.Frames.{frame_of, time_at}
use Rattle.time_codes.specs.Texts.{text_of}
use Rattle.time_codes.specs.declared.time_code.TimeCode.{TimeCode}
use Rattle.scc_files.specs.Words.{pair_word}
use Rattle.scc_files.specs.Written.{head_text, is_past_day}
use Rattle.scc_files.specs.declared.writer.SccPut.{SccPut}
use Rattle.scc_files.specs.declared.writer.SccPut.TheVariants as scc_put
use Rattle.scc_files.specs.declared.writer.SccWriter.{SccWriter}

-- where a writer stands: the frame of the day of frame 0, whether its day counts with drop frame, and the frame after the last pair
-- that was put
pub record Standing : Type 0 where
  pub start : ℕ
  pub drop_frame : Bool
  pub behind : Option ℕ

abbrev pub standing_of : SccWriter → Standing
standing_of w = record { start = w.start; drop_frame = w.drop_frame; behind = w.behind }

-- what stands between the stretch before and a new one
abbrev pub between : Option ℕ → List ℕ
between None = []
between (Some behind) = 10 ∷ 10 ∷ []

-- a pair on the frame after the last one continues with its stretch
abbrev pub goes_on_with_stretch : Option ℕ → ℕ → Bool
goes_on_with_stretch None frame = false
goes_on_with_stretch (Some behind) frame = behind == frame

-- the text that is written of a pair. Of a null pair it is nothing, where its stretch goes on a space and the word, and else the end
-- of the stretch before, the time code, a TAB and the word
abbrev pub piece_of : Standing → ℕ → Pair → List ℕ
piece_of w frame pair =
    if is_null pair then []
    else if goes_on_with_stretch w.behind frame then 32 ∷ pair_word pair
    else between w.behind ++ (text_of (time_at (w.start + frame) w.drop_frame) ++ (9 ∷ pair_word pair))

-- where a writer follows a pair
abbrev pub stand_behind : Standing → ℕ → Pair → Standing
stand_behind w frame pair = if is_null pair then w else record w { behind = Some (frame + 1) }

-- a writer before all pairs
abbrev pub StandsFirst : TimeCode → SccWriter → Type 0
StandsFirst start w = (frame_of start ≡ Ok w.start) × (w.drop_frame ≡ start.drop_frame) × (w.behind ≡ None)

-- what is to be put of a pair is given, or that it stands past the day
abbrev pub GivesPiece : Standing → Standing → ℕ → Pair → Option (List ℕ) → Type 0
GivesPiece w v frame pair (Some piece) =
    (is_past_day w.start w.drop_frame frame pair ≡ false) × (piece ≡ piece_of w frame pair) × (v ≡ stand_behind w frame pair)
GivesPiece w v frame pair None = (is_past_day w.start w.drop_frame frame pair ≡ true) × (v ≡ w)

-- a piece was put, or a front of it where the sink failed
abbrev pub PutsPieceOrFails : Option (List ℕ) → Option (List ℕ) → ℕ → ℕ → Put → List ℕ → Type 0
PutsPieceOrFails old new before now answer piece = Puts old new answer piece × PutCause before now answer

-- a writer begins
abbrev pub BeginsWriting : TimeCode → Option (List ℕ) → Option (List ℕ) → ℕ → ℕ → Result SccWriter SccPut → Type 0
BeginsWriting start old new before now (Ok w) =
    PutsPieceOrFails old new before now put.Done head_text × StandsFirst start w
BeginsWriting start old new before now (Err scc_put.Fault) = PutsPieceOrFails old new before now put.Failed head_text
BeginsWriting start old new before now (Err scc_put.Day) = ⊥

-- it writes a pair
abbrev pub WritesPair : Standing → Standing → ℕ → Pair → Option (List ℕ) → Option (List ℕ) → ℕ → ℕ → Result (Unit {0}) SccPut → Type 0
WritesPair w v frame pair old new before now (Ok _) =
    (is_past_day w.start w.drop_frame frame pair ≡ false) × PutsPieceOrFails old new before now put.Done (piece_of w frame pair) × (v ≡ stand_behind w frame pair)
WritesPair w v frame pair old new before now (Err scc_put.Fault) =
    (is_past_day w.start w.drop_frame frame pair ≡ false) × PutsPieceOrFails old new before now put.Failed (piece_of w frame pair)
WritesPair w v frame pair old new before now (Err scc_put.Day) = (is_past_day w.start w.drop_frame frame pair ≡ true) × (new ≡ old) × (now ≡ before) × (v ≡ w)

-- what ends a file
abbrev pub end_text : Option ℕ → List ℕ
end_text None = []
end_text (Some behind) = 10 ∷ 10 ∷ []

-- it ends the file
abbrev pub FinishesWriting : Standing → Option (List ℕ) → Option (List ℕ) → ℕ → ℕ → Result (Unit {0}) SccPut → Type 0
FinishesWriting w old new before now (Ok _) = PutsPieceOrFails old new before now put.Done (end_text w.behind)
FinishesWriting w old new before now (Err scc_put.Fault) = PutsPieceOrFails old new before now put.Failed (end_text w.behind)
FinishesWriting w old new before now (Err scc_put.Day) = ⊥
