-- Believed in part: the program's answer stands on some of these definitions.
-- The written form of pairs at their frames: each longest stretch of consecutive frames with a pair that isn't null is one line.
use Rattle.std.specs.Prelude.{◌≡◌, ℕ, ◌+◌, ◌-◌, ◌<◌, ◌≤◌, ◌==◌, ◌&&◌, Bool, false, not, nat_le, if◌then◌else◌, List, [], ◌∷◌, ◌++◌, codes, flat_map, ⊤}
use Rattle.std.specs.List.{join_by}
use Rattle.line21_codes.specs.declared.pairs.Pair.{Pair}
use Rattle.line21_codes.specs.NullPairs.{is_null}
use Rattle.time_codes.specs.Frames.{time_at}
use Rattle.time_codes.specs.Texts.{text_of}
use Rattle.time_codes.specs.TimeCodes.{day_frames}
use Rattle.scc_files.specs.Words.{pair_word}

-- the first line and an empty one
abbrev pub head_text : List ℕ
head_text = codes "Scenarist_SCC V1.0\n\n"

-- pairs on consecutive frames, the first of them on this frame
pub record Stretch : Type 0 where
  pub frame : ℕ
  pub first : Pair
  pub more : List Pair

-- a pair before stretches: it begins the first of them, if that is on the next frame, and else one of its own
abbrev pub stretches_with : ℕ × Pair → List Stretch → List Stretch
stretches_with placed [] = record { frame = placed.0; first = placed.1; more = [] } ∷ []
stretches_with placed (stretch ∷ stretches) =
    if placed.0 + 1 == stretch.frame
    then record { frame = placed.0; first = placed.1; more = stretch.first ∷ stretch.more } ∷ stretches
    else record { frame = placed.0; first = placed.1; more = [] } ∷ stretch ∷ stretches

-- the longest stretches of pairs, of which null ones don't count
abbrev pub stretches_of : List (ℕ × Pair) → List Stretch
stretches_of [] = []
stretches_of (placed ∷ pairs) = if is_null placed.1 then stretches_of pairs else stretches_with placed (stretches_of pairs)

-- the line of a stretch, where frame 0 is this frame of the day: the time code of its first frame, a TAB, and its words with a space
-- between
abbrev pub stretch_line : ℕ → Bool → Stretch → List ℕ
stretch_line start drop_frame stretch =
    text_of (time_at (start + stretch.frame) drop_frame) ++ (9 ∷ join_by pair_word (32 ∷ []) (stretch.first ∷ stretch.more))

-- a whole file of pairs: each line is ended, and an empty one follows it
abbrev pub written_file : ℕ → Bool → List (ℕ × Pair) → List ℕ
written_file start drop_frame pairs =
    head_text ++ flat_map (λ stretch. stretch_line start drop_frame stretch ++ (10 ∷ 10 ∷ [])) (stretches_of pairs)

-- the file without what ends it, the two line ends after its last line
abbrev pub written_front : ℕ → Bool → List (ℕ × Pair) → List ℕ
written_front start drop_frame pairs = head_text ++ join_by (stretch_line start drop_frame) (10 ∷ 10 ∷ []) (stretches_of pairs)

-- the pair isn't null and stands at or past the end of the day, where frame 0 is this frame of it
abbrev pub is_past_day : ℕ → Bool → ℕ → Pair → Bool
is_past_day start drop_frame frame pair = not (is_null pair) && nat_le (day_frames drop_frame) (start + frame)

-- the pairs that aren't null
abbrev pub pairs_not_null : List (ℕ × Pair) → List (ℕ × Pair)
pairs_not_null [] = []
pairs_not_null (placed ∷ pairs) = if is_null placed.1 then pairs_not_null pairs else placed ∷ pairs_not_null pairs

-- pairs with their frames counted from a frame, and from the first one's
abbrev pub counted_from : ℕ → List (ℕ × Pair) → List (ℕ × Pair)
counted_from first [] = []
counted_from first (placed ∷ pairs) = (placed.0 - first, placed.1) ∷ counted_from first pairs

abbrev pub counted : List (ℕ × Pair) → List (ℕ × Pair)
counted [] = []
counted (placed ∷ pairs) = counted_from placed.0 (placed ∷ pairs)

-- pairs of bytes at rising frames, none before this one, and none that isn't null past the day
abbrev pub AreWritable : ℕ → Bool → ℕ → List (ℕ × Pair) → Type 0
AreWritable start drop_frame low [] = ⊤
AreWritable start drop_frame low (placed ∷ pairs) =
    (low ≤ placed.0) × (placed.1.a < 256) × (placed.1.b < 256) × (is_past_day start drop_frame placed.0 placed.1 ≡ false)
    × AreWritable start drop_frame (placed.0 + 1) pairs
