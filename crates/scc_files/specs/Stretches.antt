-- Between crates: the program's answer stands on none of these definitions.
-- The stretches of the written form are the longest ones of the pairs that aren't null; and calls of a writer put that form.
use Rattle.std.specs.Prelude.{◌≡◌, ℕ, ◌+◌, ◌<◌, Bool, List, [], ◌∷◌, ◌++◌, flat_map, length, ⊤}
use Rattle.line21_codes.specs.declared.pairs.Pair.{Pair}
use Rattle.scc_files.specs.Pieces.{standing_first, text_from}
use Rattle.scc_files.specs.SccFiles.{one_a_frame}
use Rattle.scc_files.specs.Writing.{Standing, end_text, piece_of, stand_behind}
use Rattle.scc_files.specs.Written.{Stretch, head_text, pairs_not_null, stretch_line, written_file}

-- the pairs of stretches, each at its frame
abbrev pub stretch_pairs : List Stretch → List (ℕ × Pair)
stretch_pairs [] = []
stretch_pairs (stretch ∷ stretches) = one_a_frame stretch.frame (stretch.first ∷ stretch.more) ++ stretch_pairs stretches

-- the frame after a stretch
abbrev pub frame_behind : Stretch → ℕ
frame_behind stretch = stretch.frame + 1 + length stretch.more

-- each stretch is longest: between it and the next one there is a frame without a pair
abbrev pub AreStretchesApart : ℕ → List Stretch → Type 0
AreStretchesApart behind [] = ⊤
AreStretchesApart behind (stretch ∷ stretches) = (behind < stretch.frame) × AreStretchesApart (frame_behind stretch) stretches

abbrev pub AreLongest : List Stretch → Type 0
AreLongest [] = ⊤
AreLongest (stretch ∷ stretches) = AreStretchesApart (frame_behind stretch) stretches

-- the bytes are the written form of pairs: the first line, an empty one, and the lines of the longest stretches of those that aren't null,
-- each ended, and an empty one after each
pub record IsWritten (start : ℕ) (drop_frame : Bool) (pairs : List (ℕ × Pair)) (bytes : List ℕ) : Type 0 where
  pub stretches : List Stretch
  pub are : pairs_not_null pairs ≡ stretch_pairs stretches
  pub longest : AreLongest stretches
  pub spelled : bytes ≡ head_text ++ flat_map (λ stretch. stretch_line start drop_frame stretch ++ (10 ∷ 10 ∷ [])) stretches

-- what ends a file after its front: two line ends, if it has a line
abbrev pub ending : List Stretch → List ℕ
ending [] = []
ending (stretch ∷ stretches) = 10 ∷ 10 ∷ []

-- these bytes were put of pairs, and the writer stands so: whatever pairs follow, the file is whole with what is then put
abbrev pub IsWriting : ℕ → Bool → List (ℕ × Pair) → List ℕ → Standing → Type 0
IsWriting start drop_frame before bytes w =
    (rest : List (ℕ × Pair)) → bytes ++ text_from w rest ≡ written_file start drop_frame (before ++ rest)

-- `begin`, a call of `pair` more, and `finish` write the file
pub record CallsWrite : Type 0 where
  pub begun : (start : ℕ) (drop_frame : Bool) → IsWriting start drop_frame [] head_text (standing_first start drop_frame)
  pub one_more : (start : ℕ) (drop_frame : Bool) (before : List (ℕ × Pair)) (bytes : List ℕ) (w : Standing) (frame : ℕ) (pair : Pair)
      → IsWriting start drop_frame before bytes w
      → IsWriting start drop_frame (before ++ (frame, pair) ∷ []) (bytes ++ piece_of w frame pair) (stand_behind w frame pair)
  pub finished : (start : ℕ) (drop_frame : Bool) (pairs : List (ℕ × Pair)) (bytes : List ℕ) (w : Standing)
      → IsWriting start drop_frame pairs bytes w → bytes ++ end_text w.behind ≡ written_file start drop_frame pairs
