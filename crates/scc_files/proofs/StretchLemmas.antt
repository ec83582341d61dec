-- The stretches of the written form are the longest ones; and calls of a writer put that form.
use Rattle.std.proofs.Common.{◌≡◌, ◌∙◌, ℕ, ◌+◌, ◌<◌, ◌≤◌, Bool, true, false, cond, nat_eq, refl, sym, ap, subst, arith, List, [], ◌∷◌, ◌++◌, append_assoc, append-nil}
use Rattle.std.proofs.lemmas.Bool.{eqb-true}
use Rattle.std.proofs.lemmas.Grind.{common_steps}
use Rattle.line21_codes.specs.declared.pairs.Pair.{Pair}
use Rattle.line21_codes.specs.NullPairs.{is_null}
use Rattle.scc_files.specs.Pieces.{text_from}
use Rattle.scc_files.specs.SccFiles.{AreRising, one_a_frame}
use Rattle.scc_files.specs.Stretches.{AreStretchesApart, AreLongest, CallsWrite, IsWritten, IsWriting, frame_behind, stretch_pairs}
use Rattle.scc_files.specs.Writing.{Standing, piece_of, stand_behind}
use Rattle.scc_files.specs.Written.{Stretch, pairs_not_null, stretches_of, stretches_with, written_file}
use Rattle.scc_files.proofs.PiecesLemmas.{stretch_from, text_written}

-- a loop of calls
one_more : (start : ℕ) (drop_frame : Bool) (before : List (ℕ × Pair)) (bytes : List ℕ) (w : Standing) (frame : ℕ) (pair : Pair)
    → IsWriting start drop_frame before bytes w
    → IsWriting start drop_frame (before ++ (frame, pair) ∷ []) (bytes ++ piece_of w frame pair) (stand_behind w frame pair)
one_more start drop_frame before bytes w frame pair writing rest =
    append_assoc bytes (piece_of w frame pair) (text_from (stand_behind w frame pair) rest)
    ∙ (writing ((frame, pair) ∷ rest) ∙ ap (written_file start drop_frame) (sym (append_assoc before ((frame, pair) ∷ []) rest)))

pub calls_write : CallsWrite
calls_write = record {
  begun = text_written;
  one_more = one_more;
  finished = λ start drop_frame pairs bytes w writing. writing [] ∙ ap (written_file start drop_frame) (append-nil pairs);
}

-- the pairs of the stretches are a pair and the pairs of the stretches after it
with_by : (frame : ℕ) (pair : Pair) (stretch : Stretch) (stretches : List Stretch) (test : Bool) → nat_eq (frame + 1) stretch.frame ≡ test
    → stretch_pairs (stretches_with (frame, pair) (stretch ∷ stretches)) ≡ (frame, pair) ∷ stretch_pairs (stretch ∷ stretches)
with_by frame pair stretch stretches true is =
    let same : frame + 1 ≡ stretch.frame = eqb-true (frame + 1) stretch.frame is in
    rw is (ap (λ (n : ℕ). (frame, pair) ∷ (one_a_frame n (stretch.first ∷ stretch.more) ++ stretch_pairs stretches)) same)
with_by frame pair stretch stretches false is = rw is refl

pairs_with : (frame : ℕ) (pair : Pair) (stretches : List Stretch) → stretch_pairs (stretches_with (frame, pair) stretches) ≡ (frame, pair) ∷ stretch_pairs stretches
pairs_with frame pair [] = refl
pairs_with frame pair (stretch ∷ stretches) = with_by frame pair stretch stretches (nat_eq (frame + 1) stretch.frame) refl

pairs_by : (placed : ℕ × Pair) (pairs : List (ℕ × Pair)) → pairs_not_null pairs ≡ stretch_pairs (stretches_of pairs) → (test : Bool) → is_null placed.1 ≡ test
    → pairs_not_null (placed ∷ pairs) ≡ stretch_pairs (stretches_of (placed ∷ pairs))
pairs_by placed pairs same true is = rw is same
pairs_by placed pairs same false is =
    rw is (ap (λ (l : List (ℕ × Pair)). placed ∷ l) same ∙ sym (pairs_with placed.0 placed.1 (stretches_of pairs)))

pairs_are : (pairs : List (ℕ × Pair)) → pairs_not_null pairs ≡ stretch_pairs (stretches_of pairs)
pairs_are [] = refl
pairs_are (placed ∷ pairs) = pairs_by placed pairs (pairs_are pairs) (is_null placed.1) refl

-- stretches from a frame on that lie apart
abbrev LieApart : ℕ → List Stretch → Type 0
LieApart low [] = Unit {0}
LieApart low (stretch ∷ stretches) = (low ≤ stretch.frame) × AreStretchesApart (frame_behind stretch) stretches

lower : (stretches : List Stretch) (low more : ℕ) → low ≤ more → LieApart more stretches → LieApart low stretches
lower [] low more less are = tt
lower (stretch ∷ stretches) low more less (from, are) = (omega (arith, less, from), are)

later_frame : (frame next : ℕ) → frame ≤ next → nat_eq frame next ≡ false → frame < next
later_frame frame next low other = grind (arith, common_steps)

apart_by : (low frame : ℕ) (pair : Pair) (stretch : Stretch) (stretches : List Stretch) → low ≤ frame → LieApart (frame + 1) (stretch ∷ stretches) → (test : Bool)
    → nat_eq (frame + 1) stretch.frame ≡ test → LieApart low (stretches_with (frame, pair) (stretch ∷ stretches))
apart_by low frame pair stretch stretches from are true is =
    let same : frame + 1 ≡ stretch.frame = eqb-true (frame + 1) stretch.frame is in
    let end : frame_behind stretch ≡ frame_behind (stretch_from frame pair (stretch.first ∷ stretch.more)) = omega (arith, same) in
    let joined : LieApart low (stretch_from frame pair (stretch.first ∷ stretch.more) ∷ stretches) = (from, subst (λ (n : ℕ). AreStretchesApart n stretches) end are.1) in
    subst (λ (b : Bool). LieApart low (cond b (stretch_from frame pair (stretch.first ∷ stretch.more) ∷ stretches) (stretch_from frame pair [] ∷ stretch ∷ stretches)))
    (sym is) joined
apart_by low frame pair stretch stretches from are false is =
    let after : frame + 1 < stretch.frame = later_frame (frame + 1) stretch.frame are.0 is in
    let single : LieApart low (stretch_from frame pair [] ∷ stretch ∷ stretches) = (from, (omega (arith, after), are.1)) in
    subst (λ (b : Bool). LieApart low (cond b (stretch_from frame pair (stretch.first ∷ stretch.more) ∷ stretches) (stretch_from frame pair [] ∷ stretch ∷ stretches)))
    (sym is) single

apart_with : (low frame : ℕ) (pair : Pair) (stretches : List Stretch) → low ≤ frame → LieApart (frame + 1) stretches → LieApart low (stretches_with (frame, pair) stretches)
apart_with low frame pair [] from are = (from, tt)
apart_with low frame pair (stretch ∷ stretches) from are = apart_by low frame pair stretch stretches from are (nat_eq (frame + 1) stretch.frame) refl

apart_null : (low : ℕ) (placed : ℕ × Pair) (pairs : List (ℕ × Pair)) → low ≤ placed.0 → LieApart (placed.0 + 1) (stretches_of pairs) → (test : Bool)
    → is_null placed.1 ≡ test → LieApart low (stretches_of (placed ∷ pairs))
apart_null low placed pairs from ahead true is =
    subst (λ (b : Bool). LieApart low (cond b (stretches_of pairs) (stretches_with placed (stretches_of pairs)))) (sym is)
    (lower (stretches_of pairs) low (placed.0 + 1) (omega (arith, from)) ahead)
apart_null low placed pairs from ahead false is =
    subst (λ (b : Bool). LieApart low (cond b (stretches_of pairs) (stretches_with placed (stretches_of pairs)))) (sym is)
    (apart_with low placed.0 placed.1 (stretches_of pairs) from ahead)

lie_apart : (pairs : List (ℕ × Pair)) (low : ℕ) → AreRising low pairs → LieApart low (stretches_of pairs)
lie_apart [] low rising = tt
lie_apart (placed ∷ pairs) low (from, rising) = apart_null low placed pairs from (lie_apart pairs (placed.0 + 1) rising) (is_null placed.1) refl

longest : (stretches : List Stretch) (low : ℕ) → LieApart low stretches → AreLongest stretches
longest [] low are = tt
longest (stretch ∷ stretches) low are = are.1

pub written_is : (pairs : List (ℕ × Pair)) (start : ℕ) (drop_frame : Bool) → AreRising 0 pairs → IsWritten start drop_frame pairs (written_file start drop_frame pairs)
written_is pairs start drop_frame are = record {
  stretches = stretches_of pairs;
  are = pairs_are pairs;
  longest = longest (stretches_of pairs) 0 (lie_apart pairs 0 are);
  spelled = refl;
}
