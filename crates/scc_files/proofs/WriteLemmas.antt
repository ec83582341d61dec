-- Pieces that are put of a pair.
use Rattle.std.proofs.Common.{◌≡◌, ℕ, ◌+◌, Bool, true, false, cond, refl, ◌∙◌, ap, List, [], ◌∷◌, ◌++◌}
use Rattle.line21_codes.specs.declared.pairs.Pair.{Pair}
use Rattle.line21_codes.specs.NullPairs.{is_null}
use Rattle.time_codes.specs.Frames.{time_at}
use Rattle.time_codes.specs.Texts.{text_of}
use Rattle.scc_files.specs.Words.{pair_word}
use Rattle.scc_files.specs.Writing.{Standing, between, goes_on_with_stretch, piece_of}

pub chosen : (null on : Bool) (a b c : List ℕ) → null ≡ false → on ≡ false → c ≡ cond null a (cond on b c)
chosen true on a b c is off = absurd (cc)
chosen false true a b c is off = absurd (cc)
chosen false false a b c is off = refl

-- the first pair of a stretch
pub piece_is : (w : Standing) (frame : ℕ) (pair : Pair) (text word : List ℕ) → is_null pair ≡ false → goes_on_with_stretch w.behind frame ≡ false
    → text ≡ text_of (time_at (w.start + frame) w.drop_frame) → word ≡ pair_word pair
    → between w.behind ++ (text ++ (9 ∷ (word ++ []))) ≡ piece_of w frame pair
piece_is w frame pair text word shown apart time spelled =
    let whole : between w.behind ++ (text ++ (9 ∷ (word ++ []))) ≡ between w.behind ++ (text_of (time_at (w.start + frame) w.drop_frame) ++ (9 ∷ pair_word pair)) =
    ap (λ t. between w.behind ++ (t ++ (9 ∷ (word ++ [])))) time
    ∙ ap (λ u. between w.behind ++ (text_of (time_at (w.start + frame) w.drop_frame) ++ (9 ∷ (u ++ [])))) spelled in
    whole ∙ chosen (is_null pair) (goes_on_with_stretch w.behind frame) [] (32 ∷ pair_word pair)
    (between w.behind ++ (text_of (time_at (w.start + frame) w.drop_frame) ++ (9 ∷ pair_word pair))) shown apart
