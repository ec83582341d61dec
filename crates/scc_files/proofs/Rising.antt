-- The pairs of a file rise strictly, and are of bytes.
use Rattle.std.proofs.Common.{◌≡◌, ℕ, ◌+◌, ◌-◌, ◌*◌, ◌<◌, ◌≤◌, max, sym, ap, subst, arith, List, [], ◌∷◌, ◌++◌, length, Option, Some, None, unwrap_or}
use Rattle.std.proofs.lemmas.Grind.{common_steps}
use Rattle.line21_codes.specs.declared.pairs.Pair.{Pair}
use Rattle.time_codes.specs.Frames.{frame_number}
use Rattle.scc_files.specs.Lines.{AreLines, AreSpacedWords, IsPairWord, TimedLine}
use Rattle.hex_digits.specs.HexDigits.{hex_value}
use Rattle.scc_files.specs.SccFiles.{AreBytes, AreRising, IsSccFile, one_a_frame, placed_from}

pub rising_lower : (pairs : List (ℕ × Pair)) (low lower : ℕ) → lower ≤ low → AreRising low pairs → AreRising lower pairs
rising_lower [] low lower fewer are = tt
rising_lower (placed ∷ pairs) low lower fewer (high, rest) = (omega arith, rest)

pub stretch_rises : (pairs : List Pair) (frame : ℕ) (rest : List (ℕ × Pair)) → AreRising (frame + length pairs) rest → AreRising frame (one_a_frame frame pairs ++ rest)
stretch_rises [] frame rest are = rising_lower rest (frame + 0) frame (omega arith) are
stretch_rises (pair ∷ pairs) frame rest are =
    let count : frame + length (pair ∷ pairs) ≡ frame + 1 + length pairs = omega arith in
    (omega arith, stretch_rises pairs (frame + 1) rest (subst (λ n. AreRising n rest) count are))

pub placed_rise : (lines : List (Option TimedLine)) (start : Option ℕ) (next : ℕ) → AreRising next (placed_from start next lines)
placed_rise [] start next = tt
placed_rise (None ∷ lines) start next = placed_rise lines start next
placed_rise (Some line ∷ lines) start next =
    let first = unwrap_or start (frame_number line.time) in
    let frame = max (frame_number line.time - first) next in
    let more = placed_from (Some first) (frame + 1 + length line.more) lines in
    let count : frame + 1 + length line.more ≡ frame + length (line.first ∷ line.more) = omega arith in
    let rest : AreRising (frame + length (line.first ∷ line.more)) more =
    subst (λ n. AreRising n more) count (placed_rise lines (Some first) (frame + 1 + length line.more)) in
    rising_lower (one_a_frame frame (line.first ∷ line.more) ++ more) frame next (omega arith) (stretch_rises (line.first ∷ line.more) frame more rest)

pub file_rises : (opening : Option ℕ) (pairs : List (ℕ × Pair)) (bytes : List ℕ) → IsSccFile opening pairs bytes → AreRising 0 pairs
file_rises opening pairs bytes file = subst (AreRising 0) (sym file.placed) (placed_rise file.lines opening 0)

pub hex_small : (byte value : ℕ) → hex_value byte ≡ Some value → value < 16
hex_small byte value is = grind (arith, common_steps)

pub word_bytes : (pair : Pair) (bytes : List ℕ) → IsPairWord pair bytes → (pair.a < 256) × (pair.b < 256)
word_bytes pair bytes w =
    let p = hex_small w.a w.p w.a_is in
    let q = hex_small w.b w.q w.b_is in
    let r = hex_small w.c w.r w.c_is in
    let s = hex_small w.d w.s w.d_is in
    let a : pair.a ≡ 16 * w.p + w.q = ap (λ x. x.a) w.is in
    let b : pair.b ≡ 16 * w.r + w.s = ap (λ x. x.b) w.is in
    (omega (arith, p, q, a), omega (arith, r, s, b))

pub words_bytes : (pairs : List Pair) (bytes : List ℕ) (frame : ℕ) (rest : List (ℕ × Pair)) → AreSpacedWords pairs bytes → AreBytes rest → AreBytes (one_a_frame frame pairs ++ rest)
words_bytes [] bytes frame rest are more = more
words_bytes (pair ∷ pairs) bytes frame rest (spaces, word, left, are_spaces, is_word, are_words, spelled) more =
    let (a, b) = word_bytes pair word is_word in
    (a, b, words_bytes pairs left (frame + 1) rest are_words more)

pub lines_bytes : (lines : List (Option TimedLine)) (bytes : List ℕ) (start : Option ℕ) (next : ℕ) → AreLines lines bytes → AreBytes (placed_from start next lines)
lines_bytes [] bytes start next are = tt
lines_bytes (None ∷ lines) bytes start next (end, spelled, rest, is_end, is_line, are, joined) = lines_bytes lines rest start next are
lines_bytes (Some line ∷ lines) bytes start next (end, spelled, rest, is_end, is_line, are, joined) =
    let first = unwrap_or start (frame_number line.time) in
    let frame = max (frame_number line.time - first) next in
    let (a, b) = word_bytes line.first is_line.word is_line.is_word in
    (a, b, words_bytes line.more is_line.words (frame + 1) _ is_line.are_words (lines_bytes lines rest (Some first) (frame + 1 + length line.more) are))

pub file_bytes : (opening : Option ℕ) (pairs : List (ℕ × Pair)) (bytes : List ℕ) → IsSccFile opening pairs bytes → AreBytes pairs
file_bytes opening pairs bytes file = subst AreBytes (sym file.placed) (lines_bytes file.lines file.form.rest opening 0 file.form.are_lines)
