-- What is written is an SCC file, of the pairs that aren't null.
use Rattle.std.proofs.Common.{◌≡◌, ℕ, ◌+◌, ◌-◌, ◌*◌, ◌/◌, ◌%◌, ◌<◌, ◌≤◌, Bool, true, false, cond, not, nat_eq, nat_le, max, refl, sym, ◌∙◌, ap, subst, arith, List, [], ◌∷◌, ◌++◌, length, Option, Some, None, unwrap_or, Ok, inl}
use Rattle.std.specs.Prelude.{◌&&◌}
use Rattle.std.proofs.lemmas.Bool.{eqb-true}
use Rattle.std.proofs.lemmas.Grind.{common_steps}
use Rattle.line21_codes.specs.declared.pairs.Pair.{Pair}
use Rattle.line21_codes.specs.NullPairs.{is_null}
use Rattle.time_codes.specs.Frames.{frame_number, frame_of, time_at}
use Rattle.time_codes.specs.Texts.{HasTwoDigits, text_of}
use Rattle.time_codes.specs.TimeCodes.{day_frames}
use Rattle.scc_files.specs.Lines.{AreLines, AreSpacedWords, IsPairWord, IsTimedLine, TimedLine}
use Rattle.hex_digits.specs.HexDigits.{hex_value, lower_hex_digit}
use Rattle.scc_files.specs.SccFiles.{AreTimed, IsSccFile, one_a_frame, placed_from}
use Rattle.scc_files.specs.Words.{pair_word}
use Rattle.scc_files.specs.Writing.{Standing, between}
use Rattle.scc_files.specs.Pieces.{standing_first, text_from}
use Rattle.scc_files.specs.Written.{AreWritable, counted, counted_from, head_text, pairs_not_null, written_file}
use Rattle.scc_files.proofs.Complete.{number_is}
use Rattle.scc_files.proofs.PiecesLemmas.{text_written}

-- a frame of the day has a time code, whose numbers have two digits
pub time_of_drop : (frame : ℕ) → frame < 2589408 → frame_of (time_at frame true) ≡ Ok frame
time_of_drop frame within = grind (arith, common_steps)

pub time_of_non_drop : (frame : ℕ) → frame < 2592000 → frame_of (time_at frame false) ≡ Ok frame
time_of_non_drop frame within = grind (arith, common_steps)

pub time_named : (frame : ℕ) (drop_frame : Bool) → frame < day_frames drop_frame → frame_of (time_at frame drop_frame) ≡ Ok frame
time_named frame true within = time_of_drop frame within
time_named frame false within = time_of_non_drop frame within

pub time_spelled : (frame : ℕ) (drop_frame : Bool) → frame < day_frames drop_frame → HasTwoDigits (time_at frame drop_frame)
time_spelled frame true within = record { h = omega arith; m = omega arith; s = omega arith; f = omega arith }
time_spelled frame false within = record { h = omega arith; m = omega arith; s = omega arith; f = omega arith }

pub hex_again : (value : ℕ) → value < 16 → hex_value (lower_hex_digit value) ≡ Some value
hex_again value small = grind (arith, common_steps)

abbrev pub pair_of : ℕ → ℕ → Pair
pair_of a b = record { a = a; b = b }

pub same_pair : (a b c d : ℕ) → a ≡ c → b ≡ d → pair_of a b ≡ pair_of c d
same_pair a b c d first second = ap (λ x. pair_of x b) first ∙ ap (λ x. pair_of c x) second

pub word_is : (pair : Pair) → pair.a < 256 → pair.b < 256 → IsPairWord pair (pair_word pair)
word_is pair a_fits b_fits =
    let first : pair.a ≡ 16 * (pair.a / 16) + pair.a % 16 = omega arith in
    let second : pair.b ≡ 16 * (pair.b / 16) + pair.b % 16 = omega arith in
    record {
      a = lower_hex_digit (pair.a / 16);
      b = lower_hex_digit (pair.a % 16);
      c = lower_hex_digit (pair.b / 16);
      d = lower_hex_digit (pair.b % 16);
      p = pair.a / 16;
      q = pair.a % 16;
      r = pair.b / 16;
      s = pair.b % 16;
      spelled = refl;
      a_is = hex_again (pair.a / 16) (omega arith);
      b_is = hex_again (pair.a % 16) (omega arith);
      c_is = hex_again (pair.b / 16) (omega arith);
      d_is = hex_again (pair.b % 16) (omega arith);
      is = same_pair pair.a pair.b _ _ first second;
    }

-- a pair that is put stands within the day
pub below : (day at : ℕ) → nat_le day at ≡ false → at < day
below day at is = grind (arith, common_steps)

pub of_day : (null : Bool) (day at : ℕ) → null ≡ false → (not null && nat_le day at) ≡ false → at < day
of_day true day at shown is = absurd (cc)
of_day false day at shown is = below day at is

-- the rest of a file, after a word
pub record Within (start first behind : ℕ) (text : List ℕ) (left : List (ℕ × Pair)) : Type 0 where
  pub ps : List Pair
  pub words : List ℕ
  pub rest : List ℕ
  pub lines : List (Option TimedLine)
  pub is : text ≡ words ++ rest
  pub are_words : AreSpacedWords ps words
  pub are_lines : AreLines lines rest
  pub timed : (last : ℕ) → last ≤ start + behind → AreTimed last lines
  pub placed : counted_from first left ≡ one_a_frame (behind - first) ps ++ placed_from (Some (start + first)) (behind - first + length ps) lines

-- a line of a pair and those that continue with its stretch
pub line_is : (start : ℕ) (drop_frame : Bool) (frame : ℕ) (pair : Pair) (ps : List Pair) (words : List ℕ) → pair.a < 256 → pair.b < 256 → start + frame < day_frames drop_frame
    → AreSpacedWords ps words
    → IsTimedLine (record { time = time_at (start + frame) drop_frame; first = pair; more = ps })
    (text_of (time_at (start + frame) drop_frame) ++ (9 ∷ ([] ++ (pair_word pair ++ words))))
line_is start drop_frame frame pair ps words a_fits b_fits within are = record {
  text = text_of (time_at (start + frame) drop_frame);
  blank = 9;
  blanks = [];
  word = pair_word pair;
  words = words;
  is_text = record { digits = time_spelled (start + frame) drop_frame within; spelled = refl };
  is_blank_byte = refl;
  are_blanks = tt;
  is_word = word_is pair a_fits b_fits;
  are_words = are;
  spelled = refl;
}

-- a new line, where pairs stood before
pub next_line : (start first behind frame : ℕ) (drop_frame : Bool) (pair : Pair) (text : List ℕ) (left : List (ℕ × Pair)) → first ≤ behind → behind ≤ frame
    → pair.a < 256 → pair.b < 256 → start + frame < day_frames drop_frame → Within start first (frame + 1) text left
    → Within start first behind (10 ∷ 10 ∷ (text_of (time_at (start + frame) drop_frame) ++ (9 ∷ (pair_word pair ++ text)))) ((frame, pair) ∷ left)
next_line start first behind frame drop_frame pair text left low high a_fits b_fits day w =
    let t = time_at (start + frame) drop_frame in
    let named : frame_of t ≡ Ok (start + frame) = time_named (start + frame) drop_frame day in
    let number : frame_number t ≡ start + frame = number_is t (start + frame) named in
    let line : TimedLine = record { time = t; first = pair; more = w.ps } in
    let spelled = text_of t ++ (9 ∷ ([] ++ (pair_word pair ++ w.words))) in
    let at : max (start + frame - (start + first)) (behind - first + 0) ≡ frame - first = omega arith in
    let next : frame + 1 - first ≡ frame - first + 1 = omega arith in
    let count : frame + 1 - first + length w.ps ≡ frame - first + 1 + length w.ps = omega arith in
    record {
      ps = [];
      words = [];
      rest = 10 ∷ 10 ∷ (spelled ++ w.rest);
      lines = None ∷ Some line ∷ w.lines;
      is = ap (λ z. 10 ∷ 10 ∷ (text_of t ++ (9 ∷ (pair_word pair ++ z)))) w.is;
      are_words = tt;
      are_lines = (
        10 ∷ [],
        [],
        10 ∷ (spelled ++ w.rest),
        inl refl,
        tt,
        (10 ∷ [], spelled, w.rest, inl refl, line_is start drop_frame frame pair w.ps w.words a_fits b_fits day w.are_words, w.are_lines, refl),
        refl,
      );
      timed = λ last early. (start + frame, named, omega arith, w.timed (start + frame) (omega arith));
      placed =
          ap (λ z. (frame - first, pair) ∷ z) (w.placed ∙ (ap (λ n. one_a_frame n w.ps ++ placed_from (Some (start + first)) (frame + 1 - first + length w.ps) w.lines) next
          ∙ ap (λ n. one_a_frame (frame - first + 1) w.ps ++ placed_from (Some (start + first)) n w.lines) count))
          ∙ (ap (λ n. one_a_frame n (pair ∷ w.ps) ++ placed_from (Some (start + first)) (n + 1 + length w.ps) w.lines) (sym at)
          ∙ ap (λ f. one_a_frame (max (f - (start + first)) (behind - first + 0)) (pair ∷ w.ps)
          ++ placed_from (Some (start + first)) (max (f - (start + first)) (behind - first + 0) + 1 + length w.ps) w.lines) (sym number));
    }

-- a further word of a line
pub next_word : (start first behind : ℕ) (pair : Pair) (text : List ℕ) (left : List (ℕ × Pair)) → first ≤ behind → pair.a < 256 → pair.b < 256
    → Within start first (behind + 1) text left → Within start first behind (32 ∷ (pair_word pair ++ text)) ((behind, pair) ∷ left)
next_word start first behind pair text left low a_fits b_fits w =
    let next : behind + 1 - first ≡ behind - first + 1 = omega arith in
    let count : behind + 1 - first + length w.ps ≡ behind - first + length (pair ∷ w.ps) = omega arith in
    record {
      ps = pair ∷ w.ps;
      words = 32 ∷ (pair_word pair ++ w.words);
      rest = w.rest;
      lines = w.lines;
      is = ap (λ z. 32 ∷ (pair_word pair ++ z)) w.is;
      are_words = ([], pair_word pair, w.words, tt, word_is pair a_fits b_fits, w.are_words, refl);
      are_lines = w.are_lines;
      timed = λ last early. w.timed last (omega arith);
      placed = ap (λ z. (behind - first, pair) ∷ z) (w.placed ∙ (ap (λ n. one_a_frame n w.ps ++ placed_from (Some (start + first)) (behind + 1 - first + length w.ps) w.lines) next
          ∙ ap (λ n. one_a_frame (behind - first + 1) w.ps ++ placed_from (Some (start + first)) n w.lines) count));
    }

-- the end of a file
pub no_more : (start first behind : ℕ) → Within start first behind (10 ∷ 10 ∷ []) []
no_more start first behind = record {
  ps = [];
  words = [];
  rest = 10 ∷ 10 ∷ [];
  lines = None ∷ None ∷ [];
  is = refl;
  are_words = tt;
  are_lines = (10 ∷ [], [], 10 ∷ [], inl refl, tt, (10 ∷ [], [], [], inl refl, tt, refl, refl), refl);
  timed = λ last early. tt;
  placed = refl;
}

pub writable_lower : (start : ℕ) (drop_frame : Bool) (low lower : ℕ) (pairs : List (ℕ × Pair)) → lower ≤ low → AreWritable start drop_frame low pairs → AreWritable start drop_frame lower pairs
writable_lower start drop_frame low lower [] fewer are = tt
writable_lower start drop_frame low lower (placed ∷ pairs) fewer (l, a, b, day, rest) = (omega arith, a, b, day, rest)

pub within : (pairs : List (ℕ × Pair)) (start first behind : ℕ) (drop_frame : Bool) → first ≤ behind → AreWritable start drop_frame behind pairs
    → Within start first behind (text_from (record { start = start; drop_frame = drop_frame; behind = Some behind }) pairs) (pairs_not_null pairs)
within [] start first behind drop_frame low are = no_more start first behind
within (placed ∷ pairs) start first behind drop_frame low (high, a_fits, b_fits, day, rest) =
    let frame = placed.0 in
    let pair = placed.1 in
    let w : Standing = record { start = start; drop_frame = drop_frame; behind = Some behind } in
    let v : Standing = record { start = start; drop_frame = drop_frame; behind = Some (frame + 1) } in
    let new = between (Some behind) ++ (text_of (time_at (start + frame) drop_frame) ++ (9 ∷ pair_word pair)) in
    let by_goes : (g : Bool) → nat_eq behind frame ≡ g → is_null pair ≡ false
    → Within start first behind (cond g (32 ∷ pair_word pair) new ++ text_from v pairs) ((frame, pair) ∷ pairs_not_null pairs) =
    elim [
      | true ↦ λ e n.
          let same : behind ≡ frame = eqb-true behind frame e in
          let next = within pairs start first (frame + 1) drop_frame (omega arith) rest in
          subst (λ (b : ℕ). Within start first b (32 ∷ (pair_word pair ++ text_from v pairs)) ((frame, pair) ∷ pairs_not_null pairs)) (sym same)
          (next_word start first frame pair (text_from v pairs) (pairs_not_null pairs) (omega arith) a_fits b_fits next)
      | false ↦ λ e n.
          let next = within pairs start first (frame + 1) drop_frame (omega arith) rest in
          next_line start first behind frame drop_frame pair (text_from v pairs) (pairs_not_null pairs) low high a_fits b_fits
          (of_day (is_null pair) (day_frames drop_frame) (start + frame) n day) next
    ] in
    let by_null : (n : Bool) → is_null pair ≡ n
    → Within start first behind (cond n [] (cond (nat_eq behind frame) (32 ∷ pair_word pair) new) ++ text_from (cond n w v) pairs)
    (cond n (pairs_not_null pairs) ((frame, pair) ∷ pairs_not_null pairs)) =
    elim [
      | true ↦ λ n. within pairs start first behind drop_frame low (writable_lower start drop_frame (frame + 1) behind pairs (omega arith) rest)
      | false ↦ λ n. by_goes (nat_eq behind frame) refl n
    ] in
    by_null (is_null pair) refl

-- pairs counted from 0 stand as they are
pub counted_zero : (pairs : List (ℕ × Pair)) → pairs ≡ counted_from 0 pairs
counted_zero [] = refl
counted_zero (placed ∷ pairs) =
    let same : placed.0 ≡ placed.0 - 0 = omega arith in
    ap (λ z. placed ∷ z) (counted_zero pairs) ∙ ap (λ n. (n, placed.1) ∷ counted_from 0 pairs) same

-- before any stretch
pub record Before (opening : Option ℕ) (text : List ℕ) (out : List (ℕ × Pair)) : Type 0 where
  pub lines : List (Option TimedLine)
  pub are_lines : AreLines lines (10 ∷ 10 ∷ text)
  pub timed : AreTimed (unwrap_or opening 0) lines
  pub placed : out ≡ placed_from opening 0 lines

-- with frame 0 at the first line, and at its own frame of the day
pub record Befores (start : ℕ) (text : List ℕ) (left : List (ℕ × Pair)) : Type 0 where
  pub by_line : Before None text (counted left)
  pub by_start : Before (Some start) text left

pub first_line : (start frame : ℕ) (drop_frame : Bool) (pair : Pair) (text : List ℕ) (left : List (ℕ × Pair))
    → pair.a < 256 → pair.b < 256 → start + frame < day_frames drop_frame → Within start frame (frame + 1) text left
    → Before None (text_of (time_at (start + frame) drop_frame) ++ (9 ∷ (pair_word pair ++ text))) (counted ((frame, pair) ∷ left))
first_line start frame drop_frame pair text left a_fits b_fits day w =
    let t = time_at (start + frame) drop_frame in
    let named : frame_of t ≡ Ok (start + frame) = time_named (start + frame) drop_frame day in
    let number : frame_number t ≡ start + frame = number_is t (start + frame) named in
    let line : TimedLine = record { time = t; first = pair; more = w.ps } in
    let spelled = text_of t ++ (9 ∷ ([] ++ (pair_word pair ++ w.words))) in
    let at : max (start + frame - (start + frame)) 0 ≡ frame - frame = omega arith in
    let next : frame + 1 - frame ≡ frame - frame + 1 = omega arith in
    let count : frame + 1 - frame + length w.ps ≡ frame - frame + 1 + length w.ps = omega arith in
    record {
      lines = None ∷ Some line ∷ w.lines;
      are_lines = (
        10 ∷ [],
        [],
        10 ∷ (spelled ++ w.rest),
        inl refl,
        tt,
        (10 ∷ [], spelled, w.rest, inl refl, line_is start drop_frame frame pair w.ps w.words a_fits b_fits day w.are_words, w.are_lines, refl),
        ap (λ z. 10 ∷ 10 ∷ (text_of t ++ (9 ∷ (pair_word pair ++ z)))) w.is,
      );
      timed = (start + frame, named, omega arith, w.timed (start + frame) (omega arith));
      placed =
          ap (λ z. (frame - frame, pair) ∷ z) (w.placed ∙ (ap (λ n. one_a_frame n w.ps ++ placed_from (Some (start + frame)) (frame + 1 - frame + length w.ps) w.lines) next
          ∙ ap (λ n. one_a_frame (frame - frame + 1) w.ps ++ placed_from (Some (start + frame)) n w.lines) count))
          ∙ (ap (λ n. one_a_frame n (pair ∷ w.ps) ++ placed_from (Some (start + frame)) (n + 1 + length w.ps) w.lines) (sym at)
          ∙ ap (λ f. one_a_frame (max (f - f) 0) (pair ∷ w.ps) ++ placed_from (Some f) (max (f - f) 0 + 1 + length w.ps) w.lines) (sym number));
    }

pub first_from_start : (start frame : ℕ) (drop_frame : Bool) (pair : Pair) (text : List ℕ) (left : List (ℕ × Pair))
    → pair.a < 256 → pair.b < 256 → start + frame < day_frames drop_frame → Within start 0 (frame + 1) text left
    → Before (Some start) (text_of (time_at (start + frame) drop_frame) ++ (9 ∷ (pair_word pair ++ text))) ((frame, pair) ∷ left)
unfolding next_line
first_from_start start frame drop_frame pair text left a_fits b_fits day w =
    let t = time_at (start + frame) drop_frame in
    let line = next_line start 0 0 frame drop_frame pair text left (omega arith) (omega arith) a_fits b_fits day w in
    let here : start + 0 ≡ start = omega arith in
    record {
      lines = line.lines;
      are_lines = subst (AreLines line.lines) (sym line.is) line.are_lines;
      timed = line.timed start (omega arith);
      placed = counted_zero ((frame, pair) ∷ left) ∙ (line.placed ∙ ap (λ n. placed_from (Some n) 0 line.lines) here);
    }

pub before : (pairs : List (ℕ × Pair)) (start low : ℕ) (drop_frame : Bool) → AreWritable start drop_frame low pairs
    → Befores start (text_from (record { start = start; drop_frame = drop_frame; behind = None }) pairs) (pairs_not_null pairs)
before [] start low drop_frame are = record {
  by_line = record {
    lines = None ∷ None ∷ [];
    are_lines = (10 ∷ [], [], 10 ∷ [], inl refl, tt, (10 ∷ [], [], [], inl refl, tt, refl, refl), refl);
    timed = tt;
    placed = refl;
  };
  by_start = record {
    lines = None ∷ None ∷ [];
    are_lines = (10 ∷ [], [], 10 ∷ [], inl refl, tt, (10 ∷ [], [], [], inl refl, tt, refl, refl), refl);
    timed = tt;
    placed = refl;
  };
}
before (placed ∷ pairs) start low drop_frame (high, a_fits, b_fits, day, rest) =
    let frame = placed.0 in
    let pair = placed.1 in
    let w : Standing = record { start = start; drop_frame = drop_frame; behind = None } in
    let v : Standing = record { start = start; drop_frame = drop_frame; behind = Some (frame + 1) } in
    let by_null : (n : Bool) → is_null pair ≡ n
    → Befores start (cond n [] (text_of (time_at (start + frame) drop_frame) ++ (9 ∷ pair_word pair)) ++ text_from (cond n w v) pairs)
    (cond n (pairs_not_null pairs) ((frame, pair) ∷ pairs_not_null pairs)) =
    elim [
      | true ↦ λ n. before pairs start (frame + 1) drop_frame rest
      | false ↦ λ n.
          let shown = of_day (is_null pair) (day_frames drop_frame) (start + frame) n day in
          record {
            by_line = first_line start frame drop_frame pair (text_from v pairs) (pairs_not_null pairs) a_fits b_fits shown
                (within pairs start frame (frame + 1) drop_frame (omega arith) rest);
            by_start = first_from_start start frame drop_frame pair (text_from v pairs) (pairs_not_null pairs) a_fits b_fits shown
                (within pairs start 0 (frame + 1) drop_frame (omega arith) rest);
          }
    ] in
    by_null (is_null pair) refl

pub text_is_file : (opening : Option ℕ) (out pairs : List (ℕ × Pair)) (start : ℕ) (drop_frame : Bool)
    → Before opening (text_from (standing_first start drop_frame) pairs) out → IsSccFile opening out (written_file start drop_frame pairs)
text_is_file opening out pairs start drop_frame b =
    subst (IsSccFile opening out) (text_written start drop_frame pairs) (record {
      lines = b.lines;
      form = record { spaces = []; rest = 10 ∷ 10 ∷ text_from (standing_first start drop_frame) pairs; are_spaces = tt; are_lines = b.are_lines; spelled = refl };
      timed = b.timed;
      placed = b.placed;
    })

pub written_is_file : (pairs : List (ℕ × Pair)) (start : ℕ) (drop_frame : Bool) → AreWritable start drop_frame 0 pairs
    → IsSccFile None (counted (pairs_not_null pairs)) (written_file start drop_frame pairs)
written_is_file pairs start drop_frame are =
    text_is_file None (counted (pairs_not_null pairs)) pairs start drop_frame (before pairs start 0 drop_frame are).by_line

-- each at its own frame
pub written_is_placed : (pairs : List (ℕ × Pair)) (start : ℕ) (drop_frame : Bool) → AreWritable start drop_frame 0 pairs
    → IsSccFile (Some start) (pairs_not_null pairs) (written_file start drop_frame pairs)
written_is_placed pairs start drop_frame are =
    text_is_file (Some start) (pairs_not_null pairs) pairs start drop_frame (before pairs start 0 drop_frame are).by_start
