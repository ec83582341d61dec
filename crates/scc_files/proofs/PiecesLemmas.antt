-- What a writer puts of pairs, one after another, is their written form.
use Rattle.std.proofs.Common.{◌≡◌, ◌∙◌, ℕ, ◌+◌, Bool, true, false, cond, nat_eq, refl, subst, sym, ap, List, [], ◌∷◌, ◌++◌, append_assoc, flat_map, Some}
use Rattle.std.specs.List.{join_by}
use Rattle.line21_codes.specs.declared.pairs.Pair.{Pair}
use Rattle.line21_codes.specs.NullPairs.{is_null}
use Rattle.time_codes.specs.Frames.{time_at}
use Rattle.time_codes.specs.Texts.{text_of}
use Rattle.scc_files.specs.Pieces.{pieces, stand_after, standing_first, text_from}
use Rattle.scc_files.specs.Stretches.{ending}
use Rattle.scc_files.specs.Words.{pair_word}
use Rattle.scc_files.specs.Writing.{Standing, end_text, piece_of, stand_behind}
use Rattle.scc_files.specs.Written.{Stretch, head_text, stretch_line, stretches_of, stretches_with, written_file, written_front}

-- the stretch of a pair and what continues with it
abbrev pub stretch_from : ℕ → Pair → List Pair → Stretch
stretch_from frame pair more = record { frame = frame; first = pair; more = more }

-- words, each after a space
abbrev spaced_words : List Pair → List ℕ
spaced_words pairs = flat_map (λ (pair : Pair). 32 ∷ pair_word pair) pairs

abbrev line_ends : List ℕ
line_ends = 10 ∷ 10 ∷ []

-- the text of pairs, and then of the file's end
pub text_is : (pairs : List (ℕ × Pair)) (w : Standing) → pieces w pairs ++ end_text (stand_after w pairs).behind ≡ text_from w pairs
text_is [] w = refl
text_is (placed ∷ pairs) w =
    append_assoc (piece_of w placed.0 placed.1) (pieces (stand_behind w placed.0 placed.1) pairs) (end_text (stand_after (stand_behind w placed.0 placed.1) pairs).behind)
    ∙ ap (λ (l : List ℕ). piece_of w placed.0 placed.1 ++ l) (text_is pairs (stand_behind w placed.0 placed.1))

-- a time code, a TAB and a word, and what follows them
line_splits : (time word more rest : List ℕ) → (time ++ (9 ∷ word)) ++ (more ++ rest) ≡ (time ++ (9 ∷ (word ++ more))) ++ rest
line_splits time word more rest =
    append_assoc time (9 ∷ word) (more ++ rest)
    ∙ ap (λ (l : List ℕ). time ++ (9 ∷ l)) (sym (append_assoc word more rest))
    ∙ sym (append_assoc time (9 ∷ (word ++ more)) rest)

module _ (start : ℕ) (drop_frame : Bool) where
  -- lines, each after two line ends
  abbrev apart : List Stretch → List ℕ
  apart stretches = flat_map (λ (stretch : Stretch). line_ends ++ stretch_line start drop_frame stretch) stretches

  -- the text of stretches after a stretch that ended at a frame
  abbrev behind_text : ℕ → List Stretch → List ℕ
  behind_text end [] = []
  behind_text end (stretch ∷ stretches) =
      cond (nat_eq end stretch.frame) (spaced_words (stretch.first ∷ stretch.more) ++ apart stretches) (apart (stretch ∷ stretches))

  -- a writer after a pair
  abbrev at : ℕ → Standing
  at end = record { start = start; drop_frame = drop_frame; behind = Some end }

  -- the stretch that a pair begins before others, and their text after it
  record Begun (frame : ℕ) (pair : Pair) (stretches : List Stretch) : Type 0 where
    more : List Pair
    later : List Stretch
    is : stretches_with (frame, pair) stretches ≡ stretch_from frame pair more ∷ later
    text : behind_text (frame + 1) stretches ≡ spaced_words more ++ apart later

  begun_by : (frame : ℕ) (pair : Pair) (stretch : Stretch) (stretches : List Stretch) (test : Bool) → nat_eq (frame + 1) stretch.frame ≡ test
      → Begun frame pair (stretch ∷ stretches)
  begun_by frame pair stretch stretches true is = record {
    more = stretch.first ∷ stretch.more;
    later = stretches;
    is = ap (λ (b : Bool). cond b (stretch_from frame pair (stretch.first ∷ stretch.more) ∷ stretches) (stretch_from frame pair [] ∷ stretch ∷ stretches)) is;
    text = ap (λ (b : Bool). cond b (spaced_words (stretch.first ∷ stretch.more) ++ apart stretches) (apart (stretch ∷ stretches))) is;
  }
  begun_by frame pair stretch stretches false is = record {
    more = [];
    later = stretch ∷ stretches;
    is = ap (λ (b : Bool). cond b (stretch_from frame pair (stretch.first ∷ stretch.more) ∷ stretches) (stretch_from frame pair [] ∷ stretch ∷ stretches)) is;
    text = ap (λ (b : Bool). cond b (spaced_words (stretch.first ∷ stretch.more) ++ apart stretches) (apart (stretch ∷ stretches))) is;
  }

  begun : (frame : ℕ) (pair : Pair) (stretches : List Stretch) → Begun frame pair stretches
  begun frame pair [] = record { more = []; later = []; is = refl; text = refl }
  begun frame pair (stretch ∷ stretches) = begun_by frame pair stretch stretches (nat_eq (frame + 1) stretch.frame) refl

  -- the time code of a frame
  abbrev time_text : ℕ → List ℕ
  time_text frame = text_of (time_at (start + frame) drop_frame)

  -- a pair that continues with a stretch, or begins one after it
  pair_by : (end frame : ℕ) (pair : Pair) (stretches : List Stretch) (b : Begun frame pair stretches) (test : Bool) → nat_eq end frame ≡ test
      → cond (nat_eq end frame) (32 ∷ pair_word pair) (10 ∷ 10 ∷ (time_text frame ++ (9 ∷ pair_word pair))) ++ (spaced_words b.more ++ apart b.later)
      ≡ cond (nat_eq end frame) (spaced_words (pair ∷ b.more) ++ apart b.later) (apart (stretch_from frame pair b.more ∷ b.later))
  pair_by end frame pair stretches b true is = rw is (sym (append_assoc (32 ∷ pair_word pair) (spaced_words b.more) (apart b.later)))
  pair_by end frame pair stretches b false is =
      rw is (ap (λ (l : List ℕ). 10 ∷ 10 ∷ l) (line_splits (time_text frame) (pair_word pair) (spaced_words b.more) (apart b.later)))

  abbrev stretches_line : List Stretch → List ℕ
  stretches_line stretches = join_by (stretch_line start drop_frame) line_ends stretches

  behind_by : (placed : ℕ × Pair) (pairs : List (ℕ × Pair)) (end : ℕ) → pieces (at end) pairs ≡ behind_text end (stretches_of pairs)
      → pieces (at (placed.0 + 1)) pairs ≡ behind_text (placed.0 + 1) (stretches_of pairs) → (test : Bool) → is_null placed.1 ≡ test
      → pieces (at end) (placed ∷ pairs) ≡ behind_text end (stretches_of (placed ∷ pairs))
  behind_by placed pairs end same next true is = rw is same
  behind_by placed pairs end same next false is =
      let b : Begun placed.0 placed.1 (stretches_of pairs) = begun placed.0 placed.1 (stretches_of pairs) in
      let piece : List ℕ = cond (nat_eq end placed.0) (32 ∷ pair_word placed.1) (10 ∷ 10 ∷ (time_text placed.0 ++ (9 ∷ pair_word placed.1))) in
      let shown : piece ++ pieces (at (placed.0 + 1)) pairs ≡ behind_text end (stretches_with placed (stretches_of pairs)) =
      ap (λ (l : List ℕ). piece ++ l) (next ∙ b.text)
      ∙ pair_by end placed.0 placed.1 (stretches_of pairs) b (nat_eq end placed.0) refl
      ∙ ap (behind_text end) (sym b.is) in
      rw is shown

  pieces_behind : (pairs : List (ℕ × Pair)) (end : ℕ) → pieces (at end) pairs ≡ behind_text end (stretches_of pairs)
  pieces_behind [] end = refl
  pieces_behind (placed ∷ pairs) end =
      behind_by placed pairs end (pieces_behind pairs end) (pieces_behind pairs (placed.0 + 1)) (is_null placed.1) refl

  -- from the first pair on
  first_by : (placed : ℕ × Pair) (pairs : List (ℕ × Pair)) → pieces (standing_first start drop_frame) pairs ≡ stretches_line (stretches_of pairs) → (test : Bool)
      → is_null placed.1 ≡ test → pieces (standing_first start drop_frame) (placed ∷ pairs) ≡ stretches_line (stretches_of (placed ∷ pairs))
  first_by placed pairs same true is = rw is same
  first_by placed pairs same false is =
      let b : Begun placed.0 placed.1 (stretches_of pairs) = begun placed.0 placed.1 (stretches_of pairs) in
      let shown : (time_text placed.0 ++ (9 ∷ pair_word placed.1)) ++ pieces (at (placed.0 + 1)) pairs ≡ stretches_line (stretches_with placed (stretches_of pairs)) =
      ap (λ (l : List ℕ). (time_text placed.0 ++ (9 ∷ pair_word placed.1)) ++ l) (pieces_behind pairs (placed.0 + 1) ∙ b.text)
      ∙ line_splits (time_text placed.0) (pair_word placed.1) (spaced_words b.more) (apart b.later)
      ∙ ap stretches_line (sym b.is) in
      rw is shown

  pieces_first : (pairs : List (ℕ × Pair)) → pieces (standing_first start drop_frame) pairs ≡ stretches_line (stretches_of pairs)
  pieces_first [] = refl
  pieces_first (placed ∷ pairs) = first_by placed pairs (pieces_first pairs) (is_null placed.1) refl

  -- a file with a line has an end
  end_by : (placed : ℕ × Pair) (pairs : List (ℕ × Pair)) (end : ℕ) → end_text (stand_after (at end) pairs).behind ≡ line_ends
      → end_text (stand_after (at (placed.0 + 1)) pairs).behind ≡ line_ends → (test : Bool) → is_null placed.1 ≡ test
      → end_text (stand_after (at end) (placed ∷ pairs)).behind ≡ line_ends
  end_by placed pairs end same next true is = subst (λ (b : Bool). end_text (stand_after (cond b (at end) (at (placed.0 + 1))) pairs).behind ≡ line_ends) (sym is) same
  end_by placed pairs end same next false is = subst (λ (b : Bool). end_text (stand_after (cond b (at end) (at (placed.0 + 1))) pairs).behind ≡ line_ends) (sym is) next

  ends_behind : (pairs : List (ℕ × Pair)) (end : ℕ) → end_text (stand_after (at end) pairs).behind ≡ line_ends
  ends_behind [] end = refl
  ends_behind (placed ∷ pairs) end = end_by placed pairs end (ends_behind pairs end) (ends_behind pairs (placed.0 + 1)) (is_null placed.1) refl

  ends_by : (placed : ℕ × Pair) (pairs : List (ℕ × Pair)) → end_text (stand_after (standing_first start drop_frame) pairs).behind ≡ ending (stretches_of pairs)
      → (test : Bool) → is_null placed.1 ≡ test
      → end_text (stand_after (standing_first start drop_frame) (placed ∷ pairs)).behind ≡ ending (stretches_of (placed ∷ pairs))
  ends_by placed pairs same true is =
      subst (λ (b : Bool). end_text (stand_after (cond b (standing_first start drop_frame) (at (placed.0 + 1))) pairs).behind
      ≡ ending (cond b (stretches_of pairs) (stretches_with placed (stretches_of pairs)))) (sym is)
      same
  ends_by placed pairs same false is =
      subst (λ (b : Bool). end_text (stand_after (cond b (standing_first start drop_frame) (at (placed.0 + 1))) pairs).behind
      ≡ ending (cond b (stretches_of pairs) (stretches_with placed (stretches_of pairs)))) (sym is)
      (ends_behind pairs (placed.0 + 1) ∙ ap ending (sym (begun placed.0 placed.1 (stretches_of pairs)).is))

  pub ends_first : (pairs : List (ℕ × Pair)) → end_text (stand_after (standing_first start drop_frame) pairs).behind ≡ ending (stretches_of pairs)
  ends_first [] = refl
  ends_first (placed ∷ pairs) = ends_by placed pairs (ends_first pairs) (is_null placed.1) refl

  -- lines with two line ends between, and after the last: each is ended by them
  abbrev ended : List Stretch → List ℕ
  ended stretches = flat_map (λ (stretch : Stretch). stretch_line start drop_frame stretch ++ line_ends) stretches

  apart_ended : (stretches : List Stretch) → apart stretches ++ line_ends ≡ line_ends ++ ended stretches
  apart_ended [] = refl
  apart_ended (stretch ∷ stretches) =
      append_assoc (line_ends ++ stretch_line start drop_frame stretch) (apart stretches) line_ends
      ∙ ap (λ (l : List ℕ). (line_ends ++ stretch_line start drop_frame stretch) ++ l) (apart_ended stretches)
      ∙ ap (λ (l : List ℕ). 10 ∷ 10 ∷ l) (sym (append_assoc (stretch_line start drop_frame stretch) line_ends (ended stretches)))

  lines_ended : (stretches : List Stretch) → join_by (stretch_line start drop_frame) line_ends stretches ++ ending stretches ≡ ended stretches
  lines_ended [] = refl
  lines_ended (stretch ∷ stretches) =
      append_assoc (stretch_line start drop_frame stretch) (apart stretches) line_ends
      ∙ ap (λ (l : List ℕ). stretch_line start drop_frame stretch ++ l) (apart_ended stretches)
      ∙ sym (append_assoc (stretch_line start drop_frame stretch) line_ends (ended stretches))

  -- the text of pairs is the front of their written form
  pub front_is : (pairs : List (ℕ × Pair)) → head_text ++ pieces (standing_first start drop_frame) pairs ≡ written_front start drop_frame pairs
  front_is pairs = ap (λ (l : List ℕ). head_text ++ l) (pieces_first pairs)

  -- with its end it is the whole
  pub front_ended : (pairs : List (ℕ × Pair)) → written_front start drop_frame pairs ++ ending (stretches_of pairs) ≡ written_file start drop_frame pairs
  front_ended pairs =
      append_assoc head_text (join_by (stretch_line start drop_frame) line_ends (stretches_of pairs)) (ending (stretches_of pairs))
      ∙ ap (λ (l : List ℕ). head_text ++ l) (lines_ended (stretches_of pairs))

  pub text_written : (pairs : List (ℕ × Pair)) → head_text ++ text_from (standing_first start drop_frame) pairs ≡ written_file start drop_frame pairs
  text_written pairs =
      ap (λ (l : List ℕ). head_text ++ l)
      (sym (text_is pairs (standing_first start drop_frame))
      ∙ ap (λ (l : List ℕ). pieces (standing_first start drop_frame) pairs ++ l) (ends_first pairs)
      ∙ ap (λ (l : List ℕ). l ++ ending (stretches_of pairs)) (pieces_first pairs)
      ∙ lines_ended (stretches_of pairs))
