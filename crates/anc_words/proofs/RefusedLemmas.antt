-- Bytes are refused at their first refused word, and for its reason.
use Rattle.std.proofs.Common.{◌≡◌, ℕ, ◌+◌, ◌-◌, ◌%◌, ◌^◌, List, [], ◌∷◌, ◌++◌, length, Option, Some, None, refl, ap, sym, subst, ◌∙◌, arith, append_assoc, append-nil, length-append}
use Rattle.cc_base.specs.declared.refusal.Refusal.{Refusal}
use Rattle.cc_base.specs.declared.why.Why.{Why}
use Rattle.cc_base.specs.Feeding.{HasRefused, Reading, Verdict, hand, place_by}
use Rattle.cc_base.specs.Steps.{front_from}
use Rattle.cc_base.specs.Syntax.{AllTaken, judge_by, open_behind, parts_from, parts_of, read_under}
use Rattle.cc_base.proofs.StepLemmas.{front_from-append}
use Rattle.cc_base.proofs.SyntaxLemmas.{AllTaken-split, parts_from-append, reading-accepted, reading-none}
use Rattle.cc_base.proofs.ReadingLemmas.{HasRefused-from}
use Rattle.anc_words.specs.declared.parts.WordPart.{WordPart}
use Rattle.anc_words.specs.Reading.{anc_syntax, HasRefusedWord, Open, judge_byte, judge_half, nothing_open, open_after, words_after}
use Rattle.anc_words.proofs.ByteLemmas.{last_high, open-words_of}
use Rattle.anc_words.proofs.WordLemmas.{words_of}

-- the bytes before the high byte that is left
record EndsWith (bytes : List ℕ) (high : ℕ) : Type 0 where
  pub before : List ℕ
  pub spelled : bytes ≡ before ++ high ∷ []
  pub whole : last_high before ≡ None
  pub even : length before % 2 ≡ 0

ends_with : (bytes : List ℕ) (high : ℕ) → last_high bytes ≡ Some high → EndsWith bytes high
ends_with [] high is = absurd cc
ends_with (h ∷ []) high is =
    let same : h ≡ high = cc in
    record { before = []; spelled = ap (λ x. x ∷ []) same; whole = refl; even = refl }
ends_with (h ∷ l ∷ bytes) high is =
    let more = ends_with bytes high is in
    let even = more.even in record {
      before = h ∷ l ∷ more.before;
      spelled = ap (λ bs. h ∷ l ∷ bs) more.spelled;
      whole = more.whole;
      even = omega arith;
    }

-- the place of a word's low byte is its high byte's place
place_of_low : (n : ℕ) → n % 2 ≡ 0 → (n + 1) % 2 ^ 64 - (n + 1) % 2 ^ 64 % 2 ≡ n % 2 ^ 64
place_of_low n even = omega arith

-- a high byte makes nothing
nothing_of_high : (verdict : Verdict WordPart) (above : List WordPart) (words : List ℕ) (high : Option ℕ) (byte : ℕ) (why : Why) → high ≡ None
    → (hand verdict above (judge_half high words byte)).why ≡ Some why → ⊥
nothing_of_high verdict above words high byte why none is =
    let nothing = ap (λ h. (hand verdict above (judge_half h words byte)).why) none in cc

-- the refused byte is a low one
refused_word : (verdict : Verdict WordPart) (bytes : List ℕ) (refusal : Refusal) (high : ℕ)
    (has : HasRefused (judge_by anc_syntax) verdict (place_by 2) [] [] bytes refusal)
    → EndsWith has.taken high → HasRefusedWord verdict bytes refusal
refused_word verdict bytes refusal high has ends =
    let before = ends.before in
    let (all, accepted) = reading-none anc_syntax verdict (place_by 2) [] [] has.taken has.unrefused in
    let read = reading-accepted anc_syntax verdict (place_by 2) [] [] has.taken all accepted in
    let (unrefused, _) = AllTaken-split anc_syntax nothing_open before (high ∷ []) (subst (AllTaken anc_syntax nothing_open) ends.spelled all) in
    let behind : open_behind anc_syntax before ≡ record { high = None; words = front_from words_after [] (words_of before) } =
    open-words_of [] before ∙ ap (λ h. let o : Open = record { high = h; words = front_from words_after [] (words_of before) } in o) ends.whole in
    let front : open_behind anc_syntax has.taken ≡ record { high = Some high; words = (open_behind anc_syntax before).words } =
    ap (open_behind anc_syntax) ends.spelled ∙ front_from-append open_after nothing_open before (high ∷ []) ∙ ap (λ (o : Open). open_after o high) behind
    ∙ ap (λ (o : Open). let p : Open = record { high = Some high; words = o.words } in p) (sym behind) in
    let parts : (read_under anc_syntax 2 verdict has.taken).parts ≡ parts_of anc_syntax before =
    ap (λ (r : Reading WordPart). r.parts) read ∙ ap (parts_of anc_syntax) ends.spelled ∙ parts_from-append anc_syntax nothing_open before (high ∷ [])
    ∙ ap (λ (o : Open). parts_of anc_syntax before ++ parts_from anc_syntax o (high ∷ [])) behind ∙ append-nil (parts_of anc_syntax before) in record {
      before = before;
      high = high;
      low = has.item;
      rest = has.rest;
      spelled = has.spelled ∙ ap (λ bs. bs ++ has.item ∷ has.rest) ends.spelled ∙ append_assoc before (high ∷ []) (has.item ∷ has.rest);
      unrefused = unrefused;
      whole = ap (λ (o : Open). o.high) behind;
      place_is = has.place_is ∙ ap (λ (bs : List ℕ). place_by 2 bs) ends.spelled
          ∙ ap (λ n. n % 2 ^ 64 - n % 2 ^ 64 % 2) (length-append before (high ∷ [])) ∙ place_of_low (length before) ends.even;
      why_is = ap (λ (o : Open). (hand verdict (parts_of anc_syntax before) (judge_byte o has.item)).why) (sym front)
          ∙ ap (λ ps. (hand verdict ps (judge_byte (open_behind anc_syntax has.taken) has.item)).why) (sym parts) ∙ has.why_is;
    }

-- bytes are refused at their first refused word
pub HasRefusedWord-from : (verdict : Verdict WordPart) (bytes : List ℕ) (refusal : Refusal) → (read_under anc_syntax 2 verdict bytes).refusal ≡ Some refusal
    → HasRefusedWord verdict bytes refusal
HasRefusedWord-from verdict bytes refusal refused =
    let has = HasRefused-from (judge_by anc_syntax) verdict (place_by 2) [] [] bytes refusal refused in
    let above = (read_under anc_syntax 2 verdict has.taken).parts in
    let cases : (high : Option ℕ) → last_high has.taken ≡ high → HasRefusedWord verdict bytes refusal = elim [
      | None ↦ λ none. absurd (nothing_of_high verdict above (open_behind anc_syntax has.taken).words (open_behind anc_syntax has.taken).high has.item refusal.why
          (ap (λ (o : Open). o.high) (open-words_of [] has.taken) ∙ none) has.why_is)
      | Some high ↦ λ some. refused_word verdict bytes refusal high has (ends_with has.taken high some)
    ] in cases _ refl
