-- A loop over the items of one piece: what was read so far, and what is left to read.
use Rattle.std.proofs.Common.{◌≡◌, ℕ, suc, ◌+◌, ◌-◌, ◌%◌, ◌^◌, ◌<◌, ◌++◌, List, [], ◌∷◌, Some, None, length, take, drop, get_or, ap, sym, subst, ◌∙◌, arith, append_assoc, append-nil, drop-cons, add-one, length-append}
use Rattle.std.proofs.Math.Seq.{take-length, drop-length}
use Rattle.std.proofs.lemmas.List.{take_more}
use Rattle.cc_base.specs.declared.machine.Fed.{Fed}
use Rattle.cc_base.specs.declared.step.Step.{Step}
use Rattle.cc_base.specs.declared.why.Why.{Why}
use Rattle.cc_base.specs.Feeding.{Verdict, Reading, hand, read_first, reading, place_by}
use Rattle.cc_base.specs.Steps.{IsTaken}
use Rattle.cc_base.specs.Syntax.{AllRead, HasTaken, Syntax, judge_by, open_behind}
use Rattle.cc_base.proofs.ReadingLemmas.{read_first-parts, reading-taken, reading-refused}
use Rattle.cc_base.proofs.StepLemmas.{hand-none, front_from-append}
use Rattle.cc_base.proofs.SyntaxLemmas.{AllTaken-append, reading-none}

-- the loop has come to item k: the machine is at the front to which the items so far lead, and the layer above took their parts
pub record Underway {Front I P M U : Type 0} (syntax : Syntax Front I P) (Matches : Front → M → Type 0) (verdict : Verdict P) (Took : List P → U → Type 0) (unit : ℕ)
    (before : List I) (above : List P) (input : List I) (k : ℕ) (machine : M) (taken : ℕ) (up : U) : Type 0 where
  pub handed : List P
  pub matches : Matches (open_behind syntax (before ++ take k input)) machine
  pub counted : taken ≡ length (before ++ take k input) % 2 ^ 64
  pub took : Took (above ++ handed) up
  pub rest : reading (judge_by syntax) verdict (place_by unit) before above input
      ≡ read_first None handed (reading (judge_by syntax) verdict (place_by unit) (before ++ take k input) (above ++ handed) (drop k input))

-- before the first item
pub Underway-start : {Front I P M U : Type 0} (syntax : Syntax Front I P) (Matches : Front → M → Type 0) (verdict : Verdict P) (Took : List P → U → Type 0) (unit : ℕ)
    (before : List I) (above : List P) (input : List I) (machine : M) (taken : ℕ) (up : U)
    → Matches (open_behind syntax before) machine → taken ≡ length before % 2 ^ 64 → Took above up
    → Underway syntax Matches verdict Took unit before above input 0 machine taken up
Underway-start syntax Matches verdict Took unit before above input machine taken up matches counted took = record {
  handed = [];
  matches = subst (λ items. Matches (open_behind syntax items) machine) (sym (append-nil before)) matches;
  counted = counted ∙ ap (λ (items : List _). length items % 2 ^ 64) (sym (append-nil before));
  took = subst (λ parts. Took parts up) (sym (append-nil above)) took;
  rest = ap (λ items. reading (judge_by syntax) verdict (place_by unit) items above input) (sym (append-nil before))
      ∙ ap (λ parts. reading (judge_by syntax) verdict (place_by unit) (before ++ []) parts input) (sym (append-nil above));
}

-- what is left to read is the next item, and the others
left-item : {I : Type 0} (input : List I) (k : ℕ) (d item : I) → k < length input → item ≡ get_or input k d → drop k input ≡ item ∷ drop (k + 1) input
left-item input k d item below is = rw (add-one, drop-cons input k d below) (ap (λ i. i ∷ drop (suc k) input) (sym is))

-- the items so far, and the next one
more-items : {I : Type 0} (before input : List I) (k : ℕ) (d item : I) → k < length input → item ≡ get_or input k d
    → before ++ take (k + 1) input ≡ (before ++ take k input) ++ item ∷ []
more-items before input k d item below is =
    ap (λ items. before ++ items) (take_more input k d below ∙ ap (λ i. take k input ++ i ∷ []) (sym is))
    ∙ sym (append_assoc before (take k input) (item ∷ []))

-- after an item that isn't refused
pub Underway-step : {Front I P M U : Type 0} (syntax : Syntax Front I P) (Matches : Front → M → Type 0) (verdict : Verdict P) (Took : List P → U → Type 0) (unit : ℕ)
    (before : List I) (above : List P) (input : List I) (k : ℕ) (machine : M) (taken : ℕ) (up : U)
    (u : Underway syntax Matches verdict Took unit before above input k machine taken up)
    (d item : I) (step : Step P) (now : M) (top : U) → k < length input → item ≡ get_or input k d
    → step ≡ syntax.judge (open_behind syntax (before ++ take k input)) item
    → (hand verdict (above ++ u.handed) step).why ≡ None
    → (IsTaken step → Matches (syntax.after (open_behind syntax (before ++ take k input)) item) now)
    → Took ((above ++ u.handed) ++ (hand verdict (above ++ u.handed) step).parts) top
    → Underway syntax Matches verdict Took unit before above input (k + 1) now ((taken + 1) % 2 ^ 64) top
Underway-step syntax Matches verdict Took unit before above input k machine taken up u d item step now top below is says none leads took =
    let done = before ++ take k input in
    let parts = (hand verdict (above ++ u.handed) step).parts in
    let more = more-items before input k d item below is in
    let judged : (hand verdict (above ++ u.handed) (judge_by syntax done item)).why ≡ None = ap (λ s. (hand verdict (above ++ u.handed) s).why) (sym says) ∙ none in
    let same : (hand verdict (above ++ u.handed) (judge_by syntax done item)).parts ≡ parts = ap (λ s. (hand verdict (above ++ u.handed) s).parts) (sym says) in record {
      handed = u.handed ++ parts;
      matches = subst (λ items. Matches (open_behind syntax items) now) (sym more)
          (subst (λ front. Matches front now) (sym (front_from-append syntax.after syntax.start done (item ∷ [])))
          (leads (hand-none verdict (above ++ u.handed) step none).0));
      counted = ap (λ n. (n + 1) % 2 ^ 64) u.counted ∙ rw (more, length-append done (item ∷ [])) (omega arith);
      took = subst (λ ps. Took ps top) (append_assoc above u.handed parts) took;
      rest = u.rest
          ∙ ap (λ items. read_first None u.handed (reading (judge_by syntax) verdict (place_by unit) done (above ++ u.handed) items)) (left-item input k d item below is)
          ∙ ap (λ r. read_first None u.handed r) (reading-taken (judge_by syntax) verdict (place_by unit) done (above ++ u.handed) item (drop (k + 1) input) judged)
          ∙ ap (λ ps. read_first None u.handed (read_first None ps (reading (judge_by syntax) verdict (place_by unit) (done ++ item ∷ []) ((above ++ u.handed) ++ ps) (drop (k + 1) input)))) same
          ∙ read_first-parts u.handed parts _
          ∙ ap (λ items. read_first None (u.handed ++ parts) (reading (judge_by syntax) verdict (place_by unit) items ((above ++ u.handed) ++ parts) (drop (k + 1) input))) (sym more)
          ∙ ap (λ ps. read_first None (u.handed ++ parts) (reading (judge_by syntax) verdict (place_by unit) (before ++ take (k + 1) input) ps (drop (k + 1) input))) (append_assoc above u.handed parts);
    }

-- at an item that is refused
pub Underway-refused : {Front I P M U : Type 0} (syntax : Syntax Front I P) (Matches : Front → M → Type 0) (verdict : Verdict P) (Took : List P → U → Type 0) (unit : ℕ)
    (before : List I) (above : List P) (input : List I) (k : ℕ) (machine : M) (taken : ℕ) (up : U)
    (u : Underway syntax Matches verdict Took unit before above input k machine taken up)
    (d item : I) (step : Step P) (why : Why) → k < length input → item ≡ get_or input k d
    → step ≡ syntax.judge (open_behind syntax (before ++ take k input)) item
    → (hand verdict (above ++ u.handed) step).why ≡ Some why
    → reading (judge_by syntax) verdict (place_by unit) before above input
    ≡ record {
      parts = u.handed ++ (hand verdict (above ++ u.handed) step).parts;
      refusal = Some (record { place = taken - taken % unit; why = why });
    }
Underway-refused syntax Matches verdict Took unit before above input k machine taken up u d item step why below is says refused =
    let done = before ++ take k input in
    let judged : (hand verdict (above ++ u.handed) (judge_by syntax done item)).why ≡ Some why = ap (λ s. (hand verdict (above ++ u.handed) s).why) (sym says) ∙ refused in
    u.rest
    ∙ ap (λ items. read_first None u.handed (reading (judge_by syntax) verdict (place_by unit) done (above ++ u.handed) items)) (left-item input k d item below is)
    ∙ ap (λ r. read_first None u.handed r) (reading-refused (judge_by syntax) verdict (place_by unit) done (above ++ u.handed) item (drop (k + 1) input) why judged)
    ∙ ap (λ s. let r : Reading _ = record { parts = u.handed ++ (hand verdict (above ++ u.handed) s).parts; refusal = Some (record { place = place_by unit done; why = why }) } in r) (sym says)
    ∙ ap (λ n. let r : Reading _ = record { parts = u.handed ++ (hand verdict (above ++ u.handed) step).parts; refusal = Some (record { place = n - n % unit; why = why }) } in r) (sym u.counted)

-- after the last item
pub Underway-end : {Front I P M U : Type 0} (syntax : Syntax Front I P) (Matches : Front → M → Type 0) (verdict : Verdict P) (Took : List P → U → Type 0) (unit : ℕ)
    (before : List I) (above : List P) (input : List I) (k : ℕ) (machine : M) (taken : ℕ) (up : U)
    (u : Underway syntax Matches verdict Took unit before above input k machine taken up)
    → k ≡ length input
    → reading (judge_by syntax) verdict (place_by unit) before above input ≡ record { parts = u.handed; refusal = None }
Underway-end syntax Matches verdict Took unit before above input k machine taken up u all =
    u.rest
    ∙ ap (λ items. read_first None u.handed (reading (judge_by syntax) verdict (place_by unit) (before ++ take k input) (above ++ u.handed) items))
    (ap (λ i. drop i input) all ∙ drop-length input)
    ∙ ap (λ parts. let r : Reading _ = record { parts = parts; refusal = None } in r) (append-nil u.handed)

-- where the reader is then
pub Underway-leads : {Front I P M U : Type 0} (syntax : Syntax Front I P) (Matches : Front → M → Type 0) (verdict : Verdict P) (Took : List P → U → Type 0) (unit : ℕ)
    (before : List I) (above : List P) (input : List I) (k : ℕ) (reader : Fed M) (up : U)
    (u : Underway syntax Matches verdict Took unit before above input k reader.machine reader.taken up)
    → k ≡ length input → AllRead syntax before → reader.refusal ≡ None
    → HasTaken syntax Matches (before ++ input) reader
Underway-leads syntax Matches verdict Took unit before above input k reader up u last all unrefused =
    let whole : take k input ≡ input = ap (λ i. take i input) last ∙ take-length input in
    let read = Underway-end syntax Matches verdict Took unit before above input k reader.machine reader.taken up u last in
    let next = reading-none syntax verdict (place_by unit) before above input (ap (λ (r : Reading _). r.refusal) read) in record {
      all = AllTaken-append syntax syntax.start before input all next.0;
      matches = subst (λ items. Matches (open_behind syntax (before ++ items)) reader.machine) whole u.matches;
      counted = u.counted ∙ ap (λ items. length (before ++ items) % 2 ^ 64) whole;
      unrefused = unrefused;
    }
