-- What is read of items by a syntax, piece by piece and under a layer above.
use Rattle.std.proofs.Common.{◌≡◌, ℕ, ◌+◌, ◌%◌, ◌^◌, ◌++◌, List, [], ◌∷◌, None, refl, ap, sym, subst, ◌∙◌, arith, append_assoc, append-nil, length-append}
use Rattle.cc_base.specs.declared.machine.Fed.{Fed}
use Rattle.cc_base.specs.declared.step.Step.{Step}
use Rattle.cc_base.specs.Feeding.{Verdict, Handed, Reading, hand, place_by, read_first, reading, refused_at}
use Rattle.cc_base.specs.Steps.{AreAccepted, IsTaken, front_from, step_parts}
use Rattle.cc_base.specs.Syntax.{AllRead, AllTaken, HasTaken, Reads, Syntax, judge_by, open_behind, parts_from, parts_of, read_under}
use Rattle.cc_base.proofs.StepLemmas.{AreAccepted-append, AreAccepted-split, front_from-append, hand-accepted, hand-none, read_first-none, refused_at-none}

-- items and more items, none of which is refused
pub AllTaken-append : {Front I P : Type 0} (syntax : Syntax Front I P) (front : Front) (items more : List I)
    → AllTaken syntax front items → AllTaken syntax (front_from syntax.after front items) more → AllTaken syntax front (items ++ more)
AllTaken-append syntax front [] more all next = next
AllTaken-append syntax front (item ∷ items) more (is, all) next = (is, AllTaken-append syntax (syntax.after front item) items more all next)

-- the first of them, and the others
pub AllTaken-split : {Front I P : Type 0} (syntax : Syntax Front I P) (front : Front) (items more : List I)
    → AllTaken syntax front (items ++ more) → AllTaken syntax front items × AllTaken syntax (front_from syntax.after front items) more
AllTaken-split syntax front [] more all = (tt, all)
AllTaken-split syntax front (item ∷ items) more (is, all) =
    let (some, rest) = AllTaken-split syntax (syntax.after front item) items more all in
    ((is, some), rest)

-- the parts of items and more items
pub parts_from-append : {Front I P : Type 0} (syntax : Syntax Front I P) (front : Front) (items more : List I)
    → parts_from syntax front (items ++ more) ≡ parts_from syntax front items ++ parts_from syntax (front_from syntax.after front items) more
parts_from-append syntax front [] more = refl
parts_from-append syntax front (item ∷ items) more =
    ap (λ parts. step_parts (syntax.judge front item) ++ parts) (parts_from-append syntax (syntax.after front item) items more)
    ∙ sym (append_assoc (step_parts (syntax.judge front item)) (parts_from syntax (syntax.after front item) items) _)

-- nothing is read of no items
pub Reads-nothing : {Front I P : Type 0} (syntax : Syntax Front I P) (front : Front) → Reads syntax front [] [] front
Reads-nothing syntax front = record { taken = tt; made = refl; leads = refl }

-- one item
pub Reads-one : {Front I P : Type 0} (syntax : Syntax Front I P) (front : Front) (item : I) (step : Step P) (behind : Front)
    → syntax.judge front item ≡ step → IsTaken step → syntax.after front item ≡ behind
    → Reads syntax front (item ∷ []) (step_parts step) behind
Reads-one syntax front item step behind judged is after = record {
  taken = (subst IsTaken (sym judged) is, tt);
  made = append-nil (step_parts (syntax.judge front item)) ∙ ap step_parts judged;
  leads = after;
}

-- an item, and others after it
pub Reads-item : {Front I P : Type 0} (syntax : Syntax Front I P) (front : Front) (item : I) (items : List I) (step : Step P) (next : Front) (parts : List P) (behind : Front)
    → syntax.judge front item ≡ step → IsTaken step → syntax.after front item ≡ next → Reads syntax next items parts behind
    → Reads syntax front (item ∷ items) (step_parts step ++ parts) behind
Reads-item syntax front item items step next parts behind judged is after reads = record {
  taken = (subst IsTaken (sym judged) is, subst (λ f. AllTaken syntax f items) (sym after) reads.taken);
  made = ap (λ s. step_parts s ++ parts_from syntax (syntax.after front item) items) judged
      ∙ ap (λ f. step_parts step ++ parts_from syntax f items) after
      ∙ ap (λ ps. step_parts step ++ ps) reads.made;
  leads = ap (λ f. front_from syntax.after f items) after ∙ reads.leads;
}

-- items, and more items
pub Reads-append : {Front I P : Type 0} (syntax : Syntax Front I P) (front : Front) (items : List I) (parts : List P) (middle : Front)
    (more : List I) (others : List P) (behind : Front)
    → Reads syntax front items parts middle → Reads syntax middle more others behind
    → Reads syntax front (items ++ more) (parts ++ others) behind
Reads-append syntax front items parts middle more others behind first second = record {
  taken = AllTaken-append syntax front items more first.taken
      (subst (λ f. AllTaken syntax f more) (sym first.leads) second.taken);
  made = parts_from-append syntax front items more
      ∙ ap (λ f. parts_from syntax front items ++ parts_from syntax f more) first.leads
      ∙ ap (λ ps. ps ++ parts_from syntax middle more) first.made ∙ ap (λ ps. parts ++ ps) second.made;
  leads = front_from-append syntax.after front items more ∙ ap (λ f. front_from syntax.after f more) first.leads ∙ second.leads;
}

-- the same parts, and the same after them
pub Reads-is : {Front I P : Type 0} (syntax : Syntax Front I P) (front : Front) (items : List I) (parts others : List P) (behind other : Front)
    → parts ≡ others → behind ≡ other → Reads syntax front items parts behind → Reads syntax front items others other
Reads-is syntax front items parts others behind other made leads reads =
    record { taken = reads.taken; made = reads.made ∙ made; leads = reads.leads ∙ leads }

-- items none of which is refused are read so
pub Reads-taken : {Front I P : Type 0} (syntax : Syntax Front I P) (front : Front) (items : List I) → AllTaken syntax front items
    → Reads syntax front items (parts_from syntax front items) (front_from syntax.after front items)
Reads-taken syntax front items all = record { taken = all; made = refl; leads = refl }

-- none of the first items is refused either
pub AllRead-front : {Front I P : Type 0} (syntax : Syntax Front I P) (items more : List I) → AllRead syntax (items ++ more) → AllRead syntax items
AllRead-front syntax items more all = (AllTaken-split syntax syntax.start items more all).0

-- one more item that isn't refused
pub HasTaken-more : {Front I P M : Type 0} (syntax : Syntax Front I P) (Matches : Front → M → Type 0) (items : List I) (item : I) (step : Step P) (old new : Fed M)
    → HasTaken syntax Matches items old → step ≡ syntax.judge (open_behind syntax items) item → IsTaken step
    → Matches (syntax.after (open_behind syntax items) item) new.machine → new.taken ≡ (old.taken + 1) % 2 ^ 64 → new.refusal ≡ None
    → HasTaken syntax Matches (items ++ item ∷ []) new
HasTaken-more syntax Matches items item step old new has says taken matches counted unrefused = record {
  all = AllTaken-append syntax syntax.start items (item ∷ []) has.all (subst IsTaken says taken, tt);
  matches = subst (λ front. Matches front new.machine) (sym (front_from-append syntax.after syntax.start items (item ∷ []))) matches;
  counted = counted ∙ ap (λ n. (n + 1) % 2 ^ 64) has.counted ∙ rw (length-append items (item ∷ [])) (omega arith);
  unrefused = unrefused;
}

-- items of which none was refused: neither by the reader nor above
pub reading-none : {Front I P : Type 0} (syntax : Syntax Front I P) (verdict : Verdict P) (place : List I → ℕ) (before : List I) (above : List P) (items : List I)
    → (reading (judge_by syntax) verdict place before above items).refusal ≡ None
    → AllTaken syntax (open_behind syntax before) items × AreAccepted verdict above (parts_from syntax (open_behind syntax before) items)
reading-none syntax verdict place before above [] none = (tt, tt)
reading-none syntax verdict place before above (item ∷ items) none =
    let front = open_behind syntax before in
    let step = syntax.judge front item in
    let handed = hand verdict above step in
    let (first, rest) = read_first-none (refused_at (place before) handed.why) handed.parts _ none in
    let (is, accepted, parts) = hand-none verdict above step (refused_at-none (place before) handed.why first) in
    let (all, others) = reading-none syntax verdict place (before ++ item ∷ []) (above ++ handed.parts) items rest in
    let next : open_behind syntax (before ++ item ∷ []) ≡ syntax.after front item = front_from-append syntax.after syntax.start before (item ∷ []) in (
      (is, subst (λ f. AllTaken syntax f items) next all),
      AreAccepted-append verdict above (step_parts step) _ accepted
          (subst (λ f. AreAccepted verdict (above ++ step_parts step) (parts_from syntax f items)) next
          (subst (λ ps. AreAccepted verdict (above ++ ps) (parts_from syntax (open_behind syntax (before ++ item ∷ [])) items)) parts others)),
    )

-- items that are refused neither by the reader nor above are read, with their parts
pub reading-accepted : {Front I P : Type 0} (syntax : Syntax Front I P) (verdict : Verdict P) (place : List I → ℕ) (before : List I) (above : List P) (items : List I)
    → AllTaken syntax (open_behind syntax before) items
    → AreAccepted verdict above (parts_from syntax (open_behind syntax before) items)
    → reading (judge_by syntax) verdict place before above items
    ≡ record { parts = parts_from syntax (open_behind syntax before) items; refusal = None }
reading-accepted syntax verdict place before above [] all accepted = refl
reading-accepted syntax verdict place before above (item ∷ items) (is, all) accepted =
    let front = open_behind syntax before in
    let step = syntax.judge front item in
    let parts = step_parts step in
    let (some, others) = AreAccepted-split verdict above parts (parts_from syntax (syntax.after front item) items) accepted in
    let next : syntax.after front item ≡ open_behind syntax (before ++ item ∷ []) = sym (front_from-append syntax.after syntax.start before (item ∷ [])) in
    let rest = reading-accepted syntax verdict place (before ++ item ∷ []) (above ++ parts) items
    (subst (λ f. AllTaken syntax f items) next all)
    (subst (λ f. AreAccepted verdict (above ++ parts) (parts_from syntax f items)) next others) in
    ap (λ (h : Handed _). read_first (refused_at (place before) h.why) h.parts (reading (judge_by syntax) verdict place (before ++ item ∷ []) (above ++ h.parts) items))
    (hand-accepted verdict above step is some)
    ∙ ap (λ r. read_first None parts r) rest
    ∙ ap (λ f. let r : Reading _ = record { parts = parts ++ parts_from syntax f items; refusal = None } in r) (sym next)

-- where there is no refusal, no item was refused, and the layer above took all parts
pub read_under-none : {Front I P : Type 0} (syntax : Syntax Front I P) (unit : ℕ) (verdict : Verdict P) (items : List I)
    → (read_under syntax unit verdict items).refusal ≡ None → AllRead syntax items × AreAccepted verdict [] (parts_of syntax items)
read_under-none syntax unit verdict items none = reading-none syntax verdict (place_by unit) [] [] items none

-- items that are read are handed upward, where the layer above takes their parts
pub read_under-reads : {Front I P : Type 0} (syntax : Syntax Front I P) (unit : ℕ) (verdict : Verdict P) (items : List I) (parts : List P) (behind : Front)
    → Reads syntax syntax.start items parts behind → AreAccepted verdict [] parts
    → read_under syntax unit verdict items ≡ record { parts = parts; refusal = None }
read_under-reads syntax unit verdict items parts behind reads accepted =
    reading-accepted syntax verdict (place_by unit) [] [] items reads.taken (subst (AreAccepted verdict []) (sym reads.made) accepted)
    ∙ ap (λ ps. let r : Reading _ = record { parts = ps; refusal = None } in r) reads.made
