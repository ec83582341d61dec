-- The first judgement that isn't good is the judgement of the first field that hasn't its form.
use Rattle.std.proofs.Common.{◌≡◌, ℕ, ◌+◌, ◌<◌, Bool, true, false, if◌then◌else◌, List, [], ◌∷◌, ◌++◌, drop, length, Some, None, refl, sym, ap, subst, ◌∙◌, inl, inr, ◌⊎◌, add-one, arith}
use Rattle.std.specs.List.{AllByRecursion, zip}
use Rattle.cc_base.specs.declared.why.Why.{Why}
use Rattle.cue_form.specs.FieldForms.{FieldForm, HasForm}
use Rattle.cue_form.specs.FirstFailing.{IsFirstFailing}
use Rattle.cue_form.specs.RecordJudgements.{Judgement, first_offence}
use Rattle.cue_form.specs.Records.{Field, Record, field}
use Rattle.cue_form.specs.declared.offence.Offence.{Offence}
use Rattle.cue_form.specs.declared.offence.Offence.TheVariants as offence
use Rattle.cue_form.proofs.FieldFacts.{drop_field}
use Rattle.cue_form.proofs.FirstFailing.{holds_at, one_first, same_before}
use Rattle.cue_form.proofs.FormsTold.{IsReason, IsTold}
use Rattle.cue_form.proofs.Passing.{on_value}

-- the judgements of some fields from a place on, a group of them for each, and those that follow
abbrev pub AreTold : Record → List Judgement → ℕ → List Judgement → List FieldForm → Type 0
AreTold r tail place js [] = js ≡ tail
AreTold r tail place js (form ∷ forms) =
    (group : List Judgement) × (rest : List Judgement) × (js ≡ group ++ rest) × IsTold group form place (field r place)
    × AreTold r tail (place + 1) rest forms

-- the first offence of two lists of judgements
first_of_both : (js ks : List Judgement) → first_offence js ≡ None → first_offence (js ++ ks) ≡ first_offence ks
first_of_both [] ks none = refl
first_of_both (j ∷ js) ks none = by_test j none (first_of_both js ks)
  where
    by_test : (j : Judgement) → first_offence (j ∷ js) ≡ None → (first_offence js ≡ None → first_offence (js ++ ks) ≡ first_offence ks)
        → first_offence (j ∷ (js ++ ks)) ≡ first_offence ks
    by_test j none rest = on_good j.good none
      where
        on_good : (b : Bool) → (if b then first_offence js else Some j.offence) ≡ None
            → (if b then first_offence (js ++ ks) else Some j.offence) ≡ first_offence ks
        on_good true none = rest none
        on_good false none = cc

first_of_one : (js ks : List Judgement) (o : Offence) → first_offence js ≡ Some o → first_offence (js ++ ks) ≡ Some o
first_of_one [] ks o is = cc
first_of_one (j ∷ js) ks o is = on_good j.good is (first_of_one js ks o)
  where
    on_good : (b : Bool) → (if b then first_offence js else Some j.offence) ≡ Some o → (first_offence js ≡ Some o → first_offence (js ++ ks) ≡ Some o)
        → (if b then first_offence (js ++ ks) else Some j.offence) ≡ Some o
    on_good true is rest = rest is
    on_good false is rest = is

-- a field has the form beside it
abbrev pub IsInForm : FieldForm × Field → Type 0
IsInForm at = HasForm at.0 at.1

-- a field that is the first without its form, with why it offends
pub record FirstMisformed (r : Record) (place : ℕ) (forms : List FieldForm) (o : Offence) : Type 0 where
  pub form : FieldForm
  pub text : Field
  pub first : IsFirstFailing IsInForm (zip forms (drop place r)) (form, text)
  pub reason : Why
  pub offence_is : o ≡ offence.At (place + length first.before + 1) reason
  pub reason_is : IsReason form text reason

-- the next field, and those after it
next_field : (r : Record) (place : ℕ) → place < length r → drop place r ≡ field r place ∷ drop (place + 1) r
next_field r place within = drop_field r place within ∙ ap (λ (n : ℕ). field r place ∷ drop n r) (sym (add-one place))

pub told_none : (r : Record) (tail : List Judgement) (place : ℕ) (js : List Judgement) (forms : List FieldForm) → length r ≡ place + length forms
    → AreTold r tail place js forms → first_offence js ≡ None
    → AllByRecursion IsInForm (zip forms (drop place r)) × (first_offence tail ≡ None)
told_none r tail place js [] sized told none = (tt, ap first_offence (sym told) ∙ none)
told_none r tail place js (form ∷ forms) sized told none =
    let (group, rest, split, its, more) = told in
    let fields = next_field r place (omega arith) in
    on_value _ (first_offence group)
    (λ clear.
    let after = sym (first_of_both group rest clear) ∙ ap first_offence (sym split) ∙ none in
    let others = told_none r tail (place + 1) rest forms (omega arith) more after in
    (subst (λ (fs : Record). AllByRecursion IsInForm (zip (form ∷ forms) fs)) (sym fields) (its.good clear, others.0), others.1))
    (λ o is. let never = sym (first_of_one group rest o is) ∙ ap first_offence (sym split) ∙ none in cc)

pub told_some : (r : Record) (tail : List Judgement) (place : ℕ) (js : List Judgement) (forms : List FieldForm) → length r ≡ place + length forms
    → AreTold r tail place js forms → (o : Offence) → first_offence js ≡ Some o
    → FirstMisformed r place forms o ⊎ (AllByRecursion IsInForm (zip forms (drop place r)) × (first_offence tail ≡ Some o))
told_some r tail place js [] sized told o is = inr (tt, ap first_offence (sym told) ∙ is)
told_some r tail place js (form ∷ forms) sized told o is =
    let (group, rest, split, its, more) = told in
    let fields = next_field r place (omega arith) in
    let listed : zip (form ∷ forms) (drop place r) ≡ (form, field r place) ∷ zip forms (drop (place + 1) r) = ap (zip (form ∷ forms)) fields in
    on_value _ (first_offence group)
    (λ clear.
    let after = sym (first_of_both group rest clear) ∙ ap first_offence (sym split) ∙ is in
    elim (told_some r tail (place + 1) rest forms (omega arith) more o after) [
      | inl found ↦
          inl (record {
            form = found.form;
            text = found.text;
            first = record {
              before = (form, field r place) ∷ found.first.before;
              after = found.first.after;
              split = listed ∙ ap (λ (l : List (FieldForm × Field)). (form, field r place) ∷ l) found.first.split;
              all = (its.good clear, found.first.all);
              fails = found.first.fails;
            };
            reason = found.reason;
            offence_is = found.offence_is ∙ ap (λ (n : ℕ). offence.At n found.reason) (omega arith);
            reason_is = found.reason_is;
          })
      | inr others ↦ inr (subst (λ (fs : Record). AllByRecursion IsInForm (zip (form ∷ forms) fs)) (sym fields) (its.good clear, others.0), others.1)
    ])
    (λ other here.
    let whole = sym (first_of_one group rest other here) ∙ ap first_offence (sym split) ∙ is in
    let same : other ≡ o = cc in
    let bad = its.bad other here in
    inl (record {
      form = form;
      text = field r place;
      first = record { before = []; after = zip forms (drop (place + 1) r); split = listed; all = tt; fails = bad.0 };
      reason = bad.1;
      offence_is = sym same ∙ bad.2 ∙ ap (λ (n : ℕ). offence.At n bad.1) (omega arith);
      reason_is = bad.3;
    }))

-- a field offends for one reason
pub one_reason : (form : FieldForm) (text : Field) (one other : Why) → IsReason form text one → IsReason form text other → one ≡ other
one_reason form text one other (inl a) (inl b) = a.0 ∙ sym b.0
one_reason form text one other (inl a) (inr b) = absurd (b.1 a.1)
one_reason form text one other (inr a) (inl b) = absurd (a.1 b.1)
one_reason form text one other (inr a) (inr b) = a.0 ∙ sym b.0

-- and the other way round: the first field without its form is where the judgements stop
pub told_back : (r : Record) (tail : List Judgement) (place : ℕ) (js : List Judgement) (forms : List FieldForm) → length r ≡ place + length forms
    → AreTold r tail place js forms → (o : Offence) → FirstMisformed r place forms o → first_offence js ≡ Some o
told_back r tail place js forms sized told o found =
    let pairs : List (FieldForm × Field) = zip forms (drop place r) in
    let never : AllByRecursion IsInForm pairs → ⊥ =
    λ all. found.first.fails (holds_at IsInForm pairs found.first.before (found.form, found.text) found.first.after found.first.split all) in
    on_value _ (first_offence js)
    (λ none. absurd (never (told_none r tail place js forms sized told none).0))
    (λ other is.
    elim (told_some r tail place js forms sized told other is) [
      | inl here ↦
          let one = (one_first IsInForm pairs (here.form, here.text) (found.form, found.text) here.first found.first).0 in
          let many = same_before IsInForm pairs (here.form, here.text) (found.form, found.text) here.first found.first in
          let reasons = subst (λ (p : FieldForm × Field). IsReason p.0 p.1 here.reason) one here.reason_is in
          let reason_is = one_reason found.form found.text here.reason found.reason reasons found.reason_is in
          is ∙ ap Some (here.offence_is ∙ ap (λ (n : ℕ). offence.At (place + n + 1) here.reason) many
          ∙ ap (λ (w : Why). offence.At (place + length found.first.before + 1) w) reason_is ∙ sym found.offence_is)
      | inr all ↦ absurd (never all.0)
    ])
