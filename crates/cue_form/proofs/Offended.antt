-- A record offends exactly where its first judgement that isn't good says so.
use Rattle.std.proofs.Common.{◌≡◌, ℕ, ◌+◌, ◌<◌, ◌≤◌, ◌^◌, ◌==◌, nat_le, nat_lt, min, true, false, List, [], ◌∷◌, drop, length, decimal, Some, None, refl, sym, ap, subst, ◌∙◌, arith, inl, inr, ◌⊎◌, eqb-true, eq-eqb, ltb-true}
use Rattle.std.specs.List.{AllByRecursion, zip}
use Rattle.std.proofs.lemmas.Bool.{eqb-false, leb-false, ltb-false, le-ltb, lt-leb, ne_eqb}
use Rattle.cc_base.specs.declared.limit_of.LimitOf.TheVariants as limit
use Rattle.cc_base.specs.declared.why.Why.{Why}
use Rattle.cc_base.specs.declared.why.Why.TheVariants as why
use Rattle.cue_form.specs.Begun.{Begun, IsBegun, cues_of}
use Rattle.cue_form.specs.FieldForms.{MayStand, forms_of, kind_word}
use Rattle.cue_form.specs.Fields.{number_field}
use Rattle.cue_form.specs.Form.{may_stand, record_kind_of}
use Rattle.cue_form.specs.Judgements.{field_judgements, head_judgements, judgements, room_judgement}
use Rattle.cue_form.specs.Offending.{HasManyFrames, IsMiscounted, IsMisformed, IsWelcome, RecordOffends, OpensCue, StandsAs}
use Rattle.cue_form.specs.RecordJudgements.{Judgement, count_judgement, count_place, first_offence}
use Rattle.cue_form.specs.Records.{Field, Record, field}
use Rattle.cue_types.specs.Listing.{most_cues, most_frames}
use Rattle.cue_form.specs.declared.offence.Offence.{Offence}
use Rattle.cue_form.specs.declared.offence.Offence.TheVariants as offence
use Rattle.cue_form.specs.declared.record_kind.RecordKind.{RecordKind}
use Rattle.cue_form.specs.declared.record_kind.RecordKind.TheVariants as record_kind
use Rattle.cue_form.proofs.FieldFacts.{fields_listed}
use Rattle.cue_form.proofs.FirstFailing.{holds_at}
use Rattle.cue_form.proofs.FirstForm.{FirstMisformed, IsInForm, told_back, told_none, told_some}
use Rattle.cue_form.proofs.KindsTold.{HasCueForRun, after_first, frames_bound, head_told, kind_judged}
use Rattle.cue_form.proofs.Passing.{on_test, on_value}
use Rattle.cue_form.proofs.RecordNumberFacts.{number_field-decimal}
use Rattle.cue_form.proofs.StandingTold.{may_told}
use Rattle.cue_form.proofs.WordFacts.{kind_passed}

-- the word of a kind names it
kind_named : (k : RecordKind) → record_kind_of (kind_word k) ≡ Some k
kind_named record_kind.Ccsuite = refl
kind_named record_kind.Share = refl
kind_named record_kind.Pop = refl
kind_named record_kind.Paint = refl
kind_named record_kind.Roll = refl
kind_named record_kind.Win = refl
kind_named record_kind.Attr = refl
kind_named record_kind.Run = refl
kind_named record_kind.Colour = refl

named_by : (r : Record) (k : RecordKind) → field r 0 ≡ kind_word k → record_kind_of (field r 0) ≡ Some k
named_by r k word = ap record_kind_of word ∙ kind_named k

-- the place of a count that is wrong
pub place_of : (count given : ℕ) → count_place count given ≡ min given count + 1
place_of count given =
    on_test _ (nat_lt given count)
    (λ more. rw more (let above : count ≤ given = ltb-false given count more in omega arith))
    (λ less. rw less (let below : given < count = ltb-true given count less in omega arith))

-- a run that may stand here has its cue
has_cue : (b : Begun) (k : RecordKind) → MayStand b k → HasCueForRun b k
has_cue b record_kind.Run may = may
has_cue b _ may = tt

-- a record of a cue or of another kind
opens_cases : (k : RecordKind) → OpensCue k ⊎ (OpensCue k → ⊥)
opens_cases record_kind.Pop = inl tt
opens_cases record_kind.Paint = inl tt
opens_cases record_kind.Roll = inl tt
opens_cases record_kind.Win = inl tt
opens_cases _ = inr (λ opens. opens)

-- what is judged of a cue's record first
cue_room : (b : Begun) (r : Record) (k : RecordKind) → OpensCue k → (js : List Judgement) × (field_judgements b k r ≡ room_judgement b ∷ js)
cue_room b r record_kind.Pop opens = (_, refl)
cue_room b r record_kind.Paint opens = (_, refl)
cue_room b r record_kind.Roll opens = (_, refl)
cue_room b r record_kind.Win opens = (_, refl)
cue_room b r _ opens = absurd opens

-- the number of a field
abbrev HasNumber : Field → Type 0
HasNumber text = (n : ℕ) × (text ≡ decimal n) × (n < 10 ^ 10)

module _ (b : Begun) (r : Record) where
  -- what is judged where a kind may stand
  stands_judged : (k : RecordKind) → StandsAs b r k → first_offence (judgements b r) ≡ first_offence (field_judgements b k r)
  stands_judged k stands =
      let named = named_by r k stands.word in
      let may = (may_told b k).1 stands.may in
      rw (named, may) refl

  -- a frames' limit that is passed
  many_frames : (o : Offence) → first_offence (frames_bound r) ≡ Some o → HasNumber (field r 3)
      → (o ≡ offence.Limit limit.Frames) × (n : ℕ) × ((most_frames < n) × (n ≤ 9999999999)) × (field r 3 ≡ decimal n)
  many_frames o is has =
      let read : number_field (field r 3) ≡ Some has.0 =
      subst (λ (t : Field). number_field t ≡ Some has.0) (sym has.1) (number_field-decimal has.0 has.2) in
      on_test _ (nat_le has.0 most_frames)
      (λ above.
      let found = rw (read, above) at is in
      let same : offence.Limit limit.Frames ≡ o = cc in
      let small : has.0 < 10 ^ 10 = has.2 in
      (sym same, has.0, (leb-false has.0 most_frames above, omega arith), has.1))
      (λ within. let none = rw (read, within) at is in cc)

  -- the number of a head's frames
  frames_number : length r ≡ 4 → AllByRecursion IsInForm (zip (forms_of b record_kind.Ccsuite r) (drop 1 r)) → HasNumber (field r 3)
  frames_number four forms =
      let all : r ≡ field r 0 ∷ field r 1 ∷ field r 2 ∷ field r 3 ∷ [] = fields_listed 4 r (eq-eqb (length r) 4 four) in
      let fields = subst (λ (fs : Record). AllByRecursion IsInForm (zip (forms_of b record_kind.Ccsuite r) fs)) (ap (drop 1) all) forms in
      let number = fields.1.1.0 in
      let high : number.0 ≤ 9999999999 = number.2 in
      (number.0, number.3, omega arith)

  -- where a record that is welcome offends
  welcome_offends : (k : RecordKind) → IsBegun b → IsWelcome b r k → (o : Offence) → first_offence (field_judgements b k r) ≡ Some o → RecordOffends b r o
  welcome_offends k begun welcome o is =
      let kinds = kind_judged b r k begun (has_cue b k welcome.stands.may) in
      let here : first_offence (count_judgement r kinds.count ∷ kinds.js) ≡ Some o = sym (kinds.judged welcome.few) ∙ is in
      on_test _ (length r == kinds.count)
      (λ other.
      let found = rw other at here in
      let same : offence.At (count_place kinds.count (length r)) why.Field ≡ o = cc in
      subst (RecordOffends b r) same (inr (inl (
        refl,
        record {
          kind = k;
          welcome = welcome;
          other = λ count. eqb-false (length r) kinds.count other (count ∙ sym kinds.count_is);
          place_is = place_of kinds.count (length r) ∙ ap (λ n. min (length r) n + 1) kinds.count_is;
        },
      ))))
      (λ counted.
      let count : length r ≡ length (forms_of b k r) + 1 = eqb-true (length r) kinds.count counted ∙ kinds.count_is in
      let rest : first_offence kinds.js ≡ Some o = rw counted at here in
      elim (told_some r kinds.tail 1 kinds.js (forms_of b k r) (omega arith) kinds.told o rest) [
        | inl found ↦
            subst (RecordOffends b r) (sym found.offence_is) (inr (inr (record {
              kind = k;
              form = found.form;
              text = found.text;
              welcome = welcome;
              count = count;
              first = found.first;
              place_is = omega arith;
              reason_is = found.reason_is;
            })))
        | inr all ↦
            elim kinds.tail_is [
              | inl none ↦ let never = sym (ap first_offence none) ∙ all.1 in cc
              | inr frames ↦
                  head_offends o welcome count frames.0 all.0 (sym (ap first_offence frames.1) ∙ all.1)
            ]
      ])
    where
      head_offends : (o : Offence) → IsWelcome b r k → length r ≡ length (forms_of b k r) + 1 → k ≡ record_kind.Ccsuite
          → AllByRecursion IsInForm (zip (forms_of b k r) (drop 1 r)) → first_offence (frames_bound r) ≡ Some o → RecordOffends b r o
      head_offends o welcome count same forms is =
          let own = subst (IsWelcome b r) same welcome in
          let four : length r ≡ 4 = subst (λ (kind : RecordKind). length r ≡ length (forms_of b kind r) + 1) same count in
          let fields = subst (λ (kind : RecordKind). AllByRecursion IsInForm (zip (forms_of b kind r) (drop 1 r))) same forms in
          let many = many_frames o is (frames_number four fields) in
          subst (RecordOffends b r) (sym many.0)
          (record { welcome = own; count = four; forms = fields; frames = many.1; many = many.2; spelled = many.3 })

  -- where the judgements stop, the record offends
  pub offends_told : IsBegun b → (o : Offence) → first_offence (judgements b r) ≡ Some o → RecordOffends b r o
  offends_told begun o is =
      on_value _ (record_kind_of (field r 0))
      (λ unknown.
      let found = rw unknown at is in
      let same : offence.At 1 why.Field ≡ o = cc in
      subst (RecordOffends b r) same (inl (refl, refl, λ k stands. let named = named_by r k stands.word in cc)))
      (λ k named.
      let word = kind_passed (field r 0) k named in
      on_test _ (may_stand b k)
      (λ not_here.
      let found = rw (named, not_here) at is in
      let same : offence.At 1 why.Field ≡ o = cc in
      subst (RecordOffends b r) same (inl (
        refl,
        refl,
        λ kind stands.
            let other = named_by r kind stands.word in
            let one : kind ≡ k = cc in
            let may = (may_told b k).1 (subst (MayStand b) one stands.may) in
            cc,
      )))
      (λ may.
      let stands : StandsAs b r k = record { word = word; may = (may_told b k).0 may } in
      let here = sym (stands_judged k stands) ∙ is in
      elim (opens_cases k) [
        | inl opens ↦
            let room = cue_room b r k opens in
            on_test _ (nat_lt (length (cues_of b)) most_cues)
            (λ full.
            let found = rw (room.1, full) at here in
            let same : offence.Limit limit.Cues ≡ o = cc in
            subst (RecordOffends b r) same (k, stands, opens, ltb-false (length (cues_of b)) most_cues full))
            (λ few. welcome_offends k begun (record { stands = stands; few = λ also. ltb-true (length (cues_of b)) most_cues few }) o here)
        | inr other ↦ welcome_offends k begun (record { stands = stands; few = λ opens. absurd (other opens) }) o here
      ]))

  -- and where it offends, they stop
  misformed_back : IsBegun b → (place : ℕ) (reason : Why) → IsMisformed b r place reason → first_offence (judgements b r) ≡ Some (offence.At place reason)
  misformed_back begun place reason is =
      let kinds = kind_judged b r is.kind begun (has_cue b is.kind is.welcome.stands.may) in
      let counted : (length r == kinds.count) ≡ true = eq-eqb (length r) kinds.count (is.count ∙ sym kinds.count_is) in
      let found : FirstMisformed r 1 (forms_of b is.kind r) (offence.At place reason) =
      record {
        form = is.form;
        text = is.text;
        first = is.first;
        reason = reason;
        offence_is = ap (λ n. offence.At n reason) (is.place_is ∙ omega arith);
        reason_is = is.reason_is;
      } in
      stands_judged is.kind is.welcome.stands ∙ kinds.judged is.welcome.few
      ∙ rw counted (told_back r kinds.tail 1 kinds.js (forms_of b is.kind r) (let count = is.count in omega arith) kinds.told (offence.At place reason) found)

  miscounted_back : IsBegun b → (place : ℕ) → IsMiscounted b r place → first_offence (judgements b r) ≡ Some (offence.At place why.Field)
  miscounted_back begun place is =
      let kinds = kind_judged b r is.kind begun (has_cue b is.kind is.welcome.stands.may) in
      let counted : (length r == kinds.count) ≡ false = ne_eqb (length r) kinds.count (λ same. is.other (same ∙ kinds.count_is)) in
      let place_is : count_place kinds.count (length r) ≡ place =
      place_of kinds.count (length r) ∙ ap (λ n. min (length r) n + 1) kinds.count_is ∙ sym is.place_is in
      stands_judged is.kind is.welcome.stands ∙ kinds.judged is.welcome.few ∙ rw counted (ap (λ n. Some (offence.At n why.Field)) place_is)

  frames_back : IsBegun b → HasManyFrames b r → first_offence (judgements b r) ≡ Some (offence.Limit limit.Frames)
  frames_back begun is =
      let counted : (length r == 4) ≡ true = eq-eqb (length r) 4 is.count in
      stands_judged record_kind.Ccsuite is.welcome.stands ∙ rw counted all_formed
    where
      number : HasNumber (field r 3)
      number = frames_number is.count is.forms

      small : is.frames < 10 ^ 10
      small = let high : is.frames ≤ 9999999999 = is.many.1 in omega arith

      past : first_offence (frames_bound r) ≡ None → ⊥
      past none =
          let read : number_field (field r 3) ≡ Some is.frames =
          subst (λ (t : Field). number_field t ≡ Some is.frames) (sym is.spelled) (number_field-decimal is.frames small) in
          let found = rw (read, lt-leb is.frames most_frames is.many.0) at none in
          cc

      all_formed : first_offence (after_first (head_judgements r)) ≡ Some (offence.Limit limit.Frames)
      all_formed =
          on_value _ (first_offence (after_first (head_judgements r)))
          (λ none. let bound = (told_none r (frames_bound r) 1 (after_first (head_judgements r)) (forms_of b record_kind.Ccsuite r) is.count (head_told b r) none).1 in absurd (past bound))
          (λ o stops.
          elim (told_some r (frames_bound r) 1 (after_first (head_judgements r)) (forms_of b record_kind.Ccsuite r) is.count (head_told b r) o stops) [
            | inl found ↦
                absurd (found.first.fails
                (holds_at IsInForm (zip (forms_of b record_kind.Ccsuite r) (drop 1 r)) found.first.before (found.form, found.text) found.first.after found.first.split
                is.forms))
            | inr all ↦ stops ∙ ap Some (many_frames o all.1 number).0
          ])

  misplaced_back : ((kind : RecordKind) → StandsAs b r kind → ⊥) → first_offence (judgements b r) ≡ Some (offence.At 1 why.Field)
  misplaced_back none =
      on_value _ (record_kind_of (field r 0)) (λ unknown. rw unknown refl)
      (λ k named.
      on_test _ (may_stand b k) (λ not_here. rw (named, not_here) refl)
      (λ may. absurd (none k (record { word = kind_passed (field r 0) k named; may = (may_told b k).0 may }))))

  pub offends_back : IsBegun b → (o : Offence) → RecordOffends b r o → first_offence (judgements b r) ≡ Some o
  offends_back begun (offence.Memory error) is = absurd is
  offends_back begun (offence.Limit limit.Cues) is =
      let (k, stands, opens, full) = is in
      let room = cue_room b r k opens in
      stands_judged k stands ∙ ap first_offence room.1 ∙ rw (le-ltb (length (cues_of b)) most_cues full) refl
  offends_back begun (offence.Limit limit.Frames) is = frames_back begun is
  offends_back begun (offence.Limit _) is = absurd is
  offends_back begun (offence.At place reason) (inl is) =
      misplaced_back is.2 ∙ ap (λ n. Some (offence.At n why.Field)) (sym is.0) ∙ ap (λ w. Some (offence.At place w)) (sym is.1)
  offends_back begun (offence.At place reason) (inr (inl is)) =
      miscounted_back begun place is.1 ∙ ap (λ w. Some (offence.At place w)) (sym is.0)
  offends_back begun (offence.At place reason) (inr (inr is)) = misformed_back begun place reason is
