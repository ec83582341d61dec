-- The judgements of a record, by its kind: after its number of fields, its fields in their order.
use Rattle.std.proofs.Common.{◌≡◌, ℕ, ◌+◌, ◌-◌, ◌<◌, ◌≤◌, ◌^◌, ◌==◌, nat_le, min, not, Bool, true, List, [], ◌∷◌, length, is_some, Option, Some, None, refl, sym, subst, arith, inl, inr, ◌⊎◌, lt-ltb, leb-true, le-leb}
use Rattle.std.specs.List.{list_any}
use Rattle.std.specs.Prelude.{Decides, IsSome, MatchOption}
use Rattle.cc_base.specs.Options.{passes}
use Rattle.cc_base.specs.declared.limit_of.LimitOf.TheVariants as limit
use Rattle.cc_base.specs.declared.why.Why.TheVariants as why
use Rattle.cue_form.specs.Begun.{Begun, IsBegun, IsCueBegun, cues_of}
use Rattle.cue_form.specs.FieldForms.{ChannelField, FieldForm, FillField, HasForm, HideField, LacksCode, NumberField, PenField, RateField, RgbField, ServiceField, VersionField, forms_of, run_forms, room_at, row_form}
use Rattle.cue_form.specs.Fields.{channel_field, fill_field, named, number_field, number_within, rate_field, rgb_field}
use Rattle.cue_form.specs.Form.{cue_columns, first_row, frame_or_none_field, last_row, run_pen_field, suits_row, version_words}
use Rattle.cue_form.specs.Judgements.{attribute_judgements, bound, colour_judgements, field_judgements, head_judgements, last_judgements, rolled_judgements, room_judgement, share_judgements, shown_judgements, window_judgements}
use Rattle.cue_form.specs.Offending.{OpensCue}
use Rattle.cue_form.specs.RecordJudgements.{Judgement, count_judgement, first_offence, judge, within}
use Rattle.cue_form.specs.Records.{Field, Record, field}
use Rattle.cue_types.specs.Cues.{IsOfKind}
use Rattle.cue_types.specs.Listing.{most_cues, most_frames}
use Rattle.cue_types.specs.Shares.{shares_taken}
use Rattle.cue_types.specs.declared.cue.Cue.{Cue}
use Rattle.cue_types.specs.declared.cue.Kind.{Kind}
use Rattle.cue_types.specs.declared.cue.Kind.TheVariants as kind
use Rattle.cue_types.specs.declared.cue.Run.{Run}
use Rattle.cue_form.specs.declared.record_kind.RecordKind.{RecordKind}
use Rattle.cue_form.specs.declared.record_kind.RecordKind.TheVariants as record_kind
use Rattle.cue_form.proofs.FirstForm.{AreTold}
use Rattle.cue_form.proofs.FormsTold.{IsTold, bytes_told, channel_told, fill_told, hide_told, number_told, one_told, pen_told, rate_told, rgb_told, row_told, service_told, text_group, text_told, two_told, version_told}
use Rattle.cue_form.proofs.Passing.{with_value}
use Rattle.cue_form.proofs.RecordNumberFacts.{number_field-decimal, number_passed}

-- a number is judged once, and so is every field but those that depend on others
number_is : (r : Record) (place low high : ℕ) → high < 10 ^ 10 → IsTold (within r place low high ∷ []) (NumberField low high) place (field r place)
number_is r place low high small =
    one_told (is_some (number_within low high (field r place))) (NumberField low high) place (field r place)
    (number_told low high (field r place) small) (λ lacks. lacks)

one_is : (r : Record) (place : ℕ) (b : Bool) (form : FieldForm) → Decides b (HasForm form (field r place)) → (LacksCode form (field r place) → ⊥)
    → IsTold (judge b (place + 1) why.Field ∷ []) form place (field r place)
one_is r place b form d plain = one_told b form place (field r place) d plain

-- the judgements after the first
abbrev pub after_first : List Judgement → List Judgement
after_first [] = []
after_first (j ∷ js) = js

-- FRAMES, whose limit is judged last
frames_told : (text : Field) → Decides (passes (nat_le 1) (number_field text)) (HasForm (NumberField 1 9999999999) text)
frames_told text = (
  λ good. with_value _ (number_field text) (λ none. let q = rw none at good in cc) (λ n is.
      let read = number_passed text n is in
      let some : nat_le 1 n ≡ true = rw is at good in
      (n, leb-true 1 n some, (let small = read.1 in omega arith), read.0)),
  λ has.
      let most : has.0 ≤ 9999999999 = has.2 in
      subst (λ (t : Field). passes (nat_le 1) (number_field t) ≡ true) (sym has.3)
      (rw (number_field-decimal has.0 (omega arith)) (le-leb 1 has.0 has.1)),
)

-- the limit of FRAMES
abbrev pub frames_bound : Record → List Judgement
frames_bound r = bound (passes (λ frames. nat_le frames most_frames) (number_field (field r 3))) limit.Frames ∷ []

pub head_told : (b : Begun) (r : Record) → AreTold r (frames_bound r) 1 (after_first (head_judgements r)) (forms_of b record_kind.Ccsuite r)
head_told b r = (
  judge (is_some (named version_words (field r 1))) 2 why.Field ∷ [],
  _,
  refl,
  one_is r 1 (is_some (named version_words (field r 1))) VersionField (version_told (field r 1)) (λ lacks. lacks),
  (
    judge (is_some (rate_field (field r 2))) 3 why.Field ∷ [],
    _,
    refl,
    one_is r 2 (is_some (rate_field (field r 2))) RateField (rate_told (field r 2)) (λ lacks. lacks),
    (
      judge (passes (nat_le 1) (number_field (field r 3))) 4 why.Field ∷ [],
      _,
      refl,
      one_is r 3 (passes (nat_le 1) (number_field (field r 3))) (NumberField 1 9999999999) (frames_told (field r 3)) (λ lacks. lacks),
      refl,
    ),
  ),
)

share_told : (b : Begun) (r : Record)
    → AreTold r [] 1 (after_first (share_judgements (room_at b.head) b.shares r)) (forms_of b record_kind.Share r)
share_told b r =
    let free : Bool = passes (λ service. not (list_any (λ share. share.service == service) b.shares)) (number_within 1 6 (field r 1)) in
    let fits : Bool = passes (λ bytes. nat_le (shares_taken b.shares + (bytes + 1)) (room_at b.head)) (number_within 8 31 (field r 2)) in (
      within r 1 1 6 ∷ judge free 2 why.Field ∷ [],
      _,
      refl,
      two_told (is_some (number_within 1 6 (field r 1))) free (ServiceField b.shares) 1 (field r 1) (service_told b.shares (field r 1)) (λ lacks. lacks),
      (
        within r 2 8 31 ∷ judge fits 3 why.Field ∷ [],
        _,
        refl,
        two_told (is_some (number_within 8 31 (field r 2))) fits (NumberField 8 (min 31 (room_at b.head - (shares_taken b.shares + 1)))) 2 (field r 2)
            (bytes_told b.shares (room_at b.head) (field r 2)) (λ lacks. lacks),
        refl,
      ),
    )

shown_told : (r : Record)
    → AreTold r [] 1 (after_first (shown_judgements r)) (ChannelField ∷ NumberField 0 4294967295 ∷ NumberField 0 4294967295 ∷ NumberField 0 4294967295 ∷ [])
shown_told r = (
  judge (is_some (channel_field (field r 1))) 2 why.Field ∷ [],
  _,
  refl,
  one_is r 1 (is_some (channel_field (field r 1))) ChannelField (channel_told (field r 1)) (λ lacks. lacks),
  (
    within r 2 0 4294967295 ∷ [],
    _,
    refl,
    number_is r 2 0 4294967295 (omega arith),
    (
      within r 3 0 4294967295 ∷ [],
      _,
      refl,
      number_is r 3 0 4294967295 (omega arith),
      (
        within r 4 0 4294967295 ∷ [],
        _,
        refl,
        number_is r 4 0 4294967295 (omega arith),
        refl,
      ),
    ),
  ),
)

rolled_told : (b : Begun) (r : Record) → AreTold r [] 1 (after_first (rolled_judgements r)) (forms_of b record_kind.Roll r)
rolled_told b r = (
  judge (is_some (channel_field (field r 1))) 2 why.Field ∷ [],
  _,
  refl,
  one_is r 1 (is_some (channel_field (field r 1))) ChannelField (channel_told (field r 1)) (λ lacks. lacks),
  (
    within r 2 2 4 ∷ [],
    _,
    refl,
    number_is r 2 2 4 (omega arith),
    (
      within r 3 0 4294967295 ∷ [],
      _,
      refl,
      number_is r 3 0 4294967295 (omega arith),
      (
        within r 4 0 4294967295 ∷ [],
        _,
        refl,
        number_is r 4 0 4294967295 (omega arith),
        (
          judge (is_some (frame_or_none_field (field r 5))) 6 why.Field ∷ [],
          _,
          refl,
          one_is r 5 (is_some (frame_or_none_field (field r 5))) HideField (hide_told (field r 5)) (λ lacks. lacks),
          refl,
        ),
      ),
    ),
  ),
)

win_told : (b : Begun) (r : Record) → AreTold r [] 1 (after_first (window_judgements r)) (forms_of b record_kind.Win r)
win_told b r = (
  within r 1 1 6 ∷ [],
  _,
  refl,
  number_is r 1 1 6 (omega arith),
  (
    within r 2 0 7 ∷ [],
    _,
    refl,
    number_is r 2 0 7 (omega arith),
    (
      within r 3 0 4294967295 ∷ [],
      _,
      refl,
      number_is r 3 0 4294967295 (omega arith),
      (
        within r 4 0 4294967295 ∷ [],
        _,
        refl,
        number_is r 4 0 4294967295 (omega arith),
        (
          within r 5 0 4294967295 ∷ [],
          _,
          refl,
          number_is r 5 0 4294967295 (omega arith),
          (
            within r 6 0 255 ∷ [],
            _,
            refl,
            number_is r 6 0 255 (omega arith),
            (
              within r 7 0 8 ∷ [],
              _,
              refl,
              number_is r 7 0 8 (omega arith),
              (
                within r 8 0 74 ∷ [],
                _,
                refl,
                number_is r 8 0 74 (omega arith),
                (
                  within r 9 0 209 ∷ [],
                  _,
                  refl,
                  number_is r 9 0 209 (omega arith),
                  (
                    within r 10 1 12 ∷ [],
                    _,
                    refl,
                    number_is r 10 1 12 (omega arith),
                    (
                      within r 11 1 42 ∷ [],
                      _,
                      refl,
                      number_is r 11 1 42 (omega arith),
                      (
                        within r 12 0 7 ∷ [],
                        _,
                        refl,
                        number_is r 12 0 7 (omega arith),
                        (
                          within r 13 1 7 ∷ [],
                          _,
                          refl,
                          number_is r 13 1 7 (omega arith),
                          (
                            within r 14 1 7 ∷ [],
                            _,
                            refl,
                            number_is r 14 1 7 (omega arith),
                            refl,
                          ),
                        ),
                      ),
                    ),
                  ),
                ),
              ),
            ),
          ),
        ),
      ),
    ),
  ),
)

attr_told : (b : Begun) (r : Record) → AreTold r [] 1 (after_first (attribute_judgements r)) (forms_of b record_kind.Attr r)
attr_told b r = (
  within r 1 0 3 ∷ [],
  _,
  refl,
  number_is r 1 0 3 (omega arith),
  (
    within r 2 0 3 ∷ [],
    _,
    refl,
    number_is r 2 0 3 (omega arith),
    (
      within r 3 0 3 ∷ [],
      _,
      refl,
      number_is r 3 0 3 (omega arith),
      (
        within r 4 0 1 ∷ [],
        _,
        refl,
        number_is r 4 0 1 (omega arith),
        (
          within r 5 0 2 ∷ [],
          _,
          refl,
          number_is r 5 0 2 (omega arith),
          (
            within r 6 0 3 ∷ [],
            _,
            refl,
            number_is r 6 0 3 (omega arith),
            (
              within r 7 0 15 ∷ [],
              _,
              refl,
              number_is r 7 0 15 (omega arith),
              (
                judge (is_some (fill_field (field r 8))) 9 why.Field ∷ [],
                _,
                refl,
                one_is r 8 (is_some (fill_field (field r 8))) FillField (fill_told (field r 8)) (λ lacks. lacks),
                (
                  within r 9 0 5 ∷ [],
                  _,
                  refl,
                  number_is r 9 0 5 (omega arith),
                  (
                    judge (is_some (rgb_field (field r 10))) 11 why.Field ∷ [],
                    _,
                    refl,
                    one_is r 10 (is_some (rgb_field (field r 10))) RgbField (rgb_told (field r 10)) (λ lacks. lacks),
                    refl,
                  ),
                ),
              ),
            ),
          ),
        ),
      ),
    ),
  ),
)

colour_told : (b : Begun) (r : Record) → AreTold r [] 1 (after_first (colour_judgements r)) (forms_of b record_kind.Colour r)
colour_told b r = (
  judge (is_some (fill_field (field r 1))) 2 why.Field ∷ [],
  _,
  refl,
  one_is r 1 (is_some (fill_field (field r 1))) FillField (fill_told (field r 1)) (λ lacks. lacks),
  (
    judge (is_some (fill_field (field r 2))) 3 why.Field ∷ [],
    _,
    refl,
    one_is r 2 (is_some (fill_field (field r 2))) FillField (fill_told (field r 2)) (λ lacks. lacks),
    (
      judge (is_some (rgb_field (field r 3))) 4 why.Field ∷ [],
      _,
      refl,
      one_is r 3 (is_some (rgb_field (field r 3))) RgbField (rgb_told (field r 3)) (λ lacks. lacks),
      refl,
    ),
  ),
)

-- rows and columns of a cue are few
small_rows : (k : Kind) (cue : Cue) → IsOfKind k cue.hide cue.runs → (last_row k < 10 ^ 10) × (cue_columns k < 10 ^ 10)
small_rows (kind.Pop channel) cue formed = (omega arith, omega arith)
small_rows (kind.Paint channel) cue formed = (omega arith, omega arith)
small_rows (kind.Roll channel rows) cue formed = (omega arith, omega arith)
small_rows (kind.Win window) cue formed =
    let most = formed.0.rows.1 in
    let wide = formed.0.cols.1 in
    (omega arith, omega arith)

run_told : (r : Record) (last : Option Cue) (earlier : List Cue) → MatchOption last (earlier ≡ []) IsCueBegun → IsSome last
    → AreTold r [] 1 (after_first (last_judgements last r)) (run_forms last r)
run_told r None earlier formed some = cc
run_told r (Some cue) earlier formed some =
    let small = small_rows cue.kind cue formed.kind in
    let wide : cue_columns cue.kind < 10 ^ 10 = small.1 in
    let row : Bool = is_some (number_within (first_row cue.kind) (last_row cue.kind) (field r 1)) in
    let suits : Bool = passes (suits_row cue.kind cue.runs) (number_within (first_row cue.kind) (last_row cue.kind) (field r 1)) in (
      within r 1 (first_row cue.kind) (last_row cue.kind) ∷ judge suits 2 why.Field ∷ [],
      _,
      refl,
      two_told row suits (row_form cue.kind cue.runs) 1 (field r 1) (row_told cue.kind cue.runs (field r 1) small.0) (plain_row cue),
      (
        within r 2 0 (cue_columns cue.kind - 1) ∷ [],
        _,
        refl,
        number_is r 2 0 (cue_columns cue.kind - 1) (omega arith),
        (
          judge (is_some (run_pen_field cue.kind (field r 3))) 4 why.Field ∷ [],
          _,
          refl,
          one_is r 3 (is_some (run_pen_field cue.kind (field r 3))) (PenField cue.kind) (pen_told cue.kind (field r 3)) (λ lacks. lacks),
          (text_group cue.kind r, [], refl, text_told cue.kind r wide, refl),
        ),
      ),
    )
  where
    plain_row : (cue : Cue) → LacksCode (row_form cue.kind cue.runs) (field r 1) → ⊥
    plain_row cue lacks = by_kind cue.kind cue.runs lacks
      where
        by_kind : (k : Kind) (runs : List Run) → LacksCode (row_form k runs) (field r 1) → ⊥
        by_kind (kind.Pop channel) runs lacks = lacks
        by_kind (kind.Paint channel) runs lacks = lacks
        by_kind (kind.Roll channel rows) [] lacks = lacks
        by_kind (kind.Roll channel rows) (run ∷ runs) lacks = lacks
        by_kind (kind.Win window) runs lacks = lacks

-- what is judged of a record of a kind: the number of its fields, its fields, and what is left
pub record KindJudged (b : Begun) (r : Record) (kind : RecordKind) : Type 0 where
  pub count : ℕ
  pub js : List Judgement
  pub tail : List Judgement
  pub judged : (OpensCue kind → length (cues_of b) < most_cues) → first_offence (field_judgements b kind r) ≡ first_offence (count_judgement r count ∷ js)
  pub told : AreTold r tail 1 js (forms_of b kind r)
  pub count_is : count ≡ length (forms_of b kind r) + 1
  pub tail_is : (tail ≡ []) ⊎ ((kind ≡ record_kind.Ccsuite) × (tail ≡ frames_bound r))

-- there is room for a cue
roomy : (b : Begun) (js : List Judgement) → length (cues_of b) < most_cues → first_offence (room_judgement b ∷ js) ≡ first_offence js
roomy b js few = rw (lt-ltb (length (cues_of b)) most_cues few) refl

-- a run stands below a cue
abbrev pub HasCueForRun : Begun → RecordKind → Type 0
HasCueForRun b record_kind.Run = IsSome b.last
HasCueForRun b _ = Unit {0}

pub kind_judged : (b : Begun) (r : Record) (k : RecordKind) → IsBegun b → HasCueForRun b k → KindJudged b r k
kind_judged b r record_kind.Ccsuite begun some = record {
  count = 4;
  js = after_first (head_judgements r);
  tail = frames_bound r;
  judged = λ few. refl;
  told = head_told b r;
  count_is = refl;
  tail_is = inr (refl, refl);
}
kind_judged b r record_kind.Share begun some = record {
  count = 3;
  js = after_first (share_judgements (room_at b.head) b.shares r);
  tail = [];
  judged = λ few. refl;
  told = share_told b r;
  count_is = refl;
  tail_is = inl refl;
}
kind_judged b r record_kind.Pop begun some = record {
  count = 5;
  js = after_first (shown_judgements r);
  tail = [];
  judged = λ few. roomy b (shown_judgements r) (few tt);
  told = shown_told r;
  count_is = refl;
  tail_is = inl refl;
}
kind_judged b r record_kind.Paint begun some = record {
  count = 5;
  js = after_first (shown_judgements r);
  tail = [];
  judged = λ few. roomy b (shown_judgements r) (few tt);
  told = shown_told r;
  count_is = refl;
  tail_is = inl refl;
}
kind_judged b r record_kind.Roll begun some = record {
  count = 6;
  js = after_first (rolled_judgements r);
  tail = [];
  judged = λ few. roomy b (rolled_judgements r) (few tt);
  told = rolled_told b r;
  count_is = refl;
  tail_is = inl refl;
}
kind_judged b r record_kind.Win begun some = record {
  count = 15;
  js = after_first (window_judgements r);
  tail = [];
  judged = λ few. roomy b (window_judgements r) (few tt);
  told = win_told b r;
  count_is = refl;
  tail_is = inl refl;
}
kind_judged b r record_kind.Attr begun some = record {
  count = 11;
  js = after_first (attribute_judgements r);
  tail = [];
  judged = λ few. refl;
  told = attr_told b r;
  count_is = refl;
  tail_is = inl refl;
}
kind_judged b r record_kind.Colour begun some = record {
  count = 4;
  js = after_first (colour_judgements r);
  tail = [];
  judged = λ few. refl;
  told = colour_told b r;
  count_is = refl;
  tail_is = inl refl;
}
kind_judged b r record_kind.Run begun some = record {
  count = 5;
  js = after_first (last_judgements b.last r);
  tail = [];
  judged = λ few. counted b.last some;
  told = run_told r b.last b.earlier begun.last some;
  count_is = five b.last some;
  tail_is = inl refl;
}
  where
    counted : (last : Option Cue) → IsSome last → first_offence (last_judgements last r) ≡ first_offence (count_judgement r 5 ∷ after_first (last_judgements last r))
    counted None some = cc
    counted (Some cue) some = refl

    five : (last : Option Cue) → IsSome last → 5 ≡ length (run_forms last r) + 1
    five None some = cc
    five (Some cue) some = refl
