-- Records that were read: what they have, and that they are the records that spell it.
use Rattle.std.proofs.Common.{◌≡◌, ◌+◌, ◌-◌, ◌<◌, ◌≤◌, ◌==◌, ◌^◌, ◌&&◌, Bool, true, false, not, nat_le, List, [], ◌∷◌, length, chars, ℕ, zero, suc, codes, All, IsSome, Option, Some, None, Ok, refl, sym, ap, subst, ◌∙◌, arith, eqb-true, leb-true, if◌then◌else◌}
use Rattle.std.specs.Prelude.{decimal, is_some, option_map, unwrap_or}
use Rattle.line21_codes.specs.Spellings.{spelling_of}
use Rattle.dtvcc_codes.specs.CharacterSpellings.{dtvcc_spelling as dtv_spelling_of}
use Rattle.std.specs.List.{list_any}
use Rattle.std.proofs.lemmas.Fmt.{decimal_digit}
use Rattle.std.proofs.lemmas.List.Elements.{All-nil}
use Rattle.cc_base.specs.Options.{passes}
use Rattle.dtvcc_codes.specs.Spellable.{IsFill, IsPenColors, IsRgb}
use Rattle.dtvcc_codes.specs.declared.pens.Fill.{Fill}
use Rattle.dtvcc_codes.specs.declared.pens.PenColors.{PenColors}
use Rattle.dtvcc_codes.specs.declared.pens.Rgb.{Rgb}
use Rattle.dtvcc_codes.specs.declared.windows.WinAttr.{WinAttr}
use Rattle.line21_codes.specs.declared.channels.Chan.{Chan}
use Rattle.line21_codes.specs.declared.channels.Chan.TheVariants as chan
use Rattle.line21_codes.specs.Channels.{channel_name}
use Rattle.cue_form.specs.Begun.{IsCueBegun, IsPlain}
use Rattle.cue_types.specs.Listing.{IsListRate, most_frames}
use Rattle.cue_types.specs.Cues.{IsFrameOrNone, IsOfKind}
use Rattle.cue_types.specs.Line21Cues.{IsAuthoredChannel, IsLine21Pen, IsLine21Run, IsRolled}
use Rattle.cue_types.specs.Shares.{IsShare, shares_taken}
use Rattle.cue_types.specs.Windows.{AreWindowAttributes, IsWindow, IsWindowRun}
use Rattle.cue_form.specs.Fields.{channel_field, fill_field, frame_field, is_two_bits, named, number_field, number_within, pen_field, rate_field, rgb_field}
use Rattle.cue_form.specs.Form.{cue_columns, first_row, frame_or_none_field, is_coded, last_row, run_pen_field, suits_row, version_words}
use Rattle.cue_form.specs.Judgements.{attribute_judgements, colour_judgements, head_judgements, rolled_judgements, run_judgements, share_judgements, shown_judgements, window_judgements}
use Rattle.cue_form.specs.Reading.{attributes_of, colours_of, cue_of, head_of, number, record_fill, rgb, rolled_cue_of, run_of, share_record_of, shown_cue_of, window_cue_of}
use Rattle.cue_form.specs.Records.{Field, Record, field}
use Rattle.cue_form.specs.Spelling.{attribute_record, colour_record, cue_record, fill_word, head_record, hide_word, pen_word, rgb_word, run_record, share_record}
use Rattle.cue_types.specs.declared.cue.Cue.{Cue}
use Rattle.cue_types.specs.declared.cue.Kind.{Kind}
use Rattle.cue_types.specs.declared.cue.Kind.TheVariants as kind
use Rattle.cue_types.specs.declared.cue.Pen.{Pen}
use Rattle.cue_types.specs.declared.cue.Pen.TheVariants as pen
use Rattle.cue_types.specs.declared.cue.Run.{Run}
use Rattle.cue_types.specs.declared.cue.WinCue.{WinCue}
use Rattle.cue_types.specs.declared.head.Head.{Head}
use Rattle.cue_types.specs.declared.list.Share.{Share}
use Rattle.cue_form.specs.declared.record_kind.RecordKind.{RecordKind}
use Rattle.cue_form.specs.declared.record_kind.RecordKind.TheVariants as record_kind
use Rattle.cue_form.proofs.Goodness.{good_of}
use Rattle.cue_form.proofs.NumberFacts.{frame_passed}
use Rattle.cue_form.proofs.FieldFacts.{field_is, fields_listed}
use Rattle.cue_form.proofs.RecordNumberFacts.{number_good, number_passed, within_passed}
use Rattle.cue_form.proofs.Passing.{both_of, not_of, on_test, with_value}
use Rattle.cue_form.proofs.TextFacts.{TextPassed, text_passed}
use Rattle.cue_form.proofs.WordFacts.{channel_passed, kind_word, pen_passed, rate_passed, version_passed, window_pen_passed}

-- the number of a frame
pub frame_good : (text : Field) → is_some (frame_field text) ≡ true → (text ≡ decimal (unwrap_or (frame_field text) 0)) × (unwrap_or (frame_field text) 0 < 2 ^ 32)
frame_good text good = with_value _ (frame_field text) (λ none. let q = rw none at good in cc) (λ n is. rw is (frame_passed text n is))

-- a channel
pub channel_good : (text : Field) → is_some (channel_field text) ≡ true
    → IsAuthoredChannel (unwrap_or (channel_field text) chan.Cc1) × (text ≡ channel_name (unwrap_or (channel_field text) chan.Cc1))
channel_good text good = with_value _ (channel_field text) (λ none. let q = rw none at good in cc) (λ c is. rw is (channel_passed text c is))

-- a digit from 0 to 3
digit_good : (c : ℕ) → is_two_bits c ≡ true → (c ∷ [] ≡ decimal (c - 48)) × (c - 48 < 4)
digit_good c good =
    let (low, high) = both_of (nat_le 48 c) (nat_le c 51) good in
    let above = leb-true 48 c low in
    let below = leb-true c 51 high in
    let small : c - 48 < 4 = omega arith in
    let back : 48 + (c - 48) ≡ c = omega arith in
    (sym (decimal_digit (c - 48) (omega arith) ∙ ap (λ x. x ∷ []) back), small)

-- a colour of its digits
pub rgb_passed : (text : Field) (value : Rgb) → rgb_field text ≡ Some value → (text ≡ rgb_word value) × IsRgb value
rgb_passed [] value e = cc
rgb_passed (r ∷ []) value e = cc
rgb_passed (r ∷ (g ∷ [])) value e = cc
rgb_passed (r ∷ (g ∷ (b ∷ (x ∷ more)))) value e = cc
rgb_passed (r ∷ (g ∷ (b ∷ []))) value e =
    on_test _ (is_two_bits r && is_two_bits g && is_two_bits b) (λ f. let q = rw f at e in cc) (λ t.
    let e1 = rw t at e in
    let same : record { r = r - 48; g = g - 48; b = b - 48 } ≡ value = cc in
    let (rg, b_good) = both_of (is_two_bits r && is_two_bits g) (is_two_bits b) t in
    let (r_good, g_good) = both_of (is_two_bits r) (is_two_bits g) rg in
    let (r_is, r_small) = digit_good r r_good in
    let (g_is, g_small) = digit_good g g_good in
    let (b_is, b_small) = digit_good b b_good in
    rw (← same) (rw (← r_is, ← g_is, ← b_is) refl, record { r = r_small; g = g_small; b = b_small }))

pub fill_passed : (text : Field) (value : Fill) → fill_field text ≡ Some value → (text ≡ fill_word value) × IsFill value
fill_passed [] value e = cc
fill_passed (o ∷ []) value e = cc
fill_passed (o ∷ (r ∷ [])) value e = cc
fill_passed (o ∷ (r ∷ (g ∷ []))) value e = cc
fill_passed (o ∷ (r ∷ (g ∷ (b ∷ (x ∷ more))))) value e = cc
fill_passed (o ∷ (r ∷ (g ∷ (b ∷ [])))) value e =
    on_test _ (is_two_bits o && is_two_bits r && is_two_bits g && is_two_bits b) (λ f. let q = rw f at e in cc) (λ t.
    let e1 = rw t at e in
    let same : record { opacity = o - 48; r = r - 48; g = g - 48; b = b - 48 } ≡ value = cc in
    let (org, b_good) = both_of (is_two_bits o && is_two_bits r && is_two_bits g) (is_two_bits b) t in
    let (pair, g_good) = both_of (is_two_bits o && is_two_bits r) (is_two_bits g) org in
    let (o_good, r_good) = both_of (is_two_bits o) (is_two_bits r) pair in
    let (o_is, o_small) = digit_good o o_good in
    let (r_is, r_small) = digit_good r r_good in
    let (g_is, g_small) = digit_good g g_good in
    let (b_is, b_small) = digit_good b b_good in
    rw (← same) (rw (← o_is, ← r_is, ← g_is, ← b_is) refl, record { opacity = o_small; r = r_small; g = g_small; b = b_small }))

pub rgb_good : (r : Record) (place : ℕ) → is_some (rgb_field (field r place)) ≡ true → (field r place ≡ rgb_word (rgb r place)) × IsRgb (rgb r place)
rgb_good r place good = with_value _ (rgb_field (field r place)) (λ none. let q = rw none at good in cc) (λ value is. rw is (rgb_passed (field r place) value is))

pub fill_good : (r : Record) (place : ℕ) → is_some (fill_field (field r place)) ≡ true → (field r place ≡ fill_word (record_fill r place)) × IsFill (record_fill r place)
fill_good r place good = with_value _ (fill_field (field r place)) (λ none. let q = rw none at good in cc) (λ value is. rw is (fill_passed (field r place) value is))

-- what a head has
pub record HeadPassed (r : Record) (head : Head) : Type 0 where
  pub rate : IsListRate head.rate
  pub some : 1 ≤ head.frames
  pub frames : head.frames ≤ most_frames
  pub spelled : field r 0 ≡ codes "ccsuite" → r ≡ head_record head

-- the parts of a head
frames_good : (text : Field) → passes (nat_le 1) (number_field text) ≡ true → passes (λ n. nat_le n most_frames) (number_field text) ≡ true
    → (text ≡ decimal (unwrap_or (number_field text) 0)) × (1 ≤ unwrap_or (number_field text) 0) × (unwrap_or (number_field text) 0 ≤ most_frames)
frames_good text low high =
    with_value _ (number_field text) (λ none. let q = rw none at low in cc) (λ n is.
    rw is ((number_passed text n is).0, leb-true 1 n (rw is at low), leb-true n most_frames (rw is at high)))

pub head_passed : (r : Record) (head : Head) → head_of r ≡ Ok head → HeadPassed r head
head_passed r head e =
    let (good, same) = good_of (head_judgements r) _ head e in
    with_value _ (named version_words (field r 1)) (λ none. let q = rw none at good.1.0 in cc) (λ v is_version.
    with_value _ (rate_field (field r 2)) (λ none. let q = rw none at good.1.1.0 in cc) (λ rate is_rate.
    let rated = rate_passed (field r 2) rate is_rate in
    let numbered = frames_good (field r 3) good.1.1.1.0 good.1.1.1.1.0 in
    let all : r ≡ field r 0 ∷ field r 1 ∷ field r 2 ∷ field r 3 ∷ [] = fields_listed 4 r good.0 in
    subst (HeadPassed r) same (rw (is_version, is_rate) (record {
      rate = rated.0;
      some = numbered.1;
      frames = numbered.2;
      spelled = λ is. all ∙ field_is is (field_is (version_passed (field r 1) v is_version) (field_is rated.1 (field_is numbered.0 refl)));
    }))))

-- what a share has
pub record SharePassed (room : ℕ) (shares : List Share) (r : Record) (share : Share) : Type 0 where
  pub formed : IsShare share
  pub other : list_any (λ former. former.service == share.service) shares ≡ false
  pub fits : shares_taken shares + (share.bytes + 1) ≤ room
  pub spelled : field r 0 ≡ codes "share" → r ≡ share_record share

pub share_passed : (room : ℕ) (shares : List Share) (r : Record) (share : Share) → share_record_of room shares r ≡ Ok share → SharePassed room shares r share
share_passed room shares r share e =
    let (good, same) = good_of (share_judgements room shares r) _ share e in
    with_value _ (number_within 1 6 (field r 1)) (λ none. let q = rw none at good.1.0 in cc) (λ service is_service.
    with_value _ (number_within 8 31 (field r 2)) (λ none. let q = rw none at good.1.1.1.0 in cc) (λ bytes is_bytes.
    let at_service = within_passed 1 6 (field r 1) service is_service in
    let at_bytes = within_passed 8 31 (field r 2) bytes is_bytes in
    let other : not (list_any (λ (former : Share). former.service == service) shares) ≡ true = rw is_service at good.1.1.0 in
    let fits : nat_le (shares_taken shares + (bytes + 1)) room ≡ true = rw is_bytes at good.1.1.1.1.0 in
    let all : r ≡ field r 0 ∷ field r 1 ∷ field r 2 ∷ [] = fields_listed 3 r good.0 in
    subst (SharePassed room shares r) same (rw (is_service, is_bytes) (record {
      formed = record { service = (at_service.1, at_service.2); bytes = (at_bytes.1, at_bytes.2) };
      other = not_of (list_any (λ (former : Share). former.service == service) shares) other;
      fits = leb-true (shares_taken shares + (bytes + 1)) room fits;
      spelled = λ is. all ∙ field_is is (field_is at_service.0 (field_is at_bytes.0 refl));
    }))))

-- what a cue's record has: a cue, still without a run, that the record spells
pub record CuePassed (k : RecordKind) (r : Record) (cue : Cue) : Type 0 where
  pub begun : IsCueBegun cue
  pub plain : IsPlain cue
  pub runs : cue.runs ≡ []
  pub spelled : field r 0 ≡ kind_word k → r ≡ cue_record cue.kind cue

no_own : All (λ (run : Run). run.colors ≡ None) []
no_own = All-nil (λ (run : Run). run.colors ≡ None)

pop_passed : (r : Record) (cue : Cue) → shown_cue_of kind.Pop r ≡ Ok cue → CuePassed record_kind.Pop r cue
pop_passed r cue e =
    let (good, same) = good_of (shown_judgements r) _ cue e in
    let at_channel = channel_good (field r 1) good.1.0 in
    let at_load = frame_good (field r 2) good.1.1.0 in
    let at_show = frame_good (field r 3) good.1.1.1.0 in
    let at_hide = frame_good (field r 4) good.1.1.1.1.0 in
    let all : r ≡ field r 0 ∷ field r 1 ∷ field r 2 ∷ field r 3 ∷ field r 4 ∷ [] = fields_listed 5 r good.0 in
    subst (CuePassed record_kind.Pop r) same (record {
      begun = record { load = at_load.1; show = at_show.1; hide = at_hide.1; kind = (at_channel.0, refl, All-nil IsLine21Run) };
      plain = record { kind = tt; runs = no_own };
      runs = refl;
      spelled = λ is. all ∙ field_is is (field_is at_channel.1 (field_is at_load.0 (field_is at_show.0 (field_is at_hide.0 refl))));
    })

paint_passed : (r : Record) (cue : Cue) → shown_cue_of kind.Paint r ≡ Ok cue → CuePassed record_kind.Paint r cue
paint_passed r cue e =
    let (good, same) = good_of (shown_judgements r) _ cue e in
    let at_channel = channel_good (field r 1) good.1.0 in
    let at_load = frame_good (field r 2) good.1.1.0 in
    let at_show = frame_good (field r 3) good.1.1.1.0 in
    let at_hide = frame_good (field r 4) good.1.1.1.1.0 in
    let all : r ≡ field r 0 ∷ field r 1 ∷ field r 2 ∷ field r 3 ∷ field r 4 ∷ [] = fields_listed 5 r good.0 in
    subst (CuePassed record_kind.Paint r) same (record {
      begun = record { load = at_load.1; show = at_show.1; hide = at_hide.1; kind = (at_channel.0, refl, All-nil IsLine21Run) };
      plain = record { kind = tt; runs = no_own };
      runs = refl;
      spelled = λ is. all ∙ field_is is (field_is at_channel.1 (field_is at_load.0 (field_is at_show.0 (field_is at_hide.0 refl))));
    })

-- a HIDE that may be empty
pub frame_or_none_passed : (text : Field) (hide : Option ℕ) → frame_or_none_field text ≡ Some hide → (text ≡ hide_word hide) × IsFrameOrNone hide
frame_or_none_passed text hide e = on_test _ (length text == 0)
    (λ more. let e1 = rw more at e in
    with_value _ (frame_field text) (λ failed. let q = rw failed at e1 in cc) (λ frame is.
    let e2 = rw is at e1 in
    let same : Some frame ≡ hide = cc in
    rw (← same) (frame_passed text frame is)))
    (λ none. let e1 = rw none at e in
    let same : None ≡ hide = cc in
    rw (← same) (length_zero text (eqb-true (length text) 0 none), tt))
  where
    length_zero : (text : Field) → length text ≡ 0 → text ≡ []
    length_zero [] e = refl
    length_zero (c ∷ cs) e = absurd (omega arith)

hide_good : (text : Field) → is_some (frame_or_none_field text) ≡ true
    → (text ≡ hide_word (unwrap_or (frame_or_none_field text) None)) × IsFrameOrNone (unwrap_or (frame_or_none_field text) None)
hide_good text good = with_value _ (frame_or_none_field text) (λ none. let q = rw none at good in cc) (λ hide is. rw is (frame_or_none_passed text hide is))

rolled_passed : (r : Record) (cue : Cue) → rolled_cue_of r ≡ Ok cue → CuePassed record_kind.Roll r cue
rolled_passed r cue e =
    let (good, same) = good_of (rolled_judgements r) _ cue e in
    let at_channel = channel_good (field r 1) good.1.0 in
    let at_rows = number_good 2 4 (field r 2) good.1.1.0 in
    let at_load = frame_good (field r 3) good.1.1.1.0 in
    let at_show = frame_good (field r 4) good.1.1.1.1.0 in
    let at_hide = hide_good (field r 5) good.1.1.1.1.1.0 in
    let rolled : IsRolled (number r 2 2 4) [] = record { number = (at_rows.1, at_rows.2); one_row = All-nil _; room = All-nil _ } in
    let all : r ≡ field r 0 ∷ field r 1 ∷ field r 2 ∷ field r 3 ∷ field r 4 ∷ field r 5 ∷ [] = fields_listed 6 r good.0 in
    subst (CuePassed record_kind.Roll r) same (record {
      begun = record { load = at_load.1; show = at_show.1; hide = at_hide.1; kind = (at_channel.0, rolled, All-nil IsLine21Run) };
      plain = record { kind = tt; runs = no_own };
      runs = refl;
      spelled = λ is. all ∙ field_is is (field_is at_channel.1 (field_is at_rows.0 (field_is at_load.0 (field_is at_show.0 (field_is at_hide.0 refl)))));
    })

window_passed : (r : Record) (cue : Cue) → window_cue_of r ≡ Ok cue → CuePassed record_kind.Win r cue
window_passed r cue e =
    let (good, same) = good_of (window_judgements r) _ cue e in
    let g1 = good.1 in
    let service = number_good 1 6 (field r 1) g1.0 in
    let id = number_good 0 7 (field r 2) g1.1.0 in
    let g3 = g1.1.1 in
    let load = frame_good (field r 3) g3.0 in
    let show = frame_good (field r 4) g3.1.0 in
    let g5 = g3.1.1 in
    let hide = frame_good (field r 5) g5.0 in
    let delay = number_good 0 255 (field r 6) g5.1.0 in
    let g7 = g5.1.1 in
    let anchor = number_good 0 8 (field r 7) g7.0 in
    let av = number_good 0 74 (field r 8) g7.1.0 in
    let g9 = g7.1.1 in
    let ah = number_good 0 209 (field r 9) g9.0 in
    let rows = number_good 1 12 (field r 10) g9.1.0 in
    let g11 = g9.1.1 in
    let cols = number_good 1 42 (field r 11) g11.0 in
    let priority = number_good 0 7 (field r 12) g11.1.0 in
    let g13 = g11.1.1 in
    let ws = number_good 1 7 (field r 13) g13.0 in
    let ps = number_good 1 7 (field r 14) g13.1.0 in
    let all : r ≡ field r 0 ∷ field r 1 ∷ field r 2 ∷ field r 3 ∷ field r 4 ∷ field r 5 ∷ field r 6 ∷ field r 7 ∷ field r 8 ∷ field r 9 ∷ field r 10 ∷ field r 11 ∷ field r 12 ∷ field r 13 ∷ field r 14 ∷ [] =
    fields_listed 15 r good.0 in
    subst (CuePassed record_kind.Win r) same (record {
      begun = record {
        load = load.1;
        show = show.1;
        hide = hide.1;
        kind = (
          record {
            service = (service.1, service.2);
            id = id.2;
            delay = delay.2;
            anchor = anchor.2;
            av = av.2;
            ah = ah.2;
            rows = (rows.1, rows.2);
            cols = (cols.1, cols.2);
            priority = priority.2;
            ws = (ws.1, ws.2);
            ps = (ps.1, ps.2);
            attr = tt;
          },
          refl,
          All-nil _,
        );
      };
      plain = record { kind = refl; runs = no_own };
      runs = refl;
      spelled = λ is. all ∙ field_is is (field_is service.0 (field_is id.0 (field_is load.0 (field_is show.0 (field_is hide.0 (field_is delay.0 (field_is anchor.0
          (field_is av.0 (field_is ah.0 (field_is rows.0 (field_is cols.0 (field_is priority.0 (field_is ws.0 (field_is ps.0 refl))))))))))))));
    })

-- a record that opens a cue
abbrev pub opens_cue : RecordKind → Bool
opens_cue record_kind.Pop = true
opens_cue record_kind.Paint = true
opens_cue record_kind.Roll = true
opens_cue record_kind.Win = true
opens_cue _ = false

pub cue_passed : (k : RecordKind) (r : Record) (cue : Cue) → opens_cue k ≡ true → cue_of k r ≡ Ok cue → CuePassed k r cue
cue_passed record_kind.Pop r cue opens e = pop_passed r cue e
cue_passed record_kind.Paint r cue opens e = paint_passed r cue e
cue_passed record_kind.Roll r cue opens e = rolled_passed r cue e
cue_passed record_kind.Win r cue opens e = window_passed r cue e
cue_passed record_kind.Ccsuite r cue opens e = cc
cue_passed record_kind.Share r cue opens e = cc
cue_passed record_kind.Attr r cue opens e = cc
cue_passed record_kind.Run r cue opens e = cc
cue_passed record_kind.Colour r cue opens e = cc

-- what attributes have
pub record AttributesPassed (r : Record) (attributes : WinAttr) : Type 0 where
  pub formed : AreWindowAttributes attributes
  pub spelled : field r 0 ≡ codes "attr" → r ≡ attribute_record attributes

-- the word of a wrap
wrap_is : (n : ℕ) → n ≤ 1 → n ≡ (if n == 1 then 1 else 0)
wrap_is zero small = refl
wrap_is (suc zero) small = refl
wrap_is (suc (suc n)) small = absurd (omega arith)

pub attributes_passed : (r : Record) (attributes : WinAttr) → attributes_of r ≡ Ok attributes → AttributesPassed r attributes
attributes_passed r attributes e =
    let (good, same) = good_of (attribute_judgements r) _ attributes e in
    let g1 = good.1 in
    let justify = number_good 0 3 (field r 1) g1.0 in
    let print = number_good 0 3 (field r 2) g1.1.0 in
    let g3 = g1.1.1 in
    let scroll = number_good 0 3 (field r 3) g3.0 in
    let wrap = number_good 0 1 (field r 4) g3.1.0 in
    let g5 = g3.1.1 in
    let effect = number_good 0 2 (field r 5) g5.0 in
    let dir = number_good 0 3 (field r 6) g5.1.0 in
    let g7 = g5.1.1 in
    let speed = number_good 0 15 (field r 7) g7.0 in
    let at_fill = fill_good r 8 g7.1.0 in
    let g9 = g7.1.1 in
    let border_kind = number_good 0 5 (field r 9) g9.0 in
    let border = rgb_good r 10 g9.1.0 in
    let wraps : field r 4 ≡ decimal (if number r 4 0 1 == 1 then 1 else 0) = wrap.0 ∙ ap decimal (wrap_is (number r 4 0 1) wrap.2) in
    let all : r ≡ field r 0 ∷ field r 1 ∷ field r 2 ∷ field r 3 ∷ field r 4 ∷ field r 5 ∷ field r 6 ∷ field r 7 ∷ field r 8 ∷ field r 9 ∷ field r 10 ∷ [] = fields_listed 11 r good.0 in
    subst (AttributesPassed r) same (record {
      formed = record {
        spellable = record {
          justify = up justify.2;
          print = up print.2;
          scroll = up scroll.2;
          effect = up (lower effect.2);
          effect_dir = up dir.2;
          effect_speed = upto speed.2;
          fill = at_fill.1;
          border_kind = within_eight border_kind.2;
          border = border.1;
        };
        effect = effect.2;
        border_kind = border_kind.2;
      };
      spelled = λ is. all ∙ field_is is (field_is justify.0 (field_is print.0 (field_is scroll.0 (field_is wraps (field_is effect.0 (field_is dir.0 (field_is speed.0
          (field_is at_fill.0 (field_is border_kind.0 (field_is border.0 refl))))))))));
    })
  where
    up : {n : ℕ} → n ≤ 3 → n < 4
    up below = omega arith

    lower : {n : ℕ} → n ≤ 2 → n ≤ 3
    lower below = omega arith

    upto : {n : ℕ} → n ≤ 15 → n < 16
    upto below = omega arith

    within_eight : {n : ℕ} → n ≤ 5 → n < 8
    within_eight below = omega arith

-- what colours have
pub record ColoursPassed (r : Record) (colours : PenColors) : Type 0 where
  pub formed : IsPenColors colours
  pub spelled : field r 0 ≡ codes "colour" → r ≡ colour_record colours

pub colours_passed : (r : Record) (colours : PenColors) → colours_of r ≡ Ok colours → ColoursPassed r colours
colours_passed r colours e =
    let (good, same) = good_of (colour_judgements r) _ colours e in
    let fg = fill_good r 1 good.1.0 in
    let bg = fill_good r 2 good.1.1.0 in
    let edge = rgb_good r 3 good.1.1.1.0 in
    let all : r ≡ field r 0 ∷ field r 1 ∷ field r 2 ∷ field r 3 ∷ [] = fields_listed 4 r good.0 in
    subst (ColoursPassed r) same (record {
      formed = record { fg = fg.1; bg = bg.1; edge = edge.1 };
      spelled = λ is. all ∙ field_is is (field_is fg.0 (field_is bg.0 (field_is edge.0 refl)));
    })

-- a run that suits cues of its kind
abbrev pub IsRunOf : Kind → Run → Type 0
IsRunOf (kind.Pop channel) run = IsLine21Run run
IsRunOf (kind.Paint channel) run = IsLine21Run run
IsRunOf (kind.Roll channel rows) run = IsLine21Run run
IsRunOf (kind.Win window) run = IsWindowRun window run

-- what a run has
pub record RunPassed (k : Kind) (runs : List Run) (r : Record) (run : Run) : Type 0 where
  pub formed : IsRunOf k run
  pub suits : suits_row k runs run.row ≡ true
  pub plain : run.colors ≡ None
  pub spelled : field r 0 ≡ codes "run" → r ≡ run_record run

-- the parts of a run, by its kind
record PartsPassed (k : Kind) (runs : List Run) (r : Record) (row col : ℕ) (p : Pen) (text : List ℕ) : Type 0 where
  in_row : (field r 1 ≡ decimal row) × (first_row k ≤ row) × (row ≤ last_row k)
  suits : suits_row k runs row ≡ true
  in_col : (field r 2 ≡ decimal col) × (0 ≤ col) × (col ≤ cue_columns k - 1)
  pen : run_pen_field k (field r 3) ≡ Some p
  written : TextPassed k col (field r 4) text
  all : r ≡ field r 0 ∷ field r 1 ∷ field r 2 ∷ field r 3 ∷ field r 4 ∷ []

-- a run without colours of its own
abbrev plain_run : ℕ → ℕ → Pen → List ℕ → Run
plain_run row col p text = record { row = row; col = col; pen = p; text = text; colors = None }

run_parts : (P : Type 0) (k : Kind) (runs : List Run) (r : Record) (run : Run) → run_of k runs r ≡ Ok run
    → ((row col : ℕ) (p : Pen) (text : List ℕ) → PartsPassed k runs r row col p text → plain_run row col p text ≡ run → P) → P
run_parts P k runs r run e rest =
    let (good, same) = good_of (run_judgements k runs r) _ run e in
    let g2 = good.1.1 in
    let g4 = g2.1.1 in
    let g5 = g4.1 in
    with_value P (number_within (first_row k) (last_row k) (field r 1)) (λ none. let q = rw none at good.1.0 in cc) (λ row is_row.
    with_value P (number_within 0 (cue_columns k - 1) (field r 2)) (λ none. let q = rw none at g2.1.0 in cc) (λ col is_col.
    with_value P (run_pen_field k (field r 3)) (λ none. let q = rw none at g4.0 in cc) (λ p is_pen.
    rest row col p (chars (field r 4)) (record {
      in_row = within_passed (first_row k) (last_row k) (field r 1) row is_row;
      suits = let suits : suits_row k runs row ≡ true = rw is_row at g2.0 in suits;
      in_col = within_passed 0 (cue_columns k - 1) (field r 2) col is_col;
      pen = is_pen;
      written = text_passed k col (field r 4) g5.0 g5.1.0 (let fits : nat_le (col + length (chars (field r 4))) (cue_columns k) ≡ true = rw is_col at g5.1.1.0 in fits);
      all = fields_listed 5 r good.0;
    }) (rw (is_row, is_col, is_pen) at same))))

-- a run of line 21
pub line21_pen : (text : Field) (p : Pen) → option_map (λ style. pen.Line21 style) (pen_field text) ≡ Some p → IsLine21Pen p × (text ≡ pen_word p)
line21_pen text p e =
    with_value _ (pen_field text) (λ none. let q = rw none at e in cc) (λ style is.
    let e1 = rw is at e in
    let same : pen.Line21 style ≡ p = cc in
    rw (← same) (pen_passed text style is))

-- the characters that have a code
pub coded_pop : (channel : Chan) (ch : ℕ) → is_coded (kind.Pop channel) ch ≡ true → IsSome (spelling_of ch)
unfolding is_coded
coded_pop channel ch e = e

pub coded_paint : (channel : Chan) (ch : ℕ) → is_coded (kind.Paint channel) ch ≡ true → IsSome (spelling_of ch)
unfolding is_coded
coded_paint channel ch e = e

pub coded_roll : (channel : Chan) (rows ch : ℕ) → is_coded (kind.Roll channel rows) ch ≡ true → IsSome (spelling_of ch)
unfolding is_coded
coded_roll channel rows ch e = e

pub coded_window : (window : WinCue) (ch : ℕ) → is_coded (kind.Win window) ch ≡ true → IsSome (dtv_spelling_of ch)
unfolding is_coded
coded_window window ch e = e

formed_of : (k : Kind) (hide : Option ℕ) (runs before : List Run) (r : Record) (row col : ℕ) (p : Pen) (text : List ℕ) → IsOfKind k hide before
    → PartsPassed k runs r row col p text → IsRunOf k (plain_run row col p text)
formed_of (kind.Pop on) hide runs before r row col p text of_kind at =
    record {
      row = (at.in_row.1, at.in_row.2);
      col = at.in_col.2;
      pen = (line21_pen (field r 3) p at.pen).0;
      some = at.written.some;
      fits = at.written.fits;
      coded = λ i d within. coded_pop on _ (at.written.coded i d within);
      colors = refl;
    }
formed_of (kind.Paint on) hide runs before r row col p text of_kind at =
    record {
      row = (at.in_row.1, at.in_row.2);
      col = at.in_col.2;
      pen = (line21_pen (field r 3) p at.pen).0;
      some = at.written.some;
      fits = at.written.fits;
      coded = λ i d within. coded_paint on _ (at.written.coded i d within);
      colors = refl;
    }
formed_of (kind.Roll on rows) hide runs before r row col p text of_kind at =
    record {
      row = (at.in_row.1, at.in_row.2);
      col = at.in_col.2;
      pen = (line21_pen (field r 3) p at.pen).0;
      some = at.written.some;
      fits = at.written.fits;
      coded = λ i d within. coded_roll on rows _ (at.written.coded i d within);
      colors = refl;
    }
formed_of (kind.Win window) hide runs before r row col p text of_kind at =
    let formed : IsWindow window = of_kind.0 in
    let row_low : row ≤ window.rows - 1 = at.in_row.2 in
    let col_low : col ≤ window.cols - 1 = at.in_col.2 in
    record {
      row = omega (arith, formed.rows.0, row_low);
      col = omega (arith, formed.cols.0, col_low);
      pen = (window_pen_passed (field r 3) p at.pen).0;
      some = at.written.some;
      fits = at.written.fits;
      coded = λ i d within. coded_window window _ (at.written.coded i d within);
      colors = tt;
    }

-- the word of a run's pen
pen_word_of : (k : Kind) (text : Field) (p : Pen) → run_pen_field k text ≡ Some p → text ≡ pen_word p
pen_word_of (kind.Pop on) text p e = (line21_pen text p e).1
pen_word_of (kind.Paint on) text p e = (line21_pen text p e).1
pen_word_of (kind.Roll on rows) text p e = (line21_pen text p e).1
pen_word_of (kind.Win window) text p e = (window_pen_passed text p e).1

pub run_passed : (k : Kind) (hide : Option ℕ) (runs : List Run) (r : Record) (run : Run) → IsOfKind k hide runs → run_of k runs r ≡ Ok run → RunPassed k runs r run
run_passed k hide runs r run of_kind e =
    run_parts (RunPassed k runs r run) k runs r run e (λ row col p text at same.
    subst (RunPassed k runs r) same (record {
      formed = formed_of k hide runs runs r row col p text of_kind at;
      suits = at.suits;
      plain = refl;
      spelled = λ is. at.all ∙ field_is is (field_is at.in_row.0 (field_is at.in_col.0 (field_is (pen_word_of k (field r 3) p at.pen) (field_is at.written.spelled refl))));
    }))
