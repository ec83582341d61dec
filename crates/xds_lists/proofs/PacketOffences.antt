-- A record of packets offends exactly where its first judgement that isn't good says so.
use Rattle.std.proofs.Common.{◌≡◌, ◌≢◌, ◌∙◌, ℕ, ◌-◌, ◌^◌, ◌<◌, ◌≤◌, ◌==◌, nat_lt, Bool, true, false, if◌then◌else◌, [], ◌∷◌, codes, decimal, length, take, Option, Some, is_some, unwrap_or, refl, sym, ap, subst, arith, inl, inr, eqb-true, ltb-true}
use Rattle.std.specs.Prelude.{bytes_eq}
use Rattle.std.proofs.lemmas.Bool.{eqb-false, ltb-false}
use Rattle.std.proofs.lemmas.List.{take-take}
use Rattle.std.proofs.lemmas.Slice.Eq.{bytes_eq-Decides}
use Rattle.cc_base.specs.declared.why.Why.TheVariants as why
use Rattle.cue_form.proofs.FieldFacts.{field_is, fields_listed}
use Rattle.cue_form.proofs.Offended.{place_of}
use Rattle.cue_form.proofs.Passing.{on_test, on_value, with_value}
use Rattle.cue_form.proofs.RecordNumberFacts.{number_within-decimal, within_passed}
use Rattle.cue_form.specs.Numbers.{number_within}
use Rattle.cue_form.specs.RecordJudgements.{count_place, first_offence, judge, unless, within}
use Rattle.cue_form.specs.Records.{Field, Record, field}
use Rattle.cue_form.specs.declared.offence.Offence.{Offence}
use Rattle.cue_form.specs.declared.offence.Offence.TheVariants as offence
use Rattle.xds_lists.proofs.FormLemmas.{are_text, record_passed, text_passes}
use Rattle.xds_lists.specs.FirstFault.{BeginsPacket, PacketOffends}
use Rattle.xds_lists.specs.Form.{AreText, IsListed, is_text, last_frame, packet_judgements, packet_record}
use Rattle.xds_lists.specs.Reading.{packet_of_fields}
use Rattle.xds_packets.specs.Sending.{Listed}

-- a packet with the fields of a record that are good
mended_text : Bool → Field → Field
mended_text good text = if good then text else 0x20 ∷ []

abbrev mended : Record → Listed
mended r = record {
  from = unwrap_or (number_within 0 last_frame (field r 1)) 0;
  packet = record {
    class = unwrap_or (number_within 1 7 (field r 2)) 1;
    kind = unwrap_or (number_within 1 127 (field r 3)) 1;
    text = mended_text (is_text (field r 4)) (field r 4);
  };
}

number_mended : (low high other : ℕ) (text : Field) → low ≤ other → other ≤ high
    → (low ≤ unwrap_or (number_within low high text) other) × (unwrap_or (number_within low high text) other ≤ high)
number_mended low high other text above below =
    on_value _ (number_within low high text) (λ none. rw none (above, below))
    (λ n is. let read = within_passed low high text n is in rw is (read.1, read.2))

number_kept : (low high other : ℕ) (text : Field) → is_some (number_within low high text) ≡ true
    → text ≡ decimal (unwrap_or (number_within low high text) other)
number_kept low high other text good =
    with_value _ (number_within low high text) (λ none. let q = rw none at good in cc)
    (λ n is. rw is (within_passed low high text n is).0)

text_mended : (good : Bool) (text : Field) → is_text text ≡ good → AreText (mended_text good text)
unfolding mended_text
text_mended true text is = are_text text is
text_mended false text is = are_text (0x20 ∷ []) refl

text_kept : (good : Bool) (text : Field) → good ≡ true → text ≡ mended_text good text
unfolding mended_text
text_kept true text is = refl
text_kept false text is = cc

mended_listed : (r : Record) → IsListed (mended r)
mended_listed r =
    let from = number_mended 0 last_frame 0 (field r 1) (omega arith) (omega arith) in
    let class = number_mended 1 7 1 (field r 2) (omega arith) (omega arith) in
    let kind = number_mended 1 127 1 (field r 3) (omega arith) (omega arith) in
    let text = text_mended (is_text (field r 4)) (field r 4) refl in
    record {
      from = from.1;
      packet = record {
        class_from = class.0;
        class_to = class.1;
        kind_from = kind.0;
        kind_to = let most = kind.1 in omega arith;
        text_from = text.some;
        text_to = text.few;
        bytes = text.bytes;
      };
    }

-- the judgements of the four fields after the kind word
abbrev field_offence : Record → Option Offence
field_offence r =
    first_offence
    (within r 1 0 last_frame ∷ within r 2 1 7 ∷ within r 3 1 127 ∷ judge (is_text (field r 4)) 5 why.Field ∷ [])

-- where a record offends
abbrev Offends : Record → Offence → Type 0
Offends r o = (place : ℕ) × (o ≡ offence.At place why.Field) × PacketOffends r place

-- a number that isn't good is no packet's
no_number : (low high n : ℕ) (text : Field) → is_some (number_within low high text) ≡ false → text ≡ decimal n → low ≤ n → n ≤ high → high < 10 ^ 10 → ⊥
no_number low high n text bad is above below small =
    let read : number_within low high text ≡ Some n =
    subst (λ (t : Field). number_within low high t ≡ Some n) (sym is) (number_within-decimal low high n above below (omega arith)) in
    let never = rw read at bad in
    cc

module _ (r : Record) (five : length r ≡ 5) (word : field r 0 ≡ codes "xds")
    (all : r ≡ field r 0 ∷ field r 1 ∷ field r 2 ∷ field r 3 ∷ field r 4 ∷ []) where
  -- the first fields of a packet that begins it
  first_two : (p : Listed) → take 2 r ≡ take 2 (packet_record p) → field r 1 ≡ decimal p.from
  first_two p same = let e : field r 0 ∷ field r 1 ∷ [] ≡ codes "xds" ∷ decimal p.from ∷ [] = sym (ap (take 2) all) ∙ same in cc

  first_three : (p : Listed) → take 3 r ≡ take 3 (packet_record p) → field r 2 ≡ decimal p.packet.class
  first_three p same =
      let e : field r 0 ∷ field r 1 ∷ field r 2 ∷ [] ≡ codes "xds" ∷ decimal p.from ∷ decimal p.packet.class ∷ [] = sym (ap (take 3) all) ∙ same in cc

  first_four : (p : Listed) → take 4 r ≡ take 4 (packet_record p) → field r 3 ≡ decimal p.packet.kind
  first_four p same =
      let e : field r 0 ∷ field r 1 ∷ field r 2 ∷ field r 3 ∷ [] ≡ codes "xds" ∷ decimal p.from ∷ decimal p.packet.class ∷ decimal p.packet.kind ∷ [] =
      sym (ap (take 4) all) ∙ same in
      cc

  first_five : (p : Listed) → take 5 r ≡ take 5 (packet_record p) → field r 4 ≡ p.packet.text
  first_five p same =
      let e : field r 0 ∷ field r 1 ∷ field r 2 ∷ field r 3 ∷ field r 4 ∷ [] ≡ packet_record p = sym (ap (take 5) all) ∙ same in cc

  -- the number that is kept
  from_kept : is_some (number_within 0 last_frame (field r 1)) ≡ true → field r 1 ≡ decimal (mended r).from
  from_kept good = number_kept 0 last_frame 0 (field r 1) good

  class_kept : is_some (number_within 1 7 (field r 2)) ≡ true → field r 2 ≡ decimal (mended r).packet.class
  class_kept good = number_kept 1 7 1 (field r 2) good

  kind_kept : is_some (number_within 1 127 (field r 3)) ≡ true → field r 3 ≡ decimal (mended r).packet.kind
  kind_kept good = number_kept 1 127 1 (field r 3) good

  -- a record of five fields offends at the first that isn't good
  fields_told : (o : Offence) → field_offence r ≡ Some o → Offends r o
  fields_told o is =
      on_test _ (is_some (number_within 0 last_frame (field r 1)))
      (λ bad.
      let found = rw bad at is in
      let same : offence.At 2 why.Field ≡ o = cc in (
        2,
        sym same,
        inr (inr (
          five,
          record { packet = mended r; listed = mended_listed r; same = ap (take 1) all ∙ field_is word refl },
          λ begins. no_number 0 last_frame begins.packet.from (field r 1) bad (first_two begins.packet begins.same) (omega arith) begins.listed.from (omega arith),
        )),
      ))
      (λ from.
      let is1 = rw from at is in
      on_test _ (is_some (number_within 1 7 (field r 2)))
      (λ bad.
      let found = rw bad at is1 in
      let same : offence.At 3 why.Field ≡ o = cc in (
        3,
        sym same,
        inr (inr (
          five,
          record { packet = mended r; listed = mended_listed r; same = ap (take 2) all ∙ field_is word (field_is (from_kept from) refl) },
          λ begins. no_number 1 7 begins.packet.packet.class (field r 2) bad (first_three begins.packet begins.same) begins.listed.packet.class_from begins.listed.packet.class_to (omega arith),
        )),
      ))
      (λ class.
      let is2 = rw class at is1 in
      on_test _ (is_some (number_within 1 127 (field r 3)))
      (λ bad.
      let found = rw bad at is2 in
      let same : offence.At 4 why.Field ≡ o = cc in (
        4,
        sym same,
        inr (inr (
          five,
          record { packet = mended r; listed = mended_listed r; same = ap (take 3) all ∙ field_is word (field_is (from_kept from) (field_is (class_kept class) refl)) },
          λ begins. no_number 1 127 begins.packet.packet.kind (field r 3) bad (first_four begins.packet begins.same) begins.listed.packet.kind_from
              (let most = begins.listed.packet.kind_to in omega arith) (omega arith),
        )),
      ))
      (λ kind.
      let is3 = rw kind at is2 in
      on_test _ (is_text (field r 4))
      (λ bad.
      let found = rw bad at is3 in
      let same : offence.At 5 why.Field ≡ o = cc in (
        5,
        sym same,
        inr (inr (
          five,
          record {
            packet = mended r;
            listed = mended_listed r;
            same = ap (take 4) all ∙ field_is word (field_is (from_kept from) (field_is (class_kept class) (field_is (kind_kept kind) refl)));
          },
          λ begins.
              let text = begins.listed.packet in
              let good : is_text begins.packet.packet.text ≡ true = text_passes begins.packet.packet.text (record { some = text.text_from; few = text.text_to; bytes = text.bytes }) in
              let never = subst (λ (t : Field). is_text t ≡ true) (sym (first_five begins.packet begins.same)) good in
              cc,
        )),
      ))
      (λ text. let found = rw text at is3 in cc))))

-- the first judgement that isn't good tells where the record offends
pub packet_told : (r : Record) (o : Offence) → first_offence (packet_judgements r) ≡ Some o → Offends r o
packet_told r o is =
    on_test _ (bytes_eq (field r 0) (codes "xds"))
    (λ wrong.
    let found = rw wrong at is in
    let same : offence.At 1 why.Field ≡ o = cc in
    (1, sym same, inl (λ word. let right = (bytes_eq-Decides (field r 0) (codes "xds")).1 word in cc, refl)))
    (λ right.
    let word = (bytes_eq-Decides (field r 0) (codes "xds")).0 right in
    let is1 = rw right at is in
    on_test _ (length r == 5)
    (λ other.
    let found = rw other at is1 in
    let same : offence.At (count_place 5 (length r)) why.Field ≡ o = cc in
    (count_place 5 (length r), sym same, inr (inl (word, eqb-false (length r) 5 other, place_of 5 (length r)))))
    (λ counted. fields_told r (eqb-true (length r) 5 counted) word (fields_listed 5 r counted) o (rw counted at is1)))

-- it offends at one field
begins_fewer : (r : Record) (m n : ℕ) → m ≤ n → BeginsPacket n r → BeginsPacket m r
begins_fewer r m n fewer is = record {
  packet = is.packet;
  listed = is.listed;
  same = sym (take-take m n r fewer) ∙ ap (take m) is.same ∙ take-take m n (packet_record is.packet) fewer;
}

begins_word : (r : Record) → BeginsPacket 1 r → field r 0 ≡ codes "xds"
begins_word [] is = let never : [] ≡ codes "xds" ∷ [] = is.same in absurd cc
begins_word (f ∷ fs) is = let same : f ∷ [] ≡ codes "xds" ∷ [] = is.same in cc

least : (r : Record) (p q : ℕ) → BeginsPacket (p - 1) r → (BeginsPacket p r → ⊥) → BeginsPacket (q - 1) r → (BeginsPacket q r → ⊥) → p ≡ q
least r p q to_p not_p to_q not_q =
    on_test _ (nat_lt p q)
    (λ other.
    let above : q ≤ p = ltb-false p q other in
    on_test _ (nat_lt q p)
    (λ others. let below : p ≤ q = ltb-false q p others in omega arith)
    (λ less. let below : q < p = ltb-true q p less in absurd (not_q (begins_fewer r q (p - 1) (omega arith) to_p))))
    (λ less. let below : p < q = ltb-true p q less in absurd (not_p (begins_fewer r p (q - 1) (omega arith) to_q)))

misplaced : (r : Record) (q : ℕ) → field r 0 ≢ codes "xds" → BeginsPacket (q - 1) r → (BeginsPacket q r → ⊥) → 1 ≡ q
misplaced r q other to_q not_q =
    least r 1 q (begins_fewer r 0 (q - 1) (omega arith) to_q) (λ begins. other (begins_word r begins)) to_q not_q

one_place : (r : Record) (p q : ℕ) → PacketOffends r p → PacketOffends r q → p ≡ q
one_place r p q (inl a) (inl b) = a.1 ∙ sym b.1
one_place r p q (inl a) (inr (inl b)) = absurd (a.0 b.0)
one_place r p q (inl a) (inr (inr b)) = a.1 ∙ misplaced r q a.0 b.1 b.2
one_place r p q (inr (inl a)) (inl b) = absurd (b.0 a.0)
one_place r p q (inr (inl a)) (inr (inl b)) = a.2 ∙ sym b.2
one_place r p q (inr (inl a)) (inr (inr b)) = absurd (a.1 b.0)
one_place r p q (inr (inr a)) (inl b) = sym (b.1 ∙ misplaced r p b.0 a.1 a.2)
one_place r p q (inr (inr a)) (inr (inl b)) = absurd (b.1 a.0)
one_place r p q (inr (inr a)) (inr (inr b)) = least r p q a.1 a.2 b.1 b.2

-- the record of a packet offends nowhere
no_offence : (p : Listed) (r : Record) (place : ℕ) → IsListed p → r ≡ packet_record p → PacketOffends r place → ⊥
no_offence p r place listed same (inl a) = a.0 (ap (λ (r : Record). field r 0) same)
no_offence p r place listed same (inr (inl a)) = a.1 (ap length same)
no_offence p r place listed same (inr (inr a)) = a.2 (record { packet = p; listed = listed; same = ap (take place) same })

-- and where it offends, the judgements stop
pub packet_back : (r : Record) (place : ℕ) → PacketOffends r place → first_offence (packet_judgements r) ≡ Some (offence.At place why.Field)
packet_back r place is =
    on_value _ (first_offence (packet_judgements r))
    (λ none.
    let passed = record_passed r (packet_of_fields r) (ap (λ (o : Option Offence). unless o (packet_of_fields r)) none) in
    absurd (no_offence (packet_of_fields r) r place passed.1 passed.0 is))
    (λ o found.
    let told = packet_told r o found in
    found ∙ ap (λ (o : Offence). Some o) (told.1 ∙ ap (λ (n : ℕ). offence.At n why.Field) (one_place r told.0 place told.2 is)))
