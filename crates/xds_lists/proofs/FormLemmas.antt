-- Records of packets: what is good spells a packet, and what spells a packet is good.
use Rattle.std.proofs.Common.{◌≡◌, ◌∙◌, ℕ, ◌&&◌, nat_le, true, List, [], ◌∷◌, length, Ok, refl, subst, arith, leb-true, le-leb, codes}
use Rattle.std.specs.Prelude.{All}
use Rattle.std.specs.List.{list_all}
use Rattle.std.proofs.lemmas.List.Elements.{All-cons, All-head, All-nil, All-tail}
use Rattle.std.proofs.lemmas.Slice.Eq.{bytes_eq-Decides}
use Rattle.cue_form.proofs.FieldFacts.{field_is, fields_listed}
use Rattle.cue_form.proofs.RecordGoodness.{good_of}
use Rattle.cue_form.proofs.RecordNumberFacts.{number_good, number_within-decimal}
use Rattle.cue_form.proofs.Passing.{both_of}
use Rattle.cue_form.specs.Records.{Record, field}
use Rattle.xds_lists.specs.Form.{AreText, IsListed, IsTextByte, is_text, is_text_byte, last_frame, packet_judgements, packet_record}
use Rattle.xds_lists.specs.Reading.{listed_of, packet_of_fields}
use Rattle.xds_packets.specs.Sending.{Listed}

text_bytes : (text : List ℕ) → list_all is_text_byte text ≡ true → All IsTextByte text
text_bytes [] passed = All-nil IsTextByte
text_bytes (byte ∷ text) passed =
    let both = both_of (is_text_byte byte) (list_all is_text_byte text) passed in
    let ends = both_of (nat_le 0x20 byte) (nat_le byte 0x7E) both.0 in
    All-cons IsTextByte byte text (leb-true 0x20 byte ends.0, leb-true byte 0x7E ends.1) (text_bytes text both.1)

bytes_pass : (text : List ℕ) → All IsTextByte text → list_all is_text_byte text ≡ true
bytes_pass [] are = refl
bytes_pass (byte ∷ text) are =
    let first = All-head IsTextByte byte text are in
    rw (le-leb 0x20 byte first.0, le-leb byte 0x7E first.1, bytes_pass text (All-tail IsTextByte byte text are)) refl

-- a text that passes its test, and back
pub are_text : (text : List ℕ) → is_text text ≡ true → AreText text
are_text text passed =
    let both = both_of (nat_le 1 (length text)) (nat_le (length text) 32 && list_all is_text_byte text) passed in
    let rest = both_of (nat_le (length text) 32) (list_all is_text_byte text) both.1 in
    record { some = leb-true 1 (length text) both.0; few = leb-true (length text) 32 rest.0; bytes = text_bytes text rest.1 }

pub text_passes : (text : List ℕ) → AreText text → is_text text ≡ true
text_passes text are =
    rw (le-leb 1 (length text) are.some, le-leb (length text) 32 are.few, bytes_pass text are.bytes) refl

-- a record without an offence spells the packet of its fields
pub record_passed : (r : Record) (listed : Listed) → listed_of r ≡ Ok listed → (r ≡ packet_record listed) × IsListed listed
record_passed r listed e =
    let (good, same) = good_of (packet_judgements r) (packet_of_fields r) listed e in
    let word : field r 0 ≡ codes "xds" = (bytes_eq-Decides (field r 0) (codes "xds")).0 good.0 in
    let from = number_good 0 last_frame (field r 1) good.1.1.0 in
    let class = number_good 1 7 (field r 2) good.1.1.1.0 in
    let kind = number_good 1 127 (field r 3) good.1.1.1.1.0 in
    let text = are_text (field r 4) good.1.1.1.1.1.0 in
    let all : r ≡ field r 0 ∷ field r 1 ∷ field r 2 ∷ field r 3 ∷ field r 4 ∷ [] = fields_listed 5 r good.1.0 in
    subst (λ (l : Listed). (r ≡ packet_record l) × IsListed l) same (
      all ∙ field_is word (field_is from.0 (field_is class.0 (field_is kind.0 refl))),
      record {
        from = from.2;
        packet = record {
          class_from = class.1;
          class_to = class.2;
          kind_from = kind.1;
          kind_to = let most = kind.2 in omega arith;
          text_from = text.some;
          text_to = text.few;
          bytes = text.bytes;
        };
      },
    )

-- the record of a packet is read as it
pub record_read : (listed : Listed) → IsListed listed → listed_of (packet_record listed) ≡ Ok listed
record_read listed is =
    let packet = is.packet in
    let text : is_text listed.packet.text ≡ true = text_passes listed.packet.text (record { some = packet.text_from; few = packet.text_to; bytes = packet.bytes }) in
    rw (
      number_within-decimal 0 999999 listed.from (omega arith) is.from (let most = is.from in omega arith),
      number_within-decimal 1 7 listed.packet.class packet.class_from packet.class_to (let most = packet.class_to in omega arith),
      number_within-decimal 1 127 listed.packet.kind packet.kind_from (let most = packet.kind_to in omega arith) (let most = packet.kind_to in omega arith),
      text,
    ) refl
