-- What is written is a payload.
use Rattle.std.proofs.Common.{◌≡◌, inl, inr, ℕ, suc, ◌+◌, ◌*◌, ◌/◌, ◌%◌, ◌<◌, List, [], ◌∷◌, ◌++◌, Some, refl, ap, sym, ◌∙◌, subst, arith}
use Rattle.std.specs.List.{All, concat}
use Rattle.std.proofs.lemmas.Grind.{common_steps}
use Rattle.hex_digits.specs.HexDigits.{hex_value, upper_hex_digit}
use Rattle.mcc_files.specs.Items.{AreDigits, AreItems}
use Rattle.mcc_files.specs.Payloads.{IsPayload, Payload, payload_bytes}
use Rattle.mcc_files.specs.PayloadWriting.{IsWritten, none, letter, digits}
use Rattle.mcc_files.proofs.WriteLemmas.{written_is}

-- bytes
abbrev pub AreBytes : List ℕ → Type 0
AreBytes bytes = All (λ byte. byte < 256) bytes

pub tail_bytes : (byte : ℕ) (bytes : List ℕ) → AreBytes (byte ∷ bytes) → AreBytes bytes
tail_bytes byte bytes are = λ k d below. are (suc k) d (omega (arith, below))

pub back_bytes : (front back : List ℕ) → AreBytes (front ++ back) → AreBytes back
back_bytes [] back are = are
back_bytes (byte ∷ front) back are = back_bytes front back (tail_bytes byte (front ++ back) are)

-- the digits of a byte
pub digit_again : (value : ℕ) → value < 16 → hex_value (upper_hex_digit value) ≡ Some value
digit_again value small = grind (arith, common_steps)

pub digits_are : (byte : ℕ) → byte < 256 → AreDigits (byte ∷ []) (upper_hex_digit (byte / 16) ∷ upper_hex_digit (byte % 16) ∷ [])
digits_are byte small =
    let both : byte ≡ 16 * (byte / 16) + byte % 16 = omega arith in
    record {
      high = upper_hex_digit (byte / 16);
      low = upper_hex_digit (byte % 16);
      first = byte / 16;
      second = byte % 16;
      spelled = refl;
      high_is = digit_again (byte / 16) (omega arith);
      low_is = digit_again (byte % 16) (omega arith);
      are = ap (λ b. b ∷ []) both;
    }

-- the items of a text that stands for bytes
pub record HasItemsOf (bytes text : List ℕ) : Type 0 where
  pub items : List (List ℕ)
  pub are : AreItems items text
  pub stand_for : concat items ≡ bytes

pub written_items : (bytes text : List ℕ) → IsWritten bytes text → AreBytes bytes → HasItemsOf bytes text
written_items bytes text none are = record { items = []; are = refl; stand_for = refl }
written_items bytes text (letter all mark stands behind rest best more) are =
    let left = back_bytes stands behind (subst (λ b. AreBytes b) best.fits.spelled are) in
    let has = written_items behind rest more left in
    record {
      items = stands ∷ has.items;
      are = (mark ∷ [], rest, inr (record { letter = mark; spelled = refl; is = written_is mark stands best.fits.is }), has.are, refl);
      stand_for = ap (λ b. stands ++ b) has.stand_for ∙ sym best.fits.spelled;
    }
written_items bytes text (digits byte behind rest no_letter more) are =
    let has = written_items behind rest more (tail_bytes byte behind are) in
    record {
      items = (byte ∷ []) ∷ has.items;
      are = (upper_hex_digit (byte / 16) ∷ upper_hex_digit (byte % 16) ∷ [], rest, inl (digits_are byte (are 0 byte (omega arith))), has.are, refl);
      stand_for = ap (λ b. byte ∷ b) has.stand_for;
    }

pub written_is_payload : (payload : Payload) (text : List ℕ) → AreBytes (payload_bytes payload) → IsWritten (payload_bytes payload) text → IsPayload payload text
written_is_payload payload text are written =
    let has = written_items (payload_bytes payload) text written are in
    record { items = has.items; are = has.are; stand_for = has.stand_for }
