-- Items are read one after another, and their bytes are a packet's.
use Rattle.std.proofs.Common.{◌≡◌, ℕ, ◌+◌, ◌*◌, ◌%◌, ◌<◌, inl, inr, List, [], ◌∷◌, ◌++◌, append_assoc, append-nil, length, length-append, Some, refl, ap, sym, ◌∙◌, arith}
use Rattle.std.specs.List.{concat, sum}
use Rattle.hex_digits.specs.HexDigits.{hex_value}
use Rattle.mcc_files.specs.Ahead.{AreItemsAhead, IsItemAhead}
use Rattle.mcc_files.specs.Counts.{AreCounted, count_of}
use Rattle.mcc_files.specs.Items.{IsItem}
use Rattle.mcc_files.specs.Letters.{letter_bytes}
use Rattle.mcc_files.specs.Payloads.{Payload, checksum_byte, payload_bytes}
use Rattle.mcc_files.specs.declared.payload_reader.Counted.{Counted}
use Rattle.mcc_files.proofs.CompleteLemmas.{concat_both, items_both}
use Rattle.mcc_files.proofs.PacketLemmas.{checksum_is_sum}
use Rattle.mcc_files.proofs.SumLemmas.{sum_more}

-- a letter
pub letter_ahead : (text behind before after brought : List ℕ) (letter : ℕ) → text ≡ letter ∷ behind → letter_bytes letter ≡ Some brought → after ≡ before ++ brought
    → IsItemAhead text behind before after
letter_ahead text behind before after brought letter spelled is added = record {
  front = letter ∷ [];
  brought = brought;
  is = inr (record { letter = letter; spelled = refl; is = is });
  spelled = spelled;
  added = added;
}

-- two digits
pub digits_ahead : (text behind rest before after : List ℕ) (high low first second : ℕ) → text ≡ high ∷ behind → behind ≡ low ∷ rest → hex_value high ≡ Some first
    → hex_value low ≡ Some second → after ≡ before ++ (16 * first + second) ∷ [] → IsItemAhead text rest before after
digits_ahead text behind rest before after high low first second spelled more high_is low_is added = record {
  front = high ∷ low ∷ [];
  brought = (16 * first + second) ∷ [];
  is = inl (record { high = high; low = low; first = first; second = second; spelled = refl; high_is = high_is; low_is = low_is; are = refl });
  spelled = spelled ∙ ap (λ r. high ∷ r) more;
  added = added;
}

-- an item has a byte at least
item_long : (brought front : List ℕ) → IsItem brought front → 0 < length front
item_long brought front (inl digits) = let long = ap length digits.spelled in omega (arith, long)
item_long brought front (inr letter) = let long = ap length letter.spelled in omega (arith, long)

pub item_shorter : (text rest before after : List ℕ) → IsItemAhead text rest before after → length rest < length text
item_shorter text rest before after one =
    let some = item_long one.brought one.front one.is in
    let long = ap length one.spelled in
    omega (arith, some, long, length-append one.front rest)

-- no item, and one more
pub none_ahead : (text before : List ℕ) → AreItemsAhead text text before before
none_ahead text before = record { front = []; items = []; are = refl; spelled = refl; added = sym (append-nil before) }

pub more_ahead : (text rest behind before middle after : List ℕ) → AreItemsAhead text rest before middle → IsItemAhead rest behind middle after
    → AreItemsAhead text behind before after
more_ahead text rest behind before middle after so one = record {
  front = so.front ++ one.front;
  items = so.items ++ one.brought ∷ [];
  are = items_both so.items (one.brought ∷ []) so.front one.front so.are (one.front, [], one.is, refl, sym (append-nil one.front));
  spelled = so.spelled ∙ (ap (λ r. so.front ++ r) one.spelled ∙ sym (append_assoc so.front one.front behind));
  added = one.added ∙ (ap (λ b. b ++ one.brought) so.added ∙ (append_assoc before (concat so.items) one.brought
      ∙ ap (λ b. before ++ b) (ap (λ b. concat so.items ++ b) (sym (append-nil one.brought)) ∙ sym (concat_both so.items (one.brought ∷ [])))));
}

-- bytes are a packet's
pub packet_is : (bytes rest user : List ℕ) (did sdid count last : ℕ) → bytes ≡ did ∷ sdid ∷ count ∷ rest → rest ≡ user ++ last ∷ [] → length user ≡ count
    → last ≡ checksum_byte (record { did = did; sdid = sdid; user = user }) → bytes ≡ payload_bytes (record { did = did; sdid = sdid; user = user })
packet_is bytes rest user did sdid count last spelled more long right =
    spelled
    ∙ (ap (λ r. did ∷ sdid ∷ count ∷ r) more
    ∙ (ap (λ n. did ∷ sdid ∷ n ∷ (user ++ last ∷ [])) (sym long) ∙ ap (λ c. did ∷ sdid ∷ length user ∷ (user ++ c ∷ [])) right))

-- and counted so
pub packet_counted : (payload : Payload) (bytes : List ℕ) (counted : Counted) (last : ℕ) → bytes ≡ payload_bytes payload → last ≡ checksum_byte payload
    → counted.len ≡ 4 + length payload.user → counted.count ≡ length payload.user → counted.sum ≡ (last + last) % 256 → AreCounted bytes counted
packet_counted payload bytes counted last are right len count total =
    let front = payload.did ∷ payload.sdid ∷ length payload.user ∷ payload.user in
    let long = ap length are in
    let all : sum bytes ≡ sum front + checksum_byte payload = ap (λ b. sum b) are ∙ sum_more 0 front (checksum_byte payload) in
    let is : checksum_byte payload ≡ sum front % 256 = checksum_is_sum payload in
    record {
      long = omega (arith, len, long, length-append payload.user (checksum_byte payload ∷ []));
      count = count ∙ sym (ap count_of are);
      sum = omega (arith, all, is, right, total);
    }
