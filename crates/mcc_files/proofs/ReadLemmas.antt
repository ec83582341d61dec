-- Payloads are read, and what is read is a payload.
use Rattle.std.proofs.Common.{◌≡◌, inl, inr, ℕ, ◌+◌, Bool, true, List, [], ◌∷◌, length, Some, Result, Ok, refl, ap, sym, ◌∙◌, subst, append-nil}
use Rattle.std.specs.List.{concat}
use Rattle.cc_base.specs.declared.why.Why.{Why}
use Rattle.mcc_files.specs.Items.{AreItems, IsItem}
use Rattle.mcc_files.specs.Letters.{letter_bytes}
use Rattle.mcc_files.specs.Payloads.{IsPayload, Payload, bytes_with, checksum_byte, payload_bytes}
use Rattle.mcc_files.specs.PayloadReading.{joined, nothing_open, read_from, read_payload}
use Rattle.mcc_files.proofs.LetterLemmas.{known, known_has_byte}
use Rattle.mcc_files.proofs.PacketLemmas.{packet_joined, packet_whole}
use Rattle.mcc_files.proofs.StepLemmas.{at_bytes, digits_lead, joined_split, leads, leads_both, letter_leads, read_leads}

-- an item leads on where its bytes are joined
pub item_leads : (judging : Bool) (before after bytes item : List ℕ) → IsItem bytes item → joined judging before bytes ≡ Ok after
    → leads judging (at_bytes before) item (at_bytes after)
item_leads judging before after bytes item (inl d) is =
    let joins = subst (λ b. joined judging before b ≡ Ok after) d.are is in
    subst (λ i. leads judging (at_bytes before) i (at_bytes after)) (sym d.spelled)
    (digits_lead judging before after d.high d.low d.first d.second d.high_is d.low_is joins)
item_leads judging before after bytes item (inr l) is =
    let has = known_has_byte l.letter bytes (known l.letter bytes l.is) in
    let stands = subst (λ b. letter_bytes l.letter ≡ Some b) has.2 l.is in
    let joins = subst (λ b. joined judging before b ≡ Ok after) has.2 is in
    subst (λ i. leads judging (at_bytes before) i (at_bytes after)) (sym l.spelled)
    (letter_leads judging before after l.letter has.0 has.1 stands joins)

pub same_bytes : (before after : List ℕ) (result : Result (List ℕ) Why) → result ≡ Ok before → result ≡ Ok after → before ≡ after
same_bytes before after result one other = cc

-- and so do items
pub items_lead : (judging : Bool) (before after : List ℕ) (items : List (List ℕ)) (text : List ℕ) → AreItems items text
    → joined judging before (concat items) ≡ Ok after → leads judging (at_bytes before) text (at_bytes after)
items_lead judging before after [] text are is =
    subst (λ t. leads judging (at_bytes before) t (at_bytes after)) (sym are) (ap (λ b. at_bytes b) (same_bytes before after (joined judging before []) refl is))
items_lead judging before after (bytes ∷ items) text (front, rest, item, more, spelled) is =
    let twice = joined_split judging before bytes (concat items) after is in
    subst (λ t. leads judging (at_bytes before) t (at_bytes after)) (sym spelled)
    (leads_both judging (at_bytes before) front rest (at_bytes twice.middle) (at_bytes after) (item_leads judging before twice.middle bytes front item twice.first)
    (items_lead judging twice.middle after items rest more twice.second))

-- a payload, where sums are judged or not
pub record IsUnder (judging : Bool) (payload : Payload) (checksum : ℕ) (text : List ℕ) : Type 0 where
  pub items : List (List ℕ)
  pub are : AreItems items text
  pub stand_for : concat items ≡ bytes_with payload checksum
  pub right : judging ≡ true → checksum ≡ checksum_byte payload

pub under_leads : (judging : Bool) (payload : Payload) (checksum : ℕ) (text : List ℕ) → IsUnder judging payload checksum text
    → leads judging nothing_open text (at_bytes (bytes_with payload checksum))
under_leads judging payload checksum text is =
    items_lead judging [] (bytes_with payload checksum) is.items text is.are
    (subst (λ b. joined judging [] b ≡ Ok (bytes_with payload checksum)) (sym is.stand_for) (packet_joined judging payload checksum is.right))

pub under_is_read : (judging : Bool) (payload : Payload) (checksum : ℕ) (text : List ℕ) → IsUnder judging payload checksum text
    → read_from judging 0 nothing_open text ≡ Ok (bytes_with payload checksum)
under_is_read judging payload checksum text is =
    let lead = read_leads judging 0 nothing_open text [] (at_bytes (bytes_with payload checksum)) (under_leads judging payload checksum text is) in
    let whole = packet_whole payload checksum in
    let ends : read_from judging (0 + length text) (at_bytes (bytes_with payload checksum)) [] ≡ Ok (bytes_with payload checksum) = rw whole refl in
    subst (λ t. read_from judging 0 nothing_open t ≡ Ok (bytes_with payload checksum)) (append-nil text) (lead ∙ ends)

pub payload_is_read : (payload : Payload) (text : List ℕ) → IsPayload payload text → read_payload text ≡ Ok (payload_bytes payload)
payload_is_read payload text is =
    under_is_read true payload (checksum_byte payload) text (record { items = is.items; are = is.are; stand_for = is.stand_for; right = λ on. refl })
