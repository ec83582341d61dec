-- Believed in part: the program's answer stands on some of these definitions.
-- Where text first offends that is no payload. An item is judged when it is whole: it offends where some payload begins with the items
-- before it, and none with these and the item. A byte with which no item begins or goes on offends itself; so does one after a whole
-- payload, unless it is a letter, which is an item. Nothing offends in whole items with which some payload begins, nor in a first digit
-- after them.
use Rattle.std.specs.Prelude.{◌≡◌, ◌≢◌, ℕ, ◌⊎◌, List, [], ◌∷◌, ◌++◌, length, None, IsSome}
use Rattle.std.specs.List.{concat}
use Rattle.cc_base.specs.declared.refusal.Refusal.{Refusal}
use Rattle.cc_base.specs.declared.why.Why.{Why}
use Rattle.cc_base.specs.declared.why.Why.TheVariants as why
use Rattle.hex_digits.specs.HexDigits.{hex_value}
use Rattle.mcc_files.specs.Items.{AreItems, IsItem}
use Rattle.mcc_files.specs.Letters.{letter_bytes}
use Rattle.mcc_files.specs.Payloads.{IsPayload, IsPayloadForm, Payload, bytes_with, checksum_byte}

-- some payload begins with the text
pub record BeginsPayload (text : List ℕ) : Type 0 where
  pub more : List ℕ
  pub payload : Payload
  pub is : IsPayload payload (text ++ more)

-- some payload in form, whatever its checksum byte, begins with the text
pub record BeginsForm (text : List ℕ) : Type 0 where
  pub more : List ℕ
  pub form : IsPayloadForm (text ++ more)

-- nothing, or the first digit of an item
abbrev pub IsOpenDigit : List ℕ → Type 0
IsOpenDigit open_text = (open_text ≡ []) ⊎ ((digit : ℕ) × IsSome (hex_value digit) × (open_text ≡ digit ∷ []))

-- nothing offends in the text
pub record IsUnoffending (text open_text : List ℕ) : Type 0 where
  pub start : List ℕ
  pub items : List (List ℕ)
  pub spelled : text ≡ start ++ open_text
  pub are : AreItems items start
  pub within : IsOpenDigit open_text
  pub begins : BeginsPayload start
  pub form : BeginsForm text

-- these bytes after others bring a checksum byte that isn't the low eight bits of the checksum word
pub record BringWrongSum (before bytes : List ℕ) : Type 0 where
  pub payload : Payload
  pub checksum : ℕ
  pub more : List ℕ
  pub spelled : before ++ bytes ≡ bytes_with payload checksum ++ more
  pub wrong : checksum ≢ checksum_byte payload

-- the reason where an item with these bytes offends after these
abbrev pub IsItemWhy : List ℕ → List ℕ → Why → Type 0
IsItemWhy before bytes reason =
    (BringWrongSum before bytes × (reason ≡ why.AncSum)) ⊎ ((BringWrongSum before bytes → ⊥) × (reason ≡ why.MccSyntax))

-- an item offends
pub record ItemOffends (text : List ℕ) (refusal : Refusal) : Type 0 where
  pub before : List ℕ
  pub items : List (List ℕ)
  pub item : List ℕ
  pub bytes : List ℕ
  pub rest : List ℕ
  pub spelled : text ≡ before ++ (item ++ rest)
  pub are : AreItems items before
  pub is_item : IsItem bytes item
  pub begins : BeginsPayload before
  pub offends : BeginsPayload (before ++ item) → ⊥
  pub place_is : refusal.place ≡ length before
  pub why_is : IsItemWhy (concat items) bytes refusal.why

-- a byte offends: it is no item, and no payload in form can continue with it
pub record ByteOffends (text : List ℕ) (refusal : Refusal) : Type 0 where
  pub before : List ℕ
  pub open_text : List ℕ
  pub byte : ℕ
  pub rest : List ℕ
  pub spelled : text ≡ before ++ byte ∷ rest
  pub unoffending : IsUnoffending before open_text
  pub no_letter : open_text ≡ [] → letter_bytes byte ≡ None
  pub offends : BeginsForm (before ++ byte ∷ []) → ⊥
  pub place_is : refusal.place ≡ length before
  pub why_is : refusal.why ≡ why.MccSyntax

-- the text ends too soon: nothing in it offends, and it is no payload in form
pub record EndsEarly (text : List ℕ) (refusal : Refusal) : Type 0 where
  pub open_text : List ℕ
  pub unoffending : IsUnoffending text open_text
  pub no_payload : IsPayloadForm text → ⊥
  pub place_is : refusal.place ≡ length text
  pub why_is : refusal.why ≡ why.MccSyntax

-- the text's first offence
abbrev pub IsFirstOffence : List ℕ → Refusal → Type 0
IsFirstOffence text refusal = ItemOffends text refusal ⊎ (ByteOffends text refusal ⊎ EndsEarly text refusal)
