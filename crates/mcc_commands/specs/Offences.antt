-- Believed in part: the program's answer stands on some of these definitions.
-- Where bytes first offend that are no MCC file, or one whose packets' words are no words file. The words of all packets are read as a words
-- file over all layers. An item of a payload is judged when it is whole, byte by byte: the words of its bytes, as far as a payload goes on
-- with them, and then the bytes with which none does. A word offends at the first byte of the item that has its byte.
use Rattle.std.specs.Prelude.{◌≡◌, ℕ, zero, suc, ◌+◌, ◌*◌, ◌⊎◌, List, ◌++◌, [], length, take}
use Rattle.std.specs.List.{concat}
use Rattle.cc_base.specs.declared.refusal.Refusal.{Refusal}
use Rattle.mcc_files.specs.Offences.{AwaitsItem, IsUnoffendingMcc as IsUnoffendingForm, MccByteOffends, MccEndsEarly}
use Rattle.mcc_files.specs.Items.{IsItem}
use Rattle.mcc_files.specs.Payloads.{Payload, payload_bytes}
use Rattle.mcc_files.specs.PayloadWords.{payload_words}
use Rattle.mcc_words.specs.Close.{words_as_they_came}
use Rattle.services_files.specs.CaptionChannel.{caption_channel}
use Rattle.words_files.specs.Offences.{FirstOffendingWord, IsUnoffending}

-- the words of this many of a payload's bytes: the three of the flag, and one for each byte, two bytes each; none of no byte
abbrev pub front_words : Payload → ℕ → List ℕ
front_words payload zero = []
front_words payload (suc count) = take (2 * (count + 4)) (payload_words payload)

-- a word of an item offends after bytes: no word of the packets and items before it does, and one of the item's bytes, as far as a payload
-- continues with them
pub record ItemOffends (before item : List ℕ) (refusal : Refusal) : Type 0 where
  pub items : List (List ℕ)
  pub awaits : AwaitsItem items before
  pub brought : List ℕ
  pub is_item : IsItem brought item
  pub fitting : List ℕ
  pub over : List ℕ
  pub brought_is : brought ≡ fitting ++ over
  pub payload : Payload
  pub more : List ℕ
  pub goes_on : payload_bytes payload ≡ concat items ++ (fitting ++ more)
  pub word : Refusal
  pub before_it : IsUnoffending caption_channel (words_as_they_came awaits.awaits.placed ++ front_words payload (length (concat items)))
  pub offends : FirstOffendingWord caption_channel (words_as_they_came awaits.awaits.placed ++ front_words payload (length (concat items ++ fitting))) word
  pub place_is : refusal.place ≡ length before
  pub why_is : refusal.why ≡ word.why

-- a word of an item of the bytes does
pub record ItemWordOffends (bytes : List ℕ) (refusal : Refusal) : Type 0 where
  pub before : List ℕ
  pub item : List ℕ
  pub behind : List ℕ
  pub spelled : bytes ≡ before ++ (item ++ behind)
  pub offends : ItemOffends before item refusal

-- no word does
abbrev pub NoWordOffends : List ℕ → Type 0
NoWordOffends bytes = (refusal : Refusal) → ItemWordOffends bytes refusal → ⊥

-- nothing offends
pub record IsWithoutOffence (bytes : List ℕ) : Type 0 where
  pub form : IsUnoffendingForm bytes
  pub no_word : NoWordOffends bytes

-- something offends, whatever follows: a word of an item; or none does, and a byte with which no file goes on
abbrev pub Offends : List ℕ → Refusal → Type 0
Offends bytes refusal = ItemWordOffends bytes refusal ⊎ (MccByteOffends bytes refusal × NoWordOffends bytes)

-- the bytes end too soon, and nothing in them offends
pub record IsMccCutShort (bytes : List ℕ) (refusal : Refusal) : Type 0 where
  pub early : MccEndsEarly bytes refusal
  pub no_word : NoWordOffends bytes

-- the bytes' first offence
abbrev pub IsFirstOffence : List ℕ → Refusal → Type 0
IsFirstOffence bytes refusal = Offends bytes refusal ⊎ IsMccCutShort bytes refusal
