-- The words of what was read are bytes.
use Rattle.std.proofs.Common.{◌≡◌, ℕ, suc, ◌+◌, ◌*◌, ◌/◌, ◌%◌, ◌<◌, ◌==◌, nat_lt, inl, inr, Bool, true, false, cond, List, [], ◌∷◌, ◌++◌, sum, count_ones, Option, Some, None, Ok, refl, ap, sym, ◌∙◌, subst, arith}
use Rattle.std.specs.List.{concat}
use Rattle.std.proofs.lemmas.Bool.{cases_Bool}
use Rattle.std.proofs.lemmas.List.Elements.{All-append}
use Rattle.anc_words.specs.Words.{AreWords}
use Rattle.anc_words.specs.Writing.{checksum_word, eight_bit_word, summed_words, word_bytes}
use Rattle.hex_digits.specs.HexDigits.{hex_value}
use Rattle.mcc_files.proofs.FirstLemmas.{Stands, at_digit, at_item}
use Rattle.mcc_files.proofs.LetterLemmas.{known, zeros}
use Rattle.mcc_files.proofs.StepLemmas.{joined_is}
use Rattle.mcc_files.proofs.WordLemmas.{front_bytes}
use Rattle.mcc_files.proofs.WrittenLemmas.{AreBytes}
use Rattle.mcc_files.specs.Letters.{letter_bytes}
use Rattle.mcc_files.specs.Payloads.{Payload, checksum_byte, payload_bytes}
use Rattle.mcc_files.specs.PayloadWords.{payload_words}
use Rattle.mcc_files.specs.PayloadReading.{Open, brought, brought_by, is_whole, item_bytes, joined}
use Rattle.mcc_words.proofs.FileLemmas.{digit_small, known_bytes, no_more, of_items, one_more, three_more}
use Rattle.mcc_commands.proofs.ItemLemmas.{whole_bytes}
use Rattle.mcc_commands.proofs.ImportOffenceLemmas.{fitting_front}
use Rattle.mcc_commands.proofs.ImportWordsLemmas.{head_of, last_word, open_not_yet, whole_words, words_split}
use Rattle.mcc_commands.specs.Words.{eight_words, flag_words, open_words}

-- bytes after bytes
pub both_bytes : (xs ys : List ℕ) → AreBytes xs → AreBytes ys → AreBytes (xs ++ ys)
both_bytes xs ys are also = All-append (λ b. b < 256) xs ys are also

-- the bytes of an open payload, and of the item that ends with a byte
stands_bytes : (text : List ℕ) (front : Open) → Stands text front → AreBytes front.bytes
stands_bytes text front (at_item items bytes are join bytes_is) =
    subst AreBytes (sym (ap (λ (o : Open). o.bytes) bytes_is ∙ joined_is true [] (concat items) bytes join)) (of_items items text are)
stands_bytes text front (at_digit start items digit high bytes spelled are join digit_is yet bytes_is) =
    subst AreBytes (sym (ap (λ (o : Open). o.bytes) bytes_is ∙ joined_is true [] (concat items) bytes join)) (of_items items start are)

letter_brings : (byte : ℕ) (found : Option (List ℕ)) → letter_bytes byte ≡ found → AreBytes (brought_by None found (hex_value byte))
letter_brings byte None is = no_more
letter_brings byte (Some bytes) is = known_bytes byte bytes (known byte bytes is)

digit_brings : (high byte : ℕ) (letter : Option (List ℕ)) (found : Option ℕ) → high < 16 → hex_value byte ≡ found → AreBytes (brought_by (Some high) letter found)
digit_brings high byte letter None small is = no_more
digit_brings high byte letter (Some low) small is =
    let less = digit_small byte low is in
    one_more (16 * high + low) [] (omega (arith, small, less)) no_more

brought_bytes : (text : List ℕ) (front : Open) (byte : ℕ) → Stands text front → AreBytes (brought front byte)
brought_bytes text front byte (at_item items bytes are join bytes_is) =
    subst (λ (o : Open). AreBytes (brought o byte)) (sym bytes_is) (letter_brings byte (letter_bytes byte) refl)
brought_bytes text front byte (at_digit start items digit high bytes spelled are join digit_is yet bytes_is) =
    subst (λ (o : Open). AreBytes (brought o byte)) (sym bytes_is) (digit_brings high byte (letter_bytes byte) (hex_value byte) (digit_small digit high digit_is) refl)

pub item_read_bytes : (text : List ℕ) (front : Open) (byte : ℕ) → Stands text front → AreBytes (front.bytes ++ item_bytes front byte)
item_read_bytes text front byte stands =
    let f = fitting_front front.bytes (brought front byte) in
    let all = subst AreBytes f.spelled (brought_bytes text front byte stands) in
    both_bytes front.bytes (item_bytes front byte) (stands_bytes text front stands) (front_bytes (item_bytes front byte) f.over all)

-- the bytes of words
word_of_bytes : (word : ℕ) → word < 65536 → AreBytes (word_bytes word)
word_of_bytes word small = one_more (word / 256) ((word % 256) ∷ []) (omega (arith, small)) (one_more (word % 256) [] (omega arith) no_more)

eight_small : (test : Bool) (byte : ℕ) → byte < 256 → cond test (byte + 0x100) (byte + 0x200) < 65536
eight_small true byte small = omega (arith, small)
eight_small false byte small = omega (arith, small)

nine_small : (test : Bool) (low : ℕ) → low < 512 → cond test (low + 0x200) low < 65536
nine_small true low small = omega (arith, small)
nine_small false low small = omega (arith, small)

eight_bytes : (bytes : List ℕ) → AreBytes bytes → AreBytes (eight_words bytes)
eight_bytes [] are = no_more
eight_bytes (byte ∷ bytes) are =
    both_bytes (word_bytes (eight_bit_word byte)) (eight_words bytes)
    (word_of_bytes (eight_bit_word byte) (eight_small (count_ones byte % 2 == 1) byte (are 0 byte (omega arith))))
    (eight_bytes bytes (λ k d below. are (suc k) d (omega (arith, below))))

flag_bytes : AreBytes flag_words
flag_bytes = three_more 0 0 3 (0xFF ∷ 3 ∷ 0xFF ∷ []) (omega arith) (omega arith) (omega arith) (three_more 0xFF 3 0xFF [] (omega arith) (omega arith) (omega arith) no_more)

payload_word_bytes : (p : Payload) → AreBytes (payload_bytes p) → AreBytes (payload_words p)
payload_word_bytes p are =
    let words = summed_words p.did p.sdid p.user in
    let head = front_bytes (head_of p) (checksum_byte p ∷ []) are in
    let last = word_of_bytes (checksum_word words) (nine_small (nat_lt (sum words % 512) 0x100) (sum words % 512) (omega arith)) in
    subst AreBytes (sym (words_split p))
    (both_bytes flag_words (eight_words (head_of p) ++ last_word p) flag_bytes (both_bytes (eight_words (head_of p)) (last_word p) (eight_bytes (head_of p) head) last))

pub open_bytes : (bytes : List ℕ) → joined true [] bytes ≡ Ok bytes → AreBytes bytes → AreBytes (open_words bytes)
open_bytes [] join are = no_more
open_bytes (byte ∷ bytes) join are = elim (cases_Bool (is_whole (byte ∷ bytes))) [
  | inl whole ↦
      let w = whole_bytes (byte ∷ bytes) join whole in
      subst AreBytes (sym (ap open_words w.are ∙ whole_words w.payload)) (payload_word_bytes w.payload (subst AreBytes w.are are))
  | inr not_yet ↦
      subst AreBytes (sym (open_not_yet byte bytes not_yet)) (both_bytes flag_words (eight_words (byte ∷ bytes)) flag_bytes (eight_bytes (byte ∷ bytes) are))
]

pub words_bytes : (bytes words : List ℕ) → AreWords bytes words → AreBytes bytes
words_bytes [] [] are = no_more
words_bytes [] (word ∷ words) are = absurd are
words_bytes (high ∷ []) words are = absurd are
words_bytes (high ∷ low ∷ bytes) [] are = absurd are
words_bytes (high ∷ low ∷ bytes) (word ∷ words) (is, are) =
    let small = is.zeros in
    one_more high (low ∷ bytes) (omega arith) (one_more low bytes is.byte (words_bytes bytes words are))
