-- Packets of captions at the front of bytes: which words stand there, and that they are a packet just where they are right.
use Rattle.std.proofs.Common.{◌≡◌, ◌+◌, ◌*◌, ◌/◌, ◌%◌, ◌<◌, ◌≤◌, ℕ, zero, suc, Bool, true, false, not, List, [], ◌∷◌, ◌++◌, length, map, take, drop, set, get_or, add-one, refl, arith, ap, sym, subst, ◌∙◌, append_assoc, length-append, lit<}
use Rattle.std.proofs.lemmas.List.{length-map, length-take-le, map-append, take-append-drop, take-map, take_at}
use Rattle.std.proofs.lemmas.List.Elements.{All-drop, All-from_recursion, All-weaker, recursion_from_All}
use Rattle.std.proofs.lemmas.Grind.{take_at_read}
use Rattle.std.proofs.Math.Seq.{drop-cons, set-append_seam}
use Rattle.std.proofs.lemmas.List.Sums.{AllPass-from_list_all, list_all-from_AllPass, sum_by-cons}
use Rattle.std.specs.List.{All, AllByRecursion, flat_map, sum}
use Rattle.std.specs.Simd.{first_chunks}
use Rattle.anc_words.specs.CaptionPackets.{IsCaptionAhead}
use Rattle.anc_words.specs.CaptionWords.{AreRight, BeginsWithCaptions, low_of, word_of}
use Rattle.anc_words.specs.Checksums.{IsChecksum}
use Rattle.anc_words.specs.EightBitWords.{IsEightBit}
use Rattle.anc_words.specs.Packets.{AncillaryPacket, IsPacket, IsUserWord, user_bytes}
use Rattle.anc_words.specs.Reading.{is_eight_bit}
use Rattle.anc_words.specs.Words.{AreWords, words_of}
use Rattle.anc_words.specs.WordsFiles.{IsPacketBytes}
use Rattle.anc_words.specs.Writing.{eight_bit_word, checksum_word, word_bytes}
use Rattle.anc_words.proofs.ChecksumLemmas.{checksum_word-is, IsChecksum-word}
use Rattle.anc_words.proofs.EightBitLemmas.{eight_bit_word-is, IsEightBit-word}
use Rattle.anc_words.proofs.PacketLemmas.{IsByte, IsPacket-ten_bits, IsPacketBytes-unique, same_heads}
use Rattle.anc_words.proofs.ReadLemmas.{is_eight_bit-true}
use Rattle.anc_words.proofs.SoundLemmas.{IsEightBit-passed}
use Rattle.anc_words.proofs.WordLemmas.{words_of-append}

-- where they aren't other ones, they are the same
pub not_is : (other same : Bool) → other ≡ not same → not other ≡ same
not_is other true is = ap not is
not_is other false is = ap not is

-- the words of pairs of bytes are the bytes' words
words_of-chunks : (many : ℕ) (bytes : List ℕ) → length bytes / 2 ≡ many → map word_of (first_chunks 2 many bytes) ≡ words_of bytes
words_of-chunks zero [] long = refl
words_of-chunks (suc many) [] long = absurd (omega arith)
words_of-chunks zero (high ∷ []) long = refl
words_of-chunks (suc many) (high ∷ []) long = absurd (omega arith)
words_of-chunks zero (high ∷ low ∷ bytes) long = absurd (omega arith)
words_of-chunks (suc many) (high ∷ low ∷ bytes) long = ap (λ words. (256 * high + low) ∷ words) (words_of-chunks many bytes (omega arith))

-- and the low bytes are the words' low bytes
low_bytes-chunks : (many : ℕ) (bytes : List ℕ) → AllByRecursion IsByte bytes → length bytes / 2 ≡ many
    → map low_of (first_chunks 2 many bytes) ≡ map (λ word. word % 256) (words_of bytes)
low_bytes-chunks zero [] are long = refl
low_bytes-chunks (suc many) [] are long = absurd (omega arith)
low_bytes-chunks zero (high ∷ []) are long = refl
low_bytes-chunks (suc many) (high ∷ []) are long = absurd (omega arith)
low_bytes-chunks zero (high ∷ low ∷ bytes) are long = absurd (omega arith)
low_bytes-chunks (suc many) (high ∷ low ∷ bytes) (_, (byte, are)) long =
    let one : low ≡ (256 * high + low) % 256 = omega arith in
    let more = low_bytes-chunks many bytes are (omega arith) in
    cc

-- a word for two bytes
length-words_of : (bytes : List ℕ) → length (words_of bytes) ≡ length bytes / 2
length-words_of [] = refl
length-words_of (high ∷ []) = refl
length-words_of (high ∷ low ∷ bytes) =
    let more = length-words_of bytes in
    omega (arith, more)

-- the flag and the identifiers of captions
abbrev pub head_words : List ℕ
head_words = 0x000 ∷ 0x3FF ∷ 0x3FF ∷ 0x161 ∷ 0x101 ∷ []

abbrev pub head_bytes : List ℕ
head_bytes = 0x00 ∷ 0x00 ∷ 0x03 ∷ 0xFF ∷ 0x03 ∷ 0xFF ∷ 0x01 ∷ 0x61 ∷ 0x01 ∷ 0x01 ∷ []

-- the words of bytes that begin with them
words_of-head : (bytes : List ℕ) → take 10 bytes ≡ head_bytes → words_of bytes ≡ head_words ++ words_of (drop 10 bytes)
words_of-head bytes head = ap words_of (sym (take-append-drop 10 bytes) ∙ ap (λ front. front ++ drop 10 bytes) head)

-- bytes whose words begin with these
bytes_of-words : (words bytes rest : List ℕ) → AllByRecursion IsByte bytes → words_of bytes ≡ words ++ rest
    → (behind : List ℕ) × (bytes ≡ flat_map word_bytes words ++ behind)
bytes_of-words [] bytes rest are spelled = (bytes, refl)
bytes_of-words (word ∷ words) [] rest are spelled = absurd cc
bytes_of-words (word ∷ words) (one ∷ []) rest are spelled = absurd cc
bytes_of-words (word ∷ words) (one ∷ two ∷ bytes) rest (_, (byte, are)) spelled =
    let first : 256 * one + two ≡ word = cc in
    let others : words_of bytes ≡ words ++ rest = cc in
    let (behind, same) = bytes_of-words words bytes rest are others in
    let high : one ≡ word / 256 = omega (arith, first) in
    let low : two ≡ word % 256 = omega (arith, first) in
    (behind, cc)

-- then the bytes of the flag and the identifiers stand there
pub begins-head : (bytes : List ℕ) (count : ℕ) (user : List ℕ) (checksum : ℕ) → All IsByte bytes → BeginsWithCaptions bytes count user checksum → take 10 bytes ≡ head_bytes
begins-head bytes count user checksum are begins =
    let (behind, same) = bytes_of-words head_words bytes (count ∷ (user ++ checksum ∷ begins.rest)) (recursion_from_All IsByte bytes are) begins.spelled in
    ap (take 10) same

-- pairs of bytes: those after the flag and the identifiers
abbrev pub ArePairs : List ℕ → List (List ℕ) → Type 0
ArePairs bytes pairs = pairs ≡ first_chunks 2 (length (drop 10 bytes) / 2) (drop 10 bytes)

-- the words of them
pairs-words : (bytes : List ℕ) (pairs : List (List ℕ)) → ArePairs bytes pairs → map word_of pairs ≡ words_of (drop 10 bytes)
pairs-words bytes pairs are = ap (map word_of) are ∙ words_of-chunks (length (drop 10 bytes) / 2) (drop 10 bytes) refl

-- what stands there, in pairs
pub begins-pairs : (bytes : List ℕ) (pairs words user behind others : List (List ℕ)) (count checksum : List ℕ)
    → take 10 bytes ≡ head_bytes → ArePairs bytes pairs → pairs ≡ count ∷ words
    → user ≡ take (word_of count % 256) words → behind ≡ drop (word_of count % 256) words → length user ≡ word_of count % 256
    → behind ≡ checksum ∷ others → BeginsWithCaptions bytes (word_of count) (map word_of user) (word_of checksum)
begins-pairs bytes pairs words user behind others count checksum head are first front back long last =
    let whole : words ≡ user ++ checksum ∷ others = cc (sym (take-append-drop (word_of count % 256) words), front, back, last) in
    let spelled : map word_of pairs ≡ word_of count ∷ (map word_of user ++ word_of checksum ∷ map word_of others) =
    ap (map word_of) first ∙ ap (λ ws. word_of count ∷ ws) (ap (map word_of) whole ∙ map-append word_of user (checksum ∷ others)) in record {
      rest = map word_of others;
      spelled = words_of-head bytes head ∙ ap (λ ws. head_words ++ ws) (sym (pairs-words bytes pairs are) ∙ spelled);
      many = length-map user word_of ∙ long;
    }

-- and the other way round
pub pairs-begin : (bytes : List ℕ) (pairs : List (List ℕ)) (count : ℕ) (user : List ℕ) (checksum : ℕ) (begins : BeginsWithCaptions bytes count user checksum)
    → take 10 bytes ≡ head_bytes → ArePairs bytes pairs → map word_of pairs ≡ count ∷ (user ++ checksum ∷ begins.rest)
pairs-begin bytes pairs count user checksum begins head are =
    let same : head_words ++ words_of (drop 10 bytes) ≡ head_words ++ (count ∷ (user ++ checksum ∷ begins.rest)) = sym (words_of-head bytes head) ∙ begins.spelled in
    let tails : words_of (drop 10 bytes) ≡ count ∷ (user ++ checksum ∷ begins.rest) = cc in
    pairs-words bytes pairs are ∙ tails

-- the low bytes of the first of those after the count
pub pairs-low_bytes : (bytes : List ℕ) (pairs words user : List (List ℕ)) (count : List ℕ) (many : ℕ) → All IsByte bytes → ArePairs bytes pairs
    → pairs ≡ count ∷ words → user ≡ take many words → map low_of user ≡ map (λ word. word % 256) (map word_of user)
pairs-low_bytes bytes pairs words user count many bounded are first front =
    let rest = drop 10 bytes in
    let low = low_bytes-chunks (length rest / 2) rest (recursion_from_All IsByte rest (All-drop IsByte 10 bytes bounded)) refl in
    let all : map low_of pairs ≡ map (λ word. word % 256) (map word_of pairs) =
    ap (map low_of) are ∙ low ∙ ap (map (λ word. word % 256)) (sym (pairs-words bytes pairs are)) in
    let behind : map low_of (count ∷ words) ≡ map (λ word. word % 256) (map word_of (count ∷ words)) = subst (λ ps. map low_of ps ≡ map (λ word. word % 256) (map word_of ps)) first all in
    let tails : map low_of words ≡ map (λ word. word % 256) (map word_of words) = cc in
    let some : map low_of (take many words) ≡ map (λ word. word % 256) (map word_of (take many words)) =
    sym (take-map low_of many words) ∙ ap (take many) tails ∙ take-map (λ word. word % 256) many (map word_of words)
    ∙ ap (map (λ word. word % 256)) (take-map word_of many words) in
    subst (λ ps. map low_of ps ≡ map (λ word. word % 256) (map word_of ps)) (sym front) some

-- so there is a pair for the count
pub pairs-count : (bytes : List ℕ) (pairs : List (List ℕ)) (count : ℕ) (user : List ℕ) (checksum : ℕ) → BeginsWithCaptions bytes count user checksum
    → take 10 bytes ≡ head_bytes → ArePairs bytes pairs → length pairs ≡ 0 → ⊥
pairs-count bytes pairs count user checksum begins head are none =
    let words = ap length (pairs-begin bytes pairs count user checksum begins head are) in
    omega (arith, words, length-map pairs word_of)

-- and after it there are more pairs than the count says
pub pairs-more : (bytes : List ℕ) (pairs words : List (List ℕ)) (first : List ℕ) (count : ℕ) (user : List ℕ) (checksum : ℕ) → BeginsWithCaptions bytes count user checksum
    → take 10 bytes ≡ head_bytes → ArePairs bytes pairs → pairs ≡ first ∷ words → length words ≤ word_of first % 256 → ⊥
pairs-more bytes pairs words first count user checksum begins head are spelled few =
    let same : word_of first ∷ map word_of words ≡ count ∷ (user ++ checksum ∷ begins.rest) =
    ap (map word_of) (sym spelled) ∙ pairs-begin bytes pairs count user checksum begins head are in
    let counted : word_of first ≡ count = cc in
    let tails : map word_of words ≡ user ++ checksum ∷ begins.rest = cc in
    let many : length words ≡ length (user ++ checksum ∷ begins.rest) = sym (length-map words word_of) ∙ ap length tails in
    let low : word_of first % 256 ≡ length user = ap (λ n. n % 256) counted ∙ sym begins.many in
    omega (arith, many, low, few, length-append user (checksum ∷ begins.rest))

-- bytes begin with at most one count, as many user words and a checksum word
pub begins-one_way : (bytes : List ℕ) (count other : ℕ) (user others : List ℕ) (checksum last : ℕ) → BeginsWithCaptions bytes count user checksum
    → BeginsWithCaptions bytes other others last → (count ≡ other) × (user ≡ others) × (checksum ≡ last)
begins-one_way bytes count other user others checksum last begins again =
    let same : head_words ++ (count ∷ (user ++ checksum ∷ begins.rest)) ≡ head_words ++ (other ∷ (others ++ last ∷ again.rest)) = sym begins.spelled ∙ again.spelled in
    let counted : count ≡ other = cc in
    let tails : user ++ checksum ∷ begins.rest ≡ others ++ last ∷ again.rest = cc in
    let many : length user ≡ length others = begins.many ∙ ap (λ n. n % 256) counted ∙ sym again.many in
    let (users, behind) = same_heads user others (checksum ∷ begins.rest) (last ∷ again.rest) many tails in
    (counted, users, cc)

-- this many words of ten bits at the front of bytes
AreWords-front : (many size : ℕ) (bytes : List ℕ) → size ≡ 2 * many → AllByRecursion IsByte bytes → size ≤ length bytes
    → AllByRecursion (λ word. word < 1024) (take many (words_of bytes)) → AreWords (take size bytes) (take many (words_of bytes))
AreWords-front zero zero bytes twice are long small = tt
AreWords-front zero (suc size) bytes twice are long small = absurd (omega arith)
AreWords-front (suc many) zero bytes twice are long small = absurd (omega arith)
AreWords-front (suc many) (suc zero) bytes twice are long small = absurd (omega arith)
AreWords-front (suc many) (suc (suc size)) [] twice are long small = absurd (omega arith)
AreWords-front (suc many) (suc (suc size)) (high ∷ []) twice are long small = absurd (omega arith)
AreWords-front (suc many) (suc (suc size)) (high ∷ low ∷ bytes) twice (_, (byte, are)) long (ten, small) = (
  record { zeros = omega arith; byte = byte; value = refl },
  AreWords-front many size bytes (omega arith) are (omega arith) small,
)

-- the words of the identifiers
did_word : eight_bit_word 0x61 ≡ 0x161
unfolding lib.Count.ones
did_word = refl

sdid_word : eight_bit_word 0x01 ≡ 0x101
unfolding lib.Count.ones
sdid_word = refl

-- the packet of captions with these user words
abbrev captions_of : List ℕ → AncillaryPacket
captions_of user = record { did = 0x61; sdid = 0x01; user = user }

-- its words, where they are right
caption-is : (count : ℕ) (user : List ℕ) (checksum : ℕ) → length user ≡ count % 256 → AreRight count user checksum
    → IsPacket (captions_of user) (0x000 ∷ 0x3FF ∷ 0x3FF ∷ 0x161 ∷ 0x101 ∷ count ∷ (user ++ checksum ∷ []))
caption-is count user checksum many right =
    let packet = captions_of user in record {
      did = 0x161;
      sdid = 0x101;
      count = count;
      checksum = checksum;
      spelled = refl;
      has_did = subst (IsEightBit 0x61) did_word (eight_bit_word-is 0x61 (lit< tt));
      has_sdid = subst (IsEightBit 0x01) sdid_word (eight_bit_word-is 0x01 (lit< tt));
      has_count = subst (λ value. IsEightBit value count) (sym many) (IsEightBit-passed count right.count_is);
      has_user = All-weaker (λ word. is_eight_bit word ≡ true) (IsUserWord packet)
          (λ word passed. record { ten_bits = (IsEightBit-passed word passed).ten_bits; caption = λ _. IsEightBit-passed word passed }) user
          (AllPass-from_list_all is_eight_bit user right.user_are);
      has_checksum = subst (IsChecksum (0x161 ∷ 0x101 ∷ count ∷ user)) (sym right.checksum_is) (checksum_word-is (0x161 ∷ 0x101 ∷ count ∷ user));
    }

-- bytes that begin with right words begin with a packet of captions
pub right-ahead : (bytes : List ℕ) (count : ℕ) (user : List ℕ) (checksum : ℕ) → All IsByte bytes → BeginsWithCaptions bytes count user checksum → AreRight count user checksum
    → IsCaptionAhead bytes (2 * (length user + 7)) (map (λ word. word % 256) user)
right-ahead bytes count user checksum are begins right =
    let packet = captions_of user in
    let words = 0x000 ∷ 0x3FF ∷ 0x3FF ∷ 0x161 ∷ 0x101 ∷ count ∷ (user ++ checksum ∷ []) in
    let is : IsPacket packet words = caption-is count user checksum begins.many right in
    let whole : words_of bytes ≡ words ++ begins.rest =
    begins.spelled ∙ ap (λ ws. 0x000 ∷ 0x3FF ∷ 0x3FF ∷ 0x161 ∷ 0x101 ∷ count ∷ ws) (sym (append_assoc user (checksum ∷ []) begins.rest)) in
    let many : length words ≡ length user + 7 = omega (arith, length-append user (checksum ∷ [])) in
    let within : 2 * (length user + 7) ≤ length bytes = omega (arith, length-words_of bytes, ap length whole, length-append words begins.rest, many) in
    let front : take (length user + 7) (words_of bytes) ≡ words = ap (take (length user + 7)) whole ∙ take_at words begins.rest (length user + 7) many in
    let small = recursion_from_All (λ word. word < 1024) words (IsPacket-ten_bits packet words is) in record {
      packet = packet;
      is_caption = (refl, refl);
      within = within;
      is = record {
        words = words;
        spelled = subst (AreWords (take (2 * (length user + 7)) bytes)) front
            (AreWords-front (length user + 7) (2 * (length user + 7)) bytes refl (recursion_from_All IsByte bytes are) within
            (subst (AllByRecursion (λ word. word < 1024)) (sym front) small));
        is_packet = is;
      };
      user_is = refl;
    }

-- the words of a packet of captions at the front of bytes
pub record HasRight (bytes : List ℕ) : Type 0 where
  pub count : ℕ
  pub user : List ℕ
  pub checksum : ℕ
  pub begins : BeginsWithCaptions bytes count user checksum
  pub right : AreRight count user checksum

-- bytes that begin with a packet of captions begin with right words
pub ahead-right : (bytes : List ℕ) (size : ℕ) (user : List ℕ) → IsCaptionAhead bytes size user → HasRight bytes
ahead-right bytes size user ahead =
    let packet = ahead.packet in
    let is = ahead.is.is_packet in
    let (did_is, sdid_is) = ahead.is_caption in
    let did : is.did ≡ 0x161 = IsEightBit-word packet.did is.did is.has_did ∙ ap eight_bit_word did_is ∙ did_word in
    let sdid : is.sdid ≡ 0x101 = IsEightBit-word packet.sdid is.sdid is.has_sdid ∙ ap eight_bit_word sdid_is ∙ sdid_word in
    let rest = words_of (drop size bytes) in
    let whole : words_of bytes ≡ ahead.is.words ++ rest =
    ap words_of (sym (take-append-drop size bytes)) ∙ words_of-append (take size bytes) ahead.is.words (drop size bytes) ahead.is.spelled in
    let words : ahead.is.words ≡ 0x000 ∷ 0x3FF ∷ 0x3FF ∷ 0x161 ∷ 0x101 ∷ is.count ∷ (packet.user ++ is.checksum ∷ []) = is.spelled ∙ rw (did, sdid) refl in record {
      count = is.count;
      user = packet.user;
      checksum = is.checksum;
      begins = record {
        rest = rest;
        spelled = whole ∙ ap (λ ws. ws ++ rest) words
            ∙ ap (λ ws. 0x000 ∷ 0x3FF ∷ 0x3FF ∷ 0x161 ∷ 0x101 ∷ is.count ∷ ws) (append_assoc packet.user (is.checksum ∷ []) rest);
        many = sym is.has_count.low_bits;
      };
      right = record {
        count_is = is_eight_bit-true is.count (subst (λ value. IsEightBit value is.count) (sym is.has_count.low_bits) is.has_count);
        user_are = list_all-from_AllPass is_eight_bit packet.user
            (All-weaker (IsUserWord packet) (λ word. is_eight_bit word ≡ true) (λ word has. is_eight_bit-true word (has.caption ahead.is_caption)) packet.user is.has_user);
        checksum_is = IsChecksum-word (is.did ∷ is.sdid ∷ is.count ∷ packet.user) is.checksum is.has_checksum
            ∙ ap (λ (d : ℕ). checksum_word (d ∷ is.sdid ∷ is.count ∷ packet.user)) did
            ∙ ap (λ (s : ℕ). checksum_word (0x161 ∷ s ∷ is.count ∷ packet.user)) sdid;
      };
    }

-- one more byte in front of those that stand in a buffer
pub put-next : (pairs : List (List ℕ)) (old now : List ℕ) (place : ℕ) → now ≡ map low_of (take place pairs) ++ drop place old → place < length pairs
    → place < length old → set now place (low_of (get_or pairs place [])) ≡ map low_of (take (place + 1) pairs) ++ drop (place + 1) old
put-next pairs old now place is within room =
    let front = map low_of (take place pairs) in
    let byte = low_of (get_or pairs place []) in
    let long : length front ≡ place = length-map (take place pairs) low_of ∙ length-take-le place pairs (omega arith) in
    let next : drop place old ≡ get_or old place 0 ∷ drop (place + 1) old = drop-cons old place 0 room ∙ rw add-one refl in
    let stored : set now place byte ≡ front ++ byte ∷ drop (place + 1) old =
    ap (λ bs. set bs place byte) (is ∙ ap (λ bs. front ++ bs) next) ∙ ap (λ n. set (front ++ get_or old place 0 ∷ drop (place + 1) old) n byte) (sym long)
    ∙ set-append_seam front (get_or old place 0) (drop (place + 1) old) byte in
    let more : map low_of (take (place + 1) pairs) ≡ front ++ byte ∷ [] =
    ap (map low_of) (take_at_read pairs place [] within).1 ∙ map-append low_of (take place pairs) (get_or pairs place [] ∷ []) in
    stored ∙ sym (append_assoc front (byte ∷ []) (drop (place + 1) old)) ∙ ap (λ bs. bs ++ drop (place + 1) old) (sym more)

-- words are spelled in bytes
words-are_bytes : (bytes words : List ℕ) → AreWords bytes words → AllByRecursion IsByte bytes
words-are_bytes [] [] are = tt
words-are_bytes [] (word ∷ words) are = absurd are
words-are_bytes (high ∷ []) words are = absurd are
words-are_bytes (high ∷ low ∷ bytes) [] are = absurd are
words-are_bytes (high ∷ low ∷ bytes) (word ∷ words) (is, are) = (omega (arith, is.zeros), (is.byte, words-are_bytes bytes words are))

-- and so is a packet
pub packet-are_bytes : (packet : AncillaryPacket) (bytes : List ℕ) → IsPacketBytes packet bytes → All IsByte bytes
packet-are_bytes packet bytes is = All-from_recursion IsByte bytes (words-are_bytes bytes is.words is.spelled)

-- bytes begin with at most one packet of captions
pub ahead-one_way : (bytes : List ℕ) (size other : ℕ) (user others : List ℕ) → IsCaptionAhead bytes size user → IsCaptionAhead bytes other others
    → (size ≡ other) × (user ≡ others)
ahead-one_way bytes size other user others first second =
    let (packets, fronts, _) = IsPacketBytes-unique first.packet second.packet (take size bytes) (take other bytes) (drop size bytes) (drop other bytes) first.is second.is
    (take-append-drop size bytes ∙ sym (take-append-drop other bytes)) in (
      sym (length-take-le size bytes first.within) ∙ ap length fronts ∙ length-take-le other bytes second.within,
      sym first.user_is ∙ ap user_bytes packets ∙ second.user_is,
    )

-- words have two bytes each
length-words : (bytes words : List ℕ) → AreWords bytes words → length bytes ≡ 2 * length words
length-words [] [] are = refl
length-words [] (word ∷ words) are = absurd are
length-words (high ∷ []) words are = absurd are
length-words (high ∷ low ∷ bytes) [] are = absurd are
length-words (high ∷ low ∷ bytes) (word ∷ words) (_, are) =
    let more = length-words bytes words are in
    omega (arith, more)

-- it is as long as its user bytes say
pub ahead-size : (bytes : List ℕ) (size : ℕ) (user : List ℕ) → IsCaptionAhead bytes size user → size ≡ 2 * length user + 14
ahead-size bytes size user ahead =
    let packet = ahead.packet in
    let is = ahead.is.is_packet in
    let carried : length user ≡ length packet.user = ap length (sym ahead.user_is) ∙ length-map packet.user (λ word. word % 256) in
    let long = ap length is.spelled in
    let twice = length-words (take size bytes) ahead.is.words ahead.is.spelled in
    omega (arith, carried, long, twice, length-take-le size bytes ahead.within, length-append packet.user (is.checksum ∷ []))

-- the low bytes of words have their sum, modulo 256
pub sum-low : (words : List ℕ) → sum (map (λ word. word % 256) words) % 256 ≡ sum words % 256
sum-low [] = refl
sum-low (word ∷ words) =
    let others = sum-low words in
    let low = sum_by-cons (λ x. x) (word % 256) (map (λ w. w % 256) words) in
    let whole = sum_by-cons (λ x. x) word words in
    omega (arith, others, low, whole)
