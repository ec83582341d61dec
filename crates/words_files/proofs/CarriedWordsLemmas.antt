-- The words that carry a packet of bytes are a words file of this packet alone.
use Rattle.std.proofs.Common.{◌≡◌, ℕ, ◌+◌, ◌*◌, ◌/◌, ◌%◌, ◌<◌, ◌≤◌, Bool, true, false, List, [], ◌∷◌, ◌++◌, append-nil, length, map, refl, ap, sym, ◌∙◌, subst, length-append, arith}
use Rattle.std.specs.Prelude.{if◌then◌else◌}
use Rattle.std.specs.List.{All, concat, flat_map}
use Rattle.std.proofs.lemmas.List.{length-map}
use Rattle.std.proofs.lemmas.List.Elements.{All-append, All-cons, All-from_recursion, All-head, All-nil, All-tail, recursion_from_All}
use Rattle.anc_words.specs.Packets.{AncillaryPacket, user_bytes}
use Rattle.anc_words.specs.Writing.{checksum_word, eight_bit_word, packet_bytes, packet_of, packet_words, summed_words, word_bytes}
use Rattle.anc_words.proofs.ByteLemmas.{IsByte}
use Rattle.anc_words.proofs.PacketLemmas.{packet_bytes-is, user_bytes-packet_of}
use Rattle.anc_words.proofs.WordsFileLemmas.{IsWordsFile-one}
use Rattle.cc_base.specs.Rate.{rate_code}
use Rattle.cc_base.specs.declared.rate.Rate.{Rate}
use Rattle.cc_base.specs.declared.rate.Rate.TheVariants as rates
use Rattle.cc_data.specs.Triplets.{all_written, bytes_of_triplet}
use Rattle.cc_data.specs.declared.triplet.Triplet.{Triplet}
use Rattle.cc_data.proofs.TripletLemmas.{length-all_written}
use Rattle.cdp_packets.specs.Packets.{Frame, IsCdp}
use Rattle.cdp_packets.specs.Sections.{AreSections, IsSectionList}
use Rattle.cdp_packets.specs.Written.{cc_data_section, checksum_of, unsummed_packet, written_packet}
use Rattle.cdp_packets.proofs.PacketLemmas.{written-is_packet}
use Rattle.cdp_packets.proofs.SectionLemmas.{cc_data_section-is}
use Rattle.words_files.specs.CarriedWords.{caption_flags, carried_words, triplets_packet}
use Rattle.words_files.specs.Frames.{CarryFrames, IsFileOf}
use Rattle.words_files.specs.Frames.CarryFrames.{none, caption, foreign}
use Rattle.words_files.proofs.WordLemmas.{All-split}

-- the parts of a packet are bytes
pub record IsOfBytes (frame : Frame) : Type 0 where
  pub flags : frame.flags < 256
  pub counter : frame.counter < 65536
  pub sections : All IsByte (concat frame.sections)

-- codes of rates have four bits
four_bits : (rate : Rate) → rate_code rate < 16
four_bits rates.F23976 = omega arith
four_bits rates.F24 = omega arith
four_bits rates.F25 = omega arith
four_bits rates.F2997 = omega arith
four_bits rates.F30 = omega arith
four_bits rates.F50 = omega arith
four_bits rates.F5994 = omega arith
four_bits rates.F60 = omega arith

-- the bytes of user words
pub low_bytes : (user : List ℕ) → All IsByte (map (λ word. word % 256) user)
low_bytes [] = All-nil IsByte
low_bytes (word ∷ user) = All-cons IsByte (word % 256) (map (λ word. word % 256) user) (omega arith) (low_bytes user)

-- a packet that bytes carry is of bytes
pub of_bytes : (frame : Frame) (bytes : List ℕ) → IsCdp frame bytes → All IsByte bytes → IsOfBytes frame
of_bytes frame bytes is all =
    let footer = 0x74 ∷ is.high ∷ is.low ∷ is.last ∷ [] in
    let front = 0x96 ∷ 0x69 ∷ length bytes ∷ (16 * rate_code frame.rate + is.marker) ∷ frame.flags ∷ is.high ∷ is.low ∷ [] in
    let parts = All-split IsByte front (concat frame.sections ++ footer) (subst (All IsByte) is.spelled all) in
    let (_, (_, (_, (_, (flags, (high, (low, _))))))) = recursion_from_All IsByte front parts.0 in
    let counter = is.counter in
    record {
      flags = flags;
      counter = omega (arith, high, low, counter);
      sections = (All-split IsByte (concat frame.sections) footer parts.1).0;
    }

-- so are those that ancillary packets carry
pub all_of_bytes : (packets : List AncillaryPacket) (frames : List Frame) → CarryFrames packets frames → All IsOfBytes frames
all_of_bytes _ _ none = All-nil IsOfBytes
all_of_bytes _ _ (caption packet packets frame frames is cdp rest) =
    All-cons IsOfBytes frame frames (of_bytes frame (user_bytes packet) cdp (low_bytes packet.user)) (all_of_bytes packets frames rest)
all_of_bytes _ _ (foreign packet packets frames isnt rest) = all_of_bytes packets frames rest

module _ (frame : Frame) (are : AreSections frame.sections) (of : IsOfBytes frame) (fits : length (concat frame.sections) + 11 ≤ 255) where
  abbrev sections : List ℕ
  sections = concat frame.sections

  abbrev bytes : List ℕ
  bytes = written_packet frame.rate frame.flags frame.counter sections

  abbrev footer : List ℕ
  footer = 0x74 ∷ (frame.counter / 256) ∷ (frame.counter % 256) ∷ []

  abbrev front : List ℕ
  front = 0x96 ∷ 0x69 ∷ (length sections + 11) ∷ (16 * rate_code frame.rate + 15) ∷ frame.flags ∷ (frame.counter / 256) ∷ (frame.counter % 256) ∷ []

  high_byte : frame.counter / 256 < 256
  high_byte = let low = of.counter in omega (arith, low)

  footer_bytes : All IsByte footer
  footer_bytes = All-from_recursion IsByte footer (omega arith, (high_byte, (omega arith, tt)))

  front_bytes : All IsByte front
  front_bytes =
      let rate = four_bits frame.rate in
      All-from_recursion IsByte front (omega arith, (omega arith, (omega (arith, fits), (omega (arith, rate), (of.flags, (high_byte, (omega arith, tt)))))))

  all_bytes : All IsByte bytes
  all_bytes =
      All-append IsByte (unsummed_packet frame.rate frame.flags frame.counter sections) (checksum_of (unsummed_packet frame.rate frame.flags frame.counter sections) ∷ [])
      (All-append IsByte front (sections ++ footer) front_bytes (All-append IsByte sections footer of.sections footer_bytes))
      (All-cons IsByte (checksum_of (unsummed_packet frame.rate frame.flags frame.counter sections)) [] (omega arith) (All-nil IsByte))

  long : length bytes ≤ 255
  long =
      let all = length-append (unsummed_packet frame.rate frame.flags frame.counter sections) (checksum_of (unsummed_packet frame.rate frame.flags frame.counter sections) ∷ []) in
      let body = length-append sections footer in
      omega (arith, all, body, fits)

  -- the words that carry a packet are a file of it alone
  pub carried_file : IsFileOf (frame ∷ []) (carried_words frame)
  carried_file = record {
    packets = packet_of 0x61 0x01 bytes ∷ [];
    file = IsWordsFile-one (packet_of 0x61 0x01 bytes) (packet_bytes 0x61 0x01 bytes)
        (packet_bytes-is 0x61 0x01 bytes (omega arith) (omega arith) (omega (arith, long)) all_bytes);
    carried = caption (packet_of 0x61 0x01 bytes) [] frame [] (refl, refl)
        (subst (IsCdp frame) (sym (user_bytes-packet_of 0x61 0x01 bytes all_bytes)) (written-is_packet frame.rate frame.flags frame.counter frame.sections are)) none;
  }

-- a triplet of bytes
pub record IsByteTriplet (t : Triplet) : Type 0 where
  pub kind : t.kind < 4
  pub a : t.a < 256
  pub b : t.b < 256

marked : (valid : Bool) → (if valid then 0xFC else 0xF8) ≤ 0xFC
marked true = omega arith
marked false = omega arith

written_bytes : (t : Triplet) → IsByteTriplet t → All IsByte (bytes_of_triplet t)
written_bytes t is = All-from_recursion IsByte (bytes_of_triplet t) (omega (arith, marked t.valid, is.kind), (is.a, (is.b, tt)))

all_written_bytes : (triplets : List Triplet) → All IsByteTriplet triplets → All IsByte (all_written triplets)
all_written_bytes [] all = All-nil IsByte
all_written_bytes (t ∷ triplets) all =
    All-append IsByte (bytes_of_triplet t) (all_written triplets) (written_bytes t (All-head IsByteTriplet t triplets all))
    (all_written_bytes triplets (All-tail IsByteTriplet t triplets all))

section_bytes : (triplets : List Triplet) → length triplets ≤ 31 → All IsByteTriplet triplets → All IsByte (cc_data_section triplets)
section_bytes triplets few are =
    All-cons IsByte 0x72 ((0xE0 + length triplets) ∷ all_written triplets) (omega arith)
    (All-cons IsByte (0xE0 + length triplets) (all_written triplets) (omega (arith, few)) (all_written_bytes triplets are))

-- those that carry the packet of triplets
pub triplets_file : (rate : Rate) (number : ℕ) (triplets : List Triplet) → length triplets ≤ 31 → All IsByteTriplet triplets
    → IsFileOf (triplets_packet rate number triplets ∷ []) (carried_words (triplets_packet rate number triplets))
triplets_file rate number triplets few are =
    let section = cc_data_section triplets in
    let one = append-nil section in
    let triple : length (all_written triplets) ≡ 3 * length triplets = length-all_written triplets in
    let all = ap length one in
    carried_file (triplets_packet rate number triplets) (cc_data_section-is triplets few, tt)
    (record { flags = omega arith; counter = omega arith; sections = subst (All IsByte) (sym one) (section_bytes triplets few are) })
    (omega (arith, all, triple, few))

-- the words of one section, and of a number below 65,536
pub section_words : (rate : Rate) (number : ℕ) (triplets : List Triplet) → number < 65536
    → packet_bytes 0x61 0x01 (written_packet rate caption_flags number (cc_data_section triplets)) ≡ carried_words (triplets_packet rate number triplets)
section_words rate number triplets small =
    let whole : number ≡ number % 65536 = omega (arith, small) in
    let one = sym (append-nil (cc_data_section triplets)) in
    let counted = ap (λ n. packet_bytes 0x61 0x01 (written_packet rate caption_flags n (cc_data_section triplets))) whole in
    counted ∙ ap (λ section. packet_bytes 0x61 0x01 (written_packet rate caption_flags (number % 65536) section)) one

-- no bytes are no sections
pub no_sections : (words : List ℕ) → words ≡ [] → IsSectionList words
no_sections words empty = subst IsSectionList (sym empty) (record { cut = []; are = tt; joined = refl })

-- a counter has the low 16 bits of a number
pub same_counter : (rate : Rate) (number counter : ℕ) (triplets : List Triplet) → counter ≡ number % 65536
    → carried_words (triplets_packet rate counter triplets) ≡ carried_words (triplets_packet rate number triplets)
same_counter rate number counter triplets is =
    let same : counter % 65536 ≡ number % 65536 = omega arith in
    ap (λ n. packet_bytes 0x61 0x01 (written_packet rate caption_flags n (concat (cc_data_section triplets ∷ [])))) same

-- how many bytes carry a packet: a word has two, and there are eighteen words around its sections
words_twice : (words : List ℕ) → length (flat_map word_bytes words) ≡ length words + length words
words_twice [] = refl
words_twice (word ∷ words) = let rest = words_twice words in omega (arith, rest)

pub length-carried_words : (frame : Frame) → length (carried_words frame) ≡ 2 * length (concat frame.sections) + 36
length-carried_words frame =
    let sections = concat frame.sections in
    let footer = 0x74 ∷ (frame.counter / 256) ∷ (frame.counter % 256) ∷ [] in
    let unsummed = unsummed_packet frame.rate frame.flags frame.counter sections in
    let user = written_packet frame.rate frame.flags frame.counter sections in
    let summed = summed_words 0x61 0x01 user in
    let body : length (sections ++ footer) ≡ length sections + 3 = length-append sections footer in
    let all : length user ≡ length unsummed + 1 = length-append unsummed (checksum_of unsummed ∷ []) in
    let each : length summed ≡ length user + 3 = let same = length-map user eight_bit_word in omega (arith, same) in
    let words : length (summed ++ checksum_word summed ∷ []) ≡ length summed + 1 = length-append summed (checksum_word summed ∷ []) in
    let twice = words_twice (packet_words 0x61 0x01 user) in
    omega (arith, body, all, each, words, twice)

pub length-carried_triplets : (rate : Rate) (number : ℕ) (triplets : List Triplet)
    → length (carried_words (triplets_packet rate number triplets)) ≡ 6 * length triplets + 40
length-carried_triplets rate number triplets =
    let all = length-carried_words (triplets_packet rate number triplets) in
    let one = ap length (append-nil (cc_data_section triplets)) in
    let triple : length (all_written triplets) ≡ 3 * length triplets = length-all_written triplets in
    omega (arith, all, one, triple)
