-- What is gathered of a packet's parts is what the packet says.
use Rattle.std.proofs.Common.{arith, ◌≡◌, ℕ, ◌+◌, ◌-◌, ◌*◌, ◌%◌, ◌<◌, ◌≤◌, ◌==◌, ◌&&◌, nat_lt, if◌then◌else◌, Bool, true, false, ◌++◌, List, [], ◌∷◌, length, map, refl, ap, sym, subst, ◌∙◌, append_assoc, append-nil, length-append}
use Rattle.std.proofs.lemmas.Bool.Decides.{nat_tests}
use Rattle.std.specs.List.{concat, flat_map}
use Rattle.std.proofs.lemmas.List.Concat.{flat_map-append}
use Rattle.cc_base.specs.declared.rate.Rate.{Rate}
use Rattle.cc_base.specs.Steps.{front_from}
use Rattle.cc_base.proofs.StepLemmas.{front_from-append}
use Rattle.cc_data.specs.declared.triplet.Triplet.{Triplet}
use Rattle.cc_data.specs.Triplets.{triplet_of, triplets_of}
use Rattle.cdp_packets.specs.declared.parts.CdpPart.TheVariants as part
use Rattle.cdp_packets.specs.PacketParts.{packet_parts, section_parts, triplet_parts}
use Rattle.cdp_packets.specs.PacketTriplets.{packet_triplets, section_triplets}
use Rattle.cdp_packets.specs.Packets.{Frame}
use Rattle.cdp_packets.specs.Sections.{AreSections, IsSection, section_rest}
use Rattle.cdp_packets.proofs.BegunLemmas.{test-same}
use Rattle.line21_codes.specs.declared.channels.FieldNumber.{FieldNumber}
use Rattle.line21_codes.specs.declared.channels.FieldNumber.TheVariants.{One, Two}
use Rattle.line21_codes.specs.declared.pairs.Pair.{Pair}
use Rattle.services_files.specs.Received.{field_kind, field_pair, field_pairs}
use Rattle.cc_receiver.specs.Gathering.{Gathered, gather, gathered, one_more, pair_more}

-- where there is room, one more is added
pub more_fits : {T : Type 0} (room : ℕ) (items : List T) (item : T) → length items < room → one_more room items item ≡ items ++ item ∷ []
more_fits room items item fits =
    let test : nat_lt (length items) room ≡ true = grind (arith, nat_tests) in ap (λ t. if t then items ++ item ∷ [] else items) test

pub pair_fits : (test : Bool) (pairs : List Pair) (pair : Pair) → length pairs < 81
    → pair_more pairs (if test then pair ∷ [] else []) ≡ pairs ++ (if test then pair ∷ [] else [])
pair_fits true pairs pair fits = more_fits 81 pairs pair fits
pair_fits false pairs pair fits = sym (append-nil pairs)

-- a triplet has at most one pair of a field
one_pair_if : (test : Bool) (pair : Pair) → length (if test then pair ∷ [] else []) ≤ 1
one_pair_if true pair = omega arith
one_pair_if false pair = omega arith

pub one_pair : (in_field : FieldNumber) (t : Triplet) → length (field_pair in_field t) ≤ 1
one_pair in_field t = one_pair_if (t.valid && (t.kind == field_kind in_field)) _

-- what is gathered, by its fields
abbrev pub held : Rate → ℕ → ℕ → List ℕ → List Triplet → List Pair → List Pair → Gathered
held rate flags counter sections triplets one two = record {
  rate = rate;
  flags = flags;
  counter = counter;
  sections = sections;
  triplets = triplets;
  pairs_one = one;
  pairs_two = two;
}

-- there is room for this many more bytes, and for the triplets in them
record Room (sections : List ℕ) (triplets : List Triplet) (one two : List Pair) (more : ℕ) : Type 0 where
  pub bytes : length sections + more ≤ 244
  pub triplets_fit : 3 * length triplets ≤ length sections
  pub one_fits : length one ≤ length triplets
  pub two_fits : length two ≤ length triplets

-- three bytes, and their triplet
abbrev with_three : Rate → ℕ → ℕ → List ℕ → List Triplet → List Pair → List Pair → ℕ → ℕ → ℕ → Triplet → Gathered
with_three rate flags counter sections triplets one two a b c t =
    held rate flags counter (sections ++ a ∷ b ∷ c ∷ []) (triplets ++ t ∷ []) (one ++ field_pair One t) (two ++ field_pair Two t)

three_fit : (sections : List ℕ) (a b c : ℕ) → length sections + 3 ≤ 244
    → one_more 244 (one_more 244 (one_more 244 sections a) b) c ≡ sections ++ a ∷ b ∷ c ∷ []
three_fit sections a b c room =
    let first = more_fits 244 sections a (omega (arith, room)) in
    let long = length-append sections (a ∷ []) in
    let second = more_fits 244 (sections ++ a ∷ []) b (omega (arith, room, long)) in
    let longer = length-append (sections ++ a ∷ []) (b ∷ []) in
    let third = more_fits 244 ((sections ++ a ∷ []) ++ b ∷ []) c (omega (arith, room, long, longer)) in
    ap (λ s. one_more 244 (one_more 244 s b) c) first
    ∙ ap (λ s. one_more 244 s c) second
    ∙ third
    ∙ ap (λ s. s ++ c ∷ []) (append_assoc sections (a ∷ []) (b ∷ []))
    ∙ append_assoc sections (a ∷ b ∷ []) (c ∷ [])

three_gathered : (rate : Rate) (flags counter : ℕ) (sections : List ℕ) (triplets : List Triplet) (one two : List Pair) (a b c : ℕ) (half t : Triplet) (more : ℕ)
    → Room sections triplets one two (3 + more)
    → gather (gather (gather (gather (gather (held rate flags counter sections triplets one two) (part.SectionByte a)) (part.SectionByte b)) (part.Half half)) (part.SectionByte c)) (part.Triplet t)
    ≡ with_three rate flags counter sections triplets one two a b c t
three_gathered rate flags counter sections triplets one two a b c half t more room =
    let bytes = room.bytes in
    let triplets_fit = room.triplets_fit in
    let one_fits = room.one_fits in
    let two_fits = room.two_fits in
    let s = three_fit sections a b c (omega (arith, bytes)) in
    let ts = more_fits 81 triplets t (omega (arith, bytes, triplets_fit)) in
    let ones = pair_fits (t.valid && (t.kind == field_kind One)) one (record { a = t.a; b = t.b }) (omega (arith, bytes, triplets_fit, one_fits)) in
    let twos = pair_fits (t.valid && (t.kind == field_kind Two)) two (record { a = t.a; b = t.b }) (omega (arith, bytes, triplets_fit, two_fits)) in
    ap (λ x. held rate flags counter x (one_more 81 triplets t) (pair_more one (field_pair One t)) (pair_more two (field_pair Two t))) s
    ∙ ap (λ x. held rate flags counter (sections ++ a ∷ b ∷ c ∷ []) x (pair_more one (field_pair One t)) (pair_more two (field_pair Two t))) ts
    ∙ ap (λ x. held rate flags counter (sections ++ a ∷ b ∷ c ∷ []) (triplets ++ t ∷ []) x (pair_more two (field_pair Two t))) ones
    ∙ ap (λ x. held rate flags counter (sections ++ a ∷ b ∷ c ∷ []) (triplets ++ t ∷ []) (one ++ field_pair One t) x) twos

-- room after them
three_room : (sections : List ℕ) (triplets : List Triplet) (one two : List Pair) (a b c : ℕ) (t : Triplet) (more : ℕ) → Room sections triplets one two (3 + more)
    → Room (sections ++ a ∷ b ∷ c ∷ []) (triplets ++ t ∷ []) (one ++ field_pair One t) (two ++ field_pair Two t) more
three_room sections triplets one two a b c t more room =
    let bytes = room.bytes in
    let triplets_fit = room.triplets_fit in
    let one_fits = room.one_fits in
    let two_fits = room.two_fits in
    let s = length-append sections (a ∷ b ∷ c ∷ []) in
    let ts = length-append triplets (t ∷ []) in
    let ones = length-append one (field_pair One t) in
    let twos = length-append two (field_pair Two t) in
    let few = one_pair One t in
    let fewer = one_pair Two t in
    record {
      bytes = omega (arith, bytes, s);
      triplets_fit = omega (arith, triplets_fit, s, ts);
      one_fits = omega (arith, one_fits, ones, ts, few);
      two_fits = omega (arith, two_fits, twos, ts, fewer);
    }

-- triplets after what is held
abbrev with_triplets : Rate → ℕ → ℕ → List ℕ → List Triplet → List Pair → List Pair → List ℕ → List Triplet → Gathered
with_triplets rate flags counter sections triplets one two bytes more =
    held rate flags counter (sections ++ bytes) (triplets ++ more) (one ++ field_pairs One more) (two ++ field_pairs Two more)

-- nothing more
no_more : (rate : Rate) (flags counter : ℕ) (sections : List ℕ) (triplets : List Triplet) (one two : List Pair)
    → held rate flags counter sections triplets one two ≡ with_triplets rate flags counter sections triplets one two [] []
no_more rate flags counter sections triplets one two =
    ap (λ x. held rate flags counter x triplets one two) (sym (append-nil sections))
    ∙ ap (λ x. held rate flags counter (sections ++ []) x one two) (sym (append-nil triplets))
    ∙ ap (λ x. held rate flags counter (sections ++ []) (triplets ++ []) x two) (sym (append-nil one))
    ∙ ap (λ x. held rate flags counter (sections ++ []) (triplets ++ []) (one ++ []) x) (sym (append-nil two))

-- and more after more
more_behind : (rate : Rate) (flags counter : ℕ) (sections : List ℕ) (triplets : List Triplet) (one two : List Pair) (bytes others : List ℕ) (first second : List Triplet)
    → with_triplets rate flags counter (sections ++ bytes) (triplets ++ first) (one ++ field_pairs One first) (two ++ field_pairs Two first) others second
    ≡ with_triplets rate flags counter sections triplets one two (bytes ++ others) (first ++ second)
more_behind rate flags counter sections triplets one two bytes others first second =
    ap (λ x. held rate flags counter x ((triplets ++ first) ++ second) ((one ++ field_pairs One first) ++ field_pairs One second) ((two ++ field_pairs Two first) ++ field_pairs Two second))
    (append_assoc sections bytes others)
    ∙ ap (λ x. held rate flags counter (sections ++ (bytes ++ others)) x ((one ++ field_pairs One first) ++ field_pairs One second) ((two ++ field_pairs Two first) ++ field_pairs Two second))
    (append_assoc triplets first second)
    ∙ ap (λ x. held rate flags counter (sections ++ (bytes ++ others)) (triplets ++ (first ++ second)) x ((two ++ field_pairs Two first) ++ field_pairs Two second))
    (append_assoc one (field_pairs One first) (field_pairs One second) ∙ ap (λ ps. one ++ ps) (sym (flat_map-append (field_pair One) first second)))
    ∙ ap (λ x. held rate flags counter (sections ++ (bytes ++ others)) (triplets ++ (first ++ second)) (one ++ field_pairs One (first ++ second)) x)
    (append_assoc two (field_pairs Two first) (field_pairs Two second) ∙ ap (λ ps. two ++ ps) (sym (flat_map-append (field_pair Two) first second)))

-- the triplets of a section
triplets_gathered : (rate : Rate) (flags counter : ℕ) (sections : List ℕ) (triplets : List Triplet) (one two : List Pair) (bytes : List ℕ) (count : ℕ)
    → length bytes ≡ 3 * count → Room sections triplets one two (length bytes)
    → front_from gather (held rate flags counter sections triplets one two) (triplet_parts bytes)
    ≡ with_triplets rate flags counter sections triplets one two bytes (triplets_of bytes)
triplets_gathered rate flags counter sections triplets one two [] count long room = no_more rate flags counter sections triplets one two
triplets_gathered rate flags counter sections triplets one two (a ∷ []) count long room = absurd (omega (arith, long))
triplets_gathered rate flags counter sections triplets one two (a ∷ b ∷ []) count long room = absurd (omega (arith, long))
triplets_gathered rate flags counter sections triplets one two (a ∷ b ∷ c ∷ bytes) count long room =
    let t = triplet_of a b c in
    let fits : Room sections triplets one two (3 + length bytes) = subst (Room sections triplets one two) (omega arith) room in
    let behind = triplets_gathered rate flags counter (sections ++ a ∷ b ∷ c ∷ []) (triplets ++ t ∷ []) (one ++ field_pair One t) (two ++ field_pair Two t) bytes (count - 1)
    (omega (arith, long)) (three_room sections triplets one two a b c t (length bytes) fits) in
    ap (λ g. front_from gather g (triplet_parts bytes)) (three_gathered rate flags counter sections triplets one two a b c (triplet_of a b 0) t (length bytes) fits)
    ∙ behind
    ∙ ap (λ x. held rate flags counter x ((triplets ++ t ∷ []) ++ triplets_of bytes) ((one ++ field_pair One t) ++ field_pairs One (triplets_of bytes))
    ((two ++ field_pair Two t) ++ field_pairs Two (triplets_of bytes))) (append_assoc sections (a ∷ b ∷ c ∷ []) bytes)
    ∙ ap (λ x. held rate flags counter (sections ++ a ∷ b ∷ c ∷ bytes) x ((one ++ field_pair One t) ++ field_pairs One (triplets_of bytes))
    ((two ++ field_pair Two t) ++ field_pairs Two (triplets_of bytes))) (append_assoc triplets (t ∷ []) (triplets_of bytes))
    ∙ ap (λ x. held rate flags counter (sections ++ a ∷ b ∷ c ∷ bytes) (triplets ++ t ∷ triplets_of bytes) x
    ((two ++ field_pair Two t) ++ field_pairs Two (triplets_of bytes))) (append_assoc one (field_pair One t) (field_pairs One (triplets_of bytes)))
    ∙ ap (λ x. held rate flags counter (sections ++ a ∷ b ∷ c ∷ bytes) (triplets ++ t ∷ triplets_of bytes) (one ++ field_pairs One (t ∷ triplets_of bytes)) x)
    (append_assoc two (field_pair Two t) (field_pairs Two (triplets_of bytes)))

-- bytes that carry no triplets
bytes_gathered : (rate : Rate) (flags counter : ℕ) (sections : List ℕ) (triplets : List Triplet) (one two : List Pair) (bytes : List ℕ)
    → length sections + length bytes ≤ 244
    → front_from gather (held rate flags counter sections triplets one two) (map part.SectionByte bytes) ≡ held rate flags counter (sections ++ bytes) triplets one two
bytes_gathered rate flags counter sections triplets one two [] room = ap (λ x. held rate flags counter x triplets one two) (sym (append-nil sections))
bytes_gathered rate flags counter sections triplets one two (b ∷ bytes) room =
    let long = length-append sections (b ∷ []) in
    ap (λ x. front_from gather (held rate flags counter x triplets one two) (map part.SectionByte bytes)) (more_fits 244 sections b (omega (arith, room)))
    ∙ bytes_gathered rate flags counter (sections ++ b ∷ []) triplets one two bytes (omega (arith, room, long))
    ∙ ap (λ x. held rate flags counter x triplets one two) (append_assoc sections (b ∷ []) bytes)

-- the bytes after a section's first two
rest_gathered : (test : Bool) (id second : ℕ) (rate : Rate) (flags counter : ℕ) (sections : List ℕ) (triplets : List Triplet) (one two : List Pair) (rest : List ℕ)
    → (id == 0x72) ≡ test → length rest ≡ section_rest id second → Room sections triplets one two (length rest)
    → front_from gather (held rate flags counter sections triplets one two) (if test then triplet_parts rest else map part.SectionByte rest)
    ≡ with_triplets rate flags counter sections triplets one two rest (if test then triplets_of rest else [])
rest_gathered true id second rate flags counter sections triplets one two rest is long room =
    let same : id ≡ 0x72 = test-same id 0x72 is in
    triplets_gathered rate flags counter sections triplets one two rest (second % 32) (long ∙ ap (λ i. section_rest i second) same) room
rest_gathered false id second rate flags counter sections triplets one two rest is long room =
    bytes_gathered rate flags counter sections triplets one two rest room.bytes
    ∙ ap (λ x. held rate flags counter (sections ++ rest) x one two) (sym (append-nil triplets))
    ∙ ap (λ x. held rate flags counter (sections ++ rest) (triplets ++ []) x two) (sym (append-nil one))
    ∙ ap (λ x. held rate flags counter (sections ++ rest) (triplets ++ []) (one ++ []) x) (sym (append-nil two))

-- a section
section_gathered : (rate : Rate) (flags counter : ℕ) (sections : List ℕ) (triplets : List Triplet) (one two : List Pair) (section : List ℕ)
    → IsSection section → Room sections triplets one two (length section)
    → front_from gather (held rate flags counter sections triplets one two) (section_parts section)
    ≡ with_triplets rate flags counter sections triplets one two section (section_triplets section)
section_gathered rate flags counter sections triplets one two [] is room = absurd is
section_gathered rate flags counter sections triplets one two (id ∷ []) is room = absurd is
section_gathered rate flags counter sections triplets one two (id ∷ second ∷ rest) is room =
    let bytes = room.bytes in
    let triplets_fit = room.triplets_fit in
    let long = length-append sections (id ∷ second ∷ []) in
    let behind : Room (sections ++ id ∷ second ∷ []) triplets one two (length rest) =
    record { bytes = omega (arith, bytes, long); triplets_fit = omega (arith, triplets_fit, long); one_fits = room.one_fits; two_fits = room.two_fits } in
    let first = bytes_gathered rate flags counter sections triplets one two (id ∷ second ∷ []) (omega (arith, bytes)) in
    ap (λ g. front_from gather g (if id == 0x72 then triplet_parts rest else map part.SectionByte rest)) first
    ∙ rest_gathered (id == 0x72) id second rate flags counter (sections ++ id ∷ second ∷ []) triplets one two rest refl is.1 behind
    ∙ ap (λ x. held rate flags counter x (triplets ++ section_triplets (id ∷ second ∷ rest)) (one ++ field_pairs One (section_triplets (id ∷ second ∷ rest)))
    (two ++ field_pairs Two (section_triplets (id ∷ second ∷ rest)))) (append_assoc sections (id ∷ second ∷ []) rest)

-- a section has no more triplets than bytes for them
triplets_few : (bytes : List ℕ) → 3 * length (triplets_of bytes) ≤ length bytes
triplets_few [] = omega arith
triplets_few (a ∷ []) = omega arith
triplets_few (a ∷ b ∷ []) = omega arith
triplets_few (a ∷ b ∷ c ∷ bytes) = let few = triplets_few bytes in omega (arith, few)

pub section_few : (test : Bool) (rest : List ℕ) → 3 * length (if test then triplets_of rest else []) ≤ length rest
section_few true rest = triplets_few rest
section_few false rest = omega arith

pairs_few : (in_field : FieldNumber) (triplets : List Triplet) → length (field_pairs in_field triplets) ≤ length triplets
pairs_few in_field [] = omega arith
pairs_few in_field (t ∷ triplets) =
    let one = one_pair in_field t in
    let few = pairs_few in_field triplets in
    let long = length-append (field_pair in_field t) (field_pairs in_field triplets) in
    omega (arith, one, few, long)

-- the pairs of one more triplet
pub pairs_one_more : (in_field : FieldNumber) (triplets : List Triplet) (t : Triplet) → length triplets < 81
    → pair_more (field_pairs in_field triplets) (field_pair in_field t) ≡ field_pairs in_field (triplets ++ t ∷ [])
pairs_one_more in_field triplets t room =
    let few = pairs_few in_field triplets in
    let pairs = field_pairs in_field triplets in
    pair_fits (t.valid && (t.kind == field_kind in_field)) pairs (record { a = t.a; b = t.b }) (omega (arith, few, room))
    ∙ ap (λ ps. pairs ++ ps) (sym (append-nil (field_pair in_field t)))
    ∙ sym (flat_map-append (field_pair in_field) triplets (t ∷ []))

-- room after a section
section_room : (sections : List ℕ) (triplets : List Triplet) (one two : List Pair) (section : List ℕ) (more : ℕ) → IsSection section
    → Room sections triplets one two (length section + more)
    → Room (sections ++ section) (triplets ++ section_triplets section) (one ++ field_pairs One (section_triplets section)) (two ++ field_pairs Two (section_triplets section)) more
section_room sections triplets one two [] more is room = absurd is
section_room sections triplets one two (id ∷ []) more is room = absurd is
section_room sections triplets one two (id ∷ second ∷ rest) more is room =
    let own = section_triplets (id ∷ second ∷ rest) in
    let bytes = room.bytes in
    let triplets_fit = room.triplets_fit in
    let one_fits = room.one_fits in
    let two_fits = room.two_fits in
    let s = length-append sections (id ∷ second ∷ rest) in
    let ts = length-append triplets own in
    let ones = length-append one (field_pairs One own) in
    let twos = length-append two (field_pairs Two own) in
    let few = section_few (id == 0x72) rest in
    let first = pairs_few One own in
    let second_few = pairs_few Two own in
    record {
      bytes = omega (arith, bytes, s);
      triplets_fit = omega (arith, triplets_fit, s, ts, few);
      one_fits = omega (arith, one_fits, ones, ts, first);
      two_fits = omega (arith, two_fits, twos, ts, second_few);
    }

-- sections
sections_gathered : (rate : Rate) (flags counter : ℕ) (sections : List ℕ) (triplets : List Triplet) (one two : List Pair) (cut : List (List ℕ))
    → AreSections cut → Room sections triplets one two (length (concat cut))
    → front_from gather (held rate flags counter sections triplets one two) (flat_map section_parts cut)
    ≡ with_triplets rate flags counter sections triplets one two (concat cut) (flat_map section_triplets cut)
sections_gathered rate flags counter sections triplets one two [] are room = no_more rate flags counter sections triplets one two
sections_gathered rate flags counter sections triplets one two (section ∷ cut) (is, are) room =
    let long = length-append section (concat cut) in
    let fits : Room sections triplets one two (length section + length (concat cut)) = subst (Room sections triplets one two) long room in
    let bytes = fits.bytes in
    let own : Room sections triplets one two (length section) =
    record { bytes = omega (arith, bytes); triplets_fit = fits.triplets_fit; one_fits = fits.one_fits; two_fits = fits.two_fits } in
    front_from-append gather (held rate flags counter sections triplets one two) (section_parts section) (flat_map section_parts cut)
    ∙ ap (λ g. front_from gather g (flat_map section_parts cut)) (section_gathered rate flags counter sections triplets one two section is own)
    ∙ sections_gathered rate flags counter (sections ++ section) (triplets ++ section_triplets section) (one ++ field_pairs One (section_triplets section))
    (two ++ field_pairs Two (section_triplets section)) cut are (section_room sections triplets one two section (length (concat cut)) is fits)
    ∙ more_behind rate flags counter sections triplets one two section (concat cut) (section_triplets section) (flat_map section_triplets cut)

-- a packet
pub packet_gathered : (packet : Frame) → AreSections packet.sections → length (concat packet.sections) ≤ 244
    → gathered (packet_parts packet) ≡ record {
      rate = packet.rate;
      flags = packet.flags;
      counter = packet.counter;
      sections = concat packet.sections;
      triplets = packet_triplets packet;
      pairs_one = field_pairs One (packet_triplets packet);
      pairs_two = field_pairs Two (packet_triplets packet);
    }
packet_gathered packet are few =
    let start = held packet.rate packet.flags packet.counter [] [] [] [] in
    let room : Room [] [] [] [] (length (concat packet.sections)) =
    record { bytes = omega (arith, few); triplets_fit = omega arith; one_fits = omega arith; two_fits = omega arith } in
    front_from-append gather start (flat_map section_parts packet.sections) (part.End ∷ [])
    ∙ ap (λ g. front_from gather g (part.End ∷ [])) (sections_gathered packet.rate packet.flags packet.counter [] [] [] [] packet.sections are room)
