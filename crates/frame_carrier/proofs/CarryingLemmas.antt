-- The triplets of a frame have kinds and a number.
use Rattle.std.proofs.Common.{true, ◌==◌, ◌≡◌, ℕ, zero, suc, ◌+◌, ◌-◌, ◌*◌, ◌%◌, ◌<◌, ◌≤◌, Option, Some, None, List, [], ◌∷◌, ◌++◌, All, length, replicate, arith, append_assoc, ap, refl, sym, subst, ◌∙◌}
use Rattle.std.proofs.lemmas.Bool.{eqb-true}
use Rattle.std.proofs.lemmas.List.{length-append, length-replicate}
use Rattle.std.proofs.lemmas.List.Elements.{All-append, All-cons, All-nil}
use Rattle.cc_base.specs.Rate.{triplets_in_frame}
use Rattle.cc_base.specs.declared.rate.Rate.{Rate}
use Rattle.cc_base.specs.declared.rate.Rate.TheVariants as rates
use Rattle.cc_data.specs.declared.triplet.Triplet.{Triplet}
use Rattle.cc_data.specs.Triplets.{filler}
use Rattle.channel_packets.specs.Written.{bytes_written, continuing, header_for, packet_written, starting}
use Rattle.frame_carrier.specs.Carrying.{IsAt, channel_packet_of, channel_packet, packets_before, frame_bytes, packet_count}
use Rattle.frame_scheduler.specs.Columns.{Columns}
use Rattle.frame_carrier.specs.Carried.{AreByteBlocks, AreRoomy}
use Rattle.frame_carrier.specs.declared.carrier.Carrier.{Carrier}
use Rattle.words_files.specs.CarriedWords.{carried_words, triplets_packet}
use Rattle.words_files.proofs.CarriedWordsLemmas.{same_counter}
use Rattle.line21_codes.specs.declared.pairs.Pair.{Pair}
use Rattle.frame_scheduler.specs.declared.frames.FrameBytes.{FrameBytes}
use Rattle.frame_carrier.specs.FrameTriplets.{field_triplets, frame_triplets, front_triplets, pair_triplet}

-- a rate has from ten to twenty-five triplets a frame
pub triplets_many : (rate : Rate) → (10 ≤ triplets_in_frame rate) × (triplets_in_frame rate ≤ 25)
triplets_many rates.F23976 = (omega arith, omega arith)
triplets_many rates.F24 = (omega arith, omega arith)
triplets_many rates.F25 = (omega arith, omega arith)
triplets_many rates.F2997 = (omega arith, omega arith)
triplets_many rates.F30 = (omega arith, omega arith)
triplets_many rates.F50 = (omega arith, omega arith)
triplets_many rates.F5994 = (omega arith, omega arith)
triplets_many rates.F60 = (omega arith, omega arith)

-- a field has at most one
field_few : (kind : ℕ) (pair : Option Pair) → length (field_triplets kind pair) ≤ 1
field_few kind None = omega arith
field_few kind (Some pair) = omega arith

-- so the fields have at most two
pub front_few : (frame : FrameBytes) (packet : List Triplet) → length (front_triplets frame packet) ≤ length packet + 2
front_few frame packet =
    let one = field_few 0 frame.one in
    let two = field_few 1 frame.two in
    let all = length-append (field_triplets 0 frame.one) (field_triplets 1 frame.two ++ packet) in
    let rest = length-append (field_triplets 1 frame.two) packet in
    omega (arith, one, two, all, rest)

-- a kind has two bits
abbrev pub IsKind : Triplet → Type 0
IsKind t = t.kind < 4

-- triplets that don't count have one
fillers_kind : (n : ℕ) → All IsKind (replicate n filler)
fillers_kind zero = All-nil IsKind
fillers_kind (suc n) = All-cons IsKind filler (replicate n filler) (omega arith) (fillers_kind n)

-- so has a field's triplet
field_kind : (kind : ℕ) (pair : Option Pair) → kind < 4 → All IsKind (field_triplets kind pair)
field_kind kind None low = All-nil IsKind
field_kind kind (Some pair) low = All-cons IsKind (pair_triplet kind pair) [] low (All-nil IsKind)

-- the triplets of a frame have kinds
pub frame_kinds : (rate : Rate) (frame : FrameBytes) (packet : List Triplet) → All IsKind packet → All IsKind (frame_triplets rate frame packet)
frame_kinds rate frame packet kinds =
    All-append IsKind (front_triplets frame packet) (replicate (triplets_in_frame rate - length (front_triplets frame packet)) filler)
    (All-append IsKind (field_triplets 0 frame.one) (field_triplets 1 frame.two ++ packet) (field_kind 0 frame.one (omega arith))
    (All-append IsKind (field_triplets 1 frame.two) packet (field_kind 1 frame.two (omega arith)) kinds))
    (fillers_kind (triplets_in_frame rate - length (front_triplets frame packet)))

-- there are as many as the rate has
pub frame_number : (rate : Rate) (frame : FrameBytes) (packet : List Triplet) → length (front_triplets frame packet) ≤ triplets_in_frame rate
    → length (frame_triplets rate frame packet) ≡ triplets_in_frame rate
frame_number rate frame packet few =
    let many = (triplets_many rate).0 in
    let joined : length (frame_triplets rate frame packet) ≡ length (front_triplets frame packet) + length (replicate (triplets_in_frame rate - length (front_triplets frame packet)) filler) =
    length-append (front_triplets frame packet) (replicate (triplets_in_frame rate - length (front_triplets frame packet)) filler) in
    let fillers : length (replicate (triplets_in_frame rate - length (front_triplets frame packet)) filler) ≡ triplets_in_frame rate - length (front_triplets frame packet) =
    length-replicate (triplets_in_frame rate - length (front_triplets frame packet)) filler in
    omega (arith, joined, fillers, few, many)

-- the triplets of a frame with a pair in each field, where the rate has twenty
pub twenty_are : (rate : Rate) (frame : FrameBytes) (one two : Pair) → triplets_in_frame rate ≡ 20 → frame.one ≡ Some one → frame.two ≡ Some two
    → frame_triplets rate frame [] ≡ pair_triplet 0 one ∷ pair_triplet 1 two ∷ replicate 18 filler
twenty_are rate frame one two number first second = rw (number, first, second) refl

-- one more triplet that doesn't count
pub fill_more : (old : List Triplet) (number : ℕ) (all : List Triplet) → length old < number → old ++ replicate (number - length old) filler ≡ all
    → (length (old ++ filler ∷ []) ≤ number) × ((old ++ filler ∷ []) ++ replicate (number - length (old ++ filler ∷ [])) filler ≡ all)
fill_more old number all low filled =
    let long : length (old ++ filler ∷ []) ≡ length old + 1 = length-append old (filler ∷ []) in
    let one_more : number - length old ≡ suc (number - length (old ++ filler ∷ [])) = omega (arith, long, low) in (
      omega (arith, long, low),
      append_assoc old (filler ∷ []) (replicate (number - length (old ++ filler ∷ [])) filler)
          ∙ sym (ap (λ n. old ++ replicate n filler) one_more) ∙ filled,
    )

-- the triplets of a channel packet
bytes_kinds : (bytes : List ℕ) → All IsKind (bytes_written bytes)
bytes_kinds [] = All-nil IsKind
bytes_kinds (a ∷ []) = All-cons IsKind (continuing a 0x00) [] (omega arith) (All-nil IsKind)
bytes_kinds (a ∷ (b ∷ bytes)) = All-cons IsKind (continuing a b) (bytes_written bytes) (omega arith) (bytes_kinds bytes)

pub packet_kinds : (count : ℕ) (blocks : List ℕ) → All IsKind (channel_packet count blocks)
packet_kinds count [] = All-nil IsKind
packet_kinds count (byte ∷ blocks) =
    All-cons IsKind (starting (header_for (count % 4) (length (byte ∷ blocks))) byte) (bytes_written blocks) (omega arith) (bytes_kinds blocks)

bytes_length : (bytes : List ℕ) → 2 * length (bytes_written bytes) ≤ length bytes + 1
bytes_length [] = omega arith
bytes_length (a ∷ []) = omega arith
bytes_length (a ∷ (b ∷ bytes)) = let rest = bytes_length bytes in omega (arith, rest)

pub packet_few : (count : ℕ) (blocks : List ℕ) → 2 * length (channel_packet count blocks) ≤ length blocks + 2
packet_few count [] = omega arith
packet_few count (byte ∷ blocks) = let rest = bytes_length blocks in omega (arith, rest)

-- what is written of blocks, where there are some
pub written_is : (count : ℕ) (blocks : List ℕ) → 1 ≤ length blocks → packet_written (count % 4) blocks ≡ channel_packet count blocks
written_is count [] some = absurd (omega arith)
written_is count (byte ∷ blocks) some = refl

pub one_packet : (blocks : List ℕ) → 1 ≤ length blocks → packet_count blocks ≡ 1
one_packet [] some = absurd (omega arith)
one_packet (byte ∷ blocks) some = refl

-- what is carried of a frame, by the carrier's rate and counter
pub words_are : (rate : Rate) (number count : ℕ) (carrier : Carrier) (frame : FrameBytes) (own : Rate) (counter : ℕ) (packet : List Triplet) (words : List ℕ)
    → IsAt rate number count carrier → own ≡ carrier.rate → counter ≡ carrier.counter → packet ≡ channel_packet count frame.blocks.items
    → words ≡ carried_words (triplets_packet own counter (frame_triplets own frame packet))
    → words ≡ frame_bytes rate number frame (channel_packet count frame.blocks.items)
words_are rate number count carrier frame own counter packet words at rate_is counter_is packet_is is =
    is
    ∙ ap (λ r. carried_words (triplets_packet r counter (frame_triplets r frame packet))) (rate_is ∙ at.rate_is)
    ∙ ap (λ p. carried_words (triplets_packet rate counter (frame_triplets rate frame p))) packet_is
    ∙ same_counter rate number counter (frame_triplets rate frame (channel_packet count frame.blocks.items)) (counter_is ∙ at.counter_is)

-- a vector of which it is said that it is empty
pub none_of : (ts : List Triplet) → true ≡ (length ts == 0) → ts ≡ []
none_of [] is = refl
none_of (t ∷ ts) is = let none = eqb-true (length (t ∷ ts)) 0 (sym is) in absurd (omega (arith, none))

bytes_many : (bytes : List ℕ) → length bytes ≤ 2 * length (bytes_written bytes)
bytes_many [] = omega arith
bytes_many (a ∷ []) = omega arith
bytes_many (a ∷ (b ∷ bytes)) = let rest = bytes_many bytes in omega (arith, rest)

pub packet_many : (count : ℕ) (blocks : List ℕ) → length blocks ≤ 2 * length (channel_packet count blocks)
packet_many count [] = omega arith
packet_many count (byte ∷ blocks) = let rest = bytes_many blocks in omega (arith, rest)

-- columns without service blocks have room, and nothing that isn't a byte
pub quiet_roomy : (rate : Rate) (columns : Columns) → ((frame : ℕ) → (columns frame).blocks.items ≡ []) → AreRoomy rate columns
quiet_roomy rate columns none frame =
    let few = front_few (columns frame) (channel_packet_of columns frame) in
    let quiet : length (channel_packet_of columns frame) ≡ 0 = ap (λ blocks. length (channel_packet (packets_before columns frame) blocks)) (none frame) in
    let many = (triplets_many rate).0 in
    omega (arith, few, quiet, many)

pub quiet_bytes : (columns : Columns) → ((frame : ℕ) → (columns frame).blocks.items ≡ []) → AreByteBlocks columns
quiet_bytes columns none frame = subst (All (λ byte. byte < 256)) (sym (none frame)) (All-nil (λ byte. byte < 256))
