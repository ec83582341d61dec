-- The frames of a list have room for its service blocks.
use Rattle.std.proofs.Common.{◌≡◌, ◌∙◌, ℕ, ◌+◌, ◌*◌, ◌%◌, ◌≤◌, ◌==◌, Bool, true, false, List, [], ◌∷◌, ◌++◌, Option, Some, None, All, length, length-append, refl, sym, ap, subst, arith, append-nil, append_assoc}
use Rattle.std.specs.Prelude.{nat_lt, option_map, unwrap_or}
use Rattle.std.specs.List.{flat_map, zip}
use Rattle.std.proofs.lemmas.Bool.Decides.{nat_tests}
use Rattle.std.proofs.lemmas.List.Elements.{All-append, All-cons, All-nil}
use Rattle.cc_base.specs.Rate.{triplets_in_frame}
use Rattle.cc_base.specs.declared.rate.Rate.{Rate}
use Rattle.cc_base.specs.declared.rate.Rate.TheVariants as rate
use Rattle.line21_codes.specs.declared.channels.Chan.TheVariants.{Cc1, Cc3}
use Rattle.line21_codes.specs.declared.pairs.Pair.{Pair}
use Rattle.line21_slots.specs.Cadences.{cadence_of, slot_in}
use Rattle.line21_shown.specs.Listing.{IsFormed, IsListRate, Listing, share_of}
use Rattle.line21_shown.specs.Rules.{IsRuled}
use Rattle.line21_shown.specs.Shares.{share_room}
use Rattle.line21_shown.specs.Lane.TheVariants.{Channel, Service}
use Rattle.service_blocks.specs.Written.{block_written}
use Rattle.frame_carrier.specs.ServiceBytes.{bytes_in}
use Rattle.frame_carrier.proofs.ChunkOrderLemmas.{none_sent}
use Rattle.services_shown.specs.ServicesCarried.{HasBlocks, IsSent, Sent, sent_bytes}
use Rattle.services_shown.specs.Told.{UnsharedAreSilent}
use Rattle.frame_carrier.proofs.PlaceLemmas.{within_share}
use Rattle.frame_carrier.specs.Blocks.{service_block}
use Rattle.frame_carrier.specs.Planned.{Placement, captions_in, channel_pair, chunks_in, columns_of, frame_blocks, service_bytes, services, share_in}
use Rattle.services_shown.specs.PlacedServices.{AreServicesPlaced}
use Rattle.frame_carrier.proofs.PlanLemmas.{no_block, room_most, weight, weight_is, weights, weights_taken}
use Rattle.frame_carrier.proofs.ServicesLemmas.{share_is}
use Rattle.line21_slots.specs.declared.cadence.Cadence.TheVariants.{EvenFrames, OddFrames}
use Rattle.frame_carrier.specs.ChannelLane.{channel_slot}
use Rattle.frame_carrier.specs.SlotLists.{slot_cues}
use Rattle.frame_carrier.specs.Carried.{AreRoomy}
use Rattle.services_shown.proofs.ByteLemmas.{IsByte, block_are_bytes, service_are_bytes}
use Rattle.frame_carrier.specs.Carrying.{channel_packet_of, packets_before}
use Rattle.frame_carrier.specs.FrameTriplets.{field_triplets}
use Rattle.frame_carrier.proofs.CarryingLemmas.{packet_few}

-- a service without a share is sent nothing
pub unshared_silent : UnsharedAreSilent
unshared_silent l formed ruled service none =
    let sent = none_sent l service ruled none in
    record {
      captions = sent.0;
      chunks = sent.1;
      bytes = λ frames frame. ap (λ cs. bytes_in cs (zip (chunks_in l service) frames) frame) sent.0 ∙ ap (λ us. bytes_in [] (zip us frames) frame) sent.1;
    }

-- a block has its bytes and a header
block_length : (service : ℕ) (bytes : List ℕ) → service ≤ 6 → length (service_block service bytes) ≤ length bytes + 1
block_length service [] small = omega arith
block_length service (byte ∷ bytes) small = let low : nat_lt service 7 ≡ true = grind (arith, nat_tests) in rw low (omega arith)

module _ (l : Listing) (placed : Placement) (formed : IsFormed l) (ruled : IsRuled l) (all : AreServicesPlaced l placed) where
  -- the bytes of a service are within its share
  bytes_within : (service share frame : ℕ) → share_of l service ≡ Some share → length (service_bytes l service (placed (Service service)) frame) ≤ share
  bytes_within service share frame some =
      let own = share_is l formed ruled service share some in
      let is : share_in l service ≡ share = ap (λ o. unwrap_or o 0) some in
      let within = within_share (share_in l service) (captions_in l service) (chunks_in l service) (placed (Service service)) (omega (arith, own.2, is)) (all service).placed frame in
      omega (arith, within, is)

  -- so its block is
  block_within : (service frame : ℕ) → service ≤ 6 → length (service_block service (service_bytes l service (placed (Service service)) frame)) ≤ weight l.shares service
  block_within service frame small = at (share_of l service) refl
    where
      at : (o : Option ℕ) → share_of l service ≡ o → length (service_block service (service_bytes l service (placed (Service service)) frame)) ≤ weight l.shares service
      at None none = let quiet = ap length (no_block l formed ruled placed service frame none) in omega (arith, quiet)
      at (Some share) some =
          let size = block_length service (service_bytes l service (placed (Service service)) frame) small in
          let within = bytes_within service share frame some in
          let own = weight_is l service share some in
          omega (arith, size, within, own)

  -- all blocks of a frame are within its room
  pub blocks_within : (frame : ℕ) → length (frame_blocks l placed frame) ≤ share_room l.rate
  blocks_within frame =
      let block = λ (service : ℕ). service_block service (service_bytes l service (placed (Service service)) frame) in
      let f = length-append (block 6) [] in
      let e = length-append (block 5) (block 6 ++ []) in
      let d = length-append (block 4) (block 5 ++ (block 6 ++ [])) in
      let c = length-append (block 3) (block 4 ++ (block 5 ++ (block 6 ++ []))) in
      let b = length-append (block 2) (block 3 ++ (block 4 ++ (block 5 ++ (block 6 ++ [])))) in
      let a = length-append (block 1) (block 2 ++ (block 3 ++ (block 4 ++ (block 5 ++ (block 6 ++ []))))) in
      let one = block_within 1 frame (omega arith) in
      let two = block_within 2 frame (omega arith) in
      let three = block_within 3 frame (omega arith) in
      let four = block_within 4 frame (omega arith) in
      let five = block_within 5 frame (omega arith) in
      let six = block_within 6 frame (omega arith) in
      let taken = weights_taken l.shares 7 in
      let weights_are : weights l.shares 7 ≡ 0 + weight l.shares 0 + weight l.shares 1 + weight l.shares 2 + weight l.shares 3 + weight l.shares 4 + weight l.shares 5 + weight l.shares 6 = refl in
      omega (arith, a, b, c, d, e, f, one, two, three, four, five, six, taken, weights_are, formed.shares.fits)

-- a service's block is of bytes
block_bytes : (l : Listing) (placed : Placement) → IsFormed l → IsRuled l → AreServicesPlaced l placed → (service frame : ℕ) → service ≤ 6
    → All IsByte (service_block service (service_bytes l service (placed (Service service)) frame))
block_bytes l placed formed ruled all service frame small = at (share_of l service) refl
  where
    at : (o : Option ℕ) → share_of l service ≡ o → All IsByte (service_block service (service_bytes l service (placed (Service service)) frame))
    at None none = subst (All IsByte) (sym (no_block l formed ruled placed service frame none)) (All-nil IsByte)
    at (Some share) some =
        let own = share_is l formed ruled service share some in
        let within = bytes_within l placed formed ruled all service share frame some in
        block_are_bytes service (service_bytes l service (placed (Service service)) frame) small (omega (arith, within, own.3))
        (service_are_bytes l.rate service l.cues (placed (Service service)) frame formed.cues)

-- all blocks of a frame are
pub blocks_bytes : (l : Listing) (placed : Placement) → IsFormed l → IsRuled l → AreServicesPlaced l placed → (frame : ℕ) → All IsByte (frame_blocks l placed frame)
blocks_bytes l placed formed ruled all frame =
    let block = λ (service : ℕ). service_block service (service_bytes l service (placed (Service service)) frame) in
    let six = All-append IsByte (block 6) [] (block_bytes l placed formed ruled all 6 frame (omega arith)) (All-nil IsByte) in
    let five = All-append IsByte (block 5) (block 6 ++ []) (block_bytes l placed formed ruled all 5 frame (omega arith)) six in
    let four = All-append IsByte (block 4) (block 5 ++ (block 6 ++ [])) (block_bytes l placed formed ruled all 4 frame (omega arith)) five in
    let three = All-append IsByte (block 3) (block 4 ++ (block 5 ++ (block 6 ++ []))) (block_bytes l placed formed ruled all 3 frame (omega arith)) four in
    let two = All-append IsByte (block 2) (block 3 ++ (block 4 ++ (block 5 ++ (block 6 ++ [])))) (block_bytes l placed formed ruled all 2 frame (omega arith)) three in
    All-append IsByte (block 1) (block 2 ++ (block 3 ++ (block 4 ++ (block 5 ++ (block 6 ++ []))))) (block_bytes l placed formed ruled all 1 frame (omega arith)) two

-- the number of a pair
abbrev count : {T : Type 0} → Option T → ℕ
count None = 0
count (Some x) = 1

field_count : (kind : ℕ) (give : ℕ → Pair) (slot : Option ℕ) → length (field_triplets kind (option_map give slot)) ≡ count slot
field_count kind give None = refl
field_count kind give (Some slot) = refl

count_most : (slot : Option ℕ) → count slot ≤ 1
count_most None = omega arith
count_most (Some slot) = omega arith

-- fields that take turns have one pair a frame
one_turn : (frame : ℕ) → count (slot_in EvenFrames frame) + count (slot_in OddFrames frame) ≤ 1
one_turn frame = at (frame % 2 == 0) refl
  where
    at : (b : Bool) → (frame % 2 == 0) ≡ b → count (slot_in EvenFrames frame) + count (slot_in OddFrames frame) ≤ 1
    at true even =
        let odd : (frame % 2 == 1) ≡ false = grind (arith, nat_tests) in
        rw (even, odd) (omega arith)
    at false other = let most = count_most (slot_in OddFrames frame) in rw other (omega (arith, most))

-- what the fields of a frame have at most
abbrev field_most : Rate → ℕ
field_most rate.F5994 = 1
field_most rate.F60 = 1
field_most _ = 2

fields_few : (r : Rate) (frame : ℕ) → count (slot_in (cadence_of r Cc1) frame) + count (slot_in (cadence_of r Cc3) frame) ≤ field_most r
fields_few rate.F23976 frame = omega arith
fields_few rate.F24 frame = omega arith
fields_few rate.F25 frame = omega arith
fields_few rate.F2997 frame = omega arith
fields_few rate.F30 frame = omega arith
fields_few rate.F50 frame = omega arith
fields_few rate.F5994 frame = one_turn frame
fields_few rate.F60 frame = one_turn frame

-- with a packet of blocks in the room of a frame they are as many triplets as the rate has
roomy_rate : (r : Rate) → IsListRate r → (fields packet blocks : ℕ) → fields ≤ field_most r → 2 * packet ≤ blocks + 2 → blocks ≤ share_room r
    → fields + packet ≤ triplets_in_frame r
roomy_rate rate.F23976 is fields packet blocks few low most = absurd is
roomy_rate rate.F24 is fields packet blocks few low most = absurd is
roomy_rate rate.F25 is fields packet blocks few low most = absurd is
roomy_rate rate.F2997 is fields packet blocks few low most = omega arith
roomy_rate rate.F30 is fields packet blocks few low most = omega arith
roomy_rate rate.F50 is fields packet blocks few low most = absurd is
roomy_rate rate.F5994 is fields packet blocks few low most = omega arith
roomy_rate rate.F60 is fields packet blocks few low most = omega arith

pub frames_roomy : (l : Listing) (placed : Placement) → IsFormed l → IsRuled l → AreServicesPlaced l placed → AreRoomy l.rate (columns_of l placed)
frames_roomy l placed formed ruled all frame =
    let packet = channel_packet_of (columns_of l placed) frame in
    let few = packet_few (packets_before (columns_of l placed) frame) (frame_blocks l placed frame) in
    let within = blocks_within l placed formed ruled all frame in
    let one = field_count 0 (channel_slot Cc1 (slot_cues l Cc1) (placed (Channel Cc1))) (slot_in (cadence_of l.rate Cc1) frame) in
    let two = field_count 1 (channel_slot Cc3 (slot_cues l Cc3) (placed (Channel Cc3))) (slot_in (cadence_of l.rate Cc3) frame) in
    let fields = fields_few l.rate frame in
    let whole = length-append (field_triplets 0 (channel_pair l Cc1 (placed (Channel Cc1)) frame)) (field_triplets 1 (channel_pair l Cc3 (placed (Channel Cc3)) frame) ++ packet) in
    let rest = length-append (field_triplets 1 (channel_pair l Cc3 (placed (Channel Cc3)) frame)) packet in
    let most = roomy_rate l.rate formed.rate (count (slot_in (cadence_of l.rate Cc1) frame) + count (slot_in (cadence_of l.rate Cc3) frame)) (length packet)
    (length (frame_blocks l placed frame)) fields few within in
    omega (arith, one, two, whole, rest, most)

-- what a service is sent in a frame, if it is sent something
abbrev pub sent_of : ℕ → List ℕ → List Sent
sent_of service [] = []
sent_of service (byte ∷ bytes) = record { service = service; bytes = byte ∷ bytes } ∷ []

sent_append : (xs ys : List Sent) → sent_bytes (xs ++ ys) ≡ sent_bytes xs ++ sent_bytes ys
sent_append [] ys = refl
sent_append (x ∷ xs) ys =
    ap (λ l. block_written x.service x.bytes ++ l) (sent_append xs ys) ∙ sym (append_assoc (block_written x.service x.bytes) (sent_bytes xs) (sent_bytes ys))

one_sent : (service : ℕ) (bytes : List ℕ) → sent_bytes (sent_of service bytes) ≡ service_block service bytes
one_sent service [] = refl
one_sent service (byte ∷ bytes) = append-nil (block_written service (byte ∷ bytes))

one_is : (service : ℕ) (bytes : List ℕ) → 1 ≤ service → service ≤ 6 → length bytes ≤ 31 → All IsSent (sent_of service bytes)
one_is service [] least most few = All-nil IsSent
one_is service (byte ∷ bytes) least most few =
    All-cons IsSent (record { service = service; bytes = byte ∷ bytes }) [] (record { least = least; most = omega arith; some = omega arith; few = few }) (All-nil IsSent)

module _ (l : Listing) (placed : Placement) (formed : IsFormed l) (ruled : IsRuled l) (all : AreServicesPlaced l placed) (frame : ℕ) where
  abbrev own : ℕ → List ℕ
  own service = service_bytes l service (placed (Service service)) frame

  few_bytes : (service : ℕ) → length (own service) ≤ 31
  few_bytes service = at (share_of l service) refl
    where
      at : (o : Option ℕ) → share_of l service ≡ o → length (own service) ≤ 31
      at None none = let nothing = ap length ((unshared_silent l formed ruled service none).bytes (placed (Service service)) frame) in omega (arith, nothing)
      at (Some share) some =
          let most = share_is l formed ruled service share some in
          let within = bytes_within l placed formed ruled all service share frame some in
          omega (arith, within, most.3)

  -- services from 1 to 6
  abbrev AreLow : List ℕ → Type 0
  AreLow [] = Unit {0}
  AreLow (s ∷ ss) = (1 ≤ s) × (s ≤ 6) × AreLow ss

  all_sent : (ss : List ℕ) → AreLow ss → All IsSent (flat_map (λ service. sent_of service (own service)) ss)
  all_sent [] low = All-nil IsSent
  all_sent (s ∷ ss) low =
      All-append IsSent (sent_of s (own s)) (flat_map (λ service. sent_of service (own service)) ss) (one_is s (own s) low.0 low.1 (few_bytes s)) (all_sent ss low.2)

  all_bytes : (ss : List ℕ) → flat_map (λ service. service_block service (own service)) ss ≡ sent_bytes (flat_map (λ service. sent_of service (own service)) ss)
  all_bytes [] = refl
  all_bytes (s ∷ ss) =
      let one = one_sent s (own s) in
      let rest = all_bytes ss in
      let whole = sent_append (sent_of s (own s)) (flat_map (λ service. sent_of service (own service)) ss) in
      cc

  pub has_blocks : HasBlocks (columns_of l placed) frame
  has_blocks = record {
    sent = flat_map (λ service. sent_of service (own service)) services;
    are = all_sent services (omega arith, omega arith, (omega arith, omega arith, (omega arith, omega arith, (omega arith, omega arith, (omega arith, omega arith, (omega arith, omega arith, tt))))));
    blocks = all_bytes services;
    few = let within = blocks_within l placed formed ruled all frame in let most = room_most l.rate in omega (arith, within, most);
  }

  -- what is sent there is what each service has
  pub blocks_sent : has_blocks.sent ≡ flat_map (λ service. sent_of service (own service)) services
  unfolding has_blocks
  blocks_sent = refl
