-- A programme that frames without captions follow is carried as it is, and they add nothing.
use Rattle.std.proofs.Common.{◌≡◌, ℕ, zero, suc, ◌+◌, ◌<◌, ◌≤◌, nat_lt, Bool, true, false, if◌then◌else◌, Some, None, [], All, IfSome, length, refl, ap, sym, subst, ◌∙◌, arith}
use Rattle.std.proofs.lemmas.Bool.Decides.{nat_tests}
use Rattle.std.proofs.lemmas.List.Elements.{All-nil}
use Rattle.cc_base.specs.Rate.{triplets_in_frame}
use Rattle.cc_base.specs.declared.rate.Rate.{Rate}
use Rattle.cue_list_commands.specs.Carried.{AreByteBlocks, AreBytePairs, AreCarried, AreRoomy, IsBytePair}
use Rattle.cue_list_commands.specs.Carrying.{channel_packet, packet_count, packets_before}
use Rattle.cue_list_commands.specs.FrameTriplets.{front_triplets}
use Rattle.cue_list_commands.proofs.CarriedLemmas.{frames_carried}
use Rattle.cue_list_commands.proofs.CarryingLemmas.{front_few, triplets_many}
use Rattle.cue_list_commands.specs.Columns.{pair_in}
use Rattle.cue_list_commands.specs.FrameBytes.{FrameBytes}
use Rattle.line21_codes.specs.declared.channels.FieldNumber.{FieldNumber}
use Rattle.line21_codes.specs.declared.channels.FieldNumber.TheVariants.{One, Two}
use Rattle.line21_codes.specs.declared.channels.Chan.TheVariants.{Cc1, Cc3}
use Rattle.cue_lists.specs.Cadences.{cadence_of, has_slot_in}
use Rattle.cue_list_commands.specs.ServicesCarried.{HasBlocks, IsSent}
use Rattle.cue_list_commands.specs.Framing.{Framing}
use Rattle.cue_list_commands.specs.End.{silent_frame}
use Rattle.insert_commands.specs.Captions.{padded}

-- a frame below the programme's end is the programme's
pub padded_below : (list : Framing) (frame : ℕ) → frame < list.count → padded list frame ≡ list.columns frame
padded_below list frame below = at (nat_lt frame list.count) refl
  where
    at : (b : Bool) → nat_lt frame list.count ≡ b → padded list frame ≡ list.columns frame
    at true is = rw is refl
    at false is = absurd (let past : list.count ≤ frame = grind (arith, nat_tests) in omega (arith, past, below))

-- from the end on it is one without captions
pub padded_past : (list : Framing) (frame : ℕ) → list.count ≤ frame → padded list frame ≡ silent_frame list.rate frame
padded_past list frame past = at (nat_lt frame list.count) refl
  where
    at : (b : Bool) → nat_lt frame list.count ≡ b → padded list frame ≡ silent_frame list.rate frame
    at true is = absurd (let below : frame < list.count = grind (arith, nat_tests) in omega (arith, past, below))
    at false is = rw is refl

-- what holds of each frame of the programme and of each one without captions holds of all
by_end : (list : Framing) (P : ℕ → FrameBytes → Type 0) → ((frame : ℕ) → frame < list.count → P frame (list.columns frame))
    → ((frame : ℕ) → P frame (silent_frame list.rate frame)) → (frame : ℕ) → P frame (padded list frame)
by_end list P programme silent frame = at (nat_lt frame list.count) refl
  where
    at : (b : Bool) → nat_lt frame list.count ≡ b → P frame (padded list frame)
    at true is = rw is (programme frame (grind (arith, nat_tests)))
    at false is = rw is (silent frame)

-- the packets of the frames below the end are the programme's
pub packets_below : (list : Framing) (frame : ℕ) → frame ≤ list.count → packets_before (padded list) frame ≡ packets_before list.columns frame
packets_below list zero most = refl
packets_below list (suc frame) most =
    ap (λ n. n + packet_count (padded list frame).blocks.items) (packets_below list frame (omega (arith, most)))
    ∙ ap (λ (b : FrameBytes). packets_before list.columns frame + packet_count b.blocks.items) (padded_below list frame (omega (arith, most)))

-- the pair of a frame without captions is of bytes
silent_bytes : (slot : Bool) → IfSome (if slot then Some (record { a = 0x80; b = 0x80 }) else None) IsBytePair
silent_bytes true = record { a = omega arith; b = omega arith }
silent_bytes false = tt

silent_pairs : (rate : Rate) (in_field : FieldNumber) (frame : ℕ) → IfSome (pair_in in_field (silent_frame rate frame)) IsBytePair
silent_pairs rate One frame = silent_bytes (has_slot_in (cadence_of rate Cc1) frame)
silent_pairs rate Two frame = silent_bytes (has_slot_in (cadence_of rate Cc3) frame)

-- it has room for its pairs
silent_roomy : (rate : Rate) (frame count : ℕ) → length (front_triplets (silent_frame rate frame) (channel_packet count (silent_frame rate frame).blocks.items)) ≤ triplets_in_frame rate
silent_roomy rate frame count =
    let few = front_few (silent_frame rate frame) [] in
    let many = (triplets_many rate).0 in
    omega (arith, few, many)

module _ (list : Framing) (pairs : AreBytePairs list.columns) (bytes : AreByteBlocks list.columns) (roomy : AreRoomy list.rate list.columns) where
  pub padded_pairs : AreBytePairs (padded list)
  padded_pairs in_field frame =
      by_end list (λ n b. IfSome (pair_in in_field b) IsBytePair) (λ n below. pairs in_field n) (silent_pairs list.rate in_field) frame

  pub padded_bytes : AreByteBlocks (padded list)
  padded_bytes frame = by_end list (λ n b. All (λ byte. byte < 256) b.blocks.items) (λ n below. bytes n) (λ n. All-nil (λ byte. byte < 256)) frame

  pub padded_roomy : AreRoomy list.rate (padded list)
  padded_roomy frame =
      by_end list (λ n b. length (front_triplets b (channel_packet (packets_before (padded list) n) b.blocks.items)) ≤ triplets_in_frame list.rate)
      (λ n below.
      subst (λ count. length (front_triplets (list.columns n) (channel_packet count (list.columns n).blocks.items)) ≤ triplets_in_frame list.rate)
      (sym (packets_below list n (omega (arith, below)))) (roomy n))
      (λ n. silent_roomy list.rate n (packets_before (padded list) n)) frame

  -- so its frames are carried
  pub padded_carried : (n : ℕ) → AreCarried list.rate (padded list) n
  padded_carried n = frames_carried list.rate (padded list) n padded_pairs padded_bytes padded_roomy

module _ (list : Framing) (has : (frame : ℕ) → HasBlocks list.columns frame) where
  -- the blocks of each frame, by whether it is one of the programme
  blocks_by : (frame : ℕ) (b : Bool) → nat_lt frame list.count ≡ b → HasBlocks (padded list) frame
  blocks_by frame true is =
      let own = has frame in
      let same = ap (λ (b : FrameBytes). b.blocks.items) (padded_below list frame (grind (arith, nat_tests))) in
      let few = own.few in
      record { sent = own.sent; are = own.are; blocks = same ∙ own.blocks; few = omega (arith, ap length same, few) }
  blocks_by frame false is =
      let none = ap (λ (b : FrameBytes). b.blocks.items) (padded_past list frame (grind (arith, nat_tests))) in
      record { sent = []; are = All-nil IsSent; blocks = none; few = omega (arith, ap length none) }

  pub padded_blocks : (frame : ℕ) → HasBlocks (padded list) frame
  padded_blocks frame = blocks_by frame (nat_lt frame list.count) refl

  -- from the programme's end on nothing is sent
  blocks_silent : (frame : ℕ) (b : Bool) (is : nat_lt frame list.count ≡ b) → list.count ≤ frame → (blocks_by frame b is).sent ≡ []
  unfolding blocks_by
  blocks_silent frame true is past = absurd (let below : frame < list.count = grind (arith, nat_tests) in omega (arith, past, below))
  blocks_silent frame false is past = refl

  pub padded_silent : (frame : ℕ) → list.count ≤ frame → (padded_blocks frame).sent ≡ []
  unfolding padded_blocks
  padded_silent frame past = blocks_silent frame (nat_lt frame list.count) refl past
