-- Believed in part: the program's answer stands on some of these definitions.
-- What is found at the frames of a words file against a cue list, and what is found first (SMPTE ST 334-2, cdp_header; CTA-708-E,
-- cc_data() and Delay; CTA-608-E).
use Rattle.std.specs.Prelude.{◌≡◌, ◌≢◌, ℕ, ◌+◌, ◌%◌, ◌≤◌, true, List, [], ◌∷◌, ◌++◌, length, Option, Some, None}
use Rattle.cc_base.specs.Rate.{triplets_in_frame}
use Rattle.cc_receiver.specs.ReceivedServices.{fills_in, received_windows}
use Rattle.cdp_packets.specs.Packets.{Frame}
use Rattle.cdp_packets.specs.PacketTriplets.{packet_triplets}
use Rattle.cue_types.specs.Lane.{channel_number}
use Rattle.cue_types.specs.Listing.{Listing}
use Rattle.dtvcc_services.specs.Numbers.{IsService}
use Rattle.findings.specs.First.{IsFirstTried}
use Rattle.findings.specs.declared.finding.Finding.{Finding}
use Rattle.findings.specs.declared.finding.Kind45.{Kind45}
use Rattle.findings.specs.declared.finding.Kind45.TheVariants as kind
use Rattle.findings.specs.declared.finding.Which.TheVariants as which
use Rattle.cc_verifier.specs.Differing.{ShowsOther, ShowsOtherWindow}
use Rattle.words_files.specs.Received.{received_grids}

-- the counter doesn't go on from the previous frame's
pub record Jumps (earlier : List Frame) (last : Frame) (expected seen : ℕ) : Type 0 where
  pub before : List Frame
  pub former : Frame
  pub came : earlier ≡ before ++ former ∷ []
  pub expected_is : expected ≡ (former.counter + 1) % 65536
  pub seen_is : seen ≡ last.counter
  pub others : seen ≢ expected

-- the number of triplets, with those that don't count, isn't the number at the packet's rate
pub record Miscounts (last : Frame) (expected seen : ℕ) : Type 0 where
  pub expected_is : expected ≡ triplets_in_frame last.rate
  pub seen_is : seen ≡ length (packet_triplets last)
  pub others : seen ≢ expected

-- what is found at a frame, after the frames before. Two pairs in a frame are no fault of a list
abbrev pub IsFound : Listing → List Frame → Frame → Kind45 → Type 0
IsFound list earlier last (kind.CounterJump expected seen) = Jumps earlier last expected seen
IsFound list earlier last (kind.WrongCount expected seen) = Miscounts last expected seen
IsFound list earlier last (kind.WrongRate expected seen) = (expected ≡ list.rate) × (seen ≡ last.rate) × (seen ≢ expected)
IsFound list earlier last (kind.BufferFull service) = IsService service × (fills_in earlier last service ≡ true)
IsFound list earlier last (kind.GridDiffers (which.Chan channel)) = ShowsOther list.cues (length earlier) (received_grids (earlier ++ last ∷ [])) channel
IsFound list earlier last (kind.GridDiffers (which.Service service)) =
    IsService service × ShowsOtherWindow list.cues (length earlier) (received_windows (earlier ++ last ∷ [])) service
IsFound list earlier last (kind.TwoPairs seen) = ⊥
IsFound list earlier last kind.EightBits = ⊥

-- the order in which they are tried: counter, count, rate, buffers by their services, then the grids of CC1 to CC4 and the
-- services' windows
abbrev pub place_of : Kind45 → ℕ
place_of (kind.CounterJump expected seen) = 0
place_of (kind.WrongCount expected seen) = 1
place_of (kind.WrongRate expected seen) = 2
place_of (kind.BufferFull service) = 2 + service
place_of (kind.GridDiffers (which.Chan channel)) = 65 + channel_number channel
place_of (kind.GridDiffers (which.Service service)) = 69 + service
place_of (kind.TwoPairs seen) = 133
place_of kind.EightBits = 134

-- nothing is found at a frame, and nothing at any of some frames
abbrev pub IsClean : Listing → List Frame → Frame → Type 0
IsClean list earlier last = (found : Kind45) → IsFound list earlier last found → ⊥

abbrev pub AreClean : Listing → List Frame → Type 0
AreClean list frames = (earlier : List Frame) (last : Frame) (later : List Frame) → frames ≡ earlier ++ last ∷ later → IsClean list earlier last

-- the first finding of frames: the finding at the first frame at which something is found
pub record FirstFinding (list : Listing) (frames : List Frame) (finding : Finding) : Type 0 where
  pub earlier : List Frame
  pub last : Frame
  pub later : List Frame
  pub split : frames ≡ earlier ++ last ∷ later
  pub frame_is : finding.frame ≡ length earlier
  pub clean : AreClean list earlier
  pub first : IsFirstTried (IsFound list earlier last) place_of finding.kind

-- what is found first of what is tried before a place in the order, or that none of it is found
abbrev pub Tried : ℕ → Listing → List Frame → Frame → Option Kind45 → Type 0
Tried place list earlier last None = (other : Kind45) → IsFound list earlier last other → place ≤ place_of other
Tried place list earlier last (Some found) = IsFirstTried (IsFound list earlier last) place_of found
