-- Between crates: the program's answer stands on none of these definitions.
-- The frames of a placed list that arrive, where a line loses some of them: a loss is seen by the counters of distribution packets (SMPTE
-- ST 334-2, cdp_hdr_sequence_cntr), which count modulo 65,536.
use Rattle.std.specs.Prelude.{◌≡◌, ⊤, ℕ, suc, ◌+◌, ◌<◌, ◌≤◌, ◌⊎◌, List, [], ◌∷◌, ◌++◌, Contains, map}
use Rattle.std.specs.List.{AllByRecursion, flat_map, range_with_len}
use Rattle.cc_base.specs.declared.rate.Rate.{Rate}
use Rattle.cdp_packets.specs.Packets.{Frame}
use Rattle.cue_lists.specs.Listing.{Listing}
use Rattle.frame_carrier.specs.Columns.{Columns}
use Rattle.frame_carrier.specs.Planned.{Placement, columns_of}
use Rattle.frame_carrier.specs.Carrying.{channel_packet_of, frame_bytes, frame_packet}

-- the distribution packet of a frame of columns
abbrev pub packet_of : Rate → Columns → ℕ → Frame
packet_of rate columns frame = frame_packet rate frame (columns frame) (channel_packet_of columns frame)

-- the packets of the frames of a placed list that came, and the bytes of their ancillary packets
abbrev pub delivered_packets : Listing → Placement → List ℕ → List Frame
delivered_packets list placed came = map (packet_of list.rate (columns_of list placed)) came

abbrev pub delivered_bytes : Listing → Placement → List ℕ → List ℕ
delivered_bytes list placed came =
    flat_map (λ frame. frame_bytes list.rate frame (columns_of list placed frame) (channel_packet_of (columns_of list placed) frame)) came

-- the frames come in order, and between two that follow each other fewer than 65,536 are missing
abbrev pub AreDelivered : List ℕ → Type 0
AreDelivered [] = ⊤
AreDelivered (frame ∷ []) = ⊤
AreDelivered (frame ∷ (next ∷ frames)) = (frame < next) × (next ≤ frame + 65536) × AreDelivered (next ∷ frames)

-- up to a frame none is lost: all came, and no other
abbrev pub NoneIsLost : List ℕ → ℕ → Type 0
NoneIsLost came frame = came ≡ range_with_len 0 (suc frame)

-- the last frame that is lost before one: those that came are some before it, and then all from right after it up to the one
pub record IsLastLost (came : List ℕ) (lost frame : ℕ) : Type 0 where
  pub before : List ℕ
  pub earlier : AllByRecursion (λ (k : ℕ). k < lost) before
  pub count : ℕ
  pub since : came ≡ before ++ range_with_len (suc lost) (suc count)
  pub up_to : suc lost + count ≡ frame

-- of frames that came in order, there is such a one before the last of them, where any is lost
abbrev pub LastLostIsFound : Type 0
LastLostIsFound = (earlier : List ℕ) (frame : ℕ) → AreDelivered (earlier ++ frame ∷ [])
    → NoneIsLost (earlier ++ frame ∷ []) frame ⊎ ((lost : ℕ) × IsLastLost (earlier ++ frame ∷ []) lost frame)

-- it is the greatest frame below the last of them that didn't come
abbrev pub GreatestIsLastLost : Type 0
GreatestIsLastLost = (earlier : List ℕ) (frame lost : ℕ) → AreDelivered (earlier ++ frame ∷ []) → lost < frame
    → (Contains (earlier ++ frame ∷ []) lost → ⊥) → ((k : ℕ) → lost < k → k < frame → Contains (earlier ++ frame ∷ []) k)
    → IsLastLost (earlier ++ frame ∷ []) lost frame

-- this holds of the last frame that is lost before one
pub record HoldsOfLastLost (came : List ℕ) (frame : ℕ) (Holds : ℕ → Type 0) : Type 0 where
  pub lost : ℕ
  pub last : IsLastLost came lost frame
  pub holds : Holds lost

-- what was reset after a lost frame is in step with the list at the last frame that came: none was lost, or it is back after the last that was
abbrev pub IsInStep : List ℕ → ℕ → (ℕ → Type 0) → Type 0
IsInStep came frame IsBack = NoneIsLost came frame ⊎ HoldsOfLastLost came frame IsBack
