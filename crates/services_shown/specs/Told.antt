-- Believed in part: the program's answer stands on some of these definitions.
-- What frames say to the services of a caption channel: in each a tick of the frame's rate, then the bytes that the service is sent
-- there, and no reset. What else the frames carry says nothing to them.
use Rattle.std.specs.Prelude.{◌≡◌, ℕ, zero, suc, ◌+◌, ◌<◌, ◌≤◌, ◌==◌, if◌then◌else◌, List, [], ◌∷◌, ◌++◌, None, map, take}
use Rattle.std.specs.List.{flat_map}
use Rattle.cc_base.specs.declared.rate.Rate.{Rate}
use Rattle.line21_codes.specs.declared.channels.FieldNumber.{FieldNumber}
use Rattle.cdp_packets.specs.Packets.{Frame}
use Rattle.cdp_packets.specs.PacketTriplets.{packet_triplets}
use Rattle.line21_shown.specs.Listing.{IsFormed, Listing, share_of}
use Rattle.line21_shown.specs.Rules.{IsRuled}
use Rattle.line21_shown.specs.Lane.TheVariants.{Service}
use Rattle.dtvcc_screen.specs.Meaning.{Byte, Event, Tick}
use Rattle.frame_carrier.specs.Received.{received_pairs}
use Rattle.cc_receiver.specs.Events.{service_events}
use Rattle.frame_carrier.specs.Columns.{Columns}
use Rattle.frame_carrier.specs.Planned.{Placement, captions_in, chunks_in, columns_of, service_bytes}
use Rattle.services_shown.specs.PlacedServices.{AreServicesPlaced}
use Rattle.frame_carrier.specs.Carrying.{column_packets}
use Rattle.services_shown.specs.ServicesCarried.{HasBlocks, Sent}

-- what a service gets in the first frames: in each a tick of the rate, and the bytes that it is sent there
abbrev pub told : Rate → (ℕ → List ℕ) → ℕ → List Event
told rate bytes zero = []
told rate bytes (suc n) = told rate bytes n ++ (Tick rate ∷ map Byte (bytes n))

-- what it gets in this many frames from one on
abbrev pub told_since : Rate → (ℕ → List ℕ) → ℕ → ℕ → List Event
told_since rate bytes since zero = []
told_since rate bytes since (suc n) = told_since rate bytes since n ++ (Tick rate ∷ map Byte (bytes (since + n)))

-- the bytes of a service in what is sent
abbrev pub sent_to : ℕ → List Sent → List ℕ
sent_to service sent = flat_map (λ one. if one.service == service then one.bytes else []) sent

-- in the first frames of columns with whole blocks each service gets its bytes in them
abbrev pub ColumnsAreTold : Type 0
ColumnsAreTold = (rate : Rate) (columns : Columns) (n : ℕ) (has : (frame : ℕ) → HasBlocks columns frame) (service k : ℕ) → k ≤ n
    → service_events service (take k (column_packets rate columns 0 n)) ≡ told rate (λ frame. sent_to service (has frame).sent) k

-- in the first frames of a placed list each service gets the bytes of its lane
abbrev pub ServicesAreTold : Type 0
ServicesAreTold = (list : Listing) (placed : Placement) → IsFormed list → IsRuled list → AreServicesPlaced list placed → (service k : ℕ) → k ≤ list.frames
    → service_events service (take k (column_packets list.rate (columns_of list placed) 0 list.frames))
    ≡ told list.rate (service_bytes list service (placed (Service service))) k

-- nothing is sent to the service, wherever units stand
pub record IsSilent (list : Listing) (service : ℕ) : Type 0 where
  pub captions : captions_in list service ≡ []
  pub chunks : chunks_in list service ≡ []
  pub bytes : (frames : List ℕ) (frame : ℕ) → service_bytes list service frames frame ≡ []

-- nothing is to one of which a list that keeps the rules has no share, and it has none of a service above 6
abbrev pub UnsharedAreSilent : Type 0
UnsharedAreSilent = (list : Listing) → IsFormed list → IsRuled list → (service : ℕ) → share_of list service ≡ None → IsSilent list service

abbrev pub HighAreUnshared : Type 0
HighAreUnshared = (list : Listing) → IsFormed list → IsRuled list → (service : ℕ) → 6 < service → share_of list service ≡ None

-- frames have the rates and the triplets of others, one by one
pub record CarryTheSame (frames others : List Frame) : Type 0 where
  pub rates : map (λ frame. frame.rate) frames ≡ map (λ frame. frame.rate) others
  pub triplets : map packet_triplets frames ≡ map packet_triplets others

-- all services get the same by both, and both fields have the same pairs
pub record SayAlike (frames others : List Frame) : Type 0 where
  pub events : (service : ℕ) → service_events service frames ≡ service_events service others
  pub pairs : (in_field : FieldNumber) → received_pairs in_field frames ≡ received_pairs in_field others

-- frames say nothing but their rates and triplets
abbrev pub LikeFramesSayAlike : Type 0
LikeFramesSayAlike = (frames others : List Frame) → CarryTheSame frames others → SayAlike frames others
