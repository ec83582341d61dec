-- Between crates: the program's answer stands on none of these definitions.
-- Services that took frames, one after another (CTA-708-E, sections 5 to 8).
use Rattle.std.specs.Prelude.{◌≡◌, ℕ, ◌+◌, ◌<◌, List, [], ◌∷◌, ◌++◌}
use Rattle.cc_base.specs.declared.rate.Rate.TheVariants.{F5994}
use Rattle.cc_data.specs.declared.triplet.Triplet.{Triplet}
use Rattle.cc_receiver.specs.Serving.{HasServed}
use Rattle.cc_receiver.specs.declared.services.Served.{Served}
use Rattle.cdp_packets.specs.PacketTriplets.{packet_triplets}
use Rattle.cdp_packets.specs.Packets.{Frame}
use Rattle.dtvcc_services.specs.Objects.{Events, all_ticks}
use Rattle.service_blocks.specs.Channels.{IsHeard}
use Rattle.services_files.specs.CarriedChannel.{file_triplets}
use Rattle.services_files.specs.Events.{service_events}

-- they took these frames
pub record AreServed (frames : List Frame) (served : Served) : Type 0 where
  pub earlier : Events
  pub last : Events
  pub has : HasServed (file_triplets frames) earlier last served
  pub leads : (service : ℕ) → earlier service ++ last service ≡ service_events service frames
  pub before : (others : List Frame) (newest : Frame) → frames ≡ others ++ newest ∷ [] → (service : ℕ) → earlier service ≡ service_events service others

-- two frames at 59.94 of these triplets follow those that they took
pub record AreNext (frames : List Frame) (served : Served) (first second : List Triplet) (one two : Frame) : Type 0 where
  pub took : AreServed frames served
  pub few : all_ticks served.services + 1 < 4294967295
  pub heard : IsHeard (file_triplets ((frames ++ one ∷ []) ++ two ∷ []))
  pub rate_one : one.rate ≡ F5994
  pub rate_two : two.rate ≡ F5994
  pub first_are : packet_triplets one ≡ first
  pub second_are : packet_triplets two ≡ second
