-- Believed: the library's answers stand on these definitions.
-- What whole frames give the services of DTVCC (CTA-708-E, sections 5 to 7): in each frame a tick of its rate, and then what its triplets
-- say after the earlier frames'.
use Rattle.std.specs.Prelude.{◌≡◌, List, [], ◌∷◌, ◌++◌, length}
use Rattle.cc_base.specs.declared.rate.Rate.{Rate}
use Rattle.cc_data.specs.declared.triplet.Triplet.{Triplet}
use Rattle.cdp_packets.specs.declared.parts.CdpPart.{CdpPart}
use Rattle.services_files.specs.Meaning.{Tick}
use Rattle.dtvcc_services.specs.Objects.{Events, Leads, all_ticks}
use Rattle.service_blocks.specs.Channels.{heard_behind}
use Rattle.services_files.specs.Events.{events_of}
use Rattle.cc_receiver.specs.Channels.{HasHeard}
use Rattle.cc_receiver.specs.Gathering.{gathered}
use Rattle.cc_receiver.specs.declared.services.Served.{Served}

-- no events
abbrev pub no_events : Events
no_events service = []

-- events, and others after them
abbrev pub followed_by : Events → Events → Events
followed_by earlier last service = earlier service ++ last service

-- what a frame of a rate with these triplets gives each service, after the triplets of the frames before
abbrev pub given_by : Rate → List Triplet → List Triplet → Events
given_by rate before triplets service = Tick rate ∷ events_of service (heard_behind before triplets)

-- the readers took these triplets, and the services these events: the earlier frames', and the last one's
pub record HasServed (triplets : List Triplet) (earlier last : Events) (served : Served) : Type 0 where
  pub heard : HasHeard triplets served.channel
  pub leads : Leads earlier last served.services

-- the triplets of frames' parts, in order; the frames stand newest first
abbrev pub said_triplets : List (List CdpPart) → List Triplet
said_triplets [] = []
said_triplets (parts ∷ frames) = said_triplets frames ++ (gathered parts).triplets

-- what the newest frame gives each service
abbrev pub last_events : List (List CdpPart) → Events
last_events [] = no_events
last_events (parts ∷ frames) = given_by (gathered parts).rate (said_triplets frames) (gathered parts).triplets

-- what frames give each service
abbrev pub said_events : List (List CdpPart) → Events
said_events [] = no_events
said_events (parts ∷ frames) = followed_by (said_events frames) (last_events (parts ∷ frames))

-- what all frames but the newest give
abbrev pub earlier_events : List (List CdpPart) → Events
earlier_events [] = no_events
earlier_events (parts ∷ frames) = said_events frames

-- the services took frames
pub record ServesFrames (frames : List (List CdpPart)) (served : Served) : Type 0 where
  pub led : HasServed (said_triplets frames) (earlier_events frames) (last_events frames) served
  pub count : all_ticks served.services ≡ length frames
