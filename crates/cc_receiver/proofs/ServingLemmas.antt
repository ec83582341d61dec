-- What whole frames give the services, step by step.
use Rattle.std.proofs.Common.{◌≡◌, ◌+◌, ◌<◌, ◌^◌, ◌||◌, ℕ, false, List, [], ◌∷◌, ◌++◌, length, arith, refl, ap, sym, subst, ◌∙◌, append_assoc, append-nil}
use Rattle.std.proofs.Math.Path.{fun_ext}
use Rattle.std.proofs.lemmas.Grind.{flat_map-append}
use Rattle.cc_base.specs.declared.rate.Rate.{Rate}
use Rattle.cc_base.specs.declared.step.Step.{Step}
use Rattle.cc_base.specs.Steps.{IsTaken, step_parts}
use Rattle.cc_base.specs.Syntax.{AllTaken, open_behind, parts_from, parts_of}
use Rattle.cc_base.proofs.StepLemmas.{front_from-append}
use Rattle.cc_data.specs.declared.triplet.Triplet.{Triplet}
use Rattle.cdp_packets.specs.declared.parts.CdpPart.{CdpPart}
use Rattle.channel_packets.specs.declared.parts.PacketPart.{PacketPart}
use Rattle.channel_packets.specs.ChannelPackets.{channel_triplets, continues_packet, starts}
use Rattle.channel_packets.specs.Reading.{judge_triplet, packet_syntax}
use Rattle.services_files.specs.Meaning.{Tick}
use Rattle.dtvcc_services.specs.Objects.{Events, Leads, all_ticks}
use Rattle.dtvcc_services.specs.declared.services.Services.{Services}
use Rattle.service_blocks.specs.declared.parts.BlockPart.{BlockPart}
use Rattle.service_blocks.specs.Channels.{IsHeard, IsHeardBehind, heard_behind}
use Rattle.service_blocks.proofs.ChannelLemmas.{heard_first, heard_pieces}
use Rattle.service_blocks.specs.Reading as reading
use Rattle.service_blocks.specs.Reading.{block_syntax, judge_part}
use Rattle.services_files.specs.Events.{event_of, events_of}
use Rattle.services_files.proofs.EventLemmas.{heard_behind-append}
use Rattle.cc_receiver.proofs.ChannelLemmas.{passed_over, pieces_of}
use Rattle.cc_receiver.specs.Channels.{HasHeard}
use Rattle.cc_receiver.specs.Gathering.{gathered}
use Rattle.cc_receiver.specs.Serving.{HasServed, ServesFrames, earlier_events, followed_by, given_by, last_events, said_events, said_triplets}
use Rattle.cc_receiver.specs.declared.services.Served.{Served}

-- services are led to by events that are the same
pub leads_by : (earlier last other : Events) (services : Services) → ((service : ℕ) → last service ≡ other service) → Leads earlier last services → Leads earlier other services
leads_by earlier last other services same leads = subst (λ events. Leads earlier events services) (fun_ext same) leads

-- no part, one, and two
pub leads_none : (earlier last : Events) (parts : List BlockPart) (services : Services) → parts ≡ [] → Leads earlier last services
    → Leads earlier (λ service. last service ++ events_of service parts) services
leads_none earlier last parts services none leads =
    leads_by earlier last (λ service. last service ++ events_of service parts) services
    (λ service. sym (ap (λ ps. last service ++ events_of service ps) none ∙ append-nil (last service))) leads

pub leads_one : (earlier last : Events) (parts : List BlockPart) (part : BlockPart) (services : Services) → parts ≡ part ∷ []
    → Leads earlier (λ service. last service ++ event_of service part) services → Leads earlier (λ service. last service ++ events_of service parts) services
leads_one earlier last parts part services one leads =
    leads_by earlier (λ service. last service ++ event_of service part) (λ service. last service ++ events_of service parts) services
    (λ service. ap (λ es. last service ++ es) (sym (ap (events_of service) one ∙ append-nil (event_of service part)))) leads

pub leads_two : (earlier last : Events) (parts : List BlockPart) (first second : BlockPart) (services : Services) → parts ≡ first ∷ second ∷ []
    → Leads earlier (λ service. (last service ++ event_of service first) ++ event_of service second) services
    → Leads earlier (λ service. last service ++ events_of service parts) services
leads_two earlier last parts first second services two leads =
    leads_by earlier (λ service. (last service ++ event_of service first) ++ event_of service second) (λ service. last service ++ events_of service parts) services
    (λ service. append_assoc (last service) (event_of service first) (event_of service second)
    ∙ ap (λ es. last service ++ es) (sym (ap (events_of service) two ∙ ap (λ es. event_of service first ++ es) (append-nil (event_of service second))))) leads

-- the events of all frames but the last, and of the last
pub both_are : (frames : List (List CdpPart)) (service : ℕ) → earlier_events frames service ++ last_events frames service ≡ said_events frames service
both_are [] service = refl
both_are (parts ∷ frames) service = refl

-- what is heard of a triplet, of whose pieces this step is made
pub heard_of_pieces : (before : List Triplet) (triplet : Triplet) (step : Step PacketPart) → step ≡ judge_triplet (open_behind packet_syntax (channel_triplets before)) triplet
    → heard_behind before (triplet ∷ []) ≡ parts_from block_syntax (open_behind block_syntax (parts_of packet_syntax before)) (step_parts step)
heard_of_pieces before triplet step is =
    ap (λ ps. parts_from block_syntax (open_behind block_syntax (parts_of packet_syntax before)) ps)
    (append-nil (step_parts (judge_triplet (open_behind packet_syntax before) triplet)) ∙ pieces_of before triplet step is)

pub taken_pieces : (before : List Triplet) (triplet : Triplet) (step : Step PacketPart) → step ≡ judge_triplet (open_behind packet_syntax (channel_triplets before)) triplet
    → IsHeardBehind before (triplet ∷ []) → AllTaken block_syntax (open_behind block_syntax (parts_of packet_syntax before)) (step_parts step)
taken_pieces before triplet step is heard =
    subst (λ ps. AllTaken block_syntax (open_behind block_syntax (parts_of packet_syntax before)) ps)
    (append-nil (step_parts (judge_triplet (open_behind packet_syntax before) triplet)) ∙ pieces_of before triplet step is) heard

-- a triplet that is passed over says nothing
pub heard_other : (before : List Triplet) (triplet : Triplet) → (starts triplet || continues_packet triplet) ≡ false → heard_behind before (triplet ∷ []) ≡ []
heard_other before triplet other =
    ap (λ ps. parts_from block_syntax (open_behind block_syntax (parts_of packet_syntax before)) ps)
    (append-nil (step_parts (judge_triplet (open_behind packet_syntax before) triplet)) ∙ ap step_parts (passed_over (open_behind packet_syntax before) triplet other).0)

-- what is open after one piece more
pub open_more : (pieces : List PacketPart) (piece : PacketPart)
    → open_behind block_syntax (pieces ++ piece ∷ []) ≡ reading.open_after (open_behind block_syntax pieces) piece
open_more pieces piece = front_from-append reading.open_after reading.nothing_open pieces (piece ∷ [])

-- services after a triplet that says nothing
pub served_nothing : (before : List Triplet) (earlier last : Events) (triplet : Triplet) (served : Served) → HasHeard (before ++ triplet ∷ []) served.channel
    → heard_behind before (triplet ∷ []) ≡ [] → Leads earlier last served.services
    → HasServed (before ++ triplet ∷ []) earlier (λ service. last service ++ events_of service (heard_behind before (triplet ∷ []))) served
served_nothing before earlier last triplet served heard none leads =
    record { heard = heard; leads = leads_none earlier last (heard_behind before (triplet ∷ [])) served.services none leads }

-- after one of one piece
abbrev pub said_by : List PacketPart → PacketPart → List BlockPart
said_by pieces piece = step_parts (judge_part (open_behind block_syntax pieces) piece)

pub served_one : (before : List Triplet) (earlier last : Events) (triplet : Triplet) (step : Step PacketPart) (piece : PacketPart) (services : Services)
    → step ≡ judge_triplet (open_behind packet_syntax (channel_triplets before)) triplet → step_parts step ≡ piece ∷ []
    → Leads earlier (λ service. last service ++ events_of service (said_by (parts_of packet_syntax before) piece)) services
    → Leads earlier (λ service. last service ++ events_of service (heard_behind before (triplet ∷ []))) services
served_one before earlier last triplet step piece services is one leads =
    let front = open_behind block_syntax (parts_of packet_syntax before) in
    let same : heard_behind before (triplet ∷ []) ≡ said_by (parts_of packet_syntax before) piece =
    heard_of_pieces before triplet step is ∙ ap (parts_from block_syntax front) one ∙ append-nil (step_parts (judge_part front piece)) in
    leads_by earlier (λ service. last service ++ events_of service (said_by (parts_of packet_syntax before) piece))
    (λ service. last service ++ events_of service (heard_behind before (triplet ∷ []))) services (λ service. ap (λ ps. last service ++ events_of service ps) (sym same)) leads

-- and of two
pub served_two : (before : List Triplet) (earlier last : Events) (triplet : Triplet) (step : Step PacketPart) (first second : PacketPart) (services : Services)
    → step ≡ judge_triplet (open_behind packet_syntax (channel_triplets before)) triplet → step_parts step ≡ first ∷ second ∷ []
    → Leads earlier (λ service. (last service ++ events_of service (said_by (parts_of packet_syntax before) first))
    ++ events_of service (said_by (parts_of packet_syntax before ++ first ∷ []) second)) services
    → Leads earlier (λ service. last service ++ events_of service (heard_behind before (triplet ∷ []))) services
served_two before earlier last triplet step first second services is two leads =
    let pieces = parts_of packet_syntax before in
    let front = open_behind block_syntax pieces in
    let one = said_by pieces first in
    let other = said_by (pieces ++ first ∷ []) second in
    let same : heard_behind before (triplet ∷ []) ≡ one ++ other =
    heard_of_pieces before triplet step is ∙ ap (parts_from block_syntax front) two
    ∙ ap (λ ps. one ++ ps) (append-nil (step_parts (judge_part (reading.open_after front first) second))
    ∙ ap (λ f. step_parts (judge_part f second)) (sym (open_more pieces first))) in
    leads_by earlier (λ service. (last service ++ events_of service one) ++ events_of service other)
    (λ service. last service ++ events_of service (heard_behind before (triplet ∷ []))) services
    (λ service. append_assoc (last service) (events_of service one) (events_of service other)
    ∙ ap (λ es. last service ++ es) (sym (ap (events_of service) same ∙ flat_map-append (event_of service) one other))) leads

-- the pieces of a triplet that is heard are taken
pub one_taken : (before : List Triplet) (triplet : Triplet) (step : Step PacketPart) (piece : PacketPart)
    → step ≡ judge_triplet (open_behind packet_syntax (channel_triplets before)) triplet → step_parts step ≡ piece ∷ [] → IsHeardBehind before (triplet ∷ [])
    → IsTaken (judge_part (open_behind block_syntax (parts_of packet_syntax before)) piece)
one_taken before triplet step piece is one heard =
    (subst (λ ps. AllTaken block_syntax (open_behind block_syntax (parts_of packet_syntax before)) ps) one (taken_pieces before triplet step is heard)).0

pub two_taken : (before : List Triplet) (triplet : Triplet) (step : Step PacketPart) (first second : PacketPart)
    → step ≡ judge_triplet (open_behind packet_syntax (channel_triplets before)) triplet → step_parts step ≡ first ∷ second ∷ [] → IsHeardBehind before (triplet ∷ [])
    → IsTaken (judge_part (open_behind block_syntax (parts_of packet_syntax before)) first)
    × IsTaken (judge_part (open_behind block_syntax (parts_of packet_syntax before ++ first ∷ [])) second)
two_taken before triplet step first second is two heard =
    let pieces = parts_of packet_syntax before in
    let taken = subst (λ ps. AllTaken block_syntax (open_behind block_syntax pieces) ps) two (taken_pieces before triplet step is heard) in
    (taken.0, subst (λ f. IsTaken (judge_part f second)) (sym (open_more pieces first)) taken.1.0)

-- a frame begins, and continues with one more triplet
pub served_more : (rate : Rate) (before triplets : List Triplet) (triplet : Triplet) (earlier : Events) (served : Served)
    → HasServed ((before ++ triplets) ++ triplet ∷ []) earlier
    (λ service. given_by rate before triplets service ++ events_of service (heard_behind (before ++ triplets) (triplet ∷ []))) served
    → HasServed (before ++ (triplets ++ triplet ∷ [])) earlier (given_by rate before (triplets ++ triplet ∷ [])) served
served_more rate before triplets triplet earlier served has = record {
  heard = subst (λ ts. HasHeard ts served.channel) (append_assoc before triplets (triplet ∷ [])) has.heard;
  leads = leads_by earlier
      (λ service. given_by rate before triplets service ++ events_of service (heard_behind (before ++ triplets) (triplet ∷ [])))
      (given_by rate before (triplets ++ triplet ∷ [])) served.services
      (λ service. ap (λ es. Tick rate ∷ es) (sym (ap (events_of service) (heard_behind-append before triplets (triplet ∷ []))
      ∙ flat_map-append (event_of service) (heard_behind before triplets) (heard_behind (before ++ triplets) (triplet ∷ []))))) has.leads;
}

-- of triplets that are heard, the next one is
pub next_heard : (before triplets rest all : List Triplet) (triplet : Triplet) → all ≡ (triplets ++ triplet ∷ []) ++ rest → IsHeard (before ++ all)
    → IsHeardBehind (before ++ triplets) (triplet ∷ [])
next_heard before triplets rest all triplet is heard =
    let whole : IsHeard (((before ++ triplets) ++ triplet ∷ []) ++ rest) =
    subst IsHeard (ap (λ ts. before ++ ts) is ∙ sym (append_assoc before (triplets ++ triplet ∷ []) rest) ∙ ap (λ ts. ts ++ rest) (sym (append_assoc before triplets (triplet ∷ [])))) heard in
    (heard_pieces (before ++ triplets) (triplet ∷ []) (heard_first ((before ++ triplets) ++ triplet ∷ []) rest whole)).1

-- a frame of parts that were gathered
pub serves_frame : (frames : List (List CdpPart)) (parts : List CdpPart) (rate : Rate) (triplets : List Triplet) (old new : Served)
    → rate ≡ (gathered parts).rate → triplets ≡ (gathered parts).triplets
    → (length frames < 2 ^ 32 → IsHeard (said_triplets frames) → ServesFrames frames old)
    → ((before : List Triplet) (earlier last : Events) → HasServed before earlier last old → all_ticks old.services < 4294967295 → IsHeard (before ++ triplets)
    → HasServed (before ++ triplets) (followed_by earlier last) (given_by rate before triplets) new)
    → (all_ticks old.services < 4294967295 → all_ticks new.services ≡ all_ticks old.services + 1)
    → length (parts ∷ frames) < 2 ^ 32 → IsHeard (said_triplets (parts ∷ frames)) → ServesFrames (parts ∷ frames) new
serves_frame frames parts rate triplets old new rate_is triplets_are serves frame counts few heard =
    let was = serves (omega (arith, few)) (heard_first (said_triplets frames) (gathered parts).triplets heard) in
    let count = was.count in
    let fewer : all_ticks old.services < 4294967295 = omega (arith, count, few) in
    let more = counts fewer in
    let both : followed_by (earlier_events frames) (last_events frames) ≡ said_events frames = fun_ext (λ service. both_are frames service) in
    record {
      led = subst (λ events. HasServed (said_triplets (parts ∷ frames)) events (last_events (parts ∷ frames)) new) both
          (subst (λ r. HasServed (said_triplets (parts ∷ frames)) (followed_by (earlier_events frames) (last_events frames))
          (given_by r (said_triplets frames) (gathered parts).triplets) new) rate_is
          (subst (λ ts. HasServed (said_triplets frames ++ ts) (followed_by (earlier_events frames) (last_events frames)) (given_by rate (said_triplets frames) ts) new)
          triplets_are (frame (said_triplets frames) (earlier_events frames) (last_events frames) was.led fewer
          (subst (λ ts. IsHeard (said_triplets frames ++ ts)) (sym triplets_are) heard))));
      count = omega (arith, more, count);
    }
