-- The events of a service, frame by frame, and what is in them.
use Rattle.std.proofs.Common.{◌≡◌, ℕ, ◌==◌, if◌then◌else◌, Bool, true, false, List, [], ◌∷◌, ◌++◌, map, None, refl, ap, sym, ◌∙◌, append_assoc, append-nil}
use Rattle.std.proofs.lemmas.Grind.{flat_map-append}
use Rattle.cc_base.specs.Steps.{front_from}
use Rattle.cc_base.specs.Syntax.{open_behind, parts_from, parts_of}
use Rattle.cc_base.proofs.StepLemmas.{front_from-append}
use Rattle.cc_base.proofs.SyntaxLemmas.{parts_from-append}
use Rattle.cc_data.specs.declared.triplet.Triplet.{Triplet}
use Rattle.cdp_packets.specs.Packets.{Frame}
use Rattle.cdp_packets.specs.PacketTriplets.{packet_triplets}
use Rattle.channel_packets.specs.ChannelPackets.{ChannelPacket}
use Rattle.channel_packets.specs.Reading as packets
use Rattle.channel_packets.specs.Reading.{packet_syntax}
use Rattle.dtvcc_screen.specs.Meaning.{Byte, Event, Reset, Tick}
use Rattle.service_blocks.specs.declared.parts.BlockPart.{BlockPart}
use Rattle.service_blocks.specs.declared.parts.BlockPart.TheVariants as part
use Rattle.service_blocks.specs.Channels.{AreChannel, heard_behind, said}
use Rattle.service_blocks.specs.Reading.{block_syntax, nothing_open, open_after}
use Rattle.service_blocks.specs.ServiceBlocks.{Block}
use Rattle.service_blocks.proofs.ChannelLemmas.{channel_heard, heard-append}
use Rattle.services_files.specs.Events.{event_of, events_behind, events_of, frame_events, rates_of, service_events, untimed}
use Rattle.services_files.specs.CarriedChannel.{file_triplets}
use Rattle.services_files.proofs.SaidLemmas.{heard_behind-said}

-- a frame's events are what is heard of its triplets after those before
pub frame_events-heard : (service : ℕ) (before : List Triplet) (frame : Frame)
    → frame_events service before frame ≡ Tick frame.rate ∷ events_of service (heard_behind before (packet_triplets frame))
frame_events-heard service before frame = ap (λ parts. Tick frame.rate ∷ events_of service parts) (sym (heard_behind-said before (packet_triplets frame)))

-- what is heard of triplets and more, after others
pub heard_behind-append : (before triplets more : List Triplet)
    → heard_behind before (triplets ++ more) ≡ heard_behind before triplets ++ heard_behind (before ++ triplets) more
heard_behind-append before triplets more =
    let front = open_behind packet_syntax before in
    let block = open_behind block_syntax (parts_of packet_syntax before) in
    let parts = parts_from packet_syntax front triplets in
    let next : front_from packet_syntax.after front triplets ≡ open_behind packet_syntax (before ++ triplets) =
    sym (front_from-append packet_syntax.after packets.nothing_open before triplets) in
    let behind : front_from open_after block parts ≡ open_behind block_syntax (parts_of packet_syntax (before ++ triplets)) =
    sym (front_from-append open_after nothing_open (parts_of packet_syntax before) parts)
    ∙ ap (λ ps. open_behind block_syntax ps) (sym (parts_from-append packet_syntax packets.nothing_open before triplets)) in
    ap (λ ps. parts_from block_syntax block ps) (parts_from-append packet_syntax front triplets more)
    ∙ parts_from-append block_syntax block parts (parts_from packet_syntax (front_from packet_syntax.after front triplets) more)
    ∙ ap (λ f. parts_from block_syntax block parts ++ parts_from block_syntax f (parts_from packet_syntax (front_from packet_syntax.after front triplets) more)) behind
    ∙ ap (λ f. parts_from block_syntax block parts
    ++ parts_from block_syntax (open_behind block_syntax (parts_of packet_syntax (before ++ triplets))) (parts_from packet_syntax f more)) next

-- the events of more frames
behind-append : (service : ℕ) (before : List Triplet) (frames more : List Frame)
    → events_behind service before (frames ++ more) ≡ events_behind service before frames ++ events_behind service (before ++ file_triplets frames) more
behind-append service before [] more = ap (λ ts. events_behind service ts more) (sym (append-nil before))
behind-append service before (frame ∷ frames) more =
    let here = frame_events service before frame in
    let next = before ++ packet_triplets frame in
    ap (λ es. here ++ es) (behind-append service next frames more)
    ∙ sym (append_assoc here (events_behind service next frames) (events_behind service (next ++ file_triplets frames) more))
    ∙ ap (λ ts. (here ++ events_behind service next frames) ++ events_behind service ts more) (append_assoc before (packet_triplets frame) (file_triplets frames))

pub events_more : (service : ℕ) (frames : List Frame) (frame : Frame)
    → service_events service (frames ++ frame ∷ []) ≡ service_events service frames ++ frame_events service (file_triplets frames) frame
events_more service frames frame =
    behind-append service [] frames (frame ∷ [])
    ∙ ap (λ es. service_events service frames ++ es) (append-nil (frame_events service (file_triplets frames) frame))

-- events without ticks, of events and more
untimed-append : (events more : List Event) → untimed (events ++ more) ≡ untimed events ++ untimed more
untimed-append [] more = refl
untimed-append (Tick rate ∷ events) more = untimed-append events more
untimed-append (Byte value ∷ events) more = ap (λ es. Byte value ∷ es) (untimed-append events more)
untimed-append (Reset ∷ events) more = ap (λ es. Reset ∷ es) (untimed-append events more)

rates-append : (events more : List Event) → rates_of (events ++ more) ≡ rates_of events ++ rates_of more
rates-append [] more = refl
rates-append (Tick rate ∷ events) more = ap (λ rs. rate ∷ rs) (rates-append events more)
rates-append (Byte value ∷ events) more = rates-append events more
rates-append (Reset ∷ events) more = rates-append events more

-- parts of blocks make no ticks
byte_untimed : (test : Bool) (value : ℕ) → let events : List Event = if test then Byte value ∷ [] else [] in (untimed events ≡ events) × (rates_of events ≡ [])
byte_untimed true value = (refl, refl)
byte_untimed false value = (refl, refl)

part_untimed : (service : ℕ) (p : BlockPart) → (untimed (event_of service p) ≡ event_of service p) × (rates_of (event_of service p) ≡ [])
part_untimed service part.Reset = (refl, refl)
part_untimed service (part.Byte other value) = byte_untimed (other == service) value

parts_untimed : (service : ℕ) (parts : List BlockPart) → (untimed (events_of service parts) ≡ events_of service parts) × (rates_of (events_of service parts) ≡ [])
parts_untimed service [] = (refl, refl)
parts_untimed service (p ∷ parts) =
    let (one, none) = part_untimed service p in
    let (all, nothing) = parts_untimed service parts in (
      untimed-append (event_of service p) (events_of service parts) ∙ ap (λ es. es ++ untimed (events_of service parts)) one ∙ ap (λ es. event_of service p ++ es) all,
      rates-append (event_of service p) (events_of service parts) ∙ ap (λ rs. rs ++ rates_of (events_of service parts)) none ∙ nothing,
    )

-- without ticks, they are what is heard of all triplets
behind_untimed : (service : ℕ) (before : List Triplet) (frames : List Frame)
    → untimed (events_behind service before frames) ≡ events_of service (heard_behind before (file_triplets frames))
behind_untimed service before [] = refl
behind_untimed service before (frame ∷ frames) =
    let triplets = packet_triplets frame in
    let parts = heard_behind before triplets in
    let next = before ++ triplets in
    ap (λ es. untimed (es ++ events_behind service next frames)) (frame_events-heard service before frame)
    ∙ untimed-append (events_of service parts) (events_behind service next frames)
    ∙ ap (λ es. es ++ untimed (events_behind service next frames)) (parts_untimed service parts).0
    ∙ ap (λ es. events_of service parts ++ es) (behind_untimed service next frames)
    ∙ sym (flat_map-append (event_of service) parts (heard_behind next (file_triplets frames)))
    ∙ ap (λ ps. events_of service ps) (sym (heard_behind-append before triplets (file_triplets frames)))

behind_rates : (service : ℕ) (before : List Triplet) (frames : List Frame) → rates_of (events_behind service before frames) ≡ map (λ frame. frame.rate) frames
behind_rates service before [] = refl
behind_rates service before (frame ∷ frames) =
    let parts = heard_behind before (packet_triplets frame) in
    let rest = events_behind service (before ++ packet_triplets frame) frames in
    ap (λ es. rates_of (es ++ rest)) (frame_events-heard service before frame)
    ∙ ap (λ rs. frame.rate ∷ rs) (rates-append (events_of service parts) rest
    ∙ ap (λ rs. rs ++ rates_of rest) (parts_untimed service parts).1
    ∙ behind_rates service (before ++ packet_triplets frame) frames)

pub events_rates : (service : ℕ) (frames : List Frame) → rates_of (service_events service frames) ≡ map (λ frame. frame.rate) frames
events_rates service frames = behind_rates service [] frames

pub events_said : (service : ℕ) (frames : List Frame) (packets : List ChannelPacket) (blocks : List (List Block)) → AreChannel packets blocks (file_triplets frames)
    → untimed (service_events service frames) ≡ events_of service (said None packets blocks)
events_said service frames packets blocks channel =
    behind_untimed service [] frames
    ∙ ap (λ ps. events_of service ps) (channel_heard packets blocks (file_triplets frames) channel).says

-- what triplets add is what they make after others
pub more_said : (before triplets : List Triplet) (packets others : List ChannelPacket) (blocks more : List (List Block))
    → AreChannel packets blocks before → AreChannel others more (before ++ triplets)
    → said None others more ≡ said None packets blocks ++ heard_behind before triplets
more_said before triplets packets others blocks more channel whole =
    sym (channel_heard others more (before ++ triplets) whole).says ∙ heard-append before triplets
    ∙ ap (λ ps. ps ++ heard_behind before triplets) (channel_heard packets blocks before channel).says
