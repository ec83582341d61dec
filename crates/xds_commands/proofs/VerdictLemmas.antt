-- The verdict on a cue list and packets; and of its side file and its input `xds` makes one status.
use Rattle.std.proofs.Common.{◌≡◌, ◌∙◌, ◌⊎◌, ℕ, List, ap, inl, inr, refl, sym, subst}
use Rattle.command_base.specs.declared.status.Status.{Status}
use Rattle.command_base.specs.declared.status.Status.TheVariants as status
use Rattle.cue_list_commands.specs.Accepted.{IsRefused, SpellGoodList}
use Rattle.cue_list_commands.proofs.ListVerdictLemmas.{accepted_not_refused as list_not_refused, good_once, refused_once as list_refused_once}
use Rattle.cue_lists.specs.Listing.{Listing}
use Rattle.cue_list_commands.proofs.LanesLemmas.{one_placement}
use Rattle.cue_list_commands.specs.Planned.{IsListPlaced, Placement}
use Rattle.cue_list_commands.specs.Framing.{words_of}
use Rattle.xds_frames.specs.XdsFrames.{HasXdsRoom, IsFirstWithoutXdsRoom}
use Rattle.xds_commands.specs.PacketLists.{IsGoodPackets, IsRefusedPackets}
use Rattle.xds_commands.specs.PlacedPackets.{IsPlacedWith, IsXdsRefusal}
use Rattle.command_base.proofs.OneLemmas.{beside_one, made_one}
use Rattle.command_base.specs.Exact.{IsOne}
use Rattle.command_base.specs.MadeVerdict.{MadeVerdict}
use Rattle.xds_commands.specs.XdsVerdict.{XdsVerdict}
use Rattle.xds_commands.specs.Judged.{AcceptedIsNotRefused, RefusalIsOne}
use Rattle.xds_commands.specs.XdsWords.{IsSoundXds, xds_framing}
use Rattle.xds_commands.proofs.PacketListLemmas.{good_not_refused, packets_once, packets_refused_once}
use Rattle.xds_frames.proofs.FrontLemmas.{one_lacks_room, room_lacks_none}
use Rattle.xds_frames.specs.PlanAnswer.{LacksXdsRoom}
use Rattle.xds_packets.specs.Sending.{Listed}

-- beside a placed list with room for all packets none lacks it
room_kept : (list : Listing) (placed : Placement) (listed : List Listed) (packet : ℕ) → IsListPlaced list placed → HasXdsRoom list placed listed → LacksXdsRoom list listed packet → ⊥
room_kept list placed listed packet is room lacks =
    let same : lacks.placed ≡ placed = one_placement list lacks.placed placed lacks.placed_is is in
    room_lacks_none list placed listed packet room (subst (λ p. IsFirstWithoutXdsRoom list p listed packet) same lacks.first)

-- and one packet alone is the first that does
packet_once : (list : Listing) (listed : List Listed) (a b : ℕ) → LacksXdsRoom list listed a → LacksXdsRoom list listed b → a ≡ b
packet_once list listed a b first second =
    let same : second.placed ≡ first.placed = one_placement list second.placed first.placed second.placed_is first.placed_is in
    one_lacks_room list first.placed listed a b first.first (subst (λ p. IsFirstWithoutXdsRoom list p listed b) same second.first)

-- a list that has a placement is refused for no other room
lacking_not_refused : (listed : List Listed) (bytes : List ℕ) (packet : ℕ) (answer : Status) → SpellGoodList bytes (λ list. LacksXdsRoom list listed packet) → IsRefused bytes answer → ⊥
lacking_not_refused listed bytes packet answer lacks refused =
    list_not_refused bytes lacks.list lacks.holds.placed answer (record { good = lacks.good; placement = lacks.holds.placed_is }) refused

pub accepted_not_refused : AcceptedIsNotRefused
accepted_not_refused listed bytes made (status.NoXdsRoom packet) accepted lacks =
    let same : lacks.list ≡ made.list = good_once bytes lacks.list made.list lacks.good accepted.accepted.good in
    let own : LacksXdsRoom made.list made.listed packet =
    subst (λ (l : List Listed). LacksXdsRoom made.list l packet) (sym accepted.listed_are) (subst (λ (l : Listing). LacksXdsRoom l listed packet) same lacks.holds) in
    room_kept made.list made.placed made.listed packet accepted.accepted.placement accepted.room own
accepted_not_refused listed bytes made answer accepted refused = list_not_refused bytes made.list made.placed answer accepted.accepted refused

-- why bytes are refused with packets
abbrev Cause : List Listed → List ℕ → Status → Type 0
Cause listed bytes answer = ((packet : ℕ) × SpellGoodList bytes (λ list. LacksXdsRoom list listed packet) × (answer ≡ status.NoXdsRoom packet)) ⊎ IsRefused bytes answer

cause_of : (listed : List Listed) (bytes : List ℕ) (answer : Status) → IsXdsRefusal listed bytes answer → Cause listed bytes answer
cause_of listed bytes (status.NoXdsRoom packet) lacks = inl (packet, lacks, refl)
cause_of listed bytes answer refused = inr refused

-- two causes are one
same_status : (listed : List Listed) (bytes : List ℕ) (one other : Status) → Cause listed bytes one → Cause listed bytes other → one ≡ other
same_status listed bytes one other (inl (packet, lacks, is)) (inl (another, again, at)) =
    let same : again.list ≡ lacks.list = good_once bytes again.list lacks.list again.good lacks.good in
    is ∙ ap status.NoXdsRoom (packet_once lacks.list listed packet another lacks.holds (subst (λ (l : Listing). LacksXdsRoom l listed another) same again.holds)) ∙ sym at
same_status listed bytes one other (inl (packet, lacks, is)) (inr refused) = absurd (lacking_not_refused listed bytes packet other lacks refused)
same_status listed bytes one other (inr refused) (inl (packet, lacks, is)) = absurd (lacking_not_refused listed bytes packet one lacks refused)
same_status listed bytes one other (inr refused) (inr again) = list_refused_once bytes one other refused again

pub refused_once : RefusalIsOne
refused_once listed bytes one other refused again = same_status listed bytes one other (cause_of listed bytes one refused) (cause_of listed bytes other again)

abbrev pub OfPackets : List Listed → List ℕ → Status → List ℕ → Type 0
OfPackets listed = MadeVerdict (IsPlacedWith listed) (λ made. words_of (xds_framing made)) IsSoundXds (IsXdsRefusal listed)

pub xds_one : IsOne XdsVerdict
xds_one =
    beside_one IsGoodPackets IsRefusedPackets OfPackets good_not_refused packets_refused_once
    (λ aside input listed other answer text good fine made. subst (λ (l : List Listed). OfPackets l input answer text) (packets_once aside other listed fine good) made)
    (λ listed.
    made_one (IsPlacedWith listed) (λ made. words_of (xds_framing made)) IsSoundXds (IsXdsRefusal listed) (accepted_not_refused listed) (refused_once listed))
