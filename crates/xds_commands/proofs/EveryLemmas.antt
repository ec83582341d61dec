-- Of every side file and every input `xds` makes one status.
use Rattle.std.proofs.Common.{◌⊎◌, inl, inr, refl, ℕ, List, Option, Some, None}
use Rattle.command_base.proofs.WholeInputLemmas.{AreRefusals}
use Rattle.command_base.specs.declared.status.Status.{Status}
use Rattle.command_base.specs.declared.status.Status.TheVariants as status
use Rattle.cue_list_commands.proofs.ListVerdictLemmas.{every_list_judged}
use Rattle.cue_list_commands.proofs.Refusals.{are_refusals}
use Rattle.cue_list_commands.specs.Accepted.{IsAccepted, IsRefused}
use Rattle.cue_lists.specs.Listing.{Listing}
use Rattle.cue_list_commands.specs.Framing.{words_of}
use Rattle.cue_list_commands.specs.Planned.{Placement}
use Rattle.xds_commands.proofs.MadeLemmas.{sound_xds}
use Rattle.xds_commands.proofs.PacketListLemmas.{packet_refusals}
use Rattle.xds_commands.proofs.VerdictLemmas.{OfPackets}
use Rattle.xds_commands.specs.PacketLists.{IsGoodPackets, IsRefusedPackets}
use Rattle.xds_commands.specs.PlacedPackets.{IsPlacedWith, IsXdsRefusal, PlacedPackets}
use Rattle.xds_commands.specs.XdsWords.{IsSoundXds, xds_framing}
use Rattle.xds_frames.proofs.ListPacketsLemmas.{room_judged}
use Rattle.xds_frames.specs.ListPackets.{TellsXdsRoom}
use Rattle.xds_packets.specs.Sending.{Listed}
use Rattle.xds_commands.specs.XdsVerdict.{XdsVerdict}
use Rattle.command_base.proofs.JudgedLemmas.{beside_made, judged_made}
use Rattle.xds_commands.proofs.PacketJudgedLemmas.{packets_judged}
use Rattle.command_base.specs.Exact.{HasVerdict}
use Rattle.xds_commands.specs.Judged.{EveryListIsJudged}

xds_refusals : (listed : List Listed) → AreRefusals (IsXdsRefusal listed)
xds_refusals listed bytes (status.NoXdsRoom packet) refused = tt
xds_refusals listed bytes answer refused = are_refusals bytes answer refused

list_xds_refused : (listed : List Listed) (bytes : List ℕ) (answer : Status) → IsRefused bytes answer → IsXdsRefusal listed bytes answer
list_xds_refused listed bytes (status.NoXdsRoom packet) refused = absurd refused
list_xds_refused listed bytes answer refused = refused

abbrev XdsJudged : List Listed → List ℕ → Type 0
XdsJudged listed bytes = ((made : PlacedPackets) × IsPlacedWith listed bytes made) ⊎ ((answer : Status) × IsXdsRefusal listed bytes answer)

by_room : (listed : List Listed) (bytes : List ℕ) (list : Listing) (placed : Placement) → IsAccepted bytes list placed → (number : Option ℕ) → TellsXdsRoom list placed listed number
    → XdsJudged listed bytes
by_room listed bytes list placed accepted None room =
    inl (
      record { list = list; placed = placed; listed = listed; codes = room.placed },
      record { accepted = accepted; listed_are = refl; room = room; codes_are = refl },
    )
by_room listed bytes list placed accepted (Some number) first =
    inr (
      status.NoXdsRoom number,
      record { list = list; good = accepted.good; holds = record { placed = placed; placed_is = accepted.placement; first = first } },
    )

pub xds_judged : EveryListIsJudged
xds_judged listed bytes = elim (every_list_judged bytes) [
  | inl (list, placed, accepted) ↦ let told = room_judged list placed listed in by_room listed bytes list placed accepted told.0 told.1
  | inr (answer, refused) ↦ inr (answer, list_xds_refused listed bytes answer refused)
]

xds_made : (aside : List ℕ) (listed : List Listed) → IsGoodPackets aside listed → HasVerdict (λ side. OfPackets listed)
xds_made aside listed is side input bytes =
    judged_made (IsPlacedWith listed) (λ made. words_of (xds_framing made)) IsSoundXds (IsXdsRefusal listed) (xds_refusals listed)
    (sound_xds listed is.spelled.in_range) input (xds_judged listed input)

pub every_xds : HasVerdict XdsVerdict
every_xds = beside_made IsGoodPackets IsRefusedPackets OfPackets packet_refusals xds_made packets_judged
