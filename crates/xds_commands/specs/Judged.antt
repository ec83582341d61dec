-- Between crates: the program's answer stands on none of these definitions.
-- The verdict on a cue list with packets: it is accepted, or it is refused with one status, and never both.
use Rattle.std.specs.Prelude.{◌≡◌, ◌⊎◌, ℕ, List}
use Rattle.command_base.specs.declared.status.Status.{Status}
use Rattle.xds_commands.specs.PlacedPackets.{IsPlacedWith, IsXdsRefusal, PlacedPackets}
use Rattle.xds_packets.specs.Sending.{Listed}

-- bytes that are accepted with packets are refused with no status
abbrev pub AcceptedIsNotRefused : Type 0
AcceptedIsNotRefused = (listed : List Listed) (bytes : List ℕ) (made : PlacedPackets) (answer : Status)
    → IsPlacedWith listed bytes made → IsXdsRefusal listed bytes answer → ⊥

-- bytes that are refused with packets are refused with one status
abbrev pub RefusalIsOne : Type 0
RefusalIsOne = (listed : List Listed) (bytes : List ℕ) (one other : Status) → IsXdsRefusal listed bytes one → IsXdsRefusal listed bytes other → one ≡ other

-- with any packets all bytes are accepted or refused
abbrev pub EveryListIsJudged : Type 0
EveryListIsJudged = (listed : List Listed) (bytes : List ℕ)
    → ((made : PlacedPackets) × IsPlacedWith listed bytes made) ⊎ ((answer : Status) × IsXdsRefusal listed bytes answer)
