-- Between crates: the program's answer stands on none of these definitions.
-- The verdict on a cue list: it is accepted, or it is refused with one status, and never both.
use Rattle.std.specs.Prelude.{◌≡◌, ◌⊎◌, ℕ, List}
use Rattle.cue_lists.specs.Listing.{Listing}
use Rattle.frame_carrier.specs.Planned.{Placement}
use Rattle.command_base.specs.declared.status.Status.{Status}
use Rattle.cue_list_commands.specs.Accepted.{IsAccepted, IsRefused}

-- a list that is accepted is refused with no status
abbrev pub AcceptedIsNotRefused : Type 0
AcceptedIsNotRefused = (bytes : List ℕ) (list : Listing) (placed : Placement) (answer : Status)
    → IsAccepted bytes list placed → IsRefused bytes answer → ⊥

-- bytes that are accepted are accepted as one list, with one placement
abbrev pub AcceptanceIsOne : Type 0
AcceptanceIsOne = (bytes : List ℕ) (one other : Listing) (placed moved : Placement)
    → IsAccepted bytes one placed → IsAccepted bytes other moved → (one ≡ other) × (placed ≡ moved)

-- a list that is refused is refused with one status
abbrev pub RefusalIsOne : Type 0
RefusalIsOne = (bytes : List ℕ) (one other : Status) → IsRefused bytes one → IsRefused bytes other → one ≡ other

-- every list is accepted or refused
abbrev pub EveryListIsJudged : Type 0
EveryListIsJudged = (bytes : List ℕ)
    → ((list : Listing) × (placed : Placement) × IsAccepted bytes list placed) ⊎ ((answer : Status) × IsRefused bytes answer)
