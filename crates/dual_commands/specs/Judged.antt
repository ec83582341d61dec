-- Between crates: the program's answer stands on none of these definitions.
-- The verdict on a first list beside a second one: it is accepted, or it is refused with one status, and never both.
use Rattle.std.specs.Prelude.{◌≡◌, ◌⊎◌, ℕ, List}
use Rattle.command_base.specs.declared.status.Status.{Status}
use Rattle.cue_lists.specs.Listing.{IsFormed, Listing}
use Rattle.cue_lists.specs.Rules.{IsRuled}
use Rattle.dual_commands.specs.DualLists.{IsPlacedBeside, IsRefusedBeside, PlacedLists}

-- bytes that are accepted beside a second list are refused with no status
abbrev pub AcceptedIsNotRefused : Type 0
AcceptedIsNotRefused = (second : Listing) (bytes : List ℕ) (lists : PlacedLists) (answer : Status)
    → IsPlacedBeside second bytes lists → IsRefusedBeside second bytes answer → ⊥

-- bytes that are refused beside a second list are refused with one status
abbrev pub RefusalIsOne : Type 0
RefusalIsOne = (second : Listing) (bytes : List ℕ) (one other : Status) → IsRefusedBeside second bytes one → IsRefusedBeside second bytes other → one ≡ other

-- beside a second list that keeps the rules all bytes are accepted or refused
abbrev pub EveryFirstListIsJudged : Type 0
EveryFirstListIsJudged = (second : Listing) → IsFormed second → IsRuled second → (bytes : List ℕ)
    → ((lists : PlacedLists) × IsPlacedBeside second bytes lists) ⊎ ((answer : Status) × IsRefusedBeside second bytes answer)
