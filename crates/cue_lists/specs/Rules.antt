-- Believed: the program's answer stands on these definitions.
-- The rules of a cue list: what it is to keep them, and the fault of a list that doesn't.
use Rattle.std.specs.Prelude.{◌≡◌, ℕ, ◌+◌, List, ◌∷◌, ◌++◌, length, reverse}
use Rattle.cue_form.specs.FirstFailing.{IsFirstFailing}
use Rattle.cue_types.specs.Listing.{Listing}
use Rattle.cue_types.specs.declared.cue.Cue.{Cue}
use Rattle.cue_lists.specs.declared.rules.RuleFault.{RuleFault}
use Rattle.cue_lists.specs.Rules.Keeps.{KeepRules, KeepsRule, NamesOther, rules}
pub use Rattle.cue_types.specs.Cells
pub use Rattle.cue_types.specs.Lane
pub mod Alternatives
pub mod Former
pub mod Formers
pub mod Delay
pub mod Examples
pub mod Keeps
pub mod Order
pub mod Overlap
pub mod Clash
pub mod Unhidden
pub mod WindowBusy
pub mod DelayCovers
pub mod Share
pub mod PastEnd
pub mod OffSlot
pub mod Sentences
pub mod Tests

-- the list keeps the rules: each of its cues does after those before it
pub record IsRuled (list : Listing) : Type 0 where
  pub kept : KeepRules list (reverse list.cues)

-- the list has this fault: the fault of its first cue that breaks a rule, by the first rule that it breaks
pub record HasFault (list : Listing) (fault : RuleFault) : Type 0 where
  pub earlier : List Cue
  pub cue : Cue
  pub later : List Cue
  pub split : list.cues ≡ reverse earlier ++ cue ∷ later
  pub kept : KeepRules list earlier
  pub number : fault.cue ≡ length earlier + 1
  pub rule : IsFirstFailing (KeepsRule list earlier cue) rules fault.why
  pub other : NamesOther list earlier cue fault.why fault.other
