-- Between crates: the program's answer stands on none of these definitions.
-- The ways to break a rule, and the cue that each of them names beside the one that is judged.
use Rattle.std.specs.Prelude.{ℕ, Bool, false, true, if◌then◌else◌, List, [], ◌∷◌, Option, Some, None}
use Rattle.cue_types.specs.declared.cue.Cue.{Cue}
use Rattle.cue_lists.specs.declared.rules.against.Against.{Against}
use Rattle.cue_lists.specs.declared.rules.against.Against.TheVariants as against

-- one way to break a rule: whether the cue does, and which cue it is broken against
pub record Alternative : Type 0 where
  pub broken : Bool
  pub against : Against

-- an alternative that speaks of the cue alone
abbrev pub alone : Bool → Alternative
alone broken = record { broken = broken; against = against.Itself }

-- an alternative that speaks of the former cue: where there is none, it isn't broken
abbrev pub with_former : Option Cue → (Cue → Bool) → Alternative
with_former None broken_by = record { broken = false; against = against.Former }
with_former (Some former) broken_by = record { broken = broken_by former; against = against.Former }

-- an alternative that speaks of any earlier cue: broken with the cue of this number, if there is one
abbrev pub with_earlier : Option ℕ → Alternative
with_earlier None = record { broken = false; against = against.Itself }
with_earlier (Some number) = record { broken = true; against = against.Earlier number }

-- the cue that the first broken alternative names, from left to right
abbrev pub first_broken : List Alternative → Option Against
first_broken [] = None
first_broken (alternative ∷ rest) =
    if alternative.broken then Some alternative.against else first_broken rest
