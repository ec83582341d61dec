-- Between crates: the program's answer stands on none of these definitions.
-- The rules as tests: the rule that a cue breaks against the cues before it, and the first fault of a list.
use Rattle.std.specs.Prelude.{◌≡◌, ℕ, ◌+◌, List, [], ◌∷◌, length, Option, Some, None, Result, Ok, Err}
use Rattle.cc_base.specs.declared.why.Why.{Why}
use Rattle.cc_base.specs.declared.why.Why.TheVariants as why
use Rattle.cue_types.specs.Listing.{Listing}
use Rattle.cue_types.specs.declared.cue.Cue.{Cue}
use Rattle.cue_lists.specs.declared.rules.RuleFault.{RuleFault}
use Rattle.cue_lists.specs.declared.rules.against.Against.{Against}
use Rattle.cue_lists.specs.declared.rules.against.Against.TheVariants as against
use Rattle.cue_lists.specs.Rules.Alternatives.{first_broken}
use Rattle.cue_lists.specs.Rules.Former.{former_cue, former_number}
use Rattle.cue_lists.specs.Rules.Order.{order}
use Rattle.cue_lists.specs.Rules.Overlap.{overlap}
use Rattle.cue_lists.specs.Rules.Clash.{clash}
use Rattle.cue_lists.specs.Rules.Unhidden.{unhidden}
use Rattle.cue_lists.specs.Rules.WindowBusy.{window_busy}
use Rattle.cue_lists.specs.Rules.DelayCovers.{delay_covers}
use Rattle.cue_lists.specs.Rules.Share.{share}
use Rattle.cue_lists.specs.Rules.PastEnd.{past_end}
use Rattle.cue_lists.specs.Rules.OffSlot.{off_slot}
use Rattle.line21_slots.specs.Cadences.{slot_step}

-- the rules in the order in which they are tried, each with whom a cue breaks it against, if it does: the cue stands
-- after these cues, the newest first
unfoldable pub verdicts : Listing → List Cue → Cue → List (Why × Option Against)
verdicts list earlier cue =
    (why.Order, first_broken (order list.rate cue (former_cue cue earlier)))
    ∷ (why.Overlap, first_broken (overlap cue (former_cue cue earlier)))
    ∷ (why.Clash, first_broken (clash (slot_step list.rate) cue (former_cue cue earlier)))
    ∷ (why.Unhidden, first_broken (unhidden cue (former_cue cue earlier)))
    ∷ (why.WindowBusy, first_broken (window_busy cue earlier))
    ∷ (why.DelayCovers, first_broken (delay_covers list.rate cue earlier))
    ∷ (why.Share, first_broken (share list cue))
    ∷ (why.PastEnd, first_broken (past_end (slot_step list.rate) list.frames cue))
    ∷ (why.OffSlot, first_broken (off_slot list.rate cue))
    ∷ []

-- the number of the other cue of a fault, if it has one
abbrev pub other_of : Against → Option ℕ → Option ℕ
other_of against.Itself former = None
other_of against.Former former = former
other_of (against.Earlier number) former = Some number

-- the fault of a rule, where it is broken, or else the fault of the rules after it
abbrev pub fault_or : Why → Option Against → ℕ → Option ℕ → Option RuleFault → Option RuleFault
fault_or why None cue former later = later
fault_or why (Some against) cue former later =
    Some (record { why = why; cue = cue; other = other_of against former })

-- the fault of the first broken rule, of a cue with this number and its former cue's
abbrev pub first_fault : ℕ → Option ℕ → List (Why × Option Against) → Option RuleFault
first_fault cue former [] = None
first_fault cue former ((why, against) ∷ later) = fault_or why against cue former (first_fault cue former later)

-- the fault of a cue after these cues, the newest first
abbrev pub fault_of : Listing → List Cue → Cue → Option RuleFault
fault_of list earlier cue = first_fault (length earlier + 1) (former_number cue earlier) (verdicts list earlier cue)

-- an answer gives a fault, exactly where there is one
abbrev pub AnswersFault : Result (Unit {0}) RuleFault → Option RuleFault → Type 0
AnswersFault (Ok _) fault = fault ≡ None
AnswersFault (Err e) fault = fault ≡ Some e

-- each of the cues, the newest first, has no fault against the cues before it
abbrev pub AreFaultless : Listing → List Cue → Type 0
AreFaultless list [] = Unit {0}
AreFaultless list (cue ∷ earlier) = (fault_of list earlier cue ≡ None) × AreFaultless list earlier
