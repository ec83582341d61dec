-- Between crates: the program's answer stands on none of these definitions.
-- Rule OffSlot: a line 21 cue is shown and hidden in frames in which the field of its channel has a slot.
use Rattle.std.specs.Prelude.{ℕ, not, Bool, false, List, [], ◌∷◌}
use Rattle.cc_base.specs.declared.rate.Rate.{Rate}
use Rattle.cue_types.specs.Hide.{hide_is}
use Rattle.cue_lists.specs.Rules.Alternatives.{Alternative, alone}
use Rattle.cue_types.specs.declared.cue.Cue.{Cue}
use Rattle.cue_types.specs.declared.cue.Kind.{Kind}
use Rattle.cue_types.specs.declared.cue.Kind.TheVariants as kind
use Rattle.line21_slots.specs.Cadences.{cadence_of, has_slot_in}

-- the field of a line 21 cue has no slot in a frame; a window cue needs none
abbrev pub lacks_slot : Rate → Kind → ℕ → Bool
lacks_slot rate (kind.Pop channel) frame = not (has_slot_in (cadence_of rate channel) frame)
lacks_slot rate (kind.Paint channel) frame = not (has_slot_in (cadence_of rate channel) frame)
lacks_slot rate (kind.Roll channel rows) frame = not (has_slot_in (cadence_of rate channel) frame)
lacks_slot rate (kind.Win window) frame = false

-- the ways to break the rule: at SHOW, and at a HIDE that is there
abbrev pub off_slot : Rate → Cue → List Alternative
off_slot rate cue =
    alone (lacks_slot rate cue.kind cue.show)
    ∷ alone (hide_is cue.hide (λ hide. lacks_slot rate cue.kind hide))
    ∷ []
