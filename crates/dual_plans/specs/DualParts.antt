-- Between crates: the program's answer stands on none of these definitions.
-- The parts of a plan of two lists: both fields with the units of the first list, its services, and where the units of the second
-- stand beside them.
use Rattle.std.specs.Prelude.{ℕ, List}
use Rattle.line21_codes.specs.declared.channels.Chan.TheVariants.{Cc1, Cc3}
use Rattle.line21_codes.specs.declared.channels.FieldNumber.{FieldNumber}
use Rattle.line21_codes.specs.declared.channels.FieldNumber.TheVariants.{One, Two}
use Rattle.cue_lists.specs.Listing.{Listing}
use Rattle.frame_carrier.specs.ServicePlans.{AreServicesPlanned, shared_below}
use Rattle.lanes.specs.declared.planning.PlanFault.{PlanFault}
use Rattle.dual_fields.specs.Filled.{IsFilled, slots_at}
use Rattle.dual_plans.specs.DualAnswer.{FieldHasRoom, HasRoomBeside, IsFirstWithout}
use Rattle.dual_plans.specs.FieldFaults.{IsFaultOf, IsFirstOfFields}
use Rattle.dual_plans.specs.FieldPlaces.{second_units, slots_for_second}
use Rattle.dual_plans.specs.StartedFields.{IsStarted}
use Rattle.dual_plans.specs.declared.field.StartedField.{StartedField}
use Rattle.dual_plans.specs.declared.plan.FirstPlaced.{FirstPlaced}
use Rattle.dual_plans.specs.declared.plan.SecondPlaced.{SecondPlaced}

-- the units of the first list stand in both fields
pub record AreStarted (one two : Listing) (in_one in_two : StartedField) : Type 0 where
  pub one_is : IsStarted one two Cc1 in_one
  pub two_is : IsStarted one two Cc3 in_two

-- and so do its services' units
pub record IsFirstPlaced (one two : Listing) (placed : FirstPlaced) : Type 0 where
  pub fields : AreStarted one two placed.one placed.two
  pub services : AreServicesPlanned one (shared_below one 7) placed.services.items

-- why the units of the first list have no placement in both fields, or none in these and of its services
abbrev pub IsFieldsFault : Listing → Listing → PlanFault → Type 0
IsFieldsFault one two = IsFaultOf (IsFirstOfFields (FieldHasRoom one two))

abbrev pub IsFirstFault : Listing → Listing → PlanFault → Type 0
IsFirstFault one two = IsFaultOf (IsFirstWithout one two)

-- the slots in which the units of the first list begin
abbrev pub slots_placed : FirstPlaced → FieldNumber → List ℕ
slots_placed placed One = slots_at placed.one.places.items
slots_placed placed Two = slots_at placed.two.places.items

-- the units of the second list stand beside those in both fields
pub record IsSecondPlaced (one two : Listing) (placed : FirstPlaced) (seconds : SecondPlaced) : Type 0 where
  pub one_is : IsFilled (slots_for_second one two Cc1 (slots_at placed.one.places.items)) (second_units two Cc1) seconds.one.items
  pub two_is : IsFilled (slots_for_second one two Cc3 (slots_at placed.two.places.items)) (second_units two Cc3) seconds.two.items

-- or why they don't
abbrev pub IsSecondFault : Listing → Listing → FirstPlaced → PlanFault → Type 0
IsSecondFault one two placed =
    IsFaultOf (IsFirstOfFields (λ in_field. HasRoomBeside one two in_field (slots_placed placed in_field)))
