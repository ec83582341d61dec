-- The frames of two lists show both.
use Rattle.std.proofs.Common.{ℕ, refl}
use Rattle.line21_codes.specs.declared.channels.Chan.TheVariants.{Cc1, Cc2, Cc3, Cc4}
use Rattle.line21_codes.specs.declared.channels.FieldNumber.{FieldNumber}
use Rattle.line21_codes.specs.declared.channels.FieldNumber.TheVariants.{One, Two}
use Rattle.line21_codes.specs.Channels.{field_of_channel}
use Rattle.cue_lists.specs.Listing.{Listing}
use Rattle.frame_carrier.specs.Planned.{authored_channel}
use Rattle.dual_fields.specs.Shown.{state_at}
use Rattle.dual_fields.specs.Dual.{HavePairs, ShowsBoth}
use Rattle.dual_fields.proofs.DualLemmas.{both_seen}
use Rattle.dual_plans.specs.DualPlacement.{DualPlacement, IsDualPlaced, dual_columns}
use Rattle.dual_plans.specs.FieldPlaces.{GoTogether}
use Rattle.dual_plans.proofs.DualLemmas.{placed_dual}
use Rattle.dual_plans.specs.DualShown.{BothListsAreShown}

module _ (one two : Listing) (placed : DualPlacement) (together : GoTogether one two) (is : IsDualPlaced one two placed) where
  -- the frames have the pairs of both lists
  pub have_pairs : (in_field : FieldNumber) → HavePairs one two (authored_channel in_field) (placed.fields in_field) (dual_columns one two placed)
  have_pairs One frame = refl
  have_pairs Two frame = refl

  field_shows : (in_field : FieldNumber) (frame : ℕ)
      → ShowsBoth one two (authored_channel in_field) (state_at (field_of_channel (authored_channel in_field)) (dual_columns one two placed) frame) frame
  field_shows in_field frame =
      both_seen one two (authored_channel in_field) (placed.fields in_field) (dual_columns one two placed)
      (placed_dual one two together in_field (placed.fields in_field) (is.fields in_field)) (have_pairs in_field) frame

pub both_shown : BothListsAreShown
both_shown one two placed together is n frame below Cc1 told = (field_shows one two placed together is One frame).first_shown told
both_shown one two placed together is n frame below Cc2 told = (field_shows one two placed together is One frame).second_shown told
both_shown one two placed together is n frame below Cc3 told = (field_shows one two placed together is Two frame).first_shown told
both_shown one two placed together is n frame below Cc4 told = (field_shows one two placed together is Two frame).second_shown told
