-- The service blocks of the frames of two lists.
use Rattle.std.proofs.Common.{◌≡◌, ℕ, is_some, Option, Some, None, option_map, refl}
use Rattle.line21_codes.specs.declared.channels.Chan.TheVariants.{Cc1, Cc3}
use Rattle.line21_codes.specs.declared.pairs.Pair.{Pair}
use Rattle.cue_lists.specs.Cadences.{cadence_of, slot_in}
use Rattle.cue_lists.specs.Listing.{Listing}
use Rattle.frame_carrier.specs.Planned.{columns_of}
use Rattle.services_shown.specs.OtherPairs.{HaveOtherPairs}
use Rattle.services_shown.proofs.OtherPairsLemmas.{other_pairs}
use Rattle.services_shown.proofs.PlacedBlocksLemmas.{placed_fit}
use Rattle.dual_plans.specs.DualPlacement.{DualPlacement, dual_columns}
use Rattle.dual_plans.specs.DualBlocks.{DualBlocksAreFit}

-- both have a pair where the frame has a slot
as_some : (f g : ℕ → Pair) (o : Option ℕ) → is_some (option_map f o) ≡ is_some (option_map g o)
as_some f g None = refl
as_some f g (Some n) = refl

have_other_pairs : (one two : Listing) (placed : DualPlacement) → HaveOtherPairs (columns_of one placed.services) (dual_columns one two placed)
have_other_pairs one two placed = record {
  blocks = λ frame. refl;
  one = λ frame. as_some _ _ (slot_in (cadence_of one.rate Cc1) frame);
  two = λ frame. as_some _ _ (slot_in (cadence_of one.rate Cc3) frame);
}

pub dual_blocks : DualBlocksAreFit
dual_blocks one two placed together is =
    other_pairs one.rate one.frames (columns_of one placed.services) (dual_columns one two placed) (have_other_pairs one two placed)
    (placed_fit one placed.services together.formed together.ruled is.services).fit
