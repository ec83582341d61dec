-- The words of two lists that are accepted together.
use Rattle.std.proofs.Common.{◌∙◌, ℕ, suc, List, arith}
use Rattle.cue_lists.specs.Listing.{Listing}
use Rattle.dual_commands.specs.DualLists.{IsPlacedBeside, PlacedLists}
use Rattle.dual_commands.specs.DualWords.{IsSoundDual}
use Rattle.dual_plans.proofs.DualBlocksLemmas.{dual_blocks}
use Rattle.dual_plans.proofs.DualPairsLemmas.{dual_sound}
use Rattle.dual_plans.proofs.DualShownLemmas.{both_shown}
use Rattle.dual_plans.specs.DualPlacement.{DualPlacement, IsDualPlaced, dual_columns}
use Rattle.dual_plans.specs.FieldPlaces.{GoTogether}
use Rattle.cue_list_commands.specs.Planned.{columns_of, share_in}
use Rattle.cue_list_commands.proofs.DelayLemmas.{delays_sent}
use Rattle.cue_list_commands.proofs.SeenLemmas.{authored_windows_seen}
use Rattle.cue_list_commands.specs.OtherPairs.{AreFitAlike}
use Rattle.cue_list_commands.specs.Sound.{IsSoundFrames}
use Rattle.cue_list_commands.proofs.PlacedBlocksLemmas.{shares_kept}
use Rattle.cue_list_commands.proofs.SoundSeenLemmas.{columns_seen}

module _ (one two : Listing) (placed : DualPlacement) (together : GoTogether one two) (is : IsDualPlaced one two placed) where
  sound : IsSoundFrames one.rate one.frames (dual_columns one two placed)
  sound = dual_sound one two placed together is

  alike : AreFitAlike one.rate one.frames (columns_of one placed.services) (dual_columns one two placed)
  alike = dual_blocks one two placed together is

  pub sound_placed : IsSoundDual (record { one = one; two = two; placed = placed })
  sound_placed = record {
    frames = sound;
    shares = alike.shares (share_in one) (shares_kept one placed.services together.formed together.ruled is.services);
    shows = record {
      has_grids = λ frame below chan told. columns_seen one.rate one.frames (dual_columns one two placed) sound.carried frame below chan
          ∙ both_shown one two placed together is one.frames frame below chan told;
      has_windows = λ frame below service id numbered low. alike.windows (suc frame) (omega arith) service id
          ∙ authored_windows_seen one placed.services together.formed together.ruled is.services frame below service id numbered low;
    };
    delayed = delays_sent one placed.services together.formed together.ruled;
  }

-- what `dual` puts of accepted lists is sound
pub sound_dual : (second : Listing) (bytes : List ℕ) (lists : PlacedLists) → IsPlacedBeside second bytes lists → IsSoundDual lists
sound_dual second bytes lists accepted = sound_placed lists.one lists.two lists.placed accepted.together accepted.placement
