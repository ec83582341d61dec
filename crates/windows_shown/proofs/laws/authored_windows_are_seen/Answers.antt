use Rattle.cue_types.specs.declared.lane.Lane.TheVariants.{Service}
use Rattle.frame_scheduler.specs.Planned.{share_in}
use Rattle.windows_shown.proofs.ShownLemmas.{windows_are_shown}
use Rattle.windows_shown.proofs.laws.authored_windows_are_seen.Goals as goal

pub returns : goal.returns
returns c = record {
  anywhere = λ list service frames formed ruled placed. windows_are_shown list (share_in list service) service frames formed ruled placed;
  placed = λ list placed formed ruled is service.
      windows_are_shown list (share_in list service) service (placed (Service service)) formed ruled (is (Service service)).placed;
}
