-- Between crates: the program's answer stands on none of these definitions.
-- Second lanes put other pairs into frames, and leave their blocks.
use Rattle.std.specs.Prelude.{ℕ}
use Rattle.frame_carrier.specs.Columns.{Columns}
use Rattle.services_shown.specs.OtherPairs.{HaveOtherPairs}
use Rattle.dual_plans.specs.SecondLanes.{LaysBoth}
use Rattle.dual_plans.specs.declared.second_lanes.SecondLanes.{SecondLanes}

abbrev pub LanesPutOtherPairs : Type 0
LanesPutOtherPairs = (firsts columns : Columns) (frame : ℕ) (lanes : SecondLanes) → LaysBoth firsts columns frame lanes → HaveOtherPairs firsts columns
