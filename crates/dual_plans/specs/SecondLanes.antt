-- Between crates: the program's answer stands on none of these definitions.
-- What second lanes make of frames.
use Rattle.std.specs.Prelude.{◌≡◌, ℕ}
use Rattle.cc_base.specs.declared.rate.Rate.{Rate}
use Rattle.line21_codes.specs.declared.channels.Chan.TheVariants.{Cc1, Cc3}
use Rattle.cue_lists.specs.Cadences.{cadence_of, slot_from}
use Rattle.frame_carrier.specs.Columns.{Columns}
use Rattle.lanes.specs.FieldPlan.{PlannedField, lane_pair}
use Rattle.dual_plans.specs.Beside.{beside, lanes_last}
use Rattle.dual_plans.specs.declared.second_lanes.SecondLanes.{SecondLanes}

-- the lanes of both fields, at frame 0
abbrev pub lanes_at_first : PlannedField → PlannedField → Rate → SecondLanes
lanes_at_first one two rate = record { one = one; two = two; rate = rate; frame = 0 }

-- for how many frames more they last, at least
abbrev pub lanes_last_for : SecondLanes → ℕ
lanes_last_for lanes = lanes_last lanes.one lanes.two lanes.frame

-- they put the pairs of their lanes beside the first columns' pairs, and this frame is next
pub record LaysBoth (firsts columns : Columns) (frame : ℕ) (lanes : SecondLanes) : Type 0 where
  pub frame_is : lanes.frame ≡ frame
  pub one_at : lanes.one.slot ≡ slot_from (cadence_of lanes.rate Cc1) frame
  pub two_at : lanes.two.slot ≡ slot_from (cadence_of lanes.rate Cc3) frame
  pub column_is : (n : ℕ) → columns n ≡ record {
    one = beside (firsts n).one (lane_pair (cadence_of lanes.rate Cc1) lanes.one n);
    two = beside (firsts n).two (lane_pair (cadence_of lanes.rate Cc3) lanes.two n);
    blocks = (firsts n).blocks;
  }
