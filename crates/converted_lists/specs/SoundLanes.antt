-- Between crates: the program's answer stands on none of these definitions.
-- What a sound lane sends is a good stream, where its delays last twice as many frames at twice the rate.
use Rattle.std.specs.Prelude.{◌≡◌, ℕ, ◌≤◌, zero, suc, Some, List, [], ◌++◌}
use Rattle.cc_base.specs.declared.rate.Rate.TheVariants.{F2997}
use Rattle.dtvcc_author.specs.declared.frame_events.Delay.{Delay}
use Rattle.dtvcc_screen.specs.Meaning.{Event}
use Rattle.services_shown.specs.ServiceLanes.{Lane, lane_frame_events}
use Rattle.services_shown.specs.Soundness.{IsSoundLane}
use Rattle.rate_convert.specs.GoodStreams.{IsGoodStream}

abbrev pub lane_events : Lane → ℕ → List Event
lane_events lane zero = []
lane_events lane (suc n) = lane_events lane n ++ lane_frame_events lane n

abbrev pub SoundLanesAreGood : Type 0
SoundLanesAreGood = (lane : Lane) → IsSoundLane lane → lane.rate ≡ F2997 → ((frame : ℕ) (delay : Delay) → lane.delay frame ≡ Some delay → delay.tenths ≤ 166)
    → (n : ℕ) → IsGoodStream [] (lane_events lane n)
