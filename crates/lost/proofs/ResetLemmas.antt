-- A service that was reset before a frame has the screen of what is heard of its lane from there on, whatever its clock had counted.
use Rattle.std.proofs.Common.{◌≡◌, ◌∙◌, ℕ, zero, suc, ◌+◌, ◌≤◌, nat_lt, true, List, ◌∷◌, ◌++◌, refl, sym, ap, arith}
use Rattle.std.proofs.lemmas.Bool.Decides.{nat_tests}
use Rattle.dtvcc_screen.specs.Meaning.{Event, Served, Tick, cleaned, on_event, served_after, ticked}
use Rattle.dtvcc_screen.specs.declared.clock.Clock.{Clock}
use Rattle.dtvcc_screen.proofs.MeaningLemmas.{after_append}
use Rattle.dtvcc_screen.proofs.ShiftLemmas.{same_clock}
use Rattle.windows_shown.specs.ServiceLanes.{Lane, lane_frame_events, served}
use Rattle.windows_shown.proofs.HeardLaneLemmas.{heard_lane, same_events}
use Rattle.lost.specs.WindowLoss.{lane_events_since}

-- the events of frames begin with a tick
first_tick : (lane : Lane) (since count : ℕ) → (es : List Event) × (lane_events_since lane since (suc count) ≡ Tick lane.rate ∷ es)
first_tick lane since zero =
    let same : since + 0 ≡ since = omega arith in
    (_, ap (lane_frame_events lane) same)
first_tick lane since (suc count) =
    let w = first_tick lane since count in
    (w.0 ++ lane_frame_events lane (since + suc count), ap (λ (es : List Event). es ++ lane_frame_events lane (since + suc count)) w.1)

-- of the first frames only ticks are heard
quiet : (lane : Lane) (since n : ℕ) → n ≤ since → (clock : Clock) × (served (heard_lane since lane) n ≡ cleaned clock)
quiet lane since zero low = (_, refl)
quiet lane since (suc n) low =
    let w = quiet lane since n (omega arith) in
    let test : nat_lt n since ≡ true = grind (arith, nat_tests) in
    (ticked lane.rate w.0, rw test (ap (λ (s : Served). on_event (Tick lane.rate) s) w.1))

-- and then the frames as they are
heard_served : (lane : Lane) (since count n : ℕ) → since + count ≡ n
    → served (heard_lane since lane) n ≡ served_after (served (heard_lane since lane) since) (lane_events_since lane since count)
heard_served lane since zero n is = let same : n ≡ since = omega arith in ap (served (heard_lane since lane)) same
heard_served lane since (suc count) n is =
    let next : n ≡ suc (since + count) = omega arith in
    ap (served (heard_lane since lane)) next
    ∙ ap (served_after (served (heard_lane since lane) (since + count))) (same_events lane since (since + count) (omega arith))
    ∙ ap (λ (s : Served). served_after s (lane_frame_events lane (since + count))) (heard_served lane since count (since + count) refl)
    ∙ sym (after_append (served (heard_lane since lane) since) (lane_events_since lane since count) (lane_frame_events lane (since + count)))

-- so a service that was reset before a frame has the screen of what is heard of its lane from there on
pub reset_hears : (lane : Lane) (clock : Clock) (since count frame : ℕ) → since + count ≡ suc frame → since ≤ frame
    → (served_after (cleaned clock) (lane_events_since lane since count)).core.screen ≡ (served (heard_lane since lane) (suc frame)).core.screen
reset_hears lane clock since zero frame is low = absurd (omega arith)
reset_hears lane clock since (suc count) frame is low =
    let w = first_tick lane since count in
    let q = quiet lane since since (omega arith) in
    ap (λ (es : List Event). (served_after (cleaned clock) es).core.screen) w.1
    ∙ same_clock q.0 clock lane.rate w.0
    ∙ sym (ap (λ (s : Served). s.core.screen) (heard_served lane since (suc count) (suc frame) is ∙ ap (λ (s : Served). served_after s (lane_events_since lane since (suc count))) q.1)
    ∙ ap (λ (es : List Event). (served_after (cleaned q.0) es).core.screen) w.1)
