-- The frames of a dual plan carry the timelines of both lanes of a field.
use Rattle.std.proofs.Common.{◌≡◌, ℕ, List, Option, Some, None, option_map, refl, sym, ap, ◌∙◌}
use Rattle.std.proofs.Math.Path.{fun_ext}
use Rattle.line21_codes.specs.declared.pairs.Pair.{Pair}
use Rattle.cue_lists.specs.Cadences.{slot_in}
use Rattle.line21_author.specs.declared.event.Event.{Event}
use Rattle.lanes.specs.LaneEvents.{event_at}
use Rattle.lanes.specs.FieldPlan.{PlannedField, slot_pair}
use Rattle.lanes.specs.LaneTimeline.{placed_timeline}
use Rattle.lanes.specs.Timeline.{Timeline, over, slot}
use Rattle.lanes.proofs.LanePlanLemmas.{timeline_is}
use Rattle.dual_fields.specs.declared.part.Part.{Part}
use Rattle.dual_fields.specs.Lanes.{whole}
use Rattle.dual_fields.specs.Expanded.{expanded, spread}
use Rattle.dual_fields.specs.Overlay.{overlay}
use Rattle.dual_fields.proofs.ExpandedLemmas.{one_lane}
use Rattle.dual_fields.proofs.OverlayLemmas.{together_overlaid}
use Rattle.dual_plans.specs.Beside.{beside}
use Rattle.dual_plans.specs.Joined.{IsLaneOf, LanesAreJoined}

lane_slot : (events : List Event) (parts : List Part) (fs : List ℕ) (rs : List (Option ℕ)) (planned : PlannedField) → IsLaneOf events parts fs rs planned
    → (n : ℕ) → slot_pair planned n ≡ slot (whole (event_at events) parts fs rs) n
lane_slot events parts fs rs planned is n =
    ap (λ es. slot (placed_timeline es planned.units) n) is.events_are ∙ ap (λ us. slot (placed_timeline events us) n) is.units_are
    ∙ ap (λ (t : Timeline). slot t n) (timeline_is events (expanded parts rs) (spread fs rs))
    ∙ ap (λ (t : Timeline). slot t n) (fun_ext (one_lane events is.slots parts fs rs is.free is.cues is.stand).timeline)

pub lanes_joined : LanesAreJoined
lanes_joined cadence events more parts others fs gs rs qs one two first second together frame = by_slot (slot_in cadence frame)
  where
    by_slot : (o : Option ℕ) → beside (option_map (slot_pair one) o) (option_map (slot_pair two) o)
        ≡ option_map (slot (over (whole (event_at events) parts fs rs) (whole (event_at more) others gs qs))) o
    by_slot None = refl
    by_slot (Some k) =
        ap Some
        (ap (λ (p : Pair). overlay p (slot_pair two k)) (lane_slot events parts fs rs one first k)
        ∙ ap (overlay (slot (whole (event_at events) parts fs rs) k)) (lane_slot more others gs qs two second k)
        ∙ sym (together_overlaid (event_at events) (event_at more) parts others fs gs rs qs together k))
