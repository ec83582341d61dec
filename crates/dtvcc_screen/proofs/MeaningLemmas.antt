-- One event more, and events after events.
use Rattle.std.proofs.Common.{◌≡◌, List, [], ◌∷◌, ◌++◌, refl, sym, ap, subst, ◌∙◌}
use Rattle.dtvcc_screen.specs.declared.service.Service.{Service}
use Rattle.dtvcc_screen.specs.Meaning.{Event, Served, on_event, served_after, start}
use Rattle.dtvcc_screen.specs.Objects.{Leads, Stands}

pub after_more : (s : Served) (events : List Event) (event : Event) → served_after s (events ++ event ∷ []) ≡ on_event event (served_after s events)
after_more s [] event = refl
after_more s (first ∷ events) event = after_more (on_event first s) events event

pub after_append : (s : Served) (events more : List Event) → served_after s (events ++ more) ≡ served_after (served_after s events) more
after_append s [] more = refl
after_append s (event ∷ events) more = after_append (on_event event s) events more

pub leads_more : (events : List Event) (event : Event) (service : Service) → service.clock ≡ (on_event event (served_after start events)).clock
    → Stands (on_event event (served_after start events)).core service.core → Leads (events ++ event ∷ []) service
leads_more events event service clock core = record {
  clock = clock ∙ sym (ap (λ (s : Served). s.clock) (after_more start events event));
  core = subst (λ (s : Served). Stands s.core service.core) (sym (after_more start events event)) core;
}
