use Rattle.std.proofs.Common.{◌+◌, Option, ap, ◌∙◌}
use Rattle.line21_codes.specs.declared.pairs.Pair.{Pair}
use Rattle.lanes.proofs.CursorLemmas.{repeat_gives, event_gives, unit_gives, null_gives}
use Rattle.lanes.proofs.field_cursor.Cursor.step.Goals as goal
use Rattle.lanes.proofs.field_cursor.Cursor.step.Goals.{in-Some, in_default+in-Some-event_here, in_default+in_default-event_here+in-Some-unit_here, in_default+in_default-event_here+in_default-unit_here}

pub returns-clause-gives : goal.returns-clause-gives
returns-clause-gives c = λ timeline ready.
    elim c.match-self.branch [
      | in-Some w ↦ repeat_gives timeline c.args.events.now c.args.units.now c.args.self.now c.match-self.self c.match-self.pair ready w.in-Some.pair
          w.in-Some.is w.self-is w.pair-is
      | in_default+in-Some-event_here w ↦
          event_gives timeline c.args.events.now c.args.units.now c.args.self.now c.match-self.self c.match-self.pair ready w.in-Some-event_here.event
          w.in_default.is w.in-Some-event_here.ensures.some.0 w.in-Some-event_here.ensures.some.1 w.self-is w.pair-is
      | in_default+in_default-event_here+in-Some-unit_here w ↦
          let found = w.in-Some-unit_here.ensures.some in
          unit_gives timeline c.args.events.now c.args.units.now c.args.self.now c.match-self.self c.match-self.pair ready w.in-Some-unit_here.placed
          w.in_default.is w.in_default-event_here.ensures.none found.0 found.1
          (w.self-is ∙ ap (λ (r : Option Pair). record { slot = c.args.self.now.slot; next_unit = c.args.self.now.next_unit + 1; next_event = c.args.self.now.next_event; repeat = r }) w.repeat-self.ensures)
          w.pair-is
      | in_default+in_default-event_here+in_default-unit_here w ↦
          null_gives timeline c.args.events.now c.args.units.now c.args.self.now c.match-self.self c.match-self.pair ready
          w.in_default.is w.in_default-event_here.ensures.none w.in_default-unit_here.ensures.none w.self-is w.pair-is
    ]
