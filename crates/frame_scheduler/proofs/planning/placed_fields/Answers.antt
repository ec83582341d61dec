use Rattle.std.proofs.Common.{◌≡◌, Err, rules}
use Rattle.line21_codes.specs.declared.channels.Chan.TheVariants.{Cc1, Cc3}
use Rattle.frame_scheduler.proofs.EventsApartLemmas.{events_apart}
use Rattle.frame_scheduler.proofs.LanesLemmas.{refused_beside, two_refused}
use Rattle.frame_scheduler.proofs.planning.placed_fields.Goals as goal

pub placed_channel-one-requires-clause-apart : goal.placed_channel-one-requires-clause-apart
placed_channel-one-requires-clause-apart c = rw (c.cues.ensures.cues, c.rate.ensures) (events_apart c.args.list.now c.requires Cc1)

pub placed_channel-two-requires-clause-apart : goal.placed_channel-two-requires-clause-apart
placed_channel-two-requires-clause-apart c = rw (c.cues-2.ensures.cues, c.rate-2.ensures) (events_apart c.args.list.now c.requires Cc3)

pub returns-in_err-two-in-Ok-clause-fault : goal.returns-in_err-two-in-Ok-clause-fault
returns-in_err-two-in-Ok-clause-fault c =
    let answer : c.from_residual.result ≡ Err c.in_err-two-in-Ok.field-0.0 = search rules in
    rw answer
    (two_refused c.args.list.now c.cues.ensures.formed c.in_err-two-in-Ok.field-0.0 c.in-Ok.one (rw (c.cues.ensures.cues, c.rate.ensures) at c.in-Ok.ensures.placed)
    (rw (c.cues-2.ensures.cues, c.rate-2.ensures) at c.in_err-two-in-Ok.ensures.fault))

pub returns-in-Err-clause-fault : goal.returns-in-Err-clause-fault
returns-in-Err-clause-fault c =
    rw c.fault_beside.ensures
    (refused_beside c.args.list.now c.cues.ensures.formed c.in-Err.fault c.placed_channel-two.result c.err.result
    (rw (c.cues.ensures.cues, c.rate.ensures) at c.in-Err.ensures.fault)
    (rw (c.cues-2.ensures.cues, c.rate-2.ensures) at c.placed_channel-two.ensures.placed)
    (rw (c.cues-2.ensures.cues, c.rate-2.ensures) at c.placed_channel-two.ensures.fault) c.err.ensures.value)
