use Rattle.std.proofs.Common.{◌≡◌, Some, subst, sym}
use Rattle.caption_streams.specs.Receivings.{reception_of}
use Rattle.caption_streams.specs.Receptions.{StandsBehind}
use Rattle.caption_streams.specs.declared.receiving.Receiving.{Receiving}
use Rattle.ccsuite_c.specs.Receivers.{ChangedAnswer}
use Rattle.ccsuite_c.specs.declared.state.State.TheVariants as held
use Rattle.ccsuite_c.proofs.receiver.changed.Goals as goal

pub returns-in-Receiving-clause-changed : goal.returns-in-Receiving-clause-changed
returns-in-Receiving-clause-changed c = λ r frames is stands.
    let same : c.in-Receiving.receiving ≡ r = cc (c.in-Receiving.is) in
    subst (λ (it : Receiving). ChangedAnswer it frames c.tell_changed.result c.tell_changed.new.seen
    (Some (held.Receiving c.tell_changed.new.receiving))) same
    (c.tell_changed.ensures.changed frames (subst (λ (it : Receiving). StandsBehind frames (reception_of it)) (sym same) stands))
