use Rattle.std.proofs.Common.{◌≡◌, Some, subst, sym}
use Rattle.caption_streams.specs.Receivings.{reception_of}
use Rattle.caption_streams.specs.Receptions.{StandsBehind}
use Rattle.caption_streams.specs.declared.receiving.Receiving.{Receiving}
use Rattle.ccsuite_c.specs.Receivers.{ChangesAnswer}
use Rattle.ccsuite_c.specs.declared.state.State.TheVariants as held
use Rattle.ccsuite_c.proofs.receiver.changes.Goals as goal

pub returns-in-Receiving-clause-changes : goal.returns-in-Receiving-clause-changes
returns-in-Receiving-clause-changes c = λ r frames is stands.
    let same : c.in-Receiving.receiving ≡ r = cc (c.in-Receiving.is) in
    subst (λ (it : Receiving). ChangesAnswer it frames c.args.out.now c.write_changes.new.out c.write_changes.result c.write_changes.new.written
    (Some (held.Receiving c.write_changes.new.receiving))) same
    (c.write_changes.ensures.changes frames (subst (λ (it : Receiving). StandsBehind frames (reception_of it)) (sym same) stands))
