use Rattle.std.proofs.Common.{subst, sym}
use Rattle.std.specs.Prelude.{Option}
use Rattle.caption_streams.specs.Builders.{frame_in}
use Rattle.ccsuite_c.specs.Builders.{NextAnswer}
use Rattle.ccsuite_c.specs.declared.state.State.{State}
use Rattle.ccsuite_c.proofs.builder.next_of.Goals as goal

pub returns-in-Some-clause-next : goal.returns-in-Some-clause-next
returns-in-Some-clause-next c = λ b list placed frame is stands.
    subst (λ (s : Option State). NextAnswer list placed frame (frame_in c.args.form list placed frame) b c.args.out.now c.next-code.new.out c.next-code.result c.next-code.new.written s) (sym c.of.ensures)
    (c.next-code.ensures.next b list placed frame (cc (c.in-Some.ensures.taken)) stands)
