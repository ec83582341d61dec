use Rattle.std.proofs.Common.{◌≡◌, sym, subst}
use Rattle.text_output.specs.declared.gathered.Gathered.{Gathered}
use Rattle.text_output.specs.Pages.{HasWrittenText, page}
use Rattle.text_output.proofs.gathered.Gathered.write_byte.Goals as goal

pub returns-then-not-hold : goal.returns-then-not-hold
returns-then-not-hold g c = λ start faults before has.
    let unchanged : c.hold.new.self ≡ c.args.self.now = c.hold.ensures.same c.if-not-hold.true in
    c.write.ensures start faults before
    (subst (λ (s : Gathered). HasWrittenText start faults before (page s (g.O.Sink.written c.args.out.now) (g.O.Sink.faults c.args.out.now))) (sym unchanged) has)
