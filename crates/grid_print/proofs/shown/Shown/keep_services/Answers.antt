use Rattle.std.proofs.Common.{◌∙◌, drop, length, arith}
use Rattle.std.proofs.lemmas.Grind.{common_steps}
use Rattle.grid_print.proofs.ScreenLemmas.{kept_now, kept_some, same_services, taken_back}
use Rattle.grid_print.proofs.shown.Shown.keep_services.Goals as goal

pub returns-then-touched-clause-some : goal.returns-then-touched-clause-some
returns-then-touched-clause-some g c seen behind same =
    kept_some seen c.args.self.now.services.items _ c.keep_services.result
    (taken_back seen c.deref_mut.result.now c.args.self.now.services.items c.keep_services.new.services
    (drop (length c.keep_services.new.services) c.args.self.now.services.items) c.args.self.now.services.len c.keep_services.result c.deref_mut.ensures.value
    (grind (arith, common_steps)) (c.keep_services.ensures seen behind))

pub returns-then-touched-clause-now : goal.returns-then-touched-clause-now
returns-then-touched-clause-now g c seen behind same =
    kept_now seen c.args.self.now.services.items _ c.keep_services.result
    (taken_back seen c.deref_mut.result.now c.args.self.now.services.items c.keep_services.new.services
    (drop (length c.keep_services.new.services) c.args.self.now.services.items) c.args.self.now.services.len c.keep_services.result c.deref_mut.ensures.value
    (grind (arith, common_steps)) (c.keep_services.ensures seen behind))

pub returns-then-touched-clause-each : goal.returns-then-touched-clause-each
returns-then-touched-clause-each g c seen behind some place within =
    (taken_back seen c.deref_mut.result.now c.args.self.now.services.items c.keep_services.new.services
    (drop (length c.keep_services.new.services) c.args.self.now.services.items) c.args.self.now.services.len c.keep_services.result c.deref_mut.ensures.value
    (grind (arith, common_steps)) (c.keep_services.ensures seen behind)).each place within

pub returns-else-touched-clause-some : goal.returns-else-touched-clause-some
returns-else-touched-clause-some g c seen behind same =
    c.if-touched.false ∙ same_services _ seen (same c.if-touched.false)

pub returns-else-touched-clause-now : goal.returns-else-touched-clause-now
returns-else-touched-clause-now g c seen behind same = same c.if-touched.false
