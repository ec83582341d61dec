use Rattle.std.proofs.Common.{length, sym, subst, arith, ◌<◌, ◌+◌, refl}
use Rattle.std.proofs.lemmas.Bool.{eqb-false}
use Rattle.words_reading.proofs.PieceLemmas.{rest_is}
use Rattle.mcc_commands.specs.declared.hearing.Hearer.{Hearer}
use Rattle.mcc_commands.proofs.HearLemmas.{HeardFront, heard_on, moved}
use Rattle.mcc_commands.proofs.hearing.Hearer.hear.Goals as goal

pub loop-rest-preserved : goal.loop-rest-preserved
loop-rest-preserved c =
    let rest = c.loop-rest.rest.now in
    let fed = c.in-Ok.fed in
    let none = eqb-false (length rest) 0 (sym c.loop-rest-test.ensures) in
    let some : 0 < length rest = omega (arith, none) in
    let now : Hearer = record { receiver = c.feed.new.self; heard = c.loop-rest.self.heard + fed.used } in
    subst (λ r. HeardFront c.args.words.now r c.args.self.now now) (sym (rest_is fed.used rest c.in-Ok.ensures.within))
    (heard_on c.args.words.now rest c.args.self.now c.loop-rest.self now fed c.loop-rest.invariant c.in-Ok.ensures.within
    (moved rest fed c.in-Ok.ensures.all c.in-Ok.ensures.some some) (λ before had. c.in-Ok.ensures.feeds before had) refl)
