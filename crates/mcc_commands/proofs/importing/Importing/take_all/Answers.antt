use Rattle.std.proofs.Common.{Err, rules, ◌≡◌, ◌∙◌, length, refl, sym, subst}
use Rattle.std.proofs.lemmas.Bool.{eqb-true}
use Rattle.text_output.specs.Gathered.{held_of}
use Rattle.words_reading.proofs.PieceLemmas.{rest_is}
use Rattle.mcc_commands.proofs.ImportStepLemmas.{TakenFront, front_all, front_halts, front_may, front_more, none_taken}
use Rattle.mcc_commands.proofs.importing.Importing.take_all.Goals as goal

pub loop-rest-init : goal.loop-rest-init
loop-rest-init g c = record { steady = refl; taken = none_taken c.args.bytes.now c.args.self.now (g.O.Sink.written c.args.out.now) (held_of c.args.text.now) }

pub take_next-requires-clause-may : goal.take_next-requires-clause-may
take_next-requires-clause-may g c =
    front_may c.args.bytes.now c.loop-rest.rest.now c.args.self.now c.loop-rest.self (g.O.Sink.written c.args.out.now) (g.O.Sink.written c.loop-rest.out) (held_of c.args.text.now)
    (held_of c.loop-rest.text) c.loop-rest.invariant.taken c.requires

pub loop-rest-preserved : goal.loop-rest-preserved
loop-rest-preserved g c =
    let rest = c.loop-rest.rest.now in
    let count = c.in_ok-count.count in
    record {
      steady = c.in_ok-count.ensures.cause ∙ c.loop-rest.invariant.steady;
      taken = subst
          (λ r. TakenFront c.args.bytes.now r c.args.self.now c.take_next.new.self (g.O.Sink.written c.args.out.now) (g.O.Sink.written c.take_next.new.out) (held_of c.args.text.now)
          (held_of c.take_next.new.text)) (sym (rest_is count rest c.in_ok-count.ensures.within))
          (front_more c.args.bytes.now rest count c.args.self.now c.loop-rest.self c.take_next.new.self (g.O.Sink.written c.args.out.now) (g.O.Sink.written c.loop-rest.out)
          (g.O.Sink.written c.take_next.new.out) (held_of c.args.text.now) (held_of c.loop-rest.text) (held_of c.take_next.new.text) c.loop-rest.invariant.taken c.in_ok-count.ensures.takes);
    }

pub returns-in_err-count-clause-takes : goal.returns-in_err-count-clause-takes
returns-in_err-count-clause-takes g c before words start had way =
    let why = c.in_err-count.field-0.0 in
    let answer : c.from_residual.result ≡ Err why = search rules in
    rw answer (front_halts c.args.bytes.now c.loop-rest.rest.now before words c.args.self.now c.loop-rest.self c.take_next.new.self start (g.O.Sink.written c.args.out.now)
    (g.O.Sink.written c.loop-rest.out) (g.O.Sink.written c.take_next.new.out) (held_of c.args.text.now) (held_of c.loop-rest.text) (held_of c.take_next.new.text) why c.loop-rest.invariant.taken
    c.in_err-count.ensures.takes had way)

pub returns-clause-takes : goal.returns-clause-takes
returns-clause-takes g c before words start had way =
    front_all c.args.bytes.now c.loop-rest.rest.now before words c.args.self.now c.loop-rest.self start (g.O.Sink.written c.args.out.now) (g.O.Sink.written c.loop-rest.out) (held_of c.args.text.now)
    (held_of c.loop-rest.text) c.loop-rest.invariant.taken (eqb-true (length c.loop-rest.rest.now) 0 (sym c.loop-rest-test.ensures)) had way
