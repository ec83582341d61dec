use Rattle.std.proofs.Common.{◌∙◌, ◌++◌, arith, subst, take, ◌≡◌, Err, rules}
use Rattle.text_output.specs.Gathered.{held_of}
use Rattle.words_reading.proofs.PieceLemmas.{front_all, front_more, rest_size}
use Rattle.words_reading.proofs.UnderwayLemmas.{ready_within}
use Rattle.words_reading.specs.Judging.{HasGathered, HasStopped}
use Rattle.words_reading.proofs.words.judge_all.Goals as goal

pub step-requires-clause-ready : goal.step-requires-clause-ready
step-requires-clause-ready g c =
    let within = c.loop-at.invariant.within in
    let size = rest_size c.loop-at.at c.args.bytes.now within in
    ready_within g.J.Judge.HasRead c.loop-at.judge c.requires.before c.args.bytes.now c.loop-at.at _
    c.requires.within within (omega arith) (c.loop-at.invariant.read c.requires.before c.requires.read)

pub loop-at-preserved : goal.loop-at-preserved
loop-at-preserved g c =
    let size = rest_size c.loop-at.at c.args.bytes.now c.loop-at.invariant.within in
    let used = c.in_ok-at.ensures.used in
    record {
      within = omega arith;
      steady = c.in_ok-at.ensures.cause ∙ c.loop-at.invariant.steady;
      read = λ before had.
          subst (λ bytes. g.J.Judge.HasRead bytes c.step.new.self)
          (front_more before c.args.bytes.now c.loop-at.at c.in_ok-at.field-0 c.loop-at.invariant.within)
          (c.in_ok-at.ensures.reads (before ++ take c.loop-at.at c.args.bytes.now) (c.loop-at.invariant.read before had));
      judged = λ given start before had.
          subst (λ bytes. HasGathered (g.J.Judge.HasJudged given) start (g.O.Sink.written c.step.new.out) (held_of c.step.new.text) bytes c.step.new.self)
          (front_more before c.args.bytes.now c.loop-at.at c.in_ok-at.field-0 c.loop-at.invariant.within)
          (c.in_ok-at.ensures.judges given start (before ++ take c.loop-at.at c.args.bytes.now) (c.loop-at.invariant.judged given start before had));
    }

pub returns-in_err-at-clause-judges : goal.returns-in_err-at-clause-judges
returns-in_err-at-clause-judges g c given start before had =
    let answer : c.from_residual.result ≡ Err c.in_err-at.field-0.0 = search rules in
    rw answer (subst (λ bytes. HasStopped (g.J.Judge.Says given) (g.J.Judge.Halts given) start (g.O.Sink.written c.step.new.out) (held_of c.step.new.text) bytes c.in_err-at.field-0.0)
    (front_all before c.args.bytes.now c.loop-at.at c.loop-at.invariant.within)
    (c.in_err-at.ensures.judges given start (before ++ take c.loop-at.at c.args.bytes.now) (c.loop-at.invariant.judged given start before had)))
