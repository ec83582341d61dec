use Rattle.std.proofs.Common.{◌∙◌, ◌≡◌, Err, arith, refl, rules, subst}
use Rattle.cc_base.specs.Streams.{Rose}
use Rattle.words_reading.proofs.PieceLemmas.{piece_of}
use Rattle.words_reading.specs.Judging.{StopsBy}
use Rattle.words_reading.proofs.GatheringLemmas.{counts_by}
use Rattle.words_reading.proofs.UnderwayLemmas.{file_cut, file_ended, gathered_put, piece_judged, piece_passes, piece_stopped, put_gathered, ready_on, take_failed, underway_begun}
use Rattle.words_reading.proofs.words.read_words.Goals as goal

pub loop-judge-init : goal.loop-judge-init
loop-judge-init g c = record {
  reads = refl;
  writes = refl;
  none_held = c.new-text.ensures;
  underway = underway_begun g.J.Judge.HasRead g.J.Judge.HasJudged _ _ c.args.judge.now c.requires;
}

pub returns-in-Ok-clause-words : goal.returns-in-Ok-clause-words
returns-in-Ok-clause-words g c given start front judged puts =
    let on = c.loop-judge.invariant.underway in
    file_ended _ (g.J.Judge.Says given) (g.J.Judge.Halts given) _ _ _ _ _ _ _ _ _ c.loop-judge.room on.taken c.loop-judge.judge
    (on.put_all given start front judged puts) on.consumed on.within c.in-End.ensures.bytes (c.in-End.ensures.cause ∙ c.loop-judge.invariant.reads) c.loop-judge.invariant.writes
    (λ text had. c.in-Ok.ensures given on.taken text had)

pub returns-in-Err-clause-words : goal.returns-in-Err-clause-words
returns-in-Err-clause-words g c given start front judged puts =
    let on = c.loop-judge.invariant.underway in
    file_cut _ (g.J.Judge.Says given) (g.J.Judge.Halts given) _ _ _ _ _ _ _ _ _ c.loop-judge.room on.taken c.loop-judge.judge c.in-Err.refusal
    (λ bytes text had. g.met.J.Judge.says given bytes text c.loop-judge.judge had)
    (on.put_all given start front judged puts) on.consumed on.within c.in-End.ensures.bytes (c.in-End.ensures.cause ∙ c.loop-judge.invariant.reads) c.loop-judge.invariant.writes
    (λ text had. c.in-Err.ensures given on.taken text had)

pub returns-in-Failed-clause-words : goal.returns-in-Failed-clause-words
returns-in-Failed-clause-words g c given start front judged puts =
    let on = c.loop-judge.invariant.underway in
    take_failed _ (g.J.Judge.Says given) (g.J.Judge.Halts given) _ _ _ _ _ _ _ _ _ c.loop-judge.room on.taken c.loop-judge.judge
    (λ bytes text had. g.met.J.Judge.says given bytes text c.loop-judge.judge had)
    (on.put_all given start front judged puts) on.consumed on.within
    c.in-Failed.ensures.bytes (subst (λ n. Rose n (g.M.Source.faults c.take.new.self)) c.loop-judge.invariant.reads c.in-Failed.ensures.cause.1) c.loop-judge.invariant.writes

pub judge_and_put-requires : goal.judge_and_put-requires
judge_and_put-requires g c =
    let piece = piece_of c.loop-judge.room c.in-Got.count c.min.result c.take.new.buf c.in-Got.ensures.bytes.1 c.min.ensures in
    let size = piece.size in
    ready_on g.J.Judge.HasRead c.loop-judge.judge c.loop-judge.room _ c.loop-judge.invariant.underway.taken c.loop-judge.invariant.underway.read c.loop-judge.invariant.underway.within (omega arith)

pub returns-in_err-judge_and_put-in-Got-clause-words : goal.returns-in_err-judge_and_put-in-Got-clause-words
returns-in_err-judge_and_put-in-Got-clause-words g c given start front judged puts =
    let on = c.loop-judge.invariant.underway in
    let piece = piece_of c.loop-judge.room c.in-Got.count c.min.result c.take.new.buf c.in-Got.ensures.bytes.1 c.min.ensures in
    let why = c.in_err-judge_and_put-in-Got.field-0.0 in
    let answer : c.from_residual.result ≡ Err why = search rules in
    rw answer (piece_stopped (g.J.Judge.Says given) (g.J.Judge.Halts given) _ _ _ _ _ _ _ _ _ c.loop-judge.room c.in-Got.count on.taken c.take.new.buf _ _ why on.consumed on.within
    c.in-Got.ensures.bytes.2 piece
    (c.in_err-judge_and_put-in-Got.ensures.judges given start on.taken
    (put_gathered _ start _ _ on.taken c.loop-judge.judge c.loop-judge.invariant.none_held (on.put_all given start front judged puts)))
    (c.in-Got.ensures.cause ∙ c.loop-judge.invariant.reads)
    (subst (λ n. StopsBy n (g.O.Sink.faults c.judge_and_put.new.out) why) c.loop-judge.invariant.writes c.in_err-judge_and_put-in-Got.ensures.cause))

pub returns-then-room-count-clause-words : goal.returns-then-room-count-clause-words
returns-then-room-count-clause-words g c given start front judged puts =
    let on = c.loop-judge.invariant.underway in
    let piece = piece_of c.loop-judge.room c.in-Got.count c.min.result c.take.new.buf c.in-Got.ensures.bytes.1 c.min.ensures in
    let done = c.in_ok-judge_and_put-in-Got.ensures.judges given start on.taken
    (put_gathered _ start _ _ on.taken c.loop-judge.judge c.loop-judge.invariant.none_held (on.put_all given start front judged puts)) in
    piece_passes _ (g.J.Judge.Says given) (g.J.Judge.Halts given) _ _ _ _ _ _ _ _ _ c.loop-judge.room c.in-Got.count on.taken c.take.new.buf _ _ c.judge_and_put.new.judge
    (λ bytes text had. g.met.J.Judge.says given bytes text c.judge_and_put.new.judge had)
    on.consumed on.within c.in-Got.ensures.bytes.2 piece c.if-room-count.true
    (gathered_put _ start _ _ _ c.judge_and_put.new.judge c.in_ok-judge_and_put-in-Got.ensures.none done)
    (c.in-Got.ensures.cause ∙ c.loop-judge.invariant.reads) (c.in_ok-judge_and_put-in-Got.ensures.cause ∙ c.loop-judge.invariant.writes)

pub loop-judge-preserved : goal.loop-judge-preserved
loop-judge-preserved g c =
    let on = c.loop-judge.invariant.underway in
    let piece = piece_of c.loop-judge.room c.in-Got.count c.min.result c.take.new.buf c.in-Got.ensures.bytes.1 c.min.ensures in
    record {
      reads = c.in-Got.ensures.cause ∙ c.loop-judge.invariant.reads;
      writes = c.in_ok-judge_and_put-in-Got.ensures.cause ∙ c.loop-judge.invariant.writes;
      none_held = c.in_ok-judge_and_put-in-Got.ensures.none;
      underway = piece_judged g.J.Judge.HasRead g.J.Judge.HasJudged _ _ _ _ _ _ c.args.judge.now c.loop-judge.judge c.judge_and_put.new.judge c.loop-judge.room c.in-Got.count c.take.new.buf _ _ on
          c.in-Got.ensures.bytes.2 piece c.if-room-count.false (c.in_ok-judge_and_put-in-Got.ensures.reads on.taken on.read)
          (λ given start had. let next = c.in_ok-judge_and_put-in-Got.ensures.judges given start on.taken
          (put_gathered _ start _ _ on.taken c.loop-judge.judge c.loop-judge.invariant.none_held had) in
          gathered_put _ start _ _ _ c.judge_and_put.new.judge c.in_ok-judge_and_put-in-Got.ensures.none next);
    }

pub returns-in_err-judge_and_put-in-Got-clause-counts : goal.returns-in_err-judge_and_put-in-Got-clause-counts
returns-in_err-judge_and_put-in-Got-clause-counts g c =
    let why = c.in_err-judge_and_put-in-Got.field-0.0 in
    let answer : c.from_residual.result ≡ Err why = search rules in
    rw answer (counts_by _ _ _ _ why (c.in-Got.ensures.cause ∙ c.loop-judge.invariant.reads)
    (subst (λ n. StopsBy n (g.O.Sink.faults c.judge_and_put.new.out) why) c.loop-judge.invariant.writes c.in_err-judge_and_put-in-Got.ensures.cause))
