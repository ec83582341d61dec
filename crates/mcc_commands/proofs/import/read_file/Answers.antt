use Rattle.std.proofs.Common.{◌∙◌, ◌≡◌, [], Err, arith, refl, rules, subst}
use Rattle.cc_base.specs.Streams.{Rose}
use Rattle.text_output.specs.Gathered.{held_of}
use Rattle.words_reading.proofs.PieceLemmas.{piece_of}
use Rattle.words_reading.proofs.WayLemmas.{all_put, way_flushed}
use Rattle.words_reading.specs.Judging.{StopCause, StopsBy}
use Rattle.mcc_commands.proofs.ReadLemmas.{file_ends, halted_reads, may_take, may_take_all, piece_passes, piece_underway, piece_unwritten, put_gathered, take_failed}
use Rattle.mcc_commands.proofs.import.read_file.Goals as goal

pub end-requires : goal.end-requires
end-requires g c = may_take _ _ _ _ c.loop-importing.importing c.loop-importing.room 0 c.loop-importing.invariant.underway (omega arith)

pub returns-in-End : goal.returns-in-End
returns-in-End g c =
    let on = c.loop-importing.invariant.underway in
    file_ends _ _ _ _ _ _ _ _ _ c.loop-importing.room on.taken (held_of c.end.new.text) c.end.result on.consumed on.within c.in-End.ensures.bytes
    (c.in-End.ensures.cause ∙ c.loop-importing.invariant.reads)
    (c.end.ensures.ends on.taken on.words (g.O.Sink.written c.args.out.now) on.had
    (put_gathered (g.O.Sink.written c.args.out.now) _ _ on.words c.loop-importing.invariant.none_held on.appended))
    (subst (λ n. StopCause n (g.O.Sink.faults c.end.new.out) c.end.result) c.loop-importing.invariant.writes c.end.ensures.cause)

pub returns-in-Failed : goal.returns-in-Failed
returns-in-Failed g c =
    take_failed _ _ _ _ _ _ _ _ _ c.loop-importing.room (held_of c.loop-importing.text) c.loop-importing.importing c.loop-importing.invariant.underway c.loop-importing.invariant.none_held
    c.in-Failed.ensures.bytes (subst (λ n. Rose n (g.M.Source.faults c.take.new.self)) c.loop-importing.invariant.reads c.in-Failed.ensures.cause.1) c.loop-importing.invariant.writes

pub take_all-requires : goal.take_all-requires
take_all-requires g c =
    let on = c.loop-importing.invariant.underway in
    let piece = piece_of c.loop-importing.room c.in-Got.count c.min.result c.take.new.buf c.in-Got.ensures.bytes.1 c.min.ensures in
    let size = piece.size in
    may_take_all _ _ (g.O.Sink.written c.args.out.now) _ c.loop-importing.importing c.loop-importing.room _ _ on c.loop-importing.invariant.none_held (omega (arith, size))

pub returns-in_err-take_all-in-Got : goal.returns-in_err-take_all-in-Got
returns-in_err-take_all-in-Got g c =
    let on = c.loop-importing.invariant.underway in
    let piece = piece_of c.loop-importing.room c.in-Got.count c.min.result c.take.new.buf c.in-Got.ensures.bytes.1 c.min.ensures in
    let why = c.in_err-take_all-in-Got.field-0.0 in
    let answer : c.from_residual.result ≡ Err why = search rules in
    rw answer (halted_reads _ _ _ _ _ _ _ _ _ c.loop-importing.room c.in-Got.count on.taken c.take.new.buf _ _ (held_of c.take_all.new.text) why on.consumed on.within
    c.in-Got.ensures.bytes.2 piece
    (c.in_err-take_all-in-Got.ensures.takes on.taken on.words (g.O.Sink.written c.args.out.now) on.had
    (put_gathered (g.O.Sink.written c.args.out.now) _ _ on.words c.loop-importing.invariant.none_held on.appended))
    (c.in-Got.ensures.cause ∙ c.loop-importing.invariant.reads)
    (subst (λ n. StopsBy n (g.O.Sink.faults c.take_all.new.out) why) c.loop-importing.invariant.writes c.in_err-take_all-in-Got.ensures.cause))

pub returns-in-Failed-flush : goal.returns-in-Failed-flush
returns-in-Failed-flush g c =
    let on = c.loop-importing.invariant.underway in
    let piece = piece_of c.loop-importing.room c.in-Got.count c.min.result c.take.new.buf c.in-Got.ensures.bytes.1 c.min.ensures in
    let done = c.in_ok-take_all-in-Got.ensures.takes on.taken on.words (g.O.Sink.written c.args.out.now) on.had
    (put_gathered (g.O.Sink.written c.args.out.now) _ _ on.words c.loop-importing.invariant.none_held on.appended) in
    piece_unwritten _ _ _ _ _ _ _ _ _ _ c.loop-importing.room c.in-Got.count on.taken c.take.new.buf _ _ done.0 (held_of c.take_all.new.text) (held_of c.flush.new.self) c.take_all.new.self
    on.consumed on.within c.in-Got.ensures.bytes.2 piece done.1 done.2 c.in-Failed-flush.ensures.bytes (c.in-Got.ensures.cause ∙ c.loop-importing.invariant.reads)
    (subst (λ n. Rose n (g.O.Sink.faults c.flush.new.out)) (c.in_ok-take_all-in-Got.ensures.cause ∙ c.loop-importing.invariant.writes) c.in-Failed-flush.ensures.cause.1)

pub returns-then-room-count : goal.returns-then-room-count
returns-then-room-count g c =
    let on = c.loop-importing.invariant.underway in
    let piece = piece_of c.loop-importing.room c.in-Got.count c.min.result c.take.new.buf c.in-Got.ensures.bytes.1 c.min.ensures in
    let done = c.in_ok-take_all-in-Got.ensures.takes on.taken on.words (g.O.Sink.written c.args.out.now) on.had
    (put_gathered (g.O.Sink.written c.args.out.now) _ _ on.words c.loop-importing.invariant.none_held on.appended) in
    let flushed = c.in-Done.ensures.bytes in
    piece_passes _ _ _ _ _ _ _ _ _ c.loop-importing.room c.in-Got.count on.taken c.take.new.buf _ _ done.0 (held_of c.flush.new.self) c.take_all.new.self on.consumed on.within
    c.in-Got.ensures.bytes.2 piece c.if-room-count.true done.1 flushed.1
    (all_put (g.O.Sink.written c.args.out.now) _ [] done.0 (way_flushed (g.O.Sink.written c.args.out.now) _ _ _ done.0 done.2 flushed.0) refl)
    (c.in-Got.ensures.cause ∙ c.loop-importing.invariant.reads) (c.in-Done.ensures.cause ∙ (c.in_ok-take_all-in-Got.ensures.cause ∙ c.loop-importing.invariant.writes))

pub loop-importing-preserved : goal.loop-importing-preserved
loop-importing-preserved g c =
    let on = c.loop-importing.invariant.underway in
    let piece = piece_of c.loop-importing.room c.in-Got.count c.min.result c.take.new.buf c.in-Got.ensures.bytes.1 c.min.ensures in
    let done = c.in_ok-take_all-in-Got.ensures.takes on.taken on.words (g.O.Sink.written c.args.out.now) on.had
    (put_gathered (g.O.Sink.written c.args.out.now) _ _ on.words c.loop-importing.invariant.none_held on.appended) in
    let flushed = c.in-Done.ensures.bytes in
    record {
      reads = c.in-Got.ensures.cause ∙ c.loop-importing.invariant.reads;
      writes = c.in-Done.ensures.cause ∙ (c.in_ok-take_all-in-Got.ensures.cause ∙ c.loop-importing.invariant.writes);
      none_held = flushed.1;
      underway = piece_underway _ _ _ _ _ _ c.loop-importing.room c.in-Got.count c.take.new.buf _ _ done.0 c.loop-importing.importing c.take_all.new.self on c.in-Got.ensures.bytes.2 piece
          c.if-room-count.false done.1
          (all_put (g.O.Sink.written c.args.out.now) _ [] done.0 (way_flushed (g.O.Sink.written c.args.out.now) _ _ _ done.0 done.2 flushed.0) refl);
    }
