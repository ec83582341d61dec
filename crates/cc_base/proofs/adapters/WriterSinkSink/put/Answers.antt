use Rattle.std.proofs.Common.{◌∙◌, ◌-◌, arith, drop, length, length-drop, subst, sym}
use Rattle.std.proofs.lemmas.List.{take_all}
use Rattle.cc_base.specs.Streams.{PutCause, Rose}
use Rattle.cc_base.proofs.AdapterLemmas.{wrote_none, wrote_some}
use Rattle.cc_base.proofs.Bytes.{appends_next}
use Rattle.cc_base.proofs.adapters.WriterSinkSink.put.Goals as goal

pub loop-at-preserved : goal.loop-at-preserved
loop-at-preserved g c =
    let (fits, same, done) = c.loop-at.invariant in
    let wrote = wrote_some _ _ c.write.result c.in-Some.n _ _ _ c.write.ensures.bound c.write.ensures.bytes
    (rw c.ok-write.ensures.value at (sym c.in-Some.is ∙ c.after_write.ensures.answer)) (rw c.ok-write.ensures.value at c.after_write.ensures.count) in
    let bound = wrote.bound in
    let size = length-drop c.loop-at.at c.args.bytes.now in
    let whole = take_all (length c.args.bytes.now - c.loop-at.at) (drop c.loop-at.at c.args.bytes.now) (omega arith) in
    let fewer = rw whole at bound in
    (omega arith, wrote.count ∙ same, appends_next _ _ _ c.loop-at.at c.in-Some.n c.args.bytes.now done wrote.bytes)

pub returns-in-None-clause-cause : goal.returns-in-None-clause-cause
returns-in-None-clause-cause g c =
    let (fits, same, done) = c.loop-at.invariant in
    let rose = wrote_none c.write.result _ _ (rw c.ok-write.ensures.value at (sym c.in-None.is ∙ c.after_write.ensures.answer))
    (rw c.ok-write.ensures.value at c.after_write.ensures.count) in
    let rises = c.after_write.ensures.never_falls in
    (omega arith, subst (λ n. Rose n c.after_write.new.faults) same rose)

pub returns-clause-cause : goal.returns-clause-cause
returns-clause-cause g c =
    subst (λ n. PutCause n c.after_flush.new.faults c.after_flush.result) c.loop-at.invariant.1 c.after_flush.ensures.cause
