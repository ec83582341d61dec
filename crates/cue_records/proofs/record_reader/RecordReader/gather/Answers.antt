use Rattle.std.proofs.Common.{arith, get_or, take}
use Rattle.std.proofs.lemmas.List.{take_more}
use Rattle.cue_records.proofs.ReaderLemmas.{ended_held, more_open}
use Rattle.cue_records.proofs.record_reader.RecordReader.gather.Goals as goal

pub returns-in-None : goal.returns-in-None
returns-in-None c begun is =
    let front = take_more c.args.bytes.now c.loop-i.i 0 c.loop-i-test.true in
    let held = ended_held begun (take c.loop-i.i c.args.bytes.now) (get_or c.args.bytes.now c.loop-i.i 0) c.loop-i.self (record { state = c.loop-i.self.state; held = c.push.new.self })
    (c.loop-i.invariant begun is) c.in_ok-push.ensures.items c.in-None.ensures in
    rw front (omega arith, omega arith, held.0, held.1)

pub loop-i-preserved : goal.loop-i-preserved
loop-i-preserved c begun is =
    let front = take_more c.args.bytes.now c.loop-i.i 0 c.loop-i-test.true in
    rw front (more_open begun (take c.loop-i.i c.args.bytes.now) (get_or c.args.bytes.now c.loop-i.i 0) c.loop-i.self (record { state = c.in-Some.state; held = c.push.new.self })
    (c.loop-i.invariant begun is) c.in_ok-push.ensures.items c.in-Some.ensures)
