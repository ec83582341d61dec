use Rattle.std.proofs.Common.{◌+◌, ◌++◌, sym, subst, take}
use Rattle.mcc_files.proofs.FittingLemmas.{FitSoFar, fit_ends, fit_room, more_fit}
use Rattle.mcc_files.proofs.payload_reader.PayloadReader.fitting.Goals as goal

pub returns-in-Err-clause-room : goal.returns-in-Err-clause-room
returns-in-Err-clause-room c = fit_room _ _ _ _ _ c.loop-byte.invariant

pub returns-clause-room : goal.returns-clause-room
returns-clause-room c = fit_room _ _ _ _ _ c.loop-byte.invariant

pub returns-in-Err-clause-bytes : goal.returns-in-Err-clause-bytes
returns-in-Err-clause-bytes c =
    let before = c.args.self.now.bytes.items in
    let brought = c.args.brought.now in
    let i = c.loop-byte.byte-index in
    let w = c.in-Err.ensures.takes (before ++ take i brought) c.loop-byte.invariant.taken.count in
    fit_ends before brought i c.loop-byte.counted c.loop-byte.fit.items _ c.loop-byte-test.true c.loop-byte.invariant w.0

pub loop-byte-preserved : goal.loop-byte-preserved
loop-byte-preserved c =
    let before = c.args.self.now.bytes.items in
    let brought = c.args.brought.now in
    let i = c.loop-byte.byte-index in
    let w = c.in-Ok.ensures.takes (before ++ take i brought) c.loop-byte.invariant.taken.count in
    subst (λ f. FitSoFar before brought (i + 1) c.take.new.self f) (sym c.push.ensures.items)
    (more_fit before brought i c.loop-byte.counted c.take.new.self c.loop-byte.fit.items c.loop-byte-test.true c.loop-byte.invariant w.0 w.1 c.in-Ok.ensures.short)
