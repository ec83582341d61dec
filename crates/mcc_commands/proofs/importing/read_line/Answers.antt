use Rattle.std.proofs.Common.{◌+◌, ◌++◌, Bool, Ok, ap, arith, slice_index, subst, take}
use Rattle.mcc_files.specs.Readers.{TakesOn}
use Rattle.mcc_commands.proofs.ImportLineLemmas.{byte_read, line_read}
use Rattle.mcc_commands.proofs.importing.read_line.Goals as goal

pub loop-byte-preserved : goal.loop-byte-preserved
loop-byte-preserved c =
    let counted = c.loop-byte.invariant.counted in
    record {
      counted = omega (arith, counted);
      read = λ before placed was lines.
          let i = c.loop-byte.byte-index in
          let front = before ++ take i c.args.bytes.now in
          let (read, here) = c.loop-byte.invariant.read before placed was lines in
          let on = subst (λ (b : Bool). TakesOn front placed (slice_index c.args.bytes.now i) c.take.new.self (Ok b)) c.in-Ok-false.field-0-test (c.in-Ok-false.ensures front placed read) in
          byte_read before placed c.args.bytes.now i c.loop-byte.reader c.take.new.self c.loop-byte-test.true read here on;
    }

pub returns-in-Ok-true : goal.returns-in-Ok-true
returns-in-Ok-true c before placed was lines =
    let i = c.loop-byte.byte-index in
    let front = before ++ take i c.args.bytes.now in
    let (read, here) = c.loop-byte.invariant.read before placed was lines in
    let on = subst (λ (b : Bool). TakesOn front placed (slice_index c.args.bytes.now i) c.take.new.self (Ok b)) c.in-Ok-true.field-0-test (c.in-Ok-true.ensures front placed read) in
    line_read before placed c.args.bytes.now i (c.loop-byte.count + 1) c.loop-byte.reader c.take.new.self c.loop-byte-test.true (ap (λ n. n + 1) c.loop-byte.invariant.counted) read here on
