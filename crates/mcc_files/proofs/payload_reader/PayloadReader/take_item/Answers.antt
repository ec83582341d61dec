use Rattle.std.proofs.Common.{◌≡◌, ◌++◌, suc, Err, take, drop, get_or, refl, sym, subst, true}
use Rattle.std.proofs.lemmas.List.{take_more}
use Rattle.mcc_files.specs.PayloadReading.{joined}
use Rattle.mcc_files.proofs.ItemLemmas.{AreTaken, around, one_offends, one_taken}
use Rattle.mcc_files.proofs.payload_reader.PayloadReader.take_item.Goals as goal

pub returns-in-Err : goal.returns-in-Err
returns-in-Err c =
    let before = c.args.self.now.bytes.items in
    let brought = c.args.brought.now in
    let i = c.loop-byte.byte-index in
    let w = c.in-Err.ensures.takes (before ++ take i brought) c.loop-byte.invariant.count in (
      subst (λ b. joined true before b ≡ Err c.in-Err.why) (sym (around brought i c.loop-byte-test.true))
          (one_offends before (take i brought) (get_or brought i 0) (drop (suc i) brought) c.loop-byte.counted c.in-Err.why c.loop-byte.invariant w.0),
      refl,
    )

pub loop-byte-preserved : goal.loop-byte-preserved
loop-byte-preserved c =
    let before = c.args.self.now.bytes.items in
    let brought = c.args.brought.now in
    let i = c.loop-byte.byte-index in
    let w = c.in-Ok.ensures.takes (before ++ take i brought) c.loop-byte.invariant.count in
    subst (λ t. AreTaken before t c.take.new.self) (sym (take_more brought i 0 c.loop-byte-test.true))
    (one_taken before (take i brought) (get_or brought i 0) c.loop-byte.counted c.take.new.self c.loop-byte.invariant w.0 w.1 c.in-Ok.ensures.short)
