use Rattle.std.proofs.Common.{◌+◌, ◌%◌, ◌∙◌, ap, arith, get_or, length, take}
use Rattle.std.proofs.lemmas.List.{take_all, take_more}
use Rattle.mcc_files.proofs.PacketLemmas.{sum_onto}
use Rattle.mcc_files.proofs.SumLemmas.{checksum_so, sum_more}
use Rattle.mcc_files.proofs.payload_writer.checksum_byte.Goals as goal

pub loop-byte-preserved : goal.loop-byte-preserved
loop-byte-preserved c =
    let start = c.args.did + c.args.sdid + length c.args.user.now in
    let i = c.loop-byte.byte-index in
    let more = take_more c.args.user.now i 0 c.loop-byte-test.true in
    let sum = ap (λ xs. sum_onto start xs) more ∙ sum_more start (take i c.args.user.now) (get_or c.args.user.now i 0) in
    omega (arith, sum, c.loop-byte.invariant)

pub returns : goal.returns
returns c =
    let start = c.args.did + c.args.sdid + length c.args.user.now in
    let all = take_all c.loop-byte.byte-index c.args.user.now c.loop-byte-test.false in
    checksum_so c.args.did c.args.sdid c.args.user.now c.loop-byte.sum (c.loop-byte.invariant ∙ ap (λ xs. sum_onto start xs % 256) all)
