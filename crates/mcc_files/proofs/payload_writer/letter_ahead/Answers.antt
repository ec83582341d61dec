use Rattle.std.proofs.Common.{◌≡◌, get_or}
use Rattle.mcc_files.proofs.WriteLemmas.{filler_best, fillers_fit}
use Rattle.mcc_files.proofs.payload_writer.letter_ahead.Goals as goal

pub returns-in-250-clause-best : goal.returns-in-250-clause-best
returns-in-250-clause-best c =
    let a : get_or c.args.bytes.now 0 0 ≡ 0xFA = cc in
    let b : get_or c.args.bytes.now 1 0 ≡ 0x00 = cc in
    let d : get_or c.args.bytes.now 2 0 ≡ 0x00 = cc in
    filler_best c.fillers_ahead-count.result c.from.result c.args.bytes.now c.fillers_ahead-count.ensures c.from.ensures c.in-250.len_at_least a b d

pub returns-in-250-clause-within : goal.returns-in-250-clause-within
returns-in-250-clause-within c = fillers_fit c.fillers_ahead-count.result c.from.result c.args.bytes.now c.fillers_ahead-count.ensures c.from.ensures
