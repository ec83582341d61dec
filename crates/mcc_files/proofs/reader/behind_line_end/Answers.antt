use Rattle.std.proofs.Common.{◌≡◌, get_or}
use Rattle.mcc_files.proofs.AheadReads.{cr_first, lf_first}
use Rattle.mcc_files.proofs.reader.behind_line_end.Goals as goal

pub returns-in-10 : goal.returns-in-10
returns-in-10 c = let lf : get_or c.args.bytes.now 0 0 ≡ 10 = cc in lf_first c.args.bytes.now lf

pub returns : goal.returns
returns c =
    let cr : get_or c.args.bytes.now 0 0 ≡ 13 = cc in
    let lf : get_or c.args.bytes.now 1 0 ≡ 10 = cc in
    cr_first c.args.bytes.now c.in-13.len_at_least cr lf
