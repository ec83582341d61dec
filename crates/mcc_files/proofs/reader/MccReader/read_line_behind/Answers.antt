use Rattle.std.proofs.Common.{◌≡◌, ◌-◌, ◌∙◌, drop, get_or, length, refl, rules, sym, take}
use Rattle.mcc_files.proofs.AheadReads.{line_behind, tab_first}
use Rattle.mcc_files.proofs.reader.MccReader.read_line_behind.Goals as goal

pub returns : goal.returns
returns c =
    let bytes = c.args.bytes.now in
    let time = c.in_ok-time.time.now in
    let rest = c.in_ok-time.rest.now in
    let split = c.in_ok-time.ensures.cases in
    let tab : get_or rest 0 0 ≡ 9 = cc in
    let spelled = tab_first bytes time rest split.0 split.1 c.in-9.len_at_least tab in
    let (end, is_end, more) = c.in_ok-after.ensures in
    let text_is : c.from-self.result.items ≡ time = search rules in
    line_behind c.args.before.now _ bytes time (take (length rest - 1) (drop 1 rest)) c.in_ok-behind.behind.now c.in_ok-after.after.now end c.in-Ok.frame _
    (sym c.if-not-is_at_start.false ∙ c.is_at_start.ensures) spelled c.in-Ok.ensures c.in_ok-behind.ensures is_end more
    (record { phase_is = refl; two_is = refl; count_is = refl; last_is = refl; text_is = text_is; payload_is = c.in_ok-behind.ensures.open_is }) refl
