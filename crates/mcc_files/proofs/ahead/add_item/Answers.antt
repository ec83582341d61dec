use Rattle.std.proofs.Common.{sym}
use Rattle.mcc_files.proofs.AheadLemmas.{digits_ahead, letter_ahead}
use Rattle.mcc_files.proofs.ahead.add_item.Goals as goal

pub returns-in-Ok : goal.returns-in-Ok
returns-in-Ok c =
    letter_ahead c.args.text.now c.in_ok-first.behind.now c.args.bytes.now.items c.try_extend_from_slice.new.self.items c.in-Some.brought.now c.in_ok-first.first.now
    c.in_ok-first.ensures.cases.0 c.in-Some.ensures c.in-Ok.ensures.ok

pub returns : goal.returns
returns c =
    digits_ahead c.args.text.now c.in_ok-first.behind.now c.in_ok-second.behind.now c.args.bytes.now.items c.push.new.self.items c.in_ok-first.first.now c.in_ok-second.second.now
    c.in_ok-high.high c.in_ok-low.low c.in_ok-first.ensures.cases.0 c.in_ok-second.ensures.cases.0 (sym c.in_ok-high.ensures.value) (sym c.in_ok-low.ensures.value) c.push.ensures.items
