use Rattle.mcc_files.proofs.AheadLemmas.{item_shorter, more_ahead, none_ahead}
use Rattle.mcc_files.proofs.ahead.add_items.Goals as goal

pub loop-behind-init : goal.loop-behind-init
loop-behind-init c = none_ahead c.args.text.now c.args.bytes.now.items

pub loop-behind-preserved : goal.loop-behind-preserved
loop-behind-preserved c =
    more_ahead c.args.text.now c.loop-behind.rest.now c.in-Some.behind.now c.args.bytes.now.items c.loop-behind.bytes.items c.add_item.new.bytes.items c.loop-behind.invariant
    c.in-Some.ensures

pub loop-behind-smaller : goal.loop-behind-smaller
loop-behind-smaller c =
    item_shorter c.loop-behind.rest.now c.in-Some.behind.now c.loop-behind.bytes.items c.add_item.new.bytes.items c.in-Some.ensures
