use Rattle.cue_lists.proofs.SharesInOrder.{in_order_ruled}
use Rattle.cue_lists.proofs.laws.a_printed_list_keeps_the_rules.Goals as goal

pub returns : goal.returns
returns c = in_order_ruled
