use Rattle.mcc_words.proofs.RaiseLemmas.{raise_is}
use Rattle.mcc_words.proofs.raised.raise.Goals as goal

pub returns : goal.returns
returns c =
    raise_is c.requires.packet.0 c.args.user.now c.args.out.now.items c.add.new.bytes.items c.add-2.new.bytes.items c.add-3.new.bytes.items c.to_be_bytes.result c.args.by c.from.result
    c.from-2.result c.balanced-last_again.result c.requires.packet.1 c.requires.empty c.from.ensures c.from-2.ensures c.to_be_bytes.ensures c.balanced-last_again.ensures.balanced
    c.balanced-last_again.ensures.byte c.add.ensures c.add-2.ensures c.add-3.ensures
