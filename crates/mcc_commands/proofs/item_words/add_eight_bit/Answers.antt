use Rattle.std.proofs.Common.{ap, length, lit<}
use Rattle.mcc_commands.proofs.ItemLemmas.{eight_room}
use Rattle.mcc_commands.proofs.item_words.add_eight_bit.Goals as goal

pub add-requires : goal.add-requires
add-requires c = (
  lit< tt,
  eight_room c.loop-byte.out.items c.args.out.now.items c.args.bytes.now c.eight_bit.result c.loop-byte.byte-index c.loop-byte.invariant c.loop-byte-test.true c.requires.few c.requires.room
      (ap length c.eight_bit.ensures),
)
