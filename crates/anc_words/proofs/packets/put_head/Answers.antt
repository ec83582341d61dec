use Rattle.std.proofs.Common.{ap, ◌∙◌, ◌++◌}
use Rattle.anc_words.specs.Writing.{word_bytes}
use Rattle.anc_words.proofs.PutWords.{head-put}
use Rattle.anc_words.proofs.packets.put_head.Goals as goal

pub returns-clause-items : goal.returns-clause-items
returns-clause-items c =
    c.put_bytes.ensures.items
    ∙ ap (λ bytes. c.args.out.now.items ++ bytes) (c.as_flattened.ensures.value
    ∙ head-put c.args.did c.args.sdid c.args.count c.bytes.result c.bytes-2.result c.bytes-3.result c.bytes-4.result c.bytes-5.result c.bytes-6.result
    c.bytes.ensures c.bytes-2.ensures c.bytes-3.ensures
    (c.bytes-4.ensures ∙ ap word_bytes c.eight_bit-did.ensures) (c.bytes-5.ensures ∙ ap word_bytes c.eight_bit-sdid.ensures) (c.bytes-6.ensures ∙ ap word_bytes c.eight_bit-count.ensures))
