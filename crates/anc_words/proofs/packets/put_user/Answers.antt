use Rattle.std.proofs.Common.{map}
use Rattle.anc_words.specs.Writing.{eight_bit_word}
use Rattle.anc_words.proofs.LaneLemmas.{chunks-split}
use Rattle.anc_words.proofs.PutWords.{both-put, both-sums, words_of_eights}
use Rattle.anc_words.proofs.packets.put_user.Goals as goal

pub returns-clause-items : goal.returns-clause-items
returns-clause-items c =
    let user = c.args.user.now in
    let eights = c.as_chunks.result.0.now in
    let rest = c.as_chunks.result.1.now in
    both-put c.args.out.now.items c.put_eights-sum.new.out.items c.put_rest.new.out.items (words_of_eights eights) (map eight_bit_word rest) (map eight_bit_word user)
    c.put_eights-sum.ensures.items c.put_rest.ensures.items (chunks-split eight_bit_word user rest eights _ c.as_chunks.ensures.front c.as_chunks.ensures.back)

pub returns-clause-sum : goal.returns-clause-sum
returns-clause-sum c =
    let user = c.args.user.now in
    let eights = c.as_chunks.result.0.now in
    let rest = c.as_chunks.result.1.now in
    both-sums (words_of_eights eights) (map eight_bit_word rest) (map eight_bit_word user) c.put_eights-sum.result c.put_rest.result
    c.put_eights-sum.ensures.sum c.put_rest.ensures.sum (chunks-split eight_bit_word user rest eights _ c.as_chunks.ensures.front c.as_chunks.ensures.back)
