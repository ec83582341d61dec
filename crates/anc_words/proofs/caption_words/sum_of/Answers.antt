use Rattle.std.proofs.Common.{◌≡◌, ◌+◌, ◌%◌, ◌^◌, map, subst, sym, None, Some, ◌∙◌}
use Rattle.anc_words.specs.CaptionWords.{word_of}
use Rattle.anc_words.proofs.LaneLemmas.{checked_sum, no_sum-front, no_sum-back, sum-both, words_in, chunks-split}
use Rattle.anc_words.proofs.caption_words.sum_of.Goals as goal

pub returns-in_err-sum_of_eights : goal.returns-in_err-sum_of_eights
returns-in_err-sum_of_eights c =
    let split = chunks-split word_of c.args.words.now c.as_chunks.result.1.now c.as_chunks.result.0.now _ c.as_chunks.ensures.front c.as_chunks.ensures.back in
    c.from_residual.ensures ∙ subst (λ ws. None ≡ checked_sum ws) (sym split) (no_sum-front (words_in c.as_chunks.result.0.now) (map word_of c.as_chunks.result.1.now) c.in_err-sum_of_eights.ensures)

pub returns-in_err-sum_of_rest : goal.returns-in_err-sum_of_rest
returns-in_err-sum_of_rest c =
    let split = chunks-split word_of c.args.words.now c.as_chunks.result.1.now c.as_chunks.result.0.now _ c.as_chunks.ensures.front c.as_chunks.ensures.back in
    c.from_residual-in_err-sum_of_rest.ensures
    ∙ subst (λ ws. None ≡ checked_sum ws) (sym split) (no_sum-back (words_in c.as_chunks.result.0.now) (map word_of c.as_chunks.result.1.now) c.in_err-sum_of_rest.ensures)

pub returns : goal.returns
returns c =
    let split = chunks-split word_of c.args.words.now c.as_chunks.result.1.now c.as_chunks.result.0.now _ c.as_chunks.ensures.front c.as_chunks.ensures.back in
    let total = c.in_ok-sum_of_eights.field-0 in
    let more = c.in_ok-sum_of_rest.field-0 in
    subst (λ ws. Some ((total + more) % 2 ^ 16) ≡ checked_sum ws) (sym split)
    (sum-both (words_in c.as_chunks.result.0.now) (map word_of c.as_chunks.result.1.now) total more c.in_ok-sum_of_eights.ensures c.in_ok-sum_of_rest.ensures)
