use Rattle.std.proofs.Common.{map, ap, [], ◌∙◌, sym, arith}
use Rattle.std.proofs.lemmas.List.{get_or-map, length-map}
use Rattle.std.proofs.lemmas.List.Folds.{list_all_at}
use Rattle.anc_words.specs.CaptionWords.{word_of}
use Rattle.anc_words.specs.Reading.{is_eight_bit}
use Rattle.anc_words.proofs.LaneLemmas.{no_sum}
use Rattle.anc_words.proofs.caption_words.sum_of_rest.Goals as goal

pub returns-then-not-is_eight_bit : goal.returns-then-not-is_eight_bit
returns-then-not-is_eight_bit c =
    let words = map word_of c.args.words.now in
    let place = c.loop-word.word-index in
    let read = get_or-map word_of c.args.words.now place [] 0 c.loop-word-test.true in
    let wrong = ap is_eight_bit (read ∙ sym c.value-word.ensures) ∙ sym c.is_eight_bit.ensures ∙ c.if-not-is_eight_bit.true in
    no_sum words (list_all_at is_eight_bit words place 0 (omega (arith, length-map c.args.words.now word_of, c.loop-word-test.true)) wrong)
