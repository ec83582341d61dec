use Rattle.std.proofs.Common.{◌≡◌, ◌%◌, ◌^◌, true, map, take}
use Rattle.std.specs.List.{list_all, sum}
use Rattle.anc_words.specs.CaptionWords.{word_of}
use Rattle.anc_words.specs.Reading.{is_eight_bit}
use Rattle.anc_words.proofs.caption_words.sum_of_rest.Given as goal

-- the words so far are 8-bit words, and have this sum, modulo 2^16
abbrev pub invariant-loop-word : goal.invariant-loop-word
invariant-loop-word l =
    (list_all is_eight_bit (map word_of (take l.word-index l.words)) ≡ true) × (l.total ≡ sum (map word_of (take l.word-index l.words)) % 2 ^ 16)
