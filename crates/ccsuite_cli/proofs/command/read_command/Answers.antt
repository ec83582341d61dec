use Rattle.std.proofs.Common.{◌∙◌, ◌≤◌, ◌<◌, List, [], ◌∷◌, ap, arith, length, map, string_bytes, sym, ℕ}
use Rattle.std.proofs.lemmas.List.{length-map}
use Rattle.ccsuite_cli.proofs.CommandLemmas.{long_words, two_words}
use Rattle.ccsuite_cli.proofs.command.read_command.Goals as goal
use Rattle.ccsuite_cli.specs.Command.{command_of}

pub returns-in-len2-clause-command : goal.returns-in-len2-clause-command
returns-in-len2-clause-command c =
    let least : 2 ≤ length c.args.words.now = c.in-len2.len_at_least in
    let most : length c.args.words.now < 3 = c.in-len2.len_below in
    let words = two_words c.args.words.now c.word-item-then-words-lt3.result c.argument-item.result least most c.word-item-then-words-lt3.is c.argument-item.is in
    c.read_two.ensures.command
    ∙ ap (λ (word : List ℕ). command_of (word ∷ c.as_str-in-len2-2.result.now ∷ [])) c.as_str-in-len2.ensures.value
    ∙ ap (λ (word : List ℕ). command_of (string_bytes c.word-item-then-words-lt3.result ∷ word ∷ [])) c.as_str-in-len2-2.ensures.value
    ∙ ap (λ words. command_of (map string_bytes words)) (sym words)

pub returns-in_default-2-clause-command : goal.returns-in_default-2-clause-command
returns-in_default-2-clause-command c =
    let many : 4 ≤ length c.args.words.now = c.in_default.len_at_least in
    let size = length-map c.args.words.now string_bytes in
    sym (long_words (map string_bytes c.args.words.now) (omega arith))
