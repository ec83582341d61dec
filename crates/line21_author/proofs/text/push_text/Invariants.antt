use Rattle.std.proofs.Common.{◌≡◌, ◌++◌, drop}
use Rattle.std.specs.List.{filter_map}
use Rattle.line21_codes.specs.Spellings.{spelling_of}
use Rattle.line21_author.specs.TextCodes.{packed, text_codes}
use Rattle.line21_author.proofs.text.push_text.Given as goal

-- what is pushed, and what the waiting character and the text that is left give
abbrev pub invariant-loop-ch : goal.invariant-loop-ch
invariant-loop-ch l =
    l.codes.items ++ packed l.waiting (filter_map spelling_of (drop l.ch-index l.ch-items))
    ≡ l.initial.codes.items ++ text_codes l.ch-items
