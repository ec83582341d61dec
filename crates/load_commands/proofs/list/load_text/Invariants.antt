use Rattle.std.proofs.Common.{◌≡◌, ◌+◌, ◌*◌, map}
use Rattle.std.specs.List.{range_with_len}
use Rattle.load_commands.proofs.LetterLemmas.{letter}
use Rattle.load_commands.proofs.list.load_text.Given as goal

-- the letters so far
abbrev pub invariant-loop-place : goal.invariant-loop-place
invariant-loop-place l = l.letters.items ≡ map (λ j. letter (7 * l.number + 5 * j)) (range_with_len 0 l.place)
