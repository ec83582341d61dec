use Rattle.std.proofs.Common.{◌≡◌, ◌++◌, take}
use Rattle.std.specs.Prelude.{map}
use Rattle.dtvcc_codes.specs.Writing.{bytes_of_command}
use Rattle.dtvcc_author.specs.WindowCommands.{character_commands}
use Rattle.dtvcc_author.proofs.commands.push_characters.Given as goal

-- the characters so far follow what was there
abbrev pub invariant-loop-ch : goal.invariant-loop-ch
invariant-loop-ch l = l.units ≡ l.initial.units ++ map bytes_of_command (character_commands (take l.ch-index l.text))
