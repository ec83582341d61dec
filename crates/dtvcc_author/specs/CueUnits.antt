-- Believed in part: the program's answer stands on some of these definitions.
-- The units of a window cue: what is written of each of its commands (CTA-708-E, 7.1).
use Rattle.std.specs.Prelude.{◌≡◌, ℕ, false, List, [], ◌∷◌, ⊤, map}
use Rattle.dtvcc_codes.specs.declared.commands.Command.{Command}
use Rattle.dtvcc_codes.specs.Spellable.{IsSpellable, is_skipped}
use Rattle.dtvcc_codes.specs.Spelling.{Spells}
use Rattle.dtvcc_codes.specs.Writing.{bytes_of_command}
use Rattle.cue_types.specs.declared.cue.Cue.{Cue}
use Rattle.dtvcc_author.specs.WindowCommands.{commands_of}

-- a command that has bytes, and isn't passed over
pub record IsWritable (command : Command) : Type 0 where
  pub spellable : IsSpellable command
  pub unskipped : is_skipped command ≡ false

-- each unit spells its command
abbrev pub AreSpelled : List Command → List (List ℕ) → Type 0
AreSpelled [] [] = ⊤
AreSpelled [] (unit ∷ units) = ⊥
AreSpelled (command ∷ commands) [] = ⊥
AreSpelled (command ∷ commands) (unit ∷ units) = Spells command unit × AreSpelled commands units

-- the units of a cue
abbrev pub window_cue_units : Cue → List (List ℕ)
window_cue_units cue = map bytes_of_command (commands_of cue)
