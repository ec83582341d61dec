-- Believed: the program's answer stands on these definitions.
-- How the bytes of a service are cut into commands (CTA-708-E, 7.1): into the spellings of commands, one after another, up to
-- a rest that begins a spelling and isn't whole yet. The cut is of the bytes alone: it knows nothing of delays.
use Rattle.std.specs.Prelude.{◌≡◌, ℕ, ◌<◌, List, [], ◌∷◌, ◌++◌, length}
use Rattle.dtvcc_codes.specs.declared.commands.Command.{Command}
use Rattle.dtvcc_codes.specs.Spelling.{Spells}

-- the bytes begin a spelling, and aren't the whole of it
pub record IsUnfinished (bytes : List ℕ) : Type 0 where
  pub command : Command
  pub more : List ℕ
  pub some : 0 < length more
  pub spells : Spells command (bytes ++ more)

-- the bytes are cut into these commands and this rest
abbrev pub IsCut : List Command → List ℕ → List ℕ → Type 0
IsCut [] rest bytes = (bytes ≡ rest) × IsUnfinished rest
IsCut (command ∷ commands) rest bytes =
    (spelling : List ℕ) × (more : List ℕ) × (bytes ≡ spelling ++ more) × Spells command spelling × IsCut commands rest more
