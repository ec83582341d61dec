-- Believed: the program's answer stands on these definitions.
-- What `load` makes of a number of captions. The list is accepted, whatever the number: so nothing is refused. No input is read.
use Rattle.std.specs.Prelude.{ℕ, List}
use Rattle.command_base.specs.declared.status.Status.{Status}
use Rattle.command_base.specs.declared.status.Status.TheVariants as status
use Rattle.load_commands.specs.LoadOutput.{AreLoadLines}

-- `load`
abbrev pub LoadVerdict : ℕ → List ℕ → Status → List ℕ → Type 0
LoadVerdict count input status.Ok text = AreLoadLines count text
LoadVerdict count input status.WriteFault text = AreLoadLines count text
LoadVerdict count input _ text = ⊥
