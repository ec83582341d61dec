-- Believed: the program's answer stands on these definitions.
-- What `help` and `version` make of no input: their text.
use Rattle.std.specs.Prelude.{◌≡◌, ℕ, List}
use Rattle.command_base.specs.declared.status.Status.{Status}
use Rattle.command_base.specs.declared.status.Status.TheVariants as status

-- this text is put; a put of it may fail, and nothing else can
abbrev pub TextVerdict : List ℕ → List ℕ → Status → List ℕ → Type 0
TextVerdict page input status.Ok text = text ≡ page
TextVerdict page input status.WriteFault text = text ≡ page
TextVerdict page input _ text = ⊥
