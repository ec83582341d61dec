-- Believed in part: the library's answers stand on some of these definitions.
-- What a reader keeps of the unfinished command: its bytes where it has at most seven in all, and else how many are still to come.
use Rattle.std.specs.Prelude.{◌≡◌, ℕ, ◌-◌, ◌<◌, nat_le, if◌then◌else◌, List, [], length, Option, All, take}
use Rattle.cc_base.specs.declared.refusal.Refusal.{Refusal}
use Rattle.cc_base.specs.Syntax.{HasTaken}
use Rattle.dtvcc_codes.specs.declared.open_command.OpenCommand.{OpenCommand}
use Rattle.dtvcc_codes.specs.declared.reader.CommandReader.{CommandReader}
use Rattle.dtvcc_codes.specs.Reading.{command_syntax, told_size}

-- the bytes that are kept
abbrev pub kept_of : List ℕ → List ℕ
kept_of front = if nat_le (told_size front) 7 then front else []

-- the number of bytes that are still to come of a command that is passed over without keeping it
abbrev pub to_come : List ℕ → ℕ
to_come front = if nat_le (told_size front) 7 then 0 else told_size front - length front

-- it keeps the unfinished command of which these bytes came
pub record Keeps (front : List ℕ) (state : OpenCommand) : Type 0 where
  pub bytes : take state.kept state.bytes ≡ kept_of front
  pub to_skip : state.to_skip ≡ to_come front
  pub unfinished : length front < told_size front

-- the reader was fed these bytes
abbrev pub HasRead : List ℕ → CommandReader → Type 0
HasRead bytes reader = All (λ byte. byte < 256) bytes
    × HasTaken command_syntax Keeps bytes reader.fed

-- the refusal that it keeps
abbrev pub kept_refusal : CommandReader → Option Refusal
kept_refusal reader = reader.fed.refusal
