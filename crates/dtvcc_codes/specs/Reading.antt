-- Believed in part: the program's answer stands on some of these definitions.
-- How commands are read, one byte after another: the bytes of the unfinished command are open, and a byte that makes them whole
-- completes the command. What this comes to is the cut of the bytes into commands.
use Rattle.std.specs.Prelude.{ℕ, ◌+◌, ◌%◌, ◌==◌, nat_le, Bool, if◌then◌else◌, List, [], ◌∷◌, ◌++◌, length, Option, Some, None}
use Rattle.cc_base.specs.declared.step.Step.{Step}
use Rattle.cc_base.specs.declared.step.Step.TheVariants.{Nothing, One}
use Rattle.cc_base.specs.Syntax.{Syntax}
use Rattle.dtvcc_codes.specs.declared.commands.Command.{Command}
use Rattle.dtvcc_codes.specs.declared.commands.Command.TheVariants.{Skipped}
use Rattle.dtvcc_codes.specs.CodeTables.{Row, base_codes, ext1, extended_codes, holds_code, is_counted}

-- how many parameter bytes follow a code
abbrev pub count_at : List Row → ℕ → ℕ
count_at [] code = 0
count_at (row ∷ rows) code = if holds_code row code then row.count else count_at rows code

-- what a code says with its parameters
abbrev pub said_at : List Row → ℕ → List ℕ → Command
said_at [] code parameters = Skipped
said_at (row ∷ rows) code parameters = if holds_code row code then row.says code parameters else said_at rows code parameters

-- the number of bytes from the byte on that counts
abbrev pub counted_size : List ℕ → ℕ
counted_size [] = 1
counted_size (count ∷ skipped) = 1 + count % 32

-- the number of bytes after EXT1
abbrev pub extended_size : List ℕ → ℕ
extended_size [] = 1
extended_size (code ∷ parameters) =
    if is_counted code then 1 + counted_size parameters else 1 + count_at extended_codes code

-- the number of bytes of a command that begins with these, as far as they tell
unfoldable pub told_size : List ℕ → ℕ
told_size [] = 1
told_size (code ∷ rest) = if code == ext1 then 1 + extended_size rest else 1 + count_at base_codes code

-- what a whole spelling says after EXT1
abbrev pub extended_command : List ℕ → Command
extended_command [] = Skipped
extended_command (code ∷ parameters) = said_at extended_codes code parameters

-- what a whole spelling says
unfoldable pub spelled_command : List ℕ → Command
spelled_command [] = Skipped
spelled_command (code ∷ rest) = if code == ext1 then extended_command rest else said_at base_codes code rest

-- the bytes are a whole spelling
abbrev pub is_whole : List ℕ → Bool
is_whole bytes = nat_le (told_size bytes) (length bytes)

-- the command that a byte completes after these open bytes, if it completes one
abbrev pub completed : List ℕ → ℕ → Option Command
completed front byte = if is_whole (front ++ byte ∷ []) then Some (spelled_command (front ++ byte ∷ [])) else None

-- the bytes that are open after one more
abbrev pub open_after : List ℕ → ℕ → List ℕ
open_after front byte = if is_whole (front ++ byte ∷ []) then [] else front ++ byte ∷ []

-- what each byte completes, after these open bytes
abbrev pub completions : List ℕ → List ℕ → List (Option Command)
completions front [] = []
completions front (byte ∷ bytes) = completed front byte ∷ completions (open_after front byte) bytes

-- a completed command is a part
abbrev pub command_step : Option Command → Step Command
command_step None = Nothing
command_step (Some command) = One command

-- what is made of a byte after these open bytes
abbrev pub judge_byte : List ℕ → ℕ → Step Command
judge_byte front byte = command_step (completed front byte)

-- how the bytes of a service are read
abbrev pub command_syntax : Syntax (List ℕ) ℕ Command
command_syntax = record { start = []; judge = judge_byte; after = open_after }
