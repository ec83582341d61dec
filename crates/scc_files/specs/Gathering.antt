-- Between crates: the program's answer stands on none of these definitions.
-- What taking a byte does to what was read so far.
use Rattle.std.specs.Prelude.{◌≡◌, ℕ, ◌+◌, true, ◌++◌, Option, Some, None, Result, Ok, Err, ⊤}
use Rattle.std.specs.Option.{option_to_list}
use Rattle.line21_codes.specs.declared.pairs.Pair.{Pair}
use Rattle.scc_files.specs.Reading.{step}
use Rattle.scc_files.specs.declared.reading.Gathered.{Gathered}
use Rattle.scc_files.specs.declared.reading.Stop.{Stop}
use Rattle.scc_files.specs.declared.reading.Stop.TheVariants as stop

-- how many frames pairs take, with one more, if there is one
abbrev pub frames_with : ℕ → Option (ℕ × Pair) → ℕ
frames_with frames None = frames
frames_with frames (Some placed) = placed.0 + 1

-- a byte was taken, with the pair that it makes whole; or it offends, or memory ran out
abbrev pub GathersByte : Gathered → Gathered → ℕ → Result (Unit {0}) Stop → Type 0
GathersByte old new byte (Ok _) =
    (given : Option (ℕ × Pair)) × (step true old.reader byte ≡ Ok (new.reader, given)) × (new.pairs ≡ old.pairs ++ option_to_list given)
    × (new.frames ≡ frames_with old.frames given)
GathersByte old new byte (Err (stop.Memory error)) = ⊤
GathersByte old new byte (Err (stop.Offends offence)) = (step true old.reader byte ≡ Err offence) × (new.pairs ≡ old.pairs)
