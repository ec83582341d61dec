-- Between crates: the program's answer stands on none of these definitions.
-- Steps of `import`.
use Rattle.std.specs.Prelude.{◌≤◌, [], Some}
use Rattle.scc_files.specs.Reading.{frames_of}
use Rattle.scc_files.specs.SccFiles.{AreRising}
use Rattle.frame_carrier.specs.FrameBytes.{FrameBytes}
use Rattle.line21_codes.specs.declared.pairs.Pair.{Pair}
use Rattle.line21_codes.specs.NullPairs.{null_pair}
use Rattle.scc_files.specs.declared.fault.SccFault.{SccFault}
use Rattle.scc_files.specs.declared.fault.SccFault.TheVariants as fault
use Rattle.scc_commands.specs.Import.{PlacedPairs, most_import_frames}
use Rattle.command_base.specs.declared.status.Place.TheVariants.{Byte}
use Rattle.command_base.specs.declared.status.Status.{Status}
use Rattle.command_base.specs.declared.status.Status.TheVariants as status

-- the status of a file that isn't read
abbrev pub fault_status : SccFault → Status
fault_status (fault.Memory error) = status.Memory
fault_status (fault.Limit which) = status.Limit which
fault_status (fault.Malformed refusal) = status.Malformed (Byte refusal.place) refusal.why

-- what a frame carries with this pair in field 1
abbrev pub frame_with : Pair → FrameBytes
frame_with pair = record { one = Some pair; two = Some null_pair; blocks = record { items = [] } }

-- pairs at frames of the day in order
pub record ArePlaced (pairs : PlacedPairs) : Type 0 where
  pub rising : AreRising 0 pairs
  pub few : frames_of pairs ≤ most_import_frames
