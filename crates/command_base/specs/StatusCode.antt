-- Believed: the library's answers stand on these definitions.
-- The code with which a process ends, for each status.
use Rattle.std.specs.Prelude.{ℕ}
use Rattle.command_base.specs.declared.status.Status.{Status}
use Rattle.command_base.specs.declared.status.Status.TheVariants as status

-- the code of a status
abbrev pub status_code : Status → ℕ
status_code status.Ok = 0
status_code status.Usage = 1
status_code status.ReadFault = 2
status_code status.WriteFault = 3
status_code status.Memory = 4
status_code (status.Limit limit) = 5
status_code (status.Malformed place why) = 6
status_code (status.Rule fault) = 7
status_code (status.NoRoom cue) = 8
status_code (status.Differs finding) = 9
status_code (status.Short frames) = 10
status_code (status.NoRoomBeside cue) = 11
status_code (status.NoXdsRoom packet) = 12
status_code (status.Misfit misfit) = 13
