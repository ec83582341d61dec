-- Between crates: the program's answer stands on none of these definitions.
-- The status of an import that stopped within its input.
use Rattle.command_base.specs.declared.status.Place.TheVariants.{Byte}
use Rattle.command_base.specs.declared.status.Status.{Status}
use Rattle.command_base.specs.declared.status.Status.TheVariants as status
use Rattle.mcc_commands.specs.declared.import_stop.MccStop.{MccStop}
use Rattle.mcc_commands.specs.declared.import_stop.MccStop.TheVariants as stop

abbrev pub stop_status : MccStop → Status
stop_status (stop.Offends refusal) = status.Malformed (Byte refusal.place) refusal.why
stop_status (stop.Passes which) = status.Limit which
