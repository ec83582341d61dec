-- Between crates: the program's answer stands on none of these definitions.
-- The status of a cue list and packets that have no plan.
use Rattle.command_base.specs.declared.status.Status.{Status}
use Rattle.command_base.specs.declared.status.Status.TheVariants as status
use Rattle.xds_frames.specs.declared.fault.XdsPlanFault.{XdsPlanFault}
use Rattle.xds_frames.specs.declared.fault.XdsPlanFault.TheVariants.{Memory, NoRoom, NoXdsRoom}

abbrev pub fault_status : XdsPlanFault → Status
fault_status (Memory error) = status.Memory
fault_status (NoRoom cue) = status.NoRoom cue
fault_status (NoXdsRoom packet) = status.NoXdsRoom packet
