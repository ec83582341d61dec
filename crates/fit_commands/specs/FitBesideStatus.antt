-- Between crates: the program's answer stands on none of these definitions.
-- The status of a second list that can't be fitted beside a first one.
use Rattle.cc_base.specs.declared.why.Why.TheVariants as why
use Rattle.command_base.specs.declared.status.Place.TheVariants.{Field}
use Rattle.command_base.specs.declared.status.Status.{Status}
use Rattle.command_base.specs.declared.status.Status.TheVariants as status
use Rattle.dual_fit.specs.declared.fault.FitFault.{FitFault}
use Rattle.dual_fit.specs.declared.fault.FitFault.TheVariants.{Memory, OtherList, NoRoom, NoRoomBeside}

abbrev pub misfit_status : FitFault → Status
misfit_status (Memory error) = status.Memory
misfit_status (OtherList rec field) = status.Malformed (Field rec field) why.OtherList
misfit_status (NoRoomBeside cue) = status.NoRoomBeside cue
misfit_status (NoRoom cue) = status.NoRoom cue
