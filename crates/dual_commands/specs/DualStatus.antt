-- Between crates: the program's answer stands on none of these definitions.
-- The status of two lists that have no plan together.
use Rattle.std.specs.Prelude.{Some}
use Rattle.cc_base.specs.declared.why.Why.TheVariants as why
use Rattle.command_base.specs.declared.status.Place.TheVariants.{Field}
use Rattle.command_base.specs.declared.status.Status.{Status}
use Rattle.command_base.specs.declared.status.Status.TheVariants as status
use Rattle.dual_plans.specs.declared.fault.DualFault.{DualFault}
use Rattle.dual_plans.specs.declared.fault.DualFault.TheVariants.{Memory, OtherList, FieldClash, NoRoom, NoRoomBeside}

abbrev pub fault_status : DualFault → Status
fault_status (Memory error) = status.Memory
fault_status (OtherList rec field) = status.Malformed (Field rec field) why.OtherList
fault_status (FieldClash second first) = status.Rule (record { why = why.FieldClash; cue = second; other = Some first })
fault_status (NoRoom cue) = status.NoRoom cue
fault_status (NoRoomBeside cue) = status.NoRoomBeside cue
