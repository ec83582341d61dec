-- Counts that are greater than before have their own answer.
use Rattle.std.proofs.Common.{◌≡◌, ap, arith, refl}
use Rattle.command_base.specs.Counts.{TellsFaults, TellsSideFaults}
use Rattle.command_base.specs.Ends.{Ends}
use Rattle.command_base.specs.SideEnds.{SideEnds}
use Rattle.command_base.specs.declared.status.Status.{Status}
use Rattle.command_base.specs.declared.status.Status.TheVariants as status

-- no count rose
pub steady_told : (old new : Ends) (answer : Status) → new.read_faults ≡ old.read_faults → new.write_faults ≡ old.write_faults → TellsFaults old new answer
steady_told old new answer reads writes =
    record { reads = λ rose. absurd (omega arith); writes = λ rose. absurd (omega arith) }

-- nothing happened
pub same_told : (old new : Ends) (answer : Status) → new ≡ old → TellsFaults old new answer
same_told old new answer same = steady_told old new answer (ap (λ (e : Ends). e.read_faults) same) (ap (λ (e : Ends). e.write_faults) same)

-- the input's count rose, or the output's
pub read_told : (old new : Ends) → new.write_faults ≡ old.write_faults → TellsFaults old new status.ReadFault
read_told old new writes = record { reads = λ rose. refl; writes = λ rose. absurd (omega arith) }

pub write_told : (old new : Ends) → new.read_faults ≡ old.read_faults → TellsFaults old new status.WriteFault
write_told old new reads = record { reads = λ rose. absurd (omega arith); writes = λ rose. refl }

-- the side file's count didn't rise
pub side_kept : (side later : SideEnds) (answer : Status) → later.faults ≡ side.faults → TellsSideFaults side later answer
side_kept side later answer kept rose = absurd (omega arith)
