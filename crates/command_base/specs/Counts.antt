-- Between crates: the program's answer stands on none of these definitions.
-- What a run answers by the counts of its faults.
use Rattle.std.specs.Prelude.{◌≡◌, ◌<◌, ℕ, List, Some}
use Rattle.cc_base.specs.Streams.{Rose}
use Rattle.command_base.specs.Ends.{Ends}
use Rattle.command_base.specs.SideEnds.{SideEnds}
use Rattle.command_base.specs.declared.status.Status.{Status}
use Rattle.command_base.specs.declared.status.Status.TheVariants as status

-- the input had these bytes, and no count of faults rose
pub record IsReadOf (bytes : List ℕ) (old new : Ends) : Type 0 where
  pub left : old.left ≡ Some bytes
  pub reads : Rose old.read_faults new.read_faults → ⊥
  pub writes : Rose old.write_faults new.write_faults → ⊥

-- where the input's count of faults is greater than before, that is the answer, and so where the output's is
pub record TellsFaults (old new : Ends) (answer : Status) : Type 0 where
  pub reads : old.read_faults < new.read_faults → answer ≡ status.ReadFault
  pub writes : old.write_faults < new.write_faults → answer ≡ status.WriteFault

-- the side file had these bytes, and its count of faults didn't rise
pub record IsSideOf (text : List ℕ) (side later : SideEnds) : Type 0 where
  pub left : side.left ≡ Some text
  pub faults : Rose side.faults later.faults → ⊥

-- where the side file's count of faults is greater than before, that is the answer
abbrev pub TellsSideFaults : SideEnds → SideEnds → Status → Type 0
TellsSideFaults side later answer = side.faults < later.faults → answer ≡ status.ReadFault

-- and so where the input's or the output's count rose
abbrev pub TellsAllFaults : SideEnds → SideEnds → Ends → Ends → Status → Type 0
TellsAllFaults side later old new answer = TellsSideFaults side later answer × TellsFaults old new answer
