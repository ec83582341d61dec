-- Between crates: the program's answer stands on none of these definitions.
-- What a pointer owns.
use Rattle.std.specs.Prelude.{Option, Some, None}
use base.Fml.{Fml, ftrue, fsep, fex}
use denote.RawPtr.{Ptr}
use mir.Syntax.{Ty}
use Rattle.std_alloc.specs.Box.Ownership.{box_owns}
use Rattle.std_heap.specs.declared.Global.{Global}
use Rattle.std_heap.specs.contracts.GlobalAllocator.TheImpl.{ghosts}
use Rattle.ccsuite_c.specs.States.{WasFed}
use Rattle.ccsuite_c.specs.declared.state.State.{State}
use Rattle.ccsuite_c.specs.contracts.state.State.{the_row}

-- the one value of the allocator's handle, which has no bytes
abbrev pub global : Global
global = record { memory = record { seal = tt } }

-- the right to free a block
abbrev pub chunk : Ty → Ptr → Fml
chunk = ghosts.dealloc_token global

-- a box of the state, with the right to free it, where there is one, and the state was fed what the calls fed it
abbrev pub held : Ptr → Option State → Fml
held p (Some state) = fsep (box_owns chunk the_row p state) (fex (WasFed state) (λ fed. ftrue))
held p None = ftrue
