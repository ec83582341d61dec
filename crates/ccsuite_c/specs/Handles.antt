-- Believed: the library's answers stand on these definitions.
-- What handles hold.
use Rattle.std.specs.Prelude.{◌≡◌, ℕ, List, Option, Some}
use Rattle.caption_streams.specs.declared.building.Building.{Building}
use Rattle.caption_streams.specs.declared.receiving.Receiving.{Receiving}
use Rattle.caption_streams.specs.declared.verifying.Verifying.{Verifying}
use Rattle.ccsuite_c.specs.declared.handle.Handle.{Handle}
use Rattle.ccsuite_c.specs.declared.state.State.{State}
use Rattle.ccsuite_c.specs.declared.state.State.TheVariants as held

-- the state of an open one
abbrev pub state_in : Handle → Option State
state_in handle = handle.pointer.value

-- it is closed, or holds something else
abbrev pub HasNoBuilder : Option State → Type 0
HasNoBuilder state = (b : Building) → state ≡ Some (held.Building b) → ⊥

abbrev pub HasNoReceiver : Option State → Type 0
HasNoReceiver state = (r : Receiving) → state ≡ Some (held.Receiving r) → ⊥

abbrev pub HasNoVerifier : Option State → Type 0
HasNoVerifier state = (v : Verifying) → state ≡ Some (held.Verifying v) → ⊥

-- nothing is written, and a handle holds what it held
pub record StaysSo (before after : List ℕ) (count : ℕ) (old new : Option State) : Type 0 where
  pub untouched : after ≡ before
  pub nothing : count ≡ 0
  pub still : new ≡ old
