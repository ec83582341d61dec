-- Between crates: the program's answer stands on none of these definitions.
-- What the states of open handles are.
use Rattle.std.specs.Prelude.{◌≡◌, ℕ, List, ⊤}
use Rattle.caption_streams.specs.Receivings.{reception_of}
use Rattle.caption_streams.specs.Receptions.{HasFed}
use Rattle.caption_streams.specs.Verifications.{verifier_of}
use Rattle.caption_streams.specs.declared.building.Building.{Building}
use Rattle.caption_streams.specs.declared.receiving.Receiving.{Receiving}
use Rattle.caption_streams.specs.declared.verifying.Verifying.{Verifying}
use Rattle.caption_streams.specs.Verifiers.{HasVerified}
use Rattle.ccsuite_c.specs.declared.state.State.{State}
use Rattle.ccsuite_c.specs.declared.state.State.TheVariants as held

-- some bytes were fed to it, or none: it is after them
abbrev pub WasFed : State → Type 0
WasFed (held.Building building) = ⊤
WasFed (held.Receiving receiving) = (bytes : List ℕ) × HasFed bytes (reception_of receiving)
WasFed (held.Verifying verifying) = (bytes : List ℕ) × HasVerified bytes (verifier_of verifying)

-- it is another one
abbrev pub IsNoBuilder : State → Type 0
IsNoBuilder state = (b : Building) → state ≡ held.Building b → ⊥

abbrev pub IsNoReceiver : State → Type 0
IsNoReceiver state = (r : Receiving) → state ≡ held.Receiving r → ⊥

abbrev pub IsNoVerifier : State → Type 0
IsNoVerifier state = (v : Verifying) → state ≡ held.Verifying v → ⊥
