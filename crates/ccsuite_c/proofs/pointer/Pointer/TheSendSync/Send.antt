use Rattle.std.specs.Prelude.{Option, Some, None}
use base.Shift.{Keyless}
use denote.Builtin.{RawPtr}
use denote.Enum.Declared.{shape as variants_shape}
use denote.Param.Send.{IsSend, enum_send, owning_send, recorded_send, struct_send, sendable}
use denote.RawPtr.{Ptr}
use denote.Struct.Owning.{shape, fields, to}
use denote.Struct.Struct.{exits_of}
use Rattle.std_alloc.proofs.SendSync.{quiet, lies}
use Rattle.std.proofs.Crossing.{frees}
use Rattle.caption_streams.proofs.building.Building.TheSendSync as building
use Rattle.caption_streams.proofs.receiving.Receiving.TheSendSync as receiving
use Rattle.caption_streams.proofs.verifying.Verifying.TheSendSync as verifying
use mir.Raw.{raw}
use denote.Memory.{lone}
use Rattle.ccsuite_c.specs.Held.{global, held}
use Rattle.ccsuite_c.specs.contracts.state.State.{the_row as State, the_field as state_field, the_type as state_type}
use Rattle.ccsuite_c.specs.contracts.pointer.Pointer.{the_row, the_type}

state_send : IsSend State
state_send = recorded_send state_field.row _ _ state_type.to_one (enum_send (variants_shape state_type)
    ((building.the_field_send, tt), ((receiving.the_field_send, tt), ((verifying.the_field_send, tt), tt))))

free : IsSend State → (p : Ptr) (x : Option State.Denot) → Keyless (held p x)
free s p (Some x) = ((lies State s p x, frees.frees global (raw (lone State.mir)) p), (λ fed. tt))
free s p None = tt

pub send : IsSend the_row
send = let ps : IsSend RawPtr = search sendable in
    owning_send the_type (ps, tt) (λ d. free state_send d.at d.value) (λ k. quiet (to the_type) (exits_of k (fields the_type)) ((struct_send (shape the_type) (ps, tt)).leaving k))
