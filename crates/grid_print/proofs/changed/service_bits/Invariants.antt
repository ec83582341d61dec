use Rattle.std.proofs.Common.{◌≡◌, ◌-◌, ◌<◌, ◌^◌, ◌+◌}
use Rattle.std.specs.List.{range_with_len}
use Rattle.grid_print.specs.Changed.{bits, service_bit}
use Rattle.grid_print.specs.Kept.{changed_at}
use Rattle.grid_print.proofs.changed.service_bits.Given as goal

-- the bits of the services so far, which are below the next one's
abbrev pub invariant-loop-place : goal.invariant-loop-place
invariant-loop-place l = record {
  bits : l.bits ≡ bits (λ service. changed_at l.services (service - 1)) service_bit (range_with_len 1 l.place);
  below : l.bits < 2 ^ (l.place + 1);
}
