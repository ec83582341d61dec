use Rattle.std.proofs.Common.{◌≡◌, take, drop}
use Rattle.std.specs.List.{concat}
use Rattle.dtvcc_author.proofs.packed.PackedUnits.unpack.Given as goal

-- the units so far, and the bytes of those that are left
abbrev pub invariant-loop-size : goal.invariant-loop-size
invariant-loop-size l = record {
  units : l.units ≡ take l.size-index l.self;
  rest : l.rest ≡ concat (drop l.size-index l.self);
}
