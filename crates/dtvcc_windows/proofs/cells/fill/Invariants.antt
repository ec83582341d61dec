use Rattle.std.proofs.Common.{◌≡◌, ◌≤◌, None, vec_len, vec_capacity}
use Rattle.std.proofs.Math.ListN.{replicate}
use Rattle.dtvcc_windows.proofs.cells.fill.Given as goal

-- this many places, without a cell, in the room that there was
abbrev pub invariant-loop : goal.invariant-loop
invariant-loop l = record {
  places : l.places.items ≡ replicate l.counter None;
  filled : vec_len l.places ≡ l.counter;
  room : 1024 ≤ vec_capacity l.places;
}
