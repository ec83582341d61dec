use Rattle.std.proofs.Common.{◌≡◌, ◌<◌, ◌+◌, ◌*◌, ◌++◌, All, length}
use Rattle.cc_data.specs.Triplets.{triplets_of}
use Rattle.caption_packets.proofs.writing.triplets_of.Given as goal

-- some triplets were read, and the others stand in the rest
abbrev pub invariant-loop-triplet : goal.invariant-loop-triplet
invariant-loop-triplet l = record {
  read : l.triplets.items ++ triplets_of l.rest ≡ triplets_of l.bytes;
  count : 3 * length l.triplets.items + length l.rest ≡ length l.bytes;
  kinds : All (λ t. t.kind < 4) l.triplets.items;
}

abbrev pub decreases-loop-triplet : goal.decreases-loop-triplet
decreases-loop-triplet l = length l.rest
