use Rattle.std.proofs.Common.{◌≡◌, ◌≤◌, [], length, take}
use Rattle.line21_codes.specs.declared.channels.FieldNumber.{FieldNumber}
use Rattle.services_files.specs.Received.{field_kind, field_pairs}
use Rattle.cc_receiver.proofs.frame.put_pairs.Given as goal

-- the pairs of this many triplets were put
abbrev pub invariant-loop-triplet : goal.invariant-loop-triplet
invariant-loop-triplet l =
    (in_field : FieldNumber) → l.kind ≡ field_kind in_field → length l.triplets ≤ 81 → l.fn.pairs.items ≡ []
    → l.pairs.items ≡ field_pairs in_field (take l.triplet-index l.triplets)
