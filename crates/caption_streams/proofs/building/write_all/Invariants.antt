use Rattle.std.proofs.Common.{◌≡◌, ◌*◌, length, take}
use Rattle.cc_data.specs.Triplets.{all_written}
use Rattle.caption_streams.proofs.building.write_all.Given as goal

-- the triplets so far were written
abbrev pub invariant-loop-triplet : goal.invariant-loop-triplet
invariant-loop-triplet l = record {
  written : l.bytes.items ≡ all_written (take l.triplet-index l.triplets);
  count : length l.bytes.items ≡ 3 * l.triplet-index;
}
