use Rattle.std.proofs.Common.{◌≡◌, map, take}
use Rattle.cc_data.specs.Triplets.{bytes_of_triplet}
use Rattle.cdp_packets.proofs.sections.cc_section.Given as goal

-- the triplets so far were written
abbrev pub invariant-loop-triplet : goal.invariant-loop-triplet
invariant-loop-triplet l = l.written.items ≡ map bytes_of_triplet (take l.triplet-index l.triplets)
