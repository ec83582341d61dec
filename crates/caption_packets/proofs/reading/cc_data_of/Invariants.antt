use Rattle.std.proofs.Common.{◌≡◌, ◌≤◌, ◌+◌, ℕ, List, length}
use Rattle.std.specs.List.{concat}
use Rattle.cdp_packets.specs.Sections.{AreSections}
use Rattle.caption_packets.proofs.FrameLemmas.{AreOnTheWay}
use Rattle.caption_packets.proofs.reading.cc_data_of.Given as goal

abbrev pub invariant-loop-section : goal.invariant-loop-section
invariant-loop-section l = record {
  fits : length l.bytes.items + length l.rest ≤ 244;
  way : (cut : List (List ℕ)) → AreSections cut → concat cut ≡ l.sections → AreOnTheWay cut l.rest l.bytes.items;
}

abbrev pub decreases-loop-section : goal.decreases-loop-section
decreases-loop-section l = length l.rest
