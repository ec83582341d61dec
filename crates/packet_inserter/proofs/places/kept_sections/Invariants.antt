use Rattle.std.proofs.Common.{◌≡◌, ◌≤◌, ℕ, ◌+◌, List, length}
use Rattle.std.specs.List.{concat}
use Rattle.cdp_packets.specs.Sections.{AreSections}
use Rattle.packet_inserter.proofs.WalkLemmas.{AreKept}
use Rattle.packet_inserter.proofs.places.kept_sections.Given as goal

abbrev pub invariant-loop-section : goal.invariant-loop-section
invariant-loop-section l = record {
  fits : length l.kept.items + length l.rest ≤ 244;
  kept : (cut : List (List ℕ)) → AreSections cut → concat cut ≡ l.sections → AreKept cut l.rest l.kept.items;
}

abbrev pub decreases-loop-section : goal.decreases-loop-section
decreases-loop-section l = length l.rest
