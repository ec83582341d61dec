use Rattle.std.proofs.Common.{◌≡◌, ℕ, ◌+◌, List, length}
use Rattle.std.specs.List.{concat}
use Rattle.cdp_packets.specs.Sections.{AreSections}
use Rattle.packet_inserter.specs.Insertion.{is_time_code_section}
use Rattle.packet_inserter.proofs.WalkLemmas.{HavePassed}
use Rattle.packet_inserter.proofs.places.time_codes_len.Given as goal

abbrev pub invariant-loop-section : goal.invariant-loop-section
invariant-loop-section l = record {
  fits : l.place + length l.rest ≡ length l.sections;
  passed : (cut : List (List ℕ)) → AreSections cut → concat cut ≡ l.sections → HavePassed is_time_code_section cut l.rest l.place;
}

abbrev pub decreases-loop-section : goal.decreases-loop-section
decreases-loop-section l = length l.rest
