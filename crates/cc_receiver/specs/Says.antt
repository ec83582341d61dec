-- Between crates: the program's answer stands on none of these definitions.
-- What the sections of a packet say (SMPTE ST 334-2; CTA-708-E, cc_data()): their triplets, and the pairs of line 21 among those that
-- count.
use Rattle.std.specs.Prelude.{◌≡◌, ℕ, not, Bool, List, take, drop, true}
use Rattle.std.specs.List.{concat, flat_map, list_all}
use Rattle.cc_data.specs.declared.triplet.Triplet.{Triplet}
use Rattle.cdp_packets.specs.PacketTriplets.{section_triplets}
use Rattle.cdp_packets.specs.Sections.{AreSections}
use Rattle.line21_codes.specs.declared.channels.FieldNumber.TheVariants.{One, Two}
use Rattle.line21_codes.specs.declared.pairs.Pair.{Pair}
use Rattle.services_files.specs.Received.{field_pairs}
use Rattle.cc_receiver.specs.declared.triplets.Triplets.{Triplets}

-- none of these counts
abbrev pub none_counts : List Triplet → Bool
none_counts triplets = list_all (λ (t : Triplet). not t.valid) triplets

-- these are kept of triplets: the triplets themselves, down to the last one that counts, and the pairs of both fields
pub record AreOf (said : List Triplet) (triplets : Triplets) (pairs_one pairs_two : List Pair) : Type 0 where
  pub items : take triplets.len triplets.cells ≡ said
  pub behind : none_counts (drop triplets.until said) ≡ true
  pub pairs_one_are : pairs_one ≡ field_pairs One said
  pub pairs_two_are : pairs_two ≡ field_pairs Two said

-- these are kept of the bytes of sections
abbrev pub AreOfSections : List ℕ → Triplets → List Pair → List Pair → Type 0
AreOfSections bytes triplets pairs_one pairs_two =
    (cut : List (List ℕ)) → AreSections cut → concat cut ≡ bytes → AreOf (flat_map section_triplets cut) triplets pairs_one pairs_two
