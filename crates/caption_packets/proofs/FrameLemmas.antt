-- Triplets that are read of bytes, and the bytes of sections' triplets; what holds where there is nothing.
use Rattle.std.proofs.Common.{◌≡◌, ◌+◌, ◌≤◌, ◌==◌, ◌∙◌, ℕ, List, [], ◌∷◌, ◌++◌, ap, append_assoc, append-nil, arith, drop, get_or, length, refl, sym, take}
use Rattle.std.specs.Prelude.{Bool, true, false, IfNone, None, Option, Some, if◌then◌else◌}
use Rattle.std.specs.List.{concat, flat_map}
use Rattle.cc_data.specs.Triplets.{triplet_of, triplets_of}
use Rattle.cc_data.specs.declared.triplet.Triplet.{Triplet}
use Rattle.cdp_packets.specs.PacketTriplets.{section_triplet_bytes}
use Rattle.cdp_packets.specs.Sections.{AreSections, IsSection}
use Rattle.cdp_packets.proofs.SectionLemmas.{length-section, split_same}

-- the triplet that three bytes are read as
abbrev pub read_as : List ℕ → Triplet
read_as bytes = triplet_of (get_or bytes 0 0) (get_or bytes 1 0) (get_or bytes 2 0)

-- three bytes are read, and those after them
pub three_read : (bytes three more : List ℕ) → three ≡ take 3 bytes → more ≡ drop 3 bytes → length more + 3 ≡ length bytes
    → read_as three ∷ triplets_of more ≡ triplets_of bytes
three_read [] three more front back long = absurd (omega (arith, long))
three_read (_ ∷ []) three more front back long = absurd (omega (arith, long))
three_read (_ ∷ _ ∷ []) three more front back long = absurd (omega (arith, long))
three_read (a ∷ b ∷ c ∷ bytes) three more front back long =
    ap (λ t. read_as t ∷ triplets_of more) front ∙ ap (λ m. read_as (a ∷ b ∷ c ∷ []) ∷ triplets_of m) back

-- where no three bytes stand, nothing is read
pub none_read : (bytes : List ℕ) → length bytes + 1 ≤ 3 → triplets_of bytes ≡ []
none_read [] few = refl
none_read (_ ∷ []) few = refl
none_read (_ ∷ _ ∷ []) few = refl
none_read (_ ∷ _ ∷ _ ∷ bytes) few = absurd (omega (arith, few))

-- the bytes that were gathered, and the bytes of the sections that are left, are all
pub record AreOnTheWay (cut : List (List ℕ)) (rest bytes : List ℕ) : Type 0 where
  pub left : List (List ℕ)
  pub are : AreSections left
  pub joined : concat left ≡ rest
  pub leads : bytes ++ flat_map section_triplet_bytes left ≡ flat_map section_triplet_bytes cut

-- a section has bytes
no_section : (section behind : List ℕ) → IsSection section → [] ≡ section ++ behind → ⊥
no_section [] behind is none = is
no_section (_ ∷ section) behind is none = cc

-- after one more section
pub way_next : (cut : List (List ℕ)) (rest bytes section behind : List ℕ) → AreOnTheWay cut rest bytes → IsSection section → rest ≡ section ++ behind
    → AreOnTheWay cut behind (bytes ++ section_triplet_bytes section)
way_next cut rest bytes section behind way is spelled =
    next_of way.left way.are (way.joined ∙ spelled) way.leads
  where
    next_of : (left : List (List ℕ)) → AreSections left → concat left ≡ section ++ behind
        → bytes ++ flat_map section_triplet_bytes left ≡ flat_map section_triplet_bytes cut → AreOnTheWay cut behind (bytes ++ section_triplet_bytes section)
    next_of [] are joined leads = absurd (no_section section behind is joined)
    next_of (first ∷ left) are joined leads =
        let long : length first ≡ length section =
        sym (length-section (first ++ concat left) first (concat left) are.0 refl) ∙ length-section (first ++ concat left) section behind is joined in
        let split = split_same first section (concat left) behind long joined in
        record {
          left = left;
          are = are.1;
          joined = split.tails;
          leads = ap (λ s. (bytes ++ section_triplet_bytes s) ++ flat_map section_triplet_bytes left) (sym split.heads)
              ∙ append_assoc bytes (section_triplet_bytes first) (flat_map section_triplet_bytes left) ∙ leads;
        }

-- where no section stands, the way is at its end
pub way_ended : (cut : List (List ℕ)) (rest bytes : List ℕ) → AreOnTheWay cut rest bytes
    → ((section behind : List ℕ) → IsSection section → rest ≡ section ++ behind → ⊥) → bytes ≡ flat_map section_triplet_bytes cut
way_ended cut rest bytes way none = ended_of way.left way.are way.joined way.leads
  where
    ended_of : (left : List (List ℕ)) → AreSections left → concat left ≡ rest
        → bytes ++ flat_map section_triplet_bytes left ≡ flat_map section_triplet_bytes cut → bytes ≡ flat_map section_triplet_bytes cut
    ended_of [] are joined leads = sym (append-nil bytes) ∙ leads
    ended_of (section ∷ left) are joined leads = absurd (none section (concat left) are.0 (sym joined))

-- a section has no more bytes of triplets than bytes
few_of : (test : Bool) (rest : List ℕ) → length (if test then rest else []) ≤ length rest
few_of true rest = omega arith
few_of false rest = omega arith

pub section_few : (section : List ℕ) → length (section_triplet_bytes section) ≤ length section
section_few [] = omega arith
section_few (_ ∷ []) = omega arith
section_few (id ∷ second ∷ rest) = omega (arith, few_of (id == 0x72) rest)

-- what holds anyway holds where there is nothing
pub none_so : {A P : Type 0} (found : Option A) → P → IfNone found P
none_so None holds = holds
none_so (Some it) holds = tt
