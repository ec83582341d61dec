-- The way through the sections of a packet, and the triplets in them.
use Rattle.std.proofs.Common.{◌≡◌, ℕ, ◌*◌, ◌≤◌, ◌==◌, List, [], ◌∷◌, ◌++◌, length, get_or, refl, sym, ap, subst, ◌∙◌, append_assoc, append-nil, length-append, arith}
use Rattle.std.specs.List.{concat, flat_map}
use Rattle.cc_data.specs.declared.triplet.Triplet.{Triplet}
use Rattle.cc_data.specs.Triplets.{triplet_of}
use Rattle.cdp_packets.specs.PacketTriplets.{section_triplets}
use Rattle.cdp_packets.specs.Sections.{AreSections, IsSection}
use Rattle.cdp_packets.proofs.SectionLemmas.{length-section, split_same}
use Rattle.cc_receiver.proofs.GatheredLemmas.{section_few}

-- the triplet that three bytes are read as
abbrev pub read_as : List ℕ → Triplet
read_as bytes = triplet_of (get_or bytes 0 0) (get_or bytes 1 0) (get_or bytes 2 0)

-- the triplets that were taken lead to a goal by the triplets of the sections that are left
pub record IsOnTheWay (goal : List Triplet) (rest : List ℕ) (Has : List Triplet → Type 0) : Type 0 where
  pub cut : List (List ℕ)
  pub are : AreSections cut
  pub joined : concat cut ≡ rest
  pub so_far : List Triplet
  pub has : Has so_far
  pub leads : so_far ++ flat_map section_triplets cut ≡ goal

pub way_begun : (cut : List (List ℕ)) (rest : List ℕ) (Has : List Triplet → Type 0) → AreSections cut → concat cut ≡ rest → Has []
    → IsOnTheWay (flat_map section_triplets cut) rest Has
way_begun cut rest Has are joined has = record { cut = cut; are = are; joined = joined; so_far = []; has = has; leads = refl }

-- a section has bytes
no_section : (bytes behind : List ℕ) → IsSection bytes → [] ≡ bytes ++ behind → ⊥
no_section [] behind is none = is
no_section (_ ∷ bytes) behind is none = cc

-- after one more section
pub way_next : (goal : List Triplet) (rest section behind : List ℕ) (Has Next : List Triplet → Type 0) → IsOnTheWay goal rest Has → IsSection section
    → rest ≡ section ++ behind → ((ts : List Triplet) → Has ts → Next (ts ++ section_triplets section)) → IsOnTheWay goal behind Next
way_next goal rest section behind Has Next way is spelled taken =
    next_of way.cut way.are (way.joined ∙ spelled) way.leads
  where
    next_of : (cut : List (List ℕ)) → AreSections cut → concat cut ≡ section ++ behind
        → way.so_far ++ flat_map section_triplets cut ≡ goal → IsOnTheWay goal behind Next
    next_of [] are joined leads = absurd (no_section section behind is joined)
    next_of (first ∷ cut) are joined leads =
        let long : length first ≡ length section =
        sym (length-section (first ++ concat cut) first (concat cut) are.0 refl) ∙ length-section (first ++ concat cut) section behind is joined in
        let split = split_same first section (concat cut) behind long joined in
        record {
          cut = cut;
          are = are.1;
          joined = split.tails;
          so_far = way.so_far ++ section_triplets section;
          has = taken way.so_far way.has;
          leads = ap (λ s. (way.so_far ++ section_triplets s) ++ flat_map section_triplets cut) (sym split.heads)
              ∙ append_assoc way.so_far (section_triplets first) (flat_map section_triplets cut) ∙ leads;
        }

-- where no section stands, the way is at its end
pub way_ended : (goal : List Triplet) (rest : List ℕ) (Has : List Triplet → Type 0) → IsOnTheWay goal rest Has
    → ((section behind : List ℕ) → IsSection section → rest ≡ section ++ behind → ⊥) → Has goal
way_ended goal rest Has way none = ended_of way.cut way.are way.joined way.leads
  where
    ended_of : (cut : List (List ℕ)) → AreSections cut → concat cut ≡ rest
        → way.so_far ++ flat_map section_triplets cut ≡ goal → Has goal
    ended_of [] are joined leads = subst Has (sym (append-nil way.so_far) ∙ leads) way.has
    ended_of (section ∷ cut) are joined leads = absurd (none section (concat cut) are.0 (sym joined))

-- sections have no more triplets than bytes for them
pub sections_few : (cut : List (List ℕ)) → AreSections cut → 3 * length (flat_map section_triplets cut) ≤ length (concat cut)
sections_few [] are = omega arith
sections_few ([] ∷ cut) are = absurd are.0
sections_few ((_ ∷ []) ∷ cut) are = absurd are.0
sections_few ((id ∷ second ∷ rest) ∷ cut) are =
    let own = section_triplets (id ∷ second ∷ rest) in
    let few = section_few (id == 0x72) rest in
    let others = sections_few cut are.1 in
    let long = length-append own (flat_map section_triplets cut) in
    let bytes = length-append (id ∷ second ∷ rest) (concat cut) in
    omega (arith, few, others, long, bytes)
