-- A byte stands at one place: no two reasons can be given for one.
use Rattle.std.proofs.Common.{◌≡◌, ℕ, ◌+◌, ◌<◌, ◌≤◌, ◌++◌, ◌⊎◌, inl, inr, List, [], ◌∷◌, drop, length, refl, ap, sym, ◌∙◌, arith, append_assoc, length-append}
use Rattle.std.specs.List.{concat}
use Rattle.cc_base.specs.declared.why.Why.{Why}
use Rattle.cc_base.specs.declared.why.Why.TheVariants as why
use Rattle.cdp_packets.specs.Reading.{IsPacketLength}
use Rattle.cdp_packets.specs.Refusals.{EndWithId, EndWithSections, StandsAt}
use Rattle.cdp_packets.specs.Sections.{AreSections, IsSection, IsSectionList}
use Rattle.cdp_packets.proofs.SectionLemmas.{length-section, split_same, two_bytes}

-- after the first section of bytes stands one list
section_behind : (section other rest more : List ℕ) → IsSection section → IsSection other → section ++ rest ≡ other ++ more → rest ≡ more
section_behind section other rest more is other_is same =
    let long = length-section (section ++ rest) section rest is refl in
    let other_long = length-section (section ++ rest) other more other_is same in
    (split_same section other rest more (sym long ∙ other_long) same).tails

-- sections and the id of one more are no sections
id_is_open : (cut others : List (List ℕ)) (id : ℕ) → AreSections cut → AreSections others → concat cut ++ id ∷ [] ≡ concat others → ⊥
id_is_open [] [] id are others_are same = absurd cc
id_is_open [] (other ∷ others) id are (is, others_are) same =
    let long = two_bytes other is in
    absurd (omega (arith, long, ap length same, length-append other (concat others)))
id_is_open (section ∷ cut) [] id (is, are) others_are same =
    let long = two_bytes section is in
    absurd (omega (arith, long, ap length same, length-append section (concat cut), length-append (section ++ concat cut) (id ∷ [])))
id_is_open (section ∷ cut) (other ∷ others) id (is, are) (other_is, others_are) same =
    id_is_open cut others id are others_are
    (section_behind section other (concat cut ++ id ∷ []) (concat others) is other_is (sym (append_assoc section (concat cut) (id ∷ [])) ∙ same))

-- bytes don't end with whole sections and with the id of one more
pub sections_or_id : (bytes : List ℕ) → IsSectionList (drop 7 bytes) → EndWithId bytes → ⊥
sections_or_id bytes list ends =
    id_is_open ends.are.cut list.cut ends.id ends.are.are list.are
    (ap (λ (bs : List ℕ). bs ++ ends.id ∷ []) ends.are.joined ∙ sym ends.spelled ∙ sym list.joined)

identifier_alone : (size : ℕ) (bytes : List ℕ) (other : Why) → IsPacketLength size → length bytes < 2 → StandsAt size bytes other → why.Identifier ≡ other
identifier_alone size bytes why.Identifier can was_few at = refl
identifier_alone size bytes why.Length can was_few here = absurd (omega (arith, can.0))
identifier_alone size bytes why.Rate can was_few here = absurd (omega (arith, can.0))
identifier_alone size bytes why.Section can was_few ((seven, list), room) = absurd (omega (arith, can.0))
identifier_alone size bytes why.Count can was_few (id, room) = absurd (omega (arith, can.0, id.seven))
identifier_alone size bytes why.Counter can was_few (inl at) = absurd (omega (arith, can.0))
identifier_alone size bytes why.Counter can was_few (inr at) = absurd (omega (arith, can.0))
identifier_alone size bytes why.Sum can was_few last = absurd (omega (arith, can.0))
identifier_alone size bytes _ can was at = absurd at

length_alone : (size : ℕ) (bytes : List ℕ) (other : Why) → IsPacketLength size → length bytes ≡ 2 → StandsAt size bytes other → why.Length ≡ other
length_alone size bytes why.Identifier can was_here few = absurd (omega (arith, can.0))
length_alone size bytes why.Length can was_here at = refl
length_alone size bytes why.Rate can was_here here = absurd (omega (arith, can.0))
length_alone size bytes why.Section can was_here ((seven, list), room) = absurd (omega (arith, can.0))
length_alone size bytes why.Count can was_here (id, room) = absurd (omega (arith, can.0, id.seven))
length_alone size bytes why.Counter can was_here (inl at) = absurd (omega (arith, can.0))
length_alone size bytes why.Counter can was_here (inr at) = absurd (omega (arith, can.0))
length_alone size bytes why.Sum can was_here last = absurd (omega (arith, can.0))
length_alone size bytes _ can was at = absurd at

rate_alone : (size : ℕ) (bytes : List ℕ) (other : Why) → IsPacketLength size → length bytes ≡ 3 → StandsAt size bytes other → why.Rate ≡ other
rate_alone size bytes why.Identifier can was_here few = absurd (omega (arith, can.0))
rate_alone size bytes why.Length can was_here here = absurd (omega (arith, can.0))
rate_alone size bytes why.Rate can was_here at = refl
rate_alone size bytes why.Section can was_here ((seven, list), room) = absurd (omega (arith, can.0))
rate_alone size bytes why.Count can was_here (id, room) = absurd (omega (arith, can.0, id.seven))
rate_alone size bytes why.Counter can was_here (inl at) = absurd (omega (arith, can.0))
rate_alone size bytes why.Counter can was_here (inr at) = absurd (omega (arith, can.0))
rate_alone size bytes why.Sum can was_here last = absurd (omega (arith, can.0))
rate_alone size bytes _ can was at = absurd at

section_alone : (size : ℕ) (bytes : List ℕ) (other : Why) → IsPacketLength size → EndWithSections bytes → length bytes + 4 ≤ size → StandsAt size bytes other → why.Section ≡ other
section_alone size bytes why.Identifier can (was_seven, was_list) was_room few = absurd (omega (arith, can.0))
section_alone size bytes why.Length can (was_seven, was_list) was_room here = absurd (omega (arith, can.0))
section_alone size bytes why.Rate can (was_seven, was_list) was_room here = absurd (omega (arith, can.0))
section_alone size bytes why.Section can (was_seven, was_list) was_room at = refl
section_alone size bytes why.Count can (was_seven, was_list) was_room (id, room) = absurd (sections_or_id bytes was_list id)
section_alone size bytes why.Counter can (was_seven, was_list) was_room (inl at) = absurd (omega (arith, can.0))
section_alone size bytes why.Counter can (was_seven, was_list) was_room (inr at) = absurd (omega (arith, can.0))
section_alone size bytes why.Sum can (was_seven, was_list) was_room last = absurd (omega (arith, can.0))
section_alone size bytes _ can ends room at = absurd at

count_alone : (size : ℕ) (bytes : List ℕ) (other : Why) → IsPacketLength size → EndWithId bytes → length bytes + 4 < size → StandsAt size bytes other → why.Count ≡ other
count_alone size bytes why.Identifier can was_id was_room few = absurd (omega (arith, can.0, was_id.seven))
count_alone size bytes why.Length can was_id was_room here = absurd (omega (arith, can.0, was_id.seven))
count_alone size bytes why.Rate can was_id was_room here = absurd (omega (arith, can.0, was_id.seven))
count_alone size bytes why.Section can was_id was_room ((seven, list), room) = absurd (sections_or_id bytes list was_id)
count_alone size bytes why.Count can was_id was_room at = refl
count_alone size bytes why.Counter can was_id was_room (inl at) = absurd (omega (arith, can.0, was_id.seven))
count_alone size bytes why.Counter can was_id was_room (inr at) = absurd (omega (arith, can.0, was_id.seven))
count_alone size bytes why.Sum can was_id was_room last = absurd (omega (arith, can.0, was_id.seven))
count_alone size bytes _ can ends room at = absurd at

counter_alone : (size : ℕ) (bytes : List ℕ) (other : Why) → IsPacketLength size → (length bytes + 3 ≡ size) ⊎ (length bytes + 2 ≡ size) → StandsAt size bytes other → why.Counter ≡ other
counter_alone size bytes why.Identifier can (inl was) few = absurd (omega (arith, can.0))
counter_alone size bytes why.Identifier can (inr was) few = absurd (omega (arith, can.0))
counter_alone size bytes why.Length can (inl was) here = absurd (omega (arith, can.0))
counter_alone size bytes why.Length can (inr was) here = absurd (omega (arith, can.0))
counter_alone size bytes why.Rate can (inl was) here = absurd (omega (arith, can.0))
counter_alone size bytes why.Rate can (inr was) here = absurd (omega (arith, can.0))
counter_alone size bytes why.Section can (inl was) ((seven, list), room) = absurd (omega (arith, can.0))
counter_alone size bytes why.Section can (inr was) ((seven, list), room) = absurd (omega (arith, can.0))
counter_alone size bytes why.Count can (inl was) (id, room) = absurd (omega (arith, can.0, id.seven))
counter_alone size bytes why.Count can (inr was) (id, room) = absurd (omega (arith, can.0, id.seven))
counter_alone size bytes why.Counter can was at = refl
counter_alone size bytes why.Sum can (inl was) last = absurd (omega (arith, can.0))
counter_alone size bytes why.Sum can (inr was) last = absurd (omega (arith, can.0))
counter_alone size bytes _ can was at = absurd at

sum_alone : (size : ℕ) (bytes : List ℕ) (other : Why) → IsPacketLength size → length bytes + 1 ≡ size → StandsAt size bytes other → why.Sum ≡ other
sum_alone size bytes why.Identifier can was_last few = absurd (omega (arith, can.0))
sum_alone size bytes why.Length can was_last here = absurd (omega (arith, can.0))
sum_alone size bytes why.Rate can was_last here = absurd (omega (arith, can.0))
sum_alone size bytes why.Section can was_last ((seven, list), room) = absurd (omega (arith, can.0))
sum_alone size bytes why.Count can was_last (id, room) = absurd (omega (arith, can.0, id.seven))
sum_alone size bytes why.Counter can was_last (inl at) = absurd (omega (arith, can.0))
sum_alone size bytes why.Counter can was_last (inr at) = absurd (omega (arith, can.0))
sum_alone size bytes why.Sum can was_last at = refl
sum_alone size bytes _ can was at = absurd at

-- what stands at a place is refused for one reason
pub StandsAt-one : (size : ℕ) (bytes : List ℕ) (reason other : Why) → IsPacketLength size → StandsAt size bytes reason → StandsAt size bytes other → reason ≡ other
StandsAt-one size bytes why.Identifier other can at also = identifier_alone size bytes other can at also
StandsAt-one size bytes why.Length other can at also = length_alone size bytes other can at also
StandsAt-one size bytes why.Rate other can at also = rate_alone size bytes other can at also
StandsAt-one size bytes why.Section other can (ends, room) also = section_alone size bytes other can ends room also
StandsAt-one size bytes why.Count other can (ends, room) also = count_alone size bytes other can ends room also
StandsAt-one size bytes why.Counter other can at also = counter_alone size bytes other can at also
StandsAt-one size bytes why.Sum other can at also = sum_alone size bytes other can at also
StandsAt-one size bytes _ other can at also = absurd at
