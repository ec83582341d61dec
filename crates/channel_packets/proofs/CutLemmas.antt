-- Triplets are split into stretches in one way: before each one that starts a packet.
use Rattle.std.proofs.Common.{◌≡◌, ℕ, ◌==◌, ◌&&◌, ◌||◌, Bool, true, false, List, [], ◌∷◌, ◌++◌, map, filter, refl, ap, sym, ◌∙◌, append-nil}
use Rattle.std.proofs.lemmas.Bool.Decides.{nat_tests}
use Rattle.std.proofs.Common.{arith}
use Rattle.std.specs.List.{flat_map, list_all}
use Rattle.cc_data.specs.declared.triplet.Triplet.{Triplet}
use Rattle.channel_packets.specs.ChannelPackets.{AreChannelPackets, ChannelPacket, TripletStretch, channel_triplets, continues_packet, is_stretch, starts, stretch_packet, stretch_triplets}

-- both are true
pub and_true : (one two : Bool) → one ≡ true → two ≡ true → (one && two) ≡ true
and_true one two first second = rw (first, second) refl

pub true_and : (one two : Bool) → (one && two) ≡ true → (one ≡ true) × (two ≡ true)
true_and true two both = (refl, both)
true_and false two both = absurd cc

-- the elements that pass a test pass it
filter-passes : {X : Type 0} (test : X → Bool) (xs : List X) → list_all test (filter test xs) ≡ true
filter-passes test [] = refl
filter-passes {X} test (x ∷ xs) =
    let cases : (b : Bool) → test x ≡ b → list_all test (filter test (x ∷ xs)) ≡ true = elim [
      | true ↦ λ is. rw is (and_true (test x) (list_all test (filter test xs)) is (filter-passes test xs))
      | false ↦ λ is. rw is (filter-passes test xs)
    ] in cases (test x) refl

-- a triplet that continues a packet starts none
kinds_differ : (valid : Bool) (kind : ℕ) → (valid && (kind == 2)) ≡ true → (valid && (kind == 3)) ≡ false
kinds_differ true kind is = grind (arith, nat_tests)
kinds_differ false kind is = refl

pub starts-continuing : (triplet : Triplet) → continues_packet triplet ≡ true → starts triplet ≡ false
starts-continuing triplet is = kinds_differ triplet.valid triplet.kind is

-- triplets after the last start, and the stretches
pub record Cut : Type 0 where
  pub strays : List Triplet
  pub stretches : List TripletStretch

-- a triplet, which starts a packet or doesn't, before others that are cut
abbrev pub cut_before : Bool → Triplet → Cut → Cut
cut_before true triplet cut = record { strays = []; stretches = record { first = triplet; more = cut.strays } ∷ cut.stretches }
cut_before false triplet cut = record { strays = triplet ∷ cut.strays; stretches = cut.stretches }

abbrev pub cut_of : List Triplet → Cut
cut_of [] = record { strays = []; stretches = [] }
cut_of (triplet ∷ triplets) = cut_before (starts triplet) triplet (cut_of triplets)

-- the cut is one
pub record IsCut (triplets : List Triplet) (cut : Cut) : Type 0 where
  pub spelled : triplets ≡ cut.strays ++ flat_map stretch_triplets cut.stretches
  pub strays_are : list_all continues_packet cut.strays ≡ true
  pub stretches_are : list_all is_stretch cut.stretches ≡ true

IsCut-before : (is : Bool) (triplet : Triplet) (triplets : List Triplet) (cut : Cut) → starts triplet ≡ is → (is || continues_packet triplet) ≡ true
    → IsCut triplets cut → IsCut (triplet ∷ triplets) (cut_before is triplet cut)
IsCut-before true triplet triplets cut starts_is either is = record {
  spelled = ap (λ ts. triplet ∷ ts) is.spelled;
  strays_are = refl;
  stretches_are = and_true (starts triplet && list_all continues_packet cut.strays) (list_all is_stretch cut.stretches)
      (and_true (starts triplet) (list_all continues_packet cut.strays) starts_is is.strays_are) is.stretches_are;
}
IsCut-before false triplet triplets cut starts_is either is = record {
  spelled = ap (λ ts. triplet ∷ ts) is.spelled;
  strays_are = and_true (continues_packet triplet) (list_all continues_packet cut.strays) either is.strays_are;
  stretches_are = is.stretches_are;
}

pub cut_is : (triplets : List Triplet) → list_all (λ triplet. starts triplet || continues_packet triplet) triplets ≡ true → IsCut triplets (cut_of triplets)
cut_is [] all = record { spelled = refl; strays_are = refl; stretches_are = refl }
cut_is (triplet ∷ triplets) all =
    let (one, others) = true_and (starts triplet || continues_packet triplet) (list_all (λ t. starts t || continues_packet t) triplets) all in
    IsCut-before (starts triplet) triplet triplets (cut_of triplets) refl one (cut_is triplets others)

-- triplets that start no packet, before others
cut_of-strays : (strays triplets : List Triplet) → list_all continues_packet strays ≡ true
    → cut_of (strays ++ triplets) ≡ record { strays = strays ++ (cut_of triplets).strays; stretches = (cut_of triplets).stretches }
cut_of-strays [] triplets all = refl
cut_of-strays (stray ∷ strays) triplets all =
    let (one, others) = true_and (continues_packet stray) (list_all continues_packet strays) all in
    ap (λ is. cut_before is stray (cut_of (strays ++ triplets))) (starts-continuing stray one)
    ∙ ap (λ (cut : Cut). let c : Cut = record { strays = stray ∷ cut.strays; stretches = cut.stretches } in c) (cut_of-strays strays triplets others)

-- stretches
cut_of-stretches : (stretches : List TripletStretch) → list_all is_stretch stretches ≡ true
    → cut_of (flat_map stretch_triplets stretches) ≡ record { strays = []; stretches = stretches }
cut_of-stretches [] all = refl
cut_of-stretches (stretch ∷ stretches) all =
    let (one, others) = true_and (is_stretch stretch) (list_all is_stretch stretches) all in
    let (is, more) = true_and (starts stretch.first) (list_all continues_packet stretch.more) one in
    let rest = flat_map stretch_triplets stretches in
    let behind : cut_of (stretch.more ++ rest) ≡ record { strays = stretch.more; stretches = stretches } =
    cut_of-strays stretch.more rest more
    ∙ ap (λ (cut : Cut). let c : Cut = record { strays = stretch.more ++ cut.strays; stretches = cut.stretches } in c) (cut_of-stretches stretches others)
    ∙ ap (λ strays. let c : Cut = record { strays = strays; stretches = stretches } in c) (append-nil stretch.more) in
    ap (λ b. cut_before b stretch.first (cut_of (stretch.more ++ rest))) is ∙ ap (λ cut. cut_before true stretch.first cut) behind

-- there is no other cut
pub cut_of-is : (triplets : List Triplet) (cut : Cut) → IsCut triplets cut → cut_of triplets ≡ cut
cut_of-is triplets cut is =
    ap cut_of is.spelled ∙ cut_of-strays cut.strays (flat_map stretch_triplets cut.stretches) is.strays_are
    ∙ ap (λ (behind : Cut). let c : Cut = record { strays = cut.strays ++ behind.strays; stretches = behind.stretches } in c) (cut_of-stretches cut.stretches is.stretches_are)
    ∙ ap (λ strays. let c : Cut = record { strays = strays; stretches = cut.stretches } in c) (append-nil cut.strays)

-- the cut of a file's triplets
pub cut_of_file : (triplets : List Triplet) → IsCut (channel_triplets triplets) (cut_of (channel_triplets triplets))
cut_of_file triplets = cut_is (channel_triplets triplets) (filter-passes (λ t. starts t || continues_packet t) triplets)

-- any triplets have packets
abbrev pub packets_of : List Triplet → List ChannelPacket
packets_of triplets = map stretch_packet (cut_of (channel_triplets triplets)).stretches

pub packets_of-are : (triplets : List Triplet) → AreChannelPackets (packets_of triplets) triplets
packets_of-are triplets =
    let is = cut_of_file triplets in
    let cut = cut_of (channel_triplets triplets) in
    record { strays = cut.strays; stretches = cut.stretches; spelled = is.spelled; strays_are = is.strays_are; stretches_are = is.stretches_are; packets_are = refl }

-- the cut by which triplets have packets
abbrev pub cut_by : {packets : List ChannelPacket} {triplets : List Triplet} → AreChannelPackets packets triplets → Cut
cut_by are = record { strays = are.strays; stretches = are.stretches }

pub IsCut-by : (packets : List ChannelPacket) (triplets : List Triplet) (are : AreChannelPackets packets triplets) → IsCut (channel_triplets triplets) (cut_by are)
IsCut-by packets triplets are = record { spelled = are.spelled; strays_are = are.strays_are; stretches_are = are.stretches_are }

-- and no others
pub packets-are_of : (packets : List ChannelPacket) (triplets : List Triplet) → AreChannelPackets packets triplets → packets ≡ packets_of triplets
packets-are_of packets triplets are =
    are.packets_are
    ∙ ap (λ (cut : Cut). map stretch_packet cut.stretches) (sym (cut_of-is (channel_triplets triplets) (cut_by are) (IsCut-by packets triplets are)))

pub packets-unique : (packets others : List ChannelPacket) (triplets : List Triplet) → AreChannelPackets packets triplets
    → AreChannelPackets others triplets → packets ≡ others
packets-unique packets others triplets are other = packets-are_of packets triplets are ∙ sym (packets-are_of others triplets other)
