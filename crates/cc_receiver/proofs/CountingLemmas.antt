-- Triplets that are kept: as many as there is room for, and those down to the last one that counts.
use Rattle.std.proofs.Common.{add-one, arith, ◌≡◌, ℕ, zero, suc, ◌+◌, ◌<◌, ◌≤◌, ◌==◌, ◌&&◌, ◌||◌, nat_lt, if◌then◌else◌, Bool, true, false, List, [], ◌∷◌, ◌++◌, length, set, take, replicate, refl, ap, sym, subst, ◌∙◌, append_assoc, append-nil, length-append}
use Rattle.std.proofs.lemmas.List.{length-replicate, length-take, take-append-le, take-take}
use Rattle.std.proofs.lemmas.Bool.Decides.{nat_tests}
use Rattle.std.proofs.Math.Seq.{take-length, take-suc-set}
use Rattle.std.proofs.lemmas.List.Concat.{flat_map-append}
use Rattle.cc_base.proofs.StepLemmas.{front_from-append}
use Rattle.cc_data.specs.declared.triplet.Triplet.{Triplet}
use Rattle.channel_packets.specs.ChannelPackets.{channel_triplets, continues_packet, starts}
use Rattle.line21_codes.specs.declared.channels.FieldNumber.{FieldNumber}
use Rattle.line21_codes.specs.declared.pairs.Pair.{Pair}
use Rattle.services_files.specs.Received.{field_kind, field_pair, field_pairs}
use Rattle.cc_receiver.specs.declared.triplets.Triplets.{Triplets}
use Rattle.cc_receiver.specs.Counting.{HasFront, NoneCounts, with_more}
use Rattle.cc_data.specs.Triplets.{filler}
use Rattle.cc_receiver.specs.Gathering.{one_more}
use Rattle.cc_receiver.specs.TripletLists.{HasTriplets}
use Rattle.cc_receiver.proofs.GatheredLemmas.{more_fits}

-- more triplets after more
pub with_more-append : (triplets more others : List Triplet) → with_more triplets (more ++ others) ≡ with_more (with_more triplets more) others
with_more-append triplets more others = front_from-append (one_more 81) triplets more others

-- where there is room, all are kept
pub all_kept : (triplets more : List Triplet) → length triplets + length more ≤ 81 → with_more triplets more ≡ triplets ++ more
all_kept triplets [] room = sym (append-nil triplets)
all_kept triplets (t ∷ more) room =
    let long = length-append triplets (t ∷ []) in
    ap (λ ts. with_more ts more) (more_fits 81 triplets t (omega (arith, room)))
    ∙ all_kept (triplets ++ t ∷ []) more (omega (arith, room, long)) ∙ append_assoc triplets (t ∷ []) more

-- where none of some counts, and none of others
pub none_append : (triplets others : List Triplet) → NoneCounts triplets → NoneCounts others → NoneCounts (triplets ++ others)
none_append [] others none more = more
none_append (t ∷ triplets) others (not, none) more = (not, none_append triplets others none more)

pub none_fillers : (count : ℕ) → NoneCounts (replicate count filler)
none_fillers zero = tt
none_fillers (suc count) = (refl, none_fillers count)

-- triplets none of which counts are not of channel packets
pub none_channel : (triplets : List Triplet) → NoneCounts triplets → channel_triplets triplets ≡ []
none_channel [] none = refl
none_channel (t ∷ triplets) (not, none) =
    let own = channel_triplets triplets in
    let is : (starts t || continues_packet t) ≡ false = ap (λ (v : Bool). (v && (t.kind == 3)) || (v && (t.kind == 2))) not in
    ap (λ (b : Bool). if b then t ∷ own else own) is ∙ none_channel triplets none

-- and have no pairs
pub none_pairs : (in_field : FieldNumber) (triplets : List Triplet) → NoneCounts triplets → field_pairs in_field triplets ≡ []
none_pairs in_field [] none = refl
none_pairs in_field (t ∷ triplets) (not, none) =
    let pair : Pair = record { a = t.a; b = t.b } in
    ap (λ (v : Bool). (if v && (t.kind == field_kind in_field) then pair ∷ [] else []) ++ field_pairs in_field triplets) not
    ∙ none_pairs in_field triplets none

-- fillers after others
pub fillers_kept : (triplets : List Triplet) (count : ℕ) (old new : Triplets) → HasTriplets triplets old → length triplets + count ≤ 81
    → take new.len new.cells ≡ triplets ++ replicate count filler → new.until ≡ old.until → HasTriplets (with_more triplets (replicate count filler)) new
fillers_kept triplets count old new has room items until =
    let fillers = replicate count filler in
    let long = length-replicate count filler in
    subst (λ ts. HasTriplets ts new) (sym (all_kept triplets fillers (omega (arith, room, long)))) record {
      items = items;
      front = has.front;
      size = has.size ∙ sym until;
      has_front = record {
        others = has.has_front.others ++ fillers;
        joined = ap (λ ts. ts ++ fillers) has.has_front.joined ∙ append_assoc has.front has.has_front.others fillers;
        none = none_append has.has_front.others fillers has.has_front.none (none_fillers count);
      };
    }

-- a triplet is put where there is room
pub cell_put : (cells : List Triplet) (len : ℕ) (t : Triplet) → length cells ≡ 81 → len < 81 → take (len + 1) (set cells len t) ≡ one_more 81 (take len cells) t
cell_put cells len t long room =
    let below : len < length cells = omega (arith, long, room) in
    let sized = length-take len cells in
    ap (λ n. take n (set cells len t)) (add-one len) ∙ take-suc-set cells len t below ∙ sym (more_fits 81 (take len cells) t (omega (arith, sized, long, room)))

pub none_put : (cells : List Triplet) (len : ℕ) (t : Triplet) → length cells ≡ 81 → 81 ≤ len → take len cells ≡ one_more 81 (take len cells) t
none_put cells len t long full =
    let sized = length-take len cells in
    let most : 81 ≤ length (take len cells) = omega (arith, sized, long, full) in
    let test : nat_lt (length (take len cells)) 81 ≡ false = grind (arith, nat_tests) in
    ap (λ (b : Bool). if b then take len cells ++ t ∷ [] else take len cells) (sym test)

-- one more triplet: the front grows down to it if it counts
counted : (triplets : List Triplet) (new : Triplets) → take new.len new.cells ≡ triplets → new.until ≡ length (take new.len new.cells) → HasTriplets triplets new
counted triplets new items until = record {
  items = items;
  front = triplets;
  size = sym (until ∙ ap length items);
  has_front = record { others = []; joined = sym (append-nil triplets); none = tt };
}

not_counted : (room : Bool) (triplets : List Triplet) (t : Triplet) (front : List Triplet) → HasFront front triplets → t.valid ≡ false
    → HasFront front (if room then triplets ++ t ∷ [] else triplets)
not_counted true triplets t front has not = record {
  others = has.others ++ t ∷ [];
  joined = ap (λ ts. ts ++ t ∷ []) has.joined ∙ append_assoc front has.others (t ∷ []);
  none = none_append has.others (t ∷ []) has.none (not, tt);
}
not_counted false triplets t front has not = has

pub one_kept : (triplets : List Triplet) (t : Triplet) (old new : Triplets) → HasTriplets triplets old → take new.len new.cells ≡ one_more 81 (take old.len old.cells) t
    → (t.valid ≡ true → new.until ≡ length (take new.len new.cells)) → (t.valid ≡ false → new.until ≡ old.until) → HasTriplets (one_more 81 triplets t) new
one_kept triplets t old new has items counts stays =
    let now : take new.len new.cells ≡ one_more 81 triplets t = items ∙ ap (λ ts. one_more 81 ts t) has.items in
    let cases : (v : Bool) → t.valid ≡ v → HasTriplets (one_more 81 triplets t) new = elim [
      | true ↦ λ is. counted (one_more 81 triplets t) new now (counts is)
      | false ↦ λ is. record {
        items = now;
        front = has.front;
        size = has.size ∙ sym (stays is);
        has_front = not_counted (nat_lt (length triplets) 81) triplets t has.front has.has_front is;
      }
    ] in cases _ refl

-- the front is what stands before it
pub front_taken : (triplets : List Triplet) (kept : Triplets) → HasTriplets triplets kept → kept.until ≤ kept.len → HasFront (take kept.until kept.cells) triplets
front_taken triplets kept has within =
    let front = has.front in
    let others = has.has_front.others in
    let spelled : take kept.len kept.cells ≡ front ++ others = has.items ∙ has.has_front.joined in
    let shorter : take kept.until (take kept.len kept.cells) ≡ take kept.until kept.cells = take-take kept.until kept.len kept.cells within in
    let own : take kept.until kept.cells ≡ front =
    sym shorter ∙ ap (take kept.until) spelled ∙ ap (λ n. take n (front ++ others)) (sym has.size)
    ∙ take-append-le (length front) front others (omega arith) ∙ take-length front in
    subst (λ ts. HasFront ts triplets) (sym own) has.has_front

-- the pairs of a front are all pairs
pub front_pairs : (in_field : FieldNumber) (front triplets : List Triplet) → HasFront front triplets → length triplets ≤ 81
    → (length front ≤ 81) × (field_pairs in_field front ≡ field_pairs in_field triplets)
front_pairs in_field front triplets has few =
    let long = ap length has.joined ∙ length-append front has.others in (
      omega (arith, long, few),
      sym (ap (field_pairs in_field) has.joined ∙ flat_map-append (field_pair in_field) front has.others
          ∙ ap (λ ps. field_pairs in_field front ++ ps) (none_pairs in_field has.others has.none)
          ∙ append-nil (field_pairs in_field front)),
    )
