-- What is kept of the sections of a packet, and what is gathered of its parts.
use Rattle.std.proofs.Common.{arith, ◌≡◌, ◌≤◌, not, Bool, true, false, List, [], ◌∷◌, ◌++◌, length, take, drop, refl, ap, sym, subst, ◌∙◌}
use Rattle.std.proofs.Math.Seq.{drop-append_seam}
use Rattle.std.proofs.lemmas.Bool.{and_parts}
use Rattle.std.proofs.lemmas.List.{length-take, take-append-drop}
use Rattle.std.specs.List.{concat}
use Rattle.cc_data.specs.declared.triplet.Triplet.{Triplet}
use Rattle.cdp_packets.specs.PacketParts.{packet_parts}
use Rattle.cdp_packets.specs.PacketTriplets.{packet_triplets}
use Rattle.cdp_packets.specs.Packets.{Frame as FrameOf}
use Rattle.cdp_packets.specs.Sections.{AreSections}
use Rattle.cc_receiver.specs.Counting.{NoneCounts}
use Rattle.cc_receiver.specs.Gatherers.{HasGathered, Holds}
use Rattle.cc_receiver.specs.Says.{AreOf, none_counts}
use Rattle.cc_receiver.specs.TripletLists.{HasTriplets}
use Rattle.cc_receiver.specs.declared.frame.Frame.{Frame}
use Rattle.cc_receiver.specs.declared.triplets.Triplets.{Triplets}
use Rattle.cc_receiver.proofs.GatheredLemmas.{packet_gathered}

-- none counts, said both ways
pub not_is : (v : Bool) → not v ≡ true → v ≡ false
not_is true is = absurd cc
not_is false is = refl

none_is : (ts : List Triplet) → none_counts ts ≡ true → NoneCounts ts
none_is [] none = tt
none_is (t ∷ ts) none =
    let (first, others) = and_parts (not t.valid) (none_counts ts) none in
    (not_is t.valid first, none_is ts others)

is_none : (ts : List Triplet) → NoneCounts ts → none_counts ts ≡ true
is_none [] none = refl
is_none (t ∷ ts) (first, others) = rw (first, is_none ts others) refl

-- triplets that are kept down to the last one that counts
pub kept_of : (said : List Triplet) (kept : Triplets) → take kept.len kept.cells ≡ said → none_counts (drop kept.until said) ≡ true → kept.until ≤ kept.len
    → kept.len ≤ 81 → length kept.cells ≡ 81 → HasTriplets said kept
kept_of said kept items behind within few long =
    let sized = length-take kept.len kept.cells in
    let all = ap length items in
    let front = length-take kept.until said in
    record {
      items = items;
      front = take kept.until said;
      size = omega (arith, sized, all, front, within, few, long);
      has_front = record {
        others = drop kept.until said;
        joined = sym (take-append-drop kept.until said);
        none = none_is (drop kept.until said) behind;
      };
    }

pub behind_kept : (said : List Triplet) (kept : Triplets) → HasTriplets said kept → none_counts (drop kept.until said) ≡ true
behind_kept said kept has =
    let others = has.has_front.others in
    let behind : drop kept.until said ≡ others =
    ap (drop kept.until) has.has_front.joined ∙ ap (λ n. drop n (has.front ++ others)) (sym has.size) ∙ drop-append_seam has.front others in
    ap none_counts behind ∙ is_none others has.has_front.none

-- a frame that says what a packet says took its parts
pub frame_says : (said : FrameOf) (frame : Frame) → AreSections said.sections → length (concat said.sections) ≤ 244
    → (frame.rate ≡ said.rate) × (frame.flags ≡ said.flags) × (frame.counter ≡ said.counter) → frame.sections.items ≡ concat said.sections
    → AreOf (packet_triplets said) frame.triplets frame.pairs_one.items frame.pairs_two.items → length frame.triplets.cells ≡ 81
    → HasGathered (packet_parts said) frame
frame_says said frame are room (rate, flags, counter) sections kept long =
    let own = frame.triplets in
    subst (λ g. Holds g frame) (sym (packet_gathered said are room)) record {
      rate = rate;
      flags = flags;
      counter = counter;
      sections = sections;
      triplets = kept_of (packet_triplets said) own kept.items kept.behind own.within own.few long;
      pairs_one = kept.pairs_one_are;
      pairs_two = kept.pairs_two_are;
    }
