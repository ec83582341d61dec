-- Triplets that are sorted, one after another, and why their frame can't be converted.
use Rattle.std.proofs.Common.{◌≡◌, ℕ, zero, suc, take, ◌||◌, ◌<◌, ◌≤◌, Bool, true, false, List, [], ◌∷◌, ◌++◌, append-nil, length, refl, sym, ap, ◌∙◌, subst, arith}
use Rattle.std.specs.Prelude.{if◌then◌else◌, filter}
use Rattle.std.proofs.lemmas.List.Elements.{filter-append}
use Rattle.cc_base.specs.declared.rate.Rate.TheVariants.{F2997}
use Rattle.cc_data.specs.declared.triplet.Triplet.{Triplet}
use Rattle.cdp_packets.specs.PacketTriplets.{packet_triplets}
use Rattle.cdp_packets.specs.Packets.{Frame}
use Rattle.channel_packets.specs.ChannelPackets.{channel_triplets, continues_packet, starts}
use Rattle.findings.specs.First.{IsFirstTried}
use Rattle.findings.specs.declared.misfit.MisfitKind.{MisfitKind}
use Rattle.findings.specs.declared.misfit.MisfitKind.TheVariants as misfit
use Rattle.rate_convert.specs.Conversion.{IsConvertible, is_of, of_field}
use Rattle.line21_codes.specs.declared.channels.FieldNumber.{FieldNumber}
use Rattle.line21_codes.specs.declared.channels.FieldNumber.TheVariants.{One, Two}
use Rattle.rate_convert.specs.Misfits.{Holds, rank}
use Rattle.rate_convert.specs.SortedTriplets.{AreSorted, IsFull, IsSortedFrame}
use Rattle.rate_convert.specs.declared.sorted.Sorted.{Sorted}
use Rattle.rate_convert.proofs.FitLemmas.{at_least}

-- one more triplet
pub kept_more : (p : Triplet → Bool) (keep : Bool) (ts kept new : List Triplet) (t : Triplet) → keep ≡ p t → kept ≡ filter p ts
    → new ≡ (if keep then kept ++ t ∷ [] else kept) → new ≡ filter p (ts ++ t ∷ [])
kept_more p keep ts kept new t told was is =
    is ∙ ap (λ (b : Bool). if b then kept ++ t ∷ [] else kept) told ∙ ap (λ (l : List Triplet). if p t then l ++ t ∷ [] else l) was
    ∙ by_test (p t) ∙ sym (filter-append p ts (t ∷ []))
  where
    by_test : (b : Bool) → (if b then filter p ts ++ t ∷ [] else filter p ts) ≡ filter p ts ++ (if b then t ∷ [] else [])
    by_test true = refl
    by_test false = sym (append-nil (filter p ts))

-- no more are kept than there are
pub kept_few : (p : Triplet → Bool) (ts : List Triplet) → length (filter p ts) ≤ length ts
kept_few p [] = omega arith
kept_few p (t ∷ ts) = by_test (p t) (kept_few p ts)
  where
    by_test : (b : Bool) → length (filter p ts) ≤ length ts → length (if b then t ∷ filter p ts else filter p ts) ≤ length (t ∷ ts)
    by_test true few = omega arith
    by_test false few = omega arith

-- of the misfits up to one none holds of a frame of which so much is known
pub none_sooner : (earlier : List Frame) (frame : Frame) (other : MisfitKind) (bound : ℕ) → rank other < bound → bound ≤ 5
    → (0 < bound → frame.rate ≡ F2997) → (1 < bound → length (packet_triplets frame) ≡ 20)
    → (2 < bound → length (of_field One (packet_triplets frame)) ≤ 1) → (3 < bound → length (of_field Two (packet_triplets frame)) ≤ 1)
    → (4 < bound → length (channel_triplets (packet_triplets frame)) ≤ 18) → Holds earlier frame other → ⊥
none_sooner earlier frame (misfit.Rate code) bound lower upto rate count one two many holds = holds.0 (rate (omega arith))
none_sooner earlier frame (misfit.Count seen) bound lower upto rate count one two many holds = holds.0 (holds.1 ∙ count (omega arith))
none_sooner earlier frame (misfit.One seen) bound lower upto rate count one two many holds =
    let few = one (omega arith) in let more = holds.0 in let is = holds.1 in omega arith
none_sooner earlier frame (misfit.Two seen) bound lower upto rate count one two many holds =
    let few = two (omega arith) in let more = holds.0 in let is = holds.1 in omega arith
none_sooner earlier frame (misfit.Many seen) bound lower upto rate count one two many holds =
    let few = many (omega arith) in let more = holds.0 in let is = holds.1 in omega arith
none_sooner earlier frame (misfit.Changed first) bound lower upto rate count one two many holds = absurd (omega arith)

-- the misfits of a frame's triplets
pub one_misfit : (earlier : List Frame) (frame : Frame) (seen : ℕ) → IsFull frame → 1 < seen → seen ≡ length (of_field One (packet_triplets frame))
    → IsFirstTried (Holds earlier frame) rank (misfit.One seen)
one_misfit earlier frame seen full more is = record {
  holds = (more, is);
  first = λ other holds. at_least (rank other) 2 (λ lower.
      none_sooner earlier frame other 2 lower (omega arith) (λ b. full.rate) (λ b. full.count) (λ b. absurd (omega arith)) (λ b. absurd (omega arith)) (λ b. absurd (omega arith)) holds);
}

pub two_misfit : (earlier : List Frame) (frame : Frame) (seen : ℕ) → IsFull frame → length (of_field One (packet_triplets frame)) ≤ 1
    → 1 < seen → seen ≡ length (of_field Two (packet_triplets frame)) → IsFirstTried (Holds earlier frame) rank (misfit.Two seen)
two_misfit earlier frame seen full one more is = record {
  holds = (more, is);
  first = λ other holds. at_least (rank other) 3 (λ lower.
      none_sooner earlier frame other 3 lower (omega arith) (λ b. full.rate) (λ b. full.count) (λ b. one) (λ b. absurd (omega arith)) (λ b. absurd (omega arith)) holds);
}

pub many_misfit : (earlier : List Frame) (frame : Frame) (seen : ℕ) → IsFull frame → length (of_field One (packet_triplets frame)) ≤ 1
    → length (of_field Two (packet_triplets frame)) ≤ 1 → 18 < seen → seen ≡ length (channel_triplets (packet_triplets frame)) → IsFirstTried (Holds earlier frame) rank (misfit.Many seen)
many_misfit earlier frame seen full one two more is = record {
  holds = (more, is);
  first = λ other holds. at_least (rank other) 4 (λ lower.
      none_sooner earlier frame other 4 lower (omega arith) (λ b. full.rate) (λ b. full.count) (λ b. one) (λ b. two) (λ b. absurd (omega arith)) holds);
}

-- and of its head
pub rate_misfit : (earlier : List Frame) (frame : Frame) (code : ℕ) → Holds earlier frame (misfit.Rate code) → IsFirstTried (Holds earlier frame) rank (misfit.Rate code)
rate_misfit earlier frame code holds = record { holds = holds; first = λ other held. omega arith }

pub count_misfit : (earlier : List Frame) (frame : Frame) (seen : ℕ) → frame.rate ≡ F2997 → Holds earlier frame (misfit.Count seen) → IsFirstTried (Holds earlier frame) rank (misfit.Count seen)
count_misfit earlier frame seen rate holds = record {
  holds = holds;
  first = λ other held. at_least (rank other) 1 (λ lower.
      none_sooner earlier frame other 1 lower (omega arith) (λ b. rate) (λ b. absurd (omega arith)) (λ b. absurd (omega arith)) (λ b. absurd (omega arith)) (λ b. absurd (omega arith)) held);
}

-- a frame that can be converted has none but a grid that changes
pub changed_misfit : (earlier : List Frame) (frame : Frame) (kind : MisfitKind) → rank kind ≡ 5 → IsConvertible frame → Holds earlier frame kind → IsFirstTried (Holds earlier frame) rank kind
changed_misfit earlier frame kind last is holds = record {
  holds = holds;
  first = λ other held.
      let least : 5 ≤ rank other = at_least (rank other) 5 (λ lower. none_sooner earlier frame other 5 lower (omega arith) (λ b. is.rate) (λ b. is.count) (λ b. is.few One) (λ b. is.few Two) (λ b. is.most) held) in
      omega (arith, least, last);
}

-- the first of some are no more than they are counted
take_few : (n : ℕ) (ts : List Triplet) → length (take n ts) ≤ n
take_few zero ts = omega arith
take_few (suc n) [] = omega arith
take_few (suc n) (t ∷ ts) = let rest = take_few n ts in omega (arith, rest)

-- one more triplet of a field, or of channel packets
pub field_more : (in_field : FieldNumber) (keep : Bool) (ts kept new : List Triplet) (t : Triplet) → keep ≡ is_of in_field t → kept ≡ of_field in_field ts
    → new ≡ (if keep then kept ++ t ∷ [] else kept) → new ≡ of_field in_field (ts ++ t ∷ [])
field_more in_field keep ts kept new t told was is = kept_more (is_of in_field) keep ts kept new t told was is

pub channel_more : (begins goes : Bool) (ts kept new : List Triplet) (t : Triplet) → begins ≡ starts t → goes ≡ continues_packet t → kept ≡ channel_triplets ts
    → new ≡ (if begins || goes then kept ++ t ∷ [] else kept) → new ≡ channel_triplets (ts ++ t ∷ [])
channel_more begins goes ts kept new t first second was is =
    kept_more (λ triplet. starts triplet || continues_packet triplet) (begins || goes) ts kept new t
    (ap (λ (b : Bool). b || goes) first ∙ ap (λ (b : Bool). starts t || b) second) was is

-- no more are kept of the first triplets than these are
pub field_few : (in_field : FieldNumber) (n : ℕ) (ts kept : List Triplet) (bound : ℕ) → kept ≡ of_field in_field (take n ts) → n < bound → length kept < bound
field_few in_field n ts kept bound is below =
    let few = kept_few (is_of in_field) (take n ts) in
    let short = take_few n ts in
    let same = ap length is in
    omega (arith, below, few, short, same)

pub channel_few : (n : ℕ) (ts kept : List Triplet) (bound : ℕ) → kept ≡ channel_triplets (take n ts) → n < bound → length kept < bound
channel_few n ts kept bound is below =
    let few = kept_few (λ triplet. starts triplet || continues_packet triplet) (take n ts) in
    let short = take_few n ts in
    let same = ap length is in
    omega (arith, below, few, short, same)

-- a frame whose sorted triplets are few can be converted
pub sorted_frame : (frame : Frame) (sorted : Sorted) → IsFull frame → AreSorted (packet_triplets frame) sorted → length sorted.ones.items ≤ 1
    → length sorted.twos.items ≤ 1 → length sorted.channel.items ≤ 18 → IsSortedFrame frame sorted
sorted_frame frame sorted full are one two most = record {
  convertible = record {
    rate = full.rate;
    count = full.count;
    few = few;
    most = subst (λ (ts : List Triplet). length ts ≤ 18) are.channel most;
  };
  sorted_are = are;
}
  where
    few : (in_field : FieldNumber) → length (of_field in_field (packet_triplets frame)) ≤ 1
    few One = subst (λ (ts : List Triplet). length ts ≤ 1) are.ones one
    few Two = subst (λ (ts : List Triplet). length ts ≤ 1) are.twos two
