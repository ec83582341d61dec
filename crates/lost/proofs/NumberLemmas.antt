-- Counters tell how far a frame that came is after the one before it, as fewer than 65,536 are missing between them.
use Rattle.std.proofs.Common.{◌≡◌, ◌∙◌, ℕ, suc, ◌+◌, ◌-◌, ◌%◌, ◌<◌, ◌≤◌, ◌==◌, if◌then◌else◌, Bool, true, false, List, [], ◌∷◌, ◌++◌, map, refl, ap, arith}
use Rattle.std.proofs.lemmas.Bool.Decides.{nat_tests}
use Rattle.cdp_packets.specs.Packets.{Frame}
use Rattle.cue_lists.specs.Listing.{Listing}
use Rattle.frame_carrier.specs.Planned.{Placement, columns_of}
use Rattle.cc_conceal.specs.Concealed.{distance, frame_number_behind, missing_before}
use Rattle.lost.specs.Delivered.{AreDelivered, packet_of}
use Rattle.lost.specs.Numbers.{FramesAreNumbered, MissingAreCounted, last_of}

-- the difference of the counters, with 65,536 in place of 0
whole : (k l : ℕ) → l ≡ k + 65536 → (l % 65536 + 65536 - k % 65536) % 65536 ≡ 0
whole k l is = grind (arith, nat_tests)

part : (k l : ℕ) → k < l → l < k + 65536 → (l % 65536 + 65536 - k % 65536) % 65536 ≡ l - k
part k l low high = grind (arith, nat_tests)

distance_is : (k l : ℕ) → k < l → l ≤ k + 65536 → distance (k % 65536) (l % 65536) ≡ l - k
distance_is k l low high = at (l == k + 65536) refl
  where
    at : (b : Bool) → (l == k + 65536) ≡ b → distance (k % 65536) (l % 65536) ≡ l - k
    at true test =
        let is : l ≡ k + 65536 = grind (arith, nat_tests) in
        let far : 65536 ≡ l - k = omega arith in
        ap (λ (e : ℕ). if e == 0 then 65536 else e) (whole k l is) ∙ far
    at false test =
        let near : l < k + 65536 = grind (arith, nat_tests) in
        let some : (l - k == 0) ≡ false = grind (arith, nat_tests) in
        ap (λ (e : ℕ). if e == 0 then 65536 else e) (part k l low near) ∙ ap (λ (b : Bool). if b then 65536 else l - k) some

module _ (list : Listing) (placed : Placement) where
  abbrev packet : ℕ → Frame
  packet = packet_of list.rate (columns_of list placed)

  numbers : (k : ℕ) (ks : List ℕ) → AreDelivered (k ∷ ks) → frame_number_behind k (packet k) (map packet ks) ≡ last_of k ks
  numbers k [] delivered = refl
  numbers k (l ∷ ks) delivered =
      let low : k < l = delivered.0 in
      let next : k + distance (k % 65536) (l % 65536) ≡ l =
      ap (λ (d : ℕ). k + d) (distance_is k l low delivered.1) ∙ omega arith in
      ap (λ (n : ℕ). frame_number_behind n (packet l) (map packet ks)) next ∙ numbers l ks delivered.2

  missing : (earlier : List ℕ) (former frame : ℕ) → AreDelivered (earlier ++ former ∷ frame ∷ [])
      → suc former + missing_before (map packet (earlier ++ former ∷ frame ∷ [])) ≡ frame
  missing [] former frame delivered =
      let low : former < frame = delivered.0 in
      ap (λ (d : ℕ). suc former + (d - 1)) (distance_is former frame low delivered.1) ∙ omega arith
  missing (k ∷ []) former frame delivered = missing [] former frame delivered.2
  missing (k ∷ (l ∷ [])) former frame delivered = missing (l ∷ []) former frame delivered.2
  missing (k ∷ (l ∷ (m ∷ earlier))) former frame delivered = missing (l ∷ m ∷ earlier) former frame delivered.2

pub frames_numbered : FramesAreNumbered
frames_numbered list placed first others delivered low =
    let own : first % 65536 ≡ first = grind (arith, nat_tests) in
    ap (λ (n : ℕ). frame_number_behind n (packet_of list.rate (columns_of list placed) first) (map (packet_of list.rate (columns_of list placed)) others)) own
    ∙ numbers list placed first others delivered

pub missing_counted : MissingAreCounted
missing_counted list placed earlier former frame delivered = missing list placed earlier former frame delivered
