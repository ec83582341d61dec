-- Of the frames that came a concealing receiver hears just those after the last one that is lost: their counters go on, and the counter of
-- the first of them doesn't (SMPTE ST 334-2, cdp_hdr_sequence_cntr).
use Rattle.std.proofs.Common.{◌≡◌, ◌∙◌, ℕ, zero, suc, ◌+◌, ◌%◌, ◌<◌, ◌≤◌, ◌==◌, if◌then◌else◌, Bool, true, false, List, [], ◌∷◌, ◌++◌, map, reverse, refl, sym, ap, subst, arith, append-nil, append_assoc}
use Rattle.std.specs.List.{AllByRecursion, range_with_len}
use Rattle.std.proofs.lemmas.Bool.Decides.{nat_tests}
use Rattle.std.proofs.lemmas.List.{map-append, reverse-append, reverse-reverse}
use Rattle.cc_base.specs.declared.rate.Rate.{Rate}
use Rattle.cdp_packets.specs.Packets.{Frame}
use Rattle.frame_carrier.specs.Columns.{Columns}
use Rattle.frame_carrier.specs.Carrying.{column_packets}
use Rattle.services_shown.proofs.ToldLemmas.{packets_more}
use Rattle.cc_conceal.specs.Concealed.{heard_back, heard_of}
use Rattle.lost.specs.Delivered.{AreDelivered, IsLastLost, packet_of}

-- the packets of this many frames from one on, one by one
packets_are : (rate : Rate) (columns : Columns) (since count : ℕ)
    → map (packet_of rate columns) (range_with_len since count) ≡ column_packets rate columns since count
packets_are rate columns since zero = refl
packets_are rate columns since (suc count) =
    let next : since + 1 ≡ suc since = omega arith in
    ap (λ (l : List Frame). packet_of rate columns since ∷ l)
    (ap (λ (n : ℕ). map (packet_of rate columns) (range_with_len n count)) next ∙ packets_are rate columns (suc since) count)

-- the counter of the next frame goes on, and a later frame's doesn't
counter_next : (k n : ℕ) → n ≡ k + 1 → (n % 65536 == (k % 65536 + 1) % 65536) ≡ true
counter_next k n is = grind (arith, nat_tests)

counter_jumps : (k n : ℕ) → k + 1 < n → n ≤ k + 65536 → (n % 65536 == (k % 65536 + 1) % 65536) ≡ false
counter_jumps k n low high = grind (arith, nat_tests)

module _ (rate : Rate) (columns : Columns) where
  abbrev packet : ℕ → Frame
  packet = packet_of rate columns

  -- the packets of this many frames from one on, newest first
  abbrev back : ℕ → ℕ → List Frame
  back since zero = []
  back since (suc n) = packet (since + n) ∷ back since n

  turned : (since n : ℕ) → reverse (column_packets rate columns since n) ≡ back since n
  turned since zero = refl
  turned since (suc n) =
      ap reverse (packets_more rate columns since n (since + n) refl)
      ∙ reverse-append (column_packets rate columns since n) (packet (since + n) ∷ [])
      ∙ ap (λ (l : List Frame). packet (since + n) ∷ l) (turned since n)

  -- where the first of them doesn't go on from what is after it, all are heard, and no more
  heard_on : (since n : ℕ) (behind : List Frame) → heard_back (packet since ∷ behind) ≡ packet since ∷ []
      → heard_back (back since (suc n) ++ behind) ≡ back since (suc n)
  heard_on since zero behind anew =
      let same : since ≡ since + 0 = omega arith in
      subst (λ k. heard_back (packet k ∷ behind) ≡ packet k ∷ []) same anew
  heard_on since (suc n) behind anew =
      ap (λ (b : Bool). packet (since + suc n) ∷ (if b then heard_back (back since (suc n) ++ behind) else []))
      (counter_next (since + n) (since + suc n) (omega arith))
      ∙ ap (λ (l : List Frame). packet (since + suc n) ∷ l) (heard_on since n behind anew)

  -- a frame doesn't go on from an earlier one, where some between them are missing
  jumps : (k n : ℕ) (behind : List Frame) → k + 1 < n → n ≤ k + 65536 → heard_back (packet n ∷ packet k ∷ behind) ≡ packet n ∷ []
  jumps k n behind low high =
      ap (λ (b : Bool). packet n ∷ (if b then heard_back (packet k ∷ behind) else [])) (counter_jumps k n low high)

  anew_behind : (ks : List ℕ) (k lost count : ℕ) (behind : List Frame) → AllByRecursion (λ (n : ℕ). n < lost) (k ∷ ks)
      → AreDelivered ((k ∷ ks) ++ range_with_len (suc lost) (suc count))
      → heard_back (packet (suc lost) ∷ (reverse (map packet (k ∷ ks)) ++ behind)) ≡ packet (suc lost) ∷ []
  anew_behind [] k lost count behind earlier delivered =
      let below : k < lost = earlier.0 in
      jumps k (suc lost) behind (omega arith) delivered.1
  anew_behind (l ∷ ks) k lost count behind earlier delivered =
      ap (λ (r : List Frame). heard_back (packet (suc lost) ∷ r))
      (ap (λ (r : List Frame). r ++ behind) (reverse-append (packet k ∷ []) (map packet (l ∷ ks)))
      ∙ append_assoc (reverse (map packet (l ∷ ks))) (packet k ∷ []) behind)
      ∙ anew_behind ks l lost count (packet k ∷ behind) earlier.1 delivered.2

  first_anew : (before : List ℕ) (lost count : ℕ) → AllByRecursion (λ (n : ℕ). n < lost) before
      → AreDelivered (before ++ range_with_len (suc lost) (suc count))
      → heard_back (packet (suc lost) ∷ reverse (map packet before)) ≡ packet (suc lost) ∷ []
  first_anew [] lost count earlier delivered = refl
  first_anew (k ∷ ks) lost count earlier delivered =
      ap (λ (r : List Frame). heard_back (packet (suc lost) ∷ r)) (sym (append-nil (reverse (map packet (k ∷ ks)))))
      ∙ anew_behind ks k lost count [] earlier delivered

  -- so just the frames after the lost one are heard
  pub hears_behind : (came : List ℕ) (lost frame : ℕ) → AreDelivered came → (last : IsLastLost came lost frame)
      → heard_of (map packet came) ≡ column_packets rate columns (suc lost) (suc last.count)
  hears_behind came lost frame delivered last =
      let behind : List Frame = reverse (map packet last.before) in
      let heard : List Frame = column_packets rate columns (suc lost) (suc last.count) in
      let all : AreDelivered (last.before ++ range_with_len (suc lost) (suc last.count)) = subst AreDelivered last.since delivered in
      ap heard_of
      (ap (map packet) last.since ∙ map-append packet last.before (range_with_len (suc lost) (suc last.count))
      ∙ ap (λ (l : List Frame). map packet last.before ++ l) (packets_are rate columns (suc lost) (suc last.count)))
      ∙ ap reverse
      (ap heard_back (reverse-append (map packet last.before) heard ∙ ap (λ (l : List Frame). l ++ behind) (turned (suc lost) (suc last.count)))
      ∙ heard_on (suc lost) last.count behind (first_anew last.before lost last.count last.earlier all)
      ∙ sym (turned (suc lost) (suc last.count)))
      ∙ reverse-reverse heard

  -- where none is lost all are heard
  pub hears_all : (frame : ℕ) → heard_of (map packet (range_with_len 0 (suc frame))) ≡ column_packets rate columns 0 (suc frame)
  hears_all frame =
      ap heard_of (packets_are rate columns 0 (suc frame))
      ∙ ap reverse
      (ap heard_back (turned 0 (suc frame) ∙ sym (append-nil (back 0 (suc frame)))) ∙ heard_on 0 frame [] refl ∙ sym (turned 0 (suc frame)))
      ∙ reverse-reverse (column_packets rate columns 0 (suc frame))

-- the first of frames that came in order did
pub front_delivered : (first later : List ℕ) → AreDelivered (first ++ later) → AreDelivered first
front_delivered [] later are = tt
front_delivered (k ∷ []) later are = tt
front_delivered (k ∷ (l ∷ first)) later are = (are.0, are.1, front_delivered (l ∷ first) later are.2)
