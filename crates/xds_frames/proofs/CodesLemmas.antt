-- The codes of packets that stand in free slots are those that the writer gives, slot by slot.
use Rattle.std.proofs.Common.{◌≡◌, ◌≢◌, ◌∙◌, ◌+◌, ◌-◌, ◌<◌, ◌≤◌, ap, arith, inl, inr, refl, subst, suc, sym, true, false, zero, if◌then◌else◌, ℕ, Bool, List, [], Option, Some, None, option_map, find, ◌==◌}
use Rattle.std.specs.Option.{option_map_or}
use Rattle.std.proofs.Math.Path.{fun_ext}
use Rattle.std.proofs.lemmas.Bool.{cases_eq, cases_lt, eq-eqb, ne_eqb}
use Rattle.cue_lists.specs.Listing.{Listing}
use Rattle.cue_lists.specs.declared.lane.Lane.TheVariants.{Channel}
use Rattle.frame_carrier.specs.Planned.{Placement, columns_of}
use Rattle.frame_carrier.specs.SlotLists.{slot_cues}
use Rattle.lanes.specs.ChannelLane.{channel_slot}
use Rattle.line21_codes.specs.Writing.{pair_of_code}
use Rattle.line21_codes.specs.declared.channels.Chan.TheVariants.{Cc3}
use Rattle.line21_codes.specs.declared.channels.FieldNumber.TheVariants.{Two}
use Rattle.line21_codes.specs.declared.codes.Code.{Code}
use Rattle.line21_codes.specs.declared.pairs.Pair.{Pair}
use Rattle.cue_lists.specs.Cadences.{cadence_of, slot_in}
use Rattle.xds_frames.specs.FreeSlots.{frame_of_slot, free_in}
use Rattle.xds_frames.specs.PacketColumns.{packet_columns}
use Rattle.xds_frames.specs.XdsFrames.{HasXdsRoom, xds_columns}
use Rattle.xds_packets.proofs.PlacesLemmas.{standing_is_given}
use Rattle.xds_packets.specs.Places.{PlacedCode, StandFrom, given_at, given_from, placed_in}
use Rattle.xds_packets.specs.Sending.{Listed, Unsent, begun_at, given_in, sent_on, writing_at}

-- the code that stands in a slot, or none
abbrev code_in : List PlacedCode → ℕ → Option Code
code_in codes n = option_map (λ (p : PlacedCode). p.code) (find (λ (p : PlacedCode). p.slot == n) codes)

-- the code of the first, if it stands in the slot, or else of a later one
abbrev first_or : Bool → PlacedCode → List PlacedCode → ℕ → Option Code
first_or here p codes n = option_map (λ (p : PlacedCode). p.code) (if here then Some p else find (λ (p : PlacedCode). p.slot == n) codes)

-- a slot beside the one before others, and that one
code_beside : (o : Option Code) (m n : ℕ) (codes : List PlacedCode) → m ≢ n → code_in (placed_in m o codes) n ≡ code_in codes n
code_beside None m n codes other = refl
code_beside (Some code) m n codes other = ap (λ (b : Bool). first_or b (record { slot = m; code = code }) codes n) (ne_eqb m n other)

code_here : (o : Option Code) (n : ℕ) (codes : List PlacedCode) → code_in codes n ≡ None → code_in (placed_in n o codes) n ≡ o
code_here None n codes none = none
code_here (Some code) n codes none = ap (λ (b : Bool). first_or b (record { slot = n; code = code }) codes n) (eq-eqb n n refl)

module _ (t : ℕ → Option Code) where
  -- none stands before the first slot, or after the last
  none_before : (from k n : ℕ) → n < from → code_in (given_from t from k) n ≡ None
  none_before from zero n less = refl
  none_before from (suc k) n less =
      code_beside (t from) from n (given_from t (suc from) k) (λ same. omega (arith, less, same)) ∙ none_before (suc from) k n (omega (arith, less))

  none_after : (from k n : ℕ) → from + k ≤ n → code_in (given_from t from k) n ≡ None
  none_after from zero n most = refl
  none_after from (suc k) n most =
      code_beside (t from) from n (given_from t (suc from) k) (λ same. omega (arith, most, same)) ∙ none_after (suc from) k n (omega (arith, most))

  -- and between them what is given there
  given_there : (from k n : ℕ) → from ≤ n → n < from + k → code_in (given_from t from k) n ≡ t n
  given_there from zero n least below = absurd (omega (arith, least, below))
  given_there from (suc k) n least below = elim (cases_eq from n) [
    | inl same ↦
        subst (λ (m : ℕ). code_in (given_from t m (suc k)) n ≡ t n) (sym same) (code_here (t n) n (given_from t (suc n) k) (none_before (suc n) k n (omega arith)))
    | inr other ↦
        code_beside (t from) from n (given_from t (suc from) k) other ∙ given_there (suc from) k n (omega (arith, least, other)) (omega (arith, below))
  ]

-- where nothing is left to be sent, nothing is sent, and nothing is left
record IsOver (s : Unsent) : Type 0 where
  left : s.left ≡ []
  codes : s.codes ≡ []

sends_none : (free : Bool) (frame : ℕ) (s : Unsent) → IsOver s → IsOver (given_in free frame s).next × ((given_in free frame s).code ≡ None)
sends_none false frame s is = (record { left = is.left; codes = is.codes }, refl)
sends_none true frame s is =
    subst (λ codes. IsOver (sent_on s.broken frame s codes).next × ((sent_on s.broken frame s codes).code ≡ None)) (sym is.codes)
    (subst (λ left. IsOver (begun_at frame s left).next × ((begun_at frame s left).code ≡ None)) (sym is.left) (is, refl))

module _ (free : ℕ → Bool) (frame_of : ℕ → ℕ) (listed : List Listed) where
  over_from : (end : ℕ) → IsOver (writing_at free frame_of listed end) → (d n : ℕ) → end + d ≡ n → IsOver (writing_at free frame_of listed n)
  over_from end over zero n is = subst (λ (m : ℕ). IsOver (writing_at free frame_of listed m)) (omega (arith, is)) over
  over_from end over (suc d) zero is = absurd (omega (arith, is))
  over_from end over (suc d) (suc n) is = (sends_none (free n) (frame_of n) (writing_at free frame_of listed n) (over_from end over d n (omega (arith, is)))).0

  none_given : (end n : ℕ) → IsOver (writing_at free frame_of listed end) → end ≤ n → given_at free frame_of listed n ≡ None
  none_given end n over most =
      (sends_none (free n) (frame_of n) (writing_at free frame_of listed n) (over_from end over (n - end) n (omega (arith, most)))).1

  codes_given : (codes : List PlacedCode) (end : ℕ) → StandFrom free frame_of 0 listed codes end → (n : ℕ) → code_in codes n ≡ given_at free frame_of listed n
  codes_given codes end stand n =
      let gives = standing_is_given free frame_of listed codes end stand in
      let same : code_in codes n ≡ code_in (given_from (given_at free frame_of listed) 0 end) n = ap (λ (l : List PlacedCode). code_in l n) (sym gives.given_are) in
      elim (cases_lt n end) [
        | inl below ↦ same ∙ given_there (given_at free frame_of listed) 0 end n (omega arith) (omega (arith, below))
        | inr most ↦
            same ∙ none_after (given_at free frame_of listed) 0 end n (omega (arith, most))
            ∙ sym (none_given end n (record { left = gives.none_left; codes = gives.none_under }) most)
      ]

-- so the frames are those with the packets that the writer gives
pub columns_given : (list : Listing) (placed : Placement) (listed : List Listed) (room : HasXdsRoom list placed listed)
    → packet_columns list placed room.placed ≡ xds_columns list placed listed
columns_given list placed listed room = fun_ext (λ frame. ap
    (λ (pair : ℕ → Pair). record {
      one = (columns_of list placed frame).one;
      two = option_map pair (slot_in (cadence_of list.rate Cc3) frame);
      blocks = (columns_of list placed frame).blocks;
    })
    (fun_ext (λ n. ap
    (λ (given : Option Code). option_map_or (pair_of_code Two) given (channel_slot Cc3 (slot_cues list Cc3) (placed (Channel Cc3)) n))
    (codes_given (free_in list (placed (Channel Cc3))) (frame_of_slot list) listed room.placed room.end room.stand n))))
