-- The pairs of line 21 in frames from one on: what is received of them is what each frame has in the field, and as they are written with odd
-- parity (CTA-608-E), each stands for itself.
use Rattle.std.proofs.Common.{◌≡◌, ◌∙◌, ℕ, zero, suc, ◌+◌, List, [], ◌∷◌, ◌++◌, map, Option, Some, None, refl, ap, append-nil}
use Rattle.std.specs.Prelude.{option_map, option_to_list}
use Rattle.std.specs.Int.Count.{ones}
use Rattle.std.proofs.lemmas.Bool.{and_parts}
use Rattle.std.proofs.lemmas.Grind.{flat_map-append}
use Rattle.std.proofs.lemmas.List.{map-append}
use Rattle.cc_base.specs.declared.rate.Rate.{Rate}
use Rattle.line21_codes.specs.declared.channels.Chan.{Chan}
use Rattle.line21_codes.specs.declared.channels.Chan.TheVariants.{Cc1, Cc3}
use Rattle.line21_codes.specs.declared.channels.FieldNumber.{FieldNumber}
use Rattle.line21_codes.specs.declared.channels.FieldNumber.TheVariants.{One, Two}
use Rattle.line21_codes.specs.declared.codes.Code.{Code}
use Rattle.line21_codes.specs.declared.pairs.Pair.{Pair}
use Rattle.line21_codes.specs.NullPairs.{null_pair}
use Rattle.line21_codes.specs.Parity.{is_odd}
use Rattle.line21_codes.specs.Writable.{IsWritable}
use Rattle.line21_codes.specs.Writing.{pair_of_code}
use Rattle.line21_codes.proofs.CodeLemmas.{written-odd}
use Rattle.cue_lists.specs.Listing.{IsFormed, Listing}
use Rattle.cue_lists.specs.declared.lane.Lane.TheVariants.{Channel}
use Rattle.cue_lists.specs.Cadences.{cadence_of, slot_in}
use Rattle.cdp_packets.specs.Packets.{Frame}
use Rattle.cdp_packets.specs.PacketTriplets.{packet_triplets}
use Rattle.words_files.specs.Received.{field_pairs, received_pairs}
use Rattle.lanes.specs.ChannelLane.{channel_slot}
use Rattle.frame_carrier.specs.Columns.{Columns, pair_in}
use Rattle.frame_carrier.specs.Planned.{Placement, channel_pair, columns_of}
use Rattle.frame_carrier.specs.SlotLists.{slot_cues}
use Rattle.frame_carrier.proofs.SlotLemmas.{slot_cues_formed}
use Rattle.frame_carrier.specs.Carried.{AreCarried}
use Rattle.frame_carrier.specs.Carrying.{channel_packet_of, column_packets, frame_packet}
use Rattle.services_shown.proofs.ToldLemmas.{packets_more}
use Rattle.line21_shown.specs.Reading.{IsForFirst}
use Rattle.line21_shown.proofs.CaptionedLemmas.{slots_all}
use Rattle.lost.specs.ChannelLoss.{pairs_between}
use Rattle.cc_conceal.specs.Concealed.{concealed}

-- what is received of them
pub pairs_since : (rate : Rate) (columns : Columns) (n : ℕ) → AreCarried rate columns n → (in_field : FieldNumber) (since count : ℕ)
    → received_pairs in_field (column_packets rate columns since count) ≡ pairs_between in_field columns since count
pairs_since rate columns n carried in_field since zero = refl
pairs_since rate columns n carried in_field since (suc count) =
    let last : ℕ = since + count in
    let packet : Frame = frame_packet rate last (columns last) (channel_packet_of columns last) in
    ap (received_pairs in_field) (packets_more rate columns since count last refl)
    ∙ flat_map-append (λ (frame : Frame). field_pairs in_field (packet_triplets frame)) (column_packets rate columns since count) (packet ∷ [])
    ∙ ap (λ (pairs : List Pair). pairs ++ (field_pairs in_field (packet_triplets packet) ++ [])) (pairs_since rate columns n carried in_field since count)
    ∙ ap (λ (pairs : List Pair). pairs_between in_field columns since count ++ pairs)
    (append-nil (field_pairs in_field (packet_triplets packet)) ∙ (carried.room last).pairs in_field)

-- a pair of good parity stands for itself
abbrev IsPlain : Pair → Type 0
IsPlain pair = concealed pair ≡ pair

written_plain : (in_field : FieldNumber) (code : Code) → IsWritable code → IsForFirst code → IsPlain (pair_of_code in_field code)
written_plain in_field code writable first =
    let odd = and_parts (is_odd (pair_of_code in_field code).a) (is_odd (pair_of_code in_field code).b) (written-odd in_field code writable) in
    let a = odd.0 in
    let b = odd.1 in
    rw (a, b) refl

null_plain : IsPlain null_pair
unfolding ones
null_plain = refl

-- so do a placed list's pairs
module _ (list : Listing) (placed : Placement) (formed : IsFormed list) where
  pairs_plain : (channel : Chan) (slots : List ℕ) (frame : ℕ)
      → map concealed (option_to_list (channel_pair list channel slots frame)) ≡ option_to_list (channel_pair list channel slots frame)
  pairs_plain channel slots frame = at (slot_in (cadence_of list.rate channel) frame)
    where
      at : (o : Option ℕ) → map concealed (option_to_list (option_map (channel_slot channel (slot_cues list channel) slots) o))
          ≡ option_to_list (option_map (channel_slot channel (slot_cues list channel) slots) o)
      at None = refl
      at (Some k) =
          ap (λ (p : Pair). p ∷ [])
          (slots_all IsPlain written_plain (slot_cues list channel) channel slots (slot_cues_formed list formed channel) null_plain k)

  frame_plain : (in_field : FieldNumber) (frame : ℕ)
      → map concealed (option_to_list (pair_in in_field (columns_of list placed frame))) ≡ option_to_list (pair_in in_field (columns_of list placed frame))
  frame_plain One frame = pairs_plain Cc1 (placed (Channel Cc1)) frame
  frame_plain Two frame = pairs_plain Cc3 (placed (Channel Cc3)) frame

  pub between_plain : (in_field : FieldNumber) (since count : ℕ)
      → map concealed (pairs_between in_field (columns_of list placed) since count) ≡ pairs_between in_field (columns_of list placed) since count
  between_plain in_field since zero = refl
  between_plain in_field since (suc count) =
      let before : List Pair = pairs_between in_field (columns_of list placed) since count in
      let last : List Pair = option_to_list (pair_in in_field (columns_of list placed (since + count))) in
      map-append concealed before last
      ∙ ap (λ (pairs : List Pair). pairs ++ map concealed last) (between_plain in_field since count)
      ∙ ap (λ (pairs : List Pair). before ++ pairs) (frame_plain in_field (since + count))
