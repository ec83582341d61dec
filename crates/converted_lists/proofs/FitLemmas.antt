-- The frames of a placed list can be converted, and what is seen after them stays.
use Rattle.std.proofs.Common.{◌≡◌, ℕ, zero, suc, ◌+◌, ◌≤◌, Bool, true, false, Option, Some, None, List, [], ◌∷◌, ◌++◌, All, append_assoc, length, length-append, take, refl, sym, ap, ◌∙◌, subst, arith}
use Rattle.std.specs.Prelude.{if◌then◌else◌, option_to_list}
use Rattle.std.proofs.lemmas.List.{take-append-le, take_all}
use Rattle.std.proofs.lemmas.List.Elements.{All-cons, All-head, All-nil, All-tail}
use Rattle.cc_base.specs.Rate.{triplets_in_frame}
use Rattle.cc_base.specs.declared.rate.Rate.{Rate}
use Rattle.cc_base.specs.declared.rate.Rate.TheVariants.{F2997}
use Rattle.cc_data.specs.declared.triplet.Triplet.{Triplet}
use Rattle.rate_convert.specs.ReceivedServices.{received_windows}
use Rattle.cdp_packets.specs.PacketTriplets.{packet_triplets}
use Rattle.cdp_packets.specs.Packets.{Frame}
use Rattle.cue_lists.specs.Listing.{IsFormed, Listing}
use Rattle.cue_lists.specs.Rules.{IsRuled}
use Rattle.cue_lists.specs.Shares.{share_room}
use Rattle.services_shown.specs.Carried.{AreCarried}
use Rattle.services_shown.specs.Carrying.{channel_packet_of, column_packets, frame_packet, packets_before}
use Rattle.services_shown.proofs.CarryingLemmas.{packet_few}
use Rattle.frame_carrier.specs.Columns.{Columns, pair_in}
use Rattle.frame_carrier.specs.Planned.{Placement, columns_of}
use Rattle.rate_convert.specs.Conversion.{IsConvertible, conversion, is_of, of_field}
use Rattle.rate_convert.specs.HalvedFrames.{AllHalves}
use Rattle.rate_convert.proofs.ConvertedLemmas.{converted_halves}
use Rattle.line21_codes.specs.declared.channels.FieldNumber.{FieldNumber}
use Rattle.line21_codes.specs.declared.pairs.Pair.{Pair}
use Rattle.rate_convert.specs.Grids.{KeepsGrids}
use Rattle.rate_convert.specs.Misfits.{IsFit}
use Rattle.rate_convert.proofs.FitLemmas.{channels_kept}
use Rattle.services_shown.specs.PlacedServices.{AreServicesPlaced}
use Rattle.services_shown.specs.ServicesCarried.{AreWithin}
use Rattle.services_shown.proofs.ToldLemmas.{packets_count}
use Rattle.words_files.specs.Received.{field_pairs}
use Rattle.converted_lists.specs.ConvertedLists.{HasShortDelays, ListsAreFit}
use Rattle.converted_lists.proofs.DelayLemmas.{halves_same}

-- a field has as many triplets as pairs
pairs_length : (f : FieldNumber) (ts : List Triplet) → length (field_pairs f ts) ≡ length (of_field f ts)
pairs_length f [] = refl
pairs_length f (t ∷ ts) = by_test (is_of f t) (pairs_length f ts)
  where
    by_test : (b : Bool) → length (field_pairs f ts) ≡ length (of_field f ts)
        → length ((if b then record { a = t.a; b = t.b } ∷ [] else []) ++ field_pairs f ts) ≡ length (if b then t ∷ of_field f ts else of_field f ts)
    by_test true rest = ap suc rest
    by_test false rest = rest

one_pair : (pair : Option Pair) → length (option_to_list pair) ≤ 1
one_pair None = omega arith
one_pair (Some pair) = omega arith

-- each frame of columns that are carried at 29.97
module _ (rate : Rate) (columns : Columns) (n : ℕ) (is : rate ≡ F2997) (carried : AreCarried rate columns n) (within : AreWithin (share_room rate) columns) where
  frames_convertible : (frame k : ℕ) → All IsConvertible (column_packets rate columns frame k)
  frames_convertible frame zero = All-nil IsConvertible
  frames_convertible frame (suc k) =
      let room = carried.room frame in
      let many = packet_few (packets_before columns frame) (columns frame).blocks.items in
      let few = within frame in
      let most : share_room rate ≡ 35 = ap share_room is in
      All-cons IsConvertible (frame_packet rate frame (columns frame) (channel_packet_of columns frame)) (column_packets rate columns (suc frame) k)
      (record {
        rate = is;
        count = room.number ∙ ap triplets_in_frame is;
        few = λ f.
            let one = one_pair (pair_in f (columns frame)) in
            let pairs = ap length (room.pairs f) in
            let same = pairs_length f (packet_triplets (frame_packet rate frame (columns frame) (channel_packet_of columns frame))) in
            omega (arith, one, pairs, same);
        most = let own = ap length room.service in omega (arith, own, many, few, most);
      })
      (frames_convertible (suc frame) k)

-- of frames that can all be converted, those in front and the one after them
front_all : (frames more : List Frame) → All IsConvertible (frames ++ more) → All IsConvertible frames
front_all [] more all = All-nil IsConvertible
front_all (frame ∷ frames) more all =
    All-cons IsConvertible frame frames (All-head IsConvertible frame (frames ++ more) all) (front_all frames more (All-tail IsConvertible frame (frames ++ more) all))

one_of : (frames : List Frame) (frame : Frame) (more : List Frame) → All IsConvertible (frames ++ frame ∷ more) → IsConvertible frame
one_of [] frame more all = All-head IsConvertible frame more all
one_of (f ∷ frames) frame more all = one_of frames frame more (All-tail IsConvertible f (frames ++ frame ∷ more) all)

-- what is seen after some of them stays
kept_behind : (list : Listing) (placed : Placement) → IsFormed list → IsRuled list → AreServicesPlaced list placed → HasShortDelays list → (front more : List Frame)
    → column_packets list.rate (columns_of list placed) 0 list.frames ≡ front ++ more → All IsConvertible front → KeepsGrids front
kept_behind list placed formed ruled is short front more whole all =
    let packets = column_packets list.rate (columns_of list placed) 0 list.frames in
    let same : take (length front) packets ≡ front =
    ap (take (length front)) whole ∙ take-append-le (length front) front more (omega arith) ∙ take_all (length front) front (omega arith) in
    let count : length packets ≡ list.frames = packets_count list.rate (columns_of list placed) 0 list.frames in
    let size : length packets ≡ length front + length more = ap length whole ∙ length-append front more in
    let halves = subst (λ (fs : List Frame). AllHalves fs (conversion front)) (sym same) (converted_halves front all) in
    record {
      channels = channels_kept front all;
      services = λ service numbered id small.
          halves_same list placed formed ruled is short.rate short.delays (length front) (omega arith) (conversion front) halves service id
          ∙ ap (λ (fs : List Frame). received_windows fs service id) same;
    }

one_fit : (list : Listing) (placed : Placement) → IsFormed list → IsRuled list → AreServicesPlaced list placed → HasShortDelays list
    → (earlier : List Frame) (frame : Frame) (later : List Frame) → column_packets list.rate (columns_of list placed) 0 list.frames ≡ earlier ++ frame ∷ later
    → All IsConvertible (earlier ++ frame ∷ later) → IsFit earlier frame
one_fit list placed formed ruled is short earlier frame later split all =
    let front : List Frame = earlier ++ frame ∷ [] in
    let joined = append_assoc earlier (frame ∷ []) later in
    record {
      convertible = one_of earlier frame later all;
      keeps = kept_behind list placed formed ruled is short front later (split ∙ sym joined) (front_all front later (subst (All IsConvertible) (sym joined) all));
    }

pub lists_fit : ListsAreFit
lists_fit list placed formed ruled is short sound = λ earlier frame later split.
    one_fit list placed formed ruled is short earlier frame later split
    (subst (All IsConvertible) split (frames_convertible list.rate (columns_of list placed) list.frames short.rate sound.carried sound.within 0 list.frames))
