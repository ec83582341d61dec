-- Columns with the same service blocks and other pairs.
use Rattle.std.proofs.Common.{◌≡◌, ℕ, zero, suc, ◌+◌, ◌<◌, ◌≤◌, All, is_some, List, [], ◌∷◌, ◌++◌, Option, Some, None, length, length-append, refl, sym, ap, ◌∙◌, subst, arith, take, map}
use Rattle.cc_base.specs.Rate.{triplets_in_frame}
use Rattle.cdp_packets.specs.Packets.{Frame}
use Rattle.cc_data.specs.declared.triplet.Triplet.{Triplet}
use Rattle.line21_codes.specs.declared.pairs.Pair.{Pair}
use Rattle.frame_carrier.specs.Columns.{Columns}
use Rattle.frame_carrier.specs.Carrying.{channel_packet, channel_packet_of, column_packets, packet_count, packets_before}
use Rattle.cc_base.specs.declared.rate.Rate.{Rate}
use Rattle.line21_shown.specs.Shares.{share_room}
use Rattle.dtvcc_screen.specs.Meaning.{Byte, Event, Tick, served_after, start}
use Rattle.dtvcc_screen.specs.Shown.{grids}
use Rattle.windows_shown.specs.Filling.{AllFill}
use Rattle.cc_receiver.specs.Events.{service_events}
use Rattle.frame_carrier.specs.FrameTriplets.{field_triplets, front_triplets}
use Rattle.services_shown.specs.ServicesCarried.{HasBlocks}
use Rattle.services_shown.proofs.ToldLemmas.{columns_told}
use Rattle.services_shown.specs.OtherPairs.{HaveOtherPairs, OtherPairsAreFit}
use Rattle.services_shown.specs.Shares.{IsToldAtMost}

module _ (columns others : Columns) (are : HaveOtherPairs columns others) where
  same_items : (frame : ℕ) → (others frame).blocks.items ≡ (columns frame).blocks.items
  same_items frame = ap (λ b. b.items) (are.blocks frame)

  before_same : (n : ℕ) → packets_before others n ≡ packets_before columns n
  before_same zero = refl
  before_same (suc n) =
      ap (λ m. m + packet_count (others n).blocks.items) (before_same n) ∙ ap (λ b. packets_before columns n + packet_count b) (same_items n)

  packet_same : (frame : ℕ) → channel_packet_of others frame ≡ channel_packet_of columns frame
  packet_same frame =
      ap (λ m. channel_packet m (others frame).blocks.items) (before_same frame) ∙ ap (channel_packet (packets_before columns frame)) (same_items frame)

  count_same : (kind : ℕ) (o p : Option Pair) → is_some o ≡ is_some p → length (field_triplets kind o) ≡ length (field_triplets kind p)
  count_same kind None None is = refl
  count_same kind None (Some p) is = cc
  count_same kind (Some o) None is = cc
  count_same kind (Some o) (Some p) is = refl

  front_same : (frame : ℕ) → length (front_triplets (others frame) (channel_packet_of others frame)) ≡ length (front_triplets (columns frame) (channel_packet_of columns frame))
  front_same frame =
      length-append (field_triplets 0 (others frame).one) (field_triplets 1 (others frame).two ++ channel_packet_of others frame)
      ∙ ap (λ m. length (field_triplets 0 (others frame).one) + m) (length-append (field_triplets 1 (others frame).two) (channel_packet_of others frame))
      ∙ ap (λ m. m + (length (field_triplets 1 (others frame).two) + length (channel_packet_of others frame))) (count_same 0 (others frame).one (columns frame).one (are.one frame))
      ∙ ap (λ m. length (field_triplets 0 (columns frame).one) + (m + length (channel_packet_of others frame))) (count_same 1 (others frame).two (columns frame).two (are.two frame))
      ∙ ap (λ (p : List Triplet). length (field_triplets 0 (columns frame).one) + (length (field_triplets 1 (columns frame).two) + length p)) (packet_same frame)
      ∙ sym (length-append (field_triplets 0 (columns frame).one) (field_triplets 1 (columns frame).two ++ channel_packet_of columns frame)
      ∙ ap (λ m. length (field_triplets 0 (columns frame).one) + m) (length-append (field_triplets 1 (columns frame).two) (channel_packet_of columns frame)))

  has_same : ((frame : ℕ) → HasBlocks columns frame) → (frame : ℕ) → HasBlocks others frame
  has_same has frame = record {
    sent = (has frame).sent;
    are = (has frame).are;
    blocks = same_items frame ∙ (has frame).blocks;
    few = subst (λ (b : List ℕ). length b ≤ 35) (sym (same_items frame)) (has frame).few;
  }

  packets_many : (rate : Rate) (from n : ℕ) → length (column_packets rate columns from n) ≡ n
  packets_many rate from zero = refl
  packets_many rate from (suc n) = ap suc (packets_many rate (suc from) n)

-- all of a list are its first ones
take_all : {A : Type 0} (xs : List A) → take (length xs) xs ≡ xs
take_all [] = refl
take_all (x ∷ xs) = ap (λ l. x ∷ l) (take_all xs)

-- a service that gets the same gets as many bytes
shares_same : (rate : Rate) (most : ℕ) (packets others : List Frame) (service frame : ℕ) → service_events service (take frame others) ≡ service_events service (take frame packets)
    → service_events service (take (suc frame) others) ≡ service_events service (take (suc frame) packets)
    → IsToldAtMost rate most packets service frame → IsToldAtMost rate most others service frame
shares_same rate most packets others service frame before now kept = record {
  bytes = kept.bytes;
  events = now ∙ kept.events ∙ ap (λ (es : List Event). es ++ (Tick rate ∷ map Byte kept.bytes)) (sym before);
  within = kept.within;
}

pub other_pairs : OtherPairsAreFit
unfolding has_same
other_pairs rate n columns others are fit =
    let told : (service k : ℕ) → k ≤ n → service_events service (take k (column_packets rate others 0 n)) ≡ service_events service (take k (column_packets rate columns 0 n)) =
    λ service k low. columns_told rate others n (has_same columns others are fit.blocks) service k low ∙ sym (columns_told rate columns n fit.blocks service k low) in
    let whole : (some : Columns) → take n (column_packets rate some 0 n) ≡ column_packets rate some 0 n =
    λ some. ap (λ m. take m (column_packets rate some 0 n)) (sym (packets_many some some (are_itself some) rate 0 n)) ∙ take_all (column_packets rate some 0 n) in
    record {
      fit = record {
        bytes = λ frame. subst (λ (b : List ℕ). All (λ byte. byte < 256) b) (sym (same_items columns others are frame)) (fit.bytes frame);
        within = λ frame. subst (λ (b : List ℕ). length b ≤ share_room rate) (sym (same_items columns others are frame)) (fit.within frame);
        roomy = λ frame. subst (λ m. m ≤ triplets_in_frame rate) (sym (front_same columns others are frame)) (fit.roomy frame);
        blocks = has_same columns others are fit.blocks;
        fills = λ service numbered. subst (λ (events : List Event). AllFill 127 start events)
            (sym (ap (service_events service) (sym (whole others)) ∙ told service n (omega arith) ∙ ap (service_events service) (whole columns)))
            (fit.fills service numbered);
      };
      events = told;
      shares = λ share kept service frame below. shares_same rate (share service) (column_packets rate columns 0 n) (column_packets rate others 0 n) service frame
          (told service frame (omega (arith, below))) (told service (suc frame) (omega (arith, below))) (kept service frame below);
      windows = λ k low service id. ap (λ (events : List Event). grids (served_after start events).core.screen id) (told service k low);
    }
  where
    are_itself : (some : Columns) → HaveOtherPairs some some
    are_itself some = record { blocks = λ frame. refl; one = λ frame. refl; two = λ frame. refl }
