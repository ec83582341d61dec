-- A frame that a halver takes.
use Rattle.std.proofs.Common.{◌≡◌, ℕ, ◌+◌, ◌*◌, ◌≤◌, None, List, [], ◌∷◌, ◌++◌, All, length, length-append, refl, sym, ap, ◌∙◌, subst, arith}
use Rattle.std.proofs.lemmas.List.Elements.{All-append, All-cons, All-nil}
use Rattle.cc_receiver.specs.ReceivedServices.{received_windows}
use Rattle.cc_base.specs.declared.rate.Rate.TheVariants.{F5994}
use Rattle.cc_data.specs.declared.triplet.Triplet.{Triplet}
use Rattle.cdp_packets.specs.PacketTriplets.{packet_triplets}
use Rattle.cdp_packets.specs.Packets.{Frame}
use Rattle.dtvcc_services.specs.Objects.{all_ticks}
use Rattle.findings.specs.First.{IsFirstTried}
use Rattle.findings.specs.declared.finding.Which.TheVariants as which
use Rattle.findings.specs.declared.misfit.MisfitKind.TheVariants as misfit
use Rattle.rate_convert.specs.Conversion.{IsConvertible, conversion, first_half, first_half_of, second_half, second_half_of}
use Rattle.rate_convert.proofs.ConvertedFileLemmas.{carried_alike}
use Rattle.rate_convert.proofs.ConvertedLemmas.{converted_halves, first_triplets, second_triplets}
use Rattle.service_blocks.specs.Channels.{IsHeard}
use Rattle.service_blocks.proofs.ChannelLemmas.{channel_heard}
use Rattle.services_files.specs.CaptionChannel.{caption_channel}
use Rattle.services_files.specs.CarriedChannel.{CarryChannel, file_triplets}
use Rattle.words_files.specs.CarriedWords.{carried_words, triplets_packet}
use Rattle.words_files.specs.FramesOf.{AreFramesOf}
use Rattle.rate_convert.specs.Differing.{IsFirstDiffering, IsFirstService}
use Rattle.rate_convert.specs.Grids.{KeepsGrids}
use Rattle.rate_convert.specs.Halvers.{HasHalved, halves_words}
use Rattle.rate_convert.specs.Misfits.{AreFit, Holds, rank}
use Rattle.rate_convert.specs.ServedFrames.{AreNext, AreServed}
use Rattle.rate_convert.specs.declared.halver.Halver.{Halver}
use Rattle.rate_convert.proofs.ConversionLemmas.{conversion_more}
use Rattle.rate_convert.proofs.FitLemmas.{channels_kept, convertible_behind, first_service, fit_more}
use Rattle.rate_convert.proofs.ServedLemmas.{lasts_are}
use Rattle.rate_convert.proofs.SortedLemmas.{changed_misfit}

-- all frames can be converted, those before the last and the last
all_convertible : (earlier : List Frame) (last : Frame) → AreFit earlier → IsConvertible last → All IsConvertible (earlier ++ last ∷ [])
all_convertible earlier last fit is =
    All-append IsConvertible earlier (last ∷ []) (convertible_behind [] earlier fit) (All-cons IsConvertible last [] is (All-nil IsConvertible))

-- what they become is heard
output_heard : (bytes : List ℕ) (earlier : List Frame) (last : Frame) → AreFramesOf caption_channel (earlier ++ last ∷ []) bytes → All IsConvertible (earlier ++ last ∷ [])
    → IsHeard (file_triplets (conversion (earlier ++ last ∷ [])))
output_heard bytes earlier last are all =
    let frames = earlier ++ last ∷ [] in
    let carried : CarryChannel (conversion frames) = carried_alike frames (conversion frames) (converted_halves frames all) are.is_file.accepted in
    (channel_heard carried.packets carried.blocks (file_triplets (conversion frames)) carried.channel).is

-- the halves of the last come next
pub halves_next : (bytes : List ℕ) (earlier : List Frame) (last : Frame) (halver : Halver) (first second : List Triplet)
    → AreFramesOf caption_channel (earlier ++ last ∷ []) bytes → HasHalved earlier halver → IsConvertible last → length (earlier ++ last ∷ []) ≤ 2147483647
    → first ≡ first_half (packet_triplets last) → second ≡ second_half (packet_triplets last)
    → AreNext (conversion earlier) halver.served first second (first_half_of (length earlier) last) (second_half_of (length earlier) last)
halves_next bytes earlier last halver first second are had is few first_is second_is =
    let all = all_convertible earlier last had.fit is in
    let long = length-append earlier (last ∷ []) in
    let ticks = had.ticks in
    record {
      took = had.served;
      few = omega (arith, long, ticks, few);
      heard = subst (λ (fs : List Frame). IsHeard (file_triplets fs)) (conversion_more earlier last) (output_heard bytes earlier last are all);
      rate_one = refl;
      rate_two = refl;
      first_are = first_triplets (length earlier) last ∙ sym first_is;
      second_are = second_triplets (length earlier) last ∙ sym second_is;
    }

-- where no service shows something else, the frame is fit
last_keeps : (earlier : List Frame) (last : Frame) → AreFit earlier → IsConvertible last
    → IsFirstDiffering (received_windows (earlier ++ last ∷ [])) (received_windows (conversion (earlier ++ last ∷ []))) None → KeepsGrids (earlier ++ last ∷ [])
last_keeps earlier last fit is none = record {
  channels = channels_kept (earlier ++ last ∷ []) (all_convertible earlier last fit is);
  services = none;
}

-- and the halver took it
pub took_frame : (earlier : List Frame) (last : Frame) (old new : Halver) (first second : List Triplet) → HasHalved earlier old → IsConvertible last
    → first ≡ first_half (packet_triplets last) → second ≡ second_half (packet_triplets last)
    → new.words.items ≡ carried_words (triplets_packet F5994 (2 * length earlier) first) ++ carried_words (triplets_packet F5994 (2 * length earlier + 1) second)
    → AreServed ((conversion earlier ++ first_half_of (length earlier) last ∷ []) ++ second_half_of (length earlier) last ∷ []) new.served
    → all_ticks new.served.services ≡ all_ticks old.served.services + 2
    → IsFirstDiffering (received_windows (earlier ++ last ∷ [])) (received_windows (conversion (earlier ++ last ∷ []))) None
    → HasHalved (earlier ++ last ∷ []) (record new { misfit = None })
took_frame earlier last old new first second had is first_is second_is words served ticks none =
    let keeps = last_keeps earlier last had.fit is none in
    let long = length-append earlier (last ∷ []) in
    let was = had.ticks in
    record {
      fit = fit_more earlier last had.fit (record { convertible = is; keeps = keeps });
      keeps = keeps;
      served = subst (λ (fs : List Frame). AreServed fs new.served) (sym (conversion_more earlier last)) served;
      ticks = omega (arith, ticks, was, long);
      none = refl;
      words = λ others other split.
          let w = lasts_are earlier others last other split in
          words
          ∙ ap (λ (l : List Triplet). carried_words (triplets_packet F5994 (2 * length earlier) l) ++ carried_words (triplets_packet F5994 (2 * length earlier + 1) second)) first_is
          ∙ ap (λ (l : List Triplet). carried_words (first_half_of (length earlier) last) ++ carried_words (triplets_packet F5994 (2 * length earlier + 1) l)) second_is
          ∙ ap (λ (fs : List Frame). halves_words (length fs) last) w.0 ∙ ap (λ (f : Frame). halves_words (length others) f) w.1;
    }

-- where one shows something else, that is the misfit
pub service_misfit : (earlier : List Frame) (last : Frame) (service : ℕ) → AreFit earlier → IsConvertible last
    → IsFirstService (received_windows (earlier ++ last ∷ [])) (received_windows (conversion (earlier ++ last ∷ []))) service
    → IsFirstTried (Holds earlier last) rank (misfit.Changed (which.Service service))
service_misfit earlier last service fit is first =
    changed_misfit earlier last (misfit.Changed (which.Service service)) refl is
    (first_service (earlier ++ last ∷ []) service (all_convertible earlier last fit is) first)
