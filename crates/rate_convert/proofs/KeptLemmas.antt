-- What a receiver shows after frames that are cut in halves.
use Rattle.std.proofs.Common.{◌≡◌, ℕ, ◌==◌, Bool, true, false, List, [], ◌∷◌, ◌++◌, refl, sym, ap, ◌∙◌, subst}
use Rattle.std.specs.Prelude.{if◌then◌else◌, reverse}
use Rattle.cc_base.specs.declared.rate.Rate.TheVariants.{F2997, F5994}
use Rattle.cc_data.specs.declared.triplet.Triplet.{Triplet}
use Rattle.cdp_packets.specs.Packets.{Frame}
use Rattle.cdp_packets.specs.PacketTriplets.{packet_triplets}
use Rattle.dtvcc_screen.specs.Cores.{CoreState}
use Rattle.dtvcc_screen.specs.Meaning.{Byte, Event, Reset, Tick, served_after, start}
use Rattle.dtvcc_screen.specs.Shown.{grids}
use Rattle.line21_codes.specs.declared.pairs.Pair.{Pair}
use Rattle.line21_codes.specs.Channels.{data_channel_of, field_of_channel}
use Rattle.line21_screen.specs.Fields.{channel}
use Rattle.line21_screen.specs.Meaning.{after as field_after}
use Rattle.service_blocks.specs.declared.parts.BlockPart.{BlockPart}
use Rattle.service_blocks.specs.declared.parts.BlockPart.TheVariants as part
use Rattle.services_files.specs.Events.{event_of, events_of, service_events}
use Rattle.services_files.specs.Said.{said_behind}
use Rattle.rate_convert.specs.UndelayedServices.{AreParts, AreUndelayed, AreUntimed, Parted, half_frames, whole_frames}
use Rattle.rate_convert.proofs.UndelayedServiceLemmas.{halves_one}
use Rattle.rate_convert.specs.HalvedFrames.{AllHalves, Told, in_halves, in_wholes, told_halves}
use Rattle.rate_convert.specs.ShownAlike.{HalvesShowTheSame}
use Rattle.rate_convert.proofs.HalvedFrameLemmas.{halved_frames}

-- what blocks say begins no frame
untimed_append : (xs ys : List Event) → AreUntimed xs → AreUntimed ys → AreUntimed (xs ++ ys)
untimed_append [] ys a b = b
untimed_append (Tick rate ∷ xs) ys a b = absurd a
untimed_append (Byte byte ∷ xs) ys a b = untimed_append xs ys a b
untimed_append (Reset ∷ xs) ys a b = untimed_append xs ys a b

untimed_part : (service : ℕ) (p : BlockPart) → AreUntimed (event_of service p)
untimed_part service part.Reset = tt
untimed_part service (part.Byte other value) = by_test (other == service)
  where
    by_test : (b : Bool) → AreUntimed (if b then Byte value ∷ [] else [])
    by_test true = tt
    by_test false = tt

pub untimed_parts : (service : ℕ) (parts : List BlockPart) → AreUntimed (events_of service parts)
untimed_parts service [] = tt
untimed_parts service (p ∷ parts) = untimed_append (event_of service p) (events_of service parts) (untimed_part service p) (untimed_parts service parts)

-- the same in the words of halves
parted : List Told → List Parted
parted [] = []
parted (told ∷ more) = record { one = told.one; two = told.two } ∷ parted more

wholes_parted : (all : List Told) → in_wholes all ≡ whole_frames F2997 (parted all)
unfolding parted
wholes_parted [] = refl
wholes_parted (told ∷ more) = ap (λ (l : List Event). Tick F2997 ∷ (told.one ++ told.two) ++ l) (wholes_parted more)

halves_parted : (all : List Told) → in_halves all ≡ half_frames F5994 (parted all)
unfolding parted
halves_parted [] = refl
halves_parted (told ∷ more) = ap (λ (l : List Event). Tick F5994 ∷ told.one ++ (Tick F5994 ∷ told.two ++ l)) (halves_parted more)

are_parts : (service : ℕ) (before : List Triplet) (frames others : List Frame) → AllHalves frames others → AreParts (parted (told_halves service before others))
unfolding parted
are_parts service before [] [] all = tt
are_parts service before [] (one ∷ others) all = absurd all
are_parts service before (frame ∷ frames) [] all = absurd all
are_parts service before (frame ∷ frames) (one ∷ []) all = absurd all
are_parts service before (frame ∷ frames) (one ∷ (two ∷ others)) all = (
  untimed_parts service (said_behind before (packet_triplets one)),
  untimed_parts service (said_behind (before ++ packet_triplets one) (packet_triplets two)),
  are_parts service ((before ++ packet_triplets one) ++ packet_triplets two) frames others all.1,
)

pub show_the_same : HalvesShowTheSame
show_the_same frames others all =
    let told = halved_frames frames others all in
    record {
      grids = λ chan. ap (λ (pairs : List Pair). (channel (data_channel_of chan) (field_after (field_of_channel chan) (reverse pairs))).displayed) (told.pairs (field_of_channel chan));
      windows = λ service id undelayed.
          let wholes = told.wholes service ∙ wholes_parted (told_halves service [] others) in
          let halves = told.halves service ∙ halves_parted (told_halves service [] others) in
          let same : (served_after start (service_events service others)).core ≡ (served_after start (service_events service frames)).core =
          ap (λ (es : List Event). (served_after start es).core) halves
          ∙ halves_one F2997 F5994 (parted (told_halves service [] others)) (are_parts service [] frames others all) (subst (AreUndelayed start) wholes undelayed)
          ∙ sym (ap (λ (es : List Event). (served_after start es).core) wholes) in
          ap (λ (core : CoreState). grids core.screen id) same;
    }
