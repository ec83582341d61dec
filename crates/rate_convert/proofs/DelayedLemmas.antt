-- What halves tell a service is bytes, where nothing resets it.
use Rattle.std.proofs.Common.{◌≡◌, ℕ, List, [], ◌∷◌, ◌++◌, map, refl, sym, ap, ◌∙◌, subst}
use Rattle.std.specs.Prelude.{⊤}
use Rattle.std.proofs.lemmas.List.{map-append}
use Rattle.cc_base.specs.declared.rate.Rate.TheVariants.{F2997, F5994}
use Rattle.cc_data.specs.declared.triplet.Triplet.{Triplet}
use Rattle.cdp_packets.specs.Packets.{Frame}
use Rattle.cdp_packets.specs.PacketTriplets.{packet_triplets}
use Rattle.dtvcc_codes.specs.Reading.{open_after}
use Rattle.dtvcc_screen.specs.Meaning.{Byte, Event, Reset, Tick, served_after, start}
use Rattle.dtvcc_screen.specs.Shown.{grids}
use Rattle.services_files.specs.Events.{service_events}
use Rattle.services_files.specs.Said.{said_behind}
use Rattle.rate_convert.specs.HalvedServices.{AreGood, Halved, fast, slow}
use Rattle.rate_convert.specs.GoodStreams.{IsGoodStream}
use Rattle.rate_convert.specs.UndelayedServices.{AreUntimed}
use Rattle.rate_convert.proofs.HalvedServiceLemmas.{halves_alike}
use Rattle.rate_convert.specs.HalvedFrames.{AllHalves, Told, in_halves, in_wholes, told_halves}
use Rattle.rate_convert.specs.ShownAlike.{DelayedHalvesShowTheSame}
use Rattle.rate_convert.proofs.HalvedFrameLemmas.{halved_frames}
use Rattle.rate_convert.proofs.KeptLemmas.{untimed_parts}

-- the bytes among events
bytes_in : List Event → List ℕ
bytes_in [] = []
bytes_in (Byte byte ∷ events) = byte ∷ bytes_in events
bytes_in (event ∷ events) = bytes_in events

-- events of which none is a tick and none a reset are bytes
record AreBytes (events rest : List Event) : Type 0 where
  front : List ℕ
  are : events ≡ map Byte (bytes_in events)
  good : IsGoodStream front rest

are_bytes : (front : List ℕ) (events rest : List Event) → AreUntimed events → IsGoodStream front (events ++ rest) → AreBytes events rest
unfolding bytes_in
are_bytes front [] rest untimed good = record { front = front; are = refl; good = good }
are_bytes front (Tick rate ∷ events) rest untimed good = absurd untimed
are_bytes front (Reset ∷ events) rest untimed good = absurd good
are_bytes front (Byte byte ∷ events) rest untimed good =
    let more = are_bytes (open_after front byte) events rest untimed good.1 in
    record { front = more.front; are = ap (λ (es : List Event). Byte byte ∷ es) more.are; good = more.good }

halved : List Told → List Halved
halved [] = []
halved (told ∷ more) = record { one = bytes_in told.one; two = bytes_in told.two } ∷ halved more

AreAllUntimed : List Told → Type 0
AreAllUntimed [] = ⊤
AreAllUntimed (told ∷ more) = AreUntimed told.one × AreUntimed told.two × AreAllUntimed more

append_three : (one two rest : List Event) → (one ++ two) ++ rest ≡ one ++ (two ++ rest)
append_three [] two rest = refl
append_three (e ∷ one) two rest = ap (λ (es : List Event). e ∷ es) (append_three one two rest)

record AreHalved (all : List Told) : Type 0 where
  wholes : in_wholes all ≡ slow (halved all)
  halves : in_halves all ≡ fast (halved all)

are_halved : (front : List ℕ) (all : List Told) → AreAllUntimed all → IsGoodStream front (in_wholes all) → AreHalved all
unfolding halved AreAllUntimed
are_halved front [] untimed good = record { wholes = refl; halves = refl }
are_halved front (told ∷ more) untimed good =
    let one = are_bytes front told.one (told.two ++ in_wholes more) untimed.0 (subst (λ (es : List Event). IsGoodStream front es) (append_three told.one told.two (in_wholes more)) good) in
    let two = are_bytes one.front told.two (in_wholes more) untimed.1 one.good in
    let rest = are_halved two.front more untimed.2 two.good in
    let both : told.one ++ told.two ≡ map Byte (bytes_in told.one ++ bytes_in told.two) =
    ap (λ (es : List Event). es ++ told.two) one.are ∙ ap (λ (es : List Event). map Byte (bytes_in told.one) ++ es) two.are
    ∙ sym (map-append Byte (bytes_in told.one) (bytes_in told.two)) in
    record {
      wholes = ap (λ (es : List Event). Tick F2997 ∷ es ++ in_wholes more) both
          ∙ ap (λ (es : List Event). Tick F2997 ∷ map Byte (bytes_in told.one ++ bytes_in told.two) ++ es) rest.wholes;
      halves = ap (λ (es : List Event). Tick F5994 ∷ es ++ (Tick F5994 ∷ told.two ++ in_halves more)) one.are
          ∙ ap (λ (es : List Event). Tick F5994 ∷ map Byte (bytes_in told.one) ++ (Tick F5994 ∷ es ++ in_halves more)) two.are
          ∙ ap (λ (es : List Event). Tick F5994 ∷ map Byte (bytes_in told.one) ++ (Tick F5994 ∷ map Byte (bytes_in told.two) ++ es)) rest.halves;
    }

all_untimed : (service : ℕ) (before : List Triplet) (frames others : List Frame) → AllHalves frames others → AreAllUntimed (told_halves service before others)
unfolding AreAllUntimed
all_untimed service before [] [] all = tt
all_untimed service before [] (one ∷ others) all = absurd all
all_untimed service before (frame ∷ frames) [] all = absurd all
all_untimed service before (frame ∷ frames) (one ∷ []) all = absurd all
all_untimed service before (frame ∷ frames) (one ∷ (two ∷ others)) all = (
  untimed_parts service (said_behind before (packet_triplets one)),
  untimed_parts service (said_behind (before ++ packet_triplets one) (packet_triplets two)),
  all_untimed service ((before ++ packet_triplets one) ++ packet_triplets two) frames others all.1,
)

pub delayed_same : DelayedHalvesShowTheSame
delayed_same frames others all service id stream good =
    let told = halved_frames frames others all in
    let wholes = told.wholes service in
    let are = are_halved [] (told_halves service [] others) (all_untimed service [] frames others all) (subst (IsGoodStream []) wholes stream) in
    let slow_are : service_events service frames ≡ slow (halved (told_halves service [] others)) = wholes ∙ are.wholes in
    let fast_are : service_events service others ≡ fast (halved (told_halves service [] others)) = told.halves service ∙ are.halves in
    let same : (served_after start (service_events service others)).core.screen ≡ (served_after start (service_events service frames)).core.screen =
    ap (λ (es : List Event). (served_after start es).core.screen) fast_are
    ∙ halves_alike (halved (told_halves service [] others)) (subst (AreGood start) slow_are good)
    ∙ sym (ap (λ (es : List Event). (served_after start es).core.screen) slow_are) in
    ap (λ screen. grids screen id) same
