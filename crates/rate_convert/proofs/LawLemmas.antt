-- What is seen where no frame has a misfit, and where no service gets a delay.
use Rattle.std.proofs.Common.{◌≡◌, ℕ, suc, ◌+◌, ◌*◌, List, [], ◌∷◌, ◌++◌, All, append-nil, append_assoc, length, take, refl, sym, ap, ◌∙◌, subst, arith}
use Rattle.std.proofs.lemmas.List.{drop_at, take_at}
use Rattle.std.proofs.lemmas.List.Elements.{All-drop, All-head, All-take}
use Rattle.cc_receiver.specs.ReceivedServices.{received_windows}
use Rattle.cdp_packets.specs.Packets.{Frame}
use Rattle.dtvcc_screen.specs.Meaning.{Byte, Event, Reset, Served, Tick, on_event, start}
use Rattle.dtvcc_services.specs.Numbers.{IsService}
use Rattle.rate_convert.specs.Conversion.{IsConvertible, conversion}
use Rattle.rate_convert.specs.UndelayedServices.{AreUndelayed}
use Rattle.rate_convert.proofs.ConvertedLemmas.{converted_halves}
use Rattle.rate_convert.proofs.KeptLemmas.{show_the_same}
use Rattle.services_files.specs.Events.{service_events}
use Rattle.services_files.proofs.EventLemmas.{events_more}
use Rattle.words_files.specs.Received.{received_grids}
use Rattle.rate_convert.specs.Grids.{KeepsGrids}
use Rattle.rate_convert.specs.Laws.{FitKeepsGrids, UndelayedAreFit}
use Rattle.rate_convert.specs.Misfits.{IsFit}
use Rattle.rate_convert.proofs.ConversionLemmas.{take_conversion}
use Rattle.rate_convert.proofs.FitLemmas.{channels_kept, fit_at}

pub fit_keeps : FitKeepsGrids
fit_keeps frames fit f below =
    let keeps = fit_at [] frames f below fit in
    let e : suc (2 * f + 1) ≡ 2 * suc f = omega arith in
    let front : take (suc (2 * f + 1)) (conversion frames) ≡ conversion (take (suc f) frames) =
    ap (λ n. take n (conversion frames)) e ∙ take_conversion (suc f) frames in
    record {
      channels = λ chan. ap (λ (fs : List Frame). received_grids fs chan) front ∙ keeps.channels chan;
      services = λ service id is small. ap (λ (fs : List Frame). received_windows fs service id) front ∙ keeps.services service is id small;
    }

-- what stands before some events of a service that gets no delay is without one too
undelayed_front : (s : Served) (events more : List Event) → AreUndelayed s (events ++ more) → AreUndelayed s events
undelayed_front s [] more none = tt
undelayed_front s (Tick rate ∷ events) more none = undelayed_front (on_event (Tick rate) s) events more none
undelayed_front s (Byte byte ∷ events) more none = (none.0, undelayed_front (on_event (Byte byte) s) events more none.1)
undelayed_front s (Reset ∷ events) more none = undelayed_front (on_event Reset s) events more none

AreWithout : List Frame → Type 0
AreWithout frames = (service : ℕ) → IsService service → AreUndelayed start (service_events service frames)

without_front : (frames more : List Frame) → AreWithout (frames ++ more) → AreWithout frames
unfolding AreWithout
without_front frames [] none service is = subst AreWithout (append-nil frames) none service is
without_front frames (frame ∷ more) none service is =
    undelayed_front start (service_events service frames) _
    (subst (AreUndelayed start) (events_more service frames frame)
    (without_front (frames ++ frame ∷ []) more (subst AreWithout (sym (append_assoc frames (frame ∷ []) more)) none) service is))

kept_without : (frames : List Frame) → All IsConvertible frames → AreWithout frames → KeepsGrids frames
unfolding AreWithout
kept_without frames all none = record {
  channels = channels_kept frames all;
  services = λ service is id small. (show_the_same frames (conversion frames) (converted_halves frames all)).windows service id (none service is);
}

one_without : (earlier : List Frame) (frame : Frame) (later : List Frame) → All IsConvertible (earlier ++ frame ∷ later) → AreWithout (earlier ++ frame ∷ later) → IsFit earlier frame
one_without earlier frame later all none =
    let joined = append_assoc earlier (frame ∷ []) later in
    let fs = earlier ++ frame ∷ [] in
    let whole = subst (All IsConvertible) (sym joined) all in
    let front = subst (All IsConvertible) (take_at fs later (length fs) refl) (All-take IsConvertible (length fs) (fs ++ later) whole) in
    let behind = subst (All IsConvertible) (drop_at earlier (frame ∷ later) (length earlier) refl) (All-drop IsConvertible (length earlier) (earlier ++ frame ∷ later) all) in
    record {
      convertible = All-head IsConvertible frame later behind;
      keeps = kept_without fs front (without_front fs later (subst AreWithout (sym joined) none));
    }

pub undelayed_fit : UndelayedAreFit
unfolding AreWithout
undelayed_fit frames all none = λ earlier frame later split. one_without earlier frame later (subst (All IsConvertible) split all) (subst AreWithout split none)
