-- What is seen of the windows of a service beside what is authored.
use Rattle.std.proofs.Common.{◌≡◌, ◌∙◌, ℕ, ◌<◌, ◌==◌, nat_le, false, List, [], ◌∷◌, find, ap, arith, inl, inr, refl, sym}
use Rattle.std.proofs.lemmas.Bool.{cases_lt}
use Rattle.std.proofs.lemmas.Bool.Decides.{nat_tests}
use Rattle.std.proofs.lemmas.List.Elements.{All-head, All-tail}
use Rattle.std.specs.Borrow.{Bor}
use Rattle.std.specs.Option.{option_and_then}
use Rattle.std.specs.Prelude.{◌&&◌, All, MatchOption, None, Option, Some, if◌then◌else◌}
use Rattle.cue_types.specs.Channels.{uses_window}
use Rattle.cue_lists.specs.AuthoredServiceGrid.{authored_windows, cue_window as authored_of, is_before, shows_in}
use Rattle.cue_types.specs.Cues.{IsCueFormed, IsOfKind}
use Rattle.cue_types.specs.declared.cue.Cue.{Cue}
use Rattle.cue_types.specs.declared.cue.Kind.{Kind}
use Rattle.cue_types.specs.declared.cue.Kind.TheVariants as kind
use Rattle.cue_types.specs.declared.cue.Run.{Run}
use Rattle.dtvcc_windows.specs.Objects.{window_of}
use Rattle.dtvcc_windows.specs.Showing.{shown}
use Rattle.dtvcc_windows.specs.Windows.{WindowState}
use Rattle.dtvcc_windows.specs.declared.window.Window.{Window}
use Rattle.dtvcc_services.specs.Numbers.{IsService}
use Rattle.cc_verifier.specs.Differing.{AllSeenWindows, ShowsItsWindows}
use Rattle.cc_verifier.specs.Services.{IsFirstOtherService}
use Rattle.cc_verifier.specs.WindowPlaces.{SameWindows}
use Rattle.cc_verifier.specs.WindowSeen.{seen_window}

-- a service past the sixth has no cue
other_service : (service id : ℕ) (kind : Kind) (hide : Option ℕ) (runs : List Run) → 6 < service → IsOfKind kind hide runs → uses_window service id kind ≡ false
other_service service id (kind.Pop channel) hide runs past formed = refl
other_service service id (kind.Paint channel) hide runs past formed = refl
other_service service id (kind.Roll channel rows) hide runs past formed = refl
other_service service id (kind.Win window) hide runs past formed =
    let to = formed.0.service.1 in
    let e : (service == window.service) ≡ false = grind (arith, nat_tests) in
    ap (λ b. b && (id == window.id)) e

pub none_past_six : (service id frame : ℕ) (cues : List Cue) → 6 < service → All IsCueFormed cues → authored_windows service cues frame id ≡ None
none_past_six service id frame cues past formed = ap (λ o. option_and_then (λ (cue : Cue). authored_of cue.kind cue.runs) o) (none_found cues formed)
  where
    none_found : (cues : List Cue) → All IsCueFormed cues → find (shows_in service id frame) cues ≡ None
    none_found [] formed = refl
    none_found (cue ∷ later) formed =
        let e = other_service service id cue.kind cue.hide cue.runs past (All-head IsCueFormed cue later formed).kind in
        ap (λ b. if b && (nat_le cue.show frame && is_before frame cue.hide) then Some cue else find (shows_in service id frame) later) e
        ∙ none_found later (All-tail IsCueFormed cue later formed)

-- what is seen of a window that a receiver gave
pub window_seen : (got : Option (Bor Window)) (window : Option WindowState) → MatchOption got (window ≡ None) (λ w. window_of w.now ≡ window)
    → seen_window got ≡ shown window
window_seen None window is = sym (ap shown is)
window_seen (Some got) window is = ap shown is

-- before the next change the windows show the same; other services' windows show nothing
pub same_windows : (service id former frame : ℕ) (cues : List Cue) → IsService service → id < 8 → All IsCueFormed cues → SameWindows cues former frame
    → authored_windows service cues frame id ≡ authored_windows service cues former id
same_windows service id former frame cues is within formed same = elim (cases_lt 6 service) [
  | inl past ↦ none_past_six service id frame cues past formed ∙ sym (none_past_six service id former cues past formed)
  | inr to ↦ same service id (record { from = is.from; to = to; id_to = within })
]

-- no service has another window
pub none_is_first : (cues : List Cue) (frame : ℕ) (windows : AllSeenWindows) (first : Option ℕ) → first ≡ None → IsFirstOtherService cues frame windows first
    → (service : ℕ) → IsService service → ShowsItsWindows cues frame windows service
none_is_first cues frame windows None none is = is
none_is_first cues frame windows (Some service) none is = cc
