-- The bytes of a service's lane act on the screen as the commands of its captions do.
use Rattle.std.proofs.Common.{◌≡◌, ◌∙◌, ℕ, zero, suc, ◌<◌, nat_lt, Bool, true, false, if◌then◌else◌, ◌==◌, List, [], ◌∷◌, ◌++◌, Option, Some, None, refl, ap, append-nil, arith}
use Rattle.std.proofs.lemmas.Bool.Decides.{nat_tests}
use Rattle.std.specs.Prelude.{option_map}
use Rattle.std.specs.List.{flat_map, list_any}
use Rattle.cc_base.specs.declared.rate.Rate.{Rate}
use Rattle.dtvcc_codes.specs.declared.commands.Command.TheVariants.{Dlw, Dsw}
use Rattle.dtvcc_codes.specs.Writing.{bytes_of_command}
use Rattle.dtvcc_screen.specs.Screens.{ScreenState}
use Rattle.dtvcc_author.specs.declared.caption.Caption.{Caption}
use Rattle.dtvcc_author.specs.FrameEvents.{delayed_at, is_hidden_at, is_shown_at, names, windows_byte}
use Rattle.dtvcc_author.specs.Latest.{caption_delay}
use Rattle.frame_scheduler.specs.Chunks.{ServiceChunk}
use Rattle.frame_scheduler.specs.ServiceBytes.{loads_at}
use Rattle.windows_shown.specs.CaptionLanes.{lane_of, plain_events}
use Rattle.windows_shown.specs.Undelayed.{acted_on, shows_bytes, undelayed}
use Rattle.windows_shown.proofs.WrittenLemmas.{acted_append, dlw_acts, dlw_plain, dsw_acts}
use Rattle.windows_shown.proofs.CaptionLoads.{CaptionLoad, captions, loads_act}
use Rattle.windows_shown.proofs.EventLemmas.{acted_by, delay_shows}
use Rattle.windows_shown.proofs.HeardLaneLemmas.{heard_lane}
use Rattle.windows_shown.proofs.WindowLemmas.{empty_until, opening, screen_from}

-- one command for windows, and one after another
one_dsw : (windows : ℕ) (s : ScreenState) → acted_on (bytes_of_command (Dsw windows) ++ []) s ≡ acted_by (Dsw windows ∷ []) s
one_dsw windows s = ap (λ (bytes : List ℕ). acted_on bytes s) (append-nil (bytes_of_command (Dsw windows))) ∙ dsw_acts windows s

one_dlw : (windows : ℕ) (s : ScreenState) → acted_on (bytes_of_command (Dlw windows) ++ []) s ≡ acted_by (Dlw windows ∷ []) s
one_dlw windows s = ap (λ (bytes : List ℕ). acted_on bytes s) (append-nil (bytes_of_command (Dlw windows))) ∙ dlw_acts windows s

both_act : (a b : Bool) (hides shows : ℕ) (s : ScreenState)
    → acted_on (flat_map bytes_of_command ((if a then Dlw hides ∷ [] else []) ++ (if b then Dsw shows ∷ [] else []))) s
    ≡ acted_by (if b then Dsw shows ∷ [] else []) (acted_by (if a then Dlw hides ∷ [] else []) s)
both_act true true hides shows s =
    acted_append (bytes_of_command (Dlw hides)) (bytes_of_command (Dsw shows) ++ []) s (dlw_plain hides)
    ∙ ap (acted_on (bytes_of_command (Dsw shows) ++ [])) (dlw_acts hides s)
    ∙ one_dsw shows (acted_by (Dlw hides ∷ []) s)
both_act true false hides shows s = one_dlw hides s
both_act false true hides shows s = one_dsw shows s
both_act false false hides shows s = refl

-- the events of a frame
pub events_act : (frame : ℕ) (gs : List CaptionLoad) (s : ScreenState) → acted_on (plain_events frame (captions gs)) s ≡ opening frame gs s
events_act frame gs s =
    both_act (list_any (is_hidden_at frame) (captions gs)) (list_any (is_shown_at frame) (captions gs))
    (windows_byte (names (is_hidden_at frame) (captions gs))) (windows_byte (names (is_shown_at frame) (captions gs))) s

-- what a delay puts off
delay_acts : (found : Option Caption) (s : ScreenState) → acted_on (shows_bytes (option_map caption_delay found)) s ≡ delay_shows found s
unfolding bytes_of_command
delay_acts None s = refl
delay_acts (Some c) s = dsw_acts (windows_byte (λ id. c.id == id)) s

-- the loads of every frame act as the commands of the captions
abbrev pub AreLoads : List (ServiceChunk × ℕ) → List CaptionLoad → Type 0
AreLoads placed gs = (frame : ℕ) (s : ScreenState) → acted_on (loads_at placed frame) s ≡ loads_act frame gs s

-- so the screen of what is heard of the lane before a frame is the captions' screen
pub undelayed_is : (since : ℕ) (rate : Rate) (placed : List (ServiceChunk × ℕ)) (gs : List CaptionLoad) → AreLoads placed gs → (frame : ℕ)
    → undelayed (heard_lane since (lane_of rate (captions gs) placed)) frame ≡ screen_from since gs frame
undelayed_is since rate placed gs loads zero = refl
undelayed_is since rate placed gs loads (suc frame) = at (nat_lt frame since) refl (undelayed_is since rate placed gs loads frame)
  where
    at : (b : Bool) → nat_lt frame since ≡ b → undelayed (heard_lane since (lane_of rate (captions gs) placed)) frame ≡ screen_from since gs frame
        → undelayed (heard_lane since (lane_of rate (captions gs) placed)) (suc frame) ≡ screen_from since gs (suc frame)
    at true test was =
        let low : frame < since = grind (arith, nat_tests) in
        rw test (was ∙ empty_until since gs frame (omega arith))
    at false test was =
        let s : ScreenState = screen_from since gs frame in
        let found : Option Caption = delayed_at frame (captions gs) in
        let shows : List ℕ = shows_bytes (option_map caption_delay found) in
        rw test
        (ap (λ (t : ScreenState). acted_on (loads_at placed frame) (acted_on shows (acted_on (plain_events frame (captions gs)) t))) was
        ∙ ap (λ (t : ScreenState). acted_on (loads_at placed frame) (acted_on shows t)) (events_act frame gs s)
        ∙ ap (acted_on (loads_at placed frame)) (delay_acts found (opening frame gs s))
        ∙ loads frame (delay_shows found (opening frame gs s)))
