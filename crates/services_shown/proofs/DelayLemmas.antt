-- The delays of a list that keeps the rules are sent: where one starts its command is found, and at SHOW no command shows the
-- window again.
use Rattle.std.proofs.Common.{◌≡◌, ◌∙◌, ℕ, zero, suc, ◌^◌, ◌<◌, ◌⊎◌, inl, inr, ◌==◌, ◌&&◌, Bool, true, false, if◌then◌else◌, List, [], ◌∷◌, ◌++◌, Option, Some, None, All, refl, sym, ap, subst, arith, append_assoc}
use Rattle.std.specs.Prelude.{option_map}
use Rattle.std.specs.List.{cons_option, list_any}
use Rattle.std.proofs.lemmas.Bool.{and_parts, eq-eqb, eqb-true, ne_eqb}
use Rattle.std.proofs.lemmas.Bool.Decides.{nat_tests}
use Rattle.std.proofs.lemmas.List.Elements.{All-append, All-cons, All-contains, All-nil, All-weaker}
use Rattle.cc_base.specs.declared.rate.Rate.{Rate}
use Rattle.line21_shown.specs.Cues.{IsCueFormed, IsOfKind}
use Rattle.line21_shown.specs.Listing.{IsFormed, Listing}
use Rattle.line21_shown.specs.Rules.{IsRuled}
use Rattle.line21_shown.specs.Cue.{Cue}
use Rattle.line21_shown.specs.Kind.{Kind}
use Rattle.line21_shown.specs.Kind.TheVariants.{Win}
use Rattle.line21_shown.specs.WinCue.{WinCue}
use Rattle.line21_shown.specs.Lane.TheVariants.{Service}
use Rattle.dtvcc_codes.specs.Cut.{IsCut}
use Rattle.dtvcc_codes.specs.declared.commands.Command.{Command}
use Rattle.dtvcc_codes.specs.declared.commands.Command.TheVariants.{Put, Dlw, Dly, Dsw, Spa, Spc, Spl, Swa, Df}
use Rattle.dtvcc_screen.specs.Commands.{is_named}
use Rattle.dtvcc_author.specs.Captions.{caption_of, caption_with, service_captions, window_caption}
use Rattle.dtvcc_author.specs.FrameEvents.{delay_commands, delayed_at, event_commands, is_hidden_at, is_shown_at, names, windows_byte, windows_command}
use Rattle.dtvcc_author.specs.Kept.{AreKept, Follows, IsSoundCaption}
use Rattle.dtvcc_author.specs.Latest.{caption_delay}
use Rattle.dtvcc_author.specs.declared.caption.Caption.{Caption}
use Rattle.dtvcc_author.specs.declared.frame_events.Delay.{Delay}
use Rattle.dtvcc_author.proofs.LatestLemmas.{Has, find_delayed, kept_sound}
use Rattle.windows_shown.proofs.CaptionLanesLemmas.{none_passes, starting}
use Rattle.windows_shown.proofs.UnitLemmas.{is_loading}
use Rattle.frame_carrier.specs.Planned.{Placement, service_bytes}
use Rattle.frame_carrier.proofs.CaptionsKept.{captions_kept}
use Rattle.frame_carrier.proofs.DelayLemmas.{delay_some, two_of}
use Rattle.services_shown.specs.Delays.{AreDelaysSent, IsDelaySent, shows}
use Rattle.services_shown.proofs.CutLemmas.{frame_cut, frame_loads}
use Rattle.windows_shown.proofs.NamedLemmas.{named_is}

-- the caption of a window cue is one of its service
module _ (rate : Rate) (service : ℕ) where
  abbrev IsCaptioned : List Cue → Cue → Type 0
  IsCaptioned cues cue = (w : WinCue) → cue.kind ≡ Win w → w.service ≡ service → Has (window_caption rate w cue) (service_captions rate service cues)

  one_more : (first : Option Caption) (c : Caption) (cs : List Caption) → Has c cs → Has c (cons_option first cs)
  one_more None c cs has = has
  one_more (Some d) c cs has = inr has

  first_captioned : (cue : Cue) (cues : List Cue) → IsCaptioned (cue ∷ cues) cue
  first_captioned cue cues w is of_it =
      subst (λ (k : Kind). Has (window_caption rate w cue) (cons_option (caption_with rate service k cue) (service_captions rate service cues))) (sym is)
      (at (w.service == service) (eq-eqb w.service service of_it))
    where
      at : (b : Bool) → b ≡ true
          → Has (window_caption rate w cue) (cons_option (if b then Some (window_caption rate w cue) else None) (service_captions rate service cues))
      at true on = inl refl
      at false on = cc

  all_captioned : (cues : List Cue) → All (IsCaptioned cues) cues
  all_captioned [] = All-nil (IsCaptioned [])
  all_captioned (cue ∷ cues) =
      All-cons (IsCaptioned (cue ∷ cues)) cue cues (first_captioned cue cues)
      (All-weaker (IsCaptioned cues) (IsCaptioned (cue ∷ cues))
      (λ other captioned w is of_it. one_more (caption_of rate service cue) (window_caption rate w other) (service_captions rate service cues) (captioned w is of_it))
      cues (all_captioned cues))

-- a byte with one bit
one_bit : (id : ℕ) → id < 8 → windows_byte (λ other. id == other) ≡ 2 ^ id
one_bit zero small = refl
one_bit (suc zero) small = refl
one_bit (suc (suc zero)) small = refl
one_bit (suc (suc (suc zero))) small = refl
one_bit (suc (suc (suc (suc zero)))) small = refl
one_bit (suc (suc (suc (suc (suc zero))))) small = refl
one_bit (suc (suc (suc (suc (suc (suc zero)))))) small = refl
one_bit (suc (suc (suc (suc (suc (suc (suc zero))))))) small = refl
one_bit (suc (suc (suc (suc (suc (suc (suc (suc n)))))))) small = absurd (omega arith)

-- commands of which none shows a window
abbrev ShowNone : ℕ → List Command → Type 0
ShowNone id commands = All (λ command. shows id command ≡ false) commands

loading_shows_none : (id : ℕ) (command : Command) → is_loading command ≡ true → shows id command ≡ false
loading_shows_none id (Put ch) loads = refl
loading_shows_none id (Spa pen) loads = refl
loading_shows_none id (Spc colors) loads = refl
loading_shows_none id (Spl row col) loads = refl
loading_shows_none id (Swa attributes) loads = refl
loading_shows_none id (Df definition) loads = refl
loading_shows_none id _ loads = cc

one_shows_none : (id : ℕ) (command : Command) → shows id command ≡ false → ShowNone id (command ∷ [])
one_shows_none id command is = All-cons (λ command. shows id command ≡ false) command [] is (All-nil (λ command. shows id command ≡ false))

hides_show_none : (id : ℕ) (test : Caption → Bool) (cs : List Caption) → ShowNone id (windows_command Dlw test cs)
hides_show_none id test cs = at (list_any test cs)
  where
    at : (b : Bool) → ShowNone id (if b then Dlw (windows_byte (names test cs)) ∷ [] else [])
    at true = one_shows_none id (Dlw (windows_byte (names test cs))) refl
    at false = All-nil (λ command. shows id command ≡ false)

-- a window that no caption is in for which the test holds isn't named
and_fails : (a b : Bool) → (a ≡ true → b ≡ false) → (a && b) ≡ false
and_fails true b fails = fails refl
and_fails false b fails = refl

names_none : (test : Caption → Bool) (cs : List Caption) (id : ℕ) → ((c : Caption) → Has c cs → test c ≡ true → c.id ≡ id → ⊥)
    → names test cs id ≡ false
names_none test cs id none =
    none_passes (λ c. test c && (c.id == id)) cs (λ c has. and_fails (test c) (c.id == id) (λ holds. ne_eqb c.id id (none c has holds)))

-- where no caption of a window starts in a frame, no event of the frame shows the window
module _ (frame id : ℕ) (cs : List Caption) (small : id < 8) (elsewhere : (c : Caption) → Has c cs → c.starts ≡ frame → c.id ≡ id → ⊥) where
  shows_show_none : ShowNone id (windows_command Dsw (is_shown_at frame) cs)
  shows_show_none = at (list_any (is_shown_at frame) cs)
    where
      none : names (is_shown_at frame) cs id ≡ false
      none = names_none (is_shown_at frame) cs id
          (λ c has holds. elsewhere c has (eqb-true c.starts frame (and_parts (c.tenths == 0) (c.starts == frame) holds).1))

      at : (b : Bool) → ShowNone id (if b then Dsw (windows_byte (names (is_shown_at frame) cs)) ∷ [] else [])
      at true = one_shows_none id (Dsw (windows_byte (names (is_shown_at frame) cs))) (named_is (names (is_shown_at frame) cs) id small ∙ none)
      at false = All-nil (λ command. shows id command ≡ false)

  delay_shows_none : ShowNone id (delay_commands (delayed_at frame cs))
  delay_shows_none = at (delayed_at frame cs) refl
    where
      at : (found : Option Caption) → delayed_at frame cs ≡ found → ShowNone id (delay_commands found)
      at None is = All-nil (λ command. shows id command ≡ false)
      at (Some c) is =
          let s = starting cs frame (caption_delay c) (ap (option_map caption_delay) is) in
          let other : (s.caption.id == id) ≡ false = ne_eqb s.caption.id id (elsewhere s.caption s.has s.starts) in
          All-cons (λ command. shows id command ≡ false) (Dly c.tenths) (Dsw (windows_byte (λ other. c.id == other)) ∷ []) refl
          (one_shows_none id (Dsw (windows_byte (λ other. c.id == other)))
          (ap (λ (delay : Delay). is_named delay.windows id) s.is ∙ named_is (λ other. s.caption.id == other) id small ∙ other))

  events_show_none : ShowNone id (event_commands frame cs)
  events_show_none =
      All-append (λ command. shows id command ≡ false) (windows_command Dlw (is_hidden_at frame) cs ++ windows_command Dsw (is_shown_at frame) cs)
      (delay_commands (delayed_at frame cs))
      (All-append (λ command. shows id command ≡ false) (windows_command Dlw (is_hidden_at frame) cs) (windows_command Dsw (is_shown_at frame) cs)
      (hides_show_none id (is_hidden_at frame) cs) shows_show_none)
      delay_shows_none

-- a delayed caption of a list that keeps the rules
module _ (rate : Rate) (frames : ℕ) (cs : List Caption) (c : Caption) (kept : AreKept rate frames cs) (has : Has c cs) (some : 0 < c.tenths) where
  -- is found where its delay starts
  found : delayed_at c.starts cs ≡ Some c
  found = find_delayed rate frames c.starts cs c kept has (grind (arith, nat_tests))

  -- and at its SHOW no other of its window starts
  alone : (other : Caption) → Has other cs → other.starts ≡ c.show → other.id ≡ c.id → ⊥
  alone other among is same = at (two_of rate frames cs c other kept has among)
    where
      sound : IsSoundCaption rate frames c
      sound = kept_sound rate frames cs c kept has

      other_sound : IsSoundCaption rate frames other
      other_sound = kept_sound rate frames cs other kept among

      at : (c ≡ other) ⊎ (Follows c other ⊎ Follows other c) → ⊥
      at (inl one) =
          let starts : c.starts ≡ other.starts = ap (λ (d : Caption). d.starts) one in
          let later = delay_some rate frames cs c.starts c.show kept (ap (option_map (λ (d : Caption). d.show)) found) in
          omega (arith, starts, later, is)
      at (inr (inl behind)) =
          let vacated = behind.vacated same in
          omega (arith, vacated, other_sound.loaded, is, sound.hidden)
      at (inr (inr before)) =
          let vacated = before.vacated (sym same) in
          omega (arith, vacated, sound.loaded, sound.after, is, other_sound.after, other_sound.hidden)

-- so its commands are sent
module _ (list : Listing) (placed : Placement) (formed : IsFormed list) (ruled : IsRuled list) (cue : Cue) (w : WinCue) (is : cue.kind ≡ Win w)
    (has : Has (window_caption list.rate w cue) (service_captions list.rate w.service list.cues)) (small : w.id < 8) (some : 0 < w.delay) where
  delay_sent : IsDelaySent list.rate w cue (service_bytes list w.service (placed (Service w.service)))
  delay_sent = record { whole = whole; starts = (before, behind, starts_cut); shows_none = ((whole cue.show).0, (whole cue.show).1, none) }
    where
      cs : List Caption
      cs = service_captions list.rate w.service list.cues

      c : Caption
      c = window_caption list.rate w cue

      placed_in : List ℕ
      placed_in = placed (Service w.service)

      kept : AreKept list.rate list.frames cs
      kept = captions_kept list w.service formed ruled

      loads : ℕ → List Command
      loads frame = (frame_loads list.rate w.service list.cues placed_in frame formed.cues).commands

      whole : (frame : ℕ) → (commands : List Command) × IsCut commands [] (service_bytes list w.service placed_in frame)
      whole frame = (event_commands frame cs ++ loads frame, frame_cut list.rate w.service list.cues placed_in frame formed.cues)

      before : List Command
      before = windows_command Dlw (is_hidden_at c.starts) cs ++ windows_command Dsw (is_shown_at c.starts) cs

      behind : List Command
      behind = loads c.starts

      starts_are : event_commands c.starts cs ++ behind ≡ before ++ Dly w.delay ∷ Dsw (2 ^ w.id) ∷ behind
      starts_are =
          ap (λ (d : Option Caption). (before ++ delay_commands d) ++ behind) (found list.rate list.frames cs c kept has some)
          ∙ ap (λ (bits : ℕ). (before ++ Dly w.delay ∷ Dsw bits ∷ []) ++ behind) (one_bit w.id small)
          ∙ append_assoc before (Dly w.delay ∷ Dsw (2 ^ w.id) ∷ []) behind

      starts_cut : IsCut (before ++ Dly w.delay ∷ Dsw (2 ^ w.id) ∷ behind) [] (service_bytes list w.service placed_in c.starts)
      starts_cut =
          subst (λ (commands : List Command). IsCut commands [] (service_bytes list w.service placed_in c.starts)) starts_are
          (whole c.starts).1

      none : ShowNone w.id (event_commands cue.show cs ++ loads cue.show)
      none =
          All-append (λ command. shows w.id command ≡ false) (event_commands cue.show cs) (loads cue.show)
          (events_show_none cue.show w.id cs small (alone list.rate list.frames cs c kept has some))
          (All-weaker (λ command. is_loading command ≡ true) (λ command. shows w.id command ≡ false) (loading_shows_none w.id) (loads cue.show)
          (frame_loads list.rate w.service list.cues placed_in cue.show formed.cues).loading)

-- the delays of a list that keeps the rules are sent, wherever its units stand
pub delays_sent : (list : Listing) (placed : Placement) → IsFormed list → IsRuled list → AreDelaysSent list placed
delays_sent list placed formed ruled cue w among is some =
    let window = subst (λ (k : Kind). IsOfKind k cue.hide cue.runs) is (All-contains IsCueFormed list.cues cue formed.cues among).kind in
    let id_is = window.0.id in
    delay_sent list placed formed ruled cue w is
    (All-contains (IsCaptioned list.rate w.service list.cues) list.cues cue (all_captioned list.rate w.service list.cues) among w is refl)
    (omega (arith, id_is)) some
