-- What the events of a frame do to the screen: each window is hidden, or shown, as the captions name it.
use Rattle.std.proofs.Common.{◌≡◌, ◌∙◌, ℕ, ◌<◌, ◌==◌, ◌||◌, Bool, true, false, if◌then◌else◌, List, [], ◌∷◌, Option, Some, None, refl, sym, ap}
use Rattle.std.specs.Prelude.{option_map}
use Rattle.std.specs.List.{list_any}
use Rattle.dtvcc_codes.specs.declared.commands.Command.{Command}
use Rattle.dtvcc_codes.specs.declared.commands.Command.TheVariants.{Dlw, Dsw}
use Rattle.dtvcc_windows.specs.Windows.{WindowState, with_visibility}
use Rattle.dtvcc_screen.specs.Commands.{current_without, on_screen}
use Rattle.dtvcc_screen.specs.Screens.{ScreenState}
use Rattle.dtvcc_author.specs.declared.caption.Caption.{Caption}
use Rattle.dtvcc_author.specs.FrameEvents.{names, windows_byte, windows_command}
use Rattle.dtvcc_author.proofs.LatestLemmas.{none_named}
use Rattle.windows_shown.proofs.MemberLemmas.{delay_names}
use Rattle.windows_shown.proofs.NamedLemmas.{named_is}

-- commands one after another
abbrev pub acted_by : List Command → ScreenState → ScreenState
acted_by [] s = s
acted_by (command ∷ commands) s = acted_by commands (on_screen command s)

-- what a delay puts off
abbrev pub delay_shows : Option Caption → ScreenState → ScreenState
delay_shows None s = s
delay_shows (Some c) s = on_screen (Dsw (windows_byte (λ id. c.id == id))) s

-- a window is hidden, or shown
abbrev pub if_hidden : Bool → Option WindowState → Option WindowState
if_hidden hidden w = if hidden then None else w

abbrev pub if_shown : Bool → Option WindowState → Option WindowState
if_shown is_shown w = if is_shown then option_map (with_visibility true) w else w

module _ (test : Caption → Bool) (cs : List Caption) (s : ScreenState) where
  pub hidden_windows : (id : ℕ) → id < 8 → (acted_by (windows_command Dlw test cs) s).windows id ≡ if_hidden (names test cs id) (s.windows id)
  hidden_windows id small = at (list_any test cs) refl
    where
      at : (b : Bool) → list_any test cs ≡ b
          → (acted_by (if b then Dlw (windows_byte (names test cs)) ∷ [] else []) s).windows id ≡ if_hidden (names test cs id) (s.windows id)
      at true some = ap (λ (b : Bool). if_hidden b (s.windows id)) (named_is (names test cs) id small)
      at false none = ap (λ (b : Bool). if_hidden b (s.windows id)) (sym (none_named test cs none id))

  -- a current window that isn't hidden stays current
  pub hidden_current : (id : ℕ) → id < 8 → names test cs id ≡ false → s.current ≡ Some id
      → (acted_by (windows_command Dlw test cs) s).current ≡ Some id
  hidden_current id small kept current = at (list_any test cs)
    where
      at : (b : Bool) → (acted_by (if b then Dlw (windows_byte (names test cs)) ∷ [] else []) s).current ≡ Some id
      at true =
          ap (current_without (windows_byte (names test cs))) current
          ∙ ap (λ (b : Bool). if b then None else Some id) (named_is (names test cs) id small ∙ kept)
      at false = current

  pub shown_windows : (id : ℕ) → id < 8 → (acted_by (windows_command Dsw test cs) s).windows id ≡ if_shown (names test cs id) (s.windows id)
  shown_windows id small = at (list_any test cs) refl
    where
      at : (b : Bool) → list_any test cs ≡ b
          → (acted_by (if b then Dsw (windows_byte (names test cs)) ∷ [] else []) s).windows id ≡ if_shown (names test cs id) (s.windows id)
      at true some = ap (λ (b : Bool). if_shown b (s.windows id)) (named_is (names test cs) id small)
      at false none = ap (λ (b : Bool). if_shown b (s.windows id)) (sym (none_named test cs none id))

  pub shown_current : (acted_by (windows_command Dsw test cs) s).current ≡ s.current
  shown_current = at (list_any test cs)
    where
      at : (b : Bool) → (acted_by (if b then Dsw (windows_byte (names test cs)) ∷ [] else []) s).current ≡ s.current
      at true = refl
      at false = refl

-- what a delay puts off shows its window
pub delay_windows : (o : Option Caption) (s : ScreenState) (id : ℕ) → id < 8 → (delay_shows o s).windows id ≡ if_shown (delay_names o id) (s.windows id)
delay_windows None s id small = refl
delay_windows (Some c) s id small = ap (λ (b : Bool). if_shown b (s.windows id)) (named_is (λ i. c.id == i) id small)

pub delay_current : (o : Option Caption) (s : ScreenState) → (delay_shows o s).current ≡ s.current
delay_current None s = refl
delay_current (Some c) s = refl

-- showing twice is showing once
pub shown_either : (a b : Bool) (w : Option WindowState) → (a || b) ≡ true → if_shown b (if_shown a w) ≡ option_map (with_visibility true) w
shown_either true true None some = refl
shown_either true true (Some w) some = refl
shown_either true false w some = refl
shown_either false true w some = refl
shown_either false false w some = cc

pub shown_neither : (a b : Bool) (w : Option WindowState) → a ≡ false → b ≡ false → if_shown b (if_shown a w) ≡ w
shown_neither a b w first second = rw (first, second) refl

pub shown_nothing : (b : Bool) (w : Option WindowState) → w ≡ None → if_shown b w ≡ None
shown_nothing true w is = ap (option_map (with_visibility true)) is
shown_nothing false w is = is
