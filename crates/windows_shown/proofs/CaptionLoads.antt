-- Captions with what loads their windows, each command in its frame; what these do to the screen, and to one window by itself.
use Rattle.std.specs.Prelude.{◌≡◌, ℕ, ◌<◌, ◌≤◌, ◌==◌, ◌||◌, nat_lt, Bool, true, false, if◌then◌else◌, List, [], ◌∷◌, Option, Some, option_map, ⊤}
use Rattle.std.proofs.Common.{◌⊎◌}
use Rattle.std.specs.List.{AllByRecursion, list_any}
use Rattle.dtvcc_codes.specs.declared.commands.Command.{Command}
use Rattle.dtvcc_codes.specs.declared.windows.Definition.{Definition}
use Rattle.dtvcc_windows.specs.Defining.{defined}
use Rattle.dtvcc_windows.specs.Windows.{WindowState}
use Rattle.dtvcc_screen.specs.Commands.{edited_by, on_screen, with_definition}
use Rattle.dtvcc_screen.specs.Laws.{is_text}
use Rattle.dtvcc_screen.specs.Screens.{ScreenState}
use Rattle.dtvcc_author.specs.declared.caption.Caption.{Caption}

-- a caption, its DefineWindow with the frame of that, and its commands of text, each with its frame
pub record CaptionLoad : Type 0 where
  pub caption : Caption
  pub definition : Definition
  pub first : ℕ
  pub text : List (Command × ℕ)

abbrev pub captions : List CaptionLoad → List Caption
captions [] = []
captions (g ∷ gs) = g.caption ∷ captions gs

-- it is one of the list
abbrev pub Among : CaptionLoad → List CaptionLoad → Type 0
Among g [] = ⊥
Among g (h ∷ gs) = (g ≡ h) ⊎ Among g gs

-- some text stands in the frame
abbrev pub is_text_at : ℕ → List (Command × ℕ) → Bool
is_text_at frame us = list_any (λ (u : Command × ℕ). u.1 == frame) us

-- something of it stands there
abbrev pub is_at : ℕ → CaptionLoad → Bool
is_at frame g = (g.first == frame) || is_text_at frame g.text

-- what stands in the frame acts on the screen
abbrev pub text_acts : ℕ → List (Command × ℕ) → ScreenState → ScreenState
text_acts frame [] s = s
text_acts frame (u ∷ us) s = text_acts frame us (if u.1 == frame then on_screen u.0 s else s)

abbrev pub load_acts : ℕ → CaptionLoad → ScreenState → ScreenState
load_acts frame g s = text_acts frame g.text (if g.first == frame then with_definition g.definition s else s)

abbrev pub loads_act : ℕ → List CaptionLoad → ScreenState → ScreenState
loads_act frame [] s = s
loads_act frame (g ∷ gs) s = loads_act frame gs (load_acts frame g s)

-- what the text in some frames makes of a window, and what all of a caption does
abbrev pub edits : (ℕ → Bool) → List (Command × ℕ) → Option WindowState → Option WindowState
edits test [] w = w
edits test (u ∷ us) w = edits test us (if test u.1 then option_map (edited_by u.0) w else w)

abbrev pub own_edits : (ℕ → Bool) → CaptionLoad → Option WindowState → Option WindowState
own_edits test g w = edits test g.text (if test g.first then Some (defined g.definition w) else w)

-- one frame, and all before it
abbrev pub in_frame : ℕ → ℕ → Bool
in_frame frame f = f == frame

abbrev pub before : ℕ → ℕ → Bool
before frame f = nat_lt f frame

-- what all that stands in a frame makes of the window of an id
abbrev pub all_edits : ℕ → ℕ → List CaptionLoad → Option WindowState → Option WindowState
all_edits frame id [] w = w
all_edits frame id (g ∷ gs) w = all_edits frame id gs (if id == g.caption.id then own_edits (in_frame frame) g w else w)

-- text of a caption: after its DefineWindow, and before what shows the caption
pub record IsTextOf (g : CaptionLoad) (u : Command × ℕ) : Type 0 where
  pub text : is_text u.0 ≡ true
  pub behind : g.first ≤ u.1
  pub ended : u.1 < g.caption.starts

-- each command stands in no later frame than those after it
abbrev pub AreRising : List (Command × ℕ) → Type 0
AreRising [] = ⊤
AreRising (u ∷ us) = AllByRecursion (λ (v : Command × ℕ). u.1 ≤ v.1) us × AreRising us

-- what loads a caption is in order: its window is defined, hidden, from its LOAD on, and text comes after that
pub record IsOrdered (g : CaptionLoad) : Type 0 where
  pub window : g.definition.id ≡ g.caption.id
  pub hidden : g.definition.visible ≡ false
  pub loaded : g.caption.load ≤ g.first
  pub ended : g.first < g.caption.starts
  pub texts : AllByRecursion (IsTextOf g) g.text
  pub rising : AreRising g.text

-- all of one stands in no later frame than what another begins with
pub record IsBefore (g h : CaptionLoad) : Type 0 where
  pub first : g.first ≤ h.first
  pub text : AllByRecursion (λ (u : Command × ℕ). u.1 ≤ h.first) g.text

abbrev pub AreInOrder : List CaptionLoad → Type 0
AreInOrder [] = ⊤
AreInOrder (g ∷ gs) = IsOrdered g × AllByRecursion (IsBefore g) gs × AreInOrder gs
