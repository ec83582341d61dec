-- Text that goes to a hidden window shows nothing.
use Rattle.std.proofs.Common.{◌≡◌, ℕ, ◌+◌, ◌==◌, Bool, true, false, if◌then◌else◌, Option, Some, None, is_some, option_map, refl, sym, ap, subst, ◌∙◌, arith}
use Rattle.std.proofs.lemmas.Bool.Decides.{nat_tests}
use Rattle.dtvcc_codes.specs.declared.commands.Command.{Command}
use Rattle.dtvcc_codes.specs.declared.commands.Command.TheVariants.{Put, Bs, Ff, Cr, Hcr, Spa, Spc, Spl, Swa}
use Rattle.dtvcc_windows.specs.Showing.{ShownWindow, as_shown, shown}
use Rattle.dtvcc_windows.specs.Windows.{WindowState}
use Rattle.dtvcc_screen.specs.Commands.{edited_by, on_screen}
use Rattle.dtvcc_screen.specs.Laws.{IsCurrentHidden, is_text}
use Rattle.dtvcc_screen.specs.Shown.{LooksSame, grids}
use Rattle.dtvcc_screen.specs.Screens.{ScreenState, on_current, on_window}

-- a choice of two windows that are as visible
as_visible : (b : Bool) (one other : WindowState) (visible : Bool) → one.visible ≡ visible → other.visible ≡ visible → (if b then one else other).visible ≡ visible
as_visible true one other visible a o = a
as_visible false one other visible a o = o

-- text leaves a window as visible as it was
text_keeps : (command : Command) (w : WindowState) → (edited_by command w).visible ≡ w.visible
text_keeps (Put ch) w = as_visible (w.col == w.definition.cols) w _ w.visible refl refl
text_keeps Bs w = as_visible (w.col == 0) w _ w.visible refl refl
text_keeps Ff w = refl
text_keeps Cr w = as_visible (w.row + 1 == w.definition.rows) _ _ w.visible refl refl
text_keeps Hcr w = refl
text_keeps (Spa pen) w = refl
text_keeps (Spc colors) w = refl
text_keeps (Spl row col) w = refl
text_keeps (Swa attributes) w = refl
text_keeps _ w = refl

-- it goes to the current window
text_goes : (command : Command) (s : ScreenState) → is_text command ≡ true → on_screen command s ≡ on_current (edited_by command) s
text_goes (Put ch) s is = refl
text_goes Bs s is = refl
text_goes Ff s is = refl
text_goes Cr s is = refl
text_goes Hcr s is = refl
text_goes (Spa pen) s is = refl
text_goes (Spc colors) s is = refl
text_goes (Spl row col) s is = refl
text_goes (Swa attributes) s is = refl
text_goes _ s is = cc

-- a hidden window that stays hidden
hidden_at : (visible : Bool) (seen : ShownWindow) → (if visible then Some seen else None) ≡ None → visible ≡ false
hidden_at true seen is = cc
hidden_at false seen is = refl

stays_hidden : (edit : WindowState → WindowState) → ((w : WindowState) → (edit w).visible ≡ w.visible) → (window : Option WindowState)
    → shown window ≡ None → shown (option_map edit window) ≡ None
stays_hidden edit keeps None is = refl
stays_hidden edit keeps (Some w) is =
    ap (λ (b : Bool). if b then Some (as_shown (edit w)) else None) (keeps w ∙ hidden_at w.visible (as_shown w) is)

-- of each window the same is seen
seen_at : (same : Bool) (i id : ℕ) (edit : WindowState → WindowState) (windows : ℕ → Option WindowState) → (i == id) ≡ same
    → shown (windows id) ≡ None → shown (option_map edit (windows id)) ≡ None
    → shown (if same then option_map edit (windows id) else windows i) ≡ shown (windows i)
seen_at true i id edit windows is hidden stays =
    let same : i ≡ id = grind (arith, nat_tests) in
    stays ∙ sym hidden ∙ ap (λ (n : ℕ). shown (windows n)) (sym same)
seen_at false i id edit windows is hidden stays = refl

on_hidden : (edit : WindowState → WindowState) → ((w : WindowState) → (edit w).visible ≡ w.visible) → (current : Option ℕ)
    → (windows : ℕ → Option WindowState) → ((id : ℕ) → current ≡ Some id → shown (windows id) ≡ None) → (i : ℕ)
    → shown (on_window current edit windows i) ≡ shown (windows i)
on_hidden edit keeps None windows hidden i = refl
on_hidden edit keeps (Some id) windows hidden i =
    seen_at (i == id) i id edit windows refl (hidden id refl) (stays_hidden edit keeps (windows id) (hidden id refl))

pub hidden_shows_nothing : (command : Command) (s : ScreenState) (id : ℕ) → is_text command ≡ true → IsCurrentHidden s
    → grids (on_screen command s) id ≡ grids s id
hidden_shows_nothing command s id is hidden =
    ap (λ (t : ScreenState). grids t id) (text_goes command s is)
    ∙ on_hidden (edited_by command) (text_keeps command) s.current s.windows hidden id

-- an edit of a current window of which nothing is shown
none_shown : (seen : Option ShownWindow) → is_some seen ≡ false → seen ≡ None
none_shown None is = refl
none_shown (Some seen) is = cc

pub edit_unseen : (command : Command) (s t : ScreenState) (id : ℕ) (window : Option WindowState) → s.current ≡ Some id → s.windows id ≡ window
    → is_some (shown window) ≡ false → t ≡ on_current (edited_by command) s → LooksSame s t
edit_unseen command s t id window current here hidden is i =
    ap (λ (u : ScreenState). grids u i) is ∙ on_hidden (edited_by command) (text_keeps command) s.current s.windows unseen i where
      at : (n : ℕ) → id ≡ n → shown (s.windows n) ≡ None
      at n same = subst (λ (m : ℕ). shown (s.windows m) ≡ None) same (ap shown here ∙ none_shown (shown window) hidden)

      inside : (n : ℕ) → Some id ≡ Some n → id ≡ n
      inside n same = cc

      unseen : (n : ℕ) → s.current ≡ Some n → shown (s.windows n) ≡ None
      unseen n is_current = at n (inside n (sym current ∙ is_current))
