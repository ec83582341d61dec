-- The windows of a list: what a read and a write of a place are to them, and a loop over all places.
use Rattle.std.proofs.Common.{◌≡◌, ℕ, ◌+◌, ◌<◌, ◌≤◌, ◌==◌, nat_lt, Bool, true, false, if◌then◌else◌, List, [], ◌∷◌, ◌++◌, Option, Some, None, is_some, option_map, get_or, length, refl, sym, ap, subst, ◌∙◌, arith, zero, suc}
use Rattle.std.proofs.Math.ListN.{set}
use Rattle.std.proofs.Math.Path.{fun_ext}
use Rattle.std.proofs.lemmas.Bool.Decides.{nat_tests}
use Rattle.std.proofs.lemmas.Option.{slice_get_past, slice_get_read}
use Rattle.std.specs.List.{slice_get}
use Rattle.dtvcc_windows.specs.declared.window.Window.{Window}
use Rattle.dtvcc_codes.specs.declared.windows.Definition.{Definition}
use Rattle.dtvcc_windows.specs.Defining.{defined}
use Rattle.dtvcc_windows.specs.Objects.{is_live, state_of, window_of}
use Rattle.dtvcc_windows.specs.Windows.{WindowState}
use Rattle.dtvcc_screen.specs.declared.change.Change.{Change}
use Rattle.dtvcc_screen.specs.declared.change.Change.TheVariants.{Clear, Show, Hide, Toggle, Delete}
use Rattle.dtvcc_screen.specs.Changes.{changed_by}
use Rattle.dtvcc_screen.specs.Objects.{window_at, windows_of}
use Rattle.dtvcc_screen.specs.Commands.{with_current, with_definition}
use Rattle.dtvcc_screen.specs.Screens.{ScreenState, Windows, no_windows, on_current, on_window, on_windows, with_window}

-- a place is read
pub window_here : (windows : List Window) (id : ℕ) (window : Window) → id < length windows → window ≡ get_or windows id window
    → windows_of windows id ≡ window_of window
unfolding windows_of
window_here windows id window within is = ap window_at (slice_get_read windows (length windows) id window refl within is)

-- past the last place
pub window_past : (windows : List Window) (id : ℕ) → length windows ≤ id → windows_of windows id ≡ None
unfolding windows_of
window_past windows id past = ap window_at (slice_get_past windows id past)

-- a place is written
set_same : (windows : List Window) (id : ℕ) (window : Window) → id < length windows → slice_get (set windows id window) id ≡ Some window
set_same [] id window within = absurd (omega arith)
set_same (x ∷ xs) zero window within = refl
set_same (x ∷ xs) (suc id) window within = set_same xs id window (omega arith)

set_other : (windows : List Window) (id : ℕ) (window : Window) (i : ℕ) → (i ≡ id → ⊥) → slice_get (set windows id window) i ≡ slice_get windows i
set_other [] id window i other = refl
set_other (x ∷ xs) zero window zero other = absurd (other refl)
set_other (x ∷ xs) zero window (suc i) other = refl
set_other (x ∷ xs) (suc id) window zero other = refl
set_other (x ∷ xs) (suc id) window (suc i) other = set_other xs id window i (λ same. other (ap suc same))

set_at : (windows : List Window) (id : ℕ) (window : Window) (i : ℕ) → id < length windows
    → window_at (slice_get (set windows id window) i) ≡ (if i == id then window_of window else window_at (slice_get windows i))
set_at windows id window i within = by_test (i == id) refl where
  by_test : (same : Bool) → (i == id) ≡ same
      → window_at (slice_get (set windows id window) i) ≡ (if same then window_of window else window_at (slice_get windows i))
  by_test true is =
      let same : i ≡ id = grind (arith, nat_tests) in
      subst (λ (n : ℕ). window_at (slice_get (set windows id window) n) ≡ window_of window) (sym same)
      (ap window_at (set_same windows id window within))
  by_test false is = ap window_at (set_other windows id window i (λ same. grind (arith, nat_tests)))

pub windows_set : (windows : List Window) (id : ℕ) (window : Window) → id < length windows
    → windows_of (set windows id window) ≡ with_window id (window_of window) (windows_of windows)
unfolding windows_of
windows_set windows id window within = fun_ext (λ i. set_at windows id window i within)

-- one more place without a window
push_at : (windows : List Window) (window : Window) → ((i : ℕ) → window_at (slice_get windows i) ≡ None) → window_of window ≡ None
    → (i : ℕ) → window_at (slice_get (windows ++ window ∷ []) i) ≡ None
push_at [] window none new zero = new
push_at [] window none new (suc i) = refl
push_at (x ∷ xs) window none new zero = none zero
push_at (x ∷ xs) window none new (suc i) = push_at xs window (λ k. none (suc k)) new i

pub windows_push : (windows : List Window) (window : Window) → windows_of windows ≡ no_windows → window_of window ≡ None
    → windows_of (windows ++ window ∷ []) ≡ no_windows
unfolding windows_of
windows_push windows window none new = fun_ext (λ i. push_at windows window (λ k. ap (λ (ws : Windows). ws k) none) new i)

pub windows_empty : windows_of [] ≡ no_windows
unfolding windows_of
windows_empty = refl

-- the windows below an id are the new ones, the others still the old
abbrev pub upto : ℕ → Windows → Windows → Windows
upto n new old i = if nat_lt i n then new i else old i

-- the next window is the new one
upto_more : (id : ℕ) (new old : Windows) → with_window id (new id) (upto id new old) ≡ upto (id + 1) new old
upto_more id new old = fun_ext (λ i. grind (arith, nat_tests))

upto_here : (id : ℕ) (new old : Windows) → upto id new old id ≡ old id
upto_here id new old = grind (arith, nat_tests)

upto_same : (id : ℕ) (new old : Windows) → new id ≡ old id → upto id new old ≡ upto (id + 1) new old
upto_same id new old same = fun_ext (λ i. grind (arith, nat_tests))

-- a window that is named is changed
pub step_changed : (is_named : ℕ → Bool) (change : Change) (old : Windows) (windows : List Window) (id : ℕ) (was now : Window)
    → windows_of windows ≡ upto id (on_windows is_named (changed_by change) old) old → id < length windows → is_named id ≡ true
    → was ≡ get_or windows id was → window_of now ≡ changed_by change (window_of was)
    → windows_of (set windows id now) ≡ upto (id + 1) (on_windows is_named (changed_by change) old) old
step_changed is_named change old windows id was now so_far within named read changed =
    let new : Windows = on_windows is_named (changed_by change) old in
    let here : window_of was ≡ old id =
    sym (window_here windows id was within read) ∙ ap (λ (ws : Windows). ws id) so_far ∙ upto_here id new old in
    let made : window_of now ≡ new id = changed ∙ ap (changed_by change) here ∙ rw named refl in
    windows_set windows id now within
    ∙ ap (λ (ws : Windows). with_window id (window_of now) ws) so_far
    ∙ ap (λ (w : Option WindowState). with_window id w (upto id new old)) made
    ∙ upto_more id new old

-- and one that isn't stays
pub step_kept : (is_named : ℕ → Bool) (change : Change) (old : Windows) (windows : List Window) (id : ℕ)
    → windows_of windows ≡ upto id (on_windows is_named (changed_by change) old) old → is_named id ≡ false
    → windows_of windows ≡ upto (id + 1) (on_windows is_named (changed_by change) old) old
step_kept is_named change old windows id so_far named =
    so_far ∙ upto_same id (on_windows is_named (changed_by change) old) old (rw named refl)

changed_none : (change : Change) → changed_by change None ≡ None
changed_none Clear = refl
changed_none Show = refl
changed_none Hide = refl
changed_none Toggle = refl
changed_none Delete = refl

-- after the last one there is none
pub upto_all : (is_named : ℕ → Bool) (change : Change) (windows : List Window) (n : ℕ) → length windows ≤ n
    → upto n (on_windows is_named (changed_by change) (windows_of windows)) (windows_of windows)
    ≡ on_windows is_named (changed_by change) (windows_of windows)
upto_all is_named change windows n past = fun_ext (λ i. at (nat_lt i n) i refl) where
  past_named : (named : Bool) (w : Option WindowState) → w ≡ None → w ≡ (if named then changed_by change w else w)
  past_named true w none = none ∙ sym (changed_none change) ∙ ap (changed_by change) (sym none)
  past_named false w none = refl

  at : (below : Bool) (i : ℕ) → nat_lt i n ≡ below
      → (if below then on_windows is_named (changed_by change) (windows_of windows) i else windows_of windows i)
      ≡ on_windows is_named (changed_by change) (windows_of windows) i
  at true i is = refl
  at false i is = past_named (is_named i) (windows_of windows i) (window_past windows i (grind (arith, nat_tests)))

abbrev pub screen : Windows → Option ℕ → ScreenState
screen windows current = record { windows = windows; current = current }

-- a window that is defined
pub define_screen : (d : Definition) (windows : List Window) (current : Option ℕ) (id : ℕ) (was now : Window) → id ≡ d.id
    → id < length windows → was ≡ get_or windows id was → window_of now ≡ Some (defined d (window_of was))
    → screen (windows_of (set windows id now)) (Some id) ≡ with_definition d (screen (windows_of windows) current)
define_screen d windows current id was now same within read made =
    let changed : windows_of (set windows id now) ≡ with_window id (Some (defined d (windows_of windows id))) (windows_of windows) =
    windows_set windows id now within
    ∙ ap (λ (w : Option WindowState). with_window id w (windows_of windows))
    (made ∙ ap (λ (w : Option WindowState). Some (defined d w)) (sym (window_here windows id was within read))) in
    subst (λ (n : ℕ). screen (windows_of (set windows id now)) (Some id)
    ≡ screen (with_window n (Some (defined d (windows_of windows n))) (windows_of windows)) (Some n))
    same (ap (λ (ws : Windows). screen ws (Some id)) changed)

-- a window that is there is chosen, and one that isn't is not
live_some : (live : Bool) (w : WindowState) → is_some (if live then Some w else None) ≡ live
live_some true w = refl
live_some false w = refl

pub choose_screen : (windows : List Window) (current : Option ℕ) (id given : ℕ) (window : Window) (live : Bool) → id ≡ given
    → id < length windows → window ≡ get_or windows id window → live ≡ is_live window
    → screen (windows_of windows) (if live then Some id else current) ≡ with_current given (screen (windows_of windows) current)
choose_screen windows current id given window live same within read is =
    let test : live ≡ is_some (windows_of windows id) =
    is ∙ sym (live_some (is_live window) (state_of window)) ∙ ap is_some (sym (window_here windows id window within read)) in
    ap (λ (b : Bool). screen (windows_of windows) (if b then Some id else current)) test
    ∙ ap (λ (n : ℕ). with_current n (screen (windows_of windows) current)) same

-- the current window is edited
pub edit_screen : (edit : WindowState → WindowState) (windows : List Window) (current : Option ℕ) (id : ℕ) (was now : Window) → current ≡ Some id
    → id < length windows → was ≡ get_or windows id was → window_of now ≡ option_map edit (window_of was)
    → screen (windows_of (set windows id now)) current ≡ on_current edit (screen (windows_of windows) current)
edit_screen edit windows current id was now is within read made =
    let changed : windows_of (set windows id now) ≡ on_window (Some id) edit (windows_of windows) =
    windows_set windows id now within
    ∙ ap (λ (w : Option WindowState). with_window id w (windows_of windows))
    (made ∙ ap (option_map edit) (sym (window_here windows id was within read))) in
    subst (λ (cur : Option ℕ). screen (windows_of (set windows id now)) cur ≡ screen (on_window cur edit (windows_of windows)) cur)
    (sym is) (ap (λ (ws : Windows). screen ws (Some id)) changed)

-- the window of an id, as it is there
window_when : (live : Bool) (w : WindowState) → live ≡ false → (if live then Some w else None) ≡ None
window_when true w is = cc
window_when false w is = refl

pub window_none : (windows : List Window) (id : ℕ) (window : Window) (live : Bool) → id < length windows → window ≡ get_or windows id window
    → live ≡ is_live window → live ≡ false → windows_of windows id ≡ None
window_none windows id window live within read is dead =
    window_here windows id window within read ∙ window_when (is_live window) (state_of window) (sym is ∙ dead)
