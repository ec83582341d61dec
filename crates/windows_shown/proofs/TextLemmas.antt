-- What stands in a frame to load a caption goes to its window alone, where that is current.
use Rattle.std.proofs.Common.{◌≡◌, ◌∙◌, ℕ, ◌==◌, ◌||◌, Bool, true, false, if◌then◌else◌, List, [], ◌∷◌, Option, Some, refl, sym, ap}
use Rattle.std.specs.Prelude.{option_map}
use Rattle.std.specs.List.{AllByRecursion}
use Rattle.std.proofs.lemmas.Bool.{eqb-true}
use Rattle.dtvcc_codes.specs.declared.commands.Command.{Command}
use Rattle.dtvcc_codes.specs.declared.commands.Command.TheVariants.{Put, Bs, Ff, Cr, Hcr, Spa, Spc, Spl, Swa}
use Rattle.dtvcc_codes.specs.declared.windows.Definition.{Definition}
use Rattle.dtvcc_windows.specs.Defining.{defined}
use Rattle.dtvcc_windows.specs.Windows.{WindowState}
use Rattle.dtvcc_screen.specs.Commands.{edited_by, on_screen, with_definition}
use Rattle.dtvcc_screen.specs.Laws.{is_text}
use Rattle.dtvcc_screen.specs.Screens.{ScreenState, on_current, on_window}
use Rattle.windows_shown.proofs.CaptionLoads.{edits, in_frame, is_text_at, text_acts}

-- a command of text goes to the current window
pub text_goes : (command : Command) (s : ScreenState) → is_text command ≡ true → on_screen command s ≡ on_current (edited_by command) s
text_goes (Put ch) s is = refl
text_goes Bs s is = refl
text_goes Ff s is = refl
text_goes Cr s is = refl
text_goes Hcr s is = refl
text_goes (Spa pen) s is = refl
text_goes (Spc colors) s is = refl
text_goes (Spl row col) s is = refl
text_goes (Swa attributes) s is = refl
text_goes _ s is = cc

-- one window is another one, by its id
at_id : (same : Bool) (i id : ℕ) (f : Option WindowState → Option WindowState) (windows : ℕ → Option WindowState) → (i == id) ≡ same
    → (if same then f (windows id) else windows i) ≡ (if same then f (windows i) else windows i)
at_id true i id f windows is = ap (λ (n : ℕ). f (windows n)) (sym (eqb-true i id is))
at_id false i id f windows is = refl

same_both : (b : Bool) (w : Option WindowState) → w ≡ (if b then w else w)
same_both true w = refl
same_both false w = refl

-- a change after another
joined : (b : Bool) (f : Option WindowState → Option WindowState) (x y z : Option WindowState) → x ≡ (if b then y else z)
    → (if b then f x else x) ≡ (if b then f y else z)
joined true f x y z is = ap f is
joined false f x y z is = is

-- a command of text that stands in the frame, or not
one_windows : (b : Bool) (command : Command) (id : ℕ) (s : ScreenState) (i : ℕ) → is_text command ≡ true → s.current ≡ Some id
    → (if b then on_screen command s else s).windows i
    ≡ (if i == id then (if b then option_map (edited_by command) (s.windows i) else s.windows i) else s.windows i)
one_windows false command id s i text current = same_both (i == id) (s.windows i)
one_windows true command id s i text current =
    ap (λ (t : ScreenState). t.windows i) (text_goes command s text)
    ∙ ap (λ (o : Option ℕ). on_window o (edited_by command) s.windows i) current
    ∙ at_id (i == id) i id (option_map (edited_by command)) s.windows refl

one_current : (b : Bool) (command : Command) (id : ℕ) (s : ScreenState) → is_text command ≡ true → s.current ≡ Some id
    → (if b then on_screen command s else s).current ≡ Some id
one_current false command id s text current = current
one_current true command id s text current = ap (λ (t : ScreenState). t.current) (text_goes command s text) ∙ current

abbrev pub AreTexts : List (Command × ℕ) → Type 0
AreTexts us = AllByRecursion (λ (u : Command × ℕ). is_text u.0 ≡ true) us

-- text, where its window is current
record Acts (frame id : ℕ) (us : List (Command × ℕ)) (s : ScreenState) : Type 0 where
  windows : (i : ℕ) → (text_acts frame us s).windows i ≡ (if i == id then edits (in_frame frame) us (s.windows i) else s.windows i)
  current : (text_acts frame us s).current ≡ Some id

acts : (frame id : ℕ) (us : List (Command × ℕ)) (s : ScreenState) → AreTexts us → s.current ≡ Some id → Acts frame id us s
acts frame id [] s texts current = record { windows = λ i. same_both (i == id) (s.windows i); current = current }
acts frame id (u ∷ us) s texts current =
    let t : ScreenState = if u.1 == frame then on_screen u.0 s else s in
    let rest = acts frame id us t texts.1 (one_current (u.1 == frame) u.0 id s texts.0 current) in
    record {
      windows = λ i. rest.windows i
          ∙ joined (i == id) (edits (in_frame frame) us) (t.windows i) (if u.1 == frame then option_map (edited_by u.0) (s.windows i) else s.windows i)
          (s.windows i) (one_windows (u.1 == frame) u.0 id s i texts.0 current);
      current = rest.current;
    }

-- where no text stands in the frame
pub idle_text : (frame : ℕ) (us : List (Command × ℕ)) (s : ScreenState) → is_text_at frame us ≡ false → text_acts frame us s ≡ s
idle_text frame [] s none = refl
idle_text frame (u ∷ us) s none = at (u.1 == frame) none (λ rest. idle_text frame us s rest)
  where
    at : (b : Bool) → (b || is_text_at frame us) ≡ false → (is_text_at frame us ≡ false → text_acts frame us s ≡ s)
        → text_acts frame us (if b then on_screen u.0 s else s) ≡ s
    at true none rest = cc
    at false none rest = rest none

pub idle_edits : (frame : ℕ) (us : List (Command × ℕ)) (w : Option WindowState) → is_text_at frame us ≡ false → edits (in_frame frame) us w ≡ w
idle_edits frame [] w none = refl
idle_edits frame (u ∷ us) w none = at (u.1 == frame) none (λ rest. idle_edits frame us w rest)
  where
    at : (b : Bool) → (b || is_text_at frame us) ≡ false → (is_text_at frame us ≡ false → edits (in_frame frame) us w ≡ w)
        → edits (in_frame frame) us (if b then option_map (edited_by u.0) w else w) ≡ w
    at true none rest = cc
    at false none rest = rest none

-- DefineWindow, where it stands in the frame, and text after it
pub record LoadActs (b : Bool) (frame id : ℕ) (d : Definition) (us : List (Command × ℕ)) (s : ScreenState) : Type 0 where
  pub windows : (i : ℕ) → (text_acts frame us (if b then with_definition d s else s)).windows i
      ≡ (if i == id then edits (in_frame frame) us (if b then Some (defined d (s.windows i)) else s.windows i) else s.windows i)
  pub idle : (b || is_text_at frame us) ≡ false → text_acts frame us (if b then with_definition d s else s) ≡ s
  pub busy : (b || is_text_at frame us) ≡ true → (text_acts frame us (if b then with_definition d s else s)).current ≡ Some id

pub load_acts_so : (b : Bool) (frame id : ℕ) (d : Definition) (us : List (Command × ℕ)) (s : ScreenState) → d.id ≡ id → AreTexts us
    → (b ≡ false → is_text_at frame us ≡ true → s.current ≡ Some id) → LoadActs b frame id d us s
load_acts_so true frame id d us s is texts current =
    let t : ScreenState = with_definition d s in
    let all = acts frame id us t texts (ap Some is) in
    record {
      windows = λ i. all.windows i
          ∙ joined (i == id) (edits (in_frame frame) us) (t.windows i) (Some (defined d (s.windows i))) (s.windows i)
          (ap (λ (n : ℕ). if i == n then Some (defined d (s.windows n)) else s.windows i) is
          ∙ at_id (i == id) i id (λ w. Some (defined d w)) s.windows refl);
      idle = λ none. cc;
      busy = λ some. all.current;
    }
load_acts_so false frame id d us s is texts current = at (is_text_at frame us) refl
  where
    at : (b : Bool) → is_text_at frame us ≡ b → LoadActs false frame id d us s
    at true some =
        let all = acts frame id us s texts (current refl some) in
        record { windows = all.windows; idle = λ none. cc; busy = λ some. all.current }
    at false none = record {
      windows = λ i. ap (λ (t : ScreenState). t.windows i) (idle_text frame us s none)
          ∙ same_both (i == id) (s.windows i)
          ∙ ap (λ (w : Option WindowState). if i == id then w else s.windows i) (sym (idle_edits frame us (s.windows i) none));
      idle = λ same. idle_text frame us s none;
      busy = λ some. cc;
    }
