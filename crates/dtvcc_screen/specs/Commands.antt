-- Believed in part: the program's answer stands on some of these definitions.
-- What each command does to the screen of its service (CTA-708-E, the C0 codes and the commands of C1).
use Rattle.std.specs.Prelude.{ℕ, ◌/◌, ◌%◌, ◌^◌, ◌==◌, not, Bool, true, false, if◌then◌else◌, Option, Some, None, is_some, option_map}
use Rattle.dtvcc_codes.specs.declared.commands.Command.{Command}
use Rattle.dtvcc_codes.specs.declared.commands.Command.TheVariants.{Put, Etx, Bs, Ff, Cr, Hcr, Cw, Clw, Dsw, Hdw, Tgw, Dlw, Dly, Dlc, Rst, Spa, Spc, Spl, Swa, Df, Skipped}
use Rattle.dtvcc_codes.specs.declared.windows.Definition.{Definition}
use Rattle.dtvcc_windows.specs.Defining.{defined}
use Rattle.dtvcc_windows.specs.Text.{carriage_returned, cleared, form_fed, located, row_returned, window_backspaced, with_character}
use Rattle.dtvcc_windows.specs.Windows.{WindowState, with_attributes, with_colors, with_visibility, with_window_pen}
use Rattle.dtvcc_screen.specs.Screens.{ScreenState, on_current, on_windows, with_window}

-- bit n of a byte of windows names window n
abbrev pub is_named : ℕ → ℕ → Bool
is_named bits id = bits / 2 ^ id % 2 == 1

-- the windows that are there and named change; the bits of others do nothing
abbrev pub on_named : ℕ → (Option WindowState → Option WindowState) → ScreenState → ScreenState
on_named bits change s = record s { windows = on_windows (is_named bits) change s.windows }

-- DefineWindow makes its window, or changes it, and makes it current
abbrev pub with_definition : Definition → ScreenState → ScreenState
with_definition d s = record { windows = with_window d.id (Some (defined d (s.windows d.id))) s.windows; current = Some d.id }

-- SetCurrentWindow: of a window that isn't there it is ignored
abbrev pub with_current : ℕ → ScreenState → ScreenState
with_current id s = record s { current = if is_some (s.windows id) then Some id else s.current }

-- ToggleWindows: what is shown is hidden, and what is hidden shown
abbrev pub toggled : WindowState → WindowState
toggled w = with_visibility (not w.visible) w

-- a deleted window is there no longer
abbrev pub deleted : Option WindowState → Option WindowState
deleted window = None

-- a current window that is deleted is current no longer
abbrev pub current_without : ℕ → Option ℕ → Option ℕ
current_without bits None = None
current_without bits (Some id) = if is_named bits id then None else Some id

-- what a command of text does to the current window
abbrev pub edited_by : Command → WindowState → WindowState
edited_by (Put ch) = with_character ch
edited_by Bs = window_backspaced
edited_by Ff = form_fed
edited_by Cr = carriage_returned
edited_by Hcr = row_returned
edited_by (Spa pen) = with_window_pen pen
edited_by (Spc colors) = with_colors colors
edited_by (Spl row col) = located row col
edited_by (Swa attributes) = with_attributes attributes
edited_by _ = λ w. w

-- one equation for each command. Delay, DelayCancel and Reset change no window by themselves, and the end of text, as a code
-- without a meaning, does nothing
abbrev pub on_screen : Command → ScreenState → ScreenState
on_screen (Df d) s = with_definition d s
on_screen (Cw id) s = with_current id s
on_screen (Clw bits) s = on_named bits (option_map cleared) s
on_screen (Dsw bits) s = on_named bits (option_map (with_visibility true)) s
on_screen (Hdw bits) s = on_named bits (option_map (with_visibility false)) s
on_screen (Tgw bits) s = on_named bits (option_map toggled) s
on_screen (Dlw bits) s = record (on_named bits deleted s) { current = current_without bits s.current }
on_screen (Put ch) s = on_current (with_character ch) s
on_screen Bs s = on_current window_backspaced s
on_screen Ff s = on_current form_fed s
on_screen Cr s = on_current carriage_returned s
on_screen Hcr s = on_current row_returned s
on_screen (Spa pen) s = on_current (with_window_pen pen) s
on_screen (Spc colors) s = on_current (with_colors colors) s
on_screen (Spl row col) s = on_current (located row col) s
on_screen (Swa attributes) s = on_current (with_attributes attributes) s
on_screen (Dly tenths) s = s
on_screen Dlc s = s
on_screen Rst s = s
on_screen Etx s = s
on_screen Skipped s = s
