-- Believed: the program's answer stands on these definitions.
-- The state of a caption window (CTA-708-E, caption windows and pens).
use Rattle.std.specs.Prelude.{ℕ, Bool}
use Rattle.dtvcc_codes.specs.declared.pens.PenAttr.{PenAttr}
use Rattle.dtvcc_codes.specs.declared.pens.PenColors.{PenColors}
use Rattle.dtvcc_codes.specs.declared.windows.Definition.{Definition}
use Rattle.dtvcc_codes.specs.declared.windows.WinAttr.{WinAttr}
use Rattle.dtvcc_windows.specs.Places.{Cells}

-- the definition that was sent last, whether the window is shown, its attributes and cells, and its pen:
-- the row and the column at which it stands, and the attributes and colours that it writes with
pub record WindowState : Type 0 where
  pub definition : Definition
  pub visible : Bool
  pub attributes : WinAttr
  pub cells : Cells
  pub row : ℕ
  pub col : ℕ
  pub pen : PenAttr
  pub colors : PenColors

-- SetWindowAttributes, SetPenAttributes and SetPenColor replace what they speak of (CTA-708-E, SWA, SPA, SPC)
abbrev pub with_attributes : WinAttr → WindowState → WindowState
with_attributes attributes w = record w { attributes = attributes }

abbrev pub with_window_pen : PenAttr → WindowState → WindowState
with_window_pen pen w = record w { pen = pen }

abbrev pub with_colors : PenColors → WindowState → WindowState
with_colors colors w = record w { colors = colors }

-- DisplayWindows shows the window, HideWindows hides it (CTA-708-E, DSW, HDW)
abbrev pub with_visibility : Bool → WindowState → WindowState
with_visibility visible w = record w { visible = visible }
