-- Believed: the program's answer stands on these definitions.
-- How the cells of a screen are written: which are written alike, and the character of each.
use Rattle.std.specs.Prelude.{ℕ, ◌==◌, ◌&&◌, Bool}
use Rattle.std.specs.Bool.{beq}
use Rattle.line21_codes.specs.SameStyles.{same_style}
use Rattle.line21_codes.specs.declared.styles.Cell.{Cell}
use Rattle.dtvcc_codes.specs.declared.pens.Fill.{Fill}
use Rattle.dtvcc_codes.specs.declared.pens.PenAttr.{PenAttr}
use Rattle.dtvcc_codes.specs.declared.pens.Rgb.{Rgb}
use Rattle.dtvcc_windows.specs.declared.cells.DCell.{DCell}

pub record Writing (C : Type 0) : Type 0 where
  pub alike : C → C → Bool
  pub ch : C → ℕ

-- cells of line 21 are written alike in one style (CTA-608-E, mid-row codes and preamble address codes)
abbrev pub in_styles : Writing Cell
in_styles = record { alike = λ a b. same_style a.style b.style; ch = λ cell. cell.ch }

-- a window's cells with the same attributes of the pen, in the same colours (CTA-708-E, pens)
abbrev pub same_rgb : Rgb → Rgb → Bool
same_rgb a b = a.r == b.r && (a.g == b.g && a.b == b.b)

abbrev pub same_fill : Fill → Fill → Bool
same_fill a b = a.opacity == b.opacity && (a.r == b.r && (a.g == b.g && a.b == b.b))

abbrev pub same_pen : PenAttr → PenAttr → Bool
same_pen a b =
    a.size == b.size
    && (a.font == b.font
    && (a.tag == b.tag && (a.offset == b.offset && (beq a.italic b.italic && (beq a.underline b.underline && a.edge == b.edge)))))

unfoldable pub written_alike : DCell → DCell → Bool
written_alike a b =
    same_pen a.pen b.pen
    && (same_fill a.colors.fg b.colors.fg && (same_fill a.colors.bg b.colors.bg && same_rgb a.colors.edge b.colors.edge))

abbrev pub in_pens : Writing DCell
in_pens = record { alike = written_alike; ch = λ cell. cell.ch }
