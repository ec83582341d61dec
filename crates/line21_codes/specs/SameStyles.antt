-- Believed: the program's answer stands on these definitions.
-- Tests of whether two colours, and two styles, are one (CTA-608-E, mid-row codes and preamble address codes).
use Rattle.std.specs.Prelude.{◌&&◌, Bool, true, false}
use Rattle.std.specs.Bool.{beq}
use Rattle.line21_codes.specs.declared.styles.Colour.{Colour}
use Rattle.line21_codes.specs.declared.styles.Colour.TheVariants.{White, Green, Blue, Cyan, Red, Yellow, Magenta}
use Rattle.line21_codes.specs.declared.styles.Style.{Style}

-- two colours are one
unfoldable pub same_colour : Colour → Colour → Bool
same_colour White White = true
same_colour Green Green = true
same_colour Blue Blue = true
same_colour Cyan Cyan = true
same_colour Red Red = true
same_colour Yellow Yellow = true
same_colour Magenta Magenta = true
same_colour _ _ = false

-- two styles are one
unfoldable pub same_style : Style → Style → Bool
same_style s t = same_colour s.colour t.colour && beq s.italic t.italic && beq s.underline t.underline
