-- Believed: the program's answer stands on these definitions.
-- How a command is written (CTA-708-E, 7.1, and the command descriptions). Bits without a meaning are 0.
use Rattle.std.specs.Prelude.{ℕ, ◌+◌, ◌-◌, ◌*◌, ◌/◌, ◌%◌, Bool, if◌then◌else◌, List, [], ◌∷◌, Some, None, unwrap_or}
use Rattle.dtvcc_codes.specs.declared.commands.Command.{Command}
use Rattle.dtvcc_codes.specs.declared.commands.Command.TheVariants.{Put, Etx, Bs, Ff, Cr, Hcr, Cw, Clw, Dsw, Hdw, Tgw, Dlw, Dly, Dlc, Rst, Spa, Spc, Spl, Swa, Df, Skipped}
use Rattle.dtvcc_codes.specs.declared.pens.Fill.{Fill}
use Rattle.dtvcc_codes.specs.declared.pens.PenAttr.{PenAttr}
use Rattle.dtvcc_codes.specs.declared.pens.PenColors.{PenColors}
use Rattle.dtvcc_codes.specs.declared.pens.Rgb.{Rgb}
use Rattle.dtvcc_codes.specs.declared.windows.Definition.{Definition}
use Rattle.dtvcc_codes.specs.declared.windows.WinAttr.{WinAttr}
use Rattle.dtvcc_codes.specs.CharacterSpellings.{dtvcc_spelling}

-- a bit of this value
abbrev pub bit : Bool → ℕ → ℕ
bit on value = if on then value else 0

-- a colour: 00 rr gg bb
abbrev pub rgb_byte : Rgb → ℕ
rgb_byte rgb = rgb.r * 16 + rgb.g * 4 + rgb.b

-- a colour with its opacity: oo rr gg bb
abbrev pub fill_byte : Fill → ℕ
fill_byte fill = fill.opacity * 64 + fill.r * 16 + fill.g * 4 + fill.b

-- SetPenAttributes: tttt oo ss, i u eee fff
abbrev pub pen_bytes : PenAttr → List ℕ
pen_bytes pen =
    (pen.tag * 16 + pen.offset * 4 + pen.size)
    ∷ (bit pen.italic 0x80 + bit pen.underline 0x40 + pen.edge * 8 + pen.font) ∷ []

-- SetPenColor: the foreground, the background and the edge
abbrev pub color_bytes : PenColors → List ℕ
color_bytes colors = fill_byte colors.fg ∷ fill_byte colors.bg ∷ rgb_byte colors.edge ∷ []

-- SetWindowAttributes: the fill; bb rr gg bb, the low bits of the border type and its colour; t w pp ss jj; eeee dd ff
abbrev pub attribute_bytes : WinAttr → List ℕ
attribute_bytes attributes =
    fill_byte attributes.fill
    ∷ (attributes.border_kind % 4 * 64 + rgb_byte attributes.border)
    ∷ (attributes.border_kind / 4 * 128 + bit attributes.wrap 0x40 + attributes.print * 16 + attributes.scroll * 4 + attributes.justify)
    ∷ (attributes.effect_speed * 16 + attributes.effect_dir * 4 + attributes.effect) ∷ []

-- DefineWindow: 00 v r c ppp, p vvvvvvv, hhhhhhhh, aaaa rrrr, 00 cccccc, 00 www ppp
abbrev pub definition_bytes : Definition → List ℕ
definition_bytes definition =
    (bit definition.visible 0x20 + bit definition.row_lock 0x10 + bit definition.col_lock 0x08 + definition.priority)
    ∷ (bit definition.relative 0x80 + definition.av)
    ∷ definition.ah
    ∷ (definition.anchor * 16 + (definition.rows - 1))
    ∷ (definition.cols - 1)
    ∷ (definition.ws * 8 + definition.ps) ∷ []

-- the bytes of a command; a skipped one is not written
unfoldable pub bytes_of_command : Command → List ℕ
bytes_of_command (Put None) = 0x10 ∷ 0x20 ∷ []
bytes_of_command (Put (Some ch)) = unwrap_or (dtvcc_spelling ch) []
bytes_of_command Etx = 0x03 ∷ []
bytes_of_command Bs = 0x08 ∷ []
bytes_of_command Ff = 0x0C ∷ []
bytes_of_command Cr = 0x0D ∷ []
bytes_of_command Hcr = 0x0E ∷ []
bytes_of_command (Cw id) = (0x80 + id) ∷ []
bytes_of_command (Clw windows) = 0x88 ∷ windows ∷ []
bytes_of_command (Dsw windows) = 0x89 ∷ windows ∷ []
bytes_of_command (Hdw windows) = 0x8A ∷ windows ∷ []
bytes_of_command (Tgw windows) = 0x8B ∷ windows ∷ []
bytes_of_command (Dlw windows) = 0x8C ∷ windows ∷ []
bytes_of_command (Dly tenths) = 0x8D ∷ tenths ∷ []
bytes_of_command Dlc = 0x8E ∷ []
bytes_of_command Rst = 0x8F ∷ []
bytes_of_command (Spa pen) = 0x90 ∷ pen_bytes pen
bytes_of_command (Spc colors) = 0x91 ∷ color_bytes colors
bytes_of_command (Spl row col) = 0x92 ∷ row ∷ col ∷ []
bytes_of_command (Swa attributes) = 0x97 ∷ attribute_bytes attributes
bytes_of_command (Df definition) = (0x98 + definition.id) ∷ definition_bytes definition
bytes_of_command Skipped = []
