-- Believed in part: the program's answer stands on some of these definitions.
-- The commands that bytes can spell, by the range of each of their fields (CTA-708-E, 7.1, and the command descriptions).
use Rattle.std.specs.Prelude.{◌<◌, ◌≤◌, Bool, true, false, ⊤, Some, None, IsSome}
use Rattle.dtvcc_codes.specs.declared.commands.Command.{Command}
use Rattle.dtvcc_codes.specs.declared.commands.Command.TheVariants.{Put, Cw, Clw, Dsw, Hdw, Tgw, Dlw, Dly, Spa, Spc, Spl, Swa, Df, Skipped}
use Rattle.dtvcc_codes.specs.declared.pens.Fill.{Fill}
use Rattle.dtvcc_codes.specs.declared.pens.PenAttr.{PenAttr}
use Rattle.dtvcc_codes.specs.declared.pens.PenColors.{PenColors}
use Rattle.dtvcc_codes.specs.declared.pens.Rgb.{Rgb}
use Rattle.dtvcc_codes.specs.declared.windows.Definition.{Definition}
use Rattle.dtvcc_codes.specs.declared.windows.WinAttr.{WinAttr}
use Rattle.dtvcc_codes.specs.CharacterSpellings.{dtvcc_spelling}

-- a colour of two bits for each part
pub record IsRgb (rgb : Rgb) : Type 0 where
  pub r : rgb.r < 4
  pub g : rgb.g < 4
  pub b : rgb.b < 4

-- such a colour, and an opacity of two bits
pub record IsFill (fill : Fill) : Type 0 where
  pub opacity : fill.opacity < 4
  pub r : fill.r < 4
  pub g : fill.g < 4
  pub b : fill.b < 4

-- what SetPenAttributes can say
pub record IsPenAttr (pen : PenAttr) : Type 0 where
  pub size : pen.size < 4
  pub font : pen.font < 8
  pub tag : pen.tag < 16
  pub offset : pen.offset < 4
  pub edge : pen.edge < 8

-- what SetPenColor can say
pub record IsPenColors (colors : PenColors) : Type 0 where
  pub fg : IsFill colors.fg
  pub bg : IsFill colors.bg
  pub edge : IsRgb colors.edge

-- what SetWindowAttributes can say
pub record IsWinAttr (attributes : WinAttr) : Type 0 where
  pub justify : attributes.justify < 4
  pub print : attributes.print < 4
  pub scroll : attributes.scroll < 4
  pub effect : attributes.effect < 4
  pub effect_dir : attributes.effect_dir < 4
  pub effect_speed : attributes.effect_speed < 16
  pub fill : IsFill attributes.fill
  pub border_kind : attributes.border_kind < 8
  pub border : IsRgb attributes.border

-- what DefineWindow can say
pub record IsDefinition (definition : Definition) : Type 0 where
  pub id : definition.id < 8
  pub priority : definition.priority < 8
  pub av : definition.av < 128
  pub ah : definition.ah < 256
  pub anchor : definition.anchor < 16
  pub some_rows : 1 ≤ definition.rows
  pub rows : definition.rows ≤ 16
  pub some_cols : 1 ≤ definition.cols
  pub cols : definition.cols ≤ 64
  pub ws : definition.ws < 8
  pub ps : definition.ps < 8

-- a command that bytes can spell
abbrev pub IsSpellable : Command → Type 0
IsSpellable (Put None) = ⊤
IsSpellable (Put (Some ch)) = IsSome (dtvcc_spelling ch)
IsSpellable (Cw id) = id < 8
IsSpellable (Clw windows) = windows < 256
IsSpellable (Dsw windows) = windows < 256
IsSpellable (Hdw windows) = windows < 256
IsSpellable (Tgw windows) = windows < 256
IsSpellable (Dlw windows) = windows < 256
IsSpellable (Dly tenths) = tenths < 256
IsSpellable (Spa pen) = IsPenAttr pen
IsSpellable (Spc colors) = IsPenColors colors
IsSpellable (Spl row col) = (row < 16) × (col < 64)
IsSpellable (Swa attributes) = IsWinAttr attributes
IsSpellable (Df definition) = IsDefinition definition
IsSpellable _ = ⊤

-- the command is passed over
abbrev pub is_skipped : Command → Bool
is_skipped Skipped = true
is_skipped _ = false
