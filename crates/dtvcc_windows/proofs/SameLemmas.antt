-- What the code's tests say by which colours, pens, attributes, definitions and cells are the same.
use Rattle.std.proofs.Common.{◌≡◌, ℕ, Bool, Option, Some, None, refl, ap}
use Rattle.std.proofs.lemmas.Bool.Decides.{Decides-and, Decides-eqb, Decides-like}
use Rattle.std.specs.Bool.{Decides}
use Rattle.std.specs.Cmp.{booleans_Decides}
use Rattle.std.specs.Option.{option_eq}
use Rattle.dtvcc_codes.specs.declared.pens.Fill.{Fill}
use Rattle.dtvcc_codes.specs.declared.pens.PenAttr.{PenAttr}
use Rattle.dtvcc_codes.specs.declared.pens.PenColors.{PenColors}
use Rattle.dtvcc_codes.specs.declared.pens.Rgb.{Rgb}
use Rattle.dtvcc_codes.specs.declared.windows.Definition.{Definition}
use Rattle.dtvcc_codes.specs.declared.windows.WinAttr.{WinAttr}
use Rattle.dtvcc_codes.specs.contracts.pens.FillPartialEq.TheImpl as fill
use Rattle.dtvcc_codes.specs.contracts.pens.PenAttrPartialEq.TheImpl as pen
use Rattle.dtvcc_codes.specs.contracts.pens.PenColorsPartialEq.TheImpl as colors
use Rattle.dtvcc_codes.specs.contracts.pens.RgbPartialEq.TheImpl as rgb
use Rattle.dtvcc_codes.specs.contracts.windows.DefinitionPartialEq.TheImpl as definition
use Rattle.dtvcc_codes.specs.contracts.windows.WinAttrPartialEq.TheImpl as attributes
use Rattle.dtvcc_windows.specs.contracts.cells.DCellPartialEq.TheImpl as cell
use Rattle.dtvcc_windows.specs.declared.cells.DCell.{DCell}

-- colours of the same parts are one
rgb_of : ℕ → ℕ → ℕ → Rgb
rgb_of r g b = record { r = r; g = g; b = b }

rgb_of-parts : (x : Rgb) → rgb_of x.r x.g x.b ≡ x
unfolding rgb_of
rgb_of-parts x = refl

Decides-rgb : (x y : Rgb) → Decides (rgb.eq-value.it x y) (x ≡ y)
Decides-rgb x y =
    Decides-like _ (λ (r, (g, b)). cc (rgb_of-parts x, rgb_of-parts y))
    (λ one. (ap (λ (z : Rgb). z.r) one, (ap (λ (z : Rgb). z.g) one, ap (λ (z : Rgb). z.b) one)))
    (Decides-and _ _ (Decides-eqb x.r y.r) (Decides-and _ _ (Decides-eqb x.g y.g) (Decides-eqb x.b y.b)))

-- and fills
fill_of : ℕ → ℕ → ℕ → ℕ → Fill
fill_of opacity r g b = record { opacity = opacity; r = r; g = g; b = b }

fill_of-parts : (x : Fill) → fill_of x.opacity x.r x.g x.b ≡ x
unfolding fill_of
fill_of-parts x = refl

Decides-fill : (x y : Fill) → Decides (fill.eq-value.it x y) (x ≡ y)
Decides-fill x y =
    Decides-like _ (λ (opacity, (r, (g, b))). cc (fill_of-parts x, fill_of-parts y))
    (λ one. (ap (λ (z : Fill). z.opacity) one, (ap (λ (z : Fill). z.r) one, (ap (λ (z : Fill). z.g) one, ap (λ (z : Fill). z.b) one))))
    (Decides-and _ _ (Decides-eqb x.opacity y.opacity) (Decides-and _ _ (Decides-eqb x.r y.r) (Decides-and _ _ (Decides-eqb x.g y.g) (Decides-eqb x.b y.b))))

-- pen attributes
pen_of : ℕ → ℕ → ℕ → ℕ → Bool → Bool → ℕ → PenAttr
pen_of size font tag offset italic underline edge =
    record { size = size; font = font; tag = tag; offset = offset; italic = italic; underline = underline; edge = edge }

pen_of-parts : (x : PenAttr) → pen_of x.size x.font x.tag x.offset x.italic x.underline x.edge ≡ x
unfolding pen_of
pen_of-parts x = refl

Decides-pen : (x y : PenAttr) → Decides (pen.eq-value.it x y) (x ≡ y)
Decides-pen x y =
    Decides-like _ (λ (size, (font, (tag, (offset, (italic, (underline, edge)))))). cc (pen_of-parts x, pen_of-parts y))
    (λ one. (ap (λ (z : PenAttr). z.size) one, (ap (λ (z : PenAttr). z.font) one, (ap (λ (z : PenAttr). z.tag) one, (ap (λ (z : PenAttr). z.offset) one, (ap (λ (z : PenAttr). z.italic) one, (ap (λ (z : PenAttr). z.underline) one, ap (λ (z : PenAttr). z.edge) one)))))))
    (Decides-and _ _ (Decides-eqb x.size y.size) (Decides-and _ _ (Decides-eqb x.font y.font) (Decides-and _ _ (Decides-eqb x.tag y.tag) (Decides-and _ _ (Decides-eqb x.offset y.offset)
    (Decides-and _ _ (booleans_Decides x.italic y.italic) (Decides-and _ _ (booleans_Decides x.underline y.underline) (Decides-eqb x.edge y.edge)))))))

-- pen colours
colors_of : Fill → Fill → Rgb → PenColors
colors_of fg bg edge = record { fg = fg; bg = bg; edge = edge }

colors_of-parts : (x : PenColors) → colors_of x.fg x.bg x.edge ≡ x
unfolding colors_of
colors_of-parts x = refl

Decides-colors : (x y : PenColors) → Decides (colors.eq-value.it x y) (x ≡ y)
Decides-colors x y =
    Decides-like _ (λ (fg, (bg, edge)). cc (colors_of-parts x, colors_of-parts y))
    (λ one. (ap (λ (z : PenColors). z.fg) one, (ap (λ (z : PenColors). z.bg) one, ap (λ (z : PenColors). z.edge) one)))
    (Decides-and _ _ (Decides-fill x.fg y.fg) (Decides-and _ _ (Decides-fill x.bg y.bg) (Decides-rgb x.edge y.edge)))

-- cells
cell_of : ℕ → PenAttr → PenColors → DCell
cell_of ch pen colors = record { ch = ch; pen = pen; colors = colors }

cell_of-parts : (x : DCell) → cell_of x.ch x.pen x.colors ≡ x
unfolding cell_of
cell_of-parts x = refl

Decides-cell : (x y : DCell) → Decides (cell.eq-value.it x y) (x ≡ y)
Decides-cell x y =
    Decides-like _ (λ (ch, (pen, colors)). cc (cell_of-parts x, cell_of-parts y))
    (λ one. (ap (λ (z : DCell). z.ch) one, (ap (λ (z : DCell). z.pen) one, ap (λ (z : DCell). z.colors) one)))
    (Decides-and _ _ (Decides-eqb x.ch y.ch) (Decides-and _ _ (Decides-pen x.pen y.pen) (Decides-colors x.colors y.colors)))

-- and what stands at a place
pub Decides-place : (x y : Option DCell) → Decides (option_eq cell.eq-value.it x y) (x ≡ y)
Decides-place None None = (λ same. refl, λ one. refl)
Decides-place None (Some y) = (λ same. cc, λ one. cc)
Decides-place (Some x) None = (λ same. cc, λ one. cc)
Decides-place (Some x) (Some y) =
    Decides-like _ (λ one. ap Some one) (λ one. let inner : x ≡ y = cc in inner) (Decides-cell x y)

-- window attributes
attributes_of : ℕ → ℕ → ℕ → Bool → ℕ → ℕ → ℕ → Fill → ℕ → Rgb → WinAttr
attributes_of justify print scroll wrap effect effect_dir effect_speed fill border_kind border =
    record { justify = justify; print = print; scroll = scroll; wrap = wrap; effect = effect; effect_dir = effect_dir; effect_speed = effect_speed; fill = fill; border_kind = border_kind; border = border }

attributes_of-parts : (x : WinAttr) → attributes_of x.justify x.print x.scroll x.wrap x.effect x.effect_dir x.effect_speed x.fill x.border_kind x.border ≡ x
unfolding attributes_of
attributes_of-parts x = refl

pub Decides-attributes : (x y : WinAttr) → Decides (attributes.eq-value.it x y) (x ≡ y)
Decides-attributes x y =
    Decides-like _ (λ (justify, (print, (scroll, (wrap, (effect, (effect_dir, (effect_speed, (fill, (border_kind, border))))))))). cc (attributes_of-parts x, attributes_of-parts y))
    (λ one. (ap (λ (z : WinAttr). z.justify) one, (ap (λ (z : WinAttr). z.print) one, (ap (λ (z : WinAttr). z.scroll) one, (ap (λ (z : WinAttr). z.wrap) one, (ap (λ (z : WinAttr). z.effect) one, (ap (λ (z : WinAttr). z.effect_dir) one, (ap (λ (z : WinAttr). z.effect_speed) one, (ap (λ (z : WinAttr). z.fill) one, (ap (λ (z : WinAttr). z.border_kind) one, ap (λ (z : WinAttr). z.border) one))))))))))
    (Decides-and _ _ (Decides-eqb x.justify y.justify) (Decides-and _ _ (Decides-eqb x.print y.print) (Decides-and _ _ (Decides-eqb x.scroll y.scroll) (Decides-and _ _ (booleans_Decides x.wrap y.wrap) (Decides-and _ _ (Decides-eqb x.effect y.effect) (Decides-and _ _ (Decides-eqb x.effect_dir y.effect_dir) (Decides-and _ _ (Decides-eqb x.effect_speed y.effect_speed) (Decides-and _ _ (Decides-fill x.fill y.fill) (Decides-and _ _ (Decides-eqb x.border_kind y.border_kind) (Decides-rgb x.border y.border))))))))))

-- definitions
definition_of : ℕ → Bool → Bool → Bool → ℕ → Bool → ℕ → ℕ → ℕ → ℕ → ℕ → ℕ → ℕ → Definition
definition_of id visible row_lock col_lock priority relative av ah anchor rows cols ws ps =
    record { id = id; visible = visible; row_lock = row_lock; col_lock = col_lock; priority = priority; relative = relative; av = av; ah = ah; anchor = anchor; rows = rows; cols = cols; ws = ws; ps = ps }

definition_of-parts : (x : Definition) → definition_of x.id x.visible x.row_lock x.col_lock x.priority x.relative x.av x.ah x.anchor x.rows x.cols x.ws x.ps ≡ x
unfolding definition_of
definition_of-parts x = refl

pub Decides-definition : (x y : Definition) → Decides (definition.eq-value.it x y) (x ≡ y)
Decides-definition x y =
    Decides-like _ (λ (id, (visible, (row_lock, (col_lock, (priority, (relative, (av, (ah, (anchor, (rows, (cols, (ws, ps)))))))))))). cc (definition_of-parts x, definition_of-parts y))
    (λ one. (ap (λ (z : Definition). z.id) one, (ap (λ (z : Definition). z.visible) one, (ap (λ (z : Definition). z.row_lock) one, (ap (λ (z : Definition). z.col_lock) one, (ap (λ (z : Definition). z.priority) one, (ap (λ (z : Definition). z.relative) one, (ap (λ (z : Definition). z.av) one, (ap (λ (z : Definition). z.ah) one, (ap (λ (z : Definition). z.anchor) one, (ap (λ (z : Definition). z.rows) one, (ap (λ (z : Definition). z.cols) one, (ap (λ (z : Definition). z.ws) one, ap (λ (z : Definition). z.ps) one)))))))))))))
    (Decides-and _ _ (Decides-eqb x.id y.id) (Decides-and _ _ (booleans_Decides x.visible y.visible) (Decides-and _ _ (booleans_Decides x.row_lock y.row_lock) (Decides-and _ _ (booleans_Decides x.col_lock y.col_lock) (Decides-and _ _ (Decides-eqb x.priority y.priority) (Decides-and _ _ (booleans_Decides x.relative y.relative) (Decides-and _ _ (Decides-eqb x.av y.av) (Decides-and _ _ (Decides-eqb x.ah y.ah) (Decides-and _ _ (Decides-eqb x.anchor y.anchor) (Decides-and _ _ (Decides-eqb x.rows y.rows) (Decides-and _ _ (Decides-eqb x.cols y.cols) (Decides-and _ _ (Decides-eqb x.ws y.ws) (Decides-eqb x.ps y.ps)))))))))))))
