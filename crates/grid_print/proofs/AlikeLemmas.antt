-- Cells are written alike just where they have one style, or one pen and the same colours.
use Rattle.std.proofs.Common.{◌≡◌, ◌∙◌, ◌&&◌, ℕ, Bool, refl, sym, ap}
use Rattle.std.proofs.lemmas.Bool.Decides.{Decides-and, Decides-eqb, Decides-like}
use Rattle.std.specs.Bool.{Decides}
use Rattle.std.specs.Cmp.{booleans_Decides}
use Rattle.line21_codes.proofs.SameStyleLemmas.{Decides-same_style}
use Rattle.dtvcc_codes.specs.declared.pens.Fill.{Fill}
use Rattle.dtvcc_codes.specs.declared.pens.PenAttr.{PenAttr}
use Rattle.dtvcc_codes.specs.declared.pens.PenColors.{PenColors}
use Rattle.dtvcc_codes.specs.declared.pens.Rgb.{Rgb}
use Rattle.dtvcc_windows.specs.declared.cells.DCell.{DCell}
use Rattle.grid_print.specs.Writing.{in_pens, in_styles, same_fill, same_pen, same_rgb, written_alike}
use Rattle.grid_print.proofs.CellRunsOfLemmas.{IsWriting}

-- colours of the same parts are one
rgb_of : ℕ → ℕ → ℕ → Rgb
rgb_of r g b = record { r = r; g = g; b = b }

rgb_parts : (a : Rgb) → rgb_of a.r a.g a.b ≡ a
unfolding rgb_of
rgb_parts a = refl

one_rgb : (a b : Rgb) → (a.r ≡ b.r) × ((a.g ≡ b.g) × (a.b ≡ b.b)) → a ≡ b
one_rgb a b (r, (g, bl)) = cc (rgb_parts a, rgb_parts b)

Decides-rgb : (a b : Rgb) → Decides (same_rgb a b) (a ≡ b)
Decides-rgb a b =
    Decides-like _ (one_rgb a b) (λ one. (ap (λ (c : Rgb). c.r) one, (ap (λ (c : Rgb). c.g) one, ap (λ (c : Rgb). c.b) one)))
    (Decides-and _ _ (Decides-eqb a.r b.r) (Decides-and _ _ (Decides-eqb a.g b.g) (Decides-eqb a.b b.b)))

fill_of : ℕ → ℕ → ℕ → ℕ → Fill
fill_of opacity r g b = record { opacity = opacity; r = r; g = g; b = b }

fill_parts : (a : Fill) → fill_of a.opacity a.r a.g a.b ≡ a
unfolding fill_of
fill_parts a = refl

one_fill : (a b : Fill) → (a.opacity ≡ b.opacity) × ((a.r ≡ b.r) × ((a.g ≡ b.g) × (a.b ≡ b.b))) → a ≡ b
one_fill a b (opacity, (r, (g, bl))) = cc (fill_parts a, fill_parts b)

Decides-fill : (a b : Fill) → Decides (same_fill a b) (a ≡ b)
Decides-fill a b =
    Decides-like _ (one_fill a b)
    (λ one. (ap (λ (c : Fill). c.opacity) one, (ap (λ (c : Fill). c.r) one, (ap (λ (c : Fill). c.g) one, ap (λ (c : Fill). c.b) one))))
    (Decides-and _ _ (Decides-eqb a.opacity b.opacity)
    (Decides-and _ _ (Decides-eqb a.r b.r) (Decides-and _ _ (Decides-eqb a.g b.g) (Decides-eqb a.b b.b))))

colors_of : Fill → Fill → Rgb → PenColors
colors_of fg bg edge = record { fg = fg; bg = bg; edge = edge }

colors_parts : (a : PenColors) → colors_of a.fg a.bg a.edge ≡ a
unfolding colors_of
colors_parts a = refl

one_colors : (a b : PenColors) → (a.fg ≡ b.fg) × ((a.bg ≡ b.bg) × (a.edge ≡ b.edge)) → a ≡ b
one_colors a b (fg, (bg, edge)) = cc (colors_parts a, colors_parts b)

abbrev pub same_colors : PenColors → PenColors → Bool
same_colors a b = same_fill a.fg b.fg && (same_fill a.bg b.bg && same_rgb a.edge b.edge)

Decides-colors : (a b : PenColors) → Decides (same_colors a b) (a ≡ b)
Decides-colors a b =
    Decides-like _ (one_colors a b)
    (λ one. (ap (λ (c : PenColors). c.fg) one, (ap (λ (c : PenColors). c.bg) one, ap (λ (c : PenColors). c.edge) one)))
    (Decides-and _ _ (Decides-fill a.fg b.fg) (Decides-and _ _ (Decides-fill a.bg b.bg) (Decides-rgb a.edge b.edge)))

-- and pens
pen_of : ℕ → ℕ → ℕ → ℕ → Bool → Bool → ℕ → PenAttr
pen_of size font tag offset italic underline edge =
    record { size = size; font = font; tag = tag; offset = offset; italic = italic; underline = underline; edge = edge }

pen_parts : (a : PenAttr) → pen_of a.size a.font a.tag a.offset a.italic a.underline a.edge ≡ a
unfolding pen_of
pen_parts a = refl

one_pen : (a b : PenAttr)
    → (a.size ≡ b.size) × ((a.font ≡ b.font) × ((a.tag ≡ b.tag) × ((a.offset ≡ b.offset) × ((a.italic ≡ b.italic) × ((a.underline ≡ b.underline) × (a.edge ≡ b.edge))))))
    → a ≡ b
one_pen a b (size, (font, (tag, (offset, (italic, (underline, edge)))))) = cc (pen_parts a, pen_parts b)

Decides-pen : (a b : PenAttr) → Decides (same_pen a b) (a ≡ b)
Decides-pen a b =
    Decides-like _ (one_pen a b)
    (λ one. (
      ap (λ (p : PenAttr). p.size) one,
      (
        ap (λ (p : PenAttr). p.font) one,
        (
          ap (λ (p : PenAttr). p.tag) one,
          (
            ap (λ (p : PenAttr). p.offset) one,
            (ap (λ (p : PenAttr). p.italic) one, (ap (λ (p : PenAttr). p.underline) one, ap (λ (p : PenAttr). p.edge) one)),
          ),
        ),
      ),
    ))
    (Decides-and _ _ (Decides-eqb a.size b.size) (Decides-and _ _ (Decides-eqb a.font b.font) (Decides-and _ _ (Decides-eqb a.tag b.tag)
    (Decides-and _ _ (Decides-eqb a.offset b.offset) (Decides-and _ _ (booleans_Decides a.italic b.italic)
    (Decides-and _ _ (booleans_Decides a.underline b.underline) (Decides-eqb a.edge b.edge)))))))

-- two cells
pub Decides-alike : (a b : DCell) → Decides (written_alike a b) ((a.pen ≡ b.pen) × (a.colors ≡ b.colors))
unfolding written_alike
Decides-alike a b = Decides-and _ _ (Decides-pen a.pen b.pen) (Decides-colors a.colors b.colors)

-- each is written as itself, and as what is written as one that is
pub pens_are_written : IsWriting in_pens
pens_are_written = record {
  itself = λ a. (Decides-alike a a).1 (refl, refl);
  after = λ a b c one other.
      let (pen, colors) = (Decides-alike a b).0 one in
      let (pen_too, colors_too) = (Decides-alike c b).0 other in
      (Decides-alike a c).1 (pen ∙ sym pen_too, colors ∙ sym colors_too);
}

pub styles_are_written : IsWriting in_styles
styles_are_written = record {
  itself = λ a. (Decides-same_style a.style a.style).1 refl;
  after = λ a b c one other.
      (Decides-same_style a.style c.style).1 ((Decides-same_style a.style b.style).0 one ∙ sym ((Decides-same_style c.style b.style).0 other));
}
