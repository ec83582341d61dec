-- What the tests say by which colours and styles are the same.
use Rattle.std.proofs.Common.{◌&&◌, ◌≡◌, Bool, true, refl, ap, ◌∙◌, rules}
use Rattle.std.proofs.lemmas.Bool.Decides.{Decides-and, Decides-like, same_from_decides}
use Rattle.std.specs.Bool.{Decides, beq}
use Rattle.std.specs.Cmp.{booleans_Decides}
use Rattle.line21_codes.specs.SameStyles.{same_colour, same_style}
use Rattle.line21_codes.specs.contracts.styles.Colour.{the_type}
use Rattle.line21_codes.specs.declared.styles.Colour.{Colour}
use Rattle.line21_codes.specs.declared.styles.Colour.TheVariants.{White, Green, Blue, Cyan, Red, Yellow, Magenta}
use Rattle.line21_codes.specs.declared.styles.Style.{Style}
use denote.Enum.Bare.{sameb, same_true, true_same}

-- colours that are the same are one, and each is the same as itself
same_colour-is : (a b : Colour) → same_colour a b ≡ true → a ≡ b
unfolding same_colour
same_colour-is White White same = refl
same_colour-is Green Green same = refl
same_colour-is Blue Blue same = refl
same_colour-is Cyan Cyan same = refl
same_colour-is Red Red same = refl
same_colour-is Yellow Yellow same = refl
same_colour-is Magenta Magenta same = refl
same_colour-is _ _ same = cc

same_colour-itself : (a : Colour) → same_colour a a ≡ true
unfolding same_colour
same_colour-itself White = refl
same_colour-itself Green = refl
same_colour-itself Blue = refl
same_colour-itself Cyan = refl
same_colour-itself Red = refl
same_colour-itself Yellow = refl
same_colour-itself Magenta = refl

pub Decides-same_colour : (a b : Colour) → Decides (same_colour a b) (a ≡ b)
Decides-same_colour a b = (same_colour-is a b, λ one. rw one (same_colour-itself b))

-- a style of its parts
style_of : Colour → Bool → Bool → Style
style_of colour italic underline = record { colour = colour; italic = italic; underline = underline }

style_of-parts : (s : Style) → style_of s.colour s.italic s.underline ≡ s
unfolding style_of
style_of-parts s = refl

-- styles of the same parts are one
pub same_parts : (a b : Style) → ((a.colour ≡ b.colour) × (a.italic ≡ b.italic)) × (a.underline ≡ b.underline) → a ≡ b
same_parts a b ((colour, italic), underline) = cc (style_of-parts a, style_of-parts b)

-- and styles
pub Decides-same_style : (a b : Style) → Decides (same_style a b) (a ≡ b)
unfolding same_style
Decides-same_style a b =
    Decides-like _ (same_parts a b) (λ one. ((ap (λ (s : Style). s.colour) one, ap (λ (s : Style). s.italic) one), ap (λ (s : Style). s.underline) one))
    (Decides-and _ _ (Decides-and _ _ (Decides-same_colour a.colour b.colour) (booleans_Decides a.italic b.italic)) (booleans_Decides a.underline b.underline))

-- the code's test of colours
pub Decides-sameb : (a b : Colour) → Decides (sameb the_type a b) (a ≡ b)
Decides-sameb a b = (same_true the_type (search rules) a b, true_same the_type a b)

-- and of styles
pub style_test : (a b : Style) (r : Bool) → r ≡ (sameb the_type a.colour b.colour && (beq a.italic b.italic && beq a.underline b.underline)) → r ≡ same_style a b
style_test a b r is =
    is ∙ same_from_decides _ _
    (Decides-like _ (λ (colour, (italic, underline)). same_parts a b ((colour, italic), underline))
    (λ one. (ap (λ (s : Style). s.colour) one, (ap (λ (s : Style). s.italic) one, ap (λ (s : Style). s.underline) one)))
    (Decides-and _ _ (Decides-sameb a.colour b.colour) (Decides-and _ _ (booleans_Decides a.italic b.italic) (booleans_Decides a.underline b.underline))))
    (Decides-same_style a b)
