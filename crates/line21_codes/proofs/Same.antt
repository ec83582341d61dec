-- Tests for equal codes, which compute, and that they tell it.
use Rattle.std.proofs.Common.{◌≡◌, ◌==◌, ◌&&◌, Bool, true, false, Option, Some, None, refl, ap}
use Rattle.std.proofs.lemmas.Bool.Decides.{Decides-eqb}
use Rattle.std.proofs.lemmas.Bool.{and_parts}
use Rattle.std.specs.Bool.{beq}
use Rattle.std.specs.Cmp.{booleans_Decides}
use Rattle.line21_codes.specs.declared.codes.Code.{Code}
use Rattle.line21_codes.specs.declared.codes.Code.TheVariants.{Null, Text, Xds, Control}
use Rattle.line21_codes.specs.declared.codes.Control.{Control as ControlCode}
use Rattle.line21_codes.specs.declared.codes.Control.TheVariants.{Rcl, Bs, Der, Ru, Fon, Rdc, Tr, Rtd, Edm, Cr, Enm, Eoc, Tab, MidRow, Preamble, Special, Extended, Skipped}
use Rattle.line21_codes.specs.declared.styles.Colour.{Colour}
use Rattle.line21_codes.specs.SameStyles.{same_colour, same_style}
use Rattle.line21_codes.proofs.SameStyleLemmas.{Decides-same_colour, Decides-same_style}

-- equal colours or none
unfoldable pub same_choice : Option Colour → Option Colour → Bool
same_choice None None = true
same_choice (Some c) (Some d) = same_colour c d
same_choice _ _ = false

-- a test that passes tells equal choices
pub same_choice-true : (c d : Option Colour) → same_choice c d ≡ true → c ≡ d
unfolding same_choice
same_choice-true None None same = refl
same_choice-true (Some c) (Some d) same = ap Some ((Decides-same_colour c d).0 same)
same_choice-true _ _ same = cc

-- equal control codes
unfoldable pub same_control : ControlCode → ControlCode → Bool
same_control Rcl Rcl = true
same_control Bs Bs = true
same_control Der Der = true
same_control Fon Fon = true
same_control Rdc Rdc = true
same_control Tr Tr = true
same_control Rtd Rtd = true
same_control Edm Edm = true
same_control Cr Cr = true
same_control Enm Enm = true
same_control Eoc Eoc = true
same_control Skipped Skipped = true
same_control (Ru m) (Ru n) = m == n
same_control (Tab m) (Tab n) = m == n
same_control (MidRow c u) (MidRow d v) = same_choice c d && beq u v
same_control (Preamble r c s) (Preamble q d t) = r == q && (c == d && same_style s t)
same_control (Special m) (Special n) = m == n
same_control (Extended s m) (Extended t n) = s == t && m == n
same_control _ _ = false

-- a test that passes tells equal control codes
pub same_control-true : (k l : ControlCode) → same_control k l ≡ true → k ≡ l
unfolding same_control
same_control-true Rcl Rcl same = refl
same_control-true Bs Bs same = refl
same_control-true Der Der same = refl
same_control-true Fon Fon same = refl
same_control-true Rdc Rdc same = refl
same_control-true Tr Tr same = refl
same_control-true Rtd Rtd same = refl
same_control-true Edm Edm same = refl
same_control-true Cr Cr same = refl
same_control-true Enm Enm same = refl
same_control-true Eoc Eoc same = refl
same_control-true Skipped Skipped same = refl
same_control-true (Ru m) (Ru n) same = ap Ru ((Decides-eqb m n).0 same)
same_control-true (Tab m) (Tab n) same = ap Tab ((Decides-eqb m n).0 same)
same_control-true (MidRow c u) (MidRow d v) same =
    let parts = and_parts (same_choice c d) (beq u v) same in cc (same_choice-true c d parts.0, (booleans_Decides u v).0 parts.1)
same_control-true (Preamble r c s) (Preamble q d t) same =
    let parts = and_parts (r == q) (c == d && same_style s t) same in
    let rest = and_parts (c == d) (same_style s t) parts.1 in
    cc ((Decides-eqb r q).0 parts.0, (Decides-eqb c d).0 rest.0, (Decides-same_style s t).0 rest.1)
same_control-true (Special m) (Special n) same = ap Special ((Decides-eqb m n).0 same)
same_control-true (Extended s m) (Extended t n) same =
    let parts = and_parts (s == t) (m == n) same in cc ((Decides-eqb s t).0 parts.0, (Decides-eqb m n).0 parts.1)
same_control-true _ _ same = cc

-- equal codes
unfoldable pub same_code : Code → Code → Bool
same_code Null Null = true
same_code (Text a b) (Text c d) = a == c && b == d
same_code (Xds a b) (Xds c d) = a == c && b == d
same_code (Control s k) (Control t l) = beq s t && same_control k l
same_code _ _ = false

-- a test that passes tells equal codes
pub same_code-true : (c d : Code) → same_code c d ≡ true → c ≡ d
unfolding same_code
same_code-true Null Null same = refl
same_code-true (Text a b) (Text c d) same =
    let parts = and_parts (a == c) (b == d) same in cc ((Decides-eqb a c).0 parts.0, (Decides-eqb b d).0 parts.1)
same_code-true (Xds a b) (Xds c d) same =
    let parts = and_parts (a == c) (b == d) same in cc ((Decides-eqb a c).0 parts.0, (Decides-eqb b d).0 parts.1)
same_code-true (Control s k) (Control t l) same =
    let parts = and_parts (beq s t) (same_control k l) same in cc ((booleans_Decides s t).0 parts.0, same_control-true k l parts.1)
same_code-true _ _ same = cc
