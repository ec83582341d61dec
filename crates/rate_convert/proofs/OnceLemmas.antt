-- A frame has one misfit at most.
use Rattle.std.proofs.Common.{◌≡◌, ℕ, ◌≤◌, List, [], ◌∷◌, ◌++◌, append_assoc, refl, sym, ap, ◌∙◌, arith}
use Rattle.cdp_packets.specs.Packets.{Frame}
use Rattle.findings.specs.declared.finding.Which.{Which}
use Rattle.findings.specs.declared.finding.Which.TheVariants as which
use Rattle.findings.specs.First.{IsFirstTried}
use Rattle.findings.specs.declared.misfit.Misfit.{Misfit}
use Rattle.findings.specs.declared.misfit.MisfitKind.{MisfitKind}
use Rattle.findings.specs.declared.misfit.MisfitKind.TheVariants as misfit
use Rattle.line21_codes.specs.declared.channels.Chan.TheVariants.{Cc1, Cc2, Cc3, Cc4}
use Rattle.rate_convert.specs.Grids.{IsChanged, grid_place}
use Rattle.rate_convert.specs.Laws.{MisfitIsOne}
use Rattle.rate_convert.specs.Misfits.{AreFit, Holds, IsFit, rank}

-- neither of two numbers is above the other
ordered : (m n : ℕ) → m ≤ n → n ≤ m → m ≡ n
ordered m n below above = omega arith

-- the places of channels and services are their own
which_once : (frames : List Frame) (a b : Which) → IsChanged frames a → IsChanged frames b → grid_place a ≡ grid_place b → a ≡ b
which_once frames (which.Chan Cc1) (which.Chan Cc1) _ _ same = refl
which_once frames (which.Chan Cc1) (which.Chan Cc2) _ _ same = absurd (omega arith)
which_once frames (which.Chan Cc1) (which.Chan Cc3) _ _ same = absurd (omega arith)
which_once frames (which.Chan Cc1) (which.Chan Cc4) _ _ same = absurd (omega arith)
which_once frames (which.Chan Cc2) (which.Chan Cc1) _ _ same = absurd (omega arith)
which_once frames (which.Chan Cc2) (which.Chan Cc2) _ _ same = refl
which_once frames (which.Chan Cc2) (which.Chan Cc3) _ _ same = absurd (omega arith)
which_once frames (which.Chan Cc2) (which.Chan Cc4) _ _ same = absurd (omega arith)
which_once frames (which.Chan Cc3) (which.Chan Cc1) _ _ same = absurd (omega arith)
which_once frames (which.Chan Cc3) (which.Chan Cc2) _ _ same = absurd (omega arith)
which_once frames (which.Chan Cc3) (which.Chan Cc3) _ _ same = refl
which_once frames (which.Chan Cc3) (which.Chan Cc4) _ _ same = absurd (omega arith)
which_once frames (which.Chan Cc4) (which.Chan Cc1) _ _ same = absurd (omega arith)
which_once frames (which.Chan Cc4) (which.Chan Cc2) _ _ same = absurd (omega arith)
which_once frames (which.Chan Cc4) (which.Chan Cc3) _ _ same = absurd (omega arith)
which_once frames (which.Chan Cc4) (which.Chan Cc4) _ _ same = refl
which_once frames (which.Chan Cc1) (which.Service s) _ (also, _) same = let one = also.from in absurd (omega (arith, one, same))
which_once frames (which.Chan Cc2) (which.Service s) _ (also, _) same = let one = also.from in absurd (omega (arith, one, same))
which_once frames (which.Chan Cc3) (which.Service s) _ (also, _) same = let one = also.from in absurd (omega (arith, one, same))
which_once frames (which.Chan Cc4) (which.Service s) _ (also, _) same = let one = also.from in absurd (omega (arith, one, same))
which_once frames (which.Service s) (which.Chan Cc1) (is, _) _ same = let one = is.from in absurd (omega (arith, one, same))
which_once frames (which.Service s) (which.Chan Cc2) (is, _) _ same = let one = is.from in absurd (omega (arith, one, same))
which_once frames (which.Service s) (which.Chan Cc3) (is, _) _ same = let one = is.from in absurd (omega (arith, one, same))
which_once frames (which.Service s) (which.Chan Cc4) (is, _) _ same = let one = is.from in absurd (omega (arith, one, same))
which_once frames (which.Service s) (which.Service t) _ _ same = let e : s ≡ t = omega arith in ap which.Service e

first_once : (frames : List Frame) (a b : Which) → IsFirstTried (IsChanged frames) grid_place a → IsFirstTried (IsChanged frames) grid_place b → a ≡ b
first_once frames a b one other =
    which_once frames a b one.holds other.holds (ordered (grid_place a) (grid_place b) (one.first b other.holds) (other.first a one.holds))

kind_once : (earlier : List Frame) (frame : Frame) (a b : MisfitKind) → IsFirstTried (Holds earlier frame) rank a → IsFirstTried (Holds earlier frame) rank b
    → rank a ≡ rank b → a ≡ b
kind_once earlier frame (misfit.Rate m) (misfit.Rate n) is also same = ap misfit.Rate (is.holds.1 ∙ sym also.holds.1)
kind_once earlier frame (misfit.Rate m) (misfit.Count n) is also same = absurd (omega arith)
kind_once earlier frame (misfit.Rate m) (misfit.One n) is also same = absurd (omega arith)
kind_once earlier frame (misfit.Rate m) (misfit.Two n) is also same = absurd (omega arith)
kind_once earlier frame (misfit.Rate m) (misfit.Many n) is also same = absurd (omega arith)
kind_once earlier frame (misfit.Count m) (misfit.Rate n) is also same = absurd (omega arith)
kind_once earlier frame (misfit.Count m) (misfit.Count n) is also same = ap misfit.Count (is.holds.1 ∙ sym also.holds.1)
kind_once earlier frame (misfit.Count m) (misfit.One n) is also same = absurd (omega arith)
kind_once earlier frame (misfit.Count m) (misfit.Two n) is also same = absurd (omega arith)
kind_once earlier frame (misfit.Count m) (misfit.Many n) is also same = absurd (omega arith)
kind_once earlier frame (misfit.One m) (misfit.Rate n) is also same = absurd (omega arith)
kind_once earlier frame (misfit.One m) (misfit.Count n) is also same = absurd (omega arith)
kind_once earlier frame (misfit.One m) (misfit.One n) is also same = ap misfit.One (is.holds.1 ∙ sym also.holds.1)
kind_once earlier frame (misfit.One m) (misfit.Two n) is also same = absurd (omega arith)
kind_once earlier frame (misfit.One m) (misfit.Many n) is also same = absurd (omega arith)
kind_once earlier frame (misfit.Two m) (misfit.Rate n) is also same = absurd (omega arith)
kind_once earlier frame (misfit.Two m) (misfit.Count n) is also same = absurd (omega arith)
kind_once earlier frame (misfit.Two m) (misfit.One n) is also same = absurd (omega arith)
kind_once earlier frame (misfit.Two m) (misfit.Two n) is also same = ap misfit.Two (is.holds.1 ∙ sym also.holds.1)
kind_once earlier frame (misfit.Two m) (misfit.Many n) is also same = absurd (omega arith)
kind_once earlier frame (misfit.Many m) (misfit.Rate n) is also same = absurd (omega arith)
kind_once earlier frame (misfit.Many m) (misfit.Count n) is also same = absurd (omega arith)
kind_once earlier frame (misfit.Many m) (misfit.One n) is also same = absurd (omega arith)
kind_once earlier frame (misfit.Many m) (misfit.Two n) is also same = absurd (omega arith)
kind_once earlier frame (misfit.Many m) (misfit.Many n) is also same = ap misfit.Many (is.holds.1 ∙ sym also.holds.1)
kind_once earlier frame (misfit.Rate m) (misfit.Changed w) is also same = absurd (omega arith)
kind_once earlier frame (misfit.Changed w) (misfit.Rate m) is also same = absurd (omega arith)
kind_once earlier frame (misfit.Count m) (misfit.Changed w) is also same = absurd (omega arith)
kind_once earlier frame (misfit.Changed w) (misfit.Count m) is also same = absurd (omega arith)
kind_once earlier frame (misfit.One m) (misfit.Changed w) is also same = absurd (omega arith)
kind_once earlier frame (misfit.Changed w) (misfit.One m) is also same = absurd (omega arith)
kind_once earlier frame (misfit.Two m) (misfit.Changed w) is also same = absurd (omega arith)
kind_once earlier frame (misfit.Changed w) (misfit.Two m) is also same = absurd (omega arith)
kind_once earlier frame (misfit.Many m) (misfit.Changed w) is also same = absurd (omega arith)
kind_once earlier frame (misfit.Changed w) (misfit.Many m) is also same = absurd (omega arith)
kind_once earlier frame (misfit.Changed v) (misfit.Changed w) is also same = ap misfit.Changed (first_once (earlier ++ frame ∷ []) v w is.holds also.holds)

misfit_same : (a b : Misfit) → a.frame ≡ b.frame → a.kind ≡ b.kind → a ≡ b
misfit_same a b frame kind =
    ap (λ n. record { frame = n; kind = a.kind }) frame ∙ ap (λ (k : MisfitKind). record { frame = b.frame; kind = k }) kind

pub misfit_once : MisfitIsOne
misfit_once earlier frame a b one other =
    misfit_same a b (one.0 ∙ sym other.0)
    (kind_once earlier frame a.kind b.kind one.1 other.1
    (ordered (rank a.kind) (rank b.kind) (one.1.first b.kind other.1.holds) (other.1.first a.kind one.1.holds)))

-- one frame among others that are fit is fit
pub fit_among : (frames : List Frame) (last : Frame) (behind : List Frame) → AreFit ((frames ++ last ∷ []) ++ behind) → IsFit frames last
fit_among frames last behind are = are frames last behind (append_assoc frames (last ∷ []) behind)
