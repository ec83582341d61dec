-- Frames that have no misfit.
use Rattle.std.proofs.Common.{◌≡◌, ℕ, zero, suc, ◌+◌, ◌<◌, List, [], ◌∷◌, ◌++◌, All, append_assoc, length, take, refl, sym, ◌∙◌, subst, arith, ap, length-append, inl, inr, ◌≤◌}
use Rattle.std.proofs.lemmas.Bool.{cases_lt}
use Rattle.std.proofs.lemmas.List.Elements.{All-cons, All-nil}
use Rattle.cc_receiver.specs.ReceivedServices.{received_windows}
use Rattle.cdp_packets.specs.Packets.{Frame}
use Rattle.findings.specs.First.{IsFirstTried}
use Rattle.findings.specs.declared.misfit.MisfitKind.TheVariants as misfit
use Rattle.findings.specs.declared.finding.Which.{Which}
use Rattle.findings.specs.declared.finding.Which.TheVariants as which
use Rattle.rate_convert.specs.Conversion.{IsConvertible, conversion}
use Rattle.rate_convert.proofs.ConvertedLemmas.{converted_halves}
use Rattle.rate_convert.proofs.KeptLemmas.{show_the_same}
use Rattle.line21_codes.specs.declared.channels.Chan.{Chan}
use Rattle.line21_codes.specs.declared.channels.FieldNumber.TheVariants.{One, Two}
use Rattle.words_files.specs.Received.{received_grids}
use Rattle.words_files.proofs.FrontLemmas.{TwoFronts, before_it, behind_it, same, two_fronts}
use Rattle.rate_convert.specs.Differing.{IsFirstService}
use Rattle.rate_convert.specs.Grids.{IsChanged, KeepsGrids, grid_place}
use Rattle.rate_convert.specs.Laws.{FitHasNone}
use Rattle.rate_convert.specs.Misfits.{AreFit, IsFit}

-- a number that isn't below another
pub at_least : (number least : ℕ) → (number < least → ⊥) → least ≤ number
at_least number least other = elim (cases_lt number least) [ inl less ↦ absurd (other less) | inr more ↦ more ]

-- one frame more
no_front : (frames : List Frame) (last next : Frame) (more earlier : List Frame) (frame : Frame) (later : List Frame) → frames ++ last ∷ [] ≡ earlier ++ frame ∷ later
    → earlier ≡ (frames ++ next ∷ []) ++ more → ⊥
no_front frames last next more earlier frame later split whole =
    let all = ap length split in
    let one = length-append frames (last ∷ []) in
    let other = length-append earlier (frame ∷ later) in
    let front = ap length whole ∙ length-append (frames ++ next ∷ []) more in
    let begun = length-append frames (next ∷ []) in
    omega (arith, all, one, other, front, begun)

-- no frames have no misfit
pub none_split : (earlier : List Frame) (frame : Frame) (later : List Frame) → [] ≡ earlier ++ frame ∷ later → ⊥
none_split [] frame later split = cc
none_split (one ∷ earlier) frame later split = cc

pub fit_of_none : AreFit []
fit_of_none = λ earlier frame later split. absurd (none_split earlier frame later split)

pub fit_more : (frames : List Frame) (last : Frame) → AreFit frames → IsFit frames last → AreFit (frames ++ last ∷ [])
fit_more frames last are is = λ earlier frame later split.
    at earlier frame later split (two_fronts frames (last ∷ []) earlier later frame (split ∙ sym (append_assoc earlier (frame ∷ []) later)))
  where
    at : (earlier : List Frame) (frame : Frame) (later : List Frame) → frames ++ last ∷ [] ≡ earlier ++ frame ∷ later → TwoFronts frames (last ∷ []) earlier frame
        → IsFit earlier frame
    at earlier frame later split (behind_it more whole) = are earlier frame more (whole ∙ append_assoc earlier (frame ∷ []) more)
    at earlier frame later split (same whole more rest) =
        let one : last ≡ frame = cc in
        subst (λ (fs : List Frame). IsFit fs frame) whole (subst (IsFit frames) one is)
    at earlier frame later split (before_it next more left whole rest) = absurd (no_front frames last next more earlier frame later split whole)

-- they can all be converted
pub convertible_behind : (earlier frames : List Frame) → AreFit (earlier ++ frames) → All IsConvertible frames
convertible_behind earlier [] are = All-nil IsConvertible
convertible_behind earlier (frame ∷ frames) are =
    All-cons IsConvertible frame frames (are earlier frame frames refl).convertible
    (convertible_behind (earlier ++ frame ∷ []) frames (subst AreFit (sym (append_assoc earlier (frame ∷ []) frames)) are))

-- each of them is fit
pub fit_at : (earlier frames : List Frame) (k : ℕ) → k < length frames → AreFit (earlier ++ frames) → KeepsGrids (earlier ++ take (suc k) frames)
fit_at earlier [] k below are = absurd (omega arith)
fit_at earlier (frame ∷ frames) zero below are = (are earlier frame frames refl).keeps
fit_at earlier (frame ∷ frames) (suc k) below are =
    subst KeepsGrids (append_assoc earlier (frame ∷ []) (take (suc k) frames))
    (fit_at (earlier ++ frame ∷ []) frames k (omega arith) (subst AreFit (sym (append_assoc earlier (frame ∷ []) frames)) are))

-- what is seen of line 21 is the same wherever frames can be converted
pub channels_kept : (frames : List Frame) → All IsConvertible frames → (chan : Chan) → received_grids (conversion frames) chan ≡ received_grids frames chan
channels_kept frames all chan = (show_the_same frames (conversion frames) (converted_halves frames all)).grids chan

-- a frame that is fit has no misfit
not_changed : (frames : List Frame) (first : Which) → KeepsGrids frames → IsChanged frames first → ⊥
not_changed frames (which.Chan chan) keeps changed = changed (keeps.channels chan)
not_changed frames (which.Service service) keeps changed =
    let (is, (id, below, differs)) = changed in differs (keeps.services service is id below)

pub fit_none : FitHasNone
fit_none earlier frame (misfit.Rate code) fit holds = holds.0 fit.convertible.rate
fit_none earlier frame (misfit.Count seen) fit holds = holds.0 (holds.1 ∙ fit.convertible.count)
fit_none earlier frame (misfit.One seen) fit holds = let few = fit.convertible.few One in let more = holds.0 in let is = holds.1 in omega arith
fit_none earlier frame (misfit.Two seen) fit holds = let few = fit.convertible.few Two in let more = holds.0 in let is = holds.1 in omega arith
fit_none earlier frame (misfit.Many seen) fit holds = let most = fit.convertible.most in let more = holds.0 in let is = holds.1 in omega arith
fit_none earlier frame (misfit.Changed first) fit holds = not_changed (earlier ++ frame ∷ []) first fit.keeps holds.holds

-- nothing is seen after no frame, and so nothing changes
pub nothing_kept : KeepsGrids []
nothing_kept = record { channels = λ chan. refl; services = λ service is id small. refl }

-- a service that shows something else is the first grid that does, as no channel does
pub first_service : (frames : List Frame) (service : ℕ) → All IsConvertible frames → IsFirstService (received_windows frames) (received_windows (conversion frames)) service
    → IsFirstTried (IsChanged frames) grid_place (which.Service service)
first_service frames service all first = record {
  holds = (first.numbered, first.differs);
  first = λ other changed. at_least (grid_place other) (3 + service) (λ below. none other below changed);
}
  where
    none : (other : Which) → grid_place other < 3 + service → IsChanged frames other → ⊥
    none (which.Chan chan) below changed = changed (channels_kept frames all chan)
    none (which.Service other) below changed =
        let (is, (id, small, differs)) = changed in differs (first.before other is.from (omega (arith, below)) id small)
