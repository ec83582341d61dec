-- The delays of a service: each lasts a frame at least, and none starts while another is on.
use Rattle.std.proofs.Common.{◌≡◌, ◌∙◌, ℕ, ◌<◌, ◌≤◌, ◌⊎◌, inl, inr, ◌==◌, Bool, true, false, not, List, [], ◌∷◌, Some, refl, sym, ap, subst, arith, ⊎_elim}
use Rattle.std.proofs.lemmas.Bool.{and_parts, cases_lt, eqb-true}
use Rattle.std.proofs.lemmas.Bool.Decides.{nat_tests}
use Rattle.cc_base.specs.declared.rate.Rate.{Rate}
use Rattle.cc_base.specs.declared.rate.Rate.TheVariants as rate
use Rattle.cc_base.specs.Rate.{delay_frames_of}
use Rattle.dtvcc_author.specs.FrameEvents.{delay_end, is_delayed_at}
use Rattle.dtvcc_author.specs.Kept.{AreKept, Follows, IsUncovered}
use Rattle.dtvcc_author.specs.declared.caption.Caption.{Caption}
use Rattle.dtvcc_author.proofs.LatestLemmas.{Has, all_has, kept_sound}

-- a delay of a tenth of a second lasts a frame at least
delay_lasts : (r : Rate) (tenths : ℕ) → 0 < tenths → 0 < delay_frames_of r tenths
delay_lasts rate.F23976 tenths some = omega arith
delay_lasts rate.F24 tenths some = omega arith
delay_lasts rate.F25 tenths some = omega arith
delay_lasts rate.F2997 tenths some = omega arith
delay_lasts rate.F30 tenths some = omega arith
delay_lasts rate.F50 tenths some = omega arith
delay_lasts rate.F5994 tenths some = omega arith
delay_lasts rate.F60 tenths some = omega arith

-- the caption of a delay
pub record Delayed (cs : List Caption) (start end : ℕ) : Type 0 where
  pub caption : Caption
  pub has : Has caption cs
  pub tenths : 0 < caption.tenths
  pub starts : caption.starts ≡ start
  pub ends : caption.show ≡ end

pub delay_test : (start : ℕ) (c : Caption) → is_delayed_at start c ≡ true → (0 < c.tenths) × (c.starts ≡ start)
delay_test start c test =
    let parts = and_parts (not (c.tenths == 0)) (c.starts == start) test in
    let some = parts.0 in
    (grind (arith, nat_tests), eqb-true c.starts start parts.1)

-- a delay is some caption's
pub delay_is_of : (cs : List Caption) (start end : ℕ) → delay_end cs start ≡ Some end → Delayed cs start end
delay_is_of [] start end is = cc
delay_is_of (c ∷ cs) start end is = at (is_delayed_at start c) refl (λ rest. delay_is_of cs start end rest)
  where
    later : Delayed cs start end → Delayed (c ∷ cs) start end
    later d = record { caption = d.caption; has = inr d.has; tenths = d.tenths; starts = d.starts; ends = d.ends }

    at : (b : Bool) → is_delayed_at start c ≡ b → (delay_end cs start ≡ Some end → Delayed cs start end) → Delayed (c ∷ cs) start end
    at true holds rest =
        let here : Some c.show ≡ Some end = rw holds at is in
        let told = delay_test start c holds in
        record { caption = c; has = inl refl; tenths = told.0; starts = told.1; ends = cc }
    at false fails rest = later (rest (rw fails at is))

-- it ends later than it starts
pub delay_some : (r : Rate) (frames : ℕ) (cs : List Caption) (start end : ℕ) → AreKept r frames cs → delay_end cs start ≡ Some end → start < end
delay_some r frames cs start end kept is =
    let d = delay_is_of cs start end is in
    let sound = kept_sound r frames cs d.caption kept d.has in
    let shown = sound.delayed d.tenths in
    let some = delay_lasts r d.caption.tenths d.tenths in
    omega (arith, d.starts, d.ends, shown, some)

-- one of two captions is the other, or follows it
pub two_of : (r : Rate) (frames : ℕ) (cs : List Caption) (a b : Caption) → AreKept r frames cs → Has a cs → Has b cs
    → (a ≡ b) ⊎ (Follows a b ⊎ Follows b a)
two_of r frames [] a b kept in_a in_b = absurd in_a
two_of r frames (x ∷ xs) a b kept (inl is) (inl too) = inl (is ∙ sym too)
two_of r frames (x ∷ xs) a b kept (inl is) (inr in_b) =
    inr (inl (subst (λ c. Follows c b) (sym is) (all_has (Follows x) xs b kept.1 in_b)))
two_of r frames (x ∷ xs) a b kept (inr in_a) (inl too) =
    inr (inr (subst (λ c. Follows c a) (sym too) (all_has (Follows x) xs a kept.1 in_a)))
two_of r frames (x ∷ xs) a b kept (inr in_a) (inr in_b) = two_of r frames xs a b kept.2 in_a in_b

-- no caption has an event strictly within the delay of another
pub all_uncovered : (r : Rate) (frames : ℕ) (cs : List Caption) (a b : Caption) → AreKept r frames cs → Has a cs → Has b cs → (a ≡ b) ⊎ IsUncovered a b
all_uncovered r frames cs a b kept in_a in_b = at (two_of r frames cs a b kept in_a in_b)
  where
    at : (a ≡ b) ⊎ (Follows a b ⊎ Follows b a) → (a ≡ b) ⊎ IsUncovered a b
    at (inl same) = inl same
    at (inr (inl behind)) = inr behind.uncovering
    at (inr (inr before)) = inr before.uncovered

-- a delay has ended where a later one starts
pub delays_apart : (r : Rate) (frames : ℕ) (cs : List Caption) (start end other ends : ℕ) → AreKept r frames cs → delay_end cs start ≡ Some end
    → delay_end cs other ≡ Some ends → start < other → end ≤ other
delays_apart r frames cs start end other ends kept first second before =
    let a = delay_is_of cs start end first in
    let b = delay_is_of cs other ends second in
    at a b (all_uncovered r frames cs a.caption b.caption kept a.has b.has)
  where
    at : (a : Delayed cs start end) (b : Delayed cs other ends) → (a.caption ≡ b.caption) ⊎ IsUncovered a.caption b.caption → end ≤ other
    at a b (inl same) =
        let one : a.caption.starts ≡ b.caption.starts = ap (λ c. c.starts) same in
        absurd (omega (arith, one, a.starts, b.starts, before))
    at a b (inr un) =
        let later : a.caption.starts < b.caption.starts = omega (arith, a.starts, b.starts, before) in
        let clear = un.starts a.tenths later in
        omega (arith, clear, a.ends, b.starts)

-- two delays that are on in one frame are one
pub one_delay : (r : Rate) (frames : ℕ) (cs : List Caption) (start end other ends frame : ℕ) → AreKept r frames cs → delay_end cs start ≡ Some end
    → delay_end cs other ≡ Some ends → start ≤ frame → frame < end → other ≤ frame → frame < ends → (start ≡ other) × (end ≡ ends)
one_delay r frames cs start end other ends frame kept first second from to from_other to_other = (same, both)
  where
    same : start ≡ other
    same =
        ⊎_elim (λ (i : start < other). absurd (let e = delays_apart r frames cs start end other ends kept first second i in omega (arith, e, to, from_other)))
        (λ (i : other ≤ start). ⊎_elim
        (λ (j : other < start). absurd (let e = delays_apart r frames cs other ends start end kept second first j in omega (arith, e, to_other, from)))
        (λ (j : start ≤ other). let e : start ≡ other = omega arith in e)
        (cases_lt other start))
        (cases_lt start other)

    both : end ≡ ends
    both = let e : Some end ≡ Some ends = sym first ∙ ap (delay_end cs) same ∙ second in cc
