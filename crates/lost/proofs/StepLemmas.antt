-- A receiver that was reset within a doubled code takes the second copy for the first; it comes into step with the sender again at a
-- control pair that acts: from there on it waits for just the pairs that are due once more (CTA-608-E; 47 CFR 79.101).
use Rattle.std.proofs.Common.{◌≡◌, ℕ, suc, ◌+◌, ◌&&◌, not, Bool, true, false, List, [], ◌∷◌, Option, Some, None, refl, sym, ap, ◌∙◌, subst}
use Rattle.std.specs.Bool.{then_some}
use Rattle.std.specs.Cmp.Derive.{both_true}
use Rattle.std.proofs.lemmas.Bool.Decides.{Decides-eqb}
use Rattle.line21_codes.specs.declared.pairs.Pair.{Pair}
use Rattle.line21_codes.specs.declared.doubling.Doubler.{Doubler}
use Rattle.line21_codes.specs.ControlPairs.{is_control}
use Rattle.line21_codes.specs.NullPairs.{null_pair}
use Rattle.line21_codes.specs.Reading.{code_of}
use Rattle.line21_codes.specs.Repeats.{same_pair, number_behind, is_ignored, is_waiting, Waits}
use Rattle.line21_codes.proofs.RepeatLemmas.{waits_first, waits_behind_control, waits_behind_other, waits_behind_repeat, waits_next}
use Rattle.line21_author.specs.declared.unit.Unit.{Unit}
use Rattle.line21_screen.specs.Channels.{ChannelState}
use Rattle.lanes.specs.Timeline.{Timeline, repeat_at, repeat_of, slot}
use Rattle.lanes.proofs.ColumnLemmas.{null_plain}
use Rattle.line21_shown.specs.Doing.{does}
use Rattle.line21_shown.specs.Reading.{does_unit, IsCaptioned}
use Rattle.line21_shown.proofs.ReadingLemmas.{none_begins, null_code, slot_is}
use Rattle.lost.proofs.HeardLemmas.{heard, heard_at, heard_pair, pairs_from}

-- a pair equals itself
self : (p : Pair) → same_pair p p ≡ true
self p = both_true ((Decides-eqb p.a p.a).1 refl) ((Decides-eqb p.b p.b).1 refl)

-- some pair, or none, is waited for
pub waits_some : (pairs : List Pair) → (d : Doubler) × Waits pairs d
waits_some [] = (record { waiting = None }, waits_first)
waits_some (q ∷ before) =
    let w = waits_some before in (
      record { waiting = then_some (is_control q && not (is_waiting w.0.waiting q)) q },
      waits_next before w.0 q w.1 (is_control q) (is_waiting w.0.waiting q) (then_some (is_control q && not (is_waiting w.0.waiting q)) q) refl refl refl,
    )

-- the first pair of a stretch isn't ignored
begins : (control : Bool) → (control && false) ≡ false
begins true = refl
begins false = refl

pub fresh_first : (p : Pair) → is_ignored [] p ≡ false
fresh_first p = waits_first.repeats p

pub fresh_other : (before : List Pair) (q p : Pair) → same_pair q p ≡ false → is_ignored (q ∷ before) p ≡ false
unfolding is_ignored number_behind
fresh_other before q p other = rw other (begins (is_control p))

-- nor is one after a pair that is none of control
pub fresh_plain : (before : List Pair) (q p : Pair) → is_control q ≡ false → is_ignored (q ∷ before) p ≡ false
fresh_plain before q p plain = let w = waits_some before in (waits_behind_other before w.0 q w.1 plain).repeats p

-- nor one after a pair that was
pub fresh_repeated : (before : List Pair) (q p : Pair) → is_ignored before q ≡ true → is_ignored (q ∷ before) p ≡ false
fresh_repeated before q p ignored =
    let w = waits_some before in (waits_behind_repeat before w.0 q w.1 (sym (w.1.repeats q) ∙ ignored)).repeats p

-- before a slot just what is due is waited for
abbrev pub InStep : Timeline → ℕ → ℕ → ℕ → Type 0
InStep t from k n = Waits (pairs_from (slot t) from k) (record { waiting = repeat_at t n })

-- a pair of control that acts brings the receiver into step
pub into_step : (t : Timeline) → IsCaptioned t → (from k n : ℕ) → from + k ≡ n → (u : Unit) → t n ≡ Some u → u.doubled ≡ true → slot t n ≡ u.pair
    → is_ignored (pairs_from (slot t) from k) (slot t n) ≡ false → InStep t from (suc k) (suc n)
into_step t captioned from k n is u begins twice at fresh =
    let before : List Pair = pairs_from (slot t) from k in
    let w = waits_some before in
    let control : is_control (slot t n) ≡ true = ap is_control at ∙ captioned.marked n u begins ∙ twice in
    let due : repeat_of (t n) ≡ Some (slot t n) = ap repeat_of begins ∙ rw twice (ap (λ p. Some p) (sym at)) in
    let here : n ≡ from + k = sym is in
    subst (λ (p : Pair). Waits (p ∷ before) (record { waiting = repeat_of (t n) })) (ap (slot t) here)
    (subst (λ (o : Option Pair). Waits (slot t n ∷ before) (record { waiting = o })) (sym due)
    (waits_behind_control before w.0 (slot t n) w.1 (sym (w.1.repeats (slot t n)) ∙ fresh) control))

module _ (t : Timeline) (captioned : IsCaptioned t) (from k n : ℕ) (is : from + k ≡ n) (step : InStep t from k n) where
  abbrev before : List Pair
  before = pairs_from (slot t) from k

  abbrev doubler : Doubler
  doubler = record { waiting = repeat_at t n }

  -- after the pair of the slot
  onward : (o : Option Pair) → repeat_of (t n) ≡ o → Waits (slot t n ∷ before) (record { waiting = o }) → InStep t from (suc k) (suc n)
  onward o same waits =
      let here : n ≡ from + k = sym is in
      subst (λ (p : Pair). Waits (p ∷ before) (record { waiting = repeat_of (t n) })) (ap (slot t) here)
      (subst (λ (x : Option Pair). Waits (slot t n ∷ before) (record { waiting = x })) (sym same) waits)

  -- in step from slot to slot
  pub next_step : InStep t from (suc k) (suc n)
  next_step = at (repeat_at t n) refl (t n) refl
    where
      unit_at : (u : Unit) → repeat_at t n ≡ None → t n ≡ Some u → (b : Bool) → u.doubled ≡ b → InStep t from (suc k) (suc n)
      unit_at u due begins true twice =
          let at : slot t n ≡ u.pair = slot_is t n None (Some u) due begins in
          into_step t captioned from k n is u begins twice at (step.repeats (slot t n) ∙ ap (λ w. is_waiting w (slot t n)) due)
      unit_at u due begins false once =
          let at : slot t n ≡ u.pair = slot_is t n None (Some u) due begins in
          onward None (ap repeat_of begins ∙ rw once refl)
          (waits_behind_other before doubler (slot t n) step (ap is_control at ∙ captioned.marked n u begins ∙ once))

      at : (r : Option Pair) → repeat_at t n ≡ r → (u : Option Unit) → t n ≡ u → InStep t from (suc k) (suc n)
      at (Some p) due u begins =
          let nothing : t n ≡ None = none_begins t captioned n p due in
          let pair : slot t n ≡ p = slot_is t n (Some p) None due nothing in
          onward None (ap repeat_of nothing)
          (waits_behind_repeat before doubler (slot t n) step
          (ap (λ w. is_waiting w (slot t n)) due ∙ ap (same_pair p) pair ∙ self p))
      at None due None begins =
          let pair : slot t n ≡ null_pair = slot_is t n None None due begins in
          onward None (ap repeat_of begins)
          (waits_behind_other before doubler (slot t n) step (ap is_control pair ∙ null_plain))
      at None due (Some u) begins = unit_at u due begins u.doubled refl

  -- what is heard in step does what the unit does that begins there
  pub heard_in_step : (s : ChannelState) → does_unit (t n) s ≡ does_unit (heard (slot t) from n) s
  heard_in_step s = at (repeat_at t n) refl (t n) refl
    where
      told : (b : Bool) → is_ignored before (slot t n) ≡ b → heard (slot t) from n ≡ heard_pair b (slot t n)
      told b test = heard_at (slot t) from k n is ∙ ap (λ c. heard_pair c (slot t n)) test

      at : (r : Option Pair) → repeat_at t n ≡ r → (u : Option Unit) → t n ≡ u → does_unit (t n) s ≡ does_unit (heard (slot t) from n) s
      at (Some p) due u begins =
          let nothing : t n ≡ None = none_begins t captioned n p due in
          let pair : slot t n ≡ p = slot_is t n (Some p) None due nothing in
          let ignored : is_ignored before (slot t n) ≡ true =
          step.repeats (slot t n) ∙ ap (λ w. is_waiting w (slot t n)) due ∙ ap (same_pair p) pair ∙ self p in
          ap (λ x. does_unit x s) nothing ∙ sym (ap (λ x. does_unit x s) (told true ignored))
      at None due None begins =
          let pair : slot t n ≡ null_pair = slot_is t n None None due begins in
          let acts_now : is_ignored before (slot t n) ≡ false = step.repeats (slot t n) ∙ ap (λ w. is_waiting w (slot t n)) due in
          ap (λ x. does_unit x s) begins
          ∙ sym (ap (λ x. does_unit x s) (told false acts_now) ∙ ap (λ p. does (code_of p) s) pair ∙ ap (λ c. does c s) null_code)
      at None due (Some u) begins =
          let pair : slot t n ≡ u.pair = slot_is t n None (Some u) due begins in
          let acts_now : is_ignored before (slot t n) ≡ false = step.repeats (slot t n) ∙ ap (λ w. is_waiting w (slot t n)) due in
          ap (λ x. does_unit x s) begins
          ∙ sym (ap (λ x. does_unit x s) (told false acts_now) ∙ ap (λ p. does (code_of p) s) pair)
