-- While nothing comes but null pairs and EDM, an empty screen stays empty; of two EDM pairs one acts, whichever is taken for the repeat
-- (CTA-608-E; 47 CFR 79.101).
use Rattle.std.proofs.Common.{◌≡◌, ℕ, zero, suc, ◌+◌, ◌-◌, ◌<◌, ◌≤◌, ◌⊎◌, inl, inr, Bool, true, false, ◌∷◌, refl, ap, ◌∙◌, subst, arith, ⊎_elim}
use Rattle.std.proofs.lemmas.Bool.{cases_lt}
use Rattle.line21_codes.specs.declared.codes.Code.TheVariants.{Null}
use Rattle.line21_codes.specs.declared.codes.Control.TheVariants.{Edm}
use Rattle.line21_codes.specs.declared.pairs.Pair.{Pair}
use Rattle.line21_codes.specs.Reading.{code_of}
use Rattle.line21_codes.specs.Repeats.{is_ignored}
use Rattle.line21_author.specs.FirstChannel.{first_channel}
use Rattle.line21_screen.specs.Channels.{ChannelState}
use Rattle.line21_screen.specs.Grid.{empty_grid}
use Rattle.line21_shown.specs.Doing.{does}
use Rattle.line21_shown.specs.Reading.{acts, does_unit}
use Rattle.lost.proofs.HeardLemmas.{heard, heard_at, heard_new, heard_pair, pairs_from}
use Rattle.lost.proofs.StepLemmas.{fresh_repeated}

-- the pair does nothing, or hides
abbrev pub IsIdle : Pair → Type 0
IsIdle pair = (code_of pair ≡ Null) ⊎ (code_of pair ≡ first_channel Edm)

abbrev pub IsEmpty : ChannelState → Type 0
IsEmpty s = s.displayed ≡ empty_grid

idle_keeps : (pair : Pair) (s : ChannelState) → IsIdle pair → IsEmpty s → IsEmpty (does (code_of pair) s)
idle_keeps pair s (inl null) empty = ap (λ c. (does c s).displayed) null ∙ empty
idle_keeps pair s (inr hides) empty = ap (λ c. (does c s).displayed) hides

module _ (column : ℕ → Pair) (from : ℕ) where
  step_is : (n : ℕ) → from ≤ n → (b : Bool) → is_ignored (pairs_from column from (n - from)) (column n) ≡ b
      → acts (heard column from) (suc n) ≡ does_unit (heard_pair b (column n)) (acts (heard column from) n)
  step_is n low b test =
      ap (λ u. does_unit u (acts (heard column from) n))
      (heard_at column from (n - from) n (omega arith) ∙ ap (λ c. heard_pair c (column n)) test)

  -- one slot more
  pub idle_next : (n : ℕ) → from ≤ n → IsIdle (column n) → IsEmpty (acts (heard column from) n) → IsEmpty (acts (heard column from) (suc n))
  idle_next n low idle empty = at (is_ignored (pairs_from column from (n - from)) (column n)) refl
    where
      at : (b : Bool) → is_ignored (pairs_from column from (n - from)) (column n) ≡ b → IsEmpty (acts (heard column from) (suc n))
      at true test = ap (λ (s : ChannelState). s.displayed) (step_is n low true test) ∙ empty
      at false test = ap (λ (s : ChannelState). s.displayed) (step_is n low false test) ∙ idle_keeps (column n) (acts (heard column from) n) idle empty

  -- many
  pub idle_on : (k n m : ℕ) → n + k ≡ m → from ≤ n → ((i : ℕ) → n ≤ i → i < m → IsIdle (column i)) → IsEmpty (acts (heard column from) n)
      → IsEmpty (acts (heard column from) m)
  idle_on zero n m is low idle empty = let same : n ≡ m = omega arith in subst (λ i. IsEmpty (acts (heard column from) i)) same empty
  idle_on (suc k) n m is low idle empty =
      idle_on k (suc n) m (omega arith) (omega arith) (λ i above below. idle i (omega arith) below) (idle_next n low (idle n (omega arith) (omega arith)) empty)

  -- of two equal pairs that hide one does
  pub hidden_twice : (n : ℕ) → from ≤ n → code_of (column n) ≡ first_channel Edm → column (suc n) ≡ column n → IsEmpty (acts (heard column from) (suc (suc n)))
  hidden_twice n low hides same = at (is_ignored (pairs_from column from (n - from)) (column n)) refl
    where
      also : code_of (column (suc n)) ≡ first_channel Edm
      also = ap code_of same ∙ hides

      at : (b : Bool) → is_ignored (pairs_from column from (n - from)) (column n) ≡ b → IsEmpty (acts (heard column from) (suc (suc n)))
      at false test =
          idle_next (suc n) (omega arith) (inr also)
          (ap (λ (s : ChannelState). s.displayed) (step_is n low false test) ∙ ap (λ c. (does c (acts (heard column from) n)).displayed) hides)
      at true test =
          let count : suc n - from ≡ suc (n - from) = omega arith in
          let here : from + (n - from) ≡ n = omega arith in
          let fresh : is_ignored (pairs_from column from (suc n - from)) (column (suc n)) ≡ false =
          ap (λ k. is_ignored (pairs_from column from k) (column (suc n))) count
          ∙ ap (λ m. is_ignored (column m ∷ pairs_from column from (n - from)) (column (suc n))) here
          ∙ fresh_repeated (pairs_from column from (n - from)) (column n) (column (suc n)) test in
          ap (λ (s : ChannelState). s.displayed) (step_is (suc n) (omega arith) false fresh)
          ∙ ap (λ c. (does c (acts (heard column from) (suc n))).displayed) also

  -- what hides in slot h, and its repeat, leave an empty screen up to a slot before which nothing else comes
  pub hidden_by_then : (h m : ℕ) → from ≤ m → suc (suc h) ≤ m
      → code_of (column h) ≡ first_channel Edm → column (suc h) ≡ column h
      → ((i : ℕ) → suc (suc h) ≤ i → i < m → code_of (column i) ≡ Null) → IsEmpty (acts (heard column from) m)
  hidden_by_then h m low above hides same nulls =
      ⊎_elim
      (λ (before : h < from).
      idle_on (m - from) from m (omega arith) (omega arith)
      (λ i up below.
      ⊎_elim (λ (early : i < suc (suc h)). let one : i ≡ suc h = omega arith in inr (ap (λ j. code_of (column j)) one ∙ ap code_of same ∙ hides))
      (λ (late : suc (suc h) ≤ i). inl (nulls i late below)) (cases_lt i (suc (suc h))))
      (ap (λ (s : ChannelState). s.displayed) (heard_new column from from (omega arith))))
      (λ (behind : from ≤ h).
      idle_on (m - suc (suc h)) (suc (suc h)) m (omega arith) (omega arith) (λ i up below. inl (nulls i up below)) (hidden_twice h behind hides same))
      (cases_lt h from)
