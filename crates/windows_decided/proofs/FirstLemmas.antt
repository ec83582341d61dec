-- Of numbers below one something holds of all, or there is a first of which it doesn't.
use Rattle.std.proofs.Common.{◌≡◌, ◌∙◌, ◌<◌, ◌⊎◌, arith, inl, inr, subst, suc, sym, zero, ℕ, Bool}
use Rattle.std.proofs.lemmas.Bool.{cases_Bool, cases_lt, true≢false}
use Rattle.std.specs.Bool.{Decides}
use Rattle.windows_decided.specs.Decided.{Decided}

-- what a test decides is decided
pub decided_by : {P : Type 0} (test : Bool) → Decides test P → Decided P
decided_by test decides = elim (cases_Bool test) [
  | inl passes ↦ inl (decides.0 passes)
  | inr fails ↦ inr (λ holds. true≢false (sym (decides.1 holds) ∙ fails))
]

below_or_it : (k n : ℕ) → k < suc n → (k < n) ⊎ (k ≡ n)
below_or_it k n less = elim (cases_lt k n) [
  | inl below ↦ inl below
  | inr most ↦ inr (omega (arith, less, most))
]

module _ (P : ℕ → Type 0) (decide : (n : ℕ) → Decided (P n)) where
  abbrev pub First : ℕ → Type 0
  First n = (k : ℕ) × (k < n) × (P k → ⊥) × ((j : ℕ) → j < k → P j)

  pub first_or_all : (n : ℕ) → ((k : ℕ) → k < n → P k) ⊎ First n
  first_or_all zero = inl (λ k less. absurd (omega (arith, less)))
  first_or_all (suc n) = elim (first_or_all n) [
    | inr (k, small, other, before) ↦ inr (k, omega (arith, small), other, before)
    | inl all ↦ elim (decide n) [
      | inr other ↦ inr (n, omega arith, other, all)
      | inl is ↦ inl (λ k less. elim (below_or_it k n less) [
        | inl below ↦ all k below
        | inr same ↦ subst P (sym same) is
      ])
    ]
  ]

  pub all_decided : (n : ℕ) → Decided ((k : ℕ) → k < n → P k)
  all_decided n = elim (first_or_all n) [
    | inl all ↦ inl all
    | inr (k, small, other, before) ↦ inr (λ all. other (all k small))
  ]
