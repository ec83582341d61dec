-- The rows that a reader gave, one by one, are the records of the text.
use Rattle.std.proofs.Common.{◌≡◌, ◌≤◌, ◌<◌, ◌+◌, ℕ, zero, suc, List, [], ◌∷◌, length, Option, Some, None, refl, arith, true, false, ◌⊎◌, inl, inr}
use Rattle.std.proofs.lemmas.Bool.{cases_Bool}
use Rattle.csv.specs.declared.parser.Config.{Config}
use Rattle.csv.specs.declared.parser.State.{State}
use Rattle.csv.specs.declared.parser.State.TheVariants as st
use Rattle.csv.specs.Machine.{Read, step, is_end, next_record, ends_at_end}
use Rattle.csv.proofs.ReadFacts.{rows-end, rows-more}
use Rattle.csv.specs.declared.reader.Reader.{Reader}
use Rattle.csv.specs.Reading.{Reached, ReadRecord, source_of, is_bom, records_from, strip_bom}

-- a record leaves no more bytes than there were
no_more : (cfg : Config) (xs : List ℕ) (s : State) (fields : List (List ℕ)) (part : List ℕ) (p : Read) → next_record cfg s fields part xs ≡ Some p → length p.2 ≤ length xs
unfolding next_record
no_more cfg [] s fields part p h = elim (cases_Bool (ends_at_end s)) [
  | inl e ↦ let q = rw e at h in let last : p.2 ≡ [] = cc in rw last (omega arith)
  | inr e ↦ let q = rw e at h in cc
]
no_more cfg (c ∷ rest) s fields part p h = elim (cases_Bool (is_end (step cfg s c).1)) [
  | inl e ↦ let q = rw e at h in let last : p.2 ≡ rest = cc in rw last (omega arith)
  | inr e ↦ let q = no_more cfg rest _ _ _ p (rw e at h) in omega arith
]

-- a record that begins before a byte takes one
takes_one : (cfg : Config) (s : State) (fields : List (List ℕ)) (part rest : List ℕ) (c : ℕ) (p : Read) → next_record cfg s fields part (c ∷ rest) ≡ Some p → length p.2 ≤ length rest
unfolding next_record
takes_one cfg s fields part rest c p h = elim (cases_Bool (is_end (step cfg s c).1)) [
  | inl e ↦ let q = rw e at h in let last : p.2 ≡ rest = cc in rw last (omega arith)
  | inr e ↦ no_more cfg rest _ _ _ p (rw e at h)
]

-- at the end of the text there is one record at most
last_one : (cfg : Config) (s : State) (fields : List (List ℕ)) (part : List ℕ) (p : Read) → next_record cfg s fields part [] ≡ Some p → (p.1 ≡ st.StartRecord) × (p.2 ≡ [])
unfolding next_record
last_one cfg s fields part p h = elim (cases_Bool (ends_at_end s)) [
  | inl e ↦ let q = rw e at h in (cc, cc)
  | inr e ↦ let q = rw e at h in cc
]

-- no record begins at the end of the text
no_start : (cfg : Config) (p : Read) → next_record cfg st.StartRecord [] [] [] ≡ Some p → ⊥
unfolding next_record
no_start cfg p h = cc

-- this many turns are enough for the records of these bytes
abbrev pub Enough : ℕ → State → List ℕ → Type 0
Enough n s xs = (length xs < n) ⊎ ((s ≡ st.StartRecord) × (xs ≡ []))

-- a record takes a turn, and leaves enough of them
pub one_row : (cfg : Config) (n : ℕ) (s : State) (xs : List ℕ) (p : Read) → Enough n s xs → next_record cfg s [] [] xs ≡ Some p
    → (m : ℕ) × (n ≡ m + 1) × Enough m p.1 p.2 × (records_from cfg n s xs ≡ p.0 ∷ records_from cfg m p.1 p.2)
unfolding records_from
one_row cfg zero s xs p (inl h) at = absurd (omega arith)
one_row cfg (suc m) s [] p (inl h) at = (m, omega arith, inr (last_one cfg s [] [] p at), rw at refl)
one_row cfg (suc m) s (c ∷ xs) p (inl h) at =
    let less = takes_one cfg s [] [] xs c p at in
    (m, omega arith, inl (omega arith), rw at refl)
one_row cfg n s xs p (inr h) at = absurd (no_start cfg p (rw (h.0, h.1) at at))

-- no record, and so none of those that are left
pub no_row : (cfg : Config) (n : ℕ) (s : State) (xs : List ℕ) → next_record cfg s [] [] xs ≡ None → records_from cfg n s xs ≡ []
unfolding records_from
no_row cfg zero s xs h = refl
no_row cfg (suc n) s xs h = rw h refl

same_rows : (cfg : Config) (n m : ℕ) (s t : State) (xs ys : List ℕ) (f : List (List ℕ)) (p : Read)
    → records_from cfg n s xs ≡ p.0 ∷ records_from cfg m p.1 p.2 → f ≡ p.0 → p.1 ≡ t → p.2 ≡ ys → records_from cfg n s xs ≡ f ∷ records_from cfg m t ys
same_rows cfg n m s t xs ys f p rows is state rest = rw (is, ← state, ← rest) rows

-- a read that found a record, of a reader whose bytes are known: the record is the first of those that were left
pub read_row : {R : Type 0} (rem : R → Option (List ℕ)) (a b : Reader R) (f : List (List ℕ)) (cfg : Config) (n : ℕ) (y : List ℕ)
    → a.config ≡ cfg → source_of rem a ≡ Some y → Enough n a.state y → ReadRecord rem a b true f
    → (m : ℕ) × (z : List ℕ) × (n ≡ m + 1) × (source_of rem b ≡ Some z) × Enough m b.state z × (records_from cfg n a.state y ≡ f ∷ records_from cfg m b.state z)
unfolding Reached
read_row rem a b f cfg n y config source enough read =
    let (z, at_z, reached) = rows-more rem a b f cfg a.state y y [] config source (refl, refl) read in
    let (p, at, is, ends) = reached in
    let (m, count, left, rows) = one_row cfg n a.state y p enough at in
    (m, z, count, at_z, rw (ends.0, ends.1) at left, same_rows cfg n m a.state b.state y z f p rows is ends.0 ends.1)

-- a read that found none: none was left
pub read_end : {R : Type 0} (rem : R → Option (List ℕ)) (a b : Reader R) (f : List (List ℕ)) (cfg : Config) (n : ℕ) (y : List ℕ)
    → a.config ≡ cfg → source_of rem a ≡ Some y → ReadRecord rem a b false f → records_from cfg n a.state y ≡ []
read_end rem a b f cfg n y config source read = no_row cfg n a.state y (rows-end rem a b f cfg y config source read)

-- a text without its mark is no longer
pub bom_shorter : (xs : List ℕ) → length (strip_bom xs) ≤ length xs
unfolding strip_bom
bom_shorter [] = omega arith
bom_shorter (a ∷ []) = omega arith
bom_shorter (a ∷ b ∷ []) = omega arith
bom_shorter (a ∷ b ∷ c ∷ rest) = elim (cases_Bool (is_bom a b c)) [ inl e ↦ rw e (omega arith) | inr e ↦ rw e (omega arith) ]
