-- Fields of records.
use Rattle.std.proofs.Common.{◌≡◌, ◌+◌, ◌<◌, ◌==◌, drop, length, true, arith, eqb-true, Bor, ℕ, option_map, zero, suc, List, [], ◌∷◌, Option, Some, None, unwrap_or, refl, ap, ◌∙◌}
use Rattle.csv.specs.Records.{field_at}
use Rattle.cue_form.specs.Records.{Field, Record, field}

-- the field at a place, or an empty one
unwrap_or-field_at : (r : Record) (place : ℕ) → unwrap_or (field_at r place) [] ≡ field r place
unfolding field_at
unwrap_or-field_at [] place = refl
unwrap_or-field_at (f ∷ fs) zero = refl
unwrap_or-field_at (f ∷ fs) (suc place) = unwrap_or-field_at fs place

-- the same of a reference to it
pub field_from_get : (r : Record) (place : ℕ) (got : Option (Bor (List ℕ))) (none : Bor (List ℕ)) → option_map (λ s. s.now) got ≡ field_at r place → none.now ≡ []
    → (unwrap_or got none).now ≡ field r place
field_from_get r place None none at empty = empty ∙ (ap (λ o. unwrap_or o []) at ∙ unwrap_or-field_at r place)
field_from_get r place (Some f) none at empty = ap (λ o. unwrap_or o []) at ∙ unwrap_or-field_at r place

-- the fields from a place on, this many
abbrev pub listed : ℕ → ℕ → Record → Record
listed zero from r = []
listed (suc n) from r = field r from ∷ listed n (suc from) r

pub drop_field : (r : Record) (from : ℕ) → from < length r → drop from r ≡ field r from ∷ drop (suc from) r
drop_field [] from within = absurd (omega arith)
drop_field (f ∷ fs) zero within = refl
drop_field (f ∷ fs) (suc from) within = drop_field fs from (omega arith)

drop_none : (r : Record) (from : ℕ) → length r ≡ from → drop from r ≡ []
drop_none [] zero e = refl
drop_none [] (suc from) e = absurd (omega arith)
drop_none (f ∷ fs) zero e = absurd (omega arith)
drop_none (f ∷ fs) (suc from) e = drop_none fs from (omega arith)

fields_from : (n from : ℕ) (r : Record) → length r ≡ from + n → drop from r ≡ listed n from r
fields_from zero from r e = drop_none r from (omega arith)
fields_from (suc n) from r e = drop_field r from (omega arith) ∙ ap (λ fs. field r from ∷ fs) (fields_from n (suc from) r (omega arith))

-- a record by its fields
pub fields_listed : (n : ℕ) (r : Record) → (length r == n) ≡ true → r ≡ listed n 0 r
fields_listed n r e = let all : length r ≡ n = eqb-true (length r) n e in fields_from n 0 r (omega arith)

-- records are equal by their fields
pub field_is : {a b : Field} {xs ys : Record} → a ≡ b → xs ≡ ys → a ∷ xs ≡ b ∷ ys
field_is {a} {b} {xs} {ys} e f = ap (λ (x : Field). x ∷ xs) e ∙ ap (λ (rest : Record). b ∷ rest) f
