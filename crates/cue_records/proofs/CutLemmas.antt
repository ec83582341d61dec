-- The bytes of a record, up to the first byte of its line break, give it whatever follows.
use Rattle.std.proofs.Common.{◌≡◌, ◌+◌, ◌∙◌, ℕ, zero, suc, Bool, true, false, if◌then◌else◌, List, [], ◌∷◌, ◌++◌, length, Option, Some, None, refl, sym, ap, arith, inl, inr}
use Rattle.std.specs.Prelude.{◌||◌, ◌==◌}
use Rattle.std.proofs.lemmas.Bool.{cases_Bool}
use Rattle.csv.specs.Machine.{Read, ends_at_end, ends_with, field_after, fields_after, in_field, is_byte, is_end, next_record, start_field, start_record, step}
use Rattle.csv.specs.Reading.{default_config, records, records_from}
use Rattle.csv.specs.declared.parser.Action.{Action}
use Rattle.csv.specs.declared.parser.Action.TheVariants as act
use Rattle.csv.specs.declared.parser.State.{State}
use Rattle.csv.specs.declared.parser.State.TheVariants as st
use Rattle.csv.specs.declared.parser.Terminator.TheVariants as term
use Rattle.cue_form.specs.Records.{Record}
use Rattle.cue_form.proofs.Rows.{Enough, no_row, one_row}
use Rattle.cue_records.specs.RecordEnds.{EndsRecord, GivesRead, StaysOpen}

-- a byte more, with which the record doesn't end, or does
pub stays_more : (from to next : State) (xs : List ℕ) (c : ℕ) → StaysOpen from xs to → is_end (step default_config to c).1 ≡ false → (step default_config to c).0 ≡ next
    → StaysOpen from (xs ++ c ∷ []) next
unfolding StaysOpen
stays_more from to next [] c stays still leads = rw stays (still, leads)
stays_more from to next (x ∷ xs) c stays still leads = (stays.0, stays_more (step default_config from x).0 to next xs c stays.1 still leads)

pub ends_more : (from to : State) (xs : List ℕ) (c : ℕ) → StaysOpen from xs to → is_end (step default_config to c).1 ≡ true → EndsRecord from (xs ++ c ∷ [])
unfolding StaysOpen EndsRecord
ends_more from to [] c stays ends = rw (stays, ends) refl
ends_more from to (x ∷ xs) c stays ends = rw stays.0 (ends_more (step default_config from x).0 to xs c stays.1 ends)

-- a state from which a text is read as from its start
abbrev pub IsLikeStart : State → Type 0
IsLikeStart s = (xs : List ℕ) → next_record default_config s [] [] xs ≡ next_record default_config st.StartRecord [] [] xs

-- what was read of a text whose last byte ends its first record
pub record IsReadAs (from : State) (fields : List (List ℕ)) (part xs : List ℕ) (read : Read) : Type 0 where
  pub alone : next_record default_config from fields part xs ≡ Some read
  pub before : (rest : List ℕ) → next_record default_config from fields part (xs ++ rest) ≡ Some (read.0, read.1, rest)
  pub like : IsLikeStart read.1

-- after the first byte of a line break the rest is read as from the start
same_step : (a b : Bool) (x : State × Action) → (if b then (st.StartRecord, act.Skip) else (if a || b then (st.StartRecord, act.Skip) else x)) ≡ (if a || b then (st.StartRecord, act.Skip) else x)
same_step true true x = refl
same_step true false x = refl
same_step false true x = refl
same_step false false x = refl

after_return : IsLikeStart st.AfterCr
unfolding next_record
after_return [] = refl
after_return (c ∷ xs) = ap (λ (to : State × Action).
    if is_end to.1 then Some (fields_after to.1 [] [], to.0, xs) else next_record default_config to.0 (fields_after to.1 [] []) (field_after to.1 c []) xs)
    (same_step (c == 13) (c == 10) (if is_byte None c then (st.InComment, act.Skip) else start_field default_config c))

abbrev pub EndsLikeStart : State × Action → Type 0
EndsLikeStart to = is_end to.1 ≡ true → IsLikeStart to.0

split : (b : Bool) (x y : State × Action) → EndsLikeStart x → EndsLikeStart y → EndsLikeStart (if b then x else y)
split true x y one two = one
split false x y one two = two

open_here : (s : State) (a : Action) → is_end a ≡ false → EndsLikeStart (s, a)
open_here s a still ends = cc

field_ends : (c : ℕ) → EndsLikeStart (in_field default_config c)
field_ends c = split (c == 44) _ _ (open_here st.StartField act.EndField refl)
    (split ((c == 13) || (c == 10)) _ _ (by (c == 13)) (open_here st.InField act.Copy refl))
  where
    by : (b : Bool) → EndsLikeStart (if b then st.AfterCr else st.StartRecord, act.EndRecord)
    by true ends = after_return
    by false ends = λ xs. refl

fresh_ends : (c : ℕ) → EndsLikeStart (start_field default_config c)
fresh_ends c = split (c == 34) _ _ (open_here st.InQuoted act.Skip refl) (field_ends c)

first_ends : (c : ℕ) → EndsLikeStart (start_record default_config c)
first_ends c = split (ends_with term.CRLF c) _ _ (open_here st.StartRecord act.Skip refl) (fresh_ends c)

step_ends : (s : State) (c : ℕ) → EndsLikeStart (step default_config s c)
step_ends st.StartRecord c = first_ends c
step_ends st.StartField c = fresh_ends c
step_ends st.InField c = field_ends c
step_ends st.InQuoted c = split (c == 34) _ _ (open_here st.AfterQuote act.Skip refl) (open_here st.InQuoted act.Copy refl)
step_ends st.InEscape c = open_here st.InQuoted act.Copy refl
step_ends st.AfterQuote c = split (c == 34) _ _ (open_here st.InQuoted act.Copy refl) (field_ends c)
step_ends st.InComment c = split (c == 10) _ _ (open_here st.StartRecord act.Skip refl) (open_here st.InComment act.Skip refl)
step_ends st.AfterCr c = split (c == 10) _ _ (open_here st.StartRecord act.Skip refl) (first_ends c)

-- the record is read so
pub record_read : (from : State) (fields : List (List ℕ)) (part xs : List ℕ) → EndsRecord from xs → (read : Read) × IsReadAs from fields part xs read
unfolding EndsRecord next_record
record_read from fields part [] ends = absurd ends
record_read from fields part (c ∷ xs) ends = elim (cases_Bool (is_end (step default_config from c).1)) [
  | inl e ↦ last e (rw e at ends)
  | inr e ↦ more e (record_read (step default_config from c).0 (fields_after (step default_config from c).1 fields part) (field_after (step default_config from c).1 c part) xs (rw e at ends))
]
  where
    last : is_end (step default_config from c).1 ≡ true → xs ≡ [] → (read : Read) × IsReadAs from fields part (c ∷ xs) read
    last e none = (
      (fields_after (step default_config from c).1 fields part, (step default_config from c).0, []),
      record {
        alone = rw (none, e) refl;
        before = λ rest. rw (none, e) refl;
        like = step_ends from c e;
      },
    )

    more : is_end (step default_config from c).1 ≡ false
        → (read : Read) × IsReadAs (step default_config from c).0 (fields_after (step default_config from c).1 fields part) (field_after (step default_config from c).1 c part) xs read
        → (read : Read) × IsReadAs from fields part (c ∷ xs) read
    more e (read, is) = (read, record { alone = rw e is.alone; before = λ rest. rw e (is.before rest); like = is.like })

-- records with enough turns are the same with more
same_turns : (n m : ℕ) (s : State) (xs : List ℕ) → Enough n s xs → Enough m s xs → records_from default_config n s xs ≡ records_from default_config m s xs
same_turns zero m s xs one two = by (next_record default_config s [] [] xs) refl
  where
    by : (r : Option Read) → next_record default_config s [] [] xs ≡ r → records_from default_config zero s xs ≡ records_from default_config m s xs
    by None is = no_row default_config zero s xs is ∙ sym (no_row default_config m s xs is)
    by (Some p) is = let (k, count, left, rows) = one_row default_config zero s xs p one is in absurd (omega arith)
same_turns (suc n) m s xs one two = by (λ l p. same_turns n l p.1 p.2) (next_record default_config s [] [] xs) refl
  where
    by : ((l : ℕ) (p : Read) → Enough n p.1 p.2 → Enough l p.1 p.2 → records_from default_config n p.1 p.2 ≡ records_from default_config l p.1 p.2)
        → (r : Option Read) → next_record default_config s [] [] xs ≡ r → records_from default_config (suc n) s xs ≡ records_from default_config m s xs
    by more None is = no_row default_config (suc n) s xs is ∙ sym (no_row default_config m s xs is)
    by more (Some p) is =
        let (k, count, left, rows) = one_row default_config (suc n) s xs p one is in
        let (l, counted, remains, given) = one_row default_config m s xs p two is in
        let same : k ≡ n = omega arith in
        rows ∙ ap (λ (rest : List Record). p.0 ∷ rest) (rw same (more l p (rw same at left) remains)) ∙ sym given

-- and so from a state that is like the start
same_records : (n m : ℕ) (s : State) (xs : List ℕ) → IsLikeStart s → Enough n s xs → Enough m st.StartRecord xs
    → records_from default_config n s xs ≡ records_from default_config m st.StartRecord xs
same_records n m s xs like one two = by (next_record default_config s [] [] xs) refl
  where
    by : (r : Option Read) → next_record default_config s [] [] xs ≡ r → records_from default_config n s xs ≡ records_from default_config m st.StartRecord xs
    by None is = no_row default_config n s xs is ∙ sym (no_row default_config m st.StartRecord xs (sym (like xs) ∙ is))
    by (Some p) is =
        let (k, count, left, rows) = one_row default_config n s xs p one is in
        let (l, counted, remains, given) = one_row default_config m st.StartRecord xs p two (sym (like xs) ∙ is) in
        rows ∙ ap (λ (rest : List Record). p.0 ∷ rest) (same_turns k l p.1 p.2 left remains) ∙ sym given

-- a record and what follows: its fields, and the records of the rest
pub records_after : (xs : List ℕ) (read : Read) → IsReadAs st.StartRecord [] [] xs read → (rest : List ℕ)
    → records default_config (xs ++ rest) ≡ read.0 ∷ records default_config rest
records_after xs read is rest =
    let (k, count, left, rows) = one_row default_config (length (xs ++ rest) + 1) st.StartRecord (xs ++ rest) (read.0, read.1, rest) (inl (omega arith)) (is.before rest) in
    rows ∙ ap (λ (after : List Record). read.0 ∷ after) (same_records k (length rest + 1) read.1 rest is.like left (inl (omega arith)))

-- bytes with which no record ends are read at the end of a text: as a record, if it has begun
open_read : (from to : State) (fields : List (List ℕ)) (part xs : List ℕ) → StaysOpen from xs to
    → (row : List (List ℕ)) × (next_record default_config from fields part xs ≡ (if ends_at_end to then Some (row, st.StartRecord, []) else None))
unfolding StaysOpen next_record
open_read from to fields part [] stays = (fields ++ (part ∷ []), rw stays refl)
open_read from to fields part (c ∷ xs) stays =
    let (row, is) = open_read (step default_config from c).0 to (fields_after (step default_config from c).1 fields part) (field_after (step default_config from c).1 c part) xs stays.1 in
    (row, rw stays.0 is)

-- the records of a text with which none ended: its first, if there is one
pub last_records : (to : State) (xs : List ℕ) (found : Bool) (row : Record) → StaysOpen st.StartRecord xs to → GivesRead (next_record default_config st.StartRecord [] [] xs) found row
    → records default_config xs ≡ (if found then row ∷ [] else [])
unfolding next_record
last_records to xs found row stays gives =
    let (read, is) = open_read st.StartRecord to [] [] xs stays in by (ends_at_end to) read is
  where
    by : (ends : Bool) (read : List (List ℕ)) → next_record default_config st.StartRecord [] [] xs ≡ (if ends then Some (read, st.StartRecord, []) else None)
        → records default_config xs ≡ (if found then row ∷ [] else [])
    by false read is = let no : found ≡ false = rw is at gives in rw no (no_row default_config (length xs + 1) st.StartRecord xs is)
    by true read is =
        let (is_found, fields) = rw is at gives in
        let (k, count, left, rows) = one_row default_config (length xs + 1) st.StartRecord xs (read, st.StartRecord, []) (inl (omega arith)) is in
        rw (is_found, fields) (rows ∙ ap (λ (after : List Record). read ∷ after) (no_row default_config k st.StartRecord [] nothing))
      where
        nothing : next_record default_config st.StartRecord [] [] [] ≡ None
        nothing = refl
