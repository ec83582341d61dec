-- The records of one cue give the same after a list's records as by themselves.
use Rattle.std.proofs.Common.{◌≡◌, ◌∙◌, ℕ, ◌+◌, ◌<◌, Bool, true, false, if◌then◌else◌, List, [], ◌∷◌, ◌++◌, length, Option, Some, None, Result, Ok, Err, refl, sym, ap, arith}
use Rattle.std.specs.Prelude.{◌&&◌, nat_lt, option_map, option_to_list}
use Rattle.std.specs.List.{AllByRecursion}
use Rattle.std.proofs.lemmas.Bool.Decides.{nat_tests}
use Rattle.cue_form.specs.Begun.{Begun, awaits_run, cue_with_attributes, cue_with_colours, cue_with_run}
use Rattle.cue_form.specs.Form.{awaits_attributes, awaits_colours, is_second}
use Rattle.cue_form.specs.Reading.{attributes_of, colours_of, cue_of, next, next_of_kind, on_ok, read_from, read_on, run_of, unless}
use Rattle.cue_form.specs.Records.{Record}
use Rattle.cue_form.specs.declared.fault.CueFault.{CueFault}
use Rattle.cue_form.specs.declared.fault.CueFault.TheVariants as fault
use Rattle.cue_form.specs.declared.offence.Offence.{Offence}
use Rattle.cue_form.specs.declared.offence.Offence.TheVariants as offence
use Rattle.cc_base.specs.declared.why.Why.TheVariants as why
use Rattle.cue_form.specs.declared.record_kind.RecordKind.{RecordKind}
use Rattle.cue_form.specs.declared.record_kind.RecordKind.TheVariants as record_kind
use Rattle.cue_types.specs.Listing.{Listing, most_cues}
use Rattle.cue_types.specs.declared.cue.Cue.{Cue}
use Rattle.cue_types.specs.declared.cue.Run.{Run}
use Rattle.cue_types.specs.declared.head.Head.{Head}
use Rattle.cue_types.specs.declared.list.Share.{Share}
use Rattle.cue_records.specs.declared.record_role.RecordRole.TheVariants as role
use Rattle.cue_records.specs.CueApart.{AreOfCue, begun_with, kind_of, list_of, read_apart, role_of}

pub same_ok : (a b : Begun) (r : Result Begun Offence) → r ≡ Ok a → r ≡ Ok b → a ≡ b
same_ok a b r one two = cc

module _ (head : Head) (shares : List Share) (cues : List Cue) where
  -- what is begun of the cue, after the list
  pub after_list : Result Begun Offence → Result Begun Offence
  after_list r = on_ok r (λ one. Ok (begun_with head shares cues one.last))

  -- a record that continues the cue
  with_part : {A : Type 0} (with_it : A → Cue → Cue) (last : Option Cue) (t : Bool) (o : Offence) (r : Result A Offence)
      → on_ok (unless (if t then None else Some o) (begun_with head shares cues last)) (λ b. on_ok r (λ part. Ok (record b { last = option_map (with_it part) b.last })))
      ≡ after_list (on_ok (unless (if t then None else Some o) (begun_with head [] [] last)) (λ b. on_ok r (λ part. Ok (record b { last = option_map (with_it part) b.last }))))
  unfolding after_list
  with_part with_it last true o (Ok part) = refl
  with_part with_it last true o (Err fault) = refl
  with_part with_it last false o r = refl

  with_run : (cue : Cue) (r : Result Run Offence)
      → on_ok r (λ run. Ok (record (begun_with head shares cues (Some cue)) { last = Some (cue_with_run cue run) }))
      ≡ after_list (on_ok r (λ run. Ok (record (begun_with head [] [] (Some cue)) { last = Some (cue_with_run cue run) })))
  unfolding after_list
  with_run cue (Ok run) = refl
  with_run cue (Err fault) = refl

  ran : (last : Option Cue) (r : Record) → next_of_kind (begun_with head shares cues last) (Some record_kind.Run) r
      ≡ after_list (next_of_kind (begun_with head [] [] last) (Some record_kind.Run) r)
  unfolding after_list
  ran None r = refl
  ran (Some cue) r = with_run cue (run_of cue.kind cue.runs r)

  pub continued : (last : Option Cue) (r : Record) (k : Option RecordKind) → role_of k ≡ role.Continues
      → next_of_kind (begun_with head shares cues last) k r ≡ after_list (next_of_kind (begun_with head [] [] last) k r)
  continued last r (Some record_kind.Attr) on =
      with_part cue_with_attributes last (is_second (Some head) && awaits_attributes last) (offence.At 1 why.Field) (attributes_of r)
  continued last r (Some record_kind.Run) on = ran last r
  continued last r (Some record_kind.Colour) on =
      with_part cue_with_colours last (is_second (Some head) && awaits_colours last) (offence.At 1 why.Field) (colours_of r)
  continued last r None on = cc
  continued last r (Some record_kind.Ccsuite) on = cc
  continued last r (Some record_kind.Share) on = cc
  continued last r (Some record_kind.Pop) on = cc
  continued last r (Some record_kind.Paint) on = cc
  continued last r (Some record_kind.Roll) on = cc
  continued last r (Some record_kind.Win) on = cc

  -- the list that is read apart, put after the cues
  with_own : Result Listing CueFault → Result Listing CueFault
  with_own r = on_ok r (λ own. Ok (list_of head shares (cues ++ own.cues)))

  ended : (last : Option Cue) (number : ℕ) → read_from (begun_with head shares cues last) number [] ≡ with_own (read_from (begun_with head [] [] last) number [])
  unfolding with_own
  ended last number = at (awaits_run last)
    where
      at : (b : Bool) → (if b then Err (fault.Malformed number 1 why.Field) else Ok (list_of head shares (cues ++ option_to_list last)))
          ≡ on_ok (if b then Err (fault.Malformed number 1 why.Field) else Ok (list_of head [] (option_to_list last))) (λ own. Ok (list_of head shares (cues ++ own.cues)))
      at true = refl
      at false = refl

  -- the rest of the records, of a cue that is begun so
  step : (rest : List Record) (number : ℕ)
      → ((last : Option Cue) → read_from (begun_with head shares cues last) (number + 1) rest ≡ with_own (read_from (begun_with head [] [] last) (number + 1) rest))
      → (one : Result Begun Offence) → on_ok one (λ b. Ok (begun_with head [] [] b.last)) ≡ one
      → read_on number (after_list one) (λ b. read_from b (number + 1) rest) ≡ with_own (read_on number one (λ b. read_from b (number + 1) rest))
  unfolding after_list with_own
  step rest number more (Ok one) own =
      let same : begun_with head [] [] one.last ≡ one = same_ok (begun_with head [] [] one.last) one (Ok one) (sym own) refl in
      more one.last ∙ ap (λ (b : Begun). on_ok (read_from b (number + 1) rest) (λ own. Ok (list_of head shares (cues ++ own.cues)))) same
  step rest number more (Err offence) own = refl

-- by itself a cue leaves the list that has the head alone
pub continued_alone : (head : Head) (last : Option Cue) (r : Record) (k : Option RecordKind) → role_of k ≡ role.Continues
    → on_ok (next_of_kind (begun_with head [] [] last) k r) (λ b. Ok (begun_with head [] [] b.last)) ≡ next_of_kind (begun_with head [] [] last) k r
unfolding after_list
continued_alone head last r k on = sym (continued head [] [] last r k on)

rest_read : (head : Head) (shares : List Share) (cues : List Cue) (records : List Record) (last : Option Cue) (number : ℕ)
    → AllByRecursion (λ (r : Record). role_of (kind_of r) ≡ role.Continues) records
    → read_from (begun_with head shares cues last) number records ≡ with_own head shares cues (read_from (begun_with head [] [] last) number records)
rest_read head shares cues [] last number on = ended head shares cues last number
rest_read head shares cues (r ∷ records) last number on =
    ap (λ (b : Result Begun Offence). read_on number b (λ b. read_from b (number + 1) records)) (continued head shares cues last r (kind_of r) on.0)
    ∙ step head shares cues records number (λ last. rest_read head shares cues records last (number + 1) on.1) (next (begun_with head [] [] last) r)
    (continued_alone head last r (kind_of r) on.0)

-- the record that opens the cue
module _ (head : Head) (shares : List Share) (earlier : List Cue) (last : Option Cue) (whole : awaits_run last ≡ false)
    (room : nat_lt (length (earlier ++ option_to_list last)) most_cues ≡ true) (r : Record) where
  with_one : (o : Result Cue Offence) → on_ok o (λ cue. Ok (record (begun_with head shares earlier last) { earlier = earlier ++ option_to_list last; last = Some cue }))
      ≡ after_list head shares (earlier ++ option_to_list last) (on_ok o (λ cue. Ok (begun_with head [] [] (Some cue))))
  unfolding after_list
  with_one (Ok cue) = refl
  with_one (Err fault) = refl

  opened : (k : Option RecordKind) → role_of k ≡ role.Opens → next_of_kind (begun_with head shares earlier last) k r
      ≡ after_list head shares (earlier ++ option_to_list last) (next_of_kind (begun_with head [] [] None) k r)
  opened (Some record_kind.Pop) opens = rw (whole, room) (with_one (cue_of record_kind.Pop r))
  opened (Some record_kind.Paint) opens = rw (whole, room) (with_one (cue_of record_kind.Paint r))
  opened (Some record_kind.Roll) opens = rw (whole, room) (with_one (cue_of record_kind.Roll r))
  opened (Some record_kind.Win) opens = rw (whole, room) (with_one (cue_of record_kind.Win r))
  opened None opens = cc
  opened (Some record_kind.Ccsuite) opens = cc
  opened (Some record_kind.Share) opens = cc
  opened (Some record_kind.Attr) opens = cc
  opened (Some record_kind.Run) opens = cc
  opened (Some record_kind.Colour) opens = cc

-- by itself it gives a list that has the head and the cue
pub opened_alone : (head : Head) (r : Record) (k : Option RecordKind) → role_of k ≡ role.Opens
    → on_ok (next_of_kind (begun_with head [] [] None) k r) (λ b. Ok (begun_with head [] [] b.last)) ≡ next_of_kind (begun_with head [] [] None) k r
unfolding after_list
opened_alone head r k opens = sym (opened head [] [] None refl refl r k opens)

pub cue_is_read_apart : (head : Head) (shares : List Share) (earlier : List Cue) (last : Option Cue) (number : ℕ) (records : List Record)
    → AreOfCue records → awaits_run last ≡ false → length (earlier ++ option_to_list last) < most_cues
    → read_from (begun_with head shares earlier last) number records
    ≡ on_ok (read_apart head number records) (λ own. Ok (list_of head shares ((earlier ++ option_to_list last) ++ own.cues)))
unfolding with_own
cue_is_read_apart head shares earlier last number [] of_cue whole few = absurd of_cue
cue_is_read_apart head shares earlier last number (r ∷ records) of_cue whole few =
    let room : nat_lt (length (earlier ++ option_to_list last)) most_cues ≡ true = grind (arith, nat_tests, few) in
    ap (λ (b : Result Begun Offence). read_on number b (λ b. read_from b (number + 1) records))
    (opened head shares earlier last whole room r (kind_of r) of_cue.0)
    ∙ step head shares (earlier ++ option_to_list last) records number
    (λ one. rest_read head shares (earlier ++ option_to_list last) records one (number + 1) of_cue.1) (next (begun_with head [] [] None) r)
    (opened_alone head r (kind_of r) of_cue.0)
