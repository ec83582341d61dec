-- Lines are read: what each of them is leads to where it may end.
use Rattle.std.proofs.Common.{◌≡◌, ◌≢◌, ℕ, ◌⊎◌, inl, inr, ◌==◌, ◌&&◌, ◌||◌, not, Bool, true, false, cond, List, [], ◌∷◌, ◌++◌, append_assoc, append-nil, Option, Some, None, Result, Ok, refl, ap, sym, ◌∙◌, subst, arith}
use Rattle.std.proofs.lemmas.Bool.{cases_Bool, eqb-true}
use Rattle.std.proofs.lemmas.Grind.{common_steps}
use Rattle.time_codes.specs.Countings.{counting_text}
use Rattle.time_codes.proofs.TextLemmas.{both}
use Rattle.time_codes.specs.declared.counting.Counting.{Counting}
use Rattle.time_codes.specs.declared.counting.Counting.TheVariants as counting
use Rattle.scc_files.specs.Lines.{AreBlanks, AreSpaces}
use Rattle.scc_files.specs.Phases.{is_blank}
use Rattle.mcc_files.specs.declared.payload_reader.Offence.{Offence}
use Rattle.mcc_files.specs.Lines.{AreNameBytes, AreWithinLine, IsAttribute, IsComment, IsName, IsRate, is_letter, is_name_byte, rate_name}
use Rattle.mcc_files.specs.Phases.{matched}
use Rattle.mcc_files.specs.Reading.{State, begun, ends, in_phase, run, started, take_byte, then_run, within}
use Rattle.mcc_files.specs.declared.phase.Phase.{Phase}
use Rattle.mcc_files.specs.declared.phase.Phase.TheVariants as phase
use Rattle.mcc_files.specs.declared.phase.RateText.TheVariants as rate_text
use Rattle.mcc_files.proofs.FrontLemmas.{first_matches, matches_more, rate_whole}
use Rattle.mcc_files.proofs.Origins.{NameMatches, told_of}
use Rattle.mcc_files.proofs.RunLemmas.{run_both}
use Rattle.mcc_files.proofs.ToldLemmas.{Told}

-- a line is read from its start to where it may end
pub record LineReads (s : State) (text : List ℕ) (u : Told) : Type 0 where
  pub to : State
  pub gives : Bool
  pub is : run s text ≡ Ok to
  pub may : ends to ≡ Some gives
  pub told : told_of (started to gives) ≡ u
  pub version : to.two ≡ s.two

-- a byte within a line
pub goes_on : (s : State) (byte : ℕ) (next : Result State Offence) → (byte == 10) ≡ false → (byte == 13) ≡ false → within s s.phase byte ≡ next → take_byte s byte ≡ next
goes_on s byte next lf cr is = rw (lf, cr) is

pub step_run : (s next t : State) (byte : ℕ) (rest : List ℕ) → take_byte s byte ≡ Ok next → run next rest ≡ Ok t → run s (byte ∷ rest) ≡ Ok t
step_run s next t byte rest one more = subst (λ (r : Result State Offence). then_run r (λ n. run n rest) ≡ Ok t) (sym one) more

-- blanks
pub blank_is : (byte : ℕ) → is_blank byte ≡ true → (byte ≡ 9) ⊎ (byte ≡ 32)
blank_is byte is = elim (cases_Bool (byte == 9)) [
  | inl e ↦ inl (eqb-true byte 9 e)
  | inr e ↦ inr (eqb-true byte 32 (subst (λ (b : Bool). (b || (byte == 32)) ≡ true) e is))
]

pub blank_step : (s : State) (byte : ℕ) → is_blank byte ≡ true
    → (take_byte (in_phase s phase.Start) byte ≡ Ok (in_phase s phase.Blank)) × (take_byte (in_phase s phase.Blank) byte ≡ Ok (in_phase s phase.Blank))
blank_step s byte is = elim (blank_is byte is) [
  | inl e ↦ (
    subst (λ (b : ℕ). take_byte (in_phase s phase.Start) b ≡ Ok (in_phase s phase.Blank)) (sym e) refl,
    subst (λ (b : ℕ). take_byte (in_phase s phase.Blank) b ≡ Ok (in_phase s phase.Blank)) (sym e) refl,
  )
  | inr e ↦ (
    subst (λ (b : ℕ). take_byte (in_phase s phase.Start) b ≡ Ok (in_phase s phase.Blank)) (sym e) refl,
    subst (λ (b : ℕ). take_byte (in_phase s phase.Blank) b ≡ Ok (in_phase s phase.Blank)) (sym e) refl,
  )
]

pub blanks_run : (s : State) (xs : List ℕ) → AreBlanks xs → run (in_phase s phase.Blank) xs ≡ Ok (in_phase s phase.Blank)
blanks_run s [] are = refl
blanks_run s (x ∷ xs) are = step_run (in_phase s phase.Blank) (in_phase s phase.Blank) (in_phase s phase.Blank) x xs (blank_step s x are.0).1 (blanks_run s xs are.1)

pub blank_reads : (s : State) (text : List ℕ) (u : Told) → AreBlanks text → u ≡ told_of s → LineReads (in_phase s phase.Start) text u
blank_reads s [] u are told = record { to = in_phase s phase.Start; gives = false; is = refl; may = refl; told = sym told; version = refl }
blank_reads s (x ∷ xs) u are told = record {
  to = in_phase s phase.Blank;
  gives = false;
  is = step_run (in_phase s phase.Start) (in_phase s phase.Blank) (in_phase s phase.Blank) x xs (blank_step s x are.0).0 (blanks_run s xs are.1);
  may = refl;
  told = sym told;
  version = refl;
}

-- bytes within a line
pub not_true : (b : Bool) → not b ≡ true → b ≡ false
not_true true is = absurd (cc)
not_true false is = refl

pub not_ends : (byte : ℕ) → (not (byte == 10) && not (byte == 13)) ≡ true → ((byte == 10) ≡ false) × ((byte == 13) ≡ false)
not_ends byte is =
    let (lf, cr) = both (not (byte == 10)) (not (byte == 13)) is in
    (not_true (byte == 10) lf, not_true (byte == 13) cr)

pub comment_run : (s : State) (xs : List ℕ) → AreWithinLine xs → run (in_phase s phase.Comment) xs ≡ Ok (in_phase s phase.Comment)
comment_run s [] are = refl
comment_run s (x ∷ xs) are =
    let (one, more) = both (not (x == 10) && not (x == 13)) _ are in
    let (lf, cr) = not_ends x one in
    step_run (in_phase s phase.Comment) (in_phase s phase.Comment) (in_phase s phase.Comment) x xs
    (goes_on (in_phase s phase.Comment) x (Ok (in_phase s phase.Comment)) lf cr refl) (comment_run s xs more)

pub value_run : (s : State) (xs : List ℕ) → AreWithinLine xs → run (in_phase s phase.Value) xs ≡ Ok (in_phase s phase.Value)
value_run s [] are = refl
value_run s (x ∷ xs) are =
    let (one, more) = both (not (x == 10) && not (x == 13)) _ are in
    let (lf, cr) = not_ends x one in
    step_run (in_phase s phase.Value) (in_phase s phase.Value) (in_phase s phase.Value) x xs
    (goes_on (in_phase s phase.Value) x (Ok (in_phase s phase.Value)) lf cr refl) (value_run s xs more)

pub comment_reads : (s : State) (text : List ℕ) (u : Told) → IsComment text → u ≡ told_of s → LineReads (in_phase s phase.Start) text u
comment_reads s text u c told = record {
  to = in_phase s phase.Comment;
  gives = false;
  is = subst (λ (x : List ℕ). run (in_phase s phase.Start) x ≡ Ok (in_phase s phase.Comment)) (sym c.spelled) (comment_run s c.rest c.within);
  may = refl;
  told = sym told;
  version = refl;
}

-- names
pub record IsLetterByte (byte : ℕ) : Type 0 where
  pub lf : (byte == 10) ≡ false
  pub cr : (byte == 13) ≡ false
  pub blank : is_blank byte ≡ false
  pub slash : (byte == 47) ≡ false
  pub sign : (byte == 61) ≡ false

pub letter_byte : (byte : ℕ) → is_letter byte ≡ true → IsLetterByte byte
letter_byte byte is = record {
  lf = grind (arith, common_steps);
  cr = grind (arith, common_steps);
  blank = grind (arith, common_steps);
  slash = grind (arith, common_steps);
  sign = grind (arith, common_steps);
}

pub letter_begun : (s : State) (byte : ℕ) → IsLetterByte byte → is_letter byte ≡ true → s.last ≡ None → begun (in_phase s phase.Start) byte ≡ Ok (in_phase s (phase.Name (cond (byte == 84) 1 0)))
letter_begun s byte b is none = rw (b.blank, b.slash, is, none) refl

pub letter_step : (s : State) (byte : ℕ) → is_letter byte ≡ true → s.last ≡ None → take_byte (in_phase s phase.Start) byte ≡ Ok (in_phase s (phase.Name (cond (byte == 84) 1 0)))
letter_step s byte is none =
    let b = letter_byte byte is in
    goes_on (in_phase s phase.Start) byte (Ok (in_phase s (phase.Name (cond (byte == 84) 1 0)))) b.lf b.cr (letter_begun s byte b is none)

pub name_byte : (byte : ℕ) → is_name_byte byte ≡ true → ((byte == 10) ≡ false) × ((byte == 13) ≡ false) × ((byte == 61) ≡ false)
name_byte byte is = (grind (arith, common_steps), grind (arith, common_steps), grind (arith, common_steps))

pub name_goes : (s : State) (k byte : ℕ) → (byte == 61) ≡ false → is_name_byte byte ≡ true → within (in_phase s (phase.Name k)) (phase.Name k) byte ≡ Ok (in_phase s (phase.Name (matched k byte)))
name_goes s k byte sign is = rw (sign, is) refl

pub name_step : (s : State) (k byte : ℕ) → is_name_byte byte ≡ true → take_byte (in_phase s (phase.Name k)) byte ≡ Ok (in_phase s (phase.Name (matched k byte)))
name_step s k byte is =
    let (lf, cr, sign) = name_byte byte is in
    goes_on (in_phase s (phase.Name k)) byte (Ok (in_phase s (phase.Name (matched k byte)))) lf cr (name_goes s k byte sign is)

pub record NameRuns (s : State) (k : ℕ) (name more : List ℕ) : Type 0 where
  pub to : ℕ
  pub is : run (in_phase s (phase.Name k)) more ≡ Ok (in_phase s (phase.Name to))
  pub matches : NameMatches to (name ++ more)

pub name_run : (s : State) (k : ℕ) (name more : List ℕ) → NameMatches k name → AreNameBytes more → NameRuns s k name more
name_run s k name [] matches are = record { to = k; is = refl; matches = subst (λ (x : List ℕ). NameMatches k x) (sym (append-nil name)) matches }
name_run s k name (x ∷ xs) matches are =
    let (one, more) = both (is_name_byte x) _ are in
    let r = name_run s (matched k x) (name ++ x ∷ []) xs (matches_more k x name matches) more in
    record {
      to = r.to;
      is = step_run (in_phase s (phase.Name k)) (in_phase s (phase.Name (matched k x))) (in_phase s (phase.Name r.to)) x xs (name_step s k x one) r.is;
      matches = subst (λ (z : List ℕ). NameMatches r.to z) (append_assoc name (x ∷ []) xs) r.matches;
    }

-- a whole name at the start of a line
pub record WholeName (s : State) (name : List ℕ) : Type 0 where
  pub to : ℕ
  pub is : run (in_phase s phase.Start) name ≡ Ok (in_phase s (phase.Name to))
  pub matches : NameMatches to name

pub whole_name : (s : State) (name : List ℕ) → IsName name → s.last ≡ None → WholeName s name
whole_name s name n none =
    let r = name_run s (cond (n.first == 84) 1 0) (n.first ∷ []) n.more (first_matches n.first (n.first == 84) refl) n.are in
    let all = step_run (in_phase s phase.Start) (in_phase s (phase.Name (cond (n.first == 84) 1 0))) (in_phase s (phase.Name r.to)) n.first n.more (letter_step s n.first n.letter none) r.is in
    record {
      to = r.to;
      is = subst (λ (x : List ℕ). run (in_phase s phase.Start) x ≡ Ok (in_phase s (phase.Name r.to))) (sym n.spelled) all;
      matches = subst (λ (x : List ℕ). NameMatches r.to x) (sym n.spelled) r.matches;
    }

pub no_rate_name : (k : ℕ) (name : List ℕ) → NameMatches k name → name ≢ rate_name → (k == 14) ≡ false
no_rate_name k name matches other = elim (cases_Bool (k == 14)) [
  | inl e ↦ absurd (other (rate_whole k name matches e))
  | inr e ↦ e
]

pub value_step : (s : State) (k : ℕ) → (k == 14) ≡ false → take_byte (in_phase s (phase.Name k)) 61 ≡ Ok (in_phase s phase.Value)
value_step s k other = rw other refl

pub attribute_reads : (s : State) (text : List ℕ) (u : Told) → IsAttribute text → s.last ≡ None → u ≡ told_of s → LineReads (in_phase s phase.Start) text u
attribute_reads s text u a none told =
    let w = whole_name s a.name a.is_name none in
    let other = no_rate_name w.to a.name w.matches a.other in
    let rest = step_run (in_phase s (phase.Name w.to)) (in_phase s phase.Value) (in_phase s phase.Value) 61 a.value (value_step s w.to other) (value_run s a.value a.within) in
    record {
      to = in_phase s phase.Value;
      gives = false;
      is = subst (λ (x : List ℕ). run (in_phase s phase.Start) x ≡ Ok (in_phase s phase.Value)) (sym a.spelled)
          (run_both (in_phase s phase.Start) a.name (61 ∷ a.value) (in_phase s (phase.Name w.to)) (in_phase s phase.Value) w.is rest);
      may = refl;
      told = sym told;
      version = refl;
    }

-- the time code rate
abbrev pub unrated : State → Phase → Option Counting → State
unrated s at count = record s { phase = at; count = count; last = None }

pub rate_name_run : (s : State) → run (unrated s phase.Start None) (rate_name ++ 61 ∷ []) ≡ Ok (unrated s (phase.Rate rate_text.Empty) None)
rate_name_run s = refl

pub count_run : (s : State) (count : Counting) → run (unrated s (phase.Rate rate_text.Empty) None) (counting_text count) ≡ Ok (unrated s (phase.Rate (rate_text.Whole count)) (Some count))
count_run s counting.F24 = refl
count_run s counting.F25 = refl
count_run s counting.F30 = refl
count_run s counting.F30Drop = refl
count_run s counting.F50 = refl
count_run s counting.F60 = refl
count_run s counting.F60Drop = refl

pub rate_spaces_run : (s : State) (xs : List ℕ) → AreSpaces xs → run (in_phase s phase.RateSpaces) xs ≡ Ok (in_phase s phase.RateSpaces)
rate_spaces_run s [] are = refl
rate_spaces_run s (x ∷ xs) are =
    step_run (in_phase s phase.RateSpaces) (in_phase s phase.RateSpaces) (in_phase s phase.RateSpaces) x xs
    (subst (λ (b : ℕ). take_byte (in_phase s phase.RateSpaces) b ≡ Ok (in_phase s phase.RateSpaces)) (sym are.0) refl) (rate_spaces_run s xs are.1)

pub rate_space : (s : State) (count : Counting) (byte : ℕ) → byte ≡ 32
    → take_byte (unrated s (phase.Rate (rate_text.Whole count)) (Some count)) byte ≡ Ok (unrated s phase.RateSpaces (Some count))
rate_space s counting.F24 byte is = subst (λ (b : ℕ). take_byte (unrated s (phase.Rate (rate_text.Whole counting.F24)) (Some counting.F24)) b ≡ Ok (unrated s phase.RateSpaces (Some counting.F24))) (sym is) refl
rate_space s counting.F25 byte is = subst (λ (b : ℕ). take_byte (unrated s (phase.Rate (rate_text.Whole counting.F25)) (Some counting.F25)) b ≡ Ok (unrated s phase.RateSpaces (Some counting.F25))) (sym is) refl
rate_space s counting.F30 byte is = subst (λ (b : ℕ). take_byte (unrated s (phase.Rate (rate_text.Whole counting.F30)) (Some counting.F30)) b ≡ Ok (unrated s phase.RateSpaces (Some counting.F30))) (sym is) refl
rate_space s counting.F30Drop byte is = subst (λ (b : ℕ). take_byte (unrated s (phase.Rate (rate_text.Whole counting.F30Drop)) (Some counting.F30Drop)) b ≡ Ok (unrated s phase.RateSpaces (Some counting.F30Drop))) (sym is) refl
rate_space s counting.F50 byte is = subst (λ (b : ℕ). take_byte (unrated s (phase.Rate (rate_text.Whole counting.F50)) (Some counting.F50)) b ≡ Ok (unrated s phase.RateSpaces (Some counting.F50))) (sym is) refl
rate_space s counting.F60 byte is = subst (λ (b : ℕ). take_byte (unrated s (phase.Rate (rate_text.Whole counting.F60)) (Some counting.F60)) b ≡ Ok (unrated s phase.RateSpaces (Some counting.F60))) (sym is) refl
rate_space s counting.F60Drop byte is = subst (λ (b : ℕ). take_byte (unrated s (phase.Rate (rate_text.Whole counting.F60Drop)) (Some counting.F60Drop)) b ≡ Ok (unrated s phase.RateSpaces (Some counting.F60Drop))) (sym is) refl

pub record RatedTo (s : State) (count : Counting) (spaces : List ℕ) : Type 0 where
  pub to : State
  pub is : run (unrated s (phase.Rate (rate_text.Whole count)) (Some count)) spaces ≡ Ok to
  pub may : ends to ≡ Some false
  pub told : told_of to ≡ record { count = Some count; last = None; placed = s.placed }
  pub version : to.two ≡ s.two

pub rated_spaces : (s : State) (count : Counting) (spaces : List ℕ) → AreSpaces spaces → RatedTo s count spaces
rated_spaces s count [] are = record { to = unrated s (phase.Rate (rate_text.Whole count)) (Some count); is = refl; may = refl; told = refl; version = refl }
rated_spaces s count (x ∷ xs) are = record {
  to = unrated s phase.RateSpaces (Some count);
  is = step_run (unrated s (phase.Rate (rate_text.Whole count)) (Some count)) (unrated s phase.RateSpaces (Some count)) (unrated s phase.RateSpaces (Some count)) x xs
      (rate_space s count x are.0) (rate_spaces_run (unrated s phase.RateSpaces (Some count)) xs are.1);
  may = refl;
  told = refl;
  version = refl;
}

pub unrated_is : (s : State) → s.count ≡ None → s.last ≡ None → in_phase s phase.Start ≡ unrated s phase.Start None
unrated_is s count last = rw (count, last) refl

pub rate_reads : (s : State) (count : Counting) (text : List ℕ) (u : Told) → IsRate count text → s.last ≡ None → s.count ≡ None → u ≡ record (told_of s) { count = Some count }
    → LineReads (in_phase s phase.Start) text u
rate_reads s count text u r last none told =
    let start = unrated s phase.Start None in
    let empty = unrated s (phase.Rate rate_text.Empty) None in
    let whole = unrated s (phase.Rate (rate_text.Whole count)) (Some count) in
    let t = rated_spaces s count r.spaces r.are_spaces in
    let name = run_both start (rate_name ++ 61 ∷ []) (counting_text count) empty whole (rate_name_run s) (count_run s count) in
    let all = run_both start ((rate_name ++ 61 ∷ []) ++ counting_text count) r.spaces whole t.to name t.is in
    let text_is : ((rate_name ++ 61 ∷ []) ++ counting_text count) ++ r.spaces ≡ text = append_assoc (rate_name ++ 61 ∷ []) (counting_text count) r.spaces ∙ sym r.spelled in
    record {
      to = t.to;
      gives = false;
      is = subst (λ (x : State). run x text ≡ Ok t.to) (sym (unrated_is s none last)) (subst (λ (x : List ℕ). run start x ≡ Ok t.to) text_is all);
      may = t.may;
      told = t.told ∙ (ap (λ (l : Option ℕ). record { count = Some count; last = l; placed = s.placed }) (sym last) ∙ sym told);
      version = t.version;
    }
