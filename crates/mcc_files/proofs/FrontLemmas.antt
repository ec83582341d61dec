-- A byte more within an open line.
use Rattle.std.proofs.Common.{◌≡◌, ◌≢◌, ℕ, zero, suc, ◌+◌, ◌≤◌, ◌<◌, ◌⊎◌, inl, inr, ◌==◌, ◌&&◌, ◌||◌, not, nat_lt, Bool, true, false, cond, List, [], ◌∷◌, ◌++◌, append_assoc, append-nil, length, length-append, take, drop, get_or, drop-cons, Option, Some, None, is_some, Result, Ok, Err, unwrap_or, refl, ap, sym, ◌∙◌, subst, arith}
use Rattle.std.specs.Prelude.{slice_index}
use Rattle.std.specs.List.{concat, list_all}
use Rattle.std.proofs.lemmas.Bool.{cases_Bool, eqb-true, eqb-false}
use Rattle.std.proofs.lemmas.Grind.{common_steps}
use Rattle.std.proofs.lemmas.List.{append_cancel_left, length-take-le, take-append-drop, take_more}
use Rattle.time_codes.specs.Countings.{counting_text}
use Rattle.time_codes.specs.Texts.{IsTimeText, is_digit, time_of_text}
use Rattle.time_codes.proofs.TextLemmas.{both, read_is_spelled}
use Rattle.time_codes.specs.declared.counting.Counting.{Counting}
use Rattle.time_codes.specs.declared.counting.Counting.TheVariants as counting
use Rattle.time_codes.specs.declared.time_code.TimeCode.{TimeCode}
use Rattle.cc_base.specs.declared.why.Why.{Why}
use Rattle.cc_base.specs.declared.why.Why.TheVariants as why
use Rattle.scc_files.specs.Lines.{AreBlanks, AreSpaces}
use Rattle.scc_files.specs.Phases.{is_blank}
use Rattle.mcc_files.specs.Payloads.{IsPayload, Payload, bytes_with, payload_bytes}
use Rattle.mcc_files.specs.PayloadReading.{Open, is_whole, step}
use Rattle.mcc_files.specs.declared.payload_reader.Offence.{Offence}
use Rattle.mcc_files.proofs.FirstLemmas.{Stands, at_digit, at_item, stands_on}
use Rattle.mcc_files.proofs.SoundLemmas.{packet_so, step_so}
use Rattle.mcc_files.proofs.StepLemmas.{joined_is}
use Rattle.mcc_files.specs.Lines.{AreDecimals, AreWithinLine, IsAttribute, IsComment, IsName, IsRate, IsReadPast, is_letter, is_name_byte, rate_name}
use Rattle.mcc_files.specs.Phases.{matched, rate_bytes, rate_count, rate_moved, whole_moved}
use Rattle.mcc_files.specs.Reading.{State, begins_time, begun, in_phase, judged_frame, named, or_offends, payload_begins, payload_goes, rate_read, taken, timed, within}
use Rattle.mcc_files.specs.declared.phase.Phase.{Phase}
use Rattle.mcc_files.specs.declared.phase.Phase.TheVariants as phase
use Rattle.mcc_files.specs.declared.phase.RateText.{RateText}
use Rattle.mcc_files.specs.declared.phase.RateText.TheVariants as rate_text
use Rattle.mcc_files.proofs.Origins.{DigitsFront, DotFront, FieldFront, Front, NameFront, NameMatches, PayloadFront, TimeFront, TimedBy, told_of, version_of}
use Rattle.mcc_files.proofs.RunLemmas.{ok_same}
use Rattle.mcc_files.proofs.ToldLemmas.{Told}
use Rattle.mcc_files.specs.MccFiles.{frame_after}

-- what is taken
pub taken_so : (s : State) (test : Bool) (next t : State) → taken s test next ≡ Ok t → (test ≡ true) × (next ≡ t)
taken_so s true next t is = (refl, ok_same next t is)
taken_so s false next t is = absurd (cc)

pub chosen : (test : Bool) (a t : State) (rest : Result State Offence) → cond test (Ok a) rest ≡ Ok t → ((test ≡ true) × (a ≡ t)) ⊎ ((test ≡ false) × (rest ≡ Ok t))
chosen true a t rest is = inl (refl, ok_same a t is)
chosen false a t rest is = inr (refl, is)

-- the open line with a byte more
pub record Next (s : State) (t : Told) (front : List ℕ) (next : State) : Type 0 where
  pub line : Front next.phase next t front
  pub version : next.two ≡ s.two

pub at_next : (s : State) (t : Told) (front : List ℕ) (one next : State) → Next s t front one → one ≡ next → Next s t front next
at_next s t front one next is same = subst (λ (x : State). Next s t front x) same is

-- lists with a byte more
pub blanks_more : (xs : List ℕ) (byte : ℕ) → AreBlanks xs → is_blank byte ≡ true → AreBlanks (xs ++ byte ∷ [])
blanks_more [] byte are is = (is, tt)
blanks_more (x ∷ xs) byte are is = (are.0, blanks_more xs byte are.1 is)

pub spaces_more : (xs : List ℕ) (byte : ℕ) → AreSpaces xs → byte ≡ 32 → AreSpaces (xs ++ byte ∷ [])
spaces_more [] byte are is = (is, tt)
spaces_more (x ∷ xs) byte are is = (are.0, spaces_more xs byte are.1 is)

pub all_more : (p : ℕ → Bool) (xs : List ℕ) (byte : ℕ) → list_all p xs ≡ true → p byte ≡ true → list_all p (xs ++ byte ∷ []) ≡ true
all_more p [] byte are is = rw is refl
all_more p (x ∷ xs) byte are is =
    let two = both (p x) (list_all p xs) are in
    rw two.0 (all_more p xs byte two.1 is)

pub not_end : (byte : ℕ) → (byte == 10) ≡ false → (byte == 13) ≡ false → (not (byte == 10) && not (byte == 13)) ≡ true
not_end byte lf cr = rw (lf, cr) refl

pub within_more : (xs : List ℕ) (byte : ℕ) → AreWithinLine xs → (byte == 10) ≡ false → (byte == 13) ≡ false → AreWithinLine (xs ++ byte ∷ [])
within_more xs byte are lf cr = all_more (λ b. not (b == 10) && not (b == 13)) xs byte are (not_end byte lf cr)

-- no packet came before
pub not_some : (o : Option ℕ) → not (is_some o) ≡ true → o ≡ None
not_some None is = refl
not_some (Some x) is = absurd (cc)

pub some_count : (o : Option Counting) → is_some o ≡ true → (count : Counting) × (o ≡ Some count)
some_count (Some count) is = (count, refl)
some_count None is = absurd (cc)

pub no_count : (o : Option Counting) → is_some o ≡ false → o ≡ None
no_count None is = refl
no_count (Some count) is = absurd (cc)

-- a line begins
pub first_differs : (byte : ℕ) (bytes more : List ℕ) → (byte == 84) ≡ false → byte ∷ bytes ≡ 84 ∷ more → ⊥
first_differs byte bytes more test is = let same : byte ≡ 84 = cc in eqb-false byte 84 test same

pub first_matches : (byte : ℕ) (test : Bool) → (byte == 84) ≡ test → NameMatches (cond test 1 0) (byte ∷ [])
first_matches byte true is = (omega arith, ap (λ b. b ∷ []) (eqb-true byte 84 is))
first_matches byte false is = λ more same. first_differs byte ([] ++ more) _ is same

pub digit_begins : (byte : ℕ) → is_digit byte ≡ true → begins_time (byte ∷ []) ≡ true
digit_begins byte is = rw is refl

pub start_letter : (s next : State) (t : Told) (byte : ℕ) → told_of s ≡ t → (letter : Bool) → is_letter byte ≡ letter
    → cond letter (taken s (not (is_some s.last)) (in_phase s (phase.Name (cond (byte == 84) 1 0))))
    (taken s (is_digit byte && is_some s.count) (record s { phase = phase.Time; text = byte ∷ [] })) ≡ Ok next
    → Next s t (byte ∷ []) next
start_letter s next t byte told true letter is =
    let (test, same) = taken_so s (not (is_some s.last)) (in_phase s (phase.Name (cond (byte == 84) 1 0))) next is in
    let name : IsName (byte ∷ []) = record { first = byte; more = []; letter = letter; are = refl; spelled = refl } in
    let last : s.last ≡ t.last = ap (λ x. x.last) told in
    at_next s t (byte ∷ []) (in_phase s (phase.Name (cond (byte == 84) 1 0))) next
    (record {
      line = record { is_name = name; none = sym last ∙ not_some s.last test; told = told; matches = first_matches byte (byte == 84) refl };
      version = refl;
    })
    same
start_letter s next t byte told false letter is =
    let (test, same) = taken_so s (is_digit byte && is_some s.count) (record s { phase = phase.Time; text = byte ∷ [] }) next is in
    let (digit, some) = both (is_digit byte) (is_some s.count) test in
    let (count, count_is) = some_count s.count some in
    at_next s t (byte ∷ []) (record s { phase = phase.Time; text = byte ∷ [] }) next
    (record {
      line = record {
        spelled = refl;
        begins = digit_begins byte digit;
        some = omega arith;
        short = omega arith;
        count = count;
        counted = sym (ap (λ x. x.count) told) ∙ count_is;
        told = told;
      };
      version = refl;
    })
    same

pub start_next : (s next : State) (t : Told) (byte : ℕ) → told_of s ≡ t → begun s byte ≡ Ok next → Next s t (byte ∷ []) next
start_next s next t byte told is = elim (chosen (is_blank byte) (in_phase s phase.Blank) next _ is) [
  | inl (e, same) ↦ at_next s t (byte ∷ []) (in_phase s phase.Blank) next (record { line = ((e, tt), told); version = refl }) same
  | inr (e, is') ↦ elim (chosen (byte == 47) (in_phase s phase.Slash) next _ is') [
    | inl (f, same) ↦
        at_next s t (byte ∷ []) (in_phase s phase.Slash) next (record { line = (ap (λ b. b ∷ []) (eqb-true byte 47 f), told); version = refl }) same
    | inr (f, is'') ↦ start_letter s next t byte told (is_letter byte) refl is''
  ]
]

-- the name of an attribute
pub letters_more : (name : List ℕ) (byte : ℕ) → IsName name → is_name_byte byte ≡ true → IsName (name ++ byte ∷ [])
letters_more name byte is letter = record {
  first = is.first;
  more = is.more ++ byte ∷ [];
  letter = is.letter;
  are = all_more is_name_byte is.more byte is.are letter;
  spelled = ap (λ n. n ++ byte ∷ []) is.spelled;
}

pub no_match : (k byte : ℕ) (front more : List ℕ) → k ≤ 14 → front ≡ take k rate_name → (nat_lt k 14 && (byte == slice_index rate_name k)) ≡ false
    → (front ++ byte ∷ []) ++ more ≡ rate_name → ⊥
no_match k byte front more few spelled test same =
    let whole : front ++ (byte ∷ more) ≡ front ++ drop k rate_name =
    sym (append_assoc front (byte ∷ []) more) ∙ (same ∙ sym (ap (λ f. f ++ drop k rate_name) spelled ∙ take-append-drop k rate_name)) in
    let rest : byte ∷ more ≡ drop k rate_name = append_cancel_left front (byte ∷ more) (drop k rate_name) whole in
    elim (cases_Bool (nat_lt k 14)) [
      | inl low ↦
          let below : k < 14 = grind (arith, common_steps) in
          let first : byte ∷ more ≡ get_or rate_name k 0 ∷ drop (suc k) rate_name = rest ∙ drop-cons rate_name k 0 below in
          let bytes : byte ≡ get_or rate_name k 0 = cc in
          let other : (byte == slice_index rate_name k) ≡ false = subst (λ (b : Bool). (b && (byte == slice_index rate_name k)) ≡ false) low test in
          eqb-false byte (slice_index rate_name k) other bytes
      | inr high ↦
          let all : k ≡ 14 = grind (arith, common_steps) in
          let none : byte ∷ more ≡ [] = subst (λ (n : ℕ). byte ∷ more ≡ drop n rate_name) all rest in
          absurd (cc)
    ]

abbrev pub Going : ℕ → ℕ → Bool
Going k byte = nat_lt (suc k) 14 && (byte == slice_index rate_name (suc k))

pub going_all : (first second third : Bool) → first ≡ true → (first && second && third) ≡ (second && third)
going_all first second third is = rw is refl

pub positive : (k : ℕ) → nat_lt 0 (suc k) ≡ true
positive k = grind (arith, common_steps)

pub matched_by : (k byte : ℕ) (name : List ℕ) (test : Bool) → Going k byte ≡ test → NameMatches (cond test (suc k + 1) 0) name → NameMatches (matched (suc k) byte) name
matched_by k byte name test is matches =
    let all : (nat_lt 0 (suc k) && nat_lt (suc k) 14 && (byte == slice_index rate_name (suc k))) ≡ test =
    going_all (nat_lt 0 (suc k)) (nat_lt (suc k) 14) (byte == slice_index rate_name (suc k)) (positive k) ∙ is in
    subst (λ (b : Bool). NameMatches (cond b (suc k + 1) 0) name) (sym all) matches

pub matched_is : (k byte : ℕ) (name : List ℕ) → (nat_lt (suc k) 14 && (byte == slice_index rate_name (suc k))) ≡ true → NameMatches (suc (suc k)) name
    → NameMatches (matched (suc k) byte) name
matched_is k byte name test is =
    let next : suc k + 1 ≡ suc (suc k) = omega arith in
    matched_by k byte name true test (subst (λ (n : ℕ). NameMatches n name) (sym next) is)

pub unmatched_is : (k byte : ℕ) (name : List ℕ) → (nat_lt (suc k) 14 && (byte == slice_index rate_name (suc k))) ≡ false → NameMatches 0 name
    → NameMatches (matched (suc k) byte) name
unmatched_is k byte name test is = matched_by k byte name false test is

pub matches_more : (k byte : ℕ) (front : List ℕ) → NameMatches k front → NameMatches (matched k byte) (front ++ byte ∷ [])
matches_more zero byte front other = λ more same. other (byte ∷ more) (sym (append_assoc front (byte ∷ []) more) ∙ same)
matches_more (suc k) byte front (few, spelled) = elim (cases_Bool (nat_lt (suc k) 14 && (byte == slice_index rate_name (suc k)))) [
  | inl e ↦
      let (low, is) = both (nat_lt (suc k) 14) (byte == slice_index rate_name (suc k)) e in
      let below : suc k < 14 = grind (arith, common_steps) in
      let bytes : byte ≡ get_or rate_name (suc k) 0 = eqb-true byte (slice_index rate_name (suc k)) is in
      let next : suc (suc k) ≡ suc k + 1 = omega arith in
      let all : front ++ byte ∷ [] ≡ take (suc (suc k)) rate_name =
      ap (λ f. f ++ byte ∷ []) spelled ∙ (ap (λ b. take (suc k) rate_name ++ b ∷ []) bytes ∙ (sym (take_more rate_name (suc k) 0 below) ∙ ap (λ n. take n rate_name) (sym next))) in
      matched_is k byte (front ++ byte ∷ []) e (omega arith, all)
  | inr e ↦ unmatched_is k byte (front ++ byte ∷ []) e (λ more same. no_match (suc k) byte front more few spelled e same)
]

-- a name that isn't wholly the rate's
pub other_name : (k : ℕ) (name : List ℕ) → NameMatches k name → (k == 14) ≡ false → name ≢ rate_name
other_name zero name other test = λ same. other [] (append-nil name ∙ same)
other_name (suc k) name (few, spelled) test = λ same.
    let size : length (take (suc k) rate_name) ≡ suc k = length-take-le (suc k) rate_name few in
    let long : length rate_name ≡ suc k = ap (λ n. length n) (sym same ∙ spelled) ∙ size in
    eqb-false (suc k) 14 test (sym long)

pub rate_whole : (k : ℕ) (name : List ℕ) → NameMatches k name → (k == 14) ≡ true → name ≡ rate_name
rate_whole zero name other test = absurd (cc)
rate_whole (suc k) name (few, spelled) test = spelled ∙ ap (λ n. take n rate_name) (eqb-true (suc k) 14 test)

pub named_next : (s next : State) (t : Told) (k : ℕ) (front : List ℕ) → NameFront k (told_of s) t front → (whole some : Bool) → (k == 14) ≡ whole → is_some s.count ≡ some
    → cond {A = Result State Offence} whole (cond some (Err (record { back = 14; why = why.MccSyntax })) (Ok (in_phase s (phase.Rate rate_text.Empty)))) (Ok (in_phase s phase.Value)) ≡ Ok next
    → Next s t (front ++ 61 ∷ []) next
named_next s next t k front f true true whole some is = absurd (cc)
named_next s next t k front f true false whole some is =
    let none : s.count ≡ None = no_count s.count some in
    let no_rate : t.count ≡ None = sym (ap (λ x. x.count) f.told) ∙ none in
    at_next s t (front ++ 61 ∷ []) (in_phase s (phase.Rate rate_text.Empty)) next
    (record {
      line = record {
        spelled = ap (λ n. n ++ 61 ∷ []) (rate_whole k front f.matches whole);
        no_packet = f.none;
        no_rate = no_rate;
        told = f.told ∙ ap (λ (c : Option Counting). record t { count = c }) no_rate;
      };
      version = refl;
    })
    (ok_same (in_phase s (phase.Rate rate_text.Empty)) next is)
named_next s next t k front f false some whole some_is is =
    at_next s t (front ++ 61 ∷ []) (in_phase s phase.Value) next
    (record {
      line = record {
        is = record { name = front; value = []; is_name = f.is_name; other = other_name k front f.matches whole; within = refl; spelled = refl };
        none = f.none;
        told = f.told;
      };
      version = refl;
    })
    (ok_same (in_phase s phase.Value) next is)

pub name_next : (s next : State) (t : Told) (k : ℕ) (front : List ℕ) (byte : ℕ) → NameFront k (told_of s) t front → (sign : Bool) → (byte == 61) ≡ sign
    → cond sign (named s k) (taken s (is_name_byte byte) (in_phase s (phase.Name (matched k byte)))) ≡ Ok next
    → Next s t (front ++ byte ∷ []) next
name_next s next t k front byte f true sign is =
    subst (λ (b : ℕ). Next s t (front ++ b ∷ []) next) (sym (eqb-true byte 61 sign)) (named_next s next t k front f (k == 14) (is_some s.count) refl refl is)
name_next s next t k front byte f false sign is =
    let (test, same) = taken_so s (is_name_byte byte) (in_phase s (phase.Name (matched k byte))) next is in
    at_next s t (front ++ byte ∷ []) (in_phase s (phase.Name (matched k byte))) next
    (record {
      line = record { is_name = letters_more front byte f.is_name test; none = f.none; told = f.told; matches = matches_more k byte front f.matches };
      version = refl;
    })
    same

-- the text of a count
pub one_rate : (test : Bool) (to next : RateText) → cond test (Some to) None ≡ Some next → (test ≡ true) × (to ≡ next)
one_rate true to next is = (refl, cc)
one_rate false to next is = absurd (cc)

pub rate_by : (test : Bool) (to next : RateText) (rest : Option RateText) → cond test (Some to) rest ≡ Some next → ((test ≡ true) × (to ≡ next)) ⊎ (rest ≡ Some next)
rate_by true to next rest is = inl (refl, cc)
rate_by false to next rest is = inr is

pub rate_one : (text to next : RateText) (byte wanted : ℕ) → rate_bytes to ≡ rate_bytes text ++ wanted ∷ [] → (byte == wanted) ≡ true → to ≡ next
    → rate_bytes next ≡ rate_bytes text ++ byte ∷ []
rate_one text to next byte wanted spelled test same =
    subst (λ (x : RateText). rate_bytes x ≡ rate_bytes text ++ byte ∷ []) same
    (subst (λ (b : ℕ). rate_bytes to ≡ rate_bytes text ++ b ∷ []) (sym (eqb-true byte wanted test)) spelled)

pub whole_more : (count : Counting) (byte : ℕ) (next : RateText) → whole_moved count byte ≡ Some next → rate_bytes next ≡ counting_text count ++ byte ∷ []
whole_more counting.F24 byte next is = absurd (cc)
whole_more counting.F25 byte next is = absurd (cc)
whole_more counting.F30 byte next is = let o = one_rate (byte == 68) rate_text.ThirtyD next is in rate_one (rate_text.Whole counting.F30) rate_text.ThirtyD next byte 68 refl o.0 o.1
whole_more counting.F30Drop byte next is = absurd (cc)
whole_more counting.F50 byte next is = absurd (cc)
whole_more counting.F60 byte next is = let o = one_rate (byte == 68) rate_text.SixtyD next is in rate_one (rate_text.Whole counting.F60) rate_text.SixtyD next byte 68 refl o.0 o.1
whole_more counting.F60Drop byte next is = absurd (cc)

pub rate_more : (text : RateText) (byte : ℕ) (next : RateText) → rate_moved text byte ≡ Some next → rate_bytes next ≡ rate_bytes text ++ byte ∷ []
rate_more rate_text.Empty byte next is = elim (rate_by (byte == 50) rate_text.Two next _ is) [
  | inl o ↦ rate_one rate_text.Empty rate_text.Two next byte 50 refl o.0 o.1
  | inr a ↦ elim (rate_by (byte == 51) rate_text.Three next _ a) [
    | inl o ↦ rate_one rate_text.Empty rate_text.Three next byte 51 refl o.0 o.1
    | inr b ↦ elim (rate_by (byte == 53) rate_text.Five next _ b) [
      | inl o ↦ rate_one rate_text.Empty rate_text.Five next byte 53 refl o.0 o.1
      | inr c ↦ let o = one_rate (byte == 54) rate_text.Six next c in rate_one rate_text.Empty rate_text.Six next byte 54 refl o.0 o.1
    ]
  ]
]
rate_more rate_text.Two byte next is = elim (rate_by (byte == 52) (rate_text.Whole counting.F24) next _ is) [
  | inl o ↦ rate_one rate_text.Two (rate_text.Whole counting.F24) next byte 52 refl o.0 o.1
  | inr a ↦ let o = one_rate (byte == 53) (rate_text.Whole counting.F25) next a in rate_one rate_text.Two (rate_text.Whole counting.F25) next byte 53 refl o.0 o.1
]
rate_more rate_text.Three byte next is =
    let o = one_rate (byte == 48) (rate_text.Whole counting.F30) next is in rate_one rate_text.Three (rate_text.Whole counting.F30) next byte 48 refl o.0 o.1
rate_more rate_text.Five byte next is =
    let o = one_rate (byte == 48) (rate_text.Whole counting.F50) next is in rate_one rate_text.Five (rate_text.Whole counting.F50) next byte 48 refl o.0 o.1
rate_more rate_text.Six byte next is =
    let o = one_rate (byte == 48) (rate_text.Whole counting.F60) next is in rate_one rate_text.Six (rate_text.Whole counting.F60) next byte 48 refl o.0 o.1
rate_more rate_text.ThirtyD byte next is =
    let o = one_rate (byte == 70) (rate_text.Whole counting.F30Drop) next is in rate_one rate_text.ThirtyD (rate_text.Whole counting.F30Drop) next byte 70 refl o.0 o.1
rate_more rate_text.SixtyD byte next is =
    let o = one_rate (byte == 70) (rate_text.Whole counting.F60Drop) next is in rate_one rate_text.SixtyD (rate_text.Whole counting.F60Drop) next byte 70 refl o.0 o.1
rate_more (rate_text.Whole count) byte next is = whole_more count byte next is

pub whole_text : (text : RateText) → is_some (rate_count text) ≡ true → (count : Counting) × (text ≡ rate_text.Whole count)
whole_text (rate_text.Whole count) is = (count, refl)
whole_text rate_text.Empty is = absurd (cc)
whole_text rate_text.Two is = absurd (cc)
whole_text rate_text.Three is = absurd (cc)
whole_text rate_text.Five is = absurd (cc)
whole_text rate_text.Six is = absurd (cc)
whole_text rate_text.ThirtyD is = absurd (cc)
whole_text rate_text.SixtyD is = absurd (cc)

pub tail_more : (name rest : List ℕ) (sign byte : ℕ) → (name ++ (sign ∷ rest)) ++ byte ∷ [] ≡ name ++ (sign ∷ (rest ++ byte ∷ []))
tail_more name rest sign byte = append_assoc name (sign ∷ rest) (byte ∷ [])

pub rate_next : (s next : State) (t : Told) (text : RateText) (front : List ℕ) (byte : ℕ) → Front (phase.Rate text) s t front → (found : Option RateText) → rate_moved text byte ≡ found
    → rate_read s text found byte ≡ Ok next → Next s t (front ++ byte ∷ []) next
rate_next s next t text front byte f (Some to) found is =
    at_next s t (front ++ byte ∷ []) (record s { phase = phase.Rate to; count = rate_count to }) next
    (record {
      line = record {
        spelled = ap (λ n. n ++ byte ∷ []) f.spelled ∙ (tail_more rate_name (rate_bytes text) 61 byte ∙ ap (λ b. rate_name ++ (61 ∷ b)) (sym (rate_more text byte to found)));
        no_packet = f.no_packet;
        no_rate = f.no_rate;
        told = ap (λ (x : Told). record x { count = rate_count to }) f.told;
      };
      version = refl;
    })
    (ok_same (record s { phase = phase.Rate to; count = rate_count to }) next is)
rate_next s next t text front byte f None found is =
    let (tests, same) = taken_so s (is_some (rate_count text) && (byte == 32)) (in_phase s phase.RateSpaces) next is in
    let (some, space) = both (is_some (rate_count text)) (byte == 32) tests in
    let (count, whole) = whole_text text some in
    at_next s t (front ++ byte ∷ []) (in_phase s phase.RateSpaces) next
    (record {
      line = record {
        count = count;
        is = record {
          spaces = byte ∷ [];
          are_spaces = (eqb-true byte 32 space, tt);
          spelled = ap (λ n. n ++ byte ∷ []) f.spelled ∙ (tail_more rate_name (rate_bytes text) 61 byte ∙ ap (λ x. rate_name ++ (61 ∷ (rate_bytes x ++ byte ∷ []))) whole);
        };
        no_packet = f.no_packet;
        no_rate = f.no_rate;
        told = f.told ∙ ap (λ (x : RateText). record t { count = rate_count x }) whole;
      };
      version = refl;
    })
    same

-- a time code
pub frame_judged : (found : Result ℕ Why) (frame : ℕ) → or_offends found ≡ Ok frame → found ≡ Ok frame
frame_judged (Err reason) frame is = absurd (cc)
frame_judged (Ok other) frame is = let same : other ≡ frame = cc in ap (λ x. Ok x) same

pub less_than_eleven : (n : ℕ) → n ≤ 11 → (n ≡ 11 → ⊥) → n ≤ 10
less_than_eleven n most other = omega (arith, other)

pub time_of_some : (text : List ℕ) (found : Option TimeCode) → time_of_text text ≡ found → (count : Option Counting) (last : Option ℕ) (frame : ℕ) → judged_frame count last found ≡ Ok frame
    → (time : TimeCode) × (c : Counting) × IsTimeText time text × (count ≡ Some c) × (frame_after c (unwrap_or last 0) time ≡ Ok frame)
time_of_some text found is None last frame judged = absurd (cc)
time_of_some text None is (Some c) last frame judged = absurd (cc)
time_of_some text (Some time) is (Some c) last frame judged =
    (time, c, read_is_spelled time text is, refl, frame_judged (frame_after c (unwrap_or last 0) time) frame judged)

pub time_next_by : (s next : State) (t : Told) (text : List ℕ) → told_of s ≡ t → (found : Result ℕ Offence) → judged_frame s.count s.last (time_of_text text) ≡ found
    → timed s text found ≡ Ok next → Next s t text next
time_next_by s next t text told (Err offence) found is = absurd (cc)
time_next_by s next t text told (Ok frame) found is =
    let (time, count, is_text, count_is, framed) = time_of_some text (time_of_text text) refl s.count s.last frame found in
    let last : s.last ≡ t.last = ap (λ x. x.last) told in
    at_next s t text (record s { phase = phase.Timed; text = text; last = Some frame }) next
    (record {
      line = record {
        time = time;
        count = count;
        frame = frame;
        is_text = is_text;
        counted = sym (ap (λ x. x.count) told) ∙ count_is;
        framed = subst (λ (o : Option ℕ). frame_after count (unwrap_or o 0) time ≡ Ok frame) last framed;
        told = ap (λ (x : Told). record x { last = Some frame }) told;
      };
      version = refl;
    })
    (ok_same (record s { phase = phase.Timed; text = text; last = Some frame }) next is)

pub time_next : (s next : State) (t : Told) (front : List ℕ) (byte : ℕ) → TimeFront (told_of s) t s.text front → (whole : Bool) → (length (s.text ++ byte ∷ []) == 11) ≡ whole
    → cond whole (timed s (s.text ++ byte ∷ []) (judged_frame s.count s.last (time_of_text (s.text ++ byte ∷ []))))
    (taken s (begins_time (s.text ++ byte ∷ [])) (record s { phase = phase.Time; text = s.text ++ byte ∷ [] })) ≡ Ok next
    → Next s t (front ++ byte ∷ []) next
time_next s next t front byte f true whole is =
    subst (λ (x : List ℕ). Next s t (x ++ byte ∷ []) next) (sym f.spelled)
    (time_next_by s next t (s.text ++ byte ∷ []) f.told (judged_frame s.count s.last (time_of_text (s.text ++ byte ∷ []))) refl is)
time_next s next t front byte f false whole is =
    let (test, same) = taken_so s (begins_time (s.text ++ byte ∷ [])) (record s { phase = phase.Time; text = s.text ++ byte ∷ [] }) next is in
    let size : length (s.text ++ byte ∷ []) ≡ length s.text + 1 = length-append s.text (byte ∷ []) in
    let other : length (s.text ++ byte ∷ []) ≡ 11 → ⊥ = eqb-false (length (s.text ++ byte ∷ [])) 11 whole in
    let some = f.some in
    let short = f.short in
    let less : length (s.text ++ byte ∷ []) ≤ 10 = less_than_eleven (length (s.text ++ byte ∷ [])) (omega (arith, size)) other in
    at_next s t (front ++ byte ∷ []) (record s { phase = phase.Time; text = s.text ++ byte ∷ [] }) next
    (record {
      line = record {
        spelled = ap (λ x. x ++ byte ∷ []) f.spelled;
        begins = test;
        some = omega (arith, size);
        short = less;
        count = f.count;
        counted = f.counted;
        told = f.told;
      };
      version = refl;
    })
    same

-- after it
pub timed_next : (s next : State) (t : Told) (front : List ℕ) (byte : ℕ) → TimedBy (told_of s) t front → taken s (s.two && (byte == 46)) (in_phase s phase.Dot) ≡ Ok next
    → Next s t (front ++ byte ∷ []) next
timed_next s next t front byte f is =
    let (tests, same) = taken_so s (s.two && (byte == 46)) (in_phase s phase.Dot) next is in
    let (second, dot) = both s.two (byte == 46) tests in
    at_next s t (front ++ byte ∷ []) (in_phase s phase.Dot) next
    (record { line = record { text = front; timed = f; is_two = second; spelled = ap (λ b. front ++ b ∷ []) (eqb-true byte 46 dot) }; version = refl })
    same

pub either_digit : (byte : ℕ) → ((byte == 48) || (byte == 49)) ≡ true → (byte ≡ 48) ⊎ (byte ≡ 49)
either_digit byte test = elim (cases_Bool (byte == 48)) [
  | inl e ↦ inl (eqb-true byte 48 e)
  | inr e ↦ inr (eqb-true byte 49 (subst (λ (b : Bool). (b || (byte == 49)) ≡ true) e test))
]

pub dot_next : (s next : State) (t : Told) (front : List ℕ) (byte : ℕ) → DotFront s.two (told_of s) t front
    → taken s ((byte == 48) || (byte == 49)) (in_phase s phase.Field) ≡ Ok next → Next s t (front ++ byte ∷ []) next
dot_next s next t front byte f is =
    let (test, same) = taken_so s ((byte == 48) || (byte == 49)) (in_phase s phase.Field) next is in
    at_next s t (front ++ byte ∷ []) (in_phase s phase.Field) next
    (record {
      line = record {
        text = f.text;
        field = byte;
        timed = f.timed;
        is_two = f.is_two;
        is_field = either_digit byte test;
        spelled = ap (λ x. x ++ byte ∷ []) f.spelled ∙ append_assoc f.text (46 ∷ []) (byte ∷ []);
      };
      version = refl;
    })
    same

pub field_next : (s next : State) (t : Told) (front : List ℕ) (byte : ℕ) → FieldFront s.two (told_of s) t front
    → taken s (byte == 44) (in_phase s (phase.Digits 0)) ≡ Ok next → Next s t (front ++ byte ∷ []) next
field_next s next t front byte f is =
    let (test, same) = taken_so s (byte == 44) (in_phase s (phase.Digits 0)) next is in
    at_next s t (front ++ byte ∷ []) (in_phase s (phase.Digits 0)) next
    (record {
      line = record {
        text = f.text;
        field = f.field;
        digits = [];
        timed = f.timed;
        is_two = f.is_two;
        is_field = f.is_field;
        are = refl;
        long = refl;
        few = omega arith;
        spelled = ap (λ x. x ++ byte ∷ []) f.spelled
            ∙ (append_assoc f.text (46 ∷ f.field ∷ []) (byte ∷ []) ∙ ap (λ b. f.text ++ 46 ∷ f.field ∷ b ∷ []) (eqb-true byte 44 test));
      };
      version = refl;
    })
    same

pub digits_next : (s next : State) (t : Told) (many : ℕ) (front : List ℕ) (byte : ℕ) → DigitsFront many s.two (told_of s) t front
    → taken s (nat_lt many 5 && is_digit byte) (in_phase s (phase.Digits (many + 1))) ≡ Ok next → Next s t (front ++ byte ∷ []) next
digits_next s next t many front byte f is =
    let (tests, same) = taken_so s (nat_lt many 5 && is_digit byte) (in_phase s (phase.Digits (many + 1))) next is in
    let (low, digit) = both (nat_lt many 5) (is_digit byte) tests in
    at_next s t (front ++ byte ∷ []) (in_phase s (phase.Digits (many + 1))) next
    (record {
      line = record {
        text = f.text;
        field = f.field;
        digits = f.digits ++ byte ∷ [];
        timed = f.timed;
        is_two = f.is_two;
        is_field = f.is_field;
        are = all_more (λ b. is_digit b) f.digits byte f.are digit;
        long = length-append f.digits (byte ∷ []) ∙ ap (λ n. n + 1) f.long;
        few = grind (arith, common_steps);
        spelled = ap (λ x. x ++ byte ∷ []) f.spelled ∙ append_assoc f.text (46 ∷ f.field ∷ 44 ∷ f.digits) (byte ∷ []);
      };
      version = refl;
    })
    same

-- a payload begins after what is read past
pub begins_next : (s next : State) (t : Told) (front text past : List ℕ) (byte : ℕ) → TimedBy (told_of s) t text → IsReadPast (version_of s.two) past → front ≡ text ++ past → byte ≡ 9
    → payload_begins s ≡ next → Next s t (front ++ byte ∷ []) next
begins_next s next t front text past byte timed is_past spelled tab same =
    at_next s t (front ++ byte ∷ []) (payload_begins s) next
    (record {
      line = record {
        text = text;
        past = past;
        payload_text = [];
        timed = timed;
        is_past = is_past;
        stands = at_item [] [] refl refl refl;
        spelled = ap (λ x. x ++ byte ∷ []) spelled ∙ (append_assoc text past (byte ∷ []) ∙ ap (λ b. text ++ (past ++ b ∷ [])) tab);
      };
      version = refl;
    })
    same

pub no_past : (second : Bool) → IsReadPast (version_of second) []
no_past false = refl
no_past true = inl refl

pub field_past : (second : Bool) (field : ℕ) → second ≡ true → (field ≡ 48) ⊎ (field ≡ 49) → IsReadPast (version_of second) (46 ∷ field ∷ [])
field_past second field is which =
    subst (λ (b : Bool). IsReadPast (version_of b) (46 ∷ field ∷ [])) (sym is) (inr (record { field = field; rest = []; is_field = which; is_rest = inl refl; spelled = refl }))

pub digits_past : (second : Bool) (field : ℕ) (digits : List ℕ) → second ≡ true → (field ≡ 48) ⊎ (field ≡ 49) → AreDecimals digits → 1 ≤ length digits → length digits ≤ 5
    → IsReadPast (version_of second) (46 ∷ field ∷ 44 ∷ digits)
digits_past second field digits is which are some few =
    subst (λ (b : Bool). IsReadPast (version_of b) (46 ∷ field ∷ 44 ∷ digits)) (sym is)
    (inr (record { field = field; rest = 44 ∷ digits; is_field = which; is_rest = inr (digits, are, some, few, refl); spelled = refl }))

-- within a payload
pub differ : (b : Bool) → b ≡ false → b ≡ true → ⊥
differ b one other = cc

pub record WholePayload (text : List ℕ) (front : Open) : Type 0 where
  pub packet : Payload
  pub is : IsPayload packet text
  pub bytes : front.bytes ≡ payload_bytes packet

pub stands_payload : (text : List ℕ) (front : Open) → Stands text front → is_whole front.bytes ≡ true → WholePayload text front
stands_payload text front (at_item items bytes are is at) whole =
    let same : front.bytes ≡ bytes = ap (λ f. f.bytes) at in
    let packet = packet_so true (concat items) bytes is (subst (λ (b : List ℕ). is_whole b ≡ true) same whole) in
    let stand : concat items ≡ payload_bytes packet.payload = packet.are ∙ ap (λ c. bytes_with packet.payload c) (packet.right refl) in
    record {
      packet = packet.payload;
      is = record { items = items; are = are; stand_for = stand };
      bytes = same ∙ (joined_is true [] (concat items) bytes is ∙ stand);
    }
stands_payload text front (at_digit start items digit high bytes spelled are is digit_is not_yet at) whole =
    let same : front.bytes ≡ bytes = ap (λ f. f.bytes) at in
    absurd (differ (is_whole bytes) not_yet (subst (λ (b : List ℕ). is_whole b ≡ true) same whole))

pub goes_so : (s next : State) (found : Result Open Offence) → payload_goes s found ≡ Ok next → (to : Open) × (found ≡ Ok to) × (record s { payload = to } ≡ next)
goes_so s next (Ok to) is = (to, refl, ok_same (record s { payload = to }) next is)
goes_so s next (Err offence) is = absurd (cc)

pub payload_next : (s next : State) (t : Told) (front : List ℕ) (byte : ℕ) → s.phase ≡ phase.Payload → PayloadFront s.two s.payload (told_of s) t front → (whole : Bool) → is_whole s.payload.bytes ≡ whole
    → cond whole (taken s (is_blank byte) (in_phase s phase.Behind)) (payload_goes s (step true s.payload byte)) ≡ Ok next → Next s t (front ++ byte ∷ []) next
payload_next s next t front byte at f true whole is =
    let (test, same) = taken_so s (is_blank byte) (in_phase s phase.Behind) next is in
    let w = stands_payload f.payload_text s.payload f.stands whole in
    at_next s t (front ++ byte ∷ []) (in_phase s phase.Behind) next
    (record {
      line = record {
        text = f.text;
        past = f.past;
        payload_text = f.payload_text;
        blanks = byte ∷ [];
        packet = w.packet;
        timed = f.timed;
        is_past = f.is_past;
        is_payload = w.is;
        bytes = w.bytes;
        are_blanks = (test, tt);
        spelled = ap (λ x. x ++ byte ∷ []) f.spelled
            ∙ (append_assoc f.text (f.past ++ (9 ∷ f.payload_text)) (byte ∷ []) ∙ ap (λ x. f.text ++ x) (append_assoc f.past (9 ∷ f.payload_text) (byte ∷ [])));
      };
      version = refl;
    })
    same
payload_next s next t front byte at f false whole is =
    let (to, stepped_is, same) = goes_so s next (step true s.payload byte) is in
    let here : (record s { payload = to }).phase ≡ phase.Payload = at in
    let stands = stands_on f.payload_text s.payload byte to f.stands whole (step_so true s.payload byte to stepped_is) in
    at_next s t (front ++ byte ∷ []) (record s { payload = to }) next
    (record {
      line = subst (λ (p : Phase). Front p (record s { payload = to }) t (front ++ byte ∷ [])) (sym here)
          (record {
            text = f.text;
            past = f.past;
            payload_text = f.payload_text ++ byte ∷ [];
            timed = f.timed;
            is_past = f.is_past;
            stands = stands;
            spelled = ap (λ x. x ++ byte ∷ []) f.spelled
                ∙ (append_assoc f.text (f.past ++ (9 ∷ f.payload_text)) (byte ∷ []) ∙ ap (λ x. f.text ++ x) (append_assoc f.past (9 ∷ f.payload_text) (byte ∷ [])));
          });
      version = refl;
    })
    same

-- a byte more within an open line
pub within_next : (p : Phase) (s next : State) (t : Told) (front : List ℕ) (byte : ℕ) → s.phase ≡ p → Front p s t front → (byte == 10) ≡ false → (byte == 13) ≡ false
    → within s p byte ≡ Ok next → Next s t (front ++ byte ∷ []) next
within_next (phase.First at) s next t front byte at_is f lf cr is = absurd f
within_next phase.FirstSpaces s next t front byte at_is f lf cr is = absurd f
within_next phase.FirstEnd s next t front byte at_is f lf cr is = absurd f
within_next phase.Start s next t front byte at_is f lf cr is = subst (λ (x : List ℕ). Next s t (x ++ byte ∷ []) next) (sym f.0) (start_next s next t byte f.1 is)
within_next phase.Blank s next t front byte at_is f lf cr is =
    let (test, same) = taken_so s (is_blank byte) (in_phase s phase.Blank) next is in
    at_next s t (front ++ byte ∷ []) (in_phase s phase.Blank) next (record { line = (blanks_more front byte f.0 test, f.1); version = refl }) same
within_next phase.Slash s next t front byte at_is f lf cr is =
    let (test, same) = taken_so s (byte == 47) (in_phase s phase.Comment) next is in
    let comment : IsComment (47 ∷ byte ∷ []) = record { rest = []; within = refl; spelled = ap (λ b. 47 ∷ b ∷ []) (eqb-true byte 47 test) } in
    at_next s t (front ++ byte ∷ []) (in_phase s phase.Comment) next
    (record { line = (subst (λ (x : List ℕ). IsComment (x ++ byte ∷ [])) (sym f.0) comment, f.1); version = refl })
    same
within_next phase.Comment s next t front byte at_is f lf cr is =
    let comment : IsComment (front ++ byte ∷ []) =
    record { rest = f.0.rest ++ byte ∷ []; within = within_more f.0.rest byte f.0.within lf cr; spelled = ap (λ x. x ++ byte ∷ []) f.0.spelled } in
    at_next s t (front ++ byte ∷ []) (in_phase s phase.Comment) next (record { line = (comment, f.1); version = refl }) (ok_same (in_phase s phase.Comment) next is)
within_next (phase.Name k) s next t front byte at_is f lf cr is = name_next s next t k front byte f (byte == 61) refl is
within_next phase.Value s next t front byte at_is f lf cr is =
    let attribute : IsAttribute (front ++ byte ∷ []) = record {
      name = f.is.name;
      value = f.is.value ++ byte ∷ [];
      is_name = f.is.is_name;
      other = f.is.other;
      within = within_more f.is.value byte f.is.within lf cr;
      spelled = ap (λ x. x ++ byte ∷ []) f.is.spelled ∙ append_assoc f.is.name (61 ∷ f.is.value) (byte ∷ []);
    } in
    at_next s t (front ++ byte ∷ []) (in_phase s phase.Value) next (record { line = record { is = attribute; none = f.none; told = f.told }; version = refl })
    (ok_same (in_phase s phase.Value) next is)
within_next (phase.Rate text) s next t front byte at_is f lf cr is = rate_next s next t text front byte f (rate_moved text byte) refl is
within_next phase.RateSpaces s next t front byte at_is f lf cr is =
    let (test, same) = taken_so s (byte == 32) (in_phase s phase.RateSpaces) next is in
    let rated : IsRate f.count (front ++ byte ∷ []) = record {
      spaces = f.is.spaces ++ byte ∷ [];
      are_spaces = spaces_more f.is.spaces byte f.is.are_spaces (eqb-true byte 32 test);
      spelled = ap (λ x. x ++ byte ∷ []) f.is.spelled
          ∙ (tail_more rate_name (counting_text f.count ++ f.is.spaces) 61 byte ∙ ap (λ x. rate_name ++ (61 ∷ x)) (append_assoc (counting_text f.count) f.is.spaces (byte ∷ [])));
    } in
    at_next s t (front ++ byte ∷ []) (in_phase s phase.RateSpaces) next
    (record { line = record { count = f.count; is = rated; no_packet = f.no_packet; no_rate = f.no_rate; told = f.told }; version = refl })
    same
within_next phase.Time s next t front byte at_is f lf cr is = time_next s next t front byte f (length (s.text ++ byte ∷ []) == 11) refl is
within_next phase.Timed s next t front byte at_is f lf cr is = elim (chosen (byte == 9) (payload_begins s) next _ is) [
  | inl (e, same) ↦ begins_next s next t front front [] byte f (no_past s.two) (sym (append-nil front)) (eqb-true byte 9 e) same
  | inr (e, is') ↦ timed_next s next t front byte f is'
]
within_next phase.Dot s next t front byte at_is f lf cr is = dot_next s next t front byte f is
within_next phase.Field s next t front byte at_is f lf cr is = elim (chosen (byte == 9) (payload_begins s) next _ is) [
  | inl (e, same) ↦ begins_next s next t front f.text (46 ∷ f.field ∷ []) byte f.timed (field_past s.two f.field f.is_two f.is_field) f.spelled (eqb-true byte 9 e) same
  | inr (e, is') ↦ field_next s next t front byte f is'
]
within_next (phase.Digits many) s next t front byte at_is f lf cr is = elim (chosen (nat_lt 0 many && (byte == 9)) (payload_begins s) next _ is) [
  | inl (e, same) ↦
      let (some, tab) = both (nat_lt 0 many) (byte == 9) e in
      let long = f.long in
      let most = f.few in
      let least : 1 ≤ many = grind (arith, common_steps) in
      begins_next s next t front f.text (46 ∷ f.field ∷ 44 ∷ f.digits) byte f.timed
      (digits_past s.two f.field f.digits f.is_two f.is_field f.are (omega (arith, long, least)) (omega (arith, long, most))) f.spelled (eqb-true byte 9 tab) same
  | inr (e, is') ↦ digits_next s next t many front byte f is'
]
within_next phase.Payload s next t front byte at_is f lf cr is = payload_next s next t front byte at_is f (is_whole s.payload.bytes) refl is
within_next phase.Behind s next t front byte at_is f lf cr is =
    let (test, same) = taken_so s (is_blank byte) (in_phase s phase.Behind) next is in
    at_next s t (front ++ byte ∷ []) (in_phase s phase.Behind) next
    (record {
      line = record {
        text = f.text;
        past = f.past;
        payload_text = f.payload_text;
        blanks = f.blanks ++ byte ∷ [];
        packet = f.packet;
        timed = f.timed;
        is_past = f.is_past;
        is_payload = f.is_payload;
        bytes = f.bytes;
        are_blanks = blanks_more f.blanks byte f.are_blanks test;
        spelled = ap (λ x. x ++ byte ∷ []) f.spelled
            ∙ (append_assoc f.text (f.past ++ (9 ∷ (f.payload_text ++ f.blanks))) (byte ∷ [])
            ∙ ap (λ x. f.text ++ x) (append_assoc f.past (9 ∷ (f.payload_text ++ f.blanks)) (byte ∷ [])
            ∙ ap (λ x. f.past ++ (9 ∷ x)) (append_assoc f.payload_text f.blanks (byte ∷ []))));
      };
      version = refl;
    })
    same
within_next (phase.End packet) s next t front byte at_is f lf cr is = absurd (cc)
