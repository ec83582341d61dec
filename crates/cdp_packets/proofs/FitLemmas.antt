-- Which ids and counts fit: those with which some list of sections of this many bytes goes on.
use Rattle.std.proofs.Common.{◌≡◌, ◌≢◌, ◌↔◌, ℕ, ◌+◌, ◌-◌, ◌*◌, ◌%◌, ◌<◌, ◌≤◌, ◌==◌, ◌&&◌, ◌||◌, not, nat_le, if◌then◌else◌, Bool, true, false, List, [], ◌∷◌, ◌++◌, length, replicate, refl, sym, ap, subst, ◌∙◌, length-append, lit<, arith}
use Rattle.std.proofs.lemmas.Bool.Decides.{nat_tests}
use Rattle.std.proofs.lemmas.List.{length-replicate}
use Rattle.std.proofs.lemmas.List.Elements.{All-append, All-cons, All-nil, All-replicate}
use Rattle.std.specs.List.{All, concat}
use Rattle.cdp_packets.specs.Reading.{count_fits, id_fits}
use Rattle.cdp_packets.specs.Refusals.{CanBegin}
use Rattle.cdp_packets.specs.Sections.{AreSections, IsSectionList, is_id, section_rest}
use Rattle.cdp_packets.proofs.BegunLemmas.{and-left, count_tells, id_fits-is_id, test-same}

-- a list of sections never has one byte
pub no_single_byte : (cut : List (List ℕ)) → AreSections cut → length (concat cut) ≢ 1
no_single_byte [] are = λ e. absurd (omega (arith, e))
no_single_byte ([] ∷ cut) are = absurd are.0
no_single_byte ((_ ∷ []) ∷ cut) are = absurd are.0
no_single_byte ((id ∷ second ∷ rest) ∷ cut) are = λ e. absurd (omega (arith, e))

-- tests put together
and-both : (b c : Bool) → b ≡ true → c ≡ true → (b && c) ≡ true
and-both true c is also = also
and-both false c is also = absurd cc

pub or-second : (b c : Bool) → c ≡ true → (b || c) ≡ true
or-second true c is = refl
or-second false c is = is

-- the id of a section that has its bytes, with no single byte after it
time_code_fits : (left more : ℕ) → left ≡ 2 + 3 + more → more ≢ 1 → (nat_le 5 left && not (left == 6)) ≡ true
time_code_fits left more long none = grind (arith, nat_tests)

multiple_fits : (left n more : ℕ) → left ≡ 2 + n + more → more ≢ 1 → n ≢ 1 → not (left == 3) ≡ true
multiple_fits left n more long none many =
    let other : left ≢ 3 = λ e. many (omega (arith, long, e, none)) in
    grind (arith, nat_tests)

abbrev fits_behind : ℕ → ℕ → Bool
fits_behind left id = if id == 0x71 then nat_le 5 left && not (left == 6) else if nat_le id 0x73 then not (left == 3) else true

behind_fits : (left id second more : ℕ) → is_id id ≡ true → left ≡ 2 + section_rest id second + more → more ≢ 1 → fits_behind left id ≡ true
behind_fits left id second more is long none =
    let goal = λ (i : ℕ). left ≡ 2 + section_rest i second + more → fits_behind left i ≡ true in
    let at = λ (i : ℕ) (test : (id == i) ≡ true) (is : goal i). subst goal (sym (test-same id i test)) is long in
    let time : (t : Bool) → (id == 0x71) ≡ t → fits_behind left id ≡ true = elim [
      | true ↦ λ test. at 0x71 test (λ e. time_code_fits left more e none)
      | false ↦ λ not_time.
          let cc_data : (t : Bool) → (id == 0x72) ≡ t → fits_behind left id ≡ true = elim [
            | true ↦ λ test. at 0x72 test (λ e. multiple_fits left (3 * (second % 32)) more e none (λ m. omega (arith, m)))
            | false ↦ λ not_cc_data.
                let service : (t : Bool) → (id == 0x73) ≡ t → fits_behind left id ≡ true = elim [
                  | true ↦ λ test. at 0x73 test (λ e. multiple_fits left (7 * (second % 16)) more e none (λ m. omega (arith, m)))
                  | false ↦ λ not_service.
                      let future : nat_le id 0x73 ≡ false = grind (arith, nat_tests) in
                      ap (λ (t : Bool). if t then nat_le 5 left && not (left == 6) else if nat_le id 0x73 then not (left == 3) else true) not_time
                      ∙ ap (λ (t : Bool). if t then not (left == 3) else true) future
                ] in service _ refl
          ] in cc_data _ refl
    ] in time _ refl

pub id_fits-section : (left id second more : ℕ) → is_id id ≡ true → left ≡ 2 + section_rest id second + more → more ≢ 1 → id_fits left id ≡ true
id_fits-section left id second more is long none =
    let two : nat_le 2 left ≡ true = grind (arith, nat_tests) in
    and-both (is_id id && nat_le 2 left) _ (and-both (is_id id) (nat_le 2 left) is two) (behind_fits left id second more is long none)

-- and its second byte
pub count_fits-section : (left id second more : ℕ) → left ≡ 1 + section_rest id second + more → more ≢ 1 → count_fits left id second ≡ true
count_fits-section left id second more long none = numbers (section_rest id second) long
  where
    numbers : (n : ℕ) → left ≡ 1 + n + more → (nat_le (n + 1) left && not (left == n + 2)) ≡ true
    numbers n long = grind (arith, nat_tests)

-- an id that fits, with a second byte and with this many bytes after its section
pub record Choice (left id : ℕ) : Type 0 where
  pub second : ℕ
  pub small : second < 256
  pub more : ℕ
  pub none : more ≢ 1
  pub long : left ≡ 2 + section_rest id second + more

and-right : (b c : Bool) → (b && c) ≡ true → c ≡ true
and-right true c is = is
and-right false c is = absurd cc

time_code_choice : (left : ℕ) → id_fits left 0x71 ≡ true → Choice left 0x71
time_code_choice left fits =
    let five : 5 ≤ left = grind (arith, nat_tests) in
    let not_six : left ≢ 6 = λ e. grind (arith, nat_tests) in
    record { second = 0; small = lit< tt; more = left - 5; none = λ e. not_six (omega arith); long = omega arith }

-- room for a section without bytes after its first two
two_and_more : (left : ℕ) → (nat_le 2 left && not (left == 3)) ≡ true → (2 ≤ left) × (left ≢ 3)
two_and_more left fits = (grind (arith, nat_tests), λ e. grind (arith, nat_tests))

empty_choice : (left id : ℕ) → (2 ≤ left) × (left ≢ 3) → section_rest id 0 ≡ 0 → Choice left id
empty_choice left id room empty =
    let two = room.0 in
    record { second = 0; small = lit< tt; more = left - 2; none = λ e. room.1 (omega arith); long = omega arith }

-- a section that says itself how long it is
future_rest : (id n : ℕ) → (id == 0x71) ≡ false → (id == 0x72) ≡ false → (id == 0x73) ≡ false → section_rest id n ≡ n
future_rest id n one two three =
    ap (λ (t : Bool). if t then 3 else if id == 0x72 then 3 * (n % 32) else if id == 0x73 then 7 * (n % 16) else n) one
    ∙ ap (λ (t : Bool). if t then 3 * (n % 32) else if id == 0x73 then 7 * (n % 16) else n) two
    ∙ ap (λ (t : Bool). if t then 7 * (n % 16) else n) three

future_choice : (left id : ℕ) → id_fits left id ≡ true → left < 258 → ((n : ℕ) → section_rest id n ≡ n) → Choice left id
future_choice left id fits few future =
    let two : nat_le 2 left ≡ true = and-right (is_id id) (nat_le 2 left) (and-left (is_id id && nat_le 2 left) _ fits) in
    let some : 2 ≤ left = grind (arith, nat_tests) in
    record { second = left - 2; small = omega arith; more = 0; none = λ e. omega (arith, e); long = omega (arith, future (left - 2)) }

pub id_fits-choice : (left id : ℕ) → id_fits left id ≡ true → left < 258 → Choice left id
id_fits-choice left id fits few =
    let goal = λ (i : ℕ). id_fits left i ≡ true → Choice left i in
    let at = λ (i : ℕ) (test : (id == i) ≡ true) (is : goal i). subst goal (sym (test-same id i test)) is fits in
    let time : (t : Bool) → (id == 0x71) ≡ t → Choice left id = elim [
      | true ↦ λ test. at 0x71 test (time_code_choice left)
      | false ↦ λ not_time.
          let cc_data : (t : Bool) → (id == 0x72) ≡ t → Choice left id = elim [
            | true ↦ λ test. at 0x72 test (λ is. empty_choice left 0x72 (two_and_more left is) refl)
            | false ↦ λ not_cc_data.
                let service : (t : Bool) → (id == 0x73) ≡ t → Choice left id = elim [
                  | true ↦ λ test. at 0x73 test (λ is. empty_choice left 0x73 (two_and_more left is) refl)
                  | false ↦ λ not_service. future_choice left id fits few (λ n. future_rest id n not_time not_cc_data not_service)
                ] in service _ refl
          ] in cc_data _ refl
    ] in time _ refl

abbrev IsByte : ℕ → Type 0
IsByte byte = byte < 256

-- bytes are sections, this many
record Fitting (left : ℕ) : Type 0 where
  pub cut : List (List ℕ)
  pub are : AreSections cut
  pub long : length (concat cut) ≡ left
  pub bytes_are : All IsByte (concat cut)

zeros_are : (n : ℕ) → All IsByte (replicate n 0)
zeros_are n = All-replicate IsByte n 0 (lit< tt)

-- sections of this many bytes
fitting : (left : ℕ) → left < 258 → left ≢ 1 → Fitting left
fitting left few none =
    let cases : (t : Bool) → (left == 0) ≡ t → Fitting left = elim [
      | true ↦ λ is. record { cut = []; are = tt; long = grind (arith, nat_tests); bytes_are = All-nil IsByte }
      | false ↦ λ other.
          let some : left ≢ 0 = grind (arith, nat_tests) in
          let zeros : List ℕ = replicate (left - 2) 0 in
          let many : length zeros ≡ left - 2 = length-replicate {A = ℕ} (left - 2) 0 in
          record {
            cut = (0x75 ∷ (left - 2) ∷ zeros) ∷ [];
            are = ((refl, many), tt);
            long = omega (arith, many, length-append zeros []);
            bytes_are = All-cons IsByte 0x75 ((left - 2) ∷ (zeros ++ [])) (lit< tt)
                (All-cons IsByte (left - 2) (zeros ++ []) (omega arith) (All-append IsByte zeros [] (zeros_are (left - 2)) (All-nil IsByte)));
          }
    ] in cases _ refl

-- sections that begin with this id and second byte, and continue with bytes, this many from the second one on
pub record Continues (left id second : ℕ) : Type 0 where
  pub rest : List ℕ
  pub bytes_are : All IsByte rest
  pub are : IsSectionList (id ∷ second ∷ rest)
  pub long : length rest + 1 ≡ left

continues : (left id second more : ℕ) → is_id id ≡ true → more ≢ 1 → left < 258 → left ≡ 1 + section_rest id second + more → Continues left id second
continues left id second more is none few long =
    let behind = fitting more (omega (arith, long, few)) none in
    let zeros : List ℕ = replicate (section_rest id second) 0 in
    let many : length zeros ≡ section_rest id second = length-replicate {A = ℕ} (section_rest id second) 0 in
    record {
      rest = zeros ++ concat behind.cut;
      bytes_are = All-append IsByte zeros (concat behind.cut) (zeros_are (section_rest id second)) behind.bytes_are;
      are = record { cut = (id ∷ second ∷ zeros) ∷ behind.cut; are = ((is, many), behind.are); joined = refl };
      long = omega (arith, long, many, behind.long, length-append zeros (concat behind.cut));
    }

-- the first section of a list of sections, and how many bytes follow it
record Begins (id second : ℕ) (rest : List ℕ) : Type 0 where
  pub is : is_id id ≡ true
  pub more : ℕ
  pub none : more ≢ 1
  pub long : length rest ≡ section_rest id second + more

begins_by : (id second : ℕ) (rest : List ℕ) (cut : List (List ℕ)) → AreSections cut → concat cut ≡ id ∷ second ∷ rest → Begins id second rest
begins_by id second rest [] are joined = absurd cc
begins_by id second rest ([] ∷ cut) are joined = absurd are.0
begins_by id second rest ((_ ∷ []) ∷ cut) are joined = absurd are.0
begins_by id second rest ((i ∷ s ∷ body) ∷ cut) are joined =
    let first : i ≡ id = cc in
    let next : s ≡ second = cc in
    let behind : body ++ concat cut ≡ rest = cc in
    let many : length body ≡ section_rest id second = are.0.1 ∙ ap (λ n. section_rest n s) first ∙ ap (λ n. section_rest id n) next in
    record {
      is = subst (λ n. is_id n ≡ true) first are.0.0;
      more = length (concat cut);
      none = no_single_byte cut are.1;
      long = omega (arith, many, ap length behind, length-append body (concat cut));
    }

-- an id fits where some sections begin with it
id_fits-from : (left id : ℕ) (rest : List ℕ) → IsSectionList (id ∷ rest) → length (id ∷ rest) ≡ left → id_fits left id ≡ true
id_fits-from left id [] list long = absurd (no_single_byte list.cut list.are (ap length list.joined))
id_fits-from left id (second ∷ rest) list long =
    let begins = begins_by id second rest list.cut list.are list.joined in
    id_fits-section left id second begins.more begins.is (omega (arith, begins.long, long)) begins.none

pub id_fits-is : (left id : ℕ) → left < 256 → (id_fits left id ≡ true) ↔ CanBegin left (id ∷ [])
id_fits-is left id few = (
  λ fits.
      let chosen = id_fits-choice left id fits (omega arith) in
      let long = chosen.long in
      let goes = continues (left - 1) id chosen.second chosen.more (id_fits-is_id left id fits) chosen.none (omega arith) (omega arith) in
      record {
        rest = chosen.second ∷ goes.rest;
        bytes_are = All-cons IsByte chosen.second goes.rest chosen.small goes.bytes_are;
        are = goes.are;
        long = omega (arith, goes.long);
      },
  λ can. id_fits-from left id can.rest can.are can.long,
)

-- and a second byte where some can continue with it
pub count_fits-is : (left id count : ℕ) → left < 256 → is_id id ≡ true → (count_fits left id count ≡ true) ↔ CanBegin (left + 1) (id ∷ count ∷ [])
count_fits-is left id count few is = (
  λ fits.
      let (room, none) = count_tells left (section_rest id count) fits in
      let goes = continues left id count (left - section_rest id count - 1) is (λ e. none (omega (arith, room, e))) (omega arith) (omega (arith, room)) in
      record { rest = goes.rest; bytes_are = goes.bytes_are; are = goes.are; long = omega (arith, goes.long) },
  λ can.
      let begins = begins_by id count can.rest can.are.cut can.are.are can.are.joined in
      count_fits-section left id count begins.more (omega (arith, begins.long, can.long)) begins.none,
)
