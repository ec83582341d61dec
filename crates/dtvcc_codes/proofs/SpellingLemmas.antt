-- Spellings: bytes that are as many as they tell, and say what they spell.
use Rattle.std.proofs.Common.{◌≡◌, ◌≢◌, ℕ, ◌%◌, ◌<◌, ◌≤◌, ◌==◌, Bool, true, false, List, [], ◌∷◌, ◌++◌, length, take, Some, None, refl, sym, ap, subst, ◌∙◌, length-append, append_assoc, append-nil, arith}
use Rattle.std.specs.List.{All}
use Rattle.std.proofs.Math.Seq.{take-append_seam}
use Rattle.std.proofs.lemmas.Bool.{true≢false}
use Rattle.std.proofs.lemmas.List.{append_cancel_left}
use Rattle.std.proofs.lemmas.List.Elements.{All-head, All-tail}
use Rattle.dtvcc_codes.specs.declared.commands.Command.{Command}
use Rattle.dtvcc_codes.specs.declared.commands.Command.TheVariants.{Skipped}
use Rattle.dtvcc_codes.specs.CodeTables.{Row, base_codes, extended_codes, is_counted, row_at}
use Rattle.dtvcc_codes.specs.Cut.{IsUnfinished}
use Rattle.dtvcc_codes.specs.Reading.{extended_command, said_at, spelled_command, told_size}
use Rattle.dtvcc_codes.specs.Spelling.{Spells}
use Rattle.dtvcc_codes.specs.Spelling.Spells.{base, extended, counted}
use Rattle.dtvcc_codes.proofs.SizeLemmas.{base_row, command_of-counted, count_at-row, counted_row, ext1_row, extended_row, extended_size-counted, extended_size-one, extended_size-row, from_test, is_ext1, isnt_ext1, said_at-row, told_size-base, told_size-ext1, told_size-fixed, told_size_empty}

-- a byte
abbrev pub IsByte : ℕ → Type 0
IsByte byte = byte < 256

-- bytes as many as they tell, that say this
pub record IsWhole (command : Command) (bytes : List ℕ) : Type 0 where
  pub size : told_size bytes ≡ length bytes
  pub says : spelled_command bytes ≡ command

-- spelled_command, by cases
pub command_of-base_code : (code : ℕ) (rest : List ℕ) → (code == 16) ≡ false → spelled_command (code ∷ rest) ≡ said_at base_codes code rest
unfolding spelled_command
command_of-base_code code rest test = rw test refl

pub command_of-ext1 : (code : ℕ) (rest : List ℕ) → (code == 16) ≡ true → spelled_command (code ∷ rest) ≡ extended_command rest
unfolding spelled_command
command_of-ext1 code rest test = rw test refl

-- a code with a row isn't EXT1, and one after EXT1 isn't counted
other_than_ext1 : (code : ℕ) (row : Row) → row_at base_codes code ≡ Some row → (code == 16) ≡ false
other_than_ext1 code row at = isnt_ext1 code (λ is. let none : row_at base_codes code ≡ None = ap (λ c. row_at base_codes c) is ∙ ext1_row in absurd cc)

other_than_counted : (code : ℕ) (row : Row) → row_at extended_codes code ≡ Some row → is_counted code ≡ false
other_than_counted code row at = by_test (is_counted code) refl where
  by_test : (t : Bool) → is_counted code ≡ t → is_counted code ≡ false
  by_test true is = let none : row_at extended_codes code ≡ None = counted_row code is in absurd cc
  by_test false is = is

whole_base : (command : Command) (code : ℕ) (parameters : List ℕ) (row : Row) → row_at base_codes code ≡ Some row
    → length parameters ≡ row.count → command ≡ row.says code parameters → IsWhole command (code ∷ parameters)
whole_base command code parameters row at count says =
    let test = other_than_ext1 code row at in
    record {
      size = told_size-base code parameters test ∙ (omega (arith, count_at-row base_codes code row at, count));
      says = command_of-base_code code parameters test ∙ said_at-row base_codes code parameters row at ∙ sym says;
    }

whole_extended : (command : Command) (code : ℕ) (parameters : List ℕ) (row : Row) → row_at extended_codes code ≡ Some row
    → length parameters ≡ row.count → command ≡ row.says code parameters → IsWhole command (16 ∷ code ∷ parameters)
whole_extended command code parameters row at count says =
    let test = other_than_counted code row at in
    record {
      size = told_size-ext1 16 (code ∷ parameters) refl ∙ (omega (arith, extended_size-row code parameters test, count_at-row extended_codes code row at, count));
      says = command_of-ext1 16 (code ∷ parameters) refl ∙ said_at-row extended_codes code parameters row at ∙ sym says;
    }

whole_counted : (command : Command) (code count : ℕ) (skipped : List ℕ) → is_counted code ≡ true
    → length skipped ≡ count % 32 → command ≡ Skipped → IsWhole command (16 ∷ code ∷ count ∷ skipped)
whole_counted command code count skipped is many says = record {
  size = told_size-ext1 16 (code ∷ count ∷ skipped) refl ∙ (omega (arith, extended_size-counted code count skipped is, many));
  says = command_of-counted code count skipped is ∙ sym says;
}

-- a spelling is whole, and says its command
pub spelled_is_whole : (command : Command) (bytes : List ℕ) → Spells command bytes → IsWhole command bytes
spelled_is_whole command bytes (base code parameters row is at count says) =
    subst (λ bs. IsWhole command bs) (sym is) (whole_base command code parameters row at count says)
spelled_is_whole command bytes (extended code parameters row is at count says) =
    subst (λ bs. IsWhole command bs) (sym is) (whole_extended command code parameters row at count says)
spelled_is_whole command bytes (counted code count skipped is test many says) =
    subst (λ bs. IsWhole command bs) (sym is) (whole_counted command code count skipped test many says)

-- what is whole spells what it says
spelled_base : (code : ℕ) (rest : List ℕ) → code < 256 → (code == 16) ≡ false → told_size (code ∷ rest) ≡ length (code ∷ rest)
    → Spells (spelled_command (code ∷ rest)) (code ∷ rest)
spelled_base code rest byte test size =
    let other : code ≢ 16 = λ is. true≢false (sym (is_ext1 code is) ∙ test) in
    let (row, at) = base_row code byte other in
    base code rest row refl at
    (omega (arith, told_size-base code rest test, count_at-row base_codes code row at, size))
    (command_of-base_code code rest test ∙ said_at-row base_codes code rest row at)

spelled_extended : (code : ℕ) (rest : List ℕ) → code < 256 → is_counted code ≡ false → told_size (16 ∷ code ∷ rest) ≡ length (16 ∷ code ∷ rest)
    → Spells (spelled_command (16 ∷ code ∷ rest)) (16 ∷ code ∷ rest)
spelled_extended code rest byte test size =
    let (row, at) = extended_row code byte test in
    extended code rest row refl at
    (omega (arith, told_size-ext1 16 (code ∷ rest) refl, extended_size-row code rest test, count_at-row extended_codes code row at, size))
    (command_of-ext1 16 (code ∷ rest) refl ∙ said_at-row extended_codes code rest row at)

spelled_counted : (code : ℕ) (rest : List ℕ) → is_counted code ≡ true → told_size (16 ∷ code ∷ rest) ≡ length (16 ∷ code ∷ rest)
    → Spells (spelled_command (16 ∷ code ∷ rest)) (16 ∷ code ∷ rest)
spelled_counted code [] is size = absurd (omega (arith, told_size-ext1 16 (code ∷ []) refl, extended_size-one code is))
spelled_counted code (count ∷ skipped) is size =
    counted code count skipped refl is
    (omega (arith, told_size-ext1 16 (code ∷ count ∷ skipped) refl, extended_size-counted code count skipped is))
    (command_of-counted code count skipped is)

spelled_ext1 : (rest : List ℕ) → All IsByte rest → told_size (16 ∷ rest) ≡ length (16 ∷ rest) → Spells (spelled_command (16 ∷ rest)) (16 ∷ rest)
spelled_ext1 [] are size = absurd (omega (arith, told_size-ext1 16 [] refl))
spelled_ext1 (code ∷ rest) are size = by_test (is_counted code) refl where
  by_test : (t : Bool) → is_counted code ≡ t → Spells (spelled_command (16 ∷ code ∷ rest)) (16 ∷ code ∷ rest)
  by_test true is = spelled_counted code rest is size
  by_test false is = spelled_extended code rest (All-head IsByte code rest are) is size

pub whole_is_spelled : (bytes : List ℕ) → All IsByte bytes → told_size bytes ≡ length bytes → Spells (spelled_command bytes) bytes
whole_is_spelled [] are size = absurd (omega (arith, told_size_empty))
whole_is_spelled (code ∷ rest) are size = by_test (code == 16) refl where
  by_test : (t : Bool) → (code == 16) ≡ t → Spells (spelled_command (code ∷ rest)) (code ∷ rest)
  by_test true is =
      let same : 16 ≡ code = sym (from_test code is) in
      subst (λ c. Spells (spelled_command (c ∷ rest)) (c ∷ rest)) same
      (spelled_ext1 rest (All-tail IsByte code rest are) (ap (λ c. told_size (c ∷ rest)) same ∙ size))
  by_test false is = spelled_base code rest (All-head IsByte code rest are) is size

-- the command of a spelling is one, and its front tells its size
pub told_behind : (command : Command) (bytes more : List ℕ) → Spells command bytes → told_size (bytes ++ more) ≡ length bytes
told_behind command bytes more spells =
    let whole = spelled_is_whole command bytes spells in
    let all : told_size bytes ≤ length bytes = omega (arith, whole.size) in
    told_size-fixed bytes more all ∙ whole.size

-- lists with equal fronts
front_is : (front back rest after : List ℕ) → front ++ rest ≡ back ++ after → length front ≡ length back → (front ≡ back) × (rest ≡ after)
front_is front back rest after same size =
    let fronts : front ≡ back =
    sym (take-append_seam front rest) ∙ ap (λ xs. take (length front) xs) same ∙ ap (λ n. take n (back ++ after)) size ∙ take-append_seam back after in
    (fronts, append_cancel_left back rest after (ap (λ xs. xs ++ rest) (sym fronts) ∙ same))

-- bytes begin with at most one spelling
pub spelled_one_way : (command other : Command) (front back rest after : List ℕ) → Spells command front → Spells other back
    → front ++ rest ≡ back ++ after → (command ≡ other) × (front ≡ back) × (rest ≡ after)
spelled_one_way command other front back rest after spells says same =
    let size : length front ≡ length back =
    sym (told_behind command front rest spells) ∙ ap (λ xs. told_size xs) same ∙ told_behind other back after says in
    let (fronts, rests) = front_is front back rest after same size in (
      sym (spelled_is_whole command front spells).says ∙ ap (λ xs. spelled_command xs) fronts ∙ (spelled_is_whole other back says).says,
      fronts,
      rests,
    )

-- and don't begin a longer one
pub spelled_is_finished : (command : Command) (bytes more : List ℕ) → Spells command bytes → IsUnfinished (bytes ++ more) → ⊥
spelled_is_finished command bytes more spells unfinished =
    let others = spelled_one_way command unfinished.command bytes ((bytes ++ more) ++ unfinished.more) (more ++ unfinished.more) [] spells unfinished.spells
    (sym (append_assoc bytes more unfinished.more) ∙ sym (append-nil ((bytes ++ more) ++ unfinished.more))) in
    let none : length (more ++ unfinished.more) ≡ 0 = ap (λ xs. length xs) others.2 in
    let some = unfinished.some in
    omega (arith, none, length-append more unfinished.more, some)
