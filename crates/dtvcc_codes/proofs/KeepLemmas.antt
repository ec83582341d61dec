-- A command of more than seven bytes, of which only the number of those to come is kept.
use Rattle.std.proofs.Common.{◌≡◌, ℕ, ◌+◌, ◌-◌, ◌==◌, ◌<◌, ◌≤◌, nat_le, Bool, true, false, if◌then◌else◌, List, [], ◌∷◌, ◌++◌, length, refl, length-append, arith}
use Rattle.std.proofs.lemmas.Bool.Decides.{nat_tests}
use Rattle.std.specs.Bool.{then_some}
use Rattle.dtvcc_codes.specs.declared.commands.Command.TheVariants.{Skipped}
use Rattle.dtvcc_codes.specs.Reading.{completed, is_whole, open_after, spelled_command, told_size}
use Rattle.dtvcc_codes.specs.Readers.{kept_of, to_come}
use Rattle.dtvcc_codes.proofs.SizeLemmas.{passed_over, told_size_empty}

-- what is known of it
pub record IsLong (front : List ℕ) (byte to_skip : ℕ) : Type 0 where
  pub long : 7 < told_size front
  pub left : to_skip + length front ≡ told_size front
  pub size : told_size (front ++ byte ∷ []) ≡ told_size front
  pub says : spelled_command (front ++ byte ∷ []) ≡ Skipped
  pub length_is : length (front ++ byte ∷ []) ≡ length front + 1

is_long : (front : List ℕ) (byte to_skip : ℕ) → 0 < to_skip → to_skip ≡ to_come front → length front < told_size front → IsLong front byte to_skip
is_long front byte to_skip some is unfinished =
    let long : 7 < told_size front = grind (arith, nat_tests) in
    let left : to_skip ≡ told_size front - length front = grind (arith, nat_tests) in
    let over = passed_over front byte long in
    record {
      long = long;
      left = omega arith;
      size = over.size;
      says = over.says;
      length_is = length-append front (byte ∷ []);
    }

-- the byte completes it where it is the last one
pub skipped_says : (front : List ℕ) (byte to_skip : ℕ) → 0 < to_skip → to_skip ≡ to_come front → length front < told_size front
    → then_some (to_skip - 1 == 0) Skipped ≡ completed front byte
skipped_says front byte to_skip some is unfinished =
    let known = is_long front byte to_skip some is unfinished in
    rw (known.size, known.says, known.length_is) (grind (arith, nat_tests, known.left))

-- and what is kept after it
pub record IsKeptBehind (front after : List ℕ) (to_skip : ℕ) : Type 0 where
  pub bytes : kept_of front ≡ kept_of after
  pub to_skip_is : to_skip ≡ to_come after
  pub unfinished : length after < told_size after

pub skipped_leads : (front : List ℕ) (byte to_skip : ℕ) → 0 < to_skip → to_skip ≡ to_come front → length front < told_size front
    → IsKeptBehind front (open_after front byte) (to_skip - 1)
skipped_leads front byte to_skip some is unfinished =
    by_test (is_whole (front ++ byte ∷ [])) refl (is_long front byte to_skip some is unfinished) where
      by_test : (t : Bool) → is_whole (front ++ byte ∷ []) ≡ t → IsLong front byte to_skip
          → IsKeptBehind front (if t then [] else front ++ byte ∷ []) (to_skip - 1)
      by_test true whole known =
          let told = known.size in let count = known.length_is in let left = known.left in let long = known.long in
          let one = told_size_empty in
          let last : told_size (front ++ byte ∷ []) ≤ length (front ++ byte ∷ []) = grind (arith, nat_tests) in
          let done : to_skip - 1 ≡ 0 = omega arith in
          record {
            bytes = rw one (grind (arith, nat_tests));
            to_skip_is = rw (one, done) refl;
            unfinished = rw one (omega arith);
          }
      by_test false whole known =
          let told = known.size in let count = known.length_is in let left = known.left in let long = known.long in
          let more : length (front ++ byte ∷ []) < told_size (front ++ byte ∷ []) = grind (arith, nat_tests) in
          let short : nat_le (told_size front) 7 ≡ false = grind (arith, nat_tests) in
          record {
            bytes = rw (told, short) refl;
            to_skip_is = rw (told, short) (omega arith);
            unfinished = more;
          }
