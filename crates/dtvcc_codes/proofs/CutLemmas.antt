-- The cut of bytes into commands: there is one, and what is read byte after byte comes to it.
use Rattle.std.proofs.Common.{◌≡◌, ℕ, suc, ◌+◌, ◌-◌, ◌<◌, ◌≤◌, ◌==◌, nat_le, Bool, true, false, if◌then◌else◌, List, [], ◌∷◌, ◌++◌, length, Option, Some, None, refl, sym, ap, subst, ◌∙◌, length-append, append_assoc, append-nil, arith}
use Rattle.std.specs.List.{All}
use Rattle.std.specs.Prelude.{replicate}
use Rattle.std.proofs.lemmas.Bool.Decides.{nat_tests}
use Rattle.std.proofs.lemmas.List.{length-replicate}
use Rattle.std.proofs.lemmas.List.Elements.{All-append, All-cons, All-nil, All-head, All-tail, All-replicate}
use Rattle.cc_base.specs.Feeding.{Verdict, place_by}
use Rattle.cc_base.specs.Steps.{AreAccepted, IsTaken, front_from}
use Rattle.cc_base.specs.Syntax.{AllTaken, open_behind, parts_from, parts_of, read_under}
use Rattle.cc_base.proofs.SyntaxLemmas.{reading-accepted}
use Rattle.dtvcc_codes.specs.declared.commands.Command.{Command}
use Rattle.dtvcc_codes.specs.CodeTables.{is_counted}
use Rattle.dtvcc_codes.specs.Cut.{IsCut, IsUnfinished}
use Rattle.dtvcc_codes.specs.Reading.{command_step, command_syntax, completed, completions, is_whole, open_after, spelled_command, told_size}
use Rattle.dtvcc_codes.specs.Spelling.{Spells}
use Rattle.dtvcc_codes.proofs.SizeLemmas.{extended_size-counted, extended_size-row, from_test, told_size-base, told_size-ext1, told_size-fixed, told_size-grows, told_size-some, told_size_empty}
use Rattle.dtvcc_codes.proofs.SpellingLemmas.{IsByte, spelled_is_finished, spelled_is_whole, spelled_one_way, whole_is_spelled}

-- the front of a spelling tells more bytes than it has
pub told_of_front : (command : Command) (bytes more : List ℕ) → Spells command (bytes ++ more) → 0 < length more → length bytes < told_size bytes
told_of_front command bytes more spells some = by_test (nat_le (told_size bytes) (length bytes)) refl where
  by_test : (t : Bool) → nat_le (told_size bytes) (length bytes) ≡ t → length bytes < told_size bytes
  by_test true is =
      let all : told_size bytes ≤ length bytes = grind (arith, nat_tests) in
      absurd (omega (arith, told_size-fixed bytes more all, (spelled_is_whole command (bytes ++ more) spells).size, length-append bytes more))
  by_test false is = grind (arith, nat_tests)

-- bytes that tell more than they are begin a spelling: what makes them whole
filled : (bytes more : List ℕ) → All IsByte bytes → All IsByte more → 0 < length more → told_size (bytes ++ more) ≡ length (bytes ++ more) → IsUnfinished bytes
filled bytes more are others some size = record {
  command = spelled_command (bytes ++ more);
  more = more;
  some = some;
  spells = whole_is_spelled (bytes ++ more) (All-append IsByte bytes more are others) size;
}

-- this many zeros
zeros : (n : ℕ) → All IsByte (replicate n 0)
zeros n = All-replicate IsByte n 0 (omega arith)

-- where more bytes tell nothing else
filled_by_zeros : (bytes : List ℕ) → All IsByte bytes → length bytes < told_size bytes
    → ((more : List ℕ) → told_size (bytes ++ more) ≡ told_size bytes) → IsUnfinished bytes
filled_by_zeros bytes are few told =
    let n : ℕ = told_size bytes - length bytes in
    let more : List ℕ = replicate n 0 in
    let count : length more ≡ n = length-replicate n 0 in
    filled bytes more are (zeros n) (omega (arith, count)) (told more ∙ (omega (arith, count, length-append bytes more)))

unfinished_ext1 : (rest : List ℕ) → All IsByte (16 ∷ rest) → length (16 ∷ rest) < told_size (16 ∷ rest) → IsUnfinished (16 ∷ rest)
unfinished_ext1 [] are few =
    filled (16 ∷ []) (0 ∷ []) are (All-cons IsByte 0 [] (omega arith) (All-nil IsByte)) (omega arith) (told_size-ext1 16 (0 ∷ []) refl)
unfinished_ext1 (code ∷ []) are few = by_test (is_counted code) refl where
  by_test : (t : Bool) → is_counted code ≡ t → IsUnfinished (16 ∷ code ∷ [])
  by_test true is =
      filled (16 ∷ code ∷ []) (0 ∷ []) are (All-cons IsByte 0 [] (omega arith) (All-nil IsByte)) (omega arith)
      (told_size-ext1 16 (code ∷ 0 ∷ []) refl ∙ ap (λ n. 1 + n) (extended_size-counted code 0 [] is))
  by_test false is =
      filled_by_zeros (16 ∷ code ∷ []) are few
      (λ more. told_size-ext1 16 (code ∷ more) refl ∙ ap (λ n. 1 + n) (extended_size-row code more is ∙ sym (extended_size-row code [] is)) ∙ sym (told_size-ext1 16 (code ∷ []) refl))
unfinished_ext1 (code ∷ count ∷ rest) are few =
    filled_by_zeros (16 ∷ code ∷ count ∷ rest) are few
    (λ more. told_size-ext1 16 (code ∷ count ∷ (rest ++ more)) refl ∙ sym (told_size-ext1 16 (code ∷ count ∷ rest) refl))

pub unfinished_is : (bytes : List ℕ) → All IsByte bytes → length bytes < told_size bytes → IsUnfinished bytes
unfinished_is [] are few =
    filled [] (0 ∷ []) are (All-cons IsByte 0 [] (omega arith) (All-nil IsByte)) (omega arith) (told_size-base 0 [] refl)
unfinished_is (code ∷ rest) are few = by_test (code == 16) refl where
  by_test : (t : Bool) → (code == 16) ≡ t → IsUnfinished (code ∷ rest)
  by_test true is =
      let same = from_test code is in
      subst (λ c. IsUnfinished (c ∷ rest)) (sym same)
      (unfinished_ext1 rest (subst (λ c. All IsByte (c ∷ rest)) same are) (subst (λ c. length (c ∷ rest) < told_size (c ∷ rest)) same few))
  by_test false is =
      filled_by_zeros (code ∷ rest) are few (λ more. told_size-base code (rest ++ more) is ∙ sym (told_size-base code rest is))

-- open bytes: bytes of a command that isn't whole
pub record IsOpen (front : List ℕ) : Type 0 where
  pub are : All IsByte front
  pub few : length front < told_size front

nothing_is_open : IsOpen []
nothing_is_open = record { are = All-nil IsByte; few = omega (arith, told_size_empty) }

-- a byte after open bytes: it makes them whole, with just as many as they tell, or they stay open
whole_size : (front : List ℕ) (byte : ℕ) → IsOpen front → is_whole (front ++ byte ∷ []) ≡ true → told_size (front ++ byte ∷ []) ≡ length (front ++ byte ∷ [])
whole_size front byte is whole =
    let few = is.few in
    let all : told_size (front ++ byte ∷ []) ≤ length (front ++ byte ∷ []) = grind (arith, nat_tests) in
    omega (arith, all, few, told_size-grows front byte, length-append front (byte ∷ []))

more_bytes : (front : List ℕ) (byte : ℕ) → All IsByte front → byte < 256 → All IsByte (front ++ byte ∷ [])
more_bytes front byte are is = All-append IsByte front (byte ∷ []) are (All-cons IsByte byte [] is (All-nil IsByte))

whole_spells : (front : List ℕ) (byte : ℕ) → IsOpen front → byte < 256 → is_whole (front ++ byte ∷ []) ≡ true
    → Spells (spelled_command (front ++ byte ∷ [])) (front ++ byte ∷ [])
whole_spells front byte is fits whole =
    whole_is_spelled (front ++ byte ∷ []) (more_bytes front byte is.are fits) (whole_size front byte is whole)

stays_open : (front : List ℕ) (byte : ℕ) → IsOpen front → byte < 256 → is_whole (front ++ byte ∷ []) ≡ false → IsOpen (front ++ byte ∷ [])
stays_open front byte is fits whole = record { are = more_bytes front byte is.are fits; few = grind (arith, nat_tests) }

open_after-is : (front : List ℕ) (byte : ℕ) → IsOpen front → byte < 256 → IsOpen (open_after front byte)
open_after-is front byte is fits = by_test (is_whole (front ++ byte ∷ [])) refl where
  by_test : (t : Bool) → is_whole (front ++ byte ∷ []) ≡ t → IsOpen (if t then [] else front ++ byte ∷ [])
  by_test true whole = nothing_is_open
  by_test false whole = stays_open front byte is fits whole

open_from-is : (front bytes : List ℕ) → IsOpen front → All IsByte bytes → IsOpen (front_from open_after front bytes)
open_from-is front [] is are = is
open_from-is front (byte ∷ bytes) is are =
    open_from-is (open_after front byte) bytes (open_after-is front byte is (All-head IsByte byte bytes are)) (All-tail IsByte byte bytes are)

pub open_behind-is : (bytes : List ℕ) → All IsByte bytes → IsOpen (open_behind command_syntax bytes)
open_behind-is bytes are = open_from-is [] bytes nothing_is_open are

-- open bytes, and the bytes after them, are cut into what these complete
pub cut_from : (front bytes : List ℕ) → IsOpen front → All IsByte bytes
    → IsCut (parts_from command_syntax front bytes) (front_from open_after front bytes) (front ++ bytes)
cut_from front [] is are = (append-nil front, unfinished_is front is.are is.few)
cut_from front (byte ∷ bytes) is are =
    by_test (is_whole (front ++ byte ∷ [])) refl (cut_from [] bytes nothing_is_open rest) (λ whole. cut_from (front ++ byte ∷ []) bytes (stays_open front byte is fits whole) rest) where
      fits : byte < 256
      fits = All-head IsByte byte bytes are

      rest : All IsByte bytes
      rest = All-tail IsByte byte bytes are

      joined : front ++ byte ∷ bytes ≡ (front ++ byte ∷ []) ++ bytes
      joined = sym (append_assoc front (byte ∷ []) bytes)

      by_test : (t : Bool) → is_whole (front ++ byte ∷ []) ≡ t
          → IsCut (parts_from command_syntax [] bytes) (front_from open_after [] bytes) bytes
          → (is_whole (front ++ byte ∷ []) ≡ false → IsCut (parts_from command_syntax (front ++ byte ∷ []) bytes) (front_from open_after (front ++ byte ∷ []) bytes) ((front ++ byte ∷ []) ++ bytes))
          → IsCut (parts_from command_syntax front (byte ∷ bytes)) (front_from open_after front (byte ∷ bytes)) (front ++ byte ∷ bytes)
      by_test true whole others next = rw whole (front ++ byte ∷ [], bytes, joined, whole_spells front byte is fits whole, others)
      by_test false whole others next = rw whole (subst (λ xs. IsCut (parts_from command_syntax (front ++ byte ∷ []) bytes) (front_from open_after (front ++ byte ∷ []) bytes) xs) (sym joined) (next whole))

pub bytes_are_cut : (bytes : List ℕ) → All IsByte bytes → IsCut (parts_of command_syntax bytes) (open_behind command_syntax bytes) bytes
bytes_are_cut bytes are = cut_from [] bytes nothing_is_open are

-- no byte is refused
none_refused : (front bytes : List ℕ) → AllTaken command_syntax front bytes
none_refused front [] = tt
none_refused front (byte ∷ bytes) = (step_is_taken (completed front byte), none_refused (open_after front byte) bytes) where
  step_is_taken : (completes : Option Command) → IsTaken (command_step completes)
  step_is_taken None = tt
  step_is_taken (Some command) = tt

-- and what a layer takes is handed to it
pub cut_is_handed : (verdict : Verdict Command) (bytes : List ℕ) → AreAccepted verdict [] (parts_of command_syntax bytes)
    → read_under command_syntax 1 verdict bytes ≡ record { parts = parts_of command_syntax bytes; refusal = None }
cut_is_handed verdict bytes accepted = reading-accepted command_syntax verdict (place_by 1) [] [] bytes (none_refused [] bytes) accepted

-- a cut is the only one
pub cut_one_way : (commands others : List Command) (rest after bytes : List ℕ) → IsCut commands rest bytes → IsCut others after bytes
    → (commands ≡ others) × (rest ≡ after)
cut_one_way [] [] rest after bytes (is, unfinished) (same, begins) = (refl, sym is ∙ same)
cut_one_way [] (other ∷ others) rest after bytes (is, unfinished) (spelling, more, same, spells, cut) =
    absurd (spelled_is_finished other spelling more spells (subst IsUnfinished (sym is ∙ same) unfinished))
cut_one_way (command ∷ commands) [] rest after bytes (spelling, more, same, spells, cut) (is, unfinished) =
    absurd (spelled_is_finished command spelling more spells (subst IsUnfinished (sym is ∙ same) unfinished))
cut_one_way (command ∷ commands) (other ∷ others) rest after bytes (front, more, is, spells, cut) (back, others_bytes, same, says, cuts) =
    let (commands_are, _, bytes_are) = spelled_one_way command other front back more others_bytes spells says (sym is ∙ same) in
    let (rests, ends) = cut_one_way commands others rest after more cut (subst (λ xs. IsCut others after xs) (sym bytes_are) cuts) in
    (cons_is commands_are rests, ends) where
      cons_is : command ≡ other → commands ≡ others → command ∷ commands ≡ other ∷ others
      cons_is first more_are = cc

-- a byte completes a command after open bytes exactly where they and it spell it
pub completed_is_spelled : (front : List ℕ) (byte : ℕ) (command : Command) → IsOpen front → byte < 256 → completed front byte ≡ Some command
    → Spells command (front ++ byte ∷ [])
completed_is_spelled front byte command is fits says = by_test (is_whole (front ++ byte ∷ [])) refl says where
  by_test : (t : Bool) → is_whole (front ++ byte ∷ []) ≡ t → (if t then Some (spelled_command (front ++ byte ∷ [])) else None) ≡ Some command
      → Spells command (front ++ byte ∷ [])
  by_test true whole is_command =
      let same : spelled_command (front ++ byte ∷ []) ≡ command = cc in
      subst (λ c. Spells c (front ++ byte ∷ [])) same (whole_spells front byte is fits whole)
  by_test false whole is_command = absurd cc

spelled_test : (command : Command) (bytes : List ℕ) → Spells command bytes → is_whole bytes ≡ true
spelled_test command bytes spells = let size = (spelled_is_whole command bytes spells).size in rw size (grind (arith, nat_tests))

pub spelled_is_completed : (front : List ℕ) (byte : ℕ) (command : Command) → Spells command (front ++ byte ∷ []) → completed front byte ≡ Some command
spelled_is_completed front byte command spells =
    rw (spelled_test command (front ++ byte ∷ []) spells) (ap Some (spelled_is_whole command (front ++ byte ∷ []) spells).says)

spelled_ends : (front : List ℕ) (byte : ℕ) (command : Command) → Spells command (front ++ byte ∷ []) → open_after front byte ≡ []
spelled_ends front byte command spells = rw (spelled_test command (front ++ byte ∷ []) spells) refl

-- within a spelling nothing is completed
begun_test : (command : Command) (bytes more : List ℕ) → Spells command (bytes ++ more) → 0 < length more → is_whole bytes ≡ false
begun_test command bytes more spells some = let few = told_of_front command bytes more spells some in grind (arith, nat_tests)

-- one None more
more_nones : (m n : ℕ) → n ≡ suc m → (xs : List (Option Command)) → replicate n None ++ xs ≡ None ∷ (replicate m None ++ xs)
more_nones m n is xs = ap (λ k. replicate {A = Option Command} k None ++ xs) is

-- what the rest of a spelling completes, after its front
pub record CompletesAtEnd (command : Command) (front more : List ℕ) : Type 0 where
  pub completions_are : completions front more ≡ replicate (length more - 1) None ++ Some command ∷ []
  pub ends : front_from open_after front more ≡ []

pub completes_at_end : (command : Command) (front more : List ℕ) → Spells command (front ++ more) → 0 < length more → CompletesAtEnd command front more
completes_at_end command front [] spells some = absurd (omega arith)
completes_at_end command front (byte ∷ []) spells some = record {
  completions_are = rw (spelled_is_completed front byte command spells) refl;
  ends = spelled_ends front byte command spells;
}
completes_at_end command front (byte ∷ next ∷ more) spells some =
    with_rest (completes_at_end command (front ++ byte ∷ []) (next ∷ more) spelled (omega arith)) where
      spelled : Spells command ((front ++ byte ∷ []) ++ next ∷ more)
      spelled = subst (λ xs. Spells command xs) (sym (append_assoc front (byte ∷ []) (next ∷ more))) spells

      begun : is_whole (front ++ byte ∷ []) ≡ false
      begun = begun_test command (front ++ byte ∷ []) (next ∷ more) spelled (omega arith)

      with_rest : CompletesAtEnd command (front ++ byte ∷ []) (next ∷ more) → CompletesAtEnd command front (byte ∷ next ∷ more)
      with_rest rest = record {
        completions_are = rw begun (ap (λ xs. None ∷ xs) rest.completions_are
            ∙ sym (more_nones (length (next ∷ more) - 1) (length (byte ∷ next ∷ more) - 1) (omega arith) (Some command ∷ [])));
        ends = rw begun rest.ends;
      }

pub spelling_completes : (command : Command) (bytes : List ℕ) → Spells command bytes → CompletesAtEnd command [] bytes
spelling_completes command bytes spells =
    completes_at_end command [] bytes spells (omega (arith, (spelled_is_whole command bytes spells).size, told_size-some bytes))
