-- No block is open after bytes of a packet exactly where these are whole blocks.
use Rattle.std.proofs.Common.{◌≡◌, ◌≢◌, ℕ, ◌+◌, ◌<◌, ◌≤◌, ◌==◌, ◌&&◌, not, nat_le, if◌then◌else◌, Bool, true, false, List, [], ◌∷◌, ◌++◌, length, refl, ap, sym, subst, ◌∙◌, arith, append_assoc, length-append}
use Rattle.std.proofs.lemmas.Bool.Decides.{nat_tests}
use Rattle.std.specs.List.{flat_map, list_all}
use Rattle.cc_base.specs.Steps.{front_from}
use Rattle.cc_base.proofs.StepLemmas.{front_from-append}
use Rattle.service_blocks.specs.Reading.{block_after, open_block}
use Rattle.service_blocks.specs.ServiceBlocks.{Block, rest_of}
use Rattle.services_files.specs.Overruns.{block_bytes, is_whole_block}

-- the block that is open after bytes
abbrev pub block_from : List ℕ → List ℕ → List ℕ
block_from block bytes = front_from block_after block bytes

-- bytes are whole blocks
pub record AreWhole (bytes : List ℕ) : Type 0 where
  pub blocks : List Block
  pub whole : list_all is_whole_block blocks ≡ true
  pub spelled : bytes ≡ flat_map block_bytes blocks

-- an open block that can become whole
abbrev IsBegun : List ℕ → Type 0
IsBegun [] = Unit {0}
IsBegun (header ∷ done) = (header ≢ 0) × (length done < rest_of header)

-- tests
both_true : (b c : Bool) → (b && c) ≡ true → (b ≡ true) × (c ≡ true)
both_true true c both = (refl, both)
both_true false c both = absurd cc

true_both : (b c : Bool) → b ≡ true → c ≡ true → (b && c) ≡ true
true_both true c one two = two
true_both false c one two = absurd cc

not_true : (b : Bool) → not b ≡ true → b ≡ false
not_true true is = absurd cc
not_true false is = refl

test_other : (a b : ℕ) → a ≢ b → (a == b) ≡ false
test_other a b other = grind (arith, nat_tests)

test_same : (a b : ℕ) → a ≡ b → (a == b) ≡ true
test_same a b same = grind (arith, nat_tests)

tested_other : (a b : ℕ) → (a == b) ≡ false → a ≢ b
tested_other a b test same = let wrong : true ≡ false = sym (test_same a b same) ∙ test in absurd cc

tested_same : (a b : ℕ) → (a == b) ≡ true → a ≡ b
tested_same a b test = grind (arith, nat_tests)

-- a header 00 ends the blocks
zero_stays : (header : ℕ) (rest bytes : List ℕ) → header ≡ 0 → block_from (header ∷ rest) bytes ≡ [] → ⊥
zero_stays header rest [] zero none = cc
zero_stays header rest (byte ∷ bytes) zero none =
    zero_stays header [] bytes zero
    (ap (λ (t : Bool). block_from (if t then header ∷ [] else open_block header (rest ++ byte ∷ [])) bytes) (sym (test_same header 0 zero)) ∙ none)

-- the block after its header and these bytes, whole or open
opened : (header : ℕ) (done bytes : List ℕ) → header ≢ 0 → length done ≤ rest_of header
    → ((block : List ℕ) → IsBegun block → block_from block bytes ≡ [] → AreWhole (block ++ bytes))
    → block_from (open_block header done) bytes ≡ [] → AreWhole (header ∷ (done ++ bytes))
opened header done bytes some fits others none =
    let cases : (b : Bool) → nat_le (rest_of header) (length done) ≡ b → block_from (if b then [] else header ∷ done) bytes ≡ []
    → AreWhole (header ∷ (done ++ bytes)) = elim [
      | true ↦ λ is closed.
          let many : length done ≡ rest_of header = grind (arith, nat_tests) in
          let block : Block = record { header = header; rest = done } in
          let rest = others [] tt closed in record {
            blocks = block ∷ rest.blocks;
            whole = true_both (is_whole_block block) (list_all is_whole_block rest.blocks)
                (true_both (not (header == 0)) (length done == rest_of header) (ap not (test_other header 0 some)) (test_same (length done) (rest_of header) many)) rest.whole;
            spelled = ap (λ bs. header ∷ (done ++ bs)) rest.spelled;
          }
      | false ↦ λ is closed.
          let few : length done < rest_of header = grind (arith, nat_tests) in
          others (header ∷ done) (some, few) closed
    ] in cases _ refl none

pub wholes : (bytes block : List ℕ) → IsBegun block → block_from block bytes ≡ [] → AreWhole (block ++ bytes)
wholes [] [] begun none = record { blocks = []; whole = refl; spelled = refl }
wholes [] (header ∷ done) begun none = absurd cc
wholes (byte ∷ bytes) [] begun none =
    let cases : (b : Bool) → (byte == 0) ≡ b → block_from (if b then byte ∷ [] else open_block byte []) bytes ≡ [] → AreWhole (byte ∷ bytes) = elim [
      | true ↦ λ is closed. absurd (zero_stays byte [] bytes (tested_same byte 0 is) closed)
      | false ↦ λ is closed. opened byte [] bytes (tested_other byte 0 is) (omega arith) (wholes bytes) closed
    ] in cases _ refl none
wholes (byte ∷ bytes) (header ∷ done) (some, few) none =
    let closed = ap (λ (t : Bool). block_from (if t then header ∷ [] else open_block header (done ++ byte ∷ [])) bytes) (sym (test_other header 0 some)) ∙ none in
    subst (λ bs. AreWhole (header ∷ bs)) (append_assoc done (byte ∷ []) bytes)
    (opened header (done ++ byte ∷ []) bytes some (omega (arith, few, length-append done (byte ∷ []))) (wholes bytes) closed)

-- a block after its header and these bytes closes with the others that it says
closing : (header : ℕ) (done rest : List ℕ) → header ≢ 0 → length done + length rest ≡ rest_of header → block_from (open_block header done) rest ≡ []
closing header done [] some many =
    let ends : nat_le (rest_of header) (length done) ≡ true = grind (arith, nat_tests) in
    ap (λ (t : Bool). if t then [] else header ∷ done) ends
closing header done (byte ∷ rest) some many =
    let goes : nat_le (rest_of header) (length done) ≡ false = grind (arith, nat_tests) in
    ap (λ (t : Bool). block_from (if t then [] else header ∷ done) (byte ∷ rest)) goes
    ∙ ap (λ (t : Bool). block_from (if t then header ∷ [] else open_block header (done ++ byte ∷ [])) rest) (test_other header 0 some)
    ∙ closing header (done ++ byte ∷ []) rest some (omega (arith, many, length-append done (byte ∷ [])))

pub whole_closes : (blocks : List Block) → list_all is_whole_block blocks ≡ true → block_from [] (flat_map block_bytes blocks) ≡ []
whole_closes [] all = refl
whole_closes (block ∷ blocks) all =
    let (one, others) = both_true (is_whole_block block) (list_all is_whole_block blocks) all in
    let (some_test, many_test) = both_true (not (block.header == 0)) (length block.rest == rest_of block.header) one in
    let some = tested_other block.header 0 (not_true (block.header == 0) some_test) in
    let many = tested_same (length block.rest) (rest_of block.header) many_test in
    let rest = flat_map block_bytes blocks in
    ap (λ (t : Bool). block_from (if t then block.header ∷ [] else open_block block.header []) (block.rest ++ rest)) (test_other block.header 0 some)
    ∙ front_from-append block_after (open_block block.header []) block.rest rest
    ∙ ap (λ b. block_from b rest) (closing block.header [] block.rest some (omega (arith, many)))
    ∙ whole_closes blocks others
