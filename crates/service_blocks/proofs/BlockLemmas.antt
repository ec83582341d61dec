-- The bytes of a packet are its blocks: what is read of them is what the blocks say.
use Rattle.std.proofs.Common.{◌≡◌, ◌≢◌, ℕ, zero, suc, ◌+◌, ◌-◌, ◌/◌, ◌<◌, ◌≤◌, ◌==◌, nat_le, if◌then◌else◌, Bool, true, false, List, [], ◌∷◌, ◌++◌, length, take, drop, Option, Some, None, refl, ap, sym, subst, ◌∙◌, arith, append_assoc, append-nil, length-append}
use Rattle.std.proofs.lemmas.Bool.Decides.{nat_tests}
use Rattle.std.proofs.lemmas.List.{length-take-le, take-append-drop}
use Rattle.std.specs.List.{flat_map}
use Rattle.cc_base.specs.declared.step.Step.{Step}
use Rattle.cc_base.specs.declared.step.Step.TheVariants.{Nothing, Refuse}
use Rattle.cc_base.specs.declared.why.Why.TheVariants as why
use Rattle.cc_base.specs.Steps.{IsTaken, step_parts}
use Rattle.cc_base.specs.Syntax.{AllTaken, Reads}
use Rattle.cc_base.proofs.SyntaxLemmas.{AllTaken-split, Reads-append, Reads-item, Reads-nothing}
use Rattle.channel_packets.specs.declared.parts.PacketPart.TheVariants.{Byte}
use Rattle.channel_packets.specs.PacketParts.{byte_parts}
use Rattle.service_blocks.specs.declared.parts.BlockPart.{BlockPart}
use Rattle.service_blocks.specs.ServiceBlocks.{AreBlocks, Block, IsHeader, cut, end, ended, is_extended, rest_of, whole}
use Rattle.service_blocks.specs.BlockParts.{block_parts, extended_parts, extended_service, service_parts, standard_service}
use Rattle.service_blocks.specs.Reading.{Open, block_after, block_syntax, judge_byte, judge_extended, judge_part, judge_service, open_after, open_block}

-- where this many bytes of the packet are left, and this block is open
abbrev pub at : ℕ → List ℕ → Open
at room block = record { left = Some room; block = block }

-- tests
same_test : (a b : ℕ) → a ≡ b → (a == b) ≡ true
same_test a b is = grind (arith, nat_tests)

other_test : (a b : ℕ) → a ≢ b → (a == b) ≡ false
other_test a b is = grind (arith, nat_tests)

le_test : (a b : ℕ) → a ≤ b → nat_le a b ≡ true
le_test a b is = grind (arith, nat_tests)

lt_test : (a b : ℕ) → b < a → nat_le a b ≡ false
lt_test a b is = grind (arith, nat_tests)

le_tested : (a b : ℕ) → nat_le a b ≡ true → a ≤ b
le_tested a b is = grind (arith, nat_tests)

-- the next byte of a packet
judge-next : (room : ℕ) (block : List ℕ) (byte : ℕ) → 0 < room → judge_part (at room block) (Byte byte (room - 1)) ≡ judge_byte block (room - 1) byte
judge-next room block byte some =
    ap (λ (t : Bool). let s : Step BlockPart = if t then judge_byte block (room - 1) byte else Nothing in s) (same_test room (room - 1 + 1) (omega arith))

after-next : (room : ℕ) (block : List ℕ) (byte : ℕ) → 0 < room → open_after (at room block) (Byte byte (room - 1)) ≡ at (room - 1) (block_after block byte)
after-next room block byte some =
    ap (λ (t : Bool). if t then at (room - 1) (block_after block byte) else at room block) (same_test room (room - 1 + 1) (omega arith))

-- a header
judge-header : (room header : ℕ) → IsHeader room header → judge_byte [] (room - 1) header ≡ Nothing
judge-header room header is =
    let fits = is.fits in
    ap (λ (t : Bool). let s : Step BlockPart = if t then Nothing else Refuse why.Overrun in s) (le_test (rest_of header) (room - 1) (omega arith))

after-header : (header : ℕ) → header ≢ 0 → block_after [] header ≡ open_block header []
after-header header some = ap (λ (t : Bool). if t then header ∷ [] else open_block header []) (other_test header 0 some)

-- what is made of a byte after a header and others
abbrev pub judge_inside : ℕ → List ℕ → ℕ → Step BlockPart
judge_inside header rest byte = if is_extended header then judge_extended rest byte else judge_service (standard_service (header / 32)) byte

judge-inside : (header : ℕ) (rest : List ℕ) (left byte : ℕ) → header ≢ 0 → judge_byte (header ∷ rest) left byte ≡ judge_inside header rest byte
judge-inside header rest left byte some =
    ap (λ (t : Bool). let s : Step BlockPart = if t then Nothing else judge_inside header rest byte in s) (other_test header 0 some)

after-inside : (header : ℕ) (rest : List ℕ) (byte : ℕ) → header ≢ 0 → block_after (header ∷ rest) byte ≡ open_block header (rest ++ byte ∷ [])
after-inside header rest byte some = ap (λ (t : Bool). if t then header ∷ [] else open_block header (rest ++ byte ∷ [])) (other_test header 0 some)

-- a block that isn't whole is open
open_block-some : (header : ℕ) (rest : List ℕ) → length rest < rest_of header → open_block header rest ≡ header ∷ rest
open_block-some header rest few = ap (λ (t : Bool). if t then [] else header ∷ rest) (lt_test (rest_of header) (length rest) few)

open_block-whole : (header : ℕ) (rest : List ℕ) → length rest ≡ rest_of header → open_block header rest ≡ []
open_block-whole header rest many = ap (λ (t : Bool). if t then [] else header ∷ rest) (le_test (rest_of header) (length rest) (omega arith))

-- the parts of a byte are its step's
service_step : (service : Option ℕ) (byte : ℕ) (bytes : List ℕ) → step_parts (judge_service service byte) ++ service_parts service bytes ≡ service_parts service (byte ∷ bytes)
service_step None byte bytes = refl
service_step (Some service) byte bytes = refl

service_none : (service : Option ℕ) → service_parts service [] ≡ []
service_none None = refl
service_none (Some service) = refl

-- the parts of bytes that follow a header and these ones
abbrev pub parts_inside : ℕ → List ℕ → List ℕ → List BlockPart
parts_inside header done [] = []
parts_inside header done (byte ∷ bytes) = step_parts (judge_inside header done byte) ++ parts_inside header (done ++ byte ∷ []) bytes

inside_standard : (header : ℕ) (done bytes : List ℕ) → is_extended header ≡ false
    → parts_inside header done bytes ≡ service_parts (standard_service (header / 32)) bytes
inside_standard header done [] is = sym (service_none (standard_service (header / 32)))
inside_standard header done (byte ∷ bytes) is =
    ap (λ (t : Bool). step_parts (if t then judge_extended done byte else judge_service (standard_service (header / 32)) byte) ++ parts_inside header (done ++ byte ∷ []) bytes) is
    ∙ ap (λ parts. step_parts (judge_service (standard_service (header / 32)) byte) ++ parts) (inside_standard header (done ++ byte ∷ []) bytes is)
    ∙ service_step (standard_service (header / 32)) byte bytes

inside_extended : (header second : ℕ) (done bytes : List ℕ) → is_extended header ≡ true
    → parts_inside header (second ∷ done) bytes ≡ service_parts (extended_service second) bytes
inside_extended header second done [] is = sym (service_none (extended_service second))
inside_extended header second done (byte ∷ bytes) is =
    ap (λ (t : Bool). step_parts (if t then judge_service (extended_service second) byte else judge_service (standard_service (header / 32)) byte)
    ++ parts_inside header (second ∷ (done ++ byte ∷ [])) bytes) is
    ∙ ap (λ parts. step_parts (judge_service (extended_service second) byte) ++ parts) (inside_extended header second (done ++ byte ∷ []) bytes is)
    ∙ service_step (extended_service second) byte bytes

inside_block : (header : ℕ) (rest : List ℕ) → parts_inside header [] rest ≡ block_parts (record { header = header; rest = rest })
inside_block header rest =
    let cases : (b : Bool) → is_extended header ≡ b
    → parts_inside header [] rest ≡ (if b then extended_parts rest else service_parts (standard_service (header / 32)) rest) = elim [
      | true ↦ λ is. first_extended header rest is
      | false ↦ λ is. inside_standard header [] rest is
    ] in cases (is_extended header) refl
  where
    first_extended : (header : ℕ) (rest : List ℕ) → is_extended header ≡ true → parts_inside header [] rest ≡ extended_parts rest
    first_extended header [] is = refl
    first_extended header (second ∷ bytes) is =
        ap (λ (t : Bool). step_parts (if t then Nothing else judge_service (standard_service (header / 32)) second) ++ parts_inside header (second ∷ []) bytes) is
        ∙ inside_extended header second [] bytes is

-- a step inside a block isn't a refusal
service_taken : (service : Option ℕ) (byte : ℕ) → IsTaken (judge_service service byte)
service_taken None byte = tt
service_taken (Some service) byte = tt

extended_taken : (done : List ℕ) (byte : ℕ) → IsTaken (judge_extended done byte)
extended_taken [] byte = tt
extended_taken (second ∷ done) byte = service_taken (extended_service second) byte

pub IsTaken-if : (test : Bool) (one two : Step BlockPart) → IsTaken one → IsTaken two → IsTaken (if test then one else two)
IsTaken-if true one two first second = first
IsTaken-if false one two first second = second

inside_taken : (header : ℕ) (done : List ℕ) (byte : ℕ) → IsTaken (judge_inside header done byte)
inside_taken header done byte =
    IsTaken-if (is_extended header) _ _ (extended_taken done byte) (service_taken (standard_service (header / 32)) byte)

pub rest_taken : (header : ℕ) (done : List ℕ) (left byte : ℕ) → IsTaken (judge_byte (header ∷ done) left byte)
rest_taken header done left byte = IsTaken-if (header == 0) _ _ tt (inside_taken header done byte)

-- bytes after a header and others, as many as the block has at most
reads_rest : (room header : ℕ) (done rest : List ℕ) → header ≢ 0 → length done + length rest ≤ rest_of header → length rest ≤ room
    → Reads block_syntax (at room (open_block header done)) (byte_parts room rest) (parts_inside header done rest) (at (room - length rest) (open_block header (done ++ rest)))
reads_rest room header done [] some few fits =
    let same : room ≡ room - 0 = omega arith in
    subst (λ n. Reads block_syntax (at room (open_block header done)) [] [] (at n (open_block header (done ++ [])))) same
    (subst (λ bs. Reads block_syntax (at room (open_block header done)) [] [] (at room (open_block header bs))) (sym (append-nil done))
    (Reads-nothing block_syntax (at room (open_block header done))))
reads_rest room header done (byte ∷ rest) some few fits =
    let next = Byte byte (room - 1) in
    let is_open = open_block-some header done (omega arith) in
    let behind = reads_rest (room - 1) header (done ++ byte ∷ []) rest some (omega (arith, length-append done (byte ∷ []))) (omega arith) in
    let less : room - 1 - length rest ≡ room - length (byte ∷ rest) = omega arith in
    let reads = Reads-item block_syntax (at room (header ∷ done)) next (byte_parts (room - 1) rest) (judge_inside header done byte)
    (at (room - 1) (open_block header (done ++ byte ∷ []))) (parts_inside header (done ++ byte ∷ []) rest) _
    (judge-next room (header ∷ done) byte (omega arith) ∙ judge-inside header done (room - 1) byte some)
    (inside_taken header done byte)
    (after-next room (header ∷ done) byte (omega arith) ∙ ap (λ b. at (room - 1) b) (after-inside header done byte some))
    behind in
    subst (λ b. Reads block_syntax (at room b) (byte_parts room (byte ∷ rest)) (parts_inside header done (byte ∷ rest)) (at (room - length (byte ∷ rest)) (open_block header (done ++ byte ∷ rest)))) (sym is_open)
    (subst (λ n. Reads block_syntax (at room (header ∷ done)) (byte_parts room (byte ∷ rest)) (parts_inside header done (byte ∷ rest)) (at n (open_block header (done ++ byte ∷ rest)))) less
    (subst (λ bs. Reads block_syntax (at room (header ∷ done)) (byte_parts room (byte ∷ rest)) (parts_inside header done (byte ∷ rest)) (at (room - 1 - length rest) (open_block header bs))) (append_assoc done (byte ∷ []) rest) reads))

-- a block, whole or cut short
reads_block : (room header : ℕ) (rest : List ℕ) → IsHeader room header → length rest ≤ rest_of header → length (header ∷ rest) ≤ room
    → Reads block_syntax (at room []) (byte_parts room (header ∷ rest)) (block_parts (record { header = header; rest = rest }))
    (at (room - 1 - length rest) (open_block header rest))
reads_block room header rest is few fits =
    let behind = reads_rest (room - 1) header [] rest is.some (omega arith) (omega arith) in
    subst (λ parts. Reads block_syntax (at room []) (byte_parts room (header ∷ rest)) parts (at (room - 1 - length rest) (open_block header rest))) (inside_block header rest)
    (Reads-item block_syntax (at room []) (Byte header (room - 1)) (byte_parts (room - 1) rest) Nothing (at (room - 1) (open_block header [])) _ _
    (judge-next room [] header (omega arith) ∙ judge-header room header is) tt
    (after-next room [] header (omega arith) ∙ ap (λ b. at (room - 1) b) (after-header header is.some)) behind)

-- bytes after a header 00
reads_ignored : (room : ℕ) (ignored : List ℕ) → length ignored ≤ room
    → Reads block_syntax (at room (0 ∷ [])) (byte_parts room ignored) [] (at (room - length ignored) (0 ∷ []))
reads_ignored room [] fits =
    let same : room ≡ room - 0 = omega arith in
    subst (λ n. Reads block_syntax (at room (0 ∷ [])) [] [] (at n (0 ∷ []))) same (Reads-nothing block_syntax (at room (0 ∷ [])))
reads_ignored room (byte ∷ ignored) fits =
    let less : room - 1 - length ignored ≡ room - length (byte ∷ ignored) = omega arith in
    subst (λ n. Reads block_syntax (at room (0 ∷ [])) (byte_parts room (byte ∷ ignored)) [] (at n (0 ∷ []))) less
    (Reads-item block_syntax (at room (0 ∷ [])) (Byte byte (room - 1)) (byte_parts (room - 1) ignored) Nothing (at (room - 1) (0 ∷ [])) [] _
    (judge-next room (0 ∷ []) byte (omega arith)) tt (after-next room (0 ∷ []) byte (omega arith)) (reads_ignored (room - 1) ignored (omega arith)))

reads_ended : (room : ℕ) (ignored : List ℕ) → length (0 ∷ ignored) ≤ room
    → Reads block_syntax (at room []) (byte_parts room (0 ∷ ignored)) [] (at (room - 1 - length ignored) (0 ∷ []))
reads_ended room ignored fits =
    Reads-item block_syntax (at room []) (Byte 0 (room - 1)) (byte_parts (room - 1) ignored) Nothing (at (room - 1) (0 ∷ [])) [] _
    (judge-next room [] 0 (omega arith)
    ∙ ap (λ (t : Bool). let s : Step BlockPart = if t then Nothing else Refuse why.Overrun in s) (le_test (rest_of 0) (room - 1) (omega arith))) tt
    (after-next room [] 0 (omega arith)) (reads_ignored (room - 1) ignored (omega arith))

-- the parts of bytes and more bytes
pub byte_parts-append : (size : ℕ) (bytes more : List ℕ) → byte_parts size (bytes ++ more) ≡ byte_parts size bytes ++ byte_parts (size - length bytes) more
byte_parts-append size [] more = let same : size ≡ size - 0 = omega arith in ap (λ n. byte_parts n more) same
byte_parts-append size (byte ∷ bytes) more =
    let less : size - 1 - length bytes ≡ size - length (byte ∷ bytes) = omega arith in
    ap (λ parts. Byte byte (size - 1) ∷ parts) (byte_parts-append (size - 1) bytes more)
    ∙ ap (λ n. Byte byte (size - 1) ∷ (byte_parts (size - 1) bytes ++ byte_parts n more)) less

-- the bytes of a packet are read, and say this
pub record AreRead (room : ℕ) (bytes : List ℕ) (says : List BlockPart) : Type 0 where
  pub behind : Open
  pub reads : Reads block_syntax (at room []) (byte_parts room bytes) says behind

-- a whole block, and others
reads_both : (room header : ℕ) (rest bytes : List ℕ) (says : List BlockPart) → IsHeader room header → length rest ≡ rest_of header
    → length (header ∷ (rest ++ bytes)) ≤ room → AreRead (room - 1 - length rest) bytes says
    → AreRead room (header ∷ (rest ++ bytes)) (block_parts (record { header = header; rest = rest }) ++ says)
reads_both room header rest bytes says is many fits others =
    let first = subst (λ b. Reads block_syntax (at room []) (byte_parts room (header ∷ rest)) (block_parts (record { header = header; rest = rest })) (at (room - 1 - length rest) b))
    (open_block-whole header rest many)
    (reads_block room header rest is (omega arith) (omega (arith, length-append rest bytes))) in
    let less : room - length (header ∷ rest) ≡ room - 1 - length rest = omega arith in record {
      behind = others.behind;
      reads = subst (λ items. Reads block_syntax (at room []) items (block_parts (record { header = header; rest = rest }) ++ says) others.behind)
          (ap (λ n. byte_parts room (header ∷ rest) ++ byte_parts n bytes) (sym less) ∙ sym (byte_parts-append room (header ∷ rest) bytes))
          (Reads-append block_syntax (at room []) (byte_parts room (header ∷ rest)) _ (at (room - 1 - length rest) []) (byte_parts (room - 1 - length rest) bytes) says others.behind first others.reads);
    }

-- blocks are read
pub blocks_read : (room : ℕ) (blocks : List Block) (bytes : List ℕ) → AreBlocks room blocks bytes → length bytes ≤ room → AreRead room bytes (flat_map block_parts blocks)
blocks_read room blocks bytes end fits = record { behind = at room []; reads = Reads-nothing block_syntax (at room []) }
blocks_read room blocks bytes (ended {ignored = ignored}) fits = record { behind = _; reads = reads_ended room ignored fits }
blocks_read room blocks bytes (whole {block = block} {blocks = others} {bytes = more} is many are) fits =
    reads_both room block.header block.rest more (flat_map block_parts others) is many fits
    (blocks_read (room - 1 - length block.rest) others more are (omega (arith, length-append block.rest more)))
blocks_read room blocks bytes (cut {block = block} is few) fits = record {
  behind = at (room - 1 - length block.rest) (open_block block.header block.rest);
  reads = subst (λ parts. Reads block_syntax (at room []) (byte_parts room (block.header ∷ block.rest)) parts (at (room - 1 - length block.rest) (open_block block.header block.rest))) (sym (append-nil (block_parts block)))
      (reads_block room block.header block.rest is (omega arith) fits);
}

-- a refused header passes the packet
pub IsTaken-fits : (header left : ℕ) → IsTaken (judge_byte [] left header) → rest_of header ≤ left
IsTaken-fits header left taken =
    let cases : (b : Bool) → nat_le (rest_of header) left ≡ b → IsTaken {P = BlockPart} (if b then Nothing else Refuse why.Overrun) → rest_of header ≤ left = elim [
      | true ↦ λ is _. le_tested (rest_of header) left is
      | false ↦ λ is wrong. absurd wrong
    ] in cases _ refl taken

-- the bytes after the header of a whole block, and those after it, which are read
record IsAhead (room header : ℕ) (bytes : List ℕ) : Type 0 where
  rest : List ℕ
  more : List ℕ
  joined : rest ++ more ≡ bytes
  many : length rest ≡ rest_of header
  next : AllTaken block_syntax (at (room - 1 - length rest) []) (byte_parts (room - 1 - length rest) more)

whole_ahead : (room header : ℕ) (bytes : List ℕ) → IsHeader room header → rest_of header ≤ length bytes → length (header ∷ bytes) ≤ room
    → AllTaken block_syntax (at room []) (byte_parts room (header ∷ bytes)) → IsAhead room header bytes
whole_ahead room header bytes is long fits taken =
    let n = rest_of header in
    let rest = take n bytes in
    let more = drop n bytes in
    let joined : rest ++ more ≡ bytes = take-append-drop n bytes in
    let many : length rest ≡ n = length-take-le n bytes long in
    let reads = reads_block room header rest is (omega arith) (omega arith) in
    let items : byte_parts room (header ∷ bytes) ≡ byte_parts room (header ∷ rest) ++ byte_parts (room - length (header ∷ rest)) more =
    ap (λ bs. byte_parts room (header ∷ bs)) (sym joined) ∙ byte_parts-append room (header ∷ rest) more in
    let split = AllTaken-split block_syntax (at room []) (byte_parts room (header ∷ rest)) (byte_parts (room - length (header ∷ rest)) more)
    (subst (AllTaken block_syntax (at room [])) items taken) in
    let less : room - length (header ∷ rest) ≡ room - 1 - length rest = omega arith in
    let behind = reads.leads ∙ ap (λ b. at (room - 1 - length rest) b) (open_block-whole header rest many) in record {
      rest = rest;
      more = more;
      joined = joined;
      many = many;
      next = subst (λ n. AllTaken block_syntax (at (room - 1 - length rest) []) (byte_parts n more)) less
          (subst (λ f. AllTaken block_syntax f (byte_parts (room - length (header ∷ rest)) more)) behind split.1);
    }

-- the header of bytes that are read
header_ahead : (room header : ℕ) (bytes : List ℕ) → (header == 0) ≡ false → length (header ∷ bytes) ≤ room
    → AllTaken block_syntax (at room []) (byte_parts room (header ∷ bytes)) → IsHeader room header
header_ahead room header bytes is fits (first, others) =
    let some : header ≢ 0 = λ none. absurd (let wrong : true ≡ false = sym (same_test header 0 none) ∙ is in cc) in
    let taken = subst IsTaken (judge-next room [] header (omega arith)) first in
    let left = IsTaken-fits header (room - 1) taken in
    record { some = some; fits = omega arith }

-- bytes that are read are blocks
pub blocks_are : (most room : ℕ) (bytes : List ℕ) → length bytes ≤ most → length bytes ≤ room
    → AllTaken block_syntax (at room []) (byte_parts room bytes) → (blocks : List Block) × AreBlocks room blocks bytes
blocks_are most room [] few fits taken = ([], end)
blocks_are zero room (header ∷ bytes) few fits taken = absurd (omega arith)
blocks_are (suc most) room (header ∷ bytes) few fits taken =
    let cases : (b c : Bool) → (header == 0) ≡ b → nat_le (rest_of header) (length bytes) ≡ c
    → (blocks : List Block) × AreBlocks room blocks (header ∷ bytes) = λ b c. elim b as (λ b. (header == 0) ≡ b → nat_le (rest_of header) (length bytes) ≡ c
    → (blocks : List Block) × AreBlocks room blocks (header ∷ bytes)) [
      | true ↦ λ is _.
          let none : header ≡ 0 = grind (arith, nat_tests) in
          ([], subst (λ h. AreBlocks room [] (h ∷ bytes)) (sym none) ended)
      | false ↦ elim c as (λ c. (header == 0) ≡ false → nat_le (rest_of header) (length bytes) ≡ c → (blocks : List Block) × AreBlocks room blocks (header ∷ bytes)) [
        | true ↦ λ is long.
            let header_is = header_ahead room header bytes is fits taken in
            let ahead = whole_ahead room header bytes header_is (le_tested (rest_of header) (length bytes) long) fits taken in
            let lengths : length (ahead.rest ++ ahead.more) ≡ length bytes = ap length ahead.joined in
            let (blocks, are) = blocks_are most (room - 1 - length ahead.rest) ahead.more (omega (arith, length-append ahead.rest ahead.more))
            (omega (arith, length-append ahead.rest ahead.more)) ahead.next in
            let block : Block = record { header = header; rest = ahead.rest } in
            (block ∷ blocks, subst (λ bs. AreBlocks room (block ∷ blocks) (header ∷ bs)) ahead.joined (whole {block = block} header_is ahead.many are))
        | false ↦ λ is over.
            let short : length bytes < rest_of header = grind (arith, nat_tests) in
            let block : Block = record { header = header; rest = bytes } in
            (block ∷ [], cut {block = block} (header_ahead room header bytes is fits taken) short)
      ]
    ] in cases _ _ refl refl
