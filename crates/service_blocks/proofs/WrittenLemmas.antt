-- Blocks are told apart, and what is written is read back.
use Rattle.std.proofs.Common.{◌≡◌, ◌≢◌, ℕ, ◌+◌, ◌-◌, ◌*◌, ◌/◌, ◌%◌, ◌<◌, ◌≤◌, ◌==◌, ◌&&◌, ◌⊎◌, inl, inr, nat_lt, if◌then◌else◌, Bool, true, false, List, [], ◌∷◌, ◌++◌, length, map, take, drop, Some, None, refl, ap, sym, subst, ◌∙◌, arith, append-nil, length-append}
use Rattle.std.proofs.Math.Seq.{take-append_seam, drop-append_seam}
use Rattle.std.proofs.lemmas.Bool.Decides.{nat_tests}
use Rattle.service_blocks.specs.declared.parts.BlockPart.TheVariants as part
use Rattle.service_blocks.specs.ServiceBlocks.{AreBlocks, Block, cut, end, ended, is_extended, rest_of, whole}
use Rattle.service_blocks.specs.BlockParts.{block_parts, extended_parts, service_parts, standard_service}
use Rattle.service_blocks.specs.Written.{block_for, block_written}

-- what stands at the front of bytes that are blocks
abbrev pub StandsWhole : ℕ → Block → List Block → List ℕ → Type 0
StandsWhole room block blocks others = (length block.rest ≡ rest_of block.header) × AreBlocks (room - 1 - length block.rest) blocks others

abbrev pub StandsCut : Block → List Block → List ℕ → Type 0
StandsCut block blocks others = (length block.rest < rest_of block.header) × (others ≡ []) × (blocks ≡ [])

abbrev pub Stands : ℕ → List Block → List ℕ → Type 0
Stands room [] bytes = (bytes ≡ []) ⊎ ((ignored : List ℕ) × (bytes ≡ 0x00 ∷ ignored))
Stands room (block ∷ blocks) bytes =
    (others : List ℕ) × (block.header ≢ 0) × (bytes ≡ block.header ∷ (block.rest ++ others))
    × (StandsWhole room block blocks others ⊎ StandsCut block blocks others)

stands : (room : ℕ) (blocks : List Block) (bytes : List ℕ) → AreBlocks room blocks bytes → Stands room blocks bytes
stands room blocks bytes end = inl refl
stands room blocks bytes (ended {ignored = ignored}) = inr (ignored, refl)
stands room blocks bytes (whole {bytes = others} is many are) = (others, is.some, refl, inl (many, are))
stands room blocks bytes (cut {block = block} is few) =
    ([], is.some, ap (λ bs. block.header ∷ bs) (sym (append-nil block.rest)), inr (few, refl, refl))

-- lists of one length at the front of one list are the same
fronts_same : (front back rest more : List ℕ) → length front ≡ length back → front ++ rest ≡ back ++ more → (front ≡ back) × (rest ≡ more)
fronts_same front back rest more long same = (
  sym (take-append_seam front rest) ∙ ap (λ bs. take (length front) bs) same ∙ ap (λ n. take n (back ++ more)) long ∙ take-append_seam back more,
  sym (drop-append_seam front rest) ∙ ap (λ bs. drop (length front) bs) same ∙ ap (λ n. drop n (back ++ more)) long ∙ drop-append_seam back more,
)

-- a whole block at the front is the first of them
pub record IsFirst (room : ℕ) (blocks : List Block) (block : Block) (rest : List ℕ) : Type 0 where
  pub others : List Block
  pub first : blocks ≡ block ∷ others
  pub behind : AreBlocks (room - 1 - length block.rest) others rest

first_from : (room : ℕ) (blocks : List Block) (block : Block) (rest : List ℕ) → block.header ≢ 0 → length block.rest ≡ rest_of block.header
    → Stands room blocks (block.header ∷ (block.rest ++ rest)) → IsFirst room blocks block rest
first_from room [] block rest some many (inl none) = absurd cc
first_from room [] block rest some many (inr (ignored, same)) = let zero_is : block.header ≡ 0 = cc in absurd (some zero_is)
first_from room (other ∷ blocks) block rest some many (others, _, same, inl (long, are)) =
    let header : block.header ≡ other.header = cc in
    let bytes : block.rest ++ rest ≡ other.rest ++ others = cc in
    let lengths : length block.rest ≡ length other.rest = many ∙ ap rest_of header ∙ sym long in
    let (rests, behind) = fronts_same block.rest other.rest rest others lengths bytes in
    let is : other ≡ block = ap (λ h. let b : Block = record { header = h; rest = other.rest } in b) (sym header)
    ∙ ap (λ bs. let b : Block = record { header = block.header; rest = bs } in b) (sym rests) in record {
      others = blocks;
      first = ap (λ b. b ∷ blocks) is;
      behind = subst (λ bs. AreBlocks (room - 1 - length block.rest) blocks bs) (sym behind)
          (subst (λ n. AreBlocks (room - 1 - n) blocks others) (sym lengths) are);
    }
first_from room (other ∷ blocks) block rest some many (others, _, same, inr (short, none, last)) =
    let header : block.header ≡ other.header = cc in
    let bytes : block.rest ++ rest ≡ other.rest ++ others = cc in
    let sizes : rest_of block.header ≡ rest_of other.header = ap rest_of header in
    let lengths : length (block.rest ++ rest) ≡ length (other.rest ++ others) = ap length bytes in
    let nothing : length others ≡ 0 = ap length none in
    absurd (omega (arith, length-append block.rest rest, length-append other.rest others))

pub first_block : (room : ℕ) (blocks : List Block) (block : Block) (rest : List ℕ) → block.header ≢ 0 → length block.rest ≡ rest_of block.header
    → AreBlocks room blocks (block.header ∷ (block.rest ++ rest)) → IsFirst room blocks block rest
first_block room blocks block rest some many are = first_from room blocks block rest some many (stands room blocks _ are)

-- no bytes are no blocks, and neither are bytes after a header 00
none_from : (room : ℕ) (blocks : List Block) (bytes : List ℕ) → bytes ≡ [] → Stands room blocks bytes → blocks ≡ []
none_from room [] bytes none stand = refl
none_from room (block ∷ blocks) bytes none (others, _, same, _) = absurd (let wrong : [] ≡ block.header ∷ (block.rest ++ others) = sym none ∙ same in cc)

ended_from : (room : ℕ) (blocks : List Block) (ignored : List ℕ) → Stands room blocks (0 ∷ ignored) → blocks ≡ []
ended_from room [] ignored stand = refl
ended_from room (block ∷ blocks) ignored (others, some, same, _) = let zero_is : block.header ≡ 0 = cc in absurd (some zero_is)

-- a block that is cut short is the last one
cut_from : (room : ℕ) (blocks : List Block) (block : Block) → block.header ≢ 0 → length block.rest < rest_of block.header
    → Stands room blocks (block.header ∷ block.rest) → blocks ≡ block ∷ []
cut_from room [] block some few (inl none) = absurd cc
cut_from room [] block some few (inr (ignored, same)) = let zero_is : block.header ≡ 0 = cc in absurd (some zero_is)
cut_from room (other ∷ blocks) block some few (others, _, same, inl (long, are)) =
    let header : block.header ≡ other.header = cc in
    let bytes : block.rest ≡ other.rest ++ others = cc in
    let sizes : rest_of block.header ≡ rest_of other.header = ap rest_of header in
    let lengths : length block.rest ≡ length (other.rest ++ others) = ap length bytes in
    absurd (omega (arith, length-append other.rest others))
cut_from room (other ∷ blocks) block some few (others, _, same, inr (short, none, last)) =
    let header : block.header ≡ other.header = cc in
    let bytes : block.rest ≡ other.rest ++ others = cc in
    let rests : block.rest ≡ other.rest = bytes ∙ ap (λ bs. other.rest ++ bs) none ∙ append-nil other.rest in
    let is : other ≡ block = ap (λ h. let b : Block = record { header = h; rest = other.rest } in b) (sym header)
    ∙ ap (λ bs. let b : Block = record { header = block.header; rest = bs } in b) (sym rests) in
    ap (λ b. b ∷ blocks) is ∙ ap (λ bs. block ∷ bs) last

-- bytes are at most one list of blocks
pub blocks_unique : (room : ℕ) (blocks : List Block) (bytes : List ℕ) → AreBlocks room blocks bytes
    → (others : List Block) → AreBlocks room others bytes → blocks ≡ others
blocks_unique room blocks bytes end others are = sym (none_from room others [] refl (stands room others [] are))
blocks_unique room blocks bytes (ended {ignored = ignored}) others are = sym (ended_from room others ignored (stands room others (0 ∷ ignored) are))
blocks_unique room blocks bytes (whole {block = block} {blocks = rest} {bytes = more} is many more_are) others are =
    let first = first_block room others block more is.some many are in
    ap (λ bs. block ∷ bs) (blocks_unique (room - 1 - length block.rest) rest more more_are first.others first.behind) ∙ sym first.first
blocks_unique room blocks bytes (cut {block = block} is few) others are =
    sym (cut_from room others block is.some few (stands room others _ are))

-- the block of bytes of a service is whole, and says these
pub record Says (service : ℕ) (bytes : List ℕ) (block : Block) : Type 0 where
  pub some : block.header ≢ 0
  pub many : length block.rest ≡ rest_of block.header
  pub says : block_parts block ≡ map (part.Byte service) bytes

-- services 1 to 6
plain : (service size : ℕ) → service < 7 → size < 32 → is_extended (32 * service + size) ≡ false
plain service size below small =
    let number : (32 * service + size) / 32 ≡ service = omega arith in
    let not_seven : ((32 * service + size) / 32 == 7) ≡ false = grind (arith, nat_tests) in
    ap (λ (b : Bool). b && nat_lt 0 ((32 * service + size) % 32)) not_seven

Says-standard : (service : ℕ) (bytes : List ℕ) → 1 ≤ service → service < 7 → 1 ≤ length bytes → length bytes ≤ 31
    → Says service bytes (record { header = 32 * service + length bytes; rest = bytes })
Says-standard service bytes least most some few =
    let header = 32 * service + length bytes in
    let is = plain service (length bytes) most (omega arith) in
    let size : header % 32 ≡ length bytes = omega arith in
    let number : header / 32 ≡ service = omega arith in
    let not_zero : (service == 0) ≡ false = grind (arith, nat_tests) in record {
      some = λ none. absurd (omega arith);
      many = sym (ap (λ (b : Bool). if b then header % 32 + 1 else header % 32) is ∙ size);
      says = ap (λ (b : Bool). if b then extended_parts bytes else service_parts (standard_service (header / 32)) bytes) is
          ∙ ap (λ n. service_parts (standard_service n) bytes) number
          ∙ ap (λ (b : Bool). service_parts (if b then None else Some service) bytes) not_zero;
    }

-- services 7 to 63
extended : (size : ℕ) → 0 < size → size < 32 → is_extended (224 + size) ≡ true
extended size some small =
    let number : (224 + size) / 32 ≡ 7 = omega arith in
    let is_seven : ((224 + size) / 32 == 7) ≡ true = grind (arith, nat_tests) in
    let positive : nat_lt 0 ((224 + size) % 32) ≡ true = grind (arith, nat_tests) in
    ap (λ (b : Bool). b && nat_lt 0 ((224 + size) % 32)) is_seven ∙ positive

Says-extended : (service : ℕ) (bytes : List ℕ) → 7 ≤ service → service ≤ 63 → 1 ≤ length bytes → length bytes ≤ 31
    → Says service bytes (record { header = 224 + length bytes; rest = service ∷ bytes })
Says-extended service bytes least most some few =
    let header = 224 + length bytes in
    let is = extended (length bytes) (omega arith) (omega arith) in
    let size : header % 32 + 1 ≡ length (service ∷ bytes) = omega arith in
    let low : service % 64 ≡ service = omega arith in
    let not_below : nat_lt (service % 64) 7 ≡ false = grind (arith, nat_tests) in record {
      some = λ none. absurd (omega arith);
      many = sym (ap (λ (b : Bool). if b then header % 32 + 1 else header % 32) is ∙ size);
      says = ap (λ (b : Bool). if b then extended_parts (service ∷ bytes) else service_parts (standard_service (header / 32)) (service ∷ bytes)) is
          ∙ ap (λ (b : Bool). service_parts (if b then None else Some (service % 64)) bytes) not_below
          ∙ ap (λ n. service_parts (Some n) bytes) low;
    }

pub Says-block_for : (service : ℕ) (bytes : List ℕ) → 1 ≤ service → service ≤ 63 → 1 ≤ length bytes → length bytes ≤ 31
    → Says service bytes (block_for service bytes)
Says-block_for service bytes least most some few =
    let cases : (b : Bool) → nat_lt service 7 ≡ b
    → Says service bytes (if b then (record { header = 32 * service + length bytes; rest = bytes }) else (record { header = 32 * 7 + length bytes; rest = service ∷ bytes })) = elim [
      | true ↦ λ is. let below : service < 7 = grind (arith, nat_tests) in Says-standard service bytes least below some few
      | false ↦ λ is. let above : 7 ≤ service = grind (arith, nat_tests) in Says-extended service bytes above most some few
    ] in cases (nat_lt service 7) refl

-- a block that is written, before others
pub written_before : (service : ℕ) (bytes : List ℕ) (room : ℕ) (blocks : List Block) (rest : List ℕ) → 1 ≤ service → service ≤ 63
    → 1 ≤ length bytes → length bytes ≤ 31 → length (block_written service bytes) ≤ room → AreBlocks (room - length (block_written service bytes)) blocks rest
    → AreBlocks room (block_for service bytes ∷ blocks) (block_written service bytes ++ rest)
written_before service bytes room blocks rest least most some few fits are =
    let block = block_for service bytes in
    let is = Says-block_for service bytes least most some few in
    let many = is.many in
    let less : room - length (block_written service bytes) ≡ room - 1 - length block.rest = omega arith in
    whole {block = block} (record { some = is.some; fits = omega arith }) is.many (subst (λ n. AreBlocks n blocks rest) less are)

-- and read back
pub written_first : (service : ℕ) (bytes : List ℕ) (room : ℕ) (blocks : List Block) (rest : List ℕ) → 1 ≤ service → service ≤ 63
    → 1 ≤ length bytes → length bytes ≤ 31 → AreBlocks room blocks (block_written service bytes ++ rest)
    → IsFirst room blocks (block_for service bytes) rest
written_first service bytes room blocks rest least most some few are =
    let is = Says-block_for service bytes least most some few in
    first_block room blocks (block_for service bytes) rest is.some is.many are
