-- Believed in part: the program's answer stands on some of these definitions.
-- The spelling of each command: its code with the code's parameters (CTA-708-E, 7.1).
use Rattle.std.specs.Prelude.{◌≡◌, ℕ, ◌%◌, ◌<◌, true, List, ◌∷◌, All, Some, length}
use Rattle.dtvcc_codes.specs.declared.commands.Command.{Command}
use Rattle.dtvcc_codes.specs.declared.commands.Command.TheVariants.{Skipped}
use Rattle.dtvcc_codes.specs.CodeTables.{Row, base_codes, ext1, extended_codes, is_counted, row_at}

-- the bytes spell the command
pub data Spells (command : Command) (bytes : List ℕ) : Type 0 where
  -- by a code of C0, G0, C1 or G1 and its parameters
  base : (code : ℕ) (parameters : List ℕ) (row : Row) → bytes ≡ code ∷ parameters
      → row_at base_codes code ≡ Some row → length parameters ≡ row.count → command ≡ row.says code parameters
      → Spells command bytes
  -- by EXT1, a code of C2, G2, C3 or G3, and its parameters
  extended : (code : ℕ) (parameters : List ℕ) (row : Row) → bytes ≡ ext1 ∷ code ∷ parameters
      → row_at extended_codes code ≡ Some row → length parameters ≡ row.count → command ≡ row.says code parameters
      → Spells command bytes
  -- by EXT1, a code of C3 that is counted, the byte that counts, and as many bytes as its low five bits say: they are skipped
  counted : (code count : ℕ) (skipped : List ℕ) → bytes ≡ ext1 ∷ code ∷ count ∷ skipped
      → is_counted code ≡ true → length skipped ≡ count % 32 → command ≡ Skipped
      → Spells command bytes

-- some bytes spell the command
pub record IsSpelled (command : Command) : Type 0 where
  pub bytes : List ℕ
  pub are_bytes : All (λ byte. byte < 256) bytes
  pub spells : Spells command bytes
