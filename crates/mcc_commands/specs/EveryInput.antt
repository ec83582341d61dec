-- Between crates: the program's answer stands on none of these definitions.
-- Every input is an import, or offends, or passes a limit at the line of a packet.
use Rattle.std.specs.Prelude.{◌≡◌, ◌⊎◌, ℕ, List, [], ◌++◌}
use Rattle.cc_base.specs.declared.limit_of.LimitOf.{LimitOf}
use Rattle.cc_base.specs.declared.refusal.Refusal.{Refusal}
use Rattle.scc_files.specs.Offences.{EndsLine}
use Rattle.mcc_commands.specs.Imported.{IsMccImport, PassesAtPacket}
use Rattle.mcc_commands.specs.Offences.{IsFirstOffence}

-- bytes begin with a file with whose last packet a limit is passed, and that packet's line has ended there, by its line end or theirs
pub record PassesWithin (which : LimitOf) (bytes : List ℕ) : Type 0 where
  pub front : List ℕ
  pub more : List ℕ
  pub words : List ℕ
  pub spelled : bytes ≡ front ++ more
  pub ended : EndsLine front ⊎ (more ≡ [])
  pub passes : PassesAtPacket which front words

-- bytes are an import, or have a first offence, or a limit is passed with a packet whose line ended in them
abbrev pub IsOneOfThese : List ℕ → Type 0
IsOneOfThese bytes =
    ((words : List ℕ) × IsMccImport bytes words) ⊎ (((refusal : Refusal) × IsFirstOffence bytes refusal) ⊎ ((which : LimitOf) × PassesWithin which bytes))

abbrev pub EveryInputIsOne : Type 0
EveryInputIsOne = (bytes : List ℕ) → IsOneOfThese bytes
