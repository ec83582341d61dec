-- Believed: the program's answer stands on these definitions.
-- What `import-mcc` makes of its input: the words of the packets of an MCC file, with frames without captions where some are missing, or
-- why it stops, and with what words before.
use Rattle.std.specs.Prelude.{◌≡◌, ◌<◌, ◌≤◌, ◌⊎◌, ℕ, List, [], ◌∷◌, ◌++◌, length}
use Rattle.cc_base.specs.declared.limit_of.LimitOf.TheVariants as limit
use Rattle.cc_base.specs.declared.refusal.Refusal.{Refusal}
use Rattle.command_base.specs.declared.status.Place.TheVariants.{Byte}
use Rattle.command_base.specs.declared.status.Status.{Status}
use Rattle.command_base.specs.declared.status.Status.TheVariants as status
use Rattle.scc_files.specs.Offences.{EndsLine}
use Rattle.words_reading.specs.Causes.{words_limit}
use Rattle.words_reading.specs.WordsVerdict.{StopsWithin, admitted}
use Rattle.mcc_commands.specs.Imported.{IsMccImport, PassesAtPacket, SaysLines}
use Rattle.mcc_commands.specs.Offences.{IsMccCutShort, IsWithoutOffence, Offends}
use Rattle.mcc_commands.specs.declared.import_stop.MccStop.{MccStop}
use Rattle.mcc_commands.specs.declared.import_stop.MccStop.TheVariants as stop

-- something offends with the last of the bytes, and these are the words of the packets of the lines that ended before
pub record RefusesAt (refusal : Refusal) (bytes text : List ℕ) : Type 0 where
  pub offends : Offends bytes refusal
  pub front : List ℕ
  pub last : ℕ
  pub spelled : bytes ≡ front ++ last ∷ []
  pub says : SaysLines front text

-- with these bytes a reason to stop ended, and these are the words of the packets before
abbrev pub HaltsImport : MccStop → List ℕ → List ℕ → Type 0
HaltsImport (stop.Offends refusal) bytes text = RefusesAt refusal bytes text
HaltsImport (stop.Passes which) bytes text = PassesAtPacket which bytes text

-- these are the words of the packets of the lines that ended in the bytes, or of a whole file
abbrev pub SaysImport : List ℕ → List ℕ → Type 0
SaysImport bytes text = SaysLines bytes text ⊎ IsMccImport bytes text

-- the run stops so at the end of a line, or of the input
abbrev pub StopsAtLine : (List ℕ → List ℕ → Type 0) → List ℕ → List ℕ → Type 0
StopsAtLine Halts input text =
    (judged rest : List ℕ) × (input ≡ judged ++ rest) × (length judged ≤ words_limit) × Halts judged text × (EndsLine judged ⊎ (rest ≡ []))

-- `import-mcc`
abbrev pub ImportMccVerdict : List ℕ → Status → List ℕ → Type 0
ImportMccVerdict input status.Ok text = (length input ≤ words_limit) × IsMccImport input text
ImportMccVerdict input status.ReadFault text = (length input ≤ words_limit) × IsWithoutOffence input × SaysLines input text
ImportMccVerdict input status.WriteFault text =
    StopsWithin SaysImport input text ⊎ ((why : MccStop) × StopsWithin (HaltsImport why) input text)
ImportMccVerdict input (status.Limit limit.Bytes) text =
    ((words_limit < length input) × IsWithoutOffence (admitted input) × SaysLines (admitted input) text)
    ⊎ StopsAtLine (PassesAtPacket limit.Bytes) input text
ImportMccVerdict input (status.Limit limit.Frames) text = StopsAtLine (PassesAtPacket limit.Frames) input text
ImportMccVerdict input (status.Malformed (Byte place) why) text =
    let refusal : Refusal = record { place = place; why = why } in
    StopsWithin (RefusesAt refusal) input text ⊎ ((length input ≤ words_limit) × IsMccCutShort input refusal × SaysLines input text)
ImportMccVerdict input _ text = ⊥
