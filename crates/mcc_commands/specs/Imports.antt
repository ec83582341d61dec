-- Between crates: the program's answer stands on none of these definitions.
-- What an import is of an MCC file: one list of words, in which nothing offends. The words of more packets begin with the first ones'
-- words, and the packets of a file with the packets of a file that it begins with. Bytes have one first offence.
use Rattle.std.specs.Prelude.{◌≡◌, ℕ, List, ◌++◌}
use Rattle.cc_base.specs.declared.refusal.Refusal.{Refusal}
use Rattle.mcc_files.specs.MccFiles.{IsMccFile, TimedPackets}
use Rattle.mcc_words.specs.MccWords.{AreMccWords}
use Rattle.mcc_commands.specs.Imported.{IsMccImport}
use Rattle.mcc_commands.specs.Offences.{IsFirstOffence, IsWithoutOffence, Offends}

-- packets have one list of words
abbrev pub WordsAreOne : Type 0
WordsAreOne = (placed : TimedPackets) (one other : List ℕ) → AreMccWords placed one → AreMccWords placed other → one ≡ other

-- the words of packets and of more after them begin with the words of the first ones
abbrev pub WordsGoOn : Type 0
WordsGoOn = (front more : TimedPackets) (fewer words : List ℕ) → AreMccWords front fewer → AreMccWords (front ++ more) words
    → (rest : List ℕ) × (words ≡ fewer ++ rest)

-- so do the packets of a file that begins with a file
abbrev pub PacketsGoOn : Type 0
PacketsGoOn = (front all : TimedPackets) (file more : List ℕ) → IsMccFile front file → IsMccFile all (file ++ more)
    → (rest : TimedPackets) × (all ≡ front ++ rest)

-- bytes have one import
abbrev pub ImportsAreOne : Type 0
ImportsAreOne = (bytes one other : List ℕ) → IsMccImport bytes one → IsMccImport bytes other → one ≡ other

-- nothing offends in it, and so it has no first offence
abbrev pub NothingOffendsInImports : Type 0
NothingOffendsInImports = (bytes words : List ℕ) → IsMccImport bytes words
    → IsWithoutOffence bytes × ((refusal : Refusal) → IsFirstOffence bytes refusal → ⊥)

-- bytes have one first offence
abbrev pub OffencesAreOne : Type 0
OffencesAreOne = (bytes : List ℕ) (one other : Refusal) → IsFirstOffence bytes one → IsFirstOffence bytes other → one ≡ other

-- and what offends in them offends whatever follows
abbrev pub OffencesStay : Type 0
OffencesStay = (bytes more : List ℕ) (refusal : Refusal) → Offends bytes refusal → Offends (bytes ++ more) refusal
