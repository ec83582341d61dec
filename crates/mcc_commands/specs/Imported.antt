-- Believed: the program's answer stands on these definitions.
-- What is put for the packets of an MCC file, and its limits: no more than 5,184,000 frames, and no more bytes than a words file may have.
use Rattle.std.specs.Prelude.{◌≡◌, ℕ, ◌+◌, ◌<◌, ◌≤◌, ◌⊎◌, if◌then◌else◌, List, [], ◌∷◌, ◌++◌, length, Option, Some, None}
use Rattle.cc_base.specs.declared.limit_of.LimitOf.{LimitOf}
use Rattle.cc_base.specs.declared.limit_of.LimitOf.TheVariants as limit
use Rattle.cdp_packets.specs.Packets.{Frame}
use Rattle.mcc_files.specs.Lines.{HaveNoLf}
use Rattle.mcc_files.specs.MccFiles.{IsMccFile, TimedPackets}
use Rattle.mcc_files.specs.Payloads.{Payload}
use Rattle.mcc_words.specs.Close.{words_as_they_came}
use Rattle.mcc_words.specs.MccWords.{AreMccWords, carries_captions, missing}
use Rattle.scc_files.specs.Offences.{EndsLine}
use Rattle.services_files.specs.CaptionChannel.{caption_channel}
use Rattle.words_files.specs.Offences.{IsFileUnder}
use Rattle.words_reading.specs.Causes.{words_limit}
use Rattle.mcc_commands.specs.Offences.{NoWordOffends}

-- how many frames are put for packets, after a packet of captions at such a frame: one for each packet of captions, and those that are
-- missing before it
abbrev pub frames_behind : Option ℕ → TimedPackets → ℕ
frames_behind last [] = 0
frames_behind last (placed ∷ more) =
    if carries_captions placed.1 then missing last placed.0 + 1 + frames_behind (Some placed.0) more else frames_behind last more

abbrev pub frames_put : TimedPackets → ℕ
frames_put placed = frames_behind None placed

-- the most frames of an import: a day at 60 frames a second
abbrev pub most_imported_frames : ℕ
most_imported_frames = 5184000

-- packets within the limits, of which these are the words
pub record AreWithinImport (placed : TimedPackets) (text : List ℕ) : Type 0 where
  pub are : AreMccWords placed text
  pub frames : frames_put placed ≤ most_imported_frames
  pub bytes : length text ≤ words_limit

-- the lines that ended, of which these are the packets
abbrev pub AreEndedLines : TimedPackets → List ℕ → Type 0
AreEndedLines placed lines = ((lines ≡ []) × (placed ≡ [])) ⊎ (EndsLine lines × IsMccFile placed lines)

-- these are the words of the packets of the lines that ended in the bytes, within the limits
pub record SaysLines (bytes text : List ℕ) : Type 0 where
  pub lines : List ℕ
  pub rest : List ℕ
  pub placed : TimedPackets
  pub spelled : bytes ≡ lines ++ rest
  pub ended : AreEndedLines placed lines
  pub open_line : HaveNoLf rest
  pub within : AreWithinImport placed text

-- the bytes are an MCC file within the limits whose packets' words are a words file over all layers; and these are the words of its packets,
-- with frames without captions where some are missing
pub record IsMccImport (bytes text : List ℕ) : Type 0 where
  pub placed : TimedPackets
  pub file : IsMccFile placed bytes
  pub frames : List Frame
  pub words : IsFileUnder caption_channel frames (words_as_they_came placed)
  pub within : AreWithinImport placed text

-- the words of these packets, of which there are this many frames, pass a limit
abbrev pub PassesWith : LimitOf → ℕ → List ℕ → Type 0
PassesWith limit.Bytes frames text = words_limit < length text
PassesWith limit.Frames frames text = (most_imported_frames < frames) × (length text ≤ words_limit)
PassesWith _ frames text = ⊥

-- the bytes, in which nothing offends, end with a packet's line, with which a limit is passed; and these are the words of the packets
-- before it
pub record PassesAtPacket (which : LimitOf) (bytes text : List ℕ) : Type 0 where
  pub placed : TimedPackets
  pub last : ℕ × Payload
  pub file : IsMccFile (placed ++ last ∷ []) bytes
  pub no_word : NoWordOffends bytes
  pub within : AreWithinImport placed text
  pub longer : List ℕ
  pub are : AreMccWords (placed ++ last ∷ []) longer
  pub passes : PassesWith which (frames_put (placed ++ last ∷ [])) longer
