-- Between crates: the program's answer stands on none of these definitions.
-- What an import puts of a file is a words file over all layers, in which the file's packets of captions stand at their frames.
use Rattle.std.specs.Prelude.{ℕ, List}
use Rattle.cdp_packets.specs.Packets.{Frame}
use Rattle.mcc_words.specs.Standing.{AreFromTo, HaveFramesOfTheirOwn, StandApart, StandAtTheirFrames, caption_packets}
use Rattle.services_files.specs.CaptionChannel.{caption_channel}
use Rattle.words_files.specs.Offences.{IsFileUnder}
use Rattle.mcc_commands.specs.Imported.{IsMccImport}

-- the words of an import are a words file over all layers
abbrev pub ImportsAreWordsFiles : Type 0
ImportsAreWordsFiles = (bytes words : List ℕ) → IsMccImport bytes words → (frames : List Frame) × IsFileUnder caption_channel frames words

-- its frames are the frames of its packets of captions in their order, each after as many frames without captions as are missing before it
abbrev pub ImportsStandApart : Type 0
ImportsStandApart = (bytes words : List ℕ) (is : IsMccImport bytes words) (frames : List Frame) → IsFileUnder caption_channel frames words → StandApart is.placed frames

-- where no two of these are at one frame of the day, each stands at its own, and a frame without captions at each between that has none
abbrev pub ImportsStandAtTheirFrames : Type 0
ImportsStandAtTheirFrames = (bytes words : List ℕ) (is : IsMccImport bytes words) (frames : List Frame) (first last : ℕ) → IsFileUnder caption_channel frames words
    → HaveFramesOfTheirOwn (caption_packets is.placed) → AreFromTo (caption_packets is.placed) first last
    → StandAtTheirFrames (caption_packets is.placed) first last frames
