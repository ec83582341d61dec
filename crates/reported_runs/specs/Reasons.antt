-- Believed: the library's answers stand on these definitions.
-- Reasons as they are reported: with their names, and a sentence on each.
use Rattle.std.specs.Prelude.{ℕ, List, codes}
use Rattle.cc_base.specs.Why.{name_of}
use Rattle.cc_base.specs.declared.why.Why.{Why}
use Rattle.cc_base.specs.declared.why.Why.TheVariants as why
use Rattle.reported_runs.specs.Reports.{padded}
use Rattle.reported_runs.specs.declared.reason.Reason.{Reason}

-- what is wrong
abbrev pub sentence_of : Why → List ℕ
sentence_of why.Overrun = codes "A service block has more bytes than its packet has left."
sentence_of why.Identifier = codes "A distribution packet doesn't begin with 96 69."
sentence_of why.Length = codes "A distribution packet's length isn't its ancillary packet's count, or is none that one can have."
sentence_of why.Rate = codes "A distribution packet's rate code is none of the eight."
sentence_of why.Section = codes "No section of a distribution packet can begin so."
sentence_of why.Count = codes "A section's count passes its packet, or leaves one byte of it."
sentence_of why.Counter = codes "A distribution packet's footer has another counter than its header."
sentence_of why.Sum = codes "A distribution packet's bytes don't sum to 0 modulo 256."
sentence_of why.HighBits = codes "A word is above 3FF, the last ten-bit value."
sentence_of why.WordParity = codes "An eight-bit word has the wrong bit 8 or 9."
sentence_of why.Flag = codes "An ancillary packet doesn't begin with 000 3FF 3FF."
sentence_of why.AncSum = codes "An ancillary packet's checksum word is another one."
sentence_of why.Truncated = codes "The bytes end within a word or a packet."
sentence_of why.NoSuchTime = codes "No frame has this time code."
sentence_of why.Header = codes "The first line of an SCC or MCC file is another one."
sentence_of why.SccSyntax = codes "No line of an SCC file goes on with this byte."
sentence_of why.Backwards = codes "A line's time code is before that of the line before."
sentence_of why.Field = codes "A field of a cue list is out of its form or range."
sentence_of why.NoCode = codes "A text has a character without a code for its kind of cue."
sentence_of why.Order = codes "Frames of a cue, or of neighbouring cues, are out of order."
sentence_of why.Overlap = codes "Runs of a cue share a cell, or cues of a channel are shown at once."
sentence_of why.Clash = codes "Two events of a channel need one slot."
sentence_of why.Unhidden = codes "A cue loads into what the cue before it still shows."
sentence_of why.WindowBusy = codes "A cue's window is still used by an earlier cue."
sentence_of why.DelayCovers = codes "A delay covers another cue's event."
sentence_of why.Share = codes "A window cue's service has no share of the frame."
sentence_of why.PastEnd = codes "A cue ends past the last frame."
sentence_of why.OffSlot = codes "A line 21 cue is shown or hidden in a frame in which its field has no slot."
sentence_of why.FieldClash = codes "Events of two lists hold one slot of a field."
sentence_of why.OtherList = codes "A second list has another rate or another number of frames than the first, or a share."
sentence_of why.MccSyntax = codes "No line of an MCC file goes on with this byte."
sentence_of why.CounterJump = codes "A packet's counter isn't the one before plus 1 modulo 65536."
sentence_of why.WrongCount = codes "A packet hasn't its rate's number of triplets."
sentence_of why.BufferFull = codes "A service's held bytes reached 128."
sentence_of why.GridDiffers = codes "What is shown isn't what was authored."
sentence_of why.WrongRate = codes "A packet's rate isn't the list's."
sentence_of why.TwoPairs = codes "A frame has more than one valid field 1 triplet."
sentence_of why.EightBits = codes "A user word of an ancillary packet isn't an eight-bit word with its parity bits."

-- a reason as it is reported
abbrev pub reason_told : Why → Reason
reason_told reason = record { name = padded 32 (name_of reason); sentence = padded 128 (sentence_of reason) }
