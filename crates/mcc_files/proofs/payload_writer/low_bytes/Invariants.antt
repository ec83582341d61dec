use Rattle.std.proofs.Common.{◌≡◌, ◌++◌, drop, map, take}
use Rattle.anc_words.specs.CaptionWords.{low_of}
use Rattle.mcc_files.proofs.payload_writer.low_bytes.Given as goal

-- the low bytes of the words so far, and after them what stood there
abbrev pub invariant-loop-place : goal.invariant-loop-place
invariant-loop-place l = l.bytes ≡ map low_of (take l.place l.words) ++ drop l.place l.initial.bytes
