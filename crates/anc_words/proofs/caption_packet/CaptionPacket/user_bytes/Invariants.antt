use Rattle.std.proofs.Common.{◌≡◌, ◌++◌, drop, map, take}
use Rattle.anc_words.specs.CaptionWords.{low_of}
use Rattle.anc_words.proofs.caption_packet.CaptionPacket.user_bytes.Given as goal

-- the low bytes of the words so far, and after them what stood there
abbrev pub invariant-loop-place : goal.invariant-loop-place
invariant-loop-place l = l.out ≡ map low_of (take l.place l.self.user.now) ++ drop l.place l.initial.out
