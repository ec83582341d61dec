-- Between crates: the program's answer stands on none of these definitions.
-- What a maker of words does at each call.
use Rattle.std.specs.Prelude.{◌≡◌, ℕ, ◌+◌, ◌%◌, Bool, true, false, nat_lt, List, [], Option, Some, None}
use Rattle.cdp_packets.specs.Packets.{Frame, IsCdp}
use Rattle.frame_carrier.specs.End.{silent_frame}
use Rattle.frame_carrier.specs.Carrying.{frame_bytes}
use Rattle.mcc_files.specs.MccFiles.{TimedPackets}
use Rattle.mcc_words.specs.MccWords.{AreWordsBehind, first_number, missing, raised_by}
use Rattle.mcc_words.specs.Missing.{words_without}
use Rattle.mcc_words.specs.declared.maker.Before.{Before}
use Rattle.mcc_words.specs.declared.maker.MccWords.{MccWords}
use Rattle.mcc_words.specs.declared.missing.MissingFrames.{MissingFrames}

-- the maker made these bytes of these packets
abbrev pub HasMade : TimedPackets → List ℕ → MccWords → Type 0
HasMade placed bytes maker = AreWordsBehind None placed bytes maker.before

-- these frames are missing
abbrev pub AreMissingFrames : Option Before → ℕ → MissingFrames → Type 0
AreMissingFrames None frame frames = frames.left ≡ 0
AreMissingFrames (Some before) frame frames =
    (frames.left ≡ missing (Some before.frame) frame) × (frames.rate ≡ before.rate) × (frames.number ≡ first_number before)

-- a packet of captions was begun, before which these frames are missing
pub record BeginsCaptions (old : MccWords) (frame : ℕ) (user : List ℕ) (new : MccWords) (frames : MissingFrames) : Type 0 where
  pub packet : Frame
  pub is : IsCdp packet user
  pub are : AreMissingFrames old.before frame frames
  pub after : new.before ≡ Some (record { frame = frame; rate = packet.rate; counter = packet.counter; raised = raised_by old.before frame packet.counter })

-- whether the counter of the packet of captions before, if there is one, was raised
abbrev pub was_raised : Option Before → Bool
was_raised None = false
was_raised (Some before) = nat_lt 0 before.raised

-- whether the counter of the packet of captions that was begun is raised
abbrev pub raises : MccWords → Bool
raises maker = was_raised maker.before

-- the words of the missing frames that are left
abbrev pub words_left : MissingFrames → List ℕ
words_left frames = words_without frames.rate frames.number frames.left

-- the next of missing frames was put, or there was none
abbrev pub PutsNext : MissingFrames → MissingFrames → Bool → List ℕ → Type 0
PutsNext old new true bytes =
    (old.left ≡ new.left + 1) × (new.rate ≡ old.rate) × (new.number ≡ (old.number + 1) % 65536)
    × (bytes ≡ frame_bytes old.rate old.number (silent_frame old.rate old.number) [])
PutsNext old new false bytes = (old.left ≡ 0) × (new ≡ old) × (bytes ≡ [])
