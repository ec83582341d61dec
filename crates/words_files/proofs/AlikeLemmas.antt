-- Layers that take the same frames, and refuse the others for the same reasons: what is said of a words file under the one holds under
-- the other.
use Rattle.std.proofs.Common.{List, ℕ}
use Rattle.cc_base.specs.declared.refusal.Refusal.{Refusal}
use Rattle.cc_base.specs.declared.why.Why.{Why}
use Rattle.cdp_packets.specs.Packets.{Frame}
use Rattle.words_files.specs.Frames.{IsFileOf}
use Rattle.words_files.specs.FramesOf.{AreFramesOf}
use Rattle.words_files.specs.Layers.{Layers}
use Rattle.words_files.specs.Offences.{Begins, FirstOffendingWord, IsCutShort, IsFileUnder, IsUnoffending}
use Rattle.words_files.specs.Reasons.{HasReason, by_its_packet, by_layers_above}

-- both take the same frames, and what the one refuses of a file's frames the other refuses for the same reason
pub record JudgeAlike (one other : Layers) : Type 0 where
  pub takes : (frames : List Frame) → one.Take frames → other.Take frames
  pub taken : (frames : List Frame) → other.Take frames → one.Take frames
  pub refuses : (frames : List Frame) (bytes : List ℕ) (reason : Why) → IsFileOf frames bytes → one.Refuse frames reason → other.Refuse frames reason

pub file-alike : (one other : Layers) → JudgeAlike one other → (frames : List Frame) (bytes : List ℕ) → IsFileUnder one frames bytes → IsFileUnder other frames bytes
file-alike one other alike frames bytes is = record { file = is.file; accepted = alike.takes frames is.accepted }

pub file-back : (one other : Layers) → JudgeAlike one other → (frames : List Frame) (bytes : List ℕ) → IsFileUnder other frames bytes → IsFileUnder one frames bytes
file-back one other alike frames bytes is = record { file = is.file; accepted = alike.taken frames is.accepted }

pub begins-alike : (one other : Layers) → JudgeAlike one other → (bytes : List ℕ) → Begins one bytes → Begins other bytes
begins-alike one other alike bytes is =
    record { more = is.more; frames = is.frames; is_file = record { file = is.is_file.file; accepted = alike.takes is.frames is.is_file.accepted } }

pub begins-back : (one other : Layers) → JudgeAlike one other → (bytes : List ℕ) → Begins other bytes → Begins one bytes
begins-back one other alike bytes is =
    record { more = is.more; frames = is.frames; is_file = record { file = is.is_file.file; accepted = alike.taken is.frames is.is_file.accepted } }

pub reason-alike : (one other : Layers) → JudgeAlike one other → (before : List ℕ) (high low : ℕ) (reason : Why) → HasReason one before high low reason
    → HasReason other before high low reason
reason-alike one other alike before high low _ (by_its_packet reason words opens offends) = by_its_packet reason words opens offends
reason-alike one other alike before high low _ (by_layers_above reason more frames file refused) =
    by_layers_above reason more frames file (λ others said is. alike.refuses said _ reason is (refused others said is))

pub offence-alike : (one other : Layers) → JudgeAlike one other → (bytes : List ℕ) (refusal : Refusal) → FirstOffendingWord one bytes refusal
    → FirstOffendingWord other bytes refusal
offence-alike one other alike bytes refusal has = record {
  before = has.before;
  high = has.high;
  low = has.low;
  rest = has.rest;
  spelled = has.spelled;
  whole = has.whole;
  begins = begins-alike one other alike has.before has.begins;
  offends = λ begins. has.offends (begins-back one other alike _ begins);
  place_is = has.place_is;
  why_is = reason-alike one other alike has.before has.high has.low refusal.why has.why_is;
}

pub unoffending-alike : (one other : Layers) → JudgeAlike one other → (bytes : List ℕ) → IsUnoffending one bytes → IsUnoffending other bytes
unoffending-alike one other alike bytes is = record {
  words = is.words;
  half = is.half;
  spelled = is.spelled;
  whole = is.whole;
  single = is.single;
  begins = begins-alike one other alike is.words is.begins;
}

pub cut_short-alike : (one other : Layers) → JudgeAlike one other → (bytes : List ℕ) (refusal : Refusal) → IsCutShort one bytes refusal → IsCutShort other bytes refusal
cut_short-alike one other alike bytes refusal is = record {
  unoffending = unoffending-alike one other alike bytes is.unoffending;
  no_file = λ frames file. is.no_file frames (file-back one other alike frames bytes file);
  place_is = is.place_is;
  why_is = is.why_is;
}

pub frames_of-alike : (one other : Layers) → JudgeAlike one other → (frames : List Frame) (bytes : List ℕ) → AreFramesOf one frames bytes → AreFramesOf other frames bytes
frames_of-alike one other alike frames bytes are = record {
  file = are.file;
  behind = are.behind;
  spelled = are.spelled;
  is_file = file-alike one other alike frames are.file are.is_file;
  longest = λ others front rest is file. are.longest others front rest is (file-back one other alike others front file);
}
