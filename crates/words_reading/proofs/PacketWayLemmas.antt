-- The way through words that are read packet by packet.
use Rattle.std.proofs.Common.{◌≡◌, ℕ, ◌+◌, ◌≤◌, List, [], ◌∷◌, ◌++◌, length, take, drop, ap, sym, subst, ◌∙◌, append_assoc, append-nil, arith}
use Rattle.std.proofs.lemmas.List.{take-append-drop}
use Rattle.cc_receiver.specs.Receivers.{HasReceived, frame_count}
use Rattle.cc_receiver.specs.declared.receiver.Ended.{Ended}
use Rattle.cc_receiver.specs.declared.receiver.Ended.TheVariants as ended
use Rattle.cc_receiver.specs.declared.receiver.Fed.{Fed}
use Rattle.cc_receiver.specs.declared.receiver.Receiver.{Receiver}
use Rattle.cdp_packets.specs.Packets.{Frame}
use Rattle.words_files.specs.Offences.{IsFileUnder, IsUnoffending}
use Rattle.cc_receiver.specs.CaptionChannel.{caption_channel}
use Rattle.words_reading.specs.Causes.{words_limit}
use Rattle.words_reading.specs.OpenPackets.{EndsCaption, EndsForeign, HasRead, HasReadPackets, IsEndedAs, MayFollow, NoPacketEnds, ReadsFront, open_bytes}
use Rattle.words_reading.specs.declared.packets.Packets.{Packets}

-- nothing is open after a packet
nothing_ends : (file kept : List ℕ) → kept ≡ [] → NoPacketEnds file kept
nothing_ends file kept none others n some few is = absurd (omega (arith, some, few, ap length none))

-- a packet ended, and the next one begins
pub begun : (frames : List Frame) (file bytes : List ℕ) (receiver : Receiver) (new : Packets) → HasReceived (file ++ bytes) receiver
    → frame_count receiver ≤ length (file ++ bytes) → IsUnoffending caption_channel (file ++ bytes) → IsFileUnder caption_channel frames (file ++ bytes)
    → new.receiver ≡ receiver → open_bytes new ≡ [] → HasRead frames (file ++ bytes) new
begun frames file bytes receiver new received few unoffending under same none =
    let all : (file ++ bytes) ++ open_bytes new ≡ file ++ bytes = ap (λ b. (file ++ bytes) ++ b) none ∙ append-nil (file ++ bytes) in
    record {
      received = subst (λ r. HasReceived ((file ++ bytes) ++ open_bytes new) r) (sym same) (subst (λ b. HasReceived b receiver) (sym all) received);
      few = subst (λ r. frame_count r ≤ length ((file ++ bytes) ++ open_bytes new)) (sym same) (subst (λ b. frame_count receiver ≤ length b) (sym all) few);
      unoffending = subst (IsUnoffending caption_channel) (sym all) unoffending;
      under = under;
      none = nothing_ends (file ++ bytes) (open_bytes new) none;
    }

-- the bytes read, and a front of those after them
parted : (before file kept front new : List ℕ) → before ≡ file ++ kept → new ≡ kept ++ front → before ++ front ≡ file ++ new
parted before file kept front new is more =
    ap (λ b. b ++ front) is ∙ append_assoc file kept front ∙ ap (λ b. file ++ b) (sym more)

rest_parted : (before bytes : List ℕ) (used : ℕ) → before ++ bytes ≡ (before ++ take used bytes) ++ drop used bytes
rest_parted before bytes used =
    ap (λ l. before ++ l) (sym (take-append-drop used bytes)) ∙ sym (append_assoc before (take used bytes) (drop used bytes))

-- how a packet ended
pub ends_foreign : (answer : Ended) (frames : List Frame) (file : List ℕ) (mid : Packets) → answer ≡ ended.Foreign → IsEndedAs answer frames file mid
    → EndsForeign frames file (open_bytes mid) mid
ends_foreign answer frames file mid is ends = subst (λ e. IsEndedAs e frames file mid) is ends

pub ends_caption : (answer : Ended) (frames : List Frame) (file : List ℕ) (mid : Packets) → answer ≡ ended.Caption → IsEndedAs answer frames file mid
    → EndsCaption frames file (open_bytes mid) mid
ends_caption answer frames file mid is ends = subst (λ e. IsEndedAs e frames file mid) is ends

pub ends_no : (answer : Ended) (frames : List Frame) (file : List ℕ) (mid : Packets) → answer ≡ ended.No → IsEndedAs answer frames file mid → HasRead frames file mid
ends_no answer frames file mid is ends = subst (λ e. IsEndedAs e frames file mid) is ends

-- nothing was read
pub none_read : (packets : Packets) → HasRead [] [] packets → open_bytes packets ≡ [] → HasReadPackets [] packets
none_read packets read none = record { frames = []; file = []; spelled = sym none; read = read }

-- what may follow
pub may_follow : (packets : Packets) (bytes : List ℕ) (more : ℕ) → HasReadPackets bytes packets → length bytes + more ≤ words_limit → MayFollow words_limit packets more
may_follow packets bytes more had within =
    let long = ap length had.spelled in
    record { frames = had.frames; file = had.file; read = had.read; within = omega (arith, within, long) }

-- bytes are read after others
module _ (before bytes : List ℕ) (old : Packets) (had : HasReadPackets before old) (mid : Packets) (fed : Fed)
    (read : ReadsFront had.frames had.file bytes old mid fed) where
  abbrev whole : List ℕ
  whole = had.file ++ open_bytes mid

  pub spelled_whole : before ++ take fed.used bytes ≡ had.file ++ open_bytes mid
  spelled_whole = parted before had.file (open_bytes old) (take fed.used bytes) (open_bytes mid) had.spelled read.kept

  pub spelled_rest : before ++ bytes ≡ (had.file ++ open_bytes mid) ++ drop fed.used bytes
  spelled_rest = rest_parted before bytes fed.used ∙ ap (λ b. b ++ drop fed.used bytes) spelled_whole

  pub spelled_past : (new : Packets) → open_bytes new ≡ [] → before ++ take fed.used bytes ≡ whole ++ open_bytes new
  spelled_past new none = spelled_whole ∙ sym (ap (λ b. whole ++ b) none ∙ append-nil whole)

  -- no packet ended
  abbrev pub read_still : fed.ended ≡ ended.No → HasReadPackets (before ++ take fed.used bytes) mid
  read_still still =
      record { frames = had.frames; file = had.file; spelled = spelled_whole; read = ends_no fed.ended had.frames had.file mid still read.ends }

  -- or one ended
  abbrev pub read_foreign : (new : Packets) → fed.ended ≡ ended.Foreign → new.receiver ≡ mid.receiver → open_bytes new ≡ []
      → HasReadPackets (before ++ take fed.used bytes) new
  read_foreign new is_foreign receiver none =
      let is = ends_foreign fed.ended had.frames had.file mid is_foreign read.ends in
      record {
        frames = had.frames;
        file = whole;
        spelled = spelled_past new none;
        read = begun had.frames had.file (open_bytes mid) mid.receiver new is.received is.few is.unoffending is.under receiver none;
      }

  abbrev pub read_caption : (new : Packets) → fed.ended ≡ ended.Caption → new.receiver ≡ mid.receiver → open_bytes new ≡ []
      → HasReadPackets (before ++ take fed.used bytes) new
  read_caption new is_caption receiver none =
      let is = ends_caption fed.ended had.frames had.file mid is_caption read.ends in
      record {
        frames = had.frames ++ is.frame ∷ [];
        file = whole;
        spelled = spelled_past new none;
        read = begun (had.frames ++ is.frame ∷ []) had.file (open_bytes mid) mid.receiver new is.received is.few is.unoffending is.under receiver none;
      }
