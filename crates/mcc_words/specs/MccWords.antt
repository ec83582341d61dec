-- Believed: the program's answer stands on these definitions.
-- The words of an MCC file's packets at their frames: the packets in order, and where a packet of captions stands more than one frame after
-- the packet of captions before it, frames without captions directly before it, one for each frame that is missing, numbered on from the
-- packet put before them. Counters are raised by the frames that were put so far, unless a packet's counter counts them already.
use Rattle.std.specs.Prelude.{◌≡◌, ℕ, ◌+◌, ◌-◌, ◌%◌, ◌==◌, ◌&&◌, ◌⊎◌, Bool, true, false, if◌then◌else◌, List, [], ◌∷◌, ◌++◌, Option, Some, None}
use Rattle.anc_words.specs.Writing.{packet_bytes}
use Rattle.cdp_packets.specs.Packets.{Frame, IsCdp}
use Rattle.mcc_files.specs.MccFiles.{TimedPackets}
use Rattle.mcc_files.specs.Payloads.{Payload}
use Rattle.mcc_files.specs.PayloadWords.{payload_words}
use Rattle.mcc_words.specs.Missing.{words_without}
use Rattle.mcc_words.specs.Raised.{IsRaised}
use Rattle.mcc_words.specs.declared.maker.Before.{Before}

-- whether the payload's packet is one of captions (SMPTE ST 334-1)
abbrev pub carries_captions : Payload → Bool
carries_captions payload = (payload.did == 0x61) && (payload.sdid == 0x01)

-- how many frames are missing between the frame of the packet of captions before, if there is one, and the next one's
abbrev pub missing : Option ℕ → ℕ → ℕ
missing None frame = 0
missing (Some last) frame = frame - (last + 1)

-- the number of the first of them: the number of the packet put before, plus 1, modulo 65536
abbrev pub first_number : Before → ℕ
first_number before = (before.counter + before.raised + 1) % 65536

-- the words of these frames
abbrev pub missing_words : Option Before → ℕ → List ℕ
missing_words None frame = []
missing_words (Some before) frame = words_without before.rate (first_number before) (missing (Some before.frame) frame)

-- a packet's counter counts the missing frames: it is the counter of the packet of captions before it plus the frames from that one to it
abbrev pub counts_missing : Before → ℕ → ℕ → Bool
counts_missing before frame counter = (before.counter + (frame - before.frame)) % 65536 == counter

-- by how much the counter of a packet of captions is raised, modulo 65536
abbrev pub raised_by : Option Before → ℕ → ℕ → ℕ
raised_by None frame counter = 0
raised_by (Some before) frame counter =
    if counts_missing before frame counter then before.raised else (before.raised + missing (Some before.frame) frame) % 65536

-- the words of a packet of captions, with the frames that stand before it, and what is before the next packet then
pub record AreCaptionWords (before : Option Before) (frame : ℕ) (user bytes : List ℕ) (after : Option Before) : Type 0 where
  pub packet : Frame
  pub raised : List ℕ
  pub is : IsCdp packet user
  pub is_raised : IsRaised (raised_by before frame packet.counter) user raised
  pub spelled : bytes ≡ missing_words before frame ++ packet_bytes 0x61 0x01 raised
  pub after_is : after ≡ Some (record { frame = frame; rate = packet.rate; counter = packet.counter; raised = raised_by before frame packet.counter })

-- the words of a packet
abbrev pub ArePacketWords : Option Before → ℕ × Payload → List ℕ → Option Before → Type 0
ArePacketWords before placed bytes after =
    ((carries_captions placed.1 ≡ true) × AreCaptionWords before placed.0 placed.1.user bytes after)
    ⊎ ((carries_captions placed.1 ≡ false) × (bytes ≡ payload_words placed.1) × (after ≡ before))

-- the words of packets, after others
abbrev pub AreWordsBehind : Option Before → TimedPackets → List ℕ → Option Before → Type 0
AreWordsBehind before [] bytes after = (bytes ≡ []) × (after ≡ before)
AreWordsBehind before (placed ∷ more) bytes after =
    (front : List ℕ) × (rest : List ℕ) × (middle : Option Before) × ArePacketWords before placed front middle × AreWordsBehind middle more rest after
    × (bytes ≡ front ++ rest)

-- the bytes are the words of a file's packets
pub record AreMccWords (placed : TimedPackets) (bytes : List ℕ) : Type 0 where
  pub after : Option Before
  pub are : AreWordsBehind None placed bytes after
