-- Believed in part: the library's answers stand on some of these definitions.
-- What becomes of the parts of ancillary packets (SMPTE ST 291-1, ST 334-1). A packet of captions carries a distribution packet
-- (SMPTE ST 334-2), whose length is the count and whose bytes are the low bits of the user words. It is a frame once its checksum
-- word has come, and other packets change nothing. The layers above judge the parts of distribution packets, all the file's one
-- after another.
use Rattle.std.specs.Prelude.{ℕ, ◌%◌, ◌==◌, ◌&&◌, not, nat_le, if◌then◌else◌, Bool, List, [], ◌∷◌, ◌++◌, reverse, Option, Some, None}
use Rattle.std.specs.List.{flat_map}
use Rattle.cc_base.specs.declared.refusal.Refusal.{Refusal}
use Rattle.cc_base.specs.declared.why.Why.{Why}
use Rattle.cc_base.specs.declared.why.Why.TheVariants as why
use Rattle.cc_base.specs.Feeding.{Reading, Verdict, hand, place_by, reading, why_of}
use Rattle.cc_base.specs.Steps.{front_from}
use Rattle.cc_base.specs.Syntax.{judge_by, open_behind, parts_of, read_under}
use Rattle.anc_words.specs.declared.parts.WordPart.{WordPart}
use Rattle.anc_words.specs.declared.parts.WordPart.TheVariants as part
use Rattle.anc_words.specs.Reading.{anc_syntax, judge_word}
use Rattle.cdp_packets.specs.declared.parts.CdpPart.{CdpPart}
use Rattle.cdp_packets.specs.Reading.{cdp_syntax}

-- no layer above: nothing refuses a part of a distribution packet
abbrev pub never : Verdict CdpPart
never above part = None

-- a packet of captions that is open: its length, its bytes so far, and the parts that they make
pub record OpenCaption : Type 0 where
  pub size : ℕ
  pub bytes : List ℕ
  pub parts : List CdpPart

-- the packet of captions that is open, if one is, the parts of each frame, newest first, and why a part was refused, if one was
pub record Caught : Type 0 where
  pub open_caption : Option OpenCaption
  pub frames : List (List CdpPart)
  pub refused : Option Why

-- nothing is caught yet
abbrev pub nothing_caught : Caught
nothing_caught = record { open_caption = None; frames = []; refused = None }

-- a distribution packet can have this length
abbrev pub is_packet_length : ℕ → Bool
is_packet_length size = nat_le 11 size && not (size == 12)

-- a packet begins
abbrev pub packet_begun : ℕ → ℕ → ℕ → Caught → Caught
packet_begun did sdid count caught =
    if (did == 0x61) && (sdid == 0x01)
    then (if is_packet_length count
    then record caught { open_caption = Some (record { size = count; bytes = []; parts = [] }) }
    else record caught { open_caption = None; refused = Some why.Length })
    else record caught { open_caption = None }

-- what the layers above say of a part of the open packet, after the frames before it
abbrev pub verdict_behind : Verdict CdpPart → List (List CdpPart) → Verdict CdpPart
verdict_behind verdict frames above part = verdict (flat_map (λ parts. parts) (reverse frames) ++ above) part

-- what is read of one more byte of an open packet
abbrev pub reading_behind : Verdict CdpPart → List (List CdpPart) → OpenCaption → ℕ → Reading CdpPart
reading_behind verdict frames o byte =
    reading (judge_by (cdp_syntax o.size)) (verdict_behind verdict frames) (place_by 1) o.bytes o.parts (byte ∷ [])

-- the open packet goes on, unless its byte was refused
abbrev pub packet_gone_on : Option Why → OpenCaption → Caught → Caught
packet_gone_on None o caught = record caught { open_caption = Some o }
packet_gone_on (Some why) o caught = record caught { refused = Some why }

-- one more byte comes
abbrev pub taken_in : Verdict CdpPart → Option OpenCaption → ℕ → Caught → Caught
taken_in verdict None byte caught = caught
taken_in verdict (Some o) byte caught =
    let read = reading_behind verdict caught.frames o byte in
    packet_gone_on (why_of read.refusal) (record { size = o.size; bytes = o.bytes ++ byte ∷ []; parts = o.parts ++ read.parts }) caught

-- one more byte comes in the packet that is open, if one is
abbrev pub taken : Verdict CdpPart → ℕ → Caught → Caught
taken verdict byte caught = taken_in verdict caught.open_caption byte caught

-- the packet ends
abbrev pub ended_with : Option OpenCaption → Caught → Caught
ended_with None caught = caught
ended_with (Some o) caught = record caught { open_caption = None; frames = o.parts ∷ caught.frames }

-- the packet that is open ends, if one is, and is a frame where it is one of captions
abbrev pub packet_ended : Caught → Caught
packet_ended caught = ended_with caught.open_caption caught

-- one more part comes
abbrev pub behind_part : Verdict CdpPart → WordPart → Caught → Caught
behind_part verdict (part.Start did sdid count) caught = packet_begun did sdid count caught
behind_part verdict (part.User word) caught = taken verdict (word % 256) caught
behind_part verdict part.End caught = packet_ended caught

-- a refusal is kept, with what was caught before it
abbrev pub unless_refused : Verdict CdpPart → Option Why → WordPart → Caught → Caught
unless_refused verdict None p caught = behind_part verdict p caught
unless_refused verdict (Some why) p caught = caught

-- what is caught after one more part
abbrev pub caught_after : Verdict CdpPart → Caught → WordPart → Caught
caught_after verdict caught p = unless_refused verdict caught.refused p caught

-- what is caught of parts
abbrev pub caught_of : Verdict CdpPart → List WordPart → Caught
caught_of verdict parts = front_from (caught_after verdict) nothing_caught parts

-- why a part is refused after others
abbrev pub caption_verdict : Verdict CdpPart → Verdict WordPart
caption_verdict verdict before p = (caught_of verdict (before ++ p ∷ [])).refused

-- what is caught of bytes, up to the first refused word
abbrev pub caught_in : Verdict CdpPart → List ℕ → Caught
caught_in verdict bytes = caught_of verdict (read_under anc_syntax 2 (caption_verdict verdict) bytes).parts

-- the refusal of the first refused word, if one is refused
abbrev pub refusal_of : Verdict CdpPart → List ℕ → Option Refusal
refusal_of verdict bytes = (read_under anc_syntax 2 (caption_verdict verdict) bytes).refusal

-- why a word is refused after these bytes, if it is: its own reason, in the order high bits, flag, word parity, checksum; else the reason of
-- the layer above whose field it carries
abbrev pub reason_of : Verdict CdpPart → List ℕ → ℕ → Option Why
reason_of verdict before word =
    (hand (caption_verdict verdict) (parts_of anc_syntax before) (judge_word (open_behind anc_syntax before).words word)).why
