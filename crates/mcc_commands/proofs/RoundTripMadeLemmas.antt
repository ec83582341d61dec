-- The words of packets of captions at consecutive frames are those that came.
use Rattle.std.proofs.Common.{◌≡◌, ℕ, ◌+◌, ◌-◌, inl, inr, true, List, ◌++◌, length, Option, Some, None, refl, ap, sym, ◌∙◌, subst, arith}
use Rattle.anc_words.specs.Packets.{AncillaryPacket}
use Rattle.anc_words.specs.Writing.{packet_bytes}
use Rattle.cdp_packets.specs.Packets.{Frame, IsCdp}
use Rattle.mcc_commands.specs.Placing.{packets_placed_from, placed}
use Rattle.mcc_files.specs.MccFiles.{TimedPackets}
use Rattle.mcc_commands.proofs.ImportMadeLemmas.{frames_captions, frames_other}
use Rattle.mcc_commands.specs.Imported.{frames_behind, frames_put}
use Rattle.mcc_files.proofs.WordLemmas.{low_bytes}
use Rattle.mcc_files.proofs.WrittenLemmas.{AreBytes}
use Rattle.mcc_files.specs.PayloadWords.{payload_of, payload_words}
use Rattle.mcc_files.specs.Payloads.{Payload}
use Rattle.mcc_words.proofs.CaptionTests.{are_captions, captions_false, captions_true}
use Rattle.mcc_words.proofs.CloseLemmas.{Unraised, none_missing, none_raised, none_raises}
use Rattle.mcc_words.specs.Close.{IsClose, words_as_they_came}
use Rattle.mcc_words.specs.MccWords.{AreCaptionWords, AreMccWords, AreWordsBehind, carries_captions, missing, raised_by}
use Rattle.mcc_words.specs.Raised.{IsRaised}
use Rattle.mcc_words.specs.declared.maker.Before.{Before}
use Rattle.words_files.specs.Frames.{CarryFrames}
use Rattle.words_files.specs.Frames.CarryFrames.{none, caption, foreign}

-- the words of a packet of captions
abbrev now_with : Option Before → ℕ → Frame → Before
now_with before frame packet = record { frame = frame; rate = packet.rate; counter = packet.counter; raised = raised_by before frame packet.counter }

captions_words : (last : Option ℕ) (before : Option Before) (frame : ℕ) (payload : Payload) (packet : Frame) → Unraised last before → IsClose last frame → carries_captions payload ≡ true
    → AreBytes payload.user → IsCdp packet payload.user → AreCaptionWords before frame payload.user (payload_words payload) (Some (now_with before frame packet))
captions_words last before frame payload packet is close captions bytes carries =
    let (did, sdid) = are_captions payload captions in
    record {
      packet = packet;
      raised = payload.user;
      is = carries;
      is_raised = subst (λ (n : ℕ). IsRaised n payload.user payload.user) (sym (none_raised last before frame packet.counter is close)) (none_raises packet payload.user carries bytes);
      spelled = ap (λ (d : ℕ). packet_bytes d payload.sdid payload.user) did
          ∙ (ap (λ (d : ℕ). packet_bytes 0x61 d payload.user) sdid
          ∙ ap (λ (w : List ℕ). w ++ packet_bytes 0x61 0x01 payload.user) (sym (none_missing last before frame is close)));
      after_is = refl;
    }

-- all words
pub record Made (before : Option Before) (placed : TimedPackets) : Type 0 where
  pub after : Option Before
  pub are : AreWordsBehind before placed (words_as_they_came placed) after

made_from : (first captions : ℕ) (last : Option ℕ) (before : Option Before) (packets : List AncillaryPacket) (frames : List Frame) → CarryFrames packets frames → Unraised last before
    → IsClose last (first + captions) → Made before (packets_placed_from first captions packets)
made_from first captions last before _ _ none is close = record { after = before; are = (refl, refl) }
made_from first captions last before _ _ (caption packet packets frame frames captions_is carries carried) is close =
    let at = first + captions in
    let payload = payload_of packet in
    let test = captions_true payload captions_is in
    let words = captions_words last before at payload frame is close test (low_bytes packet.user) carries in
    let now = now_with before at frame in
    let next = made_from first (captions + 1) (Some at) (Some now) packets frames carried (refl, none_raised last before at frame.counter is close) (omega arith) in
    let more = packets_placed_from first (captions + 1) packets in
    rw test
    (record { after = next.after; are = (payload_words payload, words_as_they_came more, Some now, inl (test, words), next.are, refl) })
made_from first captions last before _ _ (foreign packet packets frames isnt carried) is close =
    let next = made_from first captions last before packets frames carried is close in
    let payload = payload_of packet in
    let more = packets_placed_from first captions packets in
    let test = captions_false payload isnt in
    rw test
    (record { after = next.after; are = (payload_words payload, words_as_they_came more, before, inr (test, refl, refl), next.are, refl) })

pub words_are : (first : ℕ) (packets : List AncillaryPacket) (frames : List Frame) → CarryFrames packets frames → AreMccWords (placed first packets) (words_as_they_came (placed first packets))
words_are first packets frames carried =
    let made = made_from first 0 None None packets frames carried refl tt in
    record { after = made.after; are = made.are }

-- as many frames as packets of captions
close_none : (last : Option ℕ) (frame : ℕ) → IsClose last frame → missing last frame ≡ 0
close_none None frame close = refl
close_none (Some last) frame close = omega (arith, close)

frames_from : (first captions : ℕ) (last : Option ℕ) (packets : List AncillaryPacket) (frames : List Frame) → CarryFrames packets frames → IsClose last (first + captions)
    → frames_behind last (packets_placed_from first captions packets) ≡ length frames
frames_from first captions last _ _ none close = refl
frames_from first captions last _ _ (caption packet packets frame frames is carries carried) close =
    let at = first + captions in
    let more = packets_placed_from first (captions + 1) packets in
    let next = frames_from first (captions + 1) (Some at) packets frames carried (omega arith) in
    let test = captions_true (payload_of packet) is in
    let here = frames_captions last at (payload_of packet) more test in
    let gone = close_none last at close in
    rw test (omega (arith, next, here, gone))
frames_from first captions last _ _ (foreign packet packets frames isnt carried) close =
    let more = packets_placed_from first captions packets in
    let next = frames_from first captions last packets frames carried close in
    let test = captions_false (payload_of packet) isnt in
    let here = frames_other last (first + (captions - 1)) (payload_of packet) more test in
    rw test (omega (arith, next, here))

pub frames_are : (first : ℕ) (packets : List AncillaryPacket) (frames : List Frame) → CarryFrames packets frames → frames_put (placed first packets) ≡ length frames
frames_are first packets frames carried = frames_from first 0 None packets frames carried tt
