-- The words that are made of packets: how many frames and bytes they have.
use Rattle.std.proofs.Common.{◌≡◌, ℕ, zero, suc, ◌+◌, ◌*◌, ◌%◌, ◌≤◌, inl, inr, true, false, cond, List, [], ◌∷◌, ◌++◌, length, length-append, Option, Some, None, ap, sym, ◌∙◌, subst, arith, zero-add}
use Rattle.anc_words.specs.Writing.{packet_bytes}
use Rattle.cc_base.specs.Rate.{triplets_in_frame}
use Rattle.cc_base.specs.declared.rate.Rate.{Rate}
use Rattle.words_files.proofs.CarriedWordsLemmas.{length-carried_triplets}
use Rattle.mcc_words.specs.Carrying.{frame_bytes}
use Rattle.mcc_words.specs.FrameTriplets.{frame_triplets}
use Rattle.mcc_words.proofs.CarryingLemmas.{front_few, frame_number, triplets_many}
use Rattle.frame_carrier.specs.End.{silent_frame}
use Rattle.frame_carrier.specs.FrameBytes.{FrameBytes}
use Rattle.mcc_files.specs.MccFiles.{TimedPackets}
use Rattle.mcc_files.specs.Payloads.{Payload}
use Rattle.mcc_files.specs.PayloadWords.{payload_words}
use Rattle.mcc_words.specs.Close.{words_as_they_came}
use Rattle.mcc_words.specs.Makers.{AreMissingFrames}
use Rattle.mcc_words.specs.MccWords.{AreWordsBehind, carries_captions, missing, missing_words}
use Rattle.mcc_words.specs.Missing.{words_without}
use Rattle.mcc_words.specs.Raised.{IsRaised}
use Rattle.mcc_words.specs.declared.maker.Before.{Before}
use Rattle.mcc_words.specs.declared.missing.MissingFrames.{MissingFrames}
use Rattle.mcc_commands.specs.Importing.{frame_size}
use Rattle.mcc_commands.specs.Imported.{frames_behind, frames_put}
use Rattle.mcc_commands.proofs.ImportWordsLemmas.{words_long}

-- the frame of the packet of captions before
abbrev pub frame_of : Option Before → Option ℕ
frame_of None = None
frame_of (Some before) = Some before.frame

pub frames_captions : (last : Option ℕ) (frame : ℕ) (payload : Payload) (more : TimedPackets) → carries_captions payload ≡ true
    → frames_behind last ((frame, payload) ∷ more) ≡ missing last frame + 1 + frames_behind (Some frame) more
frames_captions last frame payload more is = ap (λ t. cond t (missing last frame + 1 + frames_behind (Some frame) more) (frames_behind last more)) is

pub frames_other : (last : Option ℕ) (frame : ℕ) (payload : Payload) (more : TimedPackets) → carries_captions payload ≡ false
    → frames_behind last ((frame, payload) ∷ more) ≡ frames_behind last more
frames_other last frame payload more isnt = ap (λ t. cond t (missing last frame + 1 + frames_behind (Some frame) more) (frames_behind last more)) isnt

-- a packet more
pub frames_more : (placed : TimedPackets) (bytes : List ℕ) (before after : Option Before) (one : ℕ × Payload) → AreWordsBehind before placed bytes after
    → frames_behind (frame_of before) (placed ++ one ∷ []) ≡ frames_behind (frame_of before) placed + frames_behind (frame_of after) (one ∷ [])
frames_more [] bytes before after one (none, same) =
    sym (zero-add (frames_behind (frame_of before) (one ∷ []))) ∙ ap (λ (b : Option Before). 0 + frames_behind (frame_of b) (one ∷ [])) (sym same)
frames_more (first ∷ placed) bytes before after one (front, rest, middle, inl (is, words), behind, spelled) =
    let at : frame_of middle ≡ Some first.0 = ap frame_of words.after_is in
    let more = frames_more placed rest middle after one behind in
    let here = frames_captions (frame_of before) first.0 first.1 placed is in
    let all = frames_captions (frame_of before) first.0 first.1 (placed ++ one ∷ []) is in
    let moved : frames_behind (Some first.0) (placed ++ one ∷ []) ≡ frames_behind (Some first.0) placed + frames_behind (frame_of after) (one ∷ []) =
    subst (λ (o : Option ℕ). frames_behind o (placed ++ one ∷ []) ≡ frames_behind o placed + frames_behind (frame_of after) (one ∷ [])) at more in
    omega (arith, here, all, moved)
frames_more (first ∷ placed) bytes before after one (front, rest, middle, inr (isnt, words, same), behind, spelled) =
    let more = frames_more placed rest middle after one behind in
    let moved = subst (λ (b : Option Before). frames_behind (frame_of b) (placed ++ one ∷ []) ≡ frames_behind (frame_of b) placed + frames_behind (frame_of after) (one ∷ [])) same more in
    let here = frames_other (frame_of before) first.0 first.1 placed isnt in
    let all = frames_other (frame_of before) first.0 first.1 (placed ++ one ∷ []) isnt in
    omega (arith, here, all, moved)

missing_are : (before : Option Before) (frame : ℕ) (frames : MissingFrames) → AreMissingFrames before frame frames → frames.left ≡ missing (frame_of before) frame
missing_are None frame frames are = are
missing_are (Some before) frame frames are = are.0

pub captions_counted : (placed : TimedPackets) (bytes : List ℕ) (after : Option Before) (frame : ℕ) (payload : Payload) (frames : MissingFrames) → AreWordsBehind None placed bytes after
    → AreMissingFrames after frame frames → carries_captions payload ≡ true → frames_put (placed ++ (frame, payload) ∷ []) ≡ frames_put placed + (frames.left + 1)
captions_counted placed bytes after frame payload frames are gone is =
    let all = frames_more placed bytes None after (frame, payload) are in
    let one = frames_captions (frame_of after) frame payload [] is in
    let left = missing_are after frame frames gone in
    omega (arith, all, one, left)

pub other_counted : (placed : TimedPackets) (bytes : List ℕ) (after : Option Before) (frame : ℕ) (payload : Payload) → AreWordsBehind None placed bytes after
    → carries_captions payload ≡ false → frames_put (placed ++ (frame, payload) ∷ []) ≡ frames_put placed + 0
other_counted placed bytes after frame payload are isnt =
    let all = frames_more placed bytes None after (frame, payload) are in
    let one = frames_other (frame_of after) frame payload [] isnt in
    omega (arith, all, one)

-- the bytes of an ancillary packet
pub packet_long : (user : List ℕ) → length (packet_bytes 0x61 0x01 user) ≡ 14 + (length user + length user)
packet_long user = words_long (record { did = 0x61; sdid = 0x01; user = user })

-- a frame without captions
frame_full : (rate : Rate) (frame : FrameBytes) → length (frame_triplets rate frame []) ≡ triplets_in_frame rate
frame_full rate frame =
    let few = front_few frame [] in
    let many = (triplets_many rate).0 in
    frame_number rate frame [] (omega (arith, few, many))

frame_long : (rate : Rate) (number : ℕ) (frame : FrameBytes) → length (frame_bytes rate number frame []) ≡ frame_size rate
frame_long rate number frame =
    let all = length-carried_triplets rate number (frame_triplets rate frame []) in
    let full = frame_full rate frame in
    omega (arith, all, full)

pub frames_long : (many : ℕ) (rate : Rate) (number : ℕ) → length (words_without rate number many) ≡ many * frame_size rate
frames_long zero rate number = omega arith
frames_long (suc many) rate number =
    let next = (number + 1) % 65536 in
    let first = frame_long rate number (silent_frame rate number) in
    let behind = frames_long many rate next in
    let parts = length-append (frame_bytes rate number (silent_frame rate number) []) (words_without rate next many) in
    let product : suc many * frame_size rate ≡ frame_size rate + many * frame_size rate = omega arith in
    omega (arith, first, behind, parts, product)

-- the words that are made are no fewer than those that came
raised_long : (by : ℕ) (user raised : List ℕ) → IsRaised by user raised → length raised ≡ length user
raised_long by user raised r =
    let was = ap length r.user_is ∙ length-append r.head (r.high ∷ r.low ∷ (r.middle ++ 0x74 ∷ r.high ∷ r.low ∷ r.last ∷ [])) in
    let now = ap length r.raised_is ∙ length-append r.head (r.high_again ∷ r.low_again ∷ (r.middle ++ 0x74 ∷ r.high_again ∷ r.low_again ∷ r.last_again ∷ [])) in
    let tail = length-append r.middle (0x74 ∷ r.high ∷ r.low ∷ r.last ∷ []) in
    let tail_again = length-append r.middle (0x74 ∷ r.high_again ∷ r.low_again ∷ r.last_again ∷ []) in
    omega (arith, was, now, tail, tail_again)

pub came_fewer : (placed : TimedPackets) (bytes : List ℕ) (before after : Option Before) → AreWordsBehind before placed bytes after → length (words_as_they_came placed) ≤ length bytes
came_fewer [] bytes before after (none, same) = omega arith
came_fewer (first ∷ placed) bytes before after (front, rest, middle, inl (is, words), behind, spelled) =
    let more = came_fewer placed rest middle after behind in
    let all = length-append (payload_words first.1) (words_as_they_came placed) in
    let parts = ap length spelled ∙ length-append front rest in
    let own = words_long first.1 in
    let made = ap length words.spelled ∙ length-append (missing_words before first.0) (packet_bytes 0x61 0x01 words.raised) in
    let packet = packet_long words.raised in
    let raised = raised_long _ first.1.user words.raised words.is_raised in
    omega (arith, more, all, parts, own, made, packet, raised)
came_fewer (first ∷ placed) bytes before after (front, rest, middle, inr (isnt, words, same), behind, spelled) =
    let more = came_fewer placed rest middle after behind in
    let all = length-append (payload_words first.1) (words_as_they_came placed) in
    let parts = ap length spelled ∙ length-append front rest in
    let own = ap length words in
    omega (arith, more, all, parts, own)
