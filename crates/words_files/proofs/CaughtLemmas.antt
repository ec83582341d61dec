-- Files are caught, frame by frame, and what is caught to its end is a file.
use Rattle.std.proofs.Common.{◌≡◌, ℕ, ◌%◌, ◌<◌, ◌==◌, ◌&&◌, not, nat_le, if◌then◌else◌, Bool, true, false, List, [], ◌∷◌, ◌++◌, length, map, reverse, Some, None, refl, ap, sym, subst, ◌∙◌, append_assoc, append-nil, arith}
use Rattle.std.proofs.lemmas.Bool.Decides.{nat_tests}
use Rattle.std.proofs.lemmas.List.{length-map, reverse-append}
use Rattle.std.specs.List.{All, flat_map}
use Rattle.cc_base.specs.declared.why.Why.TheVariants as why
use Rattle.cc_base.specs.Feeding.{Verdict}
use Rattle.cc_base.specs.Steps.{AreAccepted, front_from}
use Rattle.cc_base.specs.Syntax.{AllRead, open_behind, parts_of}
use Rattle.cc_base.proofs.StepLemmas.{AreAccepted-append, AreAccepted-split, front_from-append}
use Rattle.anc_words.specs.declared.parts.WordPart.TheVariants as part
use Rattle.anc_words.specs.Packets.{AncillaryPacket, IsCaption, user_bytes}
use Rattle.anc_words.specs.Reading.{anc_syntax, nothing_open as no_word, packet_parts as word_parts}
use Rattle.anc_words.proofs.ByteLemmas.{file_is_read, what_is_read_is_file}
use Rattle.cdp_packets.specs.declared.parts.CdpPart.{CdpPart}
use Rattle.cdp_packets.specs.PacketParts.{packet_parts}
use Rattle.cdp_packets.specs.Packets.{Frame, IsCdp}
use Rattle.cdp_packets.specs.Reading.{IsPacketLength, cdp_syntax}
use Rattle.cdp_packets.proofs.ReadLemmas.{packet_length, packet_read}
use Rattle.cdp_packets.proofs.SoundLemmas.{sound}
use Rattle.words_files.specs.Catching.{Caught, caught_after, caught_in, caught_of, is_packet_length, refusal_of, verdict_behind}
use Rattle.words_files.specs.Frames.{CarryFrames, none, caption, foreign}
use Rattle.words_files.specs.Offences.{IsFileUnder}
use Rattle.words_files.specs.Verdicts.{layers_of}
use Rattle.words_files.proofs.CatchingLemmas.{accepted_behind, behind_accepted, caught_read, foreign_users, handed, handed-cons, idle, lows, open_of, opened, read_caught, unrefused_before, unrefused_first, users_caught, users_kept}

-- the identifiers are a caption packet's
abbrev pub has_captions : ℕ → ℕ → Bool
has_captions did sdid = (did == 0x61) && (sdid == 0x01)

pub captions-true : (did sdid : ℕ) → (did ≡ 0x61) × (sdid ≡ 0x01) → has_captions did sdid ≡ true
captions-true did sdid (did_is, sdid_is) = rw (did_is, sdid_is) refl

both_true : (b c : Bool) → (b && c) ≡ true → (b ≡ true) × (c ≡ true)
both_true true c both = (refl, both)
both_true false c both = absurd cc

pub captions-is : (did sdid : ℕ) → has_captions did sdid ≡ true → (did ≡ 0x61) × (sdid ≡ 0x01)
captions-is did sdid is =
    let (one, two) = both_true (did == 0x61) (sdid == 0x01) is in
    (grind (arith, nat_tests), grind (arith, nat_tests))

captions-false : (did sdid : ℕ) → ((did ≡ 0x61) × (sdid ≡ 0x01) → ⊥) → has_captions did sdid ≡ false
captions-false did sdid other =
    let cases : (b : Bool) → has_captions did sdid ≡ b → has_captions did sdid ≡ false = elim [
      | true ↦ λ is. absurd (other (captions-is did sdid is))
      | false ↦ λ is. is
    ] in cases _ refl

pub captions-no : (did sdid : ℕ) → has_captions did sdid ≡ false → (did ≡ 0x61) × (sdid ≡ 0x01) → ⊥
captions-no did sdid test is = let clash : true ≡ false = sym (captions-true did sdid is) ∙ test in absurd cc

-- a length that packets can have
pub length-true : (size : ℕ) → IsPacketLength size → is_packet_length size ≡ true
length-true size (long, other) = grind (arith, nat_tests)

pub length-is : (size : ℕ) → is_packet_length size ≡ true → IsPacketLength size
length-is size is =
    let (one, two) = both_true (nat_le 11 size) (not (size == 12)) is in
    (grind (arith, nat_tests), λ e. grind (arith, nat_tests))

-- what begins after frames, by whether the packet is one of captions, and by whether it can have its length
abbrev pub begun_by : List (List CdpPart) → ℕ → Bool → Bool → Caught
begun_by frames size captions fits =
    if captions
    then (if fits
    then opened frames (open_of size [] [])
    else record { open_caption = None; frames = frames; refused = Some why.Length })
    else idle frames

-- a packet of captions begins
pub caption_begun : (v : Verdict CdpPart) (frames : List (List CdpPart)) (did sdid size : ℕ) → (did ≡ 0x61) × (sdid ≡ 0x01) → IsPacketLength size
    → caught_after v (idle frames) (part.Start did sdid size) ≡ opened frames (open_of size [] [])
caption_begun v frames did sdid size is can =
    ap (λ (b : Bool). begun_by frames size b (is_packet_length size)) (captions-true did sdid is)
    ∙ ap (λ (b : Bool). begun_by frames size true b) (length-true size can)

-- and another
pub foreign_begun : (v : Verdict CdpPart) (frames : List (List CdpPart)) (did sdid size : ℕ) → ((did ≡ 0x61) × (sdid ≡ 0x01) → ⊥)
    → caught_after v (idle frames) (part.Start did sdid size) ≡ idle frames
foreign_begun v frames did sdid size other = ap (λ (b : Bool). begun_by frames size b (is_packet_length size)) (captions-false did sdid other)

-- a packet of captions that begins unrefused can have its length
pub begun_length : (v : Verdict CdpPart) (frames : List (List CdpPart)) (did sdid size : ℕ) → (did ≡ 0x61) × (sdid ≡ 0x01)
    → (caught_after v (idle frames) (part.Start did sdid size)).refused ≡ None → IsPacketLength size
begun_length v frames did sdid size is unrefused =
    let cases : (b : Bool) → is_packet_length size ≡ b → IsPacketLength size = elim [
      | true ↦ λ fits. length-is size fits
      | false ↦ λ lacks.
          let state = ap (λ (b : Bool). begun_by frames size b (is_packet_length size)) (captions-true did sdid is) ∙ ap (λ (b : Bool). begun_by frames size true b) lacks in
          let clash : Some why.Length ≡ None = sym (ap (λ (c : Caught). c.refused) state) ∙ unrefused in
          absurd cc
    ] in cases _ refl

-- a packet that isn't one of captions changes nothing
pub foreign_caught : (v : Verdict CdpPart) (frames : List (List CdpPart)) (p : AncillaryPacket) → (IsCaption p → ⊥)
    → front_from (caught_after v) (idle frames) (word_parts p) ≡ idle frames
foreign_caught v frames p other =
    ap (λ (c : Caught). front_from (caught_after v) c (map part.User p.user ++ part.End ∷ [])) (foreign_begun v frames p.did p.sdid (length p.user) other)
    ∙ front_from-append (caught_after v) (idle frames) (map part.User p.user) (part.End ∷ [])
    ∙ ap (λ (c : Caught). front_from (caught_after v) c (part.End ∷ [])) (foreign_users v frames p.user)

-- the parts after its begin
caption_body : (v : Verdict CdpPart) (frames : List (List CdpPart)) (size : ℕ) (user : List ℕ) → AllRead (cdp_syntax size) (lows user)
    → AreAccepted (verdict_behind v frames) [] (parts_of (cdp_syntax size) (lows user))
    → front_from (caught_after v) (opened frames (open_of size [] [])) (map part.User user ++ part.End ∷ []) ≡ idle (parts_of (cdp_syntax size) (lows user) ∷ frames)
caption_body v frames size user read accepted =
    front_from-append (caught_after v) (opened frames (open_of size [] [])) (map part.User user) (part.End ∷ [])
    ∙ ap (λ (c : Caught). front_from (caught_after v) c (part.End ∷ [])) (users_caught v frames size [] [] user read accepted)

-- what is read of the user words of a packet that carries a distribution packet
pub record Carried (p : AncillaryPacket) (frame : Frame) : Type 0 where
  pub can : IsPacketLength (length p.user)
  pub read : AllRead (cdp_syntax (length p.user)) (user_bytes p)
  pub made : parts_of (cdp_syntax (length p.user)) (user_bytes p) ≡ packet_parts frame

pub carried_read : (p : AncillaryPacket) (frame : Frame) → IsCdp frame (user_bytes p) → Carried p frame
carried_read p frame is =
    let size : length (user_bytes p) ≡ length p.user = length-map p.user (λ word. word % 256) in
    let reads = packet_read frame (user_bytes p) is in record {
      can = subst IsPacketLength size (packet_length frame (user_bytes p) is);
      read = subst (λ n. AllRead (cdp_syntax n) (user_bytes p)) size reads.taken;
      made = ap (λ n. parts_of (cdp_syntax n) (user_bytes p)) (sym size) ∙ reads.made;
    }

-- a packet of captions adds the parts of what it carries
pub caption_caught : (v : Verdict CdpPart) (frames : List (List CdpPart)) (p : AncillaryPacket) (frame : Frame) → IsCaption p → IsCdp frame (user_bytes p)
    → AreAccepted v (handed frames) (packet_parts frame)
    → front_from (caught_after v) (idle frames) (word_parts p) ≡ idle (packet_parts frame ∷ frames)
caption_caught v frames p frame is carries accepted =
    let reads = carried_read p frame carries in
    let behind = subst (λ ps. AreAccepted v ps (packet_parts frame)) (sym (append-nil (handed frames))) accepted in
    let all = subst (AreAccepted (verdict_behind v frames) []) (sym reads.made) (behind_accepted v frames [] (packet_parts frame) behind) in
    ap (λ (c : Caught). front_from (caught_after v) c (map part.User p.user ++ part.End ∷ [])) (caption_begun v frames p.did p.sdid (length p.user) is reads.can)
    ∙ caption_body v frames (length p.user) p.user reads.read all
    ∙ ap (λ ps. idle (ps ∷ frames)) reads.made

-- a packet of captions that isn't refused carries a frame, and the layers above take it
pub record Keeps (v : Verdict CdpPart) (frames : List (List CdpPart)) (p : AncillaryPacket) : Type 0 where
  pub frame : Frame
  pub carries : IsCdp frame (user_bytes p)
  pub accepted : AreAccepted v (handed frames) (packet_parts frame)

pub caption_kept : (v : Verdict CdpPart) (frames : List (List CdpPart)) (p : AncillaryPacket) → IsCaption p
    → (front_from (caught_after v) (idle frames) (word_parts p)).refused ≡ None → Keeps v frames p
caption_kept v frames p is unrefused =
    let size = length p.user in
    let rest = map part.User p.user ++ part.End ∷ [] in
    let can = begun_length v frames p.did p.sdid size is (unrefused_before v (caught_after v (idle frames) (part.Start p.did p.sdid size)) rest unrefused) in
    let after = ap (λ (c : Caught). (front_from (caught_after v) c rest).refused) (sym (caption_begun v frames p.did p.sdid size is can)) ∙ unrefused in
    let users = unrefused_first v (opened frames (open_of size [] [])) (map part.User p.user) (part.End ∷ []) after in
    let (read, accepted) = users_kept v frames size [] [] p.user users in
    let (frame, carries) = sound size (user_bytes p) can (length-map p.user (λ word. word % 256)) read in
    let behind = accepted_behind v frames [] (parts_of (cdp_syntax size) (user_bytes p)) accepted in
    let all = subst (λ ps. AreAccepted v ps (parts_of (cdp_syntax size) (user_bytes p))) (append-nil (handed frames)) behind in
    record { frame = frame; carries = carries; accepted = subst (AreAccepted v (handed frames)) (carried_read p frame carries).made all }

-- the frames of packets, newest first
abbrev pub newest_first : List Frame → List (List CdpPart)
newest_first frames = reverse (map packet_parts frames)

newest_first-cons : (frame : Frame) (frames : List Frame) (before : List (List CdpPart))
    → newest_first frames ++ packet_parts frame ∷ before ≡ newest_first (frame ∷ frames) ++ before
newest_first-cons frame frames before =
    sym (append_assoc (newest_first frames) (packet_parts frame ∷ []) before)
    ∙ ap (λ fs. fs ++ before) (sym (reverse-append (packet_parts frame ∷ []) (map packet_parts frames)))

-- packets that carry frames are caught
pub packets_caught : (v : Verdict CdpPart) (before : List (List CdpPart)) (packets : List AncillaryPacket) (frames : List Frame) → CarryFrames packets frames
    → AreAccepted v (handed before) (flat_map packet_parts frames)
    → front_from (caught_after v) (idle before) (flat_map word_parts packets) ≡ idle (newest_first frames ++ before)
packets_caught v before _ _ none accepted = refl
packets_caught v before _ _ (caption p packets frame frames is carries rest) accepted =
    let (first, others) = AreAccepted-split v (handed before) (packet_parts frame) (flat_map packet_parts frames) accepted in
    let more = subst (λ ps. AreAccepted v ps (flat_map packet_parts frames)) (sym (handed-cons (packet_parts frame) before)) others in
    front_from-append (caught_after v) (idle before) (word_parts p) (flat_map word_parts packets)
    ∙ ap (λ (c : Caught). front_from (caught_after v) c (flat_map word_parts packets)) (caption_caught v before p frame is carries first)
    ∙ packets_caught v (packet_parts frame ∷ before) packets frames rest more
    ∙ ap idle (newest_first-cons frame frames before)
packets_caught v before _ _ (foreign p packets frames other rest) accepted =
    front_from-append (caught_after v) (idle before) (word_parts p) (flat_map word_parts packets)
    ∙ ap (λ (c : Caught). front_from (caught_after v) c (flat_map word_parts packets)) (foreign_caught v before p other)
    ∙ packets_caught v before packets frames rest accepted

-- packets none of whose parts is refused carry frames, and the layers above take these
pub record AllKept (v : Verdict CdpPart) (before : List (List CdpPart)) (packets : List AncillaryPacket) : Type 0 where
  pub frames : List Frame
  pub carried : CarryFrames packets frames
  pub accepted : AreAccepted v (handed before) (flat_map packet_parts frames)

pub packets_kept : (v : Verdict CdpPart) (before : List (List CdpPart)) (packets : List AncillaryPacket)
    → (front_from (caught_after v) (idle before) (flat_map word_parts packets)).refused ≡ None → AllKept v before packets
packets_kept v before [] unrefused = record { frames = []; carried = none; accepted = tt }
packets_kept v before (p ∷ packets) unrefused =
    let rest = flat_map word_parts packets in
    let first = unrefused_first v (idle before) (word_parts p) rest unrefused in
    let behind = ap (λ (c : Caught). c.refused) (sym (front_from-append (caught_after v) (idle before) (word_parts p) rest)) ∙ unrefused in
    let from = λ (c : Caught). (front_from (caught_after v) c rest).refused in
    let cases : (b : Bool) → has_captions p.did p.sdid ≡ b → AllKept v before (p ∷ packets) = elim [
      | true ↦ λ test.
          let is = captions-is p.did p.sdid test in
          let kept = caption_kept v before p is first in
          let parts = packet_parts kept.frame in
          let more = packets_kept v (parts ∷ before) packets (ap from (sym (caption_caught v before p kept.frame is kept.carries kept.accepted)) ∙ behind) in
          record {
            frames = kept.frame ∷ more.frames;
            carried = caption p packets kept.frame more.frames is kept.carries more.carried;
            accepted = AreAccepted-append v (handed before) parts (flat_map packet_parts more.frames) kept.accepted
                (subst (λ ps. AreAccepted v ps (flat_map packet_parts more.frames)) (handed-cons parts before) more.accepted);
          }
      | false ↦ λ test.
          let other = captions-no p.did p.sdid test in
          let more = packets_kept v before packets (ap from (sym (foreign_caught v before p other)) ∙ behind) in
          record { frames = more.frames; carried = foreign p packets more.frames other more.carried; accepted = more.accepted }
    ] in cases _ refl

-- a file is caught to its end, with the parts of its frames
pub file_caught : (v : Verdict CdpPart) (frames : List Frame) (bytes : List ℕ) → IsFileUnder (layers_of v) frames bytes
    → (caught_in v bytes ≡ record { open_caption = None; frames = reverse (map packet_parts frames); refused = None }) × (refusal_of v bytes ≡ None)
file_caught v frames bytes is =
    let reads = file_is_read is.file.packets bytes is.file.file in
    let state : caught_of v (parts_of anc_syntax bytes) ≡ idle (newest_first frames) =
    ap (caught_of v) reads.made ∙ packets_caught v [] is.file.packets frames is.file.carried is.accepted ∙ ap idle (append-nil (newest_first frames)) in
    let (caught, unrefused) = read_caught v bytes reads.taken (ap (λ (c : Caught). c.refused) state) in
    (caught ∙ state, unrefused)

-- bytes that aren't refused, and leave nothing open, are a file
pub caught_file : (v : Verdict CdpPart) (bytes : List ℕ) → All (λ byte. byte < 256) bytes → refusal_of v bytes ≡ None → open_behind anc_syntax bytes ≡ no_word
    → (frames : List Frame) × IsFileUnder (layers_of v) frames bytes
caught_file v bytes are unrefused nothing =
    let (read, kept_all) = caught_read v bytes unrefused in
    let (packets, file) = what_is_read_is_file bytes are read nothing in
    let makes = (file_is_read packets bytes file).made in
    let kept = packets_kept v [] packets (ap (λ ps. (caught_of v ps).refused) (sym makes) ∙ kept_all) in
    (kept.frames, record { file = record { packets = packets; file = file; carried = kept.carried }; accepted = kept.accepted })
