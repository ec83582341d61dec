-- A word file whose bytes are refused though they are packets that carry frames is refused for the layers above: for the reason for
-- which these refuse a part of the frames first.
use Rattle.std.proofs.Common.{◌≡◌, ℕ, ◌%◌, ◌⊎◌, inl, inr, List, [], ◌∷◌, ◌++◌, length, map, Option, Some, None, refl, ap, sym, subst, ◌∙◌, append_assoc, append-nil}
use Rattle.std.specs.List.{flat_map}
use Rattle.cc_base.specs.declared.step.Step.{Step}
use Rattle.cc_base.specs.declared.step.Step.TheVariants.{Nothing, One, Two, Refuse}
use Rattle.cc_base.specs.declared.why.Why.{Why}
use Rattle.cc_base.specs.Feeding.{Handed, Verdict, hand, hand_first, place_by, read_first, reading, refused_at, why_of}
use Rattle.cc_base.specs.Steps.{AreAccepted, IsTaken, front_from, step_parts}
use Rattle.cc_base.specs.Syntax.{AllTaken, Syntax, judge_by, open_behind, parts_from, parts_of}
use Rattle.cc_base.proofs.StepLemmas.{front_from-append, hand-none}
use Rattle.anc_words.specs.declared.parts.WordPart.{WordPart}
use Rattle.anc_words.specs.declared.parts.WordPart.TheVariants as part
use Rattle.anc_words.specs.Packets.{AncillaryPacket, IsCaption, user_bytes}
use Rattle.anc_words.specs.Reading.{anc_syntax, packet_parts as word_parts}
use Rattle.anc_words.proofs.ByteLemmas.{file_is_read}
use Rattle.cdp_packets.specs.declared.parts.CdpPart.{CdpPart}
use Rattle.cdp_packets.specs.PacketParts.{packet_parts}
use Rattle.cdp_packets.specs.Packets.{Frame, IsCdp}
use Rattle.cdp_packets.specs.Reading.{cdp_syntax, judge_cdp, nothing_open, open_after}
use Rattle.cdp_packets.proofs.PacketLemmas.{packet_once}
use Rattle.words_files.specs.Catching.{Caught, OpenCaption, caption_verdict, caught_after, caught_of, ended_with, nothing_caught, packet_gone_on, reading_behind, refusal_of, unless_refused, verdict_behind}
use Rattle.words_files.specs.Frames.{CarryFrames, IsFileOf, none as no_packet, caption, foreign}
use Rattle.words_files.specs.Verdicts.{IsRefusedFor}
use Rattle.words_files.proofs.CatchingLemmas.{caught-refused, handed, handed-cons, idle, lows, open_of, opened, user_kept, user_step}
use Rattle.words_files.proofs.CaughtLemmas.{caption_begun, caption_caught, caption_kept, carried_read, foreign_caught}

-- a layer refuses one of the parts, after those above, and the first that it refuses, for this reason
abbrev RefusesFor : {P : Type 0} → Verdict P → List P → List P → Why → Type 0
RefusesFor verdict above [] reason = ⊥
RefusesFor verdict above (part ∷ parts) reason =
    (verdict above part ≡ Some reason) ⊎ ((verdict above part ≡ None) × RefusesFor verdict (above ++ part ∷ []) parts reason)

-- the first refused part stays, whatever parts follow
refuses-append : {P : Type 0} (v : Verdict P) (above parts more : List P) (reason : Why) → RefusesFor v above parts reason → RefusesFor v above (parts ++ more) reason
refuses-append v above [] more reason is = absurd is
refuses-append v above (p ∷ parts) more reason (inl here) = inl here
refuses-append v above (p ∷ parts) more reason (inr (none, rest)) = inr (none, refuses-append v (above ++ p ∷ []) parts more reason rest)

-- and it stands after parts that are taken
refuses-behind : {P : Type 0} (v : Verdict P) (above parts more : List P) (reason : Why) → AreAccepted v above parts → RefusesFor v (above ++ parts) more reason
    → RefusesFor v above (parts ++ more) reason
refuses-behind v above [] more reason all rest = subst (λ ps. RefusesFor v ps more reason) (append-nil above) rest
refuses-behind v above (p ∷ parts) more reason (is, all) rest =
    inr (
      is,
      refuses-behind v (above ++ p ∷ []) parts more reason all
          (subst (λ ps. RefusesFor v ps more reason) (sym (append_assoc above (p ∷ []) parts)) rest),
    )

-- it has one reason
refuses-one : {P : Type 0} (v : Verdict P) (above parts : List P) (reason other : Why) → RefusesFor v above parts reason → RefusesFor v above parts other
    → reason ≡ other
refuses-one v above [] reason other one two = absurd one
refuses-one v above (p ∷ parts) reason other (inl here) (inl also) = let same : Some reason ≡ Some other = sym here ∙ also in cc
refuses-one v above (p ∷ parts) reason other (inl here) (inr (none, _)) = let clash : Some reason ≡ None = sym here ∙ none in absurd cc
refuses-one v above (p ∷ parts) reason other (inr (none, _)) (inl also) = let clash : Some other ≡ None = sym also ∙ none in absurd cc
refuses-one v above (p ∷ parts) reason other (inr (_, one)) (inr (_, two)) = refuses-one v (above ++ p ∷ []) parts reason other one two

-- it follows the parts that are taken
record Splits (v : Verdict CdpPart) (above parts : List CdpPart) (reason : Why) : Type 0 where
  pub taken : List CdpPart
  pub part : CdpPart
  pub rest : List CdpPart
  pub spelled : parts ≡ taken ++ part ∷ rest
  pub accepted : AreAccepted v above taken
  pub refused : v (above ++ taken) part ≡ Some reason

refuses-splits : (v : Verdict CdpPart) (above parts : List CdpPart) (reason : Why) → RefusesFor v above parts reason → Splits v above parts reason
refuses-splits v above [] reason refuses = absurd refuses
refuses-splits v above (p ∷ parts) reason (inl here) = record {
  taken = [];
  part = p;
  rest = parts;
  spelled = refl;
  accepted = tt;
  refused = ap (λ ps. v ps p) (append-nil above) ∙ here;
}
refuses-splits v above (p ∷ parts) reason (inr (none, more)) =
    let next = refuses-splits v (above ++ p ∷ []) parts reason more in record {
      taken = p ∷ next.taken;
      part = next.part;
      rest = next.rest;
      spelled = ap (λ ps. p ∷ ps) next.spelled;
      accepted = (none, next.accepted);
      refused = ap (λ ps. v ps next.part) (sym (append_assoc above (p ∷ []) next.taken)) ∙ next.refused;
    }

refused_for : (v : Verdict CdpPart) (parts : List CdpPart) (reason : Why) → RefusesFor v [] parts reason → IsRefusedFor v parts reason
refused_for v parts reason refuses =
    let first = refuses-splits v [] parts reason refuses in record {
      taken = first.taken;
      part = first.part;
      rest = first.rest;
      spelled = first.spelled;
      accepted = first.accepted;
      refused = first.refused;
    }

refuses_by : (v : Verdict CdpPart) (parts : List CdpPart) (reason : Why) → IsRefusedFor v parts reason → RefusesFor v [] parts reason
refuses_by v parts reason is =
    subst (λ ps. RefusesFor v [] ps reason) (sym is.spelled) (refuses-behind v [] is.taken (is.part ∷ is.rest) reason is.accepted (inl is.refused))

-- so parts are refused for one reason
pub refused_for_one : (v : Verdict CdpPart) (parts : List CdpPart) (reason other : Why) → IsRefusedFor v parts reason → IsRefusedFor v parts other → reason ≡ other
refused_for_one v parts reason other one two = refuses-one v [] parts reason other (refuses_by v parts reason one) (refuses_by v parts other two)

-- the reason of one part
pub first-why : {P : Type 0} (w : Option Why) (p : P) (end : Handed P) → end.why ≡ None → (hand_first w p end).why ≡ w
first-why None p end none = none
first-why (Some why) p end none = refl

-- a step that the reader takes and that is refused
hand_refuses : {P : Type 0} (v : Verdict P) (above : List P) (step : Step P) (reason : Why) → IsTaken step → (hand v above step).why ≡ Some reason
    → RefusesFor v above (step_parts step) reason
hand_refuses v above Nothing reason taken is = absurd cc
hand_refuses v above (One p) reason taken is = inl (sym (first-why (v above p) p (record { parts = []; why = None }) refl) ∙ is)
hand_refuses v above (Two p q) reason taken is =
    let end : Handed _ = record { parts = []; why = None } in
    let second = v (above ++ p ∷ []) q in
    let rest = hand_first second q end in
    let cases : (w : Option Why) → v above p ≡ w → RefusesFor v above (p ∷ q ∷ []) reason = elim [
      | None ↦ λ none. inr (none, inl (sym (first-why second q end refl) ∙ ap (λ w. (hand_first w p rest).why) (sym none) ∙ is))
      | Some why ↦ λ some. inl (some ∙ ap (λ w. (hand_first w p rest).why) (sym some) ∙ is)
    ] in cases _ refl
hand_refuses v above (Refuse why) reason taken is = absurd taken

-- items that the reader takes and that are refused
reading_refuses : {Front I P : Type 0} (syntax : Syntax Front I P) (v : Verdict P) (place : List I → ℕ) (before : List I) (above : List P) (items : List I) (reason : Why)
    → AllTaken syntax (open_behind syntax before) items
    → why_of (reading (judge_by syntax) v place before above items).refusal ≡ Some reason
    → RefusesFor v above (parts_from syntax (open_behind syntax before) items) reason
reading_refuses syntax v place before above [] reason taken some = absurd cc
reading_refuses syntax v place before above (item ∷ items) reason (is, all) some =
    let front = open_behind syntax before in
    let step = syntax.judge front item in
    let given = hand v above step in
    let rest = reading (judge_by syntax) v place (before ++ item ∷ []) (above ++ given.parts) items in
    let next : open_behind syntax (before ++ item ∷ []) ≡ syntax.after front item = front_from-append syntax.after syntax.start before (item ∷ []) in
    let cases : (w : Option Why) → given.why ≡ w → RefusesFor v above (step_parts step ++ parts_from syntax (syntax.after front item) items) reason = elim [
      | None ↦ λ none.
          let (_, accepted, parts) = hand-none v above step none in
          let more = reading_refuses syntax v place (before ++ item ∷ []) (above ++ given.parts) items reason
          (subst (λ f. AllTaken syntax f items) (sym next) all)
          (ap (λ w. why_of (read_first (refused_at (place before) w) given.parts rest).refusal) (sym none) ∙ some) in
          refuses-behind v above (step_parts step) _ reason accepted
          (subst (λ f. RefusesFor v (above ++ step_parts step) (parts_from syntax f items) reason) next
          (subst (λ ps. RefusesFor v (above ++ ps) (parts_from syntax (open_behind syntax (before ++ item ∷ [])) items) reason) parts more))
      | Some why ↦ λ here.
          refuses-append v above (step_parts step) _ reason (hand_refuses v above step reason is
          (here ∙ ap (λ w. why_of (read_first (refused_at (place before) w) given.parts rest).refusal) (sym here) ∙ some))
    ] in cases _ refl

-- what is caught of parts of which one is refused
stays_refused : (v : Verdict CdpPart) (front more : List WordPart) (reason : Why) → (caught_of v front).refused ≡ Some reason
    → (caught_of v (front ++ more)).refused ≡ Some reason
stays_refused v front more reason is =
    ap (λ (c : Caught). c.refused) (front_from-append (caught_after v) nothing_caught front more)
    ∙ ap (λ (c : Caught). c.refused) (caught-refused v (caught_of v front) reason more is) ∙ is

refuses_caught : (v : Verdict CdpPart) (above parts : List WordPart) (reason : Why) → RefusesFor (caption_verdict v) above parts reason
    → (caught_of v (above ++ parts)).refused ≡ Some reason
refuses_caught v above [] reason refuses = absurd refuses
refuses_caught v above (p ∷ parts) reason (inl here) =
    ap (λ (ps : List WordPart). (caught_of v ps).refused) (sym (append_assoc above (p ∷ []) parts)) ∙ stays_refused v (above ++ p ∷ []) parts reason here
refuses_caught v above (p ∷ parts) reason (inr (_, rest)) =
    ap (λ (ps : List WordPart). (caught_of v ps).refused) (sym (append_assoc above (p ∷ []) parts)) ∙ refuses_caught v (above ++ p ∷ []) parts reason rest

-- a byte that is refused
pub goes-why : (w : Option Why) (o : OpenCaption) (caught : Caught) (reason : Why) → caught.refused ≡ None → (packet_gone_on w o caught).refused ≡ Some reason → w ≡ Some reason
goes-why None o caught reason none is = let clash : None ≡ Some reason = sym none ∙ is in absurd cc
goes-why (Some why) o caught reason none is = is

-- parts that change nothing any more
same_reason : (v : Verdict CdpPart) (caught : Caught) (why reason : Why) (parts : List WordPart) → caught.refused ≡ Some why
    → (front_from (caught_after v) caught parts).refused ≡ Some reason → caught.refused ≡ Some reason
same_reason v caught why reason parts here some = ap (λ (c : Caught). c.refused) (sym (caught-refused v caught why parts here)) ∙ some

-- user words of an open packet whose bytes the reader takes
users_refused : (v : Verdict CdpPart) (frames : List (List CdpPart)) (size : ℕ) (bytes : List ℕ) (parts : List CdpPart) (user : List ℕ) (reason : Why)
    → AllTaken (cdp_syntax size) (open_behind (cdp_syntax size) bytes) (lows user)
    → (front_from (caught_after v) (opened frames (open_of size bytes parts)) (map part.User user)).refused ≡ Some reason
    → RefusesFor (verdict_behind v frames) parts (parts_from (cdp_syntax size) (open_behind (cdp_syntax size) bytes) (lows user)) reason
users_refused v frames size bytes parts [] reason taken some = absurd cc
users_refused v frames size bytes parts (word ∷ user) reason (is, taken) some =
    let byte = word % 256 in
    let above = verdict_behind v frames in
    let after = open_after size in
    let front = open_behind (cdp_syntax size) bytes in
    let step = judge_cdp size front byte in
    let here = opened frames (open_of size bytes parts) in
    let one = caught_after v here (part.User word) in
    let behind : open_behind (cdp_syntax size) (bytes ++ byte ∷ []) ≡ after front byte = front_from-append after nothing_open bytes (byte ∷ []) in
    let cases : (w : Option Why) → one.refused ≡ w → RefusesFor above parts (step_parts step ++ parts_from (cdp_syntax size) (after front byte) (lows user)) reason = elim [
      | None ↦ λ none.
          let (_, accepted) = user_kept v frames size bytes parts word none in
          let rest = users_refused v frames size (bytes ++ byte ∷ []) (parts ++ step_parts step) user reason
          (subst (λ f. AllTaken (cdp_syntax size) f (lows user)) (sym behind) taken)
          (ap (λ (c : Caught). (front_from (caught_after v) c (map part.User user)).refused) (sym (user_step v frames size bytes parts word is accepted)) ∙ some) in
          refuses-behind above parts (step_parts step) _ reason accepted
          (subst (λ f. RefusesFor above (parts ++ step_parts step) (parts_from (cdp_syntax size) f (lows user)) reason) behind rest)
      | Some why ↦ λ refused.
          let read = reading_behind v frames (open_of size bytes parts) byte in
          let first = reading_refuses (cdp_syntax size) above (place_by 1) bytes parts (byte ∷ []) reason (is, tt)
          (goes-why (why_of read.refusal) _ here reason refl (same_reason v one why reason (map part.User user) refused some)) in
          refuses-append above parts (step_parts step) _ reason (subst (λ ps. RefusesFor above parts ps reason) (append-nil (step_parts step)) first)
    ] in cases _ refl

-- the end of a packet is refused for nothing
pub end_unrefused : (v : Verdict CdpPart) (caught : Caught) → caught.refused ≡ None → (caught_after v caught part.End).refused ≡ None
end_unrefused v caught none =
    let inside : (o : Option OpenCaption) → (ended_with o caught).refused ≡ caught.refused = elim [ None ↦ refl | Some open_one ↦ refl ] in
    ap (λ w. (unless_refused v w part.End caught).refused) none ∙ inside caught.open_caption ∙ none

-- what is refused after frames
refused_behind : (v : Verdict CdpPart) (frames : List (List CdpPart)) (above parts : List CdpPart) (reason : Why) → RefusesFor (verdict_behind v frames) above parts reason
    → RefusesFor v (handed frames ++ above) parts reason
refused_behind v frames above [] reason refuses = absurd refuses
refused_behind v frames above (p ∷ parts) reason (inl here) = inl here
refused_behind v frames above (p ∷ parts) reason (inr (none, rest)) =
    inr (none, subst (λ ps. RefusesFor v ps parts reason) (sym (append_assoc (handed frames) above (p ∷ []))) (refused_behind v frames (above ++ p ∷ []) parts reason rest))

-- a packet that carries a frame
caption_refused : (v : Verdict CdpPart) (before : List (List CdpPart)) (p : AncillaryPacket) (frame : Frame) (reason : Why) → IsCaption p → IsCdp frame (user_bytes p)
    → (front_from (caught_after v) (idle before) (word_parts p)).refused ≡ Some reason → RefusesFor v (handed before) (packet_parts frame) reason
caption_refused v before p frame reason is carries some =
    let reads = carried_read p frame carries in
    let size = length p.user in
    let users = map part.User p.user in
    let begun = opened before (open_of size [] []) in
    let last = front_from (caught_after v) begun users in
    let ends : (caught_after v last part.End).refused ≡ Some reason =
    ap (λ (c : Caught). c.refused) (sym (front_from-append (caught_after v) begun users (part.End ∷ [])))
    ∙ ap (λ (c : Caught). (front_from (caught_after v) c (users ++ part.End ∷ [])).refused) (sym (caption_begun v before p.did p.sdid size is reads.can)) ∙ some in
    let cases : (w : Option Why) → last.refused ≡ w → RefusesFor v (handed before) (packet_parts frame) reason = elim [
      | None ↦ λ none. let clash : None ≡ Some reason = sym (end_unrefused v last none) ∙ ends in absurd cc
      | Some why ↦ λ refused.
          let refuses = users_refused v before size [] [] p.user reason reads.read (same_reason v last why reason (part.End ∷ []) refused ends) in
          subst (λ ps. RefusesFor v ps (packet_parts frame) reason) (append-nil (handed before))
          (refused_behind v before [] (packet_parts frame) reason (subst (λ ps. RefusesFor (verdict_behind v before) [] ps reason) reads.made refuses))
    ] in cases _ refl

-- packets that carry frames
packets_refused : (v : Verdict CdpPart) (before : List (List CdpPart)) (packets : List AncillaryPacket) (frames : List Frame) (reason : Why) → CarryFrames packets frames
    → (front_from (caught_after v) (idle before) (flat_map word_parts packets)).refused ≡ Some reason → RefusesFor v (handed before) (flat_map packet_parts frames) reason
packets_refused v before _ _ reason no_packet some = absurd cc
packets_refused v before _ _ reason (caption p packets frame frames is carries rest) some =
    let others = flat_map word_parts packets in
    let first = front_from (caught_after v) (idle before) (word_parts p) in
    let from = λ (c : Caught). (front_from (caught_after v) c others).refused in
    let whole : from first ≡ Some reason = ap (λ (c : Caught). c.refused) (sym (front_from-append (caught_after v) (idle before) (word_parts p) others)) ∙ some in
    let cases : (w : Option Why) → first.refused ≡ w → RefusesFor v (handed before) (packet_parts frame ++ flat_map packet_parts frames) reason = elim [
      | None ↦ λ unrefused.
          let kept = caption_kept v before p is unrefused in
          let same = (packet_once kept.frame frame (user_bytes p) (user_bytes p) [] [] kept.carries carries refl).packet in
          let accepted = subst (λ f. AreAccepted v (handed before) (packet_parts f)) same kept.accepted in
          let more = packets_refused v (packet_parts frame ∷ before) packets frames reason rest (ap from (sym (caption_caught v before p frame is carries accepted)) ∙ whole) in
          refuses-behind v (handed before) (packet_parts frame) (flat_map packet_parts frames) reason accepted
          (subst (λ ps. RefusesFor v ps (flat_map packet_parts frames) reason) (handed-cons (packet_parts frame) before) more)
      | Some why ↦ λ refused.
          refuses-append v (handed before) (packet_parts frame) (flat_map packet_parts frames) reason
          (caption_refused v before p frame reason is carries (same_reason v first why reason others refused whole))
    ] in cases _ refl
packets_refused v before _ _ reason (foreign p packets frames other rest) some =
    let others = flat_map word_parts packets in
    packets_refused v before packets frames reason rest
    (ap (λ (c : Caught). (front_from (caught_after v) c others).refused) (sym (foreign_caught v before p other))
    ∙ ap (λ (c : Caught). c.refused) (sym (front_from-append (caught_after v) (idle before) (word_parts p) others)) ∙ some)

-- a file of frames that is refused
pub file_refused : (v : Verdict CdpPart) (frames : List Frame) (bytes : List ℕ) (reason : Why) → IsFileOf frames bytes → why_of (refusal_of v bytes) ≡ Some reason
    → IsRefusedFor v (flat_map packet_parts frames) reason
file_refused v frames bytes reason is some =
    let reads = file_is_read is.packets bytes is.file in
    let refuses = reading_refuses anc_syntax (caption_verdict v) (place_by 2) [] [] bytes reason reads.taken some in
    refused_for v (flat_map packet_parts frames) reason (packets_refused v [] is.packets frames reason is.carried
    (ap (λ (ps : List WordPart). (caught_of v ps).refused) (sym reads.made) ∙ refuses_caught v [] (parts_of anc_syntax bytes) reason refuses))
