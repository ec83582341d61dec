-- What is caught of parts: a refusal stays, a packet of captions adds its parts, and another changes nothing.
use Rattle.std.proofs.Common.{◌≡◌, ℕ, ◌%◌, List, [], ◌∷◌, ◌++◌, map, reverse, Option, Some, None, refl, ap, sym, subst, ◌∙◌, append_assoc, append-nil}
use Rattle.std.proofs.lemmas.List.{reverse-append, reverse-reverse}
use Rattle.std.proofs.lemmas.List.Concat.{flat_map-append}
use Rattle.std.proofs.lemmas.List.Folds.{flat_map-map}
use Rattle.std.specs.List.{flat_map}
use Rattle.cc_base.specs.declared.refusal.Refusal.{Refusal}
use Rattle.cc_base.specs.declared.why.Why.{Why}
use Rattle.cc_base.specs.Feeding.{Reading, Verdict, place_by, why_of}
use Rattle.cc_base.specs.Steps.{AreAccepted, IsTaken, front_from, step_parts}
use Rattle.cc_base.specs.Syntax.{AllRead, AllTaken, open_behind, parts_from, parts_of}
use Rattle.cc_base.proofs.StepLemmas.{AreAccepted-append, AreAccepted-split, front_from-append}
use Rattle.cc_base.proofs.SyntaxLemmas.{reading-accepted, reading-none}
use Rattle.anc_words.specs.declared.parts.WordPart.{WordPart}
use Rattle.anc_words.specs.declared.parts.WordPart.TheVariants as part
use Rattle.anc_words.specs.Reading.{anc_syntax}
use Rattle.cdp_packets.specs.declared.parts.CdpPart.{CdpPart}
use Rattle.cdp_packets.specs.PacketParts.{packet_parts}
use Rattle.cdp_packets.specs.Packets.{Frame}
use Rattle.cdp_packets.specs.Reading.{cdp_syntax, judge_cdp, nothing_open, open_after}
use Rattle.words_files.specs.Catching.{Caught, OpenCaption, caption_verdict, caught_after, caught_in, caught_of, nothing_caught, packet_gone_on, reading_behind, refusal_of, unless_refused, verdict_behind}

-- a refusal stays
pub caught-refused : (v : Verdict CdpPart) (caught : Caught) (why : Why) (parts : List WordPart) → caught.refused ≡ Some why
    → front_from (caught_after v) caught parts ≡ caught
caught-refused v caught why [] is = refl
caught-refused v caught why (p ∷ parts) is =
    let same : caught_after v caught p ≡ caught = ap (λ (w : Option Why). unless_refused v w p caught) is in
    ap (λ (c : Caught). front_from (caught_after v) c parts) same ∙ caught-refused v caught why parts is

-- so none was refused before, where none is
pub unrefused_before : (v : Verdict CdpPart) (caught : Caught) (parts : List WordPart) → (front_from (caught_after v) caught parts).refused ≡ None
    → caught.refused ≡ None
unrefused_before v caught parts none =
    let cases : (w : Option Why) → caught.refused ≡ w → caught.refused ≡ None = elim [
      | None ↦ λ is. is
      | Some why ↦ λ is.
          let clash : Some why ≡ None = sym is ∙ ap (λ (c : Caught). c.refused) (sym (caught-refused v caught why parts is)) ∙ none in
          absurd cc
    ] in cases _ refl

pub unrefused_first : (v : Verdict CdpPart) (caught : Caught) (parts more : List WordPart) → (front_from (caught_after v) caught (parts ++ more)).refused ≡ None
    → (front_from (caught_after v) caught parts).refused ≡ None
unrefused_first v caught parts more none =
    unrefused_before v (front_from (caught_after v) caught parts) more
    (ap (λ (c : Caught). c.refused) (sym (front_from-append (caught_after v) caught parts more)) ∙ none)

-- parts none of which is refused are accepted, each after those before it
pub accepted_of : (v : Verdict CdpPart) (above parts : List WordPart) → (caught_of v (above ++ parts)).refused ≡ None → AreAccepted (caption_verdict v) above parts
accepted_of v above [] none = tt
accepted_of v above (p ∷ parts) none =
    let rest : (caught_of v ((above ++ p ∷ []) ++ parts)).refused ≡ None =
    ap (λ (ps : List WordPart). (caught_of v ps).refused) (append_assoc above (p ∷ []) parts) ∙ none in
    (unrefused_first v nothing_caught (above ++ p ∷ []) parts rest, accepted_of v (above ++ p ∷ []) parts rest)

-- and the other way round
pub unrefused_of : (v : Verdict CdpPart) (above parts : List WordPart) → (caught_of v above).refused ≡ None → AreAccepted (caption_verdict v) above parts
    → (caught_of v (above ++ parts)).refused ≡ None
unrefused_of v above [] none all = ap (λ (ps : List WordPart). (caught_of v ps).refused) (append-nil above) ∙ none
unrefused_of v above (p ∷ parts) none (is, all) =
    ap (λ (ps : List WordPart). (caught_of v ps).refused) (sym (append_assoc above (p ∷ []) parts)) ∙ unrefused_of v (above ++ p ∷ []) parts is all

-- bytes none of whose words is refused, and none of their parts
pub read_caught : (v : Verdict CdpPart) (bytes : List ℕ) → AllRead anc_syntax bytes → (caught_of v (parts_of anc_syntax bytes)).refused ≡ None
    → (caught_in v bytes ≡ caught_of v (parts_of anc_syntax bytes)) × (refusal_of v bytes ≡ None)
read_caught v bytes read none =
    let is = reading-accepted anc_syntax (caption_verdict v) (place_by 2) [] [] bytes read (accepted_of v [] (parts_of anc_syntax bytes) none) in
    (ap (λ (r : Reading WordPart). caught_of v r.parts) is, ap (λ (r : Reading WordPart). r.refusal) is)

-- and the other way round
pub caught_read : (v : Verdict CdpPart) (bytes : List ℕ) → refusal_of v bytes ≡ None → AllRead anc_syntax bytes × ((caught_of v (parts_of anc_syntax bytes)).refused ≡ None)
caught_read v bytes none =
    let (read, accepted) = reading-none anc_syntax (caption_verdict v) (place_by 2) [] [] bytes none in
    (read, unrefused_of v [] (parts_of anc_syntax bytes) refl accepted)

-- the parts of frames, oldest first
abbrev pub handed : List (List CdpPart) → List CdpPart
handed frames = flat_map (λ parts. parts) (reverse frames)

-- one more frame
pub handed-cons : (parts : List CdpPart) (frames : List (List CdpPart)) → handed (parts ∷ frames) ≡ handed frames ++ parts
handed-cons parts frames =
    ap (λ (f : List (List CdpPart)). flat_map (λ ps. ps) f) (reverse-append (parts ∷ []) frames)
    ∙ flat_map-append (λ ps. ps) (reverse frames) (parts ∷ []) ∙ ap (λ ps. handed frames ++ ps) (append-nil parts)

-- the parts of a file's frames
pub handed-packets : (frames : List Frame) → handed (reverse (map packet_parts frames)) ≡ flat_map packet_parts frames
handed-packets frames =
    ap (λ (f : List (List CdpPart)). flat_map (λ ps. ps) f) (reverse-reverse (map packet_parts frames))
    ∙ flat_map-map (λ ps. ps) packet_parts frames

-- the layers above take parts after frames
pub accepted_behind : (v : Verdict CdpPart) (frames : List (List CdpPart)) (above parts : List CdpPart) → AreAccepted (verdict_behind v frames) above parts
    → AreAccepted v (handed frames ++ above) parts
accepted_behind v frames above [] all = tt
accepted_behind v frames above (p ∷ parts) (is, all) =
    (is, subst (λ ps. AreAccepted v ps parts) (sym (append_assoc (handed frames) above (p ∷ []))) (accepted_behind v frames (above ++ p ∷ []) parts all))

-- and the other way round
pub behind_accepted : (v : Verdict CdpPart) (frames : List (List CdpPart)) (above parts : List CdpPart) → AreAccepted v (handed frames ++ above) parts
    → AreAccepted (verdict_behind v frames) above parts
behind_accepted v frames above [] all = tt
behind_accepted v frames above (p ∷ parts) (is, all) =
    (is, behind_accepted v frames (above ++ p ∷ []) parts (subst (λ ps. AreAccepted v ps parts) (append_assoc (handed frames) above (p ∷ [])) all))

-- no packet of captions is open, after these frames
abbrev pub idle : List (List CdpPart) → Caught
idle frames = record { open_caption = None; frames = frames; refused = None }

-- this one is
abbrev pub opened : List (List CdpPart) → OpenCaption → Caught
opened frames o = record { open_caption = Some o; frames = frames; refused = None }

abbrev pub open_of : ℕ → List ℕ → List CdpPart → OpenCaption
open_of size bytes parts = record { size = size; bytes = bytes; parts = parts }

-- the bytes of user words
abbrev pub lows : List ℕ → List ℕ
lows user = map (λ word. word % 256) user

-- one user word of an open packet
pub user_step : (v : Verdict CdpPart) (frames : List (List CdpPart)) (size : ℕ) (bytes : List ℕ) (parts : List CdpPart) (word : ℕ)
    → IsTaken (judge_cdp size (open_behind (cdp_syntax size) bytes) (word % 256))
    → AreAccepted (verdict_behind v frames) parts (step_parts (judge_cdp size (open_behind (cdp_syntax size) bytes) (word % 256)))
    → caught_after v (opened frames (open_of size bytes parts)) (part.User word)
    ≡ opened frames (open_of size (bytes ++ word % 256 ∷ []) (parts ++ step_parts (judge_cdp size (open_behind (cdp_syntax size) bytes) (word % 256))))
user_step v frames size bytes parts word is accepted =
    let step = judge_cdp size (open_behind (cdp_syntax size) bytes) (word % 256) in
    let read = reading-accepted (cdp_syntax size) (verdict_behind v frames) (place_by 1) bytes parts (word % 256 ∷ []) (is, tt)
    (subst (AreAccepted (verdict_behind v frames) parts) (sym (append-nil (step_parts step))) accepted) in
    let here = opened frames (open_of size bytes parts) in
    ap (λ (r : Reading CdpPart). packet_gone_on (why_of r.refusal) (open_of size (bytes ++ word % 256 ∷ []) (parts ++ r.parts)) here) read
    ∙ ap (λ ps. opened frames (open_of size (bytes ++ word % 256 ∷ []) (parts ++ ps))) (append-nil (step_parts step))

-- no reason, no refusal
none-why : (refusal : Option Refusal) → why_of refusal ≡ None → refusal ≡ None
none-why None none = refl
none-why (Some refusal) none = absurd cc

none-goes : (w : Option Why) (o : OpenCaption) (caught : Caught) → caught.refused ≡ None → (packet_gone_on w o caught).refused ≡ None → w ≡ None
none-goes None o caught was none = refl
none-goes (Some why) o caught was none = absurd cc

-- and the other way round
pub user_kept : (v : Verdict CdpPart) (frames : List (List CdpPart)) (size : ℕ) (bytes : List ℕ) (parts : List CdpPart) (word : ℕ)
    → (caught_after v (opened frames (open_of size bytes parts)) (part.User word)).refused ≡ None
    → IsTaken (judge_cdp size (open_behind (cdp_syntax size) bytes) (word % 256))
    × AreAccepted (verdict_behind v frames) parts (step_parts (judge_cdp size (open_behind (cdp_syntax size) bytes) (word % 256)))
user_kept v frames size bytes parts word none =
    let step = judge_cdp size (open_behind (cdp_syntax size) bytes) (word % 256) in
    let read = reading_behind v frames (open_of size bytes parts) (word % 256) in
    let unrefused = none-why read.refusal (none-goes (why_of read.refusal) _ (opened frames (open_of size bytes parts)) refl none) in
    let (taken, accepted) = reading-none (cdp_syntax size) (verdict_behind v frames) (place_by 1) bytes parts (word % 256 ∷ []) unrefused in
    (taken.0, subst (AreAccepted (verdict_behind v frames) parts) (append-nil (step_parts step)) accepted)

-- user words of an open packet
pub users_caught : (v : Verdict CdpPart) (frames : List (List CdpPart)) (size : ℕ) (bytes : List ℕ) (parts : List CdpPart) (user : List ℕ)
    → AllTaken (cdp_syntax size) (open_behind (cdp_syntax size) bytes) (lows user)
    → AreAccepted (verdict_behind v frames) parts (parts_from (cdp_syntax size) (open_behind (cdp_syntax size) bytes) (lows user))
    → front_from (caught_after v) (opened frames (open_of size bytes parts)) (map part.User user)
    ≡ opened frames (open_of size (bytes ++ lows user) (parts ++ parts_from (cdp_syntax size) (open_behind (cdp_syntax size) bytes) (lows user)))
users_caught v frames size bytes parts [] taken accepted =
    ap (λ bs. opened frames (open_of size bs parts)) (sym (append-nil bytes))
    ∙ ap (λ ps. opened frames (open_of size (bytes ++ []) ps)) (sym (append-nil parts))
users_caught v frames size bytes parts (word ∷ user) (is, taken) accepted =
    let byte = word % 256 in
    let judge = judge_cdp size in
    let after = open_after size in
    let step = judge (open_behind (cdp_syntax size) bytes) byte in
    let behind : after (open_behind (cdp_syntax size) bytes) byte ≡ open_behind (cdp_syntax size) (bytes ++ byte ∷ []) = sym (front_from-append after nothing_open bytes (byte ∷ [])) in
    let (one, others) = AreAccepted-split (verdict_behind v frames) parts (step_parts step) _ accepted in
    let rest = users_caught v frames size (bytes ++ byte ∷ []) (parts ++ step_parts step) user
    (subst (λ f. AllTaken (cdp_syntax size) f (lows user)) behind taken)
    (subst (λ f. AreAccepted (verdict_behind v frames) (parts ++ step_parts step) (parts_from (cdp_syntax size) f (lows user))) behind others) in
    ap (λ (c : Caught). front_from (caught_after v) c (map part.User user)) (user_step v frames size bytes parts word is one)
    ∙ rest
    ∙ ap (λ f. opened frames (open_of size ((bytes ++ byte ∷ []) ++ lows user) ((parts ++ step_parts step) ++ parts_from (cdp_syntax size) f (lows user)))) (sym behind)
    ∙ ap (λ bs. opened frames (open_of size bs ((parts ++ step_parts step) ++ parts_from (cdp_syntax size) (after (open_behind (cdp_syntax size) bytes) byte) (lows user)))) (append_assoc bytes (byte ∷ []) (lows user))
    ∙ ap (λ ps. opened frames (open_of size (bytes ++ byte ∷ lows user) ps)) (append_assoc parts (step_parts step) _)

-- and the other way round
pub users_kept : (v : Verdict CdpPart) (frames : List (List CdpPart)) (size : ℕ) (bytes : List ℕ) (parts : List CdpPart) (user : List ℕ)
    → (front_from (caught_after v) (opened frames (open_of size bytes parts)) (map part.User user)).refused ≡ None
    → AllTaken (cdp_syntax size) (open_behind (cdp_syntax size) bytes) (lows user)
    × AreAccepted (verdict_behind v frames) parts (parts_from (cdp_syntax size) (open_behind (cdp_syntax size) bytes) (lows user))
users_kept v frames size bytes parts [] none = (tt, tt)
users_kept v frames size bytes parts (word ∷ user) none =
    let byte = word % 256 in
    let judge = judge_cdp size in
    let after = open_after size in
    let step = judge (open_behind (cdp_syntax size) bytes) byte in
    let behind : open_behind (cdp_syntax size) (bytes ++ byte ∷ []) ≡ after (open_behind (cdp_syntax size) bytes) byte = front_from-append after nothing_open bytes (byte ∷ []) in
    let (is, one) = user_kept v frames size bytes parts word
    (unrefused_before v (caught_after v (opened frames (open_of size bytes parts)) (part.User word)) (map part.User user) none) in
    let rest = ap (λ (c : Caught). (front_from (caught_after v) c (map part.User user)).refused) (sym (user_step v frames size bytes parts word is one)) ∙ none in
    let (taken, others) = users_kept v frames size (bytes ++ byte ∷ []) (parts ++ step_parts step) user rest in (
      (is, subst (λ f. AllTaken (cdp_syntax size) f (lows user)) behind taken),
      AreAccepted-append (verdict_behind v frames) parts (step_parts step) _ one
          (subst (λ f. AreAccepted (verdict_behind v frames) (parts ++ step_parts step) (parts_from (cdp_syntax size) f (lows user))) behind others),
    )

-- user words change nothing where no packet of captions is open
pub foreign_users : (v : Verdict CdpPart) (frames : List (List CdpPart)) (user : List ℕ) → front_from (caught_after v) (idle frames) (map part.User user) ≡ idle frames
foreign_users v frames [] = refl
foreign_users v frames (word ∷ user) = foreign_users v frames user
