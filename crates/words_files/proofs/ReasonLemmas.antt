-- The reason for which a word is refused is that for which it offends, and there is one.
use Rattle.std.proofs.Common.{◌≡◌, ℕ, ◌%◌, ◌<◌, ◌==◌, ◌||◌, ◌⊎◌, inl, inr, not, nat_lt, if◌then◌else◌, Bool, true, false, List, [], ◌∷◌, ◌++◌, length, map, Option, Some, None, refl, ap, sym, subst, ◌∙◌, arith, append_assoc, append-nil, length-append}
use Rattle.std.proofs.lemmas.List.{length-map}
use Rattle.std.proofs.lemmas.List.Elements.{All-append, All-cons, All-map, All-nil}
use Rattle.std.specs.List.{All, flat_map}
use Rattle.cc_base.specs.declared.step.Step.{Step}
use Rattle.cc_base.specs.declared.step.Step.TheVariants.{Nothing, One, Two, Refuse}
use Rattle.cc_base.specs.declared.why.Why.{Why}
use Rattle.cc_base.specs.declared.why.Why.TheVariants as why
use Rattle.cc_base.specs.Feeding.{Handed, Reading, Verdict, hand, hand_first, read_first, refused_at, why_of}
use Rattle.cc_base.specs.Steps.{AreAccepted, IsTaken, front_from, step_parts}
use Rattle.cc_base.specs.Syntax.{AllRead, open_behind, parts_from, parts_of}
use Rattle.cc_base.proofs.StepLemmas.{front_from-append}
use Rattle.cc_base.proofs.SyntaxLemmas.{AllTaken-append}
use Rattle.anc_words.specs.declared.parts.WordPart.{WordPart}
use Rattle.anc_words.specs.declared.parts.WordPart.TheVariants as part
use Rattle.anc_words.specs.EightBitWords.{IsEightBit}
use Rattle.anc_words.specs.Reading.{Open, anc_syntax, is_caption, is_eight_bit, judge_ten_bits, judge_word, packet_parts as word_parts, word_syntax, words_after}
use Rattle.anc_words.specs.Writing.{checksum_word}
use Rattle.anc_words.specs.Words.{words_of}
use Rattle.anc_words.proofs.ByteLemmas.{open-words_of, words_of-taken}
use Rattle.anc_words.proofs.OffendsLemmas.{below-yes, offends-refused, refused-offends}
use Rattle.anc_words.proofs.ReadLemmas.{is_eight_bit-true, judge_word-below}
use Rattle.anc_words.proofs.SoundLemmas.{IsBegun, IsEightBit-passed, IsUserBehind-passed, sound, test-below}
use Rattle.cdp_packets.specs.declared.parts.CdpPart.{CdpPart}
use Rattle.cdp_packets.specs.Packets.{IsCdp}
use Rattle.cdp_packets.specs.Reading.{IsPacketLength, cdp_syntax, judge_cdp, nothing_open}
use Rattle.cdp_packets.proofs.FillLemmas.{goes_on, refused_goes_nowhere}
use Rattle.cdp_packets.specs.Refusals.{StandsAt}
use Rattle.cdp_packets.proofs.PlaceLemmas.{refusal_stands}
use Rattle.cdp_packets.proofs.StandingLemmas.{StandsAt-one}
use Rattle.words_files.specs.Catching.{Caught, caption_verdict, caught_after, caught_of, is_packet_length, nothing_caught, packet_gone_on as goes_on_with, reading_behind, reason_of, refusal_of, verdict_behind}
use Rattle.words_files.specs.Reasons.{CaptionCarries, CaptionCountIsNext, GoesNowhere, OffendsFor, in_packet, as_length, as_byte}
use Rattle.words_files.specs.Verdicts.{RefusesNone}
use Rattle.words_files.proofs.BeginsLemmas.{parts-split}
use Rattle.words_files.proofs.CatchingLemmas.{behind_accepted, caught_read, foreign_users, handed, idle, lows, open_of, opened, unrefused_first, users_caught}
use Rattle.words_files.proofs.CaughtLemmas.{begun_by, caption_begun, captions-is, captions-no, captions-true, foreign_begun, has_captions, length-is, length-true, newest_first, packets_caught, packets_kept}
use Rattle.words_files.proofs.FinishLemmas.{body_parts, open_caption}
use Rattle.words_files.proofs.RefusedLemmas.{end_unrefused, first-why, goes-why}

-- under a layer that refuses no part a refused step is the reader's own
quiet_hand : (v : Verdict CdpPart) → RefusesNone v → (above : List CdpPart) (step : Step CdpPart) (reason : Why) → (hand v above step).why ≡ Some reason → step ≡ Refuse reason
quiet_hand v quiet above Nothing reason is = absurd cc
quiet_hand v quiet above (One p) reason is =
    let end : Handed CdpPart = record { parts = []; why = None } in
    let none : (hand v above (One p)).why ≡ None = ap (λ w. (hand_first w p end).why) (quiet above p) in
    let clash : None ≡ Some reason = sym none ∙ is in absurd cc
quiet_hand v quiet above (Two p q) reason is =
    let end : Handed CdpPart = record { parts = []; why = None } in
    let none : (hand v above (Two p q)).why ≡ None =
    ap (λ w. (hand_first w p (hand_first (v (above ++ p ∷ []) q) q end)).why) (quiet above p) ∙ ap (λ w. (hand_first w q end).why) (quiet (above ++ p ∷ []) q) in
    let clash : None ≡ Some reason = sym none ∙ is in absurd cc
quiet_hand v quiet above (Refuse why) reason is = cc

quiet_accepts : (v : Verdict CdpPart) → RefusesNone v → (above parts : List CdpPart) → AreAccepted v above parts
quiet_accepts v quiet above [] = tt
quiet_accepts v quiet above (p ∷ parts) = (quiet above p, quiet_accepts v quiet (above ++ p ∷ []) parts)

-- a step that is taken or refused
either_nothing : (verdict : Verdict WordPart) (above : List WordPart) (t : Bool) (fails reason : Why)
    → (let s : Step WordPart = if t then Nothing else Refuse fails in (hand verdict above s).why ≡ Some reason)
    → (let s : Step WordPart = if t then Nothing else Refuse fails in s ≡ Refuse reason)
either_nothing verdict above true fails reason is = absurd cc
either_nothing verdict above false fails reason is = cc

either_one : (verdict : Verdict WordPart) (above : List WordPart) (t : Bool) (p : WordPart) (fails reason : Why)
    → (let s : Step WordPart = if t then One p else Refuse fails in (hand verdict above s).why ≡ Some reason)
    → (let s : Step WordPart = if t then One p else Refuse fails in s ≡ Refuse reason) ⊎ ((t ≡ true) × (verdict above p ≡ Some reason))
either_one verdict above true p fails reason is =
    let end : Handed WordPart = record { parts = []; why = None } in
    inr (refl, sym (first-why (verdict above p) p end refl) ∙ is)
either_one verdict above false p fails reason is = inl cc

-- a word of ten bits or more
peel : (verdict : Verdict WordPart) (above : List WordPart) (words : List ℕ) (word : ℕ) (reason : Why) (goal : Type 0)
    → (word < 0x400 → judge_word words word ≡ judge_ten_bits words word → (hand verdict above (judge_ten_bits words word)).why ≡ Some reason → goal)
    → (judge_word words word ≡ Refuse reason → goal) → (hand verdict above (judge_word words word)).why ≡ Some reason → goal
peel verdict above words word reason goal taken refused is =
    let cases : (t : Bool) → nat_lt word 0x400 ≡ t → goal = elim [
      | true ↦ λ test.
          let same = ap (λ (t : Bool). let s : Step WordPart = if t then judge_ten_bits words word else Refuse why.HighBits in s) test in
          taken (test-below word 0x400 test) same (ap (λ s. (hand verdict above s).why) (sym same) ∙ is)
      | false ↦ λ test.
          let same = ap (λ (t : Bool). let s : Step WordPart = if t then judge_ten_bits words word else Refuse why.HighBits in s) test in
          let high : Some why.HighBits ≡ Some reason = ap (λ s. (hand verdict above s).why) (sym same) ∙ is in
          refused (same ∙ cc)
    ] in cases _ refl

-- after words where no part ends
plain : (verdict : Verdict WordPart) (above : List WordPart) (words : List ℕ) (word : ℕ) (t : Bool) (fails reason : Why)
    → (let s : Step WordPart = if t then Nothing else Refuse fails in judge_ten_bits words word ≡ s)
    → (hand verdict above (judge_word words word)).why ≡ Some reason → OffendsFor words word reason
plain verdict above words word t fails reason same is =
    peel verdict above words word reason (OffendsFor words word reason)
    (λ small below h. in_packet reason (refused-offends words word reason
    (below ∙ same ∙ either_nothing verdict above t fails reason (ap (λ s. (hand verdict above s).why) (sym same) ∙ h))))
    (λ refused. in_packet reason (refused-offends words word reason refused)) is

-- five words make no part
no_parts : (t u : Bool) (fails : Why) → (let s : Step WordPart = if t then (if u then Nothing else Refuse fails) else Refuse why.HighBits in step_parts s) ≡ []
no_parts true true fails = refl
no_parts true false fails = refl
no_parts false u fails = refl

five_parts : (a b c d e : ℕ) → parts_from word_syntax [] (a ∷ b ∷ c ∷ d ∷ e ∷ []) ≡ []
five_parts a b c d e =
    ap (λ ps. ps ++ parts_from word_syntax (a ∷ []) (b ∷ c ∷ d ∷ e ∷ [])) (no_parts (nat_lt a 0x400) (a == 0x000) why.Flag)
    ∙ ap (λ ps. ps ++ parts_from word_syntax (a ∷ b ∷ []) (c ∷ d ∷ e ∷ [])) (no_parts (nat_lt b 0x400) (b == 0x3FF) why.Flag)
    ∙ ap (λ ps. ps ++ parts_from word_syntax (a ∷ b ∷ c ∷ []) (d ∷ e ∷ [])) (no_parts (nat_lt c 0x400) (c == 0x3FF) why.Flag)
    ∙ ap (λ ps. ps ++ parts_from word_syntax (a ∷ b ∷ c ∷ d ∷ []) (e ∷ [])) (no_parts (nat_lt d 0x400) (is_eight_bit d) why.WordParity)
    ∙ ap (λ ps. ps ++ []) (no_parts (nat_lt e 0x400) (is_eight_bit e) why.WordParity)

-- what a part is refused for, after others
part_refused : (v : Verdict CdpPart) (above : List WordPart) (state : Caught) (p : WordPart) (reason : Why) → caught_of v above ≡ state
    → caption_verdict v above p ≡ Some reason → (caught_after v state p).refused ≡ Some reason
part_refused v above state p reason same is =
    ap (λ (c : Caught). (caught_after v c p).refused) (sym same)
    ∙ ap (λ (c : Caught). c.refused) (sym (front_from-append (caught_after v) nothing_caught above (p ∷ []))) ∙ is

-- a count that is refused is one of captions, and no length
length_row : (frames : List (List CdpPart)) (size : ℕ) (b fits : Bool) (reason : Why) → (begun_by frames size b fits).refused ≡ Some reason
    → (b ≡ true) × (fits ≡ false) × (why.Length ≡ reason)
length_row frames size true true reason is = absurd cc
length_row frames size true false reason is = (refl, refl, cc)
length_row frames size false fits reason is = absurd cc

-- a byte that is refused
one-why : (w : Option Why) (place : ℕ) (parts : List CdpPart) (end : Reading CdpPart) → end.refusal ≡ None → why_of (read_first (refused_at place w) parts end).refusal ≡ w
one-why None place parts end none = ap why_of none
one-why (Some why) place parts end none = refl

byte_refused : (v : Verdict CdpPart) → RefusesNone v → (frames : List (List CdpPart)) (size : ℕ) (bytes : List ℕ) (parts : List CdpPart) (word : ℕ) (reason : Why)
    → (caught_after v (opened frames (open_of size bytes parts)) (part.User word)).refused ≡ Some reason
    → judge_cdp size (open_behind (cdp_syntax size) bytes) (word % 256) ≡ Refuse reason
byte_refused v quiet frames size bytes parts word reason is =
    let o = open_of size bytes parts in
    let step = judge_cdp size (open_behind (cdp_syntax size) bytes) (word % 256) in
    let read = reading_behind v frames o (word % 256) in
    let above = verdict_behind v frames in
    let refused = goes-why (why_of read.refusal) _ (opened frames o) reason refl is in
    let end : Reading CdpPart = record { parts = []; refusal = None } in
    let why_is : (hand above parts step).why ≡ Some reason = sym (one-why (hand above parts step).why _ (hand above parts step).parts end refl) ∙ refused in
    quiet_hand above (λ others p. quiet _ p) parts step reason why_is

-- a user word, or the checksum word
body_stands : (v : Verdict CdpPart) → RefusesNone v → (frames : List (List CdpPart)) (above : List WordPart) (a b c did sdid count : ℕ) (user : List ℕ)
    → caught_of v above ≡ front_from (caught_after v) (idle frames) (part.Start (did % 256) (sdid % 256) (count % 256) ∷ map part.User user)
    → (caught_of v above).refused ≡ None → (word : ℕ) (reason : Why)
    → (hand (caption_verdict v) above (judge_word (a ∷ b ∷ c ∷ did ∷ sdid ∷ count ∷ user) word)).why ≡ Some reason
    → OffendsFor (a ∷ b ∷ c ∷ did ∷ sdid ∷ count ∷ user) word reason
body_stands v quiet frames above a b c did sdid count user state none word reason is =
    let words = a ∷ b ∷ c ∷ did ∷ sdid ∷ count ∷ user in
    let size = count % 256 in
    let goal = OffendsFor words word reason in
    let verdict = caption_verdict v in
    let free = is_eight_bit word || not (is_caption did sdid) in
    let in_user : Step WordPart = if free then One (part.User word) else Refuse why.WordParity in
    let sum = word == checksum_word (did ∷ sdid ∷ count ∷ user) in
    let at_end : Step WordPart = if sum then One part.End else Refuse why.AncSum in
    let here : judge_word words word ≡ Refuse reason → goal = λ refused. in_packet reason (refused-offends words word reason refused) in
    let user_refused : word < 0x400 → nat_lt (length user) size ≡ true → free ≡ true → verdict above (part.User word) ≡ Some reason → goal = λ small more passes said.
    let captions : (t : Bool) → has_captions (did % 256) (sdid % 256) ≡ t → goal = elim [
      | true ↦ λ test.
          let ids = captions-is (did % 256) (sdid % 256) test in
          let kept = open_caption v frames (did % 256) (sdid % 256) size user ids (ap (λ (x : Caught). x.refused) (sym state) ∙ none) in
          let bytes = lows user in
          let parts = parts_of (cdp_syntax size) bytes in
          let begun = ap (λ (x : Caught). front_from (caught_after v) x (map part.User user)) (caption_begun v frames (did % 256) (sdid % 256) size ids kept.can)
          ∙ users_caught v frames size [] [] user kept.read (quiet_accepts (verdict_behind v frames) (λ others p. quiet _ p) [] parts) in
          let refused = byte_refused v quiet frames size bytes parts word reason (part_refused v above (opened frames (open_of size bytes parts)) (part.User word) reason (state ∙ begun) said) in
          let below = test-below (length user) size more in
          let long : length bytes ≡ length user = length-map user (λ w. w % 256) in
          as_byte reason size bytes (ids.0, ids.1, refl, refl, below) kept.can
          ((IsUserBehind-passed did sdid word small passes).caption ids.0 ids.1)
          (λ rest frame is_frame whole. refused_goes_nowhere size bytes (word % 256) reason rest frame refused is_frame whole)
          (refusal_stands size bytes (word % 256) reason kept.can (omega (arith, below, long)) kept.read refused)
      | false ↦ λ test.
          let other = captions-no (did % 256) (sdid % 256) test in
          let stays = ap (λ (x : Caught). front_from (caught_after v) x (map part.User user)) (foreign_begun v frames (did % 256) (sdid % 256) size other)
          ∙ foreign_users v frames user in
          let refused : None ≡ Some reason = part_refused v above (idle frames) (part.User word) reason (state ∙ stays) said in
          absurd cc
    ] in captions _ refl in
    peel verdict above words word reason goal
    (λ small below h.
    let cases : (t : Bool) → nat_lt (length user) size ≡ t → goal = elim [
      | true ↦ λ more.
          let same : judge_ten_bits words word ≡ in_user = ap (λ (t : Bool). let s : Step WordPart = if t then in_user else at_end in s) more in
          elim (either_one verdict above free (part.User word) why.WordParity reason (ap (λ s. (hand verdict above s).why) (sym same) ∙ h)) [
            | inl refused ↦ here (below ∙ same ∙ refused)
            | inr (passes, said) ↦ user_refused small more passes said
          ]
      | false ↦ λ full.
          let same : judge_ten_bits words word ≡ at_end = ap (λ (t : Bool). let s : Step WordPart = if t then in_user else at_end in s) full in
          elim (either_one verdict above sum part.End why.AncSum reason (ap (λ s. (hand verdict above s).why) (sym same) ∙ h)) [
            | inl refused ↦ here (below ∙ same ∙ refused)
            | inr (right, said) ↦
                let refused = part_refused v above (caught_of v above) part.End reason refl said in
                let clash : None ≡ Some reason = sym (end_unrefused v (caught_of v above) none) ∙ refused in
                absurd cc
          ]
    ] in cases _ refl) here is

-- the count of a packet
count_stands : (v : Verdict CdpPart) (frames : List (List CdpPart)) (above : List WordPart) (a b c did sdid : ℕ) → caught_of v above ≡ idle frames
    → (word : ℕ) (reason : Why) → (hand (caption_verdict v) above (judge_word (a ∷ b ∷ c ∷ did ∷ sdid ∷ []) word)).why ≡ Some reason
    → OffendsFor (a ∷ b ∷ c ∷ did ∷ sdid ∷ []) word reason
count_stands v frames above a b c did sdid state word reason is =
    let words = a ∷ b ∷ c ∷ did ∷ sdid ∷ [] in
    let size = word % 256 in
    let goal = OffendsFor words word reason in
    let start = part.Start (did % 256) (sdid % 256) size in
    let here : judge_word words word ≡ Refuse reason → goal = λ refused. in_packet reason (refused-offends words word reason refused) in
    peel (caption_verdict v) above words word reason goal
    (λ small below h. elim (either_one (caption_verdict v) above (is_eight_bit word) start why.WordParity reason h) [
      | inl refused ↦ here (below ∙ refused)
      | inr (passes, said) ↦
          let refused = part_refused v above (idle frames) start reason state said in
          let (captions, lacks, same) = length_row frames size (has_captions (did % 256) (sdid % 256)) (is_packet_length size) reason refused in
          let none : IsPacketLength size → ⊥ = λ can. (let clash : true ≡ false = sym (length-true size can) ∙ lacks in absurd cc) in
          subst (OffendsFor words word) same (as_length (captions-is (did % 256) (sdid % 256) captions) (IsEightBit-passed word passes) none)
    ]) here is

-- after the words of an open packet
pub reason_stands : (v : Verdict CdpPart) → RefusesNone v → (frames : List (List CdpPart)) (above : List WordPart) (words : List ℕ) → IsBegun words
    → caught_of v above ≡ front_from (caught_after v) (idle frames) (parts_from word_syntax [] words) → (caught_of v above).refused ≡ None
    → (word : ℕ) (reason : Why) → (hand (caption_verdict v) above (judge_word words word)).why ≡ Some reason → OffendsFor words word reason
reason_stands v quiet frames above [] begun state none word reason is = plain (caption_verdict v) above [] word (word == 0x000) why.Flag reason refl is
reason_stands v quiet frames above (a ∷ []) begun state none word reason is = plain (caption_verdict v) above (a ∷ []) word (word == 0x3FF) why.Flag reason refl is
reason_stands v quiet frames above (a ∷ b ∷ []) begun state none word reason is =
    plain (caption_verdict v) above (a ∷ b ∷ []) word (word == 0x3FF) why.Flag reason refl is
reason_stands v quiet frames above (a ∷ b ∷ c ∷ []) begun state none word reason is =
    plain (caption_verdict v) above (a ∷ b ∷ c ∷ []) word (is_eight_bit word) why.WordParity reason refl is
reason_stands v quiet frames above (a ∷ b ∷ c ∷ did ∷ []) begun state none word reason is =
    plain (caption_verdict v) above (a ∷ b ∷ c ∷ did ∷ []) word (is_eight_bit word) why.WordParity reason refl is
reason_stands v quiet frames above (a ∷ b ∷ c ∷ did ∷ sdid ∷ []) begun state none word reason is =
    count_stands v frames above a b c did sdid
    (state ∙ ap (λ ps. front_from (caught_after v) (idle frames) ps) (five_parts a b c did sdid)) word reason is
reason_stands v quiet frames above (a ∷ b ∷ c ∷ did ∷ sdid ∷ count ∷ user) begun state none word reason is =
    body_stands v quiet frames above a b c did sdid count user
    (state ∙ ap (λ ps. front_from (caught_after v) (idle frames) ps) (body_parts a b c did sdid count user begun)) none word reason is

-- what is caught of bytes none of whose words is refused: frames, and what the words say that are open
record Behind (v : Verdict CdpPart) (before : List ℕ) : Type 0 where
  pub frames : List (List CdpPart)
  pub words : List ℕ
  pub begun : IsBegun words
  pub open_is : (open_behind anc_syntax before).words ≡ words
  pub state : caught_of v (parts_of anc_syntax before) ≡ front_from (caught_after v) (idle frames) (parts_from word_syntax [] words)
  pub unrefused : (caught_of v (parts_of anc_syntax before)).refused ≡ None

behind_of : (v : Verdict CdpPart) (before : List ℕ) → refusal_of v before ≡ None → Behind v before
behind_of v before none =
    let (read, kept_all) = caught_read v before none in
    let behind = front_from words_after [] (words_of before) in
    let splits = sound (words_of before) (words_of-taken [] before read) in
    let parts = flat_map word_parts splits.packets in
    let open_parts = parts_from word_syntax [] behind in
    let all_parts = parts-split before splits.whole behind splits.packets splits.spelled splits.are in
    let all = ap (λ ps. (caught_of v ps).refused) (sym all_parts) ∙ kept_all in
    let kept = packets_kept v [] splits.packets (unrefused_first v (idle []) parts open_parts all) in
    let state : front_from (caught_after v) (idle []) parts ≡ idle (newest_first kept.frames) =
    packets_caught v [] splits.packets kept.frames kept.carried kept.accepted ∙ ap idle (append-nil (newest_first kept.frames)) in record {
      frames = newest_first kept.frames;
      words = behind;
      begun = splits.begun;
      open_is = ap (λ (o : Open). o.words) (open-words_of [] before);
      state = ap (caught_of v) all_parts ∙ front_from-append (caught_after v) (idle []) parts open_parts
          ∙ ap (λ (c : Caught). front_from (caught_after v) c open_parts) state;
      unrefused = kept_all;
    }

-- after bytes none of whose words is refused
pub reason_offends : (v : Verdict CdpPart) → RefusesNone v → (before : List ℕ) (word : ℕ) (reason : Why) → refusal_of v before ≡ None
    → reason_of v before word ≡ Some reason → OffendsFor (open_behind anc_syntax before).words word reason
reason_offends v quiet before word reason none is =
    let behind = behind_of v before none in
    subst (λ ws. OffendsFor ws word reason) (sym behind.open_is)
    (reason_stands v quiet behind.frames (parts_of anc_syntax before) behind.words behind.begun behind.state behind.unrefused word reason
    (ap (λ ws. (hand (caption_verdict v) (parts_of anc_syntax before) (judge_word ws word)).why) (sym behind.open_is) ∙ is))

-- an 8-bit word is no offence as the count, or as a user word, of captions
count_judged : (a b c did sdid word : ℕ) → IsEightBit (word % 256) word
    → (let s : Step WordPart = One (part.Start (did % 256) (sdid % 256) (word % 256)) in judge_word (a ∷ b ∷ c ∷ did ∷ sdid ∷ []) word ≡ s)
count_judged a b c did sdid word is =
    let step : Step WordPart = One (part.Start (did % 256) (sdid % 256) (word % 256)) in
    judge_word-below (a ∷ b ∷ c ∷ did ∷ sdid ∷ []) word is.ten_bits
    ∙ ap (λ (t : Bool). let s : Step WordPart = if t then step else Refuse why.WordParity in s) (is_eight_bit-true word is)

count_taken : (words : List ℕ) (word : ℕ) → CaptionCountIsNext words → IsEightBit (word % 256) word → IsTaken (judge_word words word)
count_taken [] word next is = absurd next
count_taken (a ∷ []) word next is = absurd next
count_taken (a ∷ b ∷ []) word next is = absurd next
count_taken (a ∷ b ∷ c ∷ []) word next is = absurd next
count_taken (a ∷ b ∷ c ∷ did ∷ []) word next is = absurd next
count_taken (a ∷ b ∷ c ∷ did ∷ sdid ∷ []) word next is = subst IsTaken (sym (count_judged a b c did sdid word is)) tt
count_taken (a ∷ b ∷ c ∷ did ∷ sdid ∷ count ∷ user) word next is = absurd next

user_judged : (a b c did sdid count : ℕ) (user : List ℕ) (word : ℕ) → length user < count % 256 → IsEightBit (word % 256) word
    → (let s : Step WordPart = One (part.User word) in judge_word (a ∷ b ∷ c ∷ did ∷ sdid ∷ count ∷ user) word ≡ s)
user_judged a b c did sdid count user word few is =
    let more : nat_lt (length user) (count % 256) ≡ true = below-yes (length user) (count % 256) few in
    let step : Step WordPart = One (part.User word) in
    let at_end : Step WordPart = if word == checksum_word (did ∷ sdid ∷ count ∷ user) then One part.End else Refuse why.AncSum in
    judge_word-below (a ∷ b ∷ c ∷ did ∷ sdid ∷ count ∷ user) word is.ten_bits
    ∙ ap (λ (t : Bool). let s : Step WordPart = if t then (if is_eight_bit word || not (is_caption did sdid) then step else Refuse why.WordParity) else at_end in s) more
    ∙ ap (λ (t : Bool). let s : Step WordPart = if t || not (is_caption did sdid) then step else Refuse why.WordParity in s) (is_eight_bit-true word is)

user_taken : (words : List ℕ) (word size : ℕ) (bytes : List ℕ) → CaptionCarries words size bytes → IsEightBit (word % 256) word → IsTaken (judge_word words word)
user_taken [] word size bytes carries is = absurd carries
user_taken (a ∷ []) word size bytes carries is = absurd carries
user_taken (a ∷ b ∷ []) word size bytes carries is = absurd carries
user_taken (a ∷ b ∷ c ∷ []) word size bytes carries is = absurd carries
user_taken (a ∷ b ∷ c ∷ did ∷ []) word size bytes carries is = absurd carries
user_taken (a ∷ b ∷ c ∷ did ∷ sdid ∷ []) word size bytes carries is = absurd carries
user_taken (a ∷ b ∷ c ∷ did ∷ sdid ∷ count ∷ user) word size bytes carries is =
    subst IsTaken (sym (user_judged a b c did sdid count user word (omega (arith, carries.2, carries.4)) is)) tt

-- the count of captions isn't a user word
count_or_user : (words : List ℕ) (size : ℕ) (bytes : List ℕ) → CaptionCountIsNext words → CaptionCarries words size bytes → ⊥
count_or_user [] size bytes next carries = next
count_or_user (a ∷ []) size bytes next carries = next
count_or_user (a ∷ b ∷ []) size bytes next carries = next
count_or_user (a ∷ b ∷ c ∷ []) size bytes next carries = next
count_or_user (a ∷ b ∷ c ∷ did ∷ []) size bytes next carries = next
count_or_user (a ∷ b ∷ c ∷ did ∷ sdid ∷ []) size bytes next carries = carries
count_or_user (a ∷ b ∷ c ∷ did ∷ sdid ∷ count ∷ user) size bytes next carries = next

-- words carry the bytes of one packet
carries_one : (words : List ℕ) (size other : ℕ) (bytes others : List ℕ) → CaptionCarries words size bytes → CaptionCarries words other others
    → (other ≡ size) × (others ≡ bytes)
carries_one [] size other bytes others one two = absurd one
carries_one (a ∷ []) size other bytes others one two = absurd one
carries_one (a ∷ b ∷ []) size other bytes others one two = absurd one
carries_one (a ∷ b ∷ c ∷ []) size other bytes others one two = absurd one
carries_one (a ∷ b ∷ c ∷ did ∷ []) size other bytes others one two = absurd one
carries_one (a ∷ b ∷ c ∷ did ∷ sdid ∷ []) size other bytes others one two = absurd one
carries_one (a ∷ b ∷ c ∷ did ∷ sdid ∷ count ∷ user) size other bytes others one two = (two.2 ∙ sym one.2, two.3 ∙ sym one.3)

-- a word offends for one reason
pub offends_for_one : (words : List ℕ) (word : ℕ) (reason other : Why) → OffendsFor words word reason → OffendsFor words word other → reason ≡ other
offends_for_one words word _ _ (in_packet reason is) (in_packet other also) =
    let same : (let s : Step WordPart = Refuse reason in s) ≡ Refuse other = sym (offends-refused words word reason is) ∙ offends-refused words word other also in cc
offends_for_one words word _ _ (in_packet reason is) (as_length next eight none) =
    absurd (subst IsTaken (offends-refused words word reason is) (count_taken words word next eight))
offends_for_one words word _ _ (in_packet reason is) (as_byte other size bytes carries can eight nowhere stands) =
    absurd (subst IsTaken (offends-refused words word reason is) (user_taken words word size bytes carries eight))
offends_for_one words word _ _ (as_length next eight none) (in_packet other also) =
    absurd (subst IsTaken (offends-refused words word other also) (count_taken words word next eight))
offends_for_one words word _ _ (as_length next eight none) (as_length also too no_length) = refl
offends_for_one words word _ _ (as_length next eight none) (as_byte other size bytes carries can too nowhere stands) = absurd (count_or_user words size bytes next carries)
offends_for_one words word _ _ (as_byte reason size bytes carries can eight nowhere stands) (in_packet other also) =
    absurd (subst IsTaken (offends-refused words word other also) (user_taken words word size bytes carries eight))
offends_for_one words word _ _ (as_byte reason size bytes carries can eight nowhere stands) (as_length next too none) = absurd (count_or_user words size bytes next carries)
offends_for_one words word _ _ (as_byte reason size bytes carries can eight nowhere stands) (as_byte other long others also fits too no_packet at) =
    let (sizes, same) = carries_one words size long bytes others carries also in
    StandsAt-one size bytes reason other can stands (subst (λ n. StandsAt n bytes other) sizes (subst (λ bs. StandsAt long bs other) same at))

-- and the other way round: a word that offends by the words of its packet is refused for this reason, whatever the layers above say.
-- A part is refused after others
part_said : (v : Verdict CdpPart) (above : List WordPart) (state : Caught) (p : WordPart) (reason : Why) → caught_of v above ≡ state
    → (caught_after v state p).refused ≡ Some reason → caption_verdict v above p ≡ Some reason
part_said v above state p reason same is =
    ap (λ (c : Caught). c.refused) (front_from-append (caught_after v) nothing_caught above (p ∷ []))
    ∙ ap (λ (c : Caught). (caught_after v c p).refused) same ∙ is

-- a length that no packet has
length-false : (size : ℕ) → (IsPacketLength size → ⊥) → is_packet_length size ≡ false
length-false size none =
    let cases : (b : Bool) → is_packet_length size ≡ b → is_packet_length size ≡ false = elim [
      | true ↦ λ is. absurd (none (length-is size is))
      | false ↦ λ is. is
    ] in cases _ refl

-- a count that offends
count_given : (v : Verdict CdpPart) (frames : List (List CdpPart)) (above : List WordPart) (words : List ℕ)
    → caught_of v above ≡ front_from (caught_after v) (idle frames) (parts_from word_syntax [] words)
    → (word : ℕ) → CaptionCountIsNext words → IsEightBit (word % 256) word → (IsPacketLength (word % 256) → ⊥)
    → (hand (caption_verdict v) above (judge_word words word)).why ≡ Some why.Length
count_given v frames above [] state word next is none = absurd next
count_given v frames above (a ∷ []) state word next is none = absurd next
count_given v frames above (a ∷ b ∷ []) state word next is none = absurd next
count_given v frames above (a ∷ b ∷ c ∷ []) state word next is none = absurd next
count_given v frames above (a ∷ b ∷ c ∷ did ∷ []) state word next is none = absurd next
count_given v frames above (a ∷ b ∷ c ∷ did ∷ sdid ∷ []) state word next is none =
    let size = word % 256 in
    let start = part.Start (did % 256) (sdid % 256) size in
    let here = state ∙ ap (λ ps. front_from (caught_after v) (idle frames) ps) (five_parts a b c did sdid) in
    let refused : (caught_after v (idle frames) start).refused ≡ Some why.Length =
    ap (λ (b : Bool). (begun_by frames size b (is_packet_length size)).refused) (captions-true (did % 256) (sdid % 256) next)
    ∙ ap (λ (b : Bool). (begun_by frames size true b).refused) (length-false size none) in
    ap (λ s. (hand (caption_verdict v) above s).why) (count_judged a b c did sdid word is)
    ∙ first-why (caption_verdict v above start) start (record { parts = []; why = None }) refl
    ∙ part_said v above (idle frames) start why.Length here refused
count_given v frames above (a ∷ b ∷ c ∷ did ∷ sdid ∷ count ∷ user) state word next is none = absurd next

-- a byte with which no packet goes on is refused for the reason that stands there
byte_given : (size : ℕ) (bytes : List ℕ) (byte : ℕ) (reason : Why) → IsPacketLength size → size < 256 → All (λ b. b < 256) bytes → byte < 256
    → length bytes < size → AllRead (cdp_syntax size) bytes → GoesNowhere size bytes byte → StandsAt size bytes reason
    → judge_cdp size (open_behind (cdp_syntax size) bytes) byte ≡ Refuse reason
byte_given size bytes byte reason can small are below room read nowhere stands =
    let step = judge_cdp size (open_behind (cdp_syntax size) bytes) byte in
    let taken : IsTaken step → ⊥ = λ is.
    (let all = AllTaken-append (cdp_syntax size) nothing_open bytes (byte ∷ []) read (is, tt) in
    let whole_are = All-append (λ b. b < 256) bytes (byte ∷ []) are (All-cons (λ b. b < 256) byte [] below (All-nil (λ b. b < 256))) in
    let go = goes_on size (bytes ++ byte ∷ []) can small whole_are (omega (arith, room, length-append bytes (byte ∷ []))) all in
    let same = append_assoc bytes (byte ∷ []) go.more in
    nowhere go.more go.packet (subst (IsCdp go.packet) same go.is) (ap length (sym same) ∙ go.long)) in
    let cases : (s : Step CdpPart) → step ≡ s → step ≡ Refuse reason = elim [
      | Nothing ↦ λ is. absurd (taken (subst IsTaken (sym is) tt))
      | One p ↦ λ is. absurd (taken (subst IsTaken (sym is) tt))
      | Two p q ↦ λ is. absurd (taken (subst IsTaken (sym is) tt))
      | Refuse other ↦ λ is.
          is ∙ ap (λ w. let s : Step CdpPart = Refuse w in s)
          (StandsAt-one size bytes other reason can (refusal_stands size bytes byte other can (omega (arith, room)) read is) stands)
    ] in cases _ refl

-- so is a user word that carries it
user_given : (v : Verdict CdpPart) (frames : List (List CdpPart)) (size : ℕ) (bytes : List ℕ) (parts : List CdpPart) (word : ℕ) (reason : Why)
    → judge_cdp size (open_behind (cdp_syntax size) bytes) (word % 256) ≡ Refuse reason
    → (caught_after v (opened frames (open_of size bytes parts)) (part.User word)).refused ≡ Some reason
user_given v frames size bytes parts word reason refused =
    let here = opened frames (open_of size bytes parts) in
    let step = judge_cdp size (open_behind (cdp_syntax size) bytes) (word % 256) in
    let read = reading_behind v frames (open_of size bytes parts) (word % 256) in
    let above = verdict_behind v frames in
    let said : why_of read.refusal ≡ Some reason =
    one-why (hand above parts step).why _ (hand above parts step).parts (record { parts = []; refusal = None }) refl ∙ ap (λ s. (hand above parts s).why) refused in
    ap (λ w. (goes_on_with w (open_of size (bytes ++ word % 256 ∷ []) (parts ++ read.parts)) here).refused) said

body_given : (v : Verdict CdpPart) (frames : List (List CdpPart)) (above : List WordPart) (words : List ℕ) → IsBegun words
    → caught_of v above ≡ front_from (caught_after v) (idle frames) (parts_from word_syntax [] words) → (caught_of v above).refused ≡ None
    → (word size : ℕ) (bytes : List ℕ) (reason : Why) → CaptionCarries words size bytes → IsPacketLength size → IsEightBit (word % 256) word
    → GoesNowhere size bytes (word % 256) → StandsAt size bytes reason → (hand (caption_verdict v) above (judge_word words word)).why ≡ Some reason
body_given v frames above [] begun state none word size bytes reason carries can is nowhere stands = absurd carries
body_given v frames above (a ∷ []) begun state none word size bytes reason carries can is nowhere stands = absurd carries
body_given v frames above (a ∷ b ∷ []) begun state none word size bytes reason carries can is nowhere stands = absurd carries
body_given v frames above (a ∷ b ∷ c ∷ []) begun state none word size bytes reason carries can is nowhere stands = absurd carries
body_given v frames above (a ∷ b ∷ c ∷ did ∷ []) begun state none word size bytes reason carries can is nowhere stands = absurd carries
body_given v frames above (a ∷ b ∷ c ∷ did ∷ sdid ∷ []) begun state none word size bytes reason carries can is nowhere stands = absurd carries
body_given v frames above (a ∷ b ∷ c ∷ did ∷ sdid ∷ count ∷ user) begun state none word size bytes reason carries can is nowhere stands =
    let long = count % 256 in
    let read_bytes = lows user in
    let ids : (did % 256 ≡ 0x61) × (sdid % 256 ≡ 0x01) = (carries.0, carries.1) in
    let few : length user < long = omega (arith, carries.2, carries.4) in
    let here = state ∙ ap (λ ps. front_from (caught_after v) (idle frames) ps) (body_parts a b c did sdid count user begun) in
    let kept = open_caption v frames (did % 256) (sdid % 256) long user ids (ap (λ (x : Caught). x.refused) (sym here) ∙ none) in
    let parts = parts_of (cdp_syntax long) read_bytes in
    let accepted = behind_accepted v frames [] parts (subst (λ ps. AreAccepted v ps parts) (sym (append-nil (handed frames))) kept.accepted) in
    let opens = here ∙ ap (λ (x : Caught). front_from (caught_after v) x (map part.User user)) (caption_begun v frames (did % 256) (sdid % 256) long ids kept.can)
    ∙ users_caught v frames long [] [] user kept.read accepted in
    let nowhere_here : GoesNowhere long read_bytes (word % 256) = subst (λ bs. GoesNowhere long bs (word % 256)) carries.3
    (subst (λ n. GoesNowhere n bytes (word % 256)) carries.2 nowhere) in
    let stands_here : StandsAt long read_bytes reason = subst (λ bs. StandsAt long bs reason) carries.3 (subst (λ n. StandsAt n bytes reason) carries.2 stands) in
    let refused = byte_given long read_bytes (word % 256) reason kept.can (omega arith)
    (All-map (λ b. b < 256) (λ w. w % 256) user (λ k d below. omega arith)) (omega arith) (omega (arith, few, length-map user (λ w. w % 256)))
    kept.read nowhere_here stands_here in
    ap (λ s. (hand (caption_verdict v) above s).why) (user_judged a b c did sdid count user word few is)
    ∙ first-why (caption_verdict v above (part.User word)) (part.User word) (record { parts = []; why = None }) refl
    ∙ part_said v above (opened frames (open_of long read_bytes parts)) (part.User word) reason opens
    (user_given v frames long read_bytes parts word reason refused)

-- after the words of an open packet
stands_given : (v : Verdict CdpPart) (frames : List (List CdpPart)) (above : List WordPart) (words : List ℕ) → IsBegun words
    → caught_of v above ≡ front_from (caught_after v) (idle frames) (parts_from word_syntax [] words) → (caught_of v above).refused ≡ None
    → (word : ℕ) (reason : Why) → OffendsFor words word reason → (hand (caption_verdict v) above (judge_word words word)).why ≡ Some reason
stands_given v frames above words begun state none word _ (in_packet reason is) = ap (λ s. (hand (caption_verdict v) above s).why) (offends-refused words word reason is)
stands_given v frames above words begun state none word _ (as_length next is no_length) = count_given v frames above words state word next is no_length
stands_given v frames above words begun state none word _ (as_byte reason size bytes carries can is nowhere stands) =
    body_given v frames above words begun state none word size bytes reason carries can is nowhere stands

-- after bytes none of whose words is refused
pub offends_given : (v : Verdict CdpPart) (before : List ℕ) (word : ℕ) (reason : Why) → refusal_of v before ≡ None
    → OffendsFor (open_behind anc_syntax before).words word reason → reason_of v before word ≡ Some reason
offends_given v before word reason none offends =
    let behind = behind_of v before none in
    ap (λ ws. (hand (caption_verdict v) (parts_of anc_syntax before) (judge_word ws word)).why) behind.open_is
    ∙ stands_given v behind.frames (parts_of anc_syntax before) behind.words behind.begun behind.state behind.unrefused word reason
    (subst (λ ws. OffendsFor ws word reason) behind.open_is offends)
