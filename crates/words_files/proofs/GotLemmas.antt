-- What is caught of bytes, refused or cut short too, are the parts of their frames.
use Rattle.std.proofs.Common.{◌≡◌, ℕ, ◌+◌, ◌*◌, ◌%◌, ◌<◌, ◌⊎◌, inl, inr, ◌==◌, ◌&&◌, ◌||◌, not, nat_lt, if◌then◌else◌, Bool, true, false, List, [], ◌∷◌, ◌++◌, length, map, reverse, Option, Some, None, refl, ap, sym, subst, ◌∙◌, append_assoc, append-nil, length-append, arith}
use Rattle.std.specs.Bool.{⊤}
use Rattle.std.specs.List.{All}
use Rattle.std.proofs.lemmas.List.Elements.{All-head, All-nil, All-push, All-tail}
use Rattle.cc_base.specs.declared.refusal.Refusal.{Refusal}
use Rattle.cc_base.specs.declared.step.Step.{Step}
use Rattle.cc_base.specs.declared.step.Step.TheVariants.{Nothing, One, Two, Refuse}
use Rattle.cc_base.specs.declared.why.Why.{Why}
use Rattle.cc_base.specs.declared.why.Why.TheVariants as why
use Rattle.cc_base.specs.Feeding.{Reading, Verdict, hand, hand_first, place_by, read_first, reading, refused_at}
use Rattle.cc_base.specs.Syntax.{judge_by, open_behind, read_under}
use Rattle.cc_base.proofs.StepLemmas.{front_from-append}
use Rattle.cc_base.proofs.ReadingLemmas.{reading-append}
use Rattle.anc_words.specs.declared.parts.WordPart.{WordPart}
use Rattle.anc_words.specs.declared.parts.WordPart.TheVariants as part
use Rattle.anc_words.specs.Reading.{Open, anc_syntax, is_caption, is_eight_bit, judge_byte, judge_half, judge_ten_bits, nothing_open, open_after, words_after}
use Rattle.anc_words.specs.Writing.{checksum_word}
use Rattle.anc_words.proofs.WordsFileLemmas.{IsWordsFile-nil}
use Rattle.cdp_packets.specs.declared.parts.CdpPart.{CdpPart}
use Rattle.cdp_packets.specs.PacketParts.{packet_parts}
use Rattle.cdp_packets.specs.Packets.{Frame}
use Rattle.words_files.specs.Catching.{Caught, OpenCaption, caption_verdict, caught_after, caught_in, caught_of, ended_with, is_packet_length, nothing_caught, packet_gone_on, refusal_of, taken_in, unless_refused}
use Rattle.words_files.specs.Frames.{none}
use Rattle.words_files.specs.FramesOf.{AreFramesOf}
use Rattle.words_files.specs.Offences.{IsFileUnder}
use Rattle.words_files.specs.Verdicts.{layers_of}
use Rattle.words_files.proofs.CatchingLemmas.{caught_read, read_caught}
use Rattle.words_files.proofs.CaughtLemmas.{caught_file, file_caught}
use Rattle.words_files.proofs.EndingLemmas.{file_closed, nothing_or_some}
use Rattle.words_files.proofs.FramesOfLemmas.{file_frames, frames_of_once, split_last}

-- a part that isn't a packet's end
abbrev IsInside : WordPart → Type 0
IsInside (part.Start did sdid count) = ⊤
IsInside (part.User word) = ⊤
IsInside part.End = ⊥

-- a step that makes at most one part, and ends no packet
abbrev GoesInside : Step WordPart → Type 0
GoesInside Nothing = ⊤
GoesInside (One p) = IsInside p
GoesInside (Two p q) = ⊥
GoesInside (Refuse why) = ⊤

-- one that ends a packet leaves nothing open
abbrev Ends : Step WordPart → List ℕ → Type 0
Ends step words = GoesInside step ⊎ ((step ≡ One part.End) × (words ≡ []))

-- a word that is tested
tested : (test : Bool) (step : Step WordPart) (why : Why) (words : List ℕ) → Ends step words → Ends (if test then step else Refuse why) words
tested true step why words is = is
tested false step why words is = inl tt

-- a word after the count
body_ends : (test coded same : Bool) (first second third did sdid count word : ℕ) (user : List ℕ)
    → Ends (if test then (if coded then One (part.User word) else Refuse why.WordParity) else if same then One part.End else Refuse why.AncSum)
    (if test then first ∷ second ∷ third ∷ did ∷ sdid ∷ count ∷ (user ++ word ∷ []) else [])
body_ends true coded same first second third did sdid count word user = tested coded _ _ _ (inl tt)
body_ends false coded same first second third did sdid count word user = tested same _ _ _ (inr (refl, refl))

word_ends : (words : List ℕ) (word : ℕ) → Ends (judge_ten_bits words word) (words_after words word)
word_ends [] word = tested (word == 0x000) _ _ _ (inl tt)
word_ends (first ∷ []) word = tested (word == 0x3FF) _ _ _ (inl tt)
word_ends (first ∷ second ∷ []) word = tested (word == 0x3FF) _ _ _ (inl tt)
word_ends (first ∷ second ∷ third ∷ []) word = tested (is_eight_bit word) _ _ _ (inl tt)
word_ends (first ∷ second ∷ third ∷ did ∷ []) word = tested (is_eight_bit word) _ _ _ (inl tt)
word_ends (first ∷ second ∷ third ∷ did ∷ sdid ∷ []) word = tested (is_eight_bit word) _ _ _ (inl tt)
word_ends (first ∷ second ∷ third ∷ did ∷ sdid ∷ count ∷ user) word =
    body_ends (nat_lt (length user) (count % 256)) (is_eight_bit word || not (is_caption did sdid)) (word == checksum_word (did ∷ sdid ∷ count ∷ user))
    first second third did sdid count word user

-- a byte ends no packet, or leaves nothing open
byte_ends : (high : Option ℕ) (words : List ℕ) (byte : ℕ)
    → GoesInside (judge_half high words byte) ⊎ ((judge_half high words byte ≡ One part.End) × (open_after (record { high = high; words = words }) byte ≡ nothing_open))
byte_ends None words byte = inl tt
byte_ends (Some high) words byte = elim (tested (nat_lt (256 * high + byte) 0x400) _ why.HighBits _ (word_ends words (256 * high + byte))) [
  | inl inside ↦ inl inside
  | inr (ends, closed) ↦ inr (ends, ap (λ (ws : List ℕ). let o : Open = record { high = None; words = ws } in o) closed)
]

-- parts inside a packet bring no frame
same_if : (test : Bool) (one two caught : Caught) → one.frames ≡ caught.frames → two.frames ≡ caught.frames → (if test then one else two).frames ≡ caught.frames
same_if true one two caught first second = first
same_if false one two caught first second = second

goes_on_same : (why : Option Why) (o : OpenCaption) (caught : Caught) → (packet_gone_on why o caught).frames ≡ caught.frames
goes_on_same None o caught = refl
goes_on_same (Some why) o caught = refl

taken_same : (v : Verdict CdpPart) (o : Option OpenCaption) (byte : ℕ) (caught : Caught) → (taken_in v o byte caught).frames ≡ caught.frames
taken_same v None byte caught = refl
taken_same v (Some o) byte caught = goes_on_same _ _ caught

inside_same : (v : Verdict CdpPart) (refused : Option Why) (p : WordPart) (caught : Caught) → IsInside p → (unless_refused v refused p caught).frames ≡ caught.frames
inside_same v (Some why) p caught inside = refl
inside_same v None (part.Start did sdid count) caught inside =
    same_if ((did == 0x61) && (sdid == 0x01)) _ _ caught (same_if (is_packet_length count) _ _ caught refl refl) refl
inside_same v None (part.User word) caught inside = taken_same v caught.open_caption (word % 256) caught
inside_same v None part.End caught inside = absurd inside

one_same : (v : Verdict CdpPart) (parts : List WordPart) (p : WordPart) (why : Option Why) → IsInside p
    → (caught_of v (parts ++ (hand_first why p (record { parts = []; why = None })).parts)).frames ≡ (caught_of v parts).frames
one_same v parts p None inside = ap (λ (c : Caught). c.frames) (front_from-append (caught_after v) nothing_caught parts (p ∷ [])) ∙ inside_same v _ p (caught_of v parts) inside
one_same v parts p (Some why) inside = ap (λ (c : Caught). c.frames) (front_from-append (caught_after v) nothing_caught parts (p ∷ [])) ∙ inside_same v _ p (caught_of v parts) inside

step_same : (v : Verdict CdpPart) (parts : List WordPart) (step : Step WordPart) → GoesInside step
    → (caught_of v (parts ++ (hand (caption_verdict v) parts step).parts)).frames ≡ (caught_of v parts).frames
step_same v parts Nothing inside = ap (λ ps. (caught_of v ps).frames) (append-nil parts)
step_same v parts (One p) inside = one_same v parts p _ inside
step_same v parts (Two p q) inside = absurd inside
step_same v parts (Refuse why) inside = ap (λ ps. (caught_of v ps).frames) (append-nil parts)

-- what is read of one more byte
first_parts : (refusal : Option Refusal) (parts : List WordPart) → (read_first refusal parts (record { parts = []; refusal = None })).parts ≡ parts
first_parts None parts = append-nil parts
first_parts (Some refusal) parts = refl

more_same : (v : Verdict CdpPart) (refusal : Option Refusal) (parts : List WordPart) (more : Reading WordPart)
    → (caught_of v (parts ++ more.parts)).frames ≡ (caught_of v parts).frames
    → (caught_of v (read_first refusal parts more).parts).frames ≡ (caught_of v parts).frames
more_same v None parts more same = same
more_same v (Some refusal) parts more same = refl

-- a byte that ends no packet brings no frame
pub inside_byte : (v : Verdict CdpPart) (bytes : List ℕ) (byte : ℕ) → GoesInside (judge_byte (open_behind anc_syntax bytes) byte)
    → (caught_in v (bytes ++ byte ∷ [])).frames ≡ (caught_in v bytes).frames
inside_byte v bytes byte inside =
    let judge = judge_by anc_syntax in
    let one = read_under anc_syntax 2 (caption_verdict v) bytes in
    let more = reading judge (caption_verdict v) (place_by 2) bytes one.parts (byte ∷ []) in
    let handed = hand (caption_verdict v) one.parts (judge bytes byte) in
    let parts = first_parts (refused_at (place_by 2 bytes) handed.why) handed.parts in
    ap (λ (r : Reading WordPart). (caught_of v r.parts).frames) (reading-append judge (caption_verdict v) (place_by 2) [] [] bytes (byte ∷ []))
    ∙ more_same v one.refusal one.parts more (ap (λ ps. (caught_of v (one.parts ++ ps)).frames) parts ∙ step_same v one.parts (judge bytes byte) inside)

-- the frames of bytes, and that they are what is caught
pub record Got (v : Verdict CdpPart) (bytes : List ℕ) : Type 0 where
  pub frames : List Frame
  pub are : AreFramesOf (layers_of v) frames bytes
  pub caught : (caught_in v bytes).frames ≡ reverse (map packet_parts frames)

got_nothing : (v : Verdict CdpPart) → Got v []
got_nothing v = record {
  frames = [];
  are = record {
    file = [];
    behind = [];
    spelled = refl;
    is_file = record { file = record { packets = []; file = IsWordsFile-nil; carried = none }; accepted = tt };
    longest = λ others other rest is _. let e = ap length is in let long = length-append other rest in omega (arith, e, long);
  };
  caught = refl;
}

-- a file is all of its frames
got_file : (v : Verdict CdpPart) (frames : List Frame) (bytes : List ℕ) → IsFileUnder (layers_of v) frames bytes → Got v bytes
got_file v frames bytes is = record {
  frames = frames;
  are = file_frames (layers_of v) frames bytes is;
  caught = ap (λ (c : Caught). c.frames) (file_caught v frames bytes is).0;
}

-- one more byte, with which they are no file
got_same : (v : Verdict CdpPart) (bytes : List ℕ) (byte : ℕ) → Got v bytes → ((frames : List Frame) → IsFileUnder (layers_of v) frames (bytes ++ byte ∷ []) → ⊥)
    → (caught_in v (bytes ++ byte ∷ [])).frames ≡ (caught_in v bytes).frames → Got v (bytes ++ byte ∷ [])
got_same v bytes byte got no_file same = record {
  frames = got.frames;
  are = record {
    file = got.are.file;
    behind = got.are.behind ++ byte ∷ [];
    spelled = ap (λ bs. bs ++ byte ∷ []) got.are.spelled ∙ append_assoc got.are.file got.are.behind (byte ∷ []);
    is_file = got.are.is_file;
    longest = λ others other rest is file. elim (split_last bytes byte other rest is) [
      | inl last ↦ absurd (no_file others (subst (IsFileUnder (layers_of v) others) (sym (append-nil other) ∙ ap (λ r. other ++ r) (sym last) ∙ sym is) file))
      | inr (some, shorter) ↦ got.are.longest others other some shorter file
    ];
  };
  caught = same ∙ got.caught;
}

-- bytes after a refused word bring no frame
refused_same : (v : Verdict CdpPart) (bytes more : List ℕ) (refusal : Refusal) → refusal_of v bytes ≡ Some refusal
    → (caught_in v (bytes ++ more)).frames ≡ (caught_in v bytes).frames
refused_same v bytes more refusal some =
    let judge = judge_by anc_syntax in
    let one = read_under anc_syntax 2 (caption_verdict v) bytes in
    let rest = reading judge (caption_verdict v) (place_by 2) bytes one.parts more in
    ap (λ (r : Reading WordPart). (caught_of v r.parts).frames) (reading-append judge (caption_verdict v) (place_by 2) [] [] bytes more)
    ∙ ap (λ a. (caught_of v (read_first a one.parts rest).parts).frames) some

-- the end of a packet isn't refused
ended_refused : (o : Option OpenCaption) (caught : Caught) → (ended_with o caught).refused ≡ caught.refused
ended_refused None caught = refl
ended_refused (Some o) caught = refl

read_unrefused : (v : Verdict CdpPart) (bytes : List ℕ) → refusal_of v bytes ≡ None → (caught_in v bytes).refused ≡ None
read_unrefused v bytes unrefused =
    let (read, kept) = caught_read v bytes unrefused in
    let (caught, _) = read_caught v bytes read kept in
    ap (λ (c : Caught). c.refused) caught ∙ kept

end_taken : (v : Verdict CdpPart) (parts : List WordPart) → (caught_of v parts).refused ≡ None → caption_verdict v parts part.End ≡ None
end_taken v parts unrefused =
    ap (λ (c : Caught). c.refused) (front_from-append (caught_after v) nothing_caught parts (part.End ∷ []))
    ∙ ap (λ refused. (unless_refused v refused part.End (caught_of v parts)).refused) unrefused
    ∙ ended_refused (caught_of v parts).open_caption (caught_of v parts) ∙ unrefused

end_unrefused : (v : Verdict CdpPart) (bytes : List ℕ) (byte : ℕ) → refusal_of v bytes ≡ None → judge_byte (open_behind anc_syntax bytes) byte ≡ One part.End
    → refusal_of v (bytes ++ byte ∷ []) ≡ None
end_unrefused v bytes byte unrefused ends =
    let judge = judge_by anc_syntax in
    let one = read_under anc_syntax 2 (caption_verdict v) bytes in
    let more = reading judge (caption_verdict v) (place_by 2) bytes one.parts (byte ∷ []) in
    let none : (hand (caption_verdict v) one.parts (One part.End)).why ≡ None =
    ap (λ why. (hand_first why part.End (record { parts = []; why = None })).why) (end_taken v one.parts (read_unrefused v bytes unrefused)) in
    ap (λ (r : Reading WordPart). r.refusal) (reading-append judge (caption_verdict v) (place_by 2) [] [] bytes (byte ∷ []))
    ∙ ap (λ a. (read_first a one.parts more).refusal) unrefused
    ∙ ap (λ step. let h = hand (caption_verdict v) one.parts step in (read_first (refused_at (place_by 2 bytes) h.why) h.parts (record { parts = []; refusal = None })).refusal) ends
    ∙ ap (λ why. (read_first (refused_at (place_by 2 bytes) why) (hand (caption_verdict v) one.parts (One part.End)).parts (record { parts = []; refusal = None })).refusal) none

-- where the end of a packet is refused, a word before it was
refused_before : (v : Verdict CdpPart) (bytes : List ℕ) (byte : ℕ) (refusal : Refusal) → refusal_of v (bytes ++ byte ∷ []) ≡ Some refusal
    → judge_byte (open_behind anc_syntax bytes) byte ≡ One part.End → (caught_in v (bytes ++ byte ∷ [])).frames ≡ (caught_in v bytes).frames
refused_before v bytes byte refusal some ends =
    let before : (r : Option Refusal) → refusal_of v bytes ≡ r → (caught_in v (bytes ++ byte ∷ [])).frames ≡ (caught_in v bytes).frames = elim [
      | None ↦ λ unrefused. absurd (let clash = sym some ∙ end_unrefused v bytes byte unrefused ends in cc)
      | Some was ↦ λ is. refused_same v bytes (byte ∷ []) was is
    ] in before _ refl

-- refused bytes are no file, nor are bytes that leave something open
refused_no_file : (v : Verdict CdpPart) (bytes : List ℕ) (refusal : Refusal) → refusal_of v bytes ≡ Some refusal → (frames : List Frame) → IsFileUnder (layers_of v) frames bytes → ⊥
refused_no_file v bytes refusal some frames is = let clash = sym some ∙ (file_caught v frames bytes is).1 in cc

open_no_file : (v : Verdict CdpPart) (bytes : List ℕ) → (open_behind anc_syntax bytes ≡ nothing_open → ⊥) → (frames : List Frame) → IsFileUnder (layers_of v) frames bytes → ⊥
open_no_file v bytes some frames is = some (file_closed (layers_of v) frames bytes is)

-- bytes that aren't refused, where nothing is open or no frame came
got_unrefused : (v : Verdict CdpPart) (bytes : List ℕ) (byte : ℕ) → All (λ b. b < 256) (bytes ++ byte ∷ []) → Got v bytes
    → refusal_of v (bytes ++ byte ∷ []) ≡ None
    → ((open_behind anc_syntax (bytes ++ byte ∷ []) ≡ nothing_open → ⊥) → (caught_in v (bytes ++ byte ∷ [])).frames ≡ (caught_in v bytes).frames)
    → Got v (bytes ++ byte ∷ [])
got_unrefused v bytes byte are got unrefused same =
    let front = open_behind anc_syntax (bytes ++ byte ∷ []) in
    elim (nothing_or_some front) [
      | inl closed ↦
          let (frames, is) = caught_file v (bytes ++ byte ∷ []) are unrefused closed in
          got_file v frames (bytes ++ byte ∷ []) is
      | inr some ↦ got_same v bytes byte got (open_no_file v (bytes ++ byte ∷ []) some) (same some)
    ]

-- one more byte
got_more : (v : Verdict CdpPart) (bytes : List ℕ) (byte : ℕ) → All (λ b. b < 256) (bytes ++ byte ∷ []) → Got v bytes → Got v (bytes ++ byte ∷ [])
got_more v bytes byte are got =
    let front = open_behind anc_syntax bytes in
    let after : open_behind anc_syntax (bytes ++ byte ∷ []) ≡ open_after front byte = front_from-append open_after nothing_open bytes (byte ∷ []) in
    let refused : (refusal : Option Refusal) → refusal_of v (bytes ++ byte ∷ []) ≡ refusal → Got v (bytes ++ byte ∷ []) = elim [
      | None ↦ λ unrefused. got_unrefused v bytes byte are got unrefused (λ some. elim (byte_ends front.high front.words byte) [
        | inl inside ↦ inside_byte v bytes byte inside
        | inr (ends, closed) ↦ absurd (some (after ∙ closed))
      ])
      | Some refusal ↦ λ some. got_same v bytes byte got (refused_no_file v (bytes ++ byte ∷ []) refusal some) (elim (byte_ends front.high front.words byte) [
        | inl inside ↦ inside_byte v bytes byte inside
        | inr (ends, closed) ↦ refused_before v bytes byte refusal some ends
      ])
    ] in refused _ refl

-- every list of bytes
got_from : (v : Verdict CdpPart) (bytes more : List ℕ) → All (λ b. b < 256) bytes → All (λ b. b < 256) more → Got v bytes → Got v (bytes ++ more)
got_from v bytes [] are rest got = subst (Got v) (sym (append-nil bytes)) got
got_from v bytes (byte ∷ more) are rest got =
    let one = All-push (λ b. b < 256) bytes byte are (All-head (λ b. b < 256) byte more rest) in
    subst (Got v) (append_assoc bytes (byte ∷ []) more)
    (got_from v (bytes ++ byte ∷ []) more one (All-tail (λ b. b < 256) byte more rest) (got_more v bytes byte one got))

pub got : (v : Verdict CdpPart) (bytes : List ℕ) → All (λ b. b < 256) bytes → Got v bytes
got v bytes are = got_from v [] bytes (All-nil (λ b. b < 256)) are (got_nothing v)

-- bytes are a file, or none
pub file_or_none : (v : Verdict CdpPart) (bytes : List ℕ) → All (λ b. b < 256) bytes
    → ((frames : List Frame) × IsFileUnder (layers_of v) frames bytes) ⊎ ((frames : List Frame) → IsFileUnder (layers_of v) frames bytes → ⊥)
file_or_none v bytes are =
    let front = open_behind anc_syntax bytes in
    let refused : (refusal : Option Refusal) → refusal_of v bytes ≡ refusal
    → ((frames : List Frame) × IsFileUnder (layers_of v) frames bytes) ⊎ ((frames : List Frame) → IsFileUnder (layers_of v) frames bytes → ⊥) = elim [
      | None ↦ λ unrefused. elim (nothing_or_some front) [
        | inl closed ↦ inl (caught_file v bytes are unrefused closed)
        | inr some ↦ inr (open_no_file v bytes some)
      ]
      | Some refusal ↦ λ some. inr (refused_no_file v bytes refusal some)
    ] in refused _ refl

-- so the frames of bytes are what is caught of them
pub frames_are_caught : (v : Verdict CdpPart) (frames : List Frame) (bytes : List ℕ) → All (λ b. b < 256) bytes → AreFramesOf (layers_of v) frames bytes
    → (caught_in v bytes).frames ≡ reverse (map packet_parts frames)
frames_are_caught v frames bytes all are =
    let g = got v bytes all in
    g.caught ∙ ap (λ fs. reverse (map packet_parts fs)) (frames_of_once (layers_of v) g.frames frames bytes g.are are)
