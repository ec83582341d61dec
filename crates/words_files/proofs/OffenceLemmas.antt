-- The first word that is refused is the first that offends: a file begins with the words before it, and none with these and it.
use Rattle.std.proofs.Common.{◌≡◌, ℕ, ◌+◌, ◌-◌, ◌*◌, ◌%◌, ◌^◌, ◌<◌, ◌≤◌, List, [], ◌∷◌, ◌++◌, length, Option, Some, None, refl, ap, sym, subst, ◌∙◌, arith, append_assoc, append-nil, length-append, lit≤}
use Rattle.std.proofs.lemmas.List.Elements.{All-cons, All-nil}
use Rattle.std.specs.List.{All, flat_map}
use Rattle.cc_base.specs.declared.refusal.Refusal.{Refusal}
use Rattle.cc_base.specs.declared.why.Why.{Why}
use Rattle.cc_base.specs.Feeding.{Handed, Judge, Reading, Verdict, hand, place_by, read_first, reading, refused_at, why_of}
use Rattle.cc_base.specs.Steps.{AreAccepted}
use Rattle.cc_base.specs.Syntax.{judge_by, open_behind, parts_from, parts_of, read_under}
use Rattle.cc_base.proofs.StepLemmas.{front_from-append, read_first-none}
use Rattle.cc_base.proofs.SyntaxLemmas.{reading-accepted, reading-none}
use Rattle.cc_base.proofs.ReadingLemmas.{reading-append, reading-taken}
use Rattle.anc_words.specs.declared.parts.WordPart.{WordPart}
use Rattle.anc_words.specs.Reading.{Open, anc_syntax, judge_byte, nothing_open, open_after}
use Rattle.anc_words.specs.Words.{AreWords}
use Rattle.anc_words.proofs.ByteLemmas.{last_high, open-words_of}
use Rattle.anc_words.proofs.PacketLemmas.{same_heads}
use Rattle.cdp_packets.specs.declared.parts.CdpPart.{CdpPart}
use Rattle.cdp_packets.specs.PacketParts.{packet_parts}
use Rattle.cdp_packets.specs.Packets.{Frame}
use Rattle.cdp_packets.specs.Reading.{cdp_syntax}
use Rattle.words_files.specs.Catching.{caption_verdict, never, reason_of, refusal_of}
use Rattle.words_files.specs.Frames.{IsFileOf}
use Rattle.words_files.specs.Offences.{AreWholeWords, Begins, FirstOffendingWord, IsFileUnder, IsUnoffending}
use Rattle.words_files.specs.Reasons.{AreOpenBehind, HasReason, OffendsFor, by_its_packet, by_layers_above}
use Rattle.words_files.specs.Layers.{Layers}
use Rattle.words_files.specs.Verdicts.{RefusesNone, TakesFilling, layers_of}
use Rattle.words_files.proofs.BeginsLemmas.{goes_on}
use Rattle.words_files.proofs.CatchingLemmas.{caught_read}
use Rattle.words_files.proofs.CaughtLemmas.{file_caught}
use Rattle.words_files.proofs.OpenLemmas.{open_exists, open_once}
use Rattle.words_files.proofs.ReasonLemmas.{offends_for_one, offends_given, reason_offends}
use Rattle.words_files.proofs.RefusedLemmas.{file_refused, refused_for_one}
use Rattle.words_files.proofs.WordLemmas.{All-split, front_of}

-- a refusal is no other, and none is none
pub same_refusal : (one other : Refusal) → Some one ≡ Some other → one ≡ other
same_refusal one other same = cc

pub some_or_none : (refusal : Option Refusal) (one : Refusal) → refusal ≡ Some one → refusal ≡ None → ⊥
some_or_none refusal one some none = let clash : Some one ≡ None = sym some ∙ none in absurd cc

pub same_why : (one other : Why) → Some one ≡ Some other → one ≡ other
same_why one other same = cc

abbrev refusal_at : ℕ → Why → Refusal
refusal_at place why = record { place = place; why = why }

-- how bytes are judged
abbrev judge_of : Judge ℕ WordPart
judge_of = judge_by anc_syntax

-- a refusal stays, whatever bytes follow
pub refusal-stays : (v : Verdict CdpPart) (before more : List ℕ) (refusal : Refusal) → refusal_of v before ≡ Some refusal → refusal_of v (before ++ more) ≡ Some refusal
refusal-stays v before more refusal is =
    let one = read_under anc_syntax 2 (caption_verdict v) before in
    ap (λ (r : Reading WordPart). r.refusal) (reading-append judge_of (caption_verdict v) (place_by 2) [] [] before more)
    ∙ ap (λ r. (read_first r one.parts (reading judge_of (caption_verdict v) (place_by 2) before one.parts more)).refusal) is

-- so none was refused before, where none is
pub refusal-before : (v : Verdict CdpPart) (before more : List ℕ) → refusal_of v (before ++ more) ≡ None → refusal_of v before ≡ None
refusal-before v before more none =
    let one = read_under anc_syntax 2 (caption_verdict v) before in
    let whole = ap (λ (r : Reading WordPart). r.refusal) (reading-append judge_of (caption_verdict v) (place_by 2) [] [] before more) in
    (read_first-none one.refusal one.parts (reading judge_of (caption_verdict v) (place_by 2) before one.parts more) (sym whole ∙ none)).0

-- bytes that begin a file aren't refused
pub begins_unrefused : (v : Verdict CdpPart) (bytes : List ℕ) → Begins (layers_of v) bytes → refusal_of v bytes ≡ None
begins_unrefused v bytes begins = refusal-before v bytes begins.more (file_caught v begins.frames (bytes ++ begins.more) begins.is_file).1

-- the first bytes of those that begin a file begin it
pub Begins-before : (layers : Layers) (bytes more : List ℕ) → Begins layers (bytes ++ more) → Begins layers bytes
Begins-before layers bytes more begins = record {
  more = more ++ begins.more;
  frames = begins.frames;
  is_file = subst (IsFileUnder layers begins.frames) (append_assoc bytes more begins.more) begins.is_file;
}

-- whole words leave no high byte
last_high-whole : (bytes : List ℕ) → AreWholeWords bytes → last_high bytes ≡ None
last_high-whole [] whole = refl
last_high-whole (high ∷ []) whole = absurd (omega (arith, whole))
last_high-whole (high ∷ low ∷ bytes) whole = last_high-whole bytes (omega (arith, whole))

-- what is open after them
abbrev at_words : List ℕ → Open
at_words words = record { high = None; words = words }

open-whole : (bytes : List ℕ) → AreWholeWords bytes → open_behind anc_syntax bytes ≡ at_words (open_behind anc_syntax bytes).words
open-whole bytes whole =
    let none : (open_behind anc_syntax bytes).high ≡ None = ap (λ (o : Open). o.high) (open-words_of [] bytes) ∙ last_high-whole bytes whole in
    ap (λ h. let o : Open = record { high = h; words = (open_behind anc_syntax bytes).words } in o) none

-- what is read of bytes that aren't refused
read-unrefused : (v : Verdict CdpPart) (bytes : List ℕ) → refusal_of v bytes ≡ None
    → read_under anc_syntax 2 (caption_verdict v) bytes ≡ record { parts = parts_of anc_syntax bytes; refusal = None }
read-unrefused v bytes none =
    let (all, accepted) = reading-none anc_syntax (caption_verdict v) (place_by 2) [] [] bytes none in
    reading-accepted anc_syntax (caption_verdict v) (place_by 2) [] [] bytes all accepted

-- and of more bytes
read-more : (v : Verdict CdpPart) (before more : List ℕ) → refusal_of v before ≡ None
    → refusal_of v (before ++ more) ≡ (reading judge_of (caption_verdict v) (place_by 2) before (parts_of anc_syntax before) more).refusal
read-more v before more none =
    ap (λ (r : Reading WordPart). r.refusal) (reading-append judge_of (caption_verdict v) (place_by 2) [] [] before more)
    ∙ ap (λ (r : Reading WordPart). (read_first r.refusal r.parts (reading judge_of (caption_verdict v) (place_by 2) before r.parts more)).refusal) (read-unrefused v before none)

-- the refusal of one byte
refused-one : (place : ℕ) (why : Option Why) (parts : List WordPart) → (read_first (refused_at place why) parts (record { parts = []; refusal = None })).refusal ≡ refused_at place why
refused-one place None parts = refl
refused-one place (Some why) parts = refl

-- a high byte makes nothing
high_hand : (v : Verdict CdpPart) (before : List ℕ) (high : ℕ) → AreWholeWords before
    → hand (caption_verdict v) (parts_of anc_syntax before) (judge_of before high) ≡ record { parts = []; why = None }
high_hand v before high whole = ap (λ (o : Open). hand (caption_verdict v) (parts_of anc_syntax before) (judge_byte o high)) (open-whole before whole)

high_read : (v : Verdict CdpPart) (before : List ℕ) (high : ℕ) (rest : List ℕ) → AreWholeWords before
    → (reading judge_of (caption_verdict v) (place_by 2) before (parts_of anc_syntax before) (high ∷ rest)).refusal
    ≡ (reading judge_of (caption_verdict v) (place_by 2) (before ++ high ∷ []) (parts_of anc_syntax before) rest).refusal
high_read v before high rest whole =
    let nothing = high_hand v before high whole in
    ap (λ (r : Reading WordPart). r.refusal)
    (reading-taken judge_of (caption_verdict v) (place_by 2) before (parts_of anc_syntax before) high rest (ap (λ (h : Handed WordPart). h.why) nothing))
    ∙ ap (λ (h : Handed WordPart). (reading judge_of (caption_verdict v) (place_by 2) (before ++ high ∷ []) (parts_of anc_syntax before ++ h.parts) rest).refusal) nothing
    ∙ ap (λ ps. (reading judge_of (caption_verdict v) (place_by 2) (before ++ high ∷ []) ps rest).refusal) (append-nil (parts_of anc_syntax before))

-- so a single byte after whole words isn't refused
pub high_unrefused : (v : Verdict CdpPart) (before : List ℕ) (high : ℕ) → AreWholeWords before → refusal_of v before ≡ None → refusal_of v (before ++ high ∷ []) ≡ None
high_unrefused v before high whole none = read-more v before (high ∷ []) none ∙ high_read v before high [] whole

-- the place of a word's low byte is its high byte's place
place-low : (before : List ℕ) (high : ℕ) → AreWholeWords before → place_by 2 (before ++ high ∷ []) ≡ length before % 2 ^ 64
place-low before high whole =
    let even : (n : ℕ) → n % 2 ≡ 0 → (n + 1) % 2 ^ 64 - (n + 1) % 2 ^ 64 % 2 ≡ n % 2 ^ 64 = λ n is. omega arith in
    ap (λ n. n % 2 ^ 64 - n % 2 ^ 64 % 2) (length-append before (high ∷ [])) ∙ even (length before) whole

-- what is open between the bytes of a word
open-low : (before : List ℕ) (high : ℕ) → AreWholeWords before → open_behind anc_syntax (before ++ high ∷ []) ≡ record { high = Some high; words = (open_behind anc_syntax before).words }
open-low before high whole =
    front_from-append open_after nothing_open before (high ∷ []) ∙ ap (λ (o : Open). open_after o high) (open-whole before whole)

-- a word after unrefused words is refused for its reason, at their number
pub word_read : (v : Verdict CdpPart) (before : List ℕ) (high low : ℕ) → AreWholeWords before → refusal_of v before ≡ None
    → refusal_of v (before ++ high ∷ low ∷ []) ≡ refused_at (length before % 2 ^ 64) (reason_of v before (256 * high + low))
word_read v before high low whole none =
    let verdict = caption_verdict v in
    let why_is = λ (o : Open). (hand verdict (parts_of anc_syntax before) (judge_byte o low)).why in
    let last = hand verdict (parts_of anc_syntax before) (judge_of (before ++ high ∷ []) low) in
    read-more v before (high ∷ low ∷ []) none
    ∙ high_read v before high (low ∷ []) whole
    ∙ refused-one (place_by 2 (before ++ high ∷ [])) last.why last.parts
    ∙ ap (λ n. refused_at n last.why) (place-low before high whole)
    ∙ ap (λ (o : Open). refused_at (length before % 2 ^ 64) (why_is o)) (open-low before high whole)

-- a word and whole words are whole words
whole-word : (before : List ℕ) (high low : ℕ) → AreWholeWords before → AreWholeWords (before ++ high ∷ low ∷ [])
whole-word before high low whole = omega (arith, length-append before (high ∷ low ∷ []), whole)

-- the first word that is refused
record HasFirst (v : Verdict CdpPart) (bytes : List ℕ) (refusal : Refusal) : Type 0 where
  pub before : List ℕ
  pub high : ℕ
  pub low : ℕ
  pub rest : List ℕ
  pub spelled : bytes ≡ before ++ high ∷ low ∷ rest
  pub whole : AreWholeWords before
  pub unrefused : refusal_of v before ≡ None
  pub place_is : refusal.place ≡ length before % 2 ^ 64
  pub why_is : reason_of v before (256 * high + low) ≡ Some refusal.why

-- it is this word
first-here : (v : Verdict CdpPart) (before : List ℕ) (high low : ℕ) (rest : List ℕ) (refusal : Refusal) (why : Why) → AreWholeWords before → refusal_of v before ≡ None
    → reason_of v before (256 * high + low) ≡ Some why → refusal_of v (before ++ high ∷ low ∷ rest) ≡ Some refusal → HasFirst v (before ++ high ∷ low ∷ rest) refusal
first-here v before high low rest refusal why whole none reason some =
    let here = refusal_at (length before % 2 ^ 64) why in
    let stays = refusal-stays v (before ++ high ∷ low ∷ []) rest here (word_read v before high low whole none ∙ ap (refused_at (length before % 2 ^ 64)) reason) in
    let same : Some here ≡ Some refusal = sym stays ∙ ap (refusal_of v) (append_assoc before (high ∷ low ∷ []) rest) ∙ some in
    let is = same_refusal here refusal same in record {
      before = before;
      high = high;
      low = low;
      rest = rest;
      spelled = refl;
      whole = whole;
      unrefused = none;
      place_is = ap (λ (r : Refusal). r.place) (sym is);
      why_is = reason ∙ ap (λ (r : Refusal). Some r.why) is;
    }

-- or a later one
first-from : (v : Verdict CdpPart) (before bytes : List ℕ) (refusal : Refusal) → AreWholeWords before → refusal_of v before ≡ None
    → refusal_of v (before ++ bytes) ≡ Some refusal → HasFirst v (before ++ bytes) refusal
first-from v before [] refusal whole none some =
    absurd (some_or_none (refusal_of v before) refusal (ap (refusal_of v) (sym (append-nil before)) ∙ some) none)
first-from v before (high ∷ []) refusal whole none some =
    absurd (some_or_none (refusal_of v (before ++ high ∷ [])) refusal some (high_unrefused v before high whole none))
first-from v before (high ∷ low ∷ rest) refusal whole none some =
    let same = append_assoc before (high ∷ low ∷ []) rest in
    let cases : (w : Option Why) → reason_of v before (256 * high + low) ≡ w → HasFirst v (before ++ high ∷ low ∷ rest) refusal = elim [
      | None ↦ λ reason. subst (λ bs. HasFirst v bs refusal) same
          (first-from v (before ++ high ∷ low ∷ []) rest refusal (whole-word before high low whole)
          (word_read v before high low whole none ∙ ap (refused_at (length before % 2 ^ 64)) reason) (ap (refusal_of v) same ∙ some))
      | Some why ↦ λ reason. first-here v before high low rest refusal why whole none reason some
    ] in cases _ refl

-- no file can continue with a word that is refused
nowhere : (v : Verdict CdpPart) (before : List ℕ) (high low : ℕ) (why : Why) → AreWholeWords before → refusal_of v before ≡ None
    → reason_of v before (256 * high + low) ≡ Some why → Begins (layers_of v) (before ++ high ∷ low ∷ []) → ⊥
nowhere v before high low why whole none reason begins =
    some_or_none (refusal_of v (before ++ high ∷ low ∷ [])) (refusal_at (length before % 2 ^ 64) why)
    (word_read v before high low whole none ∙ ap (refused_at (length before % 2 ^ 64)) reason) (begins_unrefused v (before ++ high ∷ low ∷ []) begins)

-- where there is no layer above, all parts are taken
pub never_refuses : (above parts : List CdpPart) → AreAccepted never above parts
never_refuses above [] = tt
never_refuses above (part ∷ parts) = (refl, never_refuses (above ++ part ∷ []) parts)

pub never_takes : TakesFilling never
never_takes size handed bytes more all read accepted filling =
    never_refuses (handed ++ parts_of (cdp_syntax size) bytes) (parts_from (cdp_syntax size) (open_behind (cdp_syntax size) bytes) more)

pub file_under_never : (frames : List Frame) (bytes : List ℕ) → IsFileOf frames bytes → IsFileUnder (layers_of never) frames bytes
file_under_never frames bytes file = record { file = file; accepted = never_refuses [] (flat_map packet_parts frames) }

begins_under_never : (v : Verdict CdpPart) (bytes : List ℕ) → Begins (layers_of v) bytes → Begins (layers_of never) bytes
begins_under_never v bytes begins =
    record { more = begins.more; frames = begins.frames; is_file = file_under_never begins.frames (bytes ++ begins.more) begins.is_file.file }

-- the reason of a word that is refused stays, whatever bytes continue with it
reason_stays : (v : Verdict CdpPart) (before : List ℕ) (high low : ℕ) (more : List ℕ) (why : Why) → AreWholeWords before → refusal_of v before ≡ None
    → reason_of v before (256 * high + low) ≡ Some why → why_of (refusal_of v (before ++ high ∷ low ∷ more)) ≡ Some why
reason_stays v before high low more why whole none reason =
    let here = refusal_at (length before % 2 ^ 64) why in
    ap (λ bs. why_of (refusal_of v bs)) (sym (append_assoc before (high ∷ low ∷ []) more))
    ∙ ap why_of (refusal-stays v (before ++ high ∷ low ∷ []) more here
    (word_read v before high low whole none ∙ ap (refused_at (length before % 2 ^ 64)) reason))

-- a word is refused for the reason for which it offends
pub reason_is : (v : Verdict CdpPart) (before : List ℕ) (high low : ℕ) (why : Why) → All (λ byte. byte < 256) (before ++ high ∷ low ∷ []) → AreWholeWords before
    → Begins (layers_of v) before → reason_of v before (256 * high + low) ≡ Some why → HasReason (layers_of v) before high low why
reason_is v before high low why are whole begins reason =
    let none = begins_unrefused v before begins in
    let quiet = begins_unrefused never before (begins_under_never v before begins) in
    let word = 256 * high + low in
    let place = length before % 2 ^ 64 in
    let cases : (w : Option Why) → reason_of never before word ≡ w → HasReason (layers_of v) before high low why = elim [
      | Some other ↦ λ said.
          let offends = reason_offends never (λ above p. refl) before word other quiet said in
          let same : Some other ≡ Some why = sym (offends_given v before word other none offends) ∙ reason in
          let opens = open_exists before (All-split (λ byte. byte < 256) before (high ∷ low ∷ []) are).0 (caught_read v before none).0 whole in
          subst (HasReason (layers_of v) before high low) (same_why other why same) (by_its_packet other (open_behind anc_syntax before).words opens offends)
      | None ↦ λ taken.
          let go = goes_on never never_takes (before ++ high ∷ low ∷ []) are (whole-word before high low whole)
          (word_read never before high low whole quiet ∙ ap (refused_at place) taken) in
          by_layers_above why go.more go.frames (subst (IsFileOf go.frames) (append_assoc before (high ∷ low ∷ []) go.more) go.is_file.file)
          (λ more frames file. file_refused v frames (before ++ high ∷ low ∷ more) why file (reason_stays v before high low more why whole none reason))
    ] in cases _ refl

-- bytes are refused at the first offending word
pub refused_offends : (v : Verdict CdpPart) → TakesFilling v → (bytes : List ℕ) (refusal : Refusal) → All (λ byte. byte < 256) bytes
    → refusal_of v bytes ≡ Some refusal → FirstOffendingWord (layers_of v) bytes refusal
refused_offends v takes bytes refusal are some =
    let first = first-from v [] bytes refusal refl refl some in
    let all = subst (All (λ byte. byte < 256)) (first.spelled ∙ sym (append_assoc first.before (first.high ∷ first.low ∷ []) first.rest)) are in
    let (word_are, _) = All-split (λ byte. byte < 256) (first.before ++ first.high ∷ first.low ∷ []) first.rest all in
    let (before_are, _) = All-split (λ byte. byte < 256) first.before (first.high ∷ first.low ∷ []) word_are in
    let begins = goes_on v takes first.before before_are first.whole first.unrefused in record {
      before = first.before;
      high = first.high;
      low = first.low;
      rest = first.rest;
      spelled = first.spelled;
      whole = first.whole;
      begins = begins;
      offends = nowhere v first.before first.high first.low refusal.why first.whole first.unrefused first.why_is;
      place_is = first.place_is;
      why_is = reason_is v first.before first.high first.low refusal.why word_are first.whole begins first.why_is;
    }

-- words are bytes
words-bytes : (bytes words : List ℕ) → AreWords bytes words → All (λ byte. byte < 256) bytes
words-bytes [] [] are = All-nil (λ byte. byte < 256)
words-bytes [] (word ∷ words) are = absurd are
words-bytes (high ∷ []) words are = absurd are
words-bytes (high ∷ low ∷ bytes) [] are = absurd are
words-bytes (high ∷ low ∷ bytes) (word ∷ words) (is, are) =
    All-cons (λ byte. byte < 256) high (low ∷ bytes) (omega (arith, is.zeros)) (All-cons (λ byte. byte < 256) low bytes is.byte (words-bytes bytes words are))

-- and the other way round: a word that offends for a reason is refused for it
pub reason_said : (v : Verdict CdpPart) → TakesFilling v → (before : List ℕ) (high low : ℕ) (reason : Why) → AreWholeWords before → Begins (layers_of v) before
    → (Begins (layers_of v) (before ++ high ∷ low ∷ []) → ⊥) → HasReason (layers_of v) before high low reason → reason_of v before (256 * high + low) ≡ Some reason
reason_said v takes before high low _ whole begins nowhere_on (by_its_packet reason words opens offends) =
    let none = begins_unrefused v before begins in
    let kept = open_once words before opens (caught_read v before none).0 in
    offends_given v before (256 * high + low) reason none (subst (λ ws. OffendsFor ws (256 * high + low) reason) (sym kept) offends)
reason_said v takes before high low _ whole begins nowhere_on (by_layers_above reason more frames file all) =
    let none = begins_unrefused v before begins in
    let word = before ++ high ∷ low ∷ [] in
    let file_are = words-bytes (before ++ high ∷ low ∷ more) file.file.words file.file.spelled in
    let (are, _) = All-split (λ byte. byte < 256) word more (subst (All (λ byte. byte < 256)) (sym (append_assoc before (high ∷ low ∷ []) more)) file_are) in
    let cases : (w : Option Why) → reason_of v before (256 * high + low) ≡ w → reason_of v before (256 * high + low) ≡ Some reason = elim [
      | None ↦ λ taken. absurd (nowhere_on (goes_on v takes word are (whole-word before high low whole)
          (word_read v before high low whole none ∙ ap (refused_at (length before % 2 ^ 64)) taken)))
      | Some other ↦ λ said.
          let refuses = file_refused v frames (before ++ high ∷ low ∷ more) other file (reason_stays v before high low more other whole none said) in
          said ∙ ap (λ w. Some w) (refused_for_one v (flat_map packet_parts frames) other reason refuses (all more frames file))
    ] in cases _ refl

-- a word that offends by the words of its packet goes on to no file
never_goes_on : (v : Verdict CdpPart) (before : List ℕ) (high low : ℕ) (reason : Why) (words more : List ℕ) (frames : List Frame) → AreWholeWords before → Begins (layers_of v) before
    → AreOpenBehind words before → OffendsFor words (256 * high + low) reason → IsFileOf frames (before ++ high ∷ low ∷ more) → ⊥
never_goes_on v before high low reason words more frames whole begins opens offends file =
    let quiet = begins_unrefused never before (begins_under_never v before begins) in
    let kept = open_once words before opens (caught_read never before quiet).0 in
    let said = offends_given never before (256 * high + low) reason quiet (subst (λ ws. OffendsFor ws (256 * high + low) reason) (sym kept) offends) in
    let refused = reason_stays never before high low more reason whole quiet said in
    let unrefused = (file_caught never frames (before ++ high ∷ low ∷ more) (file_under_never frames (before ++ high ∷ low ∷ more) file)).1 in
    let clash : None ≡ Some reason = ap why_of (sym unrefused) ∙ refused in
    absurd cc

-- there is one reason
pub reason_once : (v : Verdict CdpPart) (before : List ℕ) (high low : ℕ) (reason other : Why) → AreWholeWords before → Begins (layers_of v) before
    → HasReason (layers_of v) before high low reason → HasReason (layers_of v) before high low other → reason ≡ other
reason_once v before high low _ _ whole begins (by_its_packet reason words opens offends) (by_its_packet other others also too) =
    let read = (caught_read v before (begins_unrefused v before begins)).0 in
    let same : others ≡ words = sym (open_once others before also read) ∙ open_once words before opens read in
    offends_for_one words (256 * high + low) reason other offends (subst (λ ws. OffendsFor ws (256 * high + low) other) same too)
reason_once v before high low _ _ whole begins (by_its_packet reason words opens offends) (by_layers_above other more frames file all) =
    absurd (never_goes_on v before high low reason words more frames whole begins opens offends file)
reason_once v before high low _ _ whole begins (by_layers_above reason more frames file all) (by_its_packet other words opens offends) =
    absurd (never_goes_on v before high low other words more frames whole begins opens offends file)
reason_once v before high low _ _ whole begins (by_layers_above reason more frames file all) (by_layers_above other others behind also too) =
    refused_for_one v (flat_map packet_parts frames) reason other (all more frames file) (too more frames file)

-- where no layer above refuses a part, it is by the words of the packet
pub reason_of_packet : (v : Verdict CdpPart) → RefusesNone v → (before : List ℕ) (high low : ℕ) (reason : Why) → HasReason (layers_of v) before high low reason
    → (words : List ℕ) × AreOpenBehind words before × OffendsFor words (256 * high + low) reason
reason_of_packet v quiet before high low _ (by_its_packet reason words opens offends) = (words, opens, offends)
reason_of_packet v quiet before high low _ (by_layers_above reason more frames file all) =
    let first = all more frames file in
    let clash : None ≡ Some reason = sym (quiet first.taken first.part) ∙ first.refused in
    absurd cc

-- the first offending word is refused
pub offence_refused : (v : Verdict CdpPart) → TakesFilling v → (bytes : List ℕ) (refusal : Refusal) → FirstOffendingWord (layers_of v) bytes refusal → refusal_of v bytes ≡ Some refusal
offence_refused v takes bytes refusal has =
    let place = length has.before % 2 ^ 64 in
    let none = begins_unrefused v has.before has.begins in
    let here = refusal_at place refusal.why in
    let reason = reason_said v takes has.before has.high has.low refusal.why has.whole has.begins has.offends has.why_is in
    let some = word_read v has.before has.high has.low has.whole none ∙ ap (refused_at place) reason in
    let stays = refusal-stays v (has.before ++ has.high ∷ has.low ∷ []) has.rest here some in
    ap (refusal_of v) (has.spelled ∙ sym (append_assoc has.before (has.high ∷ has.low ∷ []) has.rest)) ∙ stays
    ∙ ap (λ n. Some (refusal_at n refusal.why)) (sym has.place_is)

-- no file begins with bytes and an offending word of theirs
pub past_offence : (layers : Layers) (front tail bytes : List ℕ) (refusal : Refusal) (has : FirstOffendingWord layers bytes refusal) → front ++ tail ≡ bytes
    → length has.before + 2 ≤ length front → Begins layers front → ⊥
past_offence layers front tail bytes refusal has spelled long begins =
    let word = has.before ++ has.high ∷ has.low ∷ [] in
    let same : word ++ has.rest ≡ front ++ tail = append_assoc has.before (has.high ∷ has.low ∷ []) has.rest ∙ sym has.spelled ∙ sym spelled in
    let (more, is) = front_of word front has.rest tail same (omega (arith, length-append has.before (has.high ∷ has.low ∷ []), long)) in
    has.offends (Begins-before layers word more (subst (Begins layers) is begins))

-- even numbers that differ by less than 2
even_near : (m n : ℕ) → m % 2 ≡ 0 → n % 2 ≡ 0 → (m + 2 ≤ n → ⊥) → (n + 2 ≤ m → ⊥) → m ≡ n
even_near m n one two below above = omega arith

-- so bytes have one first offending word
pub offence_is_one : (v : Verdict CdpPart) (bytes : List ℕ) (refusal other : Refusal) → FirstOffendingWord (layers_of v) bytes refusal → FirstOffendingWord (layers_of v) bytes other → refusal ≡ other
offence_is_one v bytes refusal other has also =
    let past : length has.before + 2 ≤ length also.before → ⊥ = λ long.
    past_offence (layers_of v) also.before (also.high ∷ also.low ∷ also.rest) bytes refusal has (sym also.spelled) long also.begins in
    let beyond : length also.before + 2 ≤ length has.before → ⊥ = λ long.
    past_offence (layers_of v) has.before (has.high ∷ has.low ∷ has.rest) bytes other also (sym has.spelled) long has.begins in
    let long : length has.before ≡ length also.before = even_near (length has.before) (length also.before) has.whole also.whole past beyond in
    let (same, behind) = same_heads has.before also.before (has.high ∷ has.low ∷ has.rest) (also.high ∷ also.low ∷ also.rest) long (sym has.spelled ∙ also.spelled) in
    let high : has.high ≡ also.high = cc in
    let low : has.low ≡ also.low = cc in
    let there = subst (λ bs. HasReason (layers_of v) bs also.high also.low other.why) (sym same) also.why_is in
    let here = subst (λ n. HasReason (layers_of v) has.before has.high n other.why) (sym low) (subst (λ n. HasReason (layers_of v) has.before n also.low other.why) (sym high) there) in
    let whys = reason_once v has.before has.high has.low refusal.why other.why has.whole has.begins has.why_is here in
    let places = has.place_is ∙ ap (λ n. n % 2 ^ 64) long ∙ sym also.place_is in
    ap (λ n. refusal_at n refusal.why) places ∙ ap (refusal_at other.place) whys

-- bytes as whole words, and a single byte or none
record Halves (bytes : List ℕ) : Type 0 where
  pub words : List ℕ
  pub half : List ℕ
  pub spelled : bytes ≡ words ++ half
  pub whole : AreWholeWords words
  pub single : length half ≤ 1

halves : (bytes : List ℕ) → Halves bytes
halves [] = record { words = []; half = []; spelled = refl; whole = refl; single = lit≤ tt }
halves (high ∷ []) = record { words = []; half = high ∷ []; spelled = refl; whole = refl; single = lit≤ tt }
halves (high ∷ low ∷ bytes) =
    let rest = halves bytes in
    let whole = rest.whole in record {
      words = high ∷ low ∷ rest.words;
      half = rest.half;
      spelled = ap (λ bs. high ∷ low ∷ bs) rest.spelled;
      whole = omega (arith, whole);
      single = rest.single;
    }

-- bytes that aren't refused have no offending word
pub unrefused_is_unoffending : (v : Verdict CdpPart) → TakesFilling v → (bytes : List ℕ) → All (λ byte. byte < 256) bytes → refusal_of v bytes ≡ None → IsUnoffending (layers_of v) bytes
unrefused_is_unoffending v takes bytes are none =
    let cut = halves bytes in
    let (words_are, _) = All-split (λ byte. byte < 256) cut.words cut.half (subst (All (λ byte. byte < 256)) cut.spelled are) in record {
      words = cut.words;
      half = cut.half;
      spelled = cut.spelled;
      whole = cut.whole;
      single = cut.single;
      begins = goes_on v takes cut.words words_are cut.whole (refusal-before v cut.words cut.half (ap (refusal_of v) (sym cut.spelled) ∙ none));
    }

-- a single byte or none is never refused after whole words
half_unrefused : (v : Verdict CdpPart) (words half : List ℕ) → AreWholeWords words → length half ≤ 1 → refusal_of v words ≡ None → refusal_of v (words ++ half) ≡ None
half_unrefused v words [] whole single none = ap (refusal_of v) (append-nil words) ∙ none
half_unrefused v words (high ∷ []) whole single none = high_unrefused v words high whole none
half_unrefused v words (high ∷ low ∷ rest) whole single none = absurd (omega (arith, single))

pub unoffending_is_unrefused : (v : Verdict CdpPart) (bytes : List ℕ) → IsUnoffending (layers_of v) bytes → refusal_of v bytes ≡ None
unoffending_is_unrefused v bytes is =
    ap (refusal_of v) is.spelled ∙ half_unrefused v is.words is.half is.whole is.single (begins_unrefused v is.words is.begins)
