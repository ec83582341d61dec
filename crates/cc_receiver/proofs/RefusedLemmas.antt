-- Bytes after a refused word change nothing.
use Rattle.std.proofs.lemmas.List.Elements.{All-append}
use Rattle.std.specs.List.{All}
use Rattle.std.proofs.Common.{◌≡◌, ◌+◌, ◌<◌, ◌≤◌, ℕ, ◌++◌, ◌∷◌, List, [], length, Some, ap, append_assoc, arith, length-append, sym, subst, ◌∙◌}
use Rattle.cc_base.specs.declared.refusal.Refusal.{Refusal}
use Rattle.cc_base.specs.Feeding.{Reading, place_by, read_first, reading}
use Rattle.cc_base.specs.Syntax.{judge_by, read_under}
use Rattle.cc_base.proofs.ReadingLemmas.{reading-append}
use Rattle.anc_words.specs.declared.parts.WordPart.{WordPart}
use Rattle.anc_words.specs.Reading.{anc_syntax}
use Rattle.cc_receiver.specs.declared.receiver.Receiver.{Receiver}
use Rattle.services_files.specs.Catching.{caption_verdict, caught_of, refusal_of}
use Rattle.services_files.specs.Offences.{FirstOffendingWord}
use Rattle.services_files.specs.CaptionChannel.{caption_channel}
use Rattle.services_files.specs.Services.{services_say}
use Rattle.cc_receiver.specs.Catchers.{HasCaught}
use Rattle.cc_receiver.specs.Receivers.{HasReceived}

-- what is read of them
read-refused : (before more : List ℕ) (refused : Refusal) → refusal_of services_say before ≡ Some refused
    → read_under anc_syntax 2 (caption_verdict services_say) (before ++ more) ≡ record { parts = (read_under anc_syntax 2 (caption_verdict services_say) before).parts; refusal = Some refused }
read-refused before more refused some =
    let judge = judge_by anc_syntax in
    let one = read_under anc_syntax 2 (caption_verdict services_say) before in
    let rest = reading judge (caption_verdict services_say) (place_by 2) before one.parts more in
    reading-append judge (caption_verdict services_say) (place_by 2) [] [] before more ∙ ap (λ a. read_first a one.parts rest) some

-- the refusal stays
pub refusal-stays : (before more : List ℕ) (refused : Refusal) → refusal_of services_say before ≡ Some refused → refusal_of services_say (before ++ more) ≡ Some refused
refusal-stays before more refused some = ap (λ (r : Reading WordPart). r.refusal) (read-refused before more refused some)

-- and so does the receiver
pub received-refused : (before more : List ℕ) (refused : Refusal) (receiver : Receiver) → refusal_of services_say before ≡ Some refused → All (λ byte. byte < 256) more → HasReceived before receiver
    → HasReceived (before ++ more) receiver
received-refused before more refused receiver some bytes had =
    let parts = sym (ap (λ (r : Reading WordPart). r.parts) (read-refused before more refused some)) in
    let stays = refusal-stays before more refused some in
    record {
      reached = record {
        took = subst (λ ps. HasCaught ps receiver.captions) parts had.reached.took;
        leads = λ none. absurd (let clash = sym stays ∙ none in cc);
        kept = λ other is. had.reached.kept other (some ∙ sym stays ∙ is);
      };
      bytes_are = All-append (λ byte. byte < 256) before more had.bytes_are bytes;
      counted = had.counted ∙ ap (λ ps. length (caught_of services_say ps).frames) parts;
    }

-- what offends first offends first where bytes follow
abbrev pub offends-still : (bytes more all : List ℕ) (refused : Refusal) → bytes ++ more ≡ all → FirstOffendingWord caption_channel bytes refused
    → FirstOffendingWord caption_channel all refused
offends-still bytes more all refused are has = record {
  before = has.before;
  high = has.high;
  low = has.low;
  rest = has.rest ++ more;
  spelled = sym are ∙ ap (λ b. b ++ more) has.spelled ∙ append_assoc has.before (has.high ∷ has.low ∷ has.rest) more;
  whole = has.whole;
  begins = has.begins;
  offends = has.offends;
  place_is = has.place_is;
  why_is = has.why_is;
}

-- the word stands within the bytes
pub offends-within : (bytes : List ℕ) (refused : Refusal) (has : FirstOffendingWord caption_channel bytes refused) → length has.before + 2 ≤ length bytes
offends-within bytes refused has =
    let size = ap length has.spelled ∙ length-append has.before (has.high ∷ has.low ∷ has.rest) in
    omega (arith, size)
