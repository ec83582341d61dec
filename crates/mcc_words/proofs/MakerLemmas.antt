-- The words of packets, one packet after another.
use Rattle.std.proofs.Common.{◌≡◌, ℕ, suc, ◌+◌, ◌%◌, inl, inr, true, false, List, [], ◌∷◌, ◌++◌, append_assoc, append-nil, Option, Some, None, refl, ap, sym, ◌∙◌, subst, add-one}
use Rattle.anc_words.specs.Writing.{packet_bytes}
use Rattle.mcc_files.specs.MccFiles.{TimedPackets}
use Rattle.mcc_files.specs.Payloads.{Payload}
use Rattle.mcc_files.specs.PayloadWords.{payload_words}
use Rattle.mcc_words.specs.Calls.{CallsMake}
use Rattle.mcc_words.specs.Makers.{AreMissingFrames, BeginsCaptions, HasMade, PutsNext, words_left}
use Rattle.mcc_words.specs.MccWords.{ArePacketWords, AreWordsBehind, carries_captions, missing, missing_words, raised_by}
use Rattle.mcc_words.specs.Missing.{words_without}
use Rattle.mcc_words.specs.Raised.{IsRaised}
use Rattle.mcc_words.specs.declared.maker.Before.{Before}
use Rattle.mcc_words.specs.declared.maker.MccWords.{MccWords}
use Rattle.mcc_words.specs.declared.missing.MissingFrames.{MissingFrames}

-- one packet more
pub words_more : (placed : TimedPackets) (bytes : List ℕ) (before middle : Option Before) (one : ℕ × Payload) (front : List ℕ) (after : Option Before)
    → AreWordsBehind before placed bytes middle → ArePacketWords middle one front after → AreWordsBehind before (placed ++ one ∷ []) (bytes ++ front) after
words_more [] bytes before middle one front after (none, same) words =
    (front, [], after, subst (λ (b : Option Before). ArePacketWords b one front after) same words, (refl, refl), ap (λ b. b ++ front) none ∙ sym (append-nil front))
words_more (placed ∷ more) bytes before middle one front after (first, rest, next, are, behind, spelled) words =
    (first, rest ++ front, next, are, words_more more rest next middle one front after behind words, ap (λ b. b ++ front) spelled ∙ append_assoc first rest front)

-- the words of missing frames are those that are left
pub missing_are : (before : Option Before) (frame : ℕ) (frames : MissingFrames) → AreMissingFrames before frame frames → missing_words before frame ≡ words_left frames
missing_are None frame frames none = sym (ap (λ many. words_without frames.rate frames.number many) none)
missing_are (Some before) frame frames (left, rate, number) =
    let many = missing (Some before.frame) frame in
    sym (ap (λ n. words_without frames.rate frames.number n) left
    ∙ (ap (λ r. words_without r frames.number many) rate ∙ ap (λ n. words_without before.rate n many) number))

pub next_made : (old new : MissingFrames) (front : List ℕ) → PutsNext old new true front → words_left old ≡ front ++ words_left new
next_made old new front (left, rate, number, is) =
    let one_more : old.left ≡ suc new.left = left ∙ add-one new.left in
    let next = (old.number + 1) % 65536 in
    ap (λ many. words_without old.rate old.number many) one_more
    ∙ (ap (λ bytes. bytes ++ words_without old.rate next new.left) (sym is)
    ∙ (ap (λ r. front ++ words_without r next new.left) (sym rate) ∙ ap (λ n. front ++ words_without new.rate n new.left) (sym number)))

pub some_one : (x y : Before) (o : Option Before) → o ≡ Some x → o ≡ Some y → x ≡ y
some_one x y o first second = cc

pub captions_made : (placed : TimedPackets) (made : List ℕ) (old new : MccWords) (frame : ℕ) (payload : Payload) (frames : MissingFrames) (raised : List ℕ) (now : Before)
    → HasMade placed made old → carries_captions payload ≡ true → BeginsCaptions old frame payload.user new frames
    → new.before ≡ Some now → IsRaised now.raised payload.user raised
    → HasMade (placed ++ (frame, payload) ∷ []) (made ++ (words_left frames ++ packet_bytes 0x61 0x01 raised)) new
captions_made placed made old new frame payload frames raised now is captions begins now_is raises =
    let due : Before = record { frame = frame; rate = begins.packet.rate; counter = begins.packet.counter; raised = raised_by old.before frame begins.packet.counter } in
    let same : now ≡ due = some_one now due new.before now_is begins.after in
    let packet = packet_bytes 0x61 0x01 raised in
    words_more placed made None old.before (frame, payload) (words_left frames ++ packet) new.before is
    (inl (
      captions,
      record {
        packet = begins.packet;
        raised = raised;
        is = begins.is;
        is_raised = subst (λ (b : Before). IsRaised b.raised payload.user raised) same raises;
        spelled = ap (λ words. words ++ packet) (sym (missing_are old.before frame frames begins.are));
        after_is = begins.after;
      },
    ))

pub other_made : (placed : TimedPackets) (made : List ℕ) (maker : MccWords) (frame : ℕ) (payload : Payload) → HasMade placed made maker → carries_captions payload ≡ false
    → HasMade (placed ++ (frame, payload) ∷ []) (made ++ payload_words payload) maker
other_made placed made maker frame payload is other =
    words_more placed made None maker.before (frame, payload) (payload_words payload) maker.before is (inr (other, refl, refl))

pub calls_make : CallsMake
calls_make = record {
  next = next_made;
  captions = captions_made;
  other = other_made;
  words = λ placed made maker is. record { after = maker.before; are = is };
}
