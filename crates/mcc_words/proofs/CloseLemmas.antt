-- Where no frame is missing all packets are as they came.
use Rattle.std.proofs.Common.{◌≡◌, ℕ, zero, ◌+◌, ◌-◌, ◌*◌, ◌%◌, ◌≤◌, ◌<◌, inl, inr, Bool, true, false, cond, nat_lt, List, [], ◌∷◌, ◌++◌, length, sum, Option, Some, None, refl, ap, sym, ◌∙◌, subst, arith}
use Rattle.std.specs.Prelude.{IfSome}
use Rattle.std.specs.List.{concat}
use Rattle.std.proofs.lemmas.Bool.{true≢false}
use Rattle.std.proofs.lemmas.Bool.Decides.{nat_tests}
use Rattle.anc_words.specs.Writing.{packet_bytes}
use Rattle.cc_base.specs.Rate.{rate_code}
use Rattle.cdp_packets.specs.Packets.{Frame, IsCdp}
use Rattle.mcc_files.specs.MccFiles.{TimedPackets}
use Rattle.mcc_files.specs.Payloads.{Payload}
use Rattle.mcc_files.specs.PayloadWords.{payload_words}
use Rattle.mcc_files.proofs.WrittenLemmas.{AreBytes, back_bytes, tail_bytes}
use Rattle.mcc_words.specs.Close.{AreClose, HaveBytes, IsClose, words_as_they_came}
use Rattle.mcc_words.specs.Makers.{raises, was_raised}
use Rattle.mcc_words.specs.MccWords.{AreCaptionWords, AreMccWords, AreWordsBehind, carries_captions, counts_missing, first_number, missing, missing_words, raised_by}
use Rattle.mcc_words.specs.Missing.{words_without}
use Rattle.mcc_words.specs.Raised.{IsRaised}
use Rattle.mcc_words.specs.declared.maker.Before.{Before}
use Rattle.mcc_words.specs.declared.maker.MccWords.{MccWords}
use Rattle.mcc_words.proofs.CaptionTests.{are_captions}
use Rattle.mcc_words.proofs.RaiseLemmas.{sum_both, sum_first}

-- a counter that isn't raised
pub byte_first : (byte : ℕ) (bytes : List ℕ) → AreBytes (byte ∷ bytes) → byte < 256
byte_first byte bytes are = are zero 0 (omega arith)

pub same_two : (a b c d : ℕ) → a < 256 → b < 256 → c < 256 → d < 256 → 256 * a + b ≡ (256 * c + d + 0) % 65536 → (a ≡ c) × (b ≡ d)
same_two a b c d a_fits b_fits c_fits d_fits is = (omega (arith, is), omega (arith, is))

pub same_last : (rest last other : ℕ) → last < 256 → other < 256 → (rest + last) % 256 ≡ 0 → (rest + other) % 256 ≡ 0 → last ≡ other
same_last rest last other fits other_fits is also = omega (arith, is, also)

-- the sum of bytes up to the last
pub sum_foot : (head middle : List ℕ) (high low last : ℕ) → sum (head ++ (high ∷ low ∷ (middle ++ 0x74 ∷ high ∷ low ∷ last ∷ [])))
    ≡ sum head + 0x74 + sum middle + 2 * high + 2 * low + last
sum_foot head middle high low last =
    let foot = 0x74 ∷ high ∷ low ∷ last ∷ [] in
    let all = sum_both head (high ∷ low ∷ (middle ++ foot)) in
    let one = sum_first high (low ∷ (middle ++ foot)) in
    let two = sum_first low (middle ++ foot) in
    let both = sum_both middle foot in
    let three = sum_first 0x74 (high ∷ low ∷ last ∷ []) in
    let four = sum_first high (low ∷ last ∷ []) in
    let five = sum_first low (last ∷ []) in
    let six = sum_first last [] in
    let none : sum [] ≡ 0 = refl in
    omega (arith, all, one, two, both, three, four, five, six, none)

-- the bytes of the counter and of the sum are bytes
pub foot_bytes : (head middle : List ℕ) (high low last : ℕ) → AreBytes (head ++ (high ∷ low ∷ (middle ++ 0x74 ∷ high ∷ low ∷ last ∷ [])))
    → (high < 256) × (low < 256) × (last < 256)
foot_bytes head middle high low last bytes =
    let foot = 0x74 ∷ high ∷ low ∷ last ∷ [] in
    let back = back_bytes head (high ∷ low ∷ (middle ++ foot)) bytes in
    let behind = tail_bytes high (low ∷ (middle ++ foot)) back in
    let feet = back_bytes middle foot (tail_bytes low (middle ++ foot) behind) in
    let lasts = tail_bytes low (last ∷ []) (tail_bytes high (low ∷ last ∷ []) (tail_bytes 0x74 (high ∷ low ∷ last ∷ []) feet)) in
    (byte_first high (low ∷ (middle ++ foot)) back, byte_first low (middle ++ foot) behind, byte_first last [] lasts)

pub not_raised : (packet : Frame) (user raised : List ℕ) → IsCdp packet user → AreBytes user → IsRaised 0 user raised → raised ≡ user
not_raised packet user raised is bytes r =
    let (high, low, last) = foot_bytes r.head r.middle r.high r.low r.last (subst (λ (b : List ℕ). AreBytes b) r.user_is bytes) in
    let (high_fits, low_fits, last_fits) = r.bytes in
    let (highs, lows) = same_two r.high_again r.low_again r.high r.low high_fits low_fits high low r.counter in
    let again : raised ≡ r.head ++ (r.high ∷ r.low ∷ (r.middle ++ 0x74 ∷ r.high ∷ r.low ∷ r.last_again ∷ [])) =
    r.raised_is ∙ (ap (λ h. r.head ++ (h ∷ r.low_again ∷ (r.middle ++ 0x74 ∷ h ∷ r.low_again ∷ r.last_again ∷ []))) highs
    ∙ ap (λ l. r.head ++ (r.high ∷ l ∷ (r.middle ++ 0x74 ∷ r.high ∷ l ∷ r.last_again ∷ []))) lows) in
    let rest = sum r.head + 0x74 + sum r.middle + 2 * r.high + 2 * r.low in
    let now : (rest + r.last_again) % 256 ≡ 0 = ap (λ n. n % 256) (sym (ap (λ b. sum b) again ∙ sum_foot r.head r.middle r.high r.low r.last_again)) ∙ r.total in
    let was : (rest + r.last) % 256 ≡ 0 = ap (λ n. n % 256) (sym (ap (λ b. sum b) r.user_is ∙ sum_foot r.head r.middle r.high r.low r.last)) ∙ is.total in
    let same = same_last rest r.last_again r.last last_fits last now was in
    again ∙ (ap (λ l. r.head ++ (r.high ∷ r.low ∷ (r.middle ++ 0x74 ∷ r.high ∷ r.low ∷ l ∷ []))) same ∙ sym r.user_is)

same_counter : (high low : ℕ) → high < 256 → low < 256 → 256 * high + low ≡ (256 * high + low + 0) % 65536
same_counter high low high_fits low_fits = omega (arith, high_fits, low_fits)

-- a packet is itself with its counter raised by nothing
pub none_raises : (packet : Frame) (user : List ℕ) → IsCdp packet user → AreBytes user → IsRaised 0 user user
none_raises packet user is bytes =
    let head = 0x96 ∷ 0x69 ∷ length user ∷ (16 * rate_code packet.rate + is.marker) ∷ packet.flags ∷ [] in
    let middle = concat packet.sections in
    let (high, low, last) = foot_bytes head middle is.high is.low is.last (subst (λ (b : List ℕ). AreBytes b) is.spelled bytes) in
    record {
      head = head;
      middle = middle;
      high = is.high;
      low = is.low;
      last = is.last;
      high_again = is.high;
      low_again = is.low;
      last_again = is.last;
      five = refl;
      user_is = is.spelled;
      raised_is = is.spelled;
      counter = same_counter is.high is.low high low;
      bytes = (high, low, last);
      total = is.total;
    }

-- the words of a packet whose counter isn't raised are as they came
none_by_test : (raised : ℕ) → nat_lt 0 raised ≡ false → raised ≡ 0
none_by_test raised is = grind (arith, nat_tests)

as_it_came : (before : Option Before) (packet : Frame) (user bytes : List ℕ) → was_raised before ≡ false → IsCdp packet user → AreBytes user → bytes ≡ packet_bytes 0x61 0x01 user
    → IfSome before (λ now. (raised : List ℕ) × IsRaised now.raised user raised × (bytes ≡ packet_bytes 0x61 0x01 raised))
as_it_came None packet user bytes none is fits are = tt
as_it_came (Some now) packet user bytes none is fits are =
    (user, subst (λ (by : ℕ). IsRaised by user user) (sym (none_by_test now.raised none)) (none_raises packet user is fits), are)

pub unraised_words : (maker : MccWords) (packet : Frame) (user bytes : List ℕ) → raises maker ≡ false → IsCdp packet user → AreBytes user → bytes ≡ packet_bytes 0x61 0x01 user
    → IfSome maker.before (λ now. (raised : List ℕ) × IsRaised now.raised user raised × (bytes ≡ packet_bytes 0x61 0x01 raised))
unraised_words maker packet user bytes none is fits are = as_it_came maker.before packet user bytes none is fits are

-- what is before close packets: nothing was raised
abbrev pub Unraised : Option ℕ → Option Before → Type 0
Unraised last None = last ≡ None
Unraised last (Some before) = (last ≡ Some before.frame) × (before.raised ≡ 0)

pub close_is : (last : Option ℕ) (at frame : ℕ) → last ≡ Some at → IsClose last frame → frame - (at + 1) ≡ 0
close_is last at frame is close = let near : frame ≤ at + 1 = subst (λ (o : Option ℕ). IsClose o frame) is close in omega (arith, near)

pub none_missing : (last : Option ℕ) (before : Option Before) (frame : ℕ) → Unraised last before → IsClose last frame → missing_words before frame ≡ []
none_missing last None frame is close = refl
none_missing last (Some before) frame (is, none) close = ap (λ many. words_without before.rate (first_number before) many) (close_is last before.frame frame is close)

pub none_by : (before : Before) (test : Bool) (many : ℕ) → before.raised ≡ 0 → many ≡ 0 → cond test before.raised ((before.raised + many) % 65536) ≡ 0
none_by before true many none no_more = none
none_by before false many none no_more = omega (arith, none, no_more)

pub none_raised : (last : Option ℕ) (before : Option Before) (frame counter : ℕ) → Unraised last before → IsClose last frame → raised_by before frame counter ≡ 0
none_raised last None frame counter is close = refl
none_raised last (Some before) frame counter (is, none) close = none_by before (counts_missing before frame counter) (missing (Some before.frame) frame) none (close_is last before.frame frame is close)

pub packet_close : (last : Option ℕ) (before after : Option Before) (frame : ℕ) (payload : Payload) (front : List ℕ) → Unraised last before → IsClose last frame → carries_captions payload ≡ true → AreBytes payload.user
    → AreCaptionWords before frame payload.user front after → (front ≡ payload_words payload) × Unraised (Some frame) after
packet_close last before after frame payload front is close captions bytes words =
    let none = none_raised last before frame words.packet.counter is close in
    let nothing = none_missing last before frame is close in
    let (did, sdid) = are_captions payload captions in
    let same = not_raised words.packet payload.user words.raised words.is bytes (subst (λ (b : ℕ). IsRaised b payload.user words.raised) none words.is_raised) in
    let spelled : front ≡ packet_bytes payload.did payload.sdid payload.user =
    words.spelled ∙ (ap (λ w. w ++ packet_bytes 0x61 0x01 words.raised) nothing ∙ (ap (λ r. packet_bytes 0x61 0x01 r) same
    ∙ (ap (λ d. packet_bytes d 0x01 payload.user) (sym did) ∙ ap (λ d. packet_bytes payload.did d payload.user) (sym sdid)))) in
    (spelled, subst (λ (o : Option Before). Unraised (Some frame) o) (sym words.after_is) (refl, none))

pub close_by : (placed : TimedPackets) (last : Option ℕ) (before after : Option Before) (bytes : List ℕ) → Unraised last before → AreClose last placed → HaveBytes placed
    → AreWordsBehind before placed bytes after → bytes ≡ words_as_they_came placed
close_by [] last before after bytes is close have (none, same) = none
close_by (placed ∷ more) last before after bytes is (inl (captions, near, close)) (first, have) (front, rest, middle, inl (caption, words), behind, spelled) =
    let (front_is, next) = packet_close last before middle placed.0 placed.1 front is near captions first words in
    let rest_is = close_by more (Some placed.0) middle after rest next close have behind in
    spelled ∙ (ap (λ f. f ++ rest) front_is ∙ ap (λ r. payload_words placed.1 ++ r) rest_is)
close_by (placed ∷ more) last before after bytes is (inl (captions, near, close)) (first, have) (front, rest, middle, inr (other, words, same), behind, spelled) = absurd (true≢false (sym captions ∙ other))
close_by (placed ∷ more) last before after bytes is (inr (other, close)) (first, have) (front, rest, middle, inl (captions, words), behind, spelled) = absurd (true≢false (sym captions ∙ other))
close_by (placed ∷ more) last before after bytes is (inr (other, close)) (first, have) (front, rest, middle, inr (no_captions, words, same), behind, spelled) =
    let rest_is = close_by more last middle after rest (subst (λ (o : Option Before). Unraised last o) (sym same) is) close have behind in
    spelled ∙ (ap (λ f. f ++ rest) words ∙ ap (λ r. payload_words placed.1 ++ r) rest_is)

pub close_as_they_came : (placed : TimedPackets) (bytes : List ℕ) → AreClose None placed → HaveBytes placed → AreMccWords placed bytes → bytes ≡ words_as_they_came placed
close_as_they_came placed bytes close have words = close_by placed None None words.after bytes refl close have words.are
