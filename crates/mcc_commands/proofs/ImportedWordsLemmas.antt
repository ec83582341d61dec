-- The words of packets are one list of bytes, and the words of more packets go on after them.
use Rattle.std.proofs.Common.{◌≡◌, ℕ, ◌+◌, ◌*◌, ◌%◌, ◌<◌, ◌≤◌, inl, inr, Bool, true, false, cond, List, [], ◌∷◌, ◌++◌, append_assoc, length, length-append, sum, Option, Some, None, refl, ap, sym, ◌∙◌, subst, arith}
use Rattle.std.proofs.lemmas.Bool.{true≢false}
use Rattle.std.proofs.lemmas.List.{drop_at, take_at}
use Rattle.std.specs.Prelude.{drop, take}
use Rattle.anc_words.specs.Writing.{packet_bytes}
use Rattle.cdp_packets.proofs.PacketLemmas.{packet_once}
use Rattle.cdp_packets.specs.Packets.{Frame}
use Rattle.mcc_files.specs.MccFiles.{TimedPackets}
use Rattle.mcc_files.specs.Payloads.{Payload}
use Rattle.mcc_commands.specs.Imported.{frames_behind, frames_put}
use Rattle.mcc_words.proofs.CloseLemmas.{same_last, sum_foot}
use Rattle.mcc_words.specs.MccWords.{AreCaptionWords, ArePacketWords, AreWordsBehind, carries_captions, missing, missing_words, raised_by}
use Rattle.mcc_words.specs.Raised.{IsRaised}
use Rattle.mcc_words.specs.declared.maker.Before.{Before}
use Rattle.mcc_commands.specs.Imports.{WordsAreOne, WordsGoOn}

-- equal lists with fronts of one length
pub same_fronts : (front back other rest : List ℕ) → length front ≡ length other → front ++ back ≡ other ++ rest → (front ≡ other) × (back ≡ rest)
same_fronts front back other rest long same = (
  sym (take_at front back (length front) refl) ∙ ap (take (length front)) same ∙ take_at other rest (length front) (sym long),
  sym (drop_at front back (length front) refl) ∙ ap (drop (length front)) same ∙ drop_at other rest (length front) (sym long),
)

-- a packet has one list of words with its counter raised
two_once : (a b c d : ℕ) → a < 256 → b < 256 → c < 256 → d < 256 → 256 * a + b ≡ 256 * c + d → (a ≡ c) × (b ≡ d)
two_once a b c d a_fits b_fits c_fits d_fits is = (omega (arith, is), omega (arith, is))

abbrev pub foot_of : ℕ → ℕ → ℕ → List ℕ
foot_of high low last = 0x74 ∷ high ∷ low ∷ last ∷ []

abbrev pub packet_with : List ℕ → List ℕ → ℕ → ℕ → ℕ → List ℕ
packet_with head middle high low last = head ++ (high ∷ low ∷ (middle ++ foot_of high low last))

-- the parts of a packet that was raised twice are the same
record SameParts (head other middle others : List ℕ) (high low again low_again : ℕ) : Type 0 where
  heads : head ≡ other
  middles : middle ≡ others
  highs : high ≡ again
  lows : low ≡ low_again

same_parts : (head other middle others : List ℕ) (high low last again low_again last_again : ℕ) → length head ≡ length other
    → packet_with head middle high low last ≡ packet_with other others again low_again last_again → SameParts head other middle others high low again low_again
same_parts head other middle others high low last again low_again last_again long same =
    let tail = high ∷ low ∷ (middle ++ foot_of high low last) in
    let tail_again = again ∷ low_again ∷ (others ++ foot_of again low_again last_again) in
    let fronts = same_fronts head tail other tail_again long same in
    let tails : tail ≡ tail_again = fronts.1 in
    let highs : high ≡ again = cc in
    let lows : low ≡ low_again = cc in
    let backs : middle ++ foot_of high low last ≡ others ++ foot_of again low_again last_again = cc in
    let size : length middle ≡ length others =
    omega (arith, ap length backs, length-append middle (foot_of high low last), length-append others (foot_of again low_again last_again)) in
    let rest = same_fronts middle (foot_of high low last) others (foot_of again low_again last_again) size backs in
    record { heads = fronts.0; middles = rest.0; highs = highs; lows = lows }

raised_as : (by : ℕ) (user one : List ℕ) (r : IsRaised by user one) (head middle : List ℕ) (high low : ℕ) → r.head ≡ head → r.middle ≡ middle → r.high_again ≡ high → r.low_again ≡ low
    → one ≡ packet_with head middle high low r.last_again
raised_as by user one r head middle high low heads middles highs lows =
    r.raised_is
    ∙ (ap (λ (h : List ℕ). packet_with h r.middle r.high_again r.low_again r.last_again) heads
    ∙ (ap (λ (m : List ℕ). packet_with head m r.high_again r.low_again r.last_again) middles
    ∙ (ap (λ (h : ℕ). packet_with head middle h r.low_again r.last_again) highs ∙ ap (λ (l : ℕ). packet_with head middle high l r.last_again) lows)))

total_of : (head middle : List ℕ) (high low last : ℕ) (one : List ℕ) → one ≡ packet_with head middle high low last → sum one % 256 ≡ 0
    → (sum head + 0x74 + sum middle + 2 * high + 2 * low + last) % 256 ≡ 0
total_of head middle high low last one is total =
    ap (λ (n : ℕ). n % 256) (sym (ap (λ (b : List ℕ). sum b) is ∙ sum_foot head middle high low last)) ∙ total

raised_once : (by : ℕ) (user one other : List ℕ) → IsRaised by user one → IsRaised by user other → one ≡ other
raised_once by user one other r q =
    let p = same_parts r.head q.head r.middle q.middle r.high r.low r.last q.high q.low q.last (r.five ∙ sym q.five) (sym r.user_is ∙ q.user_is) in
    let counters : 256 * r.high_again + r.low_again ≡ 256 * q.high_again + q.low_again =
    r.counter
    ∙ (ap (λ (h : ℕ). (256 * h + r.low + by) % 65536) p.highs ∙ (ap (λ (l : ℕ). (256 * q.high + l + by) % 65536) p.lows ∙ sym q.counter)) in
    let again = two_once r.high_again r.low_again q.high_again q.low_again r.bytes.0 r.bytes.1 q.bytes.0 q.bytes.1 counters in
    let first = raised_as by user one r q.head q.middle q.high_again q.low_again p.heads p.middles again.0 again.1 in
    let rest = sum q.head + 0x74 + sum q.middle + 2 * q.high_again + 2 * q.low_again in
    let last : r.last_again ≡ q.last_again =
    same_last rest r.last_again q.last_again r.bytes.2 q.bytes.2 (total_of q.head q.middle q.high_again q.low_again r.last_again one first r.total)
    (total_of q.head q.middle q.high_again q.low_again q.last_again other q.raised_is q.total) in
    first ∙ (ap (λ (l : ℕ). packet_with q.head q.middle q.high_again q.low_again l) last ∙ sym q.raised_is)

-- and a packet of captions with the frames before it
abbrev after_with : Option Before → ℕ → Frame → Option Before
after_with before frame packet = Some (record { frame = frame; rate = packet.rate; counter = packet.counter; raised = raised_by before frame packet.counter })

captions_once : (before : Option Before) (frame : ℕ) (user one other : List ℕ) (after later : Option Before) → AreCaptionWords before frame user one after
    → AreCaptionWords before frame user other later → (one ≡ other) × (after ≡ later)
captions_once before frame user one other after later w v =
    let packet : w.packet ≡ v.packet = (packet_once w.packet v.packet user user [] [] w.is v.is refl).packet in
    let raised = raised_once (raised_by before frame v.packet.counter) user w.raised v.raised
    (subst (λ (p : Frame). IsRaised (raised_by before frame p.counter) user w.raised) packet w.is_raised) v.is_raised in (
      w.spelled ∙ (ap (λ (r : List ℕ). missing_words before frame ++ packet_bytes 0x61 0x01 r) raised ∙ sym v.spelled),
      w.after_is ∙ (ap (λ (p : Frame). after_with before frame p) packet ∙ sym v.after_is),
    )

packet_once_more : (before : Option Before) (placed : ℕ × Payload) (one other : List ℕ) (after later : Option Before) → ArePacketWords before placed one after
    → ArePacketWords before placed other later → (one ≡ other) × (after ≡ later)
packet_once_more before placed one other after later (inl (is, words)) (inl (also, others)) =
    captions_once before placed.0 placed.1.user one other after later words others
packet_once_more before placed one other after later (inl (is, words)) (inr (isnt, others, same)) = absurd (true≢false (sym is ∙ isnt))
packet_once_more before placed one other after later (inr (isnt, words, same)) (inl (is, others)) = absurd (true≢false (sym is ∙ isnt))
packet_once_more before placed one other after later (inr (isnt, words, same)) (inr (also, others, again)) = (words ∙ sym others, same ∙ sym again)

-- all packets have one list of words
words_once : (placed : TimedPackets) (before after later : Option Before) (one other : List ℕ) → AreWordsBehind before placed one after → AreWordsBehind before placed other later
    → (one ≡ other) × (after ≡ later)
words_once [] before after later one other (none, same) (nothing, again) = (none ∙ sym nothing, same ∙ sym again)
words_once (placed ∷ more) before after later one other (front, rest, middle, words, behind, spelled) (first, others, between, also, last, split) =
    let own = packet_once_more before placed front first middle between words also in
    let next = words_once more between after later rest others (subst (λ (b : Option Before). AreWordsBehind b more rest after) own.1 behind) last in
    (spelled ∙ (ap (λ (f : List ℕ). f ++ rest) own.0 ∙ (ap (λ (r : List ℕ). first ++ r) next.0 ∙ sym split)), next.1)

pub one_words : WordsAreOne
one_words placed one other is also = (words_once placed None is.after also.after one other is.are also.are).0

-- the words of packets and of more after them
record Split (front more : TimedPackets) (before after : Option Before) (words : List ℕ) : Type 0 where
  first : List ℕ
  rest : List ℕ
  middle : Option Before
  are : AreWordsBehind before front first middle
  behind : AreWordsBehind middle more rest after
  spelled : words ≡ first ++ rest

split_words : (front more : TimedPackets) (before after : Option Before) (words : List ℕ) → AreWordsBehind before (front ++ more) words after → Split front more before after words
split_words [] more before after words are = record { first = []; rest = words; middle = before; are = (refl, refl); behind = are; spelled = refl }
split_words (placed ∷ front) more before after words (own, rest, middle, is, behind, spelled) =
    let s = split_words front more middle after rest behind in
    record {
      first = own ++ s.first;
      rest = s.rest;
      middle = s.middle;
      are = (own, s.first, middle, is, s.are, refl);
      behind = s.behind;
      spelled = spelled ∙ (ap (λ (r : List ℕ). own ++ r) s.spelled ∙ sym (append_assoc own s.first s.rest));
    }

pub words_go_on : WordsGoOn
words_go_on front more fewer words is are =
    let s = split_words front more None are.after words are.are in
    let same = (words_once front None s.middle is.after s.first fewer s.are is.are).0 in
    (s.rest, s.spelled ∙ ap (λ (w : List ℕ). w ++ s.rest) same)

-- more packets have no fewer frames
fewer_by : (test : Bool) (own first all second rest : ℕ) → first ≤ all → second ≤ rest → cond test (own + first) second ≤ cond test (own + all) rest
fewer_by true own first all second rest less fewer = omega (arith, less)
fewer_by false own first all second rest less fewer = fewer

frames_fewer_behind : (front more : TimedPackets) (last : Option ℕ) → frames_behind last front ≤ frames_behind last (front ++ more)
frames_fewer_behind [] more last = omega arith
frames_fewer_behind (placed ∷ front) more last =
    fewer_by (carries_captions placed.1) (missing last placed.0 + 1) (frames_behind (Some placed.0) front) (frames_behind (Some placed.0) (front ++ more))
    (frames_behind last front) (frames_behind last (front ++ more)) (frames_fewer_behind front more (Some placed.0)) (frames_fewer_behind front more last)

pub frames_fewer : (front more : TimedPackets) → frames_put front ≤ frames_put (front ++ more)
frames_fewer front more = frames_fewer_behind front more None
