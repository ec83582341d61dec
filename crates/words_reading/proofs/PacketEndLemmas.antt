-- Where a packet ends after a file, and what it brings.
use Rattle.std.proofs.Common.{◌≡◌, ℕ, ◌<◌, ◌≤◌, ◌⊎◌, inl, inr, All, List, [], ◌∷◌, ◌++◌, length, take, refl, ap, sym, subst, ◌∙◌, append_assoc, append-nil, length-append, arith, Bool, true, false, nat_lt}
use Rattle.std.proofs.lemmas.Bool.Decides.{nat_tests}
use Rattle.std.proofs.Math.Seq.{take-append_seam}
use Rattle.cc_base.specs.Syntax.{AllRead, open_behind}
use Rattle.cc_base.proofs.SyntaxLemmas.{AllRead-front}
use Rattle.anc_words.specs.Packets.{AncillaryPacket, IsCaption, user_bytes}
use Rattle.anc_words.specs.Reading.{anc_syntax, nothing_open}
use Rattle.anc_words.specs.WordsFiles.{IsPacketBytes, IsWordsFile}
use Rattle.anc_words.proofs.ByteLemmas.{file_is_read, what_is_read_is_file}
use Rattle.anc_words.proofs.WordsFileLemmas.{IsWordsFile-append, IsWordsFile-first, IsWordsFile-one, IsWordsFile-unique}
use Rattle.cdp_packets.specs.Packets.{Frame, IsCdp}
use Rattle.words_files.specs.Frames.{CarryFrames}
use Rattle.words_files.specs.Frames.CarryFrames.{none, caption, foreign}
use Rattle.words_files.specs.FramesOf.{AreFramesOf}
use Rattle.words_files.specs.Offences.{IsFileUnder, IsUnoffending}
use Rattle.cc_receiver.specs.CaptionChannel.{caption_channel}
use Rattle.cc_receiver.proofs.ChannelFiles.{caught_channel, unoffending_unrefused}
use Rattle.words_files.proofs.FramesOfLemmas.{carry_front, empty_file, file_front, some_packet}
use Rattle.words_files.proofs.WordLemmas.{front_of}
use Rattle.words_reading.specs.OpenPackets.{NoPacketEnds}

-- bytes with which others begin, of which no word offends, and after which nothing is open, are a file
pub closed_file : (bytes front rest : List ℕ) → bytes ≡ front ++ rest → 0 < length rest → IsUnoffending caption_channel bytes → All (λ b. b < 256) front
    → open_behind anc_syntax front ≡ nothing_open → (packets : List AncillaryPacket) × IsWordsFile packets front
closed_file bytes front rest spelled some is are closed =
    let begins = is.begins in
    let read = file_is_read begins.is_file.file.packets (is.words ++ begins.more) begins.is_file.file.file in
    let words_read : AllRead anc_syntax is.words = AllRead-front anc_syntax is.words begins.more read.taken in
    let half = is.single in
    let long = ap length (sym is.spelled ∙ spelled) in
    let fits : length front ≤ length is.words = omega (arith, long, half, length-append is.words is.half, length-append front rest) in
    let (behind, parted) = front_of front is.words rest is.half (sym spelled ∙ is.spelled) fits in
    let front_read : AllRead anc_syntax front = AllRead-front anc_syntax front behind (subst (AllRead anc_syntax) parted words_read) in
    what_is_read_is_file front are front_read closed

-- a file of which no word offends has frames
pub file_under : (packets : List AncillaryPacket) (bytes : List ℕ) → IsWordsFile packets bytes → IsUnoffending caption_channel bytes → All (λ b. b < 256) bytes
    → (frames : List Frame) × IsFileUnder caption_channel frames bytes
file_under packets bytes file is are =
    caught_channel bytes are (unoffending_unrefused bytes is) (file_is_read packets bytes file).leads

-- the last of packets
last_same : (front : List AncillaryPacket) (earlier : List AncillaryPacket) (p q : AncillaryPacket) → earlier ++ p ∷ [] ≡ front ++ q ∷ [] → p ≡ q
last_same [] [] p q same = cc
last_same [] (e ∷ []) p q same = cc
last_same [] (e ∷ d ∷ earlier) p q same = cc
last_same (f ∷ []) [] p q same = cc
last_same (f ∷ g ∷ front) [] p q same = cc
last_same (f ∷ front) (e ∷ earlier) p q same = last_same front earlier p q cc

-- a packet has bytes
pub has_bytes : (bytes : List ℕ) (r : AncillaryPacket) → IsPacketBytes r bytes → 0 < length bytes
has_bytes [] r is = absurd (some_packet r [] is refl)
has_bytes (b ∷ bytes) r is = omega arith

-- a packet at the end of a file, where none ends before it
pub one_packet : (packets earlier : List AncillaryPacket) (packet : AncillaryPacket) (file behind : List ℕ) → IsWordsFile packets file
    → IsWordsFile (earlier ++ packet ∷ []) (file ++ behind) → 0 < length behind
    → ((others : List AncillaryPacket) (n : ℕ) → 0 < n → n < length behind → IsWordsFile others (file ++ take n behind) → ⊥)
    → IsPacketBytes packet behind
one_packet packets earlier packet file behind is whole some no_other =
    let next = file_front packets (earlier ++ packet ∷ []) file behind is whole in
    by_rest next.rest next.spelled next.file
  where
    by_rest : (rest : List AncillaryPacket) → earlier ++ packet ∷ [] ≡ packets ++ rest → IsWordsFile rest behind → IsPacketBytes packet behind
    by_rest [] same left = absurd (omega (arith, some, ap length (empty_file behind left)))
    by_rest (p ∷ []) same left =
        let (front, rest, spelled, is_packet, others) = IsWordsFile-first p [] behind left in
        let all : behind ≡ front = spelled ∙ ap (λ r. front ++ r) (empty_file rest others) ∙ append-nil front in
        subst (λ q. IsPacketBytes q behind) (sym (last_same packets earlier packet p same)) (subst (IsPacketBytes p) (sym all) is_packet)
    by_rest (p ∷ q ∷ more) same left =
        let (front, rest, spelled, is_packet, others) = IsWordsFile-first p (q ∷ more) behind left in
        let (second, after, parted, is_second, others_left) = IsWordsFile-first q more rest others in
        let long = ap length spelled ∙ length-append front rest in
        let cut : take (length front) behind ≡ front = ap (take (length front)) spelled ∙ take-append_seam front rest in
        let front_some = has_bytes front p is_packet in
        let second_some = has_bytes second q is_second in
        let rest_some : 0 < length rest = omega (arith, second_some, ap length parted, length-append second after) in
        absurd (no_other (packets ++ p ∷ []) (length front) front_some (omega (arith, long, rest_some))
        (subst (λ b. IsWordsFile (packets ++ p ∷ []) (file ++ b)) (sym cut)
        (IsWordsFile-append packets (p ∷ []) file front is (IsWordsFile-one p front is_packet))))

-- what one packet after a file brings
pub record Brings (packet : AncillaryPacket) (frames more : List Frame) : Type 0 where
  pub foreign_brings : (IsCaption packet → ⊥) → more ≡ frames
  pub caption_brings : IsCaption packet → (frame : Frame) × IsCdp frame (user_bytes packet) × (more ≡ frames ++ frame ∷ [])

pub brings : (packet : AncillaryPacket) (frames more : List Frame) (file behind : List ℕ) → IsFileUnder caption_channel frames file
    → IsFileUnder caption_channel more (file ++ behind) → IsPacketBytes packet behind → Brings packet frames more
brings packet frames more file behind was now is =
    let whole = IsWordsFile-append was.file.packets (packet ∷ []) file behind was.file.file (IsWordsFile-one packet behind is) in
    let same = IsWordsFile-unique now.file.packets (was.file.packets ++ packet ∷ []) (file ++ behind) now.file.file whole in
    let carries = carry_front was.file.packets (packet ∷ []) frames more was.file.carried (subst (λ ps. CarryFrames ps more) same now.file.carried) in
    record {
      foreign_brings = λ isnt. carries.spelled ∙ ap (λ b. frames ++ b) (nothing carries.behind carries.carried isnt) ∙ append-nil frames;
      caption_brings = λ is_caption. let (frame, cdp, only) = one carries.behind carries.carried is_caption in (frame, cdp, carries.spelled ∙ ap (λ b. frames ++ b) only);
    }
  where
    nothing : (behind : List Frame) → CarryFrames (packet ∷ []) behind → (IsCaption packet → ⊥) → behind ≡ []
    nothing _ (caption _ _ frame frames is cdp rest) isnt = absurd (isnt is)
    nothing _ (foreign _ _ frames also none) isnt = refl

    one : (behind : List Frame) → CarryFrames (packet ∷ []) behind → IsCaption packet → (frame : Frame) × IsCdp frame (user_bytes packet) × (behind ≡ frame ∷ [])
    one _ (caption _ _ frame frames is cdp none) also = (frame, cdp, refl)
    one _ (foreign _ _ frames isnt rest) is = absurd (isnt is)

-- one of two numbers is no more than the other
pub no_more : (a b : ℕ) → (a ≤ b) ⊎ (b < a)
no_more a b = from_test (nat_lt b a) refl
  where
    from_test : (test : Bool) → nat_lt b a ≡ test → (a ≤ b) ⊎ (b < a)
    from_test true is = inr (grind (arith, nat_tests))
    from_test false is = inl (grind (arith, nat_tests))

-- after one front stands one list
pub tail_same : (front xs ys : List ℕ) → front ++ xs ≡ front ++ ys → xs ≡ ys
tail_same [] xs ys same = same
tail_same (f ∷ front) xs ys same = tail_same front xs ys cc

-- a file with which bytes begin is no longer, where no packet ends after a file of them
pub not_longer : (file behind other rest : List ℕ) → NoPacketEnds file behind → file ++ behind ≡ other ++ rest → (packets : List AncillaryPacket) → IsWordsFile packets other
    → length other ≤ length file
not_longer file behind other rest quiet spelled packets is = elim (no_more (length other) (length file)) [
  | inl short ↦ short
  | inr long ↦
      let (more, parted) = front_of file other behind rest spelled (omega (arith, long)) in
      let size = ap length parted ∙ length-append file more in
      let all = ap length spelled in
      let tails : more ++ rest ≡ behind = tail_same file (more ++ rest) behind (sym (append_assoc file more rest) ∙ ap (λ o. o ++ rest) (sym parted) ∙ sym spelled) in
      let cut : take (length more) behind ≡ more = ap (take (length more)) (sym tails) ∙ take-append_seam more rest in
      let fits = ap length tails in
      absurd (quiet packets (length more) (omega (arith, size, long)) (omega (arith, fits, length-append more rest))
      (subst (IsWordsFile packets) (parted ∙ ap (λ m. file ++ m) (sym cut)) is))
]

-- a file, and bytes after it with which no packet ends, have the file's frames
pub frames_here : (frames : List Frame) (file behind : List ℕ) → IsFileUnder caption_channel frames file → NoPacketEnds file behind
    → AreFramesOf caption_channel frames (file ++ behind)
frames_here frames file behind under quiet = record {
  file = file;
  behind = behind;
  spelled = refl;
  is_file = under;
  longest = λ others other rest spelled is. not_longer file behind other rest quiet spelled is.file.packets is.file.file;
}
