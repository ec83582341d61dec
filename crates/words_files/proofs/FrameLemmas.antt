-- The frames of a words file: the bytes have one list of them, and files after one another are a file.
use Rattle.std.proofs.Common.{◌≡◌, ℕ, List, [], ◌++◌, refl, subst}
use Rattle.anc_words.specs.Packets.{AncillaryPacket, user_bytes}
use Rattle.anc_words.proofs.WordsFileLemmas.{IsWordsFile-append, IsWordsFile-unique}
use Rattle.cdp_packets.specs.Packets.{Frame}
use Rattle.cdp_packets.proofs.PacketLemmas.{packet_once}
use Rattle.words_files.specs.Frames.{CarryFrames, IsFileOf, none, caption, foreign}

-- packets carry one list of frames
pub carry_once : (packets : List AncillaryPacket) (frames others : List Frame) → CarryFrames packets frames → CarryFrames packets others → frames ≡ others
carry_once _ _ _ none none = refl
carry_once _ _ _ (caption packet packets frame frames is carries rest) (caption _ _ other others also carries_other rest_other) =
    let same : frame ≡ other = (packet_once frame other (user_bytes packet) (user_bytes packet) [] [] carries carries_other refl).packet in
    let behind : frames ≡ others = carry_once packets frames others rest rest_other in cc
carry_once _ _ _ (caption packet packets frame frames is carries rest) (foreign _ _ others isnt rest_other) = absurd (isnt is)
carry_once _ _ _ (foreign packet packets frames isnt rest) (caption _ _ other others is carries rest_other) = absurd (isnt is)
carry_once _ _ _ (foreign packet packets frames isnt rest) (foreign _ _ others also rest_other) = carry_once packets frames others rest rest_other

-- the bytes of a file are a file of one list of frames
pub one_list : (frames others : List Frame) (bytes : List ℕ) → IsFileOf frames bytes → IsFileOf others bytes → frames ≡ others
one_list frames others bytes is other =
    let same = IsWordsFile-unique is.packets other.packets bytes is.file other.file in
    carry_once other.packets frames others (subst (λ packets. CarryFrames packets frames) same is.carried) other.carried

-- packets after packets carry frames after frames
pub carry-append : (packets more : List AncillaryPacket) (frames others : List Frame) → CarryFrames packets frames → CarryFrames more others
    → CarryFrames (packets ++ more) (frames ++ others)
carry-append _ more _ others none rest = rest
carry-append _ more _ others (caption packet packets frame frames is carries behind) rest =
    caption packet (packets ++ more) frame (frames ++ others) is carries (carry-append packets more frames others behind rest)
carry-append _ more _ others (foreign packet packets frames isnt behind) rest =
    foreign packet (packets ++ more) (frames ++ others) isnt (carry-append packets more frames others behind rest)

-- a file after a file is a file
pub joined : (frames others : List Frame) (bytes more : List ℕ) → IsFileOf frames bytes → IsFileOf others more → IsFileOf (frames ++ others) (bytes ++ more)
joined frames others bytes more is other = record {
  packets = is.packets ++ other.packets;
  file = IsWordsFile-append is.packets other.packets bytes more is.file other.file;
  carried = carry-append is.packets other.packets frames others is.carried other.carried;
}
