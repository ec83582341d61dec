-- Bytes up to the end of a packet: whether it brings a frame.
use Rattle.std.proofs.Common.{◌≡◌, ℕ, ◌<◌, ◌≤◌, ◌⊎◌, inl, inr, nat_le, Bool, true, false, List, [], ◌∷◌, ◌++◌, length, refl, ap, sym, subst, ◌∙◌, append_assoc, append-nil, length-append, arith}
use Rattle.std.proofs.lemmas.Bool.Decides.{nat_tests}
use Rattle.std.specs.List.{All, flat_map}
use Rattle.std.proofs.lemmas.List.Concat.{flat_map-append}
use Rattle.cc_base.specs.Feeding.{Verdict}
use Rattle.cc_base.specs.Steps.{AreAccepted}
use Rattle.cc_base.specs.Syntax.{open_behind}
use Rattle.cc_base.proofs.StepLemmas.{AreAccepted-split}
use Rattle.anc_words.specs.Packets.{AncillaryPacket, IsCaption}
use Rattle.anc_words.specs.WordsFiles.{IsPacketBytes, IsWordsFile}
use Rattle.anc_words.specs.Ending.{bytes_to_end}
use Rattle.anc_words.specs.Reading.{anc_syntax}
use Rattle.anc_words.proofs.EndingLemmas.{ends_no_sooner}
use Rattle.anc_words.proofs.WordsFileLemmas.{IsWordsFile-append, IsWordsFile-first, IsWordsFile-nil, IsWordsFile-one}
use Rattle.cdp_packets.specs.declared.parts.CdpPart.{CdpPart}
use Rattle.cdp_packets.specs.PacketParts.{packet_parts}
use Rattle.cdp_packets.specs.Packets.{Frame}
use Rattle.words_files.specs.Frames.{CarryFrames, none, caption, foreign}
use Rattle.words_files.specs.FramesOf.{AreFramesOf}
use Rattle.words_files.specs.Offences.{IsFileUnder}
use Rattle.words_files.specs.Verdicts.{layers_of}
use Rattle.words_files.proofs.FramesOfLemmas.{empty_file, file_frames, file_front, frames_of_once, some_packet}
use Rattle.words_files.proofs.WordLemmas.{front_of}
use Rattle.words_files.proofs.GotLemmas.{file_or_none}

-- two ways to part a list: the second parts the first front, or goes past it
pub record Past (front more other rest : List ℕ) : Type 0 where
  pub some : List ℕ
  pub longer : other ≡ front ++ some
  pub parts : more ≡ some ++ rest
  pub any : 0 < length some

part_at : (front more other rest : List ℕ) → front ++ more ≡ other ++ rest → ((some : List ℕ) × (front ≡ other ++ some)) ⊎ Past front more other rest
part_at front more [] rest is = inl (front, refl)
part_at [] more (b ∷ other) rest is = inr (record { some = b ∷ other; longer = refl; parts = is; any = omega arith })
part_at (f ∷ front) more (b ∷ other) rest is = elim (part_at front more other rest cc) [
  | inl (some, same) ↦ inl (some, cc)
  | inr past ↦ let longer = past.longer in inr (record { some = past.some; longer = cc; parts = past.parts; any = past.any })
]

-- no file ends past the bytes before
past_end : (v : Verdict CdpPart) (before more other rest : List ℕ) → length more ≤ bytes_to_end (open_behind anc_syntax before)
    → ((frames : List Frame) → IsFileUnder (layers_of v) frames (before ++ more) → ⊥) → Past before more other rest → (frames : List Frame) → IsFileUnder (layers_of v) frames other → ⊥
past_end v before more other [] few no_file past frames is =
    let whole : past.some ≡ more = sym (past.parts ∙ append-nil past.some) in
    no_file frames (subst (IsFileUnder (layers_of v) frames) (past.longer ∙ ap (λ bs. before ++ bs) whole) is)
past_end v before more other (b ∷ rest) few no_file past frames is =
    let e = ap length past.parts in
    let long = length-append past.some (b ∷ rest) in
    let any = past.any in
    ends_no_sooner before past.some is.file.packets any (omega (arith, e, long, few)) (subst (IsWordsFile is.file.packets) past.longer is.file.file)

-- bytes that are no file bring no frame
pub no_end : (v : Verdict CdpPart) (frames : List Frame) (before more : List ℕ) → length more ≤ bytes_to_end (open_behind anc_syntax before)
    → ((others : List Frame) → IsFileUnder (layers_of v) others (before ++ more) → ⊥) → AreFramesOf (layers_of v) frames before → AreFramesOf (layers_of v) frames (before ++ more)
no_end v frames before more few no_file are = record {
  file = are.file;
  behind = are.behind ++ more;
  spelled = ap (λ bs. bs ++ more) are.spelled ∙ append_assoc are.file are.behind more;
  is_file = are.is_file;
  longest = λ others other rest is file. elim (part_at before more other rest is) [
    | inl (some, same) ↦ are.longest others other some same file
    | inr past ↦ absurd (past_end v before more other rest few no_file past others file)
  ];
}

-- the last packet of packets
pub record Last (packets : List AncillaryPacket) (bytes : List ℕ) : Type 0 where
  pub earlier : List AncillaryPacket
  pub packet : AncillaryPacket
  pub spelled : packets ≡ earlier ++ packet ∷ []
  pub front : List ℕ
  pub own : List ℕ
  pub parted : bytes ≡ front ++ own
  pub file : IsWordsFile earlier front
  pub is_packet : IsPacketBytes packet own

last_of : (p : AncillaryPacket) (packets : List AncillaryPacket) (bytes : List ℕ) → IsWordsFile (p ∷ packets) bytes → Last (p ∷ packets) bytes
last_of p [] bytes is =
    let (front, rest, spelled, is_packet, file) = IsWordsFile-first p [] bytes is in
    record {
      earlier = [];
      packet = p;
      spelled = refl;
      front = [];
      own = front;
      parted = spelled ∙ ap (λ r. front ++ r) (empty_file rest file) ∙ append-nil front;
      file = IsWordsFile-nil;
      is_packet = is_packet;
    }
last_of p (q ∷ packets) bytes is =
    let (front, rest, spelled, is_packet, file) = IsWordsFile-first p (q ∷ packets) bytes is in
    let last = last_of q packets rest file in
    record {
      earlier = p ∷ last.earlier;
      packet = last.packet;
      spelled = ap (λ ps. p ∷ ps) last.spelled;
      front = front ++ last.front;
      own = last.own;
      parted = spelled ∙ ap (λ r. front ++ r) last.parted ∙ sym (append_assoc front last.front last.own);
      file = IsWordsFile-append (p ∷ []) last.earlier front last.front (IsWordsFile-one p front is_packet) last.file;
      is_packet = last.is_packet;
    }

-- the frames of packets, and of packets after them
pub record Carries (packets rest : List AncillaryPacket) (frames : List Frame) : Type 0 where
  pub first : List Frame
  pub behind : List Frame
  pub spelled : frames ≡ first ++ behind
  pub carried : CarryFrames packets first
  pub others : CarryFrames rest behind

carry_split : (packets rest : List AncillaryPacket) (frames : List Frame) → CarryFrames (packets ++ rest) frames → Carries packets rest frames
carry_split [] rest frames whole = record { first = []; behind = frames; spelled = refl; carried = none; others = whole }
carry_split (p ∷ packets) rest _ (caption _ _ frame frames is carries whole) =
    let next = carry_split packets rest frames whole in
    record { first = frame ∷ next.first; behind = next.behind; spelled = ap (λ fs. frame ∷ fs) next.spelled; carried = caption p packets frame next.first is carries next.carried; others = next.others }
carry_split (p ∷ packets) rest frames (foreign _ _ _ isnt whole) =
    let next = carry_split packets rest frames whole in
    record { first = next.first; behind = next.behind; spelled = next.spelled; carried = foreign p packets next.first isnt next.carried; others = next.others }

-- the last packet begins no later than the bytes before end
past_last : (before more front own : List ℕ) (q : AncillaryPacket) → length more ≤ bytes_to_end (open_behind anc_syntax before) → Past before more front own
    → (packets : List AncillaryPacket) → IsWordsFile packets front → IsPacketBytes q own → ⊥
past_last before more front [] q few past packets is is_packet = some_packet q [] is_packet refl
past_last before more front (b ∷ own) q few past packets is is_packet =
    let e = ap length past.parts in
    let long = length-append past.some (b ∷ own) in
    let any = past.any in
    ends_no_sooner before past.some packets any (omega (arith, e, long, few)) (subst (IsWordsFile packets) past.longer is)

-- a list after the same front
drop_front : (front xs ys : List AncillaryPacket) → front ++ xs ≡ front ++ ys → xs ≡ ys
drop_front [] xs ys same = same
drop_front (p ∷ front) xs ys same = drop_front front xs ys cc

-- one packet is the first list or the second
one_of_two : (p : AncillaryPacket) (xs ys : List AncillaryPacket) → p ∷ [] ≡ xs ++ ys → (xs ≡ []) ⊎ (ys ≡ [])
one_of_two p [] ys is = inl refl
one_of_two p (x ∷ []) ys is = inr (let last : [] ≡ ys = cc in sym last)
one_of_two p (x ∷ y ∷ xs) ys is = absurd (let clash : [] ≡ y ∷ (xs ++ ys) = cc in cc)

-- the second of two lists is empty where both together are
second_empty : (front rest : List ℕ) → front ++ rest ≡ [] → rest ≡ []
second_empty [] rest is = is
second_empty (b ∷ front) rest is = absurd cc

-- no file at the front of the bytes before is longer than the packets before the last one
shorter : (qs os earlier : List AncillaryPacket) (q : AncillaryPacket) (e z other rest more : List ℕ) → qs ≡ earlier ++ q ∷ [] → 0 < length more
    → IsWordsFile earlier e → IsWordsFile os other → other ≡ e ++ z → IsWordsFile qs (other ++ (rest ++ more)) → length other ≤ length e
shorter qs os earlier q e z other rest more spelled any file is longer whole =
    let first = file_front earlier os e z file (subst (IsWordsFile os) longer is) in
    let second = file_front os qs other (rest ++ more) is whole in
    let same : earlier ++ (q ∷ []) ≡ earlier ++ (first.rest ++ second.rest) =
    sym spelled ∙ second.spelled ∙ ap (λ ps. ps ++ second.rest) first.spelled ∙ append_assoc earlier first.rest second.rest in
    elim (one_of_two q first.rest second.rest (drop_front earlier _ _ same)) [
      | inl empty ↦
          let no : z ≡ [] = empty_file z (subst (λ ps. IsWordsFile ps z) empty first.file) in
          let long = ap length (longer ∙ ap (λ bs. e ++ bs) no ∙ append-nil e) in omega (arith, long)
      | inr empty ↦
          let no : more ≡ [] = second_empty rest more (empty_file (rest ++ more) (subst (λ ps. IsWordsFile ps (rest ++ more)) empty second.file)) in
          let long = ap length no in absurd (omega (arith, long, any))
    ]

-- the frames before the last packet are the frames of the packets before it
before_last : (v : Verdict CdpPart) (first : List Frame) (qs earlier : List AncillaryPacket) (q : AncillaryPacket) (e some before more : List ℕ) → qs ≡ earlier ++ q ∷ []
    → 0 < length more → IsFileUnder (layers_of v) first e → IsWordsFile earlier e → before ≡ e ++ some → IsWordsFile qs (before ++ more) → AreFramesOf (layers_of v) first before
before_last v first qs earlier q e some before more spelled any file earlier_file parted whole = record {
  file = e;
  behind = some;
  spelled = parted;
  is_file = file;
  longest = λ others other rest is other_file.
      let cases : (test : Bool) → nat_le (length other) (length e) ≡ test → length other ≤ length e = elim [
        | true ↦ λ at. grind (arith, nat_tests)
        | false ↦ λ at.
            let (z, longer) = front_of e other some rest (sym parted ∙ is) (grind (arith, nat_tests)) in
            shorter qs other_file.file.packets earlier q e z other rest more spelled any earlier_file other_file.file.file longer
            (subst (IsWordsFile qs) (ap (λ bs. bs ++ more) is ∙ append_assoc other rest more) whole)
      ] in cases _ refl;
}

-- what one packet brings
pub record Brings (packet : AncillaryPacket) (frames more : List Frame) : Type 0 where
  pub brings : (IsCaption packet × ((frame : Frame) × (more ≡ frames ++ frame ∷ []))) ⊎ ((IsCaption packet → ⊥) × (more ≡ frames))

brings_one : (packet : AncillaryPacket) (frames behind more : List Frame) → CarryFrames (packet ∷ []) behind → more ≡ frames ++ behind → Brings packet frames more
brings_one packet frames _ more (caption _ _ frame _ is carries none) spelled = record { brings = inl (is, (frame, spelled)) }
brings_one packet frames _ more (foreign _ _ _ isnt none) spelled = record { brings = inr (isnt, spelled ∙ append-nil frames) }

-- bytes up to the end of a packet: the last packet, and what it brings
pub record EndsBringing (frames more : List Frame) (bytes : List ℕ) : Type 0 where
  pub earlier : List AncillaryPacket
  pub packet : AncillaryPacket
  pub are : IsWordsFile (earlier ++ packet ∷ []) bytes
  pub brings : Brings packet frames more

-- the packets of a file, of which there is one
ends_last : (v : Verdict CdpPart) (frames more_frames : List Frame) (before more : List ℕ) → 0 < length more → length more ≤ bytes_to_end (open_behind anc_syntax before)
    → AreFramesOf (layers_of v) frames before → IsFileUnder (layers_of v) more_frames (before ++ more) → (qs : List AncillaryPacket) → IsWordsFile qs (before ++ more) → CarryFrames qs more_frames
    → Last qs (before ++ more) → EndsBringing frames more_frames (before ++ more)
ends_last v frames more_frames before more any few are is qs file carried last =
    let carries = carry_split last.earlier (last.packet ∷ []) more_frames (subst (λ ps. CarryFrames ps more_frames) last.spelled carried) in
    let accepted = AreAccepted-split v [] (flat_map packet_parts carries.first) (flat_map packet_parts carries.behind)
    (subst (AreAccepted v []) (ap (flat_map packet_parts) carries.spelled ∙ flat_map-append packet_parts carries.first carries.behind) is.accepted) in
    let first : IsFileUnder (layers_of v) carries.first last.front =
    record { file = record { packets = last.earlier; file = last.file; carried = carries.carried }; accepted = accepted.0 } in
    let parts : (some : List ℕ) × (before ≡ last.front ++ some) = elim (part_at before more last.front last.own last.parted) [
      | inl inside ↦ inside
      | inr past ↦ absurd (past_last before more last.front last.own last.packet few past last.earlier last.file last.is_packet)
    ] in
    let same = frames_of_once (layers_of v) carries.first frames before
    (before_last v carries.first qs last.earlier last.packet last.front parts.0 before more last.spelled any first last.file parts.1 file) are in
    record {
      earlier = last.earlier;
      packet = last.packet;
      are = subst (λ ps. IsWordsFile ps (before ++ more)) last.spelled file;
      brings = brings_one last.packet frames carries.behind more_frames carries.others (carries.spelled ∙ ap (λ fs. fs ++ carries.behind) same);
    }

-- bytes up to the end of a packet, of which no packet ends sooner
pub ends_bringing : (v : Verdict CdpPart) (frames more_frames : List Frame) (before more : List ℕ) → 0 < length more
    → length more ≤ bytes_to_end (open_behind anc_syntax before) → AreFramesOf (layers_of v) frames before → IsFileUnder (layers_of v) more_frames (before ++ more)
    → EndsBringing frames more_frames (before ++ more)
ends_bringing v frames more_frames before more any few are is =
    let cases : (qs : List AncillaryPacket) → IsWordsFile qs (before ++ more) → CarryFrames qs more_frames → EndsBringing frames more_frames (before ++ more) = elim [
      | [] ↦ λ file carried.
          let empty = ap length (second_empty before more (empty_file (before ++ more) file)) in absurd (omega (arith, empty, any))
      | (q ∷ qs) ↦ λ file carried. ends_last v frames more_frames before more any few are is (q ∷ qs) file carried (last_of q qs (before ++ more) file)
    ] in cases is.file.packets is.file.file is.file.carried

-- bytes that bring no frame, whether they end a packet or not, or one that does
pub record AtMostOne (v : Verdict CdpPart) (frames : List Frame) (bytes : List ℕ) : Type 0 where
  pub more : List Frame
  pub are : AreFramesOf (layers_of v) more bytes
  pub brings : (more ≡ frames) ⊎ ((frame : Frame) × (more ≡ frames ++ frame ∷ []))

at_most : (v : Verdict CdpPart) (frames more_frames : List Frame) (bytes : List ℕ) (packet : AncillaryPacket) → IsFileUnder (layers_of v) more_frames bytes
    → (IsCaption packet × ((frame : Frame) × (more_frames ≡ frames ++ frame ∷ []))) ⊎ ((IsCaption packet → ⊥) × (more_frames ≡ frames))
    → AtMostOne v frames bytes
at_most v frames more_frames bytes packet is (inl (_, (frame, spelled))) =
    record { more = more_frames; are = file_frames (layers_of v) more_frames bytes is; brings = inr (frame, spelled) }
at_most v frames more_frames bytes packet is (inr (_, same)) = record { more = more_frames; are = file_frames (layers_of v) more_frames bytes is; brings = inl same }

-- after at most the bytes that come before the end of a packet
pub at_most_one : (v : Verdict CdpPart) (frames : List Frame) (before more : List ℕ) → 0 < length more → length more ≤ bytes_to_end (open_behind anc_syntax before)
    → All (λ byte. byte < 256) (before ++ more) → AreFramesOf (layers_of v) frames before → AtMostOne v frames (before ++ more)
at_most_one v frames before more any few bytes are = elim (file_or_none v (before ++ more) bytes) [
  | inl (others, is) ↦ let ends = ends_bringing v frames others before more any few are is in at_most v frames others (before ++ more) ends.packet is ends.brings.brings
  | inr no_file ↦ record { more = frames; are = no_end v frames before more few no_file are; brings = inl refl }
]
