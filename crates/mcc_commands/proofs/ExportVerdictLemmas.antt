-- Of words `export-mcc` makes one status.
use Rattle.std.proofs.Common.{◌≡◌, ◌∙◌, ◌⊎◌, ◌++◌, ap, append_assoc, append-nil, arith, false, inl, inr, length, length-append, refl, subst, sym, true, ℕ, Bool, List, [], ◌∷◌}
use Rattle.std.specs.Prelude.{nat_le}
use Rattle.std.specs.List.{All}
use Rattle.std.proofs.lemmas.List.Elements.{All-head, All-tail}
use Rattle.anc_words.proofs.WordsFileLemmas.{IsWordsFile-append, IsWordsFile-one}
use Rattle.anc_words.specs.Packets.{AncillaryPacket, user_bytes}
use Rattle.anc_words.specs.WordsFiles.{IsWordsFile}
use Rattle.cc_base.specs.declared.limit_of.LimitOf.TheVariants as limit
use Rattle.cc_base.specs.declared.rate.Rate.{Rate}
use Rattle.cdp_packets.proofs.PacketLemmas.{packet_once}
use Rattle.cdp_packets.specs.Packets.{Frame}
use Rattle.command_base.specs.declared.status.Status.{Status}
use Rattle.command_base.specs.declared.status.Status.TheVariants as status
use Rattle.findings.specs.declared.finding.Finding.{Finding}
use Rattle.findings.specs.declared.finding.Kind45.{Kind45}
use Rattle.findings.specs.declared.finding.Kind45.TheVariants as kind
use Rattle.command_base.specs.Exact.{IsOne}
use Rattle.words_reading.proofs.WalkLemmas.{words_bytes}
use Rattle.words_reading.proofs.OneLemmas.{words_one}
use Rattle.words_reading.proofs.PacketEndLemmas.{file_under}
use Rattle.services_files.specs.CaptionChannel.{caption_channel}
use Rattle.time_codes.specs.declared.counting.Counting.{Counting}
use Rattle.words_files.proofs.FrameLemmas.{carry_once}
use Rattle.words_files.proofs.FramesOfLemmas.{carry_front, file_front}
use Rattle.words_files.proofs.WordLemmas.{front_of}
use Rattle.words_files.specs.Frames.{CarryFrames}
use Rattle.words_files.specs.Frames.CarryFrames.{caption, foreign}
use Rattle.words_files.specs.FramesOf.{AreFramesOf}
use Rattle.words_files.specs.Offences.{IsFileUnder}
use Rattle.mcc_commands.specs.ExportMcc.{ExportMccEnd, ExportMccVerdict, HaltsMcc, SaysMcc, StopsBehind}
use Rattle.mcc_commands.specs.ExportSteps.{HasRate}
use Rattle.mcc_commands.specs.Exported.{AreExportedAsMcc, Brings, HaveOneRate, IsFoundAtPacket, IsOfBytes, IsPastDay, IsUnlikeFirst, IsWrongRate, StopsAtPacket, counts_rate}
use Rattle.mcc_commands.specs.declared.start.Start.{Start}

-- what holds of all items holds of one
all_at : {A : Type 0} (P : A → Type 0) (front : List A) (item : A) (more : List A) → All P (front ++ item ∷ more) → P item
all_at P [] item more all = All-head P item more all
all_at P (first ∷ front) item more all = all_at P front item more (All-tail P first (front ++ item ∷ more) all)

-- a packet of captions among others brings its frame
first_brought : (last : AncillaryPacket) (rest : List AncillaryPacket) (behind : List Frame) (frame : Frame) → CarryFrames (last ∷ rest) behind → Brings last frame
    → (more : List Frame) × (behind ≡ frame ∷ more)
first_brought last rest _ frame (caption _ _ other others is carries carried) brings =
    (others, ap (λ (f : Frame). f ∷ others) (packet_once other frame (user_bytes last) (user_bytes last) [] [] carries brings.carries refl).packet)
first_brought last rest _ frame (foreign _ _ others isnt carried) brings = absurd (isnt brings.is_caption)

brought : (packets rest : List AncillaryPacket) (last : AncillaryPacket) (frames all : List Frame) (frame : Frame) → CarryFrames packets frames
    → CarryFrames (packets ++ last ∷ rest) all → Brings last frame → (more : List Frame) × (all ≡ frames ++ frame ∷ more)
brought packets rest last frames all frame carried whole brings =
    let next = carry_front packets (last ∷ rest) frames all carried whole in
    let (more, is) = first_brought last rest next.behind frame next.carried brings in
    (more, next.spelled ∙ ap (λ b. frames ++ b) is)

-- frames of one rate have no other one
unlike_none : (frames more : List Frame) (one expected seen : Rate) → All (λ f. f.rate ≡ one) (frames ++ more) → seen ≡ one → IsUnlikeFirst frames expected seen → ⊥
unlike_none [] more one expected seen all is unlike = unlike
unlike_none (first ∷ frames) more one expected seen all is (_, unlike) =
    let P : Frame → Type 0 = λ f. f.rate ≡ one in
    unlike (is ∙ sym (All-head P first (frames ++ more) all))

wrong_none : (count : Counting) (frames more : List Frame) (one expected seen : Rate) → counts_rate count one ≡ true → All (λ f. f.rate ≡ one) (frames ++ more) → seen ≡ one
    → IsWrongRate count frames expected seen → ⊥
wrong_none count frames more one expected seen counted all is (inl (uncounted, _)) =
    let same : counts_rate count seen ≡ counts_rate count one = ap (counts_rate count) is in cc
wrong_none count frames more one expected seen counted all is (inr (_, unlike)) = unlike_none frames more one expected seen all is unlike

-- nothing is found at a packet among exported ones
found_none : (start : Start) (packets rest : List AncillaryPacket) (last : AncillaryPacket) (frames all : List Frame) (found : Kind45) → CarryFrames packets frames
    → CarryFrames (packets ++ last ∷ rest) all → AreExportedAsMcc start (packets ++ last ∷ rest) all → IsFoundAtPacket start.count frames last found → ⊥
found_none start packets rest last frames all (kind.WrongRate expected seen) carried whole fit (frame, brings, seen_is, wrong) =
    let (more, is) = brought packets rest last frames all frame carried whole brings in
    let P : Frame → Type 0 = λ f. f.rate ≡ fit.rates.one in
    let rates : All P (frames ++ frame ∷ more) = subst (All P) is fit.rates.all in
    wrong_none start.count frames (frame ∷ more) fit.rates.one expected seen fit.rates.counted rates (seen_is ∙ all_at P frames frame more rates) wrong
found_none start packets rest last frames all kind.EightBits carried whole fit (_, words) = words (all_at IsOfBytes packets last rest fit.of_bytes)
found_none start packets rest last frames all _ carried whole fit found = absurd found

-- so an export stops at none of them
not_exported : (start : Start) (packets rest : List AncillaryPacket) (last : AncillaryPacket) (frames all : List Frame) (why : Status) → CarryFrames packets frames
    → CarryFrames (packets ++ last ∷ rest) all → AreExportedAsMcc start (packets ++ last ∷ rest) all → StopsAtPacket start frames last why → ⊥
not_exported start packets rest last frames all (status.Differs finding) carried whole fit (_, found) =
    found_none start packets rest last frames all finding.kind carried whole fit found
not_exported start packets rest last frames all (status.Limit limit.Day) carried whole fit past =
    let (more, is) = brought packets rest last frames all past.frame carried whole past.brings in
    let within = fit.within_day in
    let over = past.past in
    omega (arith, within, over, ap length is, length-append frames (past.frame ∷ more))
not_exported start packets rest last frames all _ carried whole fit stops = absurd stops

-- the packets of bytes at whose last one an export stops
module _ (start : Start) (why : Status) (front : List ℕ) (stops : StopsBehind start why front) where
  abbrev before : List AncillaryPacket
  before = stops.is_file.file.packets

  stop_file : IsWordsFile (before ++ stops.last ∷ []) front
  stop_file =
      subst (IsWordsFile (before ++ stops.last ∷ [])) (sym stops.spelled)
      (IsWordsFile-append before (stops.last ∷ []) stops.file stops.packet stops.is_file.file.file (IsWordsFile-one stops.last stops.packet stops.is_packet))

  -- no file of exported packets begins with them
  stop_in_file : (more bytes : List ℕ) (frames : List Frame) (is_file : IsFileUnder caption_channel frames bytes) → bytes ≡ front ++ more
      → AreExportedAsMcc start is_file.file.packets frames → ⊥
  stop_in_file more bytes frames is_file spelled fit =
      let behind = file_front (before ++ stops.last ∷ []) is_file.file.packets front more stop_file (subst (IsWordsFile is_file.file.packets) spelled is_file.file.file) in
      let parts : is_file.file.packets ≡ before ++ stops.last ∷ behind.rest = behind.spelled ∙ append_assoc before (stops.last ∷ []) behind.rest in
      not_exported start before behind.rest stops.last stops.frames frames why stops.is_file.file.carried
      (subst (λ ps. CarryFrames ps frames) parts is_file.file.carried) (subst (λ ps. AreExportedAsMcc start ps frames) parts fit) stops.is

-- the bytes at whose end an export stops
module _ (start : Start) (why : Status) (front : List ℕ) (stops : StopsBehind start why front) where
  -- they are a file of frames
  front_file : (frames : List Frame) × IsFileUnder caption_channel frames front
  front_file =
      let file = stop_file start why front stops in
      file_under (stops.is_file.file.packets ++ stops.last ∷ []) front file stops.unoffending (words_bytes front file.words file.spelled)

  -- so no bytes whose packets are exported begin with them
  pub stop_in_words : (more bytes : List ℕ) (frames : List Frame) (frames_are : AreFramesOf caption_channel frames bytes) → bytes ≡ front ++ more
      → AreExportedAsMcc start frames_are.is_file.file.packets frames → ⊥
  stop_in_words more bytes frames frames_are spelled fit =
      let (others, under) = front_file in
      let few = frames_are.longest others front more spelled under in
      let (rest, longer) = front_of front frames_are.file more frames_are.behind (sym spelled ∙ frames_are.spelled) few in
      stop_in_file start why front stops rest frames_are.file frames frames_are.is_file longer fit

-- the last of frames of one rate has a rate that is expected
last_has : (count : Counting) (frames : List Frame) (last : Frame) → HaveOneRate count (frames ++ last ∷ []) → HasRate count frames last.rate
last_has count [] last rates = ap (counts_rate count) (All-head (λ f. f.rate ≡ rates.one) last [] rates.all) ∙ rates.counted
last_has count (first ∷ frames) last rates =
    let P : Frame → Type 0 = λ f. f.rate ≡ rates.one in
    let is : last.rate ≡ rates.one = all_at P (first ∷ frames) last [] rates.all in
    (ap (counts_rate count) is ∙ rates.counted, is ∙ sym (All-head P first (frames ++ last ∷ []) rates.all))

-- a rate that is expected isn't a wrong one
right_not_wrong : (count : Counting) (frames : List Frame) (expected seen : Rate) → HasRate count frames seen → IsWrongRate count frames expected seen → ⊥
right_not_wrong count [] expected seen has (inl (uncounted, _)) = cc
right_not_wrong count [] expected seen has (inr (_, unlike)) = unlike
right_not_wrong count (first ∷ frames) expected seen (counted, same) (inl (uncounted, _)) = cc
right_not_wrong count (first ∷ frames) expected seen (counted, same) (inr (_, unlike)) = unlike.1 same

-- the rate that is expected is one
unlike_once : (frames : List Frame) (one other seen : Rate) → IsUnlikeFirst frames one seen → IsUnlikeFirst frames other seen → one ≡ other
unlike_once [] one other seen unlike also = absurd unlike
unlike_once (first ∷ frames) one other seen (one_is, _) (other_is, _) = one_is ∙ sym other_is

expected_once : (count : Counting) (frames : List Frame) (one other seen : Rate) → IsWrongRate count frames one seen → IsWrongRate count frames other seen → one ≡ other
expected_once count frames one other seen (inl (_, one_is)) (inl (_, other_is)) = one_is ∙ sym other_is
expected_once count frames one other seen (inl (uncounted, _)) (inr (counted, _)) = cc
expected_once count frames one other seen (inr (counted, _)) (inl (uncounted, _)) = cc
expected_once count frames one other seen (inr (_, unlike)) (inr (_, also)) = unlike_once frames one other seen unlike also

same_frame : (packet : AncillaryPacket) (one other : Frame) → Brings packet one → Brings packet other → one ≡ other
same_frame packet one other brings also = (packet_once one other (user_bytes packet) (user_bytes packet) [] [] brings.carries also.carries refl).packet

-- what is found at a packet is one
found_once : (count : Counting) (frames : List Frame) (packet : AncillaryPacket) (one other : Kind45) → IsFoundAtPacket count frames packet one → IsFoundAtPacket count frames packet other
    → one ≡ other
found_once count frames packet (kind.WrongRate a b) (kind.WrongRate c d) (frame, brings, b_is, wrong) (another, also, d_is, wrong_too) =
    let seen : b ≡ d = b_is ∙ (ap (λ (f : Frame). f.rate) (same_frame packet frame another brings also) ∙ sym d_is) in
    let expected : a ≡ c = expected_once count frames a c d (subst (IsWrongRate count frames a) seen wrong) wrong_too in
    ap (λ (r : Rate). kind.WrongRate r b) expected ∙ ap (λ (r : Rate). kind.WrongRate c r) seen
found_once count frames packet (kind.WrongRate a b) kind.EightBits (frame, brings, _, _) (isnt, _) = absurd (isnt brings.is_caption)
found_once count frames packet kind.EightBits (kind.WrongRate c d) (isnt, _) (frame, brings, _, _) = absurd (isnt brings.is_caption)
found_once count frames packet kind.EightBits kind.EightBits one other = refl
found_once count frames packet (kind.WrongRate a b) _ one other = absurd other
found_once count frames packet kind.EightBits _ one other = absurd other
found_once count frames packet _ other_kind one other = absurd one

found_not_past : (start : Start) (frames : List Frame) (packet : AncillaryPacket) (found : Kind45) → IsFoundAtPacket start.count frames packet found → IsPastDay start frames packet → ⊥
found_not_past start frames packet (kind.WrongRate a b) (frame, brings, b_is, wrong) past =
    let same : past.frame.rate ≡ b = ap (λ (f : Frame). f.rate) (same_frame packet past.frame frame past.brings brings) ∙ sym b_is in
    right_not_wrong start.count frames a b (subst (HasRate start.count frames) same (last_has start.count frames past.frame past.rates)) wrong
found_not_past start frames packet kind.EightBits (isnt, _) past = isnt past.brings.is_caption
found_not_past start frames packet _ found past = absurd found

same_finding : (one other : Finding) → one.frame ≡ other.frame → one.kind ≡ other.kind → one ≡ other
same_finding one other frame kind_is =
    ap (λ (f : ℕ). let it : Finding = record { frame = f; kind = one.kind } in it) frame
    ∙ ap (λ (k : Kind45). let it : Finding = record { frame = other.frame; kind = k } in it) kind_is

-- so is the status with which an export stops at it
stops_once : (start : Start) (frames : List Frame) (packet : AncillaryPacket) (one other : Status) → StopsAtPacket start frames packet one → StopsAtPacket start frames packet other → one ≡ other
stops_once start frames packet (status.Differs a) (status.Differs b) (a_frame, found) (b_frame, also) =
    ap (λ (f : Finding). status.Differs f) (same_finding a b (a_frame ∙ sym b_frame) (found_once start.count frames packet a.kind b.kind found also))
stops_once start frames packet (status.Differs a) (status.Limit limit.Day) (_, found) past = absurd (found_not_past start frames packet a.kind found past)
stops_once start frames packet (status.Limit limit.Day) (status.Differs b) past (_, found) = absurd (found_not_past start frames packet b.kind found past)
stops_once start frames packet (status.Limit limit.Day) (status.Limit limit.Day) one other = refl
stops_once start frames packet (status.Differs a) _ one other = absurd other
stops_once start frames packet (status.Limit limit.Day) _ one other = absurd other
stops_once start frames packet _ other_status one other = absurd one

-- a list that ends with an item goes on after a front, or is that
last_or_more : (front rest packets : List AncillaryPacket) (last : AncillaryPacket) → front ++ rest ≡ packets ++ last ∷ []
    → (rest ≡ []) ⊎ ((more : List AncillaryPacket) × (packets ≡ front ++ more))
last_or_more [] rest packets last is = inr (packets, refl)
last_or_more (f ∷ []) rest [] last is = inl cc
last_or_more (f ∷ g ∷ front) rest [] last is = absurd (let clash : g ∷ (front ++ rest) ≡ [] = cc in cc)
last_or_more (f ∷ front) rest (p ∷ packets) last is = elim (last_or_more front rest packets last cc) [
  | inl none ↦ inl none
  | inr (more, same) ↦ inr (more, cc)
]

last_same : (one other : List AncillaryPacket) (p q : AncillaryPacket) → one ++ p ∷ [] ≡ other ++ q ∷ [] → (one ≡ other) × (p ≡ q)
last_same [] [] p q same = (refl, cc)
last_same [] (o ∷ []) p q same = absurd (let clash : [] ≡ q ∷ [] = cc in cc)
last_same [] (o ∷ b ∷ other) p q same = absurd (let clash : [] ≡ b ∷ (other ++ q ∷ []) = cc in cc)
last_same (o ∷ []) [] p q same = absurd (let clash : p ∷ [] ≡ [] = cc in cc)
last_same (o ∷ b ∷ one) [] p q same = absurd (let clash : b ∷ (one ++ p ∷ []) ≡ [] = cc in cc)
last_same (o ∷ one) (b ∷ other) p q same =
    let (lists, items) = last_same one other p q cc in
    (let heads : o ≡ b = cc in cc, items)

-- two fronts at whose last packets an export stops: one status
one_within : (start : Start) (one other : Status) (front back more : List ℕ) (a : StopsBehind start one front) (b : StopsBehind start other back) → back ≡ front ++ more
    → one ≡ other
one_within start one other front back more a b spelled =
    let pa = a.is_file.file.packets in
    let pb = b.is_file.file.packets in
    let behind = file_front (pa ++ a.last ∷ []) (pb ++ b.last ∷ []) front more (stop_file start one front a)
    (subst (IsWordsFile (pb ++ b.last ∷ [])) spelled (stop_file start other back b)) in
    elim (last_or_more (pa ++ a.last ∷ []) behind.rest pb b.last (sym behind.spelled)) [
      | inl none ↦
          let (packets, last) = last_same pb pa b.last a.last
          (behind.spelled ∙ (ap (λ r. (pa ++ a.last ∷ []) ++ r) none ∙ append-nil (pa ++ a.last ∷ []))) in
          let frames : b.frames ≡ a.frames = carry_once pa b.frames a.frames (subst (λ ps. CarryFrames ps b.frames) packets b.is_file.file.carried) a.is_file.file.carried in
          stops_once start a.frames a.last one other a.is
          (subst (λ fs. StopsAtPacket start fs a.last other) frames (subst (λ l. StopsAtPacket start b.frames l other) last b.is))
      | inr (rest, same) ↦
          let parts : pb ≡ pa ++ a.last ∷ rest = same ∙ append_assoc pa (a.last ∷ []) rest in
          absurd (not_exported start pa rest a.last a.frames b.frames one a.is_file.file.carried (subst (λ ps. CarryFrames ps b.frames) parts b.is_file.file.carried)
          (subst (λ ps. AreExportedAsMcc start ps b.frames) parts b.fit) a.is)
    ]

pub one_stop : (start : Start) (one other : Status) (front back more rest : List ℕ) → StopsBehind start one front → StopsBehind start other back → front ++ more ≡ back ++ rest
    → one ≡ other
one_stop start one other front back more rest a b spelled = by_size (nat_le (length front) (length back)) refl
  where
    by_size : (test : Bool) → nat_le (length front) (length back) ≡ test → one ≡ other
    by_size true within =
        let (behind, longer) = front_of front back more rest spelled (grind (arith, within)) in
        one_within start one other front back behind a b longer
    by_size false past =
        let (behind, longer) = front_of back front rest more (sym spelled) (grind (arith, past)) in
        sym (one_within start other one back front behind b a longer)

mcc_ends : (start : Start) (answer : Status) (input text : List ℕ) → ExportMccEnd start answer input text
    → (answer ≡ status.Ok) × ((frames : List Frame) × IsFileUnder caption_channel frames input × SaysMcc start input text)
mcc_ends start status.Ok input text ends = (refl, ends)
mcc_ends start _ input text ends = absurd ends

-- no bytes that are exported begin with such at which an export stops
mcc_halts : (start : Start) (judged rest : List ℕ) (answer : Status) (text more : List ℕ) → HaltsMcc start answer judged text → SaysMcc start (judged ++ rest) more → ⊥
mcc_halts start judged rest answer text more halts says =
    stop_in_words start answer judged halts.at rest (judged ++ rest) says.frames says.frames_are refl says.mcc.fit

pub export_mcc_one : (start : Start) → IsOne (λ aside. ExportMccVerdict start)
export_mcc_one start aside =
    words_one (ExportMccEnd start) (SaysMcc start) (HaltsMcc start)
    (λ answer input text ends. let (is, (frames, file, says)) = mcc_ends start answer input text ends in (frames, file))
    (λ input one other text more first next. (mcc_ends start one input text first).0 ∙ sym (mcc_ends start other input more next).0)
    (λ judged rest one other text more halts ends.
    let (is, (frames, file, says)) = mcc_ends start other (judged ++ rest) more ends in
    mcc_halts start judged rest one text more halts says)
    (mcc_halts start)
    (λ judged rest again left one other text more is halts stops. one_stop start one other judged again rest left halts.at stops.at is)
