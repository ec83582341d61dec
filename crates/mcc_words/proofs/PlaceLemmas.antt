-- The places of packets of captions that have frames of their own.
use Rattle.std.proofs.Common.{◌≡◌, ℕ, zero, suc, ◌+◌, ◌-◌, ◌≤◌, ◌<◌, ◌≢◌, ⊎_elim, Bool, true, false, cond, List, [], ◌∷◌, ◌++◌, length, length-append, get_or, map, Some, None, refl, ap, sym, ◌∙◌, subst, take, append_assoc, arith}
use Rattle.std.specs.Prelude.{⊤, All, slice_get}
use Rattle.std.specs.List.{flat_map}
use Rattle.std.proofs.lemmas.Bool.{cases_lt}
use Rattle.std.proofs.lemmas.List.{take_more}
use Rattle.std.proofs.lemmas.List.Elements.{All-head, All-tail}
use Rattle.std.proofs.lemmas.Option.{get_or_from_slice_get, slice_get-get_or, slice_get_within}
use Rattle.cdp_packets.specs.Packets.{Frame}
use Rattle.mcc_files.specs.MccFiles.{TimedPackets}
use Rattle.mcc_files.specs.Payloads.{Payload}
use Rattle.mcc_words.specs.MccWords.{carries_captions}
use Rattle.mcc_words.specs.Standing.{AreSpaced, AreFromTo, HaveFramesOfTheirOwn, IsAmong, IsOfPayload, IsPart, IsWithoutCaptions, PacketsStandAtTheirFrames, StandAtTheirFrames, HasFrameAt, CaptionPart, caption_packets, part_frames, placed_packet}
use Rattle.mcc_words.specs.Unchanged.{MissingFramesChangeNothing, ShowsWhatWasShown}
use Rattle.mcc_words.proofs.FileLemmas.{GoForward, file_forward}
use Rattle.mcc_words.proofs.PartLemmas.{packets_stand_apart}
use Rattle.mcc_words.proofs.UnchangedLemmas.{without_change_nothing}

-- the frames of the day of packets of captions: none is before the one before it; and each is after it, where they are their own
abbrev GoOn : ℕ → TimedPackets → Type 0
GoOn last [] = ⊤
GoOn last (one ∷ more) = (last ≤ one.0) × GoOn one.0 more

abbrev Rise : ℕ → TimedPackets → Type 0
Rise last [] = ⊤
Rise last (one ∷ more) = (last < one.0) × Rise one.0 more

go_on_from : (low last : ℕ) (placed : TimedPackets) → low ≤ last → GoOn last placed → GoOn low placed
go_on_from low last [] below on = tt
go_on_from low last (one ∷ more) below on = (omega (arith, below, on.0), on.1)

first_goes_on : (last : ℕ) (one : ℕ × Payload) (rest : TimedPackets) (test : Bool) → last ≤ one.0 → GoOn one.0 rest → GoOn last (cond test (one ∷ rest) rest)
first_goes_on last one rest true below on = (below, on)
first_goes_on last one rest false below on = go_on_from last one.0 rest below on

captions_go_on : (last : ℕ) (placed : TimedPackets) → GoForward last placed → GoOn last (caption_packets placed)
captions_go_on last [] forward = tt
captions_go_on last (one ∷ more) forward = first_goes_on last one (caption_packets more) (carries_captions one.1) forward.0 (captions_go_on one.0 more forward.2)

rise_of : (first : ℕ × Payload) (more : TimedPackets) → GoOn first.0 more → HaveFramesOfTheirOwn (first ∷ more) → Rise first.0 more
rise_of first [] on own = tt
rise_of first (next ∷ more) on own =
    let apart : next.0 ≢ first.0 = λ same. own [] more first.0 first.1 next.1 (ap (λ (at : ℕ). first ∷ ((at, next.1) ∷ more)) same) in (
      omega (arith, apart, on.0),
      rise_of next more on.1 (λ before after at one other split. own (first ∷ before) after at one other (ap (λ (l : TimedPackets). first ∷ l) split)),
    )

-- places in a part and after it
in_front : (xs ys : List Frame) (place : ℕ) → place < length xs → slice_get (xs ++ ys) place ≡ slice_get xs place
in_front [] ys place below = absurd (omega arith)
in_front (x ∷ xs) ys zero below = refl
in_front (x ∷ xs) ys (suc place) below = in_front xs ys place (omega (arith, below))

behind_front : (xs ys : List Frame) (place : ℕ) → slice_get (xs ++ ys) (length xs + place) ≡ slice_get ys place
behind_front [] ys place = let same : 0 + place ≡ place = omega arith in ap (slice_get ys) same
behind_front (x ∷ xs) ys place =
    let same : length (x ∷ xs) + place ≡ suc (length xs + place) = omega arith in
    ap (slice_get (x ∷ (xs ++ ys))) same ∙ behind_front xs ys place

own_place : (part : CaptionPart) (rest : List Frame) (place : ℕ) → place ≡ length part.missing → slice_get (part_frames part ++ rest) place ≡ Some part.own
own_place part rest place is =
    let same : place ≡ length part.missing + 0 = omega (arith, is) in
    ap (λ (fs : List Frame). slice_get fs place) (append_assoc part.missing (part.own ∷ []) rest)
    ∙ ap (slice_get (part.missing ++ (part.own ∷ rest))) same ∙ behind_front part.missing (part.own ∷ rest) 0

rest_place : (part : CaptionPart) (rest : List Frame) (place behind : ℕ) → place ≡ length part.missing + 1 + behind
    → slice_get (part_frames part ++ rest) place ≡ slice_get rest behind
rest_place part rest place behind is =
    let long = length-append part.missing (part.own ∷ []) in
    let same : place ≡ length (part_frames part) + behind = omega (arith, is, long) in
    ap (slice_get (part_frames part ++ rest)) same ∙ behind_front (part_frames part) rest behind

missing_place : (part : CaptionPart) (rest : List Frame) (place : ℕ) → IsPart part → place < length part.missing
    → HasFrameAt (part_frames part ++ rest) place IsWithoutCaptions
missing_place part rest place is below =
    let long = length-append part.missing (part.own ∷ []) in
    record {
      frame = get_or part.missing place part.own;
      stands = in_front (part_frames part) rest place (omega (arith, below, long)) ∙ in_front part.missing (part.own ∷ []) place below
          ∙ slice_get-get_or part.missing place part.own below;
      is = is.without place part.own below;
    }

move_place : (part : CaptionPart) (rest : List Frame) (place behind : ℕ) (Is : Frame → Type 0) → place ≡ length part.missing + 1 + behind → HasFrameAt rest behind Is
    → HasFrameAt (part_frames part ++ rest) place Is
move_place part rest place behind Is is stands = record { frame = stands.frame; stands = rest_place part rest place behind is ∙ stands.stands; is = stands.is }

-- the first of packets of captions
first_at : (part : CaptionPart) (more after : TimedPackets) (at : ℕ) (payload : Payload) → placed_packet part ∷ more ≡ (at, payload) ∷ after
    → (part.at ≡ at) × (part.payload ≡ payload)
first_at part more after at payload split =
    let heads : placed_packet part ≡ (at, payload) = cc in
    (ap (λ (one : ℕ × Payload). one.0) heads, ap (λ (one : ℕ × Payload). one.1) heads)

rest_at : (part : CaptionPart) (one : ℕ × Payload) (more before after : TimedPackets) (at : ℕ) (payload : Payload) → placed_packet part ∷ more ≡ (one ∷ before) ++ (at, payload) ∷ after
    → more ≡ before ++ (at, payload) ∷ after
rest_at part one more before after at payload split = cc

none_at : (before after : TimedPackets) (at : ℕ) (payload : Payload) → [] ≡ before ++ (at, payload) ∷ after → ⊥
none_at [] after at payload split = cc
none_at (one ∷ before) after at payload split = cc

own_here : (part : CaptionPart) (rest : List Frame) (place at : ℕ) (payload : Payload) → IsPart part → part.payload ≡ payload → place ≡ length part.missing
    → HasFrameAt (part_frames part ++ rest) place (IsOfPayload payload)
own_here part rest place at payload is same at_is = record {
  frame = part.own;
  stands = own_place part rest place at_is;
  is = subst (λ (p : Payload). IsOfPayload p part.own) same is.own;
}

-- the places after a packet of captions at a frame of the day
record HasOwnPlace (former at : ℕ) (frames : List Frame) (payload : Payload) : Type 0 where
  behind : former < at
  stands : HasFrameAt frames (at - (former + 1)) (IsOfPayload payload)

own_at : (former : ℕ) (parts : List CaptionPart) (at : ℕ) (payload : Payload) (before after : TimedPackets) → All IsPart parts → AreSpaced (Some former) parts
    → Rise former (map placed_packet parts) → map placed_packet parts ≡ before ++ (at, payload) ∷ after → HasOwnPlace former at (flat_map part_frames parts) payload
own_at former [] at payload before after are apart rise split = absurd (none_at before after at payload split)
own_at former (part ∷ more) at payload [] after are apart rise split =
    let (here, same) = first_at part (map placed_packet more) after at payload split in
    record {
      behind = omega (arith, here, rise.0);
      stands = own_here part (flat_map part_frames more) (at - (former + 1)) at payload (All-head IsPart part more are) same (omega (arith, here, apart.0));
    }
own_at former (part ∷ more) at payload (one ∷ before) after are apart rise split =
    let rest = own_at part.at more at payload before after (All-tail IsPart part more are) apart.1 rise.1
    (rest_at part one (map placed_packet more) before after at payload split) in
    let later = rest.behind in
    record {
      behind = omega (arith, later, rise.0);
      stands = move_place part (flat_map part_frames more) (at - (former + 1)) (at - (part.at + 1)) (IsOfPayload payload) (omega (arith, later, apart.0, rise.0)) rest.stands;
    }

-- no packet of captions is at this frame of the day
abbrev NoneAt : TimedPackets → ℕ → Type 0
NoneAt captions at = (payload : Payload) → IsAmong captions at payload → ⊥

not_first : (part : CaptionPart) (more : TimedPackets) (at : ℕ) → NoneAt (placed_packet part ∷ more) at → part.at ≢ at
not_first part more at none same =
    none part.payload (record { before = []; after = more; split = ap (λ (n : ℕ). (n, part.payload) ∷ more) same })

none_behind : (part : CaptionPart) (more : TimedPackets) (at : ℕ) → NoneAt (placed_packet part ∷ more) at → NoneAt more at
none_behind part more at none payload among =
    none payload (record { before = placed_packet part ∷ among.before; after = among.after; split = ap (λ (l : TimedPackets). placed_packet part ∷ l) among.split })

missing_at : (former : ℕ) (parts : List CaptionPart) (at late : ℕ) (payload : Payload) (before after : TimedPackets) → All IsPart parts → AreSpaced (Some former) parts
    → Rise former (map placed_packet parts) → map placed_packet parts ≡ before ++ (late, payload) ∷ after → former < at → at ≤ late
    → NoneAt (map placed_packet parts) at → HasFrameAt (flat_map part_frames parts) (at - (former + 1)) IsWithoutCaptions
missing_at former [] at late payload before after are apart rise split low high none = absurd (none_at before after late payload split)
missing_at former (part ∷ more) at late payload [] after are apart rise split low high none =
    let (here, same) = first_at part (map placed_packet more) after late payload split in
    let other = not_first part (map placed_packet more) at none in
    missing_place part (flat_map part_frames more) (at - (former + 1)) (All-head IsPart part more are) (omega (arith, here, other, high, low, apart.0))
missing_at former (part ∷ more) at late payload (one ∷ before) after are apart rise split low high none =
    let other = not_first part (map placed_packet more) at none in
    ⊎_elim
    (λ (sooner : at < part.at).
    missing_place part (flat_map part_frames more) (at - (former + 1)) (All-head IsPart part more are) (omega (arith, sooner, low, apart.0)))
    (λ (later : part.at ≤ at).
    let rest = missing_at part.at more at late payload before after (All-tail IsPart part more are) apart.1 rise.1
    (rest_at part one (map placed_packet more) before after late payload split) (omega (arith, later, other)) high (none_behind part (map placed_packet more) at none) in
    move_place part (flat_map part_frames more) (at - (former + 1)) (at - (part.at + 1)) IsWithoutCaptions (omega (arith, later, other, apart.0, rise.0)) rest)
    (cases_lt at part.at)

count_one : (part : CaptionPart) (rest : List Frame) → length (part_frames part ++ rest) ≡ length part.missing + 1 + length rest
count_one part rest = let both = length-append (part_frames part) rest in let own = length-append part.missing (part.own ∷ []) in omega (arith, both, own)

count_all : (former last : ℕ) (parts : List CaptionPart) (before : TimedPackets) (payload : Payload) → AreSpaced (Some former) parts → Rise former (map placed_packet parts)
    → map placed_packet parts ≡ before ++ (last, payload) ∷ [] → (former < last) × (length (flat_map part_frames parts) ≡ last - former)
count_all former last [] before payload apart rise split = absurd (none_at before [] last payload split)
count_all former last (part ∷ []) [] payload apart rise split =
    let (here, same) = first_at part [] [] last payload split in
    let one = count_one part [] in
    (omega (arith, here, rise.0), omega (arith, here, rise.0, one, apart.0))
count_all former last (part ∷ (other ∷ more)) [] payload apart rise split = absurd (let none : map placed_packet (other ∷ more) ≡ [] = cc in cc)
count_all former last (part ∷ more) (one ∷ before) payload apart rise split =
    let (later, rest) = count_all part.at last more before payload apart.1 rise.1 (rest_at part one (map placed_packet more) before [] last payload split) in
    let all = count_one part (flat_map part_frames more) in
    (omega (arith, later, rise.0), omega (arith, later, rest, rise.0, all, apart.0))

-- all of them, from the first on
module _ (part : CaptionPart) (more : List CaptionPart) (are : All IsPart (part ∷ more)) (apart : AreSpaced None (part ∷ more))
    (rise : Rise part.at (map placed_packet more)) where
  nothing_missing : length part.missing ≡ 0
  nothing_missing = ap length apart.0

  own_of : (at : ℕ) (payload : Payload) (before after : TimedPackets) → map placed_packet (part ∷ more) ≡ before ++ (at, payload) ∷ after
      → HasFrameAt (flat_map part_frames (part ∷ more)) (at - part.at) (IsOfPayload payload)
  own_of at payload [] after split =
      let (here, same) = first_at part (map placed_packet more) after at payload split in
      own_here part (flat_map part_frames more) (at - part.at) at payload (All-head IsPart part more are) same (omega (arith, here, nothing_missing))
  own_of at payload (one ∷ before) after split =
      let rest = own_at part.at more at payload before after (All-tail IsPart part more are) apart.1 rise
      (rest_at part one (map placed_packet more) before after at payload split) in
      let later = rest.behind in
      move_place part (flat_map part_frames more) (at - part.at) (at - (part.at + 1)) (IsOfPayload payload) (omega (arith, later, nothing_missing)) rest.stands

  missing_of : (at last : ℕ) (payload : Payload) (before : TimedPackets) → map placed_packet (part ∷ more) ≡ before ++ (last, payload) ∷ [] → part.at ≤ at → at ≤ last
      → NoneAt (map placed_packet (part ∷ more)) at → HasFrameAt (flat_map part_frames (part ∷ more)) (at - part.at) IsWithoutCaptions
  missing_of at last payload [] split low high none =
      let (here, same) = first_at part (map placed_packet more) [] last payload split in
      let other = not_first part (map placed_packet more) at none in
      absurd (omega (arith, here, other, low, high))
  missing_of at last payload (one ∷ before) split low high none =
      let other = not_first part (map placed_packet more) at none in
      let rest = missing_at part.at more at last payload before [] (All-tail IsPart part more are) apart.1 rise
      (rest_at part one (map placed_packet more) before [] last payload split) (omega (arith, low, other)) high (none_behind part (map placed_packet more) at none) in
      move_place part (flat_map part_frames more) (at - part.at) (at - (part.at + 1)) IsWithoutCaptions (omega (arith, low, other, nothing_missing)) rest

  number_of : (last : ℕ) (payload : Payload) (before : TimedPackets) → map placed_packet (part ∷ more) ≡ before ++ (last, payload) ∷ []
      → length (flat_map part_frames (part ∷ more)) ≡ last + 1 - part.at
  number_of last payload [] split = by_more more split
    where
      by_more : (others : List CaptionPart) → placed_packet part ∷ map placed_packet others ≡ (last, payload) ∷ []
          → length (part_frames part ++ flat_map part_frames others) ≡ last + 1 - part.at
      by_more [] is =
          let (here, same) = first_at part [] [] last payload is in
          let one = count_one part [] in
          omega (arith, here, one, nothing_missing)
      by_more (other ∷ others) is = absurd (let none : map placed_packet (other ∷ others) ≡ [] = cc in cc)
  number_of last payload (one ∷ before) split =
      let (later, rest) = count_all part.at last more before payload apart.1 rise (rest_at part one (map placed_packet more) before [] last payload split) in
      let all = count_one part (flat_map part_frames more) in
      omega (arith, later, rest, all, nothing_missing)

stand_from : (first last : ℕ) (parts : List CaptionPart) → All IsPart parts → AreSpaced None parts → GoOn 0 (map placed_packet parts)
    → HaveFramesOfTheirOwn (map placed_packet parts) → AreFromTo (map placed_packet parts) first last
    → StandAtTheirFrames (map placed_packet parts) first last (flat_map part_frames parts)
stand_from first last [] are apart on own ends = absurd (none_at [] ends.after first ends.one ends.begins)
stand_from first last (part ∷ more) are apart on own ends =
    let (here, same) = first_at part (map placed_packet more) ends.after first ends.one ends.begins in
    let rise = rise_of (placed_packet part) (map placed_packet more) on.1 own in
    let frames = flat_map part_frames (part ∷ more) in
    subst (λ (n : ℕ). StandAtTheirFrames (map placed_packet (part ∷ more)) n last frames) here (record {
      own = λ at payload among. own_of part more are apart rise at payload among.before among.after among.split;
      missing = λ at low high none. missing_of part more are apart rise at last ends.other ends.before ends.ends low high none;
      number = number_of part more are apart rise last ends.other ends.before ends.ends;
    })

pub packets_stand_at_their_frames : PacketsStandAtTheirFrames
packets_stand_at_their_frames placed text words frames first last is are file own ends =
    let apart = packets_stand_apart placed text words frames is are file in
    let on = captions_go_on 0 placed (file_forward placed text is) in
    let all = stand_from first last apart.parts apart.are apart.apart (subst (GoOn 0) (sym apart.packets) on)
    (subst HaveFramesOfTheirOwn (sym apart.packets) own) (subst (λ (captions : TimedPackets). AreFromTo captions first last) (sym apart.packets) ends) in
    subst (λ (captions : TimedPackets). StandAtTheirFrames captions first last frames) apart.packets
    (subst (λ (fs : List Frame). StandAtTheirFrames (map placed_packet apart.parts) first last fs) (sym apart.frames_are) all)

-- so a frame that was put shows what was shown before it
pub missing_change_nothing : MissingFramesChangeNothing
missing_change_nothing placed text words frames first last at is are file own ends low high none =
    let stands = (packets_stand_at_their_frames placed text words frames first last is are file own ends).missing at low high none in
    let place = at - first in
    let within = slice_get_within frames place stands.frame stands.stands in
    let here = get_or_from_slice_get frames place stands.frame stands.frame stands.stands in
    let next : suc place ≡ place + 1 = omega arith in
    let one_more : take place frames ++ stands.frame ∷ [] ≡ take (suc place) frames =
    ap (λ (f : Frame). take place frames ++ f ∷ []) (sym here) ∙ sym (take_more frames place stands.frame within) ∙ ap (λ (n : ℕ). take n frames) (sym next) in
    subst (λ (later : List Frame). ShowsWhatWasShown (take place frames) later) one_more (without_change_nothing (take place frames) stands.frame stands.is)
