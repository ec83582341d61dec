-- A command that may stop at a frame makes one status of words, where a frame is a reason for one, and none among frames without.
use Rattle.std.proofs.Common.{◌∙◌, ◌<◌, ◌≤◌, ◌⊎◌, inl, inr, ◌≡◌, ◌++◌, ◌∷◌, arith, false, length, refl, subst, sym, true, ℕ, Bool, List, []}
use Rattle.std.specs.Prelude.{nat_le}
use Rattle.cdp_packets.specs.Packets.{Frame}
use Rattle.command_base.specs.declared.status.Status.{Status}
use Rattle.command_base.specs.declared.status.Status.TheVariants as status
use Rattle.cc_receiver.specs.CaptionChannel.{caption_channel}
use Rattle.words_files.proofs.FramesOfLemmas.{file_frames, frames_grow, frames_of_once}
use Rattle.words_files.proofs.FrontLemmas.{TwoFronts, before_it, behind_it, same, two_fronts}
use Rattle.words_files.proofs.WordLemmas.{front_of}
use Rattle.words_files.specs.FramesOf.{AreFramesOf}
use Rattle.words_files.specs.Offences.{IsFileUnder}
use Rattle.words_reading.proofs.OneLemmas.{words_one}
use Rattle.words_reading.specs.FrameTexts.{FramesHalt, FramesSay}
use Rattle.command_base.specs.Exact.{IsFault}
use Rattle.words_reading.specs.WordsVerdict.{WordsVerdict}

-- bytes bring frames that are fit, and one more, which is a reason to stop
pub record HaltsAt (AreFit : List Frame → Type 0) (IsReason : List Frame → Frame → Type 0) (bytes : List ℕ) : Type 0 where
  pub frames : List Frame
  pub last : Frame
  pub are : AreFramesOf caption_channel (frames ++ last ∷ []) bytes
  pub fit : AreFit frames
  pub is : IsReason frames last

-- what frames say, and where they halt
pub said_fit : (text_of : List Frame → List ℕ) (AreGood : List Frame → Type 0) (bytes text : List ℕ) → FramesSay text_of AreGood bytes text
    → (frames : List Frame) × AreFramesOf caption_channel frames bytes × AreGood frames
said_fit text_of AreGood bytes text says = (says.frames, says.frames_are, says.fit)

pub halted_at : (text_of : List Frame → List ℕ) (AreGood : List Frame → Type 0) (IsReason : List Frame → Frame → Type 0) (bytes text : List ℕ)
    → FramesHalt text_of AreGood IsReason bytes text → HaltsAt AreGood IsReason bytes
halted_at text_of AreGood IsReason bytes text halts = record { frames = halts.frames; last = halts.last; are = halts.frames_are; fit = halts.fit; is = halts.is }

-- a file has as many frames as asked, or fewer
abbrev pub Counted : ℕ → Status → List Frame → Type 0
Counted least answer frames = ((least ≤ length frames) × (answer ≡ status.Ok)) ⊎ ((length frames < least) × (answer ≡ status.Short (length frames)))

same_counted : (least : ℕ) (frames : List Frame) (one other : Status) → Counted least one frames → Counted least other frames → one ≡ other
same_counted least frames one other (inl (enough, is)) (inl (also, at)) = is ∙ sym at
same_counted least frames one other (inl (enough, is)) (inr (few, at)) = absurd (omega (arith, enough, few))
same_counted least frames one other (inr (few, is)) (inl (enough, at)) = absurd (omega (arith, enough, few))
same_counted least frames one other (inr (few, is)) (inr (also, at)) = is ∙ sym at

abbrev pub CountedFile : ℕ → (List Frame → Type 0) → Status → List ℕ → Type 0
CountedFile least AreFit answer input = (frames : List Frame) × IsFileUnder caption_channel frames input × AreFit frames × Counted least answer frames

pub counted_once : (least : ℕ) (AreFit : List Frame → Type 0) (input : List ℕ) (one other : Status) → CountedFile least AreFit one input → CountedFile least AreFit other input
    → one ≡ other
counted_once least AreFit input one other (frames, file, fit, is) (others, another, also, at) =
    let same = frames_of_once caption_channel others frames input (file_frames caption_channel others input another) (file_frames caption_channel frames input file) in
    same_counted least frames one other is (subst (Counted least other) same at)

module _ (AreFit : List Frame → Type 0) (IsReason : Status → List Frame → Frame → Type 0)
    (unfit : (answer : Status) (frames behind : List Frame) (last : Frame) → IsReason answer frames last → AreFit ((frames ++ last ∷ []) ++ behind) → ⊥)
    (reason_once : (frames : List Frame) (last : Frame) (one other : Status) → IsReason one frames last → IsReason other frames last → one ≡ other) where
  -- no bytes whose frames are all fit begin with them
  halt_not_fit : (answer : Status) (judged rest : List ℕ) (all : List Frame) → HaltsAt AreFit (IsReason answer) judged → AreFramesOf caption_channel all (judged ++ rest)
      → AreFit all → ⊥
  halt_not_fit answer judged rest all halts are fit =
      let (behind, grown) = frames_grow caption_channel (halts.frames ++ halts.last ∷ []) all judged rest halts.are are in
      unfit answer halts.frames behind halts.last halts.is (subst AreFit grown fit)

  -- a frame is the first that is a reason, and for one status
  same_reason : (one other : Status) (frames others rest : List Frame) (last end : Frame) → AreFit frames → IsReason one frames last → AreFit others
      → IsReason other others end → TwoFronts others (end ∷ rest) frames last → one ≡ other
  same_reason one other frames others rest last end fit is also at (behind_it more longer) = absurd (unfit one frames more last is (subst AreFit longer also))
  same_reason one other frames others rest last end fit is also at (same fronts more left) =
      let ends : end ≡ last = cc in
      reason_once frames last one other is (subst (IsReason other frames) ends (subst (λ f. IsReason other f end) fronts at))
  same_reason one other frames others rest last end fit is also at (before_it item more left longer rest_is) =
      let ends : item ≡ end = cc in
      absurd (unfit other others more end at (subst (λ f. AreFit ((others ++ f ∷ []) ++ more)) ends (subst AreFit longer fit)))

  halt_first : (one other : Status) (judged rest : List ℕ) → HaltsAt AreFit (IsReason one) judged → HaltsAt AreFit (IsReason other) (judged ++ rest) → one ≡ other
  halt_first one other judged rest first next =
      let (behind, grown) = frames_grow caption_channel (first.frames ++ first.last ∷ []) (next.frames ++ next.last ∷ []) judged rest first.are next.are in
      same_reason one other first.frames next.frames [] first.last next.last first.fit first.is next.fit next.is
      (two_fronts next.frames (next.last ∷ []) first.frames behind first.last grown)

  pub halt_once : (judged rest again left : List ℕ) (one other : Status) → judged ++ rest ≡ again ++ left → HaltsAt AreFit (IsReason one) judged
      → HaltsAt AreFit (IsReason other) again → one ≡ other
  halt_once judged rest again left one other is first next = by_size (nat_le (length judged) (length again)) refl
    where
      by_size : (test : Bool) → nat_le (length judged) (length again) ≡ test → one ≡ other
      by_size true within =
          let (behind, front) = front_of judged again rest left is (grind (arith, within)) in
          halt_first one other judged behind first (subst (λ l. HaltsAt AreFit (IsReason other) l) front next)
      by_size false past =
          let (behind, front) = front_of again judged left rest (sym is) (grind (arith, past)) in
          sym (halt_first other one again behind next (subst (λ l. HaltsAt AreFit (IsReason one) l) front first))

  -- so a command that says its text of fit frames, and comes to its end with such, makes one status
  module _ (AtEnd : Status → List ℕ → List ℕ → Type 0) (Says : List ℕ → List ℕ → Type 0) (Halts : Status → List ℕ → List ℕ → Type 0)
      (ends_fit : (answer : Status) (input text : List ℕ) → AtEnd answer input text → (frames : List Frame) × IsFileUnder caption_channel frames input × AreFit frames)
      (ends_one : (input : List ℕ) (one other : Status) (text more : List ℕ) → AtEnd one input text → AtEnd other input more → one ≡ other)
      (says_fit : (bytes text : List ℕ) → Says bytes text → (frames : List Frame) × AreFramesOf caption_channel frames bytes × AreFit frames)
      (halts_at : (answer : Status) (bytes text : List ℕ) → Halts answer bytes text → HaltsAt AreFit (IsReason answer) bytes) where
    pub frames_one : (input : List ℕ) (one other : Status) (text more : List ℕ) → (IsFault one → ⊥) → (IsFault other → ⊥)
        → WordsVerdict AtEnd Says Halts input one text → WordsVerdict AtEnd Says Halts input other more → one ≡ other
    frames_one =
        words_one AtEnd Says Halts
        (λ answer input text ends. let (frames, file, fit) = ends_fit answer input text ends in (frames, file))
        ends_one
        (λ judged rest one other text more halts ends.
        let (frames, file, fit) = ends_fit other (judged ++ rest) more ends in
        halt_not_fit one judged rest frames (halts_at one judged text halts) (file_frames caption_channel frames (judged ++ rest) file) fit)
        (λ judged rest one text more halts says.
        let (frames, are, fit) = says_fit (judged ++ rest) more says in
        halt_not_fit one judged rest frames (halts_at one judged text halts) are fit)
        (λ judged rest again left one other text more is halts stops.
        halt_once judged rest again left one other is (halts_at one judged text halts) (halts_at other again more stops))
