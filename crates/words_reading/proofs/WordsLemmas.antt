-- A command that reads words and stops somewhere realises its verdict on them.
use Rattle.std.proofs.Common.{◌≡◌, ◌∙◌, ◌≤◌, ◌+◌, ◌-◌, ◌++◌, ap, append_assoc, arith, false, inl, inr, length, length-append, refl, subst, suc, sym, take, true, zero, ℕ, Bool, List, [], Option, Some, Ok, Err}
use Rattle.std.specs.Prelude.{nat_le}
use Rattle.std.proofs.lemmas.List.{append-nil, nil_from_length}
use Rattle.std.proofs.Math.Seq.{take-append-add}
use Rattle.std.specs.Io.KnownBytes.{Consumes}
use Rattle.cc_base.specs.declared.limit_of.LimitOf.TheVariants as limit
use Rattle.cc_base.specs.declared.refusal.Refusal.{Refusal}
use Rattle.cc_base.specs.declared.streams.Put.{Put}
use Rattle.cc_base.specs.declared.streams.Put.TheVariants as put
use Rattle.cdp_packets.specs.Packets.{Frame}
use Rattle.cc_base.specs.Streams.{Rose}
use Rattle.command_base.specs.Ends.{Ends, IsSteady}
use Rattle.command_base.specs.declared.status.Place.TheVariants.{Byte}
use Rattle.command_base.specs.declared.status.Status.{Status}
use Rattle.command_base.specs.declared.status.Status.TheVariants as status
use Rattle.cc_receiver.specs.CaptionChannel.{caption_channel}
use Rattle.words_files.proofs.EndingLemmas.{file_has_no_offence, offence_stays}
use Rattle.words_files.proofs.FramesOfLemmas.{file_frames, frames_of_once}
use Rattle.words_files.proofs.WordLemmas.{front_of}
use Rattle.words_files.specs.FramesOf.{AreFramesOf}
use Rattle.words_files.specs.Offences.{FirstOffendingWord, IsCutShort, IsFileUnder, IsUnoffending}
use Rattle.words_reading.proofs.KnownLemmas.{known_judged, known_whole}
use Rattle.words_reading.specs.Causes.{Cause, HasNoOffence, IsAnyhow, IsRefusedWith, IsWholeFile, IsWholeInput, PassesLimit, words_limit}
use Rattle.words_reading.specs.FrameTexts.{FramesSay}
use Rattle.words_reading.specs.Judging.{SaysFront}
use Rattle.words_reading.specs.Reading.{Stops, StopsEarly}
use Rattle.words_reading.specs.Statuses.{stop_status}
use Rattle.words_reading.specs.declared.judge.Stop.{Stop}
use Rattle.words_reading.specs.declared.judge.Stop.TheVariants as stop
use Rattle.command_base.proofs.RealisedLemmas.{IsPlain, if_told, of_told, plain_realised, taken_rest}
use Rattle.command_base.specs.SideEnds.{SideEnds}
use Rattle.command_base.proofs.BesideLemmas.{beside_realised, side_refused}
use Rattle.command_base.specs.MadeVerdict.{BesideVerdict}
use Rattle.command_base.specs.Realises.{LeavesAll, PutsRead, RealisesAlone, RealisesBeside, RealisesLeaving, no_side}
use Rattle.command_base.specs.WholeInput.{ReadsInput}
use Rattle.words_reading.specs.WordsVerdict.{EndsWords, OfFile, WordsVerdict, admitted}

-- after a word that offends no file goes on
pub none_longer : (frames : List Frame) (judged more : List ℕ) (refusal : Refusal) → (are : AreFramesOf caption_channel frames judged)
    → FirstOffendingWord caption_channel judged refusal → (others : List Frame) (other rest : List ℕ) → judged ++ more ≡ other ++ rest → IsFileUnder caption_channel others other
    → length other ≤ length are.file
none_longer frames judged more refusal are offence others other rest is file = by_size (nat_le (length other) (length judged)) refl
  where
    by_size : (test : Bool) → nat_le (length other) (length judged) ≡ test → length other ≤ length are.file
    by_size true within =
        let (left, front) = front_of other judged rest more (sym is) (grind (arith, within)) in
        are.longest others other left front file
    by_size false past =
        let (left, front) = front_of judged other more rest is (grind (arith, past)) in
        absurd (file_has_no_offence caption_channel others other refusal file
        (subst (λ l. FirstOffendingWord caption_channel l refusal) (sym front) (offence_stays caption_channel judged left refusal offence)))

-- so the frames of the bytes up to it are the frames of all
abbrev pub offence_keeps_frames : (frames : List Frame) (judged more : List ℕ) (refusal : Refusal) → AreFramesOf caption_channel frames judged
    → FirstOffendingWord caption_channel judged refusal → AreFramesOf caption_channel frames (judged ++ more)
offence_keeps_frames frames judged more refusal are offence =
    record {
      file = are.file;
      behind = are.behind ++ more;
      spelled = ap (λ l. l ++ more) are.spelled ∙ append_assoc are.file are.behind more;
      is_file = are.is_file;
      longest = none_longer frames judged more refusal are offence;
    }

-- what the limit admits of bytes that begin with some within it
front_within : (judged rest : List ℕ) → length judged ≤ words_limit → take words_limit (judged ++ rest) ≡ judged ++ take (words_limit - length judged) rest
front_within judged rest within =
    let split : words_limit ≡ length judged + (words_limit - length judged) = omega (arith, within) in
    ap (λ n. take n (judged ++ rest)) split ∙ take-append-add judged rest (words_limit - length judged)

pub admitted_front : (input judged rest : List ℕ) → input ≡ judged ++ rest → length judged ≤ words_limit → (more : List ℕ) × (admitted input ≡ judged ++ more)
admitted_front input judged rest is within = (take (words_limit - length judged) rest, ap (take words_limit) is ∙ front_within judged rest within)

pub admitted_full : (input judged rest : List ℕ) → input ≡ judged ++ rest → length judged ≡ words_limit → admitted input ≡ judged
admitted_full input judged rest is full =
    let none : words_limit - length judged ≡ 0 = omega (arith, full) in
    ap (take words_limit) is ∙ front_within judged rest (omega (arith, full)) ∙ ap (λ n. judged ++ take n rest) none ∙ append-nil judged

abbrev no_bytes : List ℕ
no_bytes = []

take_none : (n : ℕ) → take n no_bytes ≡ no_bytes
take_none zero = refl
take_none (suc n) = refl

pub admitted_all : (input : List ℕ) → length input ≤ words_limit → admitted input ≡ input
admitted_all input within =
    ap (take words_limit) (sym (append-nil input)) ∙ front_within input [] within ∙ ap (λ l. input ++ l) (take_none (words_limit - length input)) ∙ append-nil input

-- the text of frames sees nothing after the last whole packet
pub frames_stay : (text_of : List Frame → List ℕ) (AreFit : List Frame → Type 0) (judged more text : List ℕ) (refusal : Refusal)
    → FirstOffendingWord caption_channel judged refusal → FramesSay text_of AreFit judged text → FramesSay text_of AreFit (judged ++ more) text
frames_stay text_of AreFit judged more text refusal offence says =
    record {
      frames = says.frames;
      frames_are = offence_keeps_frames says.frames judged more refusal says.frames_are offence;
      fit = says.fit;
      text_is = says.text_is;
    }

-- what is said of bytes by one relation is said by another that follows from it
pub says_so : (Says Other : List ℕ → List ℕ → Type 0) (Why : Cause) (answer : Put) (old new : Ends) → ((bytes text : List ℕ) → Says bytes text → Other bytes text)
    → Stops Says Why answer old new → Stops Other Why answer old new
says_so Says Other Why answer old new follows stops = record {
  judged = stops.judged;
  unjudged = stops.unjudged;
  text = stops.text;
  taken = stops.taken;
  within = stops.within;
  says = follows stops.judged stops.text stops.says;
  cause = stops.cause;
  output = stops.output;
}

-- none of an input is left that was read to its end
pub whole_end : (left now : Option (List ℕ)) (input judged unjudged : List ℕ) → left ≡ Some input → Consumes left now (judged ++ unjudged) → IsWholeInput left judged unjudged
    → now ≡ Some []
whole_end left now input judged unjudged known taken whole =
    let same = known_whole left input judged known whole.0 in
    let all = ap (λ u. judged ++ u) whole.1 ∙ append-nil judged ∙ sym same in
    let (rest, spelled, is) = taken_rest left now input input known (subst (Consumes left now) all taken) in
    let size = ap length spelled ∙ length-append input rest in
    is ∙ ap Some (nil_from_length rest (omega (arith, size)))

-- a reading that stopped isn't out of memory
pub never_memory : {R : Type 0} (status_of : R → Status) → ((reason : R) → IsPlain (status_of reason)) → (why : Stop R) → stop_status status_of why ≡ status.Memory → ⊥
never_memory status_of plain stop.ReadFault is = let clash : status.ReadFault ≡ status.Memory = is in cc
never_memory status_of plain stop.WriteFault is = let clash : status.WriteFault ≡ status.Memory = is in cc
never_memory status_of plain stop.Limit is = let clash : status.Limit limit.Bytes ≡ status.Memory = is in cc
never_memory status_of plain (stop.Refused refusal) is = let clash : status.Malformed (Byte refusal.place) refusal.why ≡ status.Memory = is in cc
never_memory status_of plain (stop.Own reason) is = subst IsPlain is (plain reason)

-- a run beside a side file that is refused
pub refused_beside : {A B : Type 0} (Is : List ℕ → A → Type 0) (Refused : List ℕ → Status → Type 0) (Makes : A → List ℕ → Status → List ℕ → Type 0) (Other : List ℕ → B → Type 0)
    (side later : SideEnds) (old new : Ends) (answer : Status) → ReadsInput Other Refused side.left later.left side.faults later.faults (Err answer) → new ≡ old
    → RealisesBeside Is (BesideVerdict Is Refused Makes) side later old new answer
refused_beside Is Refused Makes Other side later old new answer read same =
    (side_refused Is Refused Makes Other side later old new answer read same, (λ memory. same), inl same)

-- one of which it is this value
pub read_beside : {A : Type 0} (Is : List ℕ → A → Type 0) (Refused : List ℕ → Status → Type 0) (Makes : A → List ℕ → Status → List ℕ → Type 0) (value : A) (side later : SideEnds)
    (old new : Ends) (answer : Status) → ReadsInput Is Refused side.left later.left side.faults later.faults (Ok value) → RealisesAlone (Makes value) old new answer
    → LeavesAll old new answer → RealisesBeside Is (BesideVerdict Is Refused Makes) side later old new answer
read_beside Is Refused Makes value side later old new answer read words leaves = (
  beside_realised Is Refused Makes value side later old new answer read words,
  leaves,
  inr (if_told (λ aside. Is aside value) _ side.left (λ aside known it. (value, it)) read.2),
)

-- a run that was ended by the end of the words with this status
pub ended_so : (AtEnd : Status → List ℕ → List ℕ → Type 0) (Whole : List ℕ → List ℕ → Type 0) (Why : Cause) (answer : Status) (result : Put) (old new : Ends) (input : List ℕ)
    → old.left ≡ Some input → (stops : Stops Whole Why result old new) → IsWholeInput old.left stops.judged stops.unjudged → AtEnd answer stops.judged stops.text
    → (length input ≤ words_limit) × AtEnd answer input stops.text
ended_so AtEnd Whole Why answer result old new input known stops whole ends =
    let same = known_whole old.left input stops.judged known whole.0 in
    (subst (λ l. length l ≤ words_limit) (sym same) stops.within, subst (λ l. AtEnd answer l stops.text) (sym same) ends)

-- what words end with is what a command makes of them, where it is a plain status
pub plain_said : (AtEnd : Status → List ℕ → List ℕ → Type 0) (Says : List ℕ → List ℕ → Type 0) (Halts : Status → List ℕ → List ℕ → Type 0) (input : List ℕ) (answer : Status)
    (text : List ℕ) → IsPlain answer → EndsWords AtEnd Says Halts input answer text → WordsVerdict AtEnd Says Halts input answer text
plain_said AtEnd Says Halts input status.ReadFault text plain ends = absurd plain
plain_said AtEnd Says Halts input status.WriteFault text plain ends = absurd plain
plain_said AtEnd Says Halts input _ text plain ends = ends

-- what is said of a file's frames is said of its frames
pub said_of : (text_of : List Frame → List ℕ) (AreOf : List Frame → Type 0) (frames : List Frame) (judged text : List ℕ) → IsFileUnder caption_channel frames judged
    → FramesSay text_of AreOf judged text → OfFile (λ all. AreOf all × (text ≡ text_of all)) judged
said_of text_of AreOf frames judged text file says =
    let same = frames_of_once caption_channel says.frames frames judged says.frames_are (file_frames caption_channel frames judged file) in
    (frames, file, (subst AreOf same says.fit, says.text_is ∙ ap text_of same))

module _ (Says : List ℕ → List ℕ → Type 0) (AtEnd : Status → List ℕ → List ℕ → Type 0) (Halts : Status → List ℕ → List ℕ → Type 0)
    (stays : (judged more text : List ℕ) (refusal : Refusal) → FirstOffendingWord caption_channel judged refusal → Says judged text → Says (judged ++ more) text) where
  pub read_on : (old new : Ends) (input : List ℕ) → old.left ≡ Some input → Stops Says (HasNoOffence (IsUnoffending caption_channel)) put.Done old new
      → PutsRead (λ aside. WordsVerdict AtEnd Says Halts) [] input old new
  read_on old new input known stops =
      let all = ap (λ u. stops.judged ++ u) stops.cause.0 ∙ append-nil stops.judged in
      let (rest, spelled, left) = taken_rest old.left new.left input stops.judged known (subst (Consumes old.left new.left) all stops.taken) in
      record {
        read = stops.judged;
        rest = rest;
        text = stops.text;
        spelled = spelled;
        taken = left;
        says = (stops.within, stops.cause.1, stops.says);
        output = stops.output;
      }

  -- the words pass the limit
  pub limit_so : (old new : Ends) (input : List ℕ) → old.left ≡ Some input → (stops : Stops Says (PassesLimit (IsUnoffending caption_channel)) put.Done old new)
      → EndsWords AtEnd Says Halts input (status.Limit limit.Bytes) stops.text
  limit_so old new input known stops =
      let (rest, is) = known_judged old.left new.left input stops.judged stops.unjudged known stops.taken in
      let (full, some, fine) = stops.cause in
      let size = ap length is ∙ length-append stops.judged (stops.unjudged ++ rest) in
      let behind = length-append stops.unjudged rest in
      let same = sym (admitted_full input stops.judged (stops.unjudged ++ rest) is full) in
      inr (inl ((omega (arith, size, behind, full, some), subst (IsUnoffending caption_channel) same fine), subst (λ l. Says l stops.text) same stops.says))

  -- a word offends, or the words are cut short
  pub refused_so : (old new : Ends) (input : List ℕ) (refusal : Refusal) → old.left ≡ Some input → (stops : Stops Says (IsRefusedWith refusal old.left) put.Done old new)
      → EndsWords AtEnd Says Halts input (status.Malformed (Byte refusal.place) refusal.why) stops.text
  refused_so old new input refusal known stops =
      let (rest, is) = known_judged old.left new.left input stops.judged stops.unjudged known stops.taken in
      elim stops.cause [
        | inl offence ↦
            let (more, front) = admitted_front input stops.judged (stops.unjudged ++ rest) is stops.within in
            inr (inl (
              inl (subst (λ l. FirstOffendingWord caption_channel l refusal) (sym front) (offence_stays caption_channel stops.judged more refusal offence)),
              subst (λ l. Says l stops.text) (sym front) (stays stops.judged more stops.text refusal offence stops.says),
            ))
        | inr cut ↦
            let same = known_whole old.left input stops.judged known cut.0.0 in
            let within = subst (λ l. length l ≤ words_limit) (sym same) stops.within in
            inr (inl (
              inr (within, subst (λ l. IsCutShort caption_channel l refusal) (sym same) cut.1),
              subst (λ l. Says l stops.text) (sym same ∙ sym (admitted_all input within)) stops.says,
            ))
      ]

  -- the reasons of a command's own to stop
  module _ {R : Type 0} (HaltsFor : R → List ℕ → List ℕ → Type 0) (status_of : R → Status)
      (follows : (reason : R) (bytes text : List ℕ) → HaltsFor reason bytes text → Halts (status_of reason) bytes text) where
    -- a text of which a put failed
    pub written_so : (old new : Ends) (input : List ℕ) → old.left ≡ Some input → (stops : Stops (SaysFront Says HaltsFor) IsAnyhow put.Failed old new)
        → WordsVerdict AtEnd Says Halts input status.WriteFault stops.text
    written_so old new input known stops =
        let (rest, is) = known_judged old.left new.left input stops.judged stops.unjudged known stops.taken in
        elim stops.says [
          | inl says ↦ inl (stops.judged, stops.unjudged ++ rest, is, stops.within, says)
          | inr halts ↦
              inr (inl (status_of halts.0, (stops.judged, stops.unjudged ++ rest, is, stops.within, follows halts.0 stops.judged stops.text halts.1)))
        ]

    -- such a reason
    pub halted_so : (old new : Ends) (input : List ℕ) (reason : R) → old.left ≡ Some input → (stops : Stops (HaltsFor reason) IsAnyhow put.Done old new)
        → EndsWords AtEnd Says Halts input (status_of reason) stops.text
    halted_so old new input reason known stops =
        let (rest, is) = known_judged old.left new.left input stops.judged stops.unjudged known stops.taken in
        inr (inr (stops.judged, stops.unjudged ++ rest, is, stops.within, follows reason stops.judged stops.text stops.says))

    -- a put failed
    pub failed_realised : (old new : Ends) → new.read_faults ≡ old.read_faults → Rose old.write_faults new.write_faults
        → Stops (SaysFront Says HaltsFor) IsAnyhow put.Failed old new → RealisesLeaving (WordsVerdict AtEnd Says Halts) old new status.WriteFault
    failed_realised old new reads rose stops =
        ((refl, reads, rose, of_told _ old.left (λ input known. (stops.text, written_so old new input known stops, stops.output))), λ memory. cc)

    -- a reading that stopped before the end of the words
    early_realised : ((reason : R) → IsPlain (status_of reason)) → (old new : Ends) (why : Stop R) → StopsEarly Says HaltsFor old new why
        → RealisesAlone (WordsVerdict AtEnd Says Halts) old new (stop_status status_of why)
    early_realised plain old new stop.ReadFault stops =
        inr (refl, stops.0, stops.1, of_told _ old.left (λ input known. read_on old new input known stops.2))
    early_realised plain old new stop.WriteFault stops = (failed_realised old new stops.0 stops.1 stops.2).0
    early_realised plain old new stop.Limit stops = (
      record { aside = refl; reads = stops.0.reads; writes = stops.0.writes },
      of_told _ old.left (λ input known. (stops.1.text, limit_so old new input known stops.1, stops.1.output)),
    )
    early_realised plain old new (stop.Refused refusal) stops = (
      record { aside = refl; reads = stops.0.reads; writes = stops.0.writes },
      of_told _ old.left (λ input known. (stops.1.text, refused_so old new input refusal known stops.1, stops.1.output)),
    )
    early_realised plain old new (stop.Own reason) stops =
        plain_realised (λ aside. WordsVerdict AtEnd Says Halts) no_side no_side old new (status_of reason) (plain reason)
        (record { aside = refl; reads = stops.0.reads; writes = stops.0.writes })
        (of_told _ old.left (λ input known. (
          stops.1.text,
          plain_said AtEnd Says Halts input (status_of reason) stops.1.text (plain reason) (halted_so old new input reason known stops.1),
          stops.1.output,
        )))

    pub stopped_realised : ((reason : R) → IsPlain (status_of reason)) → (old new : Ends) (why : Stop R) (answer : Status) → StopsEarly Says HaltsFor old new why
        → answer ≡ stop_status status_of why → RealisesLeaving (WordsVerdict AtEnd Says Halts) old new answer
    stopped_realised plain old new why answer stops is = (
      subst (RealisesAlone (WordsVerdict AtEnd Says Halts) old new) (sym is) (early_realised plain old new why stops),
      λ memory. absurd (never_memory status_of plain why (sym is ∙ memory)),
    )

module _ (AtEnd : Status → List ℕ → List ℕ → Type 0) (Says : List ℕ → List ℕ → Type 0) (Halts : Status → List ℕ → List ℕ → Type 0) (Whole : List ℕ → List ℕ → Type 0)
    (ends : (frames : List Frame) (judged text : List ℕ) → IsFileUnder caption_channel frames judged → Whole judged text → AtEnd status.Ok judged text) where
  -- the whole of a file was judged
  whole_so : (result : Put) (old new : Ends) (input : List ℕ) → old.left ≡ Some input → (stops : Stops Whole (IsWholeFile old.left) result old new)
      → (length input ≤ words_limit) × AtEnd status.Ok input stops.text
  whole_so result old new input known stops =
      let (whole, (frames, file)) = stops.cause in
      ended_so AtEnd Whole (IsWholeFile old.left) status.Ok result old new input known stops whole (ends frames stops.judged stops.text file stops.says)

  -- and its text was put
  pub whole_realised : (old new : Ends) → IsSteady old new × Stops Whole (IsWholeFile old.left) put.Done old new
      → RealisesLeaving (WordsVerdict AtEnd Says Halts) old new status.Ok
  whole_realised old new (steady, stops) = (
    (
      refl,
      record { aside = refl; reads = steady.reads; writes = steady.writes },
      of_told _ old.left (λ input known. (
        whole_end old.left new.left input stops.judged stops.unjudged known stops.taken stops.cause.0,
        (stops.text, inl (whole_so put.Done old new input known stops), stops.output),
      )),
    ),
    λ memory. cc,
  )

  -- or a put of it failed
  pub unwritten_realised : (old new : Ends) → new.read_faults ≡ old.read_faults → Rose old.write_faults new.write_faults
      → Stops Whole (IsWholeFile old.left) put.Failed old new → RealisesLeaving (WordsVerdict AtEnd Says Halts) old new status.WriteFault
  unwritten_realised old new reads rose stops =
      ((refl, reads, rose, of_told _ old.left (λ input known. (stops.text, inr (inr (whole_so put.Failed old new input known stops)), stops.output))), λ memory. cc)
