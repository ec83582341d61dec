-- What `decode` and `show` answer where a words file was read, or the reading of it stopped before.
use Rattle.std.proofs.Common.{inl, ◌≡◌, ◌∙◌, ◌<◌, ◌≤◌, ◌++◌, ◌∷◌, ap, arith, codes, decimal, length, refl, subst, sym, ℕ, List, [], Option, None}
use Rattle.cc_base.proofs.Puts.{puts_then}
use Rattle.cc_base.specs.Streams.{Puts, Rose}
use Rattle.cc_base.specs.declared.streams.Put.{Put}
use Rattle.cc_base.specs.declared.streams.Put.TheVariants as put
use Rattle.words_reading.specs.Receivers.{HasReceived}
use Rattle.cdp_packets.specs.Packets.{Frame}
use Rattle.command_base.specs.Ends.{Ends, IsSteady, ends}
use Rattle.command_base.specs.declared.status.Status.{Status}
use Rattle.command_base.specs.declared.status.Status.TheVariants as status
use Rattle.grid_print.specs.Screens.{LookAlike, received_screens}
use Rattle.grid_print.specs.Shown.{last_shown}
use Rattle.grid_print.specs.declared.shown.Shown.{Shown}
use Rattle.line21_screen.specs.Grid.{empty_grid}
use Rattle.words_reading.specs.CaptionChannel.{caption_channel}
use Rattle.words_files.specs.FramesOf.{AreFramesOf}
use Rattle.words_reading.proofs.WordsLemmas.{ended_so, frames_stay, stopped_realised, unwritten_realised, whole_end, whole_realised}
use Rattle.command_base.proofs.RealisedLemmas.{of_told}
use Rattle.words_files.proofs.FramesOfLemmas.{file_frames, frames_of_once}
use Rattle.words_files.specs.Offences.{IsFileUnder}
use Rattle.words_reading.proofs.FrameLemmas.{nothing_judged}
use Rattle.words_reading.proofs.KnownLemmas.{file_of}
use Rattle.words_reading.specs.Causes.{IsWholeFile}
use Rattle.words_reading.specs.FrameTexts.{FramesHalt}
use Rattle.words_reading.specs.FramesRead.{HasJudgedFrames, receiver_of}
use Rattle.words_reading.specs.Reading.{Stops, StopsEarly as Stopped}
use Rattle.words_reading.specs.Statuses.{never_status, stop_status}
use Rattle.words_reading.specs.declared.frames.Frames.{Frames}
use Rattle.words_reading.specs.declared.judge.Never.{Never}
use Rattle.words_reading.specs.declared.judge.Stop.{Stop}
use Rattle.words_commands.proofs.PrintingLemmas.{nothing_shown, show_before}
use Rattle.words_commands.specs.Screens.{counted, next_changes, show_output, texts_behind}
use Rattle.cc_base.specs.Texts.{text as text_joined}
use Rattle.words_commands.specs.Verdicts.{ChangesVerdict, IsTextOf, ShowEnd, ShowVerdict}
use Rattle.words_reading.specs.WordsVerdict.{EndsWell, NeverHalts, WordsVerdict}
use Rattle.command_base.specs.Realises.{RealisesLeaving}
use Rattle.words_commands.specs.declared.changes.Changes.{Changes}
use Rattle.words_commands.specs.declared.screens_at.ScreensAt.{ScreensAt}

-- a receiver's number of frames
abbrev pub Counts : {F : Type 0} → ℕ → Frames F → Type 0
Counts count reading =
    (bytes : List ℕ) (frames : List Frame) → HasReceived bytes (receiver_of reading) → AreFramesOf caption_channel frames bytes → count ≡ length frames

-- a reading was ended by the end of a words file
abbrev pub HasEnded : {F : Type 0} → (List Frame → List ℕ) → (List Frame → F → Type 0) → Frames F → Ends → Ends → Type 0
HasEnded text_of Stands reading old new =
    IsSteady old new × Stops (λ bytes text. HasJudgedFrames text_of Stands bytes text reading) (IsWholeFile old.left) put.Done old new

-- a reading was stopped before
abbrev pub HasStopped : (List Frame → List ℕ) → Ends → Ends → Stop Never → Type 0
HasStopped text_of old new why =
    Stopped (IsTextOf text_of) (λ never. FramesHalt text_of (λ frames. Unit {0}) (λ frames last. ⊥)) old new why

-- the line of the number of frames
abbrev pub frames_line : ℕ → List ℕ
frames_line count = text_joined (codes "frames " ∷ decimal count ∷ codes "\n" ∷ [])

-- a decoding that judged nothing
pub nothing_decoded : (reading : Frames Changes) (shown : Shown) → HasReceived [] (receiver_of reading) → reading.maker ≡ record { shown = shown }
    → (last_shown shown).grids ≡ (λ chan. empty_grid) → ((service id : ℕ) → (last_shown shown).windows service id ≡ None)
    → HasJudgedFrames (texts_behind next_changes []) (λ frames (changes : Changes). LookAlike (last_shown changes.shown) (received_screens frames)) [] [] reading
nothing_decoded reading shown received is grids none =
    nothing_judged (texts_behind next_changes []) _ [] reading received
    (subst (λ (m : Changes). LookAlike (last_shown m.shown) (received_screens [])) (sym is) (nothing_shown (last_shown shown) grids none)) refl

-- bytes that bring this many frames, whose text this is
pub record AreCounted (text_of : List Frame → List ℕ) (count : ℕ) (bytes text : List ℕ) : Type 0 where
  pub frames : List Frame
  pub frames_are : AreFramesOf caption_channel frames bytes
  pub count_is : count ≡ length frames
  pub text_is : text ≡ text_of frames

-- a reading was ended by the end of a words file of this many frames
abbrev pub HasEndedCounted : (List Frame → List ℕ) → ℕ → Ends → Ends → Type 0
HasEndedCounted text_of count old new = IsSteady old new × Stops (AreCounted text_of count) (IsWholeFile old.left) put.Done old new

-- so it was where a receiver counts them
pub ended_counted : {F : Type 0} → (text_of : List Frame → List ℕ) (Stands : List Frame → F → Type 0) (reading : Frames F) (count : ℕ) (old new : Ends)
    → HasEnded text_of Stands reading old new → Counts count reading → HasEndedCounted text_of count old new
ended_counted text_of Stands reading count old new (steady, stops) counts =
    let had = stops.says in (
      steady,
      record {
        judged = stops.judged;
        unjudged = stops.unjudged;
        text = stops.text;
        taken = stops.taken;
        within = stops.within;
        says = record {
          frames = had.frames;
          frames_are = had.frames_are;
          count_is = counts stops.judged had.frames had.received had.frames_are;
          text_is = had.text_is;
        };
        cause = stops.cause;
        output = stops.output;
      },
    )

-- the number of frames was put after their changes, or a front of it
count_put : (next : List Frame → Frame → List ℕ) (first left start now then : Option (List ℕ)) (reads later writes still last count : ℕ) (answer : Put)
    → HasEndedCounted (texts_behind next []) count (ends first reads start writes) (ends left later now still) → Puts now then answer (frames_line count)
    → Stops (IsTextOf (counted next)) (IsWholeFile first) answer (ends first reads start writes) (ends left later then last)
count_put next first left start now then reads later writes still last count answer (steady, stops) line =
    let had = stops.says in
    record {
      judged = stops.judged;
      unjudged = stops.unjudged;
      text = stops.text ++ frames_line count;
      taken = stops.taken;
      within = stops.within;
      says = record {
        frames = had.frames;
        frames_are = had.frames_are;
        fit = tt;
        text_is = ap (λ l. l ++ frames_line count) had.text_is ∙ ap (λ n. texts_behind next [] had.frames ++ frames_line n) had.count_is;
      };
      cause = stops.cause;
      output = puts_then start now then answer stops.text (frames_line count) stops.output line;
    }

-- the text of a file's frames
text_in : (text_of : List Frame → List ℕ) (frames : List Frame) (judged text : List ℕ) → IsFileUnder caption_channel frames judged → IsTextOf text_of judged text
    → text ≡ text_of frames
text_in text_of frames judged text file says =
    says.text_is ∙ ap text_of (frames_of_once caption_channel says.frames frames judged says.frames_are (file_frames caption_channel frames judged file))

-- the changes of all frames, and their number
abbrev pub ChangesEnd : (List Frame → Frame → List ℕ) → Status → List ℕ → List ℕ → Type 0
ChangesEnd next = EndsWell (λ frames text. text ≡ counted next frames)

changes_end : (next : List Frame → Frame → List ℕ) (frames : List Frame) (judged text : List ℕ) → IsFileUnder caption_channel frames judged → IsTextOf (counted next) judged text
    → ChangesEnd next status.Ok judged text
changes_end next frames judged text file says = (frames, file, text_in (counted next) frames judged text file says)

pub changes_done : (next : List Frame → Frame → List ℕ) (first left start now then : Option (List ℕ)) (reads later writes still last count : ℕ)
    → HasEndedCounted (texts_behind next []) count (ends first reads start writes) (ends left later now still) → Puts now then put.Done (frames_line count)
    → last ≡ still → RealisesLeaving (ChangesVerdict next) (ends first reads start writes) (ends left later then last) status.Ok
changes_done next first left start now then reads later writes still last count ended line same =
    whole_realised (ChangesEnd next) (IsTextOf (texts_behind next [])) NeverHalts (IsTextOf (counted next)) (changes_end next) _ _ (
      record { reads = ended.0.reads; writes = same ∙ ended.0.writes },
      count_put next first left start now then reads later writes still last count put.Done ended line,
    )

pub changes_unwritten : (next : List Frame → Frame → List ℕ) (first left start now then : Option (List ℕ)) (reads later writes still last count : ℕ)
    → HasEndedCounted (texts_behind next []) count (ends first reads start writes) (ends left later now still) → Puts now then put.Failed (frames_line count)
    → Rose still last → RealisesLeaving (ChangesVerdict next) (ends first reads start writes) (ends left later then last) status.WriteFault
changes_unwritten next first left start now then reads later writes still last count ended line rose =
    unwritten_realised (ChangesEnd next) (IsTextOf (texts_behind next [])) NeverHalts (IsTextOf (counted next)) (changes_end next) _ _
    ended.0.reads (subst (λ n. Rose n last) ended.0.writes rose) (count_put next first left start now then reads later writes still last count put.Failed ended line)

-- a reading that stopped before the end of the file is answered so
stopped : (text_of : List Frame → List ℕ) (AtEnd : Status → List ℕ → List ℕ → Type 0) (old new : Ends) (why : Stop Never) (answer : Status) → HasStopped text_of old new why
    → answer ≡ stop_status never_status why → RealisesLeaving (WordsVerdict AtEnd (IsTextOf text_of) NeverHalts) old new answer
stopped text_of AtEnd =
    stopped_realised (IsTextOf text_of) AtEnd NeverHalts (frames_stay text_of (λ frames. Unit {0}))
    (λ (never : Never). FramesHalt text_of (λ frames. Unit {0}) (λ frames last. ⊥)) never_status (λ never bytes text halts. halts.is) (λ never. elim never [ ])

pub changes_stopped : (next : List Frame → Frame → List ℕ) (old new : Ends) (why : Stop Never) (answer : Status) → HasStopped (texts_behind next []) old new why
    → answer ≡ stop_status never_status why → RealisesLeaving (ChangesVerdict next) old new answer
changes_stopped next = stopped (texts_behind next []) (ChangesEnd next)

pub show_stopped : (frame : ℕ) (old new : Ends) (why : Stop Never) (answer : Status) → HasStopped (show_output frame) old new why → answer ≡ stop_status never_status why
    → RealisesLeaving (ShowVerdict frame) old new answer
show_stopped frame = stopped (show_output frame) (ShowEnd frame)

-- a showing that judged nothing
pub nothing_printed : (frame : ℕ) (reading : Frames ScreensAt) → HasReceived [] (receiver_of reading) → reading.maker ≡ record { frame = frame }
    → HasJudgedFrames (show_output frame) (λ frames (screens : ScreensAt). screens.frame ≡ frame) [] [] reading
nothing_printed frame reading received is =
    nothing_judged (show_output frame) _ [] reading received (ap (λ (m : ScreensAt). m.frame) is) (sym (show_before frame [] (omega arith)))

-- the frame is one of the file
pub show_found : {F : Type 0} → (Stands : List Frame → F → Type 0) (reading : Frames F) (frame count : ℕ) (old new : Ends)
    → HasEnded (show_output frame) Stands reading old new → Counts count reading → frame < count → RealisesLeaving (ShowVerdict frame) old new status.Ok
show_found Stands reading frame count old new (steady, stops) counts below =
    let had = stops.says in
    let number = counts stops.judged had.frames had.received had.frames_are in (
      (
        refl,
        record { aside = refl; reads = steady.reads; writes = steady.writes },
        of_told _ old.left (λ input known. (
          whole_end old.left new.left input stops.judged stops.unjudged known stops.taken stops.cause.0,
          (
            stops.text,
            inl (ended_so (ShowEnd frame) (λ bytes text. HasJudgedFrames (show_output frame) Stands bytes text reading) (IsWholeFile old.left) status.Ok put.Done old new input known
                stops stops.cause.0 (had.frames, file_of had.frames stops.judged had.frames_are stops.cause.1, (omega (arith, below, number), had.text_is))),
            stops.output,
          ),
        )),
      ),
      λ memory. cc,
    )

-- or the file is too short
pub show_short : {F : Type 0} → (Stands : List Frame → F → Type 0) (reading : Frames F) (frame count : ℕ) (old new : Ends)
    → HasEnded (show_output frame) Stands reading old new → Counts count reading → count ≤ frame → RealisesLeaving (ShowVerdict frame) old new (status.Short count)
show_short Stands reading frame count old new (steady, stops) counts few =
    let had = stops.says in
    let number = counts stops.judged had.frames had.received had.frames_are in (
      (
        record { aside = refl; reads = steady.reads; writes = steady.writes },
        of_told _ old.left (λ input known. (
          stops.text,
          inl (ended_so (ShowEnd frame) (λ bytes text. HasJudgedFrames (show_output frame) Stands bytes text reading) (IsWholeFile old.left) (status.Short count) put.Done old new
              input known stops stops.cause.0 (
                had.frames,
                file_of had.frames stops.judged had.frames_are stops.cause.1,
                (number, few, had.text_is ∙ show_before frame had.frames (omega (arith, few, number))),
              )),
          stops.output,
        )),
      ),
      λ memory. cc,
    )
