-- Words of which frames are missing, and the text of their frames.
use Rattle.std.proofs.Common.{◌≡◌, ◌≢◌, ◌∙◌, ◌+◌, ◌++◌, ◌<◌, ◌≤◌, ap, append_assoc, append-nil, arith, drop, inl, length, refl, subst, sym, take, ℕ, List, [], ◌∷◌, None, Option, Err}
use Rattle.std.proofs.Math.Path.{fun_ext}
use Rattle.cc_base.specs.declared.refusal.Refusal.{Refusal}
use Rattle.cc_base.specs.declared.streams.Put.{Put}
use Rattle.cc_base.specs.declared.streams.Put.TheVariants as put
use Rattle.cc_conceal.specs.Concealed.{concealed_grids, concealed_windows, missing_before, number_of_last}
use Rattle.cc_conceal.specs.Concealers.{Conceals, HasConcealed, concealed_frames, displayed_now, receiver_of}
use Rattle.cc_conceal.specs.declared.concealer.Concealer.{Concealer}
use Rattle.cc_conceal.proofs.StayLemmas.{grid_now}
use Rattle.words_reading.proofs.FedFrames.{IsNextFrame, counted_nothing, counts_none, counts_one, frame_more, frames_still, nothing_is_file, nothing_offends}
use Rattle.words_reading.specs.Feeds.{Counts, HasFed, HasRefused}
use Rattle.words_reading.specs.Ended.TheVariants as ended
use Rattle.words_reading.specs.Fed.{Fed}
use Rattle.cdp_packets.specs.Packets.{Frame}
use Rattle.command_base.specs.Ends.{Ends, IsSteady}
use Rattle.dtvcc_services.specs.Numbers.{IsService}
use Rattle.grid_print.proofs.ScreenLemmas.{changes_alike, no_changes}
use Rattle.grid_print.specs.GridTexts.{changes_text}
use Rattle.grid_print.specs.Screens.{LookAlike, Screens, screens_of}
use Rattle.grid_print.specs.Shown.{last_shown}
use Rattle.grid_print.specs.declared.shown.Shown.{Shown}
use Rattle.line21_codes.specs.declared.channels.Chan.{Chan}
use Rattle.line21_codes.specs.declared.channels.Chan.TheVariants.{Cc1, Cc2, Cc3, Cc4}
use Rattle.line21_screen.specs.Grid.{Grid, empty_grid}
use Rattle.line21_screen.specs.Meaning.{after}
use Rattle.words_reading.specs.CaptionChannel.{caption_channel}
use Rattle.text_output.proofs.PageLemmas.{begun_written}
use Rattle.text_output.specs.Gathered.{GathersText, IsGathered, answer_of, held_of}
use Rattle.text_output.specs.Pages.{Page, Writes}
use Rattle.words_files.proofs.FramesOfLemmas.{file_frames}
use Rattle.words_files.specs.FramesOf.{AreFramesOf}
use Rattle.words_reading.proofs.PieceLemmas.{front_size, front_spelled}
use Rattle.words_reading.specs.Causes.{IsWholeFile}
use Rattle.words_reading.specs.FrameTexts.{FramesHalt, FramesSay, MakesFrame}
use Rattle.words_reading.specs.Judging.{HasGathered, HasStopped}
use Rattle.words_reading.specs.Reading.{Stops}
use Rattle.words_reading.specs.declared.judge.Never.{Never}
use Rattle.words_reading.specs.declared.judge.Stop.{Stop}
use Rattle.words_reading.specs.declared.judge.Stop.TheVariants as stop
use Rattle.words_commands.specs.Screens.{texts_behind}
use Rattle.words_commands.specs.ConcealedScreens.{concealed_screens, lost_line, next_concealed}
use Rattle.words_commands.specs.Concealing.{HasJudgedConcealed, HasReadConcealed, ShownLast}
use Rattle.words_commands.specs.declared.concealing.Concealing.{Concealing}
use Rattle.words_commands.proofs.PrintingLemmas.{alike_after, gathered_still, texts_more}
use Rattle.words_commands.proofs.AnswerLemmas.{HasEndedCounted}

-- the screens now are the concealed ones
pub screens_now : (frames : List Frame) (concealer : Concealer) → Conceals frames concealer
    → screens_of (displayed_now concealer) (concealed_windows frames) ≡ concealed_screens frames
screens_now frames concealer conceals =
    ap (λ (grids : Chan → Grid). screens_of grids (concealed_windows frames)) (fun_ext (grid_now frames concealer conceals))

-- a frame before which none is missing, and that leaves the screens as they were, has no text
pub idle_kept : (start now : Option (List ℕ)) (held : List ℕ) (frames : List Frame) (last : Frame) (shown : Shown) (missing : ℕ)
    → ShownLast frames shown → IsGathered start now held (texts_behind next_concealed [] frames) → missing ≡ missing_before (frames ++ last ∷ []) → missing ≡ 0
    → ((chan : Chan) → concealed_grids (frames ++ last ∷ []) chan ≡ concealed_grids frames chan)
    → ((service id : ℕ) → IsService service → concealed_windows (frames ++ last ∷ []) service id ≡ concealed_windows frames service id)
    → ShownLast (frames ++ last ∷ []) shown × IsGathered start now held (texts_behind next_concealed [] (frames ++ last ∷ []))
idle_kept start now held frames last shown missing alike way is zero grids windows =
    let all = frames ++ last ∷ [] in
    let same : LookAlike (concealed_screens frames) (concealed_screens all) = record {
      grids = sym (fun_ext grids);
      windows = λ service id numbered small. sym (windows service id numbered);
    } in
    let none : next_concealed frames last ≡ [] =
    ap (λ m. lost_line m (number_of_last all) ++ changes_text (number_of_last all) (concealed_screens frames) (concealed_screens all)) (sym is ∙ zero)
    ∙ no_changes (number_of_last all) (concealed_screens frames) (concealed_screens all) same in (
      alike_after (last_shown shown) (concealed_screens frames) (concealed_screens all) alike same,
      gathered_still start now held (texts_behind next_concealed [] frames) (texts_behind next_concealed [] all) way
          (texts_more next_concealed frames last ∙ ap (λ l. texts_behind next_concealed [] frames ++ l) none ∙ append-nil (texts_behind next_concealed [] frames)),
    )

-- the line of those missing and the changes of a frame more were written
pub frame_gathered : (start : Option (List ℕ)) (old then new : Page) (r : Put) (frames : List Frame) (last : Frame) (missing number : ℕ) (shown screens : Screens)
    → IsGathered start old.written (held_of old.text) (texts_behind next_concealed [] frames) → answer_of old.text ≡ put.Done
    → Writes old then (lost_line missing number) → Writes then new (changes_text number shown screens) → r ≡ answer_of new.text
    → LookAlike shown (concealed_screens frames) → screens ≡ concealed_screens (frames ++ last ∷ []) → missing ≡ missing_before (frames ++ last ∷ [])
    → number ≡ number_of_last (frames ++ last ∷ [])
    → GathersText start new.written (held_of new.text) (texts_behind next_concealed [] (frames ++ last ∷ [])) r
frame_gathered start old then new r frames last missing number shown screens way done lost changed answered alike same missed numbered =
    let all = frames ++ last ∷ [] in
    let before = texts_behind next_concealed [] frames in
    let line : lost_line missing number ≡ lost_line (missing_before all) (number_of_last all) =
    ap (λ m. lost_line m number) missed ∙ ap (lost_line (missing_before all)) numbered in
    let changes : changes_text number shown screens ≡ changes_text (number_of_last all) (concealed_screens frames) (concealed_screens all) =
    changes_alike number shown (concealed_screens frames) screens alike
    ∙ ap (λ s. changes_text number (concealed_screens frames) s) same
    ∙ ap (λ n. changes_text n (concealed_screens frames) (concealed_screens all)) numbered in
    let more : (before ++ lost_line missing number) ++ changes_text number shown screens ≡ texts_behind next_concealed [] all =
    append_assoc before (lost_line missing number) (changes_text number shown screens)
    ∙ ap (λ l. before ++ (l ++ changes_text number shown screens)) line
    ∙ ap (λ l. before ++ (lost_line (missing_before all) (number_of_last all) ++ l)) changes
    ∙ sym (texts_more next_concealed frames last) in
    subst (λ a. GathersText start new.written (held_of new.text) (texts_behind next_concealed [] all) a) (sym answered)
    (subst (λ l. GathersText start new.written (held_of new.text) l (answer_of new.text)) more
    (changed start old.faults (before ++ lost_line missing number) (lost start old.faults before (begun_written start before old done way))).bytes)

-- before the first frame no cell is displayed, and no window is shown
empty_before : (chan : Chan) → concealed_grids [] chan ≡ empty_grid
unfolding after
empty_before Cc1 = refl
empty_before Cc2 = refl
empty_before Cc3 = refl
empty_before Cc4 = refl

-- nothing was concealed
pub nothing_concealed : (concealing : Concealing) → HasConcealed [] concealing.concealer → (last_shown concealing.shown).grids ≡ (λ chan. empty_grid)
    → ((service id : ℕ) → (last_shown concealing.shown).windows service id ≡ None) → HasJudgedConcealed [] [] concealing
nothing_concealed concealing had grids none =
    let count = counted_nothing (receiver_of concealing.concealer) had.received in
    record {
      had = had;
      few = omega arith;
      unoffending = nothing_offends;
      frames = [];
      frames_are = file_frames caption_channel [] [] nothing_is_file;
      shown = record {
        grids = grids ∙ fun_ext (λ chan. sym (empty_before chan));
        windows = λ service id is small. none service id;
      };
      text_is = refl;
    }

-- a front of the bytes was
pub front_concealed : (before bytes : List ℕ) (old new : Concealing) (fed : Fed) → HasReadConcealed before old
    → HasFed before bytes (receiver_of old.concealer) (receiver_of new.concealer) fed → HasConcealed (before ++ take fed.used bytes) new.concealer
    → fed.used ≤ length bytes → 0 < fed.used → HasReadConcealed (before ++ take fed.used bytes) new
front_concealed before bytes old new fed read feeds had within moves =
    let one = counts_one (concealed_frames old.concealer) (concealed_frames new.concealer) fed.ended feeds.counts in
    let size = front_size before bytes fed.used within in
    let few = read.few in
    record { had = had; few = omega arith }

-- a word was refused
pub word_refused : {R : Type 0} → (Halts : R → List ℕ → List ℕ → Type 0) (start now : Option (List ℕ)) (held before bytes : List ℕ) (old : Concealing) (new : Concealer) (refusal : Refusal)
    → HasGathered HasJudgedConcealed start now held before old → HasRefused before bytes (receiver_of old.concealer) (receiver_of new) refusal
    → HasStopped (FramesSay (texts_behind next_concealed []) (λ frames. Unit {0})) Halts start now held (before ++ bytes) (stop.Refused refusal)
word_refused Halts start now held before bytes old new refusal had refused = record {
  judged = before ++ bytes;
  unjudged = [];
  text = had.text;
  spelled = sym (append-nil (before ++ bytes));
  cause = (
    refl,
    refused.offence,
    record {
      frames = had.judged.frames;
      frames_are = frames_still before bytes (receiver_of old.concealer) (receiver_of new) had.judged.frames had.judged.frames_are had.judged.had.received refused.received refused.stays;
      fit = tt;
      text_is = had.judged.text_is;
    },
  );
  way = had.way;
}

-- no frame ended
pub no_frame : (start now : Option (List ℕ)) (held before bytes : List ℕ) (old new : Concealing) (fed : Fed) → HasGathered HasJudgedConcealed start now held before old
    → HasFed before bytes (receiver_of old.concealer) (receiver_of new.concealer) fed → HasConcealed (before ++ take fed.used bytes) new.concealer
    → fed.used ≤ length bytes → fed.ended ≢ ended.Caption → new.shown ≡ old.shown → HasGathered HasJudgedConcealed start now held (before ++ take fed.used bytes) new
no_frame start now held before bytes old new fed had feeds concealed within other same =
    let count = counts_none (concealed_frames old.concealer) (concealed_frames new.concealer) fed.ended other feeds.counts in
    let size = front_size before bytes fed.used within in
    let few = had.judged.few in
    record {
      text = had.text;
      judged = record {
        had = concealed;
        few = omega arith;
        unoffending = feeds.unoffending;
        frames = had.judged.frames;
        frames_are = frames_still before (take fed.used bytes) (receiver_of old.concealer) (receiver_of new.concealer) had.judged.frames had.judged.frames_are had.judged.had.received
            feeds.received count;
        shown = subst (ShownLast had.judged.frames) (sym same) had.judged.shown;
        text_is = had.judged.text_is;
      };
      way = had.way;
    }

-- a frame ended
pub next_frame : (before bytes text : List ℕ) (old : Concealing) (new : Concealer) (fed : Fed) → (had : HasJudgedConcealed before text old)
    → HasFed before bytes (receiver_of old.concealer) (receiver_of new) fed → fed.ended ≡ ended.Caption → IsNextFrame had.frames (before ++ take fed.used bytes)
next_frame before bytes text old new fed had feeds caption =
    frame_more before (take fed.used bytes) (receiver_of old.concealer) (receiver_of new) had.frames had.frames_are had.had.received feeds.received
    (subst (Counts (concealed_frames old.concealer) (concealed_frames new)) caption feeds.counts)

-- so there is one
pub some_frame : (before bytes : List ℕ) (old new : Concealer) (fed : Fed) → HasFed before bytes (receiver_of old) (receiver_of new) fed → fed.ended ≡ ended.Caption
    → 0 < concealed_frames new
some_frame before bytes old new fed feeds caption =
    let count : concealed_frames new ≡ concealed_frames old + 1 = subst (Counts (concealed_frames old) (concealed_frames new)) caption feeds.counts in
    omega arith

-- its text was added
pub frame_added : (start then : Option (List ℕ)) (held before bytes text : List ℕ) (old new : Concealing) (fed : Fed) → (had : HasJudgedConcealed before text old)
    → HasFed before bytes (receiver_of old.concealer) (receiver_of new.concealer) fed → HasConcealed (before ++ take fed.used bytes) new.concealer
    → fed.used ≤ length bytes → 0 < fed.used → fed.ended ≡ ended.Caption → (next : IsNextFrame had.frames (before ++ take fed.used bytes))
    → ShownLast (had.frames ++ next.frame ∷ []) new.shown → IsGathered start then held (texts_behind next_concealed [] (had.frames ++ next.frame ∷ []))
    → HasGathered HasJudgedConcealed start then held (before ++ take fed.used bytes) new
frame_added start then held before bytes text old new fed had feeds concealed within moves caption next shown way =
    let count : concealed_frames new.concealer ≡ concealed_frames old.concealer + 1 =
    subst (Counts (concealed_frames old.concealer) (concealed_frames new.concealer)) caption feeds.counts in
    let size = front_size before bytes fed.used within in
    let few = had.few in
    record {
      text = texts_behind next_concealed [] (had.frames ++ next.frame ∷ []);
      judged = record {
        had = concealed;
        few = omega arith;
        unoffending = feeds.unoffending;
        frames = had.frames ++ next.frame ∷ [];
        frames_are = next.frames_are;
        shown = shown;
        text_is = refl;
      };
      way = way;
    }

-- a put of it failed
pub frame_stopped : (start then : Option (List ℕ)) (held before bytes text : List ℕ) (old : Concealing) (new : Concealer) (shown : Shown) (fed : Fed) (why : Stop Never)
    → (had : HasJudgedConcealed before text old) → HasFed before bytes (receiver_of old.concealer) (receiver_of new) fed
    → (next : IsNextFrame had.frames (before ++ take fed.used bytes))
    → MakesFrame (texts_behind next_concealed []) (λ frames. Unit {0}) ShownLast (λ frames last (never : Never). ⊥) start then held had.frames next.frame shown (Err why)
    → HasStopped (FramesSay (texts_behind next_concealed []) (λ frames. Unit {0})) (λ (never : Never). FramesHalt (texts_behind next_concealed []) (λ frames. Unit {0}) (λ frames last. ⊥)) start then held
    (before ++ bytes) why
frame_stopped start then held before bytes text old new shown fed stop.WriteFault had feeds next (fit, failed) = record {
  judged = before ++ take fed.used bytes;
  unjudged = drop fed.used bytes;
  text = texts_behind next_concealed [] (had.frames ++ next.frame ∷ []);
  spelled = front_spelled before bytes fed.used;
  cause = inl (record { frames = had.frames ++ next.frame ∷ []; frames_are = next.frames_are; fit = tt; text_is = refl });
  way = failed;
}
frame_stopped start then held before bytes text old new shown fed (stop.Own never) had feeds next (is, way) = absurd is
frame_stopped start then held before bytes text old new shown fed stop.ReadFault had feeds next none = absurd none
frame_stopped start then held before bytes text old new shown fed stop.Limit had feeds next none = absurd none
frame_stopped start then held before bytes text old new shown fed (stop.Refused refusal) had feeds next none = absurd none

-- a reading that was ended by the end of a words file counts its frames
pub counted_concealed : (concealing : Concealing) (count : ℕ) (old new : Ends)
    → IsSteady old new × Stops (λ bytes text. HasJudgedConcealed bytes text concealing) (IsWholeFile old.left) put.Done old new
    → ((bytes : List ℕ) (frames : List Frame) → HasConcealed bytes concealing.concealer → AreFramesOf caption_channel frames bytes → count ≡ length frames)
    → HasEndedCounted (texts_behind next_concealed []) count old new
counted_concealed concealing count old new (steady, stops) counts =
    let had = stops.says in (
      steady,
      record {
        judged = stops.judged;
        unjudged = stops.unjudged;
        text = stops.text;
        taken = stops.taken;
        within = stops.within;
        says = record { frames = had.frames; frames_are = had.frames_are; count_is = counts stops.judged had.frames had.had had.frames_are; text_is = had.text_is };
        cause = stops.cause;
        output = stops.output;
      },
    )
