-- Words are received, and their frames make text.
use Rattle.std.proofs.Common.{◌≡◌, ◌≢◌, ◌+◌, ◌++◌, ◌<◌, ◌≤◌, append-nil, arith, drop, inl, length, refl, subst, sym, take, ℕ, List, [], ◌∷◌, Option, Err}
use Rattle.cc_base.specs.declared.refusal.Refusal.{Refusal}
use Rattle.cc_receiver.specs.Feeds.{Counts, HasFed, HasRefused}
use Rattle.cc_receiver.specs.Receivers.{HasReceived, frame_count}
use Rattle.cc_receiver.specs.declared.receiver.Ended.TheVariants as ended
use Rattle.cc_receiver.specs.declared.receiver.Fed.{Fed}
use Rattle.cc_receiver.specs.declared.receiver.Receiver.{Receiver}
use Rattle.cc_receiver.proofs.FedFrames.{IsNextFrame, counted_nothing, counts_none, counts_one, frame_more, frames_still, nothing_is_file, nothing_offends}
use Rattle.cdp_packets.specs.Packets.{Frame}
use Rattle.text_output.specs.Gathered.{IsGathered}
use Rattle.words_files.proofs.FramesOfLemmas.{file_frames}
use Rattle.cc_receiver.specs.CaptionChannel.{caption_channel}
use Rattle.words_reading.proofs.PieceLemmas.{front_size, front_spelled}
use Rattle.words_reading.specs.FrameTexts.{FramesHalt, FramesSay, MakesFrame}
use Rattle.words_reading.specs.FramesRead.{HasJudgedFrames, HasReadFrames, receiver_of}
use Rattle.words_reading.specs.Judging.{HasGathered, HasStopped}
use Rattle.words_reading.specs.declared.frames.Frames.{Frames}
use Rattle.words_reading.specs.declared.judge.Stop.{Stop}
use Rattle.words_reading.specs.declared.judge.Stop.TheVariants as stop

-- nothing was received
pub nothing_judged : {F : Type 0} → (text_of : List Frame → List ℕ) (Stands : List Frame → F → Type 0) (text : List ℕ) (reading : Frames F) → HasReceived [] (receiver_of reading)
    → Stands [] reading.maker → text ≡ text_of [] → HasJudgedFrames text_of Stands [] text reading
nothing_judged text_of Stands text reading received stands is =
    let count = counted_nothing (receiver_of reading) received in
    record {
      frames = [];
      received = received;
      few = omega arith;
      unoffending = nothing_offends;
      frames_are = file_frames caption_channel [] [] nothing_is_file;
      stands = stands;
      text_is = is;
    }

-- nothing was received
pub nothing_read : {F : Type 0} → (reading : Frames F) → HasReceived [] (receiver_of reading) → HasReadFrames [] reading
nothing_read reading received =
    let count = counted_nothing (receiver_of reading) received in
    record { received = received; few = omega arith }

-- a front of the bytes was received
pub front_read : {F : Type 0} → (before bytes : List ℕ) (old new : Frames F) (fed : Fed) → HasReadFrames before old → HasFed before bytes (receiver_of old) (receiver_of new) fed
    → fed.used ≤ length bytes → 0 < fed.used → HasReadFrames (before ++ take fed.used bytes) new
front_read before bytes old new fed had read within moves =
    let one = counts_one (frame_count (receiver_of old)) (frame_count (receiver_of new)) fed.ended read.counts in
    let size = front_size before bytes fed.used within in
    let few = had.few in
    record { received = read.received; few = omega arith }

-- a word was refused
pub word_refused : {R F : Type 0} → (text_of : List Frame → List ℕ) (AreFit : List Frame → Type 0) (Stands : List Frame → F → Type 0) (Halts : R → List ℕ → List ℕ → Type 0)
    → ((frames : List Frame) (maker : F) → Stands frames maker → AreFit frames)
    → (start now : Option (List ℕ)) (held before bytes : List ℕ) (old : Frames F) (new : Receiver) (refusal : Refusal)
    → HasGathered (HasJudgedFrames text_of Stands) start now held before old → HasRefused before bytes (receiver_of old) new refusal
    → HasStopped (FramesSay text_of AreFit) Halts start now held (before ++ bytes) (stop.Refused refusal)
word_refused text_of AreFit Stands Halts fit start now held before bytes old new refusal had refused = record {
  judged = before ++ bytes;
  unjudged = [];
  text = had.text;
  spelled = sym (append-nil (before ++ bytes));
  cause = (
    refl,
    refused.offence,
    record {
      frames = had.judged.frames;
      frames_are = frames_still before bytes (receiver_of old) new had.judged.frames had.judged.frames_are had.judged.received refused.received refused.stays;
      fit = fit had.judged.frames old.maker had.judged.stands;
      text_is = had.judged.text_is;
    },
  );
  way = had.way;
}

-- no frame ended
pub no_frame : {F : Type 0} → (text_of : List Frame → List ℕ) (Stands : List Frame → F → Type 0) (start now : Option (List ℕ)) (held before bytes : List ℕ) (old new : Frames F) (fed : Fed)
    → HasGathered (HasJudgedFrames text_of Stands) start now held before old → HasFed before bytes (receiver_of old) (receiver_of new) fed → fed.used ≤ length bytes
    → fed.ended ≢ ended.Caption → new.maker ≡ old.maker → HasGathered (HasJudgedFrames text_of Stands) start now held (before ++ take fed.used bytes) new
no_frame text_of Stands start now held before bytes old new fed had read within other same =
    let count = counts_none (frame_count (receiver_of old)) (frame_count (receiver_of new)) fed.ended other read.counts in
    let size = front_size before bytes fed.used within in
    let few = had.judged.few in
    record {
      text = had.text;
      judged = record {
        frames = had.judged.frames;
        received = read.received;
        few = omega arith;
        unoffending = read.unoffending;
        frames_are = frames_still before (take fed.used bytes) (receiver_of old) (receiver_of new) had.judged.frames had.judged.frames_are had.judged.received read.received count;
        stands = subst (Stands had.judged.frames) (sym same) had.judged.stands;
        text_is = had.judged.text_is;
      };
      way = had.way;
    }

-- a frame ended
pub next_frame : {F : Type 0} → (text_of : List Frame → List ℕ) (Stands : List Frame → F → Type 0) (before bytes text : List ℕ) (old : Frames F) (new : Receiver) (fed : Fed)
    → (had : HasJudgedFrames text_of Stands before text old) → HasFed before bytes (receiver_of old) new fed → fed.ended ≡ ended.Caption
    → IsNextFrame had.frames (before ++ take fed.used bytes)
next_frame text_of Stands before bytes text old new fed had read caption =
    frame_more before (take fed.used bytes) (receiver_of old) new had.frames had.frames_are had.received read.received
    (subst (Counts (frame_count (receiver_of old)) (frame_count new)) caption read.counts)

-- its text was added
pub frame_added : {F : Type 0} → (text_of : List Frame → List ℕ) (Stands : List Frame → F → Type 0) (start then : Option (List ℕ)) (held before bytes text : List ℕ) (old new : Frames F) (fed : Fed)
    → (had : HasJudgedFrames text_of Stands before text old) → HasFed before bytes (receiver_of old) (receiver_of new) fed → fed.used ≤ length bytes → 0 < fed.used
    → fed.ended ≡ ended.Caption → (next : IsNextFrame had.frames (before ++ take fed.used bytes))
    → Stands (had.frames ++ next.frame ∷ []) new.maker → IsGathered start then held (text_of (had.frames ++ next.frame ∷ []))
    → HasGathered (HasJudgedFrames text_of Stands) start then held (before ++ take fed.used bytes) new
frame_added text_of Stands start then held before bytes text old new fed had read within moves caption next stands way =
    let count : frame_count (receiver_of new) ≡ frame_count (receiver_of old) + 1 =
    subst (Counts (frame_count (receiver_of old)) (frame_count (receiver_of new))) caption read.counts in
    let size = front_size before bytes fed.used within in
    let few = had.few in
    record {
      text = text_of (had.frames ++ next.frame ∷ []);
      judged = record {
        frames = had.frames ++ next.frame ∷ [];
        received = read.received;
        few = omega arith;
        unoffending = read.unoffending;
        frames_are = next.frames_are;
        stands = stands;
        text_is = refl;
      };
      way = way;
    }

-- a put of it failed, or the frame is a reason to stop
pub frame_stopped : {R F : Type 0} → (text_of : List Frame → List ℕ) (AreFit : List Frame → Type 0) (Stands : List Frame → F → Type 0) (IsReason : List Frame → Frame → R → Type 0)
    → ((frames : List Frame) (maker : F) → Stands frames maker → AreFit frames)
    → (start then : Option (List ℕ)) (held before bytes text : List ℕ) (old new : Frames F) (fed : Fed) (why : Stop R)
    → (had : HasJudgedFrames text_of Stands before text old) → HasFed before bytes (receiver_of old) (receiver_of new) fed
    → (next : IsNextFrame had.frames (before ++ take fed.used bytes))
    → MakesFrame text_of AreFit Stands IsReason start then held had.frames next.frame new.maker (Err why)
    → HasStopped (FramesSay text_of AreFit) (λ reason. FramesHalt text_of AreFit (λ frames last. IsReason frames last reason)) start then held (before ++ bytes) why
frame_stopped text_of AreFit Stands IsReason fit start then held before bytes text old new fed stop.WriteFault had read next (still, failed) = record {
  judged = before ++ take fed.used bytes;
  unjudged = drop fed.used bytes;
  text = text_of (had.frames ++ next.frame ∷ []);
  spelled = front_spelled before bytes fed.used;
  cause = inl (record { frames = had.frames ++ next.frame ∷ []; frames_are = next.frames_are; fit = still; text_is = refl });
  way = failed;
}
frame_stopped text_of AreFit Stands IsReason fit start then held before bytes text old new fed (stop.Own reason) had read next (is, way) = record {
  judged = before ++ take fed.used bytes;
  unjudged = drop fed.used bytes;
  text = text_of had.frames;
  spelled = front_spelled before bytes fed.used;
  cause = record {
    frames = had.frames;
    last = next.frame;
    frames_are = next.frames_are;
    fit = fit had.frames old.maker had.stands;
    is = is;
    text_is = refl;
    unoffending = read.unoffending;
  };
  way = way;
}
frame_stopped text_of AreFit Stands IsReason fit start then held before bytes text old new fed stop.ReadFault had read next never = absurd never
frame_stopped text_of AreFit Stands IsReason fit start then held before bytes text old new fed stop.Limit had read next never = absurd never
frame_stopped text_of AreFit Stands IsReason fit start then held before bytes text old new fed (stop.Refused refusal) had read next never = absurd never
