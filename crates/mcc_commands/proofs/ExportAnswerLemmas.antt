-- What `export-mcc` answers where a words file was read, or the reading of it stopped before.
use Rattle.std.proofs.Common.{◌≡◌, ◌++◌, ap, arith, inl, refl, true, Ok, subst, ℕ, List, [], Option}
use Rattle.cc_base.specs.Streams.{Puts, Rose}
use Rattle.cc_base.specs.declared.streams.Put.TheVariants as put
use Rattle.command_base.specs.Ends.{IsSteady, ends}
use Rattle.command_base.specs.declared.status.Status.{Status}
use Rattle.command_base.specs.declared.status.Status.TheVariants as status
use Rattle.mcc_files.specs.Writing.{written_head}
use Rattle.time_codes.specs.Countings.{frame_in, frame_number_in, is_time_code_in}
use Rattle.time_codes.specs.declared.counting.Counting.{Counting}
use Rattle.time_codes.specs.declared.time_code.TimeCode.{TimeCode}
use Rattle.cc_base.specs.declared.refusal.Refusal.{Refusal}
use Rattle.command_base.proofs.RealisedLemmas.{IsPlain}
use Rattle.command_base.specs.Realises.{RealisesLeaving}
use Rattle.services_files.specs.CaptionChannel.{caption_channel}
use Rattle.words_files.specs.Offences.{FirstOffendingWord}
use Rattle.words_reading.proofs.WordsLemmas.{failed_realised, offence_keeps_frames, says_so, stopped_realised, whole_realised}
use Rattle.words_reading.proofs.PieceLemmas.{nothing_taken}
use Rattle.words_reading.specs.Causes.{IsWholeFile}
use Rattle.words_reading.specs.Reading.{Stops, StopsEarly as Stopped}
use Rattle.words_reading.specs.Statuses.{stop_status as status_of}
use Rattle.words_reading.specs.declared.judge.Stop.{Stop}
use Rattle.mcc_commands.proofs.ExportStepLemmas.{Halts}
use Rattle.mcc_commands.specs.ExportMcc.{ExportMccEnd, ExportMccVerdict, HaltsMcc, SaysMcc, start_at}
use Rattle.mcc_commands.specs.ExportSteps.{HasJudged, stop_status}
use Rattle.mcc_commands.specs.declared.export_stop.MccStop.{MccStop}
use Rattle.mcc_commands.specs.declared.export_stop.MccStop.TheVariants as reason
use Rattle.mcc_commands.specs.declared.start.Start.{Start}
use Rattle.mcc_commands.specs.declared.exporting.Exporting.{Exporting}

-- where the time codes start
pub start_is : (count : Counting) (time : TimeCode) (first : ℕ) → is_time_code_in count time ≡ true → Ok first ≡ frame_in count time
    → record { count = count; first = first } ≡ start_at count time
start_is count time first has is =
    let at : Ok first ≡ Ok (frame_number_in count time) = rw has at is in
    let same : first ≡ frame_number_in count time = cc in
    ap (λ (f : ℕ). let s : Start = record { count = count; first = f } in s) same

stays : (start : Start) (judged more text : List ℕ) (refusal : Refusal) → FirstOffendingWord caption_channel judged refusal → SaysMcc start judged text
    → SaysMcc start (judged ++ more) text
stays start judged more text refusal offence says =
    record { frames = says.frames; frames_are = offence_keeps_frames says.frames judged more refusal says.frames_are offence; mcc = says.mcc }

-- the head of the file wasn't put whole
pub head_failed : (start : Start) (judge : Exporting) (first begun then : Option (List ℕ)) (reads writes still : ℕ) → HasJudged start [] (written_head start.count) judge
    → Puts begun then put.Failed (written_head start.count) → Rose writes still
    → RealisesLeaving (ExportMccVerdict start) (ends first reads begun writes) (ends first reads then still) status.WriteFault
head_failed start judge first begun then reads writes still had failed rose =
    failed_realised (SaysMcc start) (ExportMccEnd start) (HaltsMcc start) (stays start) (Halts start) stop_status (λ why bytes text halts. halts)
    (ends first reads begun writes) (ends first reads then still) refl rose
    (record {
      judged = [];
      unjudged = [];
      text = written_head start.count;
      taken = nothing_taken first;
      within = omega arith;
      says = inl had.says;
      cause = tt;
      output = failed;
    })

-- a reading that stopped before the end of the file
is_plain : (why : MccStop) → IsPlain (stop_status why)
is_plain (reason.Found finding) = tt
is_plain reason.Day = tt

-- is answered so
pub stopped_answer : (start : Start) (first left begun now : Option (List ℕ)) (reads later writes since still : ℕ) (why : Stop MccStop) (answer : Status) → since ≡ writes
    → Stopped (SaysMcc start) (Halts start) (ends first reads begun since) (ends left later now still) why → answer ≡ status_of stop_status why
    → RealisesLeaving (ExportMccVerdict start) (ends first reads begun writes) (ends left later now still) answer
stopped_answer start first left begun now reads later writes since still why answer same stops is =
    subst (λ n. RealisesLeaving (ExportMccVerdict start) (ends first reads begun n) (ends left later now still) answer) same
    (stopped_realised (SaysMcc start) (ExportMccEnd start) (HaltsMcc start) (stays start) (Halts start) stop_status (λ why bytes text halts. halts) is_plain
    (ends first reads begun since) (ends left later now still) why answer stops is)

-- the words were read to their end
pub whole_answer : (start : Start) (judge : Exporting) (first left begun now : Option (List ℕ)) (reads later writes since still : ℕ) → since ≡ writes
    → IsSteady (ends first reads begun since) (ends left later now still)
    × Stops (λ bytes text. HasJudged start bytes text judge) (IsWholeFile first) put.Done (ends first reads begun since) (ends left later now still)
    → RealisesLeaving (ExportMccVerdict start) (ends first reads begun writes) (ends left later now still) status.Ok
whole_answer start judge first left begun now reads later writes since still same (steady, stops) =
    subst (λ n. RealisesLeaving (ExportMccVerdict start) (ends first reads begun n) (ends left later now still) status.Ok) same
    (whole_realised (ExportMccEnd start) (SaysMcc start) (HaltsMcc start) (SaysMcc start) (λ frames judged text file says. (frames, file, says))
    (ends first reads begun since) (ends left later now still) (
      steady,
      says_so (λ bytes text. HasJudged start bytes text judge) (SaysMcc start) (IsWholeFile first) put.Done (ends first reads begun since) (ends left later now still)
          (λ bytes text had. had.says) stops,
    ))
