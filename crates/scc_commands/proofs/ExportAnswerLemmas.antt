-- What `export` answers where a words file was read, or the reading of it stopped before.
use Rattle.std.proofs.Common.{◌≡◌, ◌∙◌, ◌++◌, ap, append-nil, arith, inl, refl, subst, sym, ℕ, List, [], Option}
use Rattle.cc_base.proofs.Puts.{puts_then}
use Rattle.cc_base.specs.Streams.{Puts, Rose}
use Rattle.cc_base.specs.declared.streams.Put.{Put}
use Rattle.cc_base.specs.declared.streams.Put.TheVariants as put
use Rattle.words_reading.proofs.FedFrames.{nothing_is_file}
use Rattle.words_reading.specs.Receivers.{HasReceived}
use Rattle.command_base.specs.Ends.{Ends, IsSteady, ends}
use Rattle.command_base.specs.declared.status.Status.{Status}
use Rattle.command_base.specs.declared.status.Status.TheVariants as status
use Rattle.scc_files.specs.Pieces.{stand_after}
use Rattle.scc_files.specs.Writing.{end_text, standing_of}
use Rattle.scc_files.specs.Written.{head_text}
use Rattle.scc_files.specs.declared.writer.SccWriter.{SccWriter}
use Rattle.services_files.specs.CaptionChannel.{caption_channel}
use Rattle.time_codes.specs.declared.time_code.TimeCode.{TimeCode}
use Rattle.words_files.proofs.FramesOfLemmas.{file_frames}
use Rattle.cc_base.specs.declared.refusal.Refusal.{Refusal}
use Rattle.command_base.proofs.RealisedLemmas.{IsPlain}
use Rattle.words_files.specs.Offences.{FirstOffendingWord}
use Rattle.words_reading.proofs.WordsLemmas.{failed_realised, frames_stay, said_of, stopped_realised, unwritten_realised, whole_realised}
use Rattle.command_base.specs.Realises.{RealisesLeaving}
use Rattle.words_reading.proofs.FrameLemmas.{nothing_judged}
use Rattle.words_reading.proofs.PieceLemmas.{nothing_taken}
use Rattle.words_reading.specs.Causes.{IsWholeFile}
use Rattle.words_reading.specs.FramesRead.{HasJudgedFrames, receiver_of}
use Rattle.words_reading.specs.FrameTexts.{FramesSay}
use Rattle.words_reading.specs.Reading.{Stops, StopsEarly as Stopped}
use Rattle.words_reading.specs.Statuses.{stop_status}
use Rattle.words_reading.specs.declared.frames.Frames.{Frames}
use Rattle.words_reading.specs.declared.judge.Stop.{Stop}
use Rattle.scc_commands.specs.Export.{AreExported, ExportVerdict, export_file, export_front, exported_from}
use Rattle.scc_commands.specs.Exporting.{ExportEnd, ExportHalts, IsExportOf, StandsBehind, first_standing, reason_status}
use Rattle.scc_commands.specs.declared.exporting.ExportStop.{ExportStop}
use Rattle.scc_commands.specs.declared.exporting.ExportStop.TheVariants as reason
use Rattle.scc_commands.specs.declared.exporting.Exporting.{Exporting}
use Rattle.scc_commands.proofs.WrittenLemmas.{file_ends}

-- no frame is exported
none_exported : (time : TimeCode) → AreExported time []
none_exported time = record { no_finding = tt; within_day = tt }

-- an export that judged nothing
pub nothing_exported : (time : TimeCode) (reading : Frames Exporting) (writer : SccWriter) → HasReceived [] (receiver_of reading) → reading.maker ≡ record { writer = writer }
    → standing_of writer ≡ first_standing time → HasJudgedFrames (export_front time) (StandsBehind time) [] head_text reading
nothing_exported time reading writer received is stands =
    nothing_judged (export_front time) (StandsBehind time) head_text reading received
    (record { are_exported = none_exported time; writer = ap (λ (m : Exporting). standing_of m.writer) is ∙ stands }) (sym (append-nil head_text))

stays : (time : TimeCode) (judged more text : List ℕ) (refusal : Refusal) → FirstOffendingWord caption_channel judged refusal → IsExportOf time judged text
    → IsExportOf time (judged ++ more) text
stays time = frames_stay (export_front time) (AreExported time)

abbrev Halts : TimeCode → ExportStop → List ℕ → List ℕ → Type 0
Halts time why = ExportHalts time (reason_status why)

-- the head of the file wasn't put whole
pub head_failed : (time : TimeCode) (first start then : Option (List ℕ)) (reads writes still : ℕ) → Puts start then put.Failed head_text → Rose writes still
    → RealisesLeaving (ExportVerdict time) (ends first reads start writes) (ends first reads then still) status.WriteFault
head_failed time first start then reads writes still failed rose =
    failed_realised (IsExportOf time) (ExportEnd time) (ExportHalts time) (stays time) (Halts time) reason_status (λ why bytes text halts. halts)
    (ends first reads start writes) (ends first reads then still) refl rose
    (record {
      judged = [];
      unjudged = [];
      text = head_text;
      taken = nothing_taken first;
      within = omega arith;
      says = inl (record { frames = []; frames_are = file_frames caption_channel [] [] nothing_is_file; fit = none_exported time; text_is = sym (append-nil head_text) });
      cause = tt;
      output = failed;
    })

-- the bytes bring frames that are exported, and this is their whole file
abbrev IsFileOfExport : TimeCode → List ℕ → List ℕ → Type 0
IsFileOfExport time = FramesSay (export_file time) (AreExported time)

-- a reading that stopped before the end of the file
abbrev HasStopped : TimeCode → Ends → Ends → Stop ExportStop → Type 0
HasStopped time old new why = Stopped (IsExportOf time) (Halts time) old new why

is_plain : (why : ExportStop) → IsPlain (reason_status why)
is_plain (reason.Found finding) = tt
is_plain reason.Day = tt

-- is answered so
pub export_stopped : (time : TimeCode) (first left start now : Option (List ℕ)) (reads later writes began still : ℕ) (why : Stop ExportStop) (answer : Status) → began ≡ writes
    → HasStopped time (ends first reads start began) (ends left later now still) why → answer ≡ stop_status reason_status why
    → RealisesLeaving (ExportVerdict time) (ends first reads start writes) (ends left later now still) answer
export_stopped time first left start now reads later writes began still why answer same stops is =
    subst (λ n. RealisesLeaving (ExportVerdict time) (ends first reads start n) (ends left later now still) answer) same
    (stopped_realised (IsExportOf time) (ExportEnd time) (ExportHalts time) (stays time) (Halts time) reason_status (λ why bytes text halts. halts) is_plain
    (ends first reads start began) (ends left later now still) why answer stops is)

-- the words were read to their end
abbrev HasEnded : TimeCode → Frames Exporting → Ends → Ends → Type 0
HasEnded time reading old new =
    IsSteady old new × Stops (λ bytes text. HasJudgedFrames (export_front time) (StandsBehind time) bytes text reading) (IsWholeFile old.left) put.Done old new

-- and the end of the SCC file was put, or a front of it
end_put : (time : TimeCode) (reading : Frames Exporting) (first left start now then : Option (List ℕ)) (reads later writes began still last : ℕ) (ending : List ℕ) (answer : Put)
    → HasEnded time reading (ends first reads start began) (ends left later now still) → ending ≡ end_text reading.maker.writer.behind → Puts now then answer ending
    → Stops (IsFileOfExport time) (IsWholeFile first) answer (ends first reads start writes) (ends left later then last)
end_put time reading first left start now then reads later writes began still last ending answer (steady, stops) is line =
    let had = stops.says in
    let ends_so : ending ≡ end_text (stand_after (first_standing time) (exported_from 0 had.frames)).behind = is ∙ ap (λ w. end_text w.behind) had.stands.writer in
    record {
      judged = stops.judged;
      unjudged = stops.unjudged;
      text = stops.text ++ ending;
      taken = stops.taken;
      within = stops.within;
      says = record {
        frames = had.frames;
        frames_are = had.frames_are;
        fit = had.stands.are_exported;
        text_is = ap (λ t. t ++ ending) had.text_is ∙ ap (λ e. export_front time had.frames ++ e) ends_so ∙ file_ends time had.frames;
      };
      cause = stops.cause;
      output = puts_then start now then answer stops.text ending stops.output line;
    }

pub export_done : (time : TimeCode) (reading : Frames Exporting) (first left start now then : Option (List ℕ)) (reads later writes began still last : ℕ) (ending : List ℕ)
    → began ≡ writes → HasEnded time reading (ends first reads start began) (ends left later now still) → ending ≡ end_text reading.maker.writer.behind
    → Puts now then put.Done ending → last ≡ still → RealisesLeaving (ExportVerdict time) (ends first reads start writes) (ends left later then last) status.Ok
export_done time reading first left start now then reads later writes began still last ending began_is ended is line same =
    whole_realised (ExportEnd time) (IsExportOf time) (ExportHalts time) (IsFileOfExport time) (said_of (export_file time) (AreExported time))
    (ends first reads start writes) (ends left later then last) (
      record { reads = ended.0.reads; writes = same ∙ ended.0.writes ∙ began_is },
      end_put time reading first left start now then reads later writes began still last ending put.Done ended is line,
    )

pub export_unwritten : (time : TimeCode) (reading : Frames Exporting) (first left start now then : Option (List ℕ)) (reads later writes began still last : ℕ) (ending : List ℕ)
    → began ≡ writes → HasEnded time reading (ends first reads start began) (ends left later now still) → ending ≡ end_text reading.maker.writer.behind
    → Puts now then put.Failed ending → Rose still last → RealisesLeaving (ExportVerdict time) (ends first reads start writes) (ends left later then last) status.WriteFault
export_unwritten time reading first left start now then reads later writes began still last ending began_is ended is line rose =
    unwritten_realised (ExportEnd time) (IsExportOf time) (ExportHalts time) (IsFileOfExport time) (said_of (export_file time) (AreExported time))
    (ends first reads start writes) (ends left later then last)
    ended.0.reads (subst (λ n. Rose n last) (ended.0.writes ∙ began_is) rose)
    (end_put time reading first left start now then reads later writes began still last ending put.Failed ended is line)
