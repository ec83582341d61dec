-- What is exported is imported with the same time code: the pairs stand at their frames again.
use Rattle.std.proofs.Common.{◌≡◌, ◌+◌, ◌<◌, ◌≤◌, ap, arith, inl, inr, length, refl, subst, sym, cond, ℕ, Bool, List, [], ◌∷◌, Some, false, true}
use Rattle.cc_base.specs.Streams.{whole_limit}
use Rattle.cdp_packets.specs.Packets.{Frame}
use Rattle.command_base.specs.declared.status.Status.TheVariants as status
use Rattle.line21_codes.specs.NullPairs.{is_null}
use Rattle.scc_files.proofs.RoundTrip.{of_day}
use Rattle.scc_files.specs.Reading.{frames_of, frames_to}
use Rattle.scc_files.specs.SccFiles.{IsSccFile}
use Rattle.scc_files.specs.Written.{AreWritable, pairs_not_null}
use Rattle.services_files.specs.CaptionChannel.{caption_channel}
use Rattle.time_codes.specs.Frames.{frame_number}
use Rattle.time_codes.specs.TimeCodes.{day_frames}
use Rattle.time_codes.specs.declared.time_code.TimeCode.{TimeCode}
use Rattle.words_files.specs.Frames.{IsFileOf}
use Rattle.words_files.specs.Offences.{IsFileUnder}
use Rattle.scc_commands.specs.ComeBack.{PairsComeBack, StandAgain}
use Rattle.scc_commands.specs.Export.{AreExported, ExportVerdict, export_file, exported_from}
use Rattle.scc_commands.specs.Import.{ImportVerdict, IsImport, PlacedPairs, import_words}
use Rattle.scc_commands.proofs.ExportedFileLemmas.{exported_are_writable, exported_is_placed}
use Rattle.scc_commands.proofs.ImportLemmas.{carried_import}
use Rattle.scc_commands.proofs.ImportVerdictLemmas.{pairs_once}

-- pairs of a day have no more frames than an import may have
few_day : (drop_frame : Bool) → day_frames drop_frame ≤ 2592000
few_day true = omega arith
few_day false = omega arith

few_frames : (start : ℕ) (drop_frame : Bool) (low frames : ℕ) (pairs : PlacedPairs) → AreWritable start drop_frame low pairs → frames ≤ 2592000
    → frames_to frames (pairs_not_null pairs) ≤ 2592000
few_frames start drop_frame low frames [] are few = few
few_frames start drop_frame low frames (placed ∷ pairs) (high, a, b, day, rest) few =
    let by_null : (n : Bool) → is_null placed.1 ≡ n → frames_to frames (cond n (pairs_not_null pairs) (placed ∷ pairs_not_null pairs)) ≤ 2592000 =
    elim [
      | true ↦ λ n. few_frames start drop_frame (placed.0 + 1) frames pairs rest few
      | false ↦ λ n.
          let within : start + placed.0 < day_frames drop_frame = of_day (is_null placed.1) (day_frames drop_frame) (start + placed.0) n day in
          let most = few_day drop_frame in
          few_frames start drop_frame (placed.0 + 1) (placed.0 + 1) pairs rest (omega (arith, within, most))
    ] in
    by_null (is_null placed.1) refl

-- an import is one of pairs alone
imported_once : (time : TimeCode) (text others : List ℕ) (pairs : PlacedPairs) → IsImport (Some (frame_number time)) text pairs
    → ImportVerdict (Some time) text status.Ok others → others ≡ import_words pairs
imported_once time text others pairs is (made, imported, spelled, carried) =
    subst (λ p. others ≡ import_words p) (pairs_once (Some (frame_number time)) text made pairs imported.file is.file) spelled

exported_back : (time : TimeCode) (frames : List Frame) (bytes text : List ℕ) → IsFileOf frames bytes → AreExported time frames → text ≡ export_file time frames
    → length text ≤ whole_limit → StandAgain time frames text
exported_back time frames bytes text file good spelled short =
    let pairs = pairs_not_null (exported_from 0 frames) in
    let is : IsImport (Some (frame_number time)) text pairs = record {
      within = short;
      file = subst (IsSccFile (Some (frame_number time)) pairs) (sym spelled) (exported_is_placed time frames bytes file good);
      few = few_frames (frame_number time) time.drop_frame 0 0 (exported_from 0 frames) (exported_are_writable time frames bytes file good) (omega arith);
    } in
    record {
      is = (pairs, is, refl, carried_import (Some (frame_number time)) text pairs is);
      just = λ others also. imported_once time text others pairs is also;
    }

pub pairs_back : PairsComeBack
pairs_back time words text (inl (within, (frames, is_file, (good, spelled)))) short =
    (frames, is_file, exported_back time frames words text is_file.file good spelled short)
pairs_back time words text (inr (inl (refused, says))) short = absurd refused
pairs_back time words text (inr (inr (judged, rest, is, within, halts))) short = absurd halts.is
