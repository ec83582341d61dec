-- What becomes of a frame that is exported.
use Rattle.std.proofs.Common.{◌≡◌, ◌∙◌, ◌++◌, ap, append-nil, subst, sym, ℕ, List, [], ◌∷◌, length, Option, Some, None}
use Rattle.cc_base.specs.Streams.{Puts}
use Rattle.cc_base.specs.declared.streams.Put.TheVariants as put
use Rattle.cc_base.specs.declared.limit_of.LimitOf.TheVariants as limit
use Rattle.cdp_packets.specs.Packets.{Frame}
use Rattle.command_base.specs.declared.status.Status.TheVariants as status
use Rattle.text_output.specs.Gathered.{Gathers, IsGathered}
use Rattle.line21_codes.specs.declared.pairs.Pair.{Pair}
use Rattle.scc_files.specs.Pieces.{stand_after}
use Rattle.scc_files.specs.Writing.{GivesPiece, Standing, piece_of, stand_behind, standing_of}
use Rattle.time_codes.specs.declared.time_code.TimeCode.{TimeCode}
use Rattle.scc_commands.specs.Export.{AreExported, HasNoFinding, StopsAtFrame, export_front, exported_from, pairs_of}
use Rattle.scc_commands.specs.Exporting.{StandsBehind, first_standing}
use Rattle.scc_commands.specs.declared.exporting.Exporting.{Exporting}
use Rattle.scc_commands.proofs.WrittenLemmas.{exported_more, front_more, gathered_failed, gathered_more, passes_day, past_is, stand_frame}

-- a frame without a pair
pub frame_silent : (time : TimeCode) (start now : Option (List ℕ)) (held : List ℕ) (frames : List Frame) (last : Frame) (export : Exporting)
    → HasNoFinding last → pairs_of last ≡ [] → StandsBehind time frames export → IsGathered start now held (export_front time frames)
    → StandsBehind time (frames ++ last ∷ []) export × IsGathered start now held (export_front time (frames ++ last ∷ []))
frame_silent time start now held frames last export none is stands way = (
  record {
    are_exported = exported_more time frames last [] is none tt stands.are_exported;
    writer = stands.writer ∙ sym (stand_frame time frames last [] is);
  },
  subst (IsGathered start now held) (sym (front_more time frames last [] is ∙ append-nil (export_front time frames))) way,
)

-- what is written of its pair
piece_is : (time : TimeCode) (frames : List Frame) (last : Frame) (pair : Pair) (w : Standing) (frame : ℕ) (piece : List ℕ) → pairs_of last ≡ pair ∷ []
    → w ≡ stand_after (first_standing time) (exported_from 0 frames) → frame ≡ length frames → piece ≡ piece_of w frame pair
    → export_front time frames ++ piece ≡ export_front time (frames ++ last ∷ [])
piece_is time frames last pair w frame piece is stands number given =
    ap (λ p. export_front time frames ++ p)
    (given ∙ ap (λ v. piece_of v frame pair) stands ∙ ap (λ n. piece_of (stand_after (first_standing time) (exported_from 0 frames)) n pair) number
    ∙ sym (append-nil (piece_of (stand_after (first_standing time) (exported_from 0 frames)) (length frames) pair)))
    ∙ sym (front_more time frames last (pair ∷ []) is)

-- it stands within the day
day_is : (time : TimeCode) (frames : List Frame) (pair : Pair) (w : Standing) (frame : ℕ) → w ≡ stand_after (first_standing time) (exported_from 0 frames)
    → frame ≡ length frames → passes_day (first_standing time) (length frames) pair ≡ passes_day w frame pair
day_is time frames pair w frame stands number =
    sym (past_is time (exported_from 0 frames) (length frames) pair)
    ∙ ap (λ v. passes_day v (length frames) pair) (sym stands) ∙ ap (λ n. passes_day w n pair) (sym number)

-- its pair was written
pub frame_written : (time : TimeCode) (start now then : Option (List ℕ)) (before after : List ℕ) (frames : List Frame) (last : Frame) (old new : Exporting) (pair : Pair)
    (frame : ℕ) (piece : List ℕ) → HasNoFinding last → pairs_of last ≡ pair ∷ [] → StandsBehind time frames old → frame ≡ length frames
    → GivesPiece (standing_of old.writer) (standing_of new.writer) frame pair (Some piece)
    → IsGathered start now before (export_front time frames) → Gathers now then before after put.Done piece
    → StandsBehind time (frames ++ last ∷ []) new × IsGathered start then after (export_front time (frames ++ last ∷ []))
frame_written time start now then before after frames last old new pair frame piece none is stands number (fits, given, moved) way gathers = (
  record {
    are_exported = exported_more time frames last (pair ∷ []) is none (day_is time frames pair (standing_of old.writer) frame stands.writer number ∙ fits, tt) stands.are_exported;
    writer = moved ∙ ap (λ v. stand_behind v frame pair) stands.writer
        ∙ ap (λ n. stand_behind (stand_after (first_standing time) (exported_from 0 frames)) n pair) number ∙ sym (stand_frame time frames last (pair ∷ []) is);
  },
  subst (IsGathered start then after) (piece_is time frames last pair (standing_of old.writer) frame piece is stands.writer number given)
      (gathered_more start now then before after piece (export_front time frames) way gathers),
)

-- or a put failed
pub frame_unwritten : (time : TimeCode) (start now then : Option (List ℕ)) (before : List ℕ) (frames : List Frame) (last : Frame) (old new : Exporting) (pair : Pair)
    (frame : ℕ) (piece : List ℕ) → HasNoFinding last → pairs_of last ≡ pair ∷ [] → StandsBehind time frames old → frame ≡ length frames
    → GivesPiece (standing_of old.writer) (standing_of new.writer) frame pair (Some piece)
    → IsGathered start now before (export_front time frames) → Puts now then put.Failed before
    → AreExported time (frames ++ last ∷ []) × Puts start then put.Failed (export_front time (frames ++ last ∷ []))
frame_unwritten time start now then before frames last old new pair frame piece none is stands number (fits, given, moved) way failed = (
  exported_more time frames last (pair ∷ []) is none (day_is time frames pair (standing_of old.writer) frame stands.writer number ∙ fits, tt) stands.are_exported,
  subst (Puts start then put.Failed) (piece_is time frames last pair (standing_of old.writer) frame piece is stands.writer number given)
      (gathered_failed start now then before piece (export_front time frames) way failed),
)

-- or it stands past the day
pub frame_past : (time : TimeCode) (frames : List Frame) (last : Frame) (old new : Exporting) (pair : Pair) (frame : ℕ) → HasNoFinding last → pairs_of last ≡ pair ∷ []
    → StandsBehind time frames old → frame ≡ length frames → GivesPiece (standing_of old.writer) (standing_of new.writer) frame pair None
    → StopsAtFrame time (length frames) last (status.Limit limit.Day)
frame_past time frames last old new pair frame none is stands number (past, same) =
    (none, pair, is, day_is time frames pair (standing_of old.writer) frame stands.writer number ∙ past)
