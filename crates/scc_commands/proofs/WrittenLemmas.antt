-- The text of frames that are exported, frame by frame.
use Rattle.std.proofs.Common.{◌≡◌, ◌∙◌, ◌+◌, ◌≤◌, ◌++◌, ap, append_assoc, append-nil, arith, refl, subst, suc, sym, ℕ, Bool, List, [], ◌∷◌, length, map, Option, Some, None, false, true}
use Rattle.std.specs.List.{AllByRecursion}
use Rattle.std.specs.Prelude.{◌==◌, ◌&&◌, if◌then◌else◌, min, slice_get}
use Rattle.std.proofs.lemmas.List.{length-append}
use Rattle.cc_data.specs.declared.triplet.Triplet.{Triplet}
use Rattle.cdp_packets.specs.PacketTriplets.{packet_triplets}
use Rattle.words_files.specs.Received.{field_pair, field_pairs}
use Rattle.std.proofs.KnownBytes.{Appends-trans}
use Rattle.cc_base.proofs.Puts.{puts_stop}
use Rattle.cc_base.specs.Streams.{Puts}
use Rattle.cc_base.specs.declared.streams.Put.TheVariants as put
use Rattle.cdp_packets.specs.Packets.{Frame}
use Rattle.text_output.specs.Gathered.{Gathers, IsGathered}
use Rattle.line21_codes.specs.declared.channels.FieldNumber.TheVariants.{One}
use Rattle.line21_codes.specs.declared.pairs.Pair.{Pair}
use Rattle.line21_codes.specs.NullPairs.{is_null}
use Rattle.scc_files.proofs.Complete.{number_is}
use Rattle.scc_files.proofs.PiecesLemmas.{ends_first, front_ended, front_is}
use Rattle.scc_files.specs.Pieces.{pieces, stand_after}
use Rattle.scc_files.specs.Stretches.{ending}
use Rattle.scc_files.specs.Writing.{Standing, StandsFirst, end_text, piece_of, stand_behind, standing_of}
use Rattle.scc_files.specs.declared.writer.SccWriter.{SccWriter}
use Rattle.scc_files.specs.Written.{head_text, is_past_day, stretches_of}
use Rattle.time_codes.specs.Frames.{frame_number}
use Rattle.time_codes.specs.declared.time_code.TimeCode.{TimeCode}
use Rattle.words_reading.proofs.WayLemmas.{way_unwritten}
use Rattle.scc_commands.specs.Import.{PlacedPairs}
use Rattle.scc_commands.specs.Export.{AreExported, HasNoFinding, export_file, export_front, exported_from, pairs_of}
use Rattle.scc_commands.specs.Exporting.{first_standing}

-- pairs at one frame
abbrev pub at_number : ℕ → List Pair → PlacedPairs
at_number number pairs = map (λ pair. (number, pair)) pairs

-- what holds of frames that are exported
abbrev pub HaveNoFinding : List Frame → Type 0
HaveNoFinding frames = AllByRecursion HasNoFinding frames

-- the pair isn't null, and stands past the day of a writer
abbrev pub passes_day : Standing → ℕ → Pair → Bool
passes_day w frame pair = is_past_day w.start w.drop_frame frame pair

abbrev pub AreWithinDay : TimeCode → PlacedPairs → Type 0
AreWithinDay time pairs = AllByRecursion (λ (placed : ℕ × Pair). passes_day (first_standing time) placed.0 placed.1 ≡ false) pairs

-- the pairs of frames and of one more
one_frame_more : (number : ℕ) (frames : List Frame) (last : Frame)
    → exported_from number (frames ++ last ∷ []) ≡ exported_from number frames ++ at_number (number + length frames) (pairs_of last)
one_frame_more number [] last = append-nil (at_number number (pairs_of last)) ∙ ap (λ n. at_number n (pairs_of last)) (none number)
  where
    none : (n : ℕ) → n ≡ n + 0
    none n = omega arith
one_frame_more number (frame ∷ frames) last =
    let count : suc number + length frames ≡ number + suc (length frames) = omega arith in
    ap (λ l. at_number number (pairs_of frame) ++ l)
    (one_frame_more (suc number) frames last ∙ ap (λ n. exported_from (suc number) frames ++ at_number n (pairs_of last)) count)
    ∙ sym (append_assoc (at_number number (pairs_of frame)) (exported_from (suc number) frames) (at_number (number + suc (length frames)) (pairs_of last)))

plus_none : (n : ℕ) → 0 + n ≡ n
plus_none n = omega arith

one_more : (frames : List Frame) (last : Frame) → exported_from 0 (frames ++ last ∷ []) ≡ exported_from 0 frames ++ at_number (length frames) (pairs_of last)
one_more frames last = one_frame_more 0 frames last ∙ ap (λ n. exported_from 0 frames ++ at_number n (pairs_of last)) (plus_none (length frames))

-- what is written of pairs and of more
pieces_more : (pairs more : PlacedPairs) (w : Standing) → pieces w (pairs ++ more) ≡ pieces w pairs ++ pieces (stand_after w pairs) more
pieces_more [] more w = refl
pieces_more (placed ∷ pairs) more w =
    ap (λ l. piece_of w placed.0 placed.1 ++ l) (pieces_more pairs more (stand_behind w placed.0 placed.1))
    ∙ sym (append_assoc (piece_of w placed.0 placed.1) (pieces (stand_behind w placed.0 placed.1) pairs)
    (pieces (stand_after (stand_behind w placed.0 placed.1) pairs) more))

stand_more : (pairs more : PlacedPairs) (w : Standing) → stand_after w (pairs ++ more) ≡ stand_after (stand_after w pairs) more
stand_more [] more w = refl
stand_more (placed ∷ pairs) more w = stand_more pairs more (stand_behind w placed.0 placed.1)

within_more : (time : TimeCode) (pairs more : PlacedPairs) → AreWithinDay time pairs → AreWithinDay time more → AreWithinDay time (pairs ++ more)
within_more time [] more within next = next
within_more time (placed ∷ pairs) more (fits, within) next = (fits, within_more time pairs more within next)

no_finding_more : (frames : List Frame) (last : Frame) → HaveNoFinding frames → HasNoFinding last → HaveNoFinding (frames ++ last ∷ [])
no_finding_more [] last had none = (none, tt)
no_finding_more (frame ∷ frames) last (first, had) none = (first, no_finding_more frames last had none)

-- a frame more is exported
pub exported_more : (time : TimeCode) (frames : List Frame) (last : Frame) (pairs : List Pair) → pairs_of last ≡ pairs → HasNoFinding last
    → AreWithinDay time (at_number (length frames) pairs) → AreExported time frames → AreExported time (frames ++ last ∷ [])
exported_more time frames last pairs is none within are = record {
  no_finding = no_finding_more frames last are.no_finding none;
  within_day = subst (AreWithinDay time) (sym (one_more frames last))
      (within_more time (exported_from 0 frames) (at_number (length frames) (pairs_of last)) are.within_day
      (subst (λ l. AreWithinDay time (at_number (length frames) l)) (sym is) within));
}

-- what was put of frames, piece by piece
abbrev pub put_front : TimeCode → List Frame → List ℕ
put_front time frames = head_text ++ pieces (first_standing time) (exported_from 0 frames)

front_put : (time : TimeCode) (frames : List Frame) → put_front time frames ≡ export_front time frames
front_put time frames = front_is (frame_number time) time.drop_frame (exported_from 0 frames)

put_more : (time : TimeCode) (frames : List Frame) (last : Frame) (pairs : List Pair) → pairs_of last ≡ pairs
    → put_front time (frames ++ last ∷ [])
    ≡ put_front time frames ++ pieces (stand_after (first_standing time) (exported_from 0 frames)) (at_number (length frames) pairs)
put_more time frames last pairs is =
    ap (λ l. head_text ++ pieces (first_standing time) l) (one_more frames last)
    ∙ ap (λ l. head_text ++ l) (pieces_more (exported_from 0 frames) (at_number (length frames) (pairs_of last)) (first_standing time))
    ∙ sym (append_assoc head_text (pieces (first_standing time) (exported_from 0 frames))
    (pieces (stand_after (first_standing time) (exported_from 0 frames)) (at_number (length frames) (pairs_of last))))
    ∙ ap (λ l. put_front time frames ++ pieces (stand_after (first_standing time) (exported_from 0 frames)) (at_number (length frames) l)) is

-- the text of a frame more
pub front_more : (time : TimeCode) (frames : List Frame) (last : Frame) (pairs : List Pair) → pairs_of last ≡ pairs
    → export_front time (frames ++ last ∷ [])
    ≡ export_front time frames ++ pieces (stand_after (first_standing time) (exported_from 0 frames)) (at_number (length frames) pairs)
front_more time frames last pairs is =
    sym (front_put time (frames ++ last ∷ [])) ∙ put_more time frames last pairs is
    ∙ ap (λ (l : List ℕ). l ++ pieces (stand_after (first_standing time) (exported_from 0 frames)) (at_number (length frames) pairs)) (front_put time frames)

-- where a frame more leads
pub stand_frame : (time : TimeCode) (frames : List Frame) (last : Frame) (pairs : List Pair) → pairs_of last ≡ pairs
    → stand_after (first_standing time) (exported_from 0 (frames ++ last ∷ []))
    ≡ stand_after (stand_after (first_standing time) (exported_from 0 frames)) (at_number (length frames) pairs)
stand_frame time frames last pairs is =
    ap (stand_after (first_standing time)) (one_more frames last)
    ∙ stand_more (exported_from 0 frames) (at_number (length frames) (pairs_of last)) (first_standing time)
    ∙ ap (λ l. stand_after (stand_after (first_standing time) (exported_from 0 frames)) (at_number (length frames) l)) is

-- the day of a writer stays
pub record HasDay (w v : Standing) : Type 0 where
  pub start : w.start ≡ v.start
  pub drop_frame : w.drop_frame ≡ v.drop_frame

day_behind : (w v : Standing) (frame : ℕ) (pair : Pair) (null : Bool) → is_null pair ≡ null → HasDay w v → HasDay (stand_behind w frame pair) v
day_behind w v frame pair true is day = record { start = rw is day.start; drop_frame = rw is day.drop_frame }
day_behind w v frame pair false is day = record { start = rw is day.start; drop_frame = rw is day.drop_frame }

day_after : (pairs : PlacedPairs) (w v : Standing) → HasDay w v → HasDay (stand_after w pairs) v
day_after [] w v day = day
day_after (placed ∷ pairs) w v day =
    day_after pairs (stand_behind w placed.0 placed.1) v (day_behind w v placed.0 placed.1 (is_null placed.1) refl day)

same_past : (w v : Standing) (frame : ℕ) (pair : Pair) → HasDay w v → passes_day w frame pair ≡ passes_day v frame pair
same_past w v frame pair day = rw (day.start, day.drop_frame) refl

-- so whether a pair stands past the day is asked of any writer of the file
pub past_is : (time : TimeCode) (pairs : PlacedPairs) (frame : ℕ) (pair : Pair)
    → passes_day (stand_after (first_standing time) pairs) frame pair ≡ passes_day (first_standing time) frame pair
past_is time pairs frame pair =
    same_past (stand_after (first_standing time) pairs) (first_standing time) frame pair
    (day_after pairs (first_standing time) (first_standing time) (record { start = refl; drop_frame = refl }))

-- a piece more was gathered
pub gathered_more : (a b c : Option (List ℕ)) (before after piece all : List ℕ) → IsGathered a b before all → Gathers b c before after put.Done piece
    → IsGathered a c after (all ++ piece)
gathered_more a b c before after piece all way (sent, appended, is) = record {
  sent = way.sent ++ sent;
  appended = Appends-trans a b c way.sent sent way.appended appended;
  whole = append_assoc way.sent sent after ∙ ap (λ l. way.sent ++ l) (sym is) ∙ sym (append_assoc way.sent before piece) ∙ ap (λ l. l ++ piece) way.whole;
}

-- a put of what is held failed
pub gathered_failed : (a b c : Option (List ℕ)) (held piece all : List ℕ) → IsGathered a b held all → Puts b c put.Failed held → Puts a c put.Failed (all ++ piece)
gathered_failed a b c held piece all way failed =
    puts_stop a c all piece (way_unwritten a b c held all way failed)

-- the front of a file and what ends it are the file
pub front_and_end : (time : TimeCode) (frames : List Frame) → export_front time frames ++ ending (stretches_of (exported_from 0 frames)) ≡ export_file time frames
front_and_end time frames = front_ended (frame_number time) time.drop_frame (exported_from 0 frames)

pub file_ends : (time : TimeCode) (frames : List Frame)
    → export_front time frames ++ end_text (stand_after (first_standing time) (exported_from 0 frames)).behind ≡ export_file time frames
file_ends time frames =
    ap (λ (l : List ℕ). export_front time frames ++ l) (ends_first (frame_number time) time.drop_frame (exported_from 0 frames)) ∙ front_and_end time frames

-- the one pair of a list that has no more
pub one_pair : (pairs : List Pair) (pair : Pair) (rest : List Pair) → pairs ≡ pair ∷ rest → length pairs ≤ 1 → pairs ≡ pair ∷ []
one_pair pairs pair [] is one = is
one_pair pairs pair (other ∷ rest) is one = let count = ap length is in absurd (omega arith)

-- a writer before all pairs
pub stands_first : (time : TimeCode) (w : SccWriter) → StandsFirst time w → standing_of w ≡ first_standing time
stands_first time w (start, drop_frame, none) = rw (sym (number_is time w.start start), drop_frame, none) refl

-- a frame has no more pairs than triplets
one_or_none : (test : Bool) (pair : Pair) → length (if test then pair ∷ [] else []) ≤ 1
one_or_none true pair = omega arith
one_or_none false pair = omega arith

few_pairs : (ts : List Triplet) → length (field_pairs One ts) ≤ length ts
few_pairs [] = omega arith
few_pairs (t ∷ ts) =
    let one = one_or_none (t.valid && (t.kind == 0)) (record { a = t.a; b = t.b }) in
    let more = few_pairs ts in
    let sum = length-append (field_pair One t) (field_pairs One ts) in omega arith

pub pairs_counted : (frame : Frame) (pairs most least : ℕ) → pairs ≡ length (pairs_of frame) → most ≡ length (packet_triplets frame) → least ≡ min pairs most
    → least ≡ length (pairs_of frame)
pairs_counted frame pairs most least is many chosen =
    let few = few_pairs (packet_triplets frame) in omega arith

-- the first of at most one pair
pub first_pair : (frame : Frame) (pair : Pair) → HasNoFinding frame → slice_get (pairs_of frame) 0 ≡ Some pair → pairs_of frame ≡ pair ∷ []
first_pair frame pair none first = by_cases (pairs_of frame) none.one first
  where
    by_cases : (pairs : List Pair) → length pairs ≤ 1 → slice_get pairs 0 ≡ Some pair → pairs ≡ pair ∷ []
    by_cases [] one is = cc
    by_cases (other ∷ []) one is = cc
    by_cases (other ∷ next ∷ rest) one is = absurd (omega arith)

pub no_pair : (frame : Frame) → slice_get (pairs_of frame) 0 ≡ None → pairs_of frame ≡ []
no_pair frame none = by_cases (pairs_of frame) none
  where
    by_cases : (pairs : List Pair) → slice_get pairs 0 ≡ None → pairs ≡ []
    by_cases [] is = refl
    by_cases (other ∷ rest) is = cc
