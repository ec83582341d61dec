-- The words of an SCC file's pairs, frame by frame.
use Rattle.std.proofs.Common.{◌==◌, if◌then◌else◌, Bool, IfOk, Some, None, length, ◌≡◌, ◌≢◌, ◌∙◌, ◌+◌, ◌-◌, ◌<◌, ◌≤◌, ◌++◌, add-one, ap, append-nil, append_assoc, arith, refl, subst, suc, sym, ℕ, List, [], ◌∷◌, Option, Ok, Err, Result, false, true}
use Rattle.std.specs.Prelude.{IfSome, nat_eq}
use Rattle.cc_base.specs.declared.limit_of.LimitOf.TheVariants as limit
use Rattle.cc_base.specs.Streams.{Puts, whole_limit}
use Rattle.cc_base.specs.declared.rate.Rate.TheVariants as rate
use Rattle.cc_base.specs.declared.streams.Put.{Put}
use Rattle.cc_base.specs.declared.streams.Put.TheVariants as put
use Rattle.text_output.specs.Gathered.{Flushes, Gathers, IsGathered}
use Rattle.words_reading.proofs.WayLemmas.{all_put, way_flushed, way_unwritten}
use Rattle.line21_codes.specs.declared.channels.FieldNumber.TheVariants.{One, Two}
use Rattle.line21_codes.specs.declared.pairs.Pair.{Pair}
use Rattle.line21_codes.specs.NullPairs.{null_pair}
use Rattle.frame_carrier.specs.FrameBytes.{FrameBytes}
use Rattle.frame_carrier.proofs.CarriedLemmas.{frames_carried}
use Rattle.frame_carrier.proofs.CarryingLemmas.{quiet_bytes, quiet_roomy}
use Rattle.frame_carrier.specs.Carried.{AreBytePairs, AreCarried, IsBytePair}
use Rattle.frame_carrier.specs.Carrying.{IsAt, channel_packet, column_bytes, frame_bytes, packet_count}
use Rattle.frame_carrier.specs.declared.carrier.Carrier.{Carrier}
use Rattle.scc_files.specs.Reading.{frames_of, frames_to}
use Rattle.scc_files.proofs.Rising.{file_bytes, file_rises}
use Rattle.scc_files.specs.Offences.{FileAnswers}
use Rattle.scc_files.specs.SccFiles.{AreBytes, AreRising}
use Rattle.scc_files.specs.declared.fault.SccFault.{SccFault}
use Rattle.scc_files.specs.declared.fault.SccFault.TheVariants as fault
use Rattle.command_base.proofs.WholeInputLemmas.{AreRefusals}
use Rattle.command_base.proofs.MadeLemmas.{PutsMade}
use Rattle.command_base.specs.WholeInput.{JudgesInput}
use Rattle.command_base.specs.declared.status.Status.{Status}
use Rattle.command_base.specs.declared.status.Status.TheVariants as status
use Rattle.scc_commands.specs.Cursors.{Passes}
use Rattle.scc_commands.specs.Import.{IsImport, IsRefusedImport, PlacedPairs, ReadsImport, import_columns, import_words, pair_at}
use Rattle.scc_commands.specs.ImportSteps.{ArePlaced, fault_status, frame_with}
use Rattle.scc_commands.proofs.WrittenLemmas.{gathered_failed, gathered_more}

-- numbers that aren't equal
pub other_number : (n m : ℕ) → n ≢ m → nat_eq n m ≡ false
other_number n m other = grind arith

-- no pair stands before the first of pairs
pub none_before : (pairs : PlacedPairs) (low frame : ℕ) → AreRising low pairs → frame < low → pair_at pairs frame ≡ null_pair
none_before [] low frame rising before = refl
none_before (placed ∷ pairs) low frame (from, rising) before =
    rw (other_number placed.0 frame (λ same. omega arith)) (none_before pairs (placed.0 + 1) frame rising (omega arith))

-- pairs that rise from a frame do from an earlier one
from_earlier : (pairs : PlacedPairs) (low lower : ℕ) → AreRising low pairs → lower ≤ low → AreRising lower pairs
from_earlier [] low lower rising earlier = tt
from_earlier (placed ∷ pairs) low lower (from, rising) earlier = (omega arith, rising)

-- the first pair stands at the frame that is passed
pub passes_pair : (frame : ℕ) (left : PlacedPairs) (placed : ℕ × Pair) (rest : PlacedPairs) → AreRising frame left → left ≡ placed ∷ rest → placed.0 ≡ frame
    → Passes frame left rest placed.1
passes_pair frame left placed rest rising is at =
    let (from, more) = subst (AreRising frame) is rising in
    record {
      pair_is = rw (is, at, nat_eq-refl frame) refl;
      rising = subst (λ f. AreRising (f + 1) rest) at more;
      later = λ other after. rw (is, other_number placed.0 other (λ same. omega arith)) refl;
    }
  where
    nat_eq-refl : (n : ℕ) → nat_eq n n ≡ true
    nat_eq-refl n = grind arith

-- there is none
pub passes_end : (frame : ℕ) (left : PlacedPairs) → length left ≡ 0 → Passes frame left left null_pair
passes_end frame [] none = record { pair_is = refl; rising = tt; later = λ f after. refl }
passes_end frame (placed ∷ left) none = absurd (omega arith)

-- or it doesn't, and then none does
pub passes_none : (frame : ℕ) (left : PlacedPairs) (placed : ℕ × Pair) (rest : PlacedPairs) → AreRising frame left → left ≡ placed ∷ rest → placed.0 ≢ frame
    → Passes frame left left null_pair
passes_none frame left placed rest rising is apart =
    let (from, more) = subst (AreRising frame) is rising in
    let behind : frame < placed.0 = omega (arith, from, apart) in
    let null : pair_at (placed ∷ rest) frame ≡ null_pair = none_before (placed ∷ rest) placed.0 frame (omega arith, more) behind in
    let fits : AreRising (frame + 1) (placed ∷ rest) = (omega arith, more) in
    record {
      pair_is = sym (ap (λ l. pair_at l frame) is ∙ null);
      rising = subst (AreRising (frame + 1)) (sym is) fits;
      later = λ f after. refl;
    }

-- the frames of pairs end after the last one
pub frames_behind : (pairs : PlacedPairs) (n : ℕ) (last : ℕ × Pair) → frames_to n (pairs ++ last ∷ []) ≡ last.0 + 1
frames_behind [] n last = refl
frames_behind (placed ∷ pairs) n last = frames_behind pairs (placed.0 + 1) last

-- the words of pairs are on their way: the words of the frames before this one were gathered
pub record WordsOnTheWay (pairs left : PlacedPairs) (frame frames : ℕ) (carrier : Carrier) (held : List ℕ) (old new : Option (List ℕ)) : Type 0 where
  pub at_frame : IsAt rate.F2997 frame 0 carrier
  pub rising : AreRising frame left
  pub same : (other : ℕ) → frame ≤ other → pair_at left other ≡ pair_at pairs other
  pub words : List ℕ
  pub way : IsGathered old new held words
  pub whole : words ++ column_bytes rate.F2997 (import_columns pairs) frame (frames - frame) ≡ import_words pairs

-- a frame of an import has no service blocks, so no channel packet
pub quiet_words : (frame : ℕ) (bytes : FrameBytes) (pair : Pair) (words : List ℕ) → bytes ≡ frame_with pair
    → words ≡ frame_bytes rate.F2997 frame bytes (channel_packet 0 bytes.blocks.items) → words ≡ frame_bytes rate.F2997 frame bytes []
quiet_words frame bytes pair words is words_are =
    words_are ∙ ap (λ blocks. frame_bytes rate.F2997 frame bytes (channel_packet 0 blocks)) (ap (λ (b : FrameBytes). b.blocks.items) is)

pub quiet_next : (frame : ℕ) (bytes : FrameBytes) (pair : Pair) (moved : Carrier) → bytes ≡ frame_with pair
    → IsAt rate.F2997 (frame + 1) (0 + packet_count bytes.blocks.items) moved → IsAt rate.F2997 (frame + 1) 0 moved
quiet_next frame bytes pair moved is at = subst (λ blocks. IsAt rate.F2997 (frame + 1) (0 + packet_count blocks) moved) (ap (λ (b : FrameBytes). b.blocks.items) is) at

-- the words of a frame are the first of those that are left
first_words : (pairs left now : PlacedPairs) (frame frames : ℕ) (carrier : Carrier) (held : List ℕ) (old new : Option (List ℕ)) (pair : Pair) (bytes : FrameBytes)
    (words : List ℕ) → WordsOnTheWay pairs left frame frames carrier held old new → Passes frame left now pair → bytes ≡ frame_with pair → frame < frames
    → words ≡ frame_bytes rate.F2997 frame bytes []
    → column_bytes rate.F2997 (import_columns pairs) frame (frames - frame)
    ≡ words ++ column_bytes rate.F2997 (import_columns pairs) (frame + 1) (frames - (frame + 1))
first_words pairs left now frame frames carrier held old new pair bytes words on passes bytes_are below words_are =
    let next : frames - frame ≡ suc (frames - (frame + 1)) = omega arith in
    let pair_is : pair ≡ pair_at pairs frame = passes.pair_is ∙ on.same frame (omega arith) in
    let columns_are : import_columns pairs frame ≡ bytes = sym (bytes_are ∙ ap frame_with pair_is) in
    ap (column_bytes rate.F2997 (import_columns pairs) frame) next
    ∙ ap (λ (b : FrameBytes). frame_bytes rate.F2997 frame b [] ++ column_bytes rate.F2997 (import_columns pairs) (suc frame) (frames - (frame + 1))) columns_are
    ∙ ap (λ w. w ++ column_bytes rate.F2997 (import_columns pairs) (suc frame) (frames - (frame + 1))) (sym words_are)
    ∙ ap (λ f. words ++ column_bytes rate.F2997 (import_columns pairs) f (frames - (frame + 1))) (sym (add-one frame))

-- they were gathered
pub words_added : (pairs left now : PlacedPairs) (frame frames : ℕ) (carrier moved : Carrier) (held kept : List ℕ) (old new after : Option (List ℕ)) (pair : Pair)
    (bytes : FrameBytes) (words : List ℕ) → WordsOnTheWay pairs left frame frames carrier held old new → Passes frame left now pair
    → bytes ≡ frame_with pair → frame < frames → words ≡ frame_bytes rate.F2997 frame bytes [] → IsAt rate.F2997 (frame + 1) 0 moved
    → Gathers new after held kept put.Done words → WordsOnTheWay pairs now (frame + 1) frames moved kept old after
words_added pairs left now frame frames carrier moved held kept old new after pair bytes words on passes bytes_are below words_are at gathers =
    let first = first_words pairs left now frame frames carrier held old new pair bytes words on passes bytes_are below words_are in
    record {
      at_frame = at;
      rising = passes.rising;
      same = λ other from. passes.later other (omega arith) ∙ on.same other (omega arith);
      words = on.words ++ words;
      way = gathered_more old new after held kept words on.words on.way gathers;
      whole = append_assoc on.words words (column_bytes rate.F2997 (import_columns pairs) (frame + 1) (frames - (frame + 1)))
          ∙ ap (λ l. on.words ++ l) (sym first) ∙ on.whole;
    }

-- a put of those before failed
pub words_failed : (pairs left : PlacedPairs) (frame frames : ℕ) (carrier : Carrier) (held : List ℕ) (old new after : Option (List ℕ))
    → WordsOnTheWay pairs left frame frames carrier held old new → Puts new after put.Failed held → Puts old after put.Failed (import_words pairs)
words_failed pairs left frame frames carrier held old new after on failed =
    subst (Puts old after put.Failed) on.whole
    (gathered_failed old new after held (column_bytes rate.F2997 (import_columns pairs) frame (frames - frame)) on.words on.way failed)

-- all were gathered
words_ended : (pairs left : PlacedPairs) (frame frames : ℕ) (carrier : Carrier) (held : List ℕ) (old new : Option (List ℕ))
    → WordsOnTheWay pairs left frame frames carrier held old new → frames ≤ frame → IsGathered old new held (import_words pairs)
words_ended pairs left frame frames carrier held old new on ended =
    let none : frames - frame ≡ 0 = omega arith in
    let whole : on.words ≡ import_words pairs =
    sym (append-nil on.words) ∙ sym (ap (λ n. on.words ++ column_bytes rate.F2997 (import_columns pairs) frame n) none) ∙ on.whole in
    subst (IsGathered old new held) whole on.way

-- what is held of them is put, or that fails
flushed : (old new after : Option (List ℕ)) (held kept all : List ℕ) (answer : Put) → IsGathered old new held all → Flushes new after held kept answer
    → Puts old after answer all
flushed old new after held kept all put.Done way (next, none) = all_put old after [] all (way_flushed old new after held all way next) refl
flushed old new after held kept all put.Failed way failed = way_unwritten old new after held all way failed

pub words_flushed : (pairs left : PlacedPairs) (frame frames : ℕ) (carrier : Carrier) (held kept : List ℕ) (old new after : Option (List ℕ)) (answer : Put)
    → WordsOnTheWay pairs left frame frames carrier held old new → frames ≤ frame → Flushes new after held kept answer
    → Puts old after answer (import_words pairs)
words_flushed pairs left frame frames carrier held kept old new after answer on ended flushes =
    flushed old new after held kept (import_words pairs) answer (words_ended pairs left frame frames carrier held old new on ended) flushes

-- the refusals of an import are refusals
pub import_refusals : (opening : Option ℕ) → AreRefusals (IsRefusedImport opening)
import_refusals opening bytes status.Ok refused = absurd refused
import_refusals opening bytes status.Usage refused = absurd refused
import_refusals opening bytes status.ReadFault refused = absurd refused
import_refusals opening bytes status.WriteFault refused = absurd refused
import_refusals opening bytes _ refused = tt

-- a file that isn't read is refused so
pub fault_refused : (opening : Option ℕ) (bytes : List ℕ) (f : SccFault) → length bytes ≤ whole_limit → FileAnswers opening bytes (Err f)
    → JudgesInput (IsImport opening) (IsRefusedImport opening) bytes (Err (fault_status f))
fault_refused opening bytes (fault.Memory error) within answers = tt
fault_refused opening bytes (fault.Limit limit.Bytes) within answers = absurd answers
fault_refused opening bytes (fault.Limit limit.Frames) within answers = (within, answers)
fault_refused opening bytes (fault.Limit limit.Cues) within answers = absurd answers
fault_refused opening bytes (fault.Limit limit.Packet) within answers = absurd answers
fault_refused opening bytes (fault.Limit limit.Day) within answers = absurd answers
fault_refused opening bytes (fault.Malformed refusal) within answers = (within, answers.0)

-- where frame 0 stands alike, an input is read alike
pub reads_alike : (one other : Option ℕ) (old new : Option (List ℕ)) (before now : ℕ) (r : Result PlacedPairs Status) → one ≡ other
    → ReadsImport one old new before now r → ReadsImport other old new before now r
reads_alike one other old new before now r same reads = subst (λ (o : Option ℕ). ReadsImport o old new before now r) same reads

-- one that is read stands at frames of the day in order
pub placed_read : (opening : Option ℕ) (bytes : List ℕ) (r : Result PlacedPairs Status) → JudgesInput (IsImport opening) (IsRefusedImport opening) bytes r → IfOk r ArePlaced
placed_read opening bytes (Ok pairs) is = record { rising = file_rises opening pairs bytes is.file; few = is.few }
placed_read opening bytes (Err s) is = tt

-- all pairs of columns are bytes
pair_bytes : (pairs : PlacedPairs) (frame : ℕ) → AreBytes pairs → IsBytePair (pair_at pairs frame)
pair_bytes [] frame are = record { a = omega arith; b = omega arith }
pair_bytes (placed ∷ pairs) frame (a, b, are) = chosen (placed.0 == frame) placed.1 (pair_at pairs frame) (record { a = a; b = b }) (pair_bytes pairs frame are)
  where
    chosen : (test : Bool) (one other : Pair) → IsBytePair one → IsBytePair other → IsBytePair (if test then one else other)
    chosen true one other is isnt = is
    chosen false one other is isnt = isnt

pub columns_bytes : (pairs : PlacedPairs) → AreBytes pairs → AreBytePairs (import_columns pairs)
columns_bytes pairs are One frame = pair_bytes pairs frame are
columns_bytes pairs are Two frame = record { a = omega arith; b = omega arith }

-- the words of these pairs are a words file whose frames carry just the pairs
abbrev pub IsCarriedImport : PlacedPairs → Type 0
IsCarriedImport pairs = AreCarried rate.F2997 (import_columns pairs) (frames_of pairs)

-- the words of a file within the limits carry just its pairs
pub carried_import : (opening : Option ℕ) (bytes : List ℕ) (pairs : PlacedPairs) → IsImport opening bytes pairs → IsCarriedImport pairs
carried_import opening bytes pairs is =
    frames_carried rate.F2997 (import_columns pairs) (frames_of pairs) (columns_bytes pairs (file_bytes opening pairs bytes is.file))
    (quiet_bytes (import_columns pairs) (λ frame. refl)) (quiet_roomy rate.F2997 (import_columns pairs) (λ frame. refl))

-- they were put, or a front of them
pub import_put : (opening : Option ℕ) (answer : Put) (left old new : Option (List ℕ)) (pairs : PlacedPairs) → IfSome left (λ bytes. IsImport opening bytes pairs) → Puts old new answer (import_words pairs)
    → IfSome left (λ bytes. PutsMade (IsImport opening) import_words IsCarriedImport answer bytes old new)
import_put opening answer None old new pairs is puts = tt
import_put opening answer (Some bytes) old new pairs is puts =
    (import_words pairs, (pairs, is, refl, carried_import opening bytes pairs is), puts)

pub frames_are : (pairs rest : PlacedPairs) (last : ℕ × Pair) → pairs ≡ rest ++ last ∷ [] → last.0 + 1 ≡ frames_of pairs
frames_are pairs rest last is = sym (ap frames_of is ∙ frames_behind rest 0 last)

pub no_frames : (pairs : PlacedPairs) → length pairs ≡ 0 → 0 ≡ frames_of pairs
no_frames [] none = refl
no_frames (placed ∷ pairs) none = absurd (omega arith)
