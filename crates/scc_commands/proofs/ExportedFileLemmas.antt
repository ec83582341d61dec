-- The file that `export` puts is an SCC file of just the pairs that were exported.
use Rattle.std.proofs.Common.{◌≡◌, ◌+◌, ◌%◌, ◌<◌, ◌≤◌, ◌++◌, ◌==◌, arith, length, map, refl, suc, subst, ℕ, Bool, List, [], ◌∷◌, None, Some, false, true}
use Rattle.std.specs.Prelude.{◌&&◌}
use Rattle.std.specs.List.{AllByRecursion, concat, flat_map}
use Rattle.anc_words.specs.Packets.{AncillaryPacket, user_bytes}
use Rattle.cc_data.specs.Triplets.{triplets_of}
use Rattle.cc_data.specs.declared.triplet.Triplet.{Triplet}
use Rattle.cdp_packets.specs.PacketTriplets.{packet_triplets, section_triplets}
use Rattle.cdp_packets.specs.Packets.{Frame, IsCdp}
use Rattle.line21_codes.specs.declared.channels.FieldNumber.TheVariants.{One}
use Rattle.line21_codes.specs.declared.pairs.Pair.{Pair}
use Rattle.scc_files.specs.SccFiles.{IsSccFile}
use Rattle.scc_files.specs.Written.{AreWritable, counted, pairs_not_null}
use Rattle.time_codes.specs.Frames.{frame_number}
use Rattle.time_codes.specs.declared.time_code.TimeCode.{TimeCode}
use Rattle.words_files.specs.Frames.{CarryFrames, IsFileOf}
use Rattle.words_files.specs.Received.{field_pair}
use Rattle.scc_files.proofs.RoundTrip.{written_is_file, written_is_placed}
use Rattle.scc_commands.specs.Export.{AreExported, export_file, exported_from, pairs_of}
use Rattle.scc_commands.proofs.WrittenLemmas.{AreWithinDay, HaveNoFinding, at_number}

abbrev AreBytes : List ℕ → Type 0
AreBytes = AllByRecursion (λ (byte : ℕ). byte < 256)

abbrev ArePairs : List Pair → Type 0
ArePairs = AllByRecursion (λ (pair : Pair). (pair.a < 256) × (pair.b < 256))

abbrev AreTriplets : List Triplet → Type 0
AreTriplets = AllByRecursion (λ (t : Triplet). (t.a < 256) × (t.b < 256))

-- parts of lists
all_back : {A : Type 0} (P : A → Type 0) (items more : List A) → AllByRecursion P (items ++ more) → AllByRecursion P more
all_back P [] more all = all
all_back P (item ∷ items) more (one, all) = all_back P items more all

all_front : {A : Type 0} (P : A → Type 0) (items more : List A) → AllByRecursion P (items ++ more) → AllByRecursion P items
all_front P [] more all = tt
all_front P (item ∷ items) more (one, all) = (one, all_front P items more all)

all_both : {A : Type 0} (P : A → Type 0) (items more : List A) → AllByRecursion P items → AllByRecursion P more → AllByRecursion P (items ++ more)
all_both P [] more one other = other
all_both P (item ∷ items) more (one, all) other = (one, all_both P items more all other)

all_mapped : {A B : Type 0} (P : A → Type 0) (Q : B → Type 0) (f : A → List B) → ((item : A) → P item → AllByRecursion Q (f item))
    → (items : List A) → AllByRecursion P items → AllByRecursion Q (flat_map f items)
all_mapped P Q f each [] all = tt
all_mapped P Q f each (item ∷ items) (one, all) = all_both Q (f item) (flat_map f items) (each item one) (all_mapped P Q f each items all)

-- the user bytes of an ancillary packet are bytes, and so are the bytes of the sections of the distribution packet in it
low_bytes : (words : List ℕ) → AreBytes (map (λ word. word % 256) words)
low_bytes [] = tt
low_bytes (word ∷ words) = (omega arith, low_bytes words)

each_section : (sections : List (List ℕ)) → AreBytes (concat sections) → AllByRecursion AreBytes sections
each_section [] are = tt
each_section (section ∷ sections) are = (
  all_front (λ (byte : ℕ). byte < 256) section (concat sections) are,
  each_section sections (all_back (λ (byte : ℕ). byte < 256) section (concat sections) are),
)

sections_are : (frame : Frame) (bytes : List ℕ) → IsCdp frame bytes → AreBytes bytes → AllByRecursion AreBytes frame.sections
sections_are frame bytes cdp are =
    let spelled = subst AreBytes cdp.spelled are in
    each_section frame.sections
    (all_front (λ (byte : ℕ). byte < 256) (concat frame.sections) (0x74 ∷ cdp.high ∷ cdp.low ∷ cdp.last ∷ []) spelled.1.1.1.1.1.1.1)

abbrev HaveBytes : List Frame → Type 0
HaveBytes = AllByRecursion (λ (frame : Frame). AllByRecursion AreBytes frame.sections)

carried_bytes : (packets : List AncillaryPacket) (frames : List Frame) → CarryFrames packets frames → HaveBytes frames
carried_bytes _ _ CarryFrames.none = tt
carried_bytes _ _ (CarryFrames.caption packet packets frame frames captions cdp more) =
    (sections_are frame (user_bytes packet) cdp (low_bytes packet.user), carried_bytes packets frames more)
carried_bytes _ _ (CarryFrames.foreign packet packets frames other more) = carried_bytes packets frames more

-- so the pairs of a frame are bytes
triplets_are : (bytes : List ℕ) → AreBytes bytes → AreTriplets (triplets_of bytes)
triplets_are [] are = tt
triplets_are (first ∷ []) are = tt
triplets_are (first ∷ a ∷ []) are = tt
triplets_are (first ∷ a ∷ b ∷ rest) are = ((are.1.0, are.1.1.0), triplets_are rest are.1.1.1)

section_are : (section : List ℕ) → AreBytes section → AreTriplets (section_triplets section)
section_are [] are = tt
section_are (id ∷ []) are = tt
section_are (id ∷ second ∷ rest) are = by_id (id == 0x72) refl
  where
    by_id : (test : Bool) → (id == 0x72) ≡ test → AreTriplets (section_triplets (id ∷ second ∷ rest))
    by_id true is = rw is (triplets_are rest are.1.1)
    by_id false is = rw is tt

pair_is : (t : Triplet) → (t.a < 256) × (t.b < 256) → ArePairs (field_pair One t)
pair_is t are = by_kind (t.valid && (t.kind == 0)) refl
  where
    by_kind : (test : Bool) → (t.valid && (t.kind == 0)) ≡ test → ArePairs (field_pair One t)
    by_kind true is = rw is (are, tt)
    by_kind false is = rw is tt

pairs_are : (frame : Frame) → AllByRecursion AreBytes frame.sections → ArePairs (pairs_of frame)
pairs_are frame are =
    all_mapped (λ (t : Triplet). (t.a < 256) × (t.b < 256)) (λ (pair : Pair). (pair.a < 256) × (pair.b < 256)) (field_pair One) pair_is (packet_triplets frame)
    (all_mapped AreBytes (λ (t : Triplet). (t.a < 256) × (t.b < 256)) section_triplets section_are frame.sections are)

-- what is exported can be written: the pairs are bytes, one a frame at most, none past the day
more_writable : (start : ℕ) (drop_frame : Bool) (low : ℕ) (pairs : List (ℕ × Pair)) → AreWritable start drop_frame (suc low) pairs → AreWritable start drop_frame low pairs
more_writable start drop_frame low [] are = tt
more_writable start drop_frame low (placed ∷ pairs) (from, a, b, within, rest) = (omega (arith, from), a, b, within, rest)

next_writable : (time : TimeCode) (number : ℕ) (pairs : List Pair) (more : List (ℕ × Pair)) → length pairs ≤ 1 → ArePairs pairs
    → AreWithinDay time (at_number number pairs ++ more)
    → (AreWithinDay time more → AreWritable (frame_number time) time.drop_frame (suc number) more)
    → AreWritable (frame_number time) time.drop_frame number (at_number number pairs ++ more)
next_writable time number [] more few are within rest = more_writable (frame_number time) time.drop_frame number more (rest within)
next_writable time number (pair ∷ []) more few are within rest =
    let next : suc number ≡ number + 1 = omega arith in
    (omega arith, are.0.0, are.0.1, within.0, subst (λ n. AreWritable (frame_number time) time.drop_frame n more) next (rest within.1))
next_writable time number (pair ∷ (other ∷ pairs)) more few are within rest = absurd (omega (arith, few))

exported_writable : (time : TimeCode) (number : ℕ) (frames : List Frame) → HaveBytes frames → HaveNoFinding frames → AreWithinDay time (exported_from number frames)
    → AreWritable (frame_number time) time.drop_frame number (exported_from number frames)
exported_writable time number [] have none within = tt
exported_writable time number (frame ∷ frames) (are, have) (one, none) within =
    next_writable time number (pairs_of frame) (exported_from (suc number) frames) one.one (pairs_are frame are) within
    (λ rest. exported_writable time (suc number) frames have none rest)

pub exported_are_writable : (time : TimeCode) (frames : List Frame) (bytes : List ℕ) → IsFileOf frames bytes → AreExported time frames
    → AreWritable (frame_number time) time.drop_frame 0 (exported_from 0 frames)
exported_are_writable time frames bytes file good =
    exported_writable time 0 frames (carried_bytes file.packets frames file.carried) good.no_finding good.within_day

pub exported_is_file : (time : TimeCode) (frames : List Frame) (bytes : List ℕ) → IsFileOf frames bytes → AreExported time frames
    → IsSccFile None (counted (pairs_not_null (exported_from 0 frames))) (export_file time frames)
exported_is_file time frames bytes file good =
    written_is_file (exported_from 0 frames) (frame_number time) time.drop_frame (exported_are_writable time frames bytes file good)

pub exported_is_placed : (time : TimeCode) (frames : List Frame) (bytes : List ℕ) → IsFileOf frames bytes → AreExported time frames
    → IsSccFile (Some (frame_number time)) (pairs_not_null (exported_from 0 frames)) (export_file time frames)
exported_is_placed time frames bytes file good =
    written_is_placed (exported_from 0 frames) (frame_number time) time.drop_frame (exported_are_writable time frames bytes file good)
