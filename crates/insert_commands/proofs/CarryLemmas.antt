-- Frames that can carry the captions of a list: an insertion stops at none of them.
use Rattle.std.proofs.Common.{◌≡◌, ◌∙◌, ◌≤◌, ◌++◌, ◌∷◌, ap, append_assoc, arith, length, length-append, refl, subst, sym, ℕ, List, []}
use Rattle.std.proofs.lemmas.List.Elements.{All-head, All-tail}
use Rattle.std.specs.List.{All}
use Rattle.cc_data.specs.declared.triplet.Triplet.{Triplet}
use Rattle.cdp_packets.specs.Packets.{Frame}
use Rattle.packet_inserter.proofs.OneWayLemmas.{inserted_once}
use Rattle.packet_inserter.specs.Insertion.{IsInserted, packet_length}
use Rattle.cue_list_commands.specs.Framing.{Framing}
use Rattle.insert_commands.specs.Captions.{captions_of}
use Rattle.insert_commands.specs.InsertedFile.{AreInserted}
use Rattle.insert_commands.specs.InsertedFile.AreInserted.{nothing, foreign as copied, caption as replaced}
use Rattle.words_files.proofs.FrontLemmas.{TwoFronts, before_it, behind_it, same, two_fronts}
use Rattle.insert_commands.specs.InsertVerdict.{IsHalt}
use Rattle.insert_commands.specs.CanCarry.{CanCarry}
use Rattle.insert_commands.specs.declared.inserting.Halt.{Halt}
use Rattle.insert_commands.specs.declared.inserting.Halt.TheVariants as halt

-- each of frames has what all have
frame_has : (P : Frame → Type 0) (front : List Frame) (frame : Frame) (behind : List Frame) → All P (front ++ frame ∷ behind) → P frame
frame_has P [] frame behind all = All-head P frame behind all
frame_has P (f ∷ front) frame behind all = frame_has P front frame behind (All-tail P f (front ++ frame ∷ behind) all)

-- the captions of frames that were inserted fit
fit_in : (captions : ℕ → List Triplet) (frames : List Frame) (file text : List ℕ) → AreInserted captions frames file text → (earlier behind : List Frame) (old new : Frame)
    → frames ≡ earlier ++ old ∷ behind → IsInserted (captions (length earlier)) old new → packet_length new ≤ 255
fit_in _ _ _ _ (nothing captions) earlier behind old new is inserted = absurd (omega (arith, ap length is, length-append earlier (old ∷ behind)))
fit_in _ _ _ _ (copied captions frames file text bytes whole out before foreign whole_is out_is) earlier behind old new is inserted =
    fit_in captions frames file text before earlier behind old new is inserted
fit_in _ _ _ _ (replaced captions frames more last put_frame file text bytes whole out before brings put_is fits more_is whole_is out_is) earlier behind old new is inserted =
    by_fronts (λ rest longer. fit_in captions frames file text before earlier rest old new longer inserted)
    (two_fronts frames (last ∷ []) earlier behind old (sym more_is ∙ is ∙ sym (append_assoc earlier (old ∷ []) behind)))
  where
    by_fronts : ((rest : List Frame) → frames ≡ earlier ++ old ∷ rest → packet_length new ≤ 255) → TwoFronts frames (last ∷ []) earlier old → packet_length new ≤ 255
    by_fronts sooner (behind_it rest longer) = sooner rest (longer ∙ append_assoc earlier (old ∷ []) rest)
    by_fronts sooner (same fronts rest left) =
        let end : old ≡ last = cc in
        let own = subst (λ f. IsInserted (captions (length frames)) f new) end (subst (λ e. IsInserted (captions (length e)) old new) (sym fronts) inserted) in
        subst (λ f. packet_length f ≤ 255) (inserted_once (captions (length frames)) last put_frame new put_is own) fits
    by_fronts sooner (before_it item rest left longer left_is) =
        let all = sym (ap length more_is ∙ length-append frames (last ∷ [])) ∙ ap length is ∙ length-append earlier (old ∷ behind) in
        let size = ap length longer ∙ length-append (frames ++ item ∷ []) rest in
        let front = length-append frames (item ∷ []) in
        absurd (omega arith)

-- so an insertion stops at none of them
pub carry_so : (list : Framing) (frames : List Frame) (file text : List ℕ) → AreInserted (captions_of list) frames file text → All (λ f. f.rate ≡ list.rate) frames → CanCarry list frames
carry_so list frames file text inserted rates =
    record { rates = rates; fit = λ earlier behind old new is put_is. fit_in (captions_of list) frames file text inserted earlier behind old new is put_is }

pub never_halts : (list : Framing) (frames earlier behind : List Frame) (last : Frame) (why : Halt) → CanCarry list frames → frames ≡ earlier ++ last ∷ behind
    → IsHalt list why earlier last → ⊥
never_halts list frames earlier behind last (halt.Found finding) can is stops =
    stops.0 (frame_has (λ f. f.rate ≡ list.rate) earlier last behind (subst (All (λ f. f.rate ≡ list.rate)) is can.rates))
never_halts list frames earlier behind last halt.Packet can is (rate, (new, inserted, long)) =
    let fits = can.fit earlier behind last new is inserted in
    absurd (omega (arith, fits, long))

-- for one reason at one frame
pub one_reason : (list : Framing) (frames : List Frame) (last : Frame) (one other : Halt) → IsHalt list one frames last → IsHalt list other frames last → one ≡ other
one_reason list frames last (halt.Found a) (halt.Found b) first second = ap halt.Found (first.1 ∙ sym second.1)
one_reason list frames last (halt.Found a) halt.Packet first second = absurd (first.0 second.0)
one_reason list frames last halt.Packet (halt.Found b) first second = absurd (second.0 first.0)
one_reason list frames last halt.Packet halt.Packet first second = refl
