-- Packets that are laid over frames.
use Rattle.std.proofs.Common.{◌≡◌, ◌∙◌, ℕ, suc, ◌+◌, Bool, true, false, Option, Some, None, option_map, unwrap_or, refl, sym, ap, subst, arith}
use Rattle.std.specs.Prelude.{if◌then◌else◌}
use Rattle.std.specs.Option.{option_map_or}
use Rattle.line21_codes.specs.Writing.{pair_of_code}
use Rattle.line21_codes.specs.declared.channels.FieldNumber.TheVariants.{Two}
use Rattle.line21_codes.specs.declared.codes.Code.{Code}
use Rattle.line21_codes.specs.declared.pairs.Pair.{Pair}
use Rattle.cue_lists.proofs.CadenceLemmas.{own_frame, slot_more, slot_no_more}
use Rattle.cue_lists.specs.Cadences.{has_slot_in, slot_frame, slot_from, slot_in}
use Rattle.cue_lists.specs.Cadence.{Cadence}
use Rattle.cue_lists.specs.Cadence.TheVariants.{EveryFrame, EvenFrames, OddFrames}
use Rattle.frame_carrier.specs.Columns.{Columns}
use Rattle.frame_carrier.specs.FrameBytes.{FrameBytes}
use Rattle.xds_frames.specs.Loads.{StandsAt}
use Rattle.xds_frames.specs.Packets.{IsLaying, Laying, LaysPackets, free_at, is_free, laid_frame, laid_pair}
use Rattle.xds_frames.specs.declared.packets.Packets.{Packets}
use Rattle.xds_lists.specs.Writer.{IsBehind}
use Rattle.xds_lists.specs.declared.writer.XdsWriter.{XdsWriter}
use Rattle.xds_packets.specs.Places.{given_at}

-- the pair of a slot, where the packets give a code
pub laid_is : (given : Option Code) (pair : Pair) (sent : Option Pair) → sent ≡ option_map (pair_of_code Two) given → unwrap_or sent pair ≡ option_map_or (pair_of_code Two) given pair
laid_is None pair sent is = ap (λ o. unwrap_or o pair) is
laid_is (Some code) pair sent is = ap (λ o. unwrap_or o pair) is

-- whether a frame has a slot
by_slot : (c : Cadence) (frame : ℕ) (P : Type 0) → ((n : ℕ) → slot_in c frame ≡ Some n → slot_from c frame ≡ n → slot_frame c n ≡ frame → slot_from c (frame + 1) ≡ suc n → P)
    → (slot_in c frame ≡ None → slot_from c (frame + 1) ≡ slot_from c frame → P) → P
by_slot c frame P some none = by_test (has_slot_in c frame) refl
  where
    next : frame + 1 ≡ suc frame
    next = omega arith

    by_test : (b : Bool) → has_slot_in c frame ≡ b → P
    by_test true has =
        some (slot_from c frame) (ap (λ b. if b then Some (slot_from c frame) else None) has) refl (own_frame c frame has) (ap (slot_from c) next ∙ slot_more c frame has)
    by_test false has = none (ap (λ b. if b then Some (slot_from c frame) else None) has) (ap (slot_from c) next ∙ slot_no_more c frame has)

-- a frame with a slot
pub record LaysOn (laying : Laying) (frame : ℕ) (pair : Pair) (result : Pair) (writer : XdsWriter) : Type 0 where
  pub two : Some result ≡ option_map (laid_pair laying) (slot_in laying.cadence frame)
  pub writer_at : IsBehind (free_at laying) (slot_frame laying.cadence) laying.listed (slot_from laying.cadence (frame + 1)) writer

pub lays_slot : (laying : Laying) (frame : ℕ) (old : Packets) (pair result : Pair) (writer : XdsWriter) → IsLaying laying frame old → Some pair ≡ option_map laying.pairs (slot_in laying.cadence frame)
    → ((n : ℕ) → IsBehind (free_at laying) (slot_frame laying.cadence) laying.listed n old.writer → free_at laying n ≡ is_free laying.cues frame pair → slot_frame laying.cadence n ≡ frame
    → (result ≡ option_map_or (pair_of_code Two) (given_at (free_at laying) (slot_frame laying.cadence) laying.listed n) pair) × IsBehind (free_at laying) (slot_frame laying.cadence) laying.listed (suc n) writer)
    → LaysOn laying frame pair result writer
lays_slot laying frame old pair result writer is pairs sends = by_slot laying.cadence frame (LaysOn laying frame pair result writer)
    (λ n slot from own next.
    let both : Some pair ≡ Some (laying.pairs n) = pairs ∙ ap (option_map laying.pairs) slot in
    let same : pair ≡ laying.pairs n = cc in
    let free : free_at laying n ≡ is_free laying.cues frame pair =
    ap (λ f. is_free laying.cues f (laying.pairs n)) own ∙ ap (is_free laying.cues frame) (sym same) in
    let sent = sends n (subst (λ m. IsBehind (free_at laying) (slot_frame laying.cadence) laying.listed m old.writer) from is.writer_at) free own in
    record {
      two = ap (λ p. Some p) (sent.0 ∙ ap (option_map_or (pair_of_code Two) (given_at (free_at laying) (slot_frame laying.cadence) laying.listed n)) same) ∙ sym (ap (option_map (laid_pair laying)) slot);
      writer_at = subst (λ m. IsBehind (free_at laying) (slot_frame laying.cadence) laying.listed m writer) (sym next) sent.1;
    })
    (λ slot next. let wrong : Some pair ≡ None = pairs ∙ ap (option_map laying.pairs) slot in absurd (cc))

-- a frame without one
pub record PassesOn (laying : Laying) (frame : ℕ) (writer : XdsWriter) : Type 0 where
  pub two : None ≡ option_map (laid_pair laying) (slot_in laying.cadence frame)
  pub writer_at : IsBehind (free_at laying) (slot_frame laying.cadence) laying.listed (slot_from laying.cadence (frame + 1)) writer

pub passes_on : (laying : Laying) (frame : ℕ) (old : Packets) → IsLaying laying frame old → None ≡ option_map laying.pairs (slot_in laying.cadence frame) → PassesOn laying frame old.writer
passes_on laying frame old is pairs = by_slot laying.cadence frame (PassesOn laying frame old.writer)
    (λ n slot from own next. let wrong : None ≡ Some (laying.pairs n) = pairs ∙ ap (option_map laying.pairs) slot in absurd (cc))
    (λ slot next. record {
      two = sym (ap (option_map (laid_pair laying)) slot);
      writer_at = subst (λ m. IsBehind (free_at laying) (slot_frame laying.cadence) laying.listed m old.writer) (sym next) is.writer_at;
    })

-- what the packets make of their own next frame they make of the one before which they stand
pub lays_at : (laying : Laying) (old new : Packets) (bytes result : FrameBytes)
    → (IsLaying laying old.frame old → bytes.two ≡ option_map laying.pairs (slot_in laying.cadence old.frame)
    → (result ≡ laid_frame laying old.frame bytes) × IsLaying laying (old.frame + 1) new)
    → (frame : ℕ) → IsLaying laying frame old → bytes.two ≡ option_map laying.pairs (slot_in laying.cadence frame)
    → (result ≡ laid_frame laying frame bytes) × IsLaying laying (frame + 1) new
lays_at laying old new bytes result own frame is =
    subst (λ n. bytes.two ≡ option_map laying.pairs (slot_in laying.cadence n) → (result ≡ laid_frame laying n bytes) × IsLaying laying (n + 1) new) is.frame_is
    (own (subst (λ n. IsLaying laying n old) (sym is.frame_is) is))

-- a frame of the first columns
pub lay_makes : (firsts columns : Columns) (frame : ℕ) (old new : Packets) (bytes result : FrameBytes) → LaysPackets firsts columns frame old → bytes ≡ firsts frame
    → ((laying : Laying) (n : ℕ) → IsLaying laying n old → bytes.two ≡ option_map laying.pairs (slot_in laying.cadence n)
    → (result ≡ laid_frame laying n bytes) × IsLaying laying (n + 1) new)
    → (result ≡ columns frame) × LaysPackets firsts columns (frame + 1) new
lay_makes firsts columns frame old new bytes result is bytes_are lays =
    let two : bytes.two ≡ option_map is.laying.pairs (slot_in is.laying.cadence frame) = ap (λ (b : FrameBytes). b.two) bytes_are ∙ is.pairs_are frame in
    let it = lays is.laying frame is.stands two in (
      it.0 ∙ ap (laid_frame is.laying frame) bytes_are ∙ sym (is.columns_are frame),
      record { laying = is.laying; pairs_are = is.pairs_are; columns_are = is.columns_are; stands = it.1 },
    )

-- packets before frame 0
slot_none : (cadence : Cadence) → slot_from cadence 0 ≡ 0
slot_none EveryFrame = refl
slot_none EvenFrames = refl
slot_none OddFrames = refl

pub lays_anew : (laying : Laying) (packets : Packets) → packets.frame ≡ 0 → StandsAt laying.cues 0 packets.loads
    → IsBehind (free_at laying) (slot_frame laying.cadence) laying.listed 0 packets.writer → IsLaying laying 0 packets
lays_anew laying packets frame loads writer = record {
  frame_is = frame;
  loads_at = loads;
  writer_at = subst (λ n. IsBehind (free_at laying) (slot_frame laying.cadence) laying.listed n packets.writer) (sym (slot_none laying.cadence)) writer;
}
