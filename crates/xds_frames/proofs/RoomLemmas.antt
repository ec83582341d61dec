-- Frames that are laid to their end, to learn which packets have room.
use Rattle.std.proofs.Common.{◌≡◌, ◌∙◌, ℕ, ◌+◌, Option, option_map, sym, ap, subst, arith}
use Rattle.frame_carrier.specs.Columns.{Columns}
use Rattle.frame_carrier.specs.FrameBytes.{FrameBytes}
use Rattle.cue_lists.specs.Cadences.{slot_frame, slot_from, slot_in}
use Rattle.std.specs.Prelude.{length}
use Rattle.xds_frames.specs.Packets.{HasPairs, IsLaying, Laying, free_at}
use Rattle.xds_frames.specs.declared.packets.Packets.{Packets}
use Rattle.xds_packets.proofs.PlacesLemmas.{unfinished_lacks_room}
use Rattle.xds_packets.specs.Places.{LacksRoom}
use Rattle.xds_packets.specs.Sending.{unfinished, writing_at}

-- the frames that are left, and the packets before the next one
pub record AreUnderWay {F : Type 0} (left : F → ℕ) (Gives : Columns → ℕ → F → Type 0) (columns : Columns) (laying : Laying) (first frames : F) (packets : Packets) : Type 0 where
  pub gives : Gives columns packets.frame frames
  pub stands : IsLaying laying packets.frame packets
  pub counted : packets.frame + left frames ≡ left first

pub way_begun : {F : Type 0} (left : F → ℕ) (Gives : Columns → ℕ → F → Type 0) (columns : Columns) (laying : Laying) (first : F) (packets : Packets)
    → Gives columns 0 first → IsLaying laying 0 packets → AreUnderWay left Gives columns laying first first packets
way_begun left Gives columns laying first packets gives is = record {
  gives = subst (λ n. Gives columns n first) (sym is.frame_is) gives;
  stands = subst (λ n. IsLaying laying n packets) (sym is.frame_is) is;
  counted = let zero_now = is.frame_is in omega arith;
}

pub way_on : {F : Type 0} (left : F → ℕ) (Gives : Columns → ℕ → F → Type 0) (columns : Columns) (laying : Laying) (first frames behind : F) (packets more : Packets) (bytes : FrameBytes)
    → HasPairs laying columns → AreUnderWay left Gives columns laying first frames packets → left behind + 1 ≡ left frames
    → ((columns : Columns) (frame : ℕ) → Gives columns frame frames → (bytes ≡ columns frame) × Gives columns (frame + 1) behind)
    → ((laying : Laying) (n : ℕ) → IsLaying laying n packets → bytes.two ≡ option_map laying.pairs (slot_in laying.cadence n) → IsLaying laying (n + 1) more)
    → more.frame ≡ packets.frame + 1 → AreUnderWay left Gives columns laying first behind more
way_on left Gives columns laying first frames behind packets more bytes has way count gives lays next =
    let given = gives columns packets.frame way.gives in
    let two : bytes.two ≡ option_map laying.pairs (slot_in laying.cadence packets.frame) = ap (λ (b : FrameBytes). b.two) given.0 ∙ has packets.frame in
    record {
      gives = subst (λ n. Gives columns n behind) (sym next) given.1;
      stands = subst (λ n. IsLaying laying n more) (sym next) (lays laying packets.frame way.stands two);
      counted = let counted = way.counted in omega arith;
    }

pub way_ended : {F : Type 0} (left : F → ℕ) (Gives : Columns → ℕ → F → Type 0) (columns : Columns) (laying : Laying) (first frames : F) (packets : Packets) (number : Option ℕ)
    → AreUnderWay left Gives columns laying first frames packets → left frames ≡ 0
    → number ≡ unfinished (length laying.listed) (writing_at (free_at laying) (slot_frame laying.cadence) laying.listed (slot_from laying.cadence packets.frame))
    → LacksRoom (free_at laying) (slot_frame laying.cadence) laying.listed (slot_from laying.cadence (left first)) number
way_ended left Gives columns laying first frames packets number way none is =
    let counted = way.counted in
    let all : packets.frame ≡ left first = omega arith in
    subst (λ n. LacksRoom (free_at laying) (slot_frame laying.cadence) laying.listed (slot_from laying.cadence n) number) all
    (subst (LacksRoom (free_at laying) (slot_frame laying.cadence) laying.listed (slot_from laying.cadence packets.frame)) (sym is)
    (unfinished_lacks_room (free_at laying) (slot_frame laying.cadence) laying.listed (slot_from laying.cadence packets.frame)))
