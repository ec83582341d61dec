-- What a packet sends can be written, and its pairs stand in the next free slots.
use Rattle.std.proofs.Common.{◌≡◌, ℕ, suc, ◌<◌, ◌≤◌, nat_le, Bool, true, false, List, [], ◌∷◌, ◌++◌, Some, None, refl, sym, ap, ◌∙◌, arith, inr}
use Rattle.std.specs.Prelude.{if◌then◌else◌, not}
use Rattle.std.specs.List.{All}
use Rattle.line21_codes.specs.declared.codes.Code.{Code}
use Rattle.line21_codes.specs.declared.codes.Code.TheVariants.{Xds}
use Rattle.xds_packets.specs.declared.packets.XdsPacket.{XdsPacket}
use Rattle.xds_packets.specs.PacketCodes.{AreWritable, PacketsCanBeWritten, checksum, continue_code, data_codes, rest_codes, start_code}
use Rattle.xds_packets.specs.Sending.{Given, Listed, Unsent, begun_at, given_in, sent_on, writing_at}
use Rattle.xds_packets.specs.Places.{PairsStandInTheNextFreeSlots}
use Rattle.line21_codes.specs.Writable.{IsWritable}

-- after a slot that is free a packet that is under way isn't broken
whole_begun : (frame : ℕ) (s : Unsent) (left : List Listed) (code : Code) (codes : List Code) → s.codes ≡ [] → (begun_at frame s left).next.codes ≡ code ∷ codes → (begun_at frame s left).next.broken ≡ false
whole_begun frame s [] code codes none is = let wrong : [] ≡ code ∷ codes = sym none ∙ is in absurd (cc)
whole_begun frame s (l ∷ left) code codes none is = by_frame (nat_le l.from frame) is
  where
    the : Bool → Given
    the b = if b then record { next = record { left = left; cont = continue_code l.packet; codes = rest_codes l.packet l.packet.text; broken = false }; code = Some (start_code l.packet) } else record { next = s; code = None }

    by_frame : (b : Bool) → (the b).next.codes ≡ code ∷ codes → (the b).next.broken ≡ false
    by_frame true at = refl
    by_frame false at = let wrong : [] ≡ code ∷ codes = sym none ∙ at in absurd (cc)

whole_on : (b : Bool) (frame : ℕ) (s : Unsent) (sent : List Code) (code : Code) (codes : List Code) → s.broken ≡ b → s.codes ≡ sent → (sent_on b frame s sent).next.codes ≡ code ∷ codes → (sent_on b frame s sent).next.broken ≡ false
whole_on true frame s [] code codes is at on = whole_begun frame s s.left code codes at on
whole_on false frame s [] code codes is at on = whole_begun frame s s.left code codes at on
whole_on true frame s (c ∷ cs) code codes is at on = refl
whole_on false frame s (c ∷ cs) code codes is at on = is

broken_behind : (b : Bool) (frame : ℕ) (s : Unsent) (code : Code) (codes : List Code) → (given_in b frame s).next.codes ≡ code ∷ codes → (given_in b frame s).next.broken ≡ not b
broken_behind true frame s code codes on = whole_on s.broken frame s s.codes code codes refl refl on
broken_behind false frame s code codes on = refl

given_behind : (b was : Bool) (frame : ℕ) (s : Unsent) (code : Code) (codes : List Code) → s.codes ≡ code ∷ codes → s.broken ≡ not was
    → (given_in b frame s).code ≡ (if b then Some (if was then code else s.cont) else None)
given_behind false was frame s code codes at is = refl
given_behind true true frame s code codes at is = ap (λ b. (sent_on b frame s s.codes).code) is ∙ ap (λ cs. (sent_on false frame s cs).code) at
given_behind true false frame s code codes at is = ap (λ b. (sent_on b frame s s.codes).code) is ∙ ap (λ cs. (sent_on true frame s cs).code) at

pub pairs_stand_in_the_next_free_slots : PairsStandInTheNextFreeSlots
pairs_stand_in_the_next_free_slots free frame_of listed n code codes at =
    given_behind (free (suc n)) (free n) (frame_of (suc n)) (writing_at free frame_of listed (suc n)) code codes at
    (broken_behind (free n) (frame_of n) (writing_at free frame_of listed n) code codes at)

texts_writable : (text : List ℕ) (end : Code) → All (λ byte. (0x20 ≤ byte) × (byte ≤ 0x7E)) text → IsWritable end → AreWritable (data_codes text ++ end ∷ [])
texts_writable [] end all is = (is, tt)
texts_writable (a ∷ []) end all is = let first = all 0 a (omega arith) in ((omega (arith, first.1), omega arith, inr first.0), (is, tt))
texts_writable (a ∷ (b ∷ text)) end all is =
    let first = all 0 a (omega arith) in
    let second = all 1 b (omega arith) in
    ((omega (arith, first.1), omega (arith, second.1), inr first.0), texts_writable text end (λ k d low. all (suc (suc k)) d (omega (arith, low))) is)

check_below : (packet : XdsPacket) → checksum packet < 128
check_below packet = omega arith

pub packets_can_be_written : PacketsCanBeWritten
packets_can_be_written packet is = (
  (omega (arith, is.class_from), omega (arith, is.class_to), is.kind_to),
  (
    (omega (arith, is.class_from), omega (arith, is.class_to), is.kind_to),
    texts_writable packet.text (Xds 0x0F (checksum packet)) is.bytes (omega arith, omega arith, check_below packet),
  ),
)
