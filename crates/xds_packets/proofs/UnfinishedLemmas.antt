-- The first packet that isn't ended.
use Rattle.std.proofs.Common.{◌≡◌, ℕ, zero, suc, ◌+◌, ◌≤◌, List, [], ◌∷◌, ◌++◌, length, take, refl, sym, ap, ◌∙◌, subst, arith, length-append}
use Rattle.line21_codes.specs.declared.codes.Code.{Code}
use Rattle.xds_packets.specs.declared.packets.XdsPacket.{XdsPacket}
use Rattle.xds_packets.specs.Reading.{packets_behind}
use Rattle.xds_packets.specs.Sending.{Listed, Unsent, codes_to, first_of, packets_left, unended, writing_at}
use Rattle.xds_packets.specs.Carried.{ReadsUpTo, UnfinishedIsFirst}
use Rattle.xds_packets.proofs.SegmentLemmas.{nil_right}
use Rattle.xds_packets.proofs.CarriedLemmas.{packets_are_carried}

length_left : (left : List Listed) → length (packets_left left) ≡ length left
length_left [] = refl
length_left (l ∷ left) = ap suc (length_left left)

counted : (under : List XdsPacket) (s : Unsent) (left : List Listed) → (under ≡ [] → s.codes ≡ []) → (s.codes ≡ [] → under ≡ []) → length under ≤ 1 → length (under ++ packets_left left) ≡ unended s.codes left
counted [] s left none some most = let e = none refl in rw e (length_left left)
counted (packet ∷ []) s left none some most = by_codes s.codes refl
  where
    by_codes : (codes : List Code) → s.codes ≡ codes → suc (length (packets_left left)) ≡ unended codes left
    by_codes [] is = let wrong = some is in absurd (cc)
    by_codes (c ∷ codes) is = ap suc (length_left left)
counted (packet ∷ (other ∷ rest)) s left none some most = absurd (omega (arith, most))

take_front : (read rest : List XdsPacket) → take (length read) (read ++ rest) ≡ read
take_front [] [] = refl
take_front [] (r ∷ rest) = refl
take_front (p ∷ read) rest = ap (λ r. p ∷ r) (take_front read rest)

up_to : (all read rest : List XdsPacket) → read ++ rest ≡ all → (count : ℕ) → length rest ≡ count → ReadsUpTo all read (first_of (length all) count)
up_to all read [] whole zero is = sym (nil_right read) ∙ whole
up_to all read (r ∷ rest) whole zero is = cc
up_to all read [] whole (suc count) is = cc
up_to all read (r ∷ rest) whole (suc count) is =
    let sum : length all ≡ length read + suc (length rest) = ap length (sym whole) ∙ length-append read (r ∷ rest) in
    (omega (arith, sum, is), (omega (arith, sum, is), sym (take_front read (r ∷ rest)) ∙ ap (take (length read)) whole))

pub unfinished_is_first : UnfinishedIsFirst
unfinished_is_first free frame_of others listed beside are n =
    let it = packets_are_carried free frame_of others listed beside are n in
    subst (λ total. ReadsUpTo (packets_left listed) (packets_behind [] (codes_to free frame_of others listed n)) (first_of total (unended (writing_at free frame_of listed n).codes (writing_at free frame_of listed n).left)))
    (length_left listed)
    (up_to (packets_left listed) (packets_behind [] (codes_to free frame_of others listed n)) (it.under_way ++ packets_left (writing_at free frame_of listed n).left) it.whole
    (unended (writing_at free frame_of listed n).codes (writing_at free frame_of listed n).left)
    (counted it.under_way (writing_at free frame_of listed n) (writing_at free frame_of listed n).left it.some_under it.none_under
    it.one_at_most))
