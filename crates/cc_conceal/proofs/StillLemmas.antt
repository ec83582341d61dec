-- A frame of null pairs that goes on leaves all channels as they were.
use Rattle.std.proofs.Common.{◌≡◌, ◌∙◌, ◌==◌, true, List, [], ◌∷◌, ◌++◌, map, reverse, refl, ap}
use Rattle.std.specs.List.{list_all}
use Rattle.std.proofs.lemmas.Bool.{and_parts, eqb-true}
use Rattle.line21_codes.specs.declared.channels.FieldNumber.{FieldNumber}
use Rattle.line21_codes.specs.declared.pairs.Pair.{Pair}
use Rattle.line21_codes.specs.NullPairs.{is_null}
use Rattle.line21_screen.specs.Meaning.{after}
use Rattle.cdp_packets.specs.Packets.{Frame}
use Rattle.cdp_packets.specs.PacketTriplets.{packet_triplets}
use Rattle.words_files.specs.Received.{field_pairs, received_pairs}
use Rattle.cc_receiver.specs.Idle.{is_idle}
use Rattle.cc_receiver.proofs.IdleLemmas.{idle_pairs, nulls_do_nothing}
use Rattle.cc_conceal.specs.Concealed.{concealed}
use Rattle.cc_conceal.proofs.PairLemmas.{frames_more}

-- null pairs stand for themselves
null_plain : (pair : Pair) → is_null pair ≡ true → concealed pair ≡ pair
unfolding lib.Count.ones
null_plain pair null =
    let (a, b) = and_parts (pair.a == 0x80) (pair.b == 0x80) null in
    let first : pair.a ≡ 0x80 = eqb-true pair.a 0x80 a in
    let second : pair.b ≡ 0x80 = eqb-true pair.b 0x80 b in
    rw (first, second) refl

nulls_plain : (pairs : List Pair) → list_all is_null pairs ≡ true → map concealed pairs ≡ pairs
nulls_plain [] null = refl
nulls_plain (pair ∷ pairs) null =
    let (one, others) = and_parts (is_null pair) (list_all is_null pairs) null in
    ap (λ (p : Pair). p ∷ map concealed pairs) (null_plain pair one) ∙ ap (λ (ps : List Pair). pair ∷ ps) (nulls_plain pairs others)

pub idle_concealed : (f : FieldNumber) (heard : List Frame) (last : Frame) → is_idle last ≡ true
    → after f (reverse (map concealed (received_pairs f (heard ++ last ∷ [])))) ≡ after f (reverse (map concealed (received_pairs f heard)))
idle_concealed f heard last idle =
    let own = field_pairs f (packet_triplets last) in
    let null = idle_pairs f last idle in
    ap (after f) (frames_more f heard last)
    ∙ ap (λ (ps : List Pair). after f (reverse ps ++ reverse (map concealed (received_pairs f heard)))) (nulls_plain own null)
    ∙ nulls_do_nothing f own (reverse (map concealed (received_pairs f heard))) null
