-- A frame whose pairs are null leaves all screens as they were.
use Rattle.std.proofs.Common.{◌≡◌, ◌==◌, true, ◌++◌, List, [], ◌∷◌, reverse, refl, ap, ◌∙◌, append_assoc, append-nil}
use Rattle.std.specs.List.{list_all}
use Rattle.std.proofs.lemmas.Bool.{and_parts, eqb-true}
use Rattle.std.proofs.lemmas.Grind.{flat_map-append}
use Rattle.std.proofs.lemmas.List.{reverse-append}
use Rattle.line21_codes.specs.declared.channels.FieldNumber.{FieldNumber}
use Rattle.line21_codes.specs.declared.channels.FieldNumber.TheVariants.{One, Two}
use Rattle.line21_codes.specs.declared.codes.Code.TheVariants.{Null}
use Rattle.line21_codes.specs.declared.pairs.Pair.{Pair}
use Rattle.line21_codes.specs.Reading.{code_of}
use Rattle.line21_codes.specs.NullPairs.{is_null}
use Rattle.line21_screen.specs.Meaning.{after}
use Rattle.line21_screen.proofs.LawLemmas.{null_does_nothing}
use Rattle.cdp_packets.specs.Packets.{Frame}
use Rattle.cdp_packets.specs.PacketTriplets.{packet_triplets}
use Rattle.services_files.specs.Received.{field_pairs, received, received_pairs}
use Rattle.cc_receiver.specs.Idle.{is_idle}

-- a null pair's code
null_code : (pair : Pair) → is_null pair ≡ true → code_of pair ≡ Null
unfolding code_of lib.Count.ones
null_code pair null =
    let (a, b) = and_parts (pair.a == 0x80) (pair.b == 0x80) null in
    let first : pair.a ≡ 0x80 = eqb-true pair.a 0x80 a in
    let second : pair.b ≡ 0x80 = eqb-true pair.b 0x80 b in
    rw (first, second) refl

-- null pairs do nothing
pub nulls_do_nothing : (f : FieldNumber) (pairs before : List Pair) → list_all is_null pairs ≡ true → after f (reverse pairs ++ before) ≡ after f before
nulls_do_nothing f [] before null = refl
nulls_do_nothing f (pair ∷ pairs) before null =
    let (one, others) = and_parts (is_null pair) (list_all is_null pairs) null in
    ap (λ ps. after f (ps ++ before)) (reverse-append (pair ∷ []) pairs)
    ∙ ap (after f) (append_assoc (reverse pairs) (pair ∷ []) before)
    ∙ nulls_do_nothing f pairs (pair ∷ before) others
    ∙ null_does_nothing f before pair (null_code pair one)

-- a field's pairs of a frame of null pairs
pub idle_pairs : (f : FieldNumber) (frame : Frame) → is_idle frame ≡ true → list_all is_null (field_pairs f (packet_triplets frame)) ≡ true
idle_pairs One frame idle = (and_parts (list_all is_null (field_pairs One (packet_triplets frame))) (list_all is_null (field_pairs Two (packet_triplets frame))) idle).0
idle_pairs Two frame idle = (and_parts (list_all is_null (field_pairs One (packet_triplets frame))) (list_all is_null (field_pairs Two (packet_triplets frame))) idle).1

-- a frame of null pairs does nothing either
pub idle_frame : (f : FieldNumber) (earlier : List Frame) (last : Frame) → is_idle last ≡ true → received f (earlier ++ last ∷ []) ≡ received f earlier
idle_frame f earlier last idle =
    let own = field_pairs f (packet_triplets last) in
    let both : received_pairs f (earlier ++ last ∷ []) ≡ received_pairs f earlier ++ own =
    flat_map-append (λ (frame : Frame). field_pairs f (packet_triplets frame)) earlier (last ∷ []) ∙ ap (λ ps. received_pairs f earlier ++ ps) (append-nil own) in
    ap (λ ps. after f (reverse ps)) both
    ∙ ap (after f) (reverse-append (received_pairs f earlier) own)
    ∙ nulls_do_nothing f own (reverse (received_pairs f earlier)) (idle_pairs f last idle)
