-- The pairs that stand for a field's own, with one frame more.
use Rattle.std.proofs.Common.{◌≡◌, ◌∙◌, List, [], ◌∷◌, ◌++◌, map, reverse, sym, ap, subst, append_assoc, append-nil}
use Rattle.std.proofs.lemmas.Grind.{flat_map-append}
use Rattle.std.proofs.lemmas.List.{map-append, reverse-append}
use Rattle.line21_codes.specs.declared.channels.FieldNumber.{FieldNumber}
use Rattle.line21_codes.specs.declared.pairs.Pair.{Pair}
use Rattle.line21_screen.specs.Objects.{Leads}
use Rattle.line21_screen.specs.declared.field.Field.{Field}
use Rattle.cdp_packets.specs.Packets.{Frame}
use Rattle.cdp_packets.specs.PacketTriplets.{packet_triplets}
use Rattle.words_files.specs.Received.{field_pairs, received_pairs}
use Rattle.cc_conceal.specs.Concealed.{concealed}

-- pairs after pairs, the newest first
pub turned_more : (ps qs before : List Pair) → reverse (map concealed (ps ++ qs)) ++ before ≡ reverse (map concealed qs) ++ (reverse (map concealed ps) ++ before)
turned_more ps qs before =
    ap (λ (l : List Pair). reverse l ++ before) (map-append concealed ps qs)
    ∙ ap (λ (l : List Pair). l ++ before) (reverse-append (map concealed ps) (map concealed qs))
    ∙ append_assoc (reverse (map concealed qs)) (reverse (map concealed ps)) before

-- one frame more
pub frames_more : (in_field : FieldNumber) (frames : List Frame) (last : Frame)
    → reverse (map concealed (received_pairs in_field (frames ++ last ∷ [])))
    ≡ reverse (map concealed (field_pairs in_field (packet_triplets last))) ++ reverse (map concealed (received_pairs in_field frames))
frames_more in_field frames last =
    sym (append-nil (reverse (map concealed (received_pairs in_field (frames ++ last ∷ [])))))
    ∙ ap (λ (l : List Pair). reverse (map concealed l) ++ [])
    (flat_map-append (λ (frame : Frame). field_pairs in_field (packet_triplets frame)) frames (last ∷ [])
    ∙ ap (λ (l : List Pair). received_pairs in_field frames ++ l) (append-nil (field_pairs in_field (packet_triplets last))))
    ∙ turned_more (received_pairs in_field frames) (field_pairs in_field (packet_triplets last)) []
    ∙ ap (λ (l : List Pair). reverse (map concealed (field_pairs in_field (packet_triplets last))) ++ l) (append-nil (reverse (map concealed (received_pairs in_field frames))))

-- a field that took the pairs of one frame more
pub fields_more : (in_field : FieldNumber) (heard : List Frame) (last : Frame) (pairs : List Pair) (field : Field) → pairs ≡ field_pairs in_field (packet_triplets last)
    → Leads in_field (reverse (map concealed pairs) ++ reverse (map concealed (received_pairs in_field heard))) field
    → Leads in_field (reverse (map concealed (received_pairs in_field (heard ++ last ∷ [])))) field
fields_more in_field heard last pairs field are leads =
    subst (λ (l : List Pair). Leads in_field l field)
    (ap (λ (ps : List Pair). reverse (map concealed ps) ++ reverse (map concealed (received_pairs in_field heard))) are ∙ sym (frames_more in_field heard last)) leads
