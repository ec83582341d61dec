-- What the readers of the caption channel make of one more triplet.
use Rattle.std.proofs.Common.{◌≡◌, ◌-◌, ◌||◌, ◌⊎◌, inl, inr, if◌then◌else◌, Bool, true, false, List, [], ◌∷◌, ◌++◌, Option, Some, None, refl, ap, sym, subst, ◌∙◌, append-nil}
use Rattle.cc_base.specs.declared.step.Step.{Step}
use Rattle.cc_base.specs.declared.step.Step.TheVariants.{Nothing, Two, Refuse}
use Rattle.cc_base.specs.declared.why.Why.{Why}
use Rattle.cc_base.specs.Steps.{front_from, step_parts, step_why}
use Rattle.cc_base.specs.Syntax.{open_behind, parts_of}
use Rattle.cc_base.proofs.StepLemmas.{front_from-append}
use Rattle.cc_base.proofs.SyntaxLemmas.{parts_from-append}
use Rattle.cc_data.specs.declared.triplet.Triplet.{Triplet}
use Rattle.channel_packets.specs.declared.parts.PacketPart.{PacketPart}
use Rattle.channel_packets.specs.declared.parts.PacketPart.TheVariants as part
use Rattle.channel_packets.specs.ChannelPackets.{channel_triplets, continues_packet, is_gap, number_of, size_of, starts}
use Rattle.channel_packets.specs.Readers as packets
use Rattle.channel_packets.specs.Reading.{Open, judge_bytes, judge_triplet, nothing_open, open_after, packet_syntax}
use Rattle.service_blocks.specs.Readers as blocks
use Rattle.service_blocks.specs.Reading as reading
use Rattle.service_blocks.specs.Reading.{block_syntax, judge_part}
use Rattle.services_files.specs.Services.{first_why, why_refused, why_unheard}
use Rattle.cc_receiver.specs.Channels.{HasHeard}
use Rattle.cc_receiver.specs.declared.channel.Channel.{Channel}

-- triplets of line 21, and those that don't count, are passed over
neither : (one two : Bool) → (one || two) ≡ false → (one ≡ false) × (two ≡ false)
neither true two is = absurd cc
neither false two is = (refl, is)

pub passed_over : (front : Open) (triplet : Triplet) → (starts triplet || continues_packet triplet) ≡ false
    → (judge_triplet front triplet ≡ Nothing) × (open_after front triplet ≡ front)
passed_over front triplet is =
    let (one, two) = neither (starts triplet) (continues_packet triplet) is in
    let begun : Step PacketPart = Two (part.Header (is_gap front.last (number_of triplet.a)) (size_of triplet.a)) (part.Byte triplet.b (size_of triplet.a - 1)) in
    let first : Open = record { last = Some (number_of triplet.a); left = size_of triplet.a - 1 } in
    let more : Open = record { last = front.last; left = front.left - 2 } in (
      ap (λ (t : Bool). if t then begun else if continues_packet triplet then judge_bytes front.left triplet.a triplet.b else Nothing) one
          ∙ ap (λ (t : Bool). if t then judge_bytes front.left triplet.a triplet.b else Nothing) two,
      ap (λ (t : Bool). if t then first else if continues_packet triplet then more else front) one ∙ ap (λ (t : Bool). if t then more else front) two,
    )

behind_channel : (front : Open) (triplets : List Triplet) → front_from open_after front (channel_triplets triplets) ≡ front_from open_after front triplets
behind_channel front [] = refl
behind_channel front (triplet ∷ triplets) =
    let own = channel_triplets triplets in
    let cases : (b : Bool) → (starts triplet || continues_packet triplet) ≡ b
    → front_from open_after front (channel_triplets (triplet ∷ triplets)) ≡ front_from open_after front (triplet ∷ triplets) = elim [
      | true ↦ λ is. ap (λ (b : Bool). front_from open_after front (if b then triplet ∷ own else own)) is ∙ behind_channel (open_after front triplet) triplets
      | false ↦ λ is.
          ap (λ (b : Bool). front_from open_after front (if b then triplet ∷ own else own)) is
          ∙ behind_channel front triplets ∙ ap (λ f. front_from open_after f triplets) (sym (passed_over front triplet is).1)
    ] in cases _ refl

-- what is open is so by the triplets of channel packets alone
open_of_channel : (triplets : List Triplet) → open_behind packet_syntax (channel_triplets triplets) ≡ open_behind packet_syntax triplets
open_of_channel triplets = behind_channel nothing_open triplets

kept_more : (b : Bool) (triplet : Triplet) (all own more : List Triplet) → all ≡ own ++ more
    → (if b then triplet ∷ all else all) ≡ (if b then triplet ∷ own else own) ++ more
kept_more true triplet all own more is = ap (λ ts. triplet ∷ ts) is
kept_more false triplet all own more is = is

-- the triplets of channel packets, of one more triplet
pub channel_more : (triplets : List Triplet) (triplet : Triplet) (own : Bool) → (starts triplet || continues_packet triplet) ≡ own
    → channel_triplets (triplets ++ triplet ∷ []) ≡ channel_triplets triplets ++ (if own then triplet ∷ [] else [])
channel_more [] triplet own is = ap (λ (b : Bool). if b then triplet ∷ [] else []) is
channel_more (first ∷ triplets) triplet own is =
    kept_more (starts first || continues_packet first) first (channel_triplets (triplets ++ triplet ∷ [])) (channel_triplets triplets) (if own then triplet ∷ [] else [])
    (channel_more triplets triplet own is)

-- what they make
parts_more : (triplets : List Triplet) (triplet : Triplet)
    → parts_of packet_syntax (triplets ++ triplet ∷ []) ≡ parts_of packet_syntax triplets ++ step_parts (judge_triplet (open_behind packet_syntax triplets) triplet)
parts_more triplets triplet =
    parts_from-append packet_syntax nothing_open triplets (triplet ∷ [])
    ∙ ap (λ ps. parts_of packet_syntax triplets ++ ps) (append-nil (step_parts (judge_triplet (open_behind packet_syntax triplets) triplet)))

-- why the pieces of a triplet are refused
abbrev pub why_pieces : List Triplet → List PacketPart → Option Why
why_pieces triplets pieces = why_refused block_syntax (open_behind block_syntax (parts_of packet_syntax triplets)) pieces

reason_is : (triplets : List Triplet) (triplet : Triplet)
    → why_unheard triplets (triplet ∷ []) ≡ why_pieces triplets (step_parts (judge_triplet (open_behind packet_syntax triplets) triplet))
reason_is triplets triplet = ap (why_pieces triplets) (append-nil (step_parts (judge_triplet (open_behind packet_syntax triplets) triplet)))

-- one that is passed over
pub passes_over : (triplets : List Triplet) (triplet : Triplet) (channel : Channel) → (starts triplet || continues_packet triplet) ≡ false → HasHeard triplets channel
    → HasHeard (triplets ++ triplet ∷ []) channel
passes_over triplets triplet channel other heard =
    let none = ap step_parts (passed_over (open_behind packet_syntax triplets) triplet other).0 in
    let same = channel_more triplets triplet false other ∙ append-nil (channel_triplets triplets) in
    let parts = parts_more triplets triplet ∙ ap (λ ps. parts_of packet_syntax triplets ++ ps) none ∙ append-nil (parts_of packet_syntax triplets) in
    record {
      packets_read = subst (λ ts. packets.HasRead ts channel.packets) (sym same) heard.packets_read;
      blocks_read = subst (λ ps. blocks.HasRead ps channel.blocks) (sym parts) heard.blocks_read;
    }

-- the pieces of a triplet, of which this step is made
pub pieces_of : (triplets : List Triplet) (triplet : Triplet) (step : Step PacketPart) → step ≡ judge_triplet (open_behind packet_syntax (channel_triplets triplets)) triplet
    → step_parts (judge_triplet (open_behind packet_syntax triplets) triplet) ≡ step_parts step
pieces_of triplets triplet step is = sym (ap step_parts is ∙ ap (λ f. step_parts (judge_triplet f triplet)) (open_of_channel triplets))

-- a step that makes nothing
pub no_pieces : (step : Step PacketPart) → (step ≡ Nothing) ⊎ ((why : Why) × (step ≡ Refuse why)) → step_parts step ≡ []
no_pieces step (inl is) = ap step_parts is
no_pieces step (inr (why, is)) = ap step_parts is

pub why_of_pieces : (triplets : List Triplet) (triplet : Triplet) (step : Step PacketPart)
    → step ≡ judge_triplet (open_behind packet_syntax (channel_triplets triplets)) triplet → why_pieces triplets (step_parts step) ≡ why_unheard triplets (triplet ∷ [])
why_of_pieces triplets triplet step is = sym (reason_is triplets triplet ∙ ap (why_pieces triplets) (pieces_of triplets triplet step is))

pub takes_pieces : (triplets : List Triplet) (triplet : Triplet) (step : Step PacketPart) (channel : Channel) → (starts triplet || continues_packet triplet) ≡ true
    → step ≡ judge_triplet (open_behind packet_syntax (channel_triplets triplets)) triplet
    → packets.HasRead (channel_triplets triplets ++ triplet ∷ []) channel.packets
    → blocks.HasRead (parts_of packet_syntax triplets ++ step_parts step) channel.blocks → HasHeard (triplets ++ triplet ∷ []) channel
takes_pieces triplets triplet step channel own is read more =
    let parts = parts_more triplets triplet ∙ ap (λ ps. parts_of packet_syntax triplets ++ ps) (pieces_of triplets triplet step is) in
    record {
      packets_read = subst (λ ts. packets.HasRead ts channel.packets) (sym (channel_more triplets triplet true own)) read;
      blocks_read = subst (λ ps. blocks.HasRead ps channel.blocks) (sym parts) more;
    }

-- the reasons of one piece, and of two
only_reason : (why : Option Why) → first_why why None ≡ why
only_reason None = refl
only_reason (Some why) = refl

pub one_reason : (triplets : List Triplet) (piece : PacketPart)
    → step_why (judge_part (open_behind block_syntax (parts_of packet_syntax triplets)) piece) ≡ why_pieces triplets (piece ∷ [])
one_reason triplets piece = sym (only_reason (step_why (judge_part (open_behind block_syntax (parts_of packet_syntax triplets)) piece)))

pub first_reason : (triplets : List Triplet) (first second : PacketPart) (why : Why)
    → Some why ≡ step_why (judge_part (open_behind block_syntax (parts_of packet_syntax triplets)) first) → Some why ≡ why_pieces triplets (first ∷ second ∷ [])
first_reason triplets first second why is =
    let front = open_behind block_syntax (parts_of packet_syntax triplets) in
    ap (λ w. first_why w (why_refused block_syntax (reading.open_after front first) (second ∷ []))) is

pub second_reason : (triplets : List Triplet) (first second : PacketPart)
    → None ≡ step_why (judge_part (open_behind block_syntax (parts_of packet_syntax triplets)) first)
    → step_why (judge_part (open_behind block_syntax (parts_of packet_syntax triplets ++ first ∷ [])) second) ≡ why_pieces triplets (first ∷ second ∷ [])
second_reason triplets first second none =
    let pieces = parts_of packet_syntax triplets in
    let front = open_behind block_syntax pieces in
    let last = step_why (judge_part (reading.open_after front first) second) in
    ap (λ f. step_why (judge_part f second)) (front_from-append reading.open_after reading.nothing_open pieces (first ∷ []))
    ∙ sym (only_reason last) ∙ ap (λ w. first_why w (first_why last None)) none
