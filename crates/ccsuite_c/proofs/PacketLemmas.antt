-- Bytes that are handed out, and what is told of a packet.
use Rattle.std.proofs.Common.{◌≡◌, ◌<◌, ◌∙◌, ℕ, List, ap, arith, inl, inr, length, refl, subst}
use Rattle.cc_base.specs.declared.rate.Rate.{Rate}
use Rattle.caption_packets.specs.FrameWords.{SaysFrame, triplet_bytes_of}
use Rattle.caption_packets.specs.declared.reading.FrameData.{FrameData}
use Rattle.ccsuite_c.specs.Codes.{room_code}
use Rattle.ccsuite_c.specs.Packets.{CcDataAnswer, HandsOver, packet_seen}
use Rattle.ccsuite_c.specs.Receivers.{TextStands}
use Rattle.ccsuite_c.specs.declared.packets.PacketSeen.{PacketSeen}

-- with code 0 they stand there
handed : (bytes before after : List ℕ) (code count : ℕ) → HandsOver bytes before after code count → code ≡ 0 → TextStands bytes before after count
handed bytes before after code count (inl given) is = given.1
handed bytes before after code count (inr lacks) is = absurd (omega (arith, lacks.0, is))

-- with another they lack room
lacked : (bytes before after : List ℕ) (code count : ℕ) → HandsOver bytes before after code count → (code ≡ 0 → ⊥)
    → (code ≡ room_code) × (length before < length bytes) × (after ≡ before) × (count ≡ length bytes)
lacked bytes before after code count (inl given) other = absurd (other given.0)
lacked bytes before after code count (inr lacks) other = lacks

-- what the answer tells of a packet is what the packet says
seen-is : (words : List ℕ) (frame : FrameData) (says : SaysFrame words frame)
    → packet_seen frame.rate frame.counter frame.flags ≡ packet_seen says.carried.packet.rate says.carried.packet.counter says.carried.packet.flags
seen-is words frame says =
    let packet = says.carried.packet in
    ap (λ (rate : Rate). packet_seen rate frame.counter frame.flags) says.rate
    ∙ ap (λ (counter : ℕ). packet_seen packet.rate counter frame.flags) says.counter
    ∙ ap (λ (flags : ℕ). packet_seen packet.rate packet.counter flags) says.flags

-- the triplets of a packet are handed out, with what else it says
pub told-out : (words : List ℕ) (frame : FrameData) (says : SaysFrame words frame) (bytes before after : List ℕ) (code count : ℕ) (old new : PacketSeen)
    → bytes ≡ frame.cc_data.items → HandsOver bytes before after code count → code ≡ 0 → new ≡ packet_seen frame.rate frame.counter frame.flags
    → CcDataAnswer says.carried.packet before after code count old new
told-out words frame says bytes before after code count old new are hands is told =
    inl (is, subst (λ (it : List ℕ). TextStands it before after count) (are ∙ says.cc_data) (handed bytes before after code count hands is), told ∙ seen-is words frame says)

-- or they lack room, and nothing else is answered
pub told-none : (words : List ℕ) (frame : FrameData) (says : SaysFrame words frame) (bytes before after : List ℕ) (code count : ℕ) (old : PacketSeen)
    → bytes ≡ frame.cc_data.items → HandsOver bytes before after code count → (code ≡ 0 → ⊥)
    → CcDataAnswer says.carried.packet before after code count old old
told-none words frame says bytes before after code count old are hands other =
    let lacks = lacked (triplet_bytes_of says.carried.packet) before after code count
    (subst (λ (it : List ℕ). HandsOver it before after code count) (are ∙ says.cc_data) hands) other in
    inr (lacks.0, lacks.1, lacks.2, lacks.3, refl)
