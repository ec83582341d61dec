-- Over all layers, the layers above refuse a header that passes its packet, and nothing else.
use Rattle.std.proofs.Common.{◌≡◌, ◌==◌, ◌⊎◌, inl, inr, ℕ, if◌then◌else◌, Bool, true, false, ◌++◌, List, [], ◌∷◌, Option, Some, None, refl, ap, sym, subst, ◌∙◌, append_assoc, append-nil}
use Rattle.std.specs.List.{flat_map}
use Rattle.cc_base.specs.declared.step.Step.{Step}
use Rattle.cc_base.specs.declared.step.Step.TheVariants.{Nothing, One, Two, Refuse}
use Rattle.cc_base.specs.declared.why.Why.{Why}
use Rattle.cc_base.specs.declared.why.Why.TheVariants as why
use Rattle.cc_base.specs.Feeding.{Verdict}
use Rattle.cc_base.specs.Steps.{AreAccepted, step_why}
use Rattle.cc_base.specs.Syntax.{open_behind, parts_from, parts_of}
use Rattle.cc_base.proofs.StepLemmas.{AreAccepted-append, AreAccepted-split}
use Rattle.cc_data.specs.declared.triplet.Triplet.{Triplet}
use Rattle.cc_data.specs.Triplets.{triplet_of, triplets_of}
use Rattle.cdp_packets.specs.declared.parts.CdpPart.{CdpPart}
use Rattle.cdp_packets.specs.PacketParts.{packet_parts}
use Rattle.cdp_packets.specs.PacketTriplets.{packet_triplets, section_triplets}
use Rattle.cdp_packets.specs.Packets.{Frame}
use Rattle.channel_packets.specs.declared.parts.PacketPart.{PacketPart}
use Rattle.channel_packets.specs.Reading.{packet_syntax}
use Rattle.service_blocks.specs.Channels.{IsHeard}
use Rattle.service_blocks.specs.Reading.{Open, block_syntax, judge_part, open_after}
use Rattle.service_blocks.proofs.ChannelLemmas.{channel_heard, half_heard, heard_channel, heard_first, heard_joined, heard_pieces, refused_part}
use Rattle.words_files.specs.Verdicts.{IsRefusedFor, layers_of}
use Rattle.words_files.proofs.AlikeLemmas.{JudgeAlike}
use Rattle.services_files.specs.CaptionChannel.{caption_channel}
use Rattle.services_files.specs.Overruns.{HaveOverrun, Overruns}
use Rattle.services_files.specs.Services.{first_why, services_say, tried_at, whole_triplets, why_refused, why_unheard}
use Rattle.services_files.specs.CarriedChannel.{file_triplets}
use Rattle.services_files.proofs.OverrunLemmas.{refused-second, refused-third, second-refused, third-refused}
use Rattle.services_files.proofs.TakenLemmas.{heard-none, unheard-none}
use Rattle.services_files.proofs.WholeFileLemmas.{carry-taken, taken-carry}

-- a reason of the reader of blocks is Overrun
step_overrun : (front : Open) (item : PacketPart) (reason : Why) (step : Step _) → judge_part front item ≡ step → step_why step ≡ Some reason → reason ≡ why.Overrun
step_overrun front item reason Nothing is some = absurd cc
step_overrun front item reason (One part) is some = absurd cc
step_overrun front item reason (Two first second) is some = absurd cc
step_overrun front item reason (Refuse other) is some =
    let same : Some other ≡ Some reason = some in
    let equal : other ≡ reason = cc in
    sym equal ∙ (refused_part front item other is).1

reason_overrun : (front : Open) (items : List PacketPart) (reason : Why) → why_refused block_syntax front items ≡ Some reason → reason ≡ why.Overrun
reason_overrun front [] reason some = absurd cc
reason_overrun front (item ∷ items) reason some =
    let rest = why_refused block_syntax (open_after front item) items in
    let cases : (w : Option Why) → step_why (judge_part front item) ≡ w → reason ≡ why.Overrun = elim [
      | None ↦ λ none. reason_overrun (open_after front item) items reason (ap (λ w. first_why w rest) (sym none) ∙ some)
      | Some other ↦ λ is.
          let same : Some other ≡ Some reason = ap (λ w. first_why w rest) (sym is) ∙ some in
          step_overrun front item reason (judge_part front item) refl (is ∙ same)
    ] in cases _ refl

-- of triplets that three bytes each spell, all are heard, or one has an overrun
pub data AreSpelled : List Triplet → Type 0 where
  none : AreSpelled []
  more : (first second third : ℕ) (triplets : List Triplet) → AreSpelled triplets → AreSpelled (triplet_of first second third ∷ triplets)

spelled-append : (triplets more : List Triplet) → AreSpelled triplets → AreSpelled more → AreSpelled (triplets ++ more)
spelled-append _ rest none are = are
spelled-append _ rest (more first second third triplets ts) are = more first second third (triplets ++ rest) (spelled-append triplets rest ts are)

bytes_spelled : (bytes : List ℕ) → AreSpelled (triplets_of bytes)
bytes_spelled [] = none
bytes_spelled (_ ∷ []) = none
bytes_spelled (_ ∷ _ ∷ []) = none
bytes_spelled (first ∷ second ∷ third ∷ bytes) = more first second third (triplets_of bytes) (bytes_spelled bytes)

sections_spelled : (sections : List (List ℕ)) → AreSpelled (flat_map section_triplets sections)
sections_spelled [] = none
sections_spelled ([] ∷ sections) = sections_spelled sections
sections_spelled ((_ ∷ []) ∷ sections) = sections_spelled sections
sections_spelled ((id ∷ second ∷ rest) ∷ sections) =
    let others = flat_map section_triplets sections in
    let cases : (b : Bool) → AreSpelled ((if b then triplets_of rest else []) ++ others) = elim [
      | true ↦ spelled-append (triplets_of rest) others (bytes_spelled rest) (sections_spelled sections)
      | false ↦ sections_spelled sections
    ] in cases (id == 0x72)

frames_spelled : (frames : List Frame) → AreSpelled (file_triplets frames)
frames_spelled [] = none
frames_spelled (frame ∷ frames) = spelled-append (packet_triplets frame) (file_triplets frames) (sections_spelled frame.sections) (frames_spelled frames)

-- a triplet that isn't heard has an overrun in its second byte or its third
overrun_in : (before rest : List Triplet) (first second third : ℕ) (reason : Why) → IsHeard before
    → why_unheard before (triplet_of first second third ∷ []) ≡ Some reason → HaveOverrun (before ++ triplet_of first second third ∷ rest)
overrun_in before rest first second third reason heard some =
    let (packets, (blocks, channel)) = heard_channel before heard in
    let cases : (w : Option Why) → why_unheard before (triplet_of first second 0 ∷ []) ≡ w → HaveOverrun (before ++ triplet_of first second third ∷ rest) = elim [
      | None ↦ λ none. record {
        before = before;
        first = first;
        second = second;
        third = third;
        rest = rest;
        spelled = refl;
        packets = packets;
        blocks = blocks;
        channel = channel;
        overruns = inr (refused-third before first second third reason none some).1;
      }
      | Some other ↦ λ is. record {
        before = before;
        first = first;
        second = second;
        third = third;
        rest = rest;
        spelled = refl;
        packets = packets;
        blocks = blocks;
        channel = channel;
        overruns = inl (refused-second before first second other is).1;
      }
    ] in cases _ refl

heard_or_not : (before triplets : List Triplet) → IsHeard before → AreSpelled triplets → IsHeard (before ++ triplets) ⊎ HaveOverrun (before ++ triplets)
heard_or_not before _ heard none = inl (subst IsHeard (sym (append-nil before)) heard)
heard_or_not before _ heard (more first second third triplets are) =
    let triplet = triplet_of first second third in
    let cases : (w : Option Why) → why_unheard before (triplet ∷ []) ≡ w → IsHeard (before ++ triplet ∷ triplets) ⊎ HaveOverrun (before ++ triplet ∷ triplets) = elim [
      | None ↦ λ is.
          let next = heard_joined before (triplet ∷ []) (heard, unheard-none before (triplet ∷ []) is) in
          subst (λ ts. IsHeard ts ⊎ HaveOverrun ts) (append_assoc before (triplet ∷ []) triplets) (heard_or_not (before ++ triplet ∷ []) triplets next are)
      | Some reason ↦ λ is. inr (overrun_in before triplets first second third reason heard is)
    ] in cases _ refl

-- frames that the services refuse have an overrun, and that is the reason
refused_overrun : (frames : List Frame) (reason : Why) → IsRefusedFor services_say (flat_map packet_parts frames) reason
    → (reason ≡ why.Overrun) × HaveOverrun (file_triplets frames)
refused_overrun frames reason refused =
    let reason_is = reason_overrun (open_behind block_syntax (parts_of packet_syntax (whole_triplets refused.taken)))
    (parts_from packet_syntax (open_behind packet_syntax (whole_triplets refused.taken)) (tried_at refused.part)) reason refused.refused in
    elim (heard_or_not [] (file_triplets frames) tt (frames_spelled frames)) [
      | inr over ↦ (reason_is, over)
      | inl heard ↦
          let (packets, (blocks, channel)) = heard_channel (file_triplets frames) heard in
          let taken = carry-taken frames (record { packets = packets; blocks = blocks; channel = channel }) in
          let all = subst (AreAccepted services_say []) refused.spelled taken in
          let none = (AreAccepted-split services_say [] refused.taken (refused.part ∷ refused.rest) all).1.0 in
          let wrong : Some reason ≡ None = sym refused.refused ∙ none in absurd cc
    ]

-- parts are all taken, or one is refused first
taken_or_refused : (v : Verdict CdpPart) (taken parts : List CdpPart) → AreAccepted v [] taken
    → AreAccepted v [] (taken ++ parts) ⊎ ((reason : Why) × IsRefusedFor v (taken ++ parts) reason)
taken_or_refused v taken [] accepted = inl (subst (AreAccepted v []) (sym (append-nil taken)) accepted)
taken_or_refused v taken (part ∷ parts) accepted =
    let Either = λ (ps : List CdpPart). AreAccepted v [] ps ⊎ ((reason : Why) × IsRefusedFor v ps reason) in
    let cases : (w : Option Why) → v taken part ≡ w → Either (taken ++ part ∷ parts) = elim [
      | None ↦ λ none.
          let next = AreAccepted-append v [] taken (part ∷ []) accepted (none, tt) in
          subst Either (append_assoc taken (part ∷ []) parts) (taken_or_refused v (taken ++ part ∷ []) parts next)
      | Some reason ↦ λ is. inr (reason, record { taken = taken; part = part; rest = parts; spelled = refl; accepted = accepted; refused = is })
    ] in cases _ refl

-- triplets of which a byte is a header that passes its packet aren't heard
overrun_unheard : (before rest : List Triplet) (first second third : ℕ)
    → Overruns before (first ∷ []) second ⊎ Overruns before (first ∷ second ∷ []) third → IsHeard (before ++ triplet_of first second third ∷ rest) → ⊥
overrun_unheard before rest first second third over heard =
    let triplet = triplet_of first second third in
    let one = heard_first (before ++ triplet ∷ []) rest (subst IsHeard (sym (append_assoc before (triplet ∷ []) rest)) heard) in
    let half = heard-none before (triplet_of first second 0 ∷ []) (heard_pieces before (triplet_of first second 0 ∷ []) (half_heard before triplet one)).1 in
    let whole = heard-none before (triplet ∷ []) (heard_pieces before (triplet ∷ []) one).1 in
    elim over [
      | inl at_second ↦ let clash : Some why.Overrun ≡ None = sym (second-refused before first second at_second) ∙ half in absurd cc
      | inr at_third ↦ let clash : Some why.Overrun ≡ None = sym (third-refused before first second third half at_third) ∙ whole in absurd cc
    ]

-- so the services refuse frames that have one, for that
overrun_refused : (frames : List Frame) (reason : Why) → (reason ≡ why.Overrun) × HaveOverrun (file_triplets frames)
    → IsRefusedFor services_say (flat_map packet_parts frames) reason
overrun_refused frames reason (is, over) = elim (taken_or_refused services_say [] (flat_map packet_parts frames) tt) [
  | inl taken ↦
      let carry = taken-carry frames taken in
      let heard = (channel_heard carry.packets carry.blocks (file_triplets frames) carry.channel).is in
      absurd (overrun_unheard over.before over.rest over.first over.second over.third over.overruns (subst IsHeard over.spelled heard))
  | inr (other, refused) ↦
      subst (IsRefusedFor services_say (flat_map packet_parts frames)) ((refused_overrun frames other refused).0 ∙ sym is) refused
]

-- what the services say is the caption channel
pub channel_said : JudgeAlike (layers_of services_say) caption_channel
channel_said = record { takes = taken-carry; taken = carry-taken; refuses = λ frames bytes reason file. refused_overrun frames reason }

pub said_channel : JudgeAlike caption_channel (layers_of services_say)
said_channel = record { takes = carry-taken; taken = taken-carry; refuses = λ frames bytes reason file. overrun_refused frames reason }
