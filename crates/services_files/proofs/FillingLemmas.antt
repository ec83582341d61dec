-- The services take what only fills a distribution packet.
use Rattle.std.proofs.Common.{◌≡◌, List, [], ◌∷◌, ◌++◌, Option, None, ap, sym, subst, append_assoc, append-nil}
use Rattle.std.proofs.lemmas.List.Elements.{recursion_from_All}
use Rattle.std.specs.List.{AllByRecursion}
use Rattle.cc_base.specs.Steps.{AreAccepted}
use Rattle.cc_base.specs.Syntax.{open_behind, parts_from, parts_of}
use Rattle.cc_data.specs.declared.triplet.Triplet.{Triplet}
use Rattle.cdp_packets.specs.declared.parts.CdpPart.{CdpPart}
use Rattle.cdp_packets.specs.declared.parts.CdpPart.TheVariants as part
use Rattle.cdp_packets.specs.Reading.{IsFilling, cdp_syntax, nothing_open}
use Rattle.service_blocks.specs.Channels.{IsHeard, IsHeardBehind}
use Rattle.service_blocks.proofs.ChannelLemmas.{half, heard_pieces, zero_heard}
use Rattle.words_files.specs.Verdicts.{TakesFilling}
use Rattle.services_files.specs.Services.{services_say, tried_at, whole_triplet, whole_triplets}
use Rattle.services_files.proofs.TakenLemmas.{AreKept, AreTaken, accepted-taken, kept_after, pending_after, taken-accepted, whole_triplets-append}
use Rattle.services_files.proofs.PendingLemmas.{AreInOrder, FollowsHalf, pending_from, reads_order}

-- parts that are taken keep what is heard
kept_behind : (triplets : List Triplet) (pending : Option Triplet) (parts : List CdpPart) → AreKept triplets pending → AreTaken triplets parts
    → AreKept (triplets ++ whole_triplets parts) (pending_from pending parts)
kept_behind triplets pending [] kept all = subst (λ ts. AreKept ts pending) (sym (append-nil triplets)) kept
kept_behind triplets pending (p ∷ parts) kept (one, all) =
    subst (λ ts. AreKept ts (pending_from pending (p ∷ parts))) (append_assoc triplets (whole_triplet p) (whole_triplets parts))
    (kept_behind (triplets ++ whole_triplet p) (pending_after pending p) parts (kept_after triplets pending p kept one) all)

accepted_kept : (above parts : List CdpPart) (pending : Option Triplet) → AreKept (whole_triplets above) pending → AreAccepted services_say above parts
    → AreKept (whole_triplets (above ++ parts)) (pending_from pending parts)
accepted_kept above parts pending kept all =
    subst (λ ts. AreKept ts (pending_from pending parts)) (sym (whole_triplets-append above parts))
    (kept_behind (whole_triplets above) pending parts kept (accepted-taken above parts all))

nothing_kept : AreKept [] None
nothing_kept = record { heard = tt; half = λ triplet same. absurd cc }

-- parts that are accepted from the first on are heard
pub accepted_heard : (parts : List CdpPart) → AreAccepted services_say [] parts → IsHeard (whole_triplets parts)
accepted_heard parts all = (accepted_kept [] parts None nothing_kept all).heard

-- what only fills a packet is heard
filling_part : (triplets : List Triplet) (pending : Option Triplet) (p : CdpPart) → AreKept triplets pending → FollowsHalf pending p → IsFilling p
    → IsHeardBehind triplets (tried_at p)
filling_part triplets pending (part.Half triplet) kept follows (first, second) =
    (heard_pieces triplets (triplet ∷ []) (zero_heard triplets triplet kept.heard first second)).1
filling_part triplets pending (part.Triplet triplet) kept follows last =
    let same : half triplet ≡ triplet = ap (λ b. let t : Triplet = record triplet { b = b } in t) (sym last) in
    subst (λ t. IsHeardBehind triplets (t ∷ [])) same (kept.half (half triplet) follows)
filling_part triplets pending p kept follows fills = tt

filling_taken : (triplets : List Triplet) (pending : Option Triplet) (parts : List CdpPart) → AreKept triplets pending → AreInOrder pending parts
    → AllByRecursion IsFilling parts → AreTaken triplets parts
filling_taken triplets pending [] kept all fills = tt
filling_taken triplets pending (p ∷ parts) kept (follows, all) (one, fills) =
    let is = filling_part triplets pending p kept follows one in
    (is, filling_taken (triplets ++ whole_triplet p) (pending_after pending p) parts (kept_after triplets pending p kept is) all fills)

pub takes_filling : TakesFilling services_say
takes_filling size handed bytes more accepted read took fills =
    let syntax = cdp_syntax size in
    let parts = parts_of syntax bytes in
    let filling = parts_from syntax (open_behind syntax bytes) more in
    let heard = (accepted_kept [] handed None nothing_kept accepted).heard in
    let begun : AreKept (whole_triplets handed) None = record { heard = heard; half = λ triplet same. absurd cc } in
    let kept = accepted_kept handed parts None begun took in
    let open_is = reads_order size nothing_open bytes None tt in
    let orders = reads_order size (open_behind syntax bytes) more (pending_from None parts) open_is.waits in
    taken-accepted (handed ++ parts) filling
    (filling_taken (whole_triplets (handed ++ parts)) (pending_from None parts) filling kept orders.in_order (recursion_from_All IsFilling filling fills))
