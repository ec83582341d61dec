-- What the services say of parts, in terms of what is heard of their triplets.
use Rattle.std.proofs.Common.{◌≡◌, List, [], ◌∷◌, ◌++◌, Option, Some, None, refl, ap, sym, subst, ◌∙◌, append_assoc, append-nil}
use Rattle.std.proofs.lemmas.Grind.{flat_map-append}
use Rattle.cc_base.specs.declared.step.Step.{Step}
use Rattle.cc_base.specs.declared.step.Step.TheVariants.{Nothing, One, Two, Refuse}
use Rattle.cc_base.specs.declared.why.Why.{Why}
use Rattle.cc_base.specs.Steps.{AreAccepted, IsTaken, step_why}
use Rattle.cc_base.specs.Syntax.{AllTaken, Syntax, open_behind, parts_from, parts_of}
use Rattle.cc_data.specs.declared.triplet.Triplet.{Triplet}
use Rattle.cdp_packets.specs.declared.parts.CdpPart.{CdpPart}
use Rattle.cdp_packets.specs.declared.parts.CdpPart.TheVariants as part
use Rattle.channel_packets.specs.Reading.{packet_syntax}
use Rattle.service_blocks.specs.Channels.{IsHeard, IsHeardBehind}
use Rattle.service_blocks.specs.Reading.{block_syntax}
use Rattle.service_blocks.proofs.ChannelLemmas.{heard_joined}
use Rattle.services_files.specs.Services.{first_why, services_say, tried_at, whole_triplet, whole_triplets, why_refused, why_unheard}

-- there is no reason where no item is refused
first_why-none : (one two : Option Why) → first_why one two ≡ None → (one ≡ None) × (two ≡ None)
first_why-none None two none = (refl, none)
first_why-none (Some why) two none = absurd cc

step-taken : {P : Type 0} (step : Step P) → step_why step ≡ None → IsTaken step
step-taken Nothing none = tt
step-taken (One one) none = tt
step-taken (Two one two) none = tt
step-taken (Refuse why) none = absurd cc

taken-step : {P : Type 0} (step : Step P) → IsTaken step → step_why step ≡ None
taken-step Nothing is = refl
taken-step (One one) is = refl
taken-step (Two one two) is = refl
taken-step (Refuse why) is = absurd is

why_refused-taken : {Front I P : Type 0} (syntax : Syntax Front I P) (front : Front) (items : List I)
    → why_refused syntax front items ≡ None → AllTaken syntax front items
why_refused-taken syntax front [] none = tt
why_refused-taken syntax front (item ∷ items) none =
    let (one, rest) = first_why-none (step_why (syntax.judge front item)) (why_refused syntax (syntax.after front item) items) none in
    (step-taken (syntax.judge front item) one, why_refused-taken syntax (syntax.after front item) items rest)

taken-why_refused : {Front I P : Type 0} (syntax : Syntax Front I P) (front : Front) (items : List I)
    → AllTaken syntax front items → why_refused syntax front items ≡ None
taken-why_refused syntax front [] all = refl
taken-why_refused syntax front (item ∷ items) (is, all) =
    ap (λ why. first_why why (why_refused syntax (syntax.after front item) items)) (taken-step (syntax.judge front item) is)
    ∙ taken-why_refused syntax (syntax.after front item) items all

-- triplets after others have no reason exactly where they are heard after these
pub unheard-none : (before triplets : List Triplet) → why_unheard before triplets ≡ None → IsHeardBehind before triplets
unheard-none before triplets none =
    why_refused-taken block_syntax (open_behind block_syntax (parts_of packet_syntax before)) (parts_from packet_syntax (open_behind packet_syntax before) triplets) none

pub heard-none : (before triplets : List Triplet) → IsHeardBehind before triplets → why_unheard before triplets ≡ None
heard-none before triplets is =
    taken-why_refused block_syntax (open_behind block_syntax (parts_of packet_syntax before)) (parts_from packet_syntax (open_behind packet_syntax before) triplets) is

-- the whole triplets of parts and more
pub whole_triplets-append : (parts more : List CdpPart) → whole_triplets (parts ++ more) ≡ whole_triplets parts ++ whole_triplets more
whole_triplets-append parts more = flat_map-append whole_triplet parts more

one_more : (parts : List CdpPart) (p : CdpPart) → whole_triplets (parts ++ p ∷ []) ≡ whole_triplets parts ++ whole_triplet p
one_more parts p = whole_triplets-append parts (p ∷ []) ∙ ap (λ ts. whole_triplets parts ++ ts) (append-nil (whole_triplet p))

-- each of the parts is heard after these triplets and the earlier parts' triplets
abbrev pub AreTaken : List Triplet → List CdpPart → Type 0
AreTaken triplets [] = Unit {0}
AreTaken triplets (p ∷ parts) = IsHeardBehind triplets (tried_at p) × AreTaken (triplets ++ whole_triplet p) parts

pub accepted-taken : (above parts : List CdpPart) → AreAccepted services_say above parts → AreTaken (whole_triplets above) parts
accepted-taken above [] all = tt
accepted-taken above (p ∷ parts) (one, all) = (
  unheard-none (whole_triplets above) (tried_at p) one,
  subst (λ ts. AreTaken ts parts) (one_more above p) (accepted-taken (above ++ p ∷ []) parts all),
)

pub taken-accepted : (above parts : List CdpPart) → AreTaken (whole_triplets above) parts → AreAccepted services_say above parts
taken-accepted above [] all = tt
taken-accepted above (p ∷ parts) (one, all) = (
  heard-none (whole_triplets above) (tried_at p) one,
  taken-accepted (above ++ p ∷ []) parts (subst (λ ts. AreTaken ts parts) (sym (one_more above p)) all),
)

pub taken-append : (triplets : List Triplet) (parts more : List CdpPart) → AreTaken triplets parts → AreTaken (triplets ++ whole_triplets parts) more
    → AreTaken triplets (parts ++ more)
taken-append triplets [] more all next = subst (λ ts. AreTaken ts more) (append-nil triplets) next
taken-append triplets (p ∷ parts) more (one, all) next = (
  one,
  taken-append (triplets ++ whole_triplet p) parts more all
      (subst (λ ts. AreTaken ts more) (sym (append_assoc triplets (whole_triplet p) (whole_triplets parts))) next),
)

-- a triplet that was tried at its second byte, if its third byte hasn't come
abbrev pub pending_after : Option Triplet → CdpPart → Option Triplet
pending_after pending (part.Half triplet) = Some triplet
pending_after pending (part.Triplet triplet) = None
pending_after pending _ = pending

-- the triplets are heard, and after them the pending one
pub record AreKept (triplets : List Triplet) (pending : Option Triplet) : Type 0 where
  pub heard : IsHeard triplets
  pub half : (triplet : Triplet) → pending ≡ Some triplet → IsHeardBehind triplets (triplet ∷ [])

same_kept : (triplets : List Triplet) (pending : Option Triplet) → AreKept triplets pending → AreKept (triplets ++ []) pending
same_kept triplets pending kept = subst (λ ts. AreKept ts pending) (sym (append-nil triplets)) kept

pub kept_after : (triplets : List Triplet) (pending : Option Triplet) (p : CdpPart) → AreKept triplets pending → IsHeardBehind triplets (tried_at p)
    → AreKept (triplets ++ whole_triplet p) (pending_after pending p)
kept_after triplets pending (part.Half triplet) kept is =
    same_kept triplets (Some triplet) (record {
      heard = kept.heard;
      half = λ other same. let is_same : triplet ≡ other = cc in subst (λ t. IsHeardBehind triplets (t ∷ [])) is_same is;
    })
kept_after triplets pending (part.Triplet triplet) kept is =
    record { heard = heard_joined triplets (triplet ∷ []) (kept.heard, is); half = λ other same. absurd cc }
kept_after triplets pending p kept is = same_kept triplets pending kept
