-- Each whole triplet that a reader of a distribution packet hands upward follows its half: what is pending is the open
-- triplet's first two bytes.
use Rattle.std.proofs.Common.{◌≡◌, ℕ, ◌+◌, ◌-◌, ◌/◌, ◌%◌, ◌==◌, ◌||◌, nat_lt, if◌then◌else◌, Bool, true, false, List, [], ◌∷◌, ◌++◌, length, Option, Some, None, refl, ap, sym, subst, ◌∙◌, arith}
use Rattle.std.proofs.lemmas.Bool.Decides.{nat_tests}
use Rattle.cc_base.specs.declared.rate.Rate.{Rate}
use Rattle.cc_base.specs.declared.step.Step.{Step}
use Rattle.cc_base.specs.declared.step.Step.TheVariants.{One}
use Rattle.cc_base.specs.Rate.{rate_of}
use Rattle.cc_base.specs.Steps.{front_from, step_parts}
use Rattle.cc_base.specs.Syntax.{parts_from}
use Rattle.cc_base.proofs.StepLemmas.{front_from-append}
use Rattle.cc_data.specs.declared.triplet.Triplet.{Triplet}
use Rattle.cc_data.specs.Triplets.{triplet_of}
use Rattle.cdp_packets.specs.declared.parts.CdpPart.{CdpPart}
use Rattle.cdp_packets.specs.declared.parts.CdpPart.TheVariants as part
use Rattle.cdp_packets.specs.Reading.{Open, bytes_behind, cdp_syntax, count_fits, id_fits, judge_behind, judge_cdp, judge_footer, judge_rate, judge_section, judge_triplet, open_after, section_behind, triplet_behind}
use Rattle.services_files.proofs.TakenLemmas.{pending_after}

-- a whole triplet follows the half of its first two bytes
abbrev pub FollowsHalf : Option Triplet → CdpPart → Type 0
FollowsHalf pending (part.Triplet triplet) = pending ≡ Some (record triplet { b = 0 })
FollowsHalf pending _ = Unit {0}

abbrev pub AreInOrder : Option Triplet → List CdpPart → Type 0
AreInOrder pending [] = Unit {0}
AreInOrder pending (p ∷ parts) = FollowsHalf pending p × AreInOrder (pending_after pending p) parts

-- what is pending after parts
abbrev pub pending_from : Option Triplet → List CdpPart → Option Triplet
pending_from pending parts = front_from pending_after pending parts

-- the open triplet's first two bytes are pending
abbrev pub Waits : List ℕ → Option Triplet → Type 0
Waits (first ∷ second ∷ more) pending = pending ≡ Some (triplet_of first second 0)
Waits _ pending = Unit {0}

-- parts are in order, and this open triplet waits after them
pub record Orders (pending : Option Triplet) (parts : List CdpPart) (triplet : List ℕ) : Type 0 where
  pub in_order : AreInOrder pending parts
  pub waits : Waits triplet (pending_from pending parts)

in_order-append : (pending : Option Triplet) (parts more : List CdpPart) → AreInOrder pending parts → AreInOrder (pending_from pending parts) more
    → AreInOrder pending (parts ++ more)
in_order-append pending [] more all next = next
in_order-append pending (p ∷ parts) more (one, all) next = (one, in_order-append (pending_after pending p) parts more all next)

-- a step that makes neither a half nor a triplet
abbrev IsPlain : CdpPart → Type 0
IsPlain (part.Half triplet) = ⊥
IsPlain (part.Triplet triplet) = ⊥
IsPlain _ = Unit {0}

abbrev ArePlain : List CdpPart → Type 0
ArePlain [] = Unit {0}
ArePlain (p ∷ parts) = IsPlain p × ArePlain parts

plain_part : (pending : Option Triplet) (p : CdpPart) → IsPlain p → FollowsHalf pending p × (pending_after pending p ≡ pending)
plain_part pending (part.Half triplet) is = absurd is
plain_part pending (part.Triplet triplet) is = absurd is
plain_part pending p is = (tt, refl)

plain : (pending : Option Triplet) (parts : List CdpPart) → ArePlain parts → AreInOrder pending parts × (pending_from pending parts ≡ pending)
plain pending [] all = (tt, refl)
plain pending (p ∷ parts) (is, all) =
    let (one, same) = plain_part pending p is in
    let (more, others) = plain pending parts all in
    ((one, subst (λ q. AreInOrder q parts) (sym same) more), ap (λ q. pending_from q parts) same ∙ others)

plain_orders : (pending : Option Triplet) (parts : List CdpPart) (triplet : List ℕ) → ArePlain parts → Waits triplet pending → Orders pending parts triplet
plain_orders pending parts triplet are waits =
    let (all, same) = plain pending parts are in
    record { in_order = all; waits = subst (Waits triplet) (sym same) waits }

-- one of two steps
plain_if : (test : Bool) (one two : Step CdpPart) → ArePlain (step_parts one) → ArePlain (step_parts two) → ArePlain (step_parts (if test then one else two))
plain_if true one two first second = first
plain_if false one two first second = second

plain_rate : (code : Option Rate) → ArePlain (step_parts (judge_rate code))
plain_rate None = tt
plain_rate (Some rate) = (tt, tt)

plain_footer : (left high low total byte : ℕ) → ArePlain (step_parts (judge_footer left high low total byte))
plain_footer left high low total byte =
    plain_if (left == 4) _ _ (plain_if (byte == 0x74) _ _ tt tt)
    (plain_if (left == 3) _ _ (plain_if (byte == high) _ _ tt tt)
    (plain_if (left == 2) _ _ (plain_if (byte == low) _ _ tt tt)
    (plain_if (left == 1) _ _ (plain_if ((total + byte) % 256 == 0) _ _ (tt, tt) tt) tt)))

-- a byte of a section's body
body_orders : (test : Bool) (triplet : List ℕ) (byte : ℕ) (pending : Option Triplet) → Waits triplet pending
    → Orders pending (step_parts (if test then judge_triplet triplet byte else One (part.SectionByte byte))) (if test then bytes_behind triplet byte else [])
body_orders true [] byte pending waits = record { in_order = (tt, tt); waits = tt }
body_orders true (first ∷ []) byte pending waits = record { in_order = (tt, (tt, tt)); waits = refl }
body_orders true (first ∷ second ∷ more) byte pending waits = record { in_order = (tt, (waits, tt)); waits = tt }
body_orders false triplet byte pending waits = record { in_order = (tt, tt); waits = tt }

-- a byte of the sections
section_orders : (left : ℕ) (section triplet : List ℕ) (byte : ℕ) (pending : Option Triplet) → Waits triplet pending
    → Orders pending (step_parts (judge_section left section triplet byte)) (triplet_behind section triplet byte)
section_orders left [] triplet byte pending waits = plain_orders pending _ [] (plain_if (id_fits left byte) _ _ (tt, tt) tt) tt
section_orders left (id ∷ []) triplet byte pending waits =
    plain_orders pending _ [] (plain_if (id == 0x71 || count_fits left id byte) _ _ (tt, tt) tt) tt
section_orders left (id ∷ second ∷ rest) triplet byte pending waits = body_orders (id == 0x72) triplet byte pending waits

-- the open triplet after a byte that isn't one of the sections
waits_out : (test : Bool) (ended front : Open) (pending : Option Triplet) → ended.triplet ≡ [] → Waits front.triplet pending
    → Waits (if test then ended else front).triplet pending
waits_out true ended front pending none waits = subst (λ t. Waits t pending) (sym none) tt
waits_out false ended front pending none waits = waits

orders_is : (pending : Option Triplet) (parts others : List CdpPart) (triplet other : List ℕ) → parts ≡ others → triplet ≡ other
    → Orders pending others other → Orders pending parts triplet
orders_is pending parts others triplet other same is orders =
    subst (λ ps. Orders pending ps triplet) (sym same) (subst (λ t. Orders pending others t) (sym is) orders)

-- a byte after others
abbrev front_of : List ℕ → ℕ → List ℕ → List ℕ → Open
front_of bytes total section triplet = record { bytes = bytes; total = total; section = section; triplet = triplet }

out_orders : (size : ℕ) (bytes : List ℕ) (total : ℕ) (section triplet : List ℕ) (byte : ℕ) (pending : Option Triplet) (ended : Open) → ended.triplet ≡ []
    → ArePlain (step_parts (judge_behind size bytes total section triplet byte)) → Waits triplet pending
    → Orders pending (step_parts (judge_behind size bytes total section triplet byte)) (if nat_lt (length bytes) size then ended else front_of bytes total section triplet).triplet
out_orders size bytes total section triplet byte pending ended none are waits =
    plain_orders pending _ _ are (waits_out (nat_lt (length bytes) size) ended (front_of bytes total section triplet) pending none waits)

-- what is open after one more byte, in or out of the sections
abbrev inside : Bool → List ℕ → ℕ → List ℕ → List ℕ → ℕ → Open
inside test bytes total section triplet byte = record {
  bytes = bytes ++ byte ∷ [];
  total = total + byte;
  section = if test then section_behind section byte else [];
  triplet = if test then triplet_behind section triplet byte else [];
}

byte_orders : (size : ℕ) (bytes : List ℕ) (total : ℕ) (section triplet : List ℕ) (byte : ℕ) (pending : Option Triplet) → Waits triplet pending
    → Orders pending (step_parts (judge_behind size bytes total section triplet byte)) (open_after size (front_of bytes total section triplet) byte).triplet
byte_orders size [] total section triplet byte pending waits =
    out_orders size [] total section triplet byte pending _ refl (plain_if (byte == 0x96) _ _ tt tt) waits
byte_orders size (a ∷ []) total section triplet byte pending waits =
    out_orders size (a ∷ []) total section triplet byte pending _ refl (plain_if (byte == 0x69) _ _ tt tt) waits
byte_orders size (a ∷ b ∷ []) total section triplet byte pending waits =
    out_orders size (a ∷ b ∷ []) total section triplet byte pending _ refl (plain_if (byte == size) _ _ tt tt) waits
byte_orders size (a ∷ b ∷ c ∷ []) total section triplet byte pending waits =
    out_orders size (a ∷ b ∷ c ∷ []) total section triplet byte pending _ refl (plain_rate (rate_of (byte / 16))) waits
byte_orders size (a ∷ b ∷ c ∷ d ∷ []) total section triplet byte pending waits =
    out_orders size (a ∷ b ∷ c ∷ d ∷ []) total section triplet byte pending _ refl (tt, tt) waits
byte_orders size (a ∷ b ∷ c ∷ d ∷ e ∷ []) total section triplet byte pending waits =
    out_orders size (a ∷ b ∷ c ∷ d ∷ e ∷ []) total section triplet byte pending _ refl tt waits
byte_orders size (a ∷ b ∷ c ∷ d ∷ e ∷ f ∷ []) total section triplet byte pending waits =
    out_orders size (a ∷ b ∷ c ∷ d ∷ e ∷ f ∷ []) total section triplet byte pending _ refl (tt, tt) waits
byte_orders size (a ∷ b ∷ c ∷ d ∷ e ∷ f ∷ g ∷ body) total section triplet byte pending waits =
    let bytes = a ∷ b ∷ c ∷ d ∷ e ∷ f ∷ g ∷ body in
    let front = front_of bytes total section triplet in
    let judged = λ (t : Bool). if t then judge_section (size - 11 - length body) section triplet byte else judge_footer (size - 7 - length body) f g total byte in
    let cases : (t : Bool) → nat_lt (length body + 11) size ≡ t
    → Orders pending (step_parts (judge_behind size bytes total section triplet byte)) (open_after size front byte).triplet = elim [
      | true ↦ λ is.
          let more : nat_lt (length bytes) size ≡ true = grind (arith, nat_tests) in
          orders_is pending _ (step_parts (judge_section (size - 11 - length body) section triplet byte)) _ (triplet_behind section triplet byte)
          (ap (λ t. step_parts (judged t)) is)
          (ap (λ (t : Bool). (if t then inside (nat_lt (length body + 11) size) bytes total section triplet byte else front).triplet) more
          ∙ ap (λ (t : Bool). if t then triplet_behind section triplet byte else []) is)
          (section_orders (size - 11 - length body) section triplet byte pending waits)
      | false ↦ λ is.
          let none : (inside (nat_lt (length body + 11) size) bytes total section triplet byte).triplet ≡ [] =
          ap (λ (t : Bool). if t then triplet_behind section triplet byte else []) is in
          out_orders size bytes total section triplet byte pending (inside (nat_lt (length body + 11) size) bytes total section triplet byte) none
          (subst (λ t. ArePlain (step_parts (judged t))) (sym is) (plain_footer (size - 7 - length body) f g total byte)) waits
    ] in cases _ refl

-- bytes after a front
pub reads_order : (size : ℕ) (front : Open) (bytes : List ℕ) (pending : Option Triplet) → Waits front.triplet pending
    → Orders pending (parts_from (cdp_syntax size) front bytes) (front_from (open_after size) front bytes).triplet
reads_order size front [] pending waits = record { in_order = tt; waits = waits }
reads_order size front (byte ∷ bytes) pending waits =
    let parts = step_parts (judge_cdp size front byte) in
    let one = byte_orders size front.bytes front.total front.section front.triplet byte pending waits in
    let more = reads_order size (open_after size front byte) bytes (pending_from pending parts) one.waits in record {
      in_order = in_order-append pending parts (parts_from (cdp_syntax size) (open_after size front byte) bytes) one.in_order more.in_order;
      waits = subst (Waits (front_from (open_after size) (open_after size front byte) bytes).triplet)
          (sym (front_from-append pending_after pending parts (parts_from (cdp_syntax size) (open_after size front byte) bytes))) more.waits;
    }
