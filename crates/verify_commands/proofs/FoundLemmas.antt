-- What is found first at a frame is one.
use Rattle.std.proofs.Common.{◌≡◌, ◌∙◌, ◌+◌, ◌%◌, ◌≤◌, ◌++◌, ap, append-nil, arith, length, length-append, refl, sym, ℕ, List, [], ◌∷◌}
use Rattle.cc_verifier.specs.Findings.{IsFound, Jumps, place_of}
use Rattle.cdp_packets.specs.Packets.{Frame}
use Rattle.cue_types.specs.Lane.{channel_number}
use Rattle.cue_types.specs.Listing.{Listing}
use Rattle.findings.specs.First.{IsFirstTried}
use Rattle.findings.specs.declared.finding.Kind45.{Kind45}
use Rattle.findings.specs.declared.finding.Kind45.TheVariants as kind
use Rattle.findings.specs.declared.finding.Which.TheVariants as which
use Rattle.line21_codes.specs.declared.channels.Chan.{Chan}
use Rattle.line21_codes.specs.declared.channels.Chan.TheVariants.{Cc1, Cc2, Cc3, Cc4}
use Rattle.words_files.proofs.FrontLemmas.{TwoFronts, before_it, behind_it, same, two_fronts}

-- the last of a list is one
last_by : (one other : List Frame) (a b : Frame) → one ++ a ∷ [] ≡ other ++ b ∷ [] → TwoFronts one (a ∷ []) other b → a ≡ b
last_by one other a b is (behind_it more longer) =
    let all = sym (length-append one (a ∷ [])) ∙ ap length is ∙ length-append other (b ∷ []) in
    let size = ap length longer ∙ length-append (other ++ b ∷ []) more in
    let front = length-append other (b ∷ []) in
    absurd (omega arith)
last_by one other a b is (same fronts more left) = cc
last_by one other a b is (before_it item more left longer rest) =
    let all = sym (length-append one (a ∷ [])) ∙ ap length is ∙ length-append other (b ∷ []) in
    let size = ap length longer ∙ length-append (one ++ item ∷ []) more in
    let front = length-append one (item ∷ []) in
    absurd (omega arith)

pub last_once : (one other : List Frame) (a b : Frame) → one ++ a ∷ [] ≡ other ++ b ∷ [] → a ≡ b
last_once one other a b is = last_by one other a b is (two_fronts one (a ∷ []) other [] b (is ∙ sym (append-nil (other ++ b ∷ []))))

expected_once : (earlier : List Frame) (last : Frame) (a b c d : ℕ) → Jumps earlier last a b → Jumps earlier last c d → a ≡ c
expected_once earlier last a b c d one other =
    one.expected_is ∙ ap (λ (f : Frame). (f.counter + 1) % 65536) (last_once one.before other.before one.former other.former (sym one.came ∙ other.came)) ∙ sym other.expected_is

-- the numbers of channels
pub within : (chan : Chan) → (1 ≤ channel_number chan) × (channel_number chan ≤ 4)
within Cc1 = (omega arith, omega arith)
within Cc2 = (omega arith, omega arith)
within Cc3 = (omega arith, omega arith)
within Cc4 = (omega arith, omega arith)

number_once : (a b : Chan) → channel_number a ≡ channel_number b → a ≡ b
number_once Cc1 Cc1 is = refl
number_once Cc2 Cc2 is = refl
number_once Cc3 Cc3 is = refl
number_once Cc4 Cc4 is = refl
number_once _ _ is = absurd (omega arith)

-- what is found at one place of the order is one
found_at_place : (list : Listing) (earlier : List Frame) (last : Frame) (a b : Kind45) → IsFound list earlier last a → IsFound list earlier last b → place_of a ≡ place_of b → a ≡ b
found_at_place list earlier last (kind.TwoPairs a) _ one other is = absurd one
found_at_place list earlier last _ (kind.TwoPairs b) one other is = absurd other
found_at_place list earlier last kind.EightBits _ one other is = absurd one
found_at_place list earlier last _ kind.EightBits one other is = absurd other
found_at_place list earlier last (kind.CounterJump a b) (kind.CounterJump c d) one other is =
    rw (expected_once earlier last a b c d one other, one.seen_is, other.seen_is) refl
found_at_place list earlier last (kind.WrongCount a b) (kind.WrongCount c d) one other is = rw (one.expected_is, other.expected_is, one.seen_is, other.seen_is) refl
found_at_place list earlier last (kind.WrongRate a b) (kind.WrongRate c d) one other is = rw (one.0, other.0, one.1, other.1) refl
found_at_place list earlier last (kind.BufferFull a) (kind.BufferFull b) one other is = ap kind.BufferFull (omega arith)
found_at_place list earlier last (kind.BufferFull a) (kind.GridDiffers (which.Chan b)) one other is =
    let most = one.0.to in let least = (within b).0 in absurd (omega arith)
found_at_place list earlier last (kind.BufferFull a) (kind.GridDiffers (which.Service b)) one other is = let most = one.0.to in absurd (omega arith)
found_at_place list earlier last (kind.BufferFull a) _ one other is = let least = one.0.from in absurd (omega arith)
found_at_place list earlier last (kind.GridDiffers (which.Chan a)) (kind.BufferFull b) one other is =
    let most = other.0.to in let least = (within a).0 in absurd (omega arith)
found_at_place list earlier last (kind.GridDiffers (which.Chan a)) (kind.GridDiffers (which.Chan b)) one other is =
    ap (λ c. kind.GridDiffers (which.Chan c)) (number_once a b (omega arith))
found_at_place list earlier last (kind.GridDiffers (which.Chan a)) (kind.GridDiffers (which.Service b)) one other is =
    let most = (within a).1 in let least = other.0.from in absurd (omega arith)
found_at_place list earlier last (kind.GridDiffers (which.Service a)) (kind.BufferFull b) one other is = let most = other.0.to in absurd (omega arith)
found_at_place list earlier last (kind.GridDiffers (which.Service a)) (kind.GridDiffers (which.Chan b)) one other is =
    let most = (within b).1 in let least = one.0.from in absurd (omega arith)
found_at_place list earlier last (kind.GridDiffers (which.Service a)) (kind.GridDiffers (which.Service b)) one other is =
    ap (λ s. kind.GridDiffers (which.Service s)) (omega arith)
found_at_place list earlier last (kind.WrongRate a b) (kind.BufferFull c) one other is = let least = other.0.from in absurd (omega arith)
found_at_place list earlier last (kind.GridDiffers (which.Chan a)) _ one other is = absurd (omega arith)
found_at_place list earlier last (kind.GridDiffers (which.Service a)) _ one other is = absurd (omega arith)
found_at_place list earlier last _ (kind.GridDiffers (which.Chan b)) one other is = absurd (omega arith)
found_at_place list earlier last _ (kind.GridDiffers (which.Service b)) one other is = absurd (omega arith)
found_at_place list earlier last _ _ one other is = absurd (omega arith)

pub found_once : (list : Listing) (earlier : List Frame) (last : Frame) (a b : Kind45) → IsFirstTried (IsFound list earlier last) place_of a → IsFirstTried (IsFound list earlier last) place_of b → a ≡ b
found_once list earlier last a b one other =
    let below = one.first b other.holds in
    let above = other.first a one.holds in
    found_at_place list earlier last a b one.holds other.holds (omega arith)
