-- Units of a service's lane that have a frame each, one after another, stand there, where each fits into the frame's room and no delay
-- is on.
use Rattle.std.proofs.Common.{◌≡◌, ℕ, ◌+◌, ◌<◌, ◌≤◌, false, List, [], ◌∷◌, ◌++◌, length, Option, Some, refl, arith}
use Rattle.std.specs.List.{AllByRecursion}
use Rattle.std.proofs.lemmas.Bool.Decides.{nat_tests}
use Rattle.std.proofs.lemmas.List.Sums.{sum_by-cons}
use Rattle.lanes.specs.Placing.{IsPlaced}
use Rattle.lanes.specs.ServiceLane.{AreUpTo, bytes_between, chunk_size, is_between, IsAllowedInService, used}
use Rattle.lanes.specs.Chunks.{ServiceChunk}

-- all stand before a frame
abbrev pub AreBefore : ℕ → List (ServiceChunk × ℕ) → Type 0
AreBefore frame placed = AllByRecursion (λ (each : ServiceChunk × ℕ). each.1 < frame) placed

up_to : (frame : ℕ) (placed : List (ServiceChunk × ℕ)) → AreBefore frame placed → AreUpTo frame placed
up_to frame [] before = tt
up_to frame (each ∷ placed) before = (let first = before.0 in omega (arith, first), up_to frame placed before.1)

pub before_later : (frame later : ℕ) (placed : List (ServiceChunk × ℕ)) → frame ≤ later → AreBefore frame placed → AreBefore later placed
before_later frame later [] less before = tt
before_later frame later (each ∷ placed) less before = (let first = before.0 in omega (arith, first), before_later frame later placed less before.1)

before_push : (frame : ℕ) (placed : List (ServiceChunk × ℕ)) (chunk : ServiceChunk) → AreBefore frame placed → AreBefore (frame + 1) (placed ++ (chunk, frame) ∷ [])
before_push frame [] chunk before = (omega arith, tt)
before_push frame (each ∷ placed) chunk before = (let first = before.0 in omega (arith, first), before_push frame placed chunk before.1)

-- they have no bytes from that frame on
not_between : (frame end f : ℕ) → f < frame → is_between frame end f ≡ false
not_between frame end f below = grind (arith, nat_tests)

none_used : (frame end : ℕ) (placed : List (ServiceChunk × ℕ)) → AreBefore frame placed → used frame end placed ≡ 0
none_used frame end [] before = refl
none_used frame end (each ∷ placed) before =
    let split = sum_by-cons (bytes_between frame end) each placed in
    let rest = none_used frame end placed before.1 in
    let here : bytes_between frame end each ≡ 0 = rw (not_between frame end each.1 before.0) refl in
    omega (arith, split, rest, here)

-- a unit that may stand in these frames
pub record IsWithin (low high : ℕ) (chunk : ServiceChunk) : Type 0 where
  pub load : chunk.load ≤ low
  pub until : high ≤ chunk.until
  pub size : chunk_size chunk ≤ 7

-- no delay is on in a frame
abbrev pub IsUndelayed : (ℕ → Option ℕ) → ℕ → Type 0
IsUndelayed ends frame = (start end : ℕ) → ends start ≡ Some end → start ≤ frame → frame < end → ⊥

-- units after others have a placement
abbrev pub HasFramesBehind : (ℕ → ℕ) → (ℕ → Option ℕ) → List (ServiceChunk × ℕ) → List ServiceChunk → Type 0
HasFramesBehind room ends before chunks = (frames : List ℕ) × IsPlaced (IsAllowedInService room ends) before chunks frames

-- units that have a frame each from a frame on, and those after them
pub one_each : (room : ℕ → ℕ) (ends : ℕ → Option ℕ) (low high from : ℕ) (chunks later : List ServiceChunk) (before : List (ServiceChunk × ℕ)) → AreBefore from before
    → low ≤ from → from + length chunks ≤ high → AllByRecursion (IsWithin low high) chunks → ((frame : ℕ) → 7 ≤ room frame)
    → ((frame : ℕ) → low ≤ frame → frame < high → IsUndelayed ends frame)
    → ((after : List (ServiceChunk × ℕ)) → AreBefore high after → HasFramesBehind room ends after later) → HasFramesBehind room ends before (chunks ++ later)
one_each room ends low high from [] later before behind least fits within roomy undelayed rest = rest before (before_later from high before (omega arith) behind)
one_each room ends low high from (chunk ∷ chunks) later before behind least fits within roomy undelayed rest =
    let load = within.0.load in
    let until = within.0.until in
    let size = within.0.size in
    let some = roomy from in
    let none = none_used from (from + 1) before behind in
    let more = one_each room ends low high (from + 1) chunks later (before ++ (chunk, from) ∷ []) (before_push from before chunk behind) (omega arith) (omega arith)
    within.1 roomy undelayed rest in (
      from ∷ more.0,
      (
        record {
          order = up_to from before behind;
          loaded = omega arith;
          ended = omega arith;
          fits = omega (arith, none, size, some);
          delayed = λ start end is starts ends_later. absurd (undelayed from least (omega arith) start end is starts ends_later);
        },
        more.1,
      ),
    )
