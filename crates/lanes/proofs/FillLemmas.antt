-- More units in the frame of the last one.
use Rattle.std.proofs.Common.{◌≡◌, ◌∙◌, ℕ, zero, suc, ◌+◌, ◌-◌, ◌<◌, ◌≤◌, Bool, true, false, ◌&&◌, List, [], ◌∷◌, ◌++◌, Option, Some, None, refl, sym, ap, subst, arith, length, get_or, length-append, map, take}
use Rattle.std.specs.List.{concat}
use Rattle.std.proofs.lemmas.List.{get_or-map, length-map}
use Rattle.std.specs.Prelude.{nat_le}
use Rattle.std.proofs.lemmas.Bool.{and_parts}
use Rattle.std.proofs.lemmas.Bool.Decides.{nat_tests}
use Rattle.lanes.specs.declared.budget.Budget.{Budget}
use Rattle.dtvcc_author.specs.Packed.{bytes_before}
use Rattle.dtvcc_author.specs.declared.caption.Caption.{Caption}
use Rattle.lanes.specs.CueChunks.{chunk_in}
use Rattle.lanes.specs.ServicePlacing.{FillsFrame, IsPlacing}
use Rattle.lanes.specs.ServiceRoom.{IsFront, behind_taking, has_left, spent_of, takes}
use Rattle.lanes.specs.Chunks.{ServiceChunk}
use Rattle.lanes.specs.declared.cue_load.CueLoad.{CueLoad}
use Rattle.lanes.specs.declared.service_front.Front.{Front}
use Rattle.lanes.specs.declared.placing.Placing.{Placing}
use Rattle.lanes.proofs.FrontLemmas.{allowed_now, front_push}
use Rattle.lanes.proofs.PlacingSteps.{IsPlaced, placing_next}

both_hold : (a b : Bool) → a ≡ true → b ≡ true → (a && b) ≡ true
both_hold true true p q = refl
both_hold true false p q = q
both_hold false b p q = p

le_test : (a b : ℕ) → a ≤ b → nat_le a b ≡ true
le_test a b low = grind (arith, nat_tests)

le_told : (a b : ℕ) → nat_le a b ≡ true → a ≤ b
le_told a b low = grind (arith, nat_tests)

-- bytes that are taken in two parts
spent_twice : (budget : Option Budget) (a b : ℕ) → spent_of (spent_of budget a) b ≡ spent_of budget (a + b)
spent_twice None a b = refl
spent_twice (Some budget) a b =
    let less : budget.left - a - b ≡ budget.left - (a + b) = omega arith in ap (λ n. Some (record budget { left = n })) less

taken_twice : (front : Front) (a b : ℕ) → behind_taking (behind_taking front a) b ≡ behind_taking front (a + b)
taken_twice front a b =
    let less : front.room - a - b ≡ front.room - (a + b) = omega arith in
    ap (λ n. record front { room = n; budget = spent_of (spent_of front.budget a) b }) less
    ∙ ap (λ o. record front { room = front.room - (a + b); budget = o }) (spent_twice front.budget a b)

left_rest : (budget : Option Budget) (a b : ℕ) → has_left budget (a + b) ≡ true → has_left (spent_of budget a) b ≡ true
left_rest None a b has = refl
left_rest (Some budget) a b has = le_test b (budget.left - a) (let low = le_told (a + b) budget.left has in omega (arith, low))

takes_rest : (front : Front) (a b : ℕ) → takes front (a + b) ≡ true → takes (behind_taking front a) b ≡ true
takes_rest front a b has =
    let parts = and_parts (nat_le (a + b) front.room) (has_left front.budget (a + b)) has in
    both_hold (nat_le b (front.room - a)) (has_left (spent_of front.budget a) b)
    (le_test b (front.room - a) (let low = le_told (a + b) front.room parts.0 in omega (arith, low)))
    (left_rest front.budget a b parts.1)

-- units of this many bytes more are placed, up to this many units in all
abbrev pub filled : Placing → ℕ → ℕ → Placing
filled placing size units = record {
  batches = placing.batches;
  last = record { frame = placing.last.frame; units = units; bytes = placing.last.bytes + size };
  front = behind_taking placing.front size;
}

pub filled_next : (share : ℕ) (cs : List Caption) (us : List ServiceChunk) (cue : CueLoad) (units : List (List ℕ)) (old : Placing) (end size index : ℕ)
    → FillsFrame cs cue units us old end → old.last.units ≤ index → index < end → takes old.front (size + length (get_or units index [])) ≡ true
    → IsPlacing share cs us (filled old size index)
    → IsPlacing share cs us (filled old (size + length (get_or units index [])) (index + 1))
filled_next share cs us cue units old end size index fills from to has is =
    let unit = get_or units index [] in
    let chunk = chunk_in cue unit in
    let front = behind_taking old.front size in
    let fits : takes front (length unit) ≡ true = takes_rest old.front size (length unit) has in
    let admitted : (nat_le cue.load front.frame && takes front (length unit)) ≡ true =
    both_hold (nat_le cue.load front.frame) (takes front (length unit)) (le_test cue.load front.frame fills.stand.loaded) fits in
    let placed : IsPlaced share cs chunk front (behind_taking old.front (size + length unit)) front.frame = record {
      first = λ before here behind.
          record {
            holds = allowed_now fills.kept.0 fills.kept.1.0 share cs before front chunk fills.kept.1.1 here fills.stand.ended admitted;
            first = λ other allowed. behind other allowed.order;
          };
      front = λ before here.
          subst (λ f. IsFront share cs (before ++ (chunk, front.frame) ∷ []) f) (taken_twice old.front size (length unit))
          (front_push share cs before front chunk here fits);
      at = refl;
    } in
    placing_next share cs us cue units (filled old size index) (filled old (size + length unit) (index + 1))
    (record { frame = old.last.frame; units = index + 1; bytes = old.last.bytes + (size + length unit) }) is (fills.of_cue index from to)
    (subst (λ f. IsPlaced share cs chunk front (behind_taking old.front (size + length unit)) f) (sym is.frame) placed) refl (omega arith) refl
    (λ same. refl) (λ other. absurd (other refl))

-- none more, to begin with
pub filled_start : (share : ℕ) (cs : List Caption) (us : List ServiceChunk) (old : Placing) → IsPlacing share cs us old → IsPlacing share cs us (filled old 0 old.last.units)
filled_start share cs us old is =
    let bytes : old.last.bytes ≡ old.last.bytes + 0 = omega arith in
    let room : old.front.room ≡ old.front.room - 0 = omega arith in
    subst
    (λ n. IsPlacing share cs us
    (record { batches = old.batches; last = record { frame = old.last.frame; units = old.last.units; bytes = n }; front = behind_taking old.front 0 })) bytes
    (subst (λ n. IsPlacing share cs us (record old { front = record old.front { room = n; budget = spent_of old.front.budget 0 } })) room
    (subst (λ o. IsPlacing share cs us (record old { front = record old.front { budget = o } })) (spent_none old.front.budget) is))
  where
    spent_none : (budget : Option Budget) → budget ≡ spent_of budget 0
    spent_none None = refl
    spent_none (Some budget) = let left : budget.left ≡ budget.left - 0 = omega arith in ap (λ n. Some (record budget { left = n })) left

-- the length of a unit is read
pub length_read : (units : List (List ℕ)) (lengths : List ℕ) (index : ℕ) → lengths ≡ map length units → index < length lengths
    → (index < length units) × (get_or lengths index 0 ≡ length (get_or units index []))
length_read units lengths index are within =
    let there : index < length units = omega (arith, ap length are, length-map units length) in
    (there, ap (λ l. get_or l index 0) are ∙ get_or-map length units index [] 0 there)

-- the units before one have some of the bytes
pub before_within : (units : List (List ℕ)) (index : ℕ) → bytes_before index units ≤ length (concat units)
before_within [] zero = omega arith
before_within [] (suc index) = omega arith
before_within (unit ∷ units) zero = omega arith
before_within (unit ∷ units) (suc index) =
    let rest = before_within units index in
    let front = length-append unit (concat (take index units)) in
    let whole = length-append unit (concat units) in
    omega (arith, rest, front, whole)
