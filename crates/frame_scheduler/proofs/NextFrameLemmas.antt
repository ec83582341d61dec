-- The next frame of a plan.
use Rattle.std.proofs.Common.{◌≡◌, ◌∙◌, ◌+◌, ◌-◌, ◌^◌, ◌<◌, ◌≤◌, ℕ, zero, suc, Bool, true, false, List, [], ◌∷◌, Option, Some, None, All, length, map, ◌++◌, ap, refl, sym, subst, arith}
use Rattle.std.specs.Prelude.{if◌then◌else◌, slice_get, slice_set}
use Rattle.std.specs.Option.{option_map}
use Rattle.std.proofs.lemmas.List.Elements.{All-cons, All-head, All-nil, All-tail}
use Rattle.arrayvec.specs.ArrayVec.{ArrayVec}
use Rattle.line21_codes.specs.declared.channels.Chan.TheVariants.{Cc1, Cc3}
use Rattle.line21_codes.specs.declared.pairs.Pair.{Pair}
use Rattle.cue_lists.specs.Cadences.{cadence_of, has_slot_in, slot_from}
use Rattle.cue_lists.specs.Cadence.{Cadence}
use Rattle.cue_lists.proofs.CadenceLemmas.{slot_more, slot_no_more}
use Rattle.std.proofs.lemmas.List.Sums.{sum_by-cons}
use Rattle.lanes.specs.ServicePlan.{PlannedService}
use Rattle.frame_scheduler.specs.Blocks.{blocks_of, blocks_room, lane_block, moved_on, next_blocks}
use Rattle.frame_scheduler.specs.ServicesLeft.{HasLeft, IsNumbered}
use Rattle.frame_scheduler.specs.Columns.{Columns}
use Rattle.frame_scheduler.specs.Frames.{GivesFrom}
use Rattle.lanes.specs.FieldPlan.{PlannedField, behind_frame, given_in, lane_pair, slot_pair}
use Rattle.frame_scheduler.specs.declared.frames.FrameBytes.{FrameBytes}
use Rattle.frame_scheduler.specs.declared.frames.Plan.{Plan}

-- a step of one of the lanes in a frame
abbrev Steps : Cadence → ℕ → List PlannedField → ℕ → Option Pair → List PlannedField → Type 0
Steps cadence frame lanes index pair new = (lane : PlannedField) → slice_get lanes index ≡ Some lane
    → (pair ≡ given_in cadence frame lane) × (new ≡ slice_set lanes index (behind_frame cadence frame lane))

-- a lane that is at the first slot that isn't before a frame gives the frame's pair
pub given_is : (c : Cadence) (one : PlannedField) (f : ℕ) → one.slot ≡ slot_from c f → given_in c f one ≡ lane_pair c one f
given_is c one f at =
    subst (λ k. given_in c f one ≡ option_map (slot_pair one) (if has_slot_in c f then Some k else None)) at (by_test (has_slot_in c f))
  where
    by_test : (b : Bool) → (if b then Some (slot_pair one one.slot) else None) ≡ option_map (slot_pair one) (if b then Some one.slot else None)
    by_test true = refl
    by_test false = refl

-- after the frame it is at the first slot that isn't before the next
pub behind_at : (c : Cadence) (one : PlannedField) (f : ℕ) → one.slot ≡ slot_from c f → (behind_frame c f one).slot ≡ slot_from c (f + 1)
behind_at c one f at = by_test (has_slot_in c f) refl
  where
    next : suc f ≡ f + 1
    next = omega arith

    by_test : (b : Bool) → has_slot_in c f ≡ b → (if has_slot_in c f then one.slot + 1 else one.slot) ≡ slot_from c (f + 1)
    by_test true test =
        let more : slot_from c (suc f) ≡ suc (slot_from c f) = slot_more c f test in
        let one_more : one.slot + 1 ≡ suc (slot_from c f) = omega arith in
        rw test (one_more ∙ sym more ∙ ap (slot_from c) next)
    by_test false test = rw test (at ∙ sym (slot_no_more c f test) ∙ ap (slot_from c) next)

-- a lane that is put in its own place changes nothing
set_own : (lanes : List PlannedField) (index : ℕ) (lane : PlannedField) → slice_get lanes index ≡ Some lane → slice_set lanes index lane ≡ lanes
set_own [] index lane is = refl
set_own (one ∷ rest) zero lane is = let same : one ≡ lane = cc in ap (λ (l : PlannedField). l ∷ rest) (sym same)
set_own (one ∷ rest) (suc index) lane is = ap (λ (l : List PlannedField). one ∷ l) (set_own rest index lane is)

-- so a frame without a slot leaves a lane as it is
pub none_given : (c : Cadence) (f : ℕ) (lanes : List PlannedField) (index : ℕ) → has_slot_in c f ≡ false → (lane : PlannedField) → slice_get lanes index ≡ Some lane
    → (◌≡◌ {A = Option Pair} None (given_in c f lane)) × (lanes ≡ slice_set lanes index (behind_frame c f lane))
none_given c f lanes index none lane is = rw none (refl, sym (set_own lanes index lane is))

-- what a frame carries, by its parts
frame_same : (a b c d : Option Pair) (blocks : ArrayVec ℕ) (items : List ℕ) → a ≡ b → c ≡ d → blocks.items ≡ items
    → ◌≡◌ {A = FrameBytes} (record { one = a; two = c; blocks = blocks }) (record { one = b; two = d; blocks = record { items = items } })
frame_same a b c d blocks items one two is =
    let same : blocks ≡ record { items = items } = ap (λ (items : List ℕ). record { items = items }) is in
    rw (one, two, same) refl

-- the blocks that come next are the blocks of the frame that all lanes are at
next_at : (planned : List PlannedService) (frame : ℕ) → All (λ one. one.frame ≡ frame) planned → next_blocks planned ≡ blocks_of planned frame
next_at [] frame at = refl
next_at (one ∷ rest) frame at =
    let here : one.frame ≡ frame = All-head (λ (p : PlannedService). p.frame ≡ frame) one rest at in
    let more = next_at rest frame (All-tail (λ (p : PlannedService). p.frame ≡ frame) one rest at) in
    ap (λ n. lane_block n one ++ next_blocks rest) here ∙ ap (λ l. lane_block frame one ++ l) more

-- lanes that have moved on have the same blocks, and are at the next frame
moved_blocks : (planned : List PlannedService) (frame : ℕ) → blocks_of (map moved_on planned) frame ≡ blocks_of planned frame
moved_blocks [] frame = refl
moved_blocks (one ∷ rest) frame = ap (λ l. lane_block frame one ++ l) (moved_blocks rest frame)

moved_at : (planned : List PlannedService) (frame : ℕ) → All (λ one. one.frame ≡ frame) planned → All (λ one. one.frame ≡ frame + 1) (map moved_on planned)
moved_at [] frame at = All-nil (λ (p : PlannedService). p.frame ≡ frame + 1)
moved_at (one ∷ rest) frame at =
    All-cons (λ (p : PlannedService). p.frame ≡ frame + 1) (moved_on one) (map moved_on rest)
    (ap (λ n. n + 1) (All-head (λ (p : PlannedService). p.frame ≡ frame) one rest at))
    (moved_at rest frame (All-tail (λ (p : PlannedService). p.frame ≡ frame) one rest at))

-- what is kept of the lanes of services in a step
pub moved_left : (planned : List PlannedService) (left : ℕ) → 1 ≤ left → All (HasLeft left) planned → All (HasLeft (left - 1)) (map moved_on planned)
moved_left [] left some has = All-nil (HasLeft (left - 1))
moved_left (one ∷ rest) left some has =
    let here : left + one.frame < 2 ^ 32 = All-head (HasLeft left) one rest has in
    let next : left - 1 + (one.frame + 1) < 2 ^ 32 = omega arith in
    All-cons (HasLeft (left - 1)) (moved_on one) (map moved_on rest) next (moved_left rest left some (All-tail (HasLeft left) one rest has))

pub moved_small : (planned : List PlannedService) (left : ℕ) → 1 ≤ left → All (HasLeft left) planned → All (λ one. one.frame + 1 < 2 ^ 32) planned
moved_small [] left some has = All-nil (λ (p : PlannedService). p.frame + 1 < 2 ^ 32)
moved_small (one ∷ rest) left some has =
    let here : left + one.frame < 2 ^ 32 = All-head (HasLeft left) one rest has in
    All-cons (λ (p : PlannedService). p.frame + 1 < 2 ^ 32) one rest (omega arith) (moved_small rest left some (All-tail (HasLeft left) one rest has))

pub moved_numbered : (planned : List PlannedService) → All IsNumbered planned → All IsNumbered (map moved_on planned)
moved_numbered [] all = All-nil IsNumbered
moved_numbered (one ∷ rest) all =
    let here = All-head IsNumbered one rest all in
    All-cons IsNumbered (moved_on one) (map moved_on rest) (record { least = here.least; most = here.most })
    (moved_numbered rest (All-tail IsNumbered one rest all))

pub moved_room : (planned : List PlannedService) → blocks_room (map moved_on planned) ≡ blocks_room planned
moved_room [] = refl
moved_room (one ∷ rest) =
    let more = moved_room rest in
    let left = sum_by-cons (λ (p : PlannedService). p.share + 1) (moved_on one) (map moved_on rest) in
    let right = sum_by-cons (λ (p : PlannedService). p.share + 1) one rest in
    omega (arith, more, left, right)

pub next_frame : (columns : Columns) (frame : ℕ) (old new : Plan) (a b : Option Pair) (mid : List PlannedField) (blocks : ArrayVec ℕ) (c d : Cadence)
    → c ≡ cadence_of old.rate Cc1 → d ≡ cadence_of old.rate Cc3 → GivesFrom columns frame old
    → Steps c old.frame old.lanes 0 a mid → Steps d old.frame mid 1 b new.lanes
    → new.rate ≡ old.rate → new.frame ≡ old.frame + 1 → blocks.items ≡ next_blocks old.services.items
    → new.services.items ≡ map moved_on old.services.items
    → (◌≡◌ {A = FrameBytes} (record { one = a; two = b; blocks = blocks }) (columns frame)) × GivesFrom columns (frame + 1) new
next_frame columns frame old new a b mid blocks c d c_is d_is gives on_first on_second rate on blocks_are services_are =
    let first : Steps (cadence_of old.rate Cc1) old.frame old.lanes 0 a mid = subst (λ k. Steps k old.frame old.lanes 0 a mid) c_is on_first in
    let second : Steps (cadence_of old.rate Cc3) old.frame mid 1 b new.lanes = subst (λ k. Steps k old.frame mid 1 b new.lanes) d_is on_second in
    let one = first gives.one (ap (λ lanes. slice_get lanes 0) gives.lanes) in
    let mid_is : mid ≡ behind_frame (cadence_of old.rate Cc1) old.frame gives.one ∷ gives.two ∷ [] =
    one.1 ∙ ap (λ lanes. slice_set lanes 0 (behind_frame (cadence_of old.rate Cc1) old.frame gives.one)) gives.lanes in
    let two = second gives.two (ap (λ lanes. slice_get lanes 1) mid_is) in
    let new_is : new.lanes ≡ behind_frame (cadence_of old.rate Cc1) old.frame gives.one ∷ behind_frame (cadence_of old.rate Cc3) old.frame gives.two ∷ [] =
    two.1 ∙ ap (λ lanes. slice_set lanes 1 (behind_frame (cadence_of old.rate Cc3) old.frame gives.two)) mid_is in
    let one_at : gives.one.slot ≡ slot_from (cadence_of old.rate Cc1) old.frame = gives.one_at ∙ ap (slot_from (cadence_of old.rate Cc1)) (sym gives.frame_is) in
    let two_at : gives.two.slot ≡ slot_from (cadence_of old.rate Cc3) old.frame = gives.two_at ∙ ap (slot_from (cadence_of old.rate Cc3)) (sym gives.frame_is) in (
      frame_same a (lane_pair (cadence_of old.rate Cc1) gives.one old.frame) b (lane_pair (cadence_of old.rate Cc3) gives.two old.frame) blocks (blocks_of old.services.items old.frame)
          (one.0 ∙ given_is (cadence_of old.rate Cc1) gives.one old.frame one_at)
          (two.0 ∙ given_is (cadence_of old.rate Cc3) gives.two old.frame two_at)
          (blocks_are ∙ next_at old.services.items old.frame (subst (λ n. All (λ (p : PlannedService). p.frame ≡ n) old.services.items) (sym gives.frame_is) gives.services_at))
          ∙ sym (gives.column_is old.frame) ∙ ap columns gives.frame_is,
      record {
        one = behind_frame (cadence_of old.rate Cc1) old.frame gives.one;
        two = behind_frame (cadence_of old.rate Cc3) old.frame gives.two;
        lanes = new_is;
        frame_is = on ∙ ap (λ (n : ℕ). n + 1) gives.frame_is;
        one_at = behind_at (cadence_of old.rate Cc1) gives.one old.frame one_at ∙ ap (λ n. slot_from (cadence_of old.rate Cc1) (n + 1)) gives.frame_is
            ∙ ap (λ r. slot_from (cadence_of r Cc1) (frame + 1)) (sym rate);
        two_at = behind_at (cadence_of old.rate Cc3) gives.two old.frame two_at ∙ ap (λ n. slot_from (cadence_of old.rate Cc3) (n + 1)) gives.frame_is
            ∙ ap (λ r. slot_from (cadence_of r Cc3) (frame + 1)) (sym rate);
        services_at = subst (All (λ (p : PlannedService). p.frame ≡ frame + 1)) (sym services_are) (moved_at old.services.items frame gives.services_at);
        column_is = λ n.
            let same : blocks_of old.services.items n ≡ blocks_of new.services.items n =
            sym (moved_blocks old.services.items n) ∙ ap (λ l. blocks_of l n) (sym services_are) in
            subst (λ items. columns n ≡ record {
              one = lane_pair (cadence_of new.rate Cc1) gives.one n;
              two = lane_pair (cadence_of new.rate Cc3) gives.two n;
              blocks = record { items = items };
            }) same
            (subst (λ r. columns n ≡ record {
              one = lane_pair (cadence_of r Cc1) gives.one n;
              two = lane_pair (cadence_of r Cc3) gives.two n;
              blocks = record { items = blocks_of old.services.items n };
            }) (sym rate) (gives.column_is n));
      },
    )

-- two lanes
two_of : (lanes : List PlannedField) → length lanes ≡ 2 → (one : PlannedField) × (two : PlannedField) × (lanes ≡ one ∷ two ∷ [])
two_of [] long = absurd (omega arith)
two_of (one ∷ []) long = absurd (omega arith)
two_of (one ∷ (two ∷ [])) long = (one, two, refl)
two_of (one ∷ (two ∷ (three ∷ rest))) long = absurd (omega arith)

-- the slots that are left for a lane
abbrev Within : ℕ → PlannedField → Type 0
Within left lane = left + lane.slot < 2 ^ 32

-- the slots that are left for each of two lanes
both_within : (lanes : List PlannedField) (left : ℕ) → All (Within left) lanes → (one two : PlannedField) → lanes ≡ one ∷ two ∷ [] → Within left one × Within left two
both_within lanes left within one two is =
    let all : All (Within left) (one ∷ two ∷ []) = subst (All (Within left)) is within in
    (All-head (Within left) one (two ∷ []) all, All-head (Within left) two [] (All-tail (Within left) one (two ∷ []) all))

-- before a step
pub first_left : (lanes : List PlannedField) (left : ℕ) → length lanes ≡ 2 → 1 ≤ left → All (Within left) lanes
    → (lane : PlannedField) → slice_get lanes 0 ≡ Some lane → lane.slot + 1 < 2 ^ 32
first_left lanes left long some within lane at =
    let two = two_of lanes long in
    let low : left + two.0.slot < 2 ^ 32 = (both_within lanes left within two.0 two.1 two.2).0 in
    let is : Some two.0 ≡ Some lane = sym (ap (λ l. slice_get l 0) two.2) ∙ at in
    let same : two.0 ≡ lane = cc in
    subst (λ (p : PlannedField). p.slot + 1 < 2 ^ 32) same (omega arith)

-- one step takes at most one slot
behind_low : (c : Cadence) (f left : ℕ) (one : PlannedField) → 1 ≤ left → Within left one → Within (left - 1) (behind_frame c f one)
behind_low c f left one some within = by_test (has_slot_in c f)
  where
    by_test : (b : Bool) → left - 1 + (if b then one.slot + 1 else one.slot) < 2 ^ 32
    by_test true = omega arith
    by_test false = omega arith

module _ (c : Cadence) (f : ℕ) (lanes mid : List PlannedField) (left : ℕ) (a : Option Pair) (long : length lanes ≡ 2) (some : 1 ≤ left)
    (within : All (Within left) lanes) (first : Steps c f lanes 0 a mid) where
  mid_is : (one two : PlannedField) → lanes ≡ one ∷ two ∷ [] → mid ≡ behind_frame c f one ∷ two ∷ []
  mid_is one two is = (first one (ap (λ l. slice_get l 0) is)).1 ∙ ap (λ l. slice_set l 0 (behind_frame c f one)) is

  -- between both steps
  pub second_left : (lane : PlannedField) → slice_get mid 1 ≡ Some lane → lane.slot + 1 < 2 ^ 32
  second_left lane at =
      let two = two_of lanes long in
      let w = both_within lanes left within two.0 two.1 two.2 in
      let is : Some two.1 ≡ Some lane = sym (ap (λ l. slice_get l 1) (mid_is two.0 two.1 two.2)) ∙ at in
      let same : two.1 ≡ lane = cc in
      let low : left + two.1.slot < 2 ^ 32 = w.1 in
      subst (λ (p : PlannedField). p.slot + 1 < 2 ^ 32) same (omega arith)

  -- and after them
  pub both_left : (d : Cadence) (new : List PlannedField) (b : Option Pair) → Steps d f mid 1 b new → All (Within (left - 1)) new
  both_left d new b second =
      let two = two_of lanes long in
      let w = both_within lanes left within two.0 two.1 two.2 in
      let m = mid_is two.0 two.1 two.2 in
      let is : new ≡ behind_frame c f two.0 ∷ behind_frame d f two.1 ∷ [] =
      (second two.1 (ap (λ l. slice_get l 1) m)).1 ∙ ap (λ l. slice_set l 1 (behind_frame d f two.1)) m in
      subst (All (Within (left - 1))) (sym is)
      (All-cons (Within (left - 1)) (behind_frame c f two.0) (behind_frame d f two.1 ∷ []) (behind_low c f left two.0 some w.0)
      (All-cons (Within (left - 1)) (behind_frame d f two.1) [] (behind_low d f left two.1 some w.1) (All-nil (Within (left - 1)))))
