-- The first cue without room among some lanes, from those among parts of them.
use Rattle.std.proofs.Common.{◌≡◌, ◌<◌, ◌⊎◌, inl, inr, ℕ, sym, subst, arith, min}
use Rattle.std.proofs.lemmas.Bool.{cases_lt}
use Rattle.cue_lists.specs.Listing.{Listing}
use Rattle.cue_lists.specs.declared.lane.Lane.{Lane}
use Rattle.lanes.specs.declared.planning.PlanFault.{PlanFault}
use Rattle.lanes.specs.declared.planning.PlanFault.TheVariants.{Memory, NoRoom}
use Rattle.frame_scheduler.specs.LaneSets.{IsFaultIn, IsFirstIn, earlier_fault}
use Rattle.frame_scheduler.specs.Planned.{LaneHasRoom}

-- each cue has room on the lane
abbrev pub IsRoomy : Listing → Lane → Type 0
IsRoomy l on = (cue : ℕ) → LaneHasRoom l on cue

-- lanes of which each is in one part, or in the other, or has room
module _ (l : Listing) (P Q R : Lane → Type 0) (cover : (on : Lane) → R on → P on ⊎ (Q on ⊎ IsRoomy l on))
    (in_p : (on : Lane) → P on → R on) (in_q : (on : Lane) → Q on → R on) where
  -- where both parts have room for a cue, all have
  room_for : (cue : ℕ) → ((on : Lane) → P on → LaneHasRoom l on cue) → ((on : Lane) → Q on → LaneHasRoom l on cue) → (on : Lane) → R on → LaneHasRoom l on cue
  room_for cue one two on in_r = at (cover on in_r)
    where
      at : P on ⊎ (Q on ⊎ IsRoomy l on) → LaneHasRoom l on cue
      at (inl p) = one on p
      at (inr (inl q)) = two on q
      at (inr (inr roomy)) = roomy cue

  pub first_of_p : (cue : ℕ) → IsFirstIn P l cue → ((earlier : ℕ) → earlier < cue → (on : Lane) → Q on → LaneHasRoom l on earlier) → IsFirstIn R l cue
  first_of_p cue one two = record {
    none = (one.none.0, in_p one.none.0 one.none.1, one.none.2);
    first = λ earlier below. room_for earlier (one.first earlier below) (two earlier below);
  }

  pub first_of_q : (cue : ℕ) → IsFirstIn Q l cue → ((earlier : ℕ) → earlier < cue → (on : Lane) → P on → LaneHasRoom l on earlier) → IsFirstIn R l cue
  first_of_q cue two one = record {
    none = (two.none.0, in_q two.none.0 two.none.1, two.none.2);
    first = λ earlier below. room_for earlier (one earlier below) (two.first earlier below);
  }

  pub first_of_both : (a b : ℕ) → IsFirstIn P l a → IsFirstIn Q l b → IsFirstIn R l (min a b)
  first_of_both a b one two =
      elim (cases_lt a b) [
        | inl less ↦ let is : min a b ≡ a = omega arith in
            subst (λ cue. IsFirstIn R l cue) (sym is) (first_of_p a one (λ earlier below. two.first earlier (omega arith)))
        | inr most ↦ let is : min a b ≡ b = omega arith in
            subst (λ cue. IsFirstIn R l cue) (sym is) (first_of_q b two (λ earlier below. one.first earlier (omega arith)))
      ]

  -- the fault of one part beside the other, which has room
  pub fault_of_p : (fault : PlanFault) → IsFaultIn P l fault → ((on : Lane) → Q on → IsRoomy l on) → IsFaultIn R l fault
  fault_of_p (Memory error) one two = tt
  fault_of_p (NoRoom cue) one two = first_of_p cue one (λ earlier below on q. two on q earlier)

  pub fault_of_q : (fault : PlanFault) → IsFaultIn Q l fault → ((on : Lane) → P on → IsRoomy l on) → IsFaultIn R l fault
  fault_of_q (Memory error) two one = tt
  fault_of_q (NoRoom cue) two one = first_of_q cue two (λ earlier below on p. one on p earlier)

  -- and the faults of both
  pub fault_of_both : (one two : PlanFault) → IsFaultIn P l one → IsFaultIn Q l two → IsFaultIn R l (earlier_fault one two)
  fault_of_both (NoRoom a) (NoRoom b) one two = first_of_both a b one two
  fault_of_both (NoRoom a) (Memory error) one two = tt
  fault_of_both (Memory error) fault one two = tt
