-- The lanes of services, one after another.
use Rattle.std.proofs.Common.{◌≡◌, ◌∙◌, ◌<◌, ◌≤◌, ◌⊎◌, inl, inr, ◌==◌, ℕ, zero, suc, Bool, true, false, List, [], ◌∷◌, ◌++◌, ap, sym, subst, refl, arith, Some, None, Option, Result, Ok, Err, IfOk, IfErr, All, append-nil}
use Rattle.std.specs.Prelude.{is_some, if◌then◌else◌, option_map, find, unwrap_or, Vec}
use Rattle.std.specs.Global.{Global}
use Rattle.std.proofs.lemmas.Bool.{cases_eq, cases_lt, eqb-true}
use Rattle.std.proofs.lemmas.List.Elements.{All-head, All-tail}
use Rattle.std.proofs.lemmas.Result.{IfErr-weaker}
use Rattle.cc_base.specs.declared.rate.Rate.{Rate}
use Rattle.dtvcc_author.specs.Captions.{service_captions}
use Rattle.lanes.specs.ServiceChunks.{service_chunks}
use Rattle.cue_lists.specs.declared.cue.Cue.{Cue}
use Rattle.cue_lists.specs.Listing.{IsFormed, Listing, share_of}
use Rattle.cue_lists.specs.Rules.{IsRuled}
use Rattle.cue_lists.specs.Shares.{IsShare}
use Rattle.cue_lists.specs.declared.lane.Lane.{Lane}
use Rattle.cue_lists.specs.declared.lane.Lane.TheVariants.{Channel, Service}
use Rattle.cue_lists.specs.declared.list.Share.{Share}
use Rattle.lanes.specs.Placing.{IsEarliest}
use Rattle.lanes.specs.declared.planning.PlanFault.{PlanFault}
use Rattle.lanes.specs.declared.planning.PlanFault.TheVariants.{Memory, NoRoom}
use Rattle.lanes.proofs.PlacingLemmas.{earliest_none}
use Rattle.lanes.specs.ServicePlan.{IsServiceFault, IsServicePlan, PlannedService}
use Rattle.lanes.proofs.ChunkOrderLemmas.{none_sent}
use Rattle.frame_scheduler.specs.LaneSets.{IsFaultIn, IsServiceBelow}
use Rattle.frame_scheduler.specs.Planned.{IsLanePlaced, captions_in, chunks_in, service_lane_of, share_in}
use Rattle.frame_scheduler.specs.ServicePlans.{AreServices, AreServicesPlanned, IsBeside, IsServicePlanned, shared_below}
use Rattle.frame_scheduler.proofs.LaneSetLemmas.{IsRoomy, fault_of_both, fault_of_p, fault_of_q}
use Rattle.frame_scheduler.proofs.LanesLemmas.{IsOnly, service_fault, service_room}

pub planned_roomy : (l : Listing) (service : ℕ) (planned : PlannedService) → IsServicePlanned l service planned → IsRoomy l (Service service)
planned_roomy l service planned is cue = service_room service l planned.frames is.earliest.placed cue

-- a service without a share is placed, and has room
pub unshared_placed : (l : Listing) (service : ℕ) → IsRuled l → share_of l service ≡ None → IsLanePlaced l (Service service) []
unshared_placed l service ruled none =
    subst (λ us. IsEarliest (service_lane_of l service) us []) (sym (none_sent l service ruled none).1) (earliest_none (service_lane_of l service))

pub unshared_roomy : (l : Listing) (service : ℕ) → IsRuled l → share_of l service ≡ None → IsRoomy l (Service service)
unshared_roomy l service ruled none cue = service_room service l [] (unshared_placed l service ruled none).placed cue

-- one more lane is planned
planned_push : (l : Listing) (ss : List ℕ) (plans : List PlannedService) (service : ℕ) (planned : PlannedService) → AreServicesPlanned l ss plans
    → IsServicePlanned l service planned → AreServicesPlanned l (ss ++ service ∷ []) (plans ++ planned ∷ [])
planned_push l [] [] service planned are is = (is, tt)
planned_push l [] (p ∷ plans) service planned are is = absurd are
planned_push l (s ∷ ss) [] service planned are is = absurd are
planned_push l (s ∷ ss) (p ∷ plans) service planned are is = (are.0, planned_push l ss plans service planned are.1 is)

-- a service is among others
abbrev pub IsAmong : ℕ → List ℕ → Type 0
IsAmong service [] = ⊥
IsAmong service (s ∷ ss) = (service ≡ s) ⊎ IsAmong service ss

among_push : (service other : ℕ) (ss : List ℕ) → IsAmong service ss → IsAmong service (ss ++ other ∷ [])
among_push service other [] in_it = absurd in_it
among_push service other (s ∷ ss) (inl same) = inl same
among_push service other (s ∷ ss) (inr rest) = inr (among_push service other ss rest)

among_last : (service : ℕ) (ss : List ℕ) → IsAmong service (ss ++ service ∷ [])
among_last service [] = inl refl
among_last service (s ∷ ss) = inr (among_last service ss)

-- each of planned services has its lane
pub planned_of : (l : Listing) (ss : List ℕ) (plans : List PlannedService) (service : ℕ) → AreServicesPlanned l ss plans → IsAmong service ss
    → (planned : PlannedService) × IsServicePlanned l service planned
planned_of l [] plans service are in_it = absurd in_it
planned_of l (s ∷ ss) [] service are in_it = absurd are
planned_of l (s ∷ ss) (p ∷ plans) service are (inl same) = (p, subst (λ n. IsServicePlanned l n p) (sym same) are.0)
planned_of l (s ∷ ss) (p ∷ plans) service are (inr rest) = planned_of l ss plans service are.1 rest

-- a service below a number is among those with a share, or has none
pub shared_or_not : (l : Listing) (n service : ℕ) → service < n → IsAmong service (shared_below l n) ⊎ (share_of l service ≡ None)
shared_or_not l zero service below = absurd (omega arith)
shared_or_not l (suc n) service below =
    elim (cases_eq service n) [
      | inl same ↦ last same (share_of l n) refl
      | inr other ↦ front (share_of l n) (shared_or_not l n service (omega arith))
    ]
  where
    last : service ≡ n → (o : Option ℕ) → share_of l n ≡ o
        → IsAmong service (shared_below l n ++ (if is_some (share_of l n) then n ∷ [] else [])) ⊎ (share_of l service ≡ None)
    last same (Some share) is = inl (rw is (subst (λ k. IsAmong k (shared_below l n ++ n ∷ [])) (sym same) (among_last n (shared_below l n))))
    last same None is = inr (ap (share_of l) same ∙ is)

    front : (o : Option ℕ) → IsAmong service (shared_below l n) ⊎ (share_of l service ≡ None)
        → IsAmong service (shared_below l n ++ (if is_some o then n ∷ [] else [])) ⊎ (share_of l service ≡ None)
    front (Some share) (inl in_it) = inl (among_push service n (shared_below l n) in_it)
    front None (inl in_it) = inl (subst (IsAmong service) (sym (append-nil (shared_below l n))) in_it)
    front o (inr none) = inr none

module _ (l : Listing) (formed : IsFormed l) (ruled : IsRuled l) where
  -- planned services have room
  pub below_roomy : (n : ℕ) (plans : List PlannedService) → AreServicesPlanned l (shared_below l n) plans → (on : Lane) → IsServiceBelow n on → IsRoomy l on
  below_roomy n plans are (Channel channel) below = absurd below
  below_roomy n plans are (Service service) below = at (shared_or_not l n service below)
    where
      at : IsAmong service (shared_below l n) ⊎ (share_of l service ≡ None) → IsRoomy l (Service service)
      at (inl in_it) = let one = planned_of l (shared_below l n) plans service are in_it in planned_roomy l service one.0 one.1
      at (inr none) = unshared_roomy l service ruled none

  -- services below one more number
  pub cover_below : (n : ℕ) (on : Lane) → IsServiceBelow (suc n) on → IsServiceBelow n on ⊎ (IsOnly (Service n) on ⊎ IsRoomy l on)
  cover_below n (Channel channel) below = absurd below
  cover_below n (Service service) below =
      elim (cases_lt service n) [
        | inl low ↦ inl low
        | inr high ↦ inr (inl (let same : service ≡ n = omega arith in ap Service same))
      ]

  pub below_more : (n : ℕ) (on : Lane) → IsServiceBelow n on → IsServiceBelow (suc n) on
  below_more n (Channel channel) below = below
  below_more n (Service service) below = omega arith

  pub only_below : (n : ℕ) (on : Lane) → IsOnly (Service n) on → IsServiceBelow (suc n) on
  only_below n on same = subst (IsServiceBelow (suc n)) (sym same) (let low : n < suc n = omega arith in low)

  only_roomy : (n : ℕ) → IsRoomy l (Service n) → (on : Lane) → IsOnly (Service n) on → IsRoomy l on
  only_roomy n roomy on same = subst (IsRoomy l) (sym same) roomy

  -- a service without a share adds nothing
  pub services_none : (n : ℕ) (result : Result (Vec PlannedService Global) PlanFault) → share_of l n ≡ None → AreServices l n result → AreServices l (suc n) result
  services_none n (Ok plans) none are = rw none (subst (λ ss. AreServicesPlanned l ss plans.items) (sym (append-nil (shared_below l n))) are)
  services_none n (Err fault) none is =
      fault_of_p l (IsServiceBelow n) (IsOnly (Service n)) (IsServiceBelow (suc n)) (cover_below n) (below_more n) (only_below n) fault is
      (only_roomy n (unshared_roomy l n ruled none))

  -- one with a share adds its lane, or its fault
  pub services_more : (n share : ℕ) (old : Result (Vec PlannedService Global) PlanFault) (other : Result PlannedService PlanFault)
      (new : Result (Vec PlannedService Global) PlanFault) → share_of l n ≡ Some share → AreServices l n old
      → IfOk other (IsServicePlanned l n) → IfErr other (IsFaultIn (IsOnly (Service n)) l) → IsBeside old other new → AreServices l (suc n) new
  services_more n share (Ok plans) (Ok planned) (Ok all) some are placed fault beside =
      rw some (subst (λ ps. AreServicesPlanned l (shared_below l n ++ n ∷ []) ps) (sym beside) (planned_push l (shared_below l n) plans.items n planned are placed))
  services_more n share (Ok plans) (Ok planned) (Err (Memory error)) some are placed fault beside = tt
  services_more n share (Ok plans) (Ok planned) (Err (NoRoom cue)) some are placed fault beside = absurd beside
  services_more n share (Ok plans) (Err one) (Ok all) some are placed fault beside = absurd beside
  services_more n share (Ok plans) (Err one) (Err two) some are placed fault beside =
      subst (IsFaultIn (IsServiceBelow (suc n)) l) (sym beside)
      (fault_of_q l (IsServiceBelow n) (IsOnly (Service n)) (IsServiceBelow (suc n)) (cover_below n) (below_more n) (only_below n) one fault
      (below_roomy n plans.items are))
  services_more n share (Err one) (Ok planned) (Ok all) some are placed fault beside = absurd beside
  services_more n share (Err one) (Ok planned) (Err two) some are placed fault beside =
      subst (IsFaultIn (IsServiceBelow (suc n)) l) (sym beside)
      (fault_of_p l (IsServiceBelow n) (IsOnly (Service n)) (IsServiceBelow (suc n)) (cover_below n) (below_more n) (only_below n) one are
      (only_roomy n (planned_roomy l n planned placed)))
  services_more n share (Err one) (Err two) (Ok all) some are placed fault beside = absurd beside
  services_more n share (Err one) (Err two) (Err three) some are placed fault beside =
      subst (IsFaultIn (IsServiceBelow (suc n)) l) (sym beside)
      (fault_of_both l (IsServiceBelow n) (IsOnly (Service n)) (IsServiceBelow (suc n)) (cover_below n) (below_more n) (only_below n) one two are fault)

  -- a share is one of a service from 1 to 6
  found_share : (shares : List Share) (service bytes : ℕ) → All IsShare shares
      → option_map (λ (s : Share). s.bytes) (find (λ (s : Share). s.service == service) shares) ≡ Some bytes
      → (1 ≤ service) × (service ≤ 6) × (8 ≤ bytes) × (bytes ≤ 31)
  found_share [] service bytes all is = cc
  found_share (s ∷ shares) service bytes all is = at (s.service == service) refl (λ rest. found_share shares service bytes (All-tail IsShare s shares all) rest)
    where
      at : (b : Bool) → (s.service == service) ≡ b
          → (option_map (λ (s : Share). s.bytes) (find (λ (s : Share). s.service == service) shares) ≡ Some bytes
          → (1 ≤ service) × (service ≤ 6) × (8 ≤ bytes) × (bytes ≤ 31))
          → (1 ≤ service) × (service ≤ 6) × (8 ≤ bytes) × (bytes ≤ 31)
      at true same rest =
          let here : s.service ≡ service = eqb-true s.service service same in
          let share : Some s.bytes ≡ Some bytes = rw same at is in
          let size : s.bytes ≡ bytes = cc in
          let own = All-head IsShare s shares all in (
            omega (arith, own.service.0, here),
            omega (arith, own.service.1, here),
            omega (arith, own.bytes.0, size),
            omega (arith, own.bytes.1, size),
          )
      at false other rest = rest (rw other at is)

  pub share_is : (service bytes : ℕ) → share_of l service ≡ Some bytes → (1 ≤ service) × (service ≤ 6) × (8 ≤ bytes) × (bytes ≤ 31)
  share_is service bytes is = found_share l.shares service bytes formed.shares.each is

  -- no service but those has one
  pub unshared : (service : ℕ) → (1 ≤ service → service ≤ 6 → ⊥) → share_of l service ≡ None
  unshared service other = at (share_of l service) refl
    where
      at : (o : Option ℕ) → share_of l service ≡ o → share_of l service ≡ None
      at None is = is
      at (Some bytes) is = let own = share_is service bytes is in absurd (other own.0 own.1)

  -- no service below 1 has a share
  pub services_start : (plans : List PlannedService) → plans ≡ [] → AreServicesPlanned l (shared_below l 1) plans
  services_start plans none =
      let unshared_first = unshared 0 (λ least most. omega arith) in
      rw (unshared_first, none) tt

  -- the lane that is placed is the list's
  pub one_planned : (service share : ℕ) (rate : Rate) (cues : List Cue) (result : Result PlannedService PlanFault) → rate ≡ l.rate → cues ≡ l.cues
      → share_of l service ≡ Some share
      → IfOk result (IsServicePlan service share (service_captions rate service cues) (service_chunks rate service cues)) → IfOk result (IsServicePlanned l service)
  one_planned service share rate cues result rate_is cues_are some is =
      subst (λ n. IfOk result (IsServicePlan service n (captions_in l service) (chunks_in l service))) (sym (ap (λ o. unwrap_or o 0) some))
      (subst (λ cs. IfOk result (IsServicePlan service share (service_captions l.rate service cs) (service_chunks l.rate service cs))) cues_are
      (subst (λ r. IfOk result (IsServicePlan service share (service_captions r service cues) (service_chunks r service cues))) rate_is is))

  pub one_faulty : (service share : ℕ) (rate : Rate) (cues : List Cue) (result : Result PlannedService PlanFault) → rate ≡ l.rate → cues ≡ l.cues
      → share_of l service ≡ Some share
      → IfErr result (IsServiceFault share (service_captions rate service cues) (service_chunks rate service cues)) → IfErr result (IsFaultIn (IsOnly (Service service)) l)
  one_faulty service share rate cues result rate_is cues_are some is =
      IfErr-weaker result (IsServiceFault (share_in l service) (captions_in l service) (chunks_in l service)) (IsFaultIn (IsOnly (Service service)) l)
      (λ fault lane. service_fault l service fault lane)
      (subst (λ n. IfErr result (IsServiceFault n (captions_in l service) (chunks_in l service))) (sym (ap (λ o. unwrap_or o 0) some))
      (subst (λ cs. IfErr result (IsServiceFault share (service_captions l.rate service cs) (service_chunks l.rate service cs))) cues_are
      (subst (λ r. IfErr result (IsServiceFault share (service_captions r service cues) (service_chunks r service cues))) rate_is is)))
