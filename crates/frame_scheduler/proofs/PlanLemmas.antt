-- What planning a list answers, from its fields and its services.
use Rattle.std.proofs.Common.{◌≡◌, ◌∙◌, ◌+◌, ◌≤◌, ◌⊎◌, inl, inr, ◌==◌, ℕ, zero, suc, Bool, true, false, List, [], ◌∷◌, ◌++◌, ap, sym, subst, refl, arith, Some, None, Option, Result, Ok, Err, All, append-nil, append_assoc}
use Rattle.std.specs.Prelude.{⊤, is_some, if◌then◌else◌, option_map, find, unwrap_or, Vec}
use Rattle.std.specs.Global.{Global}
use Rattle.std.specs.List.{flat_map, zip}
use Rattle.std.specs.Result.{result_err}
use Rattle.std.proofs.lemmas.Bool.{cases_lt, eqb-true}
use Rattle.std.proofs.lemmas.List.Concat.{flat_map-append}
use Rattle.std.proofs.lemmas.List.Elements.{All-cons, All-nil}
use Rattle.std.proofs.lemmas.List.Sums.{sum_by-cons}
use Rattle.cc_base.specs.declared.rate.Rate.{Rate}
use Rattle.cc_base.specs.declared.rate.Rate.TheVariants as rate
use Rattle.line21_codes.specs.declared.channels.Chan.TheVariants.{Cc1, Cc3}
use Rattle.line21_codes.specs.declared.pairs.Pair.{Pair}
use Rattle.cue_lists.specs.Cadences.{cadence_of, slot_from}
use Rattle.cue_lists.specs.Listing.{IsFormed, Listing, share_of}
use Rattle.cue_lists.specs.Rules.{IsRuled}
use Rattle.cue_lists.specs.Shares.{share_room, shares_taken}
use Rattle.cue_lists.specs.declared.lane.Lane.{Lane}
use Rattle.cue_lists.specs.declared.lane.Lane.TheVariants.{Channel, Service}
use Rattle.cue_lists.specs.declared.list.Share.{Share}
use Rattle.lanes.specs.declared.planning.PlanFault.{PlanFault}
use Rattle.lanes.specs.declared.planning.PlanFault.TheVariants.{Memory, NoRoom}
use Rattle.lanes.proofs.PlacingLemmas.{earliest_same}
use Rattle.lanes.proofs.ChunkOrderLemmas.{none_sent}
use Rattle.lanes.specs.ServiceBytes.{bytes_in}
use Rattle.lanes.specs.ServicePlan.{PlannedService, lane_bytes}
use Rattle.frame_scheduler.specs.Blocks.{blocks_of, blocks_room, lane_block, service_block}
use Rattle.frame_scheduler.specs.Frames.{AreFieldsPlanned, PlanAnswer}
use Rattle.lanes.specs.FieldPlan.{PlannedField, lane_pair}
use Rattle.frame_scheduler.specs.LaneSets.{IsFaultIn, IsField, IsServiceBelow, earlier_fault, fault_beside}
use Rattle.frame_scheduler.specs.Planned.{IsLanePlaced, Placement, captions_in, chunks_in, frame_blocks, service_bytes, service_lane_of, services}
use Rattle.frame_scheduler.specs.ServicePlans.{AreServices, AreServicesPlanned, IsServicePlanned, shared_below}
use Rattle.frame_scheduler.specs.ServicesLeft.{IsNumbered}
use Rattle.frame_scheduler.specs.declared.frames.FrameBytes.{FrameBytes}
use Rattle.frame_scheduler.specs.declared.frames.Plan.{Plan}
use Rattle.frame_scheduler.proofs.LaneSetLemmas.{IsRoomy, fault_of_both, fault_of_p, fault_of_q}
use Rattle.frame_scheduler.proofs.LanesLemmas.{IsAny, IsOnly, at_first, cover_fields, first_of_any, frame_gives, placed_everywhere, placement, planned_room}
use Rattle.frame_scheduler.proofs.ServicesLemmas.{IsAmong, below_roomy, planned_of, shared_or_not, share_is, unshared, unshared_placed, unshared_roomy}

-- the bytes that the share of a service takes, with the header of its block
abbrev pub weight : List Share → ℕ → ℕ
weight shares service = unwrap_or (option_map (λ (s : Share). s.bytes + 1) (find (λ (s : Share). s.service == service) shares)) 0

-- the weights of the services below a number
abbrev pub weights : List Share → ℕ → ℕ
weights shares zero = 0
weights shares (suc n) = weights shares n + weight shares n

-- one share adds what it takes at most
weights_cons : (x : Share) (xs : List Share) (n : ℕ)
    → (n ≤ x.service → weights (x ∷ xs) n ≡ weights xs n) × (weights (x ∷ xs) n ≤ weights xs n + (x.bytes + 1))
weights_cons x xs zero = ((λ low. refl), omega arith)
weights_cons x xs (suc n) = at (x.service == n) refl (weights_cons x xs n)
  where
    at : (b : Bool) → (x.service == n) ≡ b → (n ≤ x.service → weights (x ∷ xs) n ≡ weights xs n) × (weights (x ∷ xs) n ≤ weights xs n + (x.bytes + 1))
        → (suc n ≤ x.service → weights (x ∷ xs) (suc n) ≡ weights xs (suc n)) × (weights (x ∷ xs) (suc n) ≤ weights xs (suc n) + (x.bytes + 1))
    at true same rest =
        let here : x.service ≡ n = eqb-true x.service n same in
        let before : weights (x ∷ xs) n ≡ weights xs n = rest.0 (omega arith) in
        let mine : weight (x ∷ xs) n ≡ x.bytes + 1 = rw same refl in
        ((λ low. absurd (omega arith)), let most : weights (x ∷ xs) n + weight (x ∷ xs) n ≤ weights xs n + weight xs n + (x.bytes + 1) = omega (arith, before, mine) in most)
    at false other rest =
        let none : weight (x ∷ xs) n ≡ weight xs n = rw other refl in (
          (λ low. let before = rest.0 (omega arith) in let all : weights (x ∷ xs) n + weight (x ∷ xs) n ≡ weights xs n + weight xs n = omega (arith, before, none) in all),
          let most : weights (x ∷ xs) n + weight (x ∷ xs) n ≤ weights xs n + weight xs n + (x.bytes + 1) = omega (arith, rest.1, none) in most,
        )

weights_none : (n : ℕ) → weights [] n ≡ 0
weights_none zero = refl
weights_none (suc n) = let rest = weights_none n in omega (arith, rest)

pub weights_taken : (shares : List Share) (n : ℕ) → weights shares n ≤ shares_taken shares
weights_taken [] n = let none = weights_none n in omega (arith, none)
weights_taken (x ∷ xs) n =
    let rest = weights_taken xs n in
    let one = (weights_cons x xs n).1 in
    let all = sum_by-cons (λ (s : Share). s.bytes + 1) x xs in
    omega (arith, rest, one, all)

-- a frame has at most 35 bytes of blocks
pub room_most : (r : Rate) → share_room r ≤ 35
room_most rate.F23976 = omega arith
room_most rate.F24 = omega arith
room_most rate.F25 = omega arith
room_most rate.F2997 = omega arith
room_most rate.F30 = omega arith
room_most rate.F50 = omega arith
room_most rate.F5994 = omega arith
room_most rate.F60 = omega arith

blocks_room_append : (xs ys : List PlannedService) → blocks_room (xs ++ ys) ≡ blocks_room xs + blocks_room ys
blocks_room_append [] ys = omega arith
blocks_room_append (x ∷ xs) ys =
    let rest = blocks_room_append xs ys in
    let left = sum_by-cons (λ (p : PlannedService). p.share + 1) x (xs ++ ys) in
    let right = sum_by-cons (λ (p : PlannedService). p.share + 1) x xs in
    omega (arith, rest, left, right)

-- the lanes of services one after another have parts
record Parts (l : Listing) (ss ts : List ℕ) (plans : List PlannedService) : Type 0 where
  front : List PlannedService
  back : List PlannedService
  is : plans ≡ front ++ back
  first : AreServicesPlanned l ss front
  second : AreServicesPlanned l ts back

planned_parts : (l : Listing) (ss ts : List ℕ) (plans : List PlannedService) → AreServicesPlanned l (ss ++ ts) plans → Parts l ss ts plans
planned_parts l [] ts plans are = record { front = []; back = plans; is = refl; first = tt; second = are }
planned_parts l (s ∷ ss) ts [] are = absurd are
planned_parts l (s ∷ ss) ts (p ∷ plans) are =
    let rest = planned_parts l ss ts plans are.1 in
    record { front = p ∷ rest.front; back = rest.back; is = ap (λ ps. p ∷ ps) rest.is; first = (are.0, rest.first); second = rest.second }

-- the share of a service, with the header
pub weight_is : (l : Listing) (n bytes : ℕ) → share_of l n ≡ Some bytes → weight l.shares n ≡ bytes + 1
weight_is l n bytes is = at (find (λ (s : Share). s.service == n) l.shares) is
  where
    at : (found : Option Share) → option_map (λ (s : Share). s.bytes) found ≡ Some bytes → unwrap_or (option_map (λ (s : Share). s.bytes + 1) found) 0 ≡ bytes + 1
    at None none = cc
    at (Some s) some = let same : s.bytes ≡ bytes = cc in ap (λ n. n + 1) same

-- of one service or none
one_room : (l : Listing) (n : ℕ) (o : Option ℕ) (plans : List PlannedService) → share_of l n ≡ o
    → AreServicesPlanned l (if is_some o then n ∷ [] else []) plans → blocks_room plans ≤ weight l.shares n
one_room l n None [] is are = omega arith
one_room l n None (p ∷ plans) is are = absurd are
one_room l n (Some bytes) [] is are = absurd are
one_room l n (Some bytes) (p ∷ []) is are =
    let share : p.share ≡ bytes = are.0.share_is ∙ ap (λ o. unwrap_or o 0) is in
    let size = weight_is l n bytes is in
    let all = sum_by-cons (λ (q : PlannedService). q.share + 1) p [] in
    omega (arith, share, size, all)
one_room l n (Some bytes) (p ∷ (q ∷ plans)) is are = absurd are.1

-- the blocks of planned services have room
planned_room_below : (l : Listing) (n : ℕ) (plans : List PlannedService) → AreServicesPlanned l (shared_below l n) plans → blocks_room plans ≤ weights l.shares n
planned_room_below l zero [] are = omega arith
planned_room_below l zero (p ∷ plans) are = absurd are
planned_room_below l (suc n) plans are =
    let parts = planned_parts l (shared_below l n) (if is_some (share_of l n) then n ∷ [] else []) plans are in
    let front = planned_room_below l n parts.front parts.first in
    let back = one_room l n (share_of l n) parts.back refl parts.second in
    let whole = ap blocks_room parts.is ∙ blocks_room_append parts.front parts.back in
    let most : blocks_room plans ≤ weights l.shares n + weight l.shares n = omega (arith, front, back, whole) in
    most

module _ (l : Listing) (formed : IsFormed l) (ruled : IsRuled l) where
  pub planned_fits : (plans : List PlannedService) → AreServicesPlanned l (shared_below l 7) plans → blocks_room plans ≤ 35
  planned_fits plans are =
      let low = planned_room_below l 7 plans are in
      let taken = weights_taken l.shares 7 in
      let most = room_most l.rate in
      omega (arith, low, taken, formed.shares.fits, most)

  -- each planned lane is at frame 0, and of a service from 1 to 6
  at_start : (ss : List ℕ) (plans : List PlannedService) → AreServicesPlanned l ss plans → All (λ planned. planned.frame ≡ 0) plans
  at_start [] [] are = All-nil (λ (p : PlannedService). p.frame ≡ 0)
  at_start [] (p ∷ plans) are = absurd are
  at_start (s ∷ ss) [] are = absurd are
  at_start (s ∷ ss) (p ∷ plans) are = All-cons (λ (p : PlannedService). p.frame ≡ 0) p plans are.0.at_first (at_start ss plans are.1)

  pub planned_start : (plans : List PlannedService) → AreServicesPlanned l (shared_below l 7) plans → All (λ planned. planned.frame ≡ 0) plans
  planned_start plans are = at_start (shared_below l 7) plans are

  -- services below a number that have a share are from 1 to 6
  abbrev AreSmall : List ℕ → Type 0
  AreSmall [] = ⊤
  AreSmall (s ∷ ss) = (1 ≤ s) × (s ≤ 6) × AreSmall ss

  small_append : (ss ts : List ℕ) → AreSmall ss → AreSmall ts → AreSmall (ss ++ ts)
  small_append [] ts one two = two
  small_append (s ∷ ss) ts one two = (one.0, one.1, small_append ss ts one.2 two)

  small_below : (n : ℕ) → AreSmall (shared_below l n)
  small_below zero = tt
  small_below (suc n) = small_append (shared_below l n) (if is_some (share_of l n) then n ∷ [] else []) (small_below n) (last (share_of l n) refl)
    where
      last : (o : Option ℕ) → share_of l n ≡ o → AreSmall (if is_some o then n ∷ [] else [])
      last None is = tt
      last (Some bytes) is = let own = share_is l formed ruled n bytes is in (own.0, own.1, tt)

  numbered : (ss : List ℕ) (plans : List PlannedService) → AreSmall ss → AreServicesPlanned l ss plans → All IsNumbered plans
  numbered [] [] small are = All-nil IsNumbered
  numbered [] (p ∷ plans) small are = absurd are
  numbered (s ∷ ss) [] small are = absurd are
  numbered (s ∷ ss) (p ∷ plans) small are =
      All-cons IsNumbered p plans
      (record { least = omega (arith, are.0.service_is, small.0); most = omega (arith, are.0.service_is, small.1) })
      (numbered ss plans small.2 are.1)

  pub planned_numbered : (plans : List PlannedService) → AreServicesPlanned l (shared_below l 7) plans → All IsNumbered plans
  planned_numbered plans are = numbered (shared_below l 7) plans (small_below 7) are

  -- a service from 7 on has room
  pub far_roomy : (service : ℕ) → 7 ≤ service → IsRoomy l (Service service)
  far_roomy service far = unshared_roomy l service ruled (unshared l formed ruled service (λ least most. omega (arith, most, far)))

  pub cover : (on : Lane) → IsAny on → IsField on ⊎ (IsServiceBelow 7 on ⊎ IsRoomy l on)
  cover (Channel channel) any = inl tt
  cover (Service service) any =
      elim (cases_lt service 7) [
        | inl low ↦ inr (inl low)
        | inr far ↦ inr (inr (far_roomy service far))
      ]

  -- the fault among all lanes is the answer
  answer_of : (fault : PlanFault) → IsFaultIn IsAny l fault → PlanAnswer l (Err fault)
  answer_of (Memory error) is = tt
  answer_of (NoRoom cue) is = first_of_any l cue is

  -- the fields that are planned have room
  fields_roomy : (one two : PlannedField) → AreFieldsPlanned l one two → (on : Lane) → IsField on → IsRoomy l on
  fields_roomy one two are on field = at (cover_fields l formed on field)
    where
      at : IsOnly (Channel Cc1) on ⊎ (IsOnly (Channel Cc3) on ⊎ IsRoomy l on) → IsRoomy l on
      at (inl same) = planned_room l formed Cc1 one are.0 on same
      at (inr (inl same)) = planned_room l formed Cc3 two are.1 on same
      at (inr (inr roomy)) = roomy

  pub services_refused : (one two : PlannedField) (fault : PlanFault) → AreFieldsPlanned l one two → AreServices l 7 (Err fault) → PlanAnswer l (Err fault)
  services_refused one two fault are is =
      answer_of fault
      (fault_of_q l IsField (IsServiceBelow 7) IsAny cover (λ on field. tt) (λ on below. tt) fault is (fields_roomy one two are))

  pub fields_refused : (fault : PlanFault) (services : Result (Vec PlannedService Global) PlanFault) (other : Option PlanFault) → IsFaultIn IsField l fault
      → AreServices l 7 services → other ≡ result_err services → PlanAnswer l (Err (fault_beside fault other))
  fields_refused fault (Ok plans) other first are is =
      subst (λ o. PlanAnswer l (Err (fault_beside fault o))) (sym is)
      (answer_of fault (fault_of_p l IsField (IsServiceBelow 7) IsAny cover (λ on field. tt) (λ on below. tt) fault first (below_roomy l formed ruled 7 plans.items are)))
  fields_refused fault (Err two) other first second is =
      subst (λ o. PlanAnswer l (Err (fault_beside fault o))) (sym is)
      (answer_of (earlier_fault fault two)
      (fault_of_both l IsField (IsServiceBelow 7) IsAny cover (λ on field. tt) (λ on below. tt) fault two first second))

  -- the frames in which the units of each service stand
  pub frames_of : (plans : List PlannedService) → AreServicesPlanned l (shared_below l 7) plans → (service : ℕ)
      → (frames : List ℕ) × IsLanePlaced l (Service service) frames
  frames_of plans are service =
      elim (cases_lt service 7) [
        | inl low ↦ found (shared_or_not l 7 service low)
        | inr far ↦ ([], unshared_placed l service ruled (unshared l formed ruled service (λ least most. omega (arith, most, far))))
      ]
    where
      found : IsAmong service (shared_below l 7) ⊎ (share_of l service ≡ None) → (frames : List ℕ) × IsLanePlaced l (Service service) frames
      found (inl in_it) = let one = planned_of l (shared_below l 7) plans service are in_it in (one.0.frames, one.1.earliest)
      found (inr none) = ([], unshared_placed l service ruled none)

  -- the block of a planned lane is its service's
  lane_is : (placed : Placement) (service : ℕ) (planned : PlannedService) (frame : ℕ) → IsLanePlaced l (Service service) (placed (Service service))
      → IsServicePlanned l service planned
      → lane_block frame planned ≡ service_block service (service_bytes l service (placed (Service service)) frame)
  lane_is placed service planned frame is are =
      let frames : planned.frames ≡ placed (Service service) =
      earliest_same (service_lane_of l service) (chunks_in l service) planned.frames (placed (Service service)) are.earliest is in
      ap (λ n. service_block n (lane_bytes planned frame)) are.service_is
      ∙ ap (λ cs. service_block service (bytes_in cs (zip planned.chunks planned.frames) frame)) are.captions_are
      ∙ ap (λ us. service_block service (bytes_in (captions_in l service) (zip us planned.frames) frame)) are.chunks_are
      ∙ ap (λ fs. service_block service (bytes_in (captions_in l service) (zip (chunks_in l service) fs) frame)) frames

  -- a service without a share has no block
  pub no_block : (placed : Placement) (service frame : ℕ) → share_of l service ≡ None
      → service_block service (service_bytes l service (placed (Service service)) frame) ≡ []
  no_block placed service frame none =
      let sent = none_sent l service ruled none in
      ap (λ cs. service_block service (bytes_in cs (zip (chunks_in l service) (placed (Service service))) frame)) sent.0
      ∙ ap (λ us. service_block service (bytes_in [] (zip us (placed (Service service))) frame)) sent.1

  -- the blocks of planned lanes are their services' blocks
  lanes_are : (placed : Placement) (frame : ℕ) → ((service : ℕ) → IsLanePlaced l (Service service) (placed (Service service)))
      → (ss : List ℕ) (plans : List PlannedService) → AreServicesPlanned l ss plans
      → blocks_of plans frame ≡ flat_map (λ service. service_block service (service_bytes l service (placed (Service service)) frame)) ss
  lanes_are placed frame all [] [] are = refl
  lanes_are placed frame all [] (p ∷ plans) are = absurd are
  lanes_are placed frame all (s ∷ ss) [] are = absurd are
  lanes_are placed frame all (s ∷ ss) (p ∷ plans) are =
      let first = lane_is placed s p frame (all s) are.0 in
      let rest = lanes_are placed frame all ss plans are.1 in
      cc

  -- and the blocks of all services
  blocks_below : (block : ℕ → List ℕ) → ((service : ℕ) → share_of l service ≡ None → block service ≡ []) → (n : ℕ)
      → flat_map block (shared_below l (suc n)) ≡ flat_map block (shared_below l n) ++ block n
  blocks_below block none n =
      flat_map-append block (shared_below l n) (if is_some (share_of l n) then n ∷ [] else [])
      ∙ ap (λ more. flat_map block (shared_below l n) ++ more) (last (share_of l n) refl)
    where
      last : (o : Option ℕ) → share_of l n ≡ o → flat_map block (if is_some o then n ∷ [] else []) ≡ block n
      last None is = sym (none n is)
      last (Some bytes) is = append-nil (block n)

  blocks_all : (block : ℕ → List ℕ) → ((service : ℕ) → share_of l service ≡ None → block service ≡ []) → flat_map block (shared_below l 7) ≡ flat_map block services
  blocks_all block none =
      let zeroth : block 0 ≡ [] = none 0 (unshared l formed ruled 0 (λ least most. omega arith)) in
      let a = blocks_below block none 0 in
      let b = blocks_below block none 1 in
      let c = blocks_below block none 2 in
      let d = blocks_below block none 3 in
      let e = blocks_below block none 4 in
      let f = blocks_below block none 5 in
      let g = blocks_below block none 6 in
      g ∙ ap (λ x. x ++ block 6) (f ∙ ap (λ x. x ++ block 5) (e ∙ ap (λ x. x ++ block 4) (d ∙ ap (λ x. x ++ block 3) (c ∙ ap (λ x. x ++ block 2)
      (b ∙ ap (λ x. x ++ block 1) (a ∙ zeroth))))))
      ∙ joined (block 1) (block 2) (block 3) (block 4) (block 5) (block 6)
    where
      joined : (p q r s t u : List ℕ) → (((((([] ++ p) ++ q) ++ r) ++ s) ++ t) ++ u) ≡ p ++ (q ++ (r ++ (s ++ (t ++ (u ++ [])))))
      joined p q r s t u = simp (append_assoc, append-nil)

  pub planned_blocks : (placed : Placement) (frame : ℕ) → ((service : ℕ) → IsLanePlaced l (Service service) (placed (Service service)))
      → (plans : List PlannedService) → AreServicesPlanned l (shared_below l 7) plans → blocks_of plans frame ≡ frame_blocks l placed frame
  planned_blocks placed frame all plans are =
      lanes_are placed frame all (shared_below l 7) plans are
      ∙ blocks_all (λ service. service_block service (service_bytes l service (placed (Service service)) frame)) (λ service none. no_block placed service frame none)

  -- what a frame carries, by its parts
  frame_same : (a b c d : Option Pair) (xs ys : List ℕ) → a ≡ b → c ≡ d → xs ≡ ys
      → ◌≡◌ {A = FrameBytes} (record { one = a; two = c; blocks = record { items = xs } }) (record { one = b; two = d; blocks = record { items = ys } })
  frame_same a b c d xs ys one two blocks = rw (one, two, blocks) refl

  -- all lanes are planned
  pub all_planned : (one two : PlannedField) (plans : List PlannedService) (plan : Plan) → AreFieldsPlanned l one two → AreServicesPlanned l (shared_below l 7) plans
      → plan.lanes ≡ one ∷ two ∷ [] → plan.services.items ≡ plans → plan.rate ≡ l.rate → plan.frame ≡ 0 → plan.left ≡ l.frames → PlanAnswer l (Ok plan)
  all_planned one two plans plan fields are lanes services_are rate frame left =
      let frames : ℕ → List ℕ = λ service. (frames_of plans are service).0 in
      let all : (service : ℕ) → IsLanePlaced l (Service service) (frames service) = λ service. (frames_of plans are service).1 in (
        placement fields.0.0.0 fields.1.0.0 frames,
        placed_everywhere l formed fields.0.0.0 fields.1.0.0 frames fields.0.0.1 fields.1.0.1 all,
        record {
          one = one;
          two = two;
          lanes = lanes;
          frame_is = frame;
          one_at = at_first l formed Cc1 one fields.0 ∙ ap (λ r. slot_from (cadence_of r Cc1) 0) (sym rate);
          two_at = at_first l formed Cc3 two fields.1 ∙ ap (λ r. slot_from (cadence_of r Cc3) 0) (sym rate);
          services_at = subst (All (λ (p : PlannedService). p.frame ≡ 0)) (sym services_are) (planned_start plans are);
          column_is = λ n.
              frame_same _ (lane_pair (cadence_of plan.rate Cc1) one n) _ (lane_pair (cadence_of plan.rate Cc3) two n) _ (blocks_of plan.services.items n)
              (frame_gives l formed Cc1 one fields.0 n ∙ ap (λ r. lane_pair (cadence_of r Cc1) one n) (sym rate))
              (frame_gives l formed Cc3 two fields.1 n ∙ ap (λ r. lane_pair (cadence_of r Cc3) two n) (sym rate))
              (sym (ap (λ ps. blocks_of ps n) services_are ∙ planned_blocks (placement fields.0.0.0 fields.1.0.0 frames) n all plans are));
        },
        left,
      )
