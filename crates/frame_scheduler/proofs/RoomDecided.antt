-- Whether a list's units have a placement can be told: each unit in turn is tried in one slot after another after the
-- units before it, until it would end too late.
use Rattle.std.proofs.Common.{◌≡◌, ◌∙◌, ap, refl, Option, Some, None, ℕ, zero, suc, ◌+◌, ◌<◌, ◌≤◌, ◌⊎◌, List, [], ◌∷◌, ◌++◌, length, get_or, take, sym, subst, arith, inl, inr, min}
use Rattle.std.proofs.lemmas.Bool.{cases_eq, cases_lt}
use Rattle.std.proofs.lemmas.List.{take_all, take_more}
use Rattle.std.specs.List.{zip}
use Rattle.line21_codes.specs.declared.channels.Chan.{Chan}
use Rattle.line21_codes.specs.declared.channels.Chan.TheVariants.{Cc1, Cc3}
use Rattle.cue_lists.specs.Listing.{IsFormed, Listing}
use Rattle.cue_lists.specs.declared.lane.Lane.TheVariants.{Channel, Service}
use Rattle.lanes.specs.CueEvents.{channel_events}
use Rattle.lanes.specs.Event.{Event}
use Rattle.lanes.specs.declared.chunk.FieldChunk.{FieldChunk}
use Rattle.lanes.specs.ChannelLane.{channel_chunks}
use Rattle.lanes.specs.FieldLane.{IsAllowedInField, end_of, field_lane, slots_of}
use Rattle.lanes.specs.FirstFit.{IsFirst}
use Rattle.lanes.specs.LaneEvents.{IsFree}
use Rattle.lanes.specs.LaneFront.{AreFree}
use Rattle.lanes.specs.FieldPlan.{field_chunk_cue}
use Rattle.lanes.specs.LaneRoom.{AreInCueOrder, IsFirstCrowded}
use Rattle.lanes.specs.OneMore.{FitsEarlier}
use Rattle.lanes.specs.Placing.{HasEarliest, IsEarliest}
use Rattle.cue_lists.specs.Rules.{IsRuled}
use Rattle.cue_lists.specs.declared.lane.Lane.{Lane}
use Rattle.dtvcc_author.specs.FrameEvents.{delay_end}
use Rattle.lanes.specs.declared.planning.PlanFault.TheVariants.{NoRoom}
use Rattle.lanes.specs.ServiceChunks.{service_chunk_cue}
use Rattle.lanes.specs.ServiceLane.{AreUpTo, chunk_size, most_in_delay, IsAllowedInService, used}
use Rattle.lanes.specs.ServiceRoom.{frame_room}
use Rattle.lanes.specs.Chunks.{ServiceChunk}
use Rattle.lanes.proofs.ChunkOrderLemmas.{chunks_in_order}
use Rattle.lanes.proofs.ServiceLaneLemmas.{chunks_fit_earlier}
use Rattle.frame_scheduler.specs.LaneSets.{IsField, IsFirstIn, IsServiceBelow}
use Rattle.frame_scheduler.specs.Planned.{IsLanePlaced, IsListPlaced, Placement, captions_in, chunks_in, service_lane_of, share_in}
use Rattle.frame_scheduler.proofs.LaneSetLemmas.{IsRoomy, first_of_both, first_of_p, first_of_q}
use Rattle.frame_scheduler.proofs.PlanLemmas.{cover}
use Rattle.frame_scheduler.proofs.ServicesLemmas.{below_more, cover_below, only_below, unshared, unshared_placed}
use Rattle.frame_scheduler.specs.Planned as list
use Rattle.frame_scheduler.specs.SlotLists.{slot_cues}
use Rattle.lanes.proofs.ChannelOrderLemmas.{channel_in_order}
use Rattle.lanes.proofs.FieldLaneLemmas.{fits_earlier}
use Rattle.lanes.proofs.LaneRoomLemmas.{no_room_at}
use Rattle.frame_scheduler.proofs.LanesLemmas.{IsAny, IsOnly, channel_fault, cover_fields, earliest_room, first_of_any, in_fields, placed_everywhere, placement, service_fault, service_room}
use Rattle.lanes.proofs.PlacingLemmas.{earliest_none, one_more}

-- a fact, or what denies it
abbrev Decided : Type 0 → Type 0
Decided P = P ⊎ (P → ⊥)

-- whether a slot is free
free_decided : (events : List Event) (n : ℕ) → Decided (IsFree events n)
free_decided [] n = inl tt
free_decided (event ∷ events) n =
    elim (cases_eq event.slot n) [
      | inl first ↦ inr (λ free. free.0 first)
      | inr not_first ↦ elim (cases_eq (event.slot + 1) n) [
        | inl second ↦ inr (λ free. free.1 second)
        | inr not_second ↦ elim (free_decided events n) [
          | inl rest ↦ inl (not_first, not_second, rest)
          | inr held ↦ inr (λ free. held free.2)
        ]
      ]
    ]

-- one more slot is free
free_more : (events : List Event) (slots slot : ℕ) → AreFree events slots slot → IsFree events (slot + slots) → AreFree events (suc slots) slot
free_more events slots slot free last n low high =
    elim (cases_lt n (slot + slots)) [
      | inl below ↦ free n low below
      | inr above ↦ let is : slot + slots ≡ n = omega arith in subst (λ m. IsFree events m) is last
    ]

-- whether slots are free
all_free_decided : (events : List Event) (slots slot : ℕ) → Decided (AreFree events slots slot)
all_free_decided events zero slot = inl (λ n low high. absurd (omega arith))
all_free_decided events (suc slots) slot =
    elim (all_free_decided events slots slot) [
      | inl free ↦ elim (free_decided events (slot + slots)) [
        | inl last ↦ inl (free_more events slots slot free last)
        | inr held ↦ inr (λ all. held (all (slot + slots) (omega arith) (omega arith)))
      ]
      | inr held ↦ inr (λ all. held (λ n low high. all n low (omega arith)))
    ]

-- whether the unit may begin at the slot
allowed_decided : (events : List Event) (end : ℕ) (chunk : FieldChunk) (slot : ℕ) → Decided (IsAllowedInField events end chunk slot)
allowed_decided events end chunk slot =
    elim (cases_lt slot end) [
      | inl before ↦ inr (λ allowed. let behind = allowed.behind in omega arith)
      | inr behind ↦ elim (cases_lt slot chunk.load) [
        | inl before ↦ inr (λ allowed. let loaded = allowed.loaded in omega arith)
        | inr loaded ↦ elim (cases_lt chunk.until (slot + slots_of chunk)) [
          | inl after ↦ inr (λ allowed. let ended = allowed.ended in omega arith)
          | inr ended ↦ elim (all_free_decided events (slots_of chunk) slot) [
            | inl free ↦ inl (record { behind = behind; loaded = loaded; ended = ended; free = free })
            | inr held ↦ inr (λ allowed. held allowed.free)
          ]
        ]
      ]
    ]

-- the least number of which a sentence holds, or that it holds of none
abbrev HasFirst : (ℕ → Type 0) → Type 0
HasFirst P = ((n : ℕ) × IsFirst P n) ⊎ ((n : ℕ) → P n → ⊥)

-- the numbers from one on are tried, where it holds of none before it
first_from : (P : ℕ → Type 0) → ((n : ℕ) → Decided (P n)) → (tries n : ℕ) → ((other : ℕ) → P other → n ≤ other)
    → ((other : ℕ) → P other → other < n + tries) → HasFirst P
first_from P decide zero n none_before late = inr (λ other holds. let behind = none_before other holds in let before = late other holds in omega arith)
first_from P decide (suc tries) n none_before late =
    elim (decide n) [
      | inl holds ↦ inl (n, record { holds = holds; first = none_before })
      | inr denied ↦ first_from P decide tries (suc n) (none_through denied) (λ other holds. let before = late other holds in omega arith)
    ]
  where
    none_through : (P n → ⊥) → (other : ℕ) → P other → suc n ≤ other
    none_through denied other holds =
        elim (cases_eq n other) [
          | inl same ↦ absurd (denied (subst P (sym same) holds))
          | inr apart ↦ let behind = none_before other holds in omega arith
        ]

-- the first slot in which a unit of a field's lane may begin
first_decided : (events : List Event) (before : List (FieldChunk × ℕ)) (chunk : FieldChunk) → HasFirst (field_lane events before chunk)
first_decided events before chunk =
    first_from (field_lane events before chunk) (allowed_decided events (end_of before) chunk) (suc chunk.until) 0 (λ other allowed. omega arith)
    (λ other allowed. let ended = allowed.ended in omega arith)

-- whether the units of a lane have a placement
module _ {U : Type 0} (cue_of : U → ℕ) (allowed : List (U × ℕ) → U → ℕ → Type 0) (fits : FitsEarlier allowed)
    (decide : (before : List (U × ℕ)) (u : U) → HasFirst (allowed before u)) where
  -- the first units are placed, or a cue is the first without room
  units_decided : (us : List U) (d : U) → AreInCueOrder cue_of us → (k : ℕ) → k ≤ length us
      → ((slots : List ℕ) × IsEarliest allowed (take k us) slots) ⊎ ((cue : ℕ) × IsFirstCrowded allowed cue_of us cue)
  units_decided us d order zero within = inl ([], earliest_none allowed)
  units_decided us d order (suc k) within =
      elim (units_decided us d order k (omega arith)) [
        | inl placed ↦ next placed.0 placed.1 (decide (zip (take k us) placed.0) (get_or us k d))
        | inr without ↦ inr without
      ]
    where
      split : take (suc k) us ≡ take k us ++ get_or us k d ∷ []
      split = let e : k + 1 ≡ suc k = omega arith in subst (λ n. take n us ≡ take k us ++ get_or us k d ∷ []) e (take_more us k d (omega arith))

      next : (slots : List ℕ) → IsEarliest allowed (take k us) slots → HasFirst (allowed (zip (take k us) slots) (get_or us k d))
          → ((slots : List ℕ) × IsEarliest allowed (take (suc k) us) slots) ⊎ ((cue : ℕ) × IsFirstCrowded allowed cue_of us cue)
      next slots earliest (inl first) =
          inl (
            slots ++ first.0 ∷ [],
            subst (λ l. IsEarliest allowed l (slots ++ first.0 ∷ [])) (sym split)
                ((one_more allowed fits (take k us) slots (get_or us k d) earliest).first first.0 first.1.holds first.1.first),
          )
      next slots earliest (inr nowhere) =
          inr (cue_of (get_or us k d), no_room_at cue_of allowed fits us k d slots order (omega arith) earliest (take_more us k d (omega arith)) nowhere)

  room_decided : (us : List U) → AreInCueOrder cue_of us → HasEarliest allowed us ⊎ ((cue : ℕ) × IsFirstCrowded allowed cue_of us cue)
  room_decided [] order = inl ([], earliest_none allowed)
  room_decided (u ∷ us) order =
      elim (units_decided (u ∷ us) u order (length (u ∷ us)) (omega arith)) [
        | inl placed ↦ inl (placed.0, subst (λ l. IsEarliest allowed l placed.0) (take_all (length (u ∷ us)) (u ∷ us) (omega arith)) placed.1)
        | inr without ↦ inr without
      ]

-- the channel's units have an earliest placement, or a first cue without room
abbrev Decides : Listing → Chan → Type 0
Decides l channel = HasEarliest (field_lane (channel_events channel (slot_cues l channel))) (channel_chunks channel (slot_cues l channel))
    ⊎ ((cue : ℕ) × IsFirstCrowded (field_lane (channel_events channel (slot_cues l channel))) field_chunk_cue (channel_chunks channel (slot_cues l channel)) cue)

channel_decided : (l : Listing) (channel : Chan) → Decides l channel
channel_decided l channel =
    room_decided field_chunk_cue (field_lane (channel_events channel (slot_cues l channel))) (fits_earlier (channel_events channel (slot_cues l channel))) (first_decided (channel_events channel (slot_cues l channel)))
    (channel_chunks channel (slot_cues l channel)) (channel_in_order channel (slot_cues l channel))

-- whether no placed unit follows the frame
up_to_decided : (frame : ℕ) (before : List (ServiceChunk × ℕ)) → Decided (AreUpTo frame before)
up_to_decided frame [] = inl tt
up_to_decided frame (p ∷ ps) =
    elim (cases_lt frame p.1) [
      | inl behind ↦ inr (λ all. let low = all.0 in omega arith)
      | inr low ↦ elim (up_to_decided frame ps) [
        | inl rest ↦ inl (low, rest)
        | inr denied ↦ inr (λ all. denied all.1)
      ]
    ]

-- what a delay asks of a unit in a frame, of those that start before a number
abbrev DelaysAllow : (ℕ → Option ℕ) → List (ServiceChunk × ℕ) → ServiceChunk → ℕ → ℕ → Type 0
DelaysAllow ends before chunk frame number =
    (start end : ℕ) → ends start ≡ Some end → start < number → frame < end → used start end before + chunk_size chunk ≤ most_in_delay

delays_decided : (ends : ℕ → Option ℕ) (before : List (ServiceChunk × ℕ)) (chunk : ServiceChunk) (frame number : ℕ) → Decided (DelaysAllow ends before chunk frame number)
delays_decided ends before chunk frame zero = inl (λ start end is low on. absurd (omega arith))
delays_decided ends before chunk frame (suc n) = at (ends n) refl (delays_decided ends before chunk frame n)
  where
    with_last : ((end : ℕ) → ends n ≡ Some end → frame < end → used n end before + chunk_size chunk ≤ most_in_delay) → DelaysAllow ends before chunk frame n
        → DelaysAllow ends before chunk frame (suc n)
    with_last last rest start end is low on =
        elim (cases_eq start n) [
          | inl same ↦ subst (λ s. used s end before + chunk_size chunk ≤ most_in_delay) (sym same) (last end (sym (ap ends same) ∙ is) on)
          | inr other ↦ rest start end is (omega arith) on
        ]

    at : (o : Option ℕ) → ends n ≡ o → Decided (DelaysAllow ends before chunk frame n) → Decided (DelaysAllow ends before chunk frame (suc n))
    at o is (inr denied) = inr (λ all. denied (λ start end found low on. all start end found (omega arith) on))
    at None is (inl rest) = inl (with_last (λ end found on. let e : None ≡ Some end = sym is ∙ found in cc) rest)
    at (Some end) is (inl rest) =
        elim (cases_lt frame end) [
          | inr over ↦ inl (with_last (λ other found on. let same : end ≡ other = (let e : Some end ≡ Some other = sym is ∙ found in cc) in absurd (omega arith)) rest)
          | inl on ↦ elim (cases_lt most_in_delay (used n end before + chunk_size chunk)) [
            | inl full ↦ inr (λ all. let most = all n end is (omega arith) on in omega (arith, most, full))
            | inr fits ↦ inl (with_last (λ other found _. let same : end ≡ other = (let e : Some end ≡ Some other = sym is ∙ found in cc) in
                subst (λ k. used n k before + chunk_size chunk ≤ most_in_delay) same fits) rest)
          ]
        ]

-- whether a unit may stand in a frame of a service's lane
chunk_decided : (room : ℕ → ℕ) (ends : ℕ → Option ℕ) (before : List (ServiceChunk × ℕ)) (chunk : ServiceChunk) (frame : ℕ)
    → Decided (IsAllowedInService room ends before chunk frame)
chunk_decided room ends before chunk frame =
    elim (up_to_decided frame before) [
      | inr denied ↦ inr (λ allowed. denied allowed.order)
      | inl order ↦ elim (cases_lt frame chunk.load) [
        | inl early ↦ inr (λ allowed. let loaded = allowed.loaded in omega arith)
        | inr loaded ↦ elim (cases_lt frame chunk.until) [
          | inr late ↦ inr (λ allowed. let ended = allowed.ended in omega arith)
          | inl ended ↦ elim (cases_lt (room frame) (used frame (frame + 1) before + chunk_size chunk)) [
            | inl full ↦ inr (λ allowed. let fits = allowed.fits in omega arith)
            | inr fits ↦ elim (delays_decided ends before chunk frame (frame + 1)) [
              | inr denied ↦ inr (λ allowed. denied (λ start end is low on. allowed.delayed start end is (omega arith) on))
              | inl delays ↦ inl (record {
                order = order;
                loaded = loaded;
                ended = ended;
                fits = fits;
                delayed = λ start end is low on. delays start end is (omega arith) on;
              })
            ]
          ]
        ]
      ]
    ]

chunk_first : (room : ℕ → ℕ) (ends : ℕ → Option ℕ) (before : List (ServiceChunk × ℕ)) (chunk : ServiceChunk) → HasFirst (IsAllowedInService room ends before chunk)
chunk_first room ends before chunk =
    first_from (IsAllowedInService room ends before chunk) (chunk_decided room ends before chunk) (suc chunk.until) 0 (λ other allowed. omega arith)
    (λ other allowed. let ended = allowed.ended in omega arith)

-- a service's units have an earliest placement, or a first cue without room
service_decided : (l : Listing) (service : ℕ) → HasEarliest (service_lane_of l service) (chunks_in l service)
    ⊎ ((cue : ℕ) × IsFirstCrowded (service_lane_of l service) service_chunk_cue (chunks_in l service) cue)
service_decided l service =
    room_decided service_chunk_cue (service_lane_of l service)
    (chunks_fit_earlier (frame_room (share_in l service) (captions_in l service)) (delay_end (captions_in l service)))
    (chunk_first (frame_room (share_in l service) (captions_in l service)) (delay_end (captions_in l service)))
    (chunks_in l service) (chunks_in_order l.rate service l.cues)

-- lanes of which each is in one part, or in the other, or has room: all of these are placed, or a cue is the first without room
module _ (l : Listing) (P Q R : Lane → Type 0) (cover : (on : Lane) → R on → P on ⊎ (Q on ⊎ IsRoomy l on))
    (in_p : (on : Lane) → P on → R on) (in_q : (on : Lane) → Q on → R on) where
  both_decided : {A B : Type 0} → (A → (on : Lane) → P on → IsRoomy l on) → (B → (on : Lane) → Q on → IsRoomy l on)
      → A ⊎ ((cue : ℕ) × IsFirstIn P l cue) → B ⊎ ((cue : ℕ) × IsFirstIn Q l cue) → (A × B) ⊎ ((cue : ℕ) × IsFirstIn R l cue)
  both_decided roomy_p roomy_q (inl a) (inl b) = inl (a, b)
  both_decided roomy_p roomy_q (inl a) (inr b) = inr (b.0, first_of_q l P Q R cover in_p in_q b.0 b.1 (λ earlier below on p. roomy_p a on p earlier))
  both_decided roomy_p roomy_q (inr a) (inl b) = inr (a.0, first_of_p l P Q R cover in_p in_q a.0 a.1 (λ earlier below on q. roomy_q b on q earlier))
  both_decided roomy_p roomy_q (inr a) (inr b) = inr (min a.0 b.0, first_of_both l P Q R cover in_p in_q a.0 b.0 a.1 b.1)

-- the lane is placed
abbrev HasPlaced : Listing → Lane → Type 0
HasPlaced l on = (slots : List ℕ) × IsLanePlaced l on slots

placed_roomy : (l : Listing) (on : Lane) → HasPlaced l on → IsRoomy l on
placed_roomy l (Channel channel) placed cue = earliest_room channel l placed.0 placed.1.placed cue
placed_roomy l (Service service) placed cue = service_room service l placed.0 placed.1.placed cue

only_roomy : (l : Listing) (one : Lane) → HasPlaced l one → (on : Lane) → IsOnly one on → IsRoomy l on
only_roomy l one placed on same = subst (IsRoomy l) (sym same) (placed_roomy l one placed)

-- one lane is placed, or a cue is its first without room
lane_decided : (l : Listing) (on : Lane) → HasPlaced l on ⊎ ((cue : ℕ) × IsFirstIn (IsOnly on) l cue)
lane_decided l (Channel channel) = at (channel_decided l channel)
  where
    at : Decides l channel → HasPlaced l (Channel channel) ⊎ ((cue : ℕ) × IsFirstIn (IsOnly (Channel channel)) l cue)
    at (inl placed) = inl placed
    at (inr crowded) = inr (crowded.0, channel_fault l channel (NoRoom crowded.0) crowded.1)
lane_decided l (Service service) = at (service_decided l service)
  where
    at : HasEarliest (service_lane_of l service) (chunks_in l service)
        ⊎ ((cue : ℕ) × IsFirstCrowded (service_lane_of l service) service_chunk_cue (chunks_in l service) cue)
        → HasPlaced l (Service service) ⊎ ((cue : ℕ) × IsFirstIn (IsOnly (Service service)) l cue)
    at (inl placed) = inl placed
    at (inr crowded) = inr (crowded.0, service_fault l service (NoRoom crowded.0) crowded.1)

module _ (l : Listing) (formed : IsFormed l) (ruled : IsRuled l) where
  -- the services below a number
  abbrev PlacedBelow : ℕ → Type 0
  PlacedBelow n = (service : ℕ) → service < n → HasPlaced l (Service service)

  below_placed_roomy : (n : ℕ) → PlacedBelow n → (on : Lane) → IsServiceBelow n on → IsRoomy l on
  below_placed_roomy n placed (Channel channel) below = absurd below
  below_placed_roomy n placed (Service service) below = placed_roomy l (Service service) (placed service below)

  placed_more : (n : ℕ) → PlacedBelow n → HasPlaced l (Service n) → PlacedBelow (suc n)
  placed_more n placed last service below =
      elim (cases_eq service n) [
        | inl same ↦ subst (λ s. HasPlaced l (Service s)) (sym same) last
        | inr other ↦ placed service (omega arith)
      ]

  services_decided : (n : ℕ) → PlacedBelow n ⊎ ((cue : ℕ) × IsFirstIn (IsServiceBelow n) l cue)
  services_decided zero = inl (λ service below. absurd (omega arith))
  services_decided (suc n) =
      elim (both_decided l (IsServiceBelow n) (IsOnly (Service n)) (IsServiceBelow (suc n)) (cover_below l formed ruled n) (below_more l formed ruled n)
      (only_below l formed ruled n) (below_placed_roomy n) (only_roomy l (Service n)) (services_decided n) (lane_decided l (Service n))) [
        | inl both ↦ inl (placed_more n both.0 both.1)
        | inr without ↦ inr without
      ]

  fields_decided : (HasPlaced l (Channel Cc1) × HasPlaced l (Channel Cc3)) ⊎ ((cue : ℕ) × IsFirstIn IsField l cue)
  fields_decided =
      both_decided l (IsOnly (Channel Cc1)) (IsOnly (Channel Cc3)) IsField (cover_fields l formed) (in_fields l formed Cc1) (in_fields l formed Cc3)
      (only_roomy l (Channel Cc1)) (only_roomy l (Channel Cc3)) (lane_decided l (Channel Cc1)) (lane_decided l (Channel Cc3))

  fields_placed_roomy : HasPlaced l (Channel Cc1) × HasPlaced l (Channel Cc3) → (on : Lane) → IsField on → IsRoomy l on
  fields_placed_roomy both on field = at (cover_fields l formed on field)
    where
      at : IsOnly (Channel Cc1) on ⊎ (IsOnly (Channel Cc3) on ⊎ IsRoomy l on) → IsRoomy l on
      at (inl same) = only_roomy l (Channel Cc1) both.0 on same
      at (inr (inl same)) = only_roomy l (Channel Cc3) both.1 on same
      at (inr (inr roomy)) = roomy

  -- every list that keeps the rules has a placement, or a first cue without one
  pub list_decided : ((placed : Placement) × IsListPlaced l placed) ⊎ ((cue : ℕ) × list.IsFirstWithoutRoom l cue)
  list_decided =
      elim (both_decided l IsField (IsServiceBelow 7) IsAny (cover l formed ruled) (λ on field. tt) (λ on below. tt) fields_placed_roomy (below_placed_roomy 7)
      fields_decided (services_decided 7)) [
        | inl both ↦ inl (all_placed both.0 both.1)
        | inr without ↦ inr (without.0, first_of_any l without.0 without.1)
      ]
    where
      service_placed : PlacedBelow 7 → (service : ℕ) → HasPlaced l (Service service)
      service_placed placed service =
          elim (cases_lt service 7) [
            | inl low ↦ placed service low
            | inr far ↦ ([], unshared_placed l service ruled (unshared l formed ruled service (λ least most. omega (arith, most, far))))
          ]

      all_placed : HasPlaced l (Channel Cc1) × HasPlaced l (Channel Cc3) → PlacedBelow 7 → (placed : Placement) × IsListPlaced l placed
      all_placed fields placed = (
        placement fields.0.0 fields.1.0 (λ service. (service_placed placed service).0),
        placed_everywhere l formed fields.0.0 fields.1.0 (λ service. (service_placed placed service).0) fields.0.1 fields.1.1
            (λ service. (service_placed placed service).1),
      )
