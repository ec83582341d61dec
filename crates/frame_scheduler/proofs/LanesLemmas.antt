-- What the lanes of a list answer together.
use Rattle.std.proofs.Common.{◌≡◌, ◌∙◌, ℕ, suc, false, List, [], ◌∷◌, ap, sym, subst, refl, arith, inl, inr, ◌⊎◌, Some, None, Option, Result, Ok, Err, IfOk, IfErr, All}
use Rattle.std.specs.Prelude.{⊤}
use Rattle.std.specs.Result.{result_err}
use Rattle.std.specs.Option.{option_map}
use Rattle.std.proofs.Math.Path.{fun_ext}
use Rattle.std.proofs.lemmas.Bool.{cases_lt}
use Rattle.std.proofs.lemmas.List.Elements.{All-head, All-tail}
use Rattle.line21_codes.specs.declared.channels.Chan.{Chan}
use Rattle.line21_codes.specs.declared.channels.Chan.TheVariants.{Cc1, Cc2, Cc3, Cc4}
use Rattle.line21_codes.specs.declared.pairs.Pair.{Pair}
use Rattle.cue_lists.specs.Cues.{IsCueFormed, IsOfKind}
use Rattle.cue_lists.specs.Line21Cues.{IsAuthoredChannel}
use Rattle.cue_lists.specs.Listing.{IsFormed, Listing}
use Rattle.cue_lists.specs.declared.cue.Cue.{Cue}
use Rattle.cue_lists.specs.declared.cue.Kind.{Kind}
use Rattle.cue_lists.specs.declared.cue.Kind.TheVariants as kind
use Rattle.cue_lists.specs.declared.cue.Run.{Run}
use Rattle.cue_lists.specs.declared.lane.Lane.{Lane}
use Rattle.cue_lists.specs.declared.lane.Lane.TheVariants.{Channel, Service}
use Rattle.lanes.specs.Channels.{is_on, same_channel}
use Rattle.cue_lists.specs.Cadences.{cadence_of, slot_from, slot_in}
use Rattle.lanes.specs.CueEvents.{channel_events}
use Rattle.cue_lists.proofs.CadenceLemmas.{slot_from_first}
use Rattle.lanes.proofs.CueSlotLemmas.{cues_formed_in_slots}
use Rattle.lanes.specs.Event.{Event}
use Rattle.lanes.specs.ChannelLane.{IsChannelPlaced, channel_chunks, channel_slot, channel_chunks_from}
use Rattle.lanes.specs.FieldLane.{field_lane}
use Rattle.lanes.specs.FieldPlan.{IsFieldPlan, IsFieldFault, PlannedField, lane_pair, slot_pair, field_chunk_cue}
use Rattle.lanes.specs.LaneTimeline.{placed_timeline}
use Rattle.lanes.specs.Placing.{IsEarliest, IsPlaced}
use Rattle.frame_scheduler.specs.SlotLists.{slot_cues}
use Rattle.frame_scheduler.specs.LaneSets.{IsFaultIn, IsField, IsFirstIn, fault_beside}
use Rattle.frame_scheduler.specs.Planned.{captions_in, channel_pair, chunks_in, LaneHasRoom, IsFirstWithoutRoom, IsLanePlaced, IsListPlaced, Placement, service_lane_of, share_in}
use Rattle.lanes.specs.ServiceChunks.{service_chunk_cue}
use Rattle.lanes.specs.ServicePlan.{IsServiceFault}
use Rattle.lanes.proofs.ChunkOrderLemmas.{chunks_in_order}
use Rattle.frame_scheduler.proofs.LaneSetLemmas.{IsRoomy, fault_of_both, fault_of_p, fault_of_q}
use Rattle.lanes.specs.Timeline.{slot}
use Rattle.lanes.specs.declared.chunk.FieldChunk.{FieldChunk}
use Rattle.lanes.specs.declared.placed_unit.PlacedUnit.{PlacedUnit}
use Rattle.lanes.specs.declared.planning.PlanFault.{PlanFault}
use Rattle.lanes.specs.declared.planning.PlanFault.TheVariants.{Memory, NoRoom}
use Rattle.lanes.proofs.ChannelOrderLemmas.{channel_in_order}
use Rattle.lanes.proofs.LanePlanLemmas.{timeline_is}
use Rattle.lanes.proofs.LaneRoomLemmas.{room_all}
use Rattle.lanes.proofs.PlacingLemmas.{earliest_none, earliest_same}

-- no cue is on a channel that isn't authored
other_channel : (channel own : Chan) → (IsAuthoredChannel channel → ⊥) → IsAuthoredChannel own → same_channel channel own ≡ false
other_channel Cc1 own other authored = absurd (other tt)
other_channel Cc3 own other authored = absurd (other tt)
other_channel Cc2 Cc1 other authored = refl
other_channel Cc2 Cc3 other authored = refl
other_channel Cc2 Cc2 other authored = absurd authored
other_channel Cc2 Cc4 other authored = absurd authored
other_channel Cc4 Cc1 other authored = refl
other_channel Cc4 Cc3 other authored = refl
other_channel Cc4 Cc2 other authored = absurd authored
other_channel Cc4 Cc4 other authored = absurd authored

off_channel : (channel : Chan) → (IsAuthoredChannel channel → ⊥) → (k : Kind) (hide : Option ℕ) (runs : List Run) → IsOfKind k hide runs → is_on channel k ≡ false
off_channel channel other (kind.Pop own) hide runs formed = other_channel channel own other formed.0
off_channel channel other (kind.Paint own) hide runs formed = other_channel channel own other formed.0
off_channel channel other (kind.Roll own rows) hide runs formed = other_channel channel own other formed.0
off_channel channel other (kind.Win window) hide runs formed = refl

-- so it has no units
pub no_chunks : (channel : Chan) → (IsAuthoredChannel channel → ⊥) → (number : ℕ) (cues : List Cue) → All IsCueFormed cues → channel_chunks_from channel number cues ≡ []
no_chunks channel other number [] formed = refl
no_chunks channel other number (cue ∷ cues) formed =
    let here : is_on channel cue.kind ≡ false = off_channel channel other cue.kind cue.hide cue.runs (All-head IsCueFormed cue cues formed).kind in
    rw here (no_chunks channel other (suc number) cues (All-tail IsCueFormed cue cues formed))

-- units that have a placement up to each cue
pub earliest_room : (channel : Chan) (l : Listing) (slots : List ℕ)
    → IsPlaced (field_lane (channel_events channel (slot_cues l channel))) [] (channel_chunks channel (slot_cues l channel)) slots
    → (cue : ℕ) → LaneHasRoom l (Channel channel) cue
earliest_room channel l slots placed cue =
    room_all field_chunk_cue (field_lane (channel_events channel (slot_cues l channel))) (channel_chunks channel (slot_cues l channel))
    (channel_in_order channel (slot_cues l channel)) slots placed cue

-- so do a service's units
pub service_room : (service : ℕ) (l : Listing) (frames : List ℕ) → IsPlaced (service_lane_of l service) [] (chunks_in l service) frames
    → (cue : ℕ) → LaneHasRoom l (Service service) cue
service_room service l frames placed cue =
    room_all service_chunk_cue (service_lane_of l service) (chunks_in l service) (chunks_in_order l.rate service l.cues) frames placed cue

placed_room : (l : Listing) (placed : Placement) → IsListPlaced l placed → (on : Lane) (cue : ℕ) → LaneHasRoom l on cue
placed_room l placed is (Channel channel) cue = earliest_room channel l (placed (Channel channel)) (is (Channel channel)).placed cue
placed_room l placed is (Service service) cue = service_room service l (placed (Service service)) (is (Service service)).placed cue

-- where all units of a list have a placement, no cue is without one
pub placed_has_room : (l : Listing) (placed : Placement) (cue : ℕ) → IsListPlaced l placed → IsFirstWithoutRoom l cue → ⊥
placed_has_room l placed cue all without = without.none.1 (placed_room l placed all without.none.0 cue)

-- one cue is the first without a placement
pub first_without_room : (l : Listing) (a b : ℕ) → IsFirstWithoutRoom l a → IsFirstWithoutRoom l b → a ≡ b
first_without_room l a b first second =
    elim (cases_lt a b) [
      | inl less ↦ absurd (first.none.1 (second.first a less first.none.0))
      | inr most ↦ elim (cases_lt b a) [
        | inl less ↦ absurd (second.none.1 (first.first b less second.none.0))
        | inr least ↦ omega arith
      ]
    ]

-- a list has one earliest placement
pub one_placement : (l : Listing) (a b : Placement) → IsListPlaced l a → IsListPlaced l b → a ≡ b
one_placement l a b first second = fun_ext (λ on. same on (a on) (b on) (first on) (second on))
  where
    same : (on : Lane) (fs gs : List ℕ) → IsLanePlaced l on fs → IsLanePlaced l on gs → fs ≡ gs
    same (Channel channel) fs gs one other = earliest_same (field_lane (channel_events channel (slot_cues l channel))) (channel_chunks channel (slot_cues l channel)) fs gs one other
    same (Service service) fs gs one other = earliest_same (service_lane_of l service) (chunks_in l service) fs gs one other

-- the placement of the two channels that are authored, and of services
abbrev pub placement : List ℕ → List ℕ → (ℕ → List ℕ) → Placement
placement one two frames (Channel Cc1) = one
placement one two frames (Channel Cc2) = []
placement one two frames (Channel Cc3) = two
placement one two frames (Channel Cc4) = []
placement one two frames (Service service) = frames service

-- one lane alone
abbrev pub IsOnly : Lane → Lane → Type 0
IsOnly one on = on ≡ one

-- any lane
abbrev pub IsAny : Lane → Type 0
IsAny on = ⊤

-- the first cue without room on any lane is the first of all
pub first_of_any : (l : Listing) (cue : ℕ) → IsFirstIn IsAny l cue → IsFirstWithoutRoom l cue
first_of_any l cue first = record { none = (first.none.0, first.none.2); first = λ earlier below on. first.first earlier below on tt }

-- the fault of one lane
pub channel_fault : (l : Listing) (channel : Chan) (fault : PlanFault)
    → IsFieldFault (channel_events channel (slot_cues l channel)) (channel_chunks channel (slot_cues l channel)) fault → IsFaultIn (IsOnly (Channel channel)) l fault
channel_fault l channel (Memory error) is = tt
channel_fault l channel (NoRoom cue) is = record {
  none = (Channel channel, refl, is.none);
  first = λ earlier below on same. subst (λ o. LaneHasRoom l o earlier) (sym same) (is.first earlier below);
}

pub service_fault : (l : Listing) (service : ℕ) (fault : PlanFault) → IsServiceFault (share_in l service) (captions_in l service) (chunks_in l service) fault
    → IsFaultIn (IsOnly (Service service)) l fault
service_fault l service (Memory error) is = tt
service_fault l service (NoRoom cue) is = record {
  none = (Service service, refl, is.none);
  first = λ earlier below on same. subst (λ o. LaneHasRoom l o earlier) (sym same) (is.first earlier below);
}

module _ (l : Listing) (formed : IsFormed l) where
  -- a channel that isn't authored is placed, and has room
  pub off_placed : (channel : Chan) → (IsAuthoredChannel channel → ⊥) → IsChannelPlaced channel (slot_cues l channel) []
  off_placed channel other =
      subst (λ us. IsEarliest (field_lane (channel_events channel (slot_cues l channel))) us [])
      (sym (no_chunks channel other 1 (slot_cues l channel) (cues_formed_in_slots (cadence_of l.rate channel) l.cues formed.cues)))
      (earliest_none (field_lane (channel_events channel (slot_cues l channel))))

  pub off_room : (channel : Chan) → (IsAuthoredChannel channel → ⊥) → IsRoomy l (Channel channel)
  off_room channel other cue = earliest_room channel l [] (off_placed channel other).placed cue

  -- a field's lane is CC1's or CC3's, or has room
  pub cover_fields : (on : Lane) → IsField on → IsOnly (Channel Cc1) on ⊎ (IsOnly (Channel Cc3) on ⊎ IsRoomy l on)
  cover_fields (Channel Cc1) field = inl refl
  cover_fields (Channel Cc2) field = inr (inr (off_room Cc2 (λ a. a)))
  cover_fields (Channel Cc3) field = inr (inl refl)
  cover_fields (Channel Cc4) field = inr (inr (off_room Cc4 (λ a. a)))
  cover_fields (Service service) field = absurd field

  pub in_fields : (channel : Chan) (on : Lane) → IsOnly (Channel channel) on → IsField on
  in_fields channel on same = subst IsField (sym same) tt

  pub placed_everywhere : (one two : List ℕ) (frames : ℕ → List ℕ) → IsChannelPlaced Cc1 (slot_cues l Cc1) one → IsChannelPlaced Cc3 (slot_cues l Cc3) two
      → ((service : ℕ) → IsLanePlaced l (Service service) (frames service)) → IsListPlaced l (placement one two frames)
  placed_everywhere one two frames first second all (Channel Cc1) = first
  placed_everywhere one two frames first second all (Channel Cc2) = off_placed Cc2 (λ a. a)
  placed_everywhere one two frames first second all (Channel Cc3) = second
  placed_everywhere one two frames first second all (Channel Cc4) = off_placed Cc4 (λ a. a)
  placed_everywhere one two frames first second all (Service service) = all service

  abbrev events : Chan → List Event
  events channel = channel_events channel (slot_cues l channel)

  abbrev chunks : Chan → List FieldChunk
  chunks channel = channel_chunks channel (slot_cues l channel)

  -- a channel that is planned has room
  pub planned_room : (channel : Chan) (planned : PlannedField) → IsFieldPlan (events channel) (chunks channel) planned → (on : Lane) → IsOnly (Channel channel) on → IsRoomy l on
  planned_room channel planned is on same = subst (IsRoomy l) (sym same) (λ cue. earliest_room channel l is.0.0 is.0.1.placed cue)

  pub one_refused : (fault : PlanFault) (planned : PlannedField) → IsFieldFault (events Cc1) (chunks Cc1) fault → IsFieldPlan (events Cc3) (chunks Cc3) planned → IsFaultIn IsField l fault
  one_refused fault planned one two =
      fault_of_p l (IsOnly (Channel Cc1)) (IsOnly (Channel Cc3)) IsField cover_fields (in_fields Cc1) (in_fields Cc3) fault (channel_fault l Cc1 fault one)
      (planned_room Cc3 planned two)

  pub two_refused : (fault : PlanFault) (planned : PlannedField) → IsFieldPlan (events Cc1) (chunks Cc1) planned → IsFieldFault (events Cc3) (chunks Cc3) fault → IsFaultIn IsField l fault
  two_refused fault planned one two =
      fault_of_q l (IsOnly (Channel Cc1)) (IsOnly (Channel Cc3)) IsField cover_fields (in_fields Cc1) (in_fields Cc3) fault (channel_fault l Cc3 fault two)
      (planned_room Cc1 planned one)

  -- what the lane of CC3 answers beside CC1's, which isn't planned
  pub refused_beside : (one : PlanFault) (two : Result PlannedField PlanFault) (other : Option PlanFault) → IsFieldFault (events Cc1) (chunks Cc1) one
      → IfOk two (IsFieldPlan (events Cc3) (chunks Cc3)) → IfErr two (IsFieldFault (events Cc3) (chunks Cc3)) → other ≡ result_err two
      → IsFaultIn IsField l (fault_beside one other)
  refused_beside one (Ok planned) other first placed refused is = subst (λ o. IsFaultIn IsField l (fault_beside one o)) (sym is) (one_refused one planned first placed)
  refused_beside one (Err two) other first placed refused is =
      subst (λ o. IsFaultIn IsField l (fault_beside one o)) (sym is)
      (fault_of_both l (IsOnly (Channel Cc1)) (IsOnly (Channel Cc3)) IsField cover_fields (in_fields Cc1) (in_fields Cc3) one two (channel_fault l Cc1 one first)
      (channel_fault l Cc3 two refused))

  -- a planned lane has its channel's pairs
  lane_gives : (channel : Chan) (planned : PlannedField) (is : IsFieldPlan (events channel) (chunks channel) planned) (n : ℕ)
      → channel_slot channel (slot_cues l channel) is.0.0 n ≡ slot_pair planned n
  lane_gives channel planned is n =
      ap (λ t. slot t n) (sym (timeline_is (events channel) (chunks channel) is.0.0))
      ∙ ap (λ (us : List PlacedUnit). slot (placed_timeline (events channel) us) n) (sym is.0.2)
      ∙ ap (λ (es : List Event). slot (placed_timeline es planned.units) n) (sym is.1)

  -- in each frame that has a slot
  pub frame_gives : (channel : Chan) (planned : PlannedField) (is : IsFieldPlan (events channel) (chunks channel) planned) (n : ℕ)
      → channel_pair l channel is.0.0 n ≡ lane_pair (cadence_of l.rate channel) planned n
  frame_gives channel planned is n = of_slot (slot_in (cadence_of l.rate channel) n)
    where
      of_slot : (o : Option ℕ) → option_map (channel_slot channel (slot_cues l channel) is.0.0) o ≡ option_map (slot_pair planned) o
      of_slot None = refl
      of_slot (Some k) = ap (λ (pair : Pair). Some pair) (lane_gives channel planned is k)

  -- a planned lane is at the first of all slots
  pub at_first : (channel : Chan) (planned : PlannedField) → IsFieldPlan (events channel) (chunks channel) planned
      → planned.slot ≡ slot_from (cadence_of l.rate channel) 0
  at_first channel planned is = is.2 ∙ sym (slot_from_first (cadence_of l.rate channel))
