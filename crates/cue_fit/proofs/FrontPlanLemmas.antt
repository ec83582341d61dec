-- The first cues of a list that has a plan have one, and such a list is fitted as it is.
use Rattle.std.proofs.Common.{◌≡◌, ◌∙◌, ℕ, suc, ◌==◌, ◌&&◌, inl, inr, max, Bool, true, false, List, [], ◌∷◌, ◌++◌, length, reverse, take, refl, sym, ap, subst, append_assoc, arith}
use Rattle.std.specs.Prelude.{MatchResult, Result, Ok, Err, Option, Some, None, find, if◌then◌else◌}
use Rattle.std.proofs.lemmas.Bool.{eqb-true}
use Rattle.std.proofs.lemmas.List.{append-nil, length-append, map-append, reverse-append, reverse-reverse, take_at}
use Rattle.std.proofs.lemmas.List.Elements.{All-same, All-take, filter-append, filter_map-append}
use Rattle.cc_base.specs.declared.rate.Rate.{Rate}
use Rattle.line21_codes.specs.Channels.{field_of_channel}
use Rattle.line21_codes.specs.declared.channels.Chan.{Chan}
use Rattle.cue_lists.specs.Cadences.{cadence_of}
use Rattle.dtvcc_author.specs.Captions.{caption_of, service_captions}
use Rattle.dtvcc_author.specs.declared.caption.Caption.{Caption}
use Rattle.cue_lists.proofs.InOrder.{in_order_formed}
use Rattle.cue_lists.proofs.SharesInOrder.{in_order_ruled}
use Rattle.cue_fit.proofs.PlannedLemmas.{placed_in_order}
use Rattle.cue_lists.proofs.RuleKept.{KeepsRules, keeps_rules, load_from_former_show}
use Rattle.cue_lists.proofs.RulesSaid.{faultless_ruled, ruled_faultless}
use Rattle.cue_lists.specs.Channels.{cues_on, is_on}
use Rattle.cue_lists.specs.Cues.{IsCueFormed}
use Rattle.cue_lists.specs.Hide.{hide_is}
use Rattle.cue_lists.specs.Lane.{is_line21, is_pop, kind_lane, on_lane}
use Rattle.cue_lists.specs.Listing.{IsFormed, Listing}
use Rattle.cue_lists.specs.Printing.{in_order}
use Rattle.cue_lists.specs.Rules.{IsRuled}
use Rattle.cue_lists.specs.Rules.Tests.{AreFaultless, verdicts}
use Rattle.cue_lists.specs.Rules.Former.{former_cue}
use Rattle.cue_lists.specs.declared.cue.Cue.{Cue}
use Rattle.cue_lists.specs.declared.lane.Lane.{Lane}
use Rattle.cue_lists.specs.declared.lane.Lane.TheVariants.{Channel, Service}
use Rattle.lanes.proofs.PlacingLemmas.{placed_prefix}
use Rattle.lanes.specs.ChannelLane.{channel_chunks, channel_chunks_from, field_cue_chunks}
use Rattle.lanes.specs.Chunks.{ServiceChunk}
use Rattle.lanes.specs.CueEvents.{channel_events, cue_events}
use Rattle.lanes.specs.CueSlots.{cues_in_slots, timed_in_slots}
use Rattle.lanes.specs.FieldLane.{field_lane}
use Rattle.lanes.specs.LaneEvents.{IsFree}
use Rattle.lanes.specs.Placing.{IsPlaced}
use Rattle.lanes.specs.ServiceChunks.{service_chunks, service_chunks_from, service_cue_chunks}
use Rattle.lanes.specs.ServiceRoom.{caption_lane}
use Rattle.lanes.specs.declared.chunk.FieldChunk.{FieldChunk}
use Rattle.frame_scheduler.proofs.LanesLemmas.{earliest_room, service_room}
use Rattle.frame_scheduler.proofs.RoomDecided.{list_decided}
use Rattle.frame_scheduler.specs.Planned.{LaneHasRoom, share_in}
use Rattle.frame_scheduler.specs.SlotLists.{slot_cues}
use Rattle.frame_scheduler.specs.ServicePlans.{IsMemory}
use Rattle.lanes.specs.declared.planning.PlanFault.{PlanFault}
use Rattle.lanes.specs.declared.planning.PlanFault.TheVariants.{Memory, NoRoom}
use Rattle.cue_fit.specs.Tries.{FitsList}
use Rattle.cue_fit.specs.Fitted.{AreFitted, HasPlan, IsFitted, list_of}
use Rattle.cue_fit.specs.Shown.{hidden_in, load_after, takes_place, with_shown}
use Rattle.cue_fit.proofs.FrontEventLemmas.{front_bytes, front_delay_end, front_free}

-- a placement in a lane that allows less is one in a lane that allows more
placed_weaker : {U : Type 0} (one other : List (U × ℕ) → U → ℕ → Type 0) → ((before : List (U × ℕ)) (u : U) (f : ℕ) → one before u f → other before u f)
    → (before : List (U × ℕ)) (us : List U) (fs : List ℕ) → IsPlaced one before us fs → IsPlaced other before us fs
placed_weaker one other weaker before [] [] p = tt
placed_weaker one other weaker before [] (f ∷ fs) p = p
placed_weaker one other weaker before (u ∷ us) [] p = p
placed_weaker one other weaker before (u ∷ us) (f ∷ fs) p =
    (weaker before u f p.0, placed_weaker one other weaker (before ++ (u, f) ∷ []) us fs p.1)

-- the units of cues, and of the cues after them
field_chunks-append : (channel : Chan) (number : ℕ) (cues more : List Cue)
    → (next : ℕ) × (channel_chunks_from channel number (cues ++ more) ≡ channel_chunks_from channel number cues ++ channel_chunks_from channel next more)
field_chunks-append channel number [] more = (number, refl)
field_chunks-append channel number (cue ∷ cues) more =
    let rest = field_chunks-append channel (suc number) cues more in
    let own = if is_on channel cue.kind then field_cue_chunks number cue else [] in (
      rest.0,
      ap (λ (l : List FieldChunk). own ++ l) rest.1
          ∙ sym (append_assoc own (channel_chunks_from channel (suc number) cues) (channel_chunks_from channel rest.0 more)),
    )

service_chunks-append : (rate : Rate) (service number : ℕ) (cues more : List Cue)
    → (next : ℕ) × (service_chunks_from rate service number (cues ++ more)
    ≡ service_chunks_from rate service number cues ++ service_chunks_from rate service next more)
service_chunks-append rate service number [] more = (number, refl)
service_chunks-append rate service number (cue ∷ cues) more =
    let rest = service_chunks-append rate service (suc number) cues more in
    let own = service_cue_chunks rate service number cue in (
      rest.0,
      ap (λ (l : List ServiceChunk). own ++ l) rest.1
          ∙ sym (append_assoc own (service_chunks_from rate service (suc number) cues) (service_chunks_from rate service rest.0 more)),
    )

module _ (l : Listing) (formed : IsFormed l) (plan : HasPlan l) (front after : List Cue) (split : l.cues ≡ front ++ after) where
  channel_room : (channel : Chan) (cue : ℕ) → LaneHasRoom (record l { cues = front }) (Channel channel) cue
  channel_room channel cue =
      let cadence = cadence_of l.rate channel in
      let cues : slot_cues l channel ≡ cues_in_slots cadence front ++ cues_in_slots cadence after =
      ap (λ (c : List Cue). cues_in_slots cadence c) split ∙ map-append (timed_in_slots cadence) front after in
      let chunks = field_chunks-append channel 1 (cues_in_slots cadence front) (cues_in_slots cadence after) in
      let all = subst (λ (c : List Cue). IsPlaced (field_lane (channel_events channel c)) [] (channel_chunks channel c) (plan.placed (Channel channel))) cues
      (plan.placement (Channel channel)).placed in
      let parted = subst (λ (c : List FieldChunk). IsPlaced (field_lane (channel_events channel (cues_in_slots cadence front ++ cues_in_slots cadence after))) [] c (plan.placed (Channel channel)))
      chunks.1 all in
      let first = placed_prefix (field_lane (channel_events channel (cues_in_slots cadence front ++ cues_in_slots cadence after)))
      (channel_chunks channel (cues_in_slots cadence front)) (channel_chunks_from channel chunks.0 (cues_in_slots cadence after)) (plan.placed (Channel channel)) parted in
      earliest_room channel (record l { cues = front }) first.0
      (placed_weaker (field_lane (channel_events channel (cues_in_slots cadence front ++ cues_in_slots cadence after)))
      (field_lane (channel_events channel (cues_in_slots cadence front)))
      (λ before u f allowed. record {
        behind = allowed.behind;
        loaded = allowed.loaded;
        ended = allowed.ended;
        free = λ n from to. fewer channel (cues_in_slots cadence front) (cues_in_slots cadence after) n (allowed.free n from to);
      })
      [] (channel_chunks channel (cues_in_slots cadence front)) first.0 first.1)
      cue
    where
      fewer : (channel : Chan) (a b : List Cue) (n : ℕ) → IsFree (channel_events channel (a ++ b)) n → IsFree (channel_events channel a) n
      fewer channel a b n free =
          front_free (field_of_channel channel) n (cues_on channel a) (cues_on channel b)
          (subst (λ (c : List Cue). IsFree (cue_events (field_of_channel channel) c) n) (filter-append (λ (cue : Cue). is_on channel cue.kind) a b) free)

  service_room_of : (service cue : ℕ) → LaneHasRoom (record l { cues = front }) (Service service) cue
  service_room_of service cue =
      let share = share_in l service in
      let cs = service_captions l.rate service front in
      let ds = service_captions l.rate service after in
      let captions : service_captions l.rate service l.cues ≡ cs ++ ds =
      ap (λ (c : List Cue). service_captions l.rate service c) split ∙ filter_map-append (caption_of l.rate service) front after in
      let chunks = service_chunks-append l.rate service 1 front after in
      let units : service_chunks l.rate service l.cues ≡ service_chunks l.rate service front ++ service_chunks_from l.rate service chunks.0 after =
      ap (λ (c : List Cue). service_chunks l.rate service c) split ∙ chunks.1 in
      let all = subst (λ (c : List Caption). IsPlaced (caption_lane share c) [] (service_chunks l.rate service l.cues) (plan.placed (Service service))) captions
      (plan.placement (Service service)).placed in
      let parted = subst (λ (c : List ServiceChunk). IsPlaced (caption_lane share (cs ++ ds)) [] c (plan.placed (Service service))) units all in
      let first = placed_prefix (caption_lane share (cs ++ ds)) (service_chunks l.rate service front) (service_chunks_from l.rate service chunks.0 after)
      (plan.placed (Service service)) parted in
      service_room service (record l { cues = front }) first.0
      (placed_weaker (caption_lane share (cs ++ ds)) (caption_lane share cs)
      (λ before u f allowed. record {
        order = allowed.order;
        loaded = allowed.loaded;
        ended = allowed.ended;
        fits = let fits = allowed.fits in let bytes = front_bytes f cs ds in omega (arith, fits, bytes);
        delayed = λ start end is from to. allowed.delayed start end (front_delay_end start cs ds end is) from to;
      })
      [] (service_chunks l.rate service front) first.0 first.1)
      cue

  lane_room : (on : Lane) (cue : ℕ) → LaneHasRoom (record l { cues = front }) on cue
  lane_room (Channel channel) cue = channel_room channel cue
  lane_room (Service service) cue = service_room_of service cue

  faultless_tail : (xs ys : List Cue) → AreFaultless l (xs ++ ys) → AreFaultless l ys
  faultless_tail [] ys all = all
  faultless_tail (x ∷ xs) ys all = faultless_tail xs ys all.1

  -- what the first cues keep
  pub front_faultless : AreFaultless l (reverse front)
  front_faultless =
      faultless_tail (reverse after) (reverse front)
      (subst (AreFaultless l) (ap reverse split ∙ reverse-append front after) (ruled_faultless l plan.ruled))

  front_formed : IsFormed (record l { cues = front })
  front_formed = record {
    rate = formed.rate;
    some = formed.some;
    frames = formed.frames;
    shares = formed.shares;
    few = let long = length-append front after in let most = formed.few in let same = ap length split in omega (arith, long, most, same);
    cues = All-same IsCueFormed front (take (length front) l.cues) (sym (ap (take (length front)) split ∙ take_at front after (length front) refl)) (All-take IsCueFormed (length front) l.cues formed.cues);
  }

  same_rules : (cues : List Cue) → AreFaultless l cues → AreFaultless (record l { cues = front }) cues
  unfolding verdicts
  same_rules [] all = tt
  same_rules (cue ∷ cues) all = (all.0, same_rules cues all.1)

  front_ruled : IsRuled (record l { cues = front })
  front_ruled = faultless_ruled (record l { cues = front }) (same_rules (reverse front) front_faultless)

  -- the first cues have a plan
  pub front_plan : HasPlan (record l { cues = front })
  front_plan =
      elim (list_decided (record l { cues = front }) front_formed front_ruled) [
        | inl there ↦ record { ruled = front_ruled; placed = there.0; placement = there.1 }
        | inr without ↦ absurd (let lacks = without.1 in lacks.none.1 (lane_room lacks.none.0 without.0))
      ]

-- a cue that takes the place of another one is shown when that is hidden
hide_there : (cue : Cue) (hide : Option ℕ) → hide_is hide (λ h. h == cue.show) ≡ true → hide ≡ Some cue.show
hide_there cue None is = cc
hide_there cue (Some h) is = ap Some (eqb-true h cue.show is)

both_true : (a b : Bool) → (a && b) ≡ true → b ≡ true
both_true true b both = both
both_true false b both = cc

same_hide : (cue former : Cue) → takes_place cue (Some former) ≡ true → record former { hide = Some cue.show } ≡ former
same_hide cue former place =
    let h : former.hide ≡ Some cue.show = hide_there cue former.hide (both_true (is_pop cue.kind) (hide_is former.hide (λ hide. hide == cue.show)) place) in
    ap (λ (o : Option ℕ). record former { hide = o }) (sym h)

hidden_same : (cue : Cue) (cues : List Cue) → takes_place cue (find (on_lane (kind_lane cue.kind)) cues) ≡ true → hidden_in cue.show (kind_lane cue.kind) cues ≡ cues
hidden_same cue [] place = refl
hidden_same cue (c ∷ cs) place = at (on_lane (kind_lane cue.kind) c) place (hidden_same cue cs)
  where
    at : (b : Bool) → takes_place cue (if b then Some c else find (on_lane (kind_lane cue.kind)) cs) ≡ true
        → (takes_place cue (find (on_lane (kind_lane cue.kind)) cs) ≡ true → hidden_in cue.show (kind_lane cue.kind) cs ≡ cs)
        → (if b then record c { hide = Some cue.show } ∷ cs else c ∷ hidden_in cue.show (kind_lane cue.kind) cs) ≡ c ∷ cs
    at true is rest = ap (λ (x : Cue). x ∷ cs) (same_hide cue c is)
    at false is rest = ap (λ (xs : List Cue). c ∷ xs) (rest is)

-- a cue that keeps the rules stands as it is
stays : (l : Listing) (earlier : List Cue) (cue : Cue) → KeepsRules l earlier cue → with_shown cue.show cue earlier ≡ cue ∷ earlier
stays l earlier cue keeps =
    ap (λ (load : ℕ). record cue { load = load } ∷ (if takes_place cue (former_cue cue earlier) then hidden_in cue.show (kind_lane cue.kind) earlier else earlier)) (load (former_cue cue earlier) refl)
    ∙ ap (λ (cues : List Cue). cue ∷ cues) (hidden (takes_place cue (former_cue cue earlier)) refl (hidden_same cue earlier))
  where
    load : (o : Option Cue) → former_cue cue earlier ≡ o → load_after cue o ≡ cue.load
    load None is = refl
    load (Some former) is = at (is_line21 cue.kind) refl
      where
        at : (b : Bool) → is_line21 cue.kind ≡ b → (if b then max cue.load former.show else cue.load) ≡ cue.load
        at true on = let low = load_from_former_show l earlier cue keeps former on is in omega arith
        at false on = refl

    hidden : (b : Bool) → takes_place cue (former_cue cue earlier) ≡ b
        → (takes_place cue (former_cue cue earlier) ≡ true → hidden_in cue.show (kind_lane cue.kind) earlier ≡ earlier)
        → (if b then hidden_in cue.show (kind_lane cue.kind) earlier else earlier) ≡ earlier
    hidden true place same = same place
    hidden false place same = refl

-- a list that has a plan is fitted as it is, its shares in order
module _ (late : ℕ) (list : Listing) (formed : IsFormed (in_order list)) (plan : HasPlan (in_order list)) where
  each_stays : (front after : List Cue) → list.cues ≡ front ++ after → AreFitted late list (reverse front) after (reverse list.cues)
  each_stays front [] split = ap reverse (split ∙ append-nil front)
  each_stays front (cue ∷ after) split =
      let longer : list.cues ≡ (front ++ cue ∷ []) ++ after = split ∙ sym (append_assoc front (cue ∷ []) after) in
      let turned : reverse (front ++ cue ∷ []) ≡ cue ∷ reverse front = reverse-append front (cue ∷ []) in
      let kept : AreFaultless (in_order list) (cue ∷ reverse front) =
      subst (AreFaultless (in_order list)) turned (front_faultless (in_order list) formed plan (front ++ cue ∷ []) after longer) in
      let same : with_shown cue.show cue (reverse front) ≡ cue ∷ reverse front =
      stays (in_order list) (reverse front) cue (keeps_rules (in_order list) (reverse front) cue kept.0) in
      let may : HasPlan (list_of list (cue ∷ reverse front)) =
      subst (λ (cues : List Cue). HasPlan (record (in_order list) { cues = cues })) (sym (ap reverse (sym turned) ∙ reverse-reverse (front ++ cue ∷ [])))
      (front_plan (in_order list) formed plan (front ++ cue ∷ []) after longer) in (
        cue.show,
        record {
          from = omega arith;
          within = omega arith;
          may = subst (λ (cues : List Cue). HasPlan (list_of list cues)) (sym same) may;
          first = λ other from less. absurd (omega arith);
        },
        subst (λ (cues : List Cue). AreFitted late list cues after (reverse list.cues)) (turned ∙ sym same) (each_stays (front ++ cue ∷ []) after longer),
      )

  pub planned_is_fitted : IsFitted late list (in_order list)
  planned_is_fitted = record {
    cues = reverse list.cues;
    are = each_stays [] list.cues refl;
    is = ap (λ (cues : List Cue). record (in_order list) { cues = cues }) (sym (reverse-reverse list.cues));
  }

-- so is one whose shares stand in any order
pub kept_is_fitted : (late : ℕ) (list : Listing) → IsFormed list → HasPlan list → IsFitted late list (in_order list)
kept_is_fitted late list formed plan =
    planned_is_fitted late list (in_order_formed list formed) (record {
      ruled = in_order_ruled list formed plan.ruled;
      placed = plan.placed;
      placement = λ on. placed_in_order list plan.placed formed on (plan.placement on);
    })

pub kept_told : (late : ℕ) (list : Listing) → IsFormed list → HasPlan list → (cues : List Cue) (answer : Result Listing PlanFault) → cues ≡ list.cues
    → MatchResult answer (λ other. other ≡ record (in_order list) { cues = cues }) IsMemory → FitsList late list answer
kept_told late list formed plan cues (Ok other) same is =
    let whole : other ≡ in_order list = is ∙ ap (λ (cs : List Cue). record (in_order list) { cues = cs }) same in
    subst (λ (l : Listing). IsFitted late list l) (sym whole) (kept_is_fitted late list formed plan)
kept_told late list formed plan cues (Err (Memory error)) same is = tt
kept_told late list formed plan cues (Err (NoRoom number)) same is = absurd is
