-- Whether a cue of a channel may be shown after others depends on the former cue of its channel alone.
use Rattle.std.proofs.Common.{◌≡◌, ◌∙◌, ℕ, suc, inl, inr, Bool, true, false, cond, List, [], ◌∷◌, ◌++◌, refl, sym, ap, subst}
use Rattle.std.specs.Prelude.{Option, None}
use Rattle.std.specs.List.{AllByRecursion}
use Rattle.std.proofs.lemmas.Bool.{eqb-true}
use Rattle.std.proofs.lemmas.List.{append-nil, map-append}
use Rattle.std.proofs.lemmas.List.Elements.{All-from_recursion, filter-append, filter_map-append, recursion_from_All}
use Rattle.cc_base.specs.declared.rate.Rate.{Rate}
use Rattle.line21_codes.specs.Channels.{field_of_channel}
use Rattle.line21_codes.specs.declared.channels.Chan.{Chan}
use Rattle.line21_codes.specs.declared.channels.Chan.TheVariants as chan
use Rattle.cue_lists.specs.Cadences.{cadence_of, slot_from, slot_step}
use Rattle.cue_lists.proofs.CadenceLemmas.{slot_step_is}
use Rattle.cue_lists.proofs.LaneCues.{lane_cues}
use Rattle.cue_lists.proofs.RulesSaid.{lanes_ruled, ruled_by_lanes}
use Rattle.cue_lists.specs.Channels.{cues_of_service, cues_on, is_on}
use Rattle.cue_lists.specs.Lane.{is_line21, kind_lane, on_lane, same_channel, same_lane}
use Rattle.cue_lists.specs.Listing.{IsFormed, Listing}
use Rattle.cue_lists.specs.Rules.Sentences.{AreInSequence, AreInService, AreLanesRuled, ComesAfter, IsOnSlots}
use Rattle.cue_lists.specs.declared.cue.Cue.{Cue}
use Rattle.cue_lists.specs.declared.cue.Kind.{Kind}
use Rattle.cue_lists.specs.declared.cue.Kind.TheVariants as kind
use Rattle.cue_lists.specs.declared.lane.Lane.{Lane}
use Rattle.cue_lists.specs.declared.lane.Lane.TheVariants.{Channel, Service}
use Rattle.dtvcc_author.specs.Captions.{caption_of, caption_with, service_captions}
use Rattle.dtvcc_author.specs.CueUnits.{window_cue_units}
use Rattle.dtvcc_author.specs.declared.caption.Caption.{Caption}
use Rattle.lanes.proofs.CueSlotLemmas.{cues_on_slots}
use Rattle.lanes.proofs.SlotSequenceLemmas.{AreInSlots, in_slots}
use Rattle.lanes.specs.Chunks.{ServiceChunk}
use Rattle.lanes.specs.CueEvents.{cue_events}
use Rattle.lanes.specs.CueSlots.{cues_in_slots, timed_in_slots}
use Rattle.lanes.specs.FieldLane.{field_lane}
use Rattle.lanes.specs.Placing.{IsPlaced}
use Rattle.lanes.specs.ServiceChunks.{chunks_with, service_chunks_from, service_cue_chunks}
use Rattle.lanes.specs.ServiceRoom.{caption_lane}
use Rattle.frame_scheduler.proofs.LanesLemmas.{earliest_room, service_room}
use Rattle.frame_scheduler.proofs.RoomDecided.{list_decided}
use Rattle.frame_scheduler.specs.Planned.{LaneHasRoom, captions_in, chunks_in, service_lane_of, share_in}
use Rattle.frame_scheduler.specs.SlotLists.{slot_cues}
use Rattle.cue_fit.specs.Fitted.{HasPlan}
use Rattle.cue_fit.proofs.TailLemmas.{AreLine21, HaveRoom, longer_room, numbers_off, numbers_on, tail_room, units_on}

-- what the cues of a channel of a list that has a plan owe
pub record AreGood (rate : Rate) (frames : ℕ) (channel : Chan) (cues : List Cue) : Type 0 where
  pub sequence : AreInSequence (slot_step rate) frames cues
  pub on_slots : AllByRecursion (IsOnSlots (cadence_of rate channel)) cues
  pub room : HaveRoom (field_of_channel channel) (cues_in_slots (cadence_of rate channel) cues)

-- and the cues of a service
pub record IsServed (list : Listing) (service : ℕ) : Type 0 where
  pub ruled : AreInService list service (cues_of_service service list.cues)
  pub frames : List ℕ
  pub placed : IsPlaced (service_lane_of list service) [] (chunks_in list service) frames

-- the units of a channel have room by their cues in slots
channel_room : (list : Listing) (channel : Chan) (slots : List ℕ)
    → IsPlaced (field_lane (cue_events (field_of_channel channel) (cues_on channel (slot_cues list channel)))) [] (units_on (cues_on channel (slot_cues list channel))) slots
    → HaveRoom (field_of_channel channel) (cues_in_slots (cadence_of list.rate channel) (cues_on channel list.cues))
channel_room list channel slots placed =
    subst (HaveRoom (field_of_channel channel)) (cues_on_slots (cadence_of list.rate channel) channel list.cues) (slots, placed)

pub plan_good : (list : Listing) → HasPlan list → (channel : Chan) → AreGood list.rate list.frames channel (cues_on channel list.cues)
plan_good list plan channel =
    let ruled = lanes_ruled list plan.ruled in
    record {
      sequence = ruled.channels channel;
      on_slots = recursion_from_All (IsOnSlots (cadence_of list.rate channel)) (cues_on channel list.cues) (ruled.on_slots channel);
      room =
          channel_room list channel (plan.placed (Channel channel))
          (numbers_off (cue_events (field_of_channel channel) (cues_on channel (slot_cues list channel))) channel (slot_cues list channel) (plan.placed (Channel channel))
          (plan.placement (Channel channel)).placed);
    }

pub plan_served : (list : Listing) → HasPlan list → (service : ℕ) → IsServed list service
plan_served list plan service = record {
  ruled = (lanes_ruled list plan.ruled).services service;
  frames = plan.placed (Service service);
  placed = (plan.placement (Service service)).placed;
}

-- a list of which all this holds has a plan
pub good_plan : (list : Listing) → IsFormed list → ((channel : Chan) → AreGood list.rate list.frames channel (cues_on channel list.cues))
    → ((service : ℕ) → IsServed list service) → HasPlan list
good_plan list formed good served =
    let lanes : AreLanesRuled list = record {
      channels = λ channel. (good channel).sequence;
      on_slots = λ channel. All-from_recursion (IsOnSlots (cadence_of list.rate channel)) (cues_on channel list.cues) (good channel).on_slots;
      services = λ service. (served service).ruled;
    } in
    let ruled = ruled_by_lanes list formed lanes in
    elim (list_decided list formed ruled) [
      | inl there ↦ record { ruled = ruled; placed = there.0; placement = there.1 }
      | inr without ↦ absurd (let lacks = without.1 in lacks.none.1 (room lacks.none.0 without.0))
    ]
  where
    room : (on : Lane) (cue : ℕ) → LaneHasRoom list on cue
    room (Channel channel) cue =
        let slots = subst (HaveRoom (field_of_channel channel)) (sym (cues_on_slots (cadence_of list.rate channel) channel list.cues)) (good channel).room in
        earliest_room channel list slots.0
        (numbers_on (cue_events (field_of_channel channel) (cues_on channel (slot_cues list channel))) channel (slot_cues list channel) slots.0 slots.1) cue
    room (Service service) cue = service_room service list (served service).frames (served service).placed cue

-- cues in sequence, the last of which is hidden later, and one more after it
comes_later : (step : ℕ) (former cue : Cue) (hide : Option ℕ) → ComesAfter step former cue → ComesAfter step former (record cue { hide = hide })
comes_later step former cue hide comes = record {
  loaded = comes.loaded;
  shown = comes.shown;
  apart = comes.apart;
  cleared = comes.cleared;
  continued = λ none. let continued = comes.continued none in record { roll = continued.roll; kind = continued.kind; base = continued.base };
}

sequence_longer : (step frames : ℕ) (cues : List Cue) (former cue : Cue) (hide : Option ℕ) → AreInSequence step frames (cues ++ former ∷ [])
    → AreInSequence step frames (record former { hide = hide } ∷ cue ∷ []) → AreInSequence step frames (cues ++ record former { hide = hide } ∷ cue ∷ [])
sequence_longer step frames [] former cue hide are last = last
sequence_longer step frames (x ∷ []) former cue hide are last = (are.0, comes_later step x former hide are.1, last)
sequence_longer step frames (x ∷ (y ∷ cues)) former cue hide are last = (are.0, are.1, sequence_longer step frames (y ∷ cues) former cue hide are.2 last)

sequence_tail : (step frames : ℕ) (cues : List Cue) (next : Cue) (later : List Cue) → AreInSequence step frames (cues ++ next ∷ later)
    → AreInSequence step frames (next ∷ later)
sequence_tail step frames [] next later are = are
sequence_tail step frames (x ∷ []) next later are = are.2
sequence_tail step frames (x ∷ (y ∷ cues)) next later are = sequence_tail step frames (y ∷ cues) next later are.2

all_both : {X : Type 0} (P : X → Type 0) (xs ys : List X) → AllByRecursion P xs → AllByRecursion P ys → AllByRecursion P (xs ++ ys)
all_both P [] ys all more = more
all_both P (x ∷ xs) ys all more = (all.0, all_both P xs ys all.1 more)

all_first : {X : Type 0} (P : X → Type 0) (xs ys : List X) → AllByRecursion P (xs ++ ys) → AllByRecursion P xs
all_first P [] ys all = tt
all_first P (x ∷ xs) ys all = (all.0, all_first P xs ys all.1)

all_last : {X : Type 0} (P : X → Type 0) (xs ys : List X) → AllByRecursion P (xs ++ ys) → AllByRecursion P ys
all_last P [] ys all = all
all_last P (x ∷ xs) ys all = all_last P xs ys all.1

line21_timed : (rate : Rate) (channel : Chan) (cues : List Cue) → AreLine21 cues → AreLine21 (cues_in_slots (cadence_of rate channel) cues)
line21_timed rate channel [] all = tt
line21_timed rate channel (cue ∷ cues) all = (all.0, line21_timed rate channel cues all.1)

module _ (rate : Rate) (frames : ℕ) (channel : Chan) (cues : List Cue) (former cue : Cue) (hide : Option ℕ) where
  timed : List Cue → List Cue
  timed all = cues_in_slots (cadence_of rate channel) all

  in_slots_of : (all : List Cue) → AreGood rate frames channel all → AreInSlots (slot_from (cadence_of rate channel) frames) (cues_in_slots (cadence_of rate channel) all)
  in_slots_of all good =
      in_slots (cadence_of rate channel) frames all
      (subst (λ (step : ℕ). AreInSequence step frames all) (slot_step_is rate channel) good.sequence) good.on_slots

  pub good_longer : AreLine21 (cues ++ former ∷ []) → AreGood rate frames channel (cues ++ former ∷ []) → AreGood rate frames channel (record former { hide = hide } ∷ cue ∷ [])
      → AreGood rate frames channel (cues ++ record former { hide = hide } ∷ cue ∷ [])
  good_longer line21 good last =
      let c = cadence_of rate channel in
      let slots = slot_from c frames in
      let both : cues_in_slots c (cues ++ former ∷ []) ≡ cues_in_slots c cues ++ timed_in_slots c former ∷ [] = map-append (timed_in_slots c) cues (former ∷ []) in
      let all : cues_in_slots c (cues ++ record former { hide = hide } ∷ cue ∷ [])
      ≡ cues_in_slots c cues ++ timed_in_slots c (record former { hide = hide }) ∷ timed_in_slots c cue ∷ [] =
      map-append (timed_in_slots c) cues (record former { hide = hide } ∷ cue ∷ []) in
      let later = timed_in_slots c (record former { hide = hide }) in
      record {
        sequence = sequence_longer (slot_step rate) frames cues former cue hide good.sequence last.sequence;
        on_slots =
            all_both (IsOnSlots c) cues (record former { hide = hide } ∷ cue ∷ []) (all_first (IsOnSlots c) cues (former ∷ []) good.on_slots) last.on_slots;
        room = subst (HaveRoom (field_of_channel channel)) (sym all)
            (longer_room (field_of_channel channel) slots (cues_in_slots c cues) (timed_in_slots c former) (timed_in_slots c cue) later.hide
            (subst (AreInSlots slots) both (in_slots_of (cues ++ former ∷ []) good))
            (in_slots_of (record former { hide = hide } ∷ cue ∷ []) last)
            (subst AreLine21 both (line21_timed rate channel (cues ++ former ∷ []) line21))
            (subst (HaveRoom (field_of_channel channel)) both good.room) last.room);
      }

  pub good_tail : AreGood rate frames channel (cues ++ former ∷ cue ∷ []) → AreGood rate frames channel (former ∷ cue ∷ [])
  good_tail good =
      let c = cadence_of rate channel in
      record {
        sequence = sequence_tail (slot_step rate) frames cues former (cue ∷ []) good.sequence;
        on_slots = all_last (IsOnSlots c) cues (former ∷ cue ∷ []) good.on_slots;
        room =
            tail_room (field_of_channel channel) (cues_in_slots c cues) (timed_in_slots c former) (timed_in_slots c cue ∷ [])
            (subst (HaveRoom (field_of_channel channel)) (map-append (timed_in_slots c) cues (former ∷ cue ∷ [])) good.room);
      }

-- one lane
same_lane_is : (a b : Lane) → same_lane a b ≡ true → a ≡ b
same_lane_is (Channel a) (Channel b) same = ap Channel (one a b same)
  where
    one : (a b : Chan) → same_channel a b ≡ true → a ≡ b
    one chan.Cc1 chan.Cc1 same = refl
    one chan.Cc2 chan.Cc2 same = refl
    one chan.Cc3 chan.Cc3 same = refl
    one chan.Cc4 chan.Cc4 same = refl
    one _ _ same = cc
same_lane_is (Channel a) (Service b) same = cc
same_lane_is (Service a) (Channel b) same = cc
same_lane_is (Service a) (Service b) same = ap Service (eqb-true a b same)

-- the cues on a channel are line 21 cues
all_line21 : (channel : Chan) (cues : List Cue) → AreLine21 (cues_on channel cues)
all_line21 channel [] = tt
all_line21 channel (cue ∷ cues) = at (is_on channel cue.kind) refl (all_line21 channel cues)
  where
    line21 : (k : Kind) → is_on channel k ≡ true → is_line21 k ≡ true
    line21 (kind.Pop c) on = refl
    line21 (kind.Paint c) on = refl
    line21 (kind.Roll c rows) on = refl
    line21 (kind.Win w) on = cc

    at : (b : Bool) → is_on channel cue.kind ≡ b → AreLine21 (cues_on channel cues) → AreLine21 (cond b (cue ∷ cues_on channel cues) (cues_on channel cues))
    at true on rest = (line21 cue.kind on, rest)
    at false on rest = rest

-- they are no cues of a service
no_caption : (rate : Rate) (service : ℕ) (cue : Cue) → is_line21 cue.kind ≡ true → caption_of rate service cue ≡ None
no_caption rate service cue line21 = at cue.kind line21
  where
    at : (k : Kind) → is_line21 k ≡ true → caption_with rate service k cue ≡ None
    at (kind.Pop c) on = refl
    at (kind.Paint c) on = refl
    at (kind.Roll c rows) on = refl
    at (kind.Win w) on = cc

no_chunks : (rate : Rate) (service number : ℕ) (cue : Cue) → is_line21 cue.kind ≡ true → service_cue_chunks rate service number cue ≡ []
no_chunks rate service number cue line21 =
    ap (λ (o : Option Caption). chunks_with number o (window_cue_units cue)) (no_caption rate service cue line21)

module _ (rate : Rate) (service : ℕ) where
  more_chunks : (number : ℕ) (cues : List Cue) (cue : Cue) → is_line21 cue.kind ≡ true
      → service_chunks_from rate service number (cues ++ cue ∷ []) ≡ service_chunks_from rate service number cues
  more_chunks number [] cue line21 = ap (λ (us : List ServiceChunk). us ++ []) (no_chunks rate service number cue line21)
  more_chunks number (x ∷ cues) cue line21 =
      ap (λ (us : List ServiceChunk). service_cue_chunks rate service number x ++ us) (more_chunks (suc number) cues cue line21)

  same_chunks : (number : ℕ) (cues : List Cue) (one two : Cue) (later more : List Cue) → is_line21 one.kind ≡ true → is_line21 two.kind ≡ true
      → ((n : ℕ) → service_chunks_from rate service n more ≡ service_chunks_from rate service n later)
      → service_chunks_from rate service number (cues ++ two ∷ more) ≡ service_chunks_from rate service number (cues ++ one ∷ later)
  same_chunks number [] one two later more first second same =
      ap (λ (us : List ServiceChunk). us ++ service_chunks_from rate service (suc number) more) (no_chunks rate service number two second)
      ∙ same (suc number)
      ∙ ap (λ (us : List ServiceChunk). us ++ service_chunks_from rate service (suc number) later) (sym (no_chunks rate service number one first))
  same_chunks number (x ∷ cues) one two later more first second same =
      ap (λ (us : List ServiceChunk). service_cue_chunks rate service number x ++ us) (same_chunks (suc number) cues one two later more first second same)

  more_captions : (cues : List Cue) (cue : Cue) → is_line21 cue.kind ≡ true → service_captions rate service (cues ++ cue ∷ []) ≡ service_captions rate service cues
  more_captions cues cue line21 =
      filter_map-append (caption_of rate service) cues (cue ∷ [])
      ∙ rw (no_caption rate service cue line21) (append-nil (service_captions rate service cues))

  one_caption : (cue : Cue) (later : List Cue) → is_line21 cue.kind ≡ true → service_captions rate service (cue ∷ later) ≡ service_captions rate service later
  one_caption cue later line21 = rw (no_caption rate service cue line21) refl

  same_captions : (cues : List Cue) (one two : Cue) (later more : List Cue) → is_line21 one.kind ≡ true → is_line21 two.kind ≡ true
      → service_captions rate service more ≡ service_captions rate service later
      → service_captions rate service (cues ++ two ∷ more) ≡ service_captions rate service (cues ++ one ∷ later)
  same_captions cues one two later more first second same =
      filter_map-append (caption_of rate service) cues (two ∷ more)
      ∙ ap (λ (cs : List Caption). service_captions rate service cues ++ cs) (one_caption two more second ∙ same ∙ sym (one_caption one later first))
      ∙ sym (filter_map-append (caption_of rate service) cues (one ∷ later))

-- the cues on a lane, with a cue that isn't on it
lane_off : (on : Lane) (cue : Cue) (later : List Cue) → on_lane on cue ≡ false → lane_cues on (cue ∷ later) ≡ lane_cues on later
lane_off on cue later off = rw off refl

lane_on : (on : Lane) (cue : Cue) (later : List Cue) → on_lane on cue ≡ true → lane_cues on (cue ∷ later) ≡ cue ∷ lane_cues on later
lane_on on cue later is = rw is refl

lane_both : (on : Lane) (cues more : List Cue) → lane_cues on (cues ++ more) ≡ lane_cues on cues ++ lane_cues on more
lane_both on cues more = filter-append (λ (cue : Cue). same_lane on (kind_lane cue.kind)) cues more

lane_none : (on : Lane) (cues : List Cue) → AllByRecursion (λ (cue : Cue). on_lane on cue ≡ false) cues → lane_cues on cues ≡ []
lane_none on [] off = refl
lane_none on (cue ∷ cues) off = lane_off on cue cues off.0 ∙ lane_none on cues off.1

-- lists with the same head and shares
abbrev with_cues : Listing → List Cue → Listing
with_cues list cues = record list { cues = cues }

module _ (list : Listing) (service : ℕ) where
  ruled_as : (one two cues : List Cue) → AreInService (with_cues list one) service cues → AreInService (with_cues list two) service cues
  ruled_as one two [] are = tt
  ruled_as one two (cue ∷ cues) are = (
    record {
      loaded = are.0.loaded;
      hidden = are.0.hidden;
      delayed = are.0.delayed;
      apart = are.0.apart;
      shared = are.0.shared;
      ended = are.0.ended;
    },
    are.1,
    ruled_as one two cues are.2,
  )

  -- the same units and captions
  pub served_as : (one two : List Cue) → cues_of_service service two ≡ cues_of_service service one
      → chunks_in (with_cues list two) service ≡ chunks_in (with_cues list one) service
      → captions_in (with_cues list two) service ≡ captions_in (with_cues list one) service
      → IsServed (with_cues list one) service → IsServed (with_cues list two) service
  served_as one two cues chunks captions served = record {
    ruled = subst (AreInService (with_cues list two) service) (sym cues) (ruled_as one two (cues_of_service service one) served.ruled);
    frames = served.frames;
    placed =
        subst (λ (us : List ServiceChunk). IsPlaced (service_lane_of (with_cues list two) service) [] us served.frames) (sym chunks)
        (subst (λ (cs : List Caption). IsPlaced (caption_lane (share_in list service) cs) [] (chunks_in (with_cues list one) service) served.frames) (sym captions)
        served.placed);
  }

  no_cues_served : IsServed (with_cues list []) service
  no_cues_served = record { ruled = tt; frames = []; placed = tt }

no_cues_good : (rate : Rate) (frames : ℕ) (channel : Chan) → AreGood rate frames channel []
no_cues_good rate frames channel = record { sequence = tt; on_slots = tt; room = ([], tt) }

-- the list of cues in file order, one of which is the last on its channel: with that one hidden later, and one more on the channel
module _ (list : Listing) (earlier : List Cue) (former cue : Cue) (later : List Cue) (hide : Option ℕ) (line21 : is_line21 cue.kind ≡ true)
    (on : on_lane (kind_lane cue.kind) former ≡ true) (off : AllByRecursion (λ (other : Cue). on_lane (kind_lane cue.kind) other ≡ false) later) where
  hidden : Cue
  hidden = record former { hide = hide }

  before : List Cue
  before = earlier ++ former ∷ later

  after : List Cue
  after = earlier ++ hidden ∷ (later ++ cue ∷ [])

  former_line21 : is_line21 former.kind ≡ true
  former_line21 = at cue.kind former.kind line21 on
    where
      at : (k f : Kind) → is_line21 k ≡ true → same_lane (kind_lane k) (kind_lane f) ≡ true → is_line21 f ≡ true
      at k (kind.Pop c) line same = refl
      at k (kind.Paint c) line same = refl
      at k (kind.Roll c rows) line same = refl
      at (kind.Pop c) (kind.Win w) line same = cc
      at (kind.Paint c) (kind.Win w) line same = cc
      at (kind.Roll c rows) (kind.Win w) line same = cc
      at (kind.Win c) (kind.Win w) line same = cc

  former_lane : kind_lane cue.kind ≡ kind_lane former.kind
  former_lane = same_lane_is (kind_lane cue.kind) (kind_lane former.kind) on

  -- on another lane nothing changes
  other_lane : (lane : Lane) → same_lane lane (kind_lane cue.kind) ≡ false → lane_cues lane after ≡ lane_cues lane before
  unfolding after before hidden
  other_lane lane other =
      let no : on_lane lane former ≡ false = subst (λ (l : Lane). same_lane lane l ≡ false) former_lane other in
      lane_both lane earlier (record former { hide = hide } ∷ (later ++ cue ∷ []))
      ∙ ap (λ (cs : List Cue). lane_cues lane earlier ++ cs)
      (lane_off lane (record former { hide = hide }) (later ++ cue ∷ []) no ∙ lane_both lane later (cue ∷ [])
      ∙ ap (λ (cs : List Cue). lane_cues lane later ++ cs) (lane_off lane cue [] other) ∙ append-nil (lane_cues lane later) ∙ sym (lane_off lane former later no))
      ∙ sym (lane_both lane earlier (former ∷ later))

  -- on their lane it is the last two
  own_before : (lane : Lane) → same_lane lane (kind_lane cue.kind) ≡ true → lane_cues lane before ≡ lane_cues lane earlier ++ former ∷ []
  unfolding before
  own_before lane same =
      let is : lane ≡ kind_lane cue.kind = same_lane_is lane (kind_lane cue.kind) same in
      let here : on_lane lane former ≡ true = subst (λ (l : Lane). same_lane lane l ≡ true) former_lane same in
      let none : lane_cues lane later ≡ [] = subst (λ (l : Lane). lane_cues l later ≡ []) (sym is) (lane_none (kind_lane cue.kind) later off) in
      lane_both lane earlier (former ∷ later)
      ∙ ap (λ (cs : List Cue). lane_cues lane earlier ++ cs) (lane_on lane former later here ∙ ap (λ (cs : List Cue). former ∷ cs) none)

  own_after : (lane : Lane) → same_lane lane (kind_lane cue.kind) ≡ true
      → lane_cues lane after ≡ lane_cues lane earlier ++ record former { hide = hide } ∷ cue ∷ []
  unfolding after hidden
  own_after lane same =
      let is : lane ≡ kind_lane cue.kind = same_lane_is lane (kind_lane cue.kind) same in
      let here : on_lane lane former ≡ true = subst (λ (l : Lane). same_lane lane l ≡ true) former_lane same in
      let none : lane_cues lane later ≡ [] = subst (λ (l : Lane). lane_cues l later ≡ []) (sym is) (lane_none (kind_lane cue.kind) later off) in
      lane_both lane earlier (record former { hide = hide } ∷ (later ++ cue ∷ []))
      ∙ ap (λ (cs : List Cue). lane_cues lane earlier ++ cs)
      (lane_on lane (record former { hide = hide }) (later ++ cue ∷ []) here
      ∙ ap (λ (cs : List Cue). record former { hide = hide } ∷ cs)
      (lane_both lane later (cue ∷ []) ∙ ap (λ (cs : List Cue). cs ++ lane_cues lane (cue ∷ [])) none ∙ lane_on lane cue [] same))

  -- of services nothing changes
  services_same : (service : ℕ) → IsServed (with_cues list before) service → IsServed (with_cues list after) service
  unfolding after before hidden
  services_same service served =
      let none : same_lane (Service service) (kind_lane cue.kind) ≡ false = at cue.kind line21 in
      served_as list service (earlier ++ former ∷ later) (earlier ++ record former { hide = hide } ∷ (later ++ cue ∷ []))
      (other_lane (Service service) none)
      (same_chunks list.rate service 1 earlier former (record former { hide = hide }) later (later ++ cue ∷ []) former_line21 former_line21
      (λ n. more_chunks list.rate service n later cue line21))
      (same_captions list.rate service earlier former (record former { hide = hide }) later (later ++ cue ∷ []) former_line21 former_line21
      (more_captions list.rate service later cue line21))
      served
    where
      at : (k : Kind) → is_line21 k ≡ true → same_lane (Service service) (kind_lane k) ≡ false
      at (kind.Pop c) on = refl
      at (kind.Paint c) on = refl
      at (kind.Roll c rows) on = refl
      at (kind.Win w) on = cc

  -- so it has a plan where it had one without them, and the last two have one by themselves
  pub longer_plan : IsFormed (with_cues list (earlier ++ record former { hide = hide } ∷ (later ++ cue ∷ []))) → HasPlan (with_cues list (earlier ++ former ∷ later))
      → HasPlan (with_cues list (record former { hide = hide } ∷ cue ∷ [])) → HasPlan (with_cues list (earlier ++ record former { hide = hide } ∷ (later ++ cue ∷ [])))
  unfolding after before hidden
  longer_plan formed plan own =
      good_plan (with_cues list (earlier ++ record former { hide = hide } ∷ (later ++ cue ∷ []))) formed good
      (λ service. services_same service (plan_served (with_cues list (earlier ++ former ∷ later)) plan service))
    where
      good : (channel : Chan) → AreGood list.rate list.frames channel (cues_on channel (earlier ++ record former { hide = hide } ∷ (later ++ cue ∷ [])))
      good channel = at (same_lane (Channel channel) (kind_lane cue.kind)) refl
        where
          at : (b : Bool) → same_lane (Channel channel) (kind_lane cue.kind) ≡ b
              → AreGood list.rate list.frames channel (cues_on channel (earlier ++ record former { hide = hide } ∷ (later ++ cue ∷ [])))
          at false other =
              subst (AreGood list.rate list.frames channel) (sym (other_lane (Channel channel) other))
              (plan_good (with_cues list (earlier ++ former ∷ later)) plan channel)
          at true same =
              let here : on_lane (Channel channel) former ≡ true = subst (λ (l : Lane). same_lane (Channel channel) l ≡ true) former_lane same in
              let two : cues_on channel (record former { hide = hide } ∷ cue ∷ []) ≡ record former { hide = hide } ∷ cue ∷ [] =
              lane_on (Channel channel) (record former { hide = hide }) (cue ∷ []) here
              ∙ ap (λ (cs : List Cue). record former { hide = hide } ∷ cs) (lane_on (Channel channel) cue [] same) in
              let all : cues_on channel (earlier ++ former ∷ later) ≡ cues_on channel earlier ++ former ∷ [] = own_before (Channel channel) same in
              subst (AreGood list.rate list.frames channel) (sym (own_after (Channel channel) same))
              (good_longer list.rate list.frames channel (cues_on channel earlier) former cue hide
              (subst AreLine21 all (all_line21 channel (earlier ++ former ∷ later)))
              (subst (AreGood list.rate list.frames channel) all (plan_good (with_cues list (earlier ++ former ∷ later)) plan channel))
              (subst (AreGood list.rate list.frames channel) two (plan_good (with_cues list (record former { hide = hide } ∷ cue ∷ [])) own channel)))

  -- and where it has one, they have
  pub own_plan : IsFormed (with_cues list (record former { hide = hide } ∷ cue ∷ [])) → HasPlan (with_cues list (earlier ++ record former { hide = hide } ∷ (later ++ cue ∷ [])))
      → HasPlan (with_cues list (record former { hide = hide } ∷ cue ∷ []))
  unfolding after hidden
  own_plan formed plan = good_plan (with_cues list (record former { hide = hide } ∷ cue ∷ [])) formed good served
    where
      good : (channel : Chan) → AreGood list.rate list.frames channel (cues_on channel (record former { hide = hide } ∷ cue ∷ []))
      good channel = at (same_lane (Channel channel) (kind_lane cue.kind)) refl
        where
          at : (b : Bool) → same_lane (Channel channel) (kind_lane cue.kind) ≡ b → AreGood list.rate list.frames channel (cues_on channel (record former { hide = hide } ∷ cue ∷ []))
          at false other =
              let no : on_lane (Channel channel) former ≡ false = subst (λ (l : Lane). same_lane (Channel channel) l ≡ false) former_lane other in
              subst (AreGood list.rate list.frames channel)
              (sym (lane_off (Channel channel) (record former { hide = hide }) (cue ∷ []) no ∙ lane_off (Channel channel) cue [] other))
              (no_cues_good list.rate list.frames channel)
          at true same =
              let here : on_lane (Channel channel) former ≡ true = subst (λ (l : Lane). same_lane (Channel channel) l ≡ true) former_lane same in
              let two : cues_on channel (record former { hide = hide } ∷ cue ∷ []) ≡ record former { hide = hide } ∷ cue ∷ [] =
              lane_on (Channel channel) (record former { hide = hide }) (cue ∷ []) here
              ∙ ap (λ (cs : List Cue). record former { hide = hide } ∷ cs) (lane_on (Channel channel) cue [] same) in
              subst (AreGood list.rate list.frames channel) (sym two)
              (good_tail list.rate list.frames channel (cues_on channel earlier) (record former { hide = hide }) cue hide
              (subst (AreGood list.rate list.frames channel) (own_after (Channel channel) same)
              (plan_good (with_cues list (earlier ++ record former { hide = hide } ∷ (later ++ cue ∷ []))) plan channel)))

      served : (service : ℕ) → IsServed (with_cues list (record former { hide = hide } ∷ cue ∷ [])) service
      served service =
          served_as list service [] (record former { hide = hide } ∷ cue ∷ [])
          (lane_off (Service service) (record former { hide = hide }) (cue ∷ []) (off_service former.kind former_line21) ∙ lane_off (Service service) cue [] (off_service cue.kind line21))
          (ap (λ (us : List ServiceChunk). us ++ service_chunks_from list.rate service 2 (cue ∷ [])) (no_chunks list.rate service 1 (record former { hide = hide }) former_line21)
          ∙ more_chunks list.rate service 2 [] cue line21)
          (one_caption list.rate service (record former { hide = hide }) (cue ∷ []) former_line21 ∙ one_caption list.rate service cue [] line21)
          (no_cues_served list service)
        where
          off_service : (k : Kind) → is_line21 k ≡ true → same_lane (Service service) (kind_lane k) ≡ false
          off_service (kind.Pop c) on = refl
          off_service (kind.Paint c) on = refl
          off_service (kind.Roll c rows) on = refl
          off_service (kind.Win w) on = cc

-- the list of cues in file order, none of which is on the channel of one more
module _ (list : Listing) (earlier : List Cue) (cue : Cue) (line21 : is_line21 cue.kind ≡ true)
    (off : AllByRecursion (λ (other : Cue). on_lane (kind_lane cue.kind) other ≡ false) earlier) where
  first_other : (lane : Lane) → same_lane lane (kind_lane cue.kind) ≡ false → lane_cues lane (earlier ++ cue ∷ []) ≡ lane_cues lane earlier
  first_other lane other =
      lane_both lane earlier (cue ∷ []) ∙ ap (λ (cs : List Cue). lane_cues lane earlier ++ cs) (lane_off lane cue [] other) ∙ append-nil (lane_cues lane earlier)

  first_own : (lane : Lane) → same_lane lane (kind_lane cue.kind) ≡ true → lane_cues lane (earlier ++ cue ∷ []) ≡ cue ∷ []
  first_own lane same =
      let is : lane ≡ kind_lane cue.kind = same_lane_is lane (kind_lane cue.kind) same in
      let none : lane_cues lane earlier ≡ [] = subst (λ (l : Lane). lane_cues l earlier ≡ []) (sym is) (lane_none (kind_lane cue.kind) earlier off) in
      lane_both lane earlier (cue ∷ []) ∙ ap (λ (cs : List Cue). cs ++ lane_cues lane (cue ∷ [])) none ∙ lane_on lane cue [] same

  no_service : (service : ℕ) → same_lane (Service service) (kind_lane cue.kind) ≡ false
  no_service service = at cue.kind line21
    where
      at : (k : Kind) → is_line21 k ≡ true → same_lane (Service service) (kind_lane k) ≡ false
      at (kind.Pop c) on = refl
      at (kind.Paint c) on = refl
      at (kind.Roll c rows) on = refl
      at (kind.Win w) on = cc

  first_good : (one two : List Cue) (channel : Chan) → AreGood list.rate list.frames channel (cues_on channel one)
      → (same_lane (Channel channel) (kind_lane cue.kind) ≡ true → AreGood list.rate list.frames channel (cue ∷ []))
      → (same_lane (Channel channel) (kind_lane cue.kind) ≡ false → cues_on channel two ≡ cues_on channel one)
      → (same_lane (Channel channel) (kind_lane cue.kind) ≡ true → cues_on channel two ≡ cue ∷ []) → AreGood list.rate list.frames channel (cues_on channel two)
  first_good one two channel good own other same = at (same_lane (Channel channel) (kind_lane cue.kind)) refl
    where
      at : (b : Bool) → same_lane (Channel channel) (kind_lane cue.kind) ≡ b → AreGood list.rate list.frames channel (cues_on channel two)
      at false is = subst (AreGood list.rate list.frames channel) (sym (other is)) good
      at true is = subst (AreGood list.rate list.frames channel) (sym (same is)) (own is)

  -- it has a plan where it had one without that, and that has one by itself
  pub first_plan : IsFormed (with_cues list (earlier ++ cue ∷ [])) → HasPlan (with_cues list earlier) → HasPlan (with_cues list (cue ∷ []))
      → HasPlan (with_cues list (earlier ++ cue ∷ []))
  first_plan formed plan own =
      good_plan (with_cues list (earlier ++ cue ∷ [])) formed
      (λ channel. first_good earlier (earlier ++ cue ∷ []) channel (plan_good (with_cues list earlier) plan channel)
      (λ same. subst (AreGood list.rate list.frames channel) (lane_on (Channel channel) cue [] same) (plan_good (with_cues list (cue ∷ [])) own channel))
      (first_other (Channel channel)) (first_own (Channel channel)))
      (λ service. served_as list service earlier (earlier ++ cue ∷ []) (first_other (Service service) (no_service service))
      (more_chunks list.rate service 1 earlier cue line21) (more_captions list.rate service earlier cue line21) (plan_served (with_cues list earlier) plan service))

  -- and where it has one, so has that
  pub alone_plan : IsFormed (with_cues list (cue ∷ [])) → HasPlan (with_cues list (earlier ++ cue ∷ [])) → HasPlan (with_cues list (cue ∷ []))
  alone_plan formed plan =
      good_plan (with_cues list (cue ∷ [])) formed
      (λ channel. first_good [] (cue ∷ []) channel (no_cues_good list.rate list.frames channel)
      (λ same. subst (AreGood list.rate list.frames channel) (first_own (Channel channel) same) (plan_good (with_cues list (earlier ++ cue ∷ [])) plan channel))
      (lane_off (Channel channel) cue []) (lane_on (Channel channel) cue []))
      (λ service. served_as list service [] (cue ∷ []) (lane_off (Service service) cue [] (no_service service))
      (more_chunks list.rate service 1 [] cue line21) (one_caption list.rate service cue [] line21) (no_cues_served list service))
