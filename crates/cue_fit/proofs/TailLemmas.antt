-- The cues of one channel, in slots: whether the last one has room depends on it and the one before it alone.
use Rattle.std.proofs.Common.{◌≡◌, ◌∙◌, ◌≢◌, ℕ, suc, ◌+◌, ◌*◌, ◌<◌, ◌≤◌, ◌==◌, ◌&&◌, Bool, true, false, List, [], ◌∷◌, ◌++◌, refl, sym, ap, subst, append_assoc, arith}
use Rattle.std.specs.Prelude.{Option, Some, None, IfSome, if◌then◌else◌, map}
use Rattle.std.specs.List.{AllByRecursion, flat_map, zip}
use Rattle.std.proofs.lemmas.Bool.Decides.{nat_tests}
use Rattle.std.proofs.lemmas.List.{append-nil, map-append}
use Rattle.line21_codes.specs.Channels.{field_of_channel}
use Rattle.line21_codes.specs.declared.channels.Chan.{Chan}
use Rattle.line21_codes.specs.declared.channels.FieldNumber.{FieldNumber}
use Rattle.line21_codes.specs.declared.codes.Control.TheVariants.{Rcl, Enm, Rdc, Ru, Cr, Edm, Eoc}
use Rattle.cue_lists.specs.Channels.{cues_on, is_on}
use Rattle.cue_lists.specs.Lane.{is_line21, is_pop}
use Rattle.cue_lists.specs.declared.cue.Cue.{Cue}
use Rattle.cue_lists.specs.declared.cue.Kind.{Kind}
use Rattle.cue_lists.specs.declared.cue.Kind.TheVariants.{Pop, Paint, Roll, Win}
use Rattle.cue_lists.specs.declared.cue.Run.{Run}
use Rattle.lanes.proofs.EventLemmas.{free_append, free_from, free_over, over_later}
use Rattle.lanes.proofs.FieldLaneLemmas.{end_push}
use Rattle.lanes.proofs.PlacingLemmas.{placed_parts}
use Rattle.lanes.proofs.SlotSequenceLemmas.{AreInSlots, FollowsInSlots}
use Rattle.lanes.specs.Channels.{field_of_kind}
use Rattle.lanes.specs.ChannelLane.{channel_chunks, channel_chunks_from, field_cue_chunks}
use Rattle.lanes.specs.CueCodes.{opening_codes}
use Rattle.lanes.specs.CueEvents.{control_event, cue_events, hide_events, show_events}
use Rattle.lanes.specs.CueUnits.{unit_of, units_of}
use Rattle.lanes.specs.Event.{Event}
use Rattle.lanes.specs.EventOrder.{AreFrom}
use Rattle.lanes.specs.FieldLane.{end_of, field_lane, slots_of}
use Rattle.lanes.specs.FirstChannel.{first_channel}
use Rattle.lanes.specs.LaneEvents.{AreOver, IsFree}
use Rattle.lanes.specs.Placing.{IsPlaced}
use Rattle.lanes.specs.RunCodes.{run_codes}
use Rattle.lanes.specs.Unit.{Unit}
use Rattle.lanes.specs.declared.chunk.FieldChunk.{FieldChunk}

-- a unit without the number of its cue
abbrev pub plain : FieldChunk → FieldChunk
plain u = record u { cue = 0 }

-- the units of cues that are all on one channel, without their numbers
abbrev pub units_on : List Cue → List FieldChunk
units_on [] = []
units_on (cue ∷ cues) = field_cue_chunks 0 cue ++ units_on cues

-- each of the units is loaded from here on, and what is free for it beside the first events is free beside the others
abbrev pub AreMovable : List Event → List Event → ℕ → List FieldChunk → Type 0
AreMovable one two least us =
    AllByRecursion (λ (u : FieldChunk). (least ≤ u.load) × ((n : ℕ) → u.load ≤ n → n < u.until → IsFree one n → IsFree two n)) us

-- so a placement of them is one beside the others, after other units too, and whatever their numbers are
pub moved : (one two : List Event) (least : ℕ) (us vs : List FieldChunk) (fs : List ℕ) (before other : List (FieldChunk × ℕ))
    → map plain us ≡ map plain vs → AreMovable one two least us → ((f : ℕ) → least ≤ f → end_of before ≤ f → end_of other ≤ f)
    → IsPlaced (field_lane one) before us fs → IsPlaced (field_lane two) other vs fs
moved one two least [] [] [] before other same all ends p = tt
moved one two least [] [] (f ∷ fs) before other same all ends p = absurd p
moved one two least [] (v ∷ vs) fs before other same all ends p = cc
moved one two least (u ∷ us) [] fs before other same all ends p = cc
moved one two least (u ∷ us) (v ∷ vs) [] before other same all ends p = absurd p
moved one two least (u ∷ us) (v ∷ vs) (f ∷ fs) before other same all ends p =
    let head : plain u ≡ plain v = cc in
    let tail : map plain us ≡ map plain vs = cc in
    let load : u.load ≡ v.load = ap (λ (c : FieldChunk). c.load) head in
    let until : u.until ≡ v.until = ap (λ (c : FieldChunk). c.until) head in
    let slots : slots_of u ≡ slots_of v = ap (λ (c : FieldChunk). slots_of c) head in
    let low : least ≤ u.load = all.0.0 in
    let from : u.load ≤ f = p.0.loaded in
    let to : f + slots_of u ≤ u.until = p.0.ended in (
      record {
        behind = ends f (omega arith) p.0.behind;
        loaded = omega arith;
        ended = omega arith;
        free = λ n above below. all.0.1 n (omega arith) (omega arith) (p.0.free n above (omega arith));
      },
      moved one two least us vs fs (before ++ (u, f) ∷ []) (other ++ (v, f) ∷ []) tail all.1
          (λ g high end. let a = end_push before u f in let b = end_push other v f in omega (arith, a, b, slots)) p.1,
    )

-- beside the same events all may stay
still : (events : List Event) (us : List FieldChunk) → AreMovable events events 0 us
still events [] = tt
still events (u ∷ us) = ((omega arith, λ n from to free. free), still events us)

-- numbers are left off
own_plain : (number load until : ℕ) (units : List Unit)
    → map plain (map (λ unit. record { unit = unit; load = load; until = until; cue = number }) units)
    ≡ map plain (map (λ unit. record { unit = unit; load = load; until = until; cue = 0 }) units)
own_plain number load until [] = refl
own_plain number load until (unit ∷ units) =
    ap (λ (us : List FieldChunk). record { unit = unit; load = load; until = until; cue = 0 } ∷ us) (own_plain number load until units)

chunks_plain : (channel : Chan) (number : ℕ) (cues : List Cue)
    → map plain (channel_chunks_from channel number cues) ≡ map plain (units_on (cues_on channel cues))
chunks_plain channel number [] = refl
chunks_plain channel number (cue ∷ cues) = at (is_on channel cue.kind) (chunks_plain channel (suc number) cues)
  where
    at : (b : Bool) → map plain (channel_chunks_from channel (suc number) cues) ≡ map plain (units_on (cues_on channel cues))
        → map plain ((if b then field_cue_chunks number cue else []) ++ channel_chunks_from channel (suc number) cues)
        ≡ map plain (units_on (if b then cue ∷ cues_on channel cues else cues_on channel cues))
    at true rest =
        map-append plain (field_cue_chunks number cue) (channel_chunks_from channel (suc number) cues)
        ∙ ap (λ (us : List FieldChunk). us ++ map plain (channel_chunks_from channel (suc number) cues)) (own_plain number cue.load cue.show (units_of cue))
        ∙ ap (λ (us : List FieldChunk). map plain (field_cue_chunks 0 cue) ++ us) rest
        ∙ sym (map-append plain (field_cue_chunks 0 cue) (units_on (cues_on channel cues)))
    at false rest = rest

pub numbers_off : (events : List Event) (channel : Chan) (cues : List Cue) (fs : List ℕ) → IsPlaced (field_lane events) [] (channel_chunks channel cues) fs
    → IsPlaced (field_lane events) [] (units_on (cues_on channel cues)) fs
numbers_off events channel cues fs p =
    moved events events 0 (channel_chunks channel cues) (units_on (cues_on channel cues)) fs [] [] (chunks_plain channel 1 cues)
    (still events (channel_chunks channel cues)) (λ f low end. omega arith) p

pub numbers_on : (events : List Event) (channel : Chan) (cues : List Cue) (fs : List ℕ) → IsPlaced (field_lane events) [] (units_on (cues_on channel cues)) fs
    → IsPlaced (field_lane events) [] (channel_chunks channel cues) fs
numbers_on events channel cues fs p =
    moved events events 0 (units_on (cues_on channel cues)) (channel_chunks channel cues) fs [] [] (sym (chunks_plain channel 1 cues))
    (still events (units_on (cues_on channel cues))) (λ f low end. omega arith) p

-- two placements, the second one after the units of the first
placed_both : {U : Type 0} (allowed : List (U × ℕ) → U → ℕ → Type 0) (before : List (U × ℕ)) (us vs : List U) (fs gs : List ℕ)
    → IsPlaced allowed before us fs → IsPlaced allowed (before ++ zip us fs) vs gs → IsPlaced allowed before (us ++ vs) (fs ++ gs)
placed_both {U} allowed before [] vs [] gs p q = subst (λ (b : List (U × ℕ)). IsPlaced allowed b vs gs) (append-nil before) q
placed_both allowed before [] vs (f ∷ fs) gs p q = absurd p
placed_both allowed before (u ∷ us) vs [] gs p q = absurd p
placed_both {U} allowed before (u ∷ us) vs (f ∷ fs) gs p q = (
  p.0,
  placed_both allowed (before ++ (u, f) ∷ []) us vs fs gs p.1
      (subst (λ (b : List (U × ℕ)). IsPlaced allowed b vs gs) (sym (append_assoc before ((u, f) ∷ []) (zip us fs))) q),
)

-- a slot that is free beside some events and others
pub free_parts : (a b : List Event) (n : ℕ) → IsFree (a ++ b) n → IsFree a n × IsFree b n
free_parts [] b n free = (tt, free)
free_parts (e ∷ a) b n free = let rest = free_parts a b n free.2 in ((free.0, free.1, rest.0), rest.1)

over_both : (n : ℕ) (a b : List Event) → AreOver n a → AreOver n b → AreOver n (a ++ b)
over_both n [] b over more = more
over_both n (e ∷ a) b over more = (over.0, over_both n a b over.1 more)

from_both : (n : ℕ) (a b : List Event) → AreFrom n a → AreFrom n b → AreFrom n (a ++ b)
from_both n [] b from more = more
from_both n (e ∷ a) b from more = (from.0, from_both n a b from.1 more)

-- a cue of a channel has a unit
pub record HasUnit (cue : Cue) : Type 0 where
  pub unit : Unit
  pub units : List Unit
  pub is : units_of cue ≡ unit ∷ units

units_at : List Run → Kind → List Unit
units_at runs k = map (unit_of (field_of_kind k)) (opening_codes k ++ flat_map run_codes runs)

some_unit : (runs : List Run) (k : Kind) → is_line21 k ≡ true → (unit : Unit) × (units : List Unit) × (units_at runs k ≡ unit ∷ units)
unfolding units_at
some_unit runs (Pop c) on =
    (unit_of (field_of_channel c) (first_channel Rcl), map (unit_of (field_of_channel c)) (first_channel Enm ∷ flat_map run_codes runs), refl)
some_unit runs (Paint c) on = (unit_of (field_of_channel c) (first_channel Rdc), map (unit_of (field_of_channel c)) (flat_map run_codes runs), refl)
some_unit runs (Roll c rows) on =
    (unit_of (field_of_channel c) (first_channel (Ru rows)), map (unit_of (field_of_channel c)) (first_channel Cr ∷ flat_map run_codes runs), refl)
some_unit runs (Win w) on = cc

has_unit : (cue : Cue) → is_line21 cue.kind ≡ true → HasUnit cue
unfolding units_at
has_unit cue on = let some = some_unit cue.runs cue.kind on in record { unit = some.0; units = some.1; is = some.2 }

few_slots : (u : FieldChunk) → 1 ≤ slots_of u
few_slots u = at u.unit.doubled
  where
    at : (b : Bool) → 1 ≤ (if b then 2 else 1)
    at true = omega arith
    at false = omega arith

-- a unit of a cue stands in a free slot between its LOAD and its SHOW
pub record Stands (events : List Event) (cue : Cue) : Type 0 where
  pub slot : ℕ
  pub from : cue.load ≤ slot
  pub to : slot < cue.show
  pub free : IsFree events slot

abbrev pub AreLine21 : List Cue → Type 0
AreLine21 cues = AllByRecursion (λ (cue : Cue). is_line21 cue.kind ≡ true) cues

all_stand : (events : List Event) (before : List (FieldChunk × ℕ)) (cues : List Cue) (fs : List ℕ) → AreLine21 cues
    → IsPlaced (field_lane events) before (units_on cues) fs → AllByRecursion (Stands events) cues
all_stand events before [] fs on p = tt
all_stand events before (cue ∷ cues) fs on p =
    let w = placed_parts (field_lane events) before (field_cue_chunks 0 cue) (units_on cues) fs p in
    let some = has_unit cue on.0 in (
      first some w.front (subst (λ (units : List Unit). IsPlaced (field_lane events) before
          (map (λ unit. record { unit = unit; load = cue.load; until = cue.show; cue = 0 }) units) w.front) some.is w.placed),
      all_stand events (before ++ zip (field_cue_chunks 0 cue) w.front) cues w.back on.1 w.rest,
    )
  where
    first : (some : HasUnit cue) (front : List ℕ)
        → IsPlaced (field_lane events) before (map (λ unit. record { unit = unit; load = cue.load; until = cue.show; cue = 0 }) (some.unit ∷ some.units)) front
        → Stands events cue
    first some [] p = absurd p
    first some (f ∷ front) p =
        let few = few_slots (record { unit = some.unit; load = cue.load; until = cue.show; cue = 0 }) in
        let to : f + slots_of (record { unit = some.unit; load = cue.load; until = cue.show; cue = 0 }) ≤ cue.show = p.0.ended in
        record { slot = f; from = p.0.loaded; to = omega arith; free = p.0.free f (omega arith) (omega arith) }

-- on a channel cues are shown one after the other
pub last_shown : (slots : ℕ) (cues : List Cue) (next : Cue) → AreInSlots slots (cues ++ next ∷ [])
    → AllByRecursion (λ (cue : Cue). cue.show ≤ next.show) (cues ++ next ∷ [])
last_shown slots [] next are = (omega arith, tt)
last_shown slots (cue ∷ []) next are = let less = are.1.later in (omega arith, (omega arith, tt))
last_shown slots (cue ∷ (second ∷ cues)) next are =
    let rest = last_shown slots (second ∷ cues) next are.2 in
    let less = are.1.later in
    let low = rest.0 in
    (omega arith, rest)

module _ (in_field : FieldNumber) where
  -- the events of cues before another one, which may take the place of the last
  abbrev pub front_events : List Cue → Cue → List Event
  front_events [] next = []
  front_events (cue ∷ cues) next = (show_events in_field cue ++ hide_events in_field cue.hide (cues ++ next ∷ [])) ++ front_events cues next

  hide_first : (hide : Option ℕ) (cues : List Cue) (next : Cue) (later : List Cue)
      → hide_events in_field hide (cues ++ next ∷ later) ≡ hide_events in_field hide (cues ++ next ∷ [])
  hide_first None cues next later = refl
  hide_first (Some hide) [] next later = refl
  hide_first (Some hide) (cue ∷ cues) next later = refl

  pub events_split : (cues : List Cue) (next : Cue) (later : List Cue)
      → cue_events in_field (cues ++ next ∷ later) ≡ front_events cues next ++ cue_events in_field (next ∷ later)
  events_split [] next later = refl
  events_split (cue ∷ cues) next later =
      ap (λ (es : List Event). (show_events in_field cue ++ es) ++ cue_events in_field (cues ++ next ∷ later)) (hide_first cue.hide cues next later)
      ∙ ap (λ (es : List Event). (show_events in_field cue ++ hide_events in_field cue.hide (cues ++ next ∷ [])) ++ es) (events_split cues next later)
      ∙ sym (append_assoc (show_events in_field cue ++ hide_events in_field cue.hide (cues ++ next ∷ [])) (front_events cues next) (cue_events in_field (next ∷ later)))

  -- they don't depend on when that one is hidden
  hide_still : (hide : Option ℕ) (cues : List Cue) (next : Cue) (other : Option ℕ)
      → hide_events in_field hide (cues ++ record next { hide = other } ∷ []) ≡ hide_events in_field hide (cues ++ next ∷ [])
  hide_still None cues next other = refl
  hide_still (Some hide) [] next other = refl
  hide_still (Some hide) (cue ∷ cues) next other = refl

  pub front_still : (cues : List Cue) (next : Cue) (other : Option ℕ) → front_events cues (record next { hide = other }) ≡ front_events cues next
  front_still [] next other = refl
  front_still (cue ∷ cues) next other =
      ap (λ (es : List Event). (show_events in_field cue ++ es) ++ front_events cues (record next { hide = other })) (hide_still cue.hide cues next other)
      ∙ ap (λ (es : List Event). (show_events in_field cue ++ hide_events in_field cue.hide (cues ++ next ∷ [])) ++ es) (front_still cues next other)

  -- what shows a cue is over when a unit of the next one stands
  shown_over : (pop : Bool) (show load until slot : ℕ) → show ≤ load → load ≤ slot → slot < until
      → IsFree (if pop then control_event in_field show Eoc ∷ [] else []) slot → AreOver until (if pop then control_event in_field show Eoc ∷ [] else [])
  shown_over true show load until slot low from to free =
      let a : show ≢ slot = free.0 in
      let b : show + 1 ≢ slot = free.1 in
      (omega arith, tt)
  shown_over false show load until slot low from to free = tt

  -- so is what hides it, where the next one isn't shown in its place
  hidden_over : (pop : Bool) (hide show load slot : ℕ) → hide ≤ show → (pop ≡ true → hide < show → hide + 2 * 1 ≤ show) → (pop ≡ false → hide ≤ load)
      → load ≤ slot → slot < show → (same : Bool) → (show == hide) ≡ same → IsFree (if pop && same then [] else control_event in_field hide Edm ∷ []) slot
      → AreOver show (if pop && same then [] else control_event in_field hide Edm ∷ [])
  hidden_over true hide show load slot low apart cleared from to true is free = tt
  hidden_over true hide show load slot low apart cleared from to false is free =
      (by_less (apart refl), tt)
    where
      differ : show ≡ hide → ⊥
      differ same = different show hide same is
        where
          different : (a b : ℕ) → a ≡ b → (a == b) ≡ false → ⊥
          different a b same fails = grind (arith, nat_tests)

      by_less : (hide < show → hide + 2 * 1 ≤ show) → hide + 2 ≤ show
      by_less apart = let off = differ in let far = apart (omega arith) in omega arith
  hidden_over false hide show load slot low apart cleared from to same is free =
      let a : hide ≢ slot = free.0 in
      let b : hide + 1 ≢ slot = free.1 in
      let c : hide ≤ load = cleared refl in
      (omega arith, tt)

  -- the events of a cue are over when the next one is shown
  own_over : (cue next : Cue) (later : List Cue) → FollowsInSlots cue next → (events : List Event) → Stands events next
      → ((n : ℕ) → IsFree events n → IsFree (show_events in_field cue ++ hide_events in_field cue.hide (next ∷ later)) n)
      → AreOver next.show (show_events in_field cue ++ hide_events in_field cue.hide (next ∷ later))
  own_over cue next later follows events stands among =
      let parts = free_parts (show_events in_field cue) (hide_events in_field cue.hide (next ∷ later)) stands.slot (among stands.slot stands.free) in
      over_both next.show (show_events in_field cue) (hide_events in_field cue.hide (next ∷ later))
      (shown_over (is_pop cue.kind) cue.show next.load next.show stands.slot follows.link.loaded stands.from stands.to parts.0)
      (at cue.hide follows.link.shown follows.link.apart follows.link.cleared parts.1)
    where
      at : (hide : Option ℕ) → IfSome hide (λ h. h ≤ next.show) → (is_pop next.kind ≡ true → IfSome hide (λ h. h < next.show → h + 2 * 1 ≤ next.show))
          → (is_pop next.kind ≡ false → IfSome hide (λ h. h ≤ next.load)) → IsFree (hide_events in_field hide (next ∷ later)) stands.slot
          → AreOver next.show (hide_events in_field hide (next ∷ later))
      at None low apart cleared free = tt
      at (Some h) low apart cleared free =
          hidden_over (is_pop next.kind) h next.show next.load stands.slot low apart cleared stands.from stands.to (next.show == h) refl free

  -- so are the events of all cues before one, when this is shown
  pub front_over : (slots : ℕ) (cues : List Cue) (next : Cue) → AreInSlots slots (cues ++ next ∷ []) → (events : List Event)
      → ((n : ℕ) → IsFree events n → IsFree (cue_events in_field (cues ++ next ∷ [])) n) → AllByRecursion (Stands events) (cues ++ next ∷ [])
      → AreOver next.show (front_events cues next)
  front_over slots [] next are events among stands = tt
  front_over slots (cue ∷ []) next are events among stands =
      over_both next.show (show_events in_field cue ++ hide_events in_field cue.hide (next ∷ [])) []
      (own_over cue next [] are.1 events stands.1.0
      (λ n free. (free_parts (show_events in_field cue ++ hide_events in_field cue.hide (next ∷ [])) (cue_events in_field (next ∷ [])) n (among n free)).0))
      tt
  front_over slots (cue ∷ (second ∷ cues)) next are events among stands =
      let own = show_events in_field cue ++ hide_events in_field cue.hide (second ∷ (cues ++ next ∷ [])) in
      let rest = front_over slots (second ∷ cues) next are.2 events
      (λ n free. (free_parts own (cue_events in_field (second ∷ (cues ++ next ∷ []))) n (among n free)).1) stands.1 in
      over_both next.show own (front_events (second ∷ cues) next)
      (over_later second.show next.show own (last_shown slots (second ∷ cues) next are.2).0
      (own_over cue second (cues ++ next ∷ []) are.1 events stands.1.0
      (λ n free. (free_parts own (cue_events in_field (second ∷ (cues ++ next ∷ []))) n (among n free)).0)))
      rest

  -- events of cues that are shown from a slot on
  events_from : (n : ℕ) (cues : List Cue) → AllByRecursion (λ (cue : Cue). (n ≤ cue.show) × IfSome cue.hide (λ hide. n ≤ hide)) cues
      → AreFrom n (cue_events in_field cues)
  events_from n [] from = tt
  events_from n (cue ∷ cues) from =
      from_both n (show_events in_field cue ++ hide_events in_field cue.hide cues) (cue_events in_field cues)
      (from_both n (show_events in_field cue) (hide_events in_field cue.hide cues) (shown (is_pop cue.kind)) (hidden cue.hide from.0.1 cues))
      (events_from n cues from.1)
    where
      shown : (pop : Bool) → AreFrom n (if pop then control_event in_field cue.show Eoc ∷ [] else [])
      shown true = (from.0.0, tt)
      shown false = tt

      erased : (replaced : Bool) (hide : ℕ) → n ≤ hide → AreFrom n (if replaced then [] else control_event in_field hide Edm ∷ [])
      erased true hide low = tt
      erased false hide low = (low, tt)

      hidden : (hide : Option ℕ) → IfSome hide (λ h. n ≤ h) → (later : List Cue) → AreFrom n (hide_events in_field hide later)
      hidden None low later = tt
      hidden (Some h) low [] = (low, tt)
      hidden (Some h) low (next ∷ later) = erased (is_pop next.kind && (next.show == h)) h low

-- units that may be moved
movable_both : (one two : List Event) (least : ℕ) (us vs : List FieldChunk) → AreMovable one two least us → AreMovable one two least vs
    → AreMovable one two least (us ++ vs)
movable_both one two least [] vs all more = more
movable_both one two least (u ∷ us) vs all more = (all.0, movable_both one two least us vs all.1 more)

own_movable : (one two : List Event) (least : ℕ) (cue : Cue) (units : List Unit) → least ≤ cue.load
    → ((n : ℕ) → cue.load ≤ n → n < cue.show → IsFree one n → IsFree two n)
    → AreMovable one two least (map (λ unit. record { unit = unit; load = cue.load; until = cue.show; cue = 0 }) units)
own_movable one two least cue [] low free = tt
own_movable one two least cue (unit ∷ units) low free = ((low, free), own_movable one two least cue units low free)

all_movable : (one two : List Event) (cues : List Cue) (last : ℕ) → AllByRecursion (λ (cue : Cue). cue.show ≤ last) cues
    → ((n : ℕ) → n < last → IsFree one n → IsFree two n) → AreMovable one two 0 (units_on cues)
all_movable one two [] last shows free = tt
all_movable one two (cue ∷ cues) last shows free =
    movable_both one two 0 (field_cue_chunks 0 cue) (units_on cues)
    (own_movable one two 0 cue (units_of cue) (omega arith) (λ n from to. let low : cue.show ≤ last = shows.0 in free n (omega arith)))
    (all_movable one two cues last shows.1 free)

free_movable : (one two : List Event) → ((n : ℕ) → IsFree one n → IsFree two n) → (us : List FieldChunk) → AreMovable one two 0 us
free_movable one two free [] = tt
free_movable one two free (u ∷ us) = ((omega arith, λ n from to. free n), free_movable one two free us)

-- where the units of cues have ended that are shown by a slot
own_until : (last : ℕ) (cue : Cue) (units : List Unit) → cue.show ≤ last
    → AllByRecursion (λ (u : FieldChunk). u.until ≤ last) (map (λ unit. record { unit = unit; load = cue.load; until = cue.show; cue = 0 }) units)
own_until last cue [] low = tt
own_until last cue (unit ∷ units) low = (low, own_until last cue units low)

until_both : (last : ℕ) (us vs : List FieldChunk) → AllByRecursion (λ (u : FieldChunk). u.until ≤ last) us → AllByRecursion (λ (u : FieldChunk). u.until ≤ last) vs
    → AllByRecursion (λ (u : FieldChunk). u.until ≤ last) (us ++ vs)
until_both last [] vs all more = more
until_both last (u ∷ us) vs all more = (all.0, until_both last us vs all.1 more)

all_until : (last : ℕ) (cues : List Cue) → AllByRecursion (λ (cue : Cue). cue.show ≤ last) cues → AllByRecursion (λ (u : FieldChunk). u.until ≤ last) (units_on cues)
all_until last [] shows = tt
all_until last (cue ∷ cues) shows =
    until_both last (field_cue_chunks 0 cue) (units_on cues) (own_until last cue (units_of cue) shows.0) (all_until last cues shows.1)

end_until : (events : List Event) (last : ℕ) (before : List (FieldChunk × ℕ)) (us : List FieldChunk) (fs : List ℕ) → end_of before ≤ last
    → AllByRecursion (λ (u : FieldChunk). u.until ≤ last) us → IsPlaced (field_lane events) before us fs → end_of (before ++ zip us fs) ≤ last
end_until events last before [] [] low all p = subst (λ (b : List (FieldChunk × ℕ)). end_of b ≤ last) (sym (append-nil before)) low
end_until events last before [] (f ∷ fs) low all p = absurd p
end_until events last before (u ∷ us) [] low all p = absurd p
end_until events last before (u ∷ us) (f ∷ fs) low all p =
    let end = end_push before u f in
    let to : f + slots_of u ≤ u.until = p.0.ended in
    let most : u.until ≤ last = all.0 in
    subst (λ (b : List (FieldChunk × ℕ)). end_of b ≤ last) (append_assoc before ((u, f) ∷ []) (zip us fs))
    (end_until events last (before ++ (u, f) ∷ []) us fs (omega (arith, end)) all.1 p.1)

units_both : (cues more : List Cue) → units_on (cues ++ more) ≡ units_on cues ++ units_on more
units_both [] more = refl
units_both (cue ∷ cues) more =
    ap (λ (us : List FieldChunk). field_cue_chunks 0 cue ++ us) (units_both cues more)
    ∙ sym (append_assoc (field_cue_chunks 0 cue) (units_on cues) (units_on more))

units_longer : (cues : List Cue) (former cue : Cue) (hide : Option ℕ)
    → units_on (cues ++ record former { hide = hide } ∷ cue ∷ []) ≡ units_on (cues ++ former ∷ []) ++ units_on (cue ∷ [])
units_longer cues former cue hide =
    units_both cues (record former { hide = hide } ∷ cue ∷ [])
    ∙ ap (λ (us : List FieldChunk). units_on cues ++ (us ++ units_on (cue ∷ []))) (sym (append-nil (field_cue_chunks 0 former)))
    ∙ sym (append_assoc (units_on cues) (units_on (former ∷ [])) (units_on (cue ∷ [])))
    ∙ ap (λ (us : List FieldChunk). us ++ units_on (cue ∷ [])) (sym (units_both cues (former ∷ [])))

-- the units of cues of a channel have a placement beside the events of these
abbrev pub HaveRoom : FieldNumber → List Cue → Type 0
HaveRoom in_field cues = (fs : List ℕ) × IsPlaced (field_lane (cue_events in_field cues)) [] (units_on cues) fs

-- with cues before them they have room by themselves
pub tail_room : (in_field : FieldNumber) (cues : List Cue) (next : Cue) (later : List Cue) → HaveRoom in_field (cues ++ next ∷ later) → HaveRoom in_field (next ∷ later)
tail_room in_field cues next later room =
    let events = cue_events in_field (cues ++ next ∷ later) in
    let own = cue_events in_field (next ∷ later) in
    let p = subst (λ (us : List FieldChunk). IsPlaced (field_lane events) [] us room.0) (units_both cues (next ∷ later)) room.1 in
    let w = placed_parts (field_lane events) [] (units_on cues) (units_on (next ∷ later)) room.0 p in
    let free : (n : ℕ) → IsFree events n → IsFree own n =
    λ n among. (free_parts (front_events in_field cues next) own n (subst (λ (es : List Event). IsFree es n) (events_split in_field cues next later) among)).1 in (
      w.back,
      moved events own 0 (units_on (next ∷ later)) (units_on (next ∷ later)) w.back ([] ++ zip (units_on cues) w.front) [] refl
          (free_movable events own free (units_on (next ∷ later))) (λ f low end. omega arith) w.rest,
    )

-- and the last one has room after all where it has room after the one before it alone, which may be hidden later then
module _ (in_field : FieldNumber) (slots : ℕ) (cues : List Cue) (former cue : Cue) (hide : Option ℕ)
    (are : AreInSlots slots (cues ++ former ∷ [])) (last : AreInSlots slots (record former { hide = hide } ∷ cue ∷ []))
    (line21 : AreLine21 (cues ++ former ∷ [])) (room : HaveRoom in_field (cues ++ former ∷ []))
    (own : HaveRoom in_field (record former { hide = hide } ∷ cue ∷ [])) where
  own_events : List Event
  own_events = cue_events in_field (record former { hide = hide } ∷ cue ∷ [])

  before_events : List Event
  before_events = cue_events in_field (cues ++ former ∷ [])

  all_events : List Event
  all_events = cue_events in_field (cues ++ record former { hide = hide } ∷ cue ∷ [])

  all_are : all_events ≡ front_events in_field cues former ++ own_events
  unfolding all_events own_events
  all_are =
      events_split in_field cues (record former { hide = hide }) (cue ∷ [])
      ∙ ap (λ (es : List Event). es ++ cue_events in_field (record former { hide = hide } ∷ cue ∷ [])) (front_still in_field cues former hide)

  over : AreOver former.show (front_events in_field cues former)
  over =
      front_over in_field slots cues former are (cue_events in_field (cues ++ former ∷ [])) (λ n free. free)
      (all_stand (cue_events in_field (cues ++ former ∷ [])) [] (cues ++ former ∷ []) room.0 line21 room.1)

  own_from : AreFrom former.show own_events
  unfolding own_events
  own_from = events_from in_field former.show (record former { hide = hide } ∷ cue ∷ [])
      ((omega arith, at hide last.0.hidden), (((let later = last.1.later in omega arith), next cue.hide last.2.hidden), tt))
    where
      at : (h : Option ℕ) → IfSome h (λ hide. former.show < hide) → IfSome h (λ hide. former.show ≤ hide)
      at None hidden = tt
      at (Some h) hidden = omega arith

      next : (h : Option ℕ) → IfSome h (λ hide. cue.show < hide) → IfSome h (λ hide. former.show ≤ hide)
      next None hidden = tt
      next (Some h) hidden = let later : former.show < cue.show = last.1.later in omega arith

  before_free : (n : ℕ) → n < former.show → IsFree before_events n → IsFree all_events n
  unfolding before_events
  before_free n less free =
      subst (λ (es : List Event). IsFree es n) (sym all_are)
      (free_append (front_events in_field cues former) own_events n
      (free_parts (front_events in_field cues former) (cue_events in_field (former ∷ [])) n
      (subst (λ (es : List Event). IsFree es n) (events_split in_field cues former []) free)).0
      (free_from former.show n own_events own_from less))

  own_free : (n : ℕ) → former.show ≤ n → IsFree own_events n → IsFree all_events n
  own_free n from free =
      subst (λ (es : List Event). IsFree es n) (sym all_are)
      (free_append (front_events in_field cues former) own_events n (free_over former.show n (front_events in_field cues former) over from) free)

  before_placed : IsPlaced (field_lane all_events) [] (units_on (cues ++ former ∷ [])) room.0
  unfolding before_events
  before_placed =
      moved before_events all_events 0 (units_on (cues ++ former ∷ [])) (units_on (cues ++ former ∷ [])) room.0 [] [] refl
      (all_movable before_events all_events (cues ++ former ∷ []) former.show (last_shown slots cues former are) before_free)
      (λ f low end. end) room.1

  pub longer_room : HaveRoom in_field (cues ++ record former { hide = hide } ∷ cue ∷ [])
  unfolding all_events own_events before_events
  longer_room =
      let us = units_on (cues ++ former ∷ []) in
      let w = placed_parts (field_lane own_events) [] (field_cue_chunks 0 former) (units_on (cue ∷ [])) own.0 own.1 in
      let end = end_until before_events former.show [] us room.0 (omega arith) (all_until former.show (cues ++ former ∷ []) (last_shown slots cues former are)) room.1 in
      let low : former.show ≤ cue.load = last.1.link.loaded in
      let after = moved own_events all_events cue.load (units_on (cue ∷ [])) (units_on (cue ∷ [])) w.back
      ([] ++ zip (field_cue_chunks 0 former) w.front) ([] ++ zip us room.0) refl
      (movable_both own_events all_events cue.load (field_cue_chunks 0 cue) []
      (own_movable own_events all_events cue.load cue (units_of cue) (omega arith) (λ n from to. own_free n (omega arith))) tt)
      (λ f from behind. omega (arith, end)) w.rest in (
        room.0 ++ w.back,
        subst (λ (vs : List FieldChunk). IsPlaced (field_lane all_events) [] vs (room.0 ++ w.back)) (sym (units_longer cues former cue hide))
            (placed_both (field_lane all_events) [] us (units_on (cue ∷ [])) room.0 w.back before_placed after),
      )
