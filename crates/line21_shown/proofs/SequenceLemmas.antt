-- The cues of a channel, one after another: at each settled frame the screen has what was authored.
use Rattle.std.proofs.Common.{◌≡◌, ℕ, zero, suc, ◌<◌, ◌≤◌, Bool, true, false, List, [], ◌∷◌, ◌++◌, Option, Some, None, All, refl, sym, ap, ◌∙◌, arith, ⊎_elim, append-nil, reverse}
use Rattle.std.specs.Prelude.{⊤, IfSome, IsSome}
use Rattle.std.specs.List.{AllByRecursion}
use Rattle.std.specs.Option.{option_or}
use Rattle.std.proofs.lemmas.Bool.{cases_lt}
use Rattle.std.proofs.lemmas.List.{reverse-append}
use Rattle.std.proofs.lemmas.List.Elements.{recursion_from_All}
use Rattle.line21_codes.specs.declared.channels.FieldNumber.{FieldNumber}
use Rattle.line21_codes.specs.declared.channels.FieldNumber.TheVariants.{One, Two}
use Rattle.line21_codes.specs.declared.channels.Chan.{Chan}
use Rattle.line21_codes.specs.declared.channels.Chan.TheVariants.{Cc1, Cc3}
use Rattle.line21_codes.specs.declared.pairs.Pair.{Pair}
use Rattle.cue_lists.specs.AuthoredGrid.{IsSettled, IsSettledFor, authored_grid, shown_by, shown_from, shown_of_newest}
use Rattle.cue_lists.specs.Cues.{IsCueFormed}
use Rattle.cue_lists.specs.Listing.{IsFormed, Listing}
use Rattle.cue_lists.specs.Rules.{IsRuled}
use Rattle.cue_lists.proofs.RulesSaid.{lanes_ruled}
use Rattle.cue_lists.specs.Rules.Lane.{is_line21, is_pop}
use Rattle.cue_lists.specs.declared.cue.Cue.{Cue}
use Rattle.cue_lists.specs.declared.lane.Lane.TheVariants.{Channel}
use Rattle.line21_codes.specs.Channels.{field_of_channel}
use Rattle.frame_scheduler.specs.Channels.{cues_on}
use Rattle.cue_lists.specs.Cadences.{cadence_of, slot_from}
use Rattle.frame_scheduler.specs.CueEvents.{channel_events, hide_events}
use Rattle.frame_scheduler.proofs.SlotSequenceLemmas.{AreInSlots, in_sequence}
use Rattle.line21_screen.specs.Channels.{ChannelState}
use Rattle.line21_screen.specs.Grid.{Grid, empty_grid}
use Rattle.line21_screen.specs.Meaning.{after}
use Rattle.frame_scheduler.specs.ChannelLane.{IsChannelPlaced, channel_chunks}
use Rattle.frame_scheduler.specs.Columns.{first_pairs}
use Rattle.cue_lists.specs.Rules.Sentences.{AreInSequence}
use Rattle.frame_scheduler.specs.FieldLane.{field_lane}
use Rattle.frame_scheduler.specs.LaneEvents.{event_at}
use Rattle.frame_scheduler.specs.Placing.{IsPlaced}
use Rattle.frame_scheduler.specs.LaneTimeline.{lane_timeline, stands}
use Rattle.frame_scheduler.specs.Planned.{columns_of}
use Rattle.frame_scheduler.specs.SlotLists.{slot_cues, slots_in_list}
use Rattle.frame_scheduler.specs.Timeline.{Timeline, column, slot}
use Rattle.frame_scheduler.proofs.ListDoublingLemmas.{channel_timeline, field_one_is, field_two_is}
use Rattle.frame_scheduler.proofs.SlotLemmas.{slot_cues_formed, slot_sequence}
use Rattle.cue_lists.proofs.ChannelCues.{cues_on_are_on, cues_on_formed, hides_unless_roll, line21_on, pop_is_not_roll}
use Rattle.line21_shown.specs.Reading.{acts, first_alone, pairs_before}
use Rattle.line21_shown.specs.Shown.{AuthoredIsSeen, ShowsField}
use Rattle.line21_shown.proofs.CaptionedLemmas.{channel_captioned}
use Rattle.line21_shown.proofs.HeadLemmas.{Continues, first_sound, rest_in_sequence}
use Rattle.line21_shown.proofs.LoadedLemmas.{all_have_time, cues_loaded}
use Rattle.line21_shown.proofs.LoadingLemmas.{erases, loads, until}
use Rattle.line21_shown.proofs.OnScreenLemmas.{screen_before, screen_continues, screen_shown}
use Rattle.line21_shown.proofs.PopOnLemmas.{pop_before, pop_continues, pop_shown, showing_own}
use Rattle.line21_shown.proofs.ReadingLemmas.{columns_read}
use Rattle.line21_shown.proofs.ScreenLemmas.{AreBehind, IsShown, hidden_by, newest_first, newest_first-reverse}
use Rattle.line21_shown.proofs.SlotGridLemmas.{grid_before_slots, grid_in_slots, settled_in_slots}
use Rattle.line21_shown.proofs.SuffixLemmas.{chunks_are, placed_from}

-- a cue of line 21 in its ranges
pub record IsCaption (cue : Cue) : Type 0 where
  pub line21 : is_line21 cue.kind ≡ true
  pub formed : IsCueFormed cue

-- the first of the cues begins after a frame: a pop-on cue is shown, and another one is written from it on
abbrev pub BeginFrom : ℕ → List Cue → Type 0
BeginFrom a [] = ⊤
BeginFrom a (cue ∷ later) = (is_pop cue.kind ≡ false → a ≤ cue.load) × (a ≤ cue.show)

-- the last cue stays on the screen until its HIDE
last_shown : (in_field : FieldNumber) (t : Timeline) (a from : ℕ) (hide : Option ℕ) (g : Grid) (earlier : List Cue)
    → Continues in_field t a hide [] → IsShown t a from hide g earlier → a ≤ suc from → (f : ℕ) → from ≤ f
    → (acts t (suc f)).displayed ≡ shown_of_newest f (shown_by f earlier)
last_shown in_field t a from hide g earlier on is low f above =
    ap (λ (s : ChannelState). s.displayed)
    (loads in_field t hide a (suc f) (suc f) (omega arith) [] [] g (acts t a)
    (λ n up high. on.same n up ∙ ap (λ u. option_or u (stands on.chunks on.frames n)) (only_hides hide n) ∙ ap (option_or (erases in_field hide n)) (nothing on.chunks on.frames n on.are))
    tt tt (showing_own (acts t a) (until hide a g) is.displayed))
    ∙ sym (is.on f above)
  where
    nothing : (chunks : List _) (frames : List ℕ) (n : ℕ) → chunks ≡ [] → stands chunks frames n ≡ None
    nothing [] frames n are = refl
    nothing (chunk ∷ chunks) frames n are = cc

    only_hides : (h : Option ℕ) (n : ℕ) → event_at (hide_events in_field h [] ++ []) n ≡ erases in_field h n
    only_hides None n = refl
    only_hides (Some h) n = refl

-- a HIDE that is there is after SHOW
hidden_behind : (hide : Option ℕ) (show load : ℕ) → IsSome hide → IfSome hide (λ h. show < h) → IfSome hide (λ h. h ≤ load) → suc show ≤ load
hidden_behind None show load some later cleared = cc
hidden_behind (Some h) show load some later cleared = omega arith

-- the cues after a cue begin after it
pub begin_behind_pop : (frames : ℕ) (cue : Cue) (later : List Cue) → is_pop cue.kind ≡ true → IsCueFormed cue → AreInSequence 1 frames (cue ∷ later)
    → BeginFrom (suc cue.show) later
begin_behind_pop frames cue [] pop formed sequence = tt
begin_behind_pop frames cue (next ∷ later) pop formed sequence =
    let behind : cue.show ≤ next.load = sequence.1.loaded in
    let shown : next.load < next.show = (first_sound 1 frames next later sequence.2).loaded in (
      λ plain. hidden_behind cue.hide cue.show next.load (hides_unless_roll cue formed (pop_is_not_roll cue.kind pop)) sequence.0.hidden (sequence.1.cleared plain),
      omega arith,
    )

pub begin_behind : (frames : ℕ) (cue : Cue) (later : List Cue) → AreInSequence 1 frames (cue ∷ later) → BeginFrom cue.show later
begin_behind frames cue [] sequence = tt
begin_behind frames cue (next ∷ later) sequence =
    let behind : cue.show ≤ next.load = sequence.1.loaded in
    let shown : next.load < next.show = (first_sound 1 frames next later sequence.2).loaded in
    (λ plain. behind, omega arith)

-- and after it
pub after_it : (frames : ℕ) (cue : Cue) (later earlier : List Cue) → AreInSequence 1 frames (cue ∷ later) → AreBehind (cue ∷ earlier) later
after_it frames cue [] earlier sequence = tt
after_it frames cue (next ∷ later) earlier sequence = sequence.1

-- cues in sequence: at each settled frame the screen has what they show
pub cues_shown : (in_field : FieldNumber) (t : Timeline) (frames a from : ℕ) (hide : Option ℕ) (g : Grid) (cues earlier : List Cue)
    → AllByRecursion IsCaption cues → AreInSequence 1 frames cues → BeginFrom a cues → AreBehind earlier cues
    → Continues in_field t a hide cues → IsShown t a from hide g earlier → a ≤ suc from
    → (f : ℕ) → from ≤ f → AllByRecursion (IsSettledFor f) cues
    → (acts t (suc f)).displayed ≡ shown_of_newest f (shown_by f (newest_first cues earlier))
cues_shown in_field t frames a from hide g [] earlier captions sequence begin link on is low f above settled =
    last_shown in_field t a from hide g earlier on is low f above
cues_shown in_field t frames a from hide g (cue ∷ later) earlier captions sequence begin link on is low f above settled =
    by_kind (is_pop cue.kind) refl
    (λ pop h. cues_shown in_field t frames (suc cue.show) cue.show cue.hide (shown_from cue.kind cue earlier) later (cue ∷ earlier) captions.1
    (rest_in_sequence 1 frames cue later sequence) (begin_behind_pop frames cue later pop captions.0.formed sequence) (after_it frames cue later earlier sequence)
    (pop_continues in_field t frames a hide g earlier cue later pop captions.0.formed sequence on is.displayed (hidden_by hide g earlier (acts t a) cue later is.newest link) begin.1)
    (pop_shown in_field t frames a hide g earlier cue later pop captions.0.formed sequence on is.displayed (hidden_by hide g earlier (acts t a) cue later is.newest link) begin.1)
    (omega arith) f h settled.1)
    (λ plain h. cues_shown in_field t frames cue.show cue.show cue.hide (shown_from cue.kind cue earlier) later (cue ∷ earlier) captions.1
    (rest_in_sequence 1 frames cue later sequence) (begin_behind frames cue later sequence) (after_it frames cue later earlier sequence)
    (screen_continues in_field t frames a from hide g earlier cue later plain captions.0.line21 captions.0.formed sequence on is link low (begin.0 plain))
    (screen_shown in_field t frames a from hide g earlier cue later plain captions.0.line21 captions.0.formed sequence on is link low (begin.0 plain))
    (omega arith) f h settled.1)
  where
    by_kind : (b : Bool) → is_pop cue.kind ≡ b
        → (is_pop cue.kind ≡ true → cue.show ≤ f → (acts t (suc f)).displayed ≡ shown_of_newest f (shown_by f (newest_first later (cue ∷ earlier))))
        → (is_pop cue.kind ≡ false → cue.show ≤ f → (acts t (suc f)).displayed ≡ shown_of_newest f (shown_by f (newest_first later (cue ∷ earlier))))
        → (acts t (suc f)).displayed ≡ shown_of_newest f (shown_by f (newest_first later (cue ∷ earlier)))
    by_kind true pop popped screened =
        ⊎_elim
        (λ (h : f < cue.show). pop_before in_field t frames a hide g earlier cue later pop captions.0.formed sequence on is.displayed (hidden_by hide g earlier (acts t a) cue later is.newest link) begin.1 from is.on low f above h)
        (popped pop)
        (cases_lt f cue.show)
    by_kind false plain popped screened =
        ⊎_elim
        (λ (h : f < cue.show).
        screen_before in_field t frames a from hide g earlier cue later plain captions.0.line21 captions.0.formed sequence on is link low (begin.0 plain) f above h settled.0)
        (screened plain)
        (cases_lt f cue.show)

-- the cues on a channel are captions
pub captions_are : (channel : Chan) (cues : List Cue) → All IsCueFormed cues → All IsCaption (cues_on channel cues)
captions_are channel cues formed k d within = record {
  line21 = line21_on channel _ (cues_on_are_on channel cues k d within);
  formed = cues_on_formed channel cues formed k d within;
}

-- what they show is the authored grid
pub authored_is : (channel : Chan) (cues : List Cue) (f : ℕ) → shown_of_newest f (shown_by f (newest_first (cues_on channel cues) [])) ≡ authored_grid channel cues f
authored_is channel cues f =
    ap (λ (back : List Cue). shown_of_newest f (shown_by f back))
    (newest_first-reverse (cues_on channel cues) [] ∙ append-nil (reverse (cues_on channel cues)))

-- the timeline of a channel begins with its cues
pub begins : (channel : Chan) (cues : List Cue) (placed : List ℕ) → IsPlaced (field_lane (channel_events channel cues)) [] (channel_chunks channel cues) placed
    → Continues (field_of_channel channel) (lane_timeline (event_at (channel_events channel cues)) (channel_chunks channel cues) placed) 0 None (cues_on channel cues)
begins channel cues placed stand = record {
  chunks = channel_chunks channel cues;
  frames = placed;
  are = chunks_are channel 1 cues;
  placed = placed_from (channel_events channel cues) [] 0 (channel_chunks channel cues) placed (omega arith) stand;
  same = λ n above. refl;
}

-- at first the screen is empty
pub empty_first : (t : Timeline) → IsShown t 0 0 None empty_grid []
empty_first t = record { displayed = refl; newest = (refl, refl); on = λ f above. refl }

-- and any cues may begin
pub any_begin : (cues : List Cue) → BeginFrom 0 cues
any_begin [] = tt
any_begin (cue ∷ later) = (λ plain. omega arith, omega arith)

-- each is a cue of line 21
pub lines_are : (cues : List Cue) → AllByRecursion IsCaption cues → AllByRecursion (λ (cue : Cue). is_line21 cue.kind ≡ true) cues
lines_are [] captions = tt
lines_are (cue ∷ cues) captions = (captions.0.line21, lines_are cues captions.1)

-- the cues of a channel that are in sequence and placed, at a slot that is settled
pub channel_shown : (slots : ℕ) (channel : Chan) (cues : List Cue) (placed : List ℕ) → All IsCueFormed cues → AreInSlots slots (cues_on channel cues)
    → IsPlaced (field_lane (channel_events channel cues)) [] (channel_chunks channel cues) placed → (k : ℕ) → AllByRecursion (IsSettledFor k) (cues_on channel cues)
    → (acts (lane_timeline (event_at (channel_events channel cues)) (channel_chunks channel cues) placed) (suc k)).displayed ≡ authored_grid channel cues k
channel_shown slots channel cues placed formed sequence stands_so k settled =
    let t = lane_timeline (event_at (channel_events channel cues)) (channel_chunks channel cues) placed in
    let captions = recursion_from_All IsCaption (cues_on channel cues) (captions_are channel cues formed) in
    let stand = placed_from (channel_events channel cues) [] 0 (channel_chunks channel cues) placed (omega arith) stands_so in
    let loaded = cues_loaded (cues_on channel cues) (channel_chunks channel cues) (lines_are (cues_on channel cues) captions) (chunks_are channel 1 cues)
    (all_have_time (channel_events channel cues) 0 (channel_chunks channel cues) placed stand) in
    cues_shown (field_of_channel channel) t slots 0 0 None empty_grid (cues_on channel cues) []
    captions (in_sequence slots (cues_on channel cues) sequence loaded) (any_begin (cues_on channel cues)) tt
    (begins channel cues placed stands_so) (empty_first t) (omega arith) k (omega arith) settled
    ∙ authored_is channel cues k

-- a channel of a placed list that keeps the rules, after the slots that have come by a settled frame
slots_shown : (list : Listing) (channel : Chan) (placed : List ℕ) → IsFormed list → IsRuled list → IsChannelPlaced channel (slot_cues list channel) placed
    → (f m : ℕ) → slot_from (cadence_of list.rate channel) (suc f) ≡ m → IsSettled channel list.cues f
    → (acts (channel_timeline list channel placed) m).displayed ≡ authored_grid channel list.cues f
slots_shown list channel placed formed ruled earliest f zero come settled =
    sym (grid_before_slots (cadence_of list.rate channel) f come channel list.cues ((lanes_ruled list ruled).on_slots channel))
slots_shown list channel placed formed ruled earliest f (suc k) come settled =
    channel_shown (slots_in_list list channel) channel (slot_cues list channel) placed (slot_cues_formed list formed channel) (slot_sequence list ruled channel) earliest.placed k
    (settled_in_slots (cadence_of list.rate channel) f k come channel list.cues ((lanes_ruled list ruled).on_slots channel) settled)
    ∙ grid_in_slots (cadence_of list.rate channel) f k come channel list.cues ((lanes_ruled list ruled).on_slots channel)

-- the pairs of the first slots, the newest first
pub newest_pairs : (t : Timeline) (n : ℕ) → reverse (column t n) ≡ pairs_before (slot t) n
newest_pairs t zero = refl
newest_pairs t (suc n) = reverse-append (column t n) (slot t n ∷ []) ∙ ap (λ (pairs : List Pair). slot t n ∷ pairs) (newest_pairs t n)

-- and the field that carries it
field_shown : (list : Listing) (channel : Chan) (in_field : FieldNumber) (placed : List ℕ) → IsFormed list → IsRuled list
    → IsChannelPlaced channel (slot_cues list channel) placed → (f : ℕ) (pairs : List Pair)
    → pairs ≡ column (channel_timeline list channel placed) (slot_from (cadence_of list.rate channel) (suc f))
    → ShowsField (after in_field (reverse pairs)) channel list.cues f
field_shown list channel in_field placed formed ruled earliest f pairs are =
    let t = channel_timeline list channel placed in
    let m = slot_from (cadence_of list.rate channel) (suc f) in
    let state : after in_field (reverse pairs) ≡ first_alone (acts t m) =
    ap (λ (l : List Pair). after in_field (reverse l)) are ∙ ap (after in_field) (newest_pairs t m)
    ∙ columns_read in_field t (channel_captioned list channel placed formed ruled earliest) m in
    record {
      first = λ settled. ap (λ s. s.first.displayed) state ∙ slots_shown list channel placed formed ruled earliest f m refl settled;
      second = ap (λ s. s.second.displayed) state;
    }

-- what is authored is what is seen
pub authored_seen : AuthoredIsSeen
authored_seen list placed formed ruled is f One =
    field_shown list Cc1 One (placed (Channel Cc1)) formed ruled (is (Channel Cc1)) f (first_pairs One (columns_of list placed) (suc f))
    (field_one_is list placed (suc f))
authored_seen list placed formed ruled is f Two =
    field_shown list Cc3 Two (placed (Channel Cc3)) formed ruled (is (Channel Cc3)) f (first_pairs Two (columns_of list placed) (suc f))
    (field_two_is list placed (suc f))
