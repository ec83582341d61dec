-- The cues of a channel of a list are in sequence exactly where none of them has a fault.
use Rattle.std.proofs.Common.{◌≡◌, ℕ, ◌+◌, ◌*◌, ◌<◌, ◌≤◌, ◌==◌, ◌&&◌, ◌||◌, Bool, true, false, not, cond, List, [], ◌∷◌, ◌++◌, reverse, refl, sym, ap, ◌∙◌, subst, append_assoc}
use Rattle.std.specs.Prelude.{Option, Some, None, is_none, All, IfSome, MatchOption, ⊤}
use Rattle.std.specs.List.{AllByRecursion}
use Rattle.std.proofs.lemmas.Bool.{and_parts, eqb-true}
use Rattle.std.proofs.lemmas.List.{reverse-reverse}
use Rattle.std.proofs.lemmas.List.Elements.{All-cons, All-nil, recursion_from_All}
use Rattle.line21_codes.specs.declared.channels.Chan.{Chan}
use Rattle.cue_types.specs.Channels.{is_on, cues_on}
use Rattle.cue_types.specs.Line21Cues.{base_row, continues, same_roll}
use Rattle.cue_types.specs.Listing.{Listing}
use Rattle.cue_lists.specs.Rules.Tests.{AreFaultless}
use Rattle.cue_lists.specs.Rules.Former.{former_cue}
use Rattle.cue_types.specs.Lane.{is_line21, is_paint, is_pop, is_roll}
use Rattle.cue_lists.specs.Rules.Sentences.{AreInSequence, ComesAfter, IsContinued, IsOnSlots, IsSound}
use Rattle.cue_lists.specs.Rules.OffSlot.{lacks_slot}
use Rattle.line21_slots.specs.Cadences.{cadence_of, has_slot_in, slot_step}
use Rattle.cue_types.specs.declared.cue.Cue.{Cue}
use Rattle.cue_types.specs.declared.cue.Kind.{Kind}
use Rattle.cue_types.specs.declared.cue.Kind.TheVariants as kind
use Rattle.cue_lists.proofs.ChannelCues.{All-reverse, same_channel_is, line21_on, former_on, cues_on_are_on}
use Rattle.cue_types.specs.declared.lane.Lane.TheVariants as lane
use Rattle.cue_lists.proofs.LaneCues.{lane_back, lane_reverse, newest, reverse-cons}
use Rattle.cue_lists.proofs.RuleKept.{KeepsRules, keeps_rules, load_below_show, show_below_hide, load_from_former_show, runs_share_none, show_from_former_hide, hide_not_next, show_not_next, load_from_former_hide, continues_unhidden, hide_within, show_within, show_on_slot, hide_on_slot}
use Rattle.cue_lists.proofs.ChannelKept.{slot_of_kind}

-- a HIDE that is there, or not
by_hide : (hide : Option ℕ) (P : Type 0) (Q : ℕ → Type 0) → (hide ≡ None → P) → ((frame : ℕ) → hide ≡ Some frame → Q frame)
    → MatchOption hide P Q
by_hide None P Q none some = none refl
by_hide (Some frame) P Q none some = some frame refl

if_hidden : (hide : Option ℕ) (P : ℕ → Type 0) → ((frame : ℕ) → hide ≡ Some frame → P frame) → IfSome hide P
if_hidden hide P some = by_hide hide ⊤ P (λ none. tt) some

-- a cue on a channel that keeps the rules is sound
sound : (list : Listing) (earlier : List Cue) (cue : Cue) → is_line21 cue.kind ≡ true
    → KeepsRules list earlier cue → IsSound (slot_step list.rate) list.frames cue
sound list earlier cue line21 keeps =
    record {
      loaded = load_below_show list earlier cue keeps;
      hidden = if_hidden cue.hide (λ frame. cue.show < frame) (λ frame is. show_below_hide list earlier cue keeps frame is);
      stays = λ pop. if_hidden cue.hide (λ frame. cue.show + 2 * slot_step list.rate ≤ frame)
          (λ frame is. hide_not_next list earlier cue keeps frame pop is);
      ended = by_hide cue.hide (cue.show < list.frames) (λ frame. frame + slot_step list.rate + 1 ≤ list.frames)
          (λ none. show_within list earlier cue keeps line21 none)
          (λ frame is. hide_within list earlier cue keeps frame line21 is);
      apart = runs_share_none list earlier cue keeps;
    }

-- a cue that isn't pop-on is written onto the screen, and where the former cue has a HIDE, doesn't continue it
written_anew : (k : Kind) (same base : Bool) (hide : Option ℕ) (frame : ℕ) → is_line21 k ≡ true → is_pop k ≡ false
    → hide ≡ Some frame → (is_paint k || (is_roll k && not (same && is_none hide && base))) ≡ true
written_anew k same base None frame line21 other is = cc
written_anew (kind.Pop channel) same base (Some hide) frame line21 other is = cc
written_anew (kind.Paint channel) same base (Some hide) frame line21 other is = refl
written_anew (kind.Roll channel rows) true base (Some hide) frame line21 other is = refl
written_anew (kind.Roll channel rows) false base (Some hide) frame line21 other is = refl
written_anew (kind.Win window) same base (Some hide) frame line21 other is = cc

-- a cue that continues another is roll-up
same_roll_is_roll : (k former : Kind) → same_roll k former ≡ true → is_roll k ≡ true
same_roll_is_roll (kind.Pop channel) former same = cc
same_roll_is_roll (kind.Paint channel) former same = cc
same_roll_is_roll (kind.Roll channel rows) former same = refl
same_roll_is_roll (kind.Win window) former same = cc

-- on one channel it has the kind of the other
same_roll_is_same : (channel : Chan) (k former : Kind) → is_on channel k ≡ true → is_on channel former ≡ true
    → same_roll k former ≡ true → k ≡ former
same_roll_is_same channel (kind.Pop own) former on former_on same = cc
same_roll_is_same channel (kind.Paint own) former on former_on same = cc
same_roll_is_same channel (kind.Win window) former on former_on same = cc
same_roll_is_same channel (kind.Roll own rows) (kind.Pop other) on former_on same = cc
same_roll_is_same channel (kind.Roll own rows) (kind.Paint other) on former_on same = cc
same_roll_is_same channel (kind.Roll own rows) (kind.Win window) on former_on same = cc
same_roll_is_same channel (kind.Roll own rows) (kind.Roll other count) on former_on same =
    let e = same_channel_is channel own on in
    let f = same_channel_is channel other former_on in
    let g = eqb-true rows count same in
    cc

-- what a cue that continues another is
pub continuing : (channel : Chan) (former cue : Cue) → is_on channel former.kind ≡ true → is_on channel cue.kind ≡ true
    → continues cue former ≡ true → IsContinued former cue
continuing channel former cue former_on on same =
    let both = and_parts (same_roll cue.kind former.kind && is_none former.hide) (base_row cue.runs == base_row former.runs) same in
    let kinds = and_parts (same_roll cue.kind former.kind) (is_none former.hide) both.0 in
    record {
      roll = same_roll_is_roll cue.kind former.kind kinds.0;
      kind = same_roll_is_same channel cue.kind former.kind on former_on kinds.0;
      base = eqb-true (base_row cue.runs) (base_row former.runs) both.1;
    }

-- a cue on a channel that keeps the rules comes after the former one
comes_after : (list : Listing) (channel : Chan) (earlier : List Cue) (former cue : Cue)
    → former_cue cue earlier ≡ Some former → is_on channel former.kind ≡ true → is_on channel cue.kind ≡ true
    → KeepsRules list earlier cue → ComesAfter (slot_step list.rate) former cue
comes_after list channel earlier former cue is former_on on keeps =
    record {
      loaded = load_from_former_show list earlier cue keeps former line21 is;
      shown = if_hidden former.hide (λ frame. frame ≤ cue.show)
          (λ frame hides. show_from_former_hide list earlier cue keeps former frame line21 is hides);
      apart = λ pop. if_hidden former.hide (λ frame. frame < cue.show → frame + 2 * slot_step list.rate ≤ cue.show)
          (λ frame hides above. show_not_next list earlier cue keeps former frame pop is hides above);
      cleared = λ other. if_hidden former.hide (λ frame. frame ≤ cue.load)
          (λ frame hides. load_from_former_hide list earlier cue keeps former frame
          (written_anew cue.kind (same_roll cue.kind former.kind) (base_row cue.runs == base_row former.runs)
          former.hide frame line21 other hides)
          is hides);
      continued = λ none. continuing channel former cue former_on on
          (continues_unhidden list earlier cue keeps former is none);
    }
  where
    line21 : is_line21 cue.kind ≡ true
    line21 = line21_on channel cue.kind on

-- a cue comes after the newest of those before it
abbrev pub IsBehind : ℕ → List Cue → Cue → Type 0
IsBehind step [] cue = ⊤
IsBehind step (former ∷ earlier) cue = ComesAfter step former cue

-- the first of the later cues comes after a cue
abbrev IsBefore : ℕ → Cue → List Cue → Type 0
IsBefore step cue [] = ⊤
IsBefore step cue (next ∷ later) = ComesAfter step cue next

-- and after the newest of those before it
abbrev AreJoined : ℕ → List Cue → List Cue → Type 0
AreJoined step [] later = ⊤
AreJoined step (former ∷ earlier) later = IsBefore step former later

-- the newest first, each of the cues is sound, and comes after the one before it
abbrev pub AreInSequenceBack : ℕ → ℕ → List Cue → Type 0
AreInSequenceBack step frames [] = ⊤
AreInSequenceBack step frames (cue ∷ earlier) = IsSound step frames cue × IsBehind step earlier cue × AreInSequenceBack step frames earlier

-- a cue comes after the newest one on its channel
behind : (list : Listing) (channel : Chan) (earlier : List Cue) (cue : Cue) (before : List Cue)
    → former_cue cue earlier ≡ newest before → AllByRecursion (λ former. is_on channel former.kind ≡ true) before
    → is_on channel cue.kind ≡ true → KeepsRules list earlier cue → IsBehind (slot_step list.rate) before cue
behind list channel earlier cue [] is all on keeps = tt
behind list channel earlier cue (former ∷ others) is all on keeps =
    comes_after list channel earlier former cue is all.0 on keeps

-- the cues on a channel, the newest first, are in sequence
pub faultless_sequence : (list : Listing) (channel : Chan) (earlier : List Cue) → AreFaultless list earlier
    → AreInSequenceBack (slot_step list.rate) list.frames (cues_on channel earlier)
faultless_sequence list channel [] faultless = tt
faultless_sequence list channel (cue ∷ earlier) faultless =
    by_test (is_on channel cue.kind) refl (faultless_sequence list channel earlier faultless.1)
  where
    keeps : KeepsRules list earlier cue
    keeps = keeps_rules list earlier cue faultless.0

    all_on : AllByRecursion (λ (former : Cue). is_on channel former.kind ≡ true) (cues_on channel earlier)
    all_on = recursion_from_All (λ (former : Cue). is_on channel former.kind ≡ true) (cues_on channel earlier)
        (cues_on_are_on channel earlier)

    by_test : (b : Bool) → is_on channel cue.kind ≡ b → AreInSequenceBack (slot_step list.rate) list.frames (cues_on channel earlier)
        → AreInSequenceBack (slot_step list.rate) list.frames (cond b (cue ∷ cues_on channel earlier) (cues_on channel earlier))
    by_test true on rest = (
      sound list earlier cue (line21_on channel cue.kind on) keeps,
      behind list channel earlier cue (cues_on channel earlier) (former_on channel cue earlier on) all_on on keeps,
      rest,
    )
    by_test false on rest = rest

-- the cues on a channel, the newest first, are on its slots
pub faultless_on_slots : (list : Listing) (channel : Chan) (earlier : List Cue) → AreFaultless list earlier
    → All (IsOnSlots (cadence_of list.rate channel)) (cues_on channel earlier)
faultless_on_slots list channel [] faultless = All-nil (IsOnSlots (cadence_of list.rate channel))
faultless_on_slots list channel (cue ∷ earlier) faultless =
    by_test (is_on channel cue.kind) refl (faultless_on_slots list channel earlier faultless.1)
  where
    keeps : KeepsRules list earlier cue
    keeps = keeps_rules list earlier cue faultless.0

    has : (b : Bool) → not b ≡ false → b ≡ true
    has true e = refl
    has false e = cc

    slot : is_on channel cue.kind ≡ true → (frame : ℕ) → lacks_slot list.rate cue.kind frame ≡ false → has_slot_in (cadence_of list.rate channel) frame ≡ true
    slot on frame lacks = has _ (sym (slot_of_kind list.rate channel cue.kind frame on) ∙ lacks)

    on_slots : is_on channel cue.kind ≡ true → IsOnSlots (cadence_of list.rate channel) cue
    on_slots on = record {
      show = slot on cue.show (show_on_slot list earlier cue keeps);
      hide = if_hidden cue.hide (λ frame. has_slot_in (cadence_of list.rate channel) frame ≡ true)
          (λ frame is. slot on frame (hide_on_slot list earlier cue keeps frame is));
    }

    by_test : (b : Bool) → is_on channel cue.kind ≡ b → All (IsOnSlots (cadence_of list.rate channel)) (cues_on channel earlier)
        → All (IsOnSlots (cadence_of list.rate channel)) (cond b (cue ∷ cues_on channel earlier) (cues_on channel earlier))
    by_test true on rest = All-cons (IsOnSlots (cadence_of list.rate channel)) cue (cues_on channel earlier) (on_slots on) rest
    by_test false on rest = rest

-- what holds of the cues on a channel holds of them from the newest on, and back
pub all_on_from_back : (P : Cue → Type 0) (channel : Chan) (cues : List Cue) → All P (cues_on channel (reverse cues)) → All P (cues_on channel cues)
all_on_from_back P channel cues all =
    subst (All P) (reverse-reverse (cues_on channel cues))
    (All-reverse P (reverse (cues_on channel cues)) (subst (All P) (lane_reverse (lane.Channel channel) cues) all))

pub all_on_back : (P : Cue → Type 0) (channel : Chan) (cues : List Cue) → All P (cues_on channel cues) → All P (cues_on channel (reverse cues))
all_on_back P channel cues all = subst (All P) (sym (lane_reverse (lane.Channel channel) cues)) (All-reverse P (cues_on channel cues) all)

-- one more cue at the front
in_sequence-cons : (step frames : ℕ) (cue : Cue) (later : List Cue) → IsSound step frames cue → IsBefore step cue later
    → AreInSequence step frames later → AreInSequence step frames (cue ∷ later)
in_sequence-cons step frames cue [] is_sound before sequence = is_sound
in_sequence-cons step frames cue (next ∷ later) is_sound before sequence = (is_sound, before, sequence)

-- where a cue comes after the newest of those before it, they are joined
joined : (step : ℕ) (earlier : List Cue) (cue : Cue) (later : List Cue) → IsBehind step earlier cue → AreJoined step earlier (cue ∷ later)
joined step [] cue later is_behind = tt
joined step (former ∷ earlier) cue later is_behind = is_behind

joined_end : (step : ℕ) (earlier : List Cue) → AreJoined step earlier []
joined_end step [] = tt
joined_end step (former ∷ earlier) = tt

-- the earlier cues and the later ones, in their order
turned : (step frames : ℕ) (earlier later : List Cue) → AreInSequenceBack step frames earlier → AreJoined step earlier later
    → AreInSequence step frames later → AreInSequence step frames (reverse earlier ++ later)
turned step frames [] later back join sequence = sequence
turned step frames (cue ∷ earlier) later back join sequence =
    subst (λ (cues : List Cue). AreInSequence step frames cues)
    (sym (ap (λ (cues : List Cue). cues ++ later) (reverse-cons cue earlier) ∙ append_assoc (reverse earlier) (cue ∷ []) later))
    (turned step frames earlier (cue ∷ later) back.2 (joined step earlier cue later back.1)
    (in_sequence-cons step frames cue later back.0 join sequence))

-- where they are in sequence, so are they from the newest on
turned_back : (step frames : ℕ) (earlier later : List Cue) → AreInSequence step frames (reverse earlier ++ later)
    → AreInSequenceBack step frames earlier × AreJoined step earlier later × AreInSequence step frames later
turned_back step frames [] later sequence = (tt, tt, sequence)
turned_back step frames (cue ∷ earlier) later sequence =
    let whole = turned_back step frames earlier (cue ∷ later)
    (subst (λ (cues : List Cue). AreInSequence step frames cues)
    (ap (λ (cues : List Cue). cues ++ later) (reverse-cons cue earlier) ∙ append_assoc (reverse earlier) (cue ∷ []) later)
    sequence) in
    let here = first_of_sequence step frames cue later whole.2 in
    ((here.0, behind_joined step earlier cue later whole.1, whole.0), here.1, here.2)
  where
    first_of_sequence : (step frames : ℕ) (cue : Cue) (later : List Cue) → AreInSequence step frames (cue ∷ later)
        → IsSound step frames cue × IsBefore step cue later × AreInSequence step frames later
    first_of_sequence step frames cue [] sequence = (sequence, tt, tt)
    first_of_sequence step frames cue (next ∷ later) sequence = sequence

    behind_joined : (step : ℕ) (earlier : List Cue) (cue : Cue) (later : List Cue) → AreJoined step earlier (cue ∷ later) → IsBehind step earlier cue
    behind_joined step [] cue later join = tt
    behind_joined step (former ∷ earlier) cue later join = join

-- the cues of a channel are in sequence as they are from the newest on
pub sequence_from_back : (step frames : ℕ) (channel : Chan) (cues : List Cue)
    → AreInSequenceBack step frames (cues_on channel (reverse cues)) → AreInSequence step frames (cues_on channel cues)
sequence_from_back step frames channel cues back =
    subst (λ (cues : List Cue). AreInSequence step frames cues) (lane_back (lane.Channel channel) cues)
    (turned step frames (cues_on channel (reverse cues)) [] back (joined_end step (cues_on channel (reverse cues))) tt)

pub sequence_back : (step frames : ℕ) (channel : Chan) (cues : List Cue)
    → AreInSequence step frames (cues_on channel cues) → AreInSequenceBack step frames (cues_on channel (reverse cues))
sequence_back step frames channel cues sequence =
    (turned_back step frames (cues_on channel (reverse cues)) []
    (subst (λ (cues : List Cue). AreInSequence step frames cues) (sym (lane_back (lane.Channel channel) cues)) sequence)).0

-- each of the cues in sequence is sound
pub in_sequence_sound : (step frames : ℕ) (cues : List Cue) → AreInSequence step frames cues → AllByRecursion (IsSound step frames) cues
in_sequence_sound step frames [] sequence = tt
in_sequence_sound step frames (cue ∷ []) sequence = (sequence, tt)
in_sequence_sound step frames (cue ∷ (next ∷ later)) sequence =
    (sequence.0, in_sequence_sound step frames (next ∷ later) sequence.2)
