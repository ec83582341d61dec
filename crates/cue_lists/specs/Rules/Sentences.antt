-- Between crates: the program's answer stands on none of these definitions.
-- What the rules give of the cues of each channel and of each service, in the order of the list. Among these, the cue
-- before a cue is its former cue.
use Rattle.std.specs.Prelude.{◌≡◌, ◌≢◌, ℕ, ◌+◌, ◌*◌, ◌<◌, ◌≤◌, true, false, List, [], ◌∷◌, All, None, IfSome, IsSome, MatchOption, ⊤}
use Rattle.std.specs.List.{AllByRecursion}
use Rattle.cc_base.specs.declared.rate.Rate.{Rate}
use Rattle.cc_base.specs.Rate.{delay_frames_of}
use Rattle.line21_codes.specs.declared.channels.Chan.{Chan}
use Rattle.cue_types.specs.Channels.{cues_of_service, cues_on}
use Rattle.cue_types.specs.Line21Cues.{base_row}
use Rattle.cue_types.specs.Listing.{Listing, share_of}
use Rattle.cue_types.specs.Cells.{have_shared_cell}
pub use Rattle.cue_lists.specs.Rules.Delay.{IsUndisturbed}
use Rattle.cue_lists.specs.Rules.Delay.{delay_of, delay_start}
use Rattle.cue_types.specs.Lane.{is_pop, is_roll}
use Rattle.cue_lists.specs.Rules.WindowBusy.{same_window}
use Rattle.cue_types.specs.declared.cue.Cue.{Cue}
use Rattle.line21_slots.specs.Cadences.{cadence_of, has_slot_in, slot_step}
use Rattle.line21_slots.specs.declared.cadence.Cadence.{Cadence}

-- what the rules ask of a cue on a channel by itself, in a list of this many frames; a step is that from slot to slot
pub record IsSound (step frames : ℕ) (cue : Cue) : Type 0 where
  -- Order: LOAD is below SHOW
  pub loaded : cue.load < cue.show
  -- Order: SHOW is below HIDE
  pub hidden : IfSome cue.hide (λ hide. cue.show < hide)
  -- Overlap: no two of its runs write one cell, lead cells counted
  pub apart : have_shared_cell cue.runs ≡ false
  -- Clash: a pop-on cue's HIDE is two steps after SHOW or later, as the code that shows it is repeated a step on
  pub stays : is_pop cue.kind ≡ true → IfSome cue.hide (λ hide. cue.show + 2 * step ≤ hide)
  -- PastEnd: HIDE and the step to its repeat lie before the end; where HIDE is empty, SHOW does
  pub ended : MatchOption cue.hide (cue.show < frames) (λ hide. hide + step + 1 ≤ frames)

-- a roll-up cue continues the former one of its channel: with as many rows, on the same base row
pub record IsContinued (former cue : Cue) : Type 0 where
  pub roll : is_roll cue.kind ≡ true
  pub kind : cue.kind ≡ former.kind
  pub base : base_row cue.runs ≡ base_row former.runs

-- what the rules ask of a cue on a channel and its former cue
pub record ComesAfter (step : ℕ) (former cue : Cue) : Type 0 where
  -- Order: LOAD isn't below the former cue's SHOW
  pub loaded : former.show ≤ cue.load
  -- Overlap: SHOW isn't below the former cue's HIDE
  pub shown : IfSome former.hide (λ hide. hide ≤ cue.show)
  -- Clash: a pop-on cue's SHOW is the former cue's HIDE, or two steps after it or later, as the code that hides is repeated
  pub apart : is_pop cue.kind ≡ true → IfSome former.hide (λ hide. hide < cue.show → hide + 2 * step ≤ cue.show)
  -- Unhidden: the LOAD of a paint-on or roll-up cue, which is written onto the screen, isn't below the former cue's HIDE
  pub cleared : is_pop cue.kind ≡ false → IfSome former.hide (λ hide. hide ≤ cue.load)
  -- Unhidden: a former cue whose HIDE is empty is continued
  pub continued : former.hide ≡ None → IsContinued former cue

-- the cues of a channel keep the rules: each by itself, and with the one before it
abbrev pub AreInSequence : ℕ → ℕ → List Cue → Type 0
AreInSequence step frames [] = ⊤
AreInSequence step frames (cue ∷ []) = IsSound step frames cue
AreInSequence step frames (cue ∷ (next ∷ later)) =
    IsSound step frames cue × ComesAfter step cue next × AreInSequence step frames (next ∷ later)

-- OffSlot: a cue is shown and hidden in frames in which its field has a slot
pub record IsOnSlots (cadence : Cadence) (cue : Cue) : Type 0 where
  pub show : has_slot_in cadence cue.show ≡ true
  pub hide : IfSome cue.hide (λ hide. has_slot_in cadence hide ≡ true)

-- what the rules ask of a window cue of a service by itself
pub record IsSoundWindow (list : Listing) (service : ℕ) (cue : Cue) : Type 0 where
  -- Order: LOAD is below SHOW
  pub loaded : cue.load < cue.show
  -- Order: SHOW is below HIDE
  pub hidden : IfSome cue.hide (λ hide. cue.show < hide)
  -- Order: LOAD and the frames of a DELAY above 0 together are below SHOW
  pub delayed : 0 < delay_of cue.kind → cue.load + delay_frames_of list.rate (delay_of cue.kind) < cue.show
  -- Overlap: no two of its runs write one cell
  pub apart : have_shared_cell cue.runs ≡ false
  -- Share: its service has a share
  pub shared : IsSome (share_of list service)
  -- PastEnd: HIDE is below FRAMES
  pub ended : IfSome cue.hide (λ hide. hide < list.frames)

-- what the rules ask of a window cue and any cue of its service that stands before it
pub record KeepsClear (rate : Rate) (earlier cue : Cue) : Type 0 where
  -- Order: LOAD isn't below the previous cue's
  pub loaded : earlier.load ≤ cue.load
  -- WindowBusy: where both use one window, its HIDE isn't above LOAD
  pub vacated : same_window cue.kind earlier.kind ≡ true → IfSome earlier.hide (λ hide. hide ≤ cue.load)
  -- DelayCovers: their delays don't start in one frame
  pub starts : IfSome (delay_start rate cue) (λ start. IfSome (delay_start rate earlier) (λ other. start ≢ other))
  -- DelayCovers: neither has an event inside the delay of the other
  pub undisturbed : IsUndisturbed rate cue earlier
  pub undisturbing : IsUndisturbed rate earlier cue

-- the cues of a service keep the rules: each by itself, and with all before it
abbrev pub AreInService : Listing → ℕ → List Cue → Type 0
AreInService list service [] = ⊤
AreInService list service (cue ∷ later) =
    IsSoundWindow list service cue × AllByRecursion (KeepsClear list.rate cue) later × AreInService list service later

-- the cues of each channel and of each service keep the rules
pub record AreLanesRuled (list : Listing) : Type 0 where
  pub channels : (channel : Chan) → AreInSequence (slot_step list.rate) list.frames (cues_on channel list.cues)
  pub on_slots : (channel : Chan) → All (IsOnSlots (cadence_of list.rate channel)) (cues_on channel list.cues)
  pub services : (service : ℕ) → AreInService list service (cues_of_service service list.cues)
