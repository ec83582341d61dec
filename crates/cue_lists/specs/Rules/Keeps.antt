-- Believed: the program's answer stands on these definitions.
-- The nine rules of a cue list: what each asks of a cue by itself, of a cue and its former one, and of a cue and each before it; what
-- it is to keep a rule, and which cue a broken rule names. The cues before a cue are a list with the newest first.
use Rattle.std.specs.Prelude.{◌≡◌, ◌≢◌, ◌⊎◌, ⊤, ℕ, ◌+◌, ◌*◌, ◌<◌, ◌≤◌, true, false, List, [], ◌∷◌, length, Option, Some, None, IfSome, IsSome, MatchOption}
use Rattle.std.specs.List.{AllByRecursion, AllPairs}
use Rattle.cc_base.specs.Rate.{delay_frames_of}
use Rattle.cc_base.specs.declared.why.Why.{Why}
use Rattle.cc_base.specs.declared.why.Why.TheVariants as why
use Rattle.line21_codes.specs.declared.channels.Chan.{Chan}
use Rattle.line21_slots.specs.Cadences.{cadence_of, has_slot_in, slot_step}
use Rattle.cue_form.specs.FirstFailing.{IsFirstFailing}
use Rattle.cue_types.specs.Cells.{covers}
use Rattle.cue_types.specs.Channels.{uses_window}
use Rattle.cue_types.specs.Lane.{is_pop, kind_lane, same_lane}
use Rattle.cue_types.specs.Line21Cues.{continues}
use Rattle.cue_types.specs.Listing.{Listing, share_of}
use Rattle.cue_types.specs.declared.cue.Cue.{Cue}
use Rattle.cue_types.specs.declared.lane.Lane.TheVariants as lane
use Rattle.cue_lists.specs.Rules.Delay.{IsUndisturbed, delay_of, delay_start}

-- the rules, in the order in which they are tried
abbrev pub rules : List Why
rules =
    why.Order
    ∷ why.Overlap
    ∷ why.Clash
    ∷ why.Unhidden
    ∷ why.WindowBusy
    ∷ why.DelayCovers
    ∷ why.Share
    ∷ why.PastEnd
    ∷ why.OffSlot
    ∷ []

-- what a rule asks of a cue by itself. A step is that from a field's slot to its next one, in which a code is repeated
-- Order: LOAD is below SHOW, and SHOW below HIDE; so is LOAD below SHOW with the frames of a DELAY above 0
-- Overlap: no two runs of the cue write one cell, lead cells counted
-- Clash: a pop-on cue's HIDE is two steps after its SHOW, or later
-- Share: a window cue's service has a share
-- PastEnd: on a channel, HIDE and the step to its repeat lie before the end, and where HIDE is empty, SHOW does; on a service, HIDE does
-- OffSlot: a line 21 cue is shown and hidden in frames in which its field has a slot
abbrev pub IsKeptAlone : Why → Listing → Cue → Type 0
IsKeptAlone why.Order list cue =
    (cue.load < cue.show) × IfSome cue.hide (λ hide. cue.show < hide)
    × (0 < delay_of cue.kind → cue.load + delay_frames_of list.rate (delay_of cue.kind) < cue.show)
IsKeptAlone why.Overlap list cue =
    AllPairs (λ a b. (row column : ℕ) → covers a row column ≡ true → covers b row column ≡ true → ⊥)
    cue.runs
IsKeptAlone why.Clash list cue = is_pop cue.kind ≡ true → IfSome cue.hide (λ hide. cue.show + 2 * slot_step list.rate ≤ hide)
IsKeptAlone why.Share list cue = (service : ℕ) → kind_lane cue.kind ≡ lane.Service service → IsSome (share_of list service)
IsKeptAlone why.PastEnd list cue =
    ((channel : Chan) → kind_lane cue.kind ≡ lane.Channel channel
    → MatchOption cue.hide (cue.show < list.frames)
    (λ hide. hide + slot_step list.rate + 1 ≤ list.frames))
    × ((service : ℕ) → kind_lane cue.kind ≡ lane.Service service
    → IfSome cue.hide (λ hide. hide < list.frames))
IsKeptAlone why.OffSlot list cue =
    (channel : Chan) → kind_lane cue.kind ≡ lane.Channel channel → (has_slot_in (cadence_of list.rate channel) cue.show ≡ true)
    × IfSome cue.hide (λ hide. has_slot_in (cadence_of list.rate channel) hide ≡ true)
IsKeptAlone _ list cue = ⊤

-- what a rule asks of a cue and its former one
-- Order: LOAD isn't below the former cue's SHOW on a channel, nor below its LOAD on a service
-- Overlap: on a channel, SHOW isn't below the former cue's HIDE
-- Clash: a pop-on cue's SHOW isn't above the former cue's HIDE, or two steps after it or later, as the code that hides is repeated
-- Unhidden: a paint-on or roll-up cue, which is written onto the screen, has no LOAD below the former cue's HIDE; where that is
-- empty, the cue continues it
abbrev pub IsKeptWithFormer : Why → Listing → Cue → Cue → Type 0
IsKeptWithFormer why.Order list former cue =
    ((channel : Chan) → kind_lane cue.kind ≡ lane.Channel channel → former.show ≤ cue.load)
    × ((service : ℕ) → kind_lane cue.kind ≡ lane.Service service → former.load ≤ cue.load)
IsKeptWithFormer why.Overlap list former cue =
    (channel : Chan) → kind_lane cue.kind ≡ lane.Channel channel
    → IfSome former.hide (λ hide. hide ≤ cue.show)
IsKeptWithFormer why.Clash list former cue =
    is_pop cue.kind ≡ true → IfSome former.hide (λ hide. hide < cue.show → hide + 2 * slot_step list.rate ≤ cue.show)
IsKeptWithFormer why.Unhidden list former cue =
    MatchOption former.hide (continues cue former ≡ true)
    (λ hide. (channel : Chan) → kind_lane cue.kind ≡ lane.Channel channel → is_pop cue.kind ≡ false
    → hide ≤ cue.load)
IsKeptWithFormer _ list former cue = ⊤

-- what a rule asks of a cue and each one before it
-- WindowBusy: where both use one window, the HIDE of the one before isn't above LOAD
-- DelayCovers: of one service, their delays don't start in one frame, and neither has an event inside the delay of the other
abbrev pub IsKeptWithEach : Why → Listing → Cue → Cue → Type 0
IsKeptWithEach why.WindowBusy list earlier cue =
    (service id : ℕ) → uses_window service id cue.kind ≡ true → uses_window service id earlier.kind ≡ true
    → IfSome earlier.hide (λ hide. hide ≤ cue.load)
IsKeptWithEach why.DelayCovers list earlier cue =
    kind_lane earlier.kind ≡ kind_lane cue.kind
    → IfSome (delay_start list.rate cue) (λ start. IfSome (delay_start list.rate earlier) (λ other. start ≢ other))
    × IsUndisturbed list.rate cue earlier
    × IsUndisturbed list.rate earlier cue
IsKeptWithEach _ list earlier cue = ⊤

-- the former cue: the nearest one before the cue on its lane, the same channel or service
abbrev pub IsFormer : List Cue → Cue → Cue → Type 0
IsFormer earlier cue former =
    IsFirstFailing (λ (other : Cue). same_lane (kind_lane cue.kind) (kind_lane other.kind) ≡ false)
    earlier former

-- a cue keeps a rule after these cues
pub record KeepsRule (list : Listing) (earlier : List Cue) (cue : Cue) (rule : Why) : Type 0 where
  pub alone : IsKeptAlone rule list cue
  pub former : (former : Cue) → IsFormer earlier cue former → IsKeptWithFormer rule list former cue
  pub each : AllByRecursion (λ (other : Cue). IsKeptWithEach rule list other cue) earlier

-- the number of the other cue that a broken rule names: none where the cue breaks it by itself. Else it is its former cue's, or the number
-- of the nearest cue with which it breaks the rule. Cues are numbered from 1
abbrev pub NamesOther : Listing → List Cue → Cue → Why → Option ℕ → Type 0
NamesOther list earlier cue rule None = IsKeptAlone rule list cue → ⊥
NamesOther list earlier cue rule (Some number) =
    IsKeptAlone rule list cue
    × (((former : Cue) × (is : IsFormer earlier cue former) × (number ≡ length is.after + 1) × (IsKeptWithFormer rule list former cue → ⊥))
    ⊎ ((other : Cue) × (is : IsFirstFailing (λ (other : Cue). IsKeptWithEach rule list other cue) earlier other) × (number ≡ length is.after + 1)))

-- each of the cues, the newest first, keeps the rules after those before it
abbrev pub KeepRules : Listing → List Cue → Type 0
KeepRules list [] = ⊤
KeepRules list (cue ∷ earlier) = AllByRecursion (KeepsRule list earlier cue) rules × KeepRules list earlier
