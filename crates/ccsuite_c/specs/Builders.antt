-- Believed: the library's answers stand on these definitions.
-- Builders, as C holds them.
use Rattle.std.specs.Prelude.{◌≡◌, ◌⊎◌, ℕ, List, Option, Some, None}
use Rattle.caption_streams.specs.Builders.{Begins, GivesNext}
use Rattle.caption_streams.specs.declared.building.Building.{Building}
use Rattle.caption_streams.specs.declared.building.NextFrame.{NextFrame}
use Rattle.command_base.specs.declared.status.Status.{Status}
use Rattle.command_base.specs.declared.status.Status.TheVariants as status
use Rattle.caption_streams.specs.Accepted.{IsRefused}
use Rattle.cue_lists.specs.Listing.{Listing}
use Rattle.caption_streams.specs.Planned.{Placement}
use Rattle.reported_runs.specs.Reports.{report_of}
use Rattle.reported_runs.specs.declared.report.Report.{Report}
use Rattle.ccsuite_c.specs.Codes.{end_code}
use Rattle.ccsuite_c.specs.Handles.{StaysSo}
use Rattle.ccsuite_c.specs.Told.{TellsNext}
use Rattle.ccsuite_c.specs.declared.state.State.{State}
use Rattle.ccsuite_c.specs.declared.state.State.TheVariants as held

-- a list of these bytes gives no builder, for this cause
abbrev pub Refuses : List ℕ → Status → Type 0
Refuses bytes answer = (answer ≡ status.Memory) ⊎ IsRefused bytes answer

-- how opening a builder ended
abbrev pub Opening : List ℕ → Option State → Report → Type 0
Opening bytes (Some (held.Building building)) report = Begins bytes building × (report ≡ report_of status.Ok 0)
Opening bytes None report = (why : Status) × Refuses bytes why × (report ≡ report_of why 0)
Opening bytes _ report = ⊥

-- the next frame of the list was asked for, which has this, and C learns what came of it
pub record AsksNext (list : Listing) (placed : Placement) (frame : ℕ) (packet before after : List ℕ) (code count : ℕ) (old new : Building) : Type 0 where
  pub answer : NextFrame
  pub gives : GivesNext list placed frame packet before after old new answer
  pub tells : TellsNext answer code count

-- what a call answers, of a builder of the list at this frame, which has this
abbrev pub NextAnswer : Listing → Placement → ℕ → List ℕ → Building → List ℕ → List ℕ → ℕ → ℕ → Option State → Type 0
NextAnswer list placed frame packet old before after code count (Some (held.Building new)) =
    AsksNext list placed frame packet before after code count old new
NextAnswer list placed frame packet old before after code count _ = ⊥

-- and of one that has given all its frames
abbrev pub OverAnswer : Building → List ℕ → List ℕ → ℕ → ℕ → Option State → Type 0
OverAnswer old before after code count new = (code ≡ end_code) × StaysSo before after count (Some (held.Building old)) new
