-- A cue that isn't pop-on, where nothing is left to hide: its units act alone, and after its SHOW the timeline continues with what hides it.
use Rattle.std.proofs.Common.{◌≡◌, ℕ, ◌<◌, ◌≤◌, false, List, ◌∷◌, None, ap, ◌∙◌, arith}
use Rattle.std.specs.Option.{option_or}
use Rattle.line21_codes.specs.declared.channels.FieldNumber.{FieldNumber}
use Rattle.cue_lists.specs.AuthoredGrid.{chain_of}
use Rattle.cue_lists.specs.Cues.{IsCueFormed}
use Rattle.cue_lists.specs.Line21Cues.{base_row}
use Rattle.cue_lists.specs.Rules.Lane.{is_pop}
use Rattle.cue_lists.specs.Rules.Sentences.{AreInSequence}
use Rattle.cue_lists.specs.declared.cue.Cue.{Cue}
use Rattle.line21_author.specs.CueCodes.{cue_codes}
use Rattle.line21_author.specs.CueEvents.{cue_events}
use Rattle.lanes.specs.LaneEvents.{event_at}
use Rattle.lanes.specs.Timeline.{Timeline}
use Rattle.lanes.proofs.EventLemmas.{event_none}
use Rattle.line21_shown.specs.Doing.{does_all}
use Rattle.line21_shown.specs.Reading.{acts}
use Rattle.line21_shown.proofs.HeadLemmas.{Continues, Head, continues_behind, events_on, head, loading}
use Rattle.line21_shown.proofs.LoadingLemmas.{acts_alone, erases}
use Rattle.line21_shown.proofs.SuffixLemmas.{beside, events_from, plain_at, plain_events}
use Rattle.lost.proofs.RowLemmas.{HasRows}

module _ (in_field : FieldNumber) (t : Timeline) (frames a : ℕ) (cue : Cue) (later : List Cue) (plain : is_pop cue.kind ≡ false) (formed : IsCueFormed cue)
    (sequence : AreInSequence 1 frames (cue ∷ later)) (on : Continues in_field t a None (cue ∷ later)) (before : a ≤ cue.show) where
  abbrev first : Head in_field t a cue.show None cue later
  first = head in_field t frames a cue.show None cue later formed sequence on (λ f above free. above)

  no_event : (n : ℕ) → n < cue.show → event_at (events_on in_field None (cue ∷ later)) n ≡ erases in_field None n
  no_event n below =
      plain_at in_field None cue later (cue_events in_field (cue ∷ later)) n plain
      ∙ ap (option_or (erases in_field None n)) (event_none cue.show n (cue_events in_field (cue ∷ later)) (events_from in_field frames cue later sequence) below)

  pub written_alone : acts t cue.show ≡ does_all (cue_codes cue) (acts t a)
  written_alone =
      acts_alone (erases in_field None) t a cue.show before first.own first.front
      (λ n from high. loading in_field t a cue.show None cue later first (omega arith) no_event n from high)
      (beside in_field None (events_on in_field None (cue ∷ later)) a cue.show first.own first.front no_event first.ends first.first)
      ∙ ap (λ codes. does_all codes (acts t a)) first.codes

  pub written_continues : Continues in_field t cue.show cue.hide later
  written_continues =
      continues_behind in_field t a cue.show None cue later first before (omega arith) (λ n above. ap (λ events. event_at events n) (plain_events in_field cue later plain))

-- a timeline that acts as another one goes on after a roll-up cue, of whose chain this many rows are shown
pub record IsRolledUp (in_field : FieldNumber) (other : Timeline) (count rows : ℕ) (cue : Cue) (earlier later : List Cue) : Type 0 where
  pub own : Timeline
  pub same : (n : ℕ) → acts own n ≡ acts other n
  pub on : Continues in_field own cue.show cue.hide later
  pub rows_are : HasRows count rows (base_row cue.runs) (chain_of cue earlier) (acts own cue.show)
