-- A pop-on cue: its units are loaded while the former cue is displayed, at its SHOW it is displayed, and from then on it
-- stays until its HIDE.
use Rattle.std.specs.Prelude.{IfSome}
use Rattle.std.proofs.Common.{◌≡◌, ℕ, suc, ◌<◌, ◌≤◌, true, List, ◌∷◌, Option, Some, None, All, refl, sym, ap, ◌∙◌, subst, arith, ⊎_elim}
use Rattle.std.specs.Option.{option_or}
use Rattle.std.proofs.lemmas.Bool.{cases_lt}
use Rattle.line21_codes.specs.declared.channels.FieldNumber.{FieldNumber}
use Rattle.line21_codes.specs.declared.channels.Chan.{Chan}
use Rattle.line21_codes.specs.declared.codes.Control.TheVariants.{Eoc}
use Rattle.line21_codes.proofs.CodeLemmas.{written-code_of}
use Rattle.cue_lists.specs.AuthoredGrid.{shown_by, shown_from, shown_of_newest, cells_of}
use Rattle.cue_lists.specs.Cues.{IsCueFormed, IsOfKind}
use Rattle.cue_lists.specs.Line21Cues.{IsLine21Run, base_row}
use Rattle.cue_lists.specs.Rules.Lane.{is_pop}
use Rattle.cue_lists.specs.declared.cue.Cue.{Cue}
use Rattle.cue_lists.specs.declared.cue.Kind.{Kind}
use Rattle.cue_lists.specs.declared.cue.Kind.TheVariants as kind
use Rattle.cue_lists.specs.declared.cue.Run.{Run}
use Rattle.frame_scheduler.specs.CueCodes.{cue_codes}
use Rattle.frame_scheduler.specs.CueEvents.{cue_events}
use Rattle.frame_scheduler.specs.EventOrder.{AreApart}
use Rattle.frame_scheduler.specs.FirstChannel.{first_channel}
use Rattle.frame_scheduler.proofs.CueEventsLemmas.{events_of_apart}
use Rattle.line21_screen.specs.Channels.{ChannelState}
use Rattle.line21_screen.specs.Grid.{Grid}
use Rattle.cue_lists.specs.Rules.Sentences.{AreInSequence}
use Rattle.frame_scheduler.specs.LaneEvents.{IsFree, event_at}
use Rattle.frame_scheduler.specs.LaneTimeline.{stands}
use Rattle.cue_lists.specs.Rules.Sentences.{IsSound}
use Rattle.frame_scheduler.specs.Timeline.{Timeline}
use Rattle.frame_scheduler.proofs.DoublingLemmas.{free_none}
use Rattle.line21_shown.specs.Doing.{does_all}
use Rattle.line21_shown.specs.Reading.{does_unit, acts}
use Rattle.line21_shown.proofs.BlindLemmas.{AreBlind, showing, pop_blind}
use Rattle.line21_shown.proofs.CueWritingLemmas.{pop_written, runs_are_cells}
use Rattle.line21_shown.proofs.HeadLemmas.{Continues, continues_behind, events_on, first_sound, Head, head, loading, sequence_in_slots}
use Rattle.line21_shown.proofs.LoadingLemmas.{StandBeside, all_standing, erases, loads, standing, until}
use Rattle.line21_shown.proofs.ScreenLemmas.{IsRollingFor, IsShown, is_shown, newest_first, shown_yet}
use Rattle.line21_shown.proofs.SuffixLemmas.{at_show, before_show, behind_show, beside, showing_unit}

-- a pop-on cue's kind
pub pop_kind : (k : Kind) → is_pop k ≡ true → (channel : Chan) × (k ≡ kind.Pop channel)
pop_kind (kind.Pop channel) pop = (channel, refl)
pop_kind (kind.Paint channel) pop = cc
pop_kind (kind.Roll channel rows) pop = cc
pop_kind (kind.Win window) pop = cc

-- its runs
pub pop_runs : (channel : Chan) (k : Kind) (hide : Option ℕ) (runs : List Run) → k ≡ kind.Pop channel → IsOfKind k hide runs → All IsLine21Run runs
pop_runs channel k hide runs is formed = (subst (λ x. IsOfKind x hide runs) is formed).2

-- after it no roll-up captions need be under way
pub not_rolling : (channel : Chan) (k : Kind) (base : ℕ) (g : Grid) (s : ChannelState) → k ≡ kind.Pop channel → IsRollingFor k base g s
not_rolling channel k base g s is = subst (λ x. IsRollingFor x base g s) (sym is) tt

-- what shows a cue brings the hidden memory
pub shows_hidden : (in_field : FieldNumber) (s : ChannelState) → (does_unit (Some (showing_unit in_field)) s).displayed ≡ s.hidden
shows_hidden in_field s = rw (written-code_of in_field (first_channel Eoc) tt) refl

-- a state shows what it displays
pub showing_own : (s : ChannelState) (g : Grid) → s.displayed ≡ g → s ≡ showing g s
showing_own s g is = ap (λ (shown : Grid). showing shown s) is

module _ (in_field : FieldNumber) (t : Timeline) (frames a : ℕ) (hide : Option ℕ) (g : Grid) (earlier : List Cue) (cue : Cue) (later : List Cue)
    (pop : is_pop cue.kind ≡ true) (formed : IsCueFormed cue) (sequence : AreInSequence 1 frames (cue ∷ later))
    (on : Continues in_field t a hide (cue ∷ later)) (displayed : (acts t a).displayed ≡ until hide a g) (hidden : IfSome hide (λ h. h ≤ cue.show))
    (before : a ≤ cue.show) where
  apart : AreApart (cue_events in_field (cue ∷ later))
  apart = events_of_apart in_field frames (cue ∷ later) (sequence_in_slots frames (cue ∷ later) sequence)

  sound : IsSound 1 frames cue
  sound = first_sound 1 frames cue later sequence

  -- at SHOW stands what shows the cue
  shows : event_at (events_on in_field hide (cue ∷ later)) cue.show ≡ Some (showing_unit in_field)
  shows = at_show in_field hide cue later pop apart

  -- so the units after the cue's stand after that
  free_behind : (f : ℕ) → cue.show ≤ f → IsFree (events_on in_field hide (cue ∷ later)) f → suc cue.show ≤ f
  free_behind f above free =
      ⊎_elim
      (λ (h : f < suc cue.show).
      let here : f ≡ cue.show = omega arith in
      let none : event_at (events_on in_field hide (cue ∷ later)) cue.show ≡ None =
      free_none (events_on in_field hide (cue ∷ later)) cue.show (subst (IsFree (events_on in_field hide (cue ∷ later))) here free) in
      let wrong : Some (showing_unit in_field) ≡ None = sym shows ∙ none in absurd (cc))
      (λ (h : suc cue.show ≤ f). h)
      (cases_lt f (suc cue.show))

  abbrev first : Head in_field t a (suc cue.show) hide cue later
  first = head in_field t frames a (suc cue.show) hide cue later formed sequence on free_behind

  only_hides : (n : ℕ) → n < cue.show → event_at (events_on in_field hide (cue ∷ later)) n ≡ erases in_field hide n
  only_hides = before_show in_field hide cue later pop apart

  stand_beside : StandBeside (erases in_field hide) a cue.show first.own first.front
  stand_beside = beside in_field hide (events_on in_field hide (cue ∷ later)) a cue.show first.own first.front only_hides first.ends first.first

  kind_is : (channel : Chan) × (cue.kind ≡ kind.Pop channel)
  kind_is = pop_kind cue.kind pop

  -- up to SHOW the units of the cue are loaded, beside what hides the former cue
  loaded_to : (m : ℕ) → a ≤ m → m ≤ cue.show → acts t m ≡ showing (until hide m g) (does_all (standing first.own first.front m) (acts t a))
  loaded_to m from below =
      loads in_field t hide a cue.show m from first.own first.front g (acts t a)
      (λ n up high. loading in_field t a (suc cue.show) hide cue later first (omega arith) only_hides n up (omega arith)) stand_beside
      (subst (λ codes. AreBlind codes (acts t a)) (sym first.codes) (pop_blind kind_is.0 cue (acts t a) kind_is.1))
      (showing_own (acts t a) (until hide a g) displayed)

  -- before SHOW the screen has what the earlier cues show
  pub pop_before : (from : ℕ) → ((f : ℕ) → from ≤ f → shown_of_newest f (shown_by f earlier) ≡ until hide (suc f) g) → a ≤ suc from
      → (f : ℕ) → from ≤ f → f < cue.show → (acts t (suc f)).displayed ≡ shown_of_newest f (shown_by f (newest_first (cue ∷ later) earlier))
  pop_before from shown low f above below =
      ap (λ (s : ChannelState). s.displayed) (loaded_to (suc f) (omega arith) (omega arith)) ∙ sym (shown f above)
      ∙ shown_yet frames f cue later earlier sequence below

  -- at SHOW the hidden memory has the cells of the cue
  hidden_at_show : (acts t cue.show).hidden ≡ cells_of cue.runs
  hidden_at_show =
      let all : standing first.own first.front cue.show ≡ cue_codes cue =
      all_standing (erases in_field hide) a cue.show first.own first.front stand_beside ∙ first.codes in
      ap (λ (s : ChannelState). s.hidden) (loaded_to cue.show before (omega arith) ∙ ap (λ codes. showing (until hide cue.show g) (does_all codes (acts t a))) all)
      ∙ pop_written kind_is.0 cue (acts t a) kind_is.1 (pop_runs kind_is.0 cue.kind cue.hide cue.runs kind_is.1 formed.kind)
      ∙ runs_are_cells cue.runs sound.apart

  -- and then they are displayed
  displayed_at_show : (acts t (suc cue.show)).displayed ≡ shown_from cue.kind cue earlier
  displayed_at_show =
      let now : t cue.show ≡ Some (showing_unit in_field) =
      first.same cue.show before ∙ ap (λ u. option_or u (option_or (stands first.own first.front cue.show) (stands first.behind first.back cue.show))) shows in
      ap (λ u. (does_unit u (acts t cue.show)).displayed) now ∙ shows_hidden in_field (acts t cue.show) ∙ hidden_at_show
      ∙ sym (ap (λ k. shown_from k cue earlier) kind_is.1)

  -- after SHOW the timeline continues with what hides the cue
  pub pop_continues : Continues in_field t (suc cue.show) cue.hide later
  pop_continues =
      continues_behind in_field t a (suc cue.show) hide cue later first (omega arith) (omega arith)
      (λ n above. behind_show in_field hide cue later pop apart hidden n above)

  -- and the screen has the cue until its HIDE
  pub pop_shown : IsShown t (suc cue.show) cue.show cue.hide (shown_from cue.kind cue earlier) (cue ∷ earlier)
  pop_shown =
      is_shown t (suc cue.show) cue earlier (omega arith) sound.hidden displayed_at_show
      (not_rolling kind_is.0 cue.kind (base_row cue.runs) (shown_from cue.kind cue earlier) (acts t (suc cue.show)) kind_is.1)
