-- A cue in the midst of the cues of a channel, and where its part of the timeline begins.
use Rattle.std.proofs.Common.{◌≡◌, ℕ, suc, ◌+◌, ◌<◌, ◌≤◌, Bool, true, false, List, [], ◌∷◌, ◌++◌, Option, Some, None, All, refl, sym, ap, ◌∙◌, subst, arith, ⊎_elim}
use Rattle.std.specs.Prelude.{◌==◌, IfSome}
use Rattle.std.specs.Option.{option_or}
use Rattle.std.proofs.lemmas.List.Elements.{All-head, All-tail}
use Rattle.std.specs.List.{AllByRecursion}
use Rattle.std.proofs.lemmas.Bool.{cases_lt}
use Rattle.std.proofs.lemmas.Bool.Decides.{nat_tests}
use Rattle.line21_codes.specs.declared.channels.FieldNumber.{FieldNumber}
use Rattle.line21_codes.specs.declared.codes.Code.{Code}
use Rattle.line21_codes.specs.declared.codes.Control.TheVariants.{Edm, Eoc}
use Rattle.line21_codes.proofs.CodeLemmas.{written-code_of}
use Rattle.line21_codes.specs.Reading.{code_of}
use Rattle.cue_lists.specs.Cues.{IsCueFormed}
use Rattle.cue_lists.specs.AuthoredGrid.{shown_from}
use Rattle.cue_lists.specs.Rules.Lane.{is_line21, is_pop}
use Rattle.cue_lists.specs.Rules.Sentences.{AreInSequence}
use Rattle.cue_lists.specs.declared.cue.Cue.{Cue}
use Rattle.line21_author.specs.CueCodes.{cue_codes}
use Rattle.line21_author.specs.CueEvents.{cue_events}
use Rattle.line21_author.specs.FirstChannel.{first_channel}
use Rattle.line21_author.specs.declared.event.Event.{Event}
use Rattle.line21_author.specs.declared.unit.Unit.{Unit}
use Rattle.line21_author.proofs.CueEventsLemmas.{events_of_apart}
use Rattle.line21_screen.specs.Grid.{Grid}
use Rattle.lanes.specs.declared.chunk.FieldChunk.{FieldChunk}
use Rattle.lanes.specs.LaneEvents.{event_at}
use Rattle.lanes.specs.LaneTimeline.{stands}
use Rattle.lanes.specs.Timeline.{Timeline, repeat_of}
use Rattle.lanes.proofs.EventLemmas.{event_none}
use Rattle.line21_shown.specs.Reading.{acts, IsCaptioned}
use Rattle.line21_shown.proofs.HeadLemmas.{Continues, Head, events_on, first_sound, head, or_nothing, rest_in_sequence, sequence_in_slots}
use Rattle.line21_shown.proofs.LoadingLemmas.{erases, erasing, chunk_codes}
use Rattle.line21_shown.proofs.OnScreenLemmas.{screen_continues, screen_shown}
use Rattle.line21_shown.proofs.PopOnLemmas.{pop_continues, pop_shown}
use Rattle.line21_shown.proofs.ScreenLemmas.{AreBehind, IsOfNewest, IsShown, newest_first, hidden_by}
use Rattle.line21_shown.proofs.SequenceLemmas.{BeginFrom, IsCaption, after_it, begin_behind, begin_behind_pop}
use Rattle.line21_shown.proofs.SuffixLemmas.{ArePlacedFrom, at_show, events_from, plain_at, showing_unit, stands_high, stands_low}
use Rattle.lost.proofs.ClosingLemmas.{Closes, IsLong, IsOpening, cue_long, last_closes}

-- the HIDE of the newest of cues
abbrev pub newest_hide : List Cue → Option ℕ
newest_hide [] = None
newest_hide (cue ∷ earlier) = cue.hide

-- the timeline continues with the cue and those after it, from a frame on
pub record IsFound (in_field : FieldNumber) (t : Timeline) (frames : ℕ) (cue : Cue) (later earlier : List Cue) : Type 0 where
  pub a : ℕ
  pub on : Continues in_field t a (newest_hide earlier) (cue ∷ later)
  pub captions : AllByRecursion IsCaption (cue ∷ later)
  pub sequence : AreInSequence 1 frames (cue ∷ later)
  pub link : AreBehind earlier (cue ∷ later)
  pub begin : BeginFrom a (cue ∷ later)
  pub low : IfSome (newest_hide earlier) (λ h. a ≤ h)
  pub first : earlier ≡ [] → a ≡ 0
  -- a doubled unit that has just ended there is none that cues begin with
  pub last : (m : ℕ) (u : Unit) → m < a → a ≤ m + 2 → t m ≡ Some u → u.doubled ≡ true → IsOpening (code_of u.pair) → ⊥

hide_is : (hide : Option ℕ) (g : Grid) (earlier : List Cue) (s : _) → IsOfNewest hide g earlier s → hide ≡ newest_hide earlier
hide_is hide g [] s is = is.0
hide_is hide g (cue ∷ earlier) s is = is.0

none_first : (cue : Cue) (earlier : List Cue) (a : ℕ) → cue ∷ earlier ≡ [] → a ≡ 0
none_first cue earlier a is = cc

-- what is due after a doubled unit
pub due_behind : (o : Option Unit) (u : Unit) → o ≡ Some u → u.doubled ≡ true → repeat_of o ≡ Some u.pair
due_behind o u is twice = ap repeat_of is ∙ rw twice refl

-- the unit that hides, and the one that shows, open nothing
pub not_erasing : (in_field : FieldNumber) (u : Unit) → u ≡ erasing in_field → IsOpening (code_of u.pair) → ⊥
not_erasing in_field u is opens =
    subst IsOpening (written-code_of in_field (first_channel Edm) tt) (subst (λ (v : Unit). IsOpening (code_of v.pair)) is opens)

not_showing : (in_field : FieldNumber) (u : Unit) → u ≡ showing_unit in_field → IsOpening (code_of u.pair) → ⊥
not_showing in_field u is opens =
    subst IsOpening (written-code_of in_field (first_channel Eoc) tt) (subst (λ (v : Unit). IsOpening (code_of v.pair)) is opens)

pub one_unit : (u v : Unit) (o : Option Unit) → o ≡ Some u → o ≡ Some v → u ≡ v
one_unit u v o is too = let same : Some u ≡ Some v = sym is ∙ too in cc

first_none : (x y : Option Unit) → option_or x y ≡ None → y ≡ None
first_none None y is = is
first_none (Some u) y is = cc

middle_none : (x y z : Option Unit) → option_or x (option_or y z) ≡ None → y ≡ None
middle_none None None z is = refl
middle_none None (Some u) z is = cc
middle_none (Some u) y z is = cc

module _ (in_field : FieldNumber) (t : Timeline) (captioned : IsCaptioned t) (frames a : ℕ) (hide : Option ℕ) (cue : Cue) (later : List Cue)
    (formed : IsCueFormed cue) (line21 : is_line21 cue.kind ≡ true) (sequence : AreInSequence 1 frames (cue ∷ later)) (on : Continues in_field t a hide (cue ∷ later)) where
  -- after a pop-on cue that is what shows it
  pub last_pop : is_pop cue.kind ≡ true → a ≤ cue.show → (m : ℕ) (u : Unit) → m < suc cue.show → suc cue.show ≤ m + 2 → t m ≡ Some u → u.doubled ≡ true
      → IsOpening (code_of u.pair) → ⊥
  last_pop pop before m u below near there twice opens = at (m == cue.show) refl
    where
      shows : t cue.show ≡ Some (showing_unit in_field)
      shows =
          on.same cue.show before
          ∙ ap (λ v. option_or v (stands on.chunks on.frames cue.show))
          (at_show in_field hide cue later pop (events_of_apart in_field frames (cue ∷ later) (sequence_in_slots frames (cue ∷ later) sequence)))

      at : (b : Bool) → (m == cue.show) ≡ b → ⊥
      at true test =
          let here : m ≡ cue.show = grind (arith, nat_tests) in
          not_showing in_field u (one_unit u (showing_unit in_field) (t m) there (ap t here ∙ shows)) opens
      at false test =
          let next : suc m ≡ cue.show = grind (arith, nat_tests) in
          let none : t (suc m) ≡ None = captioned.spaced m u.pair (due_behind (t m) u there twice) in
          let wrong : None ≡ Some (showing_unit in_field) = sym none ∙ ap t next ∙ shows in cc

  -- after another one its last unit
  pub last_plain : is_pop cue.kind ≡ false → (m : ℕ) (u : Unit) → m < cue.show → cue.show ≤ m + 2 → t m ≡ Some u → u.doubled ≡ true
      → IsOpening (code_of u.pair) → ⊥
  last_plain plain m u below near there twice opens = ⊎_elim early late (cases_lt m a)
    where
      events : List Event
      events = events_on in_field hide (cue ∷ later)

      first : Head in_field t a cue.show hide cue later
      first = head in_field t frames a cue.show hide cue later formed sequence on (λ f above free. above)

      long : IsLong (cue_codes cue)
      long = cue_long cue plain line21 formed

      two_long : (chunks : List FieldChunk) (fs : List ℕ) (one two : Code) (more : List Code) → chunk_codes chunks ≡ one ∷ two ∷ more → ArePlacedFrom events a chunks fs
          → All (λ (chunk : FieldChunk). chunk.until ≡ cue.show) chunks → a + 2 ≤ cue.show
      two_long [] fs one two more are placed ends = cc
      two_long (p ∷ []) fs one two more are placed ends = cc
      two_long (p ∷ (q ∷ ps)) [] one two more are placed ends = absurd placed
      two_long (p ∷ (q ∷ ps)) (f ∷ []) one two more are placed ends = absurd placed.4
      two_long (p ∷ (q ∷ ps)) (f ∷ (g ∷ fs)) one two more are placed ends =
          let from : a ≤ f = placed.0 in
          let behind : suc f ≤ g = placed.4.0 in
          let ended : g < q.until = placed.4.2 in
          let same : q.until ≡ cue.show = All-head (λ (chunk : FieldChunk). chunk.until ≡ cue.show) q ps (All-tail (λ (chunk : FieldChunk). chunk.until ≡ cue.show) p (q ∷ ps) ends) in
          omega arith

      early : m < a → ⊥
      early less =
          let two : a + 2 ≤ cue.show = two_long first.own first.front long.one long.two long.more (first.codes ∙ long.is) first.first first.ends in
          absurd (omega arith)

      none_next : t (suc m) ≡ None
      none_next = captioned.spaced m u.pair (due_behind (t m) u there twice)

      behind_none : a ≤ m → (i : ℕ) → m < i → stands first.own first.front i ≡ None
      behind_none from i above =
          ⊎_elim
          (λ (low : i < cue.show).
          let one : i ≡ suc m = omega arith in
          middle_none (event_at events i) (stands first.own first.front i) (stands first.behind first.back i)
          (sym (first.same i (omega arith)) ∙ ap t one ∙ none_next))
          (λ (high : cue.show ≤ i). stands_high events a cue.show i first.own first.front first.first first.ends high)
          (cases_lt i cue.show)

      late : a ≤ m → ⊥
      late from = at (erases in_field hide m) refl
        where
          rest : stands first.behind first.back m ≡ None
          rest = stands_low events cue.show m first.behind first.back first.rest below

          only : event_at events m ≡ erases in_field hide m
          only =
              plain_at in_field hide cue later (cue_events in_field (cue ∷ later)) m plain
              ∙ ap (option_or (erases in_field hide m)) (event_none cue.show m (cue_events in_field (cue ∷ later)) (events_from in_field frames cue later sequence) below)
              ∙ or_nothing (erases in_field hide m)

          is : t m ≡ option_or (erases in_field hide m) (stands first.own first.front m)
          is =
              first.same m from ∙ ap (λ v. option_or v (option_or (stands first.own first.front m) (stands first.behind first.back m))) only
              ∙ ap (option_or (erases in_field hide m)) (ap (option_or (stands first.own first.front m)) rest ∙ or_nothing (stands first.own first.front m))

          erasing_only : (o : Option ℕ) (v : Unit) → erases in_field o m ≡ Some v → v ≡ erasing in_field
          erasing_only None v some = cc
          erasing_only (Some h) v some = by_test (m == h) refl
            where
              by_test : (b : Bool) → (m == h) ≡ b → v ≡ erasing in_field
              by_test true test = let same : Some (erasing in_field) ≡ Some v = sym (rw test refl) ∙ some in cc
              by_test false test = let wrong : None ≡ Some v = sym (rw test refl) ∙ some in cc

          at : (o : Option Unit) → erases in_field hide m ≡ o → ⊥
          at (Some v) some =
              let it : u ≡ v = one_unit u v (t m) there (is ∙ ap (λ x. option_or x (stands first.own first.front m)) some) in
              not_erasing in_field u (it ∙ erasing_only hide v some) opens
          at None none =
              last_closes events a first.own first.front m u (subst Closes (sym first.codes) long.closes) first.first
              (sym (is ∙ ap (λ x. option_or x (stands first.own first.front m)) none) ∙ there) (behind_none from) opens

-- each of the cues is found
pub find : (in_field : FieldNumber) (t : Timeline) (captioned : IsCaptioned t) (frames a from : ℕ) (hide : Option ℕ) (g : Grid) (front : List Cue) (cue : Cue) (later earlier : List Cue)
    → AllByRecursion IsCaption (front ++ cue ∷ later) → AreInSequence 1 frames (front ++ cue ∷ later) → BeginFrom a (front ++ cue ∷ later)
    → AreBehind earlier (front ++ cue ∷ later) → Continues in_field t a hide (front ++ cue ∷ later) → IsShown t a from hide g earlier → a ≤ suc from
    → IfSome hide (λ h. a ≤ h) → (earlier ≡ [] → a ≡ 0)
    → ((m : ℕ) (u : Unit) → m < a → a ≤ m + 2 → t m ≡ Some u → u.doubled ≡ true → IsOpening (code_of u.pair) → ⊥)
    → IsFound in_field t frames cue later (newest_first front earlier)
find in_field t captioned frames a from hide g [] cue later earlier captions sequence begin link on is low behind first last =
    let same : hide ≡ newest_hide earlier = hide_is hide g earlier (acts t a) is.newest in
    record {
      a = a;
      on = subst (λ h. Continues in_field t a h (cue ∷ later)) same on;
      captions = captions;
      sequence = sequence;
      link = link;
      begin = begin;
      low = subst (λ o. IfSome o (λ h. a ≤ h)) same behind;
      first = first;
      last = last;
    }
find in_field t captioned frames a from hide g (next ∷ front) cue later earlier captions sequence begin link on is low behind first last =
    by_kind (is_pop next.kind) refl
    (λ pop.
    find in_field t captioned frames (suc next.show) next.show next.hide (shown_from next.kind next earlier) front cue later (next ∷ earlier) captions.1
    (rest_in_sequence 1 frames next (front ++ cue ∷ later) sequence) (begin_behind_pop frames next (front ++ cue ∷ later) pop captions.0.formed sequence)
    (after_it frames next (front ++ cue ∷ later) earlier sequence)
    (pop_continues in_field t frames a hide g earlier next (front ++ cue ∷ later) pop captions.0.formed sequence on is.displayed (hidden_by hide g earlier (acts t a) next (front ++ cue ∷ later) is.newest link) begin.1)
    (pop_shown in_field t frames a hide g earlier next (front ++ cue ∷ later) pop captions.0.formed sequence on is.displayed (hidden_by hide g earlier (acts t a) next (front ++ cue ∷ later) is.newest link) begin.1)
    (omega arith) (above next.hide (first_sound 1 frames next (front ++ cue ∷ later) sequence).hidden) (λ wrong. none_first next earlier (suc next.show) wrong)
    (last_pop in_field t captioned frames a hide next (front ++ cue ∷ later) captions.0.formed captions.0.line21 sequence on pop begin.1))
    (λ plain.
    find in_field t captioned frames next.show next.show next.hide (shown_from next.kind next earlier) front cue later (next ∷ earlier) captions.1
    (rest_in_sequence 1 frames next (front ++ cue ∷ later) sequence) (begin_behind frames next (front ++ cue ∷ later) sequence)
    (after_it frames next (front ++ cue ∷ later) earlier sequence)
    (screen_continues in_field t frames a from hide g earlier next (front ++ cue ∷ later) plain captions.0.line21 captions.0.formed sequence on is link low (begin.0 plain))
    (screen_shown in_field t frames a from hide g earlier next (front ++ cue ∷ later) plain captions.0.line21 captions.0.formed sequence on is link low (begin.0 plain))
    (omega arith) (above_too next.hide (first_sound 1 frames next (front ++ cue ∷ later) sequence).hidden) (λ wrong. none_first next earlier next.show wrong)
    (last_plain in_field t captioned frames a hide next (front ++ cue ∷ later) captions.0.formed captions.0.line21 sequence on plain))
  where
    above : (hide : Option ℕ) → IfSome hide (λ h. next.show < h) → IfSome hide (λ h. suc next.show ≤ h)
    above None hidden = tt
    above (Some h) hidden = omega arith

    above_too : (hide : Option ℕ) → IfSome hide (λ h. next.show < h) → IfSome hide (λ h. next.show ≤ h)
    above_too None hidden = tt
    above_too (Some h) hidden = omega arith

    by_kind : (b : Bool) → is_pop next.kind ≡ b
        → (is_pop next.kind ≡ true → IsFound in_field t frames cue later (newest_first front (next ∷ earlier)))
        → (is_pop next.kind ≡ false → IsFound in_field t frames cue later (newest_first front (next ∷ earlier)))
        → IsFound in_field t frames cue later (newest_first front (next ∷ earlier))
    by_kind true pop popped screened = popped pop
    by_kind false plain popped screened = screened plain
