-- A paint-on or roll-up cue: from its LOAD on it is written onto the screen, which was cleared or has the rows of the cue
-- that it continues, and at its SHOW the screen has it.
use Rattle.std.proofs.Common.{◌≡◌, ℕ, suc, ◌<◌, ◌≤◌, ◌==◌, ◌&&◌, max, nat_lt, Bool, true, false, if◌then◌else◌, List, [], ◌∷◌, Option, Some, None, All, length, refl, sym, ap, ◌∙◌, subst, arith, ⊎_elim, inl, inr}
use Rattle.std.specs.Prelude.{◌⊎◌, IfSome}
use Rattle.std.specs.Option.{option_or}
use Rattle.std.proofs.lemmas.Bool.{cases_lt}
use Rattle.std.proofs.lemmas.Bool.Decides.{nat_tests}
use Rattle.std.proofs.lemmas.List.Elements.{All-head}
use Rattle.line21_codes.specs.declared.channels.FieldNumber.{FieldNumber}
use Rattle.line21_codes.specs.declared.channels.Chan.{Chan}
use Rattle.cue_lists.specs.AuthoredGrid.{IsSettledFor, shown_by, shown_from, shown_of_newest, cells_of, chain_of, chain_rows}
use Rattle.cue_lists.specs.Cues.{IsCueFormed, IsOfKind}
use Rattle.cue_lists.specs.Line21Cues.{IsLine21Run, IsRolled, base_row, continues, same_roll}
use Rattle.cue_lists.specs.Rules.Cells.{have_shared_cell}
use Rattle.cue_lists.specs.Rules.Lane.{is_line21, is_pop, is_roll}
use Rattle.cue_lists.specs.declared.cue.Cue.{Cue}
use Rattle.cue_lists.specs.declared.cue.Kind.{Kind}
use Rattle.cue_lists.specs.declared.cue.Kind.TheVariants as kind
use Rattle.cue_lists.specs.declared.cue.Run.{Run}
use Rattle.cue_lists.proofs.ChannelKept.{continued_continues}
use Rattle.frame_scheduler.specs.CueCodes.{cue_codes}
use Rattle.frame_scheduler.specs.CueEvents.{cue_events}
use Rattle.line21_screen.specs.Channels.{ChannelState}
use Rattle.line21_screen.specs.Grid.{Grid, empty_grid}
use Rattle.frame_scheduler.specs.FieldChunk.{FieldChunk}
use Rattle.cue_lists.specs.Rules.Sentences.{AreInSequence, IsContinued}
use Rattle.frame_scheduler.specs.LaneEvents.{event_at}
use Rattle.frame_scheduler.specs.LaneTimeline.{stands}
use Rattle.cue_lists.specs.Rules.Sentences.{IsSound}
use Rattle.frame_scheduler.specs.Timeline.{Timeline}
use Rattle.frame_scheduler.proofs.EventLemmas.{event_none}
use Rattle.line21_shown.specs.Doing.{does_all}
use Rattle.line21_shown.specs.Reading.{acts}
use Rattle.line21_shown.specs.Writing.{with_runs}
use Rattle.line21_shown.proofs.BlindLemmas.{showing}
use Rattle.line21_shown.proofs.ChainLemmas.{chain_rolls, new_chain}
use Rattle.line21_shown.proofs.CueWritingLemmas.{paint_written, runs_are_cells}
use Rattle.line21_shown.proofs.HeadLemmas.{Continues, Head, continues_behind, events_on, first_sound, head, loading, or_nothing}
use Rattle.line21_shown.proofs.LoadingLemmas.{StandBeside, acts_alone, erases, loads, until}
use Rattle.line21_shown.proofs.PopOnLemmas.{showing_own}
use Rattle.line21_shown.proofs.RollWritingLemmas.{IsRolling, roll_begun, roll_continued}
use Rattle.line21_shown.proofs.ScreenLemmas.{AreBehind, IsOfNewest, IsRollingFor, IsShown, is_shown, newest_first, shown_yet}
use Rattle.line21_shown.proofs.SuffixLemmas.{ArePlacedFrom, beside, events_from, plain_at, plain_events, plain_free, raised, stands_low, writes_from}

-- what is shown is hidden by the LOAD of a cue that isn't pop-on
hidden_by_load : (hide : Option ℕ) (g : Grid) (earlier : List Cue) (s : ChannelState) (cue : Cue) (later : List Cue) → IsOfNewest hide g earlier s
    → AreBehind earlier (cue ∷ later) → is_pop cue.kind ≡ false → IfSome hide (λ h. h ≤ cue.load)
hidden_by_load hide g [] s cue later is link plain = subst (λ o. IfSome o (λ h. h ≤ cue.load)) (sym is.0) tt
hidden_by_load hide g (former ∷ earlier) s cue later is link plain = subst (λ o. IfSome o (λ h. h ≤ cue.load)) (sym is.0) (link.cleared plain)

-- nothing hides from the frame on from which the cue is written
pub hides_no_more : (in_field : FieldNumber) (hide : Option ℕ) (load n : ℕ) → writes_from hide load ≤ n → erases in_field hide n ≡ None
hides_no_more in_field None load n above = refl
hides_no_more in_field (Some h) load n above = let test : (n == h) ≡ false = grind (arith, nat_tests) in rw test refl

-- that is from LOAD on, and before SHOW
from_load : (hide : Option ℕ) (load : ℕ) → load ≤ writes_from hide load
from_load None load = omega arith
from_load (Some h) load = omega arith

to_show : (hide : Option ℕ) (load show : ℕ) → IfSome hide (λ h. h ≤ load) → load < show → writes_from hide load ≤ show
to_show None load show hidden shown = omega arith
to_show (Some h) load show hidden shown = omega arith

-- the cue is written onto an empty screen, and continues none
pub record IsNew (cue : Cue) (earlier : List Cue) (s : ChannelState) : Type 0 where
  pub empty : s.displayed ≡ empty_grid
  pub alone : chain_of cue earlier ≡ cue ∷ []

-- the cue continues the newest of the earlier ones, which is shown
pub record IsOnward (cue : Cue) (earlier : List Cue) (s : ChannelState) : Type 0 where
  pub former : Cue
  pub before : List Cue
  pub is : earlier ≡ former ∷ before
  pub continued : IsContinued former cue
  pub continues : continues cue former ≡ true
  pub rolling : IsRollingFor former.kind (base_row former.runs) (shown_from former.kind former before) s

-- no cue continues one with a HIDE
fails : (a b : Bool) → (a && false && b) ≡ false
fails true b = refl
fails false b = refl

pub not_continued : (cue former : Cue) (h : ℕ) → former.hide ≡ Some h → continues cue former ≡ false
not_continued cue former h is = rw is (fails (same_roll cue.kind former.kind) (base_row cue.runs == base_row former.runs))

-- what hides has hidden when the cue is written
emptied : (hide : Option ℕ) (h load : ℕ) (g : Grid) → hide ≡ Some h → until hide (writes_from hide load) g ≡ empty_grid
emptied hide h load g is = let test : nat_lt h (max load (suc h)) ≡ true = grind (arith, nat_tests) in rw (is, test) refl

stays : (hide : Option ℕ) (n : ℕ) (g : Grid) → hide ≡ None → until hide n g ≡ g
stays hide n g is = rw is refl

-- one or the other
pub new_or_onward : (hide : Option ℕ) (a : ℕ) (g : Grid) (earlier : List Cue) (own s : ChannelState) (cue : Cue) (later : List Cue)
    → IsOfNewest hide g earlier own → AreBehind earlier (cue ∷ later) → own.displayed ≡ until hide a g
    → s ≡ showing (until hide (writes_from hide cue.load) g) own → IsNew cue earlier s ⊎ IsOnward cue earlier s
new_or_onward hide a g [] own s cue later is link shown state =
    inl (record { empty = ap (λ (x : ChannelState). x.displayed) state ∙ stays hide (writes_from hide cue.load) g is.0 ∙ is.1; alone = refl })
new_or_onward hide a g (former ∷ before) own s cue later is link shown state = by_hide former.hide refl
  where
    by_hide : (o : Option ℕ) → former.hide ≡ o → IsNew cue (former ∷ before) s ⊎ IsOnward cue (former ∷ before) s
    by_hide (Some h) some =
        inl (record {
          empty = ap (λ (x : ChannelState). x.displayed) state ∙ emptied hide h cue.load g (is.0 ∙ some);
          alone = rw (not_continued cue former h some) refl;
        })
    by_hide None none =
        let unhidden : hide ≡ None = is.0 ∙ none in
        let same : s ≡ own =
        state ∙ ap (λ (x : Grid). showing x own) (stays hide (writes_from hide cue.load) g unhidden ∙ sym (stays hide a g unhidden) ∙ sym shown) in
        inr (record {
          former = former;
          before = before;
          is = refl;
          continued = link.continued none;
          continues = continued_continues former cue (link.continued none) none;
          rolling = subst (IsRollingFor former.kind (base_row former.runs) (shown_from former.kind former before)) (sym same)
              (subst (λ (x : Grid). IsRollingFor former.kind (base_row former.runs) x own) is.1 is.2);
        })

-- the screen has what a cue of a kind shows, and where that is roll-up, such captions are under way
abbrev pub IsOnScreen : Kind → Cue → List Cue → ChannelState → Type 0
IsOnScreen k cue earlier s = (s.displayed ≡ shown_from k cue earlier) × IsRollingFor k (base_row cue.runs) (shown_from k cue earlier) s

-- a paint-on cue on an empty screen
painted : (channel : Chan) (cue : Cue) (earlier : List Cue) (s : ChannelState) → cue.kind ≡ kind.Paint channel → All IsLine21Run cue.runs
    → with_runs cue.runs empty_grid ≡ cells_of cue.runs → IsNew cue earlier s ⊎ IsOnward cue earlier s
    → IsOnScreen (kind.Paint channel) cue earlier (does_all (cue_codes cue) s)
painted channel cue earlier s is runs cells (inl new) =
    (paint_written channel cue s is runs ∙ ap (with_runs cue.runs) new.empty ∙ cells, tt)
painted channel cue earlier s is runs cells (inr onward) =
    let wrong : is_roll (kind.Paint channel) ≡ true = subst (λ k. is_roll k ≡ true) is onward.continued.roll in absurd (cc)

-- a roll-up cue, which begins a chain or continues one
module _ (channel : Chan) (rows : ℕ) (cue : Cue) (earlier : List Cue) (s : ChannelState) (is : cue.kind ≡ kind.Roll channel rows)
    (rolls : IsRolled rows cue.runs) (runs : All IsLine21Run cue.runs) (several : 1 ≤ length cue.runs)
    (apart : have_shared_cell cue.runs ≡ false) where
  base : ℕ
  base = base_row cue.runs

  some_rows : 1 ≤ rows
  some_rows = omega (arith, rolls.number.0)

  -- such captions are under way
  rolling_is : (g : Grid) → IsRolling rows (base_row cue.runs) g (does_all (cue_codes cue) s) → g ≡ chain_rows rows (base_row cue.runs) (chain_of cue earlier)
      → IsOnScreen (kind.Roll channel rows) cue earlier (does_all (cue_codes cue) s)
  rolling_is g rolling same = (
    rolling.displayed ∙ same,
    subst (λ (x : Grid). IsRolling rows (base_row cue.runs) x (does_all (cue_codes cue) s)) same rolling,
  )

  rolled_on : IsNew cue earlier s ⊎ IsOnward cue earlier s → IsOnScreen (kind.Roll channel rows) cue earlier (does_all (cue_codes cue) s)
  rolled_on (inl new) =
      rolling_is (with_runs cue.runs empty_grid) (roll_begun channel rows cue s is rolls runs several new.empty)
      (runs_are_cells cue.runs apart ∙ sym (new_chain rows (base_row cue.runs) cue some_rows rolls.one_row)
      ∙ sym (ap (λ chain. chain_rows rows (base_row cue.runs) chain) new.alone))
  rolled_on (inr onward) =
      let former_is : onward.former.kind ≡ kind.Roll channel rows = sym onward.continued.kind ∙ is in
      let rolling_former : IsRolling rows (base_row onward.former.runs) (chain_rows rows (base_row onward.former.runs) (chain_of onward.former onward.before)) s =
      subst (λ k. IsRollingFor k (base_row onward.former.runs) (shown_from k onward.former onward.before) s) former_is onward.rolling in
      let rolling_now : IsRolling rows (base_row cue.runs) (chain_rows rows (base_row cue.runs) (chain_of onward.former onward.before)) s =
      subst (λ b. IsRolling rows b (chain_rows rows b (chain_of onward.former onward.before)) s) (sym onward.continued.base) rolling_former in
      let chain : chain_of cue earlier ≡ cue ∷ chain_of onward.former onward.before =
      ap (chain_of cue) onward.is ∙ ap (λ b. cue ∷ (if b then chain_of onward.former onward.before else [])) onward.continues in
      rolling_is _ (roll_continued channel rows cue _ s is rolls runs several rolling_now)
      (chain_rolls rows (base_row cue.runs) cue (chain_of onward.former onward.before) some_rows (has_room cue.runs several rolls.room) rolls.one_row apart
      ∙ sym (ap (λ c. chain_rows rows (base_row cue.runs) c) chain))
    where
      has_room : (rs : List Run) → 1 ≤ length rs → All (λ run. rows ≤ run.row) rs → rows ≤ base_row rs
      has_room [] some room = absurd (omega arith)
      has_room (run ∷ rs) some room = All-head (λ (x : Run). rows ≤ x.row) run rs room

-- a cue of either kind
pub on_screen_of : (k : Kind) (cue : Cue) (earlier : List Cue) (s : ChannelState) → cue.kind ≡ k → is_pop k ≡ false → is_line21 k ≡ true
    → IsOfKind k cue.hide cue.runs → 1 ≤ length cue.runs → have_shared_cell cue.runs ≡ false
    → IsNew cue earlier s ⊎ IsOnward cue earlier s → IsOnScreen k cue earlier (does_all (cue_codes cue) s)
on_screen_of (kind.Pop channel) cue earlier s is plain line21 formed several apart begins = cc
on_screen_of (kind.Paint channel) cue earlier s is plain line21 formed several apart begins =
    painted channel cue earlier s is formed.2 (runs_are_cells cue.runs apart) begins
on_screen_of (kind.Roll channel rows) cue earlier s is plain line21 formed several apart begins =
    rolled_on channel rows cue earlier s is formed.1 formed.2 several apart begins
on_screen_of (kind.Win window) cue earlier s is plain line21 formed several apart begins = cc

-- one that isn't pop-on, whose units stand from a frame on in which nothing of the former cue is left to hide: it is new there, or goes on
module _ (in_field : FieldNumber) (t : Timeline) (frames a start : ℕ) (hide : Option ℕ) (earlier : List Cue) (cue : Cue) (later : List Cue)
    (plain : is_pop cue.kind ≡ false) (line21 : is_line21 cue.kind ≡ true) (formed : IsCueFormed cue) (sequence : AreInSequence 1 frames (cue ∷ later))
    (on : Continues in_field t a hide (cue ∷ later)) (up : a ≤ start) (writes : writes_from hide cue.load ≤ start) (up_to_show : start ≤ cue.show)
    (begins : IsNew cue earlier (acts t start) ⊎ IsOnward cue earlier (acts t start))
    (placed : let first = head in_field t frames a cue.show hide cue later formed sequence on (λ f above free. above) in
    ArePlacedFrom (events_on in_field hide (cue ∷ later)) start first.own first.front) where
  its_sound : IsSound 1 frames cue
  its_sound = first_sound 1 frames cue later sequence

  abbrev its_first : Head in_field t a cue.show hide cue later
  its_first = head in_field t frames a cue.show hide cue later formed sequence on (λ f above free. above)

  -- before SHOW nothing of the events begins but what hides the former cue
  pub plain_hides : (n : ℕ) → n < cue.show → event_at (events_on in_field hide (cue ∷ later)) n ≡ erases in_field hide n
  plain_hides n below =
      plain_at in_field hide cue later (cue_events in_field (cue ∷ later)) n plain
      ∙ ap (option_or (erases in_field hide n)) (event_none cue.show n (cue_events in_field (cue ∷ later)) (events_from in_field frames cue later sequence) below)
      ∙ or_nothing (erases in_field hide n)

  its_beside : StandBeside (erases in_field hide) start cue.show its_first.own its_first.front
  its_beside = beside in_field hide (events_on in_field hide (cue ∷ later)) start cue.show its_first.own its_first.front plain_hides its_first.ends placed

  -- its units act alone
  written : acts t cue.show ≡ does_all (cue_codes cue) (acts t start)
  written =
      acts_alone (erases in_field hide) t start cue.show up_to_show its_first.own its_first.front
      (λ n from high.
      loading in_field t a cue.show hide cue later its_first (omega arith) plain_hides n (omega arith) high
      ∙ ap (λ u. option_or u (stands its_first.own its_first.front n)) (hides_no_more in_field hide cue.load n (omega arith)))
      its_beside
      ∙ ap (λ codes. does_all codes (acts t start)) its_first.codes

  -- so at SHOW the screen has the cue
  on_screen : IsOnScreen cue.kind cue earlier (acts t cue.show)
  on_screen =
      subst (IsOnScreen cue.kind cue earlier) (sym written)
      (on_screen_of cue.kind cue earlier (acts t start) refl plain line21 formed.kind formed.some its_sound.apart begins)

  -- after SHOW the timeline continues with what hides the cue
  pub plain_continues : Continues in_field t cue.show cue.hide later
  plain_continues =
      continues_behind in_field t a cue.show hide cue later its_first (omega arith) (omega arith)
      (λ n above.
      plain_at in_field hide cue later (cue_events in_field (cue ∷ later)) n plain
      ∙ ap (λ u. option_or u (event_at (cue_events in_field (cue ∷ later)) n)) (hides_no_more in_field hide cue.load n (omega arith))
      ∙ ap (λ events. event_at events n) (plain_events in_field cue later plain))

  -- and the screen has the cue until its HIDE
  pub plain_shown : IsShown t cue.show cue.show cue.hide (shown_from cue.kind cue earlier) (cue ∷ earlier)
  plain_shown = is_shown t cue.show cue earlier (omega arith) its_sound.hidden on_screen.0 on_screen.1

module _ (in_field : FieldNumber) (t : Timeline) (frames a from : ℕ) (hide : Option ℕ) (g : Grid) (earlier : List Cue) (cue : Cue) (later : List Cue)
    (plain : is_pop cue.kind ≡ false) (line21 : is_line21 cue.kind ≡ true) (formed : IsCueFormed cue) (sequence : AreInSequence 1 frames (cue ∷ later))
    (on : Continues in_field t a hide (cue ∷ later)) (is : IsShown t a from hide g earlier) (link : AreBehind earlier (cue ∷ later))
    (low : a ≤ suc from) (before : a ≤ cue.load) where
  sound : IsSound 1 frames cue
  sound = first_sound 1 frames cue later sequence

  hidden : IfSome hide (λ h. h ≤ cue.load)
  hidden = hidden_by_load hide g earlier (acts t a) cue later is.newest link plain

  -- the first frame in which it is written
  abbrev start : ℕ
  start = writes_from hide cue.load

  up_to_show : start ≤ cue.show
  up_to_show = to_show hide cue.load cue.show hidden sound.loaded

  behind_load : cue.load ≤ start
  behind_load = from_load hide cue.load

  abbrev first : Head in_field t a cue.show hide cue later
  first = head in_field t frames a cue.show hide cue later formed sequence on (λ f above free. above)

  -- before SHOW nothing of the events begins but what hides the former cue
  only_hides : (n : ℕ) → n < cue.show → event_at (events_on in_field hide (cue ∷ later)) n ≡ erases in_field hide n
  only_hides n below =
      plain_at in_field hide cue later (cue_events in_field (cue ∷ later)) n plain
      ∙ ap (option_or (erases in_field hide n)) (event_none cue.show n (cue_events in_field (cue ∷ later)) (events_from in_field frames cue later sequence) below)
      ∙ or_nothing (erases in_field hide n)

  -- its units stand from the first frame on in which it is written
  placed : ArePlacedFrom (events_on in_field hide (cue ∷ later)) start first.own first.front
  placed =
      raised (events_on in_field hide (cue ∷ later)) a start (λ (chunk : FieldChunk). cue.load ≤ chunk.load) first.own first.front
      (λ chunk f loads at free. plain_free in_field hide cue later (cue_events in_field (cue ∷ later)) f plain hidden (omega arith) free)
      first.begins first.first

  -- up to that frame the screen has what the earlier cues show
  waits_to : (m : ℕ) → a ≤ m → m ≤ start → acts t m ≡ showing (until hide m g) (acts t a)
  waits_to m above below =
      loads in_field t hide a m m above [] [] g (acts t a)
      (λ n up high.
      loading in_field t a cue.show hide cue later first (omega arith) only_hides n up (omega (arith, up_to_show))
      ∙ ap (option_or (erases in_field hide n)) (stands_low (events_on in_field hide (cue ∷ later)) start n first.own first.front placed (omega arith)))
      tt tt (showing_own (acts t a) (until hide a g) is.displayed)

  pub screen_before : (f : ℕ) → from ≤ f → f < cue.show → IsSettledFor f cue
      → (acts t (suc f)).displayed ≡ shown_of_newest f (shown_by f (newest_first (cue ∷ later) earlier))
  screen_before f above below settled =
      ⊎_elim
      (λ (h : f < cue.load).
      ap (λ (s : ChannelState). s.displayed) (waits_to (suc f) (omega arith) (omega (arith, behind_load))) ∙ sym (is.on f above)
      ∙ shown_yet frames f cue later earlier sequence below)
      (λ (h : cue.load ≤ f). let wrong : cue.show ≤ f = settled plain h in absurd (omega arith))
      (cases_lt f cue.load)

  -- there it is new or goes on
  begins : IsNew cue earlier (acts t start) ⊎ IsOnward cue earlier (acts t start)
  begins =
      new_or_onward hide a g earlier (acts t a) (acts t start) cue later is.newest link is.displayed
      (waits_to start (omega (arith, behind_load)) (omega arith))

  pub screen_continues : Continues in_field t cue.show cue.hide later
  screen_continues =
      plain_continues in_field t frames a start hide earlier cue later plain line21 formed sequence on (omega (arith, behind_load)) (omega arith) up_to_show begins placed

  pub screen_shown : IsShown t cue.show cue.show cue.hide (shown_from cue.kind cue earlier) (cue ∷ earlier)
  screen_shown =
      plain_shown in_field t frames a start hide earlier cue later plain line21 formed sequence on (omega (arith, behind_load)) (omega arith) up_to_show begins placed
