-- A channel is shown again from the SHOW of a cue on that is loaded after a loss, and continues no other: at the cue's first unit the
-- receiver is in step, and what stands there does the cue no harm (CTA-608-E; 47 CFR 79.101).
use Rattle.std.proofs.Common.{◌≡◌, ◌≢◌, ℕ, zero, suc, ◌+◌, ◌-◌, ◌<◌, ◌≤◌, inl, nat_lt, Bool, true, false, List, [], ◌∷◌, ◌++◌, Option, Some, None, refl, sym, ap, ◌∙◌, subst, arith, ⊎_elim}
use Rattle.std.specs.Prelude.{⊤, ◌==◌, IfSome, IsSome}
use Rattle.std.specs.List.{AllByRecursion}
use Rattle.std.specs.Option.{option_or}
use Rattle.std.proofs.lemmas.Bool.{cases_lt}
use Rattle.std.proofs.lemmas.Bool.Decides.{nat_tests}
use Rattle.line21_codes.specs.declared.channels.Chan.{Chan}
use Rattle.line21_codes.specs.declared.channels.FieldNumber.{FieldNumber}
use Rattle.line21_codes.specs.declared.codes.Code.TheVariants.{Null}
use Rattle.line21_codes.specs.declared.codes.Control.TheVariants.{Edm}
use Rattle.line21_codes.specs.declared.pairs.Pair.{Pair}
use Rattle.line21_codes.specs.ControlPairs.{is_control}
use Rattle.line21_codes.specs.Reading.{code_of}
use Rattle.line21_codes.specs.Repeats.{is_ignored, same_pair}
use Rattle.line21_codes.proofs.CodeLemmas.{written-code_of}
use Rattle.line21_codes.proofs.RepeatLemmas.{same_pair-true}
use Rattle.cue_lists.specs.AuthoredGrid.{IsSettledFor, chain_of, shown_by, shown_from, shown_of_newest}
use Rattle.cue_lists.specs.Cues.{IsOfKind}
use Rattle.cue_lists.specs.Line21Cues.{base_row}
use Rattle.cue_lists.specs.Rules.Lane.{is_line21, is_pop}
use Rattle.cue_lists.specs.declared.cue.Cue.{Cue}
use Rattle.cue_lists.specs.declared.cue.Kind.{Kind}
use Rattle.cue_lists.specs.declared.cue.Kind.TheVariants.{Roll}
use Rattle.line21_author.specs.CueEvents.{cue_events, hide_events}
use Rattle.line21_author.specs.FirstChannel.{first_channel}
use Rattle.line21_author.specs.declared.event.Event.{Event}
use Rattle.line21_author.specs.declared.unit.Unit.{Unit}
use Rattle.line21_author.proofs.CueEventsLemmas.{events_of_apart}
use Rattle.line21_screen.specs.Channels.{ChannelState}
use Rattle.line21_screen.specs.Grid.{Grid}
use Rattle.line21_screen.specs.Meaning.{after}
use Rattle.lanes.specs.LaneEvents.{IsFree, event_at}
use Rattle.lanes.specs.Timeline.{Timeline, repeat_at, repeat_of, slot}
use Rattle.lanes.proofs.ColumnLemmas.{null_plain}
use Rattle.lanes.proofs.EventLemmas.{event_none}
use Rattle.line21_shown.specs.Doing.{does}
use Rattle.line21_shown.specs.Reading.{acts, does_unit, IsCaptioned, IsForFirst}
use Rattle.line21_shown.proofs.HeadLemmas.{Continues, events_on, first_sound, or_nothing, rest_in_sequence, sequence_in_slots}
use Rattle.line21_shown.proofs.LoadingLemmas.{erases, erasing, until}
use Rattle.line21_shown.proofs.OnScreenLemmas.{IsNew, not_continued}
use Rattle.line21_shown.proofs.ReadingLemmas.{none_begins, null_code, slot_is}
use Rattle.line21_shown.proofs.ScreenLemmas.{AreBehind, newest_first}
use Rattle.line21_shown.proofs.SequenceLemmas.{after_it, begin_behind, begin_behind_pop, cues_shown}
use Rattle.line21_shown.proofs.SuffixLemmas.{before_show, events_from, plain_at, plain_free, writes_from}
use Rattle.lost.proofs.BegunLemmas.{IsBegun, acts_joined, before_it, begins_there, begun, goes_on, goes_on_shown, joined, slot_ended, slot_free, slot_from_a, slot_loaded}
use Rattle.lost.proofs.ClosingLemmas.{IsOpening, opening_is}
use Rattle.lost.proofs.FoundLemmas.{IsFound, due_behind, newest_hide, not_erasing}
use Rattle.lost.proofs.HeardLemmas.{heard, heard_at, heard_new, heard_pair, heard_read, pairs_from}
use Rattle.lost.proofs.IdleLemmas.{IsEmpty, hidden_by_then, idle_on}
use Rattle.line21_shown.proofs.OnScreenLemmas.{plain_continues, plain_shown}
use Rattle.line21_shown.proofs.HeadLemmas.{head}
use Rattle.line21_shown.proofs.PopOnLemmas.{pop_continues, pop_shown}
use Rattle.lost.proofs.RowLemmas.{HasRows, rows_first}
use Rattle.lost.proofs.WrittenLemmas.{IsRolledUp, written_alone, written_continues}
use Rattle.lost.proofs.StepLemmas.{InStep, fresh_first, fresh_other, fresh_plain, heard_in_step, into_step, next_step}

-- no cue before it, or the one before it has a HIDE
abbrev pub Resumes : List Cue → Type 0
Resumes [] = ⊤
Resumes (former ∷ earlier) = IsSome former.hide

-- a chain begins with its cue
pub chain_begins : (cue : Cue) (earlier : List Cue) → (rest : List Cue) × (chain_of cue earlier ≡ cue ∷ rest)
chain_begins cue [] = ([], refl)
chain_begins cue (former ∷ earlier) = (_, refl)

module _ (in_field : FieldNumber) (t : Timeline) (captioned : IsCaptioned t) (firsts : (n : ℕ) → IsForFirst (code_of (slot t n))) (frames : ℕ) (cue : Cue)
    (later earlier : List Cue) (found : IsFound in_field t frames cue later earlier) (from : ℕ) (behind : from ≤ cue.load) where
  abbrev hide : Option ℕ
  hide = newest_hide earlier

  abbrev events : List Event
  events = events_on in_field hide (cue ∷ later)

  line21 : is_line21 cue.kind ≡ true
  line21 = found.captions.0.line21

  b : IsBegun in_field t found.a hide cue later found.on
  b = begun in_field t found.a hide cue later line21 found.captions.0.formed found.on

  abbrev e : ℕ
  e = b.slot

  abbrev h : Timeline
  h = heard (slot t) from

  abbrev t2 : Timeline
  t2 = joined e h t

  a_low : found.a ≤ e
  a_low = slot_from_a in_field t found.a hide cue later found.on b

  load_low : cue.load ≤ e
  load_low = slot_loaded in_field t found.a hide cue later found.on b

  show_high : e < cue.show
  show_high = slot_ended in_field t found.a hide cue later found.on b

  free : IsFree events e
  free = slot_free in_field t found.a hide cue later found.on b

  there : t e ≡ Some b.chunk.unit
  there = begins_there in_field t found.a hide cue later found.on b

  -- before the first unit of the cue there is nothing but what hides the former one
  only_hides : (n : ℕ) → n < cue.show → event_at events n ≡ erases in_field hide n
  only_hides n below = by_kind (is_pop cue.kind) refl
    where
      by_kind : (p : Bool) → is_pop cue.kind ≡ p → event_at events n ≡ erases in_field hide n
      by_kind true pop =
          before_show in_field hide cue later pop (events_of_apart in_field frames (cue ∷ later) (sequence_in_slots frames (cue ∷ later) found.sequence)) n below
      by_kind false plain =
          plain_at in_field hide cue later (cue_events in_field (cue ∷ later)) n plain
          ∙ ap (option_or (erases in_field hide n)) (event_none cue.show n (cue_events in_field (cue ∷ later)) (events_from in_field frames cue later found.sequence) below)
          ∙ or_nothing (erases in_field hide n)

  hides_there : (n : ℕ) → found.a ≤ n → n < e → t n ≡ erases in_field hide n
  hides_there n up below = before_it in_field t found.a hide cue later found.on b n up below ∙ only_hides n (let high = show_high in omega arith)

  -- what hides is just that
  erasing_only : (o : Option ℕ) (n : ℕ) (v : Unit) → erases in_field o n ≡ Some v → v ≡ erasing in_field
  erasing_only None n v some = cc
  erasing_only (Some x) n v some = by_test (n == x) refl
    where
      by_test : (c : Bool) → (n == x) ≡ c → v ≡ erasing in_field
      by_test true test = let same : Some (erasing in_field) ≡ Some v = sym (rw test refl) ∙ some in cc
      by_test false test = let wrong : None ≡ Some v = sym (rw test refl) ∙ some in cc

  -- no repeat is due at a unit
  none_due : (n : ℕ) (u : Unit) → t n ≡ Some u → repeat_at t n ≡ None
  none_due n u is = at (repeat_at t n) refl
    where
      at : (o : Option Pair) → repeat_at t n ≡ o → repeat_at t n ≡ None
      at None none = none
      at (Some p) due = let wrong : None ≡ Some u = sym (none_begins t captioned n p due) ∙ is in cc

  pair_at : (n : ℕ) (u : Unit) → t n ≡ Some u → slot t n ≡ u.pair
  pair_at n u is = slot_is t n None (Some u) (none_due n u is) is

  -- the first pair of the cue isn't taken for a repeat
  fresh : (k n : ℕ) → from + k ≡ n → n ≡ e → is_ignored (pairs_from (slot t) from k) (slot t e) ≡ false
  fresh zero n is at_e = fresh_first (slot t e)
  fresh (suc k) n is at_e = by_unit (t m) refl
    where
      m : ℕ
      m = from + k

      next : suc m ≡ e
      next = omega arith

      by_unit : (u : Option Unit) → t m ≡ u → is_ignored (slot t m ∷ pairs_from (slot t) from k) (slot t e) ≡ false
      by_unit (Some u) is = by_doubled u.doubled refl
        where
          by_doubled : (d : Bool) → u.doubled ≡ d → is_ignored (slot t m ∷ pairs_from (slot t) from k) (slot t e) ≡ false
          by_doubled true twice =
              let none : t (suc m) ≡ None = captioned.spaced m u.pair (due_behind (t m) u is twice) in
              let wrong : None ≡ Some b.chunk.unit = sym none ∙ ap t next ∙ there in cc
          by_doubled false once =
              fresh_plain (pairs_from (slot t) from k) (slot t m) (slot t e) (ap is_control (pair_at m u is) ∙ captioned.marked m u is ∙ once)
      by_unit None is = by_due (repeat_at t m) refl
        where
          by_due : (o : Option Pair) → repeat_at t m ≡ o → is_ignored (slot t m ∷ pairs_from (slot t) from k) (slot t e) ≡ false
          by_due None due =
              fresh_plain (pairs_from (slot t) from k) (slot t m) (slot t e) (ap is_control (slot_is t m None None due is) ∙ null_plain)
          by_due (Some p) due =
              fresh_other (pairs_from (slot t) from k) (slot t m) (slot t e) (other (same_pair (slot t m) (slot t e)) refl)
            where
              opens : same_pair (slot t m) (slot t e) ≡ true → IsOpening (code_of p)
              opens same =
                  let pair : p ≡ b.chunk.unit.pair =
                  sym (slot_is t m (Some p) None due is) ∙ same_pair-true (slot t m) (slot t e) same ∙ pair_at e b.chunk.unit there in
                  subst IsOpening (sym (ap code_of pair ∙ b.code)) (opening_is cue.kind line21)

              before : (i : ℕ) → i ≡ m → (o : Option Pair) → repeat_at t i ≡ o → o ≡ Some p → IsOpening (code_of p) → ⊥
              before zero at_m o due_at is_p opens = let wrong : None ≡ Some p = due_at ∙ is_p in cc
              before (suc i) at_m o due_at is_p opens = by_before (t i) refl
                where
                  by_before : (u : Option Unit) → t i ≡ u → ⊥
                  by_before None none = let wrong : None ≡ Some p = sym (ap repeat_of none) ∙ due_at ∙ is_p in cc
                  by_before (Some u) some = by_twice u.doubled refl
                    where
                      by_twice : (d : Bool) → u.doubled ≡ d → ⊥
                      by_twice false once = let wrong : None ≡ Some p = sym (ap repeat_of some ∙ rw once refl) ∙ due_at ∙ is_p in cc
                      by_twice true twice =
                          let same : Some u.pair ≡ Some p = sym (due_behind (t i) u some twice) ∙ due_at ∙ is_p in
                          let it : u.pair ≡ p = cc in
                          let opened : IsOpening (code_of u.pair) = subst IsOpening (ap code_of (sym it)) opens in
                          let near : suc (suc i) ≡ e = omega (arith, at_m, next) in
                          ⊎_elim
                          (λ (low : i < found.a). found.last i u low (let up = a_low in omega arith) some twice opened)
                          (λ (high : found.a ≤ i).
                          let hides : erases in_field hide i ≡ Some u = sym (hides_there i high (omega arith)) ∙ some in
                          not_erasing in_field u (erasing_only hide i u hides) opened)
                          (cases_lt i found.a)

              other : (c : Bool) → same_pair (slot t m) (slot t e) ≡ c → same_pair (slot t m) (slot t e) ≡ false
              other false is_other = is_other
              other true same = absurd (before m refl (Some p) due refl (opens same))

  fresh_there : (k : ℕ) → from + k ≡ e → is_ignored (pairs_from (slot t) from k) (slot t e) ≡ false
  fresh_there k is = fresh k e is refl

  -- so from there on receiver and sender are in step
  in_step : (i k n : ℕ) → from + k ≡ e → suc k + i ≡ n → InStep t from n (suc e + i)
  in_step zero k n is count =
      let same : suc k ≡ n = omega arith in
      let here : suc e ≡ suc e + 0 = omega arith in
      subst (λ m. InStep t from n m) here
      (subst (λ m. InStep t from m (suc e)) same
      (into_step t captioned from k e is b.chunk.unit there b.twice (pair_at e b.chunk.unit there) (fresh_there k is)))
  in_step (suc i) k n is count =
      let same : suc (suc k + i) ≡ n = omega arith in
      let here : suc (suc e + i) ≡ suc e + suc i = omega arith in
      let at : from + (suc k + i) ≡ suc e + i = omega arith in
      subst (λ m. InStep t from n m) here
      (subst (λ m. InStep t from m (suc (suc e + i))) same
      (next_step t captioned from (suc k + i) (suc e + i) at (in_step i k (suc k + i) is refl)))

  hears : (m : ℕ) → e ≤ m → (s : ChannelState) → does_unit (t m) s ≡ does_unit (h m) s
  hears m above s = ⊎_elim now later_on (cases_lt e m)
    where
      k : ℕ
      k = e - from

      counts : from + k ≡ e
      counts = let low = load_low in omega arith

      later_on : m ≤ e → does_unit (t m) s ≡ does_unit (h m) s
      later_on low =
          let here : e ≡ m = omega arith in
          subst (λ n. does_unit (t n) s ≡ does_unit (h n) s) here
          (ap (λ u. does_unit u s) there
          ∙ sym (ap (λ u. does_unit u s) (heard_at (slot t) from k e counts ∙ ap (λ c. heard_pair c (slot t e)) (fresh_there k counts))
          ∙ ap (λ p. does (code_of p) s) (pair_at e b.chunk.unit there)))

      now : e < m → does_unit (t m) s ≡ does_unit (h m) s
      now less =
          let i : ℕ = m - suc e in
          let at : suc e + i ≡ m = omega arith in
          let from_is : from + (suc k + i) ≡ suc e + i = omega (arith, counts) in
          subst (λ n. does_unit (t n) s ≡ does_unit (h n) s) at
          (heard_in_step t captioned from (suc k + i) (suc e + i) from_is (in_step i k (suc k + i) counts refl) s)

  acts_heard : (n : ℕ) → acts t2 n ≡ acts h n
  acts_heard n = acts_joined e h t hears n

  -- so what is shown is what the timeline shows
  shows_heard : (k n : ℕ) → from + k ≡ n → (after in_field (pairs_from (slot t) from k)).first.displayed ≡ (acts t2 n).displayed
  shows_heard k n is =
      ap (λ s. s.first.displayed) (heard_read in_field (slot t) from firsts k n is) ∙ ap (λ (s : ChannelState). s.displayed) (sym (acts_heard n))

  -- the former cue is hidden by SHOW, or by LOAD
  hidden_by_show : (es : List Cue) → AreBehind es (cue ∷ later) → IfSome (newest_hide es) (λ x. x ≤ cue.show)
  hidden_by_show [] link = tt
  hidden_by_show (former ∷ es) link = link.shown

  hidden_by_load : (es : List Cue) → AreBehind es (cue ∷ later) → is_pop cue.kind ≡ false → IfSome (newest_hide es) (λ x. x ≤ cue.load)
  hidden_by_load [] link plain = tt
  hidden_by_load (former ∷ es) link plain = link.cleared plain

  -- a pop-on cue
  pop_again : is_pop cue.kind ≡ true → (f : ℕ) → cue.show ≤ f → AllByRecursion (IsSettledFor f) later
      → (acts t2 (suc f)).displayed ≡ shown_of_newest f (shown_by f (newest_first later (cue ∷ earlier)))
  pop_again pop f above settled = by_hide hide refl
    where
      now : Grid
      now = (acts t2 e).displayed

      goes : (o : Option ℕ) → Continues in_field t2 e o (cue ∷ later) → (acts t2 e).displayed ≡ until o e now → IfSome o (λ x. x ≤ cue.show)
          → (acts t2 (suc f)).displayed ≡ shown_of_newest f (shown_by f (newest_first later (cue ∷ earlier)))
      goes o on displayed hidden =
          let before : e ≤ cue.show = let high = show_high in omega arith in
          cues_shown in_field t2 frames (suc cue.show) cue.show cue.hide (shown_from cue.kind cue earlier) later (cue ∷ earlier) found.captions.1
          (rest_in_sequence 1 frames cue later found.sequence) (begin_behind_pop frames cue later pop found.captions.0.formed found.sequence)
          (after_it frames cue later earlier found.sequence)
          (pop_continues in_field t2 frames e o now earlier cue later pop found.captions.0.formed found.sequence on displayed hidden before)
          (pop_shown in_field t2 frames e o now earlier cue later pop found.captions.0.formed found.sequence on displayed hidden before)
          (omega arith) f above settled

      by_hide : (o : Option ℕ) → hide ≡ o → (acts t2 (suc f)).displayed ≡ shown_of_newest f (shown_by f (newest_first later (cue ∷ earlier)))
      by_hide None none =
          goes hide (goes_on in_field t found.a hide cue later found.on b h) (sym (ap (λ o. until o e now) none)) (hidden_by_show earlier found.link)
      by_hide (Some x) some =
          ⊎_elim
          (λ (past : x < e). goes None (goes_on_shown in_field t found.a hide cue later found.on b h x some past) refl tt)
          (λ (ahead : e ≤ x).
          let test : nat_lt x e ≡ false = grind (arith, nat_tests) in
          let same : until (Some x) e now ≡ now = rw test refl in
          goes hide (goes_on in_field t found.a hide cue later found.on b h) (sym (ap (λ o. until o e now) some ∙ same)) (hidden_by_show earlier found.link))
          (cases_lt x e)

  -- nothing due, nothing begins: the null pair
  null_at : (n : ℕ) → repeat_at t n ≡ None → t n ≡ None → code_of (slot t n) ≡ Null
  null_at n due none = ap code_of (slot_is t n None None due none) ∙ null_code

  -- an empty screen at the first unit of a cue that isn't pop-on
  empty_there : Resumes earlier → is_pop cue.kind ≡ false → IsEmpty (acts h e)
  empty_there resumes plain = by_earlier earlier refl resumes
    where
      low_e : from ≤ e
      low_e = let low = load_low in omega arith

      by_earlier : (es : List Cue) → earlier ≡ es → Resumes es → IsEmpty (acts h e)
      by_earlier [] is res =
          let zero_a : found.a ≡ 0 = found.first is in
          let none_t : (n : ℕ) → n < e → t n ≡ None =
          λ n below. hides_there n (omega arith) below ∙ ap (λ o. erases in_field o n) (ap newest_hide is) in
          let null_n : (n : ℕ) → n < e → code_of (slot t n) ≡ Null = λ n below. null_at n (due_none n none_t below) (none_t n below) in
          idle_on (slot t) from (e - from) from e (omega (arith, low_e)) (omega arith) (λ i up below. inl (null_n i below))
          (ap (λ (s : ChannelState). s.displayed) (heard_new (slot t) from from (omega arith)))
        where
          due_none : (n : ℕ) → ((m : ℕ) → m < e → t m ≡ None) → n < e → repeat_at t n ≡ None
          due_none zero all below = refl
          due_none (suc n) all below = ap repeat_of (all n (omega arith))
      by_earlier (former ∷ es) is res = by_hide former.hide refl res
        where
          by_hide : (o : Option ℕ) → former.hide ≡ o → IsSome former.hide → IsEmpty (acts h e)
          by_hide None none some = cc
          by_hide (Some x) is_x some =
              let hide_is : hide ≡ Some x = ap newest_hide is ∙ is_x in
              let early : found.a ≤ x = subst (λ o. IfSome o (λ y. found.a ≤ y)) hide_is found.low in
              let loaded : x ≤ cue.load = subst (λ o. IfSome o (λ y. y ≤ cue.load)) hide_is (hidden_by_load earlier found.link plain) in
              let free_x : IsFree (hide_events in_field (Some x) (cue ∷ later) ++ cue_events in_field (cue ∷ later)) e =
              subst (λ (o : Option ℕ). IsFree (hide_events in_field o (cue ∷ later) ++ cue_events in_field (cue ∷ later)) e) hide_is free in
              let not_x : x ≢ e = (rw plain at free_x).0 in
              let not_next : x + 1 ≢ e = (rw plain at free_x).1 in
              let low = load_low in
              let over : suc (suc x) ≤ e = omega arith in
              at_hide x hide_is early over
            where
              at_hide : (x : ℕ) → hide ≡ Some x → found.a ≤ x → suc (suc x) ≤ e → IsEmpty (acts h e)
              at_hide x hide_is early over =
                  let test : (x == x) ≡ true = grind (arith, nat_tests) in
                  let here : t x ≡ Some (erasing in_field) = hides_there x early (omega arith) ∙ ap (λ o. erases in_field o x) hide_is ∙ rw test refl in
                  let pair : slot t x ≡ (erasing in_field).pair = pair_at x (erasing in_field) here in
                  let again : slot t (suc x) ≡ (erasing in_field).pair = slot_is t (suc x) (Some (erasing in_field).pair) (t (suc x)) (ap repeat_of here) refl in
                  hidden_by_then (slot t) from x e low_e over (ap code_of pair ∙ written-code_of in_field (first_channel Edm) tt) (again ∙ sym pair)
                  (λ i up below. null_at i (due_over i up below) (none_over i (omega arith) below))
                where
                  none_over : (i : ℕ) → suc x ≤ i → i < e → t i ≡ None
                  none_over i up below =
                      let other : (i == x) ≡ false = grind (arith, nat_tests) in
                      hides_there i (omega arith) below ∙ ap (λ o. erases in_field o i) hide_is ∙ rw other refl

                  due_over : (i : ℕ) → suc (suc x) ≤ i → i < e → repeat_at t i ≡ None
                  due_over zero up below = absurd (omega arith)
                  due_over (suc i) up below = ap repeat_of (none_over i (omega arith) (omega arith))

  new_there : Resumes earlier → is_pop cue.kind ≡ false → IsNew cue earlier (acts t2 e)
  new_there resumes plain = record {
    empty = ap (λ (s : ChannelState). s.displayed) (acts_heard e) ∙ empty_there resumes plain;
    alone = alone earlier resumes;
  }
    where
      alone : (es : List Cue) → Resumes es → chain_of cue es ≡ cue ∷ []
      alone [] res = refl
      alone (former ∷ es) res = by_hide former.hide refl res
        where
          by_hide : (o : Option ℕ) → former.hide ≡ o → IsSome former.hide → chain_of cue (former ∷ es) ≡ cue ∷ []
          by_hide None none some = cc
          by_hide (Some x) is some = rw (not_continued cue former x is) refl

  -- another one
  plain_again : Resumes earlier → is_pop cue.kind ≡ false → (f : ℕ) → cue.show ≤ f → AllByRecursion (IsSettledFor f) later
      → (acts t2 (suc f)).displayed ≡ shown_of_newest f (shown_by f (newest_first later (cue ∷ earlier)))
  plain_again resumes plain f above settled =
      let on : Continues in_field t2 e hide (cue ∷ later) = goes_on in_field t found.a hide cue later found.on b h in
      let begins : writes_from hide cue.load ≤ e =
      plain_free in_field hide cue later (cue_events in_field (cue ∷ later)) e plain (hidden_by_load earlier found.link plain) load_low free in
      let before : e ≤ cue.show = let high = show_high in omega arith in
      cues_shown in_field t2 frames cue.show cue.show cue.hide (shown_from cue.kind cue earlier) later (cue ∷ earlier) found.captions.1
      (rest_in_sequence 1 frames cue later found.sequence) (begin_behind frames cue later found.sequence) (after_it frames cue later earlier found.sequence)
      (plain_continues in_field t2 frames e e hide earlier cue later plain line21 found.captions.0.formed found.sequence on (omega arith) begins before (inl (new_there resumes plain))
      (head in_field t2 frames e cue.show hide cue later found.captions.0.formed found.sequence on (λ f above free. above)).first)
      (plain_shown in_field t2 frames e e hide earlier cue later plain line21 found.captions.0.formed found.sequence on (omega arith) begins before (inl (new_there resumes plain))
      (head in_field t2 frames e cue.show hide cue later found.captions.0.formed found.sequence on (λ f above free. above)).first)
      (omega arith) f above settled

  -- so each is shown again that continues none
  pub shown_again : Resumes earlier → (f k : ℕ) → from + k ≡ suc f → cue.show ≤ f → AllByRecursion (IsSettledFor f) later
      → (after in_field (pairs_from (slot t) from k)).first.displayed ≡ shown_of_newest f (shown_by f (newest_first later (cue ∷ earlier)))
  shown_again resumes f k is above settled = shows_heard k (suc f) is ∙ by_kind (is_pop cue.kind) refl
    where
      by_kind : (p : Bool) → is_pop cue.kind ≡ p → (acts t2 (suc f)).displayed ≡ shown_of_newest f (shown_by f (newest_first later (cue ∷ earlier)))
      by_kind true pop = pop_again pop f above settled
      by_kind false plain = plain_again resumes plain f above settled

  -- a roll-up cue whose former cue isn't hidden is written onto whatever is shown: so much of its chain is seen as itself
  pub rolled_up : (channel : Chan) (rows : ℕ) → cue.kind ≡ Roll channel rows → hide ≡ None → IsRolledUp in_field h 1 rows cue earlier later
  rolled_up channel rows kind none =
      let plain : is_pop cue.kind ≡ false = ap is_pop kind in
      let on : Continues in_field t2 e None (cue ∷ later) =
      subst (λ (o : Option ℕ). Continues in_field t2 e o (cue ∷ later)) none (goes_on in_field t found.a hide cue later found.on b h) in
      let own : IsOfKind (Roll channel rows) cue.hide cue.runs = subst (λ (k : Kind). IsOfKind k cue.hide cue.runs) kind found.captions.0.formed.kind in
      let before : e ≤ cue.show = let high = show_high in omega arith in
      let w = chain_begins cue earlier in
      record {
        own = t2;
        same = acts_heard;
        on = written_continues in_field t2 frames e cue later plain found.captions.0.formed found.sequence on before;
        rows_are = subst (λ (chain : List Cue). HasRows 1 rows (base_row cue.runs) chain (acts t2 cue.show)) (sym w.1)
            (subst (HasRows 1 rows (base_row cue.runs) (cue ∷ w.0)) (sym (written_alone in_field t2 frames e cue later plain found.captions.0.formed found.sequence on before))
            (rows_first channel rows cue w.0 (acts t2 e) kind own.1 own.2 found.captions.0.formed.some (first_sound 1 frames cue later found.sequence).apart));
      }
