-- The tests of each rule tell whether a cue keeps it, and which cue it names: the sentences are said of the tests' parts.
use Rattle.std.proofs.Common.{◌≡◌, ◌≢◌, ℕ, ◌+◌, ◌*◌, ◌<◌, ◌≤◌, ◌==◌, ◌&&◌, ◌||◌, Bool, true, false, not, if◌then◌else◌, List, [], ◌∷◌, Option, Some, None, refl, sym, ap, subst, inl, inr}
use Rattle.std.specs.Prelude.{nat_le, nat_lt, is_none, IfSome, IsSome, MatchOption, ⊤}
use Rattle.std.specs.List.{AllByRecursion}
use Rattle.std.proofs.lemmas.Bool.{and_from, and_parts, cases_Bool, eqb-false, eqb-true}
use Rattle.cc_base.specs.Rate.{delay_frames_of}
use Rattle.cc_base.specs.declared.rate.Rate.{Rate}
use Rattle.cc_base.specs.declared.why.Why.{Why}
use Rattle.cc_base.specs.declared.why.Why.TheVariants as why
use Rattle.line21_codes.specs.declared.channels.Chan.{Chan}
use Rattle.line21_slots.specs.Cadences.{cadence_of, has_slot_in, slot_step}
use Rattle.cue_types.specs.Cells.{have_shared_cell}
use Rattle.cue_types.specs.Channels.{uses_window}
use Rattle.cue_types.specs.Hide.{hide_is}
use Rattle.cue_types.specs.Lane.{is_line21, is_paint, is_pop, is_roll, is_win, kind_lane, on_lane}
use Rattle.cue_types.specs.Line21Cues.{base_row, same_roll}
use Rattle.cue_types.specs.Listing.{Listing, share_of}
use Rattle.cue_types.specs.declared.cue.Cue.{Cue}
use Rattle.cue_types.specs.declared.cue.Kind.{Kind}
use Rattle.cue_types.specs.declared.cue.Kind.TheVariants as kind
use Rattle.cue_types.specs.declared.lane.Lane.TheVariants as lane
use Rattle.cue_lists.specs.declared.rules.against.Against.{Against}
use Rattle.cue_lists.specs.declared.rules.against.Against.TheVariants as against
use Rattle.cue_lists.specs.Rules.Alternatives.{alone, first_broken, with_earlier, with_former}
use Rattle.cue_lists.specs.Rules.Clash.{clash, hides_at_once, shows_as_it_hides}
use Rattle.cue_lists.specs.Rules.Delay.{IsUndisturbed, delay_of, delay_start, event_frames}
use Rattle.cue_lists.specs.Rules.DelayCovers.{delay_covers, delay_has, delays_cross, same_service, same_start}
use Rattle.cue_lists.specs.Rules.Former.{former_cue, former_number, nearest_number}
use Rattle.cue_lists.specs.Rules.Keeps.{IsKeptAlone, IsKeptWithEach, IsKeptWithFormer, KeepsRule, NamesOther}
use Rattle.cue_lists.specs.Rules.OffSlot.{lacks_slot, off_slot}
use Rattle.cue_lists.specs.Rules.Order.{delay_starts_early, hides_early, loads_before_it_loads, loads_before_it_shows, loads_late, order}
use Rattle.cue_lists.specs.Rules.Overlap.{overlap, shows_before_it_hides}
use Rattle.cue_lists.specs.Rules.PastEnd.{hides_past_end, past_end, shows_past_end, window_past_end}
use Rattle.cue_lists.specs.Rules.Share.{lacks_share, share}
use Rattle.cue_lists.specs.Rules.Tests.{other_of}
use Rattle.cue_lists.specs.Rules.Unhidden.{leaves_unhidden, loads_before_it_hides, unhidden}
use Rattle.cue_lists.specs.Rules.WindowBusy.{keeps_window, same_window, window_busy}
use Rattle.cue_lists.proofs.Denials.{Denies, denied_below, denied_both, denied_each, denied_hide, denied_le, denied_like, denied_lt, denied_ne, denied_never, denied_true, denied_where}
use Rattle.cue_lists.proofs.FirstFailing.{first_found, found_first, nearest_first, none_nearest}
use Rattle.cue_lists.proofs.CellsDenied.{cells_denied}
use Rattle.cue_lists.proofs.RuleTests.{equal_itself}

-- a verdict on a rule: none where the cue keeps it, else whom it breaks it against
abbrev pub IsJudged : Listing → List Cue → Cue → Why → Option Against → Type 0
IsJudged list earlier cue rule None = KeepsRule list earlier cue rule
IsJudged list earlier cue rule (Some broken) = NamesOther list earlier cue rule (other_of broken (former_number cue earlier))

module _ (list : Listing) (earlier : List Cue) (cue : Cue) (rule : Why) where
  -- a rule that asks nothing of each cue before, by a test of the cue and one of it and the former cue
  judged_by_former : (broken : Bool) (test : Cue → Bool) → Denies broken (IsKeptAlone rule list cue)
      → ((former : Cue) → Denies (test former) (IsKeptWithFormer rule list former cue))
      → AllByRecursion (λ (other : Cue). IsKeptWithEach rule list other cue) earlier
      → IsJudged list earlier cue rule (first_broken (alone broken ∷ with_former (former_cue cue earlier) test ∷ []))
  judged_by_former true test by_itself by_former each = by_itself.fails refl
  judged_by_former false test by_itself by_former each = at_former (former_cue cue earlier) refl
    where
      tested : (former : Cue) → former_cue cue earlier ≡ Some former → (b : Bool) → Denies b (IsKeptWithFormer rule list former cue)
          → IsJudged list earlier cue rule (if b then Some against.Former else None)
      tested former is true d =
          let found = found_first (on_lane (kind_lane cue.kind)) earlier former is in
          subst (NamesOther list earlier cue rule) (sym found.1)
          (by_itself.holds refl, inl (former, found.2, found.3, d.fails refl))
      tested former is false d = record {
        alone = by_itself.holds refl;
        former = λ other first.
            let found : former_cue cue earlier ≡ Some other = first_found (on_lane (kind_lane cue.kind)) earlier other first in
            let same : former ≡ other = cc in
            subst (λ (c : Cue). IsKeptWithFormer rule list c cue) same (d.holds refl);
        each = each;
      }

      at_former : (o : Option Cue) → former_cue cue earlier ≡ o → IsJudged list earlier cue rule (first_broken (with_former o test ∷ []))
      at_former None is = record {
        alone = by_itself.holds refl;
        former = λ other first.
            let found : former_cue cue earlier ≡ Some other = first_found (on_lane (kind_lane cue.kind)) earlier other first in cc;
        each = each;
      }
      at_former (Some former) is = tested former is (test former) (by_former former)

  -- a rule that asks something of each cue before alone
  judged_by_each : (test : Cue → Bool) → IsKeptAlone rule list cue → ((former : Cue) → IsKeptWithFormer rule list former cue)
      → ((other : Cue) → Denies (test other) (IsKeptWithEach rule list other cue))
      → IsJudged list earlier cue rule (first_broken (with_earlier (nearest_number test earlier) ∷ []))
  judged_by_each test by_itself with_it by_each = at_number (nearest_number test earlier) refl
    where
      at_number : (o : Option ℕ) → nearest_number test earlier ≡ o
          → IsJudged list earlier cue rule (first_broken (with_earlier o ∷ []))
      at_number None is = record {
        alone = by_itself;
        former = λ former first. with_it former;
        each = none_nearest test (λ (other : Cue). IsKeptWithEach rule list other cue) by_each earlier is;
      }
      at_number (Some number) is =
          (by_itself, inr (nearest_first test (λ (other : Cue). IsKeptWithEach rule list other cue) by_each earlier number is))

-- a rule that asks nothing of each cue before
all_asked : (cues : List Cue) → AllByRecursion (λ (other : Cue). ⊤) cues
all_asked [] = tt
all_asked (cue ∷ cues) = (tt, all_asked cues)

-- a sentence on the cues of channels, and one on services' cues
on_channel : (k : Kind) (P : Type 0) → (is_line21 k ≡ true → P) → (channel : Chan) → kind_lane k ≡ lane.Channel channel → P
on_channel (kind.Pop own) P all channel is = all refl
on_channel (kind.Paint own) P all channel is = all refl
on_channel (kind.Roll own rows) P all channel is = all refl
on_channel (kind.Win window) P all channel is = cc

from_channel : (k : Kind) (P : Type 0) → ((channel : Chan) → kind_lane k ≡ lane.Channel channel → P) → is_line21 k ≡ true → P
from_channel (kind.Pop own) P all is = all own refl
from_channel (kind.Paint own) P all is = all own refl
from_channel (kind.Roll own rows) P all is = all own refl
from_channel (kind.Win window) P all is = cc

of_service : (k : Kind) (P : Type 0) → (is_win k ≡ true → P) → (service : ℕ) → kind_lane k ≡ lane.Service service → P
of_service (kind.Win window) P all service is = all refl
of_service _ P all service is = cc

from_service : (k : Kind) (P : Type 0) → ((service : ℕ) → kind_lane k ≡ lane.Service service → P) → is_win k ≡ true → P
from_service (kind.Win window) P all is = all window.service refl
from_service _ P all is = cc

denied_on_channel : {P : Type 0} (k : Kind) (b : Bool) → Denies b P
    → Denies (is_line21 k && b) ((channel : Chan) → kind_lane k ≡ lane.Channel channel → P)
denied_on_channel {P} k b d = denied_like _ (denied_where (is_line21 k) b d) (on_channel k P) (from_channel k P)

denied_of_service : {P : Type 0} (k : Kind) (b : Bool) → Denies b P
    → Denies (is_win k && b) ((service : ℕ) → kind_lane k ≡ lane.Service service → P)
denied_of_service {P} k b d = denied_like _ (denied_where (is_win k) b d) (of_service k P) (from_service k P)

-- a paint-on or roll-up cue is one of a channel that isn't pop-on
written_on : (k : Kind) (P : Type 0) → ((is_paint k || is_roll k) ≡ true → P)
    → (channel : Chan) → kind_lane k ≡ lane.Channel channel → is_pop k ≡ false → P
written_on (kind.Pop own) P all channel is other = cc
written_on (kind.Paint own) P all channel is other = all refl
written_on (kind.Roll own rows) P all channel is other = all refl
written_on (kind.Win window) P all channel is other = cc

on_written : (k : Kind) (P : Type 0) → ((channel : Chan) → kind_lane k ≡ lane.Channel channel → is_pop k ≡ false → P)
    → (is_paint k || is_roll k) ≡ true → P
on_written (kind.Pop own) P all is = cc
on_written (kind.Paint own) P all is = all own refl refl
on_written (kind.Roll own rows) P all is = all own refl refl
on_written (kind.Win window) P all is = cc

-- a sentence on a HIDE in other words
hidden_like : (hide : Option ℕ) (P : Type 0) (Q R : ℕ → Type 0) → ((n : ℕ) → Q n → R n) → MatchOption hide P Q → MatchOption hide P R
hidden_like None P Q R like is = is
hidden_like (Some hide) P Q R like is = like hide is

-- several tests as one
five_as_two : (a b c : Bool) (former : Option Cue) (t u : Cue → Bool)
    → first_broken (alone (a || (b || c)) ∷ with_former former (λ other. t other || u other) ∷ [])
    ≡ first_broken (alone a ∷ alone b ∷ alone c ∷ with_former former t ∷ with_former former u ∷ [])
five_as_two true b c former t u = refl
five_as_two false true c former t u = refl
five_as_two false false true former t u = refl
five_as_two false false false None t u = refl
five_as_two false false false (Some former) t u = either (t former) (u former)
  where
    either : (x y : Bool) → (if x || y then Some against.Former else None)
        ≡ (if x then Some against.Former else (if y then Some against.Former else None))
    either true y = refl
    either false y = refl

three_as_two : (a b c : Bool) (former : Option Cue)
    → first_broken (alone (a || (b || c)) ∷ with_former former (λ other. false) ∷ []) ≡ first_broken (alone a ∷ alone b ∷ alone c ∷ [])
three_as_two true b c former = refl
three_as_two false true c former = refl
three_as_two false false true former = refl
three_as_two false false false None = refl
three_as_two false false false (Some former) = refl

two_as_two : (a b : Bool) (former : Option Cue)
    → first_broken (alone (a || b) ∷ with_former former (λ other. false) ∷ []) ≡ first_broken (alone a ∷ alone b ∷ [])
two_as_two true b former = refl
two_as_two false true former = refl
two_as_two false false None = refl
two_as_two false false (Some former) = refl

one_as_two : (a : Bool) (former : Option Cue)
    → first_broken (alone a ∷ with_former former (λ other. false) ∷ []) ≡ first_broken (alone a ∷ [])
one_as_two true former = refl
one_as_two false None = refl
one_as_two false (Some former) = refl

-- Order
module _ (list : Listing) (earlier : List Cue) (cue : Cue) where
  order_alone : Denies (loads_late cue || (hides_early cue || delay_starts_early list.rate cue)) (IsKeptAlone why.Order list cue)
  order_alone =
      denied_like _ (denied_both (loads_late cue) (hides_early cue || delay_starts_early list.rate cue) (denied_lt cue.load cue.show)
      (denied_both (hides_early cue) (delay_starts_early list.rate cue)
      (denied_hide cue.hide (λ hide. nat_le hide cue.show) (λ hide. cue.show < hide) (λ hide. denied_lt cue.show hide))
      (denied_below 0 (delay_of cue.kind) _ (denied_lt (cue.load + delay_frames_of list.rate (delay_of cue.kind)) cue.show))))
      (λ p. (p.0, p.1.0, p.1.1))
      (λ p. (p.0, (p.1, p.2)))

  order_former : (former : Cue)
      → Denies (loads_before_it_shows cue former || loads_before_it_loads cue former) (IsKeptWithFormer why.Order list former cue)
  order_former former =
      denied_both (loads_before_it_shows cue former) (loads_before_it_loads cue former)
      (denied_on_channel cue.kind _ (denied_le former.show cue.load))
      (denied_of_service cue.kind _ (denied_le former.load cue.load))

  pub order_told : IsJudged list earlier cue why.Order (first_broken (order list.rate cue (former_cue cue earlier)))
  order_told =
      subst (IsJudged list earlier cue why.Order)
      (five_as_two (loads_late cue) (hides_early cue) (delay_starts_early list.rate cue) (former_cue cue earlier)
      (loads_before_it_shows cue) (loads_before_it_loads cue))
      (judged_by_former list earlier cue why.Order (loads_late cue || (hides_early cue || delay_starts_early list.rate cue))
      (λ former. loads_before_it_shows cue former || loads_before_it_loads cue former) order_alone order_former (all_asked earlier))

  -- Overlap
  pub overlap_told : IsJudged list earlier cue why.Overlap (first_broken (overlap cue (former_cue cue earlier)))
  overlap_told =
      judged_by_former list earlier cue why.Overlap (have_shared_cell cue.runs) (shows_before_it_hides cue)
      (cells_denied cue.runs)
      (λ former. denied_on_channel cue.kind _
      (denied_hide former.hide (λ hide. nat_lt cue.show hide) (λ hide. hide ≤ cue.show) (λ hide. denied_le hide cue.show)))
      (all_asked earlier)

  -- Clash
  pub clash_told : IsJudged list earlier cue why.Clash (first_broken (clash (slot_step list.rate) cue (former_cue cue earlier)))
  clash_told =
      judged_by_former list earlier cue why.Clash (hides_at_once (slot_step list.rate) cue) (shows_as_it_hides (slot_step list.rate) cue)
      (denied_where (is_pop cue.kind) _
      (denied_hide cue.hide (λ hide. nat_lt hide (cue.show + 2 * slot_step list.rate)) (λ hide. cue.show + 2 * slot_step list.rate ≤ hide)
      (λ hide. denied_le (cue.show + 2 * slot_step list.rate) hide)))
      (λ former. denied_where (is_pop cue.kind) _
      (denied_hide former.hide (λ hide. nat_lt hide cue.show && nat_lt cue.show (hide + 2 * slot_step list.rate))
      (λ hide. hide < cue.show → hide + 2 * slot_step list.rate ≤ cue.show)
      (λ hide. denied_below hide cue.show _ (denied_le (hide + 2 * slot_step list.rate) cue.show))))
      (all_asked earlier)

-- Unhidden: a cue that is written onto the screen, and where the former cue has a HIDE, doesn't continue it
written_anyway : (paint roll : Bool) → (paint || roll) ≡ (paint || (roll && true))
written_anyway true roll = refl
written_anyway false true = refl
written_anyway false false = refl

none_hidden : (a b : Bool) → Denies ((a && false) || not b) (b ≡ true)
none_hidden true b = denied_true b
none_hidden false b = denied_true b

unhidden_former : (paint roll same base : Bool) (hide : Option ℕ) (load : ℕ)
    → Denies (((paint || (roll && not (same && is_none hide && base))) && hide_is hide (λ h. nat_lt load h))
    || (is_none hide && not (same && is_none hide && base)))
    (MatchOption hide ((same && is_none hide && base) ≡ true) (λ h. (paint || roll) ≡ true → h ≤ load))
unhidden_former paint roll same base None load =
    none_hidden (paint || (roll && not (same && true && base))) (same && true && base)
unhidden_former paint roll true base (Some hide) load =
    denied_like _ (denied_both ((paint || (roll && true)) && nat_lt load hide) false
    (subst (λ (g : Bool). Denies (g && nat_lt load hide) ((paint || roll) ≡ true → hide ≤ load)) (written_anyway paint roll)
    (denied_where (paint || roll) (nat_lt load hide) (denied_le hide load)))
    denied_never)
    (λ p. p.0)
    (λ p. (p, tt))
unhidden_former paint roll false base (Some hide) load =
    denied_like _ (denied_both ((paint || (roll && true)) && nat_lt load hide) false
    (subst (λ (g : Bool). Denies (g && nat_lt load hide) ((paint || roll) ≡ true → hide ≤ load)) (written_anyway paint roll)
    (denied_where (paint || roll) (nat_lt load hide) (denied_le hide load)))
    denied_never)
    (λ p. p.0)
    (λ p. (p, tt))

-- the tests of rule Unhidden as one
two_former : (former : Option Cue) (t u : Cue → Bool)
    → first_broken (alone false ∷ with_former former (λ other. t other || u other) ∷ [])
    ≡ first_broken (with_former former t ∷ with_former former u ∷ [])
two_former former t u = five_as_two false false false former t u

pub unhidden_told : (list : Listing) (earlier : List Cue) (cue : Cue)
    → IsJudged list earlier cue why.Unhidden (first_broken (unhidden cue (former_cue cue earlier)))
unhidden_told list earlier cue =
    subst (IsJudged list earlier cue why.Unhidden)
    (two_former (former_cue cue earlier) (loads_before_it_hides cue) (leaves_unhidden cue))
    (judged_by_former list earlier cue why.Unhidden false (λ former. loads_before_it_hides cue former || leaves_unhidden cue former)
    denied_never
    (λ former.
    denied_like _
    (unhidden_former (is_paint cue.kind) (is_roll cue.kind) (same_roll cue.kind former.kind) (base_row cue.runs == base_row former.runs)
    former.hide cue.load)
    (hidden_like former.hide _ _ _ (λ hide. written_on cue.kind (hide ≤ cue.load)))
    (hidden_like former.hide _ _ _ (λ hide. on_written cue.kind (hide ≤ cue.load))))
    (all_asked earlier))

-- WindowBusy: two cues of one window
window_is_same : (service id : ℕ) (a b : Kind) → uses_window service id a ≡ true → uses_window service id b ≡ true → same_window a b ≡ true
window_is_same service id (kind.Win a) (kind.Win b) uses too =
    let its = and_parts (service == a.service) (id == a.id) uses in
    subst (λ (s : ℕ). ((s == b.service) && (a.id == b.id)) ≡ true) (eqb-true service a.service its.0)
    (subst (λ (i : ℕ). ((service == b.service) && (i == b.id)) ≡ true) (eqb-true id a.id its.1) too)
window_is_same service id _ _ uses too = cc

window_of_same : (a b : Kind) → same_window a b ≡ true
    → (service : ℕ) × (id : ℕ) × (uses_window service id a ≡ true) × (uses_window service id b ≡ true)
window_of_same (kind.Win a) (kind.Win b) same =
    (a.service, a.id, and_from _ _ (equal_itself a.service) (equal_itself a.id), same)
window_of_same _ _ same = cc

pub window_busy_told : (list : Listing) (earlier : List Cue) (cue : Cue)
    → IsJudged list earlier cue why.WindowBusy (first_broken (window_busy cue earlier))
window_busy_told list earlier cue = judged_by_each list earlier cue why.WindowBusy (keeps_window cue) tt (λ former. tt) kept
  where
    kept : (other : Cue) → Denies (keeps_window cue other) (IsKeptWithEach why.WindowBusy list other cue)
    kept other =
        denied_like _ (denied_where (same_window cue.kind other.kind) _
        (denied_hide other.hide (λ hide. nat_lt cue.load hide) (λ hide. hide ≤ cue.load) (λ hide. denied_le hide cue.load)))
        (λ vacated service id uses too. vacated (window_is_same service id cue.kind other.kind uses too))
        (λ vacated same. let w = window_of_same cue.kind other.kind same in vacated w.0 w.1 w.2 w.3)

-- DelayCovers: delays that start in one frame, and one that has an event
starts_denied : (a b : Option ℕ) → Denies (same_start a b) (IfSome a (λ start. IfSome b (λ other. start ≢ other)))
starts_denied None b = record { holds = λ no. tt; fails = λ yes' all. cc }
starts_denied (Some a) None = record { holds = λ no. tt; fails = λ yes' all. cc }
starts_denied (Some a) (Some b) = denied_ne a b

spared_denied : (delay : Option ℕ) (show : ℕ) (frames : List ℕ)
    → Denies (delay_has delay show frames) (IfSome delay (λ start. AllByRecursion (λ (frame : ℕ). start < frame → show ≤ frame) frames))
spared_denied None show frames = record { holds = λ no. tt; fails = λ yes' all. cc }
spared_denied (Some start) show frames =
    denied_each (λ frame. nat_lt start frame && nat_lt frame show) (λ frame. start < frame → show ≤ frame)
    (λ frame. denied_below start frame _ (denied_le show frame)) frames

-- two cues of one service have one lane, and two of one lane are of one service, or have no delays
lane_is_same : (a b : Kind) → same_service a b ≡ true → kind_lane b ≡ kind_lane a
lane_is_same (kind.Win a) (kind.Win b) same = ap lane.Service (sym (eqb-true a.service b.service same))
lane_is_same _ _ same = cc

undelayed : (a b : Kind) → same_service a b ≡ false → kind_lane b ≡ kind_lane a → (delay_of a ≡ 0) × (delay_of b ≡ 0)
undelayed (kind.Win a) (kind.Win b) other one =
    let same : b.service ≡ a.service = cc in absurd (eqb-false a.service b.service other (sym same))
undelayed (kind.Win a) _ other one = cc
undelayed _ (kind.Win b) other one = cc
undelayed _ _ other one = (refl, refl)

no_starts : (a b : Option ℕ) (show other : ℕ) (events others : List ℕ) → a ≡ None → b ≡ None
    → IfSome a (λ start. IfSome b (λ other. start ≢ other))
    × IfSome a (λ start. AllByRecursion (λ (frame : ℕ). start < frame → show ≤ frame) others)
    × IfSome b (λ start. AllByRecursion (λ (frame : ℕ). start < frame → other ≤ frame) events)
no_starts None None show other events others first second = (tt, tt, tt)
no_starts (Some a) b show other events others first second = cc
no_starts None (Some b) show other events others first second = cc

no_start : (rate : Rate) (cue : Cue) → delay_of cue.kind ≡ 0 → delay_start rate cue ≡ None
no_start rate cue none = rw none refl

-- what rule DelayCovers asks of two cues of one lane
abbrev AreClear : Rate → Cue → Cue → Type 0
AreClear rate cue other =
    IfSome (delay_start rate cue) (λ start. IfSome (delay_start rate other) (λ later. start ≢ later))
    × IsUndisturbed rate cue other
    × IsUndisturbed rate other cue

pub delay_covers_told : (list : Listing) (earlier : List Cue) (cue : Cue)
    → IsJudged list earlier cue why.DelayCovers (first_broken (delay_covers list.rate cue earlier))
delay_covers_told list earlier cue = judged_by_each list earlier cue why.DelayCovers (delays_cross list.rate cue) tt (λ former. tt) kept
  where
    clear : (other : Cue) → (same_service cue.kind other.kind ≡ true → AreClear list.rate cue other) → kind_lane other.kind ≡ kind_lane cue.kind
        → AreClear list.rate cue other
    clear other apart one =
        elim (cases_Bool (same_service cue.kind other.kind)) [
          | inl same ↦ apart same
          | inr differ ↦
              let none = undelayed cue.kind other.kind differ one in
              no_starts (delay_start list.rate cue) (delay_start list.rate other) cue.show other.show (event_frames list.rate cue)
              (event_frames list.rate other) (no_start list.rate cue none.0) (no_start list.rate other none.1)
        ]

    crossing : (other : Cue)
        → Denies (same_start (delay_start list.rate cue) (delay_start list.rate other)
        || delay_has (delay_start list.rate cue) cue.show (event_frames list.rate other)
        || delay_has (delay_start list.rate other) other.show (event_frames list.rate cue)) (AreClear list.rate cue other)
    crossing other =
        denied_like _
        (denied_both _ _
        (denied_both _ _ (starts_denied (delay_start list.rate cue) (delay_start list.rate other))
        (spared_denied (delay_start list.rate cue) cue.show (event_frames list.rate other)))
        (spared_denied (delay_start list.rate other) other.show (event_frames list.rate cue)))
        (λ p. (p.0.0, p.0.1, p.1)) (λ p. ((p.0, p.1), p.2))

    kept : (other : Cue) → Denies (delays_cross list.rate cue other) (IsKeptWithEach why.DelayCovers list other cue)
    kept other =
        denied_like _ (denied_where (same_service cue.kind other.kind) _ (crossing other)) (clear other)
        (λ apart same. apart (lane_is_same cue.kind other.kind same))

-- Share
share_denied : (list : Listing) (k : Kind)
    → Denies (lacks_share list k) ((service : ℕ) → kind_lane k ≡ lane.Service service → IsSome (share_of list service))
share_denied list (kind.Win window) = record {
  holds = λ no service is.
      let same : window.service ≡ service = cc in
      subst (λ (s : ℕ). IsSome (share_of list s)) same (is_there (share_of list window.service) no);
  fails = λ yes' all. lacked (share_of list window.service) yes' (all window.service refl);
}
  where
    is_there : (o : Option ℕ) → is_none o ≡ false → IsSome o
    is_there None none = cc
    is_there (Some bytes) none = refl

    lacked : (o : Option ℕ) → is_none o ≡ true → IsSome o → ⊥
    lacked None none there = cc
    lacked (Some bytes) none there = cc
share_denied list _ = record { holds = λ no service is. cc; fails = λ yes' all. cc }

pub share_told : (list : Listing) (earlier : List Cue) (cue : Cue) → IsJudged list earlier cue why.Share (first_broken (share list cue))
share_told list earlier cue =
    subst (IsJudged list earlier cue why.Share) (one_as_two (lacks_share list cue.kind) (former_cue cue earlier))
    (judged_by_former list earlier cue why.Share (lacks_share list cue.kind) (λ other. false) (share_denied list cue.kind)
    (λ former. denied_never) (all_asked earlier))

-- PastEnd
end_there : (line21 : Bool) (hide : Option ℕ) (P : Type 0) (Q : ℕ → Type 0) → (line21 ≡ true → IfSome hide Q)
    → ((line21 && is_none hide) ≡ true → P) → line21 ≡ true → MatchOption hide P Q
end_there line21 None P Q some none is = none (and_from line21 true is refl)
end_there line21 (Some hide) P Q some none is = some is

end_back : (line21 : Bool) (hide : Option ℕ) (P : Type 0) (Q : ℕ → Type 0) → (line21 ≡ true → MatchOption hide P Q)
    → (line21 ≡ true → IfSome hide Q) × ((line21 && is_none hide) ≡ true → P)
end_back line21 None P Q all = (λ is. tt, λ is. all (and_parts line21 true is).0)
end_back line21 (Some hide) P Q all = (all, λ is. let never : false ≡ true = (and_parts line21 false is).1 in cc)

past_end_alone : (list : Listing) (cue : Cue)
    → Denies (hides_past_end (slot_step list.rate) list.frames cue || (shows_past_end list.frames cue || window_past_end list.frames cue))
    (IsKeptAlone why.PastEnd list cue)
past_end_alone list cue =
    denied_like _ (denied_both _ _
    (denied_where (is_line21 cue.kind) _
    (denied_hide cue.hide (λ hide. nat_lt list.frames (hide + slot_step list.rate + 1)) (λ hide. hide + slot_step list.rate + 1 ≤ list.frames)
    (λ hide. denied_le (hide + slot_step list.rate + 1) list.frames)))
    (denied_both _ _
    (denied_where (is_line21 cue.kind && is_none cue.hide) _ (denied_lt cue.show list.frames))
    (denied_of_service cue.kind _
    (denied_hide cue.hide (λ hide. nat_le list.frames hide) (λ hide. hide < list.frames) (λ hide. denied_lt hide list.frames)))))
    (λ p. (
      on_channel cue.kind _ (end_there (is_line21 cue.kind) cue.hide (cue.show < list.frames) (λ hide. hide + slot_step list.rate + 1 ≤ list.frames) p.0 p.1.0),
      p.1.1,
    ))
    (λ p.
    let back = end_back (is_line21 cue.kind) cue.hide (cue.show < list.frames) (λ hide. hide + slot_step list.rate + 1 ≤ list.frames) (from_channel cue.kind _ p.0) in
    (back.0, (back.1, p.1)))

pub past_end_told : (list : Listing) (earlier : List Cue) (cue : Cue)
    → IsJudged list earlier cue why.PastEnd (first_broken (past_end (slot_step list.rate) list.frames cue))
past_end_told list earlier cue =
    subst (IsJudged list earlier cue why.PastEnd)
    (three_as_two (hides_past_end (slot_step list.rate) list.frames cue) (shows_past_end list.frames cue) (window_past_end list.frames cue)
    (former_cue cue earlier))
    (judged_by_former list earlier cue why.PastEnd _ (λ other. false) (past_end_alone list cue) (λ former. denied_never) (all_asked earlier))

-- OffSlot: the frames in which the field of a channel has a slot
abbrev HasSlots : Rate → Chan → ℕ → Option ℕ → Type 0
HasSlots rate channel show hide =
    (has_slot_in (cadence_of rate channel) show ≡ true) × IfSome hide (λ frame. has_slot_in (cadence_of rate channel) frame ≡ true)

slots_denied : (rate : Rate) (own : Chan) (show : ℕ) (hide : Option ℕ)
    → Denies (not (has_slot_in (cadence_of rate own) show) || hide_is hide (λ frame. not (has_slot_in (cadence_of rate own) frame)))
    ((channel : Chan) → lane.Channel own ≡ lane.Channel channel → HasSlots rate channel show hide)
slots_denied rate own show hide =
    denied_like _ (denied_both _ _ (denied_true (has_slot_in (cadence_of rate own) show))
    (denied_hide hide (λ frame. not (has_slot_in (cadence_of rate own) frame)) (λ frame. has_slot_in (cadence_of rate own) frame ≡ true)
    (λ frame. denied_true (has_slot_in (cadence_of rate own) frame))))
    (λ p channel is. let same : own ≡ channel = cc in subst (λ (c : Chan). HasSlots rate c show hide) same p)
    (λ all. all own refl)

off_slot_alone : (rate : Rate) (k : Kind) (show : ℕ) (hide : Option ℕ)
    → Denies (lacks_slot rate k show || hide_is hide (λ frame. lacks_slot rate k frame))
    ((channel : Chan) → kind_lane k ≡ lane.Channel channel → HasSlots rate channel show hide)
off_slot_alone rate (kind.Pop own) show hide = slots_denied rate own show hide
off_slot_alone rate (kind.Paint own) show hide = slots_denied rate own show hide
off_slot_alone rate (kind.Roll own rows) show hide = slots_denied rate own show hide
off_slot_alone rate (kind.Win window) show hide =
    record { holds = λ no channel is. cc; fails = λ yes' all. let never = passed hide yes' in cc }
  where
    passed : (o : Option ℕ) → hide_is o (λ frame. false) ≡ true → false ≡ true
    passed None is = is
    passed (Some frame) is = is

pub off_slot_told : (list : Listing) (earlier : List Cue) (cue : Cue)
    → IsJudged list earlier cue why.OffSlot (first_broken (off_slot list.rate cue))
off_slot_told list earlier cue =
    subst (IsJudged list earlier cue why.OffSlot)
    (two_as_two (lacks_slot list.rate cue.kind cue.show) (hide_is cue.hide (λ hide. lacks_slot list.rate cue.kind hide)) (former_cue cue earlier))
    (judged_by_former list earlier cue why.OffSlot _ (λ other. false) (off_slot_alone list.rate cue.kind cue.show cue.hide)
    (λ former. denied_never) (all_asked earlier))
