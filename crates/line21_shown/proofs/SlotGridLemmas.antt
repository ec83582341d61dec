-- What cues show by slots is what they show by frames, where their SHOW and HIDE are frames that have a slot.
use Rattle.std.proofs.Common.{◌≡◌, ℕ, suc, ◌-◌, ◌<◌, ◌≤◌, ◌&&◌, Bool, true, false, nat_le, nat_lt, ◌+◌, List, [], ◌∷◌, ◌++◌, reverse, Option, Some, None, All, refl, sym, ap, ◌∙◌, subst, arith, ⊎_elim}
use Rattle.std.specs.Prelude.{IfSome, if◌then◌else◌, is_none, slice_get}
use Rattle.std.specs.Option.{option_map}
use Rattle.std.specs.List.{AllByRecursion}
use Rattle.std.proofs.Math.Path.{fun_ext}
use Rattle.std.proofs.lemmas.Bool.{cases_lt}
use Rattle.std.proofs.lemmas.Bool.Decides.{nat_tests}
use Rattle.std.proofs.lemmas.List.{map-append}
use Rattle.std.proofs.lemmas.List.Elements.{recursion_from_All}
use Rattle.std.proofs.lemmas.Option.{slice_get-map}
use Rattle.line21_codes.specs.declared.channels.Chan.{Chan}
use Rattle.cue_lists.specs.AuthoredGrid.{IsSettled, IsSettledFor, Picture, authored_grid, blank, cells_of_cue, chain_of, chain_rows, shown_by, shown_from, shown_of_newest}
use Rattle.cue_lists.specs.Hide.{hide_is}
use Rattle.cue_lists.specs.Channels.{cues_on}
use Rattle.cue_lists.specs.Line21Cues.{base_row, continues}
use Rattle.cue_lists.specs.Rules.Sentences.{IsOnSlots}
use Rattle.cue_lists.specs.declared.cue.Cue.{Cue}
use Rattle.cue_lists.specs.declared.cue.Kind.{Kind}
use Rattle.cue_lists.specs.declared.cue.Kind.TheVariants as kind
use Rattle.cue_lists.proofs.ChannelCues.{All-reverse}
use Rattle.cue_lists.proofs.LaneCues.{reverse-cons}
use Rattle.cue_lists.specs.Cadences.{has_slot_in, slot_frame, slot_from}
use Rattle.frame_scheduler.specs.CueSlots.{cues_in_slots, timed_in_slots}
use Rattle.cue_lists.specs.Cadence.{Cadence}
use Rattle.cue_lists.proofs.CadenceLemmas.{frame_not_before, own_frame, slots_rise}
use Rattle.frame_scheduler.proofs.CueSlotLemmas.{cues_on_slots}

-- the cues of a chain in slots
still_none : (c : Cadence) (hide : Option ℕ) → is_none (option_map (slot_from c) hide) ≡ is_none hide
still_none c None = refl
still_none c (Some h) = refl

chain_in_slots : (c : Cadence) (cue : Cue) (earlier : List Cue) → chain_of (timed_in_slots c cue) (cues_in_slots c earlier) ≡ cues_in_slots c (chain_of cue earlier)
chain_in_slots c cue [] = refl
chain_in_slots c cue (former ∷ earlier) =
    rw (still_none c former.hide) (by_test (continues cue former) (chain_in_slots c former earlier))
  where
    by_test : (b : Bool) → chain_of (timed_in_slots c former) (cues_in_slots c earlier) ≡ cues_in_slots c (chain_of former earlier)
        → timed_in_slots c cue ∷ (if b then chain_of (timed_in_slots c former) (cues_in_slots c earlier) else [])
        ≡ cues_in_slots c (cue ∷ (if b then chain_of former earlier else []))
    by_test true rest = ap (λ (l : List Cue). timed_in_slots c cue ∷ l) rest
    by_test false rest = refl

-- they have the same cells
cells_in_slots : (c : Cadence) (o : Option Cue) → cells_of_cue (option_map (timed_in_slots c) o) ≡ cells_of_cue o
cells_in_slots c None = refl
cells_in_slots c (Some cue) = refl

rows_in_slots : (c : Cadence) (rows base : ℕ) (chain : List Cue) → chain_rows rows base (cues_in_slots c chain) ≡ chain_rows rows base chain
rows_in_slots c rows base chain =
    fun_ext (λ row. fun_ext (λ column. ap (λ (picture : Picture). if nat_le row base && nat_lt base (row + rows) then picture base column else None)
    (ap cells_of_cue (slice_get-map (timed_in_slots c) chain (base - row)) ∙ cells_in_slots c (slice_get chain (base - row)))))

from_in_slots : (c : Cadence) (k : Kind) (cue : Cue) (earlier : List Cue) → shown_from k (timed_in_slots c cue) (cues_in_slots c earlier) ≡ shown_from k cue earlier
from_in_slots c (kind.Pop channel) cue earlier = refl
from_in_slots c (kind.Paint channel) cue earlier = refl
from_in_slots c (kind.Roll channel rows) cue earlier =
    ap (chain_rows rows (base_row cue.runs)) (chain_in_slots c cue earlier) ∙ rows_in_slots c rows (base_row cue.runs) (chain_of cue earlier)
from_in_slots c (kind.Win window) cue earlier = refl

-- the reverse of cues in slots
reverse_in_slots : (c : Cadence) (cues : List Cue) → reverse (cues_in_slots c cues) ≡ cues_in_slots c (reverse cues)
reverse_in_slots c [] = refl
reverse_in_slots c (cue ∷ cues) =
    reverse-cons (timed_in_slots c cue) (cues_in_slots c cues)
    ∙ ap (λ (l : List Cue). l ++ timed_in_slots c cue ∷ []) (reverse_in_slots c cues)
    ∙ sym (map-append (timed_in_slots c) (reverse cues) (cue ∷ []))
    ∙ ap (cues_in_slots c) (sym (reverse-cons cue cues))

-- after frame f this many slots have come
module _ (c : Cadence) (f m : ℕ) (come : slot_from c (suc f) ≡ m) where
  -- a time whose slot has come has come
  pub has_come : (s : ℕ) → slot_from c s < m → s ≤ f
  has_come s below =
      ⊎_elim
      (λ (late : f < s). let rise : slot_from c (suc f) ≤ slot_from c s = slots_rise c (suc f) s (omega arith) in omega arith)
      (λ (early : s ≤ f). early)
      (cases_lt f s)

  -- and so has the slot of a time that has come, where its frame has one
  pub slot_has_come : (s : ℕ) → has_slot_in c s ≡ true → s ≤ f → slot_from c s < m
  slot_has_come s some low =
      ⊎_elim
      (λ (below : slot_from c s < m). below)
      (λ (late : m ≤ slot_from c s).
      let behind : suc f ≤ slot_frame c (slot_from c s) = frame_not_before c (suc f) (slot_from c s) (omega arith) in
      let own : slot_frame c (slot_from c s) ≡ s = own_frame c s some in
      omega arith)
      (cases_lt (slot_from c s) m)

  -- before any slot nothing is shown
  none_shown : m ≡ 0 → (cues : List Cue) → AllByRecursion (IsOnSlots c) cues → shown_by f cues ≡ []
  none_shown none [] on = refl
  none_shown none (cue ∷ cues) on =
      let test : nat_le cue.show f ≡ false = ⊎_elim
      (λ (late : f < cue.show). let l : f < cue.show = late in by_late l)
      (λ (early : cue.show ≤ f). let below : slot_from c cue.show < m = slot_has_come cue.show on.0.show early in absurd (omega arith))
      (cases_lt f cue.show) in
      rw test (none_shown none cues on.1)
    where
      by_late : f < cue.show → nat_le cue.show f ≡ false
      by_late late = grind (arith, nat_tests)

-- at a frame after slot k
module _ (c : Cadence) (f k : ℕ) (come : slot_from c (suc f) ≡ suc k) where
  same_test : (s : ℕ) → has_slot_in c s ≡ true → nat_le (slot_from c s) k ≡ nat_le s f
  same_test s some =
      ⊎_elim
      (λ (late : f < s).
      ⊎_elim
      (λ (below : slot_from c s < suc k). let early : s ≤ f = has_come c f (suc k) come s below in absurd (omega arith))
      (λ (above : suc k ≤ slot_from c s). both_false above late)
      (cases_lt (slot_from c s) (suc k)))
      (λ (early : s ≤ f). both_true (slot_has_come c f (suc k) come s some early) early)
      (cases_lt f s)
    where
      both_false : suc k ≤ slot_from c s → f < s → nat_le (slot_from c s) k ≡ nat_le s f
      both_false above late =
          let one : nat_le (slot_from c s) k ≡ false = grind (arith, nat_tests) in
          let two : nat_le s f ≡ false = grind (arith, nat_tests) in
          one ∙ sym two

      both_true : slot_from c s < suc k → s ≤ f → nat_le (slot_from c s) k ≡ nat_le s f
      both_true below early =
          let one : nat_le (slot_from c s) k ≡ true = grind (arith, nat_tests) in
          let two : nat_le s f ≡ true = grind (arith, nat_tests) in
          one ∙ sym two

  same_past : (hide : Option ℕ) → IfSome hide (λ h. has_slot_in c h ≡ true) → hide_is (option_map (slot_from c) hide) (λ hide. nat_le hide k) ≡ hide_is hide (λ hide. nat_le hide f)
  same_past None on = refl
  same_past (Some h) on = same_test h on

  same_newest : (cues : List Cue) → AllByRecursion (IsOnSlots c) cues → shown_of_newest k (cues_in_slots c cues) ≡ shown_of_newest f cues
  same_newest [] on = refl
  same_newest (cue ∷ earlier) on =
      rw (same_past cue.hide on.0.hide) (ap (λ (g : Picture). if hide_is cue.hide (λ hide. nat_le hide f) then blank else g) (from_in_slots c cue.kind cue earlier))

  same_shown : (cues : List Cue) → AllByRecursion (IsOnSlots c) cues → shown_of_newest k (shown_by k (cues_in_slots c cues)) ≡ shown_of_newest f (shown_by f cues)
  same_shown [] on = refl
  same_shown (cue ∷ earlier) on =
      rw (same_test cue.show on.0.show) (by_test (nat_le cue.show f) (same_newest (cue ∷ earlier) on) (same_shown earlier on.1))
    where
      by_test : (b : Bool) → shown_of_newest k (cues_in_slots c (cue ∷ earlier)) ≡ shown_of_newest f (cue ∷ earlier)
          → shown_of_newest k (shown_by k (cues_in_slots c earlier)) ≡ shown_of_newest f (shown_by f earlier)
          → shown_of_newest k (if b then cues_in_slots c (cue ∷ earlier) else shown_by k (cues_in_slots c earlier))
          ≡ shown_of_newest f (if b then cue ∷ earlier else shown_by f earlier)
      by_test true here rest = here
      by_test false here rest = rest

  -- a settled frame is settled in slots
  settled_cue : (cue : Cue) → IsOnSlots c cue → IsSettledFor f cue → IsSettledFor k (timed_in_slots c cue)
  settled_cue cue on settled plain loaded =
      let load : cue.load ≤ f = has_come c f (suc k) come cue.load (omega (arith, loaded)) in
      let shown : slot_from c cue.show < suc k = slot_has_come c f (suc k) come cue.show on.show (settled plain load) in
      omega arith

  settled_cues : (cues : List Cue) → AllByRecursion (IsOnSlots c) cues → AllByRecursion (IsSettledFor f) cues → AllByRecursion (IsSettledFor k) (cues_in_slots c cues)
  settled_cues [] on settled = tt
  settled_cues (cue ∷ cues) on settled = (settled_cue cue on.0 settled.0, settled_cues cues on.1 settled.1)

-- the cues of a channel, the newest first
back_on_slots : (c : Cadence) (channel : Chan) (cues : List Cue) → All (IsOnSlots c) (cues_on channel cues) → AllByRecursion (IsOnSlots c) (reverse (cues_on channel cues))
back_on_slots c channel cues on =
    recursion_from_All (IsOnSlots c) (reverse (cues_on channel cues)) (All-reverse (IsOnSlots c) (cues_on channel cues) on)

back_in_slots : (c : Cadence) (channel : Chan) (cues : List Cue) → reverse (cues_on channel (cues_in_slots c cues)) ≡ cues_in_slots c (reverse (cues_on channel cues))
back_in_slots c channel cues = ap reverse (cues_on_slots c channel cues) ∙ reverse_in_slots c (cues_on channel cues)

-- the authored grid at a frame is the grid of the cues in slots at the last slot that has come
pub grid_in_slots : (c : Cadence) (f k : ℕ) → slot_from c (suc f) ≡ suc k → (channel : Chan) (cues : List Cue) → All (IsOnSlots c) (cues_on channel cues)
    → authored_grid channel (cues_in_slots c cues) k ≡ authored_grid channel cues f
grid_in_slots c f k come channel cues on =
    ap (λ (back : List Cue). shown_of_newest k (shown_by k back)) (back_in_slots c channel cues)
    ∙ same_shown c f k come (reverse (cues_on channel cues)) (back_on_slots c channel cues on)

-- and before any slot it is blank
pub grid_before_slots : (c : Cadence) (f : ℕ) → slot_from c (suc f) ≡ 0 → (channel : Chan) (cues : List Cue) → All (IsOnSlots c) (cues_on channel cues)
    → authored_grid channel cues f ≡ blank
grid_before_slots c f come channel cues on =
    ap (shown_of_newest f) (none_shown c f 0 come refl (reverse (cues_on channel cues)) (back_on_slots c channel cues on))

pub settled_in_slots : (c : Cadence) (f k : ℕ) → slot_from c (suc f) ≡ suc k → (channel : Chan) (cues : List Cue) → All (IsOnSlots c) (cues_on channel cues)
    → IsSettled channel cues f → AllByRecursion (IsSettledFor k) (cues_on channel (cues_in_slots c cues))
settled_in_slots c f k come channel cues on settled =
    subst (AllByRecursion (IsSettledFor k)) (sym (cues_on_slots c channel cues))
    (settled_cues c f k come (cues_on channel cues) (recursion_from_All (IsOnSlots c) (cues_on channel cues) on)
    (recursion_from_All (IsSettledFor f) (cues_on channel cues) settled))
