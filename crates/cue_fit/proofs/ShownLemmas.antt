-- The cues so far with one more, in file order.
use Rattle.std.proofs.Common.{◌≡◌, ◌∙◌, ℕ, ◌<◌, ◌^◌, true, false, List, [], ◌∷◌, ◌++◌, get_or, set, reverse, Option, Some, None, refl, sym, ap}
use Rattle.std.specs.Prelude.{if◌then◌else◌}
use Rattle.std.proofs.lemmas.List.{reverse-reverse}
use Rattle.cue_lists.proofs.LaneCues.{reverse-cons}
use Rattle.cue_lists.specs.Cues.{IsCueFormed, IsOfKind}
use Rattle.cue_lists.specs.Lane.{kind_lane}
use Rattle.cue_lists.specs.Rules.Former.{former_cue}
use Rattle.cue_lists.specs.declared.cue.Cue.{Cue}
use Rattle.cue_lists.specs.declared.cue.Kind.{Kind}
use Rattle.cue_lists.specs.declared.cue.Kind.TheVariants as kind
use Rattle.cue_lists.specs.declared.cue.Run.{Run}
use Rattle.cue_fit.specs.Shown.{hidden_in, load_after, shown_in, takes_place, with_shown}
use Rattle.cue_fit.specs.Tries.{AreOff, IsLastOn}
use Rattle.cue_fit.proofs.FormerLemmas.{last_found, last_hidden, none_found}

-- the cues so far stay, where the cue takes no other one's place
pub unmoved : (frame : ℕ) (cue : Cue) (cues : List Cue) → takes_place cue (former_cue cue (reverse cues)) ≡ false
    → cues ≡ reverse (if takes_place cue (former_cue cue (reverse cues)) then hidden_in frame (kind_lane cue.kind) (reverse cues) else reverse cues)
unmoved frame cue cues fails = rw fails (sym (reverse-reverse cues))

module _ (frame : ℕ) (cue : Cue) (cues : List Cue) (index : ℕ) (last : IsLastOn (kind_lane cue.kind) cues index) (d : Cue) where
  former_is : former_cue cue (reverse cues) ≡ Some (get_or cues index d)
  former_is = last_found (kind_lane cue.kind) cues index last d

  pub load_is : load_after cue (Some (get_or cues index d)) ≡ load_after cue (former_cue cue (reverse cues))
  load_is = ap (λ (o : Option Cue). load_after cue o) (sym former_is)

  pub kept : takes_place cue (Some (get_or cues index d)) ≡ false
      → cues ≡ reverse (if takes_place cue (former_cue cue (reverse cues)) then hidden_in frame (kind_lane cue.kind) (reverse cues) else reverse cues)
  kept fails = unmoved frame cue cues (ap (λ (o : Option Cue). takes_place cue o) former_is ∙ fails)

  -- and else the former one is hidden with it
  pub moved : takes_place cue (Some (get_or cues index d)) ≡ true
      → set cues index (record (get_or cues index d) { hide = Some frame })
      ≡ reverse (if takes_place cue (former_cue cue (reverse cues)) then hidden_in frame (kind_lane cue.kind) (reverse cues) else reverse cues)
  moved place =
      let yes : takes_place cue (former_cue cue (reverse cues)) ≡ true = ap (λ (o : Option Cue). takes_place cue o) former_is ∙ place in
      rw yes (sym (last_hidden (kind_lane cue.kind) cues index last d frame))

-- without a former one
module _ (frame : ℕ) (cue : Cue) (cues : List Cue) (off : AreOff (kind_lane cue.kind) cues) where
  none_is : former_cue cue (reverse cues) ≡ None
  none_is = none_found (kind_lane cue.kind) cues off

  pub first_load : cue.load ≡ load_after cue (former_cue cue (reverse cues))
  first_load = ap (λ (o : Option Cue). load_after cue o) (sym none_is)

  pub first_kept : cues ≡ reverse (if takes_place cue (former_cue cue (reverse cues)) then hidden_in frame (kind_lane cue.kind) (reverse cues) else reverse cues)
  first_kept = unmoved frame cue cues (ap (λ (o : Option Cue). takes_place cue o) none_is)

-- one more cue after the cues so far, in file order
pub added : (frame : ℕ) (cue : Cue) (cues moved : List Cue)
    → moved ≡ reverse (if takes_place cue (former_cue cue (reverse cues)) then hidden_in frame (kind_lane cue.kind) (reverse cues) else reverse cues)
    → moved ++ shown_in frame cue (reverse cues) ∷ [] ≡ reverse (with_shown frame cue (reverse cues))
added frame cue cues moved is =
    ap (λ (l : List Cue). l ++ shown_in frame cue (reverse cues) ∷ []) is
    ∙ sym (reverse-cons (shown_in frame cue (reverse cues)) (if takes_place cue (former_cue cue (reverse cues)) then hidden_in frame (kind_lane cue.kind) (reverse cues) else reverse cues))

-- a cue in its ranges, with another LOAD and SHOW
pub formed_shown : (cue : Cue) (load frame : ℕ) → load < 2 ^ 32 → frame < 2 ^ 32 → IsCueFormed cue → IsCueFormed (record cue { load = load; show = frame })
formed_shown cue load frame low small formed =
    record { load = low; show = small; hide = formed.hide; some = formed.some; kind = formed.kind }

-- and with a HIDE in another frame
hidden_kind : (k : Kind) (hide : Option ℕ) (frame : ℕ) (runs : List Run) → IsOfKind k hide runs → IsOfKind k (Some frame) runs
hidden_kind (kind.Pop channel) hide frame runs is = (is.0, refl, is.2)
hidden_kind (kind.Paint channel) hide frame runs is = (is.0, refl, is.2)
hidden_kind (kind.Roll channel rows) hide frame runs is = is
hidden_kind (kind.Win w) hide frame runs is = (is.0, refl, is.2)

pub formed_hidden : (cue : Cue) (frame : ℕ) → frame < 2 ^ 32 → IsCueFormed cue → IsCueFormed (record cue { hide = Some frame })
formed_hidden cue frame small formed = record {
  load = formed.load;
  show = formed.show;
  hide = small;
  some = formed.some;
  kind = hidden_kind cue.kind cue.hide frame cue.runs formed.kind;
}
