-- Cues with their times in slots.
use Rattle.std.proofs.Common.{◌≡◌, ℕ, ◌<◌, ◌^◌, Bool, true, false, cond, List, [], ◌∷◌, Option, Some, None, All, refl, ap, ◌∙◌, arith}
use Rattle.std.specs.Prelude.{IsSome}
use Rattle.std.specs.Option.{option_map}
use Rattle.std.proofs.lemmas.List.Elements.{All-map, All-weaker}
use Rattle.line21_codes.specs.declared.channels.Chan.{Chan}
use Rattle.cue_lists.specs.Channels.{cues_on, is_on}
use Rattle.cue_lists.specs.Cues.{IsCueFormed, IsFrameOrNone, IsOfKind}
use Rattle.cue_lists.specs.declared.cue.Cue.{Cue}
use Rattle.cue_lists.specs.declared.cue.Kind.{Kind}
use Rattle.cue_lists.specs.declared.cue.Kind.TheVariants as kind
use Rattle.cue_lists.specs.declared.cue.Run.{Run}
use Rattle.cue_lists.specs.Cadences.{slot_from}
use Rattle.cue_lists.specs.Cadence.{Cadence}
use Rattle.cue_lists.specs.Cadence.TheVariants.{EveryFrame}
use Rattle.cue_lists.proofs.CadenceLemmas.{slot_low}
use Rattle.line21_author.specs.CueSlots.{cues_in_slots, timed_in_slots}

-- where each frame has a slot, cues in slots are the cues
pub every_hide : (hide : Option ℕ) → option_map (slot_from EveryFrame) hide ≡ hide
every_hide None = refl
every_hide (Some h) = refl

pub every_cue : (cue : Cue) → timed_in_slots EveryFrame cue ≡ cue
every_cue cue = ap (λ (hide : Option ℕ). record cue { hide = hide }) (every_hide cue.hide)

pub every_cues : (cues : List Cue) → cues_in_slots EveryFrame cues ≡ cues
every_cues [] = refl
every_cues (cue ∷ cues) =
    ap (λ (first : Cue). first ∷ cues_in_slots EveryFrame cues) (every_cue cue) ∙ ap (λ (rest : List Cue). cue ∷ rest) (every_cues cues)

-- a cue stays on its channel
pub cues_on_slots : (c : Cadence) (channel : Chan) (cues : List Cue) → cues_on channel (cues_in_slots c cues) ≡ cues_in_slots c (cues_on channel cues)
cues_on_slots c channel [] = refl
cues_on_slots c channel (cue ∷ cues) = by_test (is_on channel cue.kind) (cues_on_slots c channel cues)
  where
    by_test : (b : Bool) → cues_on channel (cues_in_slots c cues) ≡ cues_in_slots c (cues_on channel cues)
        → cond b (timed_in_slots c cue ∷ cues_on channel (cues_in_slots c cues)) (cues_on channel (cues_in_slots c cues))
        ≡ cues_in_slots c (cond b (cue ∷ cues_on channel cues) (cues_on channel cues))
    by_test true rest = ap (λ (l : List Cue). timed_in_slots c cue ∷ l) rest
    by_test false rest = rest

-- and in its ranges
hide_formed : (c : Cadence) (hide : Option ℕ) → IsFrameOrNone hide → IsFrameOrNone (option_map (slot_from c) hide)
hide_formed c None formed = formed
hide_formed c (Some h) formed = let low = slot_low c h in omega arith

still_hidden : (c : Cadence) (hide : Option ℕ) → IsSome hide → IsSome (option_map (slot_from c) hide)
still_hidden c None some = some
still_hidden c (Some h) some = some

kind_formed : (c : Cadence) (k : Kind) (hide : Option ℕ) (runs : List Run) → IsOfKind k hide runs → IsOfKind k (option_map (slot_from c) hide) runs
kind_formed c (kind.Pop channel) hide runs of_kind = (of_kind.0, still_hidden c hide of_kind.1, of_kind.2)
kind_formed c (kind.Paint channel) hide runs of_kind = (of_kind.0, still_hidden c hide of_kind.1, of_kind.2)
kind_formed c (kind.Roll channel rows) hide runs of_kind = of_kind
kind_formed c (kind.Win window) hide runs of_kind = (of_kind.0, still_hidden c hide of_kind.1, of_kind.2)

pub cue_formed_in_slots : (c : Cadence) (cue : Cue) → IsCueFormed cue → IsCueFormed (timed_in_slots c cue)
cue_formed_in_slots c cue formed =
    let load = slot_low c cue.load in
    let show = slot_low c cue.show in
    let load_is : cue.load < 2 ^ 32 = formed.load in
    let show_is : cue.show < 2 ^ 32 = formed.show in
    record {
      load = omega arith;
      show = omega arith;
      hide = hide_formed c cue.hide formed.hide;
      some = formed.some;
      kind = kind_formed c cue.kind cue.hide cue.runs formed.kind;
    }

pub cues_formed_in_slots : (c : Cadence) (cues : List Cue) → All IsCueFormed cues → All IsCueFormed (cues_in_slots c cues)
cues_formed_in_slots c cues formed =
    All-map IsCueFormed (timed_in_slots c) cues (All-weaker IsCueFormed (λ cue. IsCueFormed (timed_in_slots c cue)) (cue_formed_in_slots c) cues formed)
