-- What the rules leave of the cues of a channel with their times in slots. Both SHOW and HIDE lie in frames that have a slot, so a
-- later one has a later slot; LOAD may lie in any frame, and then counts as the next slot.
use Rattle.std.proofs.Common.{◌≡◌, ℕ, ◌+◌, ◌*◌, ◌<◌, ◌≤◌, true, false, List, [], ◌∷◌, Option, Some, None, arith, ⊎_elim}
use Rattle.std.specs.Prelude.{IfSome, MatchOption, ⊤}
use Rattle.std.specs.Option.{option_map}
use Rattle.std.specs.List.{AllByRecursion}
use Rattle.std.proofs.lemmas.Bool.{cases_lt}
use Rattle.cue_lists.specs.Cells.{have_shared_cell}
use Rattle.cue_lists.specs.Rules.Lane.{is_pop}
use Rattle.cue_lists.specs.Rules.Sentences.{AreInSequence, ComesAfter, IsOnSlots, IsSound}
use Rattle.cue_lists.specs.declared.cue.Cue.{Cue}
use Rattle.cue_lists.specs.Cadences.{has_slot_in, slot_from, step_of}
use Rattle.cue_lists.specs.Cadence.{Cadence}
use Rattle.cue_lists.proofs.CadenceLemmas.{slot_before, slots_apart, slots_ended, slots_rise}
use Rattle.line21_author.specs.CueSlots.{cues_in_slots, timed_in_slots}

-- a cue by itself, in a field of this many slots
pub record IsSoundInSlots (slots : ℕ) (cue : Cue) : Type 0 where
  pub loaded : cue.load ≤ cue.show
  pub hidden : IfSome cue.hide (λ hide. cue.show < hide)
  pub apart : have_shared_cell cue.runs ≡ false
  pub stays : is_pop cue.kind ≡ true → IfSome cue.hide (λ hide. cue.show + 2 ≤ hide)
  pub ended : MatchOption cue.hide (cue.show < slots) (λ hide. hide + 2 ≤ slots)

-- a cue and its former cue
pub record FollowsInSlots (former cue : Cue) : Type 0 where
  pub link : ComesAfter 1 former cue
  pub later : former.show < cue.show
  pub vacated : is_pop cue.kind ≡ false → IfSome former.hide (λ hide. hide < cue.show)

-- the cues of a channel
abbrev pub AreInSlots : ℕ → List Cue → Type 0
AreInSlots slots [] = ⊤
AreInSlots slots (cue ∷ []) = IsSoundInSlots slots cue
AreInSlots slots (cue ∷ (next ∷ later)) = IsSoundInSlots slots cue × FollowsInSlots cue next × AreInSlots slots (next ∷ later)

module _ (c : Cadence) where
  -- each by itself
  hidden_in_slots : (show : ℕ) (hide : Option ℕ) → has_slot_in c show ≡ true → IfSome hide (λ h. show < h)
      → IfSome (option_map (slot_from c) hide) (λ h. slot_from c show < h)
  hidden_in_slots show None has hidden = tt
  hidden_in_slots show (Some h) has hidden = slot_before c show h has hidden

  stays_in_slots : (show : ℕ) (hide : Option ℕ) → IfSome hide (λ h. show + 2 * step_of c ≤ h)
      → IfSome (option_map (slot_from c) hide) (λ h. slot_from c show + 2 ≤ h)
  stays_in_slots show None stays = tt
  stays_in_slots show (Some h) stays = slots_apart c show h stays

  ended_in_slots : (frames show : ℕ) (hide : Option ℕ) → has_slot_in c show ≡ true → IfSome hide (λ h. has_slot_in c h ≡ true)
      → MatchOption hide (show < frames) (λ h. h + step_of c + 1 ≤ frames)
      → MatchOption (option_map (slot_from c) hide) (slot_from c show < slot_from c frames) (λ h. h + 2 ≤ slot_from c frames)
  ended_in_slots frames show None shows hides ended = slot_before c show frames shows ended
  ended_in_slots frames show (Some h) shows hides ended = slots_ended c h frames hides ended

  sound_in_slots : (frames : ℕ) (cue : Cue) → IsSound (step_of c) frames cue → IsOnSlots c cue
      → IsSoundInSlots (slot_from c frames) (timed_in_slots c cue)
  sound_in_slots frames cue sound on = record {
    loaded = slots_rise c cue.load cue.show (omega (arith, sound.loaded));
    hidden = hidden_in_slots cue.show cue.hide on.show sound.hidden;
    apart = sound.apart;
    stays = λ pop. stays_in_slots cue.show cue.hide (sound.stays pop);
    ended = ended_in_slots frames cue.show cue.hide on.show on.hide sound.ended;
  }

  -- and with its former cue
  rises_in_slots : (hide : Option ℕ) (frame : ℕ) → IfSome hide (λ h. h ≤ frame) → IfSome (option_map (slot_from c) hide) (λ h. h ≤ slot_from c frame)
  rises_in_slots None frame low = tt
  rises_in_slots (Some h) frame low = slots_rise c h frame low

  vacated_in_slots : (hide : Option ℕ) (load show : ℕ) → IfSome hide (λ h. has_slot_in c h ≡ true) → load < show → IfSome hide (λ h. h ≤ load)
      → IfSome (option_map (slot_from c) hide) (λ h. h < slot_from c show)
  vacated_in_slots None load show has loaded low = tt
  vacated_in_slots (Some h) load show has loaded low = slot_before c h show has (omega (arith, low, loaded))

  apart_in_slots : (hide : Option ℕ) (show : ℕ) → IfSome hide (λ h. h < show → h + 2 * step_of c ≤ show)
      → IfSome (option_map (slot_from c) hide) (λ h. h < slot_from c show → h + 2 * 1 ≤ slot_from c show)
  apart_in_slots None show apart = tt
  apart_in_slots (Some h) show apart =
      ⊎_elim
      (λ (less : h < show). λ before. slots_apart c h show (apart less))
      (λ (most : show ≤ h). let rise : slot_from c show ≤ slot_from c h = slots_rise c show h most in λ before. absurd (omega arith))
      (cases_lt h show)

  none_in_frames : (hide : Option ℕ) → option_map (slot_from c) hide ≡ None → hide ≡ None
  none_in_frames None none = none
  none_in_frames (Some h) none = cc

  link_in_slots : (former cue : Cue) → ComesAfter (step_of c) former cue → ComesAfter 1 (timed_in_slots c former) (timed_in_slots c cue)
  link_in_slots former cue link = record {
    loaded = slots_rise c former.show cue.load link.loaded;
    shown = rises_in_slots former.hide cue.show link.shown;
    apart = λ pop. apart_in_slots former.hide cue.show (link.apart pop);
    cleared = λ plain. rises_in_slots former.hide cue.load (link.cleared plain);
    continued = λ none. let continued = link.continued (none_in_frames former.hide none) in
        record { roll = continued.roll; kind = continued.kind; base = continued.base };
  }

  follows_in_slots : (former cue : Cue) → ComesAfter (step_of c) former cue → IsOnSlots c former → cue.load < cue.show
      → FollowsInSlots (timed_in_slots c former) (timed_in_slots c cue)
  follows_in_slots former cue link on loaded = record {
    link = link_in_slots former cue link;
    later = slot_before c former.show cue.show on.show (omega (arith, link.loaded, loaded));
    vacated = λ plain. vacated_in_slots former.hide cue.load cue.show on.hide loaded (link.cleared plain);
  }

  -- the cues of a channel that keep the rules
  pub in_slots : (frames : ℕ) (cues : List Cue) → AreInSequence (step_of c) frames cues → AllByRecursion (IsOnSlots c) cues
      → AreInSlots (slot_from c frames) (cues_in_slots c cues)
  in_slots frames [] sequence on = tt
  in_slots frames (cue ∷ []) sequence on = sound_in_slots frames cue sequence on.0
  in_slots frames (cue ∷ (next ∷ later)) sequence on = (
    sound_in_slots frames cue sequence.0 on.0,
    follows_in_slots cue next sequence.1 on.0 (next_loaded next later sequence.2),
    in_slots frames (next ∷ later) sequence.2 on.1,
  )
    where
      next_loaded : (next : Cue) (later : List Cue) → AreInSequence (step_of c) frames (next ∷ later) → next.load < next.show
      next_loaded next [] sequence = sequence.loaded
      next_loaded next (third ∷ later) sequence = sequence.0.loaded

-- each of them by itself
pub all_sound_in_slots : (slots : ℕ) (cues : List Cue) → AreInSlots slots cues → AllByRecursion (IsSoundInSlots slots) cues
all_sound_in_slots slots [] are = tt
all_sound_in_slots slots (cue ∷ []) are = (are, tt)
all_sound_in_slots slots (cue ∷ (next ∷ later)) are = (are.0, all_sound_in_slots slots (next ∷ later) are.2)

strict : (slots : ℕ) (cue : Cue) → IsSoundInSlots slots cue → cue.load < cue.show → IsSound 1 slots cue
strict slots cue sound loaded =
    record { loaded = loaded; hidden = sound.hidden; apart = sound.apart; stays = sound.stays; ended = ended cue.hide sound.ended }
  where
    ended : (hide : Option ℕ) → MatchOption hide (cue.show < slots) (λ h. h + 2 ≤ slots) → MatchOption hide (cue.show < slots) (λ h. h + 1 + 1 ≤ slots)
    ended None over = over
    ended (Some h) over = omega arith

-- where each cue also has a slot before its SHOW, they are in sequence, slots being frames
pub in_sequence : (slots : ℕ) (cues : List Cue) → AreInSlots slots cues → AllByRecursion (λ (cue : Cue). cue.load < cue.show) cues
    → AreInSequence 1 slots cues
in_sequence slots [] are loaded = tt
in_sequence slots (cue ∷ []) are loaded = strict slots cue are loaded.0
in_sequence slots (cue ∷ (next ∷ later)) are loaded =
    (strict slots cue are.0 loaded.0, are.1.link, in_sequence slots (next ∷ later) are.2 loaded.1)
