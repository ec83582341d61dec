-- Believed: the program's answer stands on these definitions.
-- Cues with their times in slots of their channel's field.
use Rattle.std.specs.Prelude.{List, map}
use Rattle.std.specs.Option.{option_map}
use Rattle.cue_lists.specs.Cadences.{slot_from}
use Rattle.cue_lists.specs.Cadence.{Cadence}
use Rattle.cue_lists.specs.declared.cue.Cue.{Cue}

-- a cue with its LOAD, SHOW and HIDE in slots: each is the first slot that isn't before its frame
abbrev pub timed_in_slots : Cadence → Cue → Cue
timed_in_slots cadence cue = record cue {
  load = slot_from cadence cue.load;
  show = slot_from cadence cue.show;
  hide = option_map (slot_from cadence) cue.hide;
}

-- so are all the cues
abbrev pub cues_in_slots : Cadence → List Cue → List Cue
cues_in_slots cadence cues = map (timed_in_slots cadence) cues
