-- Believed: the program's answer stands on these definitions.
-- The units of a channel's cues, each with the first one of its cue.
use Rattle.std.specs.Prelude.{ℕ, suc, true, false, if◌then◌else◌, List, [], ◌∷◌, ◌++◌, map}
use Rattle.line21_codes.specs.declared.channels.Chan.{Chan}
use Rattle.cue_lists.specs.declared.cue.Cue.{Cue}
use Rattle.line21_author.specs.Channels.{is_on}
use Rattle.line21_author.specs.declared.unit.Unit.{Unit}
use Rattle.lanes.specs.declared.chunk.FieldChunk.{FieldChunk}
use Rattle.lanes.specs.ChannelLane.{field_cue_chunks}
use Rattle.dual_fields.specs.declared.part.Part.{Part}

-- a unit after its cue's first one
abbrev pub later_part : Unit → FieldChunk → Part
later_part first chunk = record { chunk = chunk; first = first; later = true }

-- the units of one cue
abbrev pub parts_of : List FieldChunk → List Part
parts_of [] = []
parts_of (chunk ∷ chunks) = record { chunk = chunk; first = chunk.unit; later = false } ∷ map (later_part chunk.unit) chunks

-- the units of the cues on a channel, where the first cue has this number
abbrev pub parts_from : Chan → ℕ → List Cue → List Part
parts_from channel number [] = []
parts_from channel number (cue ∷ cues) =
    (if is_on channel cue.kind then parts_of (field_cue_chunks number cue) else []) ++ parts_from channel (suc number) cues

-- in the order of the cues, which are numbered from 1
abbrev pub channel_parts : Chan → List Cue → List Part
channel_parts channel cues = parts_from channel 1 cues
