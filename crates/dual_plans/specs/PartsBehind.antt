-- Between crates: the program's answer stands on none of these definitions.
-- The units of a cue one after another, after its first one where that has stood.
use Rattle.std.specs.Prelude.{is_some, unwrap_or, List, Option, Some, None, map}
use Rattle.line21_author.specs.declared.unit.Unit.{Unit}
use Rattle.lanes.specs.declared.chunk.FieldChunk.{FieldChunk}
use Rattle.dual_fields.specs.declared.part.Part.{Part}
use Rattle.dual_fields.specs.ChannelParts.{later_part, parts_of}

abbrev pub part_behind : Option Unit → FieldChunk → Part
part_behind first chunk = record { chunk = chunk; first = unwrap_or first chunk.unit; later = is_some first }

abbrev pub parts_behind : Option Unit → List FieldChunk → List Part
parts_behind None chunks = parts_of chunks
parts_behind (Some first) chunks = map (later_part first) chunks
