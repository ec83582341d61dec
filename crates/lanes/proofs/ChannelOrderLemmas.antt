-- The units of a channel stand in the order of their cues.
use Rattle.std.proofs.Common.{◌++◌, ℕ, suc, List, [], ◌∷◌, map, arith, true, false}
use Rattle.std.specs.Prelude.{if◌then◌else◌}
use Rattle.line21_codes.specs.declared.channels.Chan.{Chan}
use Rattle.cue_lists.specs.declared.cue.Cue.{Cue}
use Rattle.line21_author.specs.Channels.{is_on}
use Rattle.line21_author.specs.CueUnits.{units_of}
use Rattle.line21_author.specs.declared.unit.Unit.{Unit}
use Rattle.lanes.specs.declared.chunk.FieldChunk.{FieldChunk}
use Rattle.lanes.specs.ChannelLane.{channel_chunks, field_cue_chunks, channel_chunks_from}
use Rattle.lanes.specs.FieldPlan.{field_chunk_cue}
use Rattle.lanes.specs.LaneRoom.{AreInCueOrder, AreOfCuesFrom}

-- the units stand in the order of their cues, none of which is before the cue of this number
record StartAt (number : ℕ) (chunks : List FieldChunk) : Type 0 where
  from : AreOfCuesFrom field_chunk_cue number chunks
  order : AreInCueOrder field_chunk_cue chunks

-- the units of a cue before the units of later ones
cue_start : (number load until : ℕ) (units : List Unit) (rest : List FieldChunk) → StartAt number rest
    → StartAt number (map (λ unit. record { unit = unit; load = load; until = until; cue = number }) units ++ rest)
cue_start number load until [] rest start = start
cue_start number load until (unit ∷ units) rest start =
    let behind = cue_start number load until units rest start in
    record { from = (omega arith, behind.from); order = (behind.from, behind.order) }

-- units of cues from a later number on
of_later_cues : (number : ℕ) (chunks : List FieldChunk) → AreOfCuesFrom field_chunk_cue (suc number) chunks → AreOfCuesFrom field_chunk_cue number chunks
of_later_cues number [] from = tt
of_later_cues number (chunk ∷ chunks) from = (omega (arith, from.0), of_later_cues number chunks from.1)

channel_start : (channel : Chan) (number : ℕ) (cues : List Cue) → StartAt number (channel_chunks_from channel number cues)
channel_start channel number [] = record { from = tt; order = tt }
channel_start channel number (cue ∷ cues) =
    let behind = channel_start channel (suc number) cues in
    let later : StartAt number (channel_chunks_from channel (suc number) cues) =
    record { from = of_later_cues number (channel_chunks_from channel (suc number) cues) behind.from; order = behind.order } in
    elim (is_on channel cue.kind) as (λ on. StartAt number ((if on then field_cue_chunks number cue else []) ++ channel_chunks_from channel (suc number) cues)) [
      | true ↦ cue_start number cue.load cue.show (units_of cue) _ later
      | false ↦ later
    ]

-- the units of a channel stand in the order of their cues
pub channel_in_order : (channel : Chan) (cues : List Cue) → AreInCueOrder field_chunk_cue (channel_chunks channel cues)
channel_in_order channel cues = (channel_start channel 1 cues).order
