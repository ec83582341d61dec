use Rattle.std.proofs.Common.{◌∙◌, ap, sym}
use Rattle.std.specs.List.{flat_map}
use Rattle.lanes.specs.CueChunks.{chunk_bytes}
use Rattle.lanes.proofs.CueChunkLemmas.{chunks_bytes}
use Rattle.lanes.proofs.chunk_list.ChunkList.bytes.Goals as goal

pub returns : goal.returns
returns c =
    c.bytes.ensures ∙ sym (chunks_bytes c.self.inside.cues.items c.self.inside.units c.self.invariant)
    ∙ ap (flat_map chunk_bytes) c.self.view_is
