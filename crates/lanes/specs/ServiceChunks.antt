-- Believed in part: the program's answer stands on some of these definitions.
-- The units of a service: its window cues' in file order, each with what its cue asks of its place (CTA-708-E, 7.1).
use Rattle.std.specs.Prelude.{ℕ, suc, List, [], ◌∷◌, ◌++◌, Option, Some, None, map}
use Rattle.cc_base.specs.declared.rate.Rate.{Rate}
use Rattle.cue_lists.specs.declared.cue.Cue.{Cue}
use Rattle.dtvcc_author.specs.Captions.{caption_of}
use Rattle.dtvcc_author.specs.CueUnits.{window_cue_units}
use Rattle.dtvcc_author.specs.declared.caption.Caption.{Caption}
use Rattle.lanes.specs.Chunks.{ServiceChunk}

-- the units of the caption of this number, if there is one: they stand from LOAD on, and before what shows the caption
abbrev pub chunks_with : ℕ → Option Caption → List (List ℕ) → List ServiceChunk
chunks_with number None units = []
chunks_with number (Some c) units =
    map (λ unit. record { unit = unit; load = c.load; until = c.starts; cue = number }) units

-- one of them
abbrev pub chunk_of : ℕ → Caption → List ℕ → ServiceChunk
chunk_of number c unit = record { unit = unit; load = c.load; until = c.starts; cue = number }

-- the units of the cue of this number, where it is one of the service
abbrev pub service_cue_chunks : Rate → ℕ → ℕ → Cue → List ServiceChunk
service_cue_chunks rate service number cue = chunks_with number (caption_of rate service cue) (window_cue_units cue)

-- the units of the cues of a service, where the first cue has this number: for each cue of the service its caption's
abbrev pub service_chunks_from : Rate → ℕ → ℕ → List Cue → List ServiceChunk
service_chunks_from rate service number [] = []
service_chunks_from rate service number (cue ∷ cues) =
    chunks_with number (caption_of rate service cue) (window_cue_units cue)
    ++ service_chunks_from rate service (suc number) cues

-- the units of the cues of a service, in the order of the cues, which are numbered from 1
abbrev pub service_chunks : Rate → ℕ → List Cue → List ServiceChunk
service_chunks rate service cues = service_chunks_from rate service 1 cues

-- the number of a unit's cue
abbrev pub service_chunk_cue : ServiceChunk → ℕ
service_chunk_cue chunk = chunk.cue
