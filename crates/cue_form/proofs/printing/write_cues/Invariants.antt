use Rattle.std.proofs.Common.{take}
use Rattle.std.specs.List.{flat_map}
use Rattle.std.specs.Vec.{vec_items}
use Rattle.cue_form.specs.Printing.{Wrote}
use Rattle.cue_form.specs.Spelling.{cue_records}
use Rattle.cue_form.proofs.printing.write_cues.Given as goal

-- the cues so far were written
abbrev pub invariant-loop-cue : goal.invariant-loop-cue
invariant-loop-cue l = Wrote vec_items l.initial.writer l.writer (flat_map cue_records (take l.cue-index l.cues))
