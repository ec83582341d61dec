use Rattle.std.proofs.Common.{map, take}
use Rattle.std.specs.List.{flat_map}
use Rattle.std.specs.Vec.{vec_items}
use Rattle.cue_form.specs.Printing.{Wrote, share_list}
use Rattle.cue_form.specs.Spelling.{share_record}
use Rattle.cue_form.proofs.printing.write_shares.Given as goal

-- the shares of the services so far were written
abbrev pub invariant-loop-service : goal.invariant-loop-service
invariant-loop-service l =
    Wrote vec_items l.initial.writer l.writer (map share_record (flat_map (share_list l.list) (take l.service-index l.service-items)))
