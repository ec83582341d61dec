use Rattle.std.proofs.Common.{◌≡◌, take}
use Rattle.std.specs.List.{flat_map}
use Rattle.cue_lists.specs.Printing.{share_list}
use Rattle.cue_fit.proofs.shown.shares_of.Given as goal

-- the shares of the services so far
abbrev pub invariant-loop-service : goal.invariant-loop-service
invariant-loop-service l = l.shares.items ≡ flat_map (share_list l.list) (take l.service-index l.service-items)
