use Rattle.std.proofs.Common.{◌≡◌, take}
use Rattle.dual_fields.specs.Seen.{second_parts}
use Rattle.dual_plans.proofs.second_channel.second_parts.Given as goal

abbrev pub invariant-loop-part : goal.invariant-loop-part
invariant-loop-part l = l.seconds.items ≡ second_parts l.in_field (take l.part-index l.parts)
