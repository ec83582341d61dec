use Rattle.std.proofs.Common.{◌≡◌, map}
use Rattle.std.specs.List.{range_with_len}
use Rattle.load_commands.specs.LoadList.{load_cue}
use Rattle.load_commands.proofs.list.load_cues.Given as goal

-- the captions so far
abbrev pub invariant-loop-number : goal.invariant-loop-number
invariant-loop-number l = l.cues.items ≡ map load_cue (range_with_len 0 l.number)
