use Rattle.std.proofs.Common.{◌≡◌, ◌+◌, ◌≤◌, arith}
use Rattle.scc_files.specs.Reading.{frames_of}
use Rattle.scc_commands.proofs.ImportLemmas.{frames_are, no_frames}
use Rattle.scc_commands.proofs.import.count_frames.Goals as goal

pub overflow_add-result : goal.overflow_add-result
overflow_add-result c =
    let is : c.in-Some.placed.now.0 + 1 ≡ frames_of c.args.pairs.now = frames_are c.args.pairs.now _ c.in-Some.placed.now c.in-Some.ensures.cases.0 in
    let few : frames_of c.args.pairs.now ≤ 2592000 = c.requires in omega arith

pub returns-in-Some : goal.returns-in-Some
returns-in-Some c = frames_are c.args.pairs.now _ c.in-Some.placed.now c.in-Some.ensures.cases.0

pub returns-in-None : goal.returns-in-None
returns-in-None c = no_frames c.args.pairs.now c.in-None.ensures.cases
