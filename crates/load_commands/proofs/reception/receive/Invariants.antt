use Rattle.std.proofs.Common.{◌≡◌, ◌+◌, ℕ}
use Rattle.cue_list_commands.specs.Columns.{Columns}
use Rattle.cue_list_commands.specs.Frames.{GivesFrom, frames_left}
use Rattle.load_commands.specs.Receiving.{AreAllWhole, HasReceivedColumns}
use Rattle.load_commands.proofs.reception.receive.Given as goal

-- the frames that the plan gave were taken
abbrev pub invariant-loop-frame : goal.invariant-loop-frame
invariant-loop-frame l =
    (columns : Columns) → GivesFrom columns 0 l.fn.programme.frames → AreAllWhole l.fn.programme.rate columns (frames_left l.fn.programme.frames)
    → (count : ℕ) × (count + frames_left l.plan ≡ frames_left l.fn.programme.frames) × GivesFrom columns count l.plan
    × HasReceivedColumns l.fn.programme.rate columns count l.reception

abbrev pub decreases-loop-frame : goal.decreases-loop-frame
decreases-loop-frame l = frames_left l.plan
