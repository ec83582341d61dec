use Rattle.std.proofs.Common.{◌≡◌, ◌%◌, ◌^◌, List, None, length}
use Rattle.cc_base.specs.Syntax.{open_behind}
use Rattle.cc_base.proofs.Underway.{Underway}
use Rattle.cc_base.proofs.machine.FedResume.feed.Given as goal

-- no item was refused so far, and whatever leads to the reader and the layer above, that much is read
abbrev pub invariant-loop-item : goal.invariant-loop-item
invariant-loop-item g l = record {
  unrefused : l.self.refusal ≡ None;
  underway : (given : g.M.Machine.Given) (before : List g.row.I.Denot) (above : List g.row.P.Denot)
      → g.M.Machine.Matches given (open_behind (g.M.Machine.syntax given) before) l.fn.self.machine
      → l.fn.self.taken ≡ length before % 2 ^ 64 → g.U.Upward.Took above l.fn.up
      → Underway (g.M.Machine.syntax given) (g.M.Machine.Matches given) g.U.Upward.verdict g.U.Upward.Took
      g.M.Machine.UNIT before above l.input l.item-index l.self.machine l.self.taken l.up;
}
