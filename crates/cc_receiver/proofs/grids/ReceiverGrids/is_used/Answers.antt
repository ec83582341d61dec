use Rattle.std.proofs.Common.{◌∙◌, Option, ap, ℕ}
use Rattle.dtvcc_windows.specs.Showing.{ShownWindow}
use Rattle.cc_receiver.proofs.grids.ReceiverGrids.is_used.Goals as goal

pub returns : goal.returns
returns c = λ seen shows unused id.
    ap (λ (a : ℕ → ℕ → Option ShownWindow). a c.args.service id) shows.seen_are
    ∙ c.is_used.ensures shows.bytes shows.frames shows.received shows.frames_are unused id
