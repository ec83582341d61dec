use Rattle.std.proofs.Common.{Option, ap, ℕ}
use Rattle.dtvcc_windows.specs.Objects.{window_of}
use Rattle.dtvcc_windows.specs.Showing.{ShownWindow}
use Rattle.cc_receiver.proofs.GridLemmas.{seen_of_window}
use Rattle.cc_receiver.proofs.grids.ReceiverGrids.window.Goals as goal

pub returns-clause-seen : goal.returns-clause-seen
returns-clause-seen c = λ seen shows.
    seen_of_window _ (λ window. window_of window.now) c.window.result _ (seen c.args.service c.args.id)
    (ap (λ (a : ℕ → ℕ → Option ShownWindow). a c.args.service c.args.id) shows.seen_are)
    (c.window.ensures.received shows.bytes shows.frames shows.received shows.frames_are)
