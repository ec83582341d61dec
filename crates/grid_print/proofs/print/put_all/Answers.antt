use Rattle.std.proofs.Common.{ℕ, subst}
use Rattle.cc_base.specs.Streams.{Puts}
use Rattle.cc_receiver.specs.ReceivedServices.{received_windows}
use Rattle.cc_receiver.specs.Receivers.{displayed_grid}
use Rattle.line21_codes.specs.declared.channels.Chan.{Chan}
use Rattle.line21_screen.specs.Grid.{Grid}
use Rattle.grid_print.specs.GridTexts.{all_text}
use Rattle.grid_print.specs.Screens.{screens_of}
use Rattle.grid_print.proofs.ScreenLemmas.{grids_behind, windows_behind}
use Rattle.grid_print.proofs.print.put_all.Goals as goal

pub returns-clause-bytes : goal.returns-clause-bytes
returns-clause-bytes g c = λ frames behind.
    subst (λ (grids : Chan → Grid). Puts (g.O.Sink.written c.args.out.now) (g.O.Sink.written c.put_all_of.new.out) c.put_all_of.result
    (all_text c.args.frame (screens_of grids (received_windows frames))))
    (grids_behind frames c.args.r.now behind)
    (subst (λ (n : ℕ). Puts (g.O.Sink.written c.args.out.now) (g.O.Sink.written c.put_all_of.new.out) c.put_all_of.result
    (all_text n (screens_of (displayed_grid c.args.r.now) (received_windows frames)))) c.from.ensures
    (c.put_all_of.ensures.bytes (received_windows frames) (windows_behind frames c.args.r.now behind)))
