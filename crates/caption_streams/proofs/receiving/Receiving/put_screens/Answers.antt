use Rattle.std.proofs.Common.{ℕ, subst}
use Rattle.cc_base.specs.Streams.{Puts}
use Rattle.grid_print.specs.GridTexts.{all_text}
use Rattle.grid_print.specs.Screens.{screens_of}
use Rattle.line21_codes.specs.declared.channels.Chan.{Chan}
use Rattle.line21_screen.specs.Grid.{Grid}
use Rattle.caption_streams.specs.Receptions.{grids_behind, windows_behind}
use Rattle.caption_streams.proofs.ReceptionLemmas.{displayed_behind, shows_behind}
use Rattle.caption_streams.proofs.receiving.Receiving.put_screens.Goals as goal

pub returns-clause-bytes : goal.returns-clause-bytes
returns-clause-bytes g c = λ frames stands.
    let reception = c.args.self.now.reception in
    subst (λ (n : ℕ). Puts (g.O.Sink.written c.args.out.now) (g.O.Sink.written c.put_all_of.new.out) c.put_all_of.result
    (all_text n (screens_of (grids_behind reception frames) (windows_behind reception frames)))) (c.last_number.ensures frames stands)
    (subst (λ (grids : Chan → Grid). Puts (g.O.Sink.written c.args.out.now) (g.O.Sink.written c.put_all_of.new.out) c.put_all_of.result
    (all_text c.last_number.result (screens_of grids (windows_behind reception frames)))) (displayed_behind reception frames stands)
    (c.put_all_of.ensures.bytes (windows_behind reception frames) (shows_behind reception frames stands)))
