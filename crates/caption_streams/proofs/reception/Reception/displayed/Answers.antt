use Rattle.std.proofs.Common.{◌∙◌, ap}
use Rattle.line21_screen.specs.Grid.{Grid}
use Rattle.line21_codes.specs.declared.channels.Chan.{Chan}
use Rattle.caption_streams.proofs.ReceptionLemmas.{displayed_behind}
use Rattle.caption_streams.proofs.reception.Reception.displayed.Goals as goal

pub returns : goal.returns
returns c = λ frames stands.
    c.displayed.ensures ∙ ap (λ (grids : Chan → Grid). grids c.args.chan) (displayed_behind c.args.self.now frames stands)
