use Rattle.std.proofs.Common.{◌∙◌, ap}
use Rattle.line21_screen.specs.Grid.{Grid}
use Rattle.cc_receiver.proofs.ReceivedLemmas.{shown_received}
use Rattle.cc_receiver.proofs.receiver.Receiver.cell.Goals as goal

pub returns-clause-shown : goal.returns-clause-shown
returns-clause-shown c = c.cell.ensures ∙ ap (λ (g : Grid). g c.args.row c.args.col) c.displayed.ensures

pub returns-clause-received : goal.returns-clause-received
returns-clause-received c = λ bytes frames had are.
    let shown = c.displayed.ensures ∙ shown_received frames bytes c.args.self.now c.args.chan had are in
    c.cell.ensures ∙ ap (λ (g : Grid). g c.args.row c.args.col) shown
