use Rattle.std.proofs.Common.{◌≡◌, ◌≤◌, length, ap, sym, ◌∙◌, arith}
use Rattle.std.specs.List.{concat}
use Rattle.cc_receiver.proofs.SaysLemmas.{frame_says}
use Rattle.cc_receiver.proofs.frame.Frame.head.Goals as goal

pub returns : goal.returns
returns c said are says =
    let room : length (concat said.sections) ≤ 244 = omega (arith, c.requires.few, ap length says.sections) in
    let long : length c.args.self.now.triplets.cells ≡ 81 = omega arith in
    frame_says said _ are room (says.rate, says.flags, says.counter) (c.requires.sections ∙ says.sections) (c.requires.are said.sections are (sym says.sections)) long
