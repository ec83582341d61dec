use Rattle.std.proofs.Common.{◌∙◌, sym}
use Rattle.caption_streams.proofs.ReceptionLemmas.{none_yet}
use Rattle.caption_streams.proofs.receiving.Receiving.last_number.Goals as goal

pub returns-then-frames-eq0 : goal.returns-then-frames-eq0
returns-then-frames-eq0 c = λ frames stands. none_yet c.args.self.now.reception frames stands (sym c.frames.ensures ∙ c.if-frames-eq0.true)
