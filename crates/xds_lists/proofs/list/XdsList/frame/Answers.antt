use Rattle.xds_lists.proofs.PackedLemmas.{head_from}
use Rattle.xds_lists.proofs.list.XdsList.frame.Goals as goal

pub returns : goal.returns
returns c = λ listed rest split.
    head_from c.self.inside.heads.items c.self.inside.texts.items c.args.self.now c.args.index c.index.result.now listed rest
    c.self.invariant c.self.view_is c.requires c.index.ensures split
