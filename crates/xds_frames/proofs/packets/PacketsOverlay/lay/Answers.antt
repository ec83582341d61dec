use Rattle.xds_frames.proofs.PacketsLemmas.{lay_makes}
use Rattle.xds_frames.proofs.packets.PacketsOverlay.lay.Goals as goal

pub returns-clause-makes : goal.returns-clause-makes
returns-clause-makes c firsts columns frame makes bytes_are =
    lay_makes firsts columns frame c.args.self.now c.lay_on.new.self c.args.bytes c.lay_on.result makes bytes_are c.lay_on.ensures.lays
