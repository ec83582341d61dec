use Rattle.std.proofs.Common.{refl}
use Rattle.xds_frames.proofs.PacketsLemmas.{lays_anew}
use Rattle.xds_frames.proofs.packets.Packets.restart.Goals as goal

pub returns-clause-laying : goal.returns-clause-laying
returns-clause-laying c laying frame is =
    lays_anew laying _ refl (c.restart-2.ensures laying.cues frame is.loads_at) (c.restart.ensures _ _ laying.listed _ is.writer_at)
