use Rattle.std.proofs.Common.{◌≤◌}
use Rattle.frame_carrier.specs.Columns.{Columns}
use Rattle.xds_frames.specs.Packets.{HasPairs, IsLaying, Laying, frames_last}
use Rattle.xds_frames.proofs.RoomLemmas.{AreUnderWay}
use Rattle.xds_frames.proofs.room.first_without_room.Given as goal

-- the packets last for the frames that are left, and stand before the next of these
abbrev pub invariant-loop-bytes : goal.invariant-loop-bytes
invariant-loop-bytes g l = (g.F.Frames.left l.frames ≤ frames_last l.packets)
    × ((columns : Columns) (laying : Laying) → g.F.Frames.Gives columns 0 l.fn.frames → HasPairs laying columns → IsLaying laying 0 l.initial.packets
    → AreUnderWay g.F.Frames.left g.F.Frames.Gives columns laying l.fn.frames l.frames l.packets)

abbrev pub decreases-loop-bytes : goal.decreases-loop-bytes
decreases-loop-bytes g l = g.F.Frames.left l.frames
