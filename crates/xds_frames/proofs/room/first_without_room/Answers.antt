use Rattle.std.proofs.Common.{arith}
use Rattle.cue_lists.specs.Cadences.{slot_frame, slot_from}
use Rattle.xds_frames.specs.Packets.{free_at}
use Rattle.xds_frames.proofs.RoomLemmas.{way_begun, way_ended, way_on}
use Rattle.xds_frames.proofs.room.first_without_room.Goals as goal

pub loop-bytes-init : goal.loop-bytes-init
loop-bytes-init g c = (
  c.requires,
  λ columns laying gives has is. way_begun g.F.Frames.left g.F.Frames.Gives columns laying c.args.frames c.args.packets.now gives is,
)

pub loop-bytes-preserved : goal.loop-bytes-preserved
loop-bytes-preserved g c = (
  omega (arith, c.in-Some.ensures.left, c.loop-bytes.invariant.0, c.lay_on.ensures.frame),
  λ columns laying gives has is.
      way_on g.F.Frames.left g.F.Frames.Gives columns laying c.args.frames c.loop-bytes.frames c.next.new.self c.loop-bytes.packets c.lay_on.new.self c.in-Some.bytes has
      (c.loop-bytes.invariant.1 columns laying gives has is) c.in-Some.ensures.left c.in-Some.ensures.gives (λ own n at two. (c.lay_on.ensures.lays own n at two).1) c.lay_on.ensures.frame,
)

pub returns-clause-room : goal.returns-clause-room
returns-clause-room g c = λ columns laying gives has is.
    let way = c.loop-bytes.invariant.1 columns laying gives has is in
    way_ended g.F.Frames.left g.F.Frames.Gives columns laying c.args.frames c.loop-bytes.frames c.loop-bytes.packets c.unfinished-lacking.result way c.in_default.ensures.left
    (c.unfinished-lacking.ensures (free_at laying) (slot_frame laying.cadence) laying.listed (slot_from laying.cadence c.loop-bytes.packets.frame) way.stands.writer_at)

pub returns-clause-again : goal.returns-clause-again
returns-clause-again g c = λ columns laying gives has is. c.restart.ensures.laying laying _ (c.loop-bytes.invariant.1 columns laying gives has is).stands
