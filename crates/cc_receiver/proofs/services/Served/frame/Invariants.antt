use Rattle.std.proofs.Common.{◌≡◌, ◌<◌, ◌+◌, ◌++◌, List, take}
use Rattle.cc_data.specs.declared.triplet.Triplet.{Triplet as TripletOf}
use Rattle.dtvcc_services.specs.Objects.{Events, all_ticks}
use Rattle.service_blocks.specs.Channels.{IsHeard}
use Rattle.cc_receiver.specs.Serving.{HasServed, followed_by, given_by}
use Rattle.cc_receiver.proofs.services.Served.frame.Given as goal

-- the frame is counted, and this many of its triplets were taken
abbrev pub invariant-loop-triplet : goal.invariant-loop-triplet
invariant-loop-triplet l = record {
  few : all_ticks l.fn.self.services < 4294967295;
  count : all_ticks l.self.services ≡ all_ticks l.fn.self.services + 1;
  served : (before : List TripletOf) (earlier last : Events) → HasServed before earlier last l.fn.self → IsHeard (before ++ l.triplets)
      → HasServed (before ++ take l.triplet-index l.triplets) (followed_by earlier last) (given_by l.fn.rate before (take l.triplet-index l.triplets)) l.self;
}
