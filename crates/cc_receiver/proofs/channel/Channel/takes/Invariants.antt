use Rattle.std.proofs.Common.{◌++◌, List, take}
use Rattle.cc_data.specs.declared.triplet.Triplet.{Triplet as TripletOf}
use Rattle.cc_receiver.specs.Channels.{HasHeard}
use Rattle.cc_receiver.proofs.channel.Channel.takes.Given as goal

-- this many triplets were taken
abbrev pub invariant-loop-triplet : goal.invariant-loop-triplet
invariant-loop-triplet l = (before : List TripletOf) → HasHeard before l.fn.self → HasHeard (before ++ take l.triplet-index l.triplets) l.self
