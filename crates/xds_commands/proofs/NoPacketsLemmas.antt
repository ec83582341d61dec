-- The frames of a cue list with no packets: each pair is the captions'.
use Rattle.std.proofs.Common.{refl}
use Rattle.xds_commands.specs.XdsWords.{NoPacketsAreBuilt}

pub no_packets_built : NoPacketsAreBuilt
no_packets_built list placed = refl
