use Rattle.cdp_packets.proofs.PlaceLemmas.{refusal_stands}
use Rattle.cdp_packets.proofs.StandingLemmas.{StandsAt-one}
use Rattle.cdp_packets.proofs.laws.refusals_stand_at_their_places.Goals as goal

pub returns-clause-one : goal.returns-clause-one
returns-clause-one c = StandsAt-one

pub returns-clause-stands : goal.returns-clause-stands
returns-clause-stands c = refusal_stands
