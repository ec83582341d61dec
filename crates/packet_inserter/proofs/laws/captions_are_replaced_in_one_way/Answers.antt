use Rattle.packet_inserter.proofs.OneWayLemmas.{inserted-triplets, inserted_once}
use Rattle.packet_inserter.proofs.laws.captions_are_replaced_in_one_way.Goals as goal

pub returns-clause-one : goal.returns-clause-one
returns-clause-one c = inserted_once

pub returns-clause-triplets : goal.returns-clause-triplets
returns-clause-triplets c = inserted-triplets
