use Rattle.services_files.proofs.EventLemmas.{events_rates, events_said, more_said}
use Rattle.services_files.proofs.laws.events_are_what_packets_say.Goals as goal

pub returns-clause-ticks : goal.returns-clause-ticks
returns-clause-ticks c = events_rates

pub returns-clause-said_packets : goal.returns-clause-said_packets
returns-clause-said_packets c = events_said

pub returns-clause-frame : goal.returns-clause-frame
returns-clause-frame c = more_said
