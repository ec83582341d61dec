use Rattle.cdp_packets.proofs.FillLemmas.{goes_on, refused_goes_nowhere}
use Rattle.cdp_packets.proofs.laws.a_byte_is_refused_where_no_packet_goes_on.Goals as goal

pub returns-clause-begun : goal.returns-clause-begun
returns-clause-begun c = goes_on

pub returns-clause-refused : goal.returns-clause-refused
returns-clause-refused c = refused_goes_nowhere
