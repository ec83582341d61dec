use Rattle.cdp_packets.proofs.SectionLemmas.{sections_cut_once}
use Rattle.cdp_packets.proofs.laws.sections_are_cut_once.Goals as goal

pub returns : goal.returns
returns c = sections_cut_once
