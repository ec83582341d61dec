use Rattle.std.proofs.Common.{rules, subst, sym, ap, ◌∙◌}
use Rattle.cdp_packets.specs.Packets.{IsCdp}
use Rattle.cdp_packets.specs.Written.{written_packet}
use Rattle.cdp_packets.proofs.PacketLemmas.{written-is_packet}
use Rattle.cdp_packets.proofs.packets.write_cdp.Goals as goal

pub returns-clause-written : goal.returns-clause-written
returns-clause-written c = search rules

pub returns-clause-packet : goal.returns-clause-packet
returns-clause-packet c cut are joined =
    subst (IsCdp (record { rate = c.args.rate; flags = c.args.flags; counter = c.args.counter; sections = cut }))
    (ap (written_packet c.args.rate c.args.flags c.args.counter) joined ∙ sym (returns-clause-written c))
    (written-is_packet c.args.rate c.args.flags c.args.counter cut are)
