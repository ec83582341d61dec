use Rattle.std.proofs.Common.{◌≡◌, ◌+◌, ◌*◌, ◌/◌, ◌%◌, Some, get_or, sum, refl, sym, ◌∙◌, arith}
use Rattle.cc_base.specs.Rate.{rate_of}
use Rattle.cdp_packets.proofs.WholeLemmas.{IsFramed, packet_framed, packet_of, framed_packet}
use Rattle.cdp_packets.proofs.whole_packet.read_summed_packet.Goals as goal
use Rattle.cdp_packets.proofs.whole_packet.read_summed_packet.Goals.{then-id-ne-FOOTER-via-then-id-ne-FOOTER, then-id-ne-FOOTER-via-else-id-ne-FOOTER+then-high_again-high, then-id-ne-FOOTER-via-else-id-ne-FOOTER+else-high_again-high+then-low_again-low}

pub returns-then-id-ne-FOOTER-clause-none : goal.returns-then-id-ne-FOOTER-clause-none
returns-then-id-ne-FOOTER-clause-none c packet is =
    let framed = packet_framed packet c.args.bytes.now is in
    elim c.then-id-ne-FOOTER.branch [
      | then-id-ne-FOOTER-via-then-id-ne-FOOTER w ↦ w.if-id-ne-FOOTER.true framed.id
      | then-id-ne-FOOTER-via-else-id-ne-FOOTER+then-high_again-high w ↦ w.if-high_again-high.true framed.high
      | then-id-ne-FOOTER-via-else-id-ne-FOOTER+else-high_again-high+then-low_again-low w ↦ w.if-low_again-low.true framed.low
    ]

pub returns-clause-packet : goal.returns-clause-packet
returns-clause-packet c =
    let bytes = c.args.bytes.now in
    let rate = c.in_ok-from_code.field-0 in
    let code : rate_of (get_or bytes 3 0 / 16) ≡ Some rate = sym c.in_ok-from_code.ensures in
    let total : sum bytes % 256 ≡ 0 = sym c.requires ∙ c.if-total-ne0.false in
    let framed : IsFramed bytes =
    record {
      enough = omega arith;
      first = c.if-first.false;
      second = c.if-second-ne105.false;
      long = sym c.from.ensures ∙ c.if-from-bytes.false;
      id = c.if-id-ne-FOOTER.false;
      high = c.if-high_again-high.false;
      low = c.if-low_again-low.false;
      list = c.if-not-are_sections.ensures;
      total = total;
    } in
    let counter : c.from-2.result * 256 + c.from-3.result ≡ 256 * get_or bytes 5 0 + get_or bytes 6 0 = omega (arith, c.from-2.ensures, c.from-3.ensures) in (
      packet_of bytes rate framed,
      framed_packet bytes rate framed code,
      record { rate = refl; flags = refl; counter = counter; sections = sym framed.list.joined },
    )
