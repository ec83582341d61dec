use Rattle.std.proofs.Common.{ℕ, List, subst, sym}
use Rattle.cdp_packets.specs.Packets.{IsCdp}
use Rattle.caption_packets.proofs.reading.frame_of_words.Goals as goal

pub unreachable-requires : goal.unreachable-requires
unreachable-requires c =
    let carries = c.in_ok-cdp.ensures.some in
    c.in_default.ensures.none carries.packet (subst (λ (bytes : List ℕ). IsCdp carries.packet bytes) (sym c.deref.ensures.0) carries.is)

pub returns-clause-some : goal.returns-clause-some
returns-clause-some c =
    let carries = c.in_ok-cdp.ensures.some in let read = c.in-Some.ensures.packet in
    let is = subst (λ (bytes : List ℕ). IsCdp read.0 bytes) c.deref.ensures.0 read.1 in record {
      cdp = c.in_ok-cdp.cdp.items;
      carried = record { carries = carries.carries; packet = read.0; is = is };
      rate = read.2.rate;
      flags = read.2.flags;
      counter = read.2.counter;
      cc_data = c.cc_data_of.ensures read.0.sections is.sections (sym read.2.sections);
    }
