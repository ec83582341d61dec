use Rattle.std.proofs.Common.{arith, take, ◌∙◌, length-set}
use Rattle.std.proofs.lemmas.List.{take_more_set}
use Rattle.mcc_commands.proofs.SaidLemmas.{packet_places, payload_is, user_more, user_whole}
use Rattle.mcc_commands.proofs.said.read.Goals as goal

pub bounds-packet-7 : goal.bounds-packet-7
bounds-packet-7 c = let at = packet_places c.requires.packet c.args.packet.now c.requires.is in omega (arith, at.size)

pub bounds-packet-9 : goal.bounds-packet-9
bounds-packet-9 c = let at = packet_places c.requires.packet c.args.packet.now c.requires.is in omega (arith, at.size)

pub bounds-packet-11 : goal.bounds-packet-11
bounds-packet-11 c = let at = packet_places c.requires.packet c.args.packet.now c.requires.is in omega (arith, at.size)

pub bounds-packet-k : goal.bounds-packet-k
bounds-packet-k c =
    let at = packet_places c.requires.packet c.args.packet.now c.requires.is in
    omega (arith, at.size, at.count, c.loop-k-test.true)

pub loop-k-preserved : goal.loop-k-preserved
loop-k-preserved c =
    let end = c.loop-k-test.true in
    let long = c.loop-k.invariant.0 in (
      length-set c.loop-k.user c.loop-k.k _ ∙ long,
      λ packet is.
          let at = packet_places packet c.args.packet.now is in
          let few = at.few in
          let count = at.count in
          take_more_set c.loop-k.user c.loop-k.k _ (omega (arith, long, end, count, few))
          ∙ user_more packet c.args.packet.now (take c.loop-k.k c.loop-k.user) c.loop-k.k at (omega (arith, count, end)) (c.loop-k.invariant.1 packet is),
    )

pub returns : goal.returns
returns c packet is =
    let at = packet_places packet c.args.packet.now is in
    let end = c.loop-k-test.false in
    let most = c.loop-k.auto.k-end in
    payload_is packet _ _ _ at.did at.sdid
    (user_whole packet c.loop-k.user c.loop-k.k _ (c.loop-k.invariant.1 packet is) (omega (arith, end, most)) (omega (arith, at.count, end)))
