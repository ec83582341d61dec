use Rattle.std.proofs.Common.{◌≤◌, List, ℕ, length, sym, subst}
use Rattle.mcc_commands.proofs.ItemLemmas.{packet_said, whole_few}
use Rattle.mcc_commands.proofs.item_words.put_packet.Goals as goal

pub write_packet-requires-clause-few : goal.write_packet-requires-clause-few
write_packet-requires-clause-few c =
    let (payload, are) = c.requires.whole in
    let s = c.said-did.ensures.says payload are in
    subst (λ (u : List ℕ). length u ≤ 255) (sym s.2) (whole_few c.args.bytes.now payload are c.requires.few)

pub returns : goal.returns
returns c payload are =
    let s = c.said-did.ensures.says payload are in
    packet_said payload _ _ _ _ s.0 s.1 s.2 c.write_packet.ensures.bytes
