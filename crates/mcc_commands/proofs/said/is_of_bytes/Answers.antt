use Rattle.std.proofs.Common.{ap, ◌∙◌}
use Rattle.std.specs.Cmp.Lexicographic.{other_text, same_text}
use Rattle.anc_words.specs.Writing.{packet_bytes}
use Rattle.mcc_files.specs.Payloads.{Payload}
use Rattle.mcc_commands.proofs.SaidLemmas.{tells_of_bytes}
use Rattle.mcc_commands.proofs.said.is_of_bytes.Goals as goal

pub returns : goal.returns
returns c packet is says =
    let user = ap (packet_bytes c.args.said.now.did c.args.said.now.sdid) c.user.ensures.is in
    let written = ap (λ (p : Payload). packet_bytes p.did p.sdid p.user) says in
    let words = c.as_slice.ensures.value ∙ (c.write_packet.ensures.bytes ∙ (user ∙ written)) in
    tells_of_bytes packet c.args.packet.now c.as_slice.result.now c.eq.result is words (λ yes. same_text _ _ (yes ∙ c.eq.ensures)) (λ no. other_text _ _ (no ∙ c.eq.ensures))
