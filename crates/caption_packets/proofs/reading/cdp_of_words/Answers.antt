use Rattle.std.proofs.Common.{◌≡◌, ◌∙◌, ℕ, List, subst, sym}
use Rattle.cdp_packets.specs.Packets.{IsCdp}
use Rattle.caption_packets.proofs.FrameLemmas.{none_so}
use Rattle.caption_packets.proofs.reading.cdp_of_words.Goals as goal

pub returns-in_err-packet-clause-none : goal.returns-in_err-packet-clause-none
returns-in_err-packet-clause-none c =
    none_so c.from_residual.result (λ cdp carries. c.in_err-packet.ensures.none cdp carries.carries)

pub returns-in_err-read_summed_packet-clause-none : goal.returns-in_err-read_summed_packet-clause-none
returns-in_err-read_summed_packet-clause-none c =
    none_so c.from_residual-in_err-read_summed_packet.result (λ cdp carries.
    let same : cdp ≡ c.deref.result.now =
    sym (c.deref.ensures.0 ∙ c.user_bytes-cdp.ensures ∙ c.in_ok-packet.ensures.one cdp carries.carries) in
    c.in_err-read_summed_packet.ensures.none carries.packet (subst (λ (bytes : List ℕ). IsCdp carries.packet bytes) same carries.is))

pub returns-clause-one : goal.returns-clause-one
returns-clause-one c = λ cdp carries. c.user_bytes-cdp.ensures ∙ c.in_ok-packet.ensures.one cdp carries.carries
