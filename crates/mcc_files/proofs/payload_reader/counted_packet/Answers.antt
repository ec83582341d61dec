use Rattle.std.proofs.Common.{◌≡◌, ◌∷◌, ◌+◌, ◌-◌, ◌%◌, ◌∙◌, ap, drop, get_or, length, refl, sym, take}
use Rattle.mcc_files.specs.Payloads.{Payload, checksum_byte}
use Rattle.mcc_files.proofs.AheadLemmas.{packet_counted, packet_is}
use Rattle.mcc_files.proofs.WriteLemmas.{all_left, three_first}
use Rattle.mcc_files.proofs.payload_reader.counted_packet.Goals as goal

pub returns-clause-packet : goal.returns-clause-packet
returns-clause-packet c =
    let bytes = c.args.bytes.now in
    let did = get_or bytes 0 0 in
    let sdid = get_or bytes 1 0 in
    let count = get_or bytes 2 0 in
    let rest = take (length bytes - 3) (drop 3 bytes) in
    let user = c.in_ok-last.user.now in
    let last = c.in_ok-last.last.now in
    let spelled = three_first bytes did sdid count c.in-len3-up.len_at_least refl refl refl ∙ ap (λ r. did ∷ sdid ∷ count ∷ r) (sym (all_left 3 bytes)) in
    let long : length user ≡ count = c.if-user-from.false ∙ c.from.ensures in
    (record { did = did; sdid = sdid; user = user }, packet_is bytes rest user did sdid count last spelled c.in_ok-last.ensures.cases.0 long (c.if-last-sum.false ∙ c.checksum_byte-sum.ensures))

pub returns-clause-counted : goal.returns-clause-counted
returns-clause-counted c =
    let bytes = c.args.bytes.now in
    let did = get_or bytes 0 0 in
    let sdid = get_or bytes 1 0 in
    let count = get_or bytes 2 0 in
    let rest = take (length bytes - 3) (drop 3 bytes) in
    let user = c.in_ok-last.user.now in
    let last = c.in_ok-last.last.now in
    let payload : Payload = record { did = did; sdid = sdid; user = user } in
    let spelled = three_first bytes did sdid count c.in-len3-up.len_at_least refl refl refl ∙ ap (λ r. did ∷ sdid ∷ count ∷ r) (sym (all_left 3 bytes)) in
    let long : length user ≡ count = c.if-user-from.false ∙ c.from.ensures in
    let right : last ≡ checksum_byte payload = c.if-last-sum.false ∙ c.checksum_byte-sum.ensures in
    let are = packet_is bytes rest user did sdid count last spelled c.in_ok-last.ensures.cases.0 long right in
    packet_counted payload bytes _ last are right (ap (λ n. 4 + n) (c.from-2.ensures ∙ sym long)) (sym long) (ap (λ n. (n + last) % 256) (sym c.if-last-sum.false))
