use Rattle.std.proofs.Common.{◌∙◌, ap, arith, length, length-drop, subst, take}
use Rattle.mcc_files.specs.PayloadWriting.{IsWritten}
use Rattle.mcc_files.proofs.LowLemmas.{chunks_low, payload_long, taken_low}
use Rattle.mcc_files.proofs.WriteLemmas.{all_left}
use Rattle.mcc_files.proofs.payload_writer.add_payload.Goals as goal

pub low_bytes-requires : goal.low_bytes-requires
low_bytes-requires g c =
    let long = payload_long c.requires.packet.0 c.args.packet.now c.requires.packet.1 in
    let left = ap (λ xs. length xs) (all_left 6 c.args.packet.now) ∙ length-drop 6 c.args.packet.now in
    omega (arith, c.as_chunks.ensures.front_len, left, long.0, long.1)

pub returns-clause-written : goal.returns-clause-written
returns-clause-written g c payload is =
    let words = c.as_chunks.result.0.now in
    let low = chunks_low payload c.args.packet.now words is c.as_chunks.ensures.front in
    let front = ap (take (length words)) c.low_bytes.ensures ∙ taken_low words _ in
    let written = c.write_bytes.ensures.written in
    (written.0, subst (λ bytes. IsWritten bytes written.0) (front ∙ low) written.1, written.2)
