use Rattle.std.proofs.Common.{◌≡◌, [], ◌∷◌, ◌++◌, length, sym, ap, ◌∙◌, arith, append-nil}
use Rattle.channel_packets.proofs.WrittenLemmas.{bytes_written-none, bytes_written-one, written-ended}
use Rattle.channel_packets.proofs.writer.write_bytes.Goals as goal

pub returns-in-empty : goal.returns-in-empty
returns-in-empty c =
    let last = c.as_chunks.result.1.now in
    let none : length last ≡ 0 = omega arith in
    let all : c.loop-first.first-index ≡ length c.as_chunks.result.0.now = omega arith in
    sym (append-nil c.loop-first.out.items) ∙ ap (λ ts. c.loop-first.out.items ++ ts) (sym (bytes_written-none last none))
    ∙ written-ended c.args.out.now.items c.loop-first.out.items c.args.bytes.now last c.as_chunks.result.0.now _ c.loop-first.invariant all
    c.as_chunks.ensures.front c.as_chunks.ensures.back

pub returns-in-len1-up : goal.returns-in-len1-up
returns-in-len1-up c =
    let last = c.as_chunks.result.1.now in
    let one : length last ≡ 1 = omega arith in
    let all : c.loop-first.first-index ≡ length c.as_chunks.result.0.now = omega arith in
    c.push-in-len1-up.ensures.items ∙ ap (λ t. c.loop-first.out.items ++ t ∷ []) c.triplet-in-len1-up.ensures
    ∙ ap (λ ts. c.loop-first.out.items ++ ts) (sym (bytes_written-one last one))
    ∙ written-ended c.args.out.now.items c.loop-first.out.items c.args.bytes.now last c.as_chunks.result.0.now _ c.loop-first.invariant all
    c.as_chunks.ensures.front c.as_chunks.ensures.back
