use Rattle.std.proofs.Common.{◌≡◌, ◌∷◌, ◌-◌, ◌+◌, ◌∙◌, ap, sym, refl, drop, take, length, get_or}
use Rattle.mcc_files.proofs.WriteLemmas.{all_left, nine_ahead, one_filler_more, three_first}
use Rattle.mcc_files.proofs.payload_writer.fillers_ahead.Goals as goal

pub loop-count-preserved : goal.loop-count-preserved
loop-count-preserved c =
    let a : get_or c.loop-count.rest.now 0 0 ≡ 0xFA = cc in
    let b : get_or c.loop-count.rest.now 1 0 ≡ 0x00 = cc in
    let d : get_or c.loop-count.rest.now 2 0 ≡ 0x00 = cc in
    let front = three_first c.loop-count.rest.now 0xFA 0x00 0x00 c.in-250.len_at_least a b d in
    let left = all_left 3 c.loop-count.rest.now in
    one_filler_more c.args.bytes.now c.loop-count.rest.now (take (length c.loop-count.rest.now - 3) (drop 3 c.loop-count.rest.now)) c.loop-count.count (c.loop-count.count + 1)
    c.loop-count.invariant (front ∙ ap (λ r. 0xFA ∷ 0x00 ∷ 0x00 ∷ r) (sym left)) refl

pub returns : goal.returns
returns c = nine_ahead c.loop-count.count c.args.bytes.now c.loop-count.rest.now c.loop-count.invariant c.loop-count-test.false c.loop-count.auto.count-end
