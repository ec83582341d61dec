use Rattle.std.proofs.Common.{◌++◌, ◌∷◌, [], get_or, arith, length, length-drop, ap, ◌∙◌, append_assoc}
use Rattle.mcc_files.proofs.WriteLemmas.{all_left, digits_more, letter_more, one_first, nothing_left}
use Rattle.mcc_files.proofs.payload_writer.write_bytes.Goals as goal

pub loop-rest-preserved-in-Some : goal.loop-rest-preserved-in-Some
loop-rest-preserved-in-Some g c =
    let before = c.loop-rest.invariant in
    let left = ap (λ xs. length xs) (all_left c.in-Some.size c.loop-rest.rest.now) ∙ length-drop c.in-Some.size c.loop-rest.rest.now in (
      before.0 ++ c.in-Some.letter ∷ [],
      c.push.ensures.items ∙ (ap (λ xs. xs ++ c.in-Some.letter ∷ []) before.1 ∙ append_assoc c.args.out.now.items before.0 (c.in-Some.letter ∷ [])),
      λ text is. letter_more c.args.bytes.now c.loop-rest.rest.now before.0 c.in-Some.letter c.in-Some.size before.2 c.in-Some.ensures.best text is,
      omega (arith, left, c.in-Some.ensures.some, c.in-Some.ensures.within, c.push.ensures.len, before.3),
    )

pub loop-rest-preserved : goal.loop-rest-preserved
loop-rest-preserved g c =
    let before = c.loop-rest.invariant in
    let left = ap (λ xs. length xs) (all_left 1 c.loop-rest.rest.now) ∙ length-drop 1 c.loop-rest.rest.now in
    let front = one_first c.loop-rest.rest.now c.in-len1-up.len_at_least in
    let high = c.upper_hex_digit.result in
    let low = c.upper_hex_digit-in-None.result in (
      (before.0 ++ high ∷ []) ++ low ∷ [],
      c.push-in-None-2.ensures.items ∙ (ap (λ xs. xs ++ low ∷ []) (c.push-in-None.ensures.items ∙ (ap (λ xs. xs ++ high ∷ []) before.1
          ∙ append_assoc c.args.out.now.items before.0 (high ∷ []))) ∙ append_assoc c.args.out.now.items (before.0 ++ high ∷ []) (low ∷ [])),
      λ text is. digits_more c.args.bytes.now c.loop-rest.rest.now before.0 (get_or c.loop-rest.rest.now 0 0) high low before.2 front c.in-None.ensures.best
          c.upper_hex_digit.ensures c.upper_hex_digit-in-None.ensures text is,
      omega (arith, left, c.push-in-None.ensures.len, c.push-in-None-2.ensures.len, before.3, c.in-len1-up.len_at_least),
    )

pub returns-clause-written : goal.returns-clause-written
returns-clause-written g c =
    let before = c.loop-rest.invariant in
    (before.0, nothing_left c.args.bytes.now c.loop-rest.rest.now before.0 before.2 c.in_default.len_below, before.1)
