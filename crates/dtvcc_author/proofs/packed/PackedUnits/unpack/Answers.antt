use Rattle.std.proofs.Common.{◌≡◌, ◌<◌, ◌∙◌, ◌++◌, ◌∷◌, [], ap, arith, get_or, length, sym, take}
use Rattle.std.proofs.lemmas.List.{length-map, take_more}
use Rattle.dtvcc_author.proofs.PackedLemmas.{is_next}
use Rattle.dtvcc_author.proofs.packed.PackedUnits.unpack.Goals as goal

pub split_at-requires : goal.split_at-requires
split_at-requires c =
    let next = is_next c.args.self.now c.lengths-size-items.result.now c.loop-size.rest.now c.loop-size.size-index c.from.result
    c.lengths-size-items.ensures.lengths c.lengths-size-items.ensures.small c.loop-size-test.true c.from.ensures c.loop-size.invariant.rest in
    next.within

pub unit_of-requires : goal.unit_of-requires
unit_of-requires c =
    let next = is_next c.args.self.now c.lengths-size-items.result.now c.loop-size.rest.now c.loop-size.size-index c.from.result
    c.lengths-size-items.ensures.lengths c.lengths-size-items.ensures.small c.loop-size-test.true c.from.ensures c.loop-size.invariant.rest in
    omega (arith, next.small, c.split_at.ensures.front_len)

pub loop-size-preserved : goal.loop-size-preserved
loop-size-preserved c =
    let index = c.loop-size.size-index in
    let units = c.args.self.now in
    let next = is_next units c.lengths-size-items.result.now c.loop-size.rest.now index c.from.result
    c.lengths-size-items.ensures.lengths c.lengths-size-items.ensures.small c.loop-size-test.true c.from.ensures c.loop-size.invariant.rest in
    let there : index < length units = omega (arith, c.loop-size-test.true, ap length c.lengths-size-items.ensures.lengths, length-map units length) in
    let unit : c.unit_of.result.items ≡ get_or units index [] = c.unit_of.ensures ∙ c.split_at.ensures.front ∙ next.unit in
    record {
      units = c.in_ok-push.ensures ∙ ap (λ l. l ++ c.unit_of.result.items ∷ []) c.loop-size.invariant.units
          ∙ ap (λ l. take index units ++ l ∷ []) unit ∙ sym (take_more units index [] there);
      rest = c.split_at.ensures.back ∙ next.behind;
    }
