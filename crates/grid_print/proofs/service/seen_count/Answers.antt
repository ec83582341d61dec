use Rattle.std.proofs.Common.{◌≡◌, ◌+◌, ◌≤◌, ◌∙◌, Bool, if◌then◌else◌, is_some, length, ap, sym, arith}
use Rattle.grid_print.proofs.ServiceLemmas.{count_more, shown_below}
use Rattle.grid_print.proofs.service.seen_count.Goals as goal
use Rattle.grid_print.proofs.service.seen_count.Goals.{then-is_seen, else-is_seen}

pub loop-id-preserved : goal.loop-id-preserved
loop-id-preserved g c =
    let added : c.if-is_seen.count ≡ c.loop-id.count + (if c.is_seen.result then 1 else 0) =
    elim c.if-is_seen.branch [
      | then-is_seen w ↦ w.count-is ∙ ap (λ (b : Bool). c.loop-id.count + (if b then 1 else 0)) (sym w.if-is_seen.true)
      | else-is_seen w ↦ omega (arith, w.count-is, ap (λ (b : Bool). c.loop-id.count + (if b then 1 else 0)) (sym w.if-is_seen.false))
    ] in
    let most : c.if-is_seen.count ≤ c.loop-id.count + 1 = elim c.if-is_seen.branch [ then-is_seen w ↦ omega arith | else-is_seen w ↦ omega arith ] in
    record {
      counted = λ seen behind.
          let windows = seen c.args.service in
          added ∙ ap (λ (b : Bool). c.loop-id.count + (if b then 1 else 0)) (c.is_seen.ensures seen behind)
          ∙ ap (λ n. n + (if is_some (windows c.loop-id.id) then 1 else 0)) (c.loop-id.invariant.counted seen behind)
          ∙ count_more windows c.loop-id.id;
      most = omega arith;
    }

pub returns : goal.returns
returns g c seen behind =
    let all : c.loop-id.id ≡ 8 = omega arith in
    c.loop-id.invariant.counted seen behind ∙ ap (λ n. length (shown_below (seen c.args.service) n)) all
