use Rattle.std.proofs.Common.{◌≡◌, ◌∙◌, ap, arith}
use Rattle.text_output.proofs.PageLemmas.{some_none, some_then, writes_none, writes_same, writes_then}
use Rattle.grid_print.proofs.ServiceLemmas.{text_more, text_still, texts_below}
use Rattle.grid_print.proofs.service.write_windows.Goals as goal
use Rattle.grid_print.proofs.service.write_windows.Goals.{in-Some, in_default}

pub loop-id-init : goal.loop-id-init
loop-id-init g c = record { some = some_none _; text = λ seen behind. writes_none _ }

pub loop-id-preserved : goal.loop-id-preserved
loop-id-preserved g c = record {
  some = elim c.match-seen.branch [
    | in-Some w ↦ rw (w.text-is, w.out-is) (some_then _ _ _ c.loop-id.invariant.some (_, w.write_window.ensures))
    | in_default w ↦ rw (w.text-is, w.out-is) c.loop-id.invariant.some
  ];
  text = λ seen behind.
      let windows = seen c.args.service in
      elim c.match-seen.branch [
        | in-Some w ↦ rw (w.text-is, w.out-is) (writes_same _ _ _ _
            (text_more windows c.loop-id.id _ (w.in-Some.ensures.seen seen behind ∙ w.in-Some.ensures.shown))
            (writes_then _ _ _ _ _ (c.loop-id.invariant.text seen behind) w.write_window.ensures))
        | in_default w ↦ rw (w.text-is, w.out-is) (writes_same _ _ _ _
            (text_still windows c.loop-id.id (rw w.in_default.is at (c.seen.ensures.seen seen behind))) (c.loop-id.invariant.text seen behind))
      ];
}

pub returns-clause-some : goal.returns-clause-some
returns-clause-some g c = c.loop-id.invariant.some

pub returns-clause-text : goal.returns-clause-text
returns-clause-text g c seen behind =
    let all : c.loop-id.id ≡ 8 = omega arith in
    writes_same _ _ _ _ (ap (λ n. texts_below (seen c.args.service) n) all) (c.loop-id.invariant.text seen behind)
