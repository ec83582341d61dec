use Rattle.std.proofs.Common.{◌≡◌, ◌∙◌, ◌+◌, ◌<◌, ◌^◌, List, [], length, reverse, take, ap, subst, sym, arith}
use Rattle.std.specs.Prelude.{All}
use Rattle.std.proofs.lemmas.List.{length-take, reverse-reverse}
use Rattle.cue_lists.specs.Cues.{IsCueFormed}
use Rattle.cue_lists.specs.declared.cue.Cue.{Cue}
use Rattle.dual_fit.proofs.BesideLemmas.{all_fitted, lacks_here, read_more}
use Rattle.dual_fit.proofs.EarlyLemmas.{is_early}
use Rattle.dual_fit.proofs.TimedLemmas.{added_formed, early_formed, length_timed}
use Rattle.dual_fit.specs.FittedBeside.{AreFittedBeside, AreTimes}
use Rattle.dual_fit.specs.Timed.{with_timed}
use Rattle.dual_fit.specs.Tries.{FindsTimes}
use Rattle.dual_fit.proofs.fitting.fit_each.Goals as goal

pub first_times-requires-clause-next : goal.first_times-requires-clause-next
first_times-requires-clause-next c =
    let count = c.loop-index.invariant.count in
    let most = c.cues-cues.ensures.formed.few in
    let less : c.loop-index.index < length c.cues-cues.result.now = c.loop-index-test.true in
    let same : length c.cues-cues.result.now ≡ length c.args.second.now.cues = ap length c.cues-cues.ensures.cues in
    let early = is_early c.args.second.now c.cues-cues.result.now c.loop-index.index c.index-cues-index.result c.cues-cues.ensures.formed c.requires.second
    c.cues-cues.ensures.cues c.loop-index-test.true c.index-cues-index.is in
    rw c.deref.ensures.value (record {
      one_ruled = c.requires.first;
      list_formed = c.cues-cues.ensures.formed;
      cues_formed = c.loop-index.invariant.formed;
      few = omega (arith, count, most, less, same);
      cue_formed = early.formed;
      shown = early.shown;
      hidden = early.hidden;
    })

pub returns-in-Ok-None : goal.returns-in-Ok-None
returns-in-Ok-None c =
    let count : length (take c.loop-index.index c.cues-cues.result.now) ≡ c.loop-index.index = simp length-take (omega arith) in
    lacks_here c.args.late c.args.first.now c.args.second.now c.cues-cues.result.now c.loop-index.index c.index-cues-index.result (reverse c.loop-index.fitted.items) c.takes_former-takes.result
    c.requires.apart c.requires.alone c.cues-cues.ensures.cues c.loop-index-test.true c.index-cues-index.is count c.takes_former-takes.ensures c.loop-index.invariant.are
    (rw (c.in-Ok-None.field-0-is, c.deref.ensures.value) at c.in-Ok-None.ensures)

pub loop-index-preserved : goal.loop-index-preserved
loop-index-preserved c =
    let timed : AreTimes c.args.late c.args.first.now c.args.second.now c.takes_former-takes.result (reverse c.loop-index.fitted.items) c.index-cues-index.result c.in-Ok-Some.times =
    rw (c.in-Ok-Some.field-0-is, c.deref.ensures.value) at c.in-Ok-Some.ensures in
    let added : c.add_timed.new.cues.items ≡ reverse (with_timed c.takes_former-takes.result c.in-Ok-Some.times c.index-cues-index.result (reverse c.loop-index.fitted.items)) = c.in_default.ensures in
    let early = is_early c.args.second.now c.cues-cues.result.now c.loop-index.index c.index-cues-index.result c.cues-cues.ensures.formed c.requires.second
    c.cues-cues.ensures.cues c.loop-index-test.true c.index-cues-index.is in
    let low = early.shown in
    let within = timed.within in
    let late = c.requires.late in
    let small : c.in-Ok-Some.times.show < 2 ^ 32 = omega (arith, low, within, late) in
    let formed = early_formed c.args.late c.index-cues-index.result c.in-Ok-Some.times.show c.in-Ok-Some.times.hide early late small timed.may.hide in
    let count = c.loop-index.invariant.count in
    let longer = length_timed c.takes_former-takes.result c.in-Ok-Some.times c.index-cues-index.result c.loop-index.fitted.items in
    record {
      count = ap (λ (l : List Cue). length l) added ∙ omega (arith, longer, count);
      formed = subst (λ (l : List Cue). All IsCueFormed l) (sym added)
          (added_formed c.takes_former-takes.result c.in-Ok-Some.times c.index-cues-index.result formed c.loop-index.fitted.items c.loop-index.invariant.formed);
      are = subst (λ (l : List Cue). AreFittedBeside c.args.late c.args.first.now c.args.second.now [] [] (take (c.loop-index.index + 1) c.cues-cues.result.now) l)
          (sym (ap (λ (l : List Cue). reverse l) added
          ∙ reverse-reverse (with_timed c.takes_former-takes.result c.in-Ok-Some.times c.index-cues-index.result (reverse c.loop-index.fitted.items))))
          (read_more c.args.late c.args.first.now c.args.second.now c.cues-cues.result.now c.loop-index.index c.index-cues-index.result (reverse c.loop-index.fitted.items)
          c.takes_former-takes.result c.in-Ok-Some.times c.loop-index-test.true c.index-cues-index.is c.takes_former-takes.ensures c.loop-index.invariant.are timed);
    }

pub returns-in-Ok : goal.returns-in-Ok
returns-in-Ok c =
    all_fitted c.args.late c.args.first.now c.args.second.now c.cues-cues.result.now c.loop-index.fitted.items c.loop-index.index c.in-Ok.list c.requires.apart c.requires.alone
    c.cues-cues.ensures.cues c.loop-index-test.false c.loop-index.invariant.are c.in-Ok.ensures
