use Rattle.std.proofs.Common.{◌≡◌, ◌∙◌, ◌+◌, ◌<◌, ◌^◌, List, [], length, reverse, take, Ok, ap, subst, sym, arith}
use Rattle.std.specs.Prelude.{All}
use Rattle.std.proofs.lemmas.List.{length-take, reverse-reverse}
use Rattle.cue_lists.proofs.RuleLists.{cue_formed}
use Rattle.cue_lists.specs.Cues.{IsCueFormed}
use Rattle.cue_lists.specs.declared.cue.Cue.{Cue}
use Rattle.cue_fit.specs.Fitted.{AreFitted, IsShow}
use Rattle.cue_fit.specs.Shown.{with_shown}
use Rattle.cue_fit.specs.Tries.{FindsShow}
use Rattle.cue_fit.proofs.FittedLemmas.{lacks_here, length_added, read_more}
use Rattle.cue_fit.proofs.FormedLemmas.{added_formed}
use Rattle.cue_fit.proofs.PlanLemmas.{cue_early}
use Rattle.cue_fit.proofs.PlannedLemmas.{all_told, empty_plan, fitted_plan}
use Rattle.cue_fit.proofs.fitting.fit_each.Goals as goal

pub first_show-requires-clause-next : goal.first_show-requires-clause-next
first_show-requires-clause-next c =
    let count = c.loop-index.invariant.count in
    let most = c.cues-cues.ensures.formed.few in
    let less : c.loop-index.index < length c.cues-cues.result.now = c.loop-index-test.true in
    let same : length c.cues-cues.result.now ≡ length c.args.list.now.cues = ap length c.cues-cues.ensures.cues in
    let are = c.loop-index.invariant.are in
    rw c.deref.ensures.value (record {
      list_formed = c.cues-cues.ensures.formed;
      cues_formed = c.loop-index.invariant.formed;
      few = omega (arith, count, most, less, same);
      cue_formed = cue_formed c.args.list.now c.cues-cues.result.now c.loop-index.index c.index-cues-index.result c.cues-cues.ensures.formed c.cues-cues.ensures.cues
          c.loop-index-test.true c.index-cues-index.is;
      planned = fitted_plan c.args.late c.args.list.now [] (take c.loop-index.index c.cues-cues.result.now) (reverse c.loop-index.fitted.items) (empty_plan c.args.list.now) are;
    })

pub first_show-requires-clause-early : goal.first_show-requires-clause-early
first_show-requires-clause-early c =
    let low = cue_early c.args.list.now c.cues-cues.result.now c.loop-index.index c.index-cues-index.result c.cues-cues.ensures.formed c.requires.ruled
    c.cues-cues.ensures.cues c.loop-index-test.true c.index-cues-index.is in
    let most = c.cues-cues.ensures.formed.frames in
    omega (arith, low, most)

pub returns-in_default : goal.returns-in_default
returns-in_default c =
    let count : length (take c.loop-index.index c.cues-cues.result.now) ≡ c.loop-index.index = simp length-take (omega arith) in
    let finds : FindsShow c.args.late c.args.list.now (reverse c.deref.result.now) c.index-cues-index.result (Ok c.in_ok-show.field-0) = c.in_ok-show.ensures in
    let none = rw (c.in_default.is, c.deref.ensures.value) at finds in
    lacks_here c.args.late c.args.list.now c.cues-cues.result.now c.loop-index.index c.index-cues-index.result (reverse c.loop-index.fitted.items) c.cues-cues.ensures.cues
    c.loop-index-test.true c.index-cues-index.is count c.loop-index.invariant.are none

pub loop-index-preserved : goal.loop-index-preserved
loop-index-preserved c =
    let finds : FindsShow c.args.late c.args.list.now (reverse c.deref.result.now) c.index-cues-index.result (Ok c.in_ok-show.field-0) = c.in_ok-show.ensures in
    let shown : IsShow c.args.late c.args.list.now (reverse c.loop-index.fitted.items) c.index-cues-index.result c.in-Some.show =
    rw (c.in-Some.is, c.deref.ensures.value) at finds in
    let added : c.add_shown.new.cues.items ≡ reverse (with_shown c.in-Some.show c.index-cues-index.result (reverse c.loop-index.fitted.items)) = c.in_default-add_shown.ensures in
    let formed = cue_formed c.args.list.now c.cues-cues.result.now c.loop-index.index c.index-cues-index.result c.cues-cues.ensures.formed c.cues-cues.ensures.cues
    c.loop-index-test.true c.index-cues-index.is in
    let low = cue_early c.args.list.now c.cues-cues.result.now c.loop-index.index c.index-cues-index.result c.cues-cues.ensures.formed c.requires.ruled
    c.cues-cues.ensures.cues c.loop-index-test.true c.index-cues-index.is in
    let most = c.cues-cues.ensures.formed.frames in
    let within = shown.within in
    let late = c.requires.late in
    let small : c.in-Some.show < 2 ^ 32 = omega (arith, low, most, within, late) in
    let count = c.loop-index.invariant.count in
    let longer = length_added c.in-Some.show c.index-cues-index.result c.loop-index.fitted.items in
    record {
      count = ap (λ (l : List Cue). length l) added ∙ omega (arith, longer, count);
      formed = subst (λ (l : List Cue). All IsCueFormed l) (sym added)
          (added_formed c.in-Some.show c.index-cues-index.result c.loop-index.fitted.items small formed c.loop-index.invariant.formed);
      are = subst (λ (l : List Cue). AreFitted c.args.late c.args.list.now [] (take (c.loop-index.index + 1) c.cues-cues.result.now) l)
          (sym (ap (λ (l : List Cue). reverse l) added ∙ reverse-reverse (with_shown c.in-Some.show c.index-cues-index.result (reverse c.loop-index.fitted.items))))
          (read_more c.args.late c.args.list.now c.cues-cues.result.now c.loop-index.index c.index-cues-index.result (reverse c.loop-index.fitted.items) c.in-Some.show
          c.loop-index-test.true c.index-cues-index.is c.loop-index.invariant.are shown);
    }

pub returns : goal.returns
returns c =
    all_told c.args.late c.args.list.now c.cues-cues.result.now c.loop-index.fitted.items c.loop-index.index c.with_cues.result c.cues-cues.ensures.cues
    c.loop-index-test.false c.loop-index.invariant.are c.with_cues.ensures
