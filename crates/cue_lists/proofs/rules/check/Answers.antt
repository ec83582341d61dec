use Rattle.std.proofs.Common.{◌≡◌, ◌+◌, ◌≤◌, List, length, take, reverse, Ok, Err, subst, sym, ◌∙◌, ap, arith}
use Rattle.std.proofs.lemmas.List.{length-take, take_all}
use Rattle.std.proofs.lemmas.Result.{err_from_is_err_and}
use Rattle.cue_lists.specs.Rules.{IsRuled, HasFault}
use Rattle.cue_lists.specs.Rules.Tests.{AreFaultless}
use Rattle.cue_types.specs.declared.cue.Cue.{Cue}
use Rattle.cue_lists.proofs.RuleLists.{cue_formed, cues_formed, faultless_more, fault_here, ruled_ok, fault_err}
use Rattle.cue_lists.proofs.RuleNearest.{before_more, length_before}
use Rattle.cue_lists.proofs.RulesSaid.{faultless_ruled}
use Rattle.cue_lists.proofs.rules.check.Goals as goal

pub judge-requires-clause-formed : goal.judge-requires-clause-formed
judge-requires-clause-formed c =
    cue_formed c.args.list.now c.cues-cues.result.now c.loop-index.index c.index-cues-index.result
    c.cues-cues.ensures.formed c.cues-cues.ensures.cues c.loop-index-test.true c.index-cues-index.is

pub judge-requires-clause-earlier : goal.judge-requires-clause-earlier
judge-requires-clause-earlier c =
    cues_formed c.args.list.now c.cues-cues.result.now c.loop-index.index c.cues-cues.ensures.formed c.cues-cues.ensures.cues

pub pass-requires : goal.pass-requires
pass-requires c =
    cue_formed c.args.list.now c.cues-cues.result.now c.loop-index.index c.index-cues-index.result
    c.cues-cues.ensures.formed c.cues-cues.ensures.cues c.loop-index-test.true c.index-cues-index.is

pub judge-requires-clause-few : goal.judge-requires-clause-few
judge-requires-clause-few c =
    let few : length c.cues-cues.result.now ≤ 20000 = rw c.cues-cues.ensures.cues c.cues-cues.ensures.formed.few in
    simp length-take (omega arith)

pub returns-in_err-judge : goal.returns-in_err-judge
returns-in_err-judge c =
    let p = err_from_is_err_and c.from_residual.result c.from_residual.ensures.1 in
    let has : HasFault c.args.list.now c.in_err-judge.field-0.0 =
    fault_here c.args.list.now c.cues-cues.result.now c.loop-index.index c.index-cues-index.result
    c.in_err-judge.field-0.0 c.cues-cues.ensures.cues c.loop-index-test.true c.index-cues-index.is
    c.in_err-judge.ensures c.loop-index.invariant.kept in
    rw (p.1, p.2) (record {
      judged = has;
      ruled = ruled_ok c.args.list.now (Err c.in_err-judge.field-0.0) c.cues-cues.ensures.formed has;
      first = fault_err c.args.list.now (Err c.in_err-judge.field-0.0) c.cues-cues.ensures.formed has;
    })

pub loop-index-preserved : goal.loop-index-preserved
loop-index-preserved c = record {
  remembered =
      let count : length (reverse (take c.loop-index.index c.cues-cues.result.now)) ≡ c.loop-index.index =
      length_before c.cues-cues.result.now c.loop-index.index (omega arith) in
      rw (
        before_more c.cues-cues.result.now c.loop-index.index c.index-cues-index.result c.loop-index-test.true,
        ← c.index-cues-index.is,
      )
      (c.pass.ensures (reverse (take c.loop-index.index c.cues-cues.result.now)) (ap (λ n. n + 1) (sym count))
      c.loop-index.invariant.remembered);
  kept = faultless_more c.args.list.now c.cues-cues.result.now c.loop-index.index c.index-cues-index.result
      c.loop-index-test.true c.index-cues-index.is c.in_ok-judge.ensures c.loop-index.invariant.kept;
}

pub returns : goal.returns
returns c =
    let all : take c.loop-index.index c.cues-cues.result.now ≡ c.args.list.now.cues =
    take_all c.loop-index.index c.cues-cues.result.now c.loop-index-test.false ∙ c.cues-cues.ensures.cues in
    let ruled : IsRuled c.args.list.now =
    faultless_ruled c.args.list.now
    (subst (λ (cues : List Cue). AreFaultless c.args.list.now (reverse cues)) all c.loop-index.invariant.kept) in
    record {
      judged = ruled;
      ruled = ruled_ok c.args.list.now (Ok tt) c.cues-cues.ensures.formed ruled;
      first = fault_err c.args.list.now (Ok tt) c.cues-cues.ensures.formed ruled;
    }
