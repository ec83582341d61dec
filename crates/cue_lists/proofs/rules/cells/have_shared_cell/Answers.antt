use Rattle.std.proofs.Common.{refl, sym, ◌∙◌, replicate}
use Rattle.std.proofs.lemmas.List.{length-set}
use Rattle.cue_types.specs.Cells.{IsOnGrid}
use Rattle.cue_lists.proofs.RuleCells.{meet_left_start, sixteen_blank, next_touches, next_apart, none_left}
use Rattle.cue_lists.proofs.rules.cells.have_shared_cell.Goals as goal

pub loop-run-init : goal.loop-run-init
loop-run-init c = record { left = sym (meet_left_start (replicate 16 0) c.args.runs.now sixteen_blank); rows = refl }

pub columns-columns-requires : goal.columns-columns-requires
columns-columns-requires c =
    let here : IsOnGrid c.run-item.result =
    rw c.run-item.is (c.requires c.loop-run.run-index c.run-item.result c.loop-run-test.true) in
    here.columns

pub bounds-written-row : goal.bounds-written-row
bounds-written-row c =
    let here : IsOnGrid c.run-item.result =
    rw c.run-item.is (c.requires c.loop-run.run-index c.run-item.result c.loop-run-test.true) in
    here.row

pub returns-then-written-row-ne0 : goal.returns-then-written-row-ne0
returns-then-written-row-ne0 c =
    sym (c.loop-run.invariant.left
    ∙ next_touches c.loop-run.written c.args.runs.now c.loop-run.run-index c.run-item.result c.columns-columns.result
    c.loop-run-test.true c.run-item.is c.columns-columns.ensures c.if-written-row-ne0.true)

pub loop-run-preserved : goal.loop-run-preserved
loop-run-preserved c =
    let here : IsOnGrid c.run-item.result =
    rw c.run-item.is (c.requires c.loop-run.run-index c.run-item.result c.loop-run-test.true) in
    record {
      left = c.loop-run.invariant.left
          ∙ next_apart c.loop-run.written c.args.runs.now c.loop-run.run-index c.run-item.result c.columns-columns.result
          c.loop-run-test.true c.run-item.is c.columns-columns.ensures c.if-written-row-ne0.false
          (rw c.loop-run.invariant.rows here.row);
      rows = rw length-set c.loop-run.invariant.rows;
    }

pub returns : goal.returns
returns c = sym (c.loop-run.invariant.left ∙ none_left c.loop-run.written c.args.runs.now c.loop-run.run-index c.loop-run-test.false)
