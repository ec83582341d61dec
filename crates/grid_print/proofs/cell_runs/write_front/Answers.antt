use Rattle.std.proofs.Common.{◌≡◌, ◌+◌, ◌++◌, ◌∙◌, None, [], ◌∷◌, ap, drop, encode_utf8, get_or, refl, sym, append_assoc, true}
use Rattle.std.proofs.lemmas.List.{append-nil, at_drop_all, get_or_default}
use Rattle.text_output.proofs.PageLemmas.{written_same}
use Rattle.grid_print.specs.CellRuns.{front_text}
use Rattle.grid_print.proofs.FrontLemmas.{front_done, front_more, front_stop}
use Rattle.grid_print.proofs.cell_runs.write_front.Goals as goal

pub loop-cell-init : goal.loop-cell-init
loop-cell-init g c start faults before has = ([], written_same start faults _ _ _ (sym (append-nil before)) has, refl)

pub loop-cell-preserved : goal.loop-cell-preserved
loop-cell-preserved g c start faults before has =
    let (done, so_far, is) = c.loop-cell.invariant start faults before has in
    let item : c.cell-item.result ≡ get_or c.args.cells.now c.loop-cell.cell-index None =
    c.cell-item.is ∙ get_or_default c.args.cells.now c.loop-cell.cell-index c.cell-item.result None c.loop-cell-test.true in
    let same : g.C.WrittenCell.writing.alike c.args.first c.in-Some.cell ≡ true = sym c.is_alike.ensures ∙ c.if-is_alike.true in
    let next = front_more g.C.WrittenCell.writing c.args.first c.args.cells.now c.loop-cell.cell-index c.in-Some.cell c.loop-cell-test.true (sym item ∙ c.in-Some.is) same
    ∙ ap (λ ch. ch ∷ front_text g.C.WrittenCell.writing c.args.first (drop (c.loop-cell.cell-index + 1) c.args.cells.now)) (sym c.character.ensures) in (
      done ++ encode_utf8 c.character.result,
      written_same start faults _ _ _ (append_assoc before done (encode_utf8 c.character.result)) (c.write_character.ensures start faults (before ++ done) so_far),
      append_assoc done (encode_utf8 c.character.result) _ ∙ (rw next at is),
    )

pub returns-in_default : goal.returns-in_default
returns-in_default g c start faults before has =
    let item : c.cell-item.result ≡ get_or c.args.cells.now c.loop-cell.cell-index None =
    c.cell-item.is ∙ get_or_default c.args.cells.now c.loop-cell.cell-index c.cell-item.result None c.loop-cell-test.true in
    let (done, so_far, is) = c.loop-cell.invariant start faults before has in
    front_done g.C.WrittenCell.writing start faults c.args.first c.args.cells.now c.loop-cell.cell-index before done _
    (front_stop g.C.WrittenCell.writing c.args.first c.args.cells.now c.loop-cell.cell-index c.loop-cell-test.true (rw (sym item ∙ c.in-Some.is) (sym c.is_alike.ensures ∙ c.if-is_alike.false))) so_far is

pub returns-in_default-2 : goal.returns-in_default-2
returns-in_default-2 g c start faults before has =
    let item : c.cell-item.result ≡ get_or c.args.cells.now c.loop-cell.cell-index None =
    c.cell-item.is ∙ get_or_default c.args.cells.now c.loop-cell.cell-index c.cell-item.result None c.loop-cell-test.true in
    let (done, so_far, is) = c.loop-cell.invariant start faults before has in
    front_done g.C.WrittenCell.writing start faults c.args.first c.args.cells.now c.loop-cell.cell-index before done _
    (front_stop g.C.WrittenCell.writing c.args.first c.args.cells.now c.loop-cell.cell-index c.loop-cell-test.true (rw (sym item ∙ c.in_default.is) refl)) so_far is

pub returns : goal.returns
returns g c start faults before has =
    let (done, so_far, is) = c.loop-cell.invariant start faults before has in
    front_done g.C.WrittenCell.writing start faults c.args.first c.args.cells.now c.loop-cell.cell-index before done _
    (at_drop_all (front_text g.C.WrittenCell.writing c.args.first) c.args.cells.now c.loop-cell.cell-index c.loop-cell-test.false) so_far is
