use Rattle.std.proofs.Common.{◌++◌, ap, codes, decimal, sym}
use Rattle.std.proofs.lemmas.List.{append-nil, take_all}
use Rattle.std.specs.List.{flat_map}
use Rattle.text_output.proofs.PageLemmas.{written_more, written_same}
use Rattle.grid_print.proofs.window_text.write_spaced.Goals as goal

pub loop-number-init : goal.loop-number-init
loop-number-init g c start faults before has = written_same start faults _ _ _ (sym (append-nil before)) has

pub loop-number-preserved : goal.loop-number-preserved
loop-number-preserved g c start faults before has =
    written_more start faults (λ number. codes " " ++ decimal number) before c.args.numbers.now c.loop-number.number-index _ _ c.loop-number-test.true
    (c.write_one_spaced.ensures start faults _ (c.loop-number.invariant start faults before has))

pub returns : goal.returns
returns g c start faults before has =
    written_same start faults _ _ _
    (ap (λ ns. before ++ flat_map (λ number. codes " " ++ decimal number) ns) (take_all c.loop-number.number-index c.args.numbers.now c.loop-number-test.false))
    (c.loop-number.invariant start faults before has)
