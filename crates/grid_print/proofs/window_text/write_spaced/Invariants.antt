use Rattle.std.proofs.Common.{◌++◌, codes, decimal, take}
use Rattle.std.specs.List.{flat_map}
use Rattle.text_output.specs.Pages.{Writes, page}
use Rattle.grid_print.proofs.window_text.write_spaced.Given as goal

-- the numbers so far are written
abbrev pub invariant-loop-number : goal.invariant-loop-number
invariant-loop-number g l =
    Writes (page l.initial.text (g.O.Sink.written l.initial.out) (g.O.Sink.faults l.initial.out)) (page l.text (g.O.Sink.written l.out) (g.O.Sink.faults l.out))
    (flat_map (λ number. codes " " ++ decimal number) (take l.number-index l.numbers))
