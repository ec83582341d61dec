use Rattle.std.proofs.Common.{◌++◌, List, map, reverse, take}
use Rattle.line21_codes.specs.declared.channels.FieldNumber.{FieldNumber}
use Rattle.line21_codes.specs.declared.pairs.Pair.{Pair as PairOf}
use Rattle.line21_screen.specs.Objects.{Leads}
use Rattle.cc_conceal.specs.Concealed.{concealed}
use Rattle.cc_conceal.proofs.pairs.apply_pairs.Given as goal

abbrev pub invariant-loop-pair : goal.invariant-loop-pair
invariant-loop-pair l = (in_field : FieldNumber) (before : List PairOf) → Leads in_field before l.fn.field
    → Leads in_field (reverse (map concealed (take l.pair-index l.pairs)) ++ before) l.field
