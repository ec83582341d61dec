use Rattle.std.proofs.Common.{subst, Some, ◌≡◌, false}
use Rattle.grid_print.specs.Differences.{differs}
use Rattle.grid_print.proofs.DifferenceLemmas.{differs-itself, one_where_same}
use Rattle.grid_print.proofs.window_laws.windows_differ_where_they_are_two.Goals as goal

pub returns : goal.returns
returns c a b within within_too =
    (λ none. one_where_same a b within within_too none, λ one. subst (λ other. differs (Some a) (Some other) ≡ false) one (differs-itself (Some a)))
