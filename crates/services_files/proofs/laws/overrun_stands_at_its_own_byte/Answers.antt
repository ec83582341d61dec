use Rattle.std.proofs.Common.{Some, ap, sym, ◌∙◌}
use Rattle.services_files.specs.Services.{whole_triplets, why_unheard}
use Rattle.services_files.proofs.OverrunLemmas.{refused-second, refused-third, second-refused, third-refused}
use Rattle.services_files.proofs.laws.overrun_stands_at_its_own_byte.Goals as goal

pub returns-clause-second : goal.returns-clause-second
returns-clause-second c = λ before first next reason. (
  refused-second (whole_triplets before) first next reason,
  λ (is, over). second-refused (whole_triplets before) first next over ∙ ap (λ w. Some w) (sym is),
)

pub returns-clause-third : goal.returns-clause-third
returns-clause-third c = λ before first second next reason none. (
  refused-third (whole_triplets before) first second next reason none,
  λ (is, over). third-refused (whole_triplets before) first second next none over ∙ ap (λ w. Some w) (sym is),
)

pub returns-clause-others : goal.returns-clause-others
returns-clause-others c = λ before next none. ap (λ ts. why_unheard (whole_triplets before) ts) none
