use Rattle.std.proofs.Common.{◌∙◌, ap, sym, length, List, Option}
use Rattle.dtvcc_codes.specs.declared.commands.Command.{Command}
use Rattle.dtvcc_screen.proofs.CoreLemmas.{completions_length}
use Rattle.dtvcc_screen.proofs.cores.Core.held.Goals as goal

pub returns-clause-held : goal.returns-clause-held
returns-clause-held c = λ state stands.
    c.len.ensures.value ∙ sym (completions_length _ _) ∙ ap (λ (xs : List (Option Command)). length xs) stands.carries.held
