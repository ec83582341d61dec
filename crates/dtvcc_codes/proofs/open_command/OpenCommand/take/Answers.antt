use Rattle.std.proofs.Common.{◌∙◌, arith}
use Rattle.std.proofs.lemmas.Grind.{common_steps}
use Rattle.dtvcc_codes.proofs.KeepLemmas.{skipped_leads, skipped_says}
use Rattle.dtvcc_codes.proofs.SizeLemmas.{told_size_empty}
use Rattle.dtvcc_codes.proofs.open_command.OpenCommand.take.Goals as goal

pub returns-then-self-gt0-clause-says : goal.returns-then-self-gt0-clause-says
returns-then-self-gt0-clause-says c = λ front keeps.
    c.then_some.ensures ∙ skipped_says front c.args.byte c.args.self.now.to_skip c.if-self-gt0.true keeps.to_skip keeps.unfinished

pub returns-then-self-gt0-clause-leads : goal.returns-then-self-gt0-clause-leads
returns-then-self-gt0-clause-leads c = λ front keeps.
    let behind = skipped_leads front c.args.byte c.args.self.now.to_skip c.if-self-gt0.true keeps.to_skip keeps.unfinished in
    record { bytes = keeps.bytes ∙ behind.bytes; to_skip = behind.to_skip_is; unfinished = behind.unfinished }

pub returns-then-size-kept-clause-leads : goal.returns-then-size-kept-clause-leads
returns-then-size-kept-clause-leads c = λ front keeps. record {
  bytes = grind (arith, common_steps, told_size_empty);
  to_skip = grind (arith, common_steps, told_size_empty);
  unfinished = grind (arith, common_steps, told_size_empty);
}
