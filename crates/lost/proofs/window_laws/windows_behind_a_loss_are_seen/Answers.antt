use Rattle.std.proofs.Common.{◌<◌, arith, refl}
use Rattle.dtvcc_codes.specs.CharacterSpellings.{dtvcc_spelling}
use Rattle.dtvcc_codes.specs.Reading.{spelled_command, told_size}
use Rattle.dtvcc_codes.specs.Writing.{bytes_of_command}
use Rattle.lost.proofs.window_laws.windows_behind_a_loss_are_seen.Goals as goal

pub returns : goal.returns
unfolding spelled_command dtvcc_spelling told_size bytes_of_command
returns c = record {
  shown = refl;
  loading = refl;
  meanwhile = refl;
  back = (λ up. omega arith, (λ up. omega arith, (λ up. omega arith, (λ up. omega arith, tt))));
  cut = λ back. let wrong : 5 < 1 = back.1.0 (omega arith) in absurd (omega arith);
}
