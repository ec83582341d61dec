use Rattle.std.proofs.Common.{map, reverse}
use Rattle.std.proofs.lemmas.Bool.{true≢false}
use Rattle.line21_codes.specs.declared.channels.FieldNumber.TheVariants.{One, Two}
use Rattle.words_files.specs.Received.{received_pairs}
use Rattle.cc_conceal.specs.Concealed.{concealed}
use Rattle.cc_conceal.proofs.TakeLemmas.{reset_either}
use Rattle.cc_conceal.proofs.concealer.Concealer.reset.Goals as goal

pub returns-clause-behind : goal.returns-clause-behind
returns-clause-behind c = λ heard is. record {
  first = c.reset.ensures One (reverse (map concealed (received_pairs One heard))) is.first;
  second = c.reset-2.ensures Two (reverse (map concealed (received_pairs Two heard))) is.second;
  apart = λ yes. reset_either c.args.self.now.apart heard c.args.self.now.served c.reset-3.new.self c.reset-3.ensures.served is.apart is.beside;
  beside = λ no. absurd (true≢false no);
}
