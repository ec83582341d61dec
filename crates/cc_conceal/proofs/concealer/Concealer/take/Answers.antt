use Rattle.std.proofs.Common.{◌∙◌, map, reverse, sym}
use Rattle.std.proofs.lemmas.Bool.{true≢false}
use Rattle.line21_codes.specs.declared.channels.FieldNumber.TheVariants.{One, Two}
use Rattle.words_files.specs.Received.{received_pairs}
use Rattle.cc_conceal.specs.Concealed.{concealed}
use Rattle.cc_conceal.proofs.PairLemmas.{fields_more}
use Rattle.cc_conceal.proofs.TakeLemmas.{served_more}
use Rattle.cc_conceal.proofs.concealer.Concealer.take.Goals as goal

pub returns-then-self-clause-behind : goal.returns-then-self-clause-behind
returns-then-self-clause-behind c = λ bytes earlier heard last received are is_heard behind. record {
  first = fields_more One heard last c.pairs_one.result.now c.apply_pairs.new.field (c.pairs_one.ensures bytes earlier last received are)
      (c.apply_pairs.ensures One (reverse (map concealed (received_pairs One heard))) behind.first);
  second = fields_more Two heard last c.pairs_two.result.now c.apply_pairs-2.new.field (c.pairs_two.ensures bytes earlier last received are)
      (c.apply_pairs-2.ensures Two (reverse (map concealed (received_pairs Two heard))) behind.second);
  apart = λ yes.
      served_more heard last c.rate.result c.front_of_triplets.result.now c.args.self.now.served c.frame.new.self
      (c.rate.ensures bytes earlier last received are) (c.front_of_triplets.ensures bytes earlier last received are) c.frame.ensures.served
      c.requires.few is_heard (behind.apart yes);
  beside = λ no. absurd (true≢false (sym c.if-self.true ∙ no));
}

pub returns-else-self-clause-behind : goal.returns-else-self-clause-behind
returns-else-self-clause-behind c = λ bytes earlier heard last received are is_heard behind. record {
  first = fields_more One heard last c.pairs_one.result.now c.apply_pairs.new.field (c.pairs_one.ensures bytes earlier last received are)
      (c.apply_pairs.ensures One (reverse (map concealed (received_pairs One heard))) behind.first);
  second = fields_more Two heard last c.pairs_two.result.now c.apply_pairs-2.new.field (c.pairs_two.ensures bytes earlier last received are)
      (c.apply_pairs-2.ensures Two (reverse (map concealed (received_pairs Two heard))) behind.second);
  apart = λ yes. absurd (true≢false (sym yes ∙ c.if-self.false));
  beside = behind.beside;
}
