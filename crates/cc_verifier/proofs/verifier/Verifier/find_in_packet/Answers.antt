use Rattle.std.proofs.Common.{◌∙◌, ap, sym}
use Rattle.cc_base.specs.Rate.{triplets_in_frame}
use Rattle.dtvcc_windows.proofs.PartLemmas.{told_other, told_same}
use Rattle.cc_verifier.proofs.FindingLemmas.{Decides-rate, count_first, rate_first, tried_three, tried_two}
use Rattle.cc_verifier.proofs.verifier.Verifier.find_in_packet.Goals as goal

pub returns-then-seen-expected : goal.returns-then-seen-expected
returns-then-seen-expected c bytes earlier last had are was =
    count_first c.args.self.now.list earlier last _ _ (c.in_default.ensures bytes earlier last had are was) (record {
      expected_is = c.from-expected.ensures ∙ c.triplets.ensures ∙ ap triplets_in_frame (c.rate-rate.ensures bytes earlier last had are);
      seen_is = c.triplet_count-seen.ensures bytes earlier last had are;
      others = c.if-seen-expected.true;
    })

pub returns-then-ne : goal.returns-then-ne
returns-then-ne c bytes earlier last had are was =
    rate_first c.args.self.now.list earlier last c.rate-expected.result c.rate-rate.result
    (tried_two c.args.self.now.list earlier last (c.in_default.ensures bytes earlier last had are was)
    (sym (c.triplet_count-seen.ensures bytes earlier last had are) ∙ c.if-seen-expected.false ∙ c.from-expected.ensures ∙ c.triplets.ensures
    ∙ ap triplets_in_frame (c.rate-rate.ensures bytes earlier last had are)))
    c.rate-expected.ensures (c.rate-rate.ensures bytes earlier last had are)
    (told_other _ (Decides-rate c.rate-rate.result c.rate-expected.result) (sym c.ne.ensures ∙ c.if-ne.true))

pub returns : goal.returns
returns c bytes earlier last had are was =
    tried_three c.args.self.now.list earlier last
    (tried_two c.args.self.now.list earlier last (c.in_default.ensures bytes earlier last had are was)
    (sym (c.triplet_count-seen.ensures bytes earlier last had are) ∙ c.if-seen-expected.false ∙ c.from-expected.ensures ∙ c.triplets.ensures
    ∙ ap triplets_in_frame (c.rate-rate.ensures bytes earlier last had are)))
    (sym (c.rate-rate.ensures bytes earlier last had are)
    ∙ told_same _ (Decides-rate c.rate-rate.result c.rate-expected.result) (sym c.ne.ensures ∙ c.if-ne.false) ∙ c.rate-expected.ensures)
