use Rattle.cc_receiver.proofs.CountingLemmas.{one_kept}
use Rattle.cc_receiver.proofs.triplets.Triplets.push.Goals as goal

pub returns-then-triplet : goal.returns-then-triplet
returns-then-triplet c triplets has =
    let counts = c.if-triplet.true in one_kept triplets c.args.triplet c.args.self.now _ has c.put.ensures.items (λ _. c.put.ensures.len) (λ is. absurd (cc))

pub returns-else-triplet : goal.returns-else-triplet
returns-else-triplet c triplets has =
    let not = c.if-triplet.false in one_kept triplets c.args.triplet c.args.self.now _ has c.put.ensures.items (λ is. absurd (cc)) (λ _. c.put.ensures.until)
