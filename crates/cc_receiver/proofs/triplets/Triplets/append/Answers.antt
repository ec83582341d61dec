use Rattle.std.proofs.Common.{arith, ◌++◌, length, ap, take, ◌∙◌}
use Rattle.std.proofs.lemmas.Slice.{take-put_mid}
use Rattle.cc_receiver.proofs.triplets.Triplets.append.Goals as goal

pub returns-clause-items : goal.returns-clause-items
returns-clause-items c =
    let own = c.args.self.now in
    let few = own.few in
    let long = ap length c.copy_from_slice.ensures.after in
    take-put_mid own.len _ own.cells c.copy_from_slice.new.self _ (omega (arith, long)) (omega (arith, few))
    ∙ ap (λ ts. take own.len own.cells ++ ts) c.copy_from_slice.ensures.after
