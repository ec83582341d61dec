use Rattle.std.proofs.Common.{◌≡◌, ◌∙◌, ◌++◌, ◌∷◌, [], ap, arith}
use Rattle.dtvcc_author.specs.Packed.{divided}
use Rattle.dtvcc_author.proofs.PackedLemmas.{divided_push, packed_push}
use Rattle.dtvcc_author.proofs.packed.PackedUnits.push_byte.Goals as goal

pub invariant_of-self-in_default : goal.invariant_of-self-in_default
invariant_of-self-in_default c =
    let sizes : c.push-2.new.self.items ≡ c.self.inside.lengths.items ++ 1 ∷ [] = c.in_default.ensures.items in
    let bytes : c.push.new.self.items ≡ c.self.inside.bytes.items ++ c.args.byte ∷ [] = c.in_ok-push.ensures.items in
    rw (sizes, bytes) (packed_push c.self.inside.lengths.items c.self.inside.bytes.items (c.args.byte ∷ []) c.self.invariant (omega arith))

pub returns : goal.returns
returns c =
    let sizes : c.push-2.new.self.items ≡ c.self.inside.lengths.items ++ 1 ∷ [] = c.in_default.ensures.items in
    let bytes : c.push.new.self.items ≡ c.self.inside.bytes.items ++ c.args.byte ∷ [] = c.in_ok-push.ensures.items in
    ap (λ l. divided l c.push.new.self.items) sizes
    ∙ ap (divided (c.self.inside.lengths.items ++ 1 ∷ [])) bytes
    ∙ divided_push c.self.inside.lengths.items c.self.inside.bytes.items (c.args.byte ∷ []) c.self.invariant
    ∙ ap (λ l. l ++ (c.args.byte ∷ []) ∷ []) c.self.view_is
