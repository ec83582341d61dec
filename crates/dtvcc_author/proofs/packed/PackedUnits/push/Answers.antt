use Rattle.std.proofs.Common.{◌≡◌, ◌≤◌, ◌∙◌, ◌++◌, ◌∷◌, [], ap, length, subst}
use Rattle.dtvcc_author.specs.Packed.{divided}
use Rattle.dtvcc_author.proofs.PackedLemmas.{divided_push, packed_push}
use Rattle.dtvcc_author.proofs.packed.PackedUnits.push.Goals as goal

pub invariant_of-self-in_default : goal.invariant_of-self-in_default
invariant_of-self-in_default c =
    let unit = c.args.unit.items in
    let sizes : c.push.new.self.items ≡ c.self.inside.lengths.items ++ length unit ∷ [] =
    c.in_default.ensures.items ∙ ap (λ n. c.self.inside.lengths.items ++ n ∷ []) c.len.ensures.value in
    let bytes : c.push_bytes.new.bytes.items ≡ c.self.inside.bytes.items ++ unit =
    c.in_ok-push_bytes.ensures.ok ∙ ap (λ l. c.self.inside.bytes.items ++ l) c.as_slice.ensures.value in
    rw (sizes, bytes)
    (packed_push c.self.inside.lengths.items c.self.inside.bytes.items unit c.self.invariant
    (subst (λ l. length l ≤ 7) c.as_slice.ensures.value c.as_slice.ensures.fits))

pub returns : goal.returns
returns c =
    let unit = c.args.unit.items in
    let sizes : c.push.new.self.items ≡ c.self.inside.lengths.items ++ length unit ∷ [] =
    c.in_default.ensures.items ∙ ap (λ n. c.self.inside.lengths.items ++ n ∷ []) c.len.ensures.value in
    let bytes : c.push_bytes.new.bytes.items ≡ c.self.inside.bytes.items ++ unit =
    c.in_ok-push_bytes.ensures.ok ∙ ap (λ l. c.self.inside.bytes.items ++ l) c.as_slice.ensures.value in
    ap (λ l. divided l c.push_bytes.new.bytes.items) sizes
    ∙ ap (divided (c.self.inside.lengths.items ++ length unit ∷ [])) bytes
    ∙ divided_push c.self.inside.lengths.items c.self.inside.bytes.items unit c.self.invariant
    ∙ ap (λ l. l ++ unit ∷ []) c.self.view_is
