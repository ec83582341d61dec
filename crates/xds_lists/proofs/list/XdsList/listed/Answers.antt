use Rattle.std.proofs.Common.{◌≡◌, ◌+◌, ◌-◌, ◌∷◌, ◌∙◌, ap, arith, drop, length, subst, sym, take}
use Rattle.std.proofs.lemmas.List.{length-take}
use Rattle.xds_lists.specs.Form.{IsListed}
use Rattle.xds_lists.specs.Packed.{listed_with}
use Rattle.xds_lists.proofs.PackedLemmas.{is_unpacked}
use Rattle.xds_lists.proofs.list.XdsList.listed.Goals as goal

pub overflow_add-start : goal.overflow_add-start
overflow_add-start c =
    let read = is_unpacked c.self.inside.heads.items c.self.inside.texts.items c.args.self.now c.args.index c.args.start c.index-head.result.now
    c.self.invariant c.self.view_is c.requires.index c.requires.start c.index-head.ensures in
    omega (arith, read.fits, c.from.ensures, ap length c.deref.ensures.value, c.deref.ensures.len)

pub slice_bounds-of-end : goal.slice_bounds-of-end
slice_bounds-of-end c =
    let read = is_unpacked c.self.inside.heads.items c.self.inside.texts.items c.args.self.now c.args.index c.args.start c.index-head.result.now
    c.self.invariant c.self.view_is c.requires.index c.requires.start c.index-head.ensures in
    omega (arith, read.fits, c.from.ensures, ap length c.deref.ensures.value)

pub of-text-requires : goal.of-text-requires
of-text-requires c =
    let read = is_unpacked c.self.inside.heads.items c.self.inside.texts.items c.args.self.now c.args.index c.args.start c.index-head.result.now
    c.self.invariant c.self.view_is c.requires.index c.requires.start c.index-head.ensures in
    let most = length-take (c.args.start + c.from.result - c.args.start) (drop c.args.start c.deref.result.now) in
    omega (arith, read.small, most, c.from.ensures)

pub invariant_of-result : goal.invariant_of-result
invariant_of-result c =
    let head = c.index-head.result.now in
    let read = is_unpacked c.self.inside.heads.items c.self.inside.texts.items c.args.self.now c.args.index c.args.start c.index-head.result.now
    c.self.invariant c.self.view_is c.requires.index c.requires.start c.index-head.ensures in
    let size : c.args.start + c.from.result - c.args.start ≡ c.index-head.result.now.size = omega (arith, c.from.ensures) in
    let text : c.of-text.result ≡ take c.index-head.result.now.size (drop c.args.start c.self.inside.texts.items) =
    c.of-text.ensures ∙ ap (λ n. take n (drop c.args.start c.deref.result.now)) size ∙ ap (λ l. take c.index-head.result.now.size (drop c.args.start l)) c.deref.ensures.value in
    record { is_listed = subst (λ t. IsListed (listed_with c.index-head.result.now t)) (sym text) read.in_range }

pub returns-clause-measured : goal.returns-clause-measured
returns-clause-measured c =
    let read = is_unpacked c.self.inside.heads.items c.self.inside.texts.items c.args.self.now c.args.index c.args.start c.index-head.result.now
    c.self.invariant c.self.view_is c.requires.index c.requires.start c.index-head.ensures in
    let most = length-take (c.args.start + c.from.result - c.args.start) (drop c.args.start c.deref.result.now) in
    omega (arith, read.fits, most, ap length c.of-text.ensures, c.from.ensures, c.self.inside.texts.small, c.self.inside.texts.ok.0, c.self.inside.texts.ok.1)

pub returns-clause-listed : goal.returns-clause-listed
returns-clause-listed c =
    let read = is_unpacked c.self.inside.heads.items c.self.inside.texts.items c.args.self.now c.args.index c.args.start c.index-head.result.now
    c.self.invariant c.self.view_is c.requires.index c.requires.start c.index-head.ensures in
    let size : c.args.start + c.from.result - c.args.start ≡ c.index-head.result.now.size = omega (arith, c.from.ensures) in
    let text : c.of-text.result ≡ take c.index-head.result.now.size (drop c.args.start c.self.inside.texts.items) =
    c.of-text.ensures ∙ ap (λ n. take n (drop c.args.start c.deref.result.now)) size ∙ ap (λ l. take c.index-head.result.now.size (drop c.args.start l)) c.deref.ensures.value in
    read.split ∙ ap (λ t. listed_with c.index-head.result.now t ∷ drop (c.args.index + 1) c.args.self.now) (sym text)
