use Rattle.std.proofs.Common.{◌≡◌, ◌<◌, ◌+◌, ◌^◌, ◌++◌, ◌∷◌, [], ◌∙◌, List, ℕ, ap, arith, length}
use Rattle.xds_lists.specs.Packed.{head_of, unpacked}
use Rattle.xds_lists.specs.Seen.{listed_seen}
use Rattle.xds_lists.specs.declared.head.Head.{Head}
use Rattle.xds_lists.proofs.PackedLemmas.{heads_count, packed_push, unpacked_push}
use Rattle.xds_lists.proofs.list.XdsList.push.Goals as goal

pub invariant_of-self-in_default : goal.invariant_of-self-in_default
invariant_of-self-in_default c =
    let one = listed_seen c.args.listed.now in
    let heads : c.push.new.self.items ≡ c.self.inside.heads.items ++ head_of (listed_seen c.args.listed.now) ∷ [] =
    c.in_default.ensures.items
    ∙ ap (λ (t : List ℕ). c.self.inside.heads.items ++ record { from = c.args.listed.now.from; class = c.args.listed.now.packet.class; kind = c.args.listed.now.packet.kind; size = length t } ∷ [])
    c.as_slice-text.ensures.bytes in
    let texts : c.push_bytes.new.bytes.items ≡ c.self.inside.texts.items ++ c.args.listed.now.packet.text =
    c.in_ok-push_bytes.ensures.ok ∙ ap (λ (t : List ℕ). c.self.inside.texts.items ++ t) c.as_slice-text.ensures.bytes in
    let few : length c.self.inside.heads.items + 1 < 2 ^ 32 =
    omega (arith, heads_count c.self.inside.heads.items c.self.inside.texts.items c.self.invariant, ap length c.self.view_is, c.requires) in
    rw (heads, texts) (packed_push c.self.inside.heads.items c.self.inside.texts.items one c.self.invariant c.args.listed.now.is_listed few)

pub returns : goal.returns
returns c =
    let one = listed_seen c.args.listed.now in
    let heads : c.push.new.self.items ≡ c.self.inside.heads.items ++ head_of (listed_seen c.args.listed.now) ∷ [] =
    c.in_default.ensures.items
    ∙ ap (λ (t : List ℕ). c.self.inside.heads.items ++ record { from = c.args.listed.now.from; class = c.args.listed.now.packet.class; kind = c.args.listed.now.packet.kind; size = length t } ∷ [])
    c.as_slice-text.ensures.bytes in
    let texts : c.push_bytes.new.bytes.items ≡ c.self.inside.texts.items ++ c.args.listed.now.packet.text =
    c.in_ok-push_bytes.ensures.ok ∙ ap (λ (t : List ℕ). c.self.inside.texts.items ++ t) c.as_slice-text.ensures.bytes in
    ap (λ (l : List Head). unpacked l c.push_bytes.new.bytes.items) heads
    ∙ ap (unpacked (c.self.inside.heads.items ++ head_of (listed_seen c.args.listed.now) ∷ [])) texts
    ∙ unpacked_push c.self.inside.heads.items c.self.inside.texts.items one c.self.invariant
    ∙ ap (λ l. l ++ listed_seen c.args.listed.now ∷ []) c.self.view_is
