use Rattle.std.proofs.Common.{◌==◌, length, MatchBool, refl, subst, sym}
use Rattle.cdp_packets.specs.Sections.{IsSectionList}
use Rattle.cdp_packets.proofs.WholeLemmas.{same_list-next, are_list_where_ended}
use Rattle.cdp_packets.proofs.whole_packet.are_sections.Goals as goal

pub loop-behind-preserved : goal.loop-behind-preserved
loop-behind-preserved c =
    same_list-next c.args.bytes.now c.loop-behind.rest.now c.in-Some.field-0-0.now c.in-Some.behind.now c.loop-behind.invariant
    c.in-Some.ensures.section c.in-Some.ensures.whole

pub returns : goal.returns
returns c =
    subst (λ b. MatchBool b (IsSectionList c.args.bytes.now) (IsSectionList c.args.bytes.now → ⊥)) (sym c.is_empty.ensures)
    (are_list_where_ended (length c.loop-behind.rest.now == 0) c.args.bytes.now c.loop-behind.rest.now refl c.loop-behind.invariant
    c.in_default.ensures.none)
