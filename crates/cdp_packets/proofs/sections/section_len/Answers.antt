use Rattle.std.proofs.Common.{◌+◌, length, ap, ◌∙◌, arith, length-append}
use Rattle.cdp_packets.proofs.SectionLemmas.{length-section, first_section, first_length, two_bytes}
use Rattle.cdp_packets.proofs.sections.section_len.Goals as goal

pub unreachable-requires : goal.unreachable-requires
unreachable-requires c =
    let first = first_section c.args.sections.now c.requires.list c.requires.some in
    omega (arith, ap length first.spelled, length-append first.section first.rest, two_bytes first.section first.is)

pub returns-clause-first : goal.returns-clause-first
returns-clause-first c section rest is same =
    ap (λ n. 2 + n) c.rest_len.ensures ∙ length-section c.args.sections.now section rest is same

pub returns-clause-within : goal.returns-clause-within
returns-clause-within c =
    (first_length c.args.sections.now _ c.requires.list c.requires.some (ap (λ n. 2 + n) c.rest_len.ensures)).within

pub returns-clause-section : goal.returns-clause-section
returns-clause-section c =
    (first_length c.args.sections.now _ c.requires.list c.requires.some (ap (λ n. 2 + n) c.rest_len.ensures)).section

pub returns-clause-rest : goal.returns-clause-rest
returns-clause-rest c =
    (first_length c.args.sections.now _ c.requires.list c.requires.some (ap (λ n. 2 + n) c.rest_len.ensures)).rest
