use Rattle.ccsuite_c.proofs.PacketLemmas.{told-none, told-out}
use Rattle.ccsuite_c.proofs.packets.ccsuite_cc_data_from_words.Goals as goal

pub returns-in_default-clause-reads : goal.returns-in_default-clause-reads
returns-in_default-clause-reads c = λ cdp carries. absurd (c.in_default.ensures.none cdp carries)

pub returns-then-code-eq0-clause-reads : goal.returns-then-code-eq0-clause-reads
returns-then-code-eq0-clause-reads c = λ cdp carries.
    let says = c.in-Some.ensures.some in (
      says.cdp,
      says.carried,
      told-out c.args.words.now c.in-Some.frame says c.deref.result.now c.args.out.now c.hand_over-code.new.out c.hand_over-code.result
          c.hand_over-code.new.count c.args.seen.now c.packet_seen.result c.deref.ensures.0 c.hand_over-code.ensures c.if-code-eq0.true c.packet_seen.ensures,
    )

pub returns-then-code-eq0-clause-malformed : goal.returns-then-code-eq0-clause-malformed
returns-then-code-eq0-clause-malformed c = λ none.
    let says = c.in-Some.ensures.some in
    absurd (none says.cdp says.carried)

pub returns-else-code-eq0-clause-reads : goal.returns-else-code-eq0-clause-reads
returns-else-code-eq0-clause-reads c = λ cdp carries.
    let says = c.in-Some.ensures.some in (
      says.cdp,
      says.carried,
      told-none c.args.words.now c.in-Some.frame says c.deref.result.now c.args.out.now c.hand_over-code.new.out c.hand_over-code.result
          c.hand_over-code.new.count c.args.seen.now c.deref.ensures.0 c.hand_over-code.ensures c.if-code-eq0.false,
    )

pub returns-else-code-eq0-clause-malformed : goal.returns-else-code-eq0-clause-malformed
returns-else-code-eq0-clause-malformed c = λ none.
    let says = c.in-Some.ensures.some in
    absurd (none says.cdp says.carried)
