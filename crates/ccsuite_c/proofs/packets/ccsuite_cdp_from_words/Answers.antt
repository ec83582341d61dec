use Rattle.std.proofs.Common.{◌∙◌, ℕ, List, subst}
use Rattle.ccsuite_c.specs.Packets.{HandsOver}
use Rattle.ccsuite_c.proofs.packets.ccsuite_cdp_from_words.Goals as goal

pub returns-in-Some-clause-reads : goal.returns-in-Some-clause-reads
returns-in-Some-clause-reads c = λ cdp carries.
    subst (λ (bytes : List ℕ). HandsOver bytes c.args.out.now c.hand_over.new.out c.hand_over.result c.hand_over.new.count)
    (c.deref.ensures.0 ∙ c.in-Some.ensures.one cdp carries) c.hand_over.ensures

pub returns-in-None-clause-reads : goal.returns-in-None-clause-reads
returns-in-None-clause-reads c = λ cdp carries. absurd (c.in-None.ensures.none cdp carries)
