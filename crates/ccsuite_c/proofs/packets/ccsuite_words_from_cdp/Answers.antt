use Rattle.ccsuite_c.proofs.packets.ccsuite_words_from_cdp.Goals as goal

pub returns-in-Some-clause-malformed : goal.returns-in-Some-clause-malformed
returns-in-Some-clause-malformed c = λ none.
    let some = c.in-Some.ensures.some in
    absurd (none some.0 some.1)

pub returns-in-None-clause-words : goal.returns-in-None-clause-words
returns-in-None-clause-words c = λ packet is. absurd (c.in-None.ensures.none packet is)
