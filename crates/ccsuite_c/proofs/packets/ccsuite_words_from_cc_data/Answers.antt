use Rattle.ccsuite_c.proofs.packets.ccsuite_words_from_cc_data.Goals as goal

pub returns-in-Some-clause-argument : goal.returns-in-Some-clause-argument
returns-in-Some-clause-argument c = λ none.
    let some = c.in-Some.ensures.some in
    absurd (none some.0 some.1)

pub returns-in-None-clause-words : goal.returns-in-None-clause-words
returns-in-None-clause-words c = λ rate_is is. absurd (c.in-None.ensures.none rate_is is)
