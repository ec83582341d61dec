use Rattle.ccsuite_c.proofs.receiver.feed_on.Goals as goal

pub returns-clause-feeds : goal.returns-clause-feeds
returns-clause-feeds c = λ before had.
    record { answer = c.feed.result; feeds = c.feed.ensures.feeds before had; tells = c.tell.ensures; same = c.feed.ensures.last }
