use Rattle.std.proofs.Common.{[], sym, ◌∙◌}
use Rattle.std.specs.Result.{result_err}
use Rattle.cc_base.proofs.ReachedLemmas.{Reached-more, Reached-nothing}
use Rattle.cc_base.proofs.feeding.feed_pieces.Goals as goal

pub returns-clause-answer : goal.returns-clause-answer
returns-clause-answer g c = λ given before above leads took.
    let judge = g.R.Resume.judge given in
    let verdict = g.U.Upward.verdict in
    let place = g.R.Resume.place in
    let Leads = g.R.Resume.Leads given in
    let refusal = g.R.Resume.refusal in
    let Took = g.U.Upward.Took in
    let one = Reached-more judge verdict place Leads refusal Took before above [] c.args.first.now (result_err c.feed-first.result) c.args.reader.now c.feed-first.new.self c.args.up.now c.feed-first.new.up
    (Reached-nothing judge verdict place Leads refusal Took before above c.args.reader.now c.args.up.now leads took)
    (record { answer_is = c.feed-first.ensures.answer given; handed = c.feed-first.ensures.handed given; leads = c.feed-first.ensures.leads given; kept = c.feed-first.ensures.kept; told = c.feed-first.ensures.told }) in
    let both = Reached-more judge verdict place Leads refusal Took before above c.args.first.now c.args.second.now (result_err c.feed.result) c.feed-first.new.self c.feed.new.self c.feed-first.new.up c.feed.new.up
    one.reached
    (record { answer_is = c.feed.ensures.answer given; handed = c.feed.ensures.handed given; leads = c.feed.ensures.leads given; kept = c.feed.ensures.kept; told = c.feed.ensures.told }) in
    both.answer_is

pub returns-clause-handed : goal.returns-clause-handed
returns-clause-handed g c = λ given before above leads took.
    let judge = g.R.Resume.judge given in
    let verdict = g.U.Upward.verdict in
    let place = g.R.Resume.place in
    let Leads = g.R.Resume.Leads given in
    let refusal = g.R.Resume.refusal in
    let Took = g.U.Upward.Took in
    let one = Reached-more judge verdict place Leads refusal Took before above [] c.args.first.now (result_err c.feed-first.result) c.args.reader.now c.feed-first.new.self c.args.up.now c.feed-first.new.up
    (Reached-nothing judge verdict place Leads refusal Took before above c.args.reader.now c.args.up.now leads took)
    (record { answer_is = c.feed-first.ensures.answer given; handed = c.feed-first.ensures.handed given; leads = c.feed-first.ensures.leads given; kept = c.feed-first.ensures.kept; told = c.feed-first.ensures.told }) in
    let both = Reached-more judge verdict place Leads refusal Took before above c.args.first.now c.args.second.now (result_err c.feed.result) c.feed-first.new.self c.feed.new.self c.feed-first.new.up c.feed.new.up
    one.reached
    (record { answer_is = c.feed.ensures.answer given; handed = c.feed.ensures.handed given; leads = c.feed.ensures.leads given; kept = c.feed.ensures.kept; told = c.feed.ensures.told }) in
    both.reached.took

pub returns-clause-leads : goal.returns-clause-leads
returns-clause-leads g c = λ given before above leads took ok.
    let judge = g.R.Resume.judge given in
    let verdict = g.U.Upward.verdict in
    let place = g.R.Resume.place in
    let Leads = g.R.Resume.Leads given in
    let refusal = g.R.Resume.refusal in
    let Took = g.U.Upward.Took in
    let one = Reached-more judge verdict place Leads refusal Took before above [] c.args.first.now (result_err c.feed-first.result) c.args.reader.now c.feed-first.new.self c.args.up.now c.feed-first.new.up
    (Reached-nothing judge verdict place Leads refusal Took before above c.args.reader.now c.args.up.now leads took)
    (record { answer_is = c.feed-first.ensures.answer given; handed = c.feed-first.ensures.handed given; leads = c.feed-first.ensures.leads given; kept = c.feed-first.ensures.kept; told = c.feed-first.ensures.told }) in
    let both = Reached-more judge verdict place Leads refusal Took before above c.args.first.now c.args.second.now (result_err c.feed.result) c.feed-first.new.self c.feed.new.self c.feed-first.new.up c.feed.new.up
    one.reached
    (record { answer_is = c.feed.ensures.answer given; handed = c.feed.ensures.handed given; leads = c.feed.ensures.leads given; kept = c.feed.ensures.kept; told = c.feed.ensures.told }) in
    both.reached.leads (sym both.answer_is ∙ ok)
