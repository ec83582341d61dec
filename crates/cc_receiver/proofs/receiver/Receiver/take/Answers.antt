use Rattle.std.proofs.Common.{arith}
use Rattle.std.specs.Result.{result_err}
use Rattle.cc_receiver.proofs.FeedLemmas.{bytes_fit}
use Rattle.cc_receiver.proofs.TakenLemmas.{takes}
use Rattle.cc_receiver.proofs.receiver.Receiver.take.Goals as goal

pub returns-clause-received : goal.returns-clause-received
returns-clause-received c = λ before had most.
    let t = takes before c.args.piece.now (result_err c.feed.result) c.args.self.now (record { words = c.feed.new.self; captions = c.feed.new.up }) c.requires.few c.requires.some
    most (bytes_fit c.args.piece.now (λ k below. omega (arith, c.type_inv.piece k))) had
    (record { answer_is = c.feed.ensures.answer tt; handed = c.feed.ensures.handed tt; leads = c.feed.ensures.leads tt; kept = c.feed.ensures.kept; told = c.feed.ensures.told }) in
    t.received

pub returns-clause-refusal : goal.returns-clause-refusal
returns-clause-refusal c = λ before had most.
    let t = takes before c.args.piece.now (result_err c.feed.result) c.args.self.now (record { words = c.feed.new.self; captions = c.feed.new.up }) c.requires.few c.requires.some
    most (bytes_fit c.args.piece.now (λ k below. omega (arith, c.type_inv.piece k))) had
    (record { answer_is = c.feed.ensures.answer tt; handed = c.feed.ensures.handed tt; leads = c.feed.ensures.leads tt; kept = c.feed.ensures.kept; told = c.feed.ensures.told }) in
    t.refusal
