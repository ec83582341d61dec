use Rattle.std.proofs.Common.{◌∙◌, ◌∷◌, ◌++◌, [], sym}
use Rattle.cc_base.specs.declared.streams.Put.TheVariants as put
use Rattle.grid_print.specs.Screens.{IsBehind}
use Rattle.words_commands.proofs.PrintingLemmas.{screens_put, screens_still}
use Rattle.words_commands.proofs.screens_at.ScreensAtPerFrame.frame.Goals as goal

pub returns-then-number-self-clause-makes : goal.returns-then-number-self-clause-makes
returns-then-number-self-clause-makes g c given start bytes frames next is way received are number =
    (is, screens_still _ _ _ frames next c.args.number given (λ same. c.if-number-self.true (same ∙ sym is)) way number)

pub returns-in-Done-clause-makes : goal.returns-in-Done-clause-makes
returns-in-Done-clause-makes g c given start bytes frames next is way received are number =
    let behind : IsBehind (frames ++ next ∷ []) c.args.receiver.now = record { bytes = bytes; received = received; frames_are = are } in
    (is, screens_put _ _ (g.O.Sink.written c.put_all.new.out) put.Done _ frames next c.args.number given (c.if-number-self.false ∙ is) way (c.in-Done.ensures.bytes (frames ++ next ∷ []) behind) number)

pub returns-in-Failed-clause-makes : goal.returns-in-Failed-clause-makes
returns-in-Failed-clause-makes g c given start bytes frames next is way received are number =
    let behind : IsBehind (frames ++ next ∷ []) c.args.receiver.now = record { bytes = bytes; received = received; frames_are = are } in
    (tt, screens_put _ _ (g.O.Sink.written c.put_all.new.out) put.Failed _ frames next c.args.number given (c.if-number-self.false ∙ is) way (c.in-Failed.ensures.bytes (frames ++ next ∷ []) behind) number)
