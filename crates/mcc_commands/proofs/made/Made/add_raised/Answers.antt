use Rattle.std.proofs.Common.{List, ℕ, subst, sym}
use Rattle.mcc_commands.specs.Importing.{AreBegunWords}
use Rattle.mcc_commands.proofs.made.Made.add_raised.Goals as goal

pub returns-clause-adds : goal.returns-clause-adds
returns-clause-adds g c placed words start frame has way =
    c.add_words.ensures.adds placed words start frame c.args.user.now has
    (subst (λ (b : List ℕ). AreBegunWords c.args.self.now.words c.args.user.now b) (sym c.deref.ensures.0) c.put_captions.ensures) way
