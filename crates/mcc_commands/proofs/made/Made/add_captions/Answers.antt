use Rattle.std.proofs.Common.{◌∙◌, ◌≤◌, List, ℕ, arith, length, subst, sym}
use Rattle.mcc_words.proofs.CloseLemmas.{unraised_words}
use Rattle.mcc_commands.proofs.AddLemmas.{captions}
use Rattle.mcc_commands.proofs.ImportWordsLemmas.{words_long}
use Rattle.mcc_commands.proofs.made.Made.add_captions.Goals as goal

pub unreachable-requires : goal.unreachable-requires
unreachable-requires g c = c.in_default.ensures.none c.requires.captions.0 c.requires.captions.1

pub returns-then-raises-clause-adds : goal.returns-then-raises-clause-adds
returns-then-raises-clause-adds g c placed words start made way =
    c.add_raised.ensures.adds placed words start c.args.frame
    (record { before = c.args.self.now.words; has = made.has; frames_are = made.frames_are; bytes_are = made.bytes_are; begins = c.in-Some.ensures.begins }) way

pub add_words-requires : goal.add_words-requires
add_words-requires g c =
    let few = c.requires.few in
    let long = words_long (captions c.args.user.now) in
    subst (λ (b : List ℕ). length b ≤ 524) (sym c.requires.words) (omega (arith, few, long))

pub returns-clause-adds : goal.returns-clause-adds
returns-clause-adds g c placed words start made way =
    c.add_words.ensures.adds placed words start c.args.frame c.args.user.now
    (record { before = c.args.self.now.words; has = made.has; frames_are = made.frames_are; bytes_are = made.bytes_are; begins = c.in-Some.ensures.begins })
    (unraised_words c.begin_captions.new.self c.requires.captions.0 c.args.user.now c.args.packet.now (sym c.raises.ensures ∙ c.if-raises.false) c.requires.captions.1 c.requires.bytes c.requires.words) way
