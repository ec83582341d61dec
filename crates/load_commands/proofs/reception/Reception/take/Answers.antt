use Rattle.std.proofs.Common.{◌≡◌, ◌∙◌, ap, length, sym, refl, true, false, arith}
use Rattle.load_commands.proofs.TakingLemmas.{may_take, taken_more}
use Rattle.load_commands.proofs.reception.Reception.take.Goals as goal

pub feed_all-requires : goal.feed_all-requires
feed_all-requires c =
    may_take c.requires.rate c.requires.columns c.requires.count c.args.frame.now c.args.self.now c.deref.result.now c.requires.taken c.requires.next
    c.requires.whole c.requires.within (λ rate number count at. c.deref.ensures.0 ∙ c.put_words.ensures.bytes rate number count at) c.deref.ensures.1

pub returns-then-pass : goal.returns-then-pass
returns-then-pass c rate columns count taken is whole =
    let size : c.len.result ≡ length c.deref.result.now = c.len.ensures.value ∙ ap length (sym c.deref.ensures.0) in
    taken_more rate columns count c.args.frame.now c.args.self.now c.put_words.new.self c.feed_all.new.receiver c.pass.new.self c.deref.result.now _ _ true
    taken is whole (λ rate number count at. c.deref.ensures.0 ∙ c.put_words.ensures.bytes rate number count at) c.put_words.ensures.next
    c.feed_all.ensures.received c.feed_all.ensures.counted (λ frames behind. sym c.if-pass.true ∙ c.pass.ensures.told frames behind) c.pass.ensures.now
    c.deref.ensures.1 (omega (arith, size)) refl

pub returns-else-pass : goal.returns-else-pass
returns-else-pass c rate columns count taken is whole =
    let size : c.len.result ≡ length c.deref.result.now = c.len.ensures.value ∙ ap length (sym c.deref.ensures.0) in
    taken_more rate columns count c.args.frame.now c.args.self.now c.put_words.new.self c.feed_all.new.receiver c.pass.new.self c.deref.result.now _ _ false
    taken is whole (λ rate number count at. c.deref.ensures.0 ∙ c.put_words.ensures.bytes rate number count at) c.put_words.ensures.next
    c.feed_all.ensures.received c.feed_all.ensures.counted (λ frames behind. sym c.if-pass.false ∙ c.pass.ensures.told frames behind) c.pass.ensures.now
    c.deref.ensures.1 (omega (arith, size)) (omega arith)
