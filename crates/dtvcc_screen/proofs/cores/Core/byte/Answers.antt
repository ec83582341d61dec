use Rattle.std.proofs.Common.{◌≡◌, [], ◌∷◌, ◌++◌, not, length, refl, sym, ap, subst, ◌∙◌, arith}
use Rattle.dtvcc_codes.specs.declared.open_command.OpenCommand.{OpenCommand}
use Rattle.dtvcc_codes.specs.Reading.{open_after}
use Rattle.dtvcc_codes.specs.Readers.{Keeps}
use Rattle.dtvcc_screen.specs.Objects.{screen_of}
use Rattle.dtvcc_screen.proofs.StandsLemmas.{acts_stands, cancel_stands, cancelled_stands, fill_count, fills_stands, holds_stands, idles_stands, is_full, not_full, opened, until_none, until_some}
use Rattle.dtvcc_screen.proofs.cores.Core.byte.Goals as goal

pub returns-in-Some-clause-stands : goal.returns-in-Some-clause-stands
returns-in-Some-clause-stands c = λ state stands.
    acts_stands state c.args.byte c.args.clock c.take-completed.result c.in-Some.command c.args.self.now c.act.new.self stands
    (omega (arith, c.ranges.byte.fits)) (sym stands.carries.until ∙ until_none c.args.self.now.until (c.is_none.ensures ∙ ap not c.if-is_none.true))
    (c.take-completed.ensures.says state.open_bytes stands.unfinished) c.in-Some.is (sym c.is_reset.ensures ∙ c.if-is_reset.false)
    (subst (λ (r : OpenCommand). Keeps (open_after state.open_bytes c.args.byte) r) (sym c.act.ensures.reader)
    (c.take-completed.ensures.leads state.open_bytes stands.unfinished))
    c.act.ensures.screen c.act.ensures.until c.act.ensures.held

pub returns-in_default-clause-stands : goal.returns-in_default-clause-stands
returns-in_default-clause-stands c = λ state stands.
    idles_stands state c.args.byte c.args.clock c.take-completed.result c.args.self.now _ stands
    (omega (arith, c.ranges.byte.fits)) (sym stands.carries.until ∙ until_none c.args.self.now.until (c.is_none.ensures ∙ ap not c.if-is_none.true))
    (c.take-completed.ensures.says state.open_bytes stands.unfinished) c.in_default.is (sym c.is_reset.ensures ∙ c.if-is_reset.false)
    (c.take-completed.ensures.leads state.open_bytes stands.unfinished) refl refl refl

pub returns-then-is_cancel-clause-stands : goal.returns-then-is_cancel-clause-stands
returns-then-is_cancel-clause-stands c = λ state stands.
    let ends = until_some c.args.self.now.until (c.is_none.ensures ∙ ap not c.if-is_none.false) in
    let in_delay = sym stands.carries.until ∙ ends.1 in
    let says = c.take-completed.ensures.says state.open_bytes stands.unfinished in
    let cancels = sym c.is_cancel.ensures ∙ c.if-is_cancel.true in
    cancelled_stands state c.args.byte ends.0 c.args.clock c.take-completed.result c.end_delay.new.self in_delay says
    (sym c.is_reset.ensures ∙ c.if-is_reset.false) cancels
    (c.end_delay.ensures.stands (opened c.args.byte state) ends.0
    (cancel_stands state c.args.byte ends.0 c.take-completed.result c.args.self.now _ stands (omega (arith, c.ranges.byte.fits)) in_delay says cancels
    (c.take-completed.ensures.leads state.open_bytes stands.unfinished) refl refl refl)
    in_delay)

pub returns-then-len-lt-FULL-clause-stands : goal.returns-then-len-lt-FULL-clause-stands
returns-then-len-lt-FULL-clause-stands c = λ state stands.
    let ends = until_some c.args.self.now.until (c.is_none.ensures ∙ ap not c.if-is_none.false) in
    let count : c.len.result ≡ length c.args.self.now.held.items = c.len.ensures.value in
    holds_stands state c.args.byte ends.0 c.args.clock c.take-completed.result c.args.self.now _ stands (omega (arith, c.ranges.byte.fits))
    (sym stands.carries.until ∙ ends.1) (c.take-completed.ensures.says state.open_bytes stands.unfinished)
    (sym c.is_reset.ensures ∙ c.if-is_reset.false) (sym c.is_cancel.ensures ∙ c.if-is_cancel.false) (omega (arith, count, c.if-len-lt-FULL.true))
    (c.take-completed.ensures.leads state.open_bytes stands.unfinished) refl refl c.push.ensures.items

pub returns-then-len-lt-FULL-clause-full : goal.returns-then-len-lt-FULL-clause-full
returns-then-len-lt-FULL-clause-full c = λ state stands.
    let ends = until_some c.args.self.now.until (c.is_none.ensures ∙ ap not c.if-is_none.false) in
    let count : c.len.result ≡ length c.args.self.now.held.items = c.len.ensures.value in
    not_full _ _
    (fill_count state c.args.byte ends.0 c.take-completed.result c.args.self.now stands (sym stands.carries.until ∙ ends.1)
    (c.take-completed.ensures.says state.open_bytes stands.unfinished)
    (sym c.is_reset.ensures ∙ c.if-is_reset.false) (sym c.is_cancel.ensures ∙ c.if-is_cancel.false))
    (omega (arith, count, c.if-len-lt-FULL.true))

pub returns-clause-stands : goal.returns-clause-stands
returns-clause-stands c = λ state stands.
    let ends = until_some c.args.self.now.until (c.is_none.ensures ∙ ap not c.if-is_none.false) in
    let count : c.len.result ≡ length c.args.self.now.held.items = c.len.ensures.value in
    fills_stands state c.args.byte ends.0 c.args.clock c.take-completed.result c.args.self.now c.end_full.new.self (c.args.self.now.held.items ++ c.args.byte ∷ [])
    (screen_of c.args.self.now.screen) stands (omega (arith, c.ranges.byte.fits))
    (sym stands.carries.until ∙ ends.1) (c.take-completed.ensures.says state.open_bytes stands.unfinished)
    (sym c.is_reset.ensures ∙ c.if-is_reset.false) (sym c.is_cancel.ensures ∙ c.if-is_cancel.false)
    (omega (arith, count, c.if-len-lt-FULL.false, c.args.self.now.room))
    (subst (λ (r : OpenCommand). Keeps (open_after state.open_bytes c.args.byte) r) (sym c.end_full.ensures.reader)
    (c.take-completed.ensures.leads state.open_bytes stands.unfinished))
    refl refl c.end_full.ensures.acted

pub returns-clause-full : goal.returns-clause-full
returns-clause-full c = λ state stands.
    let ends = until_some c.args.self.now.until (c.is_none.ensures ∙ ap not c.if-is_none.false) in
    let count : c.len.result ≡ length c.args.self.now.held.items = c.len.ensures.value in
    is_full _ _
    (fill_count state c.args.byte ends.0 c.take-completed.result c.args.self.now stands (sym stands.carries.until ∙ ends.1)
    (c.take-completed.ensures.says state.open_bytes stands.unfinished)
    (sym c.is_reset.ensures ∙ c.if-is_reset.false) (sym c.is_cancel.ensures ∙ c.if-is_cancel.false))
    (omega (arith, count, c.if-len-lt-FULL.false, c.args.self.now.room))
