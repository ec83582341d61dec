use Rattle.std.proofs.Common.{◌∙◌, Option, ap, sym, ℕ}
use Rattle.dtvcc_windows.specs.Showing.{ShownWindow}
use Rattle.cc_conceal.proofs.grids.ConcealerTouched.is_touched.Goals as goal

pub returns : goal.returns
returns c = λ was seen turned untouched service id is.
    ap (λ (a : ℕ → ℕ → Option ShownWindow). a service id) turned.seen_are
    ∙ c.is_touched.ensures turned.bytes turned.earlier turned.last turned.had turned.frames_are untouched service id is
    ∙ sym (ap (λ (a : ℕ → ℕ → Option ShownWindow). a service id) turned.was_are)
