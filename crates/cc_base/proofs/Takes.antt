-- Bytes that are taken one piece after another.
use Rattle.std.proofs.Common.{◌∙◌, ◌++◌, ap, sym, ℕ, List, Option, Some, None}
use Rattle.std.specs.Io.KnownBytes.{Consumes, Keeps}

-- what was taken stays so where nothing more is taken
pub consumes_kept : (a b c : Option (List ℕ)) (xs : List ℕ) → Consumes a b xs → Keeps b c → Consumes a c xs
consumes_kept None b c xs p q = tt
consumes_kept (Some x) None c xs p q = absurd p
consumes_kept (Some x) (Some y) None xs p q = absurd q
consumes_kept (Some x) (Some y) (Some z) xs p q = p ∙ ap (λ l. xs ++ l) (sym q)
