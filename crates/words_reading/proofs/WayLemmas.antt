-- A text that is gathered, on its way out.
use Rattle.std.proofs.Common.{◌≡◌, ◌∙◌, ◌++◌, ap, append-nil, subst, sym, ℕ, List, [], Option}
use Rattle.std.proofs.KnownBytes.{Appends-trans}
use Rattle.std.specs.Io.KnownBytes.{Appends}
use Rattle.cc_base.specs.Streams.{Puts}
use Rattle.cc_base.specs.declared.streams.Put.TheVariants as put
use Rattle.cc_base.proofs.Puts.{puts_then}
use Rattle.text_output.specs.Gathered.{IsGathered}

-- a text of which nothing is held was put
pub all_put : (start now : Option (List ℕ)) (held all : List ℕ) → IsGathered start now held all → held ≡ [] → Appends start now all
all_put start now held all way none =
    subst (Appends start now) (sym (append-nil way.sent) ∙ ap (λ l. way.sent ++ l) (sym none) ∙ way.whole) way.appended

-- what is held of a gathered text is put
pub way_flushed : (a b c : Option (List ℕ)) (held all : List ℕ) → IsGathered a b held all → Appends b c held → IsGathered a c [] all
way_flushed a b c held all way next = record {
  sent = way.sent ++ held;
  appended = Appends-trans a b c way.sent held way.appended next;
  whole = append-nil (way.sent ++ held) ∙ way.whole;
}

-- or a put of it fails
pub way_unwritten : (a b c : Option (List ℕ)) (held all : List ℕ) → IsGathered a b held all → Puts b c put.Failed held → Puts a c put.Failed all
way_unwritten a b c held all way next = subst (Puts a c put.Failed) way.whole (puts_then a b c put.Failed way.sent held way.appended next)
