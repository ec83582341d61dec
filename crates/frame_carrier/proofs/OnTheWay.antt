-- A text on its way to a sink: what is put, what is held, and what is to come.
use Rattle.std.proofs.Common.{◌≡◌, ◌∙◌, ◌++◌, ap, append-nil, append_assoc, refl, subst, sym, ℕ, List, [], Option}
use Rattle.std.specs.Io.KnownBytes.{Appends}
use Rattle.std.proofs.KnownBytes.{Appends-trans}
use Rattle.cc_base.specs.Streams.{Puts}
use Rattle.cc_base.specs.declared.streams.Put.{Put}
use Rattle.cc_base.specs.declared.streams.Put.TheVariants as put
use Rattle.cc_base.proofs.Puts.{puts_front, puts_then}
use Rattle.text_output.specs.Gathered.{Flushes, Gathers}

-- a part of a text was put, and the rest completes it
pub record IsOnTheWay (old new : Option (List ℕ)) (rest all : List ℕ) : Type 0 where
  pub sent : List ℕ
  pub appended : Appends old new sent
  pub whole : sent ++ rest ≡ all

-- a piece more was put
piece_put : (a b c : Option (List ℕ)) (piece rest all : List ℕ)
    → IsOnTheWay a b (piece ++ rest) all → Puts b c put.Done piece → IsOnTheWay a c rest all
piece_put a b c piece rest all way next = record {
  sent = way.sent ++ piece;
  appended = Appends-trans a b c way.sent piece way.appended next;
  whole = append_assoc way.sent piece rest ∙ way.whole;
}

-- a put of a piece failed
pub way_failed : (a b c : Option (List ℕ)) (piece rest all : List ℕ)
    → IsOnTheWay a b (piece ++ rest) all → Puts b c put.Failed piece → Puts a c put.Failed all
way_failed a b c piece rest all way failed = puts_front a b c put.Failed way.sent piece rest all way.appended failed refl way.whole

-- a piece more was gathered: a part of what was held and of the piece is put, the rest is held
pub piece_gathered : (a b c : Option (List ℕ)) (before after piece rest all : List ℕ)
    → IsOnTheWay a b (before ++ (piece ++ rest)) all → Gathers b c before after put.Done piece → IsOnTheWay a c (after ++ rest) all
piece_gathered a b c before after piece rest all way (more, next, is) =
    piece_put a b c more (after ++ rest) all
    (subst (λ (l : List ℕ). IsOnTheWay a b l all) (sym (append_assoc before piece rest) ∙ ap (λ (l : List ℕ). l ++ rest) is ∙ append_assoc more after rest) way) next

-- a flush puts what is held
flushed : (b c : Option (List ℕ)) (held after : List ℕ) (r : Put) → Flushes b c held after r → Puts b c r held
flushed b c held after put.Done flushes = flushes.0
flushed b c held after put.Failed flushes = flushes

-- and nothing is to come
pub way_ended : (a b c : Option (List ℕ)) (r : Put) (held after all : List ℕ)
    → IsOnTheWay a b (held ++ []) all → Flushes b c held after r → Puts a c r all
way_ended a b c r held after all way last =
    let whole : way.sent ++ held ≡ all = ap (λ l. way.sent ++ l) (sym (append-nil held)) ∙ way.whole in
    rw (← whole) (puts_then a b c r way.sent held way.appended (flushed b c held after r last))
