-- Pieces that are put one after another.
use Rattle.std.proofs.Common.{◌≡◌, ◌+◌, ◌++◌, ◌∙◌, append_assoc, ℕ, List, length, take, Option, arith, length-append, drop, get_or, drop-cons, add-one, refl, ◌<◌}
use Rattle.std.specs.List.{flat_map}
use Rattle.std.specs.Io.KnownBytes.{Appends}
use Rattle.std.proofs.KnownBytes.{Appends-trans}
use Rattle.std.proofs.Math.Seq.{take-append-add}
use Rattle.std.proofs.lemmas.List.{take-append-le}
use Rattle.cc_base.specs.Streams.{Puts}
use Rattle.cc_base.specs.declared.streams.Put.{Put}
use Rattle.cc_base.specs.declared.streams.Put.TheVariants as put

-- a put that was done, and then another
pub puts_then : (a b c : Option (List ℕ)) (r : Put) (x y : List ℕ) → Puts a b put.Done x → Puts b c r y → Puts a c r (x ++ y)
puts_then a b c put.Done x y first next = Appends-trans a b c x y first next
puts_then a b c put.Failed x y first (n, fits, next) =
    (length x + n, rw length-append (omega arith), rw (take-append-add x y n) (Appends-trans a b c x (take n y) first next))

-- a put that failed, and none after it
pub puts_stop : (a b : Option (List ℕ)) (x y : List ℕ) → Puts a b put.Failed x → Puts a b put.Failed (x ++ y)
puts_stop a b x y (n, fits, first) = (n, rw length-append (omega arith), rw (take-append-le n x y fits) first)

-- one piece more, of those that come to `all`
pub puts_more : (a b c : Option (List ℕ)) (r : Put) (done x rest all : List ℕ) → Appends a b done → Puts b c r x → r ≡ put.Done → done ++ (x ++ rest) ≡ all
    → Appends a c (done ++ x) × ((done ++ x) ++ rest ≡ all)
puts_more a b c r done x rest all first next went is = (puts_then a b c put.Done done x first (rw went at next), append_assoc done x rest ∙ is)

-- a piece that failed, of those that come to `all`
pub puts_front : (a b c : Option (List ℕ)) (r : Put) (done x rest all : List ℕ) → Appends a b done → Puts b c r x → r ≡ put.Failed → done ++ (x ++ rest) ≡ all
    → Puts a c put.Failed all
puts_front a b c r done x rest all first next failed is =
    rw (← is, ← append_assoc) (puts_stop a c (done ++ x) rest (puts_then a b c put.Failed done x first (rw failed at next)))

-- the first of the pieces from i on, and those after it
pub pieces_from : {A : Type 0} (f : A → List ℕ) (xs : List A) (i : ℕ) (d : A) → i < length xs → flat_map f (drop i xs) ≡ f (get_or xs i d) ++ flat_map f (drop (i + 1) xs)
pieces_from f xs i d at = rw (drop-cons xs i d, add-one) refl
