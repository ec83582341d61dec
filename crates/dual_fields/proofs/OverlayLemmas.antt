-- The pair of a slot that two lanes share.
use Rattle.std.proofs.Common.{◌≡◌, ◌==◌, ◌&&◌, List, arith, ℕ, zero, suc, Bool, true, false, Option, Some, None, option_map, unwrap_or, refl, sym, ap, ◌∙◌, subst}
use Rattle.std.specs.Option.{option_or}
use Rattle.line21_codes.specs.declared.pairs.Pair.{Pair}
use Rattle.line21_codes.specs.NullPairs.{is_null, null_pair}
use Rattle.line21_author.specs.declared.unit.Unit.{Unit}
use Rattle.lanes.specs.Timeline.{Timeline, over, repeat_of, slot}
use Rattle.std.proofs.lemmas.Bool.Decides.{nat_tests}
use Rattle.line21_codes.specs.declared.channels.DataChannel.TheVariants as data_channels
use Rattle.line21_codes.specs.Reading.{code_of}
use Rattle.dual_fields.specs.declared.part.Part.{Part}
use Rattle.dual_fields.specs.Lanes.{whole}
use Rattle.dual_fields.specs.Sharing.{IsFor}
use Rattle.dual_fields.specs.Together.{AreTogether}
use Rattle.line21_shown.proofs.ReadingLemmas.{null_code}
use Rattle.dual_fields.proofs.TogetherLemmas.{together_disjoint}
use Rattle.dual_fields.specs.Overlay.{AreDisjoint, SlotsAreOverlaid, overlay}

-- a slot's pair, by what is due and what begins
abbrev pair_by : Option Pair → Option Unit → Pair
pair_by due begins = unwrap_or (option_or due (option_map (λ (unit : Unit). unit.pair) begins)) null_pair

-- the repeat that is due comes from a unit
due_unit : (o : Option Unit) (pair : Pair) → repeat_of o ≡ Some pair → (unit : Unit) × ((o ≡ Some unit) × (unit.pair ≡ pair))
due_unit None pair is = cc
due_unit (Some unit) pair is = by_doubled unit.doubled refl
  where
    by_doubled : (b : Bool) → unit.doubled ≡ b → (v : Unit) × ((Some unit ≡ Some v) × (v.pair ≡ pair))
    by_doubled true twice = let it : Some unit.pair ≡ Some pair = sym (rw twice refl) ∙ is in let same : unit.pair ≡ pair = cc in (unit, (refl, same))
    by_doubled false once = let wrong : None ≡ Some pair = rw once at is in absurd (cc)

module _ (one two : Timeline) (are : AreDisjoint one two) where
  -- what is due in one of them
  due_over : (m : ℕ) (u : Option Unit) → one m ≡ u → repeat_of (over one two m) ≡ option_or (repeat_of (one m)) (repeat_of (two m))
  due_over m None is = rw is refl
  due_over m (Some unit) is =
      rw (is, are.apart m unit is) (by_none (repeat_of (Some unit)))
    where
      by_none : (r : Option Pair) → r ≡ option_or r None
      by_none None = refl
      by_none (Some pair) = refl

  overlaid : (r q : Option Pair) (u v : Option Unit) → ((pair : Pair) → r ≡ Some pair → is_null pair ≡ false) → ((unit : Unit) → u ≡ Some unit → is_null unit.pair ≡ false)
      → ((pair : Pair) → r ≡ Some pair → (q ≡ None) × (v ≡ None)) → ((pair : Pair) → q ≡ Some pair → u ≡ None) → ((unit : Unit) → u ≡ Some unit → v ≡ None)
      → pair_by (option_or r q) (option_or u v) ≡ overlay (pair_by r u) (pair_by q v)
  overlaid (Some pair) q u v due_some begins_some due_alone other_due alone = rw (due_some pair refl) refl
  overlaid None (Some pair) None v due_some begins_some due_alone other_due alone = refl
  overlaid None (Some pair) (Some unit) v due_some begins_some due_alone other_due alone = let wrong : Some unit ≡ None = other_due pair refl in absurd (cc)
  overlaid None None None v due_some begins_some due_alone other_due alone = refl
  overlaid None None (Some unit) v due_some begins_some due_alone other_due alone = rw (begins_some unit refl) refl

  at_first : slot (over one two) zero ≡ overlay (slot one zero) (slot two zero)
  at_first =
      overlaid None None (one zero) (two zero) (λ pair is. cc) (λ unit is. are.some zero unit is) (λ pair is. cc) (λ pair is. cc) (λ unit is. are.apart zero unit is)

  due_not_null : (m : ℕ) (pair : Pair) → repeat_of (one m) ≡ Some pair → is_null pair ≡ false
  due_not_null m pair is =
      let d = due_unit (one m) pair is in subst (λ p. is_null p ≡ false) d.1.1 (are.some m d.0 d.1.0)

  due_alone : (m : ℕ) (pair : Pair) → repeat_of (one m) ≡ Some pair → (repeat_of (two m) ≡ None) × (two (suc m) ≡ None)
  due_alone m pair is =
      let d = due_unit (one m) pair is in
      (ap repeat_of (are.apart m d.0 d.1.0), are.behind_first m pair is)

  at_next : (m : ℕ) → slot (over one two) (suc m) ≡ overlay (slot one (suc m)) (slot two (suc m))
  at_next m =
      ap (λ r. pair_by r (option_or (one (suc m)) (two (suc m)))) (due_over m (one m) refl)
      ∙ overlaid (repeat_of (one m)) (repeat_of (two m)) (one (suc m)) (two (suc m)) (λ pair is. due_not_null m pair is) (λ unit is. are.some (suc m) unit is)
      (λ pair is. due_alone m pair is) (λ pair is. are.behind_second m pair is) (λ unit is. are.apart (suc m) unit is)

pub slots_overlaid : SlotsAreOverlaid
slots_overlaid one two are zero = at_first one two are
slots_overlaid one two are (suc m) = at_next one two are m

-- in a field that two lists share the second lane's pairs stand in the null slots of the first
pub together_overlaid : (one two : Timeline) (parts others : List Part) (fs gs : List ℕ) (rs qs : List (Option ℕ)) → AreTogether one two parts others fs gs rs qs
    → (n : ℕ) → slot (over (whole one parts fs rs) (whole two others gs qs)) n ≡ overlay (slot (whole one parts fs rs) n) (slot (whole two others gs qs) n)
together_overlaid one two parts others fs gs rs qs are n =
    let d = together_disjoint one two parts others fs gs rs qs are in
    slots_overlaid (whole one parts fs rs) (whole two others gs qs) (record {
      apart = d.apart;
      behind_first = d.behind_first;
      behind_second = d.behind_second;
      some = λ m unit is. by_null unit.pair (d.own m unit is) (is_null unit.pair) refl;
    }) n
  where
    by_null : (pair : Pair) → IsFor data_channels.One (code_of pair) → (b : Bool) → is_null pair ≡ b → is_null pair ≡ false
    by_null pair own true test =
        let both = and_parts (pair.a == 0x80) (pair.b == 0x80) test in
        let a : pair.a ≡ 0x80 = grind (arith, nat_tests) in
        let b : pair.b ≡ 0x80 = grind (arith, nat_tests) in
        let it : pair ≡ null_pair = pair_is pair a b in
        let wrong : IsFor data_channels.One (code_of null_pair) = subst (λ p. IsFor data_channels.One (code_of p)) it own in
        absurd (subst (IsFor data_channels.One) null_code wrong)
      where
        and_parts : (x y : Bool) → (x && y) ≡ true → (x ≡ true) × (y ≡ true)
        and_parts true true is = (refl, refl)
        and_parts true false is = cc
        and_parts false y is = cc

        pair_is : (p : Pair) → p.a ≡ 0x80 → p.b ≡ 0x80 → p ≡ null_pair
        pair_is p a b = ap (λ x. record { a = x; b = p.b }) a ∙ ap (λ y. record { a = 0x80; b = y }) b
    by_null pair own false test = test
