-- The codes of captions that leave slots free.
use Rattle.std.proofs.Common.{◌≡◌, ℕ, zero, suc, Bool, true, false, Option, Some, None, option_map, unwrap_or, refl, sym, ap, ◌∙◌, subst}
use Rattle.std.specs.Option.{option_or}
use Rattle.line21_codes.proofs.CodeLemmas.{is_control-code_of}
use Rattle.line21_codes.specs.NullPairs.{null_pair}
use Rattle.line21_codes.specs.Reading.{code_of}
use Rattle.line21_codes.specs.Writable.{is_doubled}
use Rattle.line21_codes.specs.declared.channels.DataChannel.TheVariants.{One}
use Rattle.line21_codes.specs.declared.codes.Code.{Code}
use Rattle.line21_codes.specs.declared.codes.Code.TheVariants.{Null, Text, Xds, Control}
use Rattle.line21_codes.specs.declared.pairs.Pair.{Pair}
use Rattle.line21_author.specs.declared.unit.Unit.{Unit}
use Rattle.dual_fields.proofs.ReadingLemmas.{null_code}
use Rattle.dual_fields.specs.Reading.{IsMarked}
use Rattle.lanes.specs.Timeline.{Timeline, repeat_at, repeat_of, slot}
use Rattle.dual_fields.specs.Sharing.{IsFor, is_text}
use Rattle.xds_frames.specs.Beside.{CaptionsAreBeside, caption_codes}
use Rattle.xds_frames.specs.PacketTimeline.{LeaveFree}
use Rattle.xds_packets.specs.Carried.{IsCaption, IsControlCode, IsLed, IsTextCode}

-- a slot's pair, by what is due and what begins
abbrev pair_by : Option Pair → Option Unit → Pair
pair_by due begins = unwrap_or (option_or due (option_map (λ (unit : Unit). unit.pair) begins)) null_pair

-- a repeat comes from a doubled unit
pub due_unit : (o : Option Unit) (pair : Pair) → repeat_of o ≡ Some pair → (unit : Unit) × ((o ≡ Some unit) × ((unit.pair ≡ pair) × (unit.doubled ≡ true)))
due_unit None pair is = cc
due_unit (Some unit) pair is = by_doubled unit.doubled refl
  where
    by_doubled : (b : Bool) → unit.doubled ≡ b → (v : Unit) × ((Some unit ≡ Some v) × ((v.pair ≡ pair) × (v.doubled ≡ true)))
    by_doubled true twice = let it : Some unit.pair ≡ Some pair = sym (rw twice refl) ∙ is in let same : unit.pair ≡ pair = cc in (unit, (refl, (same, twice)))
    by_doubled false once = let wrong : None ≡ Some pair = rw once at is in absurd (cc)

-- nothing is due where a unit begins
pub none_due : (t : Timeline) → IsMarked t → (n : ℕ) (unit : Unit) → t n ≡ Some unit → (r : Option Pair) → repeat_at t n ≡ r → repeat_at t n ≡ None
none_due t marked n unit is None due = due
none_due t marked zero unit is (Some pair) due = cc
none_due t marked (suc n) unit is (Some pair) due = let none : t (suc n) ≡ None = marked.spaced n pair due in let wrong : Some unit ≡ None = sym is ∙ none in absurd (cc)

-- the pair of a slot in which a unit begins, of one in which its repeat is due, and of another
pub slot_of_unit : (t : Timeline) → IsMarked t → (n : ℕ) (unit : Unit) → t n ≡ Some unit → slot t n ≡ unit.pair
slot_of_unit t marked n unit is =
    ap (λ r. pair_by r (t n)) (none_due t marked n unit is (repeat_at t n) refl) ∙ ap (λ u. pair_by None u) is

pub slot_of_repeat : (t : Timeline) (n : ℕ) (pair : Pair) → repeat_at t n ≡ Some pair → slot t n ≡ pair
slot_of_repeat t n pair due = ap (λ r. pair_by r (t n)) due

pub slot_of_none : (t : Timeline) (n : ℕ) → repeat_at t n ≡ None → t n ≡ None → slot t n ≡ null_pair
slot_of_none t n due none = ap (λ r. pair_by r (t n)) due ∙ ap (λ u. pair_by None u) none

caption_for : (code : Code) → IsFor One code → IsCaption code
caption_for Null is = absurd is
caption_for (Text first second) is = tt
caption_for (Xds first second) is = absurd is
caption_for (Control second control) is = tt

text_code : (code : Code) → IsTextCode code → is_text code ≡ true
text_code Null is = absurd is
text_code (Text first second) is = refl
text_code (Xds first second) is = absurd is
text_code (Control second control) is = absurd is

control_for : (code : Code) → IsFor One code → is_text code ≡ false → IsControlCode code
control_for Null is plain = absurd is
control_for (Text first second) is plain = cc
control_for (Xds first second) is plain = absurd is
control_for (Control second control) is plain = tt

doubled_plain : (code : Code) → is_doubled code ≡ true → IsTextCode code → ⊥
doubled_plain Null is text = absurd text
doubled_plain (Text first second) is text = cc
doubled_plain (Xds first second) is text = absurd text
doubled_plain (Control second control) is text = absurd text

module _ (t : Timeline) (free : ℕ → Bool) (leave : LeaveFree t free) where
  -- by what the slot has
  by_slot : (P : Pair → Type 0) (n : ℕ) → ((unit : Unit) → t n ≡ Some unit → P unit.pair) → ((unit : Unit) → unit.doubled ≡ true → (m : ℕ) → t m ≡ Some unit → P unit.pair)
      → P null_pair → P (slot t n)
  by_slot P zero begins due null = by_unit (t zero) refl
    where
      by_unit : (u : Option Unit) → t zero ≡ u → P (slot t zero)
      by_unit (Some unit) is = subst P (sym (slot_of_unit t leave.marked zero unit is)) (begins unit is)
      by_unit None is = subst P (sym (slot_of_none t zero refl is)) null
  by_slot P (suc n) begins due null = by_repeat (repeat_of (t n)) refl
    where
      by_unit : repeat_of (t n) ≡ None → (u : Option Unit) → t (suc n) ≡ u → P (slot t (suc n))
      by_unit none (Some unit) is = subst P (sym (slot_of_unit t leave.marked (suc n) unit is)) (begins unit is)
      by_unit none None is = subst P (sym (slot_of_none t (suc n) none is)) null

      by_repeat : (r : Option Pair) → repeat_of (t n) ≡ r → P (slot t (suc n))
      by_repeat None none = by_unit none (t (suc n)) refl
      by_repeat (Some pair) is =
          let d = due_unit (t n) pair is in
          subst P (d.1.1.0 ∙ sym (slot_of_repeat t (suc n) pair is)) (due d.0 d.1.1.1 n d.1.0)

  captions : (n : ℕ) → IsCaption (caption_codes t n)
  captions n =
      by_slot (λ p. IsCaption (code_of p)) n (λ unit is. caption_for (code_of unit.pair) (leave.own n unit is)) (λ unit twice m is. caption_for (code_of unit.pair) (leave.own m unit is))
      (subst IsCaption (sym null_code) tt)

  none_due_free : (n : ℕ) → free n ≡ true → repeat_at t n ≡ None
  none_due_free zero here = refl
  none_due_free (suc n) here = by_repeat (repeat_of (t n)) refl
    where
      by_repeat : (r : Option Pair) → repeat_of (t n) ≡ r → repeat_of (t n) ≡ None
      by_repeat None is = is
      by_repeat (Some pair) is = let taken = leave.not_due n pair is in let wrong : true ≡ false = sym here ∙ taken in absurd (cc)

  nothing : (n : ℕ) → free n ≡ true → caption_codes t n ≡ Null
  nothing n here = ap code_of (slot_of_none t n (none_due_free n here) (leave.nothing n here)) ∙ null_code

  led : (n : ℕ) → IsTextCode (caption_codes t n) → IsLed (caption_codes t) free n
  led n =
      by_slot (λ p. IsTextCode (code_of p) → IsLed (caption_codes t) free n) n
      (λ unit is text.
      let l = leave.led n unit is (text_code (code_of unit.pair) text) in
      record {
        at = l.at;
        before = l.before;
        closed = l.closed;
        control = subst (λ p. IsControlCode (code_of p)) (sym (slot_of_unit t leave.marked l.at l.unit l.there)) (control_for (code_of l.unit.pair) (leave.own l.at l.unit l.there) l.control);
      })
      (λ unit twice m is text. absurd (doubled_plain (code_of unit.pair) (sym (is_control-code_of unit.pair) ∙ leave.marked.marked m unit is ∙ twice) text))
      (λ text. absurd (subst IsTextCode null_code text))

pub captions_beside : CaptionsAreBeside
captions_beside t free leave = record { captions = captions t free leave; nothing = nothing t free leave; led = led t free leave }

-- nothing is due in a free slot
pub none_due_in : (t : Timeline) (free : ℕ → Bool) → LeaveFree t free → (n : ℕ) → free n ≡ true → repeat_at t n ≡ None
none_due_in t free leave n here = none_due_free t free leave n here
