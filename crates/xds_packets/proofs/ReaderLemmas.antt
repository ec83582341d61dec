-- A reader reads what the definition says.
use Rattle.std.proofs.Common.{◌≡◌, ℕ, ◌≤◌, nat_le, nat_lt, Bool, true, false, List, [], ◌∷◌, ◌++◌, map, Option, None, refl, sym, ap, ◌∙◌, subst, arith}
use Rattle.std.specs.Prelude.{if◌then◌else◌, ◌==◌, ◌&&◌, ◌-◌}
use Rattle.std.proofs.lemmas.Bool.Decides.{nat_tests}
use Rattle.line21_codes.specs.ControlPairs.{are_control}
use Rattle.line21_codes.specs.Parity.{has_odd_parity, low_bits}
use Rattle.line21_codes.specs.declared.codes.Code.{Code}
use Rattle.line21_codes.specs.declared.codes.Code.TheVariants.{Null, Text, Xds, Control}
use Rattle.line21_codes.specs.declared.pairs.Pair.{Pair}
use Rattle.line21_codes.specs.Reading.{code_at, code_of, control_code_at}
use Rattle.xds_packets.specs.declared.reader.XdsReader.{XdsReader}
use Rattle.xds_packets.specs.declared.packets.XdsPacket.{XdsPacket}
use Rattle.xds_packets.specs.Reading.{ends_at}
use Rattle.xds_packets.specs.OneByOne.{IsCode, StandsAt, State, given, given_end, next_state}
use Rattle.xds_packets.specs.Reader.{HasRead, IsState, state_of}
use Rattle.xds_packets.proofs.SegmentLemmas.{map_append}
use Rattle.xds_packets.proofs.OneByOneLemmas.{codes_are_read_one_by_one}

control_is : (b : Bool) (one two : Code) → IsCode one → IsCode two → IsCode (if b then one else two)
control_is true one two is that = is
control_is false one two is that = that

xds_is : (b : Bool) (first second : ℕ) → (nat_le 0x01 first && nat_lt first 0x10) ≡ b → (other : Code) → IsCode other → IsCode (if b then Xds first second else other)
xds_is true first second is other that = grind (arith, nat_tests)
xds_is false first second is other that = that

code_is_at : (first second : ℕ) → IsCode (code_at first second)
code_is_at first second =
    control_is (are_control first second) (control_code_at first second) (if nat_le 0x10 first && nat_lt first 0x20 then Null else if nat_le 0x01 first && nat_lt first 0x10 then Xds first second else if first == 0 && second == 0 then Null else Text first second)
    (by_channel (nat_lt first 0x18))
    (control_is (nat_le 0x10 first && nat_lt first 0x20) Null (if nat_le 0x01 first && nat_lt first 0x10 then Xds first second else if first == 0 && second == 0 then Null else Text first second) tt
    (xds_is (nat_le 0x01 first && nat_lt first 0x10) first second refl (if first == 0 && second == 0 then Null else Text first second)
    (control_is (first == 0 && second == 0) Null (Text first second) tt tt)))
  where
    by_channel : (b : Bool) → IsCode (if b then Control false (Rattle.line21_codes.specs.ControlPairs.control_at first second) else Control true (Rattle.line21_codes.specs.ControlPairs.control_at (first - 8) second))
    by_channel true = tt
    by_channel false = tt

pub code_is : (pair : Pair) → IsCode (code_of pair)
unfolding code_of
code_is pair = control_is (has_odd_parity pair) (code_at (low_bits pair.a) (low_bits pair.b)) Null (code_is_at (low_bits pair.a) (low_bits pair.b)) tt

pub same_code : (code other : Code) → other ≡ code → IsCode code → IsCode other
same_code code other is that = subst IsCode (sym is) that

stands_as : (codes : List Code) (one two : State) → IsState one two → StandsAt codes one → StandsAt codes two
stands_as codes one two same stands = record { label_is = sym same.label ∙ stands.label_is; under_way_are = λ class. sym (same.under_way class) ∙ stands.under_way_are class }

pub reads_on : (pairs : List Pair) (pair : Pair) (old new : XdsReader) → IsState (next_state (code_of pair) (state_of old)) (state_of new) → HasRead pairs old
    → (given (code_of pair) (state_of old) ≡ ends_at (map code_of pairs) (code_of pair)) × HasRead (pairs ++ pair ∷ []) new
reads_on pairs pair old new same read =
    let step = codes_are_read_one_by_one.1 (map code_of pairs) (code_of pair) (state_of old) (code_is pair) read in
    (step.0, subst (λ codes. StandsAt codes (state_of new)) (sym (map_append code_of pairs (pair ∷ []))) (stands_as (map code_of pairs ++ code_of pair ∷ []) (next_state (code_of pair) (state_of old)) (state_of new) same step.1))

pub idle_state : (code : Code) (s : State) → code ≡ Null → IsState (next_state code s) s
idle_state code s is = subst (λ c. IsState (next_state c s) s) (sym is) (record { label = refl; under_way = λ class. refl })

pub idle_given : (code : Code) (s : State) → code ≡ Null → None ≡ given code s
idle_given code s is = subst (λ c. None ≡ given c s) (sym is) refl

pub end_given : (code : Code) (first second : ℕ) (s : State) → code ≡ Xds first second → IsCode code → 0x0F ≤ first → given_end s.label s second ≡ given code s
end_given code first second s is that low =
    let at_most : first ≤ 0x0F = subst IsCode is that in
    let test : (first == 0x0F) ≡ true = grind (arith, nat_tests) in
    sym (ap (λ c. given c s) is ∙ ap (λ b. if b then given_end s.label s second else None) test)

pub reads_code : (pairs : List Pair) (pair : Pair) (code : Code) (old new : XdsReader) (result : Option XdsPacket) → code ≡ code_of pair → result ≡ given code (state_of old)
    → IsState (next_state code (state_of old)) (state_of new) → HasRead pairs old → (result ≡ ends_at (map code_of pairs) (code_of pair)) × HasRead (pairs ++ pair ∷ []) new
reads_code pairs pair code old new result is gives next read =
    let on = reads_on pairs pair old new (subst (λ c. IsState (next_state c (state_of old)) (state_of new)) is next) read in
    (gives ∙ ap (λ c. given c (state_of old)) is ∙ on.0, on.1)

pub reads_null : (pairs : List Pair) (pair : Pair) (old : XdsReader) → code_of pair ≡ Null → HasRead pairs old → (None ≡ ends_at (map code_of pairs) (code_of pair)) × HasRead (pairs ++ pair ∷ []) old
reads_null pairs pair old is read =
    let on = reads_on pairs pair old old (idle_state (code_of pair) (state_of old) is) read in
    (idle_given (code_of pair) (state_of old) is ∙ on.0, on.1)
