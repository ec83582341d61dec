-- The packets that are sent are read.
use Rattle.std.proofs.Common.{◌≡◌, ℕ, zero, suc, ◌+◌, ◌-◌, ◌*◌, ◌/◌, ◌%◌, ◌<◌, ◌≤◌, nat_le, nat_lt, Bool, true, false, List, [], ◌∷◌, ◌++◌, length, Option, Some, None, refl, sym, ap, ◌∙◌, subst, arith, append_assoc, length-append, ⊎_elim}
use Rattle.std.specs.Prelude.{if◌then◌else◌, ◌==◌, ◌&&◌}
use Rattle.std.specs.List.{All, sum}
use Rattle.std.proofs.lemmas.Bool.{cases_lt}
use Rattle.std.proofs.lemmas.Bool.Decides.{nat_tests}
use Rattle.line21_codes.specs.declared.codes.Code.{Code}
use Rattle.line21_codes.specs.declared.codes.Code.TheVariants.{Null, Text, Xds, Control}
use Rattle.xds_packets.specs.declared.under_way.UnderWay.{UnderWay}
use Rattle.xds_packets.specs.declared.packets.XdsPacket.{XdsPacket}
use Rattle.xds_packets.specs.Segments.{data_bytes}
use Rattle.xds_packets.specs.Reading.{checks, ends_at, listed as packet_list, packets_behind}
use Rattle.xds_packets.specs.OneByOne.{IsCode, Label, StandsAt, State, added, begun, finished, fitted, fresh, given, given_end, gone_on, next_state, put}
use Rattle.xds_packets.specs.PacketCodes.{IsXdsPacket, checksum, continue_code, rest_codes, start_code}
use Rattle.xds_packets.specs.Sending.{Given, Listed, Unsent, begun_at, code_or, codes_to, column, given_in, packets_left, sent_on, writing_at}
use Rattle.xds_packets.specs.Carried.{AreBeside, IsCaption, IsControlCode, IsLed, IsTextCode, PacketsAreCarried}
use Rattle.xds_packets.proofs.SegmentLemmas.{nil_right}
use Rattle.xds_packets.proofs.OneByOneLemmas.{codes_are_read_one_by_one}

-- one code more
behind_more : (before codes : List Code) (code : Code) → packets_behind before (codes ++ code ∷ []) ≡ packets_behind before codes ++ packet_list (ends_at (before ++ codes) code)
behind_more before [] code = nil_right (packet_list (ends_at before code)) ∙ ap (λ b. packet_list (ends_at b code)) (sym (nil_right before))
behind_more before (c ∷ codes) code =
    ap (λ r. packet_list (ends_at before c) ++ r) (behind_more (before ++ c ∷ []) codes code
    ∙ ap (λ b. packets_behind (before ++ c ∷ []) codes ++ packet_list (ends_at b code)) (append_assoc before (c ∷ []) codes))
    ∙ sym (append_assoc (packet_list (ends_at before c)) (packets_behind (before ++ c ∷ []) codes) (packet_list (ends_at (before ++ c ∷ codes) code)))

all_first : (l : Listed) (ls : List Listed) → All (λ (m : Listed). IsXdsPacket m.packet) (l ∷ ls) → IsXdsPacket l.packet
all_first l ls all = all 0 l (omega arith)

all_rest : (l : Listed) (ls : List Listed) → All (λ (m : Listed). IsXdsPacket m.packet) (l ∷ ls) → All (λ (m : Listed). IsXdsPacket m.packet) ls
all_rest l ls all = λ k d is. all (suc k) d (omega (arith, is))

bytes_first : (a : ℕ) (text : List ℕ) → All (λ byte. (0x20 ≤ byte) × (byte ≤ 0x7E)) (a ∷ text) → 0x20 ≤ a
bytes_first a text all = (all 0 a (omega arith)).0

bytes_rest : (a : ℕ) (text : List ℕ) → All (λ byte. (0x20 ≤ byte) × (byte ≤ 0x7E)) (a ∷ text) → All (λ byte. (0x20 ≤ byte) × (byte ≤ 0x7E)) text
bytes_rest a text all = λ k d is. all (suc k) d (omega (arith, is))

-- the text of the pairs
one_byte : (a : ℕ) → 0x20 ≤ a → data_bytes (Text a 0) ≡ a ∷ []
one_byte a is = let test : nat_le 0x20 a ≡ true = grind (arith, nat_tests) in ap (λ b. if b then a ∷ [] else []) test

two_bytes : (a b : ℕ) → 0x20 ≤ a → 0x20 ≤ b → data_bytes (Text a b) ≡ a ∷ b ∷ []
two_bytes a b is that =
    let test : nat_le 0x20 a ≡ true = grind (arith, nat_tests) in
    let second : nat_le 0x20 b ≡ true = grind (arith, nat_tests) in
    ap (λ t. if t then a ∷ (if nat_le 0x20 b then b ∷ [] else []) else (if nat_le 0x20 b then b ∷ [] else [])) test
    ∙ ap (λ t. a ∷ (if t then b ∷ [] else [])) second

-- the packet is under way: this much of its text was read, this much is left
pub record IsUnder (packet : XdsPacket) (sent unsent : List ℕ) (s : Unsent) (r : State) : Type 0 where
  is : IsXdsPacket packet
  text_is : packet.text ≡ sent ++ unsent
  bytes : All (λ byte. (0x20 ≤ byte) × (byte ≤ 0x7E)) unsent
  codes_are : s.codes ≡ rest_codes packet unsent
  cont_is : s.cont ≡ continue_code packet
  so_far : r.under_way packet.class ≡ Some (record { kind = packet.kind; text = sent })
  label : s.broken ≡ false → r.label ≡ Some (record { class = packet.class; kind = packet.kind })

pub record IsBusy (packet : XdsPacket) (s : Unsent) (r : State) : Type 0 where
  sent : List ℕ
  unsent : List ℕ
  under : IsUnder packet sent unsent s r

abbrev pub Under : Unsent → State → List XdsPacket → Type 0
Under s r [] = s.codes ≡ []
Under s r (packet ∷ []) = IsBusy packet s r
Under s r (packet ∷ (other ∷ packets)) = ⊥

abbrev AreGood : Unsent → Type 0
AreGood s = All (λ (m : Listed). IsXdsPacket m.packet) s.left

-- what a slot does: the packets that end, and what is under way after it
record Does (code : Code) (next : Unsent) (r : State) (left under : List XdsPacket) : Type 0 where
  is_code : IsCode code
  after_under : List XdsPacket
  under_way : Under next (next_state code r) after_under
  whole : packet_list (given code r) ++ (after_under ++ packets_left next.left) ≡ under ++ left
  good : AreGood next

-- a code of captions in a slot that isn't free
abbrev KeepsUnderWay : Code → State → Type 0
KeepsUnderWay code r = (given code r ≡ None) × (((class : ℕ) → (next_state code r).under_way class ≡ r.under_way class) × IsCode code)

caption_keeps : (code : Code) (r : State) → IsCaption code → (IsTextCode code → r.label ≡ None) → KeepsUnderWay code r
caption_keeps Null r is closed = (refl, (λ class. refl, tt))
caption_keeps (Text first second) r is closed = (refl, (λ class. ap (λ l. (gone_on l (data_bytes (Text first second)) r).under_way class) (closed tt), tt))
caption_keeps (Xds first second) r is closed = absurd is
caption_keeps (Control second control) r is closed = (refl, (λ class. refl, tt))

taken_under : (code : Code) (s : Unsent) (r : State) (under : List XdsPacket) → KeepsUnderWay code r → Under s r under → Under (record s { broken = true }) (next_state code r) under
taken_under code s r [] keeps none = none
taken_under code s r (packet ∷ []) keeps busy = let u = busy.under in record {
  sent = busy.sent;
  unsent = busy.unsent;
  under = record {
    is = u.is;
    text_is = u.text_is;
    bytes = u.bytes;
    codes_are = u.codes_are;
    cont_is = u.cont_is;
    so_far = keeps.1.0 packet.class ∙ u.so_far;
    label = λ is. cc;
  };
}
taken_under code s r (packet ∷ (other ∷ packets)) keeps never = absurd never

taken_does : (code : Code) (s : Unsent) (r : State) (under : List XdsPacket) → KeepsUnderWay code r → Under s r under → AreGood s
    → Does code (record s { broken = true }) r (packets_left s.left) under
taken_does code s r under keeps u good = record {
  is_code = keeps.1.1;
  after_under = under;
  under_way = taken_under code s r under keeps u;
  whole = ap (λ o. packet_list o ++ (under ++ packets_left s.left)) keeps.0;
  good = good;
}

-- a start pair
start_class : (class : ℕ) → 1 ≤ class → (2 * class - 1 + 1) / 2 ≡ class
start_class class is = omega (arith, is)

start_odd : (class : ℕ) → 1 ≤ class → (2 * class - 1) % 2 ≡ 1
start_odd class is = omega (arith, is)

continue_class : (class : ℕ) → (2 * class + 1) / 2 ≡ class
continue_class class = omega arith

continue_even : (class : ℕ) → (2 * class) % 2 ≡ 0
continue_even class = omega arith

begun_state : (packet : XdsPacket) → IsXdsPacket packet → (r : State) → next_state (start_code packet) r ≡ record { label = Some (record { class = packet.class; kind = packet.kind }); under_way = put packet.class (Some (record { kind = packet.kind; text = [] })) r.under_way }
begun_state packet is r =
    let low : nat_lt (2 * packet.class - 1) 0x0F ≡ true = let from = is.class_from in let to = is.class_to in grind (arith, nat_tests) in
    let odd : ((2 * packet.class - 1) % 2 == 1) ≡ true = ap (λ k. k == 1) (start_odd packet.class is.class_from) in
    ap (λ b. if b then begun (2 * packet.class - 1) packet.kind r else ended_state) low
    ∙ ap (λ b. record { label = Some (record { class = (2 * packet.class - 1 + 1) / 2; kind = packet.kind }); under_way = if b then put ((2 * packet.class - 1 + 1) / 2) (Some (record { kind = packet.kind; text = [] })) r.under_way else r.under_way }) odd
    ∙ ap (λ k. record { label = Some (record { class = k; kind = packet.kind }); under_way = put k (Some (record { kind = packet.kind; text = [] })) r.under_way }) (start_class packet.class is.class_from)
  where
    ended_state : State
    ended_state = next_state (Xds 0x0F packet.kind) r

continued_state : (packet : XdsPacket) → IsXdsPacket packet → (r : State) → next_state (continue_code packet) r ≡ record { label = Some (record { class = packet.class; kind = packet.kind }); under_way = r.under_way }
continued_state packet is r =
    let low : nat_lt (2 * packet.class) 0x0F ≡ true = let to = is.class_to in grind (arith, nat_tests) in
    let even : ((2 * packet.class) % 2 == 1) ≡ false = ap (λ k. k == 1) (continue_even packet.class) in
    ap (λ b. if b then begun (2 * packet.class) packet.kind r else ended_state) low
    ∙ ap (λ b. record { label = Some (record { class = (2 * packet.class + 1) / 2; kind = packet.kind }); under_way = if b then put ((2 * packet.class + 1) / 2) (Some (record { kind = packet.kind; text = [] })) r.under_way else r.under_way }) even
    ∙ ap (λ k. record { label = Some (record { class = k; kind = packet.kind }); under_way = r.under_way }) (continue_class packet.class)
  where
    ended_state : State
    ended_state = next_state (Xds 0x0F packet.kind) r

no_end : (first second : ℕ) (r : State) → (first == 0x0F) ≡ false → given (Xds first second) r ≡ None
no_end first second r is = ap (λ b. if b then given_end r.label r second else None) is

same_class : (class : ℕ) → (class == class) ≡ true
same_class class = grind (arith, nat_tests)

put_here : (class : ℕ) (so_far : Option UnderWay) (under_way : ℕ → Option UnderWay) → put class so_far under_way class ≡ so_far
put_here class so_far under_way = ap (λ b. if b then so_far else under_way class) (same_class class)

begun_under : (l : Listed) (ls : List Listed) (r : State) → IsXdsPacket l.packet
    → IsUnder l.packet [] l.packet.text (record { left = ls; cont = continue_code l.packet; codes = rest_codes l.packet l.packet.text; broken = false }) (next_state (start_code l.packet) r)
begun_under l ls r is = record {
  is = is;
  text_is = refl;
  bytes = is.bytes;
  codes_are = refl;
  cont_is = refl;
  so_far = ap (λ (t : State). t.under_way l.packet.class) (begun_state l.packet is r) ∙ put_here l.packet.class (Some (record { kind = l.packet.kind; text = [] })) r.under_way;
  label = λ none. ap (λ (t : State). t.label) (begun_state l.packet is r);
}

abbrev done_in : Given → State → List XdsPacket → List XdsPacket → Type 0
done_in g r left under = Does (code_or g.code Null) g.next r left under

begun_does : (frame : ℕ) (s : Unsent) (left : List Listed) (r : State) → s.left ≡ left → s.codes ≡ [] → AreGood s → done_in (begun_at frame s left) r (packets_left left) []
begun_does frame s [] r at none good = record { is_code = tt; after_under = []; under_way = none; whole = ap packets_left at; good = good }
begun_does frame s (l ∷ ls) r at none good = by_frame (nat_le l.from frame)
  where
    by_frame : (b : Bool) → done_in (if b then record { next = record { left = ls; cont = continue_code l.packet; codes = rest_codes l.packet l.packet.text; broken = false }; code = Some (start_code l.packet) }
        else record { next = s; code = None }) r (packets_left (l ∷ ls)) []
    by_frame true =
        let all : All (λ (m : Listed). IsXdsPacket m.packet) (l ∷ ls) = subst (λ ks. All (λ (m : Listed). IsXdsPacket m.packet) ks) at good in
        let is : IsXdsPacket l.packet = all_first l ls all in
        let from = is.class_from in let to = is.class_to in
        let other : (2 * l.packet.class - 1 == 0x0F) ≡ false = grind (arith, nat_tests) in
        record {
          is_code = omega (arith, is.class_to);
          after_under = l.packet ∷ [];
          under_way = record { sent = []; unsent = l.packet.text; under = begun_under l ls r is };
          whole = ap (λ o. packet_list o ++ (l.packet ∷ packets_left ls)) (no_end (2 * l.packet.class - 1) l.packet.kind r other);
          good = all_rest l ls all;
        }
    by_frame false = record { is_code = tt; after_under = []; under_way = none; whole = ap packets_left at; good = good }

-- a continue pair
continued_does : (packet : XdsPacket) (sent unsent : List ℕ) (s : Unsent) (r : State) → IsUnder packet sent unsent s r → AreGood s
    → Does s.cont (record s { broken = false }) r (packets_left s.left) (packet ∷ [])
continued_does packet sent unsent s r u good =
    subst (λ c. Does c (record s { broken = false }) r (packets_left s.left) (packet ∷ [])) (sym u.cont_is) (
    let to = u.is.class_to in
    let other : (2 * packet.class == 0x0F) ≡ false = grind (arith, nat_tests) in
    record {
      is_code = omega (arith, u.is.class_to);
      after_under = packet ∷ [];
      under_way = record {
        sent = sent;
        unsent = unsent;
        under = record {
          is = u.is;
          text_is = u.text_is;
          bytes = u.bytes;
          codes_are = u.codes_are;
          cont_is = u.cont_is;
          so_far = ap (λ (t : State). t.under_way packet.class) (continued_state packet u.is r) ∙ u.so_far;
          label = λ none. ap (λ (t : State). t.label) (continued_state packet u.is r);
        };
      };
      whole = ap (λ o. packet_list o ++ (packet ∷ packets_left s.left)) (no_end (2 * packet.class) packet.kind r other);
      good = good;
    })

-- a text pair
text_state : (packet : XdsPacket) (sent bytes : List ℕ) (first second : ℕ) (r : State) → data_bytes (Text first second) ≡ bytes → length (sent ++ bytes) ≤ 32
    → r.label ≡ Some (record { class = packet.class; kind = packet.kind }) → r.under_way packet.class ≡ Some (record { kind = packet.kind; text = sent })
    → (next_state (Text first second) r).under_way packet.class ≡ Some (record { kind = packet.kind; text = sent ++ bytes })
text_state packet sent bytes first second r are fits label so_far =
    let test : nat_le (length (sent ++ bytes)) 32 ≡ true = grind (arith, nat_tests) in
    ap (λ l. (gone_on l (data_bytes (Text first second)) r).under_way packet.class) label
    ∙ put_here packet.class (added (record { class = packet.class; kind = packet.kind }) (data_bytes (Text first second)) (r.under_way packet.class)) r.under_way
    ∙ ap (λ o. added (record { class = packet.class; kind = packet.kind }) (data_bytes (Text first second)) o) so_far
    ∙ ap (λ b. if b then fitted packet.kind (sent ++ data_bytes (Text first second)) else Some (record { kind = packet.kind; text = sent })) (same_class packet.kind)
    ∙ ap (λ t. fitted packet.kind (sent ++ t)) are
    ∙ ap (λ b. if b then Some (record { kind = packet.kind; text = sent ++ bytes }) else None) test

text_label : (first second : ℕ) (r : State) (label : Label) → r.label ≡ Some label → (next_state (Text first second) r).label ≡ Some label
text_label first second r label is = ap (λ l. (gone_on l (data_bytes (Text first second)) r).label) is ∙ is

text_does : (packet : XdsPacket) (sent bytes unsent : List ℕ) (first second : ℕ) (s : Unsent) (r : State) → IsUnder packet sent (bytes ++ unsent) s r → AreGood s → s.broken ≡ false
    → data_bytes (Text first second) ≡ bytes → All (λ byte. (0x20 ≤ byte) × (byte ≤ 0x7E)) unsent
    → Does (Text first second) (record s { codes = rest_codes packet unsent }) r (packets_left s.left) (packet ∷ [])
text_does packet sent bytes unsent first second s r u good whole are all =
    let text_is : packet.text ≡ (sent ++ bytes) ++ unsent = u.text_is ∙ sym (append_assoc sent bytes unsent) in
    let sum_is : length packet.text ≡ length (sent ++ bytes) + length unsent = ap length text_is ∙ length-append (sent ++ bytes) unsent in
    let fits : length (sent ++ bytes) ≤ 32 = omega (arith, sum_is, u.is.text_to) in
    record {
      is_code = tt;
      after_under = packet ∷ [];
      under_way = record {
        sent = sent ++ bytes;
        unsent = unsent;
        under = record {
          is = u.is;
          text_is = text_is;
          bytes = all;
          codes_are = refl;
          cont_is = u.cont_is;
          so_far = text_state packet sent bytes first second r are fits (u.label whole) u.so_far;
          label = λ none. text_label first second r (record { class = packet.class; kind = packet.kind }) (u.label whole);
        };
      };
      whole = refl;
      good = good;
    }

-- the end pair
checked : (class kind total : ℕ) → (2 * class + kind + total + 0x0E + (128 - (2 * class + kind + total + 0x0E) % 128) % 128) % 128 ≡ 0
checked class kind total = omega arith

end_does : (packet : XdsPacket) (sent : List ℕ) (s : Unsent) (r : State) → IsUnder packet sent [] s r → AreGood s → s.broken ≡ false
    → Does (Xds 0x0F (checksum packet)) (record s { codes = [] }) r (packets_left s.left) (packet ∷ [])
end_does packet sent s r u good whole =
    let text_is : packet.text ≡ sent = u.text_is ∙ nil_right sent in
    let check : checks packet.class packet.kind packet.text (checksum packet) ≡ true = ap (λ n. n == 0) (checked packet.class packet.kind (sum packet.text)) in
    let gives : given (Xds 0x0F (checksum packet)) r ≡ Some packet =
    ap (λ l. given_end l r (checksum packet)) (u.label whole)
    ∙ ap (λ o. finished (record { class = packet.class; kind = packet.kind }) o (checksum packet)) (u.so_far ∙ ap (λ t. Some (record { kind = packet.kind; text = t })) (sym text_is))
    ∙ ap (λ b. if b && checks packet.class packet.kind packet.text (checksum packet) then Some packet else None) (same_class packet.kind)
    ∙ ap (λ b. if b then Some packet else None) check in
    record {
      is_code = omega arith;
      after_under = [];
      under_way = refl;
      whole = ap (λ o. packet_list o ++ packets_left s.left) gives;
      good = good;
    }

-- a slot that is free, with a packet under way
busy_does : (packet : XdsPacket) (sent unsent : List ℕ) (frame : ℕ) (s : Unsent) (r : State) → IsUnder packet sent unsent s r → AreGood s → s.broken ≡ false
    → done_in (sent_on false frame s (rest_codes packet unsent)) r (packets_left s.left) (packet ∷ [])
busy_does packet sent [] frame s r u good whole = end_does packet sent s r u good whole
busy_does packet sent (a ∷ []) frame s r u good whole = text_does packet sent (a ∷ []) [] a 0 s r u good whole (one_byte a (bytes_first a [] u.bytes)) (bytes_rest a [] u.bytes)
busy_does packet sent (a ∷ (b ∷ unsent)) frame s r u good whole =
    text_does packet sent (a ∷ b ∷ []) unsent a b s r u good whole
    (two_bytes a b (bytes_first a (b ∷ unsent) u.bytes) (bytes_first b unsent (bytes_rest a (b ∷ unsent) u.bytes)))
    (bytes_rest b unsent (bytes_rest a (b ∷ unsent) u.bytes))

rest_some : (packet : XdsPacket) (unsent : List ℕ) → (c : Code) × ((cs : List Code) × (rest_codes packet unsent ≡ c ∷ cs))
rest_some packet [] = (Xds 0x0F (checksum packet), ([], refl))
rest_some packet (a ∷ []) = (Text a 0, (Xds 0x0F (checksum packet) ∷ [], refl))
rest_some packet (a ∷ (b ∷ unsent)) = (Text a b, (rest_codes packet unsent, refl))

free_does : (frame : ℕ) (s : Unsent) (r : State) (under : List XdsPacket) → Under s r under → AreGood s → done_in (sent_on s.broken frame s s.codes) r (packets_left s.left) under
free_does frame s r [] none good =
    subst (λ cs. done_in (sent_on s.broken frame s cs) r (packets_left s.left) []) (sym none) (by_broken s.broken)
  where
    by_broken : (b : Bool) → done_in (sent_on b frame s []) r (packets_left s.left) []
    by_broken true = begun_does frame s s.left r refl none good
    by_broken false = begun_does frame s s.left r refl none good
free_does frame s r (packet ∷ []) busy good =
    subst (λ cs. done_in (sent_on s.broken frame s cs) r (packets_left s.left) (packet ∷ [])) (sym busy.under.codes_are) (by_broken s.broken refl)
  where
    unsent : List ℕ
    unsent = busy.unsent

    by_broken : (b : Bool) → s.broken ≡ b → done_in (sent_on b frame s (rest_codes packet unsent)) r (packets_left s.left) (packet ∷ [])
    by_broken true is =
        let rest = rest_some packet unsent in
        subst (λ cs. done_in (sent_on true frame s cs) r (packets_left s.left) (packet ∷ [])) (sym rest.1.1) (continued_does packet busy.sent unsent s r busy.under good)
    by_broken false is = busy_does packet busy.sent unsent frame s r busy.under good is
free_does frame s r (packet ∷ (other ∷ packets)) never good = absurd never

-- a control code came, and no slot after it was free: no segment is open
module _ (free : ℕ → Bool) (frame_of : ℕ → ℕ) (others : ℕ → Code) (listed : List Listed) (beside : AreBeside others free) (are : All (λ (m : Listed). IsXdsPacket m.packet) listed) where
  pub record Stands (n : ℕ) : Type 0 where
    pub state : State
    stands : StandsAt (codes_to free frame_of others listed n) state
    shut : IsLed others free n → state.label ≡ None
    pub under : List XdsPacket
    pub under_way : Under (writing_at free frame_of listed n) state under
    whole : packets_behind [] (codes_to free frame_of others listed n) ++ (under ++ packets_left (writing_at free frame_of listed n).left) ≡ packets_left listed
    good : AreGood (writing_at free frame_of listed n)

  control_label : (code : Code) (r : State) → IsControlCode code → (next_state code r).label ≡ None
  control_label Null r is = absurd is
  control_label (Text first second) r is = absurd is
  control_label (Xds first second) r is = absurd is
  control_label (Control second control) r is = refl

  caption_label : (code : Code) (r : State) → IsCaption code → r.label ≡ None → (next_state code r).label ≡ None
  caption_label Null r is none = none
  caption_label (Text first second) r is none = ap (λ l. (gone_on l (data_bytes (Text first second)) r).label) none ∙ none
  caption_label (Xds first second) r is none = absurd is
  caption_label (Control second control) r is none = refl

  null_control : (code : Code) → code ≡ Null → IsControlCode code → ⊥
  null_control code is control = subst IsControlCode is control

  led_before : (n : ℕ) → (led : IsLed others free (suc n)) → led.at < n → IsLed others free n
  led_before n led below = record { at = led.at; before = below; control = led.control; closed = λ m above under. led.closed m above (omega (arith, under)) }

  here_control : (n : ℕ) (led : IsLed others free (suc n)) → n ≤ led.at → IsControlCode (others n)
  here_control n led above = let before = led.before in let same : led.at ≡ n = omega arith in subst (λ m. IsControlCode (others m)) same led.control

  shut_free : (n : ℕ) → free n ≡ true → IsLed others free (suc n) → ⊥
  shut_free n is led = ⊎_elim
      (λ (below : led.at < n). let wrong : true ≡ false = sym is ∙ led.closed n below (omega arith) in cc)
      (λ (above : n ≤ led.at). subst IsControlCode (beside.nothing n is) (here_control n led above))
      (cases_lt led.at n)

  shut_taken : (n : ℕ) (r : State) → (IsLed others free n → r.label ≡ None) → IsLed others free (suc n) → (next_state (others n) r).label ≡ None
  shut_taken n r shut led = ⊎_elim
      (λ (below : led.at < n). caption_label (others n) r (beside.captions n) (shut (led_before n led below)))
      (λ (above : n ≤ led.at). control_label (others n) r (here_control n led above))
      (cases_lt led.at n)

  abbrev slot_does : ℕ → Bool → State → List XdsPacket → Type 0
  slot_does n b r under = Does (code_or (given_in b (frame_of n) (writing_at free frame_of listed n)).code (others n)) (given_in b (frame_of n) (writing_at free frame_of listed n)).next r
      (packets_left (writing_at free frame_of listed n).left) under

  does_at : (n : ℕ) → (s : Stands n) → slot_does n (free n) s.state s.under
  does_at n s = by_free (free n) refl
    where
      by_free : (b : Bool) → free n ≡ b → slot_does n b s.state s.under
      by_free true is =
          subst (λ c. Does (code_or (given_in true (frame_of n) (writing_at free frame_of listed n)).code c) (given_in true (frame_of n) (writing_at free frame_of listed n)).next s.state
          (packets_left (writing_at free frame_of listed n).left) s.under) (sym (beside.nothing n is))
          (free_does (frame_of n) (writing_at free frame_of listed n) s.state s.under s.under_way s.good)
      by_free false is = taken_does (others n) (writing_at free frame_of listed n) s.state s.under
          (caption_keeps (others n) s.state (beside.captions n) (λ text. s.shut (beside.led n text))) s.under_way s.good

  shut_at : (n : ℕ) → (s : Stands n) → IsLed others free (suc n) → (next_state (column free frame_of others listed n) s.state).label ≡ None
  shut_at n s led = by_free (free n) refl
    where
      by_free : (b : Bool) → free n ≡ b → (next_state (code_or (given_in b (frame_of n) (writing_at free frame_of listed n)).code (others n)) s.state).label ≡ None
      by_free true is = absurd (shut_free n is led)
      by_free false is = shut_taken n s.state s.shut led

  pub stands_at : (n : ℕ) → Stands n
  stands_at zero = record {
    state = fresh;
    stands = codes_are_read_one_by_one.0;
    shut = λ led. refl;
    under = [];
    under_way = refl;
    whole = refl;
    good = are;
  }
  stands_at (suc n) =
      let s = stands_at n in
      let d = does_at n s in
      let code : Code = column free frame_of others listed n in
      let step = codes_are_read_one_by_one.1 (codes_to free frame_of others listed n) (column free frame_of others listed n) s.state d.is_code s.stands in
      record {
        state = next_state (column free frame_of others listed n) s.state;
        stands = step.1;
        shut = shut_at n s;
        under = d.after_under;
        under_way = d.under_way;
        whole =
            ap (λ r. r ++ (d.after_under ++ packets_left (writing_at free frame_of listed (suc n)).left))
            (behind_more [] (codes_to free frame_of others listed n) (column free frame_of others listed n)
            ∙ ap (λ o. packets_behind [] (codes_to free frame_of others listed n) ++ packet_list o) (sym step.0))
            ∙ append_assoc (packets_behind [] (codes_to free frame_of others listed n)) (packet_list (given (column free frame_of others listed n) s.state)) (d.after_under ++ packets_left (writing_at free frame_of listed (suc n)).left)
            ∙ ap (λ r. packets_behind [] (codes_to free frame_of others listed n) ++ r) d.whole
            ∙ s.whole;
        good = d.good;
      }

  nothing_under : (under : List XdsPacket) (s : Unsent) (r : State) → Under s r under → s.codes ≡ [] → under ≡ []
  nothing_under [] s r way none = refl
  nothing_under (packet ∷ []) s r busy none =
      let rest = rest_some packet busy.unsent in
      let wrong : [] ≡ rest.0 ∷ rest.1.0 = sym none ∙ busy.under.codes_are ∙ rest.1.1 in absurd (cc)
  nothing_under (packet ∷ (other ∷ packets)) s r never none = absurd never

  nothing_coded : (under : List XdsPacket) (s : Unsent) (r : State) → Under s r under → under ≡ [] → s.codes ≡ []
  nothing_coded [] s r way none = way
  nothing_coded (packet ∷ []) s r busy none = cc
  nothing_coded (packet ∷ (other ∷ packets)) s r never none = absurd never

few : (under : List XdsPacket) (s : Unsent) → (r : State) → Under s r under → length under ≤ 1
few [] s r way = omega arith
few (packet ∷ []) s r way = omega arith
few (packet ∷ (other ∷ packets)) s r never = absurd never

pub packets_are_carried : PacketsAreCarried
packets_are_carried free frame_of others listed beside are n =
    let s = stands_at free frame_of others listed beside are n in
    record {
      under_way = s.under;
      one_at_most = few s.under (writing_at free frame_of listed n) s.state s.under_way;
      none_under = nothing_under free frame_of others listed beside are s.under (writing_at free frame_of listed n) s.state s.under_way;
      some_under = nothing_coded free frame_of others listed beside are s.under (writing_at free frame_of listed n) s.state s.under_way;
      whole = s.whole;
    }
