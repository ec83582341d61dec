-- The pairs of packets in free slots keep out of the captions.
use Rattle.std.proofs.Common.{◌≡◌, ℕ, zero, suc, ◌-◌, ◌*◌, ◌<◌, ◌≤◌, nat_le, Bool, true, false, List, [], ◌∷◌, ◌++◌, Option, Some, None, option_map, refl, sym, ap, ◌∙◌, subst, arith, ⊎_elim, lt-ltb}
use Rattle.std.specs.Prelude.{All, if◌then◌else◌, ⊤}
use Rattle.std.proofs.lemmas.Bool.{cases_lt}
use Rattle.std.proofs.lemmas.List.Elements.{All-head, All-tail}
use Rattle.line21_codes.proofs.CodeLemmas.{is_control-written, written-code_of}
use Rattle.line21_codes.specs.ControlPairs.{is_control}
use Rattle.line21_codes.specs.Reading.{code_of}
use Rattle.line21_codes.specs.Writable.{IsWritable, is_doubled}
use Rattle.line21_codes.specs.declared.channels.FieldNumber.TheVariants as fields
use Rattle.line21_codes.specs.declared.codes.Code.{Code}
use Rattle.line21_codes.specs.declared.codes.Code.TheVariants.{Null, Text, Xds, Control}
use Rattle.line21_author.specs.declared.unit.Unit.{Unit}
use Rattle.lanes.specs.Timeline.{Timeline}
use Rattle.dual_fields.specs.Sharing.{is_text}
use Rattle.xds_frames.specs.Outside.{AreOutside, IsData, IsWithinData, begins}
use Rattle.xds_frames.specs.PacketTimeline.{LeaveFree, PacketsAreOutside, packet_timeline, packet_unit}
use Rattle.xds_packets.proofs.FollowLemmas.{packets_can_be_written}
use Rattle.xds_packets.specs.PacketCodes.{AreWritable, IsXdsPacket, checksum, continue_code, data_codes, rest_codes, start_code}
use Rattle.xds_packets.specs.Places.{given_at}
use Rattle.xds_packets.specs.Sending.{Given, Listed, Unsent, begun_at, given_in, sent_on, writing_at}
use Rattle.xds_packets.specs.declared.packets.XdsPacket.{XdsPacket}

-- a code of extended data that can be written
record IsDataCode (code : Code) : Type 0 where
  data_is : IsData code
  writable : IsWritable code

-- text codes, and the code that ends them
AreData : List Code → Type 0
AreData [] = ⊤
AreData (code ∷ []) = IsDataCode code
AreData (code ∷ (next ∷ codes)) = IsDataCode code × ((is_text code ≡ true) × AreData (next ∷ codes))

data_more : (code : Code) (codes : List Code) → IsDataCode code → is_text code ≡ true → AreData codes → AreData (code ∷ codes)
unfolding AreData
data_more code [] is text are = is
data_more code (next ∷ codes) is text are = (is, (text, are))

data_first : (code : Code) (codes : List Code) → AreData (code ∷ codes) → IsDataCode code
unfolding AreData
data_first code [] all = all
data_first code (next ∷ codes) all = all.0

data_rest : (code : Code) (codes : List Code) → AreData (code ∷ codes) → AreData codes
unfolding AreData
data_rest code [] all = tt
data_rest code (next ∷ codes) all = all.1.1

data_text : (code next : Code) (codes : List Code) → AreData (code ∷ (next ∷ codes)) → is_text code ≡ true
unfolding AreData
data_text code next codes all = all.1.0

rest_data : (text : List ℕ) (last : Code) → IsData last → AreWritable (data_codes text ++ last ∷ []) → AreData (data_codes text ++ last ∷ [])
unfolding AreData
rest_data [] last is can = record { data_is = is; writable = can.0 }
rest_data (a ∷ []) last is can = (record { data_is = tt; writable = can.0 }, (refl, record { data_is = is; writable = can.1.0 }))
rest_data (a ∷ (b ∷ text)) last is can = data_more (Text a b) (data_codes text ++ last ∷ []) (record { data_is = tt; writable = can.0 }) refl (rest_data text last is can.1)

-- what is sent of a packet
record IsSendable (packet : XdsPacket) : Type 0 where
  start_is : begins (start_code packet)
  start_data : IsDataCode (start_code packet)
  cont_is : begins (continue_code packet)
  cont_data : IsDataCode (continue_code packet)
  rest_are : AreData (rest_codes packet packet.text)

sendable : (packet : XdsPacket) → IsXdsPacket packet → IsSendable packet
sendable packet is =
    let can = packets_can_be_written packet is in
    let from = is.class_from in
    let to = is.class_to in
    record {
      start_is = lt-ltb (2 * packet.class - 1) 0x0F (omega arith);
      start_data = record { data_is = tt; writable = can.0 };
      cont_is = lt-ltb (2 * packet.class) 0x0F (omega arith);
      cont_data = record { data_is = tt; writable = can.1.0 };
      rest_are = rest_data packet.text (Xds 0x0F (checksum packet)) tt can.1.1;
    }

-- their units
record IsDataUnit (unit : Unit) (code : Code) : Type 0 where
  code_is : code_of unit.pair ≡ code
  data_is : IsData (code_of unit.pair)
  plain : is_control unit.pair ≡ false
  single : unit.doubled ≡ false

undoubled : (code : Code) → IsData code → is_doubled code ≡ false
undoubled Null is = absurd is
undoubled (Text first second) is = refl
undoubled (Xds first second) is = refl
undoubled (Control second control) is = absurd is

data_unit : (code : Code) → IsDataCode code → IsDataUnit (packet_unit code) code
data_unit code is = record {
  code_is = written-code_of fields.Two code is.writable;
  data_is = subst IsData (sym (written-code_of fields.Two code is.writable)) is.data_is;
  plain = is_control-written fields.Two code is.writable ∙ undoubled code is.data_is;
  single = refl;
}

-- a code that begins them is no text
begins_plain : (code : Code) → begins code → is_text code ≡ false
begins_plain Null is = absurd is
begins_plain (Text first second) is = absurd is
begins_plain (Xds first second) is = refl
begins_plain (Control second control) is = absurd is

-- what is kept of the writing
record IsSound (s : Unsent) : Type 0 where
  left : All (λ (l : Listed). IsXdsPacket l.packet) s.left
  codes : AreData s.codes
  cont : (code : Code) (codes : List Code) → s.codes ≡ code ∷ codes → begins s.cont × IsDataCode s.cont

-- what a slot gives: a code of extended data, or none
record GivesData (given : Given) : Type 0 where
  sound : IsSound given.next
  data_is : (code : Code) → given.code ≡ Some code → IsDataCode code

abbrev begun : Unsent → Listed → List Listed → Bool → Given
begun s listed left b =
    if b then record { next = record { left = left; cont = continue_code listed.packet; codes = rest_codes listed.packet listed.packet.text; broken = false }; code = Some (start_code listed.packet) }
    else record { next = s; code = None }

begun_sound : (frame : ℕ) (s : Unsent) (left : List Listed) → All (λ (l : Listed). IsXdsPacket l.packet) left → IsSound s → GivesData (begun_at frame s left)
begun_sound frame s [] are sound = record { sound = sound; data_is = λ code is. cc }
begun_sound frame s (listed ∷ left) are sound = by_test (nat_le listed.from frame)
  where
    can : IsSendable listed.packet
    can = sendable listed.packet (All-head (λ (l : Listed). IsXdsPacket l.packet) listed left are)

    by_test : (b : Bool) → GivesData (begun s listed left b)
    by_test true = record {
      sound = record { left = All-tail (λ (l : Listed). IsXdsPacket l.packet) listed left are; codes = can.rest_are; cont = λ code codes is. (can.cont_is, can.cont_data) };
      data_is = λ code is. let it : start_code listed.packet ≡ code = cc in subst IsDataCode it can.start_data;
    }
    by_test false = record { sound = sound; data_is = λ code is. cc }

sent_sound : (broken : Bool) (frame : ℕ) (s : Unsent) (codes : List Code) → s.codes ≡ codes → IsSound s → GivesData (sent_on broken frame s codes)
sent_sound broken frame s [] at sound = begun_sound frame s s.left sound.left sound
sent_sound true frame s (code ∷ codes) at sound = record {
  sound = record { left = sound.left; codes = sound.codes; cont = sound.cont };
  data_is = λ c is. let it : s.cont ≡ c = cc in subst IsDataCode it (sound.cont code codes at).1;
}
sent_sound false frame s (code ∷ codes) at sound =
    let all : AreData (code ∷ codes) = subst AreData at sound.codes in
    record {
      sound = record { left = sound.left; codes = data_rest code codes all; cont = λ c cs is. sound.cont code codes at };
      data_is = λ c is. let it : code ≡ c = cc in subst IsDataCode it (data_first code codes all);
    }

given_sound : (free : Bool) (frame : ℕ) (s : Unsent) → IsSound s → GivesData (given_in free frame s)
given_sound false frame s sound = record { sound = record { left = sound.left; codes = sound.codes; cont = sound.cont }; data_is = λ code is. cc }
given_sound true frame s sound = sent_sound s.broken frame s s.codes refl sound

module _ (captions : Timeline) (free : ℕ → Bool) (frame_of : ℕ → ℕ) (listed : List Listed) (leave : LeaveFree captions free) (are : All (λ (l : Listed). IsXdsPacket l.packet) listed) where
  abbrev data_of : Timeline
  data_of = packet_timeline free frame_of listed

  abbrev at : ℕ → Unsent
  at n = writing_at free frame_of listed n

  sound_at : (n : ℕ) → IsSound (writing_at free frame_of listed n)
  unfolding AreData
  sound_at zero = record { left = are; codes = tt; cont = λ code codes is. cc }
  sound_at (suc n) = (given_sound (free n) (frame_of n) (writing_at free frame_of listed n) (sound_at n)).sound

  from_code : (o : Option Code) (unit : Unit) → option_map packet_unit o ≡ Some unit → (code : Code) × ((o ≡ Some code) × (unit ≡ packet_unit code))
  from_code None unit is = cc
  from_code (Some code) unit is = let it : unit ≡ packet_unit code = cc in (code, (refl, it))

  -- nothing is given in a slot that isn't free
  taken_none : (n : ℕ) → free n ≡ false → data_of n ≡ None
  taken_none n taken = ap (λ b. option_map packet_unit (given_in b (frame_of n) (writing_at free frame_of listed n)).code) taken

  free_given : (n : ℕ) (unit : Unit) → data_of n ≡ Some unit → free n ≡ true
  free_given n unit is = by_free (free n) refl
    where
      by_free : (b : Bool) → free n ≡ b → free n ≡ true
      by_free true e = e
      by_free false e = let none : data_of n ≡ None = taken_none n e in let wrong : Some unit ≡ None = sym is ∙ none in absurd (cc)

  data_pair : (n : ℕ) (unit : Unit) → data_of n ≡ Some unit → (code : Code) × IsDataUnit unit code
  data_pair n unit is =
      let w = from_code (given_in (free n) (frame_of n) (writing_at free frame_of listed n)).code unit is in
      let code_is = (given_sound (free n) (frame_of n) (writing_at free frame_of listed n) (sound_at n)).data_is w.0 w.1.0 in
      (w.0, subst (λ (u : Unit). IsDataUnit u w.0) (sym w.1.1) (data_unit w.0 code_is))

  -- one more slot with a text pair, or with a pair that begins them
  begun_next : (n : ℕ) (unit : Unit) → data_of n ≡ Some unit → begins (code_of unit.pair) → IsWithinData captions data_of (suc n)
  begun_next n unit is begins_it =
      record { at = n; before = omega arith; unit = unit; there = is; begins_it = begins_it; alone = λ m high low. absurd (omega arith); texts = λ m other high low there. absurd (omega arith) }

  begun_by : (n : ℕ) (code : Code) → IsDataCode code → begins code → data_of n ≡ Some (packet_unit code) → IsWithinData captions data_of (suc n)
  begun_by n code is begins_it there = begun_next n (packet_unit code) there (subst begins (sym (written-code_of fields.Two code is.writable)) begins_it)

  text_next : (n : ℕ) (unit : Unit) → data_of n ≡ Some unit → is_text (code_of unit.pair) ≡ true → IsWithinData captions data_of n → IsWithinData captions data_of (suc n)
  text_next n unit is text w = record {
    at = w.at;
    before = omega (arith, w.before);
    unit = w.unit;
    there = w.there;
    begins_it = w.begins_it;
    alone = λ m high low.
        ⊎_elim
        (λ (below : m < n). w.alone m high below)
        (λ (here : n ≤ m). let same : m ≡ n = omega arith in ap captions same ∙ leave.nothing n (free_given n unit is))
        (cases_lt m n);
    texts = λ m other high low there.
        ⊎_elim
        (λ (below : m < n). w.texts m other high below there)
        (λ (here : n ≤ m).
        let same : m ≡ n = omega arith in
        let it : Some unit ≡ Some other = sym is ∙ ap data_of (sym same) ∙ there in
        let unit_is : unit ≡ other = cc in
        ap (λ (u : Unit). is_text (code_of u.pair)) (sym unit_is) ∙ text)
        (cases_lt m n);
  }

  -- what the slot gives, by what is known of it
  given_is : (n : ℕ) (br : Bool) (cs : List Code) → free n ≡ true → (writing_at free frame_of listed n).broken ≡ br → (writing_at free frame_of listed n).codes ≡ cs
      → given_in (free n) (frame_of n) (writing_at free frame_of listed n) ≡ sent_on br (frame_of n) (writing_at free frame_of listed n) cs
  given_is n br cs is broken codes =
      ap (λ b. given_in b (frame_of n) (writing_at free frame_of listed n)) is
      ∙ ap (λ b. sent_on b (frame_of n) (writing_at free frame_of listed n) (writing_at free frame_of listed n).codes) broken
      ∙ ap (λ (l : List Code). sent_on br (frame_of n) (writing_at free frame_of listed n) l) codes

  abbrev WithinBy : ℕ → Unsent → Type 0
  WithinBy n s = (code : Code) (codes : List Code) → s.codes ≡ code ∷ codes → s.broken ≡ false → IsWithinData captions data_of n

  begun_within : (n : ℕ) (left : List Listed) → All (λ (l : Listed). IsXdsPacket l.packet) left → (writing_at free frame_of listed n).codes ≡ []
      → given_in (free n) (frame_of n) (writing_at free frame_of listed n) ≡ begun_at (frame_of n) (writing_at free frame_of listed n) left
      → WithinBy (suc n) (begun_at (frame_of n) (writing_at free frame_of listed n) left).next
  begun_within n [] packets none given = λ code codes is plain. let wrong : [] ≡ code ∷ codes = sym none ∙ is in absurd (cc)
  begun_within n (first ∷ left) packets none given = by_test (nat_le first.from (frame_of n)) refl
    where
      by_test : (b : Bool) → nat_le first.from (frame_of n) ≡ b → WithinBy (suc n) (begun (writing_at free frame_of listed n) first left b).next
      by_test true test code codes is plain =
          let can = sendable first.packet (All-head (λ (l : Listed). IsXdsPacket l.packet) first left packets) in
          let there : data_of n ≡ Some (packet_unit (start_code first.packet)) =
          ap (λ (g : Given). option_map packet_unit g.code) (given ∙ ap (begun (writing_at free frame_of listed n) first left) test) in
          begun_by n (start_code first.packet) can.start_data can.start_is there
      by_test false test code codes is plain = let wrong : [] ≡ code ∷ codes = sym none ∙ is in absurd (cc)

  next_within : (n : ℕ) → WithinBy n (writing_at free frame_of listed n) → (b : Bool) → free n ≡ b → (br : Bool) → (writing_at free frame_of listed n).broken ≡ br
      → (cs : List Code) → (writing_at free frame_of listed n).codes ≡ cs → WithinBy (suc n) (writing_at free frame_of listed (suc n))
  next_within n within false closed br broken cs codes = λ code more is plain.
      let wrong : true ≡ false = sym (ap (λ b. (given_in b (frame_of n) (writing_at free frame_of listed n)).next.broken) closed) ∙ plain in absurd (cc)
  next_within n within true is_free br broken [] none =
      let given = given_is n br [] is_free broken none in
      subst (WithinBy (suc n)) (sym (ap (λ (g : Given). g.next) given))
      (begun_within n (writing_at free frame_of listed n).left (sound_at n).left none given)
  next_within n within true is_free true broken (q ∷ qs) codes = λ code more is plain.
      let there : data_of n ≡ Some (packet_unit (writing_at free frame_of listed n).cont) = ap (λ (g : Given). option_map packet_unit g.code) (given_is n true (q ∷ qs) is_free broken codes) in
      let cont = (sound_at n).cont q qs codes in
      begun_by n (writing_at free frame_of listed n).cont cont.1 cont.0 there
  next_within n within true is_free false broken (q ∷ qs) codes = λ code more is plain.
      let given = given_is n false (q ∷ qs) is_free broken codes in
      let there : data_of n ≡ Some (packet_unit q) = ap (λ (g : Given). option_map packet_unit g.code) given in
      let rest : qs ≡ code ∷ more = sym (ap (λ (g : Given). g.next.codes) given) ∙ is in
      let all : AreData (q ∷ (code ∷ more)) = subst (λ (l : List Code). AreData (q ∷ l)) rest (subst AreData codes (sound_at n).codes) in
      let own = data_first q (code ∷ more) all in
      text_next n (packet_unit q) there (ap is_text (written-code_of fields.Two q own.writable) ∙ data_text q code more all) (within q qs codes broken)

  within_at : (n : ℕ) → WithinBy n (writing_at free frame_of listed n)
  within_at zero = λ code codes is plain. let wrong : [] ≡ code ∷ codes = is in absurd (cc)
  within_at (suc n) =
      next_within n (within_at n) (free n) refl (writing_at free frame_of listed n).broken refl (writing_at free frame_of listed n).codes refl

  -- a text pair is within extended data
  text_within : (n : ℕ) (unit : Unit) → data_of n ≡ Some unit → is_text (code_of unit.pair) ≡ true → IsWithinData captions data_of n
  text_within n unit is text =
      by_state (writing_at free frame_of listed n).broken refl (writing_at free frame_of listed n).codes refl
    where
      free_now : free n ≡ true
      free_now = free_given n unit is

      plain_unit : (code : Code) → IsDataCode code → option_map packet_unit (Some code) ≡ Some unit → begins code → ⊥
      plain_unit code own same begins_it =
          let it : packet_unit code ≡ unit = cc in
          let no_text : is_text code ≡ false = begins_plain code begins_it in
          let some_text : is_text code ≡ true =
          ap is_text (sym (written-code_of fields.Two code own.writable)) ∙ ap (λ (u : Unit). is_text (code_of u.pair)) it ∙ text in cc

      by_left : (left : List Listed) → All (λ (l : Listed). IsXdsPacket l.packet) left → option_map packet_unit (begun_at (frame_of n) (writing_at free frame_of listed n) left).code ≡ Some unit → ⊥
      by_left [] packets given = cc
      by_left (first ∷ left) packets given = by_test (nat_le first.from (frame_of n)) refl
        where
          by_test : (b : Bool) → nat_le first.from (frame_of n) ≡ b → ⊥
          by_test true test =
              let can = sendable first.packet (All-head (λ (l : Listed). IsXdsPacket l.packet) first left packets) in
              plain_unit (start_code first.packet) can.start_data
              (sym (ap (λ b. option_map packet_unit (begun (writing_at free frame_of listed n) first left b).code) test) ∙ given) can.start_is
          by_test false test =
              let wrong : None ≡ Some unit = sym (ap (λ b. option_map packet_unit (begun (writing_at free frame_of listed n) first left b).code) test) ∙ given in cc

      by_state : (br : Bool) → (writing_at free frame_of listed n).broken ≡ br → (cs : List Code) → (writing_at free frame_of listed n).codes ≡ cs → IsWithinData captions data_of n
      by_state br broken [] none =
          absurd (by_left (writing_at free frame_of listed n).left (sound_at n).left
          (sym (ap (λ (g : Given). option_map packet_unit g.code) (given_is n br [] free_now broken none)) ∙ is))
      by_state true broken (q ∷ qs) codes =
          let cont = (sound_at n).cont q qs codes in
          absurd (plain_unit (writing_at free frame_of listed n).cont cont.1
          (sym (ap (λ (g : Given). option_map packet_unit g.code) (given_is n true (q ∷ qs) free_now broken codes)) ∙ is) cont.0)
      by_state false broken (q ∷ qs) codes = within_at n q qs codes broken

  -- what is given can be written
  given_writable : (n : ℕ) (code : Code) → (given_in (free n) (frame_of n) (writing_at free frame_of listed n)).code ≡ Some code → IsWritable code
  given_writable n code is = ((given_sound (free n) (frame_of n) (writing_at free frame_of listed n) (sound_at n)).data_is code is).writable

  outside : AreOutside captions data_of
  outside = record {
    marked = leave.marked;
    own = leave.own;
    led = λ n unit is text.
        let l = leave.led n unit is text in
        record { at = l.at; before = l.before; unit = l.unit; begins = l.there; control = l.control; alone = λ m high low. taken_none m (l.closed m high low) };
    apart = λ n unit is. nothing_given n (λ free_here. let none : captions n ≡ None = leave.nothing n free_here in let wrong : Some unit ≡ None = sym is ∙ none in cc);
    behind = λ n pair due. taken_none (suc n) (leave.not_due n pair due);
    data_is = λ n unit is. (data_pair n unit is).1.data_is;
    single = λ n unit is. (data_pair n unit is).1.single;
    plain_pair = λ n unit is. (data_pair n unit is).1.plain;
    within = text_within;
  }
    where
      nothing_given : (n : ℕ) → (free n ≡ true → ⊥) → data_of n ≡ None
      nothing_given n never = by_free (free n) refl
        where
          by_free : (b : Bool) → free n ≡ b → data_of n ≡ None
          by_free true is = absurd (never is)
          by_free false is = taken_none n is

-- what is given in a free slot can be written, and none is given in another
pub codes_written : (captions : Timeline) (free : ℕ → Bool) (frame_of : ℕ → ℕ) (listed : List Listed) → LeaveFree captions free
    → All (λ (l : Listed). IsXdsPacket l.packet) listed → (n : ℕ) (code : Code) → given_at free frame_of listed n ≡ Some code → IsWritable code
codes_written captions free frame_of listed leave are n code is = given_writable captions free frame_of listed leave are n code is

pub given_free : (captions : Timeline) (free : ℕ → Bool) (frame_of : ℕ → ℕ) (listed : List Listed) → LeaveFree captions free
    → All (λ (l : Listed). IsXdsPacket l.packet) listed → (n : ℕ) (code : Code) → given_at free frame_of listed n ≡ Some code → free n ≡ true
given_free captions free frame_of listed leave are n code is =
    free_given captions free frame_of listed leave are n (packet_unit code) (ap (option_map packet_unit) is)

pub packets_outside : PacketsAreOutside
packets_outside captions free frame_of listed leave are = outside captions free frame_of listed leave are
