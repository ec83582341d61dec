-- The bytes that a reader has taken begin a packet: bytes before the sections, then whole sections and the begin of one more,
-- then the begin of the footer.
use Rattle.std.proofs.Common.{◌≡◌, ◌≢◌, ℕ, ◌+◌, ◌-◌, ◌/◌, ◌<◌, ◌≤◌, ◌==◌, ◌&&◌, ◌||◌, ◌⊎◌, inl, inr, not, nat_le, nat_lt, if◌then◌else◌, Bool, true, false, Option, Some, None, List, [], ◌∷◌, ◌++◌, length, refl, sym, ap, subst, ◌∙◌, append_assoc, append-nil, length-append, lit<, arith}
use Rattle.std.proofs.lemmas.Bool.Decides.{nat_tests}
use Rattle.std.specs.Bool.{⊤}
use Rattle.std.specs.List.{concat}
use Rattle.cc_base.specs.declared.rate.Rate.{Rate}
use Rattle.cc_base.specs.declared.step.Step.{Step}
use Rattle.cc_base.specs.declared.step.Step.TheVariants.{Nothing, One, Refuse}
use Rattle.cc_base.specs.declared.why.Why.{Why}
use Rattle.cc_base.specs.declared.why.Why.TheVariants as why
use Rattle.cc_base.specs.Rate.{rate_of}
use Rattle.cc_base.specs.Steps.{IsTaken}
use Rattle.cdp_packets.specs.declared.parts.CdpPart.TheVariants as part
use Rattle.cdp_packets.specs.Reading.{IsPacketLength, count_fits, id_fits, is_in_sections, judge_behind, judge_footer, judge_rate, judge_section, section_behind}
use Rattle.cdp_packets.specs.Sections.{AreSections, IsSection, is_id, section_rest}
use Rattle.cdp_packets.proofs.SectionLemmas.{are-push, concat-push}

-- a step that isn't a refusal has passed its test
pub taken-if : {P : Type 0} (test : Bool) (step : Step P) (reason : Why) → IsTaken (if test then step else Refuse reason) → test ≡ true
taken-if true step reason is = refl
taken-if false step reason is = absurd is

pub test-same : (a b : ℕ) → (a == b) ≡ true → a ≡ b
test-same a b is = grind (arith, nat_tests)

pub and-left : (b c : Bool) → (b && c) ≡ true → b ≡ true
and-left true c is = refl
and-left false c is = absurd cc

or-right : (b c : Bool) → (b || c) ≡ true → b ≡ false → c ≡ true
or-right true c either not_b = absurd cc
or-right false c either not_b = either

-- an id that fits is one
pub id_fits-is_id : (left id : ℕ) → id_fits left id ≡ true → is_id id ≡ true
id_fits-is_id left id fits = and-left (is_id id) (nat_le 2 left) (and-left (is_id id && nat_le 2 left) _ fits)

-- a section after its first two bytes, where this many bytes are left: it isn't whole, it has no more than these, and after it
-- stands no single byte
pub record IsOpenBody (left id second : ℕ) (rest : List ℕ) : Type 0 where
  pub id_is : is_id id ≡ true
  pub some : length rest < section_rest id second
  pub room : section_rest id second ≤ left + length rest
  pub behind : left + length rest ≢ section_rest id second + 1

-- the open section, and sections after it, can have this many more bytes
abbrev pub CanGoOn : ℕ → List ℕ → Type 0
CanGoOn left [] = left ≢ 1
CanGoOn left (id ∷ []) = id_fits (left + 1) id ≡ true
CanGoOn left (id ∷ second ∷ rest) = IsOpenBody left id second rest

-- a section ends with this byte
pub record Ends (left : ℕ) (section : List ℕ) (byte : ℕ) : Type 0 where
  pub after : section_behind section byte ≡ []
  pub is : IsSection (section ++ byte ∷ [])
  pub behind : left ≢ 1

-- a section continues with it
pub record Lasts (left : ℕ) (section : List ℕ) (byte : ℕ) : Type 0 where
  pub after : section_behind section byte ≡ section ++ byte ∷ []
  pub goes : CanGoOn left (section ++ byte ∷ [])

-- the second byte of a time code
time_code_goes : (left behind byte : ℕ) → left ≡ behind + 1 → id_fits (left + 1) 0x71 ≡ true → Lasts behind (0x71 ∷ []) byte
time_code_goes left behind byte same fits = record {
  after = refl;
  goes = record { id_is = refl; some = lit< tt; room = grind (arith, nat_tests); behind = λ e. grind (arith, nat_tests) };
}

-- what a count that fits tells
pub count_tells : (left rest : ℕ) → (nat_le (rest + 1) left && not (left == rest + 2)) ≡ true → (rest + 1 ≤ left) × (left ≢ rest + 2)
count_tells left rest fits = (grind (arith, nat_tests), λ e. grind (arith, nat_tests))

-- the second byte of another section
count_goes : (left behind id byte : ℕ) → left ≡ behind + 1 → is_id id ≡ true → count_fits left id byte ≡ true → Ends behind (id ∷ []) byte ⊎ Lasts behind (id ∷ []) byte
count_goes left behind id byte same id_is fits =
    let (room, past) = count_tells left (section_rest id byte) fits in
    let cases : (t : Bool) → (section_rest id byte == 0) ≡ t → Ends behind (id ∷ []) byte ⊎ Lasts behind (id ∷ []) byte = elim [
      | true ↦ λ none.
          let zero : section_rest id byte ≡ 0 = test-same (section_rest id byte) 0 none in
          inl (record {
            after = ap (λ (t : Bool). if t then [] else id ∷ byte ∷ []) none;
            is = (id_is, sym zero);
            behind = λ e. past (omega (arith, same, zero, e));
          })
      | false ↦ λ more.
          let some : 0 < section_rest id byte = grind (arith, nat_tests) in
          inr (record {
            after = ap (λ (t : Bool). if t then [] else id ∷ byte ∷ []) more;
            goes = record { id_is = id_is; some = some; room = omega arith; behind = λ e. past (omega (arith, same, e)) };
          })
    ] in cases _ refl

-- a byte after the first two
body_goes : (left behind id second : ℕ) (rest : List ℕ) (byte : ℕ) → left ≡ behind + 1 → IsOpenBody left id second rest
    → Ends behind (id ∷ second ∷ rest) byte ⊎ Lasts behind (id ∷ second ∷ rest) byte
body_goes left behind id second rest byte same body =
    let long = length-append rest (byte ∷ []) in
    let some = body.some in
    let room = body.room in
    let cases : (t : Bool) → nat_le (section_rest id second) (length rest + 1) ≡ t → Ends behind (id ∷ second ∷ rest) byte ⊎ Lasts behind (id ∷ second ∷ rest) byte = elim [
      | true ↦ λ last.
          let whole : section_rest id second ≡ length rest + 1 = grind (arith, nat_tests) in
          inl (record {
            after = ap (λ (t : Bool). if t then [] else id ∷ second ∷ (rest ++ byte ∷ [])) last;
            is = (body.id_is, omega (arith, long, whole));
            behind = λ e. body.behind (omega (arith, whole, same, e));
          })
      | false ↦ λ more.
          let below : length rest + 1 < section_rest id second = grind (arith, nat_tests) in
          inr (record {
            after = ap (λ (t : Bool). if t then [] else id ∷ second ∷ (rest ++ byte ∷ [])) more;
            goes = record {
              id_is = body.id_is;
              some = omega (arith, long);
              room = omega (arith, long);
              behind = λ e. body.behind (omega (arith, long, same, e));
            };
          })
    ] in cases _ refl

-- a byte of the sections that is taken
pub goes : (left behind : ℕ) (section triplet : List ℕ) (byte : ℕ) → left ≡ behind + 1 → CanGoOn left section
    → IsTaken (judge_section left section triplet byte) → Ends behind section byte ⊎ Lasts behind section byte
goes left behind [] triplet byte same can taken =
    let fits = taken-if (id_fits left byte) (One (part.SectionByte byte)) why.Section taken in
    inr (record { after = refl; goes = subst (λ n. id_fits n byte ≡ true) same fits })
goes left behind (id ∷ []) triplet byte same can taken =
    let passes = taken-if (id == 0x71 || count_fits left id byte) (One (part.SectionByte byte)) why.Count taken in
    let cases : (t : Bool) → (id == 0x71) ≡ t → Ends behind (id ∷ []) byte ⊎ Lasts behind (id ∷ []) byte = elim [
      | true ↦ λ time.
          let is = test-same id 0x71 time in
          inr (subst (λ i. Lasts behind (i ∷ []) byte) (sym is) (time_code_goes left behind byte same (subst (λ i. id_fits (left + 1) i ≡ true) is can)))
      | false ↦ λ other.
          count_goes left behind id byte same (id_fits-is_id (left + 1) id can) (or-right (id == 0x71) (count_fits left id byte) passes other)
    ] in cases _ refl
goes left behind (id ∷ second ∷ rest) triplet byte same can taken = body_goes left behind id second rest byte same can

-- where no byte is left, no section is open
pub none_open : (section : List ℕ) → CanGoOn 0 section → section ≡ []
none_open [] can = refl
none_open (id ∷ []) can = absurd (false_fits (is_id id) can)
  where
    false_fits : (b : Bool) → ((b && false) && (if id == 0x71 then nat_le 5 1 && not (1 == 6) else if nat_le id 0x73 then not (1 == 3) else true)) ≡ true → ⊥
    false_fits true is = cc
    false_fits false is = cc
none_open (id ∷ second ∷ rest) can = absurd (omega (arith, can.some, can.room))

-- the bytes before the sections, up to the rate
pub record IsHead (size mark second long rate : ℕ) : Type 0 where
  pub mark_is : mark ≡ 0x96
  pub second_is : second ≡ 0x69
  pub long_is : long ≡ size
  pub code : Rate
  pub rate_is : rate_of (rate / 16) ≡ Some code

-- sections, and the begin of one more
pub record InSections (size : ℕ) (body section : List ℕ) : Type 0 where
  pub cut : List (List ℕ)
  pub are : AreSections cut
  pub spelled : body ≡ concat cut ++ section
  pub left : ℕ
  pub long : length body + 11 + left ≡ size
  pub can : CanGoOn left section

-- the begin of a footer
abbrev pub IsFoot : ℕ → ℕ → List ℕ → Type 0
IsFoot high low [] = ⊥
IsFoot high low (id ∷ []) = id ≡ 0x74
IsFoot high low (id ∷ one ∷ []) = (id ≡ 0x74) × (one ≡ high)
IsFoot high low (id ∷ one ∷ two ∷ []) = (id ≡ 0x74) × (one ≡ high) × (two ≡ low)
IsFoot high low (id ∷ one ∷ two ∷ last ∷ []) = (id ≡ 0x74) × (one ≡ high) × (two ≡ low)
IsFoot high low (id ∷ one ∷ two ∷ last ∷ _ ∷ _) = ⊥

-- all sections, and the begin of the footer
pub record InFooter (size high low : ℕ) (body : List ℕ) : Type 0 where
  pub cut : List (List ℕ)
  pub are : AreSections cut
  pub foot : List ℕ
  pub spelled : body ≡ concat cut ++ foot
  pub long : length (concat cut) + 11 ≡ size
  pub begun : IsFoot high low foot

-- the bytes begin a packet of this length, with this open section
abbrev pub IsBegun : ℕ → List ℕ → List ℕ → Type 0
IsBegun size [] section = ⊤
IsBegun size (mark ∷ []) section = mark ≡ 0x96
IsBegun size (mark ∷ second ∷ []) section = (mark ≡ 0x96) × (second ≡ 0x69)
IsBegun size (mark ∷ second ∷ long ∷ []) section = (mark ≡ 0x96) × (second ≡ 0x69) × (long ≡ size)
IsBegun size (mark ∷ second ∷ long ∷ rate ∷ []) section = IsHead size mark second long rate
IsBegun size (mark ∷ second ∷ long ∷ rate ∷ flags ∷ []) section = IsHead size mark second long rate
IsBegun size (mark ∷ second ∷ long ∷ rate ∷ flags ∷ high ∷ []) section = IsHead size mark second long rate
IsBegun size (mark ∷ second ∷ long ∷ rate ∷ flags ∷ high ∷ low ∷ body) section =
    IsHead size mark second long rate × (InSections size body section ⊎ InFooter size high low body)

-- a rate that is taken
rate_taken : (code : Option Rate) → IsTaken (judge_rate code) → (r : Rate) × (code ≡ Some r)
rate_taken None taken = absurd taken
rate_taken (Some rate) taken = (rate, refl)

-- after a byte of a section
sections_grow : (size : ℕ) (body section triplet : List ℕ) (byte : ℕ) → length body + 11 < size → InSections size body section
    → IsTaken (judge_section (size - 11 - length body) section triplet byte) → InSections size (body ++ byte ∷ []) (section_behind section byte)
sections_grow size body section triplet byte more begun taken =
    let long = begun.long in
    let left : size - 11 - length body ≡ begun.left = omega arith in
    let longer = length-append body (byte ∷ []) in
    let spelled : body ++ byte ∷ [] ≡ concat begun.cut ++ (section ++ byte ∷ []) =
    ap (λ bs. bs ++ byte ∷ []) begun.spelled ∙ append_assoc (concat begun.cut) section (byte ∷ []) in
    elim (goes begun.left (begun.left - 1) section triplet byte (omega arith) begun.can (subst (λ n. IsTaken (judge_section n section triplet byte)) left taken)) [
      | inl ends ↦ subst (λ s. InSections size (body ++ byte ∷ []) s) (sym ends.after) (record {
        cut = begun.cut ++ (section ++ byte ∷ []) ∷ [];
        are = are-push begun.cut (section ++ byte ∷ []) begun.are ends.is;
        spelled = spelled ∙ sym (concat-push begun.cut (section ++ byte ∷ [])) ∙ sym (append-nil _);
        left = begun.left - 1;
        long = omega (arith, longer);
        can = ends.behind;
      })
      | inr lasts ↦ subst (λ s. InSections size (body ++ byte ∷ []) s) (sym lasts.after) (record {
        cut = begun.cut;
        are = begun.are;
        spelled = spelled;
        left = begun.left - 1;
        long = omega (arith, longer);
        can = lasts.goes;
      })
    ]

-- after the first byte of the footer
footer_begins : (size high low total : ℕ) (body section : List ℕ) (byte : ℕ) → nat_lt (length body + 11) size ≡ false → InSections size body section
    → IsTaken (judge_footer (size - 7 - length body) high low total byte) → InFooter size high low (body ++ byte ∷ [])
footer_begins size high low total body section byte none begun taken =
    let long = begun.long in
    let none_left : begun.left ≡ 0 = grind (arith, nat_tests) in
    let four : size - 7 - length body ≡ 4 = omega arith in
    let empty : section ≡ [] = none_open section (subst (λ n. CanGoOn n section) none_left begun.can) in
    let spelled : body ≡ concat begun.cut = begun.spelled ∙ ap (λ s. concat begun.cut ++ s) empty ∙ append-nil (concat begun.cut) in
    record {
      cut = begun.cut;
      are = begun.are;
      foot = byte ∷ [];
      spelled = ap (λ bs. bs ++ byte ∷ []) spelled;
      long = omega (arith, ap length spelled);
      begun = test-same byte 0x74 (taken-if (byte == 0x74) Nothing why.Section (subst (λ n. IsTaken (judge_footer n high low total byte)) four taken));
    }

-- after the next bytes of the footer
foot_grows : (high low total : ℕ) (foot : List ℕ) (byte : ℕ) → IsFoot high low foot → length foot < 4
    → IsTaken (judge_footer (4 - length foot) high low total byte) → IsFoot high low (foot ++ byte ∷ [])
foot_grows high low total [] byte begun few taken = absurd begun
foot_grows high low total (id ∷ []) byte begun few taken = (begun, test-same byte high (taken-if (byte == high) Nothing why.Counter taken))
foot_grows high low total (id ∷ one ∷ []) byte begun few taken = (begun.0, begun.1, test-same byte low (taken-if (byte == low) Nothing why.Counter taken))
foot_grows high low total (id ∷ one ∷ two ∷ []) byte begun few taken = begun
foot_grows high low total (id ∷ one ∷ two ∷ last ∷ more) byte begun few taken = absurd (omega arith)

footer_grows : (size high low total : ℕ) (body : List ℕ) (byte : ℕ) → length body + 7 < size → InFooter size high low body
    → IsTaken (judge_footer (size - 7 - length body) high low total byte) → InFooter size high low (body ++ byte ∷ [])
footer_grows size high low total body byte below begun taken =
    let long = begun.long in
    let whole : length body ≡ length (concat begun.cut) + length begun.foot = ap length begun.spelled ∙ length-append (concat begun.cut) begun.foot in
    let left : size - 7 - length body ≡ 4 - length begun.foot = omega arith in
    record {
      cut = begun.cut;
      are = begun.are;
      foot = begun.foot ++ byte ∷ [];
      spelled = ap (λ bs. bs ++ byte ∷ []) begun.spelled ∙ append_assoc (concat begun.cut) begun.foot (byte ∷ []);
      long = begun.long;
      begun = foot_grows high low total begun.foot byte begun.begun (omega arith) (subst (λ n. IsTaken (judge_footer n high low total byte)) left taken);
    }

-- a footer has begun after all sections
foot_some : (high low : ℕ) (foot : List ℕ) → IsFoot high low foot → 0 < length foot
foot_some high low [] begun = absurd begun
foot_some high low (id ∷ rest) begun = omega arith

pub footer_long : (size high low : ℕ) (body : List ℕ) → InFooter size high low body → size < length body + 11
footer_long size high low body begun =
    let long = begun.long in
    let some = foot_some high low begun.foot begun.begun in
    let whole : length body ≡ length (concat begun.cut) + length begun.foot = ap length begun.spelled ∙ length-append (concat begun.cut) begun.foot in
    omega arith

-- after one more byte of the sections or the footer
body_grows : (size high low total : ℕ) (body section triplet : List ℕ) (byte : ℕ) → length body + 7 < size
    → InSections size body section ⊎ InFooter size high low body
    → IsTaken (if nat_lt (length body + 11) size then judge_section (size - 11 - length body) section triplet byte
    else judge_footer (size - 7 - length body) high low total byte)
    → InSections size (body ++ byte ∷ []) (if nat_lt (length body + 11) size then section_behind section byte else []) ⊎ InFooter size high low (body ++ byte ∷ [])
body_grows size high low total body section triplet byte below begun taken =
    let in_sections = judge_section (size - 11 - length body) section triplet byte in
    let in_footer = judge_footer (size - 7 - length body) high low total byte in
    let goal = λ (t : Bool). InSections size (body ++ byte ∷ []) (if t then section_behind section byte else []) ⊎ InFooter size high low (body ++ byte ∷ []) in
    let cases : (t : Bool) → nat_lt (length body + 11) size ≡ t → goal t = elim [
      | true ↦ λ more.
          let is : length body + 11 < size = grind (arith, nat_tests) in
          let taken_is = subst (λ (t : Bool). IsTaken (if t then in_sections else in_footer)) more taken in
          elim begun [
            | inl sections ↦ inl (sections_grow size body section triplet byte is sections taken_is)
            | inr footer ↦ absurd (omega (arith, footer_long size high low body footer))
          ]
      | false ↦ λ none.
          let taken_is = subst (λ (t : Bool). IsTaken (if t then in_sections else in_footer)) none taken in
          elim begun [
            | inl sections ↦ inr (footer_begins size high low total body section byte none sections taken_is)
            | inr footer ↦ inr (footer_grows size high low total body byte below footer taken_is)
          ]
    ] in cases _ refl

-- bytes that begin a packet begin it with one more that is taken
pub grows : (size : ℕ) (bytes : List ℕ) (total : ℕ) (section triplet : List ℕ) (byte : ℕ) → IsPacketLength size → length bytes < size
    → IsBegun size bytes section → IsTaken (judge_behind size bytes total section triplet byte)
    → IsBegun size (bytes ++ byte ∷ []) (if is_in_sections size bytes then section_behind section byte else [])
grows size [] total section triplet byte can below begun taken =
    test-same byte 0x96 (taken-if (byte == 0x96) Nothing why.Identifier taken)
grows size (mark ∷ []) total section triplet byte can below begun taken =
    (begun, test-same byte 0x69 (taken-if (byte == 0x69) Nothing why.Identifier taken))
grows size (mark ∷ second ∷ []) total section triplet byte can below begun taken =
    (begun.0, begun.1, test-same byte size (taken-if (byte == size) Nothing why.Length taken))
grows size (mark ∷ second ∷ long ∷ []) total section triplet byte can below begun taken =
    let (code, is) = rate_taken (rate_of (byte / 16)) taken in
    record { mark_is = begun.0; second_is = begun.1; long_is = begun.2; code = code; rate_is = is }
grows size (mark ∷ second ∷ long ∷ rate ∷ []) total section triplet byte can below begun taken = begun
grows size (mark ∷ second ∷ long ∷ rate ∷ flags ∷ []) total section triplet byte can below begun taken = begun
grows size (mark ∷ second ∷ long ∷ rate ∷ flags ∷ high ∷ []) total section triplet byte can below begun taken = (
  begun,
  inl (record { cut = []; are = tt; spelled = refl; left = size - 11; long = omega (arith, can.0); can = λ e. can.1 (omega (arith, can.0, e)) }),
)
grows size (mark ∷ second ∷ long ∷ rate ∷ flags ∷ high ∷ low ∷ body) total section triplet byte can below begun taken =
    (begun.0, body_grows size high low total body section triplet byte (omega arith) begun.1 taken)
