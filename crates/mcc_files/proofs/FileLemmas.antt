-- What is written is an MCC file.
use Rattle.std.proofs.Common.{◌≡◌, ℕ, ◌<◌, inl, List, [], ◌∷◌, ◌++◌, codes, refl, ap, sym, ◌∙◌, arith, append_assoc, append-nil}
use Rattle.time_codes.specs.Countings.{counting_text, day_frames_in}
use Rattle.time_codes.specs.declared.counting.Counting.{Counting}
use Rattle.mcc_files.specs.Lines.{AreMccLines, IsAttribute, IsMccLine, IsPacketLine, IsRate, IsReadPast, Line, Version, attribute, format_text, nothing, one, packet, rate, rate_name, two}
use Rattle.mcc_files.specs.MccFiles.{IsMccFile, SayCounted, SayPackets, TimedPackets}
use Rattle.mcc_files.specs.Writing.{AreWritable, AreWrittenLines, IsWrittenFile, time_text, written_attributes, written_head, written_version}
use Rattle.mcc_files.specs.Payloads.{IsPayload, Payload}
use Rattle.mcc_files.proofs.WrittenLemmas.{written_is_payload}
use Rattle.mcc_files.proofs.TimeLemmas.{colon_time, frame_on_day, two_digits}

-- what the lines of packets say, and the empty one after them
pub packet_lines : Counting → TimedPackets → List Line
packet_lines count [] = nothing ∷ []
packet_lines count (placed ∷ more) = packet (colon_time count placed.0) placed.1 ∷ packet_lines count more

-- nothing is read past
pub none_past : (version : Version) → IsReadPast version []
none_past one = refl
none_past two = inl refl

-- a line that is written is a packet's
pub line_is : (version : Version) (count : Counting) (frame : ℕ) (payload : Payload) (text : List ℕ) → frame < day_frames_in count → IsPayload payload text
    → IsPacketLine version (colon_time count frame) payload (time_text count frame ++ (9 ∷ text))
line_is version count frame payload text below is = record {
  text = time_text count frame;
  past = [];
  payload_text = text;
  blanks = [];
  is_text = record { digits = two_digits count frame below; spelled = refl };
  is_past = none_past version;
  is_payload = is;
  are_blanks = tt;
  spelled = ap (λ t. time_text count frame ++ (9 ∷ t)) (sym (append-nil text));
}

-- the lines of packets, after a line end
pub lines_are : (version : Version) (count : Counting) (last : ℕ) (placed : TimedPackets) (bytes : List ℕ) → AreWritable count last placed → AreWrittenLines count placed bytes
    → AreMccLines version (packet_lines count placed) (10 ∷ bytes)
unfolding packet_lines
lines_are version count last [] bytes fit are =
    (10 ∷ [], [], [], inl refl, inl tt, refl, ap (λ b. 10 ∷ b) are)
lines_are version count last (placed ∷ more) bytes (above, below, small, fit) (front, rest, written, are, spelled) =
    let text = written.text in
    let payload = written_is_payload placed.1 text small written.is in
    let line = time_text count placed.0 ++ (9 ∷ text) in
    let parts : front ++ rest ≡ line ++ (10 ∷ rest) =
    ap (λ b. b ++ rest) written.spelled
    ∙ (append_assoc (time_text count placed.0) (9 ∷ (text ++ 10 ∷ [])) rest
    ∙ (ap (λ t. time_text count placed.0 ++ (9 ∷ t)) (append_assoc text (10 ∷ []) rest) ∙ sym (append_assoc (time_text count placed.0) (9 ∷ text) (10 ∷ rest)))) in (
      10 ∷ [],
      line,
      10 ∷ rest,
      inl refl,
      line_is version count placed.0 placed.1 text below payload,
      lines_are version count placed.0 more rest fit are,
      ap (λ b. 10 ∷ b) (spelled ∙ parts),
    )

-- what they say
pub lines_say : (count : Counting) (last : ℕ) (placed : TimedPackets) → AreWritable count last placed → SayPackets count last (packet_lines count placed) placed
unfolding packet_lines
lines_say count last [] fit = refl
lines_say count last (placed ∷ more) (above, below, small, fit) =
    (placed.0, more, frame_on_day count last placed.0 above below, lines_say count placed.0 more fit, refl)

pub counted_say : (count : Counting) (placed : TimedPackets) → AreWritable count 0 placed → SayCounted count (packet_lines count placed) placed
unfolding packet_lines
counted_say count [] fit = refl
counted_say count (placed ∷ more) (above, below, small, fit) =
    (placed.0, more, frame_on_day count 0 placed.0 above below, lines_say count placed.0 more fit, refl)

-- lists that are the same begin so
pub first_same : (a b : ℕ) (xs ys : List ℕ) → a ∷ xs ≡ b ∷ ys → a ≡ b
first_same a b xs ys is = cc

-- the attributes that are written
pub uuid : IsAttribute (codes "UUID=00000000-0000-0000-0000-000000000000")
uuid = record {
  name = codes "UUID";
  value = codes "00000000-0000-0000-0000-000000000000";
  is_name = record { first = 85; more = codes "UID"; letter = refl; are = refl; spelled = refl };
  other = λ same. absurd (omega (arith, first_same 85 84 (codes "UID") (codes "ime Code Rate") same));
  within = refl;
  spelled = refl;
}

pub program : IsAttribute (codes "Creation Program=ccsuite")
program = record {
  name = codes "Creation Program";
  value = codes "ccsuite";
  is_name = record { first = 67; more = codes "reation Program"; letter = refl; are = refl; spelled = refl };
  other = λ same. absurd (omega (arith, first_same 67 84 (codes "reation Program") (codes "ime Code Rate") same));
  within = refl;
  spelled = refl;
}

pub date : IsAttribute (codes "Creation Date=Thursday, January 1, 1970")
date = record {
  name = codes "Creation Date";
  value = codes "Thursday, January 1, 1970";
  is_name = record { first = 67; more = codes "reation Date"; letter = refl; are = refl; spelled = refl };
  other = λ same. absurd (omega (arith, first_same 67 84 (codes "reation Date") (codes "ime Code Rate") same));
  within = refl;
  spelled = refl;
}

pub time : IsAttribute (codes "Creation Time=00:00:00")
time = record {
  name = codes "Creation Time";
  value = codes "00:00:00";
  is_name = record { first = 67; more = codes "reation Time"; letter = refl; are = refl; spelled = refl };
  other = λ same. absurd (omega (arith, first_same 67 84 (codes "reation Time") (codes "ime Code Rate") same));
  within = refl;
  spelled = refl;
}

pub counted : (count : Counting) → IsRate count (rate_name ++ (61 ∷ counting_text count))
counted count = record { spaces = []; are_spaces = tt; spelled = ap (λ t. rate_name ++ (61 ∷ t)) (sym (append-nil (counting_text count))) }

-- a line of its own, after LF
pub line_more : (version : Version) (line : Line) (lines : List Line) (spelled rest : List ℕ) → IsMccLine version line spelled → AreMccLines version lines rest
    → AreMccLines version (line ∷ lines) (10 ∷ (spelled ++ rest))
line_more version line lines spelled rest is are = (10 ∷ [], spelled, rest, inl refl, is, are, refl)

-- the lines of a file
abbrev pub file_lines : Counting → TimedPackets → List Line
file_lines count placed =
    nothing ∷ attribute ∷ attribute ∷ attribute ∷ attribute ∷ rate count ∷ nothing ∷ packet_lines count placed

abbrev pub rate_line : Counting → List ℕ → List ℕ
rate_line count rest = 10 ∷ ((rate_name ++ (61 ∷ counting_text count)) ++ (10 ∷ 10 ∷ rest))

abbrev pub lines_text : Counting → List ℕ → List ℕ
lines_text count rest =
    10 ∷ 10 ∷ (codes "UUID=00000000-0000-0000-0000-000000000000" ++ (10 ∷ (codes "Creation Program=ccsuite" ++ (10 ∷ (codes "Creation Date=Thursday, January 1, 1970"
    ++ (10 ∷ (codes "Creation Time=00:00:00" ++ rate_line count rest)))))))

pub head_lines : (version : Version) (count : Counting) (placed : TimedPackets) (rest : List ℕ) → AreMccLines version (packet_lines count placed) (10 ∷ rest)
    → AreMccLines version (file_lines count placed) (lines_text count rest)
head_lines version count placed rest are =
    let seven = line_more version nothing (packet_lines count placed) [] (10 ∷ rest) (inl tt) are in
    let six = line_more version (rate count) (nothing ∷ packet_lines count placed) (rate_name ++ (61 ∷ counting_text count)) (10 ∷ 10 ∷ rest) (counted count) seven in
    let five = line_more version attribute (rate count ∷ nothing ∷ packet_lines count placed) (codes "Creation Time=00:00:00") (rate_line count rest) time six in
    let four = line_more version attribute (attribute ∷ rate count ∷ nothing ∷ packet_lines count placed) (codes "Creation Date=Thursday, January 1, 1970")
    (10 ∷ (codes "Creation Time=00:00:00" ++ rate_line count rest)) date five in
    let three = line_more version attribute (attribute ∷ attribute ∷ rate count ∷ nothing ∷ packet_lines count placed) (codes "Creation Program=ccsuite")
    (10 ∷ (codes "Creation Date=Thursday, January 1, 1970" ++ (10 ∷ (codes "Creation Time=00:00:00" ++ rate_line count rest)))) program four in
    let two_on = line_more version attribute (attribute ∷ attribute ∷ attribute ∷ rate count ∷ nothing ∷ packet_lines count placed) (codes "UUID=00000000-0000-0000-0000-000000000000")
    (10 ∷ (codes "Creation Program=ccsuite" ++ (10 ∷ (codes "Creation Date=Thursday, January 1, 1970" ++ (10 ∷ (codes "Creation Time=00:00:00" ++ rate_line count rest)))))) uuid three in
    line_more version nothing (attribute ∷ attribute ∷ attribute ∷ attribute ∷ rate count ∷ nothing ∷ packet_lines count placed) []
    (10 ∷ (codes "UUID=00000000-0000-0000-0000-000000000000" ++ (10 ∷ (codes "Creation Program=ccsuite" ++ (10 ∷ (codes "Creation Date=Thursday, January 1, 1970"
    ++ (10 ∷ (codes "Creation Time=00:00:00" ++ rate_line count rest)))))))) (inl tt) two_on

-- the head, and what follows it
pub head_splits : (count : Counting) (rest : List ℕ) → written_head count ++ rest ≡ format_text (written_version count) ++ lines_text count rest
head_splits count rest =
    let first = format_text (written_version count) in
    let text = counting_text count in
    append_assoc (first ++ written_attributes ++ codes "Time Code Rate=" ++ text) (codes "\n\n") rest
    ∙ (append_assoc (first ++ written_attributes ++ codes "Time Code Rate=") text (10 ∷ 10 ∷ rest)
    ∙ (append_assoc (first ++ written_attributes) (codes "Time Code Rate=") (text ++ (10 ∷ 10 ∷ rest)) ∙ append_assoc first written_attributes (codes "Time Code Rate=" ++ (text ++ (10 ∷ 10 ∷ rest)))))

pub written_is_file : (count : Counting) (placed : TimedPackets) (bytes : List ℕ) → AreWritable count 0 placed → IsWrittenFile count placed bytes → IsMccFile placed bytes
written_is_file count placed bytes fit written =
    let version = written_version count in
    record {
      version = version;
      lines = file_lines count placed;
      form = record {
        spaces = [];
        rest = lines_text count written.rest;
        are_spaces = tt;
        are_lines = head_lines version count placed written.rest (lines_are version count 0 placed written.rest fit written.are);
        spelled = written.spelled ∙ head_splits count written.rest;
      };
      say = counted_say count placed fit;
    }
