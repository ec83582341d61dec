-- Between crates: the program's answer stands on none of these definitions.
-- Payloads read byte by byte: the bytes for which their items stand, or the first offence.
use Rattle.std.specs.Prelude.{ℕ, ◌+◌, ◌-◌, ◌*◌, ◌%◌, ◌==◌, ◌||◌, not, Bool, true, false, if◌then◌else◌, nat_lt, List, [], ◌∷◌, ◌++◌, length, Option, Some, None, Result, Ok, Err}
use Rattle.std.specs.List.{sum}
use Rattle.cc_base.specs.declared.refusal.Refusal.{Refusal}
use Rattle.cc_base.specs.declared.why.Why.{Why}
use Rattle.cc_base.specs.declared.why.Why.TheVariants as why
use Rattle.hex_digits.specs.HexDigits.{hex_value}
use Rattle.mcc_files.specs.Letters.{letter_bytes}
use Rattle.mcc_files.specs.declared.payload_reader.Offence.{Offence}

-- what is open between two bytes of the text: the value of a first digit, and the bytes for which the items before stand
pub record Open : Type 0 where
  pub digit : Option ℕ
  pub bytes : List ℕ

-- nothing is open
abbrev pub nothing_open : Open
nothing_open = record { digit = None; bytes = [] }

-- the bytes are a whole packet's: after the count stand more than it says, the user bytes and the checksum byte
abbrev pub is_whole : List ℕ → Bool
is_whole (did ∷ sdid ∷ count ∷ rest) = nat_lt count (length rest)
is_whole _ = false

-- why a byte offends after these: it is one too many, or, where sums are judged, it is a wrong checksum byte. The right one has the
-- low eight bits of the sum of all bytes before, as the checksum word has. Else only the form of payloads is judged
abbrev pub why_of_byte : Bool → List ℕ → ℕ → Option Why
why_of_byte judging (did ∷ sdid ∷ count ∷ rest) byte =
    if nat_lt (length rest) count then None
    else if nat_lt count (length rest) then Some why.MccSyntax
    else if not judging || (byte == sum (did ∷ sdid ∷ count ∷ rest) % 256) then None
    else Some why.AncSum
why_of_byte judging _ byte = None

-- the bytes of an item after these, one after another, or why one of them offends
abbrev pub joined_on : Option Why → Result (List ℕ) Why → Result (List ℕ) Why
joined_on None rest = rest
joined_on (Some reason) rest = Err reason

abbrev pub joined : Bool → List ℕ → List ℕ → Result (List ℕ) Why
joined judging before [] = Ok before
joined judging before (byte ∷ bytes) = joined_on (why_of_byte judging before byte) (joined judging (before ++ byte ∷ []) bytes)

-- an item ends, that begins this many bytes before its last one
abbrev pub item_ends : ℕ → Result (List ℕ) Why → Result Open Offence
item_ends back (Ok bytes) = Ok (record { digit = None; bytes = bytes })
item_ends back (Err reason) = Err (record { back = back; why = reason })

-- no item begins or can continue with a byte
abbrev pub no_item : Result Open Offence
no_item = Err (record { back = 0; why = why.MccSyntax })

-- an item begins: a letter, or a first digit
abbrev pub item_begins : Bool → List ℕ → Option (List ℕ) → Option ℕ → Result Open Offence
item_begins judging bytes (Some brought) digit = item_ends 0 (joined judging bytes brought)
item_begins judging bytes None (Some high) = Ok (record { digit = Some high; bytes = bytes })
item_begins judging bytes None None = no_item

-- a second digit
abbrev pub second_digit : Bool → List ℕ → ℕ → Option ℕ → Result Open Offence
second_digit judging bytes high (Some low) = item_ends 1 (joined judging bytes ((16 * high + low) ∷ []))
second_digit judging bytes high None = no_item

-- a byte where no whole packet stands before it
abbrev pub stepped : Bool → Option ℕ → List ℕ → ℕ → Result Open Offence
stepped judging None bytes byte = item_begins judging bytes (letter_bytes byte) (hex_value byte)
stepped judging (Some high) bytes byte = second_digit judging bytes high (hex_value byte)

-- a byte of the text more: after a whole packet none goes on
abbrev pub step : Bool → Open → ℕ → Result Open Offence
step judging front byte = if is_whole front.bytes then no_item else stepped judging front.digit front.bytes byte

-- the bytes of the item that ends with a byte, if one does: a letter's, or two digits'
abbrev pub brought_by : Option ℕ → Option (List ℕ) → Option ℕ → List ℕ
brought_by None (Some bytes) digit = bytes
brought_by None None digit = []
brought_by (Some high) letter (Some low) = (16 * high + low) ∷ []
brought_by (Some high) letter None = []

abbrev pub brought : Open → ℕ → List ℕ
brought front byte = brought_by front.digit (letter_bytes byte) (hex_value byte)

-- the first of the bytes of an item after these, down to one that offends
abbrev pub fits_on : Option Why → ℕ → List ℕ → List ℕ
fits_on None byte rest = byte ∷ rest
fits_on (Some reason) byte rest = []

abbrev pub fitting : List ℕ → List ℕ → List ℕ
fitting before [] = []
fitting before (byte ∷ bytes) = fits_on (why_of_byte true before byte) byte (fitting (before ++ byte ∷ []) bytes)

-- of the item that ends with a byte
abbrev pub item_bytes : Open → ℕ → List ℕ
item_bytes front byte = fitting front.bytes (brought front byte)

-- how many bytes before its last one it begins
abbrev pub item_back : Option ℕ → ℕ
item_back None = 0
item_back (Some high) = 1

-- the text may end here
abbrev pub may_end : Open → Bool
may_end front = is_whole front.bytes

-- the bytes of a text that is read from a place on, or the first offence
abbrev pub behind : ℕ → Result Open Offence → (Open → Result (List ℕ) Refusal) → Result (List ℕ) Refusal
behind place (Err offence) rest = Err (record { place = place - offence.back; why = offence.why })
behind place (Ok front) rest = rest front

abbrev pub read_from : Bool → ℕ → Open → List ℕ → Result (List ℕ) Refusal
read_from judging place front [] =
    if may_end front then Ok front.bytes else Err (record { place = place; why = why.MccSyntax })
read_from judging place front (byte ∷ text) =
    behind place (step judging front byte) (λ next. read_from judging (place + 1) next text)

-- of a whole text
abbrev pub read_payload : List ℕ → Result (List ℕ) Refusal
read_payload text = read_from true 0 nothing_open text
