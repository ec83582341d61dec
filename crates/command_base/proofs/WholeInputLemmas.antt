-- Commands that read their input to its end and judge it before they put anything.
use Rattle.std.proofs.Common.{◌≡◌, ◌∙◌, ◌<◌, ◌+◌, ℕ, List, length, length-append, Option, Some, None, Result, Ok, Err, ap, arith, subst, sym}
use Rattle.std.proofs.lemmas.List.{nil_from_length}
use Rattle.std.specs.Prelude.{IfSome}
use Rattle.std.specs.Io.KnownBytes.{Consumes}
use Rattle.cc_base.specs.declared.limit_of.LimitOf.TheVariants as limit
use Rattle.cc_base.specs.Streams.{whole_limit}
use Rattle.command_base.specs.WholeInput.{IsReadToEnd, IsRefusal, IsTooLong, JudgesInput, ReadsInput}
use Rattle.command_base.specs.declared.status.Status.{Status}
use Rattle.command_base.specs.declared.status.Status.TheVariants as status

-- where all bytes that were left were taken, none is left
pub read_to_end : (left now_left : Option (List ℕ)) (bytes : List ℕ) → IfSome left (λ all. bytes ≡ all) → Consumes left now_left bytes → IsReadToEnd left now_left
read_to_end None now_left bytes is taken = tt
read_to_end (Some all) None bytes is taken = absurd taken
read_to_end (Some all) (Some rest) bytes is taken =
    let long : length all ≡ length bytes + length rest = ap length taken ∙ length-append bytes rest in
    let same : length bytes ≡ length all = ap length is in
    ap Some (nil_from_length rest (omega (arith, long, same)))

-- a fact of the bytes that were read is one of the bytes that were left
of_left : (P : List ℕ → Type 0) (left : Option (List ℕ)) (bytes : List ℕ) → IfSome left (λ all. bytes ≡ all) → P bytes → IfSome left P
of_left P None bytes is fact = tt
of_left P (Some all) bytes is fact = subst P is fact

-- a fact of what was left that follows from another
if_left : (P Q : List ℕ → Type 0) (left : Option (List ℕ)) → ((bytes : List ℕ) → P bytes → Q bytes) → IfSome left P → IfSome left Q
if_left P Q None each fact = tt
if_left P Q (Some all) each fact = each all fact

-- statuses that are refusals
abbrev pub AreRefusals : (List ℕ → Status → Type 0) → Type 0
AreRefusals Refused = (bytes : List ℕ) (answer : Status) → Refused bytes answer → IsRefusal answer

-- the judgement of the bytes that were read to their end
pub judged : {A : Type 0} (Is : List ℕ → A → Type 0) (Refused : List ℕ → Status → Type 0) → AreRefusals Refused → (left now_left : Option (List ℕ))
    (before now : ℕ) (bytes : List ℕ) (r : Result A Status)
    → IfSome left (λ all. bytes ≡ all) → IsReadToEnd left now_left → now ≡ before → JudgesInput Is Refused bytes r → ReadsInput Is Refused left now_left before now r
judged Is Refused are left now_left before now bytes (Ok value) is end same fact = (same, end, of_left (λ all. Is all value) left bytes is fact)
judged Is Refused are left now_left before now bytes (Err status.Ok) is end same fact = absurd (are bytes status.Ok fact)
judged Is Refused are left now_left before now bytes (Err status.Usage) is end same fact = absurd (are bytes status.Usage fact)
judged Is Refused are left now_left before now bytes (Err status.ReadFault) is end same fact = absurd (are bytes status.ReadFault fact)
judged Is Refused are left now_left before now bytes (Err status.WriteFault) is end same fact = absurd (are bytes status.WriteFault fact)
judged Is Refused are left now_left before now bytes (Err status.Memory) is end same fact = same
judged Is Refused are left now_left before now bytes (Err (status.Limit which)) is end same fact =
    (same, of_left (λ all. Refused all (status.Limit which)) left bytes is fact)
judged Is Refused are left now_left before now bytes (Err (status.Malformed place why)) is end same fact =
    (same, of_left (λ all. Refused all (status.Malformed place why)) left bytes is fact)
judged Is Refused are left now_left before now bytes (Err (status.Rule fault)) is end same fact =
    (same, of_left (λ all. Refused all (status.Rule fault)) left bytes is fact)
judged Is Refused are left now_left before now bytes (Err (status.NoRoom cue)) is end same fact =
    (same, of_left (λ all. Refused all (status.NoRoom cue)) left bytes is fact)
judged Is Refused are left now_left before now bytes (Err (status.NoRoomBeside cue)) is end same fact =
    (same, of_left (λ all. Refused all (status.NoRoomBeside cue)) left bytes is fact)
judged Is Refused are left now_left before now bytes (Err (status.NoXdsRoom packet)) is end same fact =
    (same, of_left (λ all. Refused all (status.NoXdsRoom packet)) left bytes is fact)
judged Is Refused are left now_left before now bytes (Err (status.Misfit misfit)) is end same fact =
    (same, of_left (λ all. Refused all (status.Misfit misfit)) left bytes is fact)
judged Is Refused are left now_left before now bytes (Err (status.Differs finding)) is end same fact =
    (same, of_left (λ all. Refused all (status.Differs finding)) left bytes is fact)
judged Is Refused are left now_left before now bytes (Err (status.Short frames)) is end same fact =
    (same, of_left (λ all. Refused all (status.Short frames)) left bytes is fact)

-- bytes that were too many are refused so
too_long : (Refused : List ℕ → Status → Type 0) → ((bytes : List ℕ) → whole_limit < length bytes → Refused bytes (status.Limit limit.Bytes))
    → (left : Option (List ℕ)) (s : Status) → IfSome left (λ bytes. IsTooLong bytes s) → IfSome left (λ bytes. Refused bytes s)
too_long Refused long left s h = if_left (λ bytes. IsTooLong bytes s) (λ bytes. Refused bytes s) left (λ bytes too. subst (Refused bytes) (sym too.0) (long bytes too.1)) h

-- bytes that weren't read to their end
pub unread : {A : Type 0} (Is : List ℕ → A → Type 0) (Refused : List ℕ → Status → Type 0)
    → ((bytes : List ℕ) → whole_limit < length bytes → Refused bytes (status.Limit limit.Bytes)) → (left now_left : Option (List ℕ)) (before now : ℕ) (s : Status)
    → ReadsInput (λ (bytes : List ℕ) (value : List ℕ). value ≡ bytes) IsTooLong left now_left before now (Err s) → ReadsInput Is Refused left now_left before now (Err s)
unread Is Refused long left now_left before now status.Ok h = absurd h
unread Is Refused long left now_left before now status.Usage h = absurd h
unread Is Refused long left now_left before now status.WriteFault h = absurd h
unread Is Refused long left now_left before now status.ReadFault h = h
unread Is Refused long left now_left before now status.Memory h = h
unread Is Refused long left now_left before now (status.Limit which) h = (h.0, too_long Refused long left (status.Limit which) h.1)
unread Is Refused long left now_left before now (status.Malformed place why) h = (h.0, too_long Refused long left (status.Malformed place why) h.1)
unread Is Refused long left now_left before now (status.Rule fault) h = (h.0, too_long Refused long left (status.Rule fault) h.1)
unread Is Refused long left now_left before now (status.NoRoom cue) h = (h.0, too_long Refused long left (status.NoRoom cue) h.1)
unread Is Refused long left now_left before now (status.NoRoomBeside cue) h = (h.0, too_long Refused long left (status.NoRoomBeside cue) h.1)
unread Is Refused long left now_left before now (status.NoXdsRoom packet) h = (h.0, too_long Refused long left (status.NoXdsRoom packet) h.1)
unread Is Refused long left now_left before now (status.Misfit misfit) h = (h.0, too_long Refused long left (status.Misfit misfit) h.1)
unread Is Refused long left now_left before now (status.Differs finding) h = (h.0, too_long Refused long left (status.Differs finding) h.1)
unread Is Refused long left now_left before now (status.Short frames) h = (h.0, too_long Refused long left (status.Short frames) h.1)
