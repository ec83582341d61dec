-- A list of packets that was read, and the first record that offends.
use Rattle.std.proofs.Common.{◌≡◌, ◌∙◌, ℕ, ◌+◌, List, [], ◌∷◌, ◌++◌, length, map, Option, Some, None, Result, Ok, Err, refl, sym, ap, subst, arith, append_assoc}
use Rattle.std.specs.Prelude.{All}
use Rattle.std.proofs.lemmas.List.{append-nil}
use Rattle.std.proofs.lemmas.List.Elements.{All-cons, All-head, All-nil, All-tail}
use Rattle.cc_base.specs.declared.why.Why.{Why}
use Rattle.cc_base.specs.declared.why.Why.TheVariants as why
use Rattle.cue_form.specs.RecordJudgements.{first_offence, unless}
use Rattle.cue_form.specs.Records.{Record}
use Rattle.cue_form.specs.declared.offence.Offence.{Offence}
use Rattle.cue_form.specs.declared.offence.Offence.TheVariants as offence
use Rattle.xds_lists.proofs.FormLemmas.{record_passed, record_read}
use Rattle.xds_lists.proofs.PacketOffences.{packet_back, packet_told}
use Rattle.xds_lists.specs.FirstFault.{IsFirstPacketFault}
use Rattle.xds_lists.specs.Form.{IsListed, SpellPackets, packet_judgements, packet_record}
use Rattle.xds_lists.specs.Reading.{Answers, Offending, listed_of, packet_of_fields, read_from, read_on, read_packets}
use Rattle.xds_lists.specs.declared.fault.XdsFault.{XdsFault}
use Rattle.xds_lists.specs.declared.fault.XdsFault.TheVariants as fault
use Rattle.xds_packets.specs.Sending.{Listed}

-- the next record offends
pub refused : (due : Result (List Listed) Offending) (before : List Listed) (number place : ℕ) (row : Record) (rest all : List Record)
    → due ≡ read_from before number all → all ≡ row ∷ rest → Err (offence.At place why.Field) ≡ listed_of row
    → due ≡ Err (record { number = number; offence = offence.At place why.Field })
refused due before number place row rest all is rows bad =
    is ∙ ap (read_from before number) rows ∙ ap (λ r. read_on before number r (λ more. read_from more (number + 1) rest)) (sym bad)

-- the next record has a packet
pub taken : (due : Result (List Listed) Offending) (before more : List Listed) (one : Listed) (number : ℕ) (row : Record) (rest all : List Record)
    → due ≡ read_from before number all → all ≡ row ∷ rest → Ok one ≡ listed_of row → more ≡ before ++ one ∷ []
    → due ≡ read_from more (number + 1) rest
taken due before more one number row rest all is rows good added =
    is ∙ ap (read_from before number) rows
    ∙ ap (λ r. read_on before number r (λ more. read_from more (number + 1) rest)) (sym good)
    ∙ ap (λ l. read_from l (number + 1) rest) (sym added)

-- what was read after these packets
record Spelled (records : List Record) (before listed : List Listed) : Type 0 where
  more : List Listed
  listed_are : listed ≡ before ++ more
  spell : SpellPackets records more

on_listed : {P : Type 0} (r : Result Listed Offence) → ((one : Listed) → r ≡ Ok one → P) → ((o : Offence) → r ≡ Err o → P) → P
on_listed (Ok one) good bad = good one refl
on_listed (Err o) good bad = bad o refl

spelled_from : (records : List Record) (before listed : List Listed) (number : ℕ) → read_from before number records ≡ Ok listed → Spelled records before listed
spelled_from [] before listed number is = record {
  more = [];
  listed_are = let same : before ≡ listed = cc in sym same ∙ sym (append-nil before);
  spell = record { records_are = refl; in_range = All-nil IsListed };
}
spelled_from (r ∷ rs) before listed number is = on_listed (listed_of r)
    (λ one good.
    let passed = record_passed r one good in
    let rest = spelled_from rs (before ++ one ∷ []) listed (number + 1) (rw good at is) in
    record {
      more = one ∷ rest.more;
      listed_are = rest.listed_are ∙ append_assoc before (one ∷ []) rest.more;
      spell = record {
        records_are = ap (λ first. first ∷ rs) passed.0 ∙ ap (λ l. packet_record one ∷ l) rest.spell.records_are;
        in_range = All-cons IsListed one rest.more passed.1 rest.spell.in_range;
      };
    })
    (λ o bad. let q = rw bad at is in cc)

pub list_of_read : (records : List Record) (listed : List Listed) → read_packets records ≡ Ok listed → SpellPackets records listed
list_of_read records listed is =
    let it = spelled_from records [] listed 1 is in
    subst (SpellPackets records) (sym it.listed_are) it.spell

-- records that spell packets are read as them
read_on_from : (more before : List Listed) (number : ℕ) → All IsListed more → read_from before number (map packet_record more) ≡ Ok (before ++ more)
read_on_from [] before number are = ap (λ l. Ok l) (sym (append-nil before))
read_on_from (one ∷ more) before number are =
    ap (λ r. read_on before number r (λ more'. read_from more' (number + 1) (map packet_record more))) (record_read one (All-head IsListed one more are))
    ∙ read_on_from more (before ++ one ∷ []) (number + 1) (All-tail IsListed one more are)
    ∙ ap (λ l. Ok l) (append_assoc before (one ∷ []) more)

pub spelled_is_read : (records : List Record) (listed : List Listed) → SpellPackets records listed → read_packets records ≡ Ok listed
spelled_is_read records listed is = ap read_packets is.records_are ∙ read_on_from listed [] 1 is.in_range

-- no judgement of a record isn't good
abbrev IsGood : Record → Type 0
IsGood r = first_offence (packet_judgements r) ≡ None

-- the first record that offends
record OffendsFrom (records : List Record) (number : ℕ) (it : Offending) : Type 0 where
  before : List Record
  offender : Record
  after : List Record
  split : records ≡ before ++ offender ∷ after
  good : All IsGood before
  offends : first_offence (packet_judgements offender) ≡ Some it.offence
  number_is : it.number ≡ length before + number

on_offence : {P : Type 0} (o : Option Offence) → (o ≡ None → P) → ((offence : Offence) → o ≡ Some offence → P) → P
on_offence None good bad = good refl
on_offence (Some o) good bad = bad o refl

offends_from : (records : List Record) (before : List Listed) (number : ℕ) (it : Offending) → read_from before number records ≡ Err it → OffendsFrom records number it
offends_from [] before number it is = cc
offends_from (r ∷ rs) before number it is = on_offence (first_offence (packet_judgements r))
    (λ good.
    let rest = offends_from rs (before ++ packet_of_fields r ∷ []) (number + 1) it (rw good at is) in
    record {
      before = r ∷ rest.before;
      offender = rest.offender;
      after = rest.after;
      split = ap (λ l. r ∷ l) rest.split;
      good = All-cons IsGood r rest.before good rest.good;
      offends = rest.offends;
      number_is = let same = rest.number_is in omega arith;
    })
    (λ o bad.
    let q = rw bad at is in
    let same : record { number = number; offence = o } ≡ it = cc in
    record {
      before = [];
      offender = r;
      after = rs;
      split = refl;
      good = All-nil IsGood;
      offends = bad ∙ ap (λ (i : Offending). Some i.offence) same;
      number_is = sym (ap (λ (i : Offending). i.number) same) ∙ omega arith;
    })

-- what is read of a good record, and of one that offends
good_listed : (r : Record) → IsGood r → listed_of r ≡ Ok (packet_of_fields r)
good_listed r good = ap (λ o. unless o (packet_of_fields r)) good

bad_listed : (r : Record) (o : Offence) → first_offence (packet_judgements r) ≡ Some o → listed_of r ≡ Err o
bad_listed r o bad = ap (λ q. unless q (packet_of_fields r)) bad

-- good records spell packets, and back
good_spell : (records : List Record) → All IsGood records → (listed : List Listed) × SpellPackets records listed
good_spell [] good = ([], record { records_are = refl; in_range = All-nil IsListed })
good_spell (r ∷ rs) good =
    let passed = record_passed r (packet_of_fields r) (good_listed r (All-head IsGood r rs good)) in
    let rest = good_spell rs (All-tail IsGood r rs good) in (
      packet_of_fields r ∷ rest.0,
      record {
        records_are = ap (λ first. first ∷ rs) passed.0 ∙ ap (λ l. packet_record (packet_of_fields r) ∷ l) rest.1.records_are;
        in_range = All-cons IsListed (packet_of_fields r) rest.0 passed.1 rest.1.in_range;
      },
    )

packet_good : (one : Listed) → IsListed one → IsGood (packet_record one)
packet_good one is =
    on_offence (first_offence (packet_judgements (packet_record one)))
    (λ none. none)
    (λ o bad. let read = sym (bad_listed (packet_record one) o bad) ∙ record_read one is in cc)

packets_good : (listed : List Listed) → All IsListed listed → All IsGood (map packet_record listed)
packets_good [] are = All-nil IsGood
packets_good (one ∷ listed) are =
    All-cons IsGood (packet_record one) (map packet_record listed) (packet_good one (All-head IsListed one listed are))
    (packets_good listed (All-tail IsListed one listed are))

pub fault_of_read : (records : List Record) (number place : ℕ) (reason : Why) → read_packets records ≡ Err (record { number = number; offence = offence.At place reason })
    → IsFirstPacketFault records (fault.Malformed number place reason)
fault_of_read records number place reason is =
    let it = offends_from records [] 1 (record { number = number; offence = offence.At place reason }) is in
    let told = packet_told it.offender (offence.At place reason) it.offends in
    let own : offence.At place reason ≡ offence.At told.0 why.Field = told.1 in
    let same_place : place ≡ told.0 = cc in
    let same_reason : reason ≡ why.Field = cc in
    record {
      before = it.before;
      offender = it.offender;
      after = it.after;
      place = told.0;
      split = it.split;
      good = good_spell it.before it.good;
      offends = told.2;
      fault_is =
          ap (λ n. fault.Malformed n place reason) it.number_is ∙ ap (λ n. fault.Malformed (length it.before + 1) n reason) same_place
          ∙ ap (λ w. fault.Malformed (length it.before + 1) told.0 w) same_reason;
    }

-- a first fault is what is answered
fault_from : (before : List Record) (offender : Record) (after : List Record) (o : Offence) (listed : List Listed) (number : ℕ)
    → All IsGood before → first_offence (packet_judgements offender) ≡ Some o
    → read_from listed number (before ++ offender ∷ after) ≡ Err (record { number = length before + number; offence = o })
fault_from [] offender after o listed number good bad =
    ap (λ r. read_on listed number r (λ more. read_from more (number + 1) after)) (bad_listed offender o bad)
    ∙ ap (λ n. Err (record { number = n; offence = o })) (omega arith)
fault_from (r ∷ before) offender after o listed number good bad =
    ap (λ q. read_on listed number q (λ more. read_from more (number + 1) (before ++ offender ∷ after))) (good_listed r (All-head IsGood r before good))
    ∙ fault_from before offender after o (listed ++ packet_of_fields r ∷ []) (number + 1) (All-tail IsGood r before good) bad
    ∙ ap (λ n. Err (record { number = n; offence = o })) (omega arith)

pub first_fault_is_answered : (records : List Record) (wrong : XdsFault) → IsFirstPacketFault records wrong → Answers (read_packets records) (Err wrong)
first_fault_is_answered records wrong it =
    let good : All IsGood it.before = subst (All IsGood) (sym it.good.1.records_are) (packets_good it.good.0 it.good.1.in_range) in
    subst (λ f. Answers (read_packets records) (Err f)) (sym it.fault_is)
    (ap read_packets it.split ∙ fault_from it.before it.offender it.after (offence.At it.place why.Field) [] 1 good (packet_back it.offender it.place it.offends))
