-- The packets of a file that begins with a file: that file's, and perhaps more.
use Rattle.std.proofs.Common.{◌≡◌, ℕ, ◌==◌, Bool, true, false, cond, List, [], ◌∷◌, ◌++◌, append_assoc, append-nil, Some, Ok, refl, ap, sym, ◌∙◌, subst}
use Rattle.scc_files.specs.Phases.{is_blank}
use Rattle.mcc_files.specs.MccFiles.{TimedPackets}
use Rattle.mcc_files.specs.Reading.{State, at_first, behind_cr, ended_by_cr, ended_by_lf, ends, ends_at_lf, ends_in, ends_payload, in_phase, packet_of, payload_goes, placed_with, run, take_byte, taken, within}
use Rattle.mcc_files.specs.declared.phase.Phase.{Phase}
use Rattle.mcc_files.specs.declared.phase.Phase.TheVariants as phase
use Rattle.mcc_files.proofs.FileReads.{ends_lf, file_run}
use Rattle.mcc_files.proofs.FrontLemmas.{taken_so}
use Rattle.mcc_files.proofs.OriginLemmas.{cr_so, lf_so}
use Rattle.mcc_files.proofs.RunLemmas.{ok_same, run_on, went}
use Rattle.mcc_files.proofs.ToldLemmas.{none_is_some, some_same}
use Rattle.mcc_files.specs.PayloadReading.{is_whole, step}
use Rattle.mcc_commands.proofs.StateLemmas.{lf_open, within_led}
use Rattle.mcc_commands.specs.Imports.{PacketsGoOn}

-- the line is a packet's whose payload is whole
abbrev whole_line : Phase → List ℕ → Bool
whole_line phase.Payload bytes = is_whole bytes
whole_line phase.Behind bytes = true
whole_line (phase.End packet) bytes = packet
whole_line _ bytes = false

-- the packets of what was read, with such a line's packet
abbrev pub given : State → TimedPackets
given s = placed_with s (whole_line s.phase s.payload.bytes)

-- packets go on
pub record Grown (front all : TimedPackets) : Type 0 where
  pub rest : TimedPackets
  pub spelled : all ≡ front ++ rest

same_grown : (front all : TimedPackets) → all ≡ front → Grown front all
same_grown front all same = record { rest = []; spelled = same ∙ sym (append-nil front) }

both_grown : (front middle all : TimedPackets) → Grown front middle → Grown middle all → Grown front all
both_grown front middle all first second = record {
  rest = first.rest ++ second.rest;
  spelled = second.spelled ∙ (ap (λ (p : TimedPackets). p ++ second.rest) first.spelled ∙ append_assoc front first.rest second.rest);
}

with_grown : (s : State) (packet : Bool) → Grown s.placed (placed_with s packet)
with_grown s false = same_grown s.placed s.placed refl
with_grown s true = record { rest = packet_of s ∷ []; spelled = refl }

-- where a line may end, its packet is given if it is a packet's
payload_whole : (whole gives : Bool) → ends_payload whole ≡ Some gives → whole ≡ gives
payload_whole true gives is = some_same true gives is
payload_whole false gives is = absurd (none_is_some gives is)

lf_whole : (p : Phase) (bytes : List ℕ) (gives : Bool) → ends_at_lf p (ends_in p bytes) ≡ Some gives → whole_line p bytes ≡ gives
lf_whole phase.Payload bytes gives is = payload_whole (is_whole bytes) gives is
lf_whole p bytes gives is = lf_open p bytes gives is

behind_whole : (p : Phase) (bytes : List ℕ) (gives : Bool) → whole_line p bytes ≡ gives → whole_line (behind_cr p gives) bytes ≡ gives
behind_whole phase.FirstSpaces bytes gives is = is
behind_whole p bytes gives is = refl

-- a byte within such a line
whole_goes : (p : Phase) (s t : State) (byte : ℕ) → s.phase ≡ p → whole_line p s.payload.bytes ≡ true → within s p byte ≡ Ok t → given t ≡ placed_with s true
whole_goes phase.Payload s t byte at whole is =
    let moved : taken s (is_blank byte) (in_phase s phase.Behind) ≡ Ok t =
    subst (λ (w : Bool). cond w (taken s (is_blank byte) (in_phase s phase.Behind)) (payload_goes s (step true s.payload byte)) ≡ Ok t) whole is in
    let next = taken_so s (is_blank byte) (in_phase s phase.Behind) t moved in
    ap (λ (x : State). given x) (sym next.1)
whole_goes phase.Behind s t byte at whole is =
    let next = taken_so s (is_blank byte) (in_phase s phase.Behind) t is in
    ap (λ (x : State). given x) (sym next.1)
whole_goes (phase.End packet) s t byte at whole is = absurd (cc)
whole_goes p s t byte at whole is = absurd (cc)

open_goes : (s t : State) (byte : ℕ) (whole : Bool) → whole_line s.phase s.payload.bytes ≡ whole → within s s.phase byte ≡ Ok t → Grown (placed_with s whole) (given t)
open_goes s t byte true whole is = same_grown (placed_with s true) (given t) (whole_goes s.phase s t byte refl whole is)
open_goes s t byte false whole is =
    subst (λ (p : TimedPackets). Grown p (given t)) (within_led s.phase s t byte refl is).placed (with_grown t (whole_line t.phase t.payload.bytes))

-- a byte more
step_by : (s t : State) (byte : ℕ) (lf cr : Bool) → cond lf (ended_by_lf s (ends_at_lf s.phase (ends s))) (cond cr (ended_by_cr s (ends s)) (within s s.phase byte)) ≡ Ok t
    → Grown (given s) (given t)
step_by s t byte true cr is =
    let (gives, found, same) = lf_so s t (ends_at_lf s.phase (ends s)) is in
    let whole = lf_whole s.phase s.payload.bytes gives found in
    same_grown (given s) (given t) (ap (λ (x : State). given x) (sym same) ∙ ap (λ (g : Bool). placed_with s g) (sym whole))
step_by s t byte false true is =
    let (gives, found, same) = cr_so s t (ends s) is in
    let whole = lf_whole s.phase s.payload.bytes gives (ends_lf s.phase s.payload.bytes gives found) in
    let behind = behind_whole s.phase s.payload.bytes gives whole in
    same_grown (given s) (given t)
    (ap (λ (x : State). given x) (sym same) ∙ (placed_same s (behind_cr s.phase gives) _ ∙ ap (λ (g : Bool). placed_with s g) (behind ∙ sym whole)))
  where
    placed_same : (s : State) (to : Phase) (packet : Bool) → placed_with (in_phase s to) packet ≡ placed_with s packet
    placed_same s to true = refl
    placed_same s to false = refl
step_by s t byte false false is = open_goes s t byte (whole_line s.phase s.payload.bytes) refl is

pub step_grown : (s t : State) (byte : ℕ) → take_byte s byte ≡ Ok t → Grown (given s) (given t)
step_grown s t byte is = step_by s t byte (byte == 10) (byte == 13) is

-- bytes more
pub run_grown : (bytes : List ℕ) (s t : State) → run s bytes ≡ Ok t → Grown (given s) (given t)
run_grown [] s t is = same_grown (given s) (given t) (ap (λ (x : State). given x) (sym (ok_same s t is)))
run_grown (byte ∷ bytes) s t is =
    let w = went (take_byte s byte) (λ n. run n bytes) t is in
    both_grown (given s) (given w.next) (given t) (step_grown s w.next byte w.stepped) (run_grown bytes w.next t w.more)

-- the packets of a file are given where it ends
ends_given : (s : State) (gives : Bool) → ends s ≡ Some gives → given s ≡ placed_with s gives
ends_given s gives may = ap (λ (g : Bool). placed_with s g) (lf_whole s.phase s.payload.bytes gives (ends_lf s.phase s.payload.bytes gives may))

pub packets_go_on : PacketsGoOn
packets_go_on front all file more first whole =
    let f = file_run front file first in
    let w = file_run all (file ++ more) whole in
    let rest : run f.to more ≡ Ok w.to = sym (run_on at_first file more f.to f.is) ∙ w.is in
    let grown = run_grown more f.to w.to rest in
    let fronts : given f.to ≡ front = ends_given f.to f.gives f.may ∙ f.all in
    let alls : given w.to ≡ all = ends_given w.to w.gives w.may ∙ w.all in
    (grown.rest, sym alls ∙ (grown.spelled ∙ ap (λ (p : TimedPackets). p ++ grown.rest) fronts))
