-- Files read byte by byte: what was read, and what is left.
use Rattle.std.proofs.Common.{◌≡◌, ℕ, ◌+◌, ◌-◌, ◌<◌, true, refl, sym, ◌∙◌, ap, List, [], ◌∷◌, ◌++◌, append_assoc, append-nil, length, drop, get_or, drop-cons, add-one, Option, Some, None, Result, Ok, Err}
use Rattle.std.specs.Option.{option_to_list}
use Rattle.cc_base.specs.declared.refusal.Refusal.{Refusal}
use Rattle.line21_codes.specs.declared.pairs.Pair.{Pair}
use Rattle.scc_files.specs.Gathering.{frames_with}
use Rattle.scc_files.specs.Reading.{behind, frames_to, read_from, step, with_pair}
use Rattle.scc_files.specs.declared.reader.Offence.{Offence}
use Rattle.scc_files.specs.declared.reader.Reader.{Reader}

-- pairs in front of what is read
abbrev pub onto : List (ℕ × Pair) → Result (List (ℕ × Pair)) Refusal → Result (List (ℕ × Pair)) Refusal
onto pairs (Ok more) = Ok (pairs ++ more)
onto pairs (Err refusal) = Err refusal

pub onto_more : (pairs : List (ℕ × Pair)) (given : Option (ℕ × Pair)) (rest : Result (List (ℕ × Pair)) Refusal)
    → onto pairs (with_pair given rest) ≡ onto (pairs ++ option_to_list given) rest
onto_more pairs None rest = ap (λ z. onto z rest) (sym (append-nil pairs))
onto_more pairs (Some placed) (Ok more) = ap (λ z. Ok z) (sym (append_assoc pairs (placed ∷ []) more))
onto_more pairs (Some placed) (Err refusal) = refl

pub frames_more : (frames : ℕ) (pairs : List (ℕ × Pair)) (given : Option (ℕ × Pair))
    → frames_to frames (pairs ++ option_to_list given) ≡ frames_with (frames_to frames pairs) given
frames_more frames [] None = refl
frames_more frames [] (Some placed) = refl
frames_more frames (pair ∷ pairs) given = frames_more (pair.0 + 1) pairs given

-- one byte more, of those from a place on
pub read_step : (r : Reader) (bytes : List ℕ) (at d : ℕ) → at < length bytes
    → read_from true at r (drop at bytes) ≡ behind at (step true r (get_or bytes at d)) (λ s. read_from true (at + 1) s (drop (at + 1) bytes))
read_step r bytes at d within = rw (drop-cons bytes at d, add-one) refl

module _ (whole : Result (List (ℕ × Pair)) Refusal) (pairs : List (ℕ × Pair)) (r s : Reader) (bytes : List ℕ) (at d : ℕ) (within : at < length bytes)
    (due : whole ≡ onto pairs (read_from true at r (drop at bytes))) where
  -- it was taken
  pub read_ok : (given : Option (ℕ × Pair)) → step true r (get_or bytes at d) ≡ Ok (s, given)
      → whole ≡ onto (pairs ++ option_to_list given) (read_from true (at + 1) s (drop (at + 1) bytes))
  read_ok given is =
      (due ∙ ap (λ z. onto pairs z) (read_step r bytes at d within ∙ ap (λ z. behind at z (λ s. read_from true (at + 1) s (drop (at + 1) bytes))) is))
      ∙ onto_more pairs given (read_from true (at + 1) s (drop (at + 1) bytes))

  -- it offends
  pub read_err : (offence : Offence) → step true r (get_or bytes at d) ≡ Err offence
      → whole ≡ Err (record { place = at - offence.back; why = offence.why })
  read_err offence is =
      due ∙ ap (λ z. onto pairs z) (read_step r bytes at d within ∙ ap (λ z. behind at z (λ s. read_from true (at + 1) s (drop (at + 1) bytes))) is)
