-- What the test for captions says of a payload's identifiers.
use Rattle.std.proofs.Common.{◌≡◌, Bool, true, false, refl, sym, ◌∙◌, arith}
use Rattle.std.proofs.lemmas.Bool.{true≢false}
use Rattle.std.proofs.lemmas.Bool.Decides.{nat_tests}
use Rattle.mcc_files.specs.Payloads.{Payload}
use Rattle.mcc_words.specs.MccWords.{carries_captions}

pub are_captions : (payload : Payload) → carries_captions payload ≡ true → (payload.did ≡ 0x61) × (payload.sdid ≡ 0x01)
are_captions payload is = (grind (arith, nat_tests), grind (arith, nat_tests))

pub captions_true : (payload : Payload) → (payload.did ≡ 0x61) × (payload.sdid ≡ 0x01) → carries_captions payload ≡ true
captions_true payload is = rw (is.0, is.1) refl

pub no_captions : (payload : Payload) → carries_captions payload ≡ false → (payload.did ≡ 0x61) × (payload.sdid ≡ 0x01) → ⊥
no_captions payload other is = true≢false (sym (captions_true payload is) ∙ other)

pub captions_false : (payload : Payload) → ((payload.did ≡ 0x61) × (payload.sdid ≡ 0x01) → ⊥) → carries_captions payload ≡ false
captions_false payload other = by_test (carries_captions payload) refl
  where
    by_test : (test : Bool) → carries_captions payload ≡ test → carries_captions payload ≡ false
    by_test true is = absurd (other (are_captions payload is))
    by_test false is = is
