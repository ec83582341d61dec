-- Of no input `help` and `version` make one status, and a run that puts their text realises it.
use Rattle.std.proofs.Common.{◌≡◌, ◌∙◌, refl, sym, ℕ, List, [], Option, Some}
use Rattle.cc_base.specs.Streams.{Puts, Rose}
use Rattle.cc_base.specs.declared.streams.Put.TheVariants as put
use Rattle.command_base.specs.Ends.{ends}
use Rattle.command_base.specs.Exact.{HasVerdict, IsFault, IsOne}
use Rattle.command_base.specs.Realises.{RealisesLeaving}
use Rattle.command_base.specs.declared.status.Status.{Status}
use Rattle.command_base.specs.declared.status.Status.TheVariants as status
use Rattle.help_commands.specs.TextVerdict.{TextVerdict}

text_ok : (page input : List ℕ) (answer : Status) (text : List ℕ) → (IsFault answer → ⊥) → TextVerdict page input answer text → answer ≡ status.Ok
text_ok page input status.Ok text plain is = refl
text_ok page input status.WriteFault text plain is = absurd (plain tt)
text_ok page input _ text plain is = absurd is

pub text_one : (page : List ℕ) → IsOne (λ aside. TextVerdict page)
text_one page aside input one other text more plain told is at = text_ok page input one text plain is ∙ sym (text_ok page input other more told at)

pub every_text : (page : List ℕ) → HasVerdict (λ aside. TextVerdict page)
every_text page aside input bytes = (status.Ok, page, λ fault. fault, refl)

pub text_done : (page : List ℕ) (reads writes still : ℕ) (old new : Option (List ℕ)) → Puts old new put.Done page → still ≡ writes
    → RealisesLeaving (TextVerdict page) (ends (Some []) reads old writes) (ends (Some []) reads new still) status.Ok
text_done page reads writes still old new puts kept =
    ((refl, record { aside = refl; reads = refl; writes = kept }, (refl, (page, refl, puts))), λ memory. cc)

pub text_failed : (page : List ℕ) (reads writes still : ℕ) (old new : Option (List ℕ)) → Puts old new put.Failed page → Rose writes still
    → RealisesLeaving (TextVerdict page) (ends (Some []) reads old writes) (ends (Some []) reads new still) status.WriteFault
text_failed page reads writes still old new puts rose = ((refl, refl, rose, (page, refl, puts)), λ memory. cc)
