-- Words as a command has them, and words that are no command.
use Rattle.std.proofs.Common.{◌≡◌, ◌<◌, ◌≤◌, ap, arith, get_or, length, refl, sym, ℕ, List, [], ◌∷◌, ◌∙◌, Option, None, Some, option_and_then}
use Rattle.cue_lists.specs.Fields.{named}
use Rattle.ccsuite_cli.specs.Command.{Argument, Arguments, Behind, Nothing, OneOrTwo, Optional, command_of, commands, side_path, with_arguments}

-- four words and more
none_behind : (one other more : List ℕ) (words : List (List ℕ)) (behind : Behind) → with_arguments (one ∷ other ∷ more ∷ words) behind ≡ None
none_behind one other more words (Nothing command) = refl
none_behind one other more words (Optional shown command several) = refl
none_behind one other more words (Argument name command) = refl
none_behind one other more words (Arguments name another command) = refl
none_behind one other more words (OneOrTwo name another command several) = refl

none_of : (one other more : List ℕ) (words : List (List ℕ)) (found : Option Behind) → option_and_then (with_arguments (one ∷ other ∷ more ∷ words)) found ≡ None
none_of one other more words None = refl
none_of one other more words (Some behind) = none_behind one other more words behind

pub long_words : (words : List (List ℕ)) → 4 ≤ length words → command_of words ≡ None
long_words [] many = refl
long_words (word ∷ []) many = absurd (omega arith)
long_words (word ∷ argument ∷ []) many = absurd (omega arith)
long_words (word ∷ one ∷ other ∷ []) many = absurd (omega arith)
long_words (word ∷ one ∷ other ∷ more ∷ words) many = none_of one other more words (named commands word)

-- one word or none, and four and more, have no side file
pub short_side : (words : List (List ℕ)) → length words < 2 → None ≡ side_path words
short_side [] few = refl
short_side (word ∷ []) few = refl
short_side (word ∷ other ∷ words) few = absurd (omega arith)

pub long_side : (words : List (List ℕ)) → 4 ≤ length words → None ≡ side_path words
long_side [] many = absurd (omega arith)
long_side (word ∷ []) many = absurd (omega arith)
long_side (word ∷ argument ∷ []) many = absurd (omega arith)
long_side (word ∷ one ∷ other ∷ []) many = absurd (omega arith)
long_side (word ∷ one ∷ other ∷ more ∷ words) many = refl

-- two words
pub two_words : {A : Type 0} (words : List A) (one two : A) → 2 ≤ length words → length words < 3 → one ≡ get_or words 0 one → two ≡ get_or words 1 two
    → words ≡ one ∷ two ∷ []
two_words [] one two least most one_is two_is = absurd (omega arith)
two_words (a ∷ []) one two least most one_is two_is = absurd (omega arith)
two_words (a ∷ b ∷ []) one two least most one_is two_is = ap (λ word. word ∷ b ∷ []) (sym one_is) ∙ ap (λ word. one ∷ word ∷ []) (sym two_is)
two_words (a ∷ b ∷ c ∷ words) one two least most one_is two_is = absurd (omega arith)
