-- The cues on a channel among the first cues of a list: one more of them.
use Rattle.std.proofs.Common.{◌≡◌, ℕ, ◌+◌, Bool, true, false, cond, List, [], ◌∷◌, ◌++◌, take, reverse, ap, ◌∙◌}
use Rattle.std.specs.Prelude.{Some, slice_get}
use Rattle.std.proofs.lemmas.List.{reverse-append, take_more}
use Rattle.std.proofs.lemmas.List.Elements.{filter-append}
use Rattle.std.proofs.lemmas.Option.{get_or_from_slice_get, slice_get_within}
use Rattle.line21_codes.specs.declared.channels.Chan.{Chan}
use Rattle.cue_types.specs.Channels.{cues_on, is_on}
use Rattle.cue_types.specs.declared.cue.Cue.{Cue}
use Rattle.cc_verifier.specs.ChannelNewest.{newest}

-- one cue more at the front, if it is on the channel
abbrev pub with_newest : Chan → Cue → List Cue → List Cue
with_newest channel cue earlier = cond (is_on channel cue.kind) (cue ∷ earlier) earlier

by_test : (b : Bool) (cue : Cue) (earlier : List Cue) → reverse (earlier ++ cond b (cue ∷ []) []) ≡ cond b (cue ∷ reverse earlier) (reverse earlier)
by_test true cue earlier = reverse-append earlier (cue ∷ [])
by_test false cue earlier = reverse-append earlier []

pub newest_more : (channel : Chan) (cues : List Cue) (n : ℕ) (cue : Cue) → slice_get cues n ≡ Some cue
    → newest channel cues (n + 1) ≡ with_newest channel cue (newest channel cues n)
newest_more channel cues n cue is =
    let within = slice_get_within cues n cue is in
    let got = get_or_from_slice_get cues n cue cue is in
    let taken : take (n + 1) cues ≡ take n cues ++ cue ∷ [] =
    take_more cues n cue within ∙ ap (λ (x : Cue). take n cues ++ x ∷ []) got in
    ap (λ (xs : List Cue). reverse (cues_on channel xs)) taken
    ∙ ap reverse (filter-append (λ (c : Cue). is_on channel c.kind) (take n cues) (cue ∷ []))
    ∙ by_test (is_on channel cue.kind) cue (cues_on channel (take n cues))

-- a cue that is on the channel is the newest, and one that isn't changes nothing
pub newest_on : (channel : Chan) (cues : List Cue) (n : ℕ) (cue : Cue) → slice_get cues n ≡ Some cue → is_on channel cue.kind ≡ true
    → newest channel cues (n + 1) ≡ cue ∷ newest channel cues n
newest_on channel cues n cue is on =
    newest_more channel cues n cue is ∙ ap (λ b. cond b (cue ∷ newest channel cues n) (newest channel cues n)) on
