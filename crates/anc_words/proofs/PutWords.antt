-- Words that are put one after another, and their sum.
use Rattle.std.proofs.Common.{◌≡◌, ℕ, ◌+◌, ◌*◌, ◌%◌, ◌^◌, ◌<◌, ◌≤◌, List, [], ◌∷◌, ◌++◌, length, map, take, get_or, refl, arith, ap, sym, subst, ◌∙◌, append_assoc}
use Rattle.std.proofs.lemmas.List.{map-append, take_all}
use Rattle.std.proofs.lemmas.List.Concat.{flat_map-append}
use Rattle.std.proofs.lemmas.List.Sums.{sum_by-append, sum_by-cons}
use Rattle.std.specs.List.{flat_map, sum}
use lib.Lanes.{fold_l, zip2}
use Rattle.anc_words.specs.Writing.{eight_bit_word, checksum_word, nine_bit_word, packet_bytes, summed_words, word_bytes}
use Rattle.anc_words.proofs.LaneLemmas.{HaveTotal, joined-next, total-folded, total-next, wrapped_add}

-- words and more words
pub both-put : (old now after front back words : List ℕ) → now ≡ old ++ flat_map word_bytes front → after ≡ now ++ flat_map word_bytes back → words ≡ front ++ back
    → after ≡ old ++ flat_map word_bytes words
both-put old now after front back words first second both =
    second ∙ ap (λ bytes. bytes ++ flat_map word_bytes back) first ∙ append_assoc old (flat_map word_bytes front) (flat_map word_bytes back)
    ∙ ap (λ bytes. old ++ bytes) (sym (flat_map-append word_bytes front back) ∙ ap (flat_map word_bytes) (sym both))

-- the sum of both
pub both-sums : (front back words : List ℕ) (first second : ℕ) → first ≡ sum front % 2 ^ 16 → second ≡ sum back % 2 ^ 16 → words ≡ front ++ back
    → (first + second) % 2 ^ 16 ≡ sum words % 2 ^ 16
both-sums front back words first second is other both =
    let total : sum words ≡ sum front + sum back = ap sum both ∙ sum_by-append (λ x. x) front back in
    omega (arith, is, other, total)

-- the bytes so far are the old ones and the bytes of the words of these user bytes, whose sum, modulo 2^16, is as given
pub record ArePut (old now user : List ℕ) (total : ℕ) : Type 0 where
  pub items : now ≡ old ++ flat_map word_bytes (map eight_bit_word user)
  pub len : length now ≡ length old + 2 * length user
  pub total_is : total ≡ sum (map eight_bit_word user) % 2 ^ 16

-- the words of the user bytes of eights
abbrev pub words_of_eights : List (List ℕ) → List ℕ
words_of_eights eights = map eight_bit_word (flat_map (λ eight. eight) eights)

-- the bytes so far are the old ones and the bytes of the words of this many eights, whose sum is in the lanes
pub record EightsArePut (old now : List ℕ) (eights : List (List ℕ)) (many : ℕ) (sums : List ℕ) : Type 0 where
  pub items : now ≡ old ++ flat_map word_bytes (words_of_eights (take many eights))
  pub len : length now ≡ length old + 16 * many
  pub lanes : HaveTotal (words_of_eights (take many eights)) sums

-- one eight more
pub eights-next : (old now after : List ℕ) (eights : List (List ℕ)) (many : ℕ) (sums words : List ℕ) → many < length eights → words ≡ map eight_bit_word (get_or eights many [])
    → length words ≡ 8 → after ≡ now ++ flat_map word_bytes words → length after ≡ length now + 16 → EightsArePut old now eights many sums
    → EightsArePut old after eights (many + 1) (zip2 wrapped_add sums words)
eights-next old now after eights many sums words within are long put longer have =
    let front = words_of_eights (take many eights) in
    let more : words_of_eights (take (many + 1) eights) ≡ front ++ words =
    ap (map eight_bit_word) (joined-next eights many within) ∙ map-append eight_bit_word (flat_map (λ eight. eight) (take many eights)) (get_or eights many [])
    ∙ ap (λ ws. front ++ ws) (sym are) in
    let len = have.len in record {
      items = both-put old now after front words (words_of_eights (take (many + 1) eights)) have.items put more;
      len = omega (arith, len, longer);
      lanes = subst (λ ws. HaveTotal ws (zip2 wrapped_add sums words)) (sym more) (total-next front words sums long have.lanes);
    }

-- the lanes of all eights
pub eights-total : (old now : List ℕ) (eights : List (List ℕ)) (many : ℕ) (sums : List ℕ) → length eights ≤ many → EightsArePut old now eights many sums
    → fold_l wrapped_add 0 sums ≡ sum (words_of_eights eights) % 2 ^ 16
eights-total old now eights many sums end have =
    subst (λ es. fold_l wrapped_add 0 sums ≡ sum (words_of_eights es) % 2 ^ 16) (take_all many eights end) (total-folded (words_of_eights (take many eights)) sums have.lanes)

-- the words before the user words
abbrev pub head_words : ℕ → ℕ → ℕ → List ℕ
head_words did sdid count = 0x000 ∷ 0x3FF ∷ 0x3FF ∷ map eight_bit_word (did ∷ sdid ∷ count ∷ [])

-- as they are put
pub head-put : (did sdid count : ℕ) (first second third fourth fifth sixth : List ℕ) → first ≡ word_bytes 0x000 → second ≡ word_bytes 0x3FF → third ≡ word_bytes 0x3FF
    → fourth ≡ word_bytes (eight_bit_word did) → fifth ≡ word_bytes (eight_bit_word sdid) → sixth ≡ word_bytes (eight_bit_word count)
    → flat_map (λ word. word) (first ∷ second ∷ third ∷ fourth ∷ fifth ∷ sixth ∷ []) ≡ flat_map word_bytes (head_words did sdid count)
head-put did sdid count first second third fourth fifth sixth is_first is_second is_third is_fourth is_fifth is_sixth =
    rw (is_first, is_second, is_third, is_fourth, is_fifth, is_sixth) refl

-- the head, the user words and the checksum word are the packet
pub packet-put : (did sdid first second last : ℕ) (user old head body whole : List ℕ) → old ≡ [] → head ≡ old ++ flat_map word_bytes (head_words did sdid (length user))
    → body ≡ head ++ flat_map word_bytes (map eight_bit_word user) → whole ≡ body ++ word_bytes last
    → first ≡ sum (map eight_bit_word (did ∷ sdid ∷ length user ∷ [])) → second ≡ sum (map eight_bit_word user) % 2 ^ 16 → last ≡ nine_bit_word ((first + second) % 512)
    → whole ≡ packet_bytes did sdid user
packet-put did sdid first second last user old head body whole empty has_head has_body has_last of_head of_body is =
    let words = map eight_bit_word user in
    let d = eight_bit_word did in
    let s = eight_bit_word sdid in
    let count = eight_bit_word (length user) in
    let same : (first + second) % 512 ≡ sum (summed_words did sdid user) % 512 =
    omega (arith, of_head, of_body, sum_by-cons (λ x. x) d (s ∷ count ∷ words), sum_by-cons (λ x. x) s (count ∷ words), sum_by-cons (λ x. x) count words) in
    let checksum : last ≡ checksum_word (summed_words did sdid user) = is ∙ ap nine_bit_word same in
    has_last ∙ rw (has_body, has_head, empty, checksum, flat_map-append word_bytes words (checksum_word (summed_words did sdid user) ∷ [])) refl
