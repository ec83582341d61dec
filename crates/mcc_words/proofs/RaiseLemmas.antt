-- A counter raised in a distribution packet.
use Rattle.std.proofs.Common.{◌≡◌, ℕ, ◌+◌, ◌-◌, ◌*◌, ◌/◌, ◌%◌, ◌<◌, List, [], ◌∷◌, ◌++◌, length, length-append, get_or, take, drop, sum, Option, Some, None, refl, ap, sym, ◌∙◌, subst, arith}
use Rattle.std.specs.Prelude.{IfSome}
use Rattle.std.specs.List.{concat}
use Rattle.std.proofs.lemmas.List.{get_or-append-add}
use Rattle.std.proofs.lemmas.List.Sums.{sum_by-append, sum_by-cons}
use Rattle.std.proofs.Math.Seq.{take-append_seam}
use Rattle.anc_words.specs.Writing.{packet_bytes}
use Rattle.cc_base.specs.Rate.{rate_code}
use Rattle.cdp_packets.specs.Packets.{Frame, IsCdp}
use Rattle.mcc_words.specs.Raised.{IsRaised}
use Rattle.mcc_words.specs.declared.maker.Before.{Before}

pub sum_first : (x : ℕ) (xs : List ℕ) → sum (x ∷ xs) ≡ x + sum xs
sum_first x xs = sum_by-cons (λ n. n) x xs

pub sum_both : (xs ys : List ℕ) → sum (xs ++ ys) ≡ sum xs + sum ys
sum_both xs ys = sum_by-append (λ n. n) xs ys

-- the parts of a packet
pub record HasParts (packet : Frame) (user : List ℕ) (is : IsCdp packet user) : Type 0 where
  pub cut : take (length user - 4 - 7) (drop 7 user) ≡ concat packet.sections
  pub id : get_or user (length user - 4) 0 ≡ 0x74
  pub last : get_or user (length user - 1) 0 ≡ is.last
  pub high : get_or user 5 0 ≡ is.high
  pub low : get_or user 6 0 ≡ is.low

pub parts : (packet : Frame) (user : List ℕ) (is : IsCdp packet user) → HasParts packet user is
parts packet user is =
    let sections = concat packet.sections in
    let foot = 0x74 ∷ is.high ∷ is.low ∷ is.last ∷ [] in
    let head = 0x96 ∷ 0x69 ∷ length user ∷ (16 * rate_code packet.rate + is.marker) ∷ packet.flags ∷ is.high ∷ is.low ∷ [] in
    let size : length user ≡ length head + (length sections + 4) = omega (arith, ap length is.spelled, length-append sections foot) in
    let at : (n : ℕ) → get_or user (length head + (length sections + n)) 0 ≡ get_or foot n 0 =
    λ n. ap (λ bs. get_or bs (length head + (length sections + n)) 0) is.spelled
    ∙ get_or-append-add head (sections ++ foot) (length sections + n) 0 ∙ get_or-append-add sections foot n 0 in
    let place : (n m : ℕ) → length user - n ≡ m → get_or user (length user - n) 0 ≡ get_or user m 0 = λ n m same. ap (λ i. get_or user i 0) same in
    let many : length user - 4 - 7 ≡ length sections = omega (arith, size) in
    record {
      cut = ap (λ n. take n (drop 7 user)) many ∙ ap (λ bs. take (length sections) (drop 7 bs)) is.spelled ∙ take-append_seam sections foot;
      id = place 4 (length head + (length sections + 0)) (omega (arith, size)) ∙ at 0;
      last = place 1 (length head + (length sections + 3)) (omega (arith, size)) ∙ at 3;
      high = ap (λ bs. get_or bs 5 0) is.spelled;
      low = ap (λ bs. get_or bs 6 0) is.spelled;
    }

-- the sum of a packet, by its parts
pub sum_parts : (a b c d e high low id last : ℕ) (middle : List ℕ)
    → sum (a ∷ b ∷ c ∷ d ∷ e ∷ high ∷ low ∷ (middle ++ id ∷ high ∷ low ∷ last ∷ [])) ≡ a + b + c + d + e + id + sum middle + (last + 2 * (high + low))
sum_parts a b c d e high low id last middle =
    let foot = id ∷ high ∷ low ∷ last ∷ [] in
    let rest = middle ++ foot in
    let one = sum_first a (b ∷ c ∷ d ∷ e ∷ high ∷ low ∷ rest) in
    let two = sum_first b (c ∷ d ∷ e ∷ high ∷ low ∷ rest) in
    let three = sum_first c (d ∷ e ∷ high ∷ low ∷ rest) in
    let four = sum_first d (e ∷ high ∷ low ∷ rest) in
    let five = sum_first e (high ∷ low ∷ rest) in
    let six = sum_first high (low ∷ rest) in
    let seven = sum_first low rest in
    let both = sum_both middle foot in
    let eight = sum_first id (high ∷ low ∷ last ∷ []) in
    let nine = sum_first high (low ∷ last ∷ []) in
    let ten = sum_first low (last ∷ []) in
    let eleven = sum_first last [] in
    let none : sum [] ≡ 0 = refl in
    omega (arith, one, two, three, four, five, six, seven, both, eight, nine, ten, eleven, none)

pub total_again : (rest more again : ℕ) → (rest + more) % 256 ≡ 0 → again % 256 ≡ more % 256 → (rest + again) % 256 ≡ 0
total_again rest more again total same = omega (arith, total, same)

-- the bytes of a counter
pub counter_again : (n : ℕ) → 256 * (n % 65536 / 256 % 256) + n % 65536 % 256 ≡ n % 65536
counter_again n = omega arith

pub raise_is : (packet : Frame) (user none x y out pair : List ℕ) (by f1 f2 last : ℕ) → IsCdp packet user → none ≡ [] → f1 ≡ get_or user 5 0 → f2 ≡ get_or user 6 0
    → pair ≡ ((256 * f1 + f2 + by) % 65536 / 256 % 256) ∷ ((256 * f1 + f2 + by) % 65536 % 256) ∷ []
    → (last + 2 * (get_or pair 0 0 + get_or pair 1 0)) % 256 ≡ (get_or user (length user - 1) 0 + 2 * (get_or user 5 0 + get_or user 6 0)) % 256 → last < 256
    → x ≡ none ++ (get_or user 0 0 ∷ get_or user 1 0 ∷ get_or user 2 0 ∷ get_or user 3 0 ∷ get_or user 4 0 ∷ get_or pair 0 0 ∷ get_or pair 1 0 ∷ [])
    → y ≡ x ++ take (length user - 4 - 7) (drop 7 user) → out ≡ y ++ (get_or user (length user - 4) 0 ∷ get_or pair 0 0 ∷ get_or pair 1 0 ∷ last ∷ [])
    → IsRaised by user out
raise_is packet user none x y out pair by f1 f2 last is empty is_f1 is_f2 is_pair balance small first second third =
    let p = parts packet user is in
    let middle = concat packet.sections in
    let rated = 16 * rate_code packet.rate + is.marker in
    let hi = get_or pair 0 0 in
    let lo = get_or pair 1 0 in
    let hi_is : hi ≡ (256 * f1 + f2 + by) % 65536 / 256 % 256 = ap (λ b. get_or b 0 0) is_pair in
    let lo_is : lo ≡ (256 * f1 + f2 + by) % 65536 % 256 = ap (λ b. get_or b 1 0) is_pair in
    let high : f1 ≡ is.high = is_f1 ∙ p.high in
    let low : f2 ≡ is.low = is_f2 ∙ p.low in
    let again = counter_again (256 * f1 + f2 + by) in
    let counter : 256 * hi + lo ≡ (256 * is.high + is.low + by) % 65536 =
    ap (λ h. 256 * h + lo) hi_is ∙ (ap (λ l. 256 * ((256 * f1 + f2 + by) % 65536 / 256 % 256) + l) lo_is ∙ (again ∙ (ap (λ n. (256 * n + f2 + by) % 65536) high ∙ ap (λ n. (256 * is.high + n + by) % 65536) low))) in
    let heads : get_or user 0 0 ∷ get_or user 1 0 ∷ get_or user 2 0 ∷ get_or user 3 0 ∷ get_or user 4 0 ∷ hi ∷ lo ∷ [] ≡ 0x96 ∷ 0x69 ∷ length user ∷ rated ∷ packet.flags ∷ hi ∷ lo ∷ [] =
    ap (λ bs. get_or bs 0 0 ∷ get_or bs 1 0 ∷ get_or bs 2 0 ∷ get_or bs 3 0 ∷ get_or bs 4 0 ∷ hi ∷ lo ∷ []) is.spelled in
    let front : x ≡ 0x96 ∷ 0x69 ∷ length user ∷ rated ∷ packet.flags ∷ hi ∷ lo ∷ [] = first ∙ (ap (λ n. n ++ (get_or user 0 0 ∷ get_or user 1 0 ∷ get_or user 2 0 ∷ get_or user 3 0 ∷ get_or user 4 0 ∷ hi ∷ lo ∷ [])) empty ∙ heads) in
    let foot : get_or user (length user - 4) 0 ∷ hi ∷ lo ∷ last ∷ [] ≡ 0x74 ∷ hi ∷ lo ∷ last ∷ [] = ap (λ i. i ∷ hi ∷ lo ∷ last ∷ []) p.id in
    let spelled : out ≡ 0x96 ∷ 0x69 ∷ length user ∷ rated ∷ packet.flags ∷ hi ∷ lo ∷ (middle ++ 0x74 ∷ hi ∷ lo ∷ last ∷ []) =
    third ∙ (ap (λ z. z ++ (get_or user (length user - 4) 0 ∷ hi ∷ lo ∷ last ∷ [])) (second ∙ (ap (λ m. x ++ m) p.cut ∙ ap (λ z. z ++ middle) front)) ∙ ap (λ z. ((0x96 ∷ 0x69 ∷ length user ∷ rated ∷ packet.flags ∷ hi ∷ lo ∷ []) ++ middle) ++ z) foot) in
    let was : sum user ≡ 0x96 + 0x69 + length user + rated + packet.flags + 0x74 + sum middle + (is.last + 2 * (is.high + is.low)) =
    ap (λ b. sum b) is.spelled ∙ sum_parts 0x96 0x69 (length user) rated packet.flags is.high is.low 0x74 is.last middle in
    let now : sum out ≡ 0x96 + 0x69 + length user + rated + packet.flags + 0x74 + sum middle + (last + 2 * (hi + lo)) =
    ap (λ b. sum b) spelled ∙ sum_parts 0x96 0x69 (length user) rated packet.flags hi lo 0x74 last middle in
    let more : (last + 2 * (hi + lo)) % 256 ≡ (is.last + 2 * (is.high + is.low)) % 256 =
    balance ∙ (ap (λ n. (n + 2 * (get_or user 5 0 + get_or user 6 0)) % 256) p.last ∙ (ap (λ n. (is.last + 2 * (n + get_or user 6 0)) % 256) p.high ∙ ap (λ n. (is.last + 2 * (is.high + n)) % 256) p.low)) in
    let rest = 0x96 + 0x69 + length user + rated + packet.flags + 0x74 + sum middle in
    let total : sum out % 256 ≡ 0 =
    ap (λ n. n % 256) now ∙ total_again rest (is.last + 2 * (is.high + is.low)) (last + 2 * (hi + lo)) (ap (λ n. n % 256) (sym was) ∙ is.total) more in
    record {
      head = 0x96 ∷ 0x69 ∷ length user ∷ rated ∷ packet.flags ∷ [];
      middle = middle;
      high = is.high;
      low = is.low;
      last = is.last;
      high_again = hi;
      low_again = lo;
      last_again = last;
      five = refl;
      user_is = is.spelled;
      raised_is = spelled;
      counter = counter;
      bytes = (omega (arith, hi_is), omega (arith, lo_is), small);
      total = total;
    }

-- the words of a packet with its counter raised
pub put_so : (before : Option Before) (now : Before) (by : ℕ) (user raised shown out : List ℕ) → before ≡ Some now → by ≡ now.raised → IsRaised by user raised → shown ≡ raised
    → out ≡ packet_bytes 0x61 0x01 shown → IfSome before (λ now. (r : List ℕ) × IsRaised now.raised user r × (out ≡ packet_bytes 0x61 0x01 r))
put_so before now by user raised shown out is by_is raises shown_is out_is =
    subst (λ (o : Option Before). IfSome o (λ now. (r : List ℕ) × IsRaised now.raised user r × (out ≡ packet_bytes 0x61 0x01 r))) (sym is)
    (raised, subst (λ (b : ℕ). IsRaised b user raised) by_is raises, out_is ∙ ap (λ b. packet_bytes 0x61 0x01 b) shown_is)

pub put_none : (before : Option Before) (user out : List ℕ) → before ≡ None → IfSome before (λ now. (r : List ℕ) × IsRaised now.raised user r × (out ≡ packet_bytes 0x61 0x01 r))
put_none before user out is = subst (λ (o : Option Before). IfSome o (λ now. (r : List ℕ) × IsRaised now.raised user r × (out ≡ packet_bytes 0x61 0x01 r))) (sym is) tt
