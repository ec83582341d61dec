-- Packets that are kept as their heads and the texts of all.
use Rattle.std.proofs.Common.{◌≡◌, ◌∙◌, ℕ, zero, suc, ◌+◌, ◌<◌, ◌≤◌, ◌^◌, List, [], ◌∷◌, ◌++◌, refl, sym, ap, subst, arith, length, get_or, take, drop, append_assoc, length-append, map}
use Rattle.std.specs.Prelude.{All}
use Rattle.std.proofs.lemmas.List.{append-nil, drop_at, drop-drop, take_at, length-map, map_push}
use Rattle.std.proofs.lemmas.List.Elements.{All-head, All-push, All-tail}
use Rattle.xds_lists.specs.Form.{IsListed}
use Rattle.xds_lists.specs.Packed.{ArePacked, head_of, listed_with, text_before, texts_of, unpacked}
use Rattle.xds_lists.specs.declared.head.Head.{Head}
use Rattle.xds_packets.specs.Sending.{Listed}

-- packets that are packed are unpacked as they were
pub unpacked_packed : (listed : List Listed) → unpacked (map head_of listed) (texts_of listed) ≡ listed
unpacked_packed [] = refl
unpacked_packed (first ∷ listed) =
    let text = take_at first.packet.text (texts_of listed) (length first.packet.text) refl in
    let rest = drop_at first.packet.text (texts_of listed) (length first.packet.text) refl in
    ap (λ t. listed_with (head_of first) t ∷ unpacked (map head_of listed) (drop (length first.packet.text) (first.packet.text ++ texts_of listed))) text
    ∙ ap (λ t. first ∷ unpacked (map head_of listed) t) rest
    ∙ ap (λ l. first ∷ l) (unpacked_packed listed)

pub texts_push : (listed : List Listed) (one : Listed) → texts_of (listed ++ one ∷ []) ≡ texts_of listed ++ one.packet.text
texts_push [] one = append-nil one.packet.text
texts_push (first ∷ listed) one =
    ap (λ l. first.packet.text ++ l) (texts_push listed one) ∙ sym (append_assoc first.packet.text (texts_of listed) one.packet.text)

-- one more packet
pub unpacked_push : (heads : List Head) (texts : List ℕ) (one : Listed) → ArePacked heads texts
    → unpacked (heads ++ head_of one ∷ []) (texts ++ one.packet.text) ≡ unpacked heads texts ++ one ∷ []
unpacked_push heads texts one is =
    let listed = unpacked heads texts in
    let heads_are : map head_of (listed ++ one ∷ []) ≡ heads ++ head_of one ∷ [] = map_push head_of listed one ∙ ap (λ l. l ++ head_of one ∷ []) is.heads_are in
    let texts_are : texts_of (listed ++ one ∷ []) ≡ texts ++ one.packet.text = texts_push listed one ∙ ap (λ l. l ++ one.packet.text) is.texts_are in
    ap (λ l. unpacked l (texts ++ one.packet.text)) (sym heads_are)
    ∙ ap (unpacked (map head_of (listed ++ one ∷ []))) (sym texts_are)
    ∙ unpacked_packed (listed ++ one ∷ [])

pub packed_push : (heads : List Head) (texts : List ℕ) (one : Listed) → ArePacked heads texts → IsListed one → length heads + 1 < 2 ^ 32
    → ArePacked (heads ++ head_of one ∷ []) (texts ++ one.packet.text)
packed_push heads texts one is in_range few =
    let listed = unpacked heads texts in
    let are = unpacked_push heads texts one is in
    record {
      heads_are = ap (map head_of) are ∙ map_push head_of listed one ∙ ap (λ l. l ++ head_of one ∷ []) is.heads_are;
      texts_are = ap texts_of are ∙ texts_push listed one ∙ ap (λ l. l ++ one.packet.text) is.texts_are;
      in_range = subst (λ l. All IsListed l) (sym are) (All-push IsListed listed one is.in_range in_range);
      few = let more = length-append heads (head_of one ∷ []) in omega arith;
    }

pub heads_count : (heads : List Head) (texts : List ℕ) → ArePacked heads texts → length (unpacked heads texts) ≡ length heads
heads_count heads texts is = sym (length-map (unpacked heads texts) head_of) ∙ ap length is.heads_are

-- a packet that stands in a list
pub record IsThere (listed : List Listed) (index : ℕ) : Type 0 where
  pub one : Listed
  pub split : drop index listed ≡ one ∷ drop (suc index) listed
  pub head : (other : Head) → get_or (map head_of listed) index other ≡ head_of one
  pub text : take (length one.packet.text) (drop (text_before index listed) (texts_of listed)) ≡ one.packet.text
  pub fits : text_before index listed + length one.packet.text ≤ length (texts_of listed)
  pub behind : text_before (suc index) listed ≡ text_before index listed + length one.packet.text
  pub in_range : All IsListed listed → IsListed one

pub is_there : (listed : List Listed) (index : ℕ) → index < length listed → IsThere listed index
is_there [] index within = absurd (omega arith)
is_there (first ∷ listed) zero within = record {
  one = first;
  split = refl;
  head = λ other. refl;
  text = take_at first.packet.text (texts_of listed) (length first.packet.text) refl;
  fits = let whole = length-append first.packet.text (texts_of listed) in omega arith;
  behind = let none = length-append first.packet.text [] in omega arith;
  in_range = λ all. All-head IsListed first listed all;
}
is_there (first ∷ listed) (suc index) within =
    let it = is_there listed index (omega arith) in
    let whole = length-append first.packet.text (texts_of listed) in
    let front = length-append first.packet.text (texts_of (take index listed)) in
    let next = length-append first.packet.text (texts_of (take (suc index) listed)) in
    let rest = drop_at first.packet.text (texts_of listed) (length first.packet.text) refl in
    let both = drop-drop (text_before index listed) (length first.packet.text) (first.packet.text ++ texts_of listed) in
    let less : drop (length (first.packet.text ++ texts_of (take index listed))) (first.packet.text ++ texts_of listed) ≡ drop (text_before index listed) (texts_of listed) =
    ap (λ n. drop n (first.packet.text ++ texts_of listed)) front ∙ sym both ∙ ap (drop (text_before index listed)) rest in
    record {
      one = it.one;
      split = it.split;
      head = it.head;
      text = ap (take (length it.one.packet.text)) less ∙ it.text;
      fits = let fits = it.fits in omega arith;
      behind = let behind = it.behind in omega arith;
      in_range = λ all. it.in_range (All-tail IsListed first listed all);
    }

-- a packet that is read of its head and its place in the texts
pub record IsUnpacked (listed : List Listed) (texts : List ℕ) (index start : ℕ) (head : Head) : Type 0 where
  pub fits : start + head.size ≤ length texts
  pub small : head.size ≤ 32
  pub split : drop index listed ≡ listed_with head (take head.size (drop start texts)) ∷ drop (index + 1) listed
  pub in_range : IsListed (listed_with head (take head.size (drop start texts)))

pub is_unpacked : (heads : List Head) (texts : List ℕ) (listed : List Listed) (index start : ℕ) (head : Head) → ArePacked heads texts → unpacked heads texts ≡ listed
    → index < length listed → start ≡ text_before index listed → head ≡ get_or heads index head → IsUnpacked listed texts index start head
is_unpacked heads texts listed index start head packed are within starts is =
    let it = is_there listed index within in
    let heads_are : heads ≡ map head_of listed = sym packed.heads_are ∙ ap (map head_of) are in
    let texts_are : texts ≡ texts_of listed = sym packed.texts_are ∙ ap texts_of are in
    let head_is : head ≡ head_of it.one = is ∙ ap (λ l. get_or l index head) heads_are ∙ it.head head in
    let size : head.size ≡ length it.one.packet.text = ap (λ (h : Head). h.size) head_is in
    let text_is : take head.size (drop start texts) ≡ it.one.packet.text =
    ap (λ n. take n (drop start texts)) size
    ∙ ap (λ n. take (length it.one.packet.text) (drop n texts)) starts
    ∙ ap (λ l. take (length it.one.packet.text) (drop (text_before index listed) l)) texts_are
    ∙ it.text in
    let one_is : listed_with head (take head.size (drop start texts)) ≡ it.one =
    ap (λ (h : Head). listed_with h (take head.size (drop start texts))) head_is ∙ ap (listed_with (head_of it.one)) text_is in
    let next : suc index ≡ index + 1 = omega arith in
    let own : IsListed it.one = it.in_range (subst (All IsListed) are packed.in_range) in
    record {
      fits = let fits = it.fits in omega (arith, starts, ap length texts_are, size);
      small = let few = own.packet.text_to in omega arith;
      split = it.split ∙ ap (λ l. l ∷ drop (suc index) listed) (sym one_is) ∙ ap (λ n. listed_with head (take head.size (drop start texts)) ∷ drop n listed) next;
      in_range = subst IsListed (sym one_is) own;
    }

-- the text of the next packet begins after a packet's text
pub next_text : (listed : List Listed) (index : ℕ) (one : Listed) (rest : List Listed) → index < length listed → drop index listed ≡ one ∷ rest
    → text_before (index + 1) listed ≡ text_before index listed + length one.packet.text
next_text listed index one rest within is =
    let it = is_there listed index within in
    let both : it.one ∷ drop (suc index) listed ≡ one ∷ rest = sym it.split ∙ is in
    let same : it.one ≡ one = cc in
    let next : index + 1 ≡ suc index = omega arith in
    ap (λ n. text_before n listed) next ∙ it.behind ∙ ap (λ (l : Listed). text_before index listed + length l.packet.text) same

-- the head of a packet that stands in a list
pub head_from : (heads : List Head) (texts : List ℕ) (listed : List Listed) (index : ℕ) (head : Head) (one : Listed) (rest : List Listed) → ArePacked heads texts
    → unpacked heads texts ≡ listed → index < length listed → head ≡ get_or heads index head → drop index listed ≡ one ∷ rest → head.from ≡ one.from
head_from heads texts listed index head one rest packed are within is split =
    let it = is_there listed index within in
    let heads_are : heads ≡ map head_of listed = sym packed.heads_are ∙ ap (map head_of) are in
    let head_is : head ≡ head_of it.one = is ∙ ap (λ l. get_or l index head) heads_are ∙ it.head head in
    let both : it.one ∷ drop (suc index) listed ≡ one ∷ rest = sym it.split ∙ split in
    let same : it.one ≡ one = cc in
    ap (λ (h : Head). h.from) head_is ∙ ap (λ (l : Listed). l.from) same
