use Rattle.std.proofs.Common.{◌≡◌, ◌∙◌, Bool, false, ℕ, ◌≤◌, ◌*◌, Option, ◌∷◌, ◌++◌, [], List, refl, sym, ap, subst, length, length-append, arith}
use Rattle.cdp_packets.specs.Packets.{Frame}
use Rattle.cc_receiver.specs.Receivers.{HasReceived}
use Rattle.cc_conceal.specs.Concealed.{heard_of, missing_before, number_of_last}
use Rattle.cc_conceal.specs.Concealers.{HasActed, IsBehind, jumps_from, kept_at, next_missing, next_number}
use Rattle.cc_conceal.proofs.HeardLemmas.{heard_more, lasts_are, missing_next_is, number_next_is, number_small}
use Rattle.cc_conceal.proofs.TakeLemmas.{kept_suffix, not_apart, suffix_heard}
use Rattle.cc_conceal.proofs.concealer.Concealer.act.Goals as goal

pub returns-clause-acted : goal.returns-clause-acted
returns-clause-acted c = λ bytes earlier last received are had.
    let counter_is : c.counter-counter.result ≡ last.counter = c.counter-counter.ensures bytes earlier last received are in
    let jumps = jumps_from c.args.self.now.counter c.counter-counter.result in
    let kept : List Frame = kept_at jumps (heard_of earlier) in
    let w = kept_suffix earlier last jumps in
    let is_heard = suffix_heard bytes (earlier ++ last ∷ []) w.0 (kept ++ last ∷ []) are w.1 in
    let before = c.reset_at.ensures.behind (heard_of earlier) had.behind in
    let behind = c.take.ensures.behind bytes earlier kept last (subst (HasReceived bytes) (sym c.reset_at.ensures.receiver) received) are is_heard before in
    let heard : heard_of (earlier ++ last ∷ []) ≡ kept ++ last ∷ [] =
    heard_more earlier c.args.self.now.counter last had.counter
    ∙ ap (λ (n : ℕ). kept_at (jumps_from c.args.self.now.counter n) (heard_of earlier) ++ last ∷ []) (sym counter_is) in
    let now = subst (λ (l : List Frame). IsBehind l c.take.new.self) (sym heard) behind in
    let one = c.take.ensures.ticks in
    let none = c.reset_at.ensures.ticks in
    let so_far = had.ticks in
    let long = length-append earlier (last ∷ []) in
    let counters = c.take.ensures.counter ∙ c.reset_at.ensures.counter in
    let numbers = c.take.ensures.number ∙ c.reset_at.ensures.number in
    let number : next_number c.take.new.self.counter c.take.new.self.number c.counter-counter.result ≡ number_of_last (earlier ++ last ∷ []) =
    ap (λ (o : Option ℕ). next_number o c.take.new.self.number c.counter-counter.result) counters
    ∙ ap (λ (n : ℕ). next_number c.args.self.now.counter n c.counter-counter.result) (numbers ∙ had.number)
    ∙ ap (λ (n : ℕ). next_number c.args.self.now.counter (number_of_last earlier) n) counter_is
    ∙ sym (number_next_is earlier c.args.self.now.counter last had.counter) in
    let missing : next_missing c.take.new.self.counter c.counter-counter.result ≡ missing_before (earlier ++ last ∷ []) =
    ap (λ (o : Option ℕ). next_missing o c.counter-counter.result) counters
    ∙ ap (λ (n : ℕ). next_missing c.args.self.now.counter n) counter_is
    ∙ sym (missing_next_is earlier c.args.self.now.counter last had.counter) in
    let was_small = had.small in
    let small = number_small c.take.new.self.counter c.take.new.self.number c.counter-counter.result (length earlier) (c.counter-counter.type_inv)
    (subst (λ (n : ℕ). n ≤ 65536 * length earlier) (sym numbers) was_small) in
    subst (HasActed (earlier ++ last ∷ [])) (sym c.count.ensures.counter) (record {
      counter = (earlier, (last, refl, counter_is));
      behind = record { first = now.first; second = now.second; apart = now.apart; beside = now.beside };
      together = λ no.
          let w = not_apart jumps c.args.self.now.apart (sym (c.take.ensures.apart ∙ c.reset_at.ensures.apart) ∙ no) in
          heard ∙ ap (λ (b : Bool). kept_at b (heard_of earlier) ++ last ∷ []) w.0 ∙ ap (λ (fs : List Frame). fs ++ last ∷ []) (had.together w.1);
      ticks = omega arith;
      number = number;
      missing = missing;
      small = omega arith;
      goes_on = λ on others newest is.
          let w = lasts_are earlier others last newest is in
          let none : jumps ≡ false = ap (λ (o : Option ℕ). jumps_from o c.counter-counter.result) (sym counters) ∙ on in
          heard ∙ ap (λ (b : Bool). kept_at b (heard_of earlier) ++ last ∷ []) none ∙ ap (λ (fs : List Frame). heard_of fs ++ last ∷ []) w.0 ∙ ap (λ (f : Frame). heard_of others ++ f ∷ []) w.1;
    })
