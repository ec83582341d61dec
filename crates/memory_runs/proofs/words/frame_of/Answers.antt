use Rattle.std.proofs.Common.{rules, ◌≡◌, [], ◌∷◌, ◌++◌, ap, ◌∙◌}
use Rattle.std.proofs.lemmas.Result.{IfOk-weaker}
use Rattle.anc_words.specs.Writing.{packet_bytes}
use Rattle.memory_runs.proofs.words.frame_of.Goals as goal

pub returns-clause-frame : goal.returns-clause-frame
returns-clause-frame c =
    let user : c.deref.result.now ≡ c.args.packet.now ++ c.last_of-last.result ∷ [] = search rules in
    IfOk-weaker c.packet_of.result _ _ (λ bytes is few. record
    { last = c.last_of-last.result; is_last = c.last_of-last.ensures; is = is ∙ ap (packet_bytes 0x61 0x01) user }) c.packet_of.ensures
