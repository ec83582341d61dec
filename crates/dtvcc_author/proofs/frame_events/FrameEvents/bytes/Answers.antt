use Rattle.std.proofs.Common.{◌≡◌, ◌∙◌, arith, rules}
use Rattle.std.proofs.lemmas.Grind.{common_steps}
use Rattle.dtvcc_author.specs.EventBytes.{events_bytes}
use Rattle.dtvcc_author.proofs.LatestLemmas.{events_exact}
use Rattle.dtvcc_author.proofs.frame_events.FrameEvents.bytes.Goals as goal

pub returns-in-Some-clause-exact : goal.returns-in-Some-clause-exact
returns-in-Some-clause-exact c rate frames frame captions kept are =
    let bytes : c.push-in-Some-3.new.self.items ≡ events_bytes c.args.self.now = first_of (search rules, grind (arith, common_steps)) in
    bytes ∙ events_exact rate frames frame captions c.args.self.now kept are

pub returns-in_default-clause-exact : goal.returns-in_default-clause-exact
returns-in_default-clause-exact c rate frames frame captions kept are =
    let bytes : c.push_command-2.new.bytes.items ≡ events_bytes c.args.self.now = first_of (search rules, grind (arith, common_steps)) in
    bytes ∙ events_exact rate frames frame captions c.args.self.now kept are
