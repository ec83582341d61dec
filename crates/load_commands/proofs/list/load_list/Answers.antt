use Rattle.load_commands.proofs.FormedLemmas.{list_formed}
use Rattle.load_commands.proofs.list.load_list.Goals as goal

pub new-requires : goal.new-requires
new-requires c =
    let pushed = c.in_ok-push.ensures.items in
    let cues = c.in_ok-load_cues.ensures in
    let empty = c.new-shares.ensures.items in
    rw pushed (rw empty (rw cues (list_formed c.args.count c.requires.some c.requires.most)))
