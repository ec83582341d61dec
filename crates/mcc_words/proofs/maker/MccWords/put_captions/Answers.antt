use Rattle.mcc_words.proofs.RaiseLemmas.{put_none, put_so}
use Rattle.mcc_words.proofs.maker.MccWords.put_captions.Goals.{in-Some, in-None}
use Rattle.mcc_words.proofs.maker.MccWords.put_captions.Goals as goal

pub returns : goal.returns
returns c =
    elim c.match-self.branch [
      | in-Some w ↦ put_so c.args.self.now.before w.in-Some.now c.match-self.by c.args.user.now c.raise.new.out.items c.deref.result.now c.write_packet.new.out.items w.in-Some.is w.by-is
          c.raise.ensures c.deref.ensures.0 c.write_packet.ensures.bytes
      | in-None w ↦ put_none c.args.self.now.before c.args.user.now c.write_packet.new.out.items w.in-None.is
    ]
