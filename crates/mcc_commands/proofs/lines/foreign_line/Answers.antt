use Rattle.std.proofs.Common.{refl}
use Rattle.mcc_files.specs.PayloadWords.{payload_of}
use Rattle.mcc_commands.specs.ExportSteps.{user_in}
use Rattle.mcc_commands.proofs.ExportLineLemmas.{line_at, said_line}
use Rattle.mcc_commands.proofs.lines.foreign_line.Goals as goal

pub returns-then-not-is_of_bytes : goal.returns-then-not-is_of_bytes
returns-then-not-is_of_bytes c packet is =
    let tells = c.is_of_bytes.ensures packet is (c.read-said.ensures packet is) in
    (λ eight. let yes = tells.1 eight in let no = c.if-not-is_of_bytes.true in cc, refl)

pub returns : goal.returns
returns c packet is =
    let says = c.read-said.ensures packet is in
    let tells = c.is_of_bytes.ensures packet is says in (
      tells.0 c.if-not-is_of_bytes.false,
      line_at c.count.result c.args.clock.now.count c.beside.result c.args.clock.now.last (payload_of packet) c.packet_line.new.out.items c.count.ensures c.beside.ensures.is
          (said_line c.count.result c.beside.result c.read-said.result.did c.read-said.result.sdid c.user.result.now (user_in c.read-said.result) (payload_of packet)
          c.packet_line.new.out.items c.user.ensures.is says c.packet_line.ensures),
    )
