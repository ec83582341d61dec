use Rattle.std.proofs.Common.{length, refl}
use Rattle.text_output.specs.Gathered.{held_of}
use Rattle.mcc_commands.proofs.AddLemmas.{other_is_made, other_passes, piece_failed, piece_gathered}
use Rattle.mcc_commands.proofs.ReadLemmas.{within_of}
use Rattle.mcc_commands.proofs.made.Made.add_other.Goals as goal

pub returns-in-Err-clause-adds : goal.returns-in-Err-clause-adds
returns-in-Err-clause-adds g c placed words start frame payload made way isnt are = (
  other_passes placed words c.args.packet.now c.args.self.now c.count.new.self frame payload c.in-Err.which (length c.args.packet.now) made isnt are refl c.in-Err.ensures,
  way,
)

pub returns-in-Done-clause-adds : goal.returns-in-Done-clause-adds
returns-in-Done-clause-adds g c placed words start frame payload made way isnt are =
    let bytes = c.args.packet.now in (
      bytes,
      other_is_made placed words bytes c.args.self.now c.count.new.self frame payload (length bytes) made isnt are refl c.in_default.ensures,
      piece_gathered start _ _ _ _ bytes words way c.in-Done.ensures.bytes,
    )

pub returns-in-Failed-clause-adds : goal.returns-in-Failed-clause-adds
returns-in-Failed-clause-adds g c placed words start frame payload made way isnt are =
    let bytes = c.args.packet.now in
    let is = other_is_made placed words bytes c.args.self.now c.count.new.self frame payload (length bytes) made isnt are refl c.in_default.ensures in (
      bytes,
      within_of _ _ c.count.new.self is,
      piece_failed start _ _ _ (held_of c.add.new.self) bytes words way c.in-Failed.ensures.bytes,
    )
