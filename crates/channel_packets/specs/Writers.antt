-- Believed: the library's answers stand on these definitions.
-- What a writer of channel packets keeps: the number of the next one.
use Rattle.std.specs.Prelude.{◌≡◌, ℕ, ◌%◌}
use Rattle.channel_packets.specs.declared.writer.PacketWriter.{PacketWriter}

-- the writer wrote this many packets: the next one has this number, modulo 4
abbrev pub HasWritten : ℕ → PacketWriter → Type 0
HasWritten count writer = writer.number ≡ count % 4
