-- Between crates: the program's answer stands on none of these definitions.
-- What a source over a caller's memory has left.
use Rattle.std.specs.Prelude.{ℕ, List}
use Rattle.caption_streams.specs.declared.slice_source.SliceSource.{SliceSource}

abbrev pub slice_left : SliceSource → List ℕ
slice_left source = source.left.now
