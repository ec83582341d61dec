use Rattle.std.proofs.Common.{◌≡◌, None, []}
use Rattle.cc_base.specs.Steps.{front_from}
use Rattle.dtvcc_codes.specs.Reading.{open_after}
use Rattle.dtvcc_codes.specs.Readers.{Keeps}
use Rattle.dtvcc_screen.specs.Objects.{screen_of}
use Rattle.dtvcc_screen.proofs.CoreLemmas.{front, rest_acted}
use Rattle.dtvcc_screen.proofs.cores.Core.act_all.Given as goal

-- the bytes before this one were cut and have acted; no delay was started, so that what all of them come to is what the rest
-- comes to from here
abbrev pub invariant-loop-k : goal.invariant-loop-k
invariant-loop-k l =
    let open_bytes = front_from open_after [] l.bytes in
    record {
      cut : Keeps (front l.bytes l.k) l.reader;
      going : l.self.until ≡ None;
      empty : l.self.held.items ≡ [];
      kept : l.self.reader ≡ l.fn.self.reader;
      rest : rest_acted l.bytes 0 l.clock open_bytes (screen_of l.fn.self.screen)
          ≡ rest_acted l.bytes l.k l.clock open_bytes (screen_of l.self.screen);
    }
