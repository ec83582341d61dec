use Rattle.std.proofs.Common.{◌≤◌, ◌≡◌, ◌+◌, true, drop}
use Rattle.scc_files.specs.Phases.{HasNumbersInRange}
use Rattle.scc_files.specs.Reading.{frames_of, read_file, read_from}
use Rattle.scc_files.proofs.ReadLemmas.{onto}
use Rattle.scc_files.proofs.reading.read_bytes.Given as goal

-- what was read, and what is left
abbrev pub invariant-loop-at : goal.invariant-loop-at
invariant-loop-at l =
    record {
      within : HasNumbersInRange l.gathered.reader.phase;
      next : l.gathered.reader.position.next ≤ 2592000 + l.at;
      frames : l.gathered.frames ≡ frames_of l.gathered.pairs;
      due : read_file l.fn.opening l.bytes ≡ onto l.gathered.pairs (read_from true l.at l.gathered.reader (drop l.at l.bytes));
    }
