-- Between crates: the program's answer stands on none of these definitions.
-- What a side file has left, and how often it failed.
use Rattle.std.specs.Prelude.{ℕ, List, [], Option, Some, None}
use Rattle.cc_base.specs.Adapters.{reader_faults, reader_of}
use Rattle.command_base.specs.declared.side_file.SideFile.{SideFile}
use Rattle.command_base.specs.declared.side_file.SideFile.TheVariants.{Empty, Missing, Opened}

-- the bytes that an opened file has left, where they are known; a missing file's aren't
abbrev pub left_in : {R : Type 0} → (R → Option (List ℕ)) → SideFile R → Option (List ℕ)
left_in remaining (Opened source) = remaining (reader_of source)
left_in remaining (Missing faults) = None
left_in remaining Empty = Some []

-- the count of faults
abbrev pub faults_in : {R : Type 0} → SideFile R → ℕ
faults_in (Opened source) = reader_faults source
faults_in (Missing faults) = faults
faults_in Empty = 0
