-- Believed: the library's answers stand on these definitions.
-- The codes of a call on a handle: the program's statuses, and four of its own.
use Rattle.std.specs.Prelude.{ℕ}

-- an argument is out of its range
abbrev pub argument_code : ℕ
argument_code = 1

-- the output has too little room
abbrev pub room_code : ℕ
room_code = 3

-- memory wasn't found
abbrev pub memory_code : ℕ
memory_code = 4

-- a word is refused
abbrev pub refused_code : ℕ
refused_code = 6

-- something was found
abbrev pub found_code : ℕ
found_code = 9

-- the handle is closed
abbrev pub closed_code : ℕ
closed_code = 32

-- there is no further frame
abbrev pub end_code : ℕ
end_code = 33

-- no more frames can be counted
abbrev pub full_code : ℕ
full_code = 34

-- there is no such window
abbrev pub none_code : ℕ
none_code = 35
