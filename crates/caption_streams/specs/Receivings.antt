-- Believed: the library's answers stand on these definitions.
-- What a receiver is that keeps the screens that were put last.
use Rattle.grid_print.specs.Screens.{Screens}
use Rattle.grid_print.specs.Shown.{last_shown}
use Rattle.caption_streams.specs.declared.receiving.Receiving.{Receiving}
use Rattle.caption_streams.specs.declared.reception.Reception.{Reception}

-- what receives the words
abbrev pub reception_of : Receiving → Reception
reception_of receiving = receiving.reception

-- the screens that were put last
abbrev pub last_screens : Receiving → Screens
last_screens receiving = last_shown receiving.shown
