-- A reader and the buffer lent to it, as a reading.
use Rattle.std.specs.Prelude.{ℕ, List, Bool, false, ◌&&◌, leb, take}
use Rattle.journal_spec.specs.Contents.{longest_packet}
use Rattle.parts.specs.declared.Part.{Part}
use Rattle.parts.specs.declared.Part.TheVariants.{Kind, Broken}
use Rattle.parts.specs.Bytes.{Reading}
use Rattle.parts.specs.Sound.{sound_part}
use Rattle.reading.specs.declared.Reader.{Reader}

-- no packet is under way
abbrev pub outside : Bool → Part → Reader
outside o q = record { opened = o; part = q; size = 0; at = 0 }

-- before the first byte
abbrev pub start_reader : Reader
start_reader = outside false Kind

-- the lent buffer begins with the pieces' bytes
abbrev pub reading_of : Reader → List ℕ → Reading
reading_of r p = record { opened = r.opened; part = r.part; size = r.size; pieces = take r.at p }

abbrev pub with : Reader → Part → ℕ → Reader
with r q at = record { opened = r.opened; part = q; size = r.size; at = at }

abbrev pub broken : Reader → Reader
broken r = with r Broken r.at

-- a reader from which reading can go on: such are `start_reader` and, again, those that calls leave
abbrev pub sound : Reader → Bool
sound r = sound_part r.part r.size r.at

-- it is lent a buffer of so many bytes
abbrev pub reader_ready : Reader → ℕ → Bool
reader_ready r space = leb longest_packet space && sound r
