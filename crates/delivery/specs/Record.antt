-- The record's entries (01, "The receiver's step").
use Rattle.std.specs.Prelude.{ℕ, ◌-◌, List, ◌++◌, map, length, drop, replicate}

-- a block's bytes
abbrev pub Bytes : Type 0
Bytes = List ℕ

-- an entry of the record: a loss mark, "an entry of its own", or a block with its bytes
pub data Entry : Type 0 where
  mark : Entry
  block : Bytes → Entry

-- the last n of a list:
-- all of it, where it has fewer
abbrev pub last_of : {A : Type 0} → ℕ → List A → List A
last_of n xs = drop (length xs - n) xs

-- so many marks, then the blocks
abbrev pub entries : ℕ → List Bytes → List Entry
entries marks blocks = replicate marks mark ++ map block blocks
