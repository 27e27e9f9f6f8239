-- An older block's header, as a value of the code, and by its place in a packet.
use Rattle.std.specs.Prelude.{ℕ, ◌+◌, List, cond, ltb, length, drop}
use Rattle.block_headers.specs.declared.Head as code
use Rattle.packet_spec.specs.Redundancy.{Head, head_of}

abbrev pub seen_head : code.Head → Head
seen_head h = record { offset = h.offset; len = h.len }

abbrev pub no_head : Head
no_head = record { offset = 0; len = 0 }

abbrev pub head_at : List ℕ → ℕ → Head
head_at p at = cond (ltb (length p) (at + 4)) no_head (head_of (drop at p))
