-- Older blocks' headers that stand one behind the other.
use Rattle.std.specs.Prelude.{ℕ, zero, suc, List, [], ◌∷◌, drop}
use Rattle.packet_spec.specs.Redundancy.{Head, head_of}

abbrev pub heads_in : ℕ → List ℕ → List Head
heads_in zero s = []
heads_in (suc n) s = head_of s ∷ heads_in n (drop 4 s)
