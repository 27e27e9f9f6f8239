-- The lines that close a transcript (01, "Journal and transcript"), as bytes.
use Rattle.std.specs.Prelude.{ℕ, zero, suc, ◌+◌, ◌/◌, ◌%◌, List, [], ◌∷◌, ◌++◌, cond, ltb}

-- a number below 10^20 in decimal
unfoldable pub decimal_up_to : ℕ → ℕ → List ℕ
decimal_up_to zero n = []
decimal_up_to (suc k) n = cond (ltb n 10) ((48 + n) ∷ []) (decimal_up_to k (n / 10) ++ ((48 + n % 10) ∷ []))

unfoldable pub decimal : ℕ → List ℕ
decimal n = decimal_up_to 20 n

-- newline, `packets N late N lost N refused N`, newline
unfoldable pub counts_line : ℕ → ℕ → ℕ → ℕ → List ℕ
counts_line packets late lost refused =
    (10 ∷ 112 ∷ 97 ∷ 99 ∷ 107 ∷ 101 ∷ 116 ∷ 115 ∷ 32 ∷ []) ++ decimal packets
    ++ ((32 ∷ 108 ∷ 97 ∷ 116 ∷ 101 ∷ 32 ∷ []) ++ decimal late)
    ++ ((32 ∷ 108 ∷ 111 ∷ 115 ∷ 116 ∷ 32 ∷ []) ++ decimal lost)
    ++ ((32 ∷ 114 ∷ 101 ∷ 102 ∷ 117 ∷ 115 ∷ 101 ∷ 100 ∷ 32 ∷ []) ++ decimal refused)
    ++ (10 ∷ [])

-- newline, `journal broken`, newline
abbrev pub broken_line : List ℕ
broken_line = 10 ∷ 106 ∷ 111 ∷ 117 ∷ 114 ∷ 110 ∷ 97 ∷ 108 ∷ 32 ∷ 98 ∷ 114 ∷ 111 ∷ 107 ∷ 101 ∷ 110 ∷ 10 ∷ []
