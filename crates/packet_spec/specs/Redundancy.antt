-- The block headers of a redundant payload, and the blocks behind them (RFC 2198, section 3).
use Rattle.std.specs.Prelude.{ℕ, zero, suc, ◌+◌, ◌-◌, ◌*◌, ◌/◌, ◌%◌, List, [], ◌∷◌, ◌++◌, map, Bool, true, cond, ◌&&◌, ltb, eqb, length, get_or, take, drop}
use Rattle.text_spec.specs.Utf8.{is_text}

-- an older block's header: its time offset and its length
pub record Head : Type 0 where
  pub offset : ℕ
  pub len : ℕ

-- what the headers of a payload say, and the bytes behind them; or the number of a refusal
pub data Heads : Type 0 where
  heads : List Head → List ℕ → Heads
  bad : ℕ → Heads

-- an older block's header: bit 1, 7 bits of type, 14 bits of time offset, 10 bits of length
abbrev pub head_of : List ℕ → Head
head_of s = record {
  offset = get_or s 1 0 * 64 + get_or s 2 0 / 4;
  len = get_or s 2 0 % 4 * 256 + get_or s 3 0;
}

-- the header in front, where `older` is what an older block's leads to
abbrev pub header : ℕ → List Head → List ℕ → Heads → Heads
header t140 got [] older = bad 17
header t140 got (b ∷ bs) older = cond (ltb b 128) (cond (eqb b t140) (heads got bs) (bad 19)) older

-- the headers from the front, behind those already read, with so many older blocks still allowed
unfoldable pub headers : ℕ → ℕ → List Head → List ℕ → Heads
headers t140 zero got s = header t140 got s (bad 18)
headers t140 (suc n) got s =
    header t140 got s
    (cond (ltb (length s) 4) (bad 17)
    (cond (eqb (get_or s 0 0 - 128) t140) (headers t140 n (got ++ (head_of s ∷ [])) (drop 4 s)) (bad 19)))

-- the bytes of all older blocks
abbrev pub total : List Head → ℕ
total [] = 0
total (h ∷ hs) = h.len + total hs

-- numbers that fall: each is above the next one, and the last above 0
abbrev pub falling : List ℕ → Bool
falling [] = true
falling (n ∷ ns) = ltb (get_or ns 0 0) n && falling ns

-- "Older blocks' offsets must fall strictly and end at 1 or more" (02, request 2); the primary's counts as 0
abbrev pub ages_fall : List Head → Bool
ages_fall hs = falling (map (λ h. h.offset) hs)

pub record Block : Type 0 where
  pub offset : ℕ
  pub bytes : List ℕ

-- the older blocks, oldest first; what is left is the primary
abbrev pub older_of : List Head → List ℕ → List Block
older_of [] s = []
older_of (h ∷ hs) s = record { offset = h.offset; bytes = take h.len s } ∷ older_of hs (drop h.len s)

abbrev pub primary_of : List Head → List ℕ → List ℕ
primary_of hs s = drop (total hs) s

abbrev pub offsets : List Block → List ℕ
offsets bs = map (λ b. b.offset) bs

abbrev pub blocks_of : List Block → List ℕ → List (List ℕ)
blocks_of older primary = map (λ b. b.bytes) older ++ (primary ∷ [])

abbrev pub joined : List (List ℕ) → List ℕ
joined [] = []
joined (b ∷ bs) = b ++ joined bs

abbrev pub all_text : List (List ℕ) → Bool
all_text [] = true
all_text (b ∷ bs) = is_text b && all_text bs

-- whether every block is text
abbrev pub are_text : List Head → List ℕ → Bool
are_text hs s = all_text (blocks_of (older_of hs s) (primary_of hs s))
