-- A packet that is written is read back: every field and every block, at any level.
use Prim.Native.Nat.{ℕ, suc, ◌+◌, ◌-◌, ◌*◌, ◌/◌, ◌%◌, ◌≤◌, ◌<◌}
use mathlib.Core.Path.{◌≡◌, ◌∙◌, refl, ap, sym}
use mathlib.Core.List.{List, [], ◌∷◌, ◌++◌, map, append_assoc, append-nil}
use mathlib.Core.Bool.{Bool, true, false, cond, not, ◌||◌}
use native.Mathlib.Omega.{arith}
use lib.Dec.{ltb, leb, eqb}
use lib.ListN.{length, drop, length-append}
use lib.Seq.{take_all, take-append_seam, drop-append_seam, drop-drop}
use borrow.Author.Tests.{le-ltb, lt-leb, le-leb, eq-eqb, ne_eqb, ltb-false, eqb-false}
use Rattle.packet_spec.specs.Header.{Expected, Any, Only, payload_type, payload, types_bad, other_type, other_source, source_of}
use Rattle.packet_spec.specs.Redundancy.{Head, Heads, heads, Block, head_of, headers, total, falling, ages_fall, offsets, older_of, primary_of, blocks_of, joined, all_text, are_text}
use Rattle.packet_spec.specs.Limits.{longest}
use Rattle.packet_spec.specs.Reading.{Content, holds, refused, content, heads_of, blocks_read, reading}
use Rattle.packet_spec.specs.Encoding.{marker_bit, header_bytes, head_bytes, heads_bytes, plain_bytes, redundant_bytes, Admits}
use Rattle.base.specs.Every.{Every}
use Rattle.base.proofs.Tests.{and_false, or_left, or_right}
use Rattle.packet_spec.proofs.HeadersByFacts.{last, one_more}
use Rattle.packet_spec.proofs.CheckOrder.{from, past_3, past_12, past_14, past_16, past_21}

-- the headers of a payload s
abbrev heads_by : ℕ → ℕ → List ℕ → List ℕ → Heads
heads_by n t140 p s = cond (eqb (payload_type p) t140) (heads [] s) (headers t140 n [] s)

-- a length that fits its 10 bits
abbrev pub LengthsFit : List Block → Type 0
LengthsFit bs = Every (λ (b : Block). length b.bytes ≤ 1023) bs

-- the headers that blocks are given
abbrev pub heads_for : List Block → List Head
heads_for [] = []
heads_for (b ∷ bs) = record { offset = b.offset; len = length b.bytes } ∷ heads_for bs

head_back : (t : ℕ) (b : Block) (rest : List ℕ) → length b.bytes ≤ 1023 → head_of (head_bytes t b ++ rest) ≡ record { offset = b.offset; len = length b.bytes }
head_back t b rest h =
    let o = b.offset in
    let n = length b.bytes in
    let x : o / 64 * 64 + (o % 64 * 4 + n / 256) / 4 ≡ o = omega arith in
    let y : (o % 64 * 4 + n / 256) % 4 * 256 + n % 256 ≡ n = omega arith in
    λ i. record { offset = x i; len = y i }

-- the headers of older blocks
abbrev pub older_headers : ℕ → List Block → List ℕ
older_headers t [] = []
older_headers t (b ∷ bs) = head_bytes t b ++ older_headers t bs

-- they are read one by one, and behind them so many fewer are allowed
pub older_read : (t n k : ℕ) (got : List Head) (bs : List Block) (s : List ℕ) → t < 128 → k ≡ length bs + n → LengthsFit bs
    → headers t k got (older_headers t bs ++ s) ≡ headers t n (got ++ heads_for bs) s
older_read t n k got [] s ht e f = let q : k ≡ n = omega arith in λ i. headers t (q i) (sym (append-nil got) i) s
older_read t n k got (b ∷ bs) s ht e f =
    let g : Head = record { offset = b.offset; len = length b.bytes } in
    let j = length bs + n in
    let q : k ≡ suc j = omega arith in
    let rest = older_headers t bs ++ s in
    (λ i. headers t (q i) got (append_assoc (head_bytes t b) (older_headers t bs) s i))
    ∙ one_more t got (128 + t) _ (omega arith) (omega arith) j (omega arith)
    ∙ ap (λ (x : Head). headers t j (got ++ (x ∷ [])) rest) (head_back t b rest f.0)
    ∙ older_read t n j (got ++ (g ∷ [])) bs s ht refl f.1
    ∙ ap (λ (l : List Head). headers t n l s) (append_assoc got (g ∷ []) (heads_for bs))

-- with the primary's behind them
with_last : (t : ℕ) (bs : List Block) (rest : List ℕ) → heads_bytes t bs ++ rest ≡ older_headers t bs ++ (t ∷ rest)
with_last t [] rest = refl
with_last t (b ∷ bs) rest =
    append_assoc (head_bytes t b) (heads_bytes t bs) rest ∙ ap (λ (l : List ℕ). head_bytes t b ++ l) (with_last t bs rest)
    ∙ sym (append_assoc (head_bytes t b) (older_headers t bs) (t ∷ rest))

heads_back : (t n : ℕ) (bs : List Block) (rest : List ℕ) → t < 128 → length bs ≤ n → LengthsFit bs
    → headers t n [] (heads_bytes t bs ++ rest) ≡ heads (heads_for bs) rest
heads_back t n bs rest ht h f =
    let m = n - length bs in
    ap (headers t n []) (with_last t bs rest) ∙ older_read t m n [] bs (t ∷ rest) ht (omega arith) f ∙ last t (heads_for bs) t rest m ht refl

older_back : (bs : List Block) (q : List ℕ) → older_of (heads_for bs) (joined (blocks_of bs q)) ≡ bs
older_back [] q = refl
older_back (b ∷ bs) q =
    let rest = joined (blocks_of bs q) in
    ap (λ (l : List ℕ). record { offset = b.offset; bytes = l } ∷ older_of (heads_for bs) (drop (length b.bytes) (b.bytes ++ rest))) (take-append_seam b.bytes rest)
    ∙ ap (λ (l : List ℕ). b ∷ older_of (heads_for bs) l) (drop-append_seam b.bytes rest)
    ∙ ap (λ (l : List Block). b ∷ l) (older_back bs q)

primary_back : (bs : List Block) (q : List ℕ) → primary_of (heads_for bs) (joined (blocks_of bs q)) ≡ q
primary_back [] q = append-nil q
primary_back (b ∷ bs) q =
    let rest = joined (blocks_of bs q) in
    sym (drop-drop (total (heads_for bs)) (length b.bytes) (b.bytes ++ rest))
    ∙ ap (drop (total (heads_for bs))) (drop-append_seam b.bytes rest)
    ∙ primary_back bs q

total_back : (bs : List Block) (q : List ℕ) → total (heads_for bs) ≤ length (joined (blocks_of bs q))
total_back [] q = omega arith
total_back (b ∷ bs) q = omega (arith, total_back bs q, length-append b.bytes (joined (blocks_of bs q)))

ages_back : (bs : List Block) → map (λ h. h.offset) (heads_for bs) ≡ offsets bs
ages_back [] = refl
ages_back (b ∷ bs) = ap (λ (l : List ℕ). b.offset ∷ l) (ages_back bs)

marker_back : (m : Bool) (k : ℕ) → k < 128 → leb 128 (marker_bit m + k) ≡ m
marker_back true k h = le-leb 128 (128 + k) (omega arith)
marker_back false k h = lt-leb 128 (0 + k) (omega arith)

type_back : (m : Bool) (k : ℕ) → k < 128 → (marker_bit m + k) % 128 ≡ k
type_back true k h = omega arith
type_back false k h = omega arith

four_bytes : (x : ℕ) → ((x / 16777216 * 256 + x / 65536 % 256) * 256 + x / 256 % 256) * 256 + x % 256 ≡ x
four_bytes x = omega arith

two_bytes : (x : ℕ) → x / 256 * 256 + x % 256 ≡ x
two_bytes x = omega arith

-- payload types that pass check 3
pub types_small : (t140 red : ℕ) → types_bad t140 red ≡ false → (t140 < 128) × (red < 128) × (t140 ≡ red → ⊥)
types_small t140 red e =
    let a = ltb t140 96 in
    let b = ltb 127 t140 in
    let d = ltb red 96 in
    let f = ltb 127 red in
    let g = eqb t140 red in
    let e₁ : (a || b || d || f) ≡ false = or_left (a || b || d || f) g e in
    let e₂ : (a || b || d) ≡ false = or_left (a || b || d) f e₁ in
    let e₃ : (a || b) ≡ false = or_left (a || b) d e₂ in
    let x : t140 ≤ 127 = ltb-false 127 t140 (or_right a b e₃) in
    let y : red ≤ 127 = ltb-false 127 red (or_right (a || b || d) f e₁) in
    (omega arith, omega arith, eqb-false t140 red (or_right (a || b || d || f) g e))

-- a packet of a given type, with what lies behind its header
module _ (n : ℕ) (expected : Expected) (t140 red : ℕ) (c : Content) (type : ℕ) (rest : List ℕ)
    (types : types_bad t140 red ≡ false) (admits : Admits expected c.source) (small : type < 128)
    (short : length (header_bytes type c ++ rest) ≤ longest) where
  abbrev p : List ℕ
  p = header_bytes type c ++ rest

  type_is : payload_type p ≡ type
  type_is = type_back c.marker type small

  source_is : source_of p ≡ c.source
  source_is = four_bytes c.source

  source_admitted : other_source expected p ≡ false
  source_admitted = go expected admits
    where
      go : (e : Expected) → Admits e c.source → other_source e p ≡ false
      go Any a = refl
      go (Only x) a = rw (eq-eqb (source_of p) x (source_is ∙ a))

  payload_is : payload p ≡ rest
  payload_is = ap (drop 12) (take_all (length p - 0) p (omega arith))

  passed : other_type t140 red p ≡ false → reading n expected t140 red p ≡ blocks_read p (heads_by n t140 p rest)
  unfolding reading
  passed other =
      let x = blocks_read p (heads_of n t140 p) in
      past_3 refused expected t140 red p x types
      ∙ past_12 refused p (from refused expected t140 red p x 6) (omega arith) short refl
      ∙ past_14 refused p (from refused expected t140 red p x 6) (le-ltb (length p) 12 (omega arith)) refl
      ∙ past_16 refused expected t140 red p x other source_admitted
      ∙ ap (λ (s : List ℕ). blocks_read p (heads_by n t140 p s)) payload_is

  -- with all its blocks read
  whole : (hs : List Head) (s : List ℕ) → total hs ≤ length s → ages_fall hs ≡ true → are_text hs s ≡ true → older_of hs s ≡ c.older → primary_of hs s ≡ c.primary
      → blocks_read p (heads hs s) ≡ holds c
  whole hs s fit ages text o q =
      past_21 refused hs s (holds (content p hs s)) fit ages text
      ∙ ap holds (λ i. record {
        marker = marker_back c.marker type small i;
        sequence = two_bytes c.sequence i;
        timestamp = four_bytes c.timestamp i;
        source = four_bytes c.source i;
        older = o i;
        primary = q i;
      })

module _ (n : ℕ) (expected : Expected) (t140 red : ℕ) (c : Content) (types : types_bad t140 red ≡ false)
    (admits : Admits expected c.source) (text : all_text (blocks_of c.older c.primary) ≡ true) where
  -- as type T140
  pub plain_back : c.older ≡ [] → length (plain_bytes t140 c) ≤ longest → reading n expected t140 red (plain_bytes t140 c) ≡ holds c
  plain_back none short =
      let small : t140 < 128 = (types_small t140 red types).0 in
      let p = plain_bytes t140 c in
      let type : payload_type p ≡ t140 = type_back c.marker t140 small in
      let other : other_type t140 red p ≡ false = rw (eq-eqb (payload_type p) t140 type) in
      let h : heads_by n t140 p c.primary ≡ heads [] c.primary = rw (eq-eqb (payload_type p) t140 type) in
      passed n expected t140 red c t140 c.primary types admits small short other
      ∙ ap (blocks_read p) h
      ∙ whole n expected t140 red c t140 c.primary types admits small short [] c.primary (omega arith) refl
      (ap (λ (l : List Block). all_text (blocks_of l c.primary)) (sym none) ∙ text) (sym none) refl

  -- as type RED
  pub redundant_back : length c.older ≤ n → LengthsFit c.older → falling (offsets c.older) ≡ true → length (redundant_bytes t140 red c) ≤ longest
      → reading n expected t140 red (redundant_bytes t140 red c) ≡ holds c
  redundant_back few fit ages short =
      let small : t140 < 128 = (types_small t140 red types).0 in
      let small_red : red < 128 = (types_small t140 red types).1 in
      let body = joined (blocks_of c.older c.primary) in
      let rest = heads_bytes t140 c.older ++ body in
      let p = redundant_bytes t140 red c in
      let hs = heads_for c.older in
      let type : payload_type p ≡ red = type_back c.marker red small_red in
      let o : older_of hs body ≡ c.older = older_back c.older c.primary in
      let q : primary_of hs body ≡ c.primary = primary_back c.older c.primary in
      let t : are_text hs body ≡ true = ap (λ (l : List Block). all_text (blocks_of l (primary_of hs body))) o ∙ ap (λ (l : List ℕ). all_text (blocks_of c.older l)) q ∙ text in
      let other : other_type t140 red p ≡ false = rw (eq-eqb (payload_type p) red type) (and_false (not (eqb (payload_type p) t140))) in
      let h : heads_by n t140 p rest ≡ heads hs body =
      rw (ne_eqb (payload_type p) t140 (λ e. (types_small t140 red types).2 (sym e ∙ type))) (heads_back t140 n c.older body small few fit) in
      passed n expected t140 red c red rest types admits small_red short other
      ∙ ap (blocks_read p) h
      ∙ whole n expected t140 red c red rest types admits small_red short hs body (total_back c.older c.primary) (ap falling (ages_back c.older) ∙ ages) t o q
