-- 01's "Reading a packet", with 02's 22: the refusal that a packet meets first, or what it holds.
use Rattle.std.specs.Prelude.{ℕ, suc, ◌-◌, List, [], ◌∷◌, Bool, cond, not, ltb, eqb, length, drop}
use Rattle.base.specs.Arrays.{part}
use Rattle.base.specs.Checks.{Check, ◌gives◌, checked}
use Rattle.packet_spec.specs.Limits.{shortest, longest}
use Rattle.packet_spec.specs.Header.{version, header_end, padding_bad, payload_type, payload_end, payload, types_bad, other_type, Expected, other_source, marker_of, sequence_of, timestamp_of, source_of}
use Rattle.packet_spec.specs.Redundancy.{Head, Heads, heads, bad, headers, total, ages_fall, Block, older_of, primary_of, blocks_of, joined, are_text}

pub record Content : Type 0 where
  pub marker : Bool
  pub sequence : ℕ
  pub timestamp : ℕ
  pub source : ℕ
  pub older : List Block
  pub primary : List ℕ

pub data Read : Type 0 where
  holds : Content → Read
  refused : ℕ → Read

abbrev pub header_checks : Expected → ℕ → ℕ → List ℕ → List Check
header_checks expected t140 red p =
    types_bad t140 red gives 3
    ∷ ltb (length p) shortest gives 10
    ∷ ltb longest (length p) gives 11
    ∷ not (eqb (version p) 2) gives 12
    ∷ ltb (length p) (header_end p) gives 13
    ∷ padding_bad p gives 14
    ∷ other_type t140 red p gives 15
    ∷ other_source expected p gives 16
    ∷ []

-- type T140: one primary block and no header; type RED: headers, with 17, 18 and 19 among them
abbrev pub heads_of : ℕ → ℕ → List ℕ → Heads
heads_of level t140 p = cond (eqb (payload_type p) t140) (heads [] (payload p)) (headers t140 level [] (payload p))

abbrev pub content : List ℕ → List Head → List ℕ → Content
content p hs s = record {
  marker = marker_of p;
  sequence = sequence_of p;
  timestamp = timestamp_of p;
  source = source_of p;
  older = older_of hs s;
  primary = primary_of hs s;
}

-- "refusal 22, after 20 and before 21" (02, request 2)
abbrev pub block_checks : List Head → List ℕ → List Check
block_checks hs s =
    ltb (length s) (total hs) gives 20
    ∷ not (ages_fall hs) gives 22
    ∷ not (are_text hs s) gives 21
    ∷ []

abbrev pub blocks_read : List ℕ → Heads → Read
blocks_read p (bad n) = refused n
blocks_read p (heads hs s) = checked refused (block_checks hs s) (holds (content p hs s))

-- with so many older blocks at most
unfoldable pub reading : ℕ → Expected → ℕ → ℕ → List ℕ → Read
reading level expected t140 red p = checked refused (header_checks expected t140 red p) (blocks_read p (heads_of level t140 p))

-- the bytes of a packet's blocks, oldest first and the primary last
abbrev pub blocks : Content → List (List ℕ)
blocks c = blocks_of c.older c.primary

-- they fill the end of the payload: where block k starts, 0 the oldest; behind the primary, the end
abbrev pub starts_at : List ℕ → Content → ℕ → ℕ
starts_at p c k = payload_end p - length (joined (drop k (blocks c)))

-- the bytes of the packet that are handed out as block k
abbrev pub block_at : List ℕ → Content → ℕ → List ℕ
block_at p c k = part (starts_at p c k) (starts_at p c (suc k)) p
