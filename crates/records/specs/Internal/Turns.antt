-- What single turns of a reader do.
use Rattle.std.specs.Prelude.{ℕ, ◌≤◌, ◌≡◌, List, Bool, true, false, length, take, drop}
use Rattle.base.specs.Arrays.{over}
use Rattle.parts.specs.declared.Part.{Part}
use Rattle.parts.specs.declared.Part.TheVariants.{Kind}
use Rattle.parts.specs.Bytes.{Reading, read_to, unread, going, piece_end}
use Rattle.parts.specs.Sound.{whole_pieces}
use Rattle.reading.specs.declared.Reader.{Reader}
use Rattle.reading.specs.Reading.{reading_of, sound}

-- the lent p once s is read as far as reading goes
abbrev pub lent_after : Reading → List ℕ → List ℕ → List ℕ
lent_after r s p = over (read_to r s).pieces p

-- r and p were given s, and became r' and p' with so many used: reading goes on from there as from the beginning
pub record Went (r : Reader) (p s : List ℕ) (r' : Reader) (p' : List ℕ) (used : ℕ) : Type 0 where
  pub still : sound r' ≡ true
  pub within : used ≤ length s
  pub reads : read_to (reading_of r p) s ≡ read_to (reading_of r' p') (drop used s)
  pub leaves : unread (reading_of r p) s ≡ unread (reading_of r' p') (drop used s)
  pub lends : lent_after (reading_of r p) s p ≡ lent_after (reading_of r' p') (drop used s) p'

-- between records, reading passes the first n bytes of s and is where it was
pub record Passes (s : List ℕ) (n : ℕ) : Type 0 where
  pub within : n ≤ length s
  pub reads : (r : Reading) → r.part ≡ Kind → r.size ≤ length r.pieces → read_to r s ≡ read_to r (drop n s)
  pub leaves : (r : Reading) → r.part ≡ Kind → r.size ≤ length r.pieces → unread r s ≡ unread r (drop n s)

-- within a packet, or behind its last piece
abbrev pub in_packet : Bool → ℕ → List ℕ → Reading
in_packet opened size ps = record { opened = opened; part = piece_end size ps; size = size; pieces = ps }

-- whole pieces of s went behind the first `at` bytes of p, as far as a packet of `size` bytes needs them
pub record Gathers (size at : ℕ) (p s : List ℕ) (part' : Part) (at' : ℕ) (p' : List ℕ) (used : ℕ) : Type 0 where
  pub part : part' ≡ piece_end size (take at' p')
  pub whole : whole_pieces at' ≡ true
  pub within : used ≤ length s
  pub reads : (o : Bool) → read_to (in_packet o size (take at p)) s ≡ read_to (in_packet o size (take at' p')) (drop used s)
  pub leaves : (o : Bool) → unread (in_packet o size (take at p)) s ≡ unread (in_packet o size (take at' p')) (drop used s)
  pub rest : drop at' p' ≡ drop at' p
  pub none : used ≡ 0 → (at' ≡ at) × (p' ≡ p)

-- one turn: it used some bytes, or reading has stopped
pub record Turned (r : Reader) (p s : List ℕ) (r' : Reader) (p' : List ℕ) (used : ℕ) : Type 0 where
  pub goes : Went r p s r' p' used
  pub stops : used ≡ 0 → going r'.part ≡ false
