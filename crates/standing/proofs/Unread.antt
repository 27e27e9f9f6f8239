-- How far reading goes in bytes that are lent.
use Prim.Native.Nat.{ℕ, suc, ◌<◌, ◌≤◌}
use mathlib.Core.Path.{◌≡◌, ◌∙◌, sym}
use mathlib.Core.List.{List, [], ◌∷◌}
use mathlib.Core.Bool.{Bool, true, false, cond, true≢false}
use native.Mathlib.Omega.{arith}
use lib.ListN.{length}
use Rattle.base.proofs.Tests.{and_left}
use Rattle.parts.specs.Bytes.{Reading, read_to, unread, going, byte}
use Rattle.standing.specs.Standing.{Standing, hungry, nothing_due}

pub unread_short : (r : Reading) (x : List ℕ) → length (unread r x) ≤ length x
unfolding unread
unread_short r [] = omega arith
unread_short r (b ∷ bs) = go (going r.part) (unread_short (byte r b) bs)
  where
    go : (t : Bool) → length (unread (byte r b) bs) ≤ length bs → length (cond t (unread (byte r b) bs) (b ∷ bs)) ≤ suc (length bs)
    go true h = omega arith
    go false h = omega arith

-- reading that goes on uses a byte, if there is one
pub unread_less : (r : Reading) (x : List ℕ) → going r.part ≡ true → 0 < length x → length (unread r x) < length x
unfolding unread
unread_less r [] g h = absurd (omega arith)
unread_less r (b ∷ bs) g h = rw g (omega (arith, unread_short (byte r b) bs))

-- and stops only behind a byte
pub stopped_less : (r : Reading) (x : List ℕ) → going r.part ≡ true → going (read_to r x).part ≡ false → length (unread r x) < length x
unfolding read_to unread
stopped_less r [] g h = absurd (true≢false (sym g ∙ h))
stopped_less r (b ∷ bs) g h = rw g (omega (arith, unread_short (byte r b) bs))

pub goes_on : (c : Standing) → hungry c ≡ true → going c.reading.part ≡ true
goes_on c h = and_left (going c.reading.part) (nothing_due c) h
