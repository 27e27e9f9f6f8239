-- What a call of `fill` gives into its space, how many of its bytes it uses, and where it leads.
use Rattle.std.specs.Prelude.{ℕ, zero, suc, ◌+◌, ◌-◌, Bool, cond, ◌&&◌, List, ◌++◌, ltb, length, drop}
use Rattle.standing.specs.Standing.{Standing, hungry, take_of, used_of, given_of, give_of}

pub record Fill : Type 0 where
  pub given : List ℕ
  pub used : ℕ
  pub standing : Standing

-- reading goes on, nothing is due, and there are bytes to read
abbrev pub reads : Standing → List ℕ → Bool
reads c x = hungry c && ltb 0 (length x)

-- what is due goes into n bytes of space
abbrev pub last_turn : Standing → ℕ → Fill
last_turn c n = record { given = given_of c n; used = 0; standing = give_of c n }

-- g was given and so many bytes were used before
abbrev pub after_turn : List ℕ → ℕ → Fill → Fill
after_turn g used r = record { given = g ++ r.given; used = used + r.used; standing = r.standing }

-- In turns: what is due goes into n bytes of space, and then the bytes x are taken until something is due again. No turn
-- follows where something stays due, where reading has ended, or where x is used up.
unfoldable pub turns : ℕ → Standing → List ℕ → ℕ → Fill
turns zero c x n = last_turn c n
turns (suc k) c x n =
    cond (reads (give_of c n) x)
    (after_turn (given_of c n) (used_of (give_of c n) x)
    (turns k (take_of (give_of c n) x) (drop (used_of (give_of c n) x) x) (n - length (given_of c n))))
    (last_turn c n)

-- `proofs/Filling.more_turns` shows that no more turns are needed: each but one uses a byte
abbrev pub fill_of : Standing → List ℕ → ℕ → Fill
fill_of c x n = turns (suc (length x)) c x n
