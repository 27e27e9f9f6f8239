-- How the turns of `fill` go: they end, and none is lost.
use Prim.Native.Nat.{ℕ, zero, suc, ◌+◌, ◌-◌, ◌<◌, ◌≤◌}
use mathlib.Core.Path.{◌≡◌, ◌∙◌, refl, ap, sym, subst}
use mathlib.Core.List.{List, ◌++◌, append_assoc}
use mathlib.Core.Bool.{Bool, true, false, cond, ◌&&◌, true≢false}
use native.Mathlib.Omega.{arith}
use borrow.Author.Tests.{ltb-true, ltb-false}
use lib.Dec.{ltb}
use lib.ListN.{length, drop, length-drop, length-append}
use lib.Seq.{drop-drop, drop-append-le}
use Rattle.base.proofs.Tests.{and_left, and_right}
use Rattle.parts.specs.Bytes.{going}
use Rattle.standing.specs.Standing.{Standing, hungry, nothing_due, take_of, used_of, given_of, give_of}
use Rattle.standing.specs.Filling.{Fill, reads, last_turn, after_turn, turns, fill_of}
use Rattle.standing.proofs.Unread.{goes_on}
use Rattle.standing.proofs.HowFar.{take_left, give_left, given_fits, leaves_no_room, used_fits, takes_some}
use Rattle.standing.proofs.StillToGive.{owed, take_owed, give_owed}

-- how many turns may still follow
abbrev pub turns_left : Standing → List ℕ → ℕ
turns_left c x = length x + cond (going c.reading.part) 1 0

module _ (c : Standing) (x : List ℕ) (n : ℕ) where
  abbrev gave : Standing
  gave = give_of c n

  abbrev used : ℕ
  used = used_of gave x

  abbrev took : Standing
  took = take_of gave x

  abbrev rest : List ℕ
  rest = drop used x

  abbrev space : ℕ
  space = n - length (given_of c n)

  still_going : going gave.reading.part ≡ going c.reading.part
  unfolding give_of
  still_going = refl

  -- a turn that follows another
  module _ (h : reads gave x ≡ true) where
    eats : hungry gave ≡ true
    eats = and_left (hungry gave) (ltb 0 (length x)) h

    some : 0 < length x
    some = ltb-true 0 (length x) (and_right (hungry gave) (ltb 0 (length x)) h)

    pub turn_less : turns_left took rest < turns_left c x
    turn_less = rw (sym still_going ∙ goes_on gave eats) (go (going took.reading.part) refl)
      where
        go : (b : Bool) → going took.reading.part ≡ b → length rest + cond b 1 0 < length x + 1
        go true e = omega (arith, some, takes_some gave x eats some e, used_fits gave x, length-drop used x)
        go false e = omega (arith, some, length-drop used x)

    next_turn : (k : ℕ) → turns (suc k) c x n ≡ after_turn (given_of c n) used (turns k took rest space)
    unfolding turns
    next_turn k = ap (λ (b : Bool). cond b (after_turn (given_of c n) used (turns k took rest space)) (last_turn c n)) h

  -- and the last one
  last_turn_lem : (k : ℕ) → reads gave x ≡ false → turns k c x n ≡ last_turn c n
  unfolding turns
  last_turn_lem zero h = refl
  last_turn_lem (suc k) h = ap (λ (b : Bool). cond b (after_turn (given_of c n) used (turns k took rest space)) (last_turn c n)) h

-- more turns than are left change nothing
pub more_turns : (k m : ℕ) (c : Standing) (x : List ℕ) (n : ℕ) → turns_left c x ≤ k → turns_left c x ≤ m → turns k c x n ≡ turns m c x n
more_turns zero m c x n f g = go (reads (give_of c n) x) refl
  where
    go : (b : Bool) → reads (give_of c n) x ≡ b → turns zero c x n ≡ turns m c x n
    go true h = absurd (omega (arith, turn_less c x n h))
    go false h = last_turn_lem c x n zero h ∙ sym (last_turn_lem c x n m h)
more_turns (suc k) zero c x n f g = go (reads (give_of c n) x) refl
  where
    go : (b : Bool) → reads (give_of c n) x ≡ b → turns (suc k) c x n ≡ turns zero c x n
    go true h = absurd (omega (arith, turn_less c x n h))
    go false h = last_turn_lem c x n (suc k) h ∙ sym (last_turn_lem c x n zero h)
more_turns (suc k) (suc m) c x n f g = go (reads (give_of c n) x) refl (more_turns k m (took c x n) (rest c x n) (space c x n))
  where
    go : (b : Bool) → reads (give_of c n) x ≡ b
        → (turns_left (took c x n) (rest c x n) ≤ k → turns_left (took c x n) (rest c x n) ≤ m → turns k (took c x n) (rest c x n) (space c x n) ≡ turns m (took c x n) (rest c x n) (space c x n))
        → turns (suc k) c x n ≡ turns (suc m) c x n
    go true h ih =
        next_turn c x n h k
        ∙ ap (after_turn (given_of c n) (used c x n)) (ih (omega (arith, turn_less c x n h)) (omega (arith, turn_less c x n h)))
        ∙ sym (next_turn c x n h m)
    go false h ih = last_turn_lem c x n (suc k) h ∙ sym (last_turn_lem c x n (suc m) h)

-- so `fill` goes on by itself
module _ (c : Standing) (x : List ℕ) (n : ℕ) where
  pub fill_on : reads (give_of c n) x ≡ true → fill_of c x n ≡ after_turn (given_of c n) (used c x n) (fill_of (took c x n) (rest c x n) (space c x n))
  fill_on h =
      next_turn c x n h (length x)
      ∙ ap (after_turn (given_of c n) (used c x n))
      (more_turns (length x) (suc (length (rest c x n))) (took c x n) (rest c x n) (space c x n)
      (omega (arith, turn_less c x n h, at_most_one (going c.reading.part))) (omega (arith, at_most_one (going (took c x n).reading.part))))
    where
      at_most_one : (b : Bool) → cond b 1 0 ≤ 1
      at_most_one true = omega arith
      at_most_one false = omega arith

  pub fill_ends : reads (give_of c n) x ≡ false → fill_of c x n ≡ last_turn c n
  fill_ends h = last_turn_lem c x n (suc (length x)) h

-- What holds of a last turn, and before a turn of which it holds, holds of `fill`.
module _ (P : Standing → List ℕ → ℕ → Fill → Type 0)
    (last : (c : Standing) (x : List ℕ) (n : ℕ) → reads (give_of c n) x ≡ false → P c x n (last_turn c n))
    (next : (c : Standing) (x : List ℕ) (n : ℕ) → reads (give_of c n) x ≡ true → (r : Fill) → P (took c x n) (rest c x n) (space c x n) r
    → P c x n (after_turn (given_of c n) (used c x n) r)) where
  in_turns : (k : ℕ) (c : Standing) (x : List ℕ) (n : ℕ) → turns_left c x ≤ k → P c x n (turns k c x n)
  in_turns zero c x n f = go (reads (give_of c n) x) refl
    where
      go : (b : Bool) → reads (give_of c n) x ≡ b → P c x n (turns zero c x n)
      go true h = absurd (omega (arith, turn_less c x n h))
      go false h = subst (P c x n) (sym (last_turn_lem c x n zero h)) (last c x n h)
  in_turns (suc k) c x n f = go (reads (give_of c n) x) refl (in_turns k (took c x n) (rest c x n) (space c x n))
    where
      go : (b : Bool) → reads (give_of c n) x ≡ b
          → (turns_left (took c x n) (rest c x n) ≤ k → P (took c x n) (rest c x n) (space c x n) (turns k (took c x n) (rest c x n) (space c x n)))
          → P c x n (turns (suc k) c x n)
      go true h ih = subst (P c x n) (sym (next_turn c x n h k)) (next c x n h (turns k (took c x n) (rest c x n) (space c x n)) (ih (omega (arith, turn_less c x n h))))
      go false h ih = subst (P c x n) (sym (last_turn_lem c x n (suc k) h)) (last c x n h)

  pub by_turns : (c : Standing) (x : List ℕ) (n : ℕ) → P c x n (fill_of c x n)
  by_turns c x n = in_turns (suc (length x)) c x n (go (going c.reading.part))
    where
      go : (b : Bool) → length x + cond b 1 0 ≤ suc (length x)
      go true = omega arith
      go false = omega arith

-- how far `fill` gets
pub record Gets (c : Standing) (x : List ℕ) (n : ℕ) (r : Fill) : Type 0 where
  pub uses : r.used ≤ length x
  pub fits : length r.given ≤ n
  pub left : r.standing.left + r.used ≡ c.left
  pub fills_up : nothing_due r.standing ≡ false → n < length r.given + 3
  pub uses_all : hungry r.standing ≡ true → r.used ≡ length x

pub gets : (c : Standing) (x : List ℕ) (n : ℕ) → Gets c x n (fill_of c x n)
gets = by_turns Gets last next
  where
    none : (b : Bool) (x : List ℕ) → b && ltb 0 (length x) ≡ false → b ≡ true → 0 ≡ length x
    none true x h e = omega (arith, ltb-false 0 (length x) h)
    none false x h e = absurd (true≢false (sym e))

    last : (c : Standing) (x : List ℕ) (n : ℕ) → reads (give_of c n) x ≡ false → Gets c x n (last_turn c n)
    last c x n h = record {
      uses = omega arith;
      fits = given_fits c n;
      left = omega (arith, give_left c n);
      fills_up = leaves_no_room c n;
      uses_all = none (hungry (give_of c n)) x h;
    }

    next : (c : Standing) (x : List ℕ) (n : ℕ) → reads (give_of c n) x ≡ true → (r : Fill) → Gets (took c x n) (rest c x n) (space c x n) r
        → Gets c x n (after_turn (given_of c n) (used c x n) r)
    next c x n h r w =
        let u = used_fits (give_of c n) x in
        let d = length-drop (used c x n) x in
        let a = length-append (given_of c n) r.given in
        let g = given_fits c n in record {
          uses = omega (arith, w.uses);
          fits = omega (arith, w.fits);
          left = omega (arith, w.left, take_left (give_of c n) x, give_left c n);
          fills_up = λ e. omega (arith, w.fills_up e);
          uses_all = λ e. omega (arith, w.uses_all e);
        }

-- a call of `fill`
pub fill_owed : (more : List ℕ) (c : Standing) (x : List ℕ) (n : ℕ)
    → owed c (x ++ more) ≡ (fill_of c x n).given ++ owed (fill_of c x n).standing (drop (fill_of c x n).used (x ++ more))
fill_owed more = by_turns (λ c x n r. owed c (x ++ more) ≡ r.given ++ owed r.standing (drop r.used (x ++ more))) last next
  where
    last : (c : Standing) (x : List ℕ) (n : ℕ) → reads (give_of c n) x ≡ false → owed c (x ++ more) ≡ given_of c n ++ owed (give_of c n) (x ++ more)
    last c x n h = give_owed c n (x ++ more)

    next : (c : Standing) (x : List ℕ) (n : ℕ) → reads (give_of c n) x ≡ true → (r : Fill)
        → owed (took c x n) (rest c x n ++ more) ≡ r.given ++ owed r.standing (drop r.used (rest c x n ++ more))
        → owed c (x ++ more) ≡ (given_of c n ++ r.given) ++ owed r.standing (drop (used c x n + r.used) (x ++ more))
    next c x n h r w =
        let u = used c x n in
        let seam : drop u (x ++ more) ≡ rest c x n ++ more = drop-append-le u x more (used_fits (give_of c n) x) in
        let again : drop r.used (rest c x n ++ more) ≡ drop (u + r.used) (x ++ more) = ap (drop r.used) (sym seam) ∙ drop-drop r.used u (x ++ more) in
        give_owed c n (x ++ more)
        ∙ ap (λ (l : List ℕ). given_of c n ++ l) (take_owed (give_of c n) x more ∙ ap (owed (took c x n)) seam ∙ w ∙ ap (λ (l : List ℕ). r.given ++ owed r.standing l) again)
        ∙ sym (append_assoc (given_of c n) r.given (owed r.standing (drop (u + r.used) (x ++ more))))
