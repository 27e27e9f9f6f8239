-- A loop that writes what f gives from the last of `count` to the first, before x, where its turns may be more.
use Prim.Native.Nat.{ℕ, ◌+◌, ◌-◌, ◌≤◌, ◌<◌, min}
use mathlib.Core.Path.{◌≡◌, ◌∙◌, ap, subst}
use mathlib.Core.List.{List, ◌++◌}
use native.Mathlib.Omega.{arith}
use lib.ListN.{length}
use borrow.Rule.Slice.PartMut.{put_mid, mid_of}
use Rattle.base.specs.Arrays.{over}
use Rattle.base.proofs.Written.{Begun, begun_none, begun_room, begun_fits, begun_next}
use Rattle.writer.specs.Internal.LastFirst.{last_first}
use Rattle.writer.proofs.LastFirst.{last_none, last_first_lem}

-- i turns are left
abbrev pub Turn : (ℕ → List ℕ) → List ℕ → ℕ → List ℕ → List ℕ → ℕ → ℕ → Type 0
Turn f x count p to i at = Begun (last_first f x (min i count)) (last_first f x count) p to at

pub turn_none : (f : ℕ → List ℕ) (x : List ℕ) (count : ℕ) (p : List ℕ) (i : ℕ) → count ≤ i → Turn f x count p p i 0
turn_none f x count p i h =
    let e : count ≡ min i count = omega arith in
    subst (λ (m : ℕ). Begun (last_first f x m) (last_first f x count) p p 0) e (begun_none (last_first f x count) p)

module _ (f : ℕ → List ℕ) (x : List ℕ) (count : ℕ) (p to : List ℕ) (i at : ℕ) (t : Turn f x count p to i at) where
  -- a turn with nothing to write
  pub turn_past : count ≤ i - 1 → Turn f x count p to (i - 1) at
  turn_past h =
      let e : min i count ≡ min (i - 1) count = omega arith in
      subst (λ (m : ℕ). Begun (last_first f x m) (last_first f x count) p to at) e t

  pub turn_end : i ≤ 0 → Begun x (last_first f x count) p to at
  turn_end h =
      let e : min i count ≡ 0 = omega arith in
      subst (λ (l : List ℕ). Begun l (last_first f x count) p to at) (ap (last_first f x) e ∙ last_none f x) t

  module _ (room : length (last_first f x count) ≤ length p) where
    pub turn_room : length to ≡ length p
    turn_room = begun_room (last_first f x (min i count)) (last_first f x count) p to at t room

    -- a turn that writes
    module _ (h : 0 < i) (k : i - 1 < count) where
      last : last_first f x (min i count) ≡ f (i - 1) ++ last_first f x (i - 1)
      last = let e : min i count ≡ i = omega arith in ap (last_first f x) e ∙ last_first_lem f x i h

      pub turn_fits : at + length (f (i - 1)) ≤ length p
      turn_fits = begun_fits (last_first f x (min i count)) (last_first f x count) p to at t room (f (i - 1)) (last_first f x (i - 1)) last

      pub turn_next : (part : List ℕ) → part ≡ over (f (i - 1)) (mid_of at (length to - at) to)
          → Turn f x count p (put_mid at (length to - at) to part) (i - 1) (at + length (f (i - 1)))
      turn_next part e =
          let m : i - 1 ≡ min (i - 1) count = omega arith in
          subst (λ (j : ℕ). Begun (last_first f x j) (last_first f x count) p (put_mid at (length to - at) to part) (at + length (f (i - 1)))) m
          (begun_next (last_first f x (min i count)) (last_first f x count) p to at t room (f (i - 1)) (last_first f x (i - 1)) last part e)
