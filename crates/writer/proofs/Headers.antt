-- The headers of a packet by their parts.
use Prim.Native.Nat.{ℕ, zero, suc, ◌+◌, ◌*◌, ◌%◌}
use mathlib.Core.Path.{◌≡◌, ◌∙◌, refl, ap}
use mathlib.Core.List.{List, [], ◌∷◌}
use mathlib.Core.Bool.{Bool, true, false, cond}
use native.Mathlib.Omega.{arith}
use lib.Dec.{eqb}
use lib.ListN.{length}
use borrow.Author.Tests.{eq-eqb, ne_eqb}
use Rattle.writer.specs.declared.heading.Heading.{Heading}
use Rattle.writer.specs.Internal.Headers.{header_at, headers_for, heads_with, front_with, front_size}
use Rattle.writer.proofs.LastFirst.{last_none, last_more}

heads_size : (t140 : ℕ) (tags : List ℕ) (n : ℕ) → length (headers_for t140 tags n) ≡ 4 * n + 1
heads_size t140 tags zero = ap length (last_none (header_at t140 tags) (t140 ∷ []))
heads_size t140 tags (suc n) = omega (arith, ap length (last_more (header_at t140 tags) (t140 ∷ []) n), heads_size t140 tags n)

module _ (f : Heading) (tags : List ℕ) (n : ℕ) where
  pub heads_plain : f.level ≡ 0 → heads_with f tags n ≡ []
  unfolding heads_with
  heads_plain e = rw (eq-eqb f.level 0 e)

  pub heads_redundant : (f.level ≡ 0 → ⊥) → heads_with f tags n ≡ headers_for (f.t140 % 128) tags n
  unfolding heads_with
  heads_redundant e = rw (ne_eqb f.level 0 e)

  pub front_size_lem : length (front_with f tags n) ≡ front_size f.level n
  unfolding heads_with
  front_size_lem = let heads = cond (eqb f.level 0) [] (headers_for (f.t140 % 128) tags n) in let e : length (front_with f tags n) ≡ 12 + length heads = omega arith in e ∙ go (eqb f.level 0)
    where
      go : (b : Bool) → 12 + length (cond b [] (headers_for (f.t140 % 128) tags n)) ≡ cond b 12 (12 + (4 * n + 1))
      go true = refl
      go false = ap (λ (k : ℕ). 12 + k) (heads_size (f.t140 % 128) tags n)
