-- The characters of the primaries written, by their times: newest first.
use Prim.Native.Nat.{ℕ, ◌+◌}
use mathlib.Core.Path.{◌≡◌, ◌∙◌, refl, ap, sym}
use mathlib.Core.List.{List, [], ◌∷◌, ◌++◌, append_assoc, append-nil}
use mathlib.Core.Bool.{Bool, cond}
use native.Mathlib.Omega.{arith}
use lib.ListN.{replicate}
use Rattle.base.specs.Every.{Every}
use Rattle.text_spec.specs.Front.{characters}
use Rattle.packet_spec.specs.Header.{Any}
use Rattle.sender_spec.specs.State.{Settings}
use Rattle.demands.specs.Ours.{ours}
use Rattle.demands.specs.Sending.{Written, primary_sent}
use Rattle.demands.specs.Demand2.{ReadBack}
use Rattle.demands.specs.Rate.{primary_of, primary_read, characters_within}
use Rattle.sender_spec.proofs.Allowed.{lies, within, within_append, within_replicate}

abbrev its_times : Written → List ℕ
its_times w = replicate (characters (primary_sent w)) w.time

abbrev pub times_of : List Written → List ℕ
times_of [] = []
times_of (w ∷ ws) = times_of ws ++ its_times w

pub one_more : (ws : List Written) (w : Written) → times_of (ws ++ w ∷ []) ≡ its_times w ++ times_of ws
one_more [] w = sym (append-nil (its_times w))
one_more (v ∷ ws) w = ap (◌++ its_times v) (one_more ws w) ∙ append_assoc (its_times w) (times_of ws) (its_times v)

module _ (x : Settings) where
  pub as_read : (w : Written) → ReadBack ours x w → primary_read x w ≡ primary_sent w
  as_read w r = ap primary_of (r.read Any tt)

  pub counted_by_times : (a b : ℕ) (ws : List Written) → Every (ReadBack ours x) ws → characters_within x a b ws ≡ within a b (times_of ws)
  counted_by_times a b [] e = refl
  counted_by_times a b (w ∷ ws) e = go (lies a b w.time) refl (counted_by_times a b ws e.1)
    where
      go : (c : Bool) → lies a b w.time ≡ c → characters_within x a b ws ≡ within a b (times_of ws)
          → cond c (characters (primary_read x w)) 0 + characters_within x a b ws ≡ within a b (times_of ws ++ its_times w)
      go c h i =
          omega (arith, within_append a b (times_of ws) (its_times w), within_replicate a b (characters (primary_sent w)) w.time c h, ap (λ (y : List ℕ). cond c (characters y) 0) (as_read w e.0))
