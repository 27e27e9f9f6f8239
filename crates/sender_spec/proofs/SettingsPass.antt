-- Settings that pass the checks.
use Prim.Native.Nat.{ℕ, ◌≤◌}
use mathlib.Core.Path.{◌≡◌, refl}
use mathlib.Core.Bool.{Bool, true, false, cond}
use native.Mathlib.Omega.{arith}
use lib.Dec.{ltb, eqb}
use borrow.Author.Tests.{ltb-false, eqb-false}
use Rattle.packet_spec.specs.Limits.{level}
use Rattle.packet_spec.specs.Header.{types_bad}
use Rattle.sender_spec.specs.Limits.{longest_buffering, highest_rate}
use Rattle.sender_spec.specs.State.{Settings}
use Rattle.sender_spec.specs.Settings.{zero_or_above, buffering_bad, rate_bad, settings_number}
use Rattle.base.proofs.Tests.{or_left, or_right}

-- a number from 1 to the highest
from_one : (n most : ℕ) → zero_or_above most n ≡ false → (1 ≤ n) × (n ≤ most)
from_one n most e =
    let z : n ≡ 0 → ⊥ = eqb-false n 0 (or_left (eqb n 0) (ltb most n) e) in
    (omega arith, ltb-false most n (or_right (eqb n 0) (ltb most n) e))

pub record Passed (x : Settings) : Type 0 where
  pub few : x.level ≤ level
  pub buffered : (1 ≤ x.buffering) × (x.buffering ≤ longest_buffering)
  pub typed : types_bad x.t140 x.red ≡ false
  pub rated : (1 ≤ x.rate) × (x.rate ≤ highest_rate)

pub settings_good : (x : Settings) → settings_number x ≡ 0 → Passed x
unfolding settings_number
settings_good x e =
    go (ltb level x.level) refl (buffering_bad x.buffering) refl (types_bad x.t140 x.red) refl (rate_bad x.rate) refl e
  where
    go : (a : Bool) → ltb level x.level ≡ a → (b : Bool) → buffering_bad x.buffering ≡ b → (c : Bool) → types_bad x.t140 x.red ≡ c
        → (d : Bool) → rate_bad x.rate ≡ d → ◌≡◌ {A = ℕ} (cond a 1 (cond b 2 (cond c 3 (cond d 9 0)))) 0 → Passed x
    go true p b q c r d u e = absurd (omega arith)
    go false p true q c r d u e = absurd (omega arith)
    go false p false q true r d u e = absurd (omega arith)
    go false p false q false r true u e = absurd (omega arith)
    go false p false q false r false u e = record {
      few = ltb-false level x.level p;
      buffered = from_one x.buffering longest_buffering q;
      typed = r;
      rated = from_one x.rate highest_rate u;
    }
