-- The signed distance in numbers of 16 bits, and the course by it.
use Rattle.std.proofs.Common.{◌≡◌, ℕ, zero, suc, ◌+◌, ◌-◌, ◌<◌, ◌≤◌, Bool, true, false, cond, ltb, ℤ, pos, negsuc, ◌-ℤ◌, refl, ap, ◌∙◌, arith, w16, SFits, to_z, ltb-false, ltb-true, le-ltb, lt-ltb}
use lib.Signed.{lt_z}
use mir.Facts.{to_z_pos}
use Rattle.delivery.specs.Numbers.{circle}
use Rattle.delivery.specs.Course.{Course, forward, late, jump, break, course_of}
use Rattle.delivery.proofs.WrappedDistance.{course_forward, course_far, course_late}
use Rattle.receiver_spec.specs.Distance.{half, signed}

below : (m : ℕ) → negsuc 0 -ℤ pos m ≡ negsuc m
below zero = refl
below (suc m) = let e : suc (0 + m) ≡ suc m = omega arith in ap negsuc e

module _ (d : ℕ) where
  pub small_signed : d < half → to_z w16 d ≡ signed d
  small_signed h = to_z_pos w16 {n = d} h ∙ rw (lt-ltb d half h)

  pub large_signed : half ≤ d → d < circle → negsuc 0 -ℤ to_z w16 (circle - 1 - d) ≡ signed d
  large_signed h k =
      let l : circle - 1 - d < half = omega arith in
      ap (λ (z : ℤ). negsuc 0 -ℤ z) (to_z_pos w16 {n = circle - 1 - d} l) ∙ below (circle - 1 - d) ∙ rw (le-ltb d half h)

  pub large_fits : half ≤ d → d < circle → SFits w16 (negsuc 0 -ℤ to_z w16 (circle - 1 - d))
  large_fits h k = rw (large_signed h k, le-ltb d half h) (record { sfits = omega arith })

-- the course by the signed distance: its sign, then the limits
abbrev pub by_signed : ℤ → Bool → Course
by_signed z kept =
    let far = cond kept break jump in
    cond (lt_z z (pos 0)) (cond (lt_z z (negsuc 99)) far late) (cond (lt_z (pos 2998) z) far forward)

pub course_by_signed : (d : ℕ) (kept : Bool) → d < circle → course_of d kept ≡ by_signed (signed d) kept
course_by_signed d kept fits = go (ltb d half) refl
  where
    ahead : (b : Bool) → ltb 2998 d ≡ b → d < half → course_of d kept ≡ cond b (cond kept break jump) forward
    ahead true e h = course_far d kept (omega (arith, ltb-true 2998 d e)) (omega arith)
    ahead false e h = course_forward d kept (omega (arith, ltb-false 2998 d e))

    behind : (b : Bool) → ltb 99 (circle - 1 - d) ≡ b → half ≤ d → course_of d kept ≡ cond b (cond kept break jump) late
    behind true e h = course_far d kept (omega arith) (omega (arith, ltb-true 99 (circle - 1 - d) e))
    behind false e h = course_late d kept (omega (arith, ltb-false 99 (circle - 1 - d) e)) fits

    go : (b : Bool) → ltb d half ≡ b → course_of d kept ≡ by_signed (cond b (pos d) (negsuc (circle - 1 - d))) kept
    go true e = rw (le-ltb d 0 (omega arith)) (ahead (ltb 2998 d) refl (ltb-true d half e))
    go false e = behind (ltb 99 (circle - 1 - d)) refl (ltb-false d half e)
