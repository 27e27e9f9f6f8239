-- What the turns of `fill` leave.
use Prim.Native.Nat.{ℕ, ◌+◌, ◌-◌, ◌<◌, ◌≤◌}
use mathlib.Core.Path.{◌≡◌, ◌∙◌, refl, ap, sym, subst}
use mathlib.Core.List.{List, [], ◌++◌, append_assoc}
use mathlib.Core.Bool.{true, false, ◌&&◌}
use native.Mathlib.Omega.{arith}
use borrow.Rule.Slice.PartMut.{put_mid, mid_of}
use lib.Dec.{ltb}
use lib.ListN.{length, drop, length-drop, length-append}
use lib.Seq.{drop-drop}
use Rattle.base.specs.Arrays.{over}
use Rattle.base.proofs.Lent.{length_over, wrote}
use Rattle.base.proofs.Slices.{mid_rest}
use Rattle.base.proofs.Tests.{and_left}
use Rattle.journal_spec.specs.Contents.{longest_packet}
use Rattle.standing.specs.Standing.{Standing, hungry, take_of, used_of, give_of, given_of}
use Rattle.standing.specs.Filling.{Fill, reads, last_turn, after_turn, fill_of}
use Rattle.standing.proofs.HowFar.{given_fits, used_fits}
use Rattle.standing.proofs.Filling.{turns_left, turn_less, fill_on, fill_ends}
use Rattle.journal.specs.declared.Transcript.{Transcript}
use Rattle.journal.specs.Ready.{standing_of, transcript_ready, hungry_now, Takes, Fills}
use Rattle.journal.proofs.Ready.{hungry_is}
use Rattle.journal.proofs.GiveLeaves.{Gives}

-- what is lent from a place on
abbrev pub from : ℕ → List ℕ → List ℕ
from at l = mid_of at (length l - at) l

-- `fill` on s₀, the lent p₀, the bytes x₀ and the space y₀
module _ (s₀ : Transcript) (p₀ x₀ y₀ : List ℕ) where
  abbrev whole : Fill
  whole = fill_of (standing_of s₀ p₀) x₀ (length y₀)

  -- after some turns, which gave `given`
  pub record SoFar (s : Transcript) (p y : List ℕ) (used count : ℕ) : Type 0 where
    pub still : transcript_ready s ≡ true
    pub lent : length p ≡ length p₀
    pub long : longest_packet ≤ length p
    pub uses : used ≤ length x₀
    pub fits : count ≤ length y₀
    pub given : List ℕ
    pub counts : count ≡ length given
    pub bytes : y ≡ over given y₀
    pub rest : whole ≡ after_turn given used (fill_of (standing_of s p) (drop used x₀) (length y₀ - count))

  pub none_yet : transcript_ready s₀ ≡ true → longest_packet ≤ length p₀ → SoFar s₀ p₀ y₀ 0 0
  none_yet ok long = record {
    still = ok;
    lent = refl;
    long = long;
    uses = omega arith;
    fits = omega arith;
    given = [];
    counts = refl;
    bytes = refl;
    rest = let z : length y₀ - 0 ≡ length y₀ = omega arith in let n : (k : ℕ) → 0 + k ≡ k = (λ k. omega arith) in rw (z, n whole.used) refl;
  }

  module _ (s : Transcript) (p y : List ℕ) (used count : ℕ) (w : SoFar s p y used count) where
    pub space_same : length y ≡ length y₀
    space_same = ap length w.bytes ∙ length_over w.given y₀ (omega (arith, w.counts, w.fits))

    pub in_space : count ≤ length y
    in_space = omega (arith, space_same, w.fits)

    abbrev c : Standing
    c = standing_of s p

    abbrev room : ℕ
    room = length y₀ - count

    room_is : length (from count y) ≡ room
    room_is = ap length (mid_rest count y) ∙ length-drop count y ∙ ap (λ (k : ℕ). k - count) space_same

    -- a turn gave n bytes
    module _ (s₁ : Transcript) (y₁ : List ℕ) (n : ℕ) (g : Gives s p (from count y) s₁ y₁ n) where
      abbrev gives : List ℕ
      gives = given_of c room

      now_stands : standing_of s₁ p ≡ give_of c room
      now_stands = g.stands ∙ ap (give_of c) room_is

      many : n ≡ length gives
      many = g.counts ∙ ap (λ (k : ℕ). length (given_of c k)) room_is

      pub gave_fits : count + n ≤ length y₀
      gave_fits = omega (arith, many, given_fits c room, w.fits)

      abbrev space : List ℕ
      space = put_mid count (length y - count) y y₁

      gave_bytes : space ≡ over (w.given ++ gives) y₀
      gave_bytes =
          wrote w.given gives y₀ y y₁ count (length y - count) w.counts w.bytes (omega (arith, given_fits c room, space_same))
          (g.bytes ∙ ap (λ (k : ℕ). over (given_of c k) (from count y)) room_is)

      gave_counts : count + n ≡ length (w.given ++ gives)
      gave_counts = omega (arith, w.counts, many, length-append w.given gives)

      pub gave_length : length space ≡ length y₀
      gave_length = ap length gave_bytes ∙ length_over (w.given ++ gives) y₀ (omega (arith, gave_counts, gave_fits))

      reads_is : reads (give_of c room) (drop used x₀) ≡ (hungry_now s₁ && ltb 0 (length x₀ - used))
      reads_is = λ i. (ap hungry (sym now_stands) ∙ sym (hungry_is s₁ p g.still w.long)) i && ltb 0 (length-drop used x₀ i)

      -- no turn follows
      pub last : (hungry_now s₁ && ltb 0 (length x₀ - used)) ≡ false → Fills s₀ p₀ x₀ y₀ s₁ p space used (count + n)
      last h =
          let e : whole ≡ after_turn w.given used (last_turn c room) = w.rest ∙ ap (after_turn w.given used) (fill_ends c (drop used x₀) room (reads_is ∙ h)) in
          let z : used ≡ used + 0 = omega arith in record {
            still = g.still;
            stands = now_stands ∙ sym (ap (λ (r : Fill). r.standing) e);
            uses = z ∙ sym (ap (λ (r : Fill). r.used) e);
            counts = gave_counts ∙ sym (ap (λ (r : Fill). length r.given) e);
            bytes = gave_bytes ∙ sym (ap (λ (r : Fill). over r.given y₀) e);
          }

      -- another follows, and takes some bytes
      module _ (h : (hungry_now s₁ && ltb 0 (length x₀ - used)) ≡ true) where
        pub eats : hungry (standing_of s₁ p) ≡ true
        eats = sym (hungry_is s₁ p g.still w.long) ∙ and_left (hungry_now s₁) (ltb 0 (length x₀ - used)) h

        module _ (s₂ : Transcript) (p₂ : List ℕ) (more : ℕ) (t : Takes s₁ p (from used x₀) s₂ p₂ more) where
          abbrev x : List ℕ
          x = drop used x₀

          abbrev d : Standing
          d = give_of c room

          then_stands : standing_of s₂ p₂ ≡ take_of d x
          then_stands = t.stands ∙ (λ i. take_of (now_stands i) (mid_rest used x₀ i))

          then_uses : more ≡ used_of d x
          then_uses = t.uses ∙ (λ i. used_of (now_stands i) (mid_rest used x₀ i))

          pub took_fits : used + more ≤ length x₀
          took_fits = omega (arith, then_uses, used_fits d x, length-drop used x₀, w.uses)

          rest_is : drop (used_of d x) x ≡ drop (used + more) x₀
          rest_is = ap (λ (k : ℕ). drop k x) (sym then_uses) ∙ drop-drop more used x₀

          pub fewer : turns_left (standing_of s₂ p₂) (drop (used + more) x₀) < turns_left c x
          fewer =
              subst (λ (k : ℕ). k < turns_left c x) (λ i. turns_left (sym then_stands i) (rest_is i)) (turn_less c x room (reads_is ∙ h))

          pub again : length p₂ ≡ length p → SoFar s₂ p₂ space (used + more) (count + n)
          again l =
              let left : room - length gives ≡ length y₀ - (count + n) = omega (arith, many) in
              let r : Fill = fill_of (standing_of s₂ p₂) (drop (used + more) x₀) (length y₀ - (count + n)) in
              let sum : used + (more + r.used) ≡ used + more + r.used = omega arith in record {
                still = t.still;
                lent = l ∙ w.lent;
                long = omega (arith, w.long);
                uses = took_fits;
                fits = gave_fits;
                given = w.given ++ gives;
                counts = gave_counts;
                bytes = gave_bytes;
                rest =
                    w.rest
                    ∙ ap (after_turn w.given used)
                    (fill_on c x room (reads_is ∙ h)
                    ∙ (λ i. after_turn gives (sym then_uses i) (fill_of (sym then_stands i) (rest_is i) (left i))))
                    ∙ (λ i. record { given = sym (append_assoc w.given gives r.given) i; used = sum i; standing = r.standing });
              }
