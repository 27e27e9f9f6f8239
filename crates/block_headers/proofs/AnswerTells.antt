-- Laws for callers: what an answer tells of the headers, and of the bytes behind them.
use Prim.Native.Nat.{ℕ, ◌+◌, ◌-◌, ◌*◌, ◌≤◌}
use mathlib.Core.Path.{◌≡◌, ◌∙◌, ap, sym}
use mathlib.Core.List.{List, []}
use mathlib.Core.Bool.{Bool, cond, ◌||◌}
use native.Mathlib.Omega.{arith}
use lib.Dec.{ltb}
use lib.ListN.{length, drop, length-drop}
use lib.Seq.{slice, length-slice}
use borrow.Author.Tests.{ltb-false}
use Rattle.std.specs.Prelude.{Ok, Err}
use Rattle.packet.specs.declared.Refusal.{Refusal}
use Rattle.block_headers.specs.declared.Headers.{Headers}
use Rattle.packet_spec.specs.Limits.{level}
use Rattle.packet_spec.specs.Redundancy.{Heads, heads, bad, headers, total, ages_fall}
use Rattle.packet_spec.specs.Internal.Heads.{heads_in}
use Rattle.packet.specs.Refusal.{number}
use Rattle.block_headers.specs.Internal.Seen.{HeadersSeen, headers_seen, seen_before, heads_within, headers_of}
use Rattle.base.proofs.Slices.{slice_end}
use Rattle.base.proofs.Tests.{by_test, or_left, or_right}
use Rattle.packet_spec.proofs.Accepted.{Behind, heads_behind}
use Rattle.packet_spec.proofs.HeadsIn.{heads_within_lem}
use Rattle.packet_spec.proofs.RefusalNumbers.{HeadsPositive, heads_positive}
use Rattle.packet.proofs.Names.{number_positive}

-- a refusal has a number; the headers of older blocks stand one behind the other, and what lies behind them reaches the payload's end
abbrev Lie : List ℕ → ℕ → ℕ → Heads → Type 0
Lie p from end (bad n) = 1 ≤ n
Lie p from end (heads hs s) =
    (hs ≡ heads_in (length hs) (drop from p)) × (end ≤ length p) × (slice (end - length s) end p ≡ s) × (from + 4 * length hs ≤ end - length s)

-- arithmetic of places
places : (f e m k s n : ℕ) → f ≤ e → m ≡ e - f → s ≡ m - k → k ≤ m → n ≤ k → (f + n ≤ e) × (f + n ≤ e - s)
places f e m k s n a b c d g = (omega arith, omega arith)

module _ (p : List ℕ) (from end : ℕ) (h : from ≤ end) (k : end ≤ length p) where
  lie_behind : (x : Heads) → HeadsPositive x → Behind level (slice from end p) x → Lie p from end x
  unfolding Behind
  lie_behind (bad n) a b = a
  lie_behind (heads hs s) a b =
      let e = b.behind in
      let r = places from end (length (slice from end p)) b.from (length s) (4 * length hs) h (length-slice from end p k) (ap length e ∙ length-drop b.from (slice from end p)) b.inside b.room in
      (b.are ∙ heads_within_lem (length hs) from end p r.0, k, ap (λ (l : List ℕ). slice (end - length l) end p) e ∙ slice_end from end p b.from h k ∙ sym e, r.1)

-- what an accepted answer tells of the headers: they are so many, from the payload's start on
pub record Told (p : List ℕ) (from end : ℕ) (x : Heads) (r : Headers) : Type 0 where
  pub are : x ≡ heads (heads_in r.count (drop from p)) (slice r.first end p)
  pub room : from + 4 * r.count ≤ r.first
  pub ahead : r.first ≤ end
  pub within : end ≤ length p
  pub bytes : r.primary ≡ r.first + total (heads_in r.count (drop from p))
  pub fall : r.ages_fall ≡ ages_fall (heads_in r.count (drop from p))

module _ (plain : Bool) (t140 : ℕ) (p : List ℕ) (from end : ℕ) where
  lie : Lie p from end (heads_within plain t140 p from end)
  lie =
      let m = slice from end p in
      by_test (Lie p from end) (ltb end from || ltb (length p) end) {x = bad 17} (λ _. omega arith)
      (λ e. lie_behind p from end (ltb-false end from (or_left _ _ e)) (ltb-false (length p) end (or_right (ltb end from) _ e)) (cond plain (heads [] m) (headers t140 level [] m)) (heads_positive level t140 plain m) (heads_behind level t140 plain m))

  pub refused_told : (k : Refusal) → headers_seen (Err k) ≡ headers_of plain t140 p from end → heads_within plain t140 p from end ≡ bad (number k)
  unfolding headers_of
  refused_told k told = go (heads_within plain t140 p from end) told
    where
      go : (x : Heads) → headers_seen (Err k) ≡ seen_before end x → x ≡ bad (number k)
      go (bad n) e = ap bad (sym (ap (λ (y : HeadersSeen). y.number) e))
      go (heads hs s) e =
          let z : number k ≡ 0 = ap (λ (y : HeadersSeen). y.number) e in
          absurd (omega (arith, number_positive k))

  pub accepted_told : (h : Headers) → headers_seen (Ok h) ≡ headers_of plain t140 p from end → Told p from end (heads_within plain t140 p from end) h
  unfolding headers_of
  accepted_told h told = go (heads_within plain t140 p from end) lie told
    where
      go : (x : Heads) → Lie p from end x → headers_seen (Ok h) ≡ seen_before end x → Told p from end x h
      go (bad n) l e =
          let z : 0 ≡ n = ap (λ (y : HeadersSeen). y.number) e in
          absurd (omega arith)
      go (heads hs s) l e =
          let n : h.count ≡ length hs = ap (λ (y : HeadersSeen). y.count) e in
          let f : h.first ≡ end - length s = ap (λ (y : HeadersSeen). y.first) e in
          let a : heads_in h.count (drop from p) ≡ hs = ap (λ (k : ℕ). heads_in k (drop from p)) n ∙ sym l.0 in
          let b : slice h.first end p ≡ s = ap (λ (j : ℕ). slice j end p) f ∙ l.2 in
          let q : from + 4 * length hs ≤ end - length s = l.3 in
          record {
            are = λ i. heads (sym a i) (sym b i);
            room = omega arith;
            ahead = omega arith;
            within = l.1;
            bytes = ap (λ (y : HeadersSeen). y.primary) e ∙ (λ i. sym f i + total (sym a i));
            fall = ap (λ (y : HeadersSeen). y.fall) e ∙ ap ages_fall (sym a);
          }
