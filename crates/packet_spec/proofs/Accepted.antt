-- What is known of an accepted packet.
use Prim.Native.Nat.{ℕ, zero, suc, ◌+◌, ◌-◌, ◌*◌, ◌<◌, ◌≤◌}
use mathlib.Core.Path.{◌≡◌, ◌∙◌, refl, ap, sym}
use mathlib.Core.List.{List, [], ◌∷◌, ◌++◌, append_assoc, append-nil}
use mathlib.Core.Bool.{Bool, true, false, cond}
use mathlib.Mathlib.Data.Bool.Basic.{eq-false_of_not-eq-true, eq-true_of_not-eq-false}
use native.Mathlib.Omega.{arith}
use lib.Dec.{ltb, eqb}
use lib.ListN.{length, get_or, drop, length-append, length-drop}
use lib.Seq.{drop-drop}
use borrow.Author.Tests.{ltb-true, ltb-false}
use Rattle.packet_spec.specs.Header.{Expected, payload_type, payload}
use Rattle.packet_spec.specs.Redundancy.{Head, Heads, heads, bad, head_of, header, headers, total, ages_fall, are_text}
use Rattle.packet_spec.specs.Internal.Heads.{heads_in}
use Rattle.base.specs.Checks.{Check, checked}
use Rattle.packet_spec.specs.Reading.{Content, Read, holds, refused, header_checks, heads_of, content, blocks_read, reading}
use Rattle.base.proofs.Tests.{by_test}
use Rattle.base.proofs.InOrder.{NoneApplies}
use Rattle.packet_spec.proofs.HeadsIn.{heads_length}
use Rattle.packet_spec.proofs.CheckOrder.{gives_20, gives_21, gives_22, past_21}

pub none_applies : (ks : List Check) (x : Read) (c : Content) → checked refused ks x ≡ holds c → NoneApplies ks × (x ≡ holds c)
none_applies [] x c e = (tt, e)
none_applies (k ∷ ks) x c e = go k.applies refl e (none_applies ks x c)
  where
    go : (b : Bool) → k.applies ≡ b → cond b (refused k.number) (checked refused ks x) ≡ holds c
        → (checked refused ks x ≡ holds c → NoneApplies ks × (x ≡ holds c)) → NoneApplies (k ∷ ks) × (x ≡ holds c)
    go true q f r = absurd (let z : ◌≡◌ {A = ℕ} 0 1 = cc in omega arith)
    go false q f r = ((q, (r f).0), (r f).1)

-- what the headers are, behind those already read: they stand one behind the other, then the primary's, of one byte; what lies
-- behind them is an end of the payload
pub record Cut (n : ℕ) (m : List ℕ) (hs : List Head) (s : List ℕ) : Type 0 where
  pub few : length hs ≤ n
  pub from : ℕ
  pub behind : s ≡ drop from m
  pub inside : from ≤ length m
  pub are : hs ≡ heads_in (length hs) m
  pub after : 0 < length hs → from ≡ 4 * length hs + 1
  pub room : 4 * length hs ≤ from

unfoldable pub Behind : ℕ → List ℕ → Heads → Type 0
Behind n m (bad k) = Unit {0}
Behind n m (heads hs s) = Cut n m hs s

More : ℕ → List Head → List ℕ → Heads → Type 0
More n got m (bad k) = Unit {0}
More n got m (heads hs s) = (j : ℕ) × (hs ≡ got ++ heads_in j m) × (s ≡ drop (4 * j + 1) m) × (4 * j + 1 ≤ length m) × (length hs ≤ n)

header_more : (n t : ℕ) (got : List Head) (m : List ℕ) (older : Heads) → length got ≤ n → More n got m older → More n got m (header t got m older)
unfolding More
header_more n t got [] older h o = tt
header_more n t got (b ∷ bs) older h o =
    by_test (More n got (b ∷ bs)) (ltb b 128)
    (λ _. by_test (More n got (b ∷ bs)) (eqb b t) {x = heads got bs} (λ _. (0, sym (append-nil got), refl, omega arith, h)) (λ _. tt))
    (λ _. o)

one_more : (n : ℕ) (got : List Head) (m : List ℕ) (h : Heads) → 4 ≤ length m → More n (got ++ (head_of m ∷ [])) (drop 4 m) h → More n got m h
unfolding More
one_more n got m (bad k) l b = tt
one_more n got m (heads hs s) l b =
    let j = b.0 in
    let e : 4 + (4 * j + 1) ≡ 4 * suc j + 1 = omega arith in
    let d : length (drop 4 m) ≡ length m - 4 = length-drop 4 m in
    let i : 4 * j + 1 ≤ length (drop 4 m) = b.3 in (
      suc j,
      b.1 ∙ append_assoc got (head_of m ∷ []) (heads_in j (drop 4 m)),
      b.2 ∙ drop-drop (4 * j + 1) 4 m ∙ ap (λ (x : ℕ). drop x m) e,
      omega arith,
      b.4,
    )

headers_more : (n t more : ℕ) (got : List Head) (m : List ℕ) → more + length got ≤ n → More n got m (headers t more got m)
unfolding headers More
headers_more n t zero got m h = header_more n t got m (bad 18) (omega arith) tt
headers_more n t (suc more) got m h =
    header_more n t got m _ (omega arith)
    (by_test (More n got m) (ltb (length m) 4) {x = bad 17} (λ _. tt)
    (λ long. by_test (More n got m) (eqb (get_or m 0 0 - 128) t) {y = bad 19}
    (λ _. one_more n got m (headers t more (got ++ (head_of m ∷ [])) (drop 4 m)) (ltb-false (length m) 4 long)
    (headers_more n t more (got ++ (head_of m ∷ [])) (drop 4 m) (omega (arith, length-append got (head_of m ∷ [])))))
    (λ _. tt)))

headers_behind : (n : ℕ) (m : List ℕ) (h : Heads) → More n [] m h → Behind n m h
unfolding More Behind
headers_behind n m (bad k) b = tt
headers_behind n m (heads hs s) b =
    let j = b.0 in
    let l : length hs ≡ j = ap length b.1 ∙ heads_length j m in
    let i : 4 * j + 1 ≤ length m = b.3 in
    record {
      few = b.4;
      from = 4 * j + 1;
      behind = b.2;
      inside = i;
      are = b.1 ∙ ap (λ (k : ℕ). heads_in k m) (sym l);
      after = λ _. omega arith;
      room = omega arith;
    }

-- of a plain payload, or of one with headers
pub heads_behind : (n t : ℕ) (plain : Bool) (m : List ℕ) → Behind n m (cond plain (heads [] m) (headers t n [] m))
unfolding Behind
heads_behind n t plain m =
    by_test (Behind n m) plain {x = heads [] m}
    (λ _. record { few = omega arith; from = 0; behind = refl; inside = omega arith; are = refl; after = λ h. absurd (omega arith); room = omega arith })
    (λ _. headers_behind n m (headers t n [] m) (headers_more n t n [] m (omega arith)))

-- a refusal is not accepted
not_refused : {r : Read} {c : Content} (n : ℕ) → r ≡ holds c → r ≡ refused n → ⊥
not_refused n e f = absurd (let z : ◌≡◌ {A = ℕ} 0 1 = cc in omega arith)

pub record Accepted (n : ℕ) (expected : Expected) (t140 red : ℕ) (p : List ℕ) (c : Content) : Type 0 where
  pub checks : NoneApplies (header_checks expected t140 red p)
  pub hs : List Head
  pub s : List ℕ
  pub cut : Cut n (payload p) hs s
  pub fit : total hs ≤ length s
  pub ages : ages_fall hs ≡ true
  pub text : are_text hs s ≡ true
  pub is : c ≡ content p hs s

pub accepted : (n : ℕ) (expected : Expected) (t140 red : ℕ) (p : List ℕ) (c : Content) → reading n expected t140 red p ≡ holds c → Accepted n expected t140 red p c
unfolding reading Behind
accepted n expected t140 red p c e =
    let w = none_applies (header_checks expected t140 red p) (blocks_read p (heads_of n t140 p)) c e in
    go (heads_of n t140 p) (heads_behind n t140 (eqb (payload_type p) t140) (payload p)) w.0 w.1
  where
    go : (h : Heads) → Behind n (payload p) h → NoneApplies (header_checks expected t140 red p) → blocks_read p h ≡ holds c → Accepted n expected t140 red p c
    go (bad k) b w f = absurd (let z : ◌≡◌ {A = ℕ} 0 1 = cc in omega arith)
    go (heads hs s) b w f =
        let x = holds (content p hs s) in
        let fit : total hs ≤ length s = ltb-false (length s) (total hs) (eq-false_of_not-eq-true (λ e. not_refused 20 f (gives_20 refused hs s x (ltb-true (length s) (total hs) e)))) in
        let ages : ages_fall hs ≡ true = eq-true_of_not-eq-false (λ e. not_refused 22 f (gives_22 refused hs s x fit e)) in
        let text : are_text hs s ≡ true = eq-true_of_not-eq-false (λ e. not_refused 21 f (gives_21 refused hs s x fit ages e)) in
        record {
          checks = w;
          hs = hs;
          s = s;
          cut = b;
          fit = fit;
          ages = ages;
          text = text;
          is = let q : holds (content p hs s) ≡ holds c = sym (past_21 refused hs s x fit ages text) ∙ f in cc;
        }
