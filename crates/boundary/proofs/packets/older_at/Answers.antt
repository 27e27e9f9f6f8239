use Rattle.std.proofs.Common.{◌≡◌, ◌∙◌, ℕ, ◌+◌, ◌-◌, ◌<◌, ◌≤◌, List, [], ◌∷◌, ◌++◌, length, get_or, set, take, drop, replicate, ap, sym, add-one, arith}
use Rattle.std.proofs.Math.Seq.{take_all, take-suc, length-take-le}
use Rattle.std.proofs.lemmas.List.{take-replicate, drop-replicate, length-replicate}
use Rattle.boundary.specs.declared.packets.Older.{Older}
use Rattle.base.specs.Arrays.{filled}
use Rattle.packet_spec.specs.Limits.{level}
use Rattle.packet_spec.specs.Redundancy.{Head, total}
use Rattle.packet_spec.specs.Internal.Heads.{heads_in}
use Rattle.block_headers.specs.Headers.{seen_head, no_head}
use Rattle.boundary.specs.Packets.{none}
use Rattle.boundary.specs.Internal.Places.{head_places}
use Rattle.base.proofs.Filled.{filled_more, filled_whole}
use Rattle.packet_spec.proofs.HeadsIn.{heads_length, total_snoc}
use Rattle.block_headers.proofs.HeadPlaces.{head_at_is}
use Rattle.boundary.proofs.PacketRecords.{places_snoc, places_length}
use Rattle.boundary.proofs.packets.older_at.Goals as goal

-- the front of an array of no blocks
front_long : (n : ℕ) → n ≤ level → length (take n (replicate level none)) ≡ n
front_long n few = ap length (take-replicate n level none few) ∙ length-replicate n none

pub loop-k-init : goal.loop-k-init
unfolding level
loop-k-init c =
    let n = c.args.count in
    (omega arith, omega arith, take-replicate n level none c.requires.0 ∙ sym (ap (λ (k : ℕ). replicate k none) (omega arith)))

pub loop-k-preserved : goal.loop-k-preserved
unfolding level
loop-k-preserved c =
    let a = c.args in
    let l = c.loop-k in
    let p = a.bytes.now in
    let all = heads_in a.count (drop a.from p) in
    let here : l.k < length (take a.count (replicate level none)) = c.loop-k-test.true in
    let k_in : l.k < a.count = omega (arith, front_long a.count c.requires.0) in
    let long : length all ≡ a.count = heads_length a.count (drop a.from p) in
    let hs = take l.k all in
    let r = c.head_at-head in
    let h = seen_head r.result in
    let is : get_or all l.k no_head ≡ h = sym (r.ensures.0 ∙ head_at_is p a.from a.count l.k k_in (omega arith)) in
    let o : Older = record { offset = h.offset; at = l.at; len = h.len } in
    let n : length hs ≡ l.k = length-take-le l.k all (omega arith) in
    let m : take (l.k + 1) all ≡ hs ++ (h ∷ []) = ap (λ (j : ℕ). take j all) (add-one l.k) ∙ take-suc all l.k no_head (omega arith) ∙ ap (λ (x : Head). hs ++ (x ∷ [])) is in
    let z : length (head_places a.first hs) ≡ l.k = places_length a.first hs ∙ n in (
      omega (arith, r.ensures.1),
      omega (arith, ap total m ∙ total_snoc hs h),
      ap (λ (j : ℕ). set l.block-items l.k (record { offset = h.offset; at = l.at; len = j })) c.from-len.ensures
          ∙ ap (λ (x : List Older). set x l.k o) l.invariant.2
          ∙ ap (λ (j : ℕ). set (filled none a.count (head_places a.first hs)) j o) (sym z)
          ∙ filled_more none a.count (head_places a.first hs) o (omega arith)
          ∙ ap (λ (j : ℕ). filled none a.count (head_places a.first hs ++ (record { offset = h.offset; at = j; len = h.len } ∷ []))) l.invariant.1
          ∙ ap (filled none a.count) (sym (ap (head_places a.first) m ∙ places_snoc a.first hs h)),
    )

pub returns : goal.returns
unfolding level
returns c =
    let l = c.loop-k in
    let a = c.args in
    let all = heads_in a.count (drop a.from a.bytes.now) in
    let places = head_places a.first all in
    let past : length (take a.count (replicate level none)) ≤ l.k = c.loop-k-test.false in
    let long : length all ≡ a.count = heads_length a.count (drop a.from a.bytes.now) in
    let full : length places ≡ a.count = places_length a.first all ∙ long in
    let front : l.block-items ≡ places =
    l.invariant.2
    ∙ ap (λ (x : List Head). filled none a.count (head_places a.first x)) (take_all l.k all (omega (arith, front_long a.count c.requires.0)))
    ∙ filled_whole none a.count places full in
    ap (λ (x : List Older). x ++ drop a.count (replicate level none)) front
    ∙ ap (λ (x : List Older). places ++ x) (drop-replicate a.count level none ∙ sym (ap (λ (n : ℕ). replicate (level - n) none) full))
