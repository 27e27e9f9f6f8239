-- What the block headers in an accepted packet's bytes tell of its blocks.
use Prim.Native.Nat.{ℕ, zero, suc, ◌+◌, ◌-◌, ◌*◌, ◌<◌, ◌≤◌}
use mathlib.Core.Path.{◌≡◌, ◌∙◌, refl, ap, sym, subst}
use mathlib.Core.List.{List, [], ◌∷◌}
use native.Mathlib.Omega.{arith}
use lib.ListN.{length, take, drop, length-drop, length-append}
use lib.Seq.{length-slice, length-take-le}
use Rattle.packet_spec.specs.Header.{Expected, header_end, payload_end, payload}
use Rattle.packet_spec.specs.Redundancy.{Head, total, older_of, primary_of, blocks_of, joined}
use Rattle.packet_spec.specs.Internal.Heads.{heads_in}
use Rattle.packet_spec.specs.Reading.{Content, holds, content, reading, blocks, starts_at}
use Rattle.packet_spec.proofs.Payload.{payload_inside}
use Rattle.packet_spec.proofs.HeadsIn.{heads_within_lem}
use Rattle.packet_spec.proofs.Accepted.{accepted}
use Rattle.packet_spec.proofs.BlockRuns.{reach, cut_joined}
use Rattle.packet_spec.proofs.BlocksLie.{older_length}

-- the first blocks have as many bytes as their headers say
heads_reach : (hs : List Head) (s q : List ℕ) (k : ℕ) → total hs ≤ length s → k ≤ length hs → reach (blocks_of (older_of hs s) q) k ≡ total (take k hs)
heads_reach hs s q zero f h = refl
heads_reach [] s q (suc k) f h = absurd (omega arith)
heads_reach (x ∷ xs) s q (suc k) f h =
    let d : length (drop x.len s) ≡ length s - x.len = length-drop x.len s in
    let n : length (take x.len s) ≡ x.len = length-take-le x.len s (omega arith) in
    omega (arith, length-append (take x.len s) (joined (take k (blocks_of (older_of xs (drop x.len s)) q))), heads_reach xs (drop x.len s) q k (omega arith) (omega arith))

-- the headers of its older blocks stand from the payload's start on, with the primary's, of one byte, behind them; then the blocks
pub record Headed (p : List ℕ) (c : Content) : Type 0 where
  pub hs : List Head
  pub count : length c.older ≡ length hs
  pub are : hs ≡ heads_in (length hs) (drop (header_end p) p)
  pub after : 0 < length hs → starts_at p c 0 ≡ header_end p + 4 * length hs + 1
  pub room : header_end p + 4 * length hs ≤ starts_at p c 0
  pub reaches : (k : ℕ) → k ≤ length hs → reach (blocks c) k ≡ total (take k hs)
  pub cut : (s : List ℕ) × (total hs ≤ length s) × (c.older ≡ older_of hs s)

-- arithmetic of places
end_after : (e m h f s : ℕ) → s ≡ m - f → f ≤ m → m ≡ e - h → h ≤ e → e - s ≡ h + f
end_after e m h f s a b d g = omega arith

pub headed : (n : ℕ) (expected : Expected) (t140 red : ℕ) (p : List ℕ) (c : Content) → reading n expected t140 red p ≡ holds c → Headed p c
headed n expected t140 red p c e =
    let a = accepted n expected t140 red p c e in
    let hs = a.hs in
    let s = a.s in
    let m = payload p in
    let k = content p hs s in
    let f = a.cut.from in
    let h : header_end p ≤ payload_end p = payload_inside p a.checks.1.1.1.1.0 a.checks.1.1.1.1.1.0 in
    let i : payload_end p ≤ length p = omega arith in
    let lm : length m ≡ payload_end p - header_end p = length-slice (header_end p) (payload_end p) p i in
    let ls : length s ≡ length m - f = ap length a.cut.behind ∙ length-drop f m in
    let lj : length (joined (blocks k)) ≡ length s = ap length (cut_joined hs s) in
    let lf : f ≤ length m = a.cut.inside in
    let g : starts_at p k 0 ≡ header_end p + f = ap (λ (j : ℕ). payload_end p - j) lj ∙ end_after (payload_end p) (length m) (header_end p) f (length s) ls lf lm h in
    let r : 4 * length hs ≤ f = a.cut.room in
    subst (Headed p) (sym a.is)
    (record {
      hs = hs;
      count = older_length hs s;
      are = a.cut.are ∙ heads_within_lem (length hs) (header_end p) (payload_end p) p (omega arith);
      after = λ l. let q : f ≡ 4 * length hs + 1 = a.cut.after l in omega arith;
      room = omega arith;
      reaches = λ j l. heads_reach hs s (primary_of hs s) j a.fit l;
      cut = (s, a.fit, refl);
    })
