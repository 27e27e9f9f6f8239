-- The reading by what is seen of the header and of the blocks.
use Prim.Native.Nat.{ℕ, ◌+◌, ◌-◌, ◌≤◌}
use mathlib.Core.Path.{◌≡◌, ◌∙◌, refl, ap, sym, subst}
use mathlib.Core.List.{List}
use native.Mathlib.Omega.{arith}
use lib.Dec.{eqb}
use lib.ListN.{length, length-drop}
use borrow.Author.Rules.{rules}
use borrow.Author.Tests.{ltb-false}
use Rattle.packet.specs.declared.Packet.{Packet}
use Rattle.packet_spec.specs.Limits.{level}
use Rattle.packet_spec.specs.Header.{Expected, payload_type, header_end, payload_end, marker_of, sequence_of, timestamp_of, source_of}
use Rattle.packet_spec.specs.Redundancy.{Head, Heads, heads, bad, total, primary_of, joined}
use Rattle.packet_spec.specs.Reading.{Content, holds, refused, header_checks, heads_of, content, block_checks, blocks_read, reading, blocks}
use Rattle.packet.specs.Places.{placed, refused_answer, answer, read_of}
use Rattle.header.specs.Internal.Seen.{HeaderSeen, refused_header, passed_header, header_of}
use Rattle.blocks.specs.Internal.Seen as seen
use Rattle.blocks.specs.Internal.Seen.{refused_blocks, placed_blocks, seen_behind, blocks_seen_at}
use Rattle.base.specs.Checks.{number_by}
use Rattle.base.specs.Flags.{bit}
use Rattle.base.proofs.InOrder.{number_first, refused_by_lem, passed_by, none_applies}
use Rattle.packet_spec.proofs.Payload.{payload_inside}
use Rattle.packet_spec.proofs.RefusalNumbers.{Positive, reading_positive}
use Rattle.packet_spec.proofs.BlockRuns.{cut_joined}
use Rattle.packet_spec.proofs.BlocksLie.{older_length, lies}
use Rattle.blocks.proofs.SeenByFacts.{inside}

-- the packet by what is seen of its blocks
abbrev with_blocks : List ℕ → seen.BlocksSeen → Packet
with_blocks p b = record {
  marker = bit (marker_of p);
  sequence = sequence_of p;
  timestamp = timestamp_of p;
  source = source_of p;
  count = b.count;
  first = b.first;
  primary = b.primary;
  end = payload_end p;
}

placed_is : (p : List ℕ) (hs : List Head) (s : List ℕ) → total hs ≤ length s → length s ≤ payload_end p
    → with_blocks p (placed_blocks (payload_end p) hs s) ≡ placed p (content p hs s)
placed_is p hs s fit room =
    let c = content p hs s in
    let e = payload_end p in
    let f : e - length s ≡ e - length (joined (blocks c)) = ap (λ (l : List ℕ). e - length l) (sym (cut_joined hs s)) in
    let r : length (primary_of hs s) ≡ length s - total hs = length-drop (total hs) s in
    let q : e - length s + total hs ≡ e - length (primary_of hs s) = omega arith in
    λ i. record {
      marker = bit (marker_of p);
      sequence = sequence_of p;
      timestamp = timestamp_of p;
      source = source_of p;
      count = sym (older_length hs s) i;
      first = f i;
      primary = q i;
      end = e;
    }

blocks_first : (p : List ℕ) (hs : List Head) (s : List ℕ) → (seen_behind (payload_end p) (heads hs s)).number ≡ number_by (block_checks hs s)
blocks_first p hs s = number_first (λ (b : seen.BlocksSeen). b.number) refused_blocks (block_checks hs s) (placed_blocks (payload_end p) hs s) (λ n. refl) refl

-- the blocks behind the headers
module _ (p : List ℕ) where
  seen_refused : (h : Heads) (n : ℕ) → 1 ≤ n → (seen_behind (payload_end p) h).number ≡ n → refused_answer n ≡ answer p (blocks_read p h)
  seen_refused (bad k) n l e = ap refused_answer (sym e)
  seen_refused (heads hs s) n l e =
      ap (answer p) (sym (refused_by_lem refused (block_checks hs s) (holds (content p hs s)) n l (sym (blocks_first p hs s) ∙ e)))

  seen_placed : (h : Heads) → Positive (blocks_read p h) → ((c : Content) → blocks_read p h ≡ holds c → length (joined (blocks c)) ≤ payload_end p) → (seen_behind (payload_end p) h).number ≡ 0
      → record { number = 0; packet = with_blocks p (seen_behind (payload_end p) h) } ≡ answer p (blocks_read p h)
  seen_placed (bad k) positive room e = absurd (omega arith)
  seen_placed (heads hs s) positive room e =
      let z : number_by (block_checks hs s) ≡ 0 = sym (blocks_first p hs s) ∙ e in
      let held : blocks_read p (heads hs s) ≡ holds (content p hs s) = passed_by refused (block_checks hs s) (holds (content p hs s)) (search rules) z in
      let fit : total hs ≤ length s = ltb-false (length s) (total hs) (none_applies (block_checks hs s) (search rules) z).0 in
      let l : length (joined (blocks (content p hs s))) ≡ length s = ap length (cut_joined hs s) in
      let r : length (joined (blocks (content p hs s))) ≤ payload_end p = room (content p hs s) held in
      ap (λ (x : seen.BlocksSeen). record { number = 0; packet = with_blocks p x }) (passed_by refused_blocks (block_checks hs s) (placed_blocks (payload_end p) hs s) (search rules) z)
      ∙ ap (λ (k : Packet). record { number = 0; packet = k }) (placed_is p hs s fit (omega arith))
      ∙ ap (answer p) (sym held)

module _ (e : Expected) (t140 red : ℕ) (p : List ℕ) where
  header_first : (header_of e t140 red p).number ≡ number_by (header_checks e t140 red p)
  unfolding header_of
  header_first = number_first (λ (h : HeaderSeen). h.number) refused_header (header_checks e t140 red p) (passed_header t140 p) (λ n. refl) refl

  pub header_refused : (n : ℕ) → 1 ≤ n → (header_of e t140 red p).number ≡ n → refused_answer n ≡ read_of e t140 red p
  unfolding read_of reading
  header_refused n l h =
      ap (answer p) (sym (refused_by_lem refused (header_checks e t140 red p) (blocks_read p (heads_of level t140 p)) n l (sym header_first ∙ h)))

  module _ (passed : (header_of e t140 red p).number ≡ 0) where
    no_check : number_by (header_checks e t140 red p) ≡ 0
    no_check = sym header_first ∙ passed

    pub header_passed : header_of e t140 red p ≡ passed_header t140 p
    unfolding header_of
    header_passed = passed_by refused_header (header_checks e t140 red p) (passed_header t140 p) (search rules) no_check

    abbrev pub blocks_seen : seen.BlocksSeen
    blocks_seen = blocks_seen_at (eqb (payload_type p) t140) t140 p (header_end p) (payload_end p)

    starts : header_end p ≤ payload_end p
    starts = let n = none_applies (header_checks e t140 red p) (search rules) no_check in payload_inside p n.1.1.1.1.0 n.1.1.1.1.1.0

    behind : blocks_seen ≡ seen_behind (payload_end p) (heads_of level t140 p)
    behind = inside (eqb (payload_type p) t140) t140 p (header_end p) (payload_end p) starts (omega arith)

    read : reading level e t140 red p ≡ blocks_read p (heads_of level t140 p)
    unfolding reading
    read = passed_by refused (header_checks e t140 red p) (blocks_read p (heads_of level t140 p)) (search rules) no_check

    answered : read_of e t140 red p ≡ answer p (blocks_read p (heads_of level t140 p))
    unfolding read_of
    answered = ap (answer p) read

    pub blocks_refused : (n : ℕ) → 1 ≤ n → blocks_seen.number ≡ n → refused_answer n ≡ read_of e t140 red p
    blocks_refused n l h = seen_refused p (heads_of level t140 p) n l (ap (λ (b : seen.BlocksSeen). b.number) (sym behind) ∙ h) ∙ sym answered

    pub blocks_placed : blocks_seen.number ≡ 0 → record { number = 0; packet = with_blocks p blocks_seen } ≡ read_of e t140 red p
    blocks_placed h =
        ap (λ (b : seen.BlocksSeen). record { number = 0; packet = with_blocks p b }) behind
        ∙ seen_placed p (heads_of level t140 p) (subst Positive read (reading_positive level e t140 red p)) (λ c q. (lies level e t140 red p c (read ∙ q)).room)
        (ap (λ (b : seen.BlocksSeen). b.number) (sym behind) ∙ h)
        ∙ sym answered
