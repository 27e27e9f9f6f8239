-- The packet of a draft by its parts.
use Prim.Native.Nat.{ℕ, ◌+◌, ◌%◌, ◌≤◌, min}
use mathlib.Core.Path.{◌≡◌, ◌∙◌, refl, ap, sym}
use mathlib.Core.List.{List, [], ◌++◌, map, reverse}
use mathlib.Core.Bool.{Bool, true, false, cond, ◌||◌}
use native.Mathlib.Omega.{arith}
use lib.Dec.{ltb, eqb}
use lib.ListN.{length, take, length-take, length-append}
use lib.Seq.{take-take}
use borrow.Author.Tests.{eqb-true}
use Rattle.writer.specs.declared.Draft.{Draft}
use Rattle.packet_spec.specs.Limits.{level}
use Rattle.packet_spec.specs.Encoding.{marker_bit, fixed_header, heads_bytes}
use Rattle.packet_spec.specs.Redundancy.{joined, blocks_of}
use Rattle.sender_spec.specs.Limits.{room_size}
use Rattle.sender_spec.specs.State.{SentBlock, has_text}
use Rattle.sender_spec.specs.Packets.{recent_run, any_text, repeated}
use Rattle.writer.specs.Draft.{blocks_from, carried_by, draft_primary, draft_packet}
use Rattle.carrying.specs.Internal.Young.{young_run, text_total}
use Rattle.carrying.proofs.Tags.{AreTags}
use Rattle.carrying.proofs.YoungRun.{AllYoung, run_few, run_young}
use Rattle.writer.specs.Internal.LastFirst.{last_first}
use Rattle.writer.specs.Internal.Headers.{headers_for, heads_with, front_with, front_size}
use Rattle.writer.proofs.LastFirst.{last_none}
use Rattle.writer.proofs.Headers as Headers
use Rattle.slots.specs.Slots.{texts_size}
use Rattle.writer.specs.Internal.Parts.{text_at, waiting_at, texts_of, packet_with}
use Rattle.writer.proofs.Slots.{waiting_at_lem, kept_length}
use Rattle.writer.proofs.TextsSize.{texts_size_lem}
use Rattle.writer.proofs.KeptBlocks.{take_least, run_front, some_text, run_length, any_total, kept_heads, kept_texts}

-- where the packet repeats n blocks
module _ (d : Draft) (texts : List ℕ) (n : ℕ) (lens : length d.kept.lens ≡ level) (ats : length d.kept.ats ≡ level)
    (whole : length texts ≡ texts_size) (run : n ≡ young_run d.clock (take (min d.heading.level d.kept.count) d.kept.ats)) (tags : List ℕ) (are : AreTags d.clock d.kept.lens d.kept.ats n tags) where
  abbrev most : ℕ
  most = min d.heading.level d.kept.count

  abbrev kept : List SentBlock
  kept = blocks_from texts d.room 1 d.kept.lens d.kept.ats

  same : length d.kept.lens ≡ length d.kept.ats
  same = omega arith

  pub few : n ≤ level
  few = omega (arith, run_few d.clock (take most d.kept.ats), length-take most d.kept.ats)

  all_young : AllYoung d.clock d.kept.ats n
  all_young = rw run (run_young d.clock most d.kept.ats)

  -- the blocks repeated are the first of those kept
  front : carried_by d texts ≡ take n kept
  front =
      let e : length (recent_run d.clock (take most kept)) ≡ n = run_length texts d.room d.clock most d.kept.lens d.kept.ats 1 same ∙ sym run in
      let h : n ≤ most = omega (arith, run_few d.clock (take most d.kept.ats), length-take most d.kept.ats) in
      ap (recent_run d.clock) (take_least d.heading.level d.kept.count kept)
      ∙ run_front d.clock (take most kept)
      ∙ ap (λ (k : ℕ). take k (take most kept)) e
      ∙ take-take n most kept h

  waiting : waiting_at texts d.room d.len ≡ draft_primary d texts
  waiting = waiting_at_lem texts d.room d.len

  abbrev older : List SentBlock → List ℕ → List ℕ
  older bs x = heads_bytes (d.heading.t140 % 128) (map (repeated d.clock) (reverse bs)) ++ joined (blocks_of (map (repeated d.clock) (reverse bs)) x)

  parts : older (carried_by d texts) (draft_primary d texts) ≡ headers_for (d.heading.t140 % 128) tags n ++ texts_of texts d.room tags d.len n
  parts =
      let h : n ≤ length d.kept.ats = omega (arith, few) in
      ap (λ (bs : List SentBlock). older bs (draft_primary d texts)) front
      ∙ (λ i. kept_heads texts d.room d.clock d.kept.lens d.kept.ats same whole tags (d.heading.t140 % 128) n h all_young are i ++ kept_texts texts d.room d.clock d.kept.lens d.kept.ats same tags (draft_primary d texts) n h are i)
      ∙ ap (λ (x : List ℕ). headers_for (d.heading.t140 % 128) tags n ++ last_first (text_at texts d.room tags) x n) (sym waiting)

  -- at level 0 no block is repeated
  plain : eqb d.heading.level 0 ≡ true → texts_of texts d.room tags d.len n ≡ draft_primary d texts
  plain e =
      let f : d.heading.level ≡ 0 = eqb-true d.heading.level 0 e in
      let z : n ≡ 0 = omega (arith, run_few d.clock (take most d.kept.ats), length-take most d.kept.ats) in
      ap (last_first (text_at texts d.room tags) (waiting_at texts d.room d.len)) z ∙ last_none (text_at texts d.room tags) (waiting_at texts d.room d.len) ∙ waiting

  pub packet_is : packet_with d tags texts n ≡ draft_packet d texts
  unfolding heads_with
  packet_is = go (eqb d.heading.level 0) refl
    where
      header : ℕ → List ℕ
      header type = fixed_header (marker_bit d.heading.marker + type) d.heading.sequence d.heading.timestamp d.heading.source

      go : (b : Bool) → eqb d.heading.level 0 ≡ b
          → header (cond b (d.heading.t140 % 128) (d.heading.red % 128)) ++ (cond b [] (headers_for (d.heading.t140 % 128) tags n) ++ texts_of texts d.room tags d.len n)
          ≡ cond b (header (d.heading.t140 % 128) ++ draft_primary d texts) (header (d.heading.red % 128) ++ older (carried_by d texts) (draft_primary d texts))
      go true e = ap (λ (l : List ℕ). header (d.heading.t140 % 128) ++ l) (plain e)
      go false e = ap (λ (l : List ℕ). header (d.heading.red % 128) ++ l) (sym parts)

  abbrev texted : List ℕ
  texted = texts_of texts d.room tags d.len n

  pub front_size_lem : length (front_with d.heading tags n) + length texted ≡ length (draft_packet d texts)
  front_size_lem = sym (length-append (front_with d.heading tags n) texted) ∙ ap length packet_is

  pub size_is : length (draft_packet d texts) ≡ front_size d.heading.level n + (text_total (take n d.kept.lens) + min d.len room_size)
  size_is =
      sym front_size_lem
      ∙ (λ i. Headers.front_size_lem d.heading tags n i + texts_size_lem texts whole d.room d.clock d.kept.lens d.kept.ats tags d.len n (omega (arith, few)) are i)

  pub some_is : (has_text (draft_primary d texts) || any_text (carried_by d texts)) ≡ ltb 0 (text_total (take n d.kept.lens) + min d.len room_size)
  some_is =
      some_text (draft_primary d texts) (carried_by d texts) (min d.len room_size) (text_total (take n d.kept.lens)) (sym (ap length waiting) ∙ kept_length texts whole d.room 0 d.len)
      (ap any_text front ∙ any_total texts d.room whole n d.kept.lens d.kept.ats 1 same)
