-- What is answered, by plain facts.
use Prim.Native.Nat.{ℕ, ◌+◌, ◌≤◌, ◌<◌, min}
use mathlib.Core.Path.{◌≡◌, ◌∙◌, ap, sym}
use mathlib.Core.List.{List}
use mathlib.Core.Bool.{Bool, cond}
use native.Mathlib.Omega.{arith}
use lib.Dec.{ltb}
use lib.ListN.{length, take}
use borrow.Author.Tests.{lt-ltb, le-ltb, ne_eqb}
use Rattle.writer.specs.declared.Draft.{Draft}
use Rattle.std.specs.Prelude.{Some, Ok, Err}
use Rattle.base.specs.Arrays.{over}
use Rattle.packet.specs.declared.Refusal.TheVariants.{Space}
use Rattle.packet_spec.specs.Limits.{level}
use Rattle.sender_spec.specs.Limits.{room_size}
use Rattle.sender_spec.specs.Answers.{refused, quiet, sent}
use Rattle.writer.specs.Draft.{Result, answer_by, put_of}
use Rattle.carrying.specs.Internal.Young.{young_run, text_total}
use Rattle.carrying.proofs.Tags.{AreTags}
use Rattle.slots.specs.Slots.{texts_size}
use Rattle.writer.specs.Internal.Parts.{packet_with}
use Rattle.writer.specs.Internal.Headers.{front_size}
use Rattle.writer.proofs.PacketByParts.{packet_is, size_is, some_is}

module _ (size space : ℕ) (some : 0 < size) where
  pub by_short : space < size → answer_by size space ≡ Err Space
  by_short h = rw (ne_eqb size 0 (λ z. omega arith), lt-ltb space size h)

  pub by_sent : size ≤ space → answer_by size space ≡ Ok (Some size)
  by_sent h = rw (ne_eqb size 0 (λ z. omega arith), le-ltb space size h)

abbrev put : Bool → Bool → ℕ → List ℕ → List ℕ → Result
put some few n w p =
    cond some (cond few (record { answer = refused 8; lent = p }) (record { answer = sent n; lent = w })) (record { answer = quiet; lent = p })

module _ (d : Draft) (texts : List ℕ) (n : ℕ) (lens : length d.kept.lens ≡ level) (ats : length d.kept.ats ≡ level)
    (whole : length texts ≡ texts_size) (run : n ≡ young_run d.clock (take (min d.heading.level d.kept.count) d.kept.ats)) (tags : List ℕ) (are : AreTags d.clock d.kept.lens d.kept.ats n tags) (p : List ℕ) where
  abbrev text : ℕ
  text = text_total (take n d.kept.lens) + min d.len room_size

  abbrev size : ℕ
  size = front_size d.heading.level n + text

  put_is : put_of d texts p ≡ put (ltb 0 text) (ltb (length p) size) size (over (packet_with d tags texts n) p) p
  unfolding put_of
  put_is = λ i.
      put (some_is d texts n lens ats whole run tags are i) (ltb (length p) (size_is d texts n lens ats whole run tags are i)) (size_is d texts n lens ats whole run tags are i)
      (over (sym (packet_is d texts n lens ats whole run tags are) i) p) p

  pub put_quiet : text ≡ 0 → record { answer = quiet; lent = p } ≡ put_of d texts p
  put_quiet h = sym (put_is ∙ ap (λ (b : Bool). put b (ltb (length p) size) size (over (packet_with d tags texts n) p) p) (le-ltb 0 text (omega arith)))

  pub put_short : 0 < text → length p < size → record { answer = refused 8; lent = p } ≡ put_of d texts p
  put_short h k =
      sym (put_is ∙ (λ i. put (lt-ltb 0 text h i) (lt-ltb (length p) size k i) size (over (packet_with d tags texts n) p) p))

  pub put_sent : 0 < text → size ≤ length p → record { answer = sent size; lent = over (packet_with d tags texts n) p } ≡ put_of d texts p
  put_sent h k =
      sym (put_is ∙ (λ i. put (lt-ltb 0 text h i) (le-ltb (length p) size k i) size (over (packet_with d tags texts n) p) p))
