use Prim.Native.Nat.{ℕ, ◌+◌, ◌-◌, ◌*◌, ◌≤◌, ◌<◌, min}
use mathlib.Core.Path.{◌≡◌, ◌∙◌, ap, sym}
use mathlib.Core.List.{List}
use native.Mathlib.Omega.{arith}
use lib.ListN.{length, take, get_or}
use borrow.Rule.Slice.PartMut.{put_mid, mid_of}
use borrow.Author.Rules.{rules}
use Rattle.base.specs.Arrays.{over}
use Rattle.base.proofs.Lent.{length_over}
use Rattle.base.proofs.Written.{wrote_both, lent_fits}
use Rattle.packet_spec.specs.Limits.{level}
use Rattle.sender_spec.specs.Limits.{room_size}
use Rattle.sender_spec.specs.Answers.{quiet, sent}
use Rattle.carrying.specs.declared.Carried.{Carried}
use Rattle.carrying.specs.Internal.Young.{young_run, text_total, tagged}
use Rattle.carrying.proofs.Tags.{AreTags, tagged_are}
use Rattle.slots.specs.Slots.{texts_size}
use Rattle.writer.specs.declared.Draft.{Draft}
use Rattle.writer.specs.Draft.{Answered, clock_answer, answer_by, put_of}
use Rattle.writer.specs.Internal.Headers.{front_with, front_size}
use Rattle.writer.specs.Internal.Parts.{texts_of, packet_with}
use Rattle.writer.proofs.PacketByParts.{front_size_lem, size_is}
use Rattle.writer.proofs.Headers as Headers
use Rattle.writer.proofs.Answers.{by_short, by_sent, put_quiet, put_short, put_sent}
use Rattle.writer.proofs.put_packet.Goals as goal

-- what a draft carries, and the lengths of the packet's parts
module _ (d : Draft) (x p : List ℕ) (k : Carried) (most primary front : ℕ)
    (whole : length x ≡ texts_size) (lens : length d.kept.lens ≡ level) (ats : length d.kept.ats ≡ level)
    (m : most ≡ min d.heading.level d.kept.count)
    (ran : (k.count ≡ young_run d.clock (take most d.kept.ats)) × (k.text ≡ text_total (take k.count d.kept.lens)) × (k.count ≤ level) × (k.text ≤ room_size * level) × (k.tags ≡ tagged d.clock d.kept.lens d.kept.ats k.count))
    (waits : primary ≡ min d.len room_size) where
  run : k.count ≡ young_run d.clock (take (min d.heading.level d.kept.count) d.kept.ats)
  run = ran.0 ∙ ap (λ (n : ℕ). young_run d.clock (take n d.kept.ats)) m

  are : AreTags d.clock d.kept.lens d.kept.ats k.count k.tags
  are i h = ap (λ (l : List ℕ). get_or l i 0) ran.4 ∙ tagged_are d.clock d.kept.lens d.kept.ats lens ats k.count ran.2 i h

  abbrev heads : List ℕ
  heads = front_with d.heading k.tags k.count

  abbrev body : List ℕ
  body = texts_of x d.room k.tags d.len k.count

  nothing : k.text + primary ≡ 0 → record { answer = quiet; lent = p } ≡ put_of d x p
  nothing h = put_quiet d x k.count lens ats whole run k.tags are p (omega (arith, ran.1, waits))

  module _ (size : front ≡ front_size d.heading.level k.count) (some : k.text + primary ≡ 0 → ⊥) where
    total : front_size d.heading.level k.count + (text_total (take k.count d.kept.lens) + min d.len room_size) ≡ front + (k.text + primary)
    total = omega (arith, size, ran.1, waits)

    short : length p < front + (k.text + primary) → record { answer = clock_answer (answer_by (front + (k.text + primary)) (length p)); lent = p } ≡ put_of d x p
    short h =
        ap (λ (r : Answered). record { answer = clock_answer r; lent = p }) (by_short (front + (k.text + primary)) (length p) (omega (arith, some)) h)
        ∙ put_short d x k.count lens ats whole run k.tags are p (omega (arith, some, ran.1, waits)) (omega (arith, total))

    module _ (fits : front + (k.text + primary) ≤ length p) where
      front_is : front ≡ length heads
      front_is = size ∙ sym (Headers.front_size_lem d.heading k.tags k.count)

      room : length heads + length body ≤ length p
      room =
          omega (
            arith,
            total,
            fits,
            front_size_lem d x k.count lens ats whole run k.tags are,
            size_is d x k.count lens ats whole run k.tags are,
          )

      fits_heads : length heads ≤ length p
      fits_heads = omega (arith, room)

      module _ (to : List ℕ) (headed : to ≡ over heads p) where
        fits_body : front + length body ≤ length to
        fits_body = omega (arith, room, front_is, ap length headed, length_over heads p fits_heads)

        written : (part : List ℕ) → part ≡ over body (mid_of front (length to - front) to)
            → record { answer = clock_answer (answer_by (front + (k.text + primary)) (length p)); lent = put_mid front (length to - front) to part } ≡ put_of d x p
        written part e =
            let w = wrote_both heads body p to part front front_is headed room e in
            (λ i. record { answer = clock_answer (by_sent (front + (k.text + primary)) (length p) (omega (arith, some)) fits i); lent = w i })
            ∙ (λ i. record { answer = sent (sym total i); lent = over (packet_with d k.tags x k.count) p })
            ∙ put_sent d x k.count lens ats whole run k.tags are p (omega (arith, some, ran.1, waits)) (omega (arith, total, fits))

pub returns-then-text-eq0 : goal.returns-then-text-eq0
unfolding level
returns-then-text-eq0 c =
    let a = c.args in
    let whole : length a.texts.now ≡ texts_size = search rules in
    (nothing a.draft a.texts.now a.packet.now c.run-carried.result c.min-most.result c.min.result 0 whole (search rules) (search rules) c.min-most.ensures c.run-carried.ensures c.min.ensures c.if-text-eq0.true, whole)

pub put-requires : goal.put-requires
unfolding level
put-requires c =
    let a = c.args in
    let whole : length a.texts.now ≡ texts_size = search rules in
    fits_heads a.draft a.texts.now a.packet.now c.run-carried.result c.min-most.result c.min.result c.size-front.result whole (search rules) (search rules) c.min-most.ensures c.run-carried.ensures c.min.ensures c.size-front.ensures c.if-text-eq0.false c.if-packet-size.false

pub put_texts-requires : goal.put_texts-requires
unfolding level
put_texts-requires c =
    let a = c.args in
    let whole : length a.texts.now ≡ texts_size = search rules in
    lent_fits c.size-front.result _ c.put.new.to
    (fits_body a.draft a.texts.now a.packet.now c.run-carried.result c.min-most.result c.min.result c.size-front.result whole (search rules) (search rules) c.min-most.ensures c.run-carried.ensures c.min.ensures c.size-front.ensures c.if-text-eq0.false c.if-packet-size.false c.put.new.to c.put.ensures)

pub returns : goal.returns
unfolding level
returns c =
    let a = c.args in
    let whole : length a.texts.now ≡ texts_size = search rules in
    (written a.draft a.texts.now a.packet.now c.run-carried.result c.min-most.result c.min.result c.size-front.result whole (search rules) (search rules) c.min-most.ensures c.run-carried.ensures c.min.ensures c.size-front.ensures c.if-text-eq0.false c.if-packet-size.false c.put.new.to c.put.ensures c.put_texts.new.to c.put_texts.ensures, whole)

pub returns-then-packet-size : goal.returns-then-packet-size
unfolding level
returns-then-packet-size c =
    let a = c.args in
    let whole : length a.texts.now ≡ texts_size = search rules in
    (short a.draft a.texts.now a.packet.now c.run-carried.result c.min-most.result c.min.result c.size-front.result whole (search rules) (search rules) c.min-most.ensures c.run-carried.ensures c.min.ensures c.size-front.ensures c.if-text-eq0.false (omega (arith, c.if-packet-size.true)), whole)
