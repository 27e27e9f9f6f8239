-- The length of the texts.
use Prim.Native.Nat.{ℕ, zero, suc, ◌+◌, ◌%◌, ◌≤◌, min}
use mathlib.Core.Path.{◌≡◌, ◌∙◌, ap}
use mathlib.Core.List.{List}
use native.Mathlib.Omega.{arith}
use lib.ListN.{length, take, get_or, length-append}
use Rattle.sender_spec.specs.Limits.{room_size}
use Rattle.carrying.specs.Internal.Young.{text_total}
use Rattle.carrying.proofs.Tags.{AreTags, tag_len}
use Rattle.carrying.proofs.TextTotal.{total_more}
use Rattle.writer.proofs.LastFirst.{last_none, last_more}
use Rattle.slots.specs.Slots.{texts_size}
use Rattle.writer.specs.Internal.Parts.{text_at, waiting_at, texts_of}
use Rattle.writer.proofs.Slots.{kept_length}

pub texts_size_lem : (texts : List ℕ) → length texts ≡ texts_size → (room t : ℕ) (lens ats tags : List ℕ) (len n : ℕ) → n ≤ length lens → AreTags t lens ats n tags
    → length (texts_of texts room tags len n) ≡ text_total (take n lens) + min len room_size
texts_size_lem texts whole room t lens ats tags len zero h are =
    omega (arith, ap length (last_none (text_at texts room tags) (waiting_at texts room len)), kept_length texts whole room 0 len)
texts_size_lem texts whole room t lens ats tags len (suc n) h are =
    let f = text_at texts room tags in
    let e : get_or tags n 0 % 256 ≡ min (get_or lens n 0) room_size = ap (λ (k : ℕ). k % 256) (are n (omega arith)) ∙ tag_len t (get_or lens n 0) (get_or ats n 0) in
    omega (
      arith,
      e,
      ap length (last_more f (waiting_at texts room len) n),
      length-append (f n) (texts_of texts room tags len n),
      kept_length texts whole room (suc n) (get_or tags n 0 % 256),
      total_more lens n h,
      texts_size_lem texts whole room t lens ats tags len n (omega arith) (λ j k. are j (omega (arith, k))),
    )
