-- What a packet takes of what waits: a front of it, in its slot.
use Prim.Native.Nat.{ℕ, ◌≤◌, ◌*◌, min}
use mathlib.Core.Path.{◌≡◌, ◌∙◌, ap, sym}
use mathlib.Core.List.{List, ◌++◌}
use native.Mathlib.Omega.{arith}
use lib.Dec.{eqb}
use lib.ListN.{length, take, drop, length-take}
use lib.Seq.{take-length, take-append_seam}
use Rattle.base.proofs.Tests.{by_test}
use Rattle.text_spec.specs.Front.{front}
use Rattle.text_spec.proofs.FrontLaws.{front_rest}
use Rattle.sender_spec.specs.Limits.{room_size}
use Rattle.sender_spec.specs.State as State
use Rattle.sender_spec.specs.Packets.{going, taken}
use Rattle.slots.specs.Slots.{texts_size, room_of, waiting_in}
use Rattle.slots.proofs.Slots.{waiting_length}
use Rattle.writer.proofs.KeptBlocks.{take_least}
use Rattle.sender.specs.declared.Sender.{Sender}
use Rattle.sender.specs.State.{state_of}

taken_front : (s : State.Sender) (t : ℕ) → take (length (taken s t)) s.waiting ≡ taken s t
taken_front s t =
    by_test (λ (x : List ℕ). take (length x) s.waiting ≡ x) (eqb (going s t) s.characters) (λ e. take-length s.waiting) (λ e. seam (front (going s t) s.waiting) (front_rest (going s t) s.waiting))
  where
    seam : (x : List ℕ) → x ++ drop (length x) s.waiting ≡ s.waiting → take (length x) s.waiting ≡ x
    seam x e = ap (take (length x)) (sym e) ∙ take-append_seam x (drop (length x) s.waiting)

module _ (s : Sender) (texts log : List ℕ) (t : ℕ) (size : length texts ≡ texts_size) where
  abbrev n : ℕ
  n = length (taken (state_of s texts log) t)

  taken_within : n ≤ min s.waiting.len room_size
  taken_within =
      omega (arith, ap length (taken_front (state_of s texts log) t), length-take n (state_of s texts log).waiting, waiting_length texts size s.waiting.room s.waiting.len)

  pub taken_lies : waiting_in texts s.waiting.room n ≡ taken (state_of s texts log) t
  taken_lies =
      let slot = drop (room_of s.waiting.room * room_size) texts in
      let e : min n room_size ≡ min n (min s.waiting.len room_size) = omega (arith, taken_within) in
      ap (λ (k : ℕ). take k slot) e ∙ sym (take_least n (min s.waiting.len room_size) slot) ∙ taken_front (state_of s texts log) t
