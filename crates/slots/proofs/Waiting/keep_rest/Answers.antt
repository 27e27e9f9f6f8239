use Prim.Native.Nat.{ℕ, ◌*◌, ◌+◌, ◌-◌, ◌≤◌}
use mathlib.Core.Path.{◌≡◌, ◌∙◌, ap}
use native.Mathlib.Omega.{arith}
use lib.ListN.{length, drop, length-drop}
use borrow.Author.Rules.{rules}
use Rattle.packet_spec.specs.Limits.{level}
use Rattle.sender_spec.specs.Limits.{room_size}
use Rattle.slots.specs.Slots.{texts_size, over_at}
use Rattle.slots.proofs.OverAt.{pasted}
use Rattle.slots.proofs.Rest.{rest_lies}
use Rattle.slots.proofs.Waiting.keep_rest.Goals as goal

pub returns-then-taken-size : goal.returns-then-taken-size
unfolding level
returns-then-taken-size c =
    let a = c.args in
    let size = c.min-size in
    let room = c.room_of-start in
    let next = c.next_room-to in
    let texts = a.texts.now in
    let start = room.result * room_size in
    let whole : length texts ≡ texts_size = search rules in
    let lies = rest_lies a.self.room a.self.len a.taken texts whole start size.result (ap (λ (r : ℕ). r * room_size) room.ensures.0) size.ensures in
    let fits : start + size.result - (start + a.taken) ≤ length (drop (start + a.taken) texts) = omega (arith, length-drop (start + a.taken) texts, room.ensures.1) in
    c.copy_within.ensures.after
    ∙ pasted (next.result * room_size) (start + size.result - (start + a.taken)) texts (drop (start + a.taken) texts) fits
    ∙ (λ i. over_at (next.ensures.0 i * room_size) (lies i) texts)
