-- What is written are bytes.
use Prim.Native.Nat.{ℕ, ◌+◌, ◌<◌}
use mathlib.Core.Path.{◌≡◌}
use mathlib.Core.List.{List, [], ◌∷◌, ◌++◌}
use mathlib.Core.Bool.{Bool, true, false}
use native.Mathlib.Omega.{arith}
use lib.Dec.{eqb}
use Rattle.packet_spec.specs.Redundancy.{Block, blocks_of, joined}
use Rattle.packet_spec.specs.Reading.{Content}
use Rattle.packet_spec.specs.Encoding.{marker_bit, header_bytes, head_bytes, heads_bytes}
use Rattle.sender_spec.specs.State.{Sender}
use Rattle.sender_spec.specs.Settings.{settings_number}
use Rattle.sender_spec.specs.Packets.{content_of, packet_bytes}
use Rattle.base.proofs.Tests.{by_test}
use Rattle.packet_spec.proofs.ReadBack.{types_small}
use Rattle.base.specs.Every.{Every}
use Rattle.base.proofs.EveryLaws.{every_append}
use Rattle.sender_spec.proofs.TextBytes.{AllBytes, text_bytes}
use Rattle.sender_spec.proofs.StaysSendable.{Sendable, Good, taken_good}
use Rattle.sender_spec.proofs.SettingsPass.{settings_good}
use Rattle.sender_spec.proofs.Carried.{Repeatable, older_good}

both_bytes : (x y : List ℕ) → AllBytes x → AllBytes y → AllBytes (x ++ y)
both_bytes x y e f = every_append (λ (b : ℕ). b < 256) x y e f

second_byte : (m : Bool) (type : ℕ) → type < 128 → marker_bit m + type < 256
second_byte true type h = omega arith
second_byte false type h = omega arith

header_bytes_lem : (type : ℕ) (c : Content) → type < 128 → c.sequence < 65536 → c.timestamp < 4294967296 → c.source < 4294967296 → AllBytes (header_bytes type c)
header_bytes_lem type c h i j k = let b = second_byte c.marker type h in omega arith

module _ (t140 : ℕ) (h : t140 < 128) where
  head_bytes_lem : (b : Block) → Repeatable b → AllBytes (head_bytes t140 b)
  head_bytes_lem b r = omega arith

  heads_bytes_lem : (bs : List Block) → Every Repeatable bs → AllBytes (heads_bytes t140 bs)
  heads_bytes_lem [] e = omega arith
  heads_bytes_lem (b ∷ bs) e = both_bytes (head_bytes t140 b) (heads_bytes t140 bs) (head_bytes_lem b e.0) (heads_bytes_lem bs e.1)

body_bytes : (bs : List Block) (x : List ℕ) → Every Repeatable bs → Sendable x → AllBytes (joined (blocks_of bs x))
body_bytes [] x e h = both_bytes x [] (text_bytes x h.0) tt
body_bytes (b ∷ bs) x e h = both_bytes b.bytes (joined (blocks_of bs x)) (text_bytes b.bytes e.0.0.0) (body_bytes bs x e.1 h)

pub packet_bytes_lem : (s : Sender) (t : ℕ) → settings_number s.settings ≡ 0 → Good s → s.progress.next < 65536 → s.settings.source < 4294967296
    → AllBytes (packet_bytes s t)
packet_bytes_lem s t ok g n k =
    let t140 = s.settings.t140 in
    let red = s.settings.red in
    let c = content_of s t in
    let types : (t140 < 128) × (red < 128) × (t140 ≡ red → ⊥) = types_small t140 red (settings_good s.settings ok).typed in
    let older : Every Repeatable c.older = older_good s t g in
    let at : c.timestamp < 4294967296 = omega arith in
    let heads = heads_bytes t140 c.older in
    let body = joined (blocks_of c.older c.primary) in
    let rest : AllBytes (heads ++ body) = both_bytes heads body (heads_bytes_lem t140 types.0 c.older older) (body_bytes c.older c.primary older (taken_good s t g)) in
    by_test AllBytes (eqb s.settings.level 0)
    (λ e. both_bytes (header_bytes t140 c) c.primary (header_bytes_lem t140 c types.0 n at k) (text_bytes c.primary (taken_good s t g).0))
    (λ e. both_bytes (header_bytes red c) (heads ++ body) (header_bytes_lem red c types.1 n at k) rest)
