-- A refusal's number says which it is, so the promises by numbers fix the whole answer.
use Prim.Native.Nat.{ℕ, ◌≤◌}
use mathlib.Core.Path.{◌≡◌, ◌∙◌, refl, ap, sym}
use mathlib.Core.Bool.{cond}
use native.Mathlib.Omega.{arith}
use lib.Dec.{eqb}
use Rattle.std.specs.Prelude.{Result, Ok, Err}
use Rattle.packet.specs.declared.Packet.{Packet}
use Rattle.packet.specs.declared.Refusal.{Refusal}
use Rattle.packet.specs.declared.Refusal.TheVariants.{Level, Buffering, PayloadTypes, WaitingRoom, Clock, Text, NoText, Space, Rate, Short, Long, Version, Header, Padding, PayloadType, Source, BlockHeaders, BlockCount, BlockType, BlockLengths, BlockText, BlockAges, HeldPacket}
use Rattle.packet.specs.Refusal.{number}
use Rattle.packet.specs.Places.{ReadResult, numbered}

-- the refusal of a number
abbrev named : ℕ → Refusal
named n =
    cond (eqb n 1) Level
    (cond (eqb n 2) Buffering
    (cond (eqb n 3) PayloadTypes
    (cond (eqb n 4) WaitingRoom
    (cond (eqb n 5) Clock
    (cond (eqb n 6) Text
    (cond (eqb n 7) NoText
    (cond (eqb n 8) Space
    (cond (eqb n 9) Rate
    (cond (eqb n 10) Short
    (cond (eqb n 11) Long
    (cond (eqb n 12) Version
    (cond (eqb n 13) Header
    (cond (eqb n 14) Padding
    (cond (eqb n 15) PayloadType
    (cond (eqb n 16) Source
    (cond (eqb n 17) BlockHeaders
    (cond (eqb n 18) BlockCount
    (cond (eqb n 19) BlockType
    (cond (eqb n 20) BlockLengths
    (cond (eqb n 21) BlockText
    (cond (eqb n 22) BlockAges
    HeldPacket)))))))))))))))))))))

named_number : (r : Refusal) → named (number r) ≡ r
named_number Level = refl
named_number Buffering = refl
named_number PayloadTypes = refl
named_number WaitingRoom = refl
named_number Clock = refl
named_number Text = refl
named_number NoText = refl
named_number Space = refl
named_number Rate = refl
named_number Short = refl
named_number Long = refl
named_number Version = refl
named_number Header = refl
named_number Padding = refl
named_number PayloadType = refl
named_number Source = refl
named_number BlockHeaders = refl
named_number BlockCount = refl
named_number BlockType = refl
named_number BlockLengths = refl
named_number BlockText = refl
named_number BlockAges = refl
named_number HeldPacket = refl

pub number_positive : (r : Refusal) → 1 ≤ number r
number_positive Level = omega arith
number_positive Buffering = omega arith
number_positive PayloadTypes = omega arith
number_positive WaitingRoom = omega arith
number_positive Clock = omega arith
number_positive Text = omega arith
number_positive NoText = omega arith
number_positive Space = omega arith
number_positive Rate = omega arith
number_positive Short = omega arith
number_positive Long = omega arith
number_positive Version = omega arith
number_positive Header = omega arith
number_positive Padding = omega arith
number_positive PayloadType = omega arith
number_positive Source = omega arith
number_positive BlockHeaders = omega arith
number_positive BlockCount = omega arith
number_positive BlockType = omega arith
number_positive BlockLengths = omega arith
number_positive BlockText = omega arith
number_positive BlockAges = omega arith
number_positive HeldPacket = omega arith

pub number_names : (a b : Refusal) → number a ≡ number b → a ≡ b
number_names a b e = sym (named_number a) ∙ ap named e ∙ named_number b

-- two answers with one number and one packet are one answer
pub numbered_names : (x y : Result Packet Refusal) → numbered x ≡ numbered y → x ≡ y
numbered_names (Ok p) (Ok q) e = ap (λ (r : ReadResult). Ok r.packet) e
numbered_names (Ok p) (Err r) e = absurd (differ r (ap (λ (x : ReadResult). x.number) e))
  where
    differ : (r : Refusal) → 0 ≡ number r → ⊥
    differ r e = omega (arith, number_positive r)
numbered_names (Err r) (Ok p) e = absurd (differ r (ap (λ (x : ReadResult). x.number) e))
  where
    differ : (r : Refusal) → number r ≡ 0 → ⊥
    differ r e = omega (arith, number_positive r)
numbered_names (Err a) (Err b) e = ap Err (number_names a b (ap (λ (x : ReadResult). x.number) e))
