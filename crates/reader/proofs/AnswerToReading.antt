-- From the reader's answer back to the reading: a refusal's number is never 0, so the number says which of the two it is.
use Rattle.std.proofs.Common.{◌≡◌, ℕ, List, refl, ap, sym, arith}
use Rattle.std.specs.Prelude.{Ok, Err}
use Rattle.packet.specs.declared.Packet.{Packet}
use Rattle.packet.specs.declared.Refusal.{Refusal}
use Rattle.packet_spec.specs.Reading.{Content, Read, holds, refused}
use Rattle.packet.specs.Refusal.{number}
use Rattle.packet.specs.Places.{ReadResult, numbered, placed, answer}
use Rattle.packet_spec.proofs.RefusalNumbers.{Positive}
use Rattle.packet.proofs.Names.{number_positive}

module _ (p : List ℕ) where
  pub was_refused_lem : (k : Refusal) (r : Read) → numbered (Err k) ≡ answer p r → r ≡ refused (number k)
  was_refused_lem k (refused j) e = ap refused (sym (ap (λ (a : ReadResult). a.number) e))
  was_refused_lem k (holds c) e =
      let z : number k ≡ 0 = ap (λ (a : ReadResult). a.number) e in
      absurd (omega (arith, number_positive k))

  pub was_accepted : (x : Packet) (r : Read) → Positive r → numbered (Ok x) ≡ answer p r → (c : Content) × (r ≡ holds c) × (x ≡ placed p c)
  was_accepted x (refused j) h e =
      let z : 0 ≡ j = ap (λ (a : ReadResult). a.number) e in
      absurd (omega arith)
  was_accepted x (holds c) h e = (c, refl, ap (λ (a : ReadResult). a.packet) e)
