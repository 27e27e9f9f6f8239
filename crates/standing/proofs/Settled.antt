-- What was read and is acted upon, by its part.
use mathlib.Core.Path.{◌≡◌, refl, ap, sym}
use mathlib.Core.Bool.{Bool, true, cond, true≢false}
use borrow.Author.Tests.{eq-eqb, ne_eqb}
use Rattle.parts.specs.declared.Part.{Part}
use Rattle.parts.specs.declared.Part.TheVariants.{Kind, Types, Red, Length, Low, Piece, Time, Opened, Packet, Ended, Broken}
use Rattle.parts.specs.Bytes.{going}
use Rattle.journal_spec.specs.Lines.{broken_line}
use Rattle.standing.specs.Standing.{Standing, closed, settled, settled_at, waits}

pub settled_at_lem : (c : Standing) (q : Part) → c.reading.part ≡ q → settled c ≡ settled_at q c
unfolding settled
settled_at_lem c q e = ap (λ (x : Part). settled_at x c) e

-- where reading goes on, only the limit is looked at
pub waits_at : (q : Part) (c : Standing) → going q ≡ true → settled_at q c ≡ waits c
waits_at Kind c h = refl
waits_at Types c h = refl
waits_at (Red a) c h = refl
waits_at Length c h = refl
waits_at (Low a) c h = refl
waits_at (Piece n) c h = refl
waits_at (Time n) c h = refl
waits_at (Opened a b) c h = absurd (true≢false (sym h))
waits_at Packet c h = absurd (true≢false (sym h))
waits_at Ended c h = absurd (true≢false (sym h))
waits_at Broken c h = absurd (true≢false (sym h))

pub at_limit : (c : Standing) → c.left ≡ 0 → closed c Broken broken_line ≡ waits c
at_limit c z = sym (ap (λ (b : Bool). cond b (closed c Broken broken_line) c) (eq-eqb c.left 0 z))

pub before_limit : (c : Standing) → (c.left ≡ 0 → ⊥) → c ≡ waits c
before_limit c n = sym (ap (λ (b : Bool). cond b (closed c Broken broken_line) c) (ne_eqb c.left 0 n))
