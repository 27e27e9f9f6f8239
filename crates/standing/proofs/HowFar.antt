-- How far a call gets: what may still be read, and what is due.
use Prim.Native.Nat.{ℕ, ◌+◌, ◌-◌, ◌*◌, ◌<◌, ◌≤◌, min}
use mathlib.Core.Path.{◌≡◌, ◌∙◌, refl, ap, sym}
use mathlib.Core.List.{List}
use mathlib.Core.Bool.{Bool, true, false, cond, ◌&&◌, true≢false}
use native.Mathlib.Omega.{arith}
use borrow.Author.Tests.{eqb-true, eqb-false, eq-eqb}
use lib.Dec.{eqb}
use lib.ListN.{length, take, drop, length-take, length-drop}
use Rattle.parts.specs.declared.Part.{Part}
use Rattle.parts.specs.declared.Part.TheVariants.{Kind, Types, Red, Length, Low, Piece, Time, Opened, Packet, Ended, Broken}
use Rattle.parts.specs.Bytes.{Reading, read_to, unread, going}
use Rattle.journal_spec.specs.Lines.{broken_line}
use Rattle.standing.specs.Standing.{Standing, closed, settled, settled_at, waits, read_on, hungry, nothing_due, take_of, used_of, give_of, given_of, marks_in, text_fits, stop_of}
use Rattle.printing.proofs.Fitting.{fitting_length, fitting_fits}
use Rattle.standing.proofs.Unread.{unread_less, goes_on}
use Rattle.standing.proofs.Settled.{waits_at}

pub stop_on : (c : Standing) → hungry c ≡ true → closed c Broken broken_line ≡ stop_of c
unfolding stop_of
stop_on c h = sym (ap (λ (t : Bool). cond t (closed c Broken broken_line) c) h)

pub stop_off : (c : Standing) → hungry c ≡ false → c ≡ stop_of c
unfolding stop_of
stop_off c h = sym (ap (λ (t : Bool). cond t (closed c Broken broken_line) c) h)

waits_left : (c : Standing) → (waits c).left ≡ c.left
waits_left c = go (eqb c.left 0)
  where
    go : (b : Bool) → (cond b (closed c Broken broken_line) c).left ≡ c.left
    go true = refl
    go false = refl

settled_left : (q : Part) (c : Standing) → (settled_at q c).left ≡ c.left
settled_left (Opened a b) c = refl
settled_left Packet c = refl
settled_left Ended c = refl
settled_left Broken c = refl
settled_left Kind c = waits_left c
settled_left Types c = waits_left c
settled_left (Red a) c = waits_left c
settled_left Length c = waits_left c
settled_left (Low a) c = waits_left c
settled_left (Piece n) c = waits_left c
settled_left (Time n) c = waits_left c

-- what was used may no longer be read
pub take_left : (c : Standing) (x : List ℕ) → (take_of c x).left + used_of c x ≡ c.left
unfolding take_of used_of settled
take_left c x = go (hungry c)
  where
    used : ℕ
    used = length (take c.left x) - length (unread c.reading (take c.left x))

    go : (b : Bool) → (cond b (settled_at (read_to c.reading (take c.left x)).part (read_on c (read_to c.reading (take c.left x)) (c.left - cond b used 0))) c).left + cond b used 0 ≡ c.left
    go true =
        rw (settled_left (read_to c.reading (take c.left x)).part (read_on c (read_to c.reading (take c.left x)) (c.left - used)))
        (omega (arith, length-take c.left x))
    go false = omega arith

pub give_left : (c : Standing) (n : ℕ) → (give_of c n).left ≡ c.left
unfolding give_of
give_left c n = refl

pub given_length : (c : Standing) (n : ℕ) → length (given_of c n) ≡ 3 * marks_in c n + text_fits c n
unfolding given_of
given_length c n = fitting_length c.marks c.text n

abbrev pub rest : Standing → ℕ → Standing
rest c n = record {
  reading = c.reading;
  receiver = c.receiver;
  counts = c.counts;
  left = c.left;
  marks = c.marks - marks_in c n;
  text = drop (text_fits c n) c.text;
}

pub gives_rest : (c : Standing) (n : ℕ) → give_of c n ≡ rest c n
unfolding give_of
gives_rest c n = refl

-- `take` uses no more than it is lent
pub used_fits : (c : Standing) (x : List ℕ) → used_of c x ≤ length x
unfolding used_of
used_fits c x = go (hungry c)
  where
    go : (b : Bool) → cond b (length (take c.left x) - length (unread c.reading (take c.left x))) 0 ≤ length x
    go true = omega (arith, length-take c.left x)
    go false = omega arith

used_some : (c : Standing) (x : List ℕ) → hungry c ≡ true → length (unread c.reading (take c.left x)) < length (take c.left x) → 0 < used_of c x
unfolding used_of
used_some c x h l = rw h (omega arith)

-- at the limit reading ends
none_left : (c : Standing) (r : Reading) (n : ℕ) → going r.part ≡ true → n ≡ 0 → going (settled (read_on c r n)).reading.part ≡ false
unfolding settled
none_left c r n g z =
    ap (λ (w : Standing). going w.reading.part) (waits_at r.part (read_on c r n) g)
    ∙ ap (λ (b : Bool). going (cond b (closed (read_on c r n) Broken broken_line) (read_on c r n)).reading.part) (eq-eqb n 0 z)

none_read : (r : Reading) (n : ℕ) (x : List ℕ) → n ≡ 0 → read_to r (take n x) ≡ r
unfolding read_to
none_read r n x z = ap (λ (k : ℕ). read_to r (take k x)) z

ends_at_limit : (c : Standing) (x : List ℕ) → hungry c ≡ true → c.left ≡ 0 → going (take_of c x).reading.part ≡ false
unfolding take_of
ends_at_limit c x h z =
    rw h
    (ap (λ (r : Reading). going (settled (read_on c r (c.left - used_of c x))).reading.part) (none_read c.reading c.left x z)
    ∙ none_left c c.reading (c.left - used_of c x) (goes_on c h) (omega arith))

-- where nothing is due, `take` uses a byte of what it is lent, or reading ends
pub takes_some : (c : Standing) (x : List ℕ) → hungry c ≡ true → 0 < length x → going (take_of c x).reading.part ≡ true → 0 < used_of c x
takes_some c x h some still = go (eqb c.left 0) refl
  where
    go : (b : Bool) → eqb c.left 0 ≡ b → 0 < used_of c x
    go true e = absurd (true≢false (sym still ∙ ends_at_limit c x h (eqb-true c.left 0 e)))
    go false e =
        let l : 0 < length (take c.left x) = omega (arith, length-take c.left x, eqb-false c.left 0 e) in
        used_some c x h (unread_less c.reading (take c.left x) (goes_on c h) l)

pub given_fits : (c : Standing) (n : ℕ) → length (given_of c n) ≤ n
given_fits c n = omega (arith, given_length c n, (fitting_fits c.marks c.text n).0)

-- where something stays due, a mark has no room, or the space is full
pub leaves_no_room : (c : Standing) (n : ℕ) → nothing_due (give_of c n) ≡ false → n < length (given_of c n) + 3
unfolding give_of
leaves_no_room c n h = rw (given_length c n) (go (eqb (marks_in c n) c.marks) refl)
  where
    go : (a : Bool) → eqb (marks_in c n) c.marks ≡ a → n < 3 * marks_in c n + cond a (min (n - 3 * marks_in c n) (length c.text)) 0 + 3
    go false e = let few = eqb-false (marks_in c n) c.marks e in omega arith
    go true e = text (eqb (c.marks - marks_in c n) 0) refl (eqb (length (drop (text_fits c n) c.text)) 0) refl h
      where
        all : marks_in c n ≡ c.marks
        all = eqb-true (marks_in c n) c.marks e

        much : text_fits c n ≡ min (n - 3 * marks_in c n) (length c.text)
        much = ap (λ (t : Bool). cond t (min (n - 3 * marks_in c n) (length c.text)) 0) e

        text : (b : Bool) → eqb (c.marks - marks_in c n) 0 ≡ b → (d : Bool) → eqb (length (drop (text_fits c n) c.text)) 0 ≡ d → b && d ≡ false
            → n < 3 * marks_in c n + min (n - 3 * marks_in c n) (length c.text) + 3
        text true f true g z = absurd (true≢false z)
        text true f false g z = omega (arith, much, eqb-false (length (drop (text_fits c n) c.text)) 0 g, length-drop (text_fits c n) c.text)
        text false f d g z = absurd (eqb-false (c.marks - marks_in c n) 0 f (omega (arith, all)))
