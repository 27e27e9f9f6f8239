-- What is still to be given, and what each call leaves of it.
use Prim.Native.Nat.{ℕ, zero, suc, ◌+◌, ◌-◌, ◌*◌, ◌/◌, ◌≤◌, min}
use mathlib.Core.Path.{◌≡◌, ◌∙◌, refl, ap, sym}
use mathlib.Core.List.{List, [], ◌∷◌, ◌++◌, append_assoc, append-nil}
use mathlib.Core.Bool.{Bool, true, false, cond, ◌&&◌, true≢false}
use native.Mathlib.Omega.{arith}
use borrow.Author.Tests.{eqb-true}
use lib.Dec.{eqb}
use lib.ListN.{length, take, drop, take-append-drop}
use lib.Seq.{take-nil, drop-append-le}
use Rattle.parts.specs.declared.Part.{Part}
use Rattle.parts.specs.declared.Part.TheVariants.{Kind, Types, Red, Length, Low, Piece, Time, Opened, Packet, Ended, Broken}
use Rattle.receiver_spec.specs.Marks.{marks, mark_bytes}
use Rattle.journal_spec.specs.Contents.{Contents}
use Rattle.parts.specs.Bytes.{Reading, read_to, unread, going, byte, tells, telling, past}
use Rattle.journal_spec.specs.Lines.{broken_line}
use Rattle.counts.specs.Counts.{line_of}
use Rattle.standing.specs.Standing.{Standing, closed, settled, settled_at, waits, take_of, used_of, hungry, read_on, give_of, given_of, marks_in, stop_of}
use Rattle.counts.proofs.KeptCounts.{told}
use Rattle.base.proofs.Fronts.{empty, take_more, drop_take}
use Rattle.standing.proofs.Unread.{unread_short, goes_on}

marks_add : (m n : ℕ) → marks m ++ marks n ≡ marks (m + n)
marks_add zero n = rw (zero_plus n)
  where
    zero_plus : (n : ℕ) → 0 + n ≡ n
    zero_plus n = omega arith
marks_add (suc m) n = let z : suc m + n ≡ suc (m + n) = omega arith in rw z (ap (λ (l : List ℕ). mark_bytes ++ l) (marks_add m n))

-- what is still to be given, if the journal goes on with rest
abbrev pub owed : Standing → List ℕ → List ℕ
owed c rest =
    marks c.marks ++ c.text
    ++ cond (going c.reading.part) (told c.receiver c.counts (tells c.reading (take c.left rest))) []

-- what is told from a reading on that may have stopped
abbrev tells_at : Part → Reading → List ℕ → Contents
tells_at Kind r z = tells r z
tells_at Types r z = tells r z
tells_at (Red a) r z = tells r z
tells_at Length r z = tells r z
tells_at (Low a) r z = tells r z
tells_at (Piece n) r z = tells r z
tells_at (Time n) r z = tells r z
tells_at (Opened a b) r z = telling (Opened a b) r (tells (past (Opened a b) r) z)
tells_at Packet r z = telling Packet r (tells (past Packet r) z)
tells_at Ended r z = telling Ended r (tells (past Ended r) z)
tells_at Broken r z = telling Broken r (tells (past Broken r) z)

tell_at : (q : Part) (r : Reading) (z : List ℕ) → telling q r (tells (past q r) z) ≡ tells_at q r z
tell_at Kind r z = refl
tell_at Types r z = refl
tell_at (Red a) r z = refl
tell_at Length r z = refl
tell_at (Low a) r z = refl
tell_at (Piece n) r z = refl
tell_at (Time n) r z = refl
tell_at (Opened a b) r z = refl
tell_at Packet r z = refl
tell_at Ended r z = refl
tell_at Broken r z = refl

at_going : (q : Part) (r : Reading) (z : List ℕ) → going q ≡ true → tells_at q r z ≡ tells r z
at_going Kind r z h = refl
at_going Types r z h = refl
at_going (Red a) r z h = refl
at_going Length r z h = refl
at_going (Low a) r z h = refl
at_going (Piece n) r z h = refl
at_going (Time n) r z h = refl
at_going (Opened a b) r z h = absurd (true≢false (sym h))
at_going Packet r z h = absurd (true≢false (sym h))
at_going Ended r z h = absurd (true≢false (sym h))
at_going Broken r z h = absurd (true≢false (sym h))

-- reading that has stopped stays
stop_to : (r : Reading) (x : List ℕ) → going r.part ≡ false → (read_to r x ≡ r) × (unread r x ≡ x)
unfolding read_to unread
stop_to r [] h = (refl, refl)
stop_to r (b ∷ bs) h = (simp h, simp h)

-- what is told of x and then y, by where reading stops in x
run : (r : Reading) (x y : List ℕ) → going r.part ≡ true → tells r (x ++ y) ≡ tells_at (read_to r x).part (read_to r x) (unread r x ++ y)
unfolding tells read_to unread
run r [] y g = sym (at_going r.part r y g)
run r (b ∷ bs) y g = rw g (tell_at (byte r b).part (byte r b) (bs ++ y) ∙ go (going (byte r b).part) refl (run (byte r b) bs y))
  where
    go : (t : Bool) → going (byte r b).part ≡ t
        → (going (byte r b).part ≡ true → tells (byte r b) (bs ++ y) ≡ tells_at (read_to (byte r b) bs).part (read_to (byte r b) bs) (unread (byte r b) bs ++ y))
        → tells_at (byte r b).part (byte r b) (bs ++ y) ≡ tells_at (read_to (byte r b) bs).part (read_to (byte r b) bs) (unread (byte r b) bs ++ y)
    go true e ih = at_going (byte r b).part (byte r b) (bs ++ y) e ∙ ih e
    go false e ih = λ i. tells_at (sym (stop_to (byte r b) bs e).0 i).part (sym (stop_to (byte r b) bs e).0 i) (sym (stop_to (byte r b) bs e).1 i ++ y)

-- what is unread is the end of what was given
suffix : (r : Reading) (x : List ℕ) → drop (length x - length (unread r x)) x ≡ unread r x
unfolding unread
suffix r [] = refl
suffix r (b ∷ bs) = go (going r.part) (suffix (byte r b) bs)
  where
    go : (t : Bool) → drop (length bs - length (unread (byte r b) bs)) bs ≡ unread (byte r b) bs
        → drop (suc (length bs) - length (cond t (unread (byte r b) bs) (b ∷ bs))) (b ∷ bs) ≡ cond t (unread (byte r b) bs) (b ∷ bs)
    go true h =
        let k = unread_short (byte r b) bs in
        let z : suc (length bs) - length (unread (byte r b) bs) ≡ suc (length bs - length (unread (byte r b) bs)) = omega arith in
        rw z h
    go false h = let z : suc (length bs) - suc (length bs) ≡ 0 = omega arith in rw z

-- what was read and is acted upon owes what is told from there
module _ (c : Standing) (m : c.marks ≡ 0) (t : c.text ≡ []) (rest : List ℕ) where
  abbrev told_at : Part → List ℕ
  told_at q = told c.receiver c.counts (tells_at q c.reading (take c.left rest))

  wait_owed : going c.reading.part ≡ true → told c.receiver c.counts (tells c.reading (take c.left rest)) ≡ owed (waits c) rest
  unfolding told tells
  wait_owed g = go (eqb c.left 0) refl
    where
      go : (b : Bool) → eqb c.left 0 ≡ b → told c.receiver c.counts (tells c.reading (take c.left rest)) ≡ owed (cond b (closed c Broken broken_line) c) rest
      go true e = let z : c.left ≡ 0 = eqb-true c.left 0 e in rw z
      go false e = rw (m, t, g)

  settled_owed : (q : Part) → c.reading.part ≡ q → told_at q ≡ owed (settled_at q c) rest
  unfolding told
  settled_owed Kind e = wait_owed (ap going e)
  settled_owed Types e = wait_owed (ap going e)
  settled_owed (Red a) e = wait_owed (ap going e)
  settled_owed Length e = wait_owed (ap going e)
  settled_owed (Low a) e = wait_owed (ap going e)
  settled_owed (Piece n) e = wait_owed (ap going e)
  settled_owed (Time n) e = wait_owed (ap going e)
  settled_owed (Opened a b) e = refl
  settled_owed Packet e = refl
  settled_owed Ended e = sym (append-nil (line_of c.counts))
  settled_owed Broken e = refl

less : (a b : ℕ) → a - b ≤ a
less a b = omega arith

min_left : (a b : ℕ) → min a b ≤ a
min_left a b = omega arith

abbrev used' : Standing → List ℕ → ℕ
used' c x = length (take c.left x) - length (unread c.reading (take c.left x))

all_marks : (a m k : ℕ) (t e : List ℕ) → m ≡ a → (marks a ++ t) ++ e ≡ (marks m ++ take k t) ++ ((marks (a - m) ++ drop k t) ++ e)
all_marks a m k t e h =
    let z : a - m ≡ 0 = omega arith in
    rw (z, h)
    (append_assoc (marks a) t e
    ∙ ap (λ (l : List ℕ). marks a ++ l) (ap (λ (l : List ℕ). l ++ e) (sym (take-append-drop k t)) ∙ append_assoc (take k t) (drop k t) e)
    ∙ sym (append_assoc (marks a) (take k t) (drop k t ++ e)))

some_marks : (a m : ℕ) (t e : List ℕ) → m ≤ a → (marks a ++ t) ++ e ≡ (marks m ++ []) ++ ((marks (a - m) ++ t) ++ e)
some_marks a m t e h =
    let z : m + (a - m) ≡ a = omega arith in
    let split : marks a ≡ marks m ++ marks (a - m) = sym (marks_add m (a - m) ∙ ap marks z) in
    rw (append-nil (marks m)) (ap (λ (l : List ℕ). (l ++ t) ++ e) split ∙ regroup (marks m) (marks (a - m)) t e)
  where
    regroup : (a b c d : List ℕ) → ((a ++ b) ++ c) ++ d ≡ a ++ ((b ++ c) ++ d)
    regroup a b c d = simp append_assoc

-- what `hungry` says
hungry_says : (c : Standing) → hungry c ≡ true → (c.marks ≡ 0) × (c.text ≡ [])
hungry_says c h = go (going c.reading.part) (eqb c.marks 0) refl (eqb (length c.text) 0) refl h
  where
    go : (a b : Bool) → eqb c.marks 0 ≡ b → (d : Bool) → eqb (length c.text) 0 ≡ d → a && (b && d) ≡ true → (c.marks ≡ 0) × (c.text ≡ [])
    go true true e true f z = (eqb-true c.marks 0 e, empty c.text (eqb-true (length c.text) 0 f))
    go true true e false f z = absurd (true≢false (sym z))
    go true false e d f z = absurd (true≢false (sym z))
    go false b e d f z = absurd (true≢false (sym z))

module _ (c : Standing) (x more : List ℕ) (q : hungry c ≡ true) where
  abbrev X : List ℕ
  X = take c.left x

  abbrev Y : List ℕ
  Y = take (c.left - length x) more

  abbrev used : ℕ
  used = length X - length (unread c.reading X)

  rest_is : take (c.left - used) (drop used (x ++ more)) ≡ unread c.reading X ++ Y
  rest_is =
      sym (drop_take used c.left (x ++ more))
      ∙ ap (drop used) (take_more c.left x more)
      ∙ drop-append-le used X Y (less (length X) (length (unread c.reading X)))
      ∙ ap (λ (l : List ℕ). l ++ Y) (suffix c.reading X)

  abbrev c₁ : Standing
  c₁ = read_on c (read_to c.reading X) (c.left - used)

  now_owed : owed c (x ++ more) ≡ told c.receiver c.counts (tells c.reading (take c.left (x ++ more)))
  now_owed = rw ((hungry_says c q).0, (hungry_says c q).1, goes_on c q)

  take_hungry : owed c (x ++ more) ≡ owed (settled c₁) (drop used (x ++ more))
  unfolding settled
  take_hungry =
      now_owed
      ∙ ap (λ (l : List ℕ). told c.receiver c.counts (tells c.reading l)) (take_more c.left x more)
      ∙ ap (told c.receiver c.counts) (run c.reading X Y (goes_on c q))
      ∙ ap (λ (l : List ℕ). told c.receiver c.counts (tells_at (read_to c.reading X).part (read_to c.reading X) l)) (sym rest_is)
      ∙ settled_owed c₁ refl refl (drop used (x ++ more)) (read_to c.reading X).part refl

-- a call of `take`
pub take_owed : (c : Standing) (x more : List ℕ) → owed c (x ++ more) ≡ owed (take_of c x) (drop (used_of c x) (x ++ more))
unfolding take_of used_of
take_owed c x more = go (hungry c) refl
  where
    go : (b : Bool) → hungry c ≡ b
        → owed c (x ++ more) ≡ owed (cond b (settled (read_on c (read_to c.reading (take c.left x)) (c.left - cond b (used' c x) 0))) c) (drop (cond b (used' c x) 0) (x ++ more))
    go true e = take_hungry c x more e
    go false e = refl

-- a call of `give`
pub give_owed : (c : Standing) (n : ℕ) (rest : List ℕ) → owed c rest ≡ given_of c n ++ owed (give_of c n) rest
unfolding given_of give_of
give_owed c n rest = go (eqb (marks_in c n) c.marks) refl
  where
    E : List ℕ
    E = cond (going c.reading.part) (told c.receiver c.counts (tells c.reading (take c.left rest))) []

    go : (b : Bool) → eqb (marks_in c n) c.marks ≡ b
        → (marks c.marks ++ c.text) ++ E
        ≡ (marks (marks_in c n) ++ take (cond b (min (n - 3 * marks_in c n) (length c.text)) 0) c.text)
        ++ ((marks (c.marks - marks_in c n) ++ drop (cond b (min (n - 3 * marks_in c n) (length c.text)) 0) c.text) ++ E)
    go true e = all_marks c.marks (marks_in c n) (min (n - 3 * marks_in c n) (length c.text)) c.text E (eqb-true (marks_in c n) c.marks e)
    go false e = some_marks c.marks (marks_in c n) c.text E (min_left c.marks (n / 3))

-- a call of `stop`
pub stop_owed : (c : Standing) → owed c [] ≡ owed (stop_of c) []
unfolding stop_of told tells
stop_owed c = go (hungry c) refl
  where
    go : (b : Bool) → hungry c ≡ b → owed c [] ≡ owed (cond b (closed c Broken broken_line) c) []
    go true e = rw ((hungry_says c e).0, (hungry_says c e).1, goes_on c e, take-nil c.left)
    go false e = refl
