-- What the definition of text answers: the number of letters, or the first place at which a text can no longer be well formed.
use Prim.Native.Nat.{ℕ, suc, ◌+◌, ◌<◌, ◌≤◌}
use mathlib.Core.Path.{◌≡◌, ◌∙◌, refl, ap, sym, subst}
use mathlib.Core.List.{List, [], ◌∷◌, ◌++◌}
use mathlib.Core.Option.{Option, none, some}
use native.Mathlib.Nat.{add-zero, zero-add}
use native.Mathlib.Numerals.{add-one}
use native.Mathlib.Omega.{arith}
use lib.ListN.{length, take}
use Rattle.text_spec.specs.Utf8.{Text, Characters, Stops, Range, owed_after, begins, if_owed, text_from, text_of}
use Rattle.text_spec.specs.WellFormed.{Matches, end, byte, Letter, Letters, empty, more}
use Rattle.text_spec.proofs.Walks.{text_on, text_stops}
use Rattle.text_spec.proofs.Table.{never, begins_row, Step, new, on, stepped, Proper, step_proper, paid}

-- the bytes that a letter still owes, and so many letters after them
record Ends (owed : List Range) (n : ℕ) (s : List ℕ) : Type 0 where
  owing : List ℕ
  others : List ℕ
  matches : Matches owed owing
  letters : Letters n others
  joined : s ≡ owing ++ others

ends_on : {owed : List Range} {b : ℕ} {rest : List Range} {n : ℕ} {s : List ℕ}
    → Step owed b rest → Ends rest n s → Ends owed (n + begins owed) (b ∷ s)
ends_on {n} {s} (new {b} x) f =
    let y : Matches x.by.rest f.owing = rw x.others f.matches in
    let l : Letter (b ∷ f.owing) = record { by = x.by; listed = x.listed; bytes = byte x.first y } in
    record { owing = []; others = b ∷ s; matches = end; letters = rw (f.joined, add-one) (more l f.letters); joined = refl }
ends_on (on {b} w) f =
    record {
      owing = b ∷ f.owing;
      others = f.others;
      matches = byte w f.matches;
      letters = rw add-zero f.letters;
      joined = ap (b ∷◌) f.joined;
    }

ends : (s : List ℕ) (owed : List Range) (m at n : ℕ) → text_from owed m at s ≡ Characters n → (k : ℕ) × (n ≡ m + k) × Ends owed k s
ends [] [] m at n e = (0, rw add-zero cc, record { owing = []; others = []; matches = end; letters = empty; joined = refl })
ends [] (r ∷ rs) m at n e = never cc
ends (b ∷ bs) owed m at n e = go (owed_after owed b) refl e (λ rest. ends bs rest (m + begins owed) (at + 1) n)
  where
    go : (o : Option (List Range)) → owed_after owed b ≡ o
        → if_owed o (λ rest. text_from rest (m + begins owed) (at + 1) bs) (Stops at) ≡ Characters n
        → ((rest : List Range) → text_from rest (m + begins owed) (at + 1) bs ≡ Characters n → (k : ℕ) × (n ≡ m + begins owed + k) × Ends rest k bs)
        → (k : ℕ) × (n ≡ m + k) × Ends owed k (b ∷ bs)
    go none p e f = never cc
    go (some rest) p e f = let (k, q, x) = f rest e in (k + begins owed, omega arith, ends_on (stepped owed b p) x)

nothing_owed : {n : ℕ} {s : List ℕ} → Ends [] n s → Letters n s
nothing_owed {n} {s} x = go x.matches x.joined
  where
    go : {l : List ℕ} → Matches [] l → s ≡ l ++ x.others → Letters n s
    go end p = rw p x.letters

pub characters_are_letters : (s : List ℕ) (n : ℕ) → text_of s ≡ Characters n → Letters n s
characters_are_letters s n e =
    let (k, q, x) = ends s [] 0 0 n e in
    let p : k ≡ n = omega arith in
    subst (λ (i : ℕ). Letters i s) p (nothing_owed x)

-- what is owed is passed over, whatever the place
module _ (s : List ℕ) (m : ℕ) (a : Text) where
  pass_owed : {rs : List Range} {l : List ℕ} → Matches rs l → ((at : ℕ) → text_from [] m at s ≡ a) → (at : ℕ) → text_from rs m at (l ++ s) ≡ a
  pass_owed end f at = f at
  pass_owed (byte w y) f at = rw (w, add-zero) (pass_owed y f (at + 1))

pass_letter : {l : List ℕ} → Letter l → (s : List ℕ) (m : ℕ) (a : Text)
    → ((at : ℕ) → text_from [] (m + 1) at s ≡ a) → (at : ℕ) → text_from [] m at (l ++ s) ≡ a
pass_letter x s m a f at = go x.bytes
  where
    go : {l : List ℕ} → Matches (x.by.first ∷ x.by.rest) l → text_from [] m at (l ++ s) ≡ a
    go (byte {b} {bs} w y) = text_on [] m at b (bs ++ s) (begins_row b w x.listed) ∙ pass_owed s (m + 1) a y f (at + 1)

counted : {n : ℕ} {s : List ℕ} → Letters n s → (m at : ℕ) → text_from [] m at s ≡ Characters (m + n)
counted empty m at = rw add-zero
counted (more {n} {s} x y) m at =
    let p : m + 1 + n ≡ m + suc n = omega arith in
    pass_letter x s m (Characters (m + suc n)) (λ k. rw p at (counted y (m + 1) k)) at

pub letters_are_characters : (s : List ℕ) (n : ℕ) → Letters n s → text_of s ≡ Characters n
letters_are_characters s n x = rw zero-add at (counted x 0 0)

-- what it is to stop after so many bytes
record Halts (owed : List Range) (m at : ℕ) (s : List ℕ) (k : ℕ) : Type 0 where
  fits : k ≤ length s
  before : (t : List ℕ) × (n : ℕ) × (text_from owed m at (take k s ++ t) ≡ Characters n)
  there : k < length s → (t : List ℕ) (n : ℕ) → text_from owed m at (take (suc k) s ++ t) ≡ Characters n → ⊥

finish : (owed : List Range) (m at : ℕ) → Proper owed → (t : List ℕ) × (n : ℕ) × (text_from owed m at t ≡ Characters n)
finish owed m at p = let (t, x) = paid owed p in (t ++ [], m, pass_owed [] m (Characters m) x (λ i. refl) at)

halts_here : (owed : List Range) (m at b : ℕ) (bs : List ℕ) → Proper owed → owed_after owed b ≡ none → Halts owed m at (b ∷ bs) 0
halts_here owed m at b bs p q =
    record { fits = omega arith; before = finish owed m at p; there = λ h t n c. never (cc (text_stops owed m at b t q)) }

halts_on : (owed : List Range) (m at b : ℕ) (bs : List ℕ) {rest : List Range} {i : ℕ}
    → owed_after owed b ≡ some rest → Halts rest (m + begins owed) (at + 1) bs i → Halts owed m at (b ∷ bs) (suc i)
halts_on owed m at b bs {i} q h =
    let (t, n, c) = h.before in
    record {
      fits = omega arith;
      before = (t, n, text_on owed m at b (take i bs ++ t) q ∙ c);
      there = λ l t n c. h.there (omega arith) t n (sym (text_on owed m at b (take (suc i) bs ++ t) q) ∙ c);
    }

halts : (s : List ℕ) (owed : List Range) (m at k : ℕ) → Proper owed → text_from owed m at s ≡ Stops k → (i : ℕ) × (k ≡ at + i) × Halts owed m at s i
halts [] [] m at k p e = never cc
halts [] (r ∷ rs) m at k p e =
    (0, rw add-zero cc, record { fits = omega arith; before = finish (r ∷ rs) m at p; there = λ h. absurd (omega arith) })
halts (b ∷ bs) owed m at k p e = go (owed_after owed b) refl e (λ rest. halts bs rest (m + begins owed) (at + 1) k)
  where
    go : (o : Option (List Range)) → owed_after owed b ≡ o
        → if_owed o (λ rest. text_from rest (m + begins owed) (at + 1) bs) (Stops at) ≡ Stops k
        → ((rest : List Range) → Proper rest → text_from rest (m + begins owed) (at + 1) bs ≡ Stops k
        → (i : ℕ) × (k ≡ at + 1 + i) × Halts rest (m + begins owed) (at + 1) bs i)
        → (i : ℕ) × (k ≡ at + i) × Halts owed m at (b ∷ bs) i
    go none q e f = (0, rw add-zero cc, halts_here owed m at b bs p q)
    go (some rest) q e f = let (i, g, h) = f rest (step_proper (stepped owed b q) p) e in (suc i, omega arith, halts_on owed m at b bs q h)

halted : (s : List ℕ) (k : ℕ) → text_of s ≡ Stops k → Halts [] 0 0 s k
halted s k e = let (i, p, h) = halts s [] 0 0 k tt e in let q : i ≡ k = omega arith in subst (Halts [] 0 0 s) q h

pub stops_within : (s : List ℕ) (k : ℕ) → text_of s ≡ Stops k → k ≤ length s
stops_within s k e = (halted s k e).fits

-- the bytes before the place can still become well formed
pub stops_no_sooner : (s : List ℕ) (k : ℕ) → text_of s ≡ Stops k → (t : List ℕ) × (n : ℕ) × Letters n (take k s ++ t)
stops_no_sooner s k e = let (t, n, c) = (halted s k e).before in (t, n, characters_are_letters (take k s ++ t) n c)

-- with the byte at the place they cannot
pub stops_there : (s : List ℕ) (k : ℕ) → text_of s ≡ Stops k → k < length s → (t : List ℕ) (n : ℕ) → Letters n (take (suc k) s ++ t) → ⊥
stops_there s k e l t n x = (halted s k e).there l t n (letters_are_characters (take (suc k) s ++ t) n x)
