-- Lists as arrays of fixed length, as lent space, and parts of them.
use Rattle.std.specs.Prelude.{ℕ, ◌-◌, List, [], ◌++◌, cond, ◌||◌, ltb, length, drop, replicate}
use Rattle.std.proofs.Math.Seq.{slice}

-- so many elements, filled up at the end
abbrev pub filled : {A : Type 0} → A → ℕ → List A → List A
filled z n xs = xs ++ replicate (n - length xs) z

-- x in the place of as many elements at the front; the others stay
abbrev pub over : List ℕ → List ℕ → List ℕ
over x l = x ++ drop (length x) l

-- the elements from one place up to another; nothing where these do not lie within the list
abbrev pub part : ℕ → ℕ → List ℕ → List ℕ
part from to l = cond (ltb to from || ltb (length l) to) [] (slice from to l)
