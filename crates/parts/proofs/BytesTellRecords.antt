-- Reading byte by byte tells what the records tell.
use Prim.Native.Nat.{ℕ, zero, suc, ◌≤◌}
use mathlib.Core.Path.{◌≡◌, ◌∙◌, refl, ap, sym}
use mathlib.Core.List.{List, [], ◌∷◌, ◌++◌}
use mathlib.Core.Bool.{Bool, true, false, cond, true≢false}
use native.Mathlib.Omega.{arith}
use borrow.Author.Tests.{lt-ltb, le-ltb, eqb-true, eqb-false}
use lib.Dec.{ltb, eqb}
use lib.ListN.{length, take, drop, get_or, length-drop}
use lib.Seq.{take-nil}
use Rattle.parts.specs.declared.Part.{Part}
use Rattle.parts.specs.declared.Part.TheVariants.{Kind, Types, Length, Piece, Time, Opened, Packet, Ended, Broken}
use Rattle.packet_spec.specs.Header.{types_bad, be16}
use Rattle.journal_spec.specs.Records.{Record, ending, opening, beginning, piece, time, bad, body_length, first_of, records_up_to}
use Rattle.journal_spec.specs.Contents.{packet, ends, breaks, opens, Stage, unopened, between, within, are_zeros, longest_packet, contents_of, limit, journal_of}
use Rattle.parts.specs.Bytes.{fresh_reading, at, kind_of, record_begun, pieced, tells}
use Rattle.parts.proofs.Spans.{reading, onward, tells_nil, tells_cons, timed, gathered, typed, sized}

-- how far the records are, where a reading is at a kind byte
abbrev stage : Bool → ℕ → List ℕ → Stage
stage o n ps = cond o (cond (ltb (length ps) n) (within n ps) between) unopened

nothing : (s : Stage) → contents_of s [] ≡ breaks
unfolding contents_of
nothing unopened = refl
nothing between = refl
nothing (within n ps) = refl

-- a record, by whether it is cut short, its kind and its body
abbrev chosen : Bool → Bool → Bool → Bool → Bool → Bool → List ℕ → Record
chosen short k0 k1 k2 k3 k4 body =
    cond short bad
    (cond k0 ending
    (cond k1 (opening (get_or body 0 0) (get_or body 1 0))
    (cond k2 (beginning (be16 body 0))
    (cond k3 (piece body)
    (cond k4 time bad)))))

-- a record of a kind that breaks the journal where it stands, whole or not
module _ (kind : ℕ) (rest : List ℕ) (rs : List Record) where
  abbrev BreaksAt : Stage → Bool → Bool → Bool → Bool → Bool → Type 0
  BreaksAt s k0 k1 k2 k3 k4 = (short : Bool) (body : List ℕ) → contents_of s (chosen short k0 k1 k2 k3 k4 body ∷ rs) ≡ breaks

  within_breaks : (n : ℕ) (ps : List ℕ) → eqb kind 3 ≡ false → contents_of (within n ps) (first_of kind rest ∷ rs) ≡ breaks
  unfolding contents_of
  within_breaks n ps h = go (eqb kind 0) (eqb kind 1) (eqb kind 2) (eqb kind 3) (eqb kind 4) h (ltb (length rest) (body_length kind)) (take (body_length kind) rest)
    where
      go : (k0 k1 k2 k3 k4 : Bool) → k3 ≡ false → BreaksAt (within n ps) k0 k1 k2 k3 k4
      go k0 k1 k2 k3 k4 e true body = refl
      go true k1 k2 k3 k4 e false body = refl
      go false true k2 k3 k4 e false body = refl
      go false false true k3 k4 e false body = refl
      go false false false true k4 e false body = absurd (true≢false e)
      go false false false false true e false body = refl
      go false false false false false e false body = refl

  between_breaks : eqb kind 4 ≡ false → eqb kind 2 ≡ false → eqb kind 0 ≡ false → contents_of between (first_of kind rest ∷ rs) ≡ breaks
  unfolding contents_of
  between_breaks h i j = go (eqb kind 0) (eqb kind 1) (eqb kind 2) (eqb kind 3) (eqb kind 4) h i j (ltb (length rest) (body_length kind)) (take (body_length kind) rest)
    where
      go : (k0 k1 k2 k3 k4 : Bool) → k4 ≡ false → k2 ≡ false → k0 ≡ false → BreaksAt between k0 k1 k2 k3 k4
      go k0 k1 k2 k3 k4 e f g true body = refl
      go true k1 k2 k3 k4 e f g false body = absurd (true≢false g)
      go false true k2 k3 k4 e f g false body = refl
      go false false true k3 k4 e f g false body = absurd (true≢false f)
      go false false false true k4 e f g false body = refl
      go false false false false true e f g false body = absurd (true≢false e)
      go false false false false false e f g false body = refl

  unopened_breaks : eqb kind 4 ≡ false → eqb kind 1 ≡ false → contents_of unopened (first_of kind rest ∷ rs) ≡ breaks
  unfolding contents_of
  unopened_breaks h i = go (eqb kind 0) (eqb kind 1) (eqb kind 2) (eqb kind 3) (eqb kind 4) h i (ltb (length rest) (body_length kind)) (take (body_length kind) rest)
    where
      go : (k0 k1 k2 k3 k4 : Bool) → k4 ≡ false → k1 ≡ false → BreaksAt unopened k0 k1 k2 k3 k4
      go k0 k1 k2 k3 k4 e f true body = refl
      go true k1 k2 k3 k4 e f false body = refl
      go false true k2 k3 k4 e f false body = absurd (true≢false f)
      go false false true k3 k4 e f false body = refl
      go false false false true k4 e f false body = refl
      go false false false false true e f false body = absurd (true≢false e)
      go false false false false false e f false body = refl

at_bad : (s : Stage) (rs : List Record) → breaks ≡ contents_of s (bad ∷ rs)
unfolding contents_of
at_bad unopened rs = refl
at_bad between rs = refl
at_bad (within n ps) rs = refl

at_end : (rs : List Record) → ends ≡ contents_of between (ending ∷ rs)
unfolding contents_of
at_end rs = refl

at_time : (rs : List Record) → contents_of between rs ≡ contents_of between (time ∷ rs)
unfolding contents_of
at_time rs = refl

at_time_first : (rs : List Record) → contents_of unopened rs ≡ contents_of unopened (time ∷ rs)
unfolding contents_of
at_time_first rs = refl

at_open : (t140 red : ℕ) (rs : List Record) → cond (types_bad t140 red) breaks (opens t140 red (contents_of between rs)) ≡ contents_of unopened (opening t140 red ∷ rs)
unfolding contents_of
at_open t140 red rs = refl

at_packet : (m : ℕ) (rs : List Record)
    → cond (ltb longest_packet m) breaks (cond (eqb m 0) (packet [] (contents_of between rs)) (contents_of (within m []) rs)) ≡ contents_of between (beginning m ∷ rs)
unfolding contents_of
at_packet m rs = refl

-- the first two bytes
front : (j : List ℕ) → (get_or (take 2 j) 0 0 ≡ get_or j 0 0) × (get_or (take 2 j) 1 0 ≡ get_or j 1 0)
front [] = (refl, refl)
front (a ∷ []) = (refl, refl)
front (a ∷ b ∷ j) = (refl, refl)

at_piece : (n : ℕ) (ps x : List ℕ) (rs : List Record)
    → cond (ltb (length (ps ++ x)) n) (contents_of (within n (ps ++ x)) rs)
    (cond (are_zeros (drop n (ps ++ x))) (packet (take n (ps ++ x)) (contents_of between rs)) breaks)
    ≡ contents_of (within n ps) (piece x ∷ rs)
unfolding contents_of
at_piece n ps x rs = refl

-- up to so many bytes the two agree, where a reading within a packet has been opened
abbrev Agrees : ℕ → Type 0
Agrees k = (o : Bool) (n : ℕ) (ps j : List ℕ) → length j ≤ k → (o ≡ false → ltb (length ps) n ≡ false)
    → tells (reading o Kind n ps) j ≡ contents_of (stage o n ps) (records_up_to k j)

-- the next record, by where the records are
module _ (k : ℕ) (agrees : Agrees k) (n : ℕ) (ps : List ℕ) (b : ℕ) (j : List ℕ) (few : length j ≤ k) where
  fewer : (m : ℕ) → length (drop m j) ≤ k
  fewer m = omega (arith, length-drop m j)

  -- the next byte, which begins a record, tells what the record tells
  abbrev Next : Bool → Stage → Part → Type 0
  Next o s q = onward (at (reading o Kind n ps) q) j ≡ contents_of s (first_of b j ∷ records_up_to k (drop (body_length b) j))

  -- behind a whole piece
  behind_piece : (qs : List ℕ) (rest : List ℕ) → length rest ≤ k
      → onward (pieced (reading true Kind n ps) qs) rest
      ≡ cond (ltb (length qs) n) (contents_of (within n qs) (records_up_to k rest))
      (cond (are_zeros (drop n qs)) (packet (take n qs) (contents_of between (records_up_to k rest))) breaks)
  behind_piece qs rest le = go (ltb (length qs) n) refl (are_zeros (drop n qs))
    where
      go : (x : Bool) → ltb (length qs) n ≡ x → (z : Bool)
          → onward (reading true (cond x Kind (cond z Packet Broken)) n qs) rest
          ≡ cond x (contents_of (within n qs) (records_up_to k rest)) (cond z (packet (take n qs) (contents_of between (records_up_to k rest))) breaks)
      go true h z = agrees true n qs rest le (λ e. h' e) ∙ ap (λ (x : Bool). contents_of (cond x (within n qs) between) (records_up_to k rest)) h
        where
          h' : true ≡ false → ltb (length qs) n ≡ false
          h' e = h ∙ e
      go false h true = ap (packet (take n qs)) (agrees true 0 [] rest le (λ e. refl))
      go false h false = refl

  in_packet_lem : ltb (length ps) n ≡ true
      → Next true (within n ps) (kind_of true true b)
  in_packet_lem inside = by_kind (eqb b 3) refl
    where
      whole : (x : Bool)
          → cond x breaks (onward (pieced (reading true Kind n ps) (ps ++ take 16 j)) (drop 16 j))
          ≡ contents_of (within n ps) (cond x bad (piece (take 16 j)) ∷ records_up_to k (drop 16 j))
      whole true = at_bad (within n ps) (records_up_to k (drop 16 j))
      whole false = behind_piece (ps ++ take 16 j) (drop 16 j) (fewer 16) ∙ at_piece n ps (take 16 j) (records_up_to k (drop 16 j))

      by_kind : (x : Bool) → eqb b 3 ≡ x
          → Next true (within n ps) (cond x (Piece 16) Broken)
      by_kind true h = rw (eqb-true b 3 h) (gathered true n 15 ps j ∙ whole (ltb (length j) 16))
      by_kind false h = sym (within_breaks b j (records_up_to k (drop (body_length b) j)) n ps h)

  -- behind a packet's length
  behind_length : (m : ℕ) (rest : List ℕ) → length rest ≤ k
      → onward (record_begun (reading true Kind n ps) m) rest
      ≡ cond (ltb longest_packet m) breaks (cond (eqb m 0) (packet [] (contents_of between (records_up_to k rest))) (contents_of (within m []) (records_up_to k rest)))
  behind_length m rest le = go (ltb longest_packet m) (eqb m 0) refl
    where
      go : (x y : Bool) → eqb m 0 ≡ y
          → onward (cond x (reading true Broken n ps) (reading true (cond y Packet Kind) m [])) rest
          ≡ cond x breaks (cond y (packet [] (contents_of between (records_up_to k rest))) (contents_of (within m []) (records_up_to k rest)))
      go true y h = refl
      go false true h = rw (take-nil m) (ap (packet []) (agrees true 0 [] rest le (λ e. refl)))
      go false false h =
          let some : ltb 0 m ≡ true = lt-ltb 0 m (omega (arith, eqb-false m 0 h)) in
          agrees true m [] rest le (λ e. some ∙ e) ∙ ap (λ (x : Bool). contents_of (cond x (within m []) between) (records_up_to k rest)) some

  -- behind an open's types
  behind_types : (t140 red : ℕ) (rest : List ℕ) → length rest ≤ k
      → onward (at (reading false Kind n ps) (cond (types_bad t140 red) Broken (Opened t140 red))) rest
      ≡ cond (types_bad t140 red) breaks (opens t140 red (contents_of between (records_up_to k rest)))
  behind_types t140 red rest le = go (types_bad t140 red)
    where
      go : (x : Bool) → onward (reading false (cond x Broken (Opened t140 red)) n ps) rest ≡ cond x breaks (opens t140 red (contents_of between (records_up_to k rest)))
      go true = refl
      go false = ap (opens t140 red) (agrees true 0 [] rest le (λ e. refl))

  module _ (outside : ltb (length ps) n ≡ false) where
    between_packets : Next true between (kind_of true false b)
    between_packets = by_time (eqb b 4) refl
      where
        whole_time : (x : Bool) → cond x breaks (tells (reading true Kind n ps) (drop 8 j)) ≡ contents_of between (cond x bad time ∷ records_up_to k (drop 8 j))
        whole_time true = at_bad between (records_up_to k (drop 8 j))
        whole_time false =
            agrees true n ps (drop 8 j) (fewer 8) (λ e. outside)
            ∙ ap (λ (x : Bool). contents_of (cond x (within n ps) between) (records_up_to k (drop 8 j))) outside
            ∙ at_time (records_up_to k (drop 8 j))

        whole_length : (x : Bool)
            → cond x breaks (onward (record_begun (reading true Kind n ps) (be16 j 0)) (drop 2 j))
            ≡ contents_of between (cond x bad (beginning (be16 (take 2 j) 0)) ∷ records_up_to k (drop 2 j))
        whole_length true = at_bad between (records_up_to k (drop 2 j))
        whole_length false =
            rw (front j).0 (rw (front j).1
            (behind_length (be16 j 0) (drop 2 j) (fewer 2) ∙ at_packet (be16 j 0) (records_up_to k (drop 2 j))))

        by_end : eqb b 4 ≡ false → eqb b 2 ≡ false → (x : Bool) → eqb b 0 ≡ x → Next true between (cond x Ended Broken)
        by_end h i true e = rw (eqb-true b 0 e) (rw (le-ltb (length j) 0 (omega arith)) (at_end (records_up_to k j)))
        by_end h i false e = sym (between_breaks b j (records_up_to k (drop (body_length b) j)) h i e)

        by_length : eqb b 4 ≡ false → (x : Bool) → eqb b 2 ≡ x → Next true between (cond x Length (cond (eqb b 0) Ended Broken))
        by_length h true e = rw (eqb-true b 2 e) (sized true n ps j ∙ whole_length (ltb (length j) 2))
        by_length h false e = by_end h e (eqb b 0) refl

        by_time : (x : Bool) → eqb b 4 ≡ x → Next true between (cond x (Time 8) (cond (eqb b 2) Length (cond (eqb b 0) Ended Broken)))
        by_time true e = rw (eqb-true b 4 e) (timed true n 7 ps j ∙ whole_time (ltb (length j) 8))
        by_time false e = by_length e (eqb b 2) refl

    before_open : Next false unopened (kind_of false false b)
    before_open = by_time (eqb b 4) refl
      where
        whole_time : (x : Bool) → cond x breaks (tells (reading false Kind n ps) (drop 8 j)) ≡ contents_of unopened (cond x bad time ∷ records_up_to k (drop 8 j))
        whole_time true = at_bad unopened (records_up_to k (drop 8 j))
        whole_time false = agrees false n ps (drop 8 j) (fewer 8) (λ e. outside) ∙ at_time_first (records_up_to k (drop 8 j))

        whole_types : (x : Bool)
            → cond x breaks (onward (at (reading false Kind n ps) (cond (types_bad (get_or j 0 0) (get_or j 1 0)) Broken (Opened (get_or j 0 0) (get_or j 1 0)))) (drop 2 j))
            ≡ contents_of unopened (cond x bad (opening (get_or (take 2 j) 0 0) (get_or (take 2 j) 1 0)) ∷ records_up_to k (drop 2 j))
        whole_types true = at_bad unopened (records_up_to k (drop 2 j))
        whole_types false =
            rw (front j).0 (rw (front j).1
            (behind_types (get_or j 0 0) (get_or j 1 0) (drop 2 j) (fewer 2) ∙ at_open (get_or j 0 0) (get_or j 1 0) (records_up_to k (drop 2 j))))

        by_open : eqb b 4 ≡ false → (x : Bool) → eqb b 1 ≡ x → Next false unopened (cond x Types Broken)
        by_open h true e = rw (eqb-true b 1 e) (typed false n ps j ∙ whole_types (ltb (length j) 2))
        by_open h false e = sym (unopened_breaks b j (records_up_to k (drop (body_length b) j)) h e)

        by_time : (x : Bool) → eqb b 4 ≡ x → Next false unopened (cond x (Time 8) (cond (eqb b 1) Types Broken))
        by_time true e = rw (eqb-true b 4 e) (timed false n 7 ps j ∙ whole_time (ltb (length j) 8))
        by_time false e = by_open e (eqb b 1) refl

none_up_to : (k : ℕ) → records_up_to k [] ≡ []
unfolding records_up_to
none_up_to zero = refl
none_up_to (suc k) = refl

one_more : (k b : ℕ) (j : List ℕ) → records_up_to (suc k) (b ∷ j) ≡ first_of b j ∷ records_up_to k (drop (body_length b) j)
unfolding records_up_to
one_more k b j = refl

at_none : (k : ℕ) (o : Bool) (n : ℕ) (ps : List ℕ) → tells (reading o Kind n ps) [] ≡ contents_of (stage o n ps) (records_up_to k [])
at_none k o n ps = tells_nil (reading o Kind n ps) ∙ sym (ap (contents_of (stage o n ps)) (none_up_to k) ∙ nothing (stage o n ps))

one_record : (k : ℕ) → Agrees k → Agrees (suc k)
one_record k before o n ps [] few ok = at_none (suc k) o n ps
one_record k before o n ps (b ∷ j) few ok =
    tells_cons (reading o Kind n ps) b j ∙ by_stage o (ltb (length ps) n) refl ok ∙ ap (contents_of (stage o n ps)) (sym (one_more k b j))
  where
    fewer' : length j ≤ k
    fewer' = omega arith

    by_stage : (o x : Bool) → ltb (length ps) n ≡ x → (o ≡ false → x ≡ false)
        → onward (at (reading o Kind n ps) (kind_of o x b)) j
        ≡ contents_of (cond o (cond x (within n ps) between) unopened) (first_of b j ∷ records_up_to k (drop (body_length b) j))
    by_stage true true h f = in_packet_lem k before n ps b j fewer' h
    by_stage true false h f = between_packets k before n ps b j fewer' h
    by_stage false true h f = absurd (true≢false (f refl))
    by_stage false false h f = before_open k before n ps b j fewer' h

agrees : (k : ℕ) → Agrees k
agrees zero = none_left
  where
    none_left : Agrees 0
    none_left o n ps [] few ok = at_none 0 o n ps
    none_left o n ps (b ∷ j) few ok = absurd (omega arith)
agrees (suc k) = one_record k (agrees k)

-- what is told byte by byte from the start is what the journal's records tell
pub agree : (j : List ℕ) → tells fresh_reading (take limit j) ≡ journal_of j
unfolding journal_of
agree j = agrees (length (take limit j)) false 0 [] (take limit j) (omega arith) (λ e. refl)
