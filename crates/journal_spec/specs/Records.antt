-- A journal's records (01, "Journal and transcript"): "records of one kind byte and a body whose length the kind fixes".
use Rattle.std.specs.Prelude.{ℕ, zero, suc, List, [], ◌∷◌, cond, ltb, eqb, length, take, drop, get_or}
use Rattle.packet_spec.specs.Header.{be16}

pub data Record : Type 0 where
  ending : Record
  -- T140 and RED
  opening : ℕ → ℕ → Record
  -- a packet begins: its length
  beginning : ℕ → Record
  -- 16 bytes of it
  piece : List ℕ → Record
  time : Record
  -- of no such kind, or cut short
  bad : Record

abbrev pub piece_length : ℕ
piece_length = 16

abbrev pub time_length : ℕ
time_length = 8

-- "0 end (0 bytes); 1 open (2: T140, RED); 2 packet begins (2: length ..); 3 piece (16 ..); 4 time (8 ..)"
abbrev pub body_length : ℕ → ℕ
body_length kind = cond (eqb kind 1) 2 (cond (eqb kind 2) 2 (cond (eqb kind 3) piece_length (cond (eqb kind 4) time_length 0)))

abbrev pub record_of_kind : ℕ → List ℕ → Record
record_of_kind kind body =
    cond (eqb kind 0) ending
    (cond (eqb kind 1) (opening (get_or body 0 0) (get_or body 1 0))
    (cond (eqb kind 2) (beginning (be16 body 0))
    (cond (eqb kind 3) (piece body)
    (cond (eqb kind 4) time bad))))

-- the record of this kind at the front of the bytes behind it
abbrev pub first_of : ℕ → List ℕ → Record
first_of kind rest = cond (ltb (length rest) (body_length kind)) bad (record_of_kind kind (take (body_length kind) rest))

-- at most so many records
unfoldable pub records_up_to : ℕ → List ℕ → List Record
records_up_to zero j = []
records_up_to (suc n) [] = []
records_up_to (suc n) (kind ∷ rest) = first_of kind rest ∷ records_up_to n (drop (body_length kind) rest)

-- all of them: a journal has no more records than bytes
abbrev pub records_of : List ℕ → List Record
records_of j = records_up_to (length j) j
