-- What a journal tells: an opening, packets, and how it ends (01, "Journal and transcript").
use Rattle.std.specs.Prelude.{ℕ, List, [], ◌∷◌, ◌++◌, Bool, true, false, cond, ltb, eqb, length, take, drop}
use Rattle.packet_spec.specs.Header.{types_bad}
use Rattle.journal_spec.specs.Records.{Record, ending, opening, beginning, piece, time, bad, records_of}

-- in order; a journal either ends or is broken
pub data Contents : Type 0 where
  opens : ℕ → ℕ → Contents → Contents
  packet : List ℕ → Contents → Contents
  ends : Contents
  breaks : Contents

-- a whole journal of these packets
abbrev pub packets_then_end : List (List ℕ) → Contents
packets_then_end [] = ends
packets_then_end (p ∷ ps) = packet p (packets_then_end ps)

abbrev pub whole_of : ℕ → ℕ → List (List ℕ) → Contents
whole_of t140 red ps = opens t140 red (packets_then_end ps)

-- how far the records are: before the open, between packets, or within one, of this length and with these bytes of pieces
pub data Stage : Type 0 where
  unopened : Stage
  between : Stage
  within : ℕ → List ℕ → Stage

-- "packet begins (2: length, at most 1,488)"
abbrev pub longest_packet : ℕ
longest_packet = 1488

abbrev pub are_zeros : List ℕ → Bool
are_zeros [] = true
are_zeros (b ∷ bs) = cond (eqb b 0) (are_zeros bs) false

-- "Times aside, the first record is an open with payload types that pass 3, and no second open follows. A packet's pieces, as
-- many as its length needs, follow it without a break; then it is read. Anything else, an early end, nonzero filling ..
-- included" breaks the journal; "bytes after kind 0 are not read"
unfoldable pub contents_of : Stage → List Record → Contents
contents_of s [] = breaks
contents_of unopened (time ∷ rs) = contents_of unopened rs
contents_of unopened (opening t140 red ∷ rs) = cond (types_bad t140 red) breaks (opens t140 red (contents_of between rs))
contents_of unopened (ending ∷ rs) = breaks
contents_of unopened (beginning n ∷ rs) = breaks
contents_of unopened (piece x ∷ rs) = breaks
contents_of unopened (bad ∷ rs) = breaks
contents_of between (time ∷ rs) = contents_of between rs
contents_of between (beginning n ∷ rs) =
    cond (ltb longest_packet n) breaks (cond (eqb n 0) (packet [] (contents_of between rs)) (contents_of (within n []) rs))
contents_of between (ending ∷ rs) = ends
contents_of between (opening t140 red ∷ rs) = breaks
contents_of between (piece x ∷ rs) = breaks
contents_of between (bad ∷ rs) = breaks
contents_of (within n ps) (piece x ∷ rs) =
    cond (ltb (length (ps ++ x)) n) (contents_of (within n (ps ++ x)) rs)
    (cond (are_zeros (drop n (ps ++ x))) (packet (take n (ps ++ x)) (contents_of between rs)) breaks)
contents_of (within n ps) (time ∷ rs) = breaks
contents_of (within n ps) (ending ∷ rs) = breaks
contents_of (within n ps) (beginning m ∷ rs) = breaks
contents_of (within n ps) (opening t140 red ∷ rs) = breaks
contents_of (within n ps) (bad ∷ rs) = breaks

-- "no end within the first 2^40 bytes" breaks it too
unfoldable pub limit : ℕ
limit = 1099511627776

-- what a journal tells
unfoldable pub journal_of : List ℕ → Contents
journal_of j = contents_of unopened (records_of (take limit j))
