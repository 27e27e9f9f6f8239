-- What is printed while the counts are kept is the transcript.
use Rattle.std.proofs.Common.{◌≡◌, ℕ, ◌+◌, Bool, true, false, cond, eqb, ltb, List, [], ◌∷◌, ◌++◌, length, take, drop, sym, refl, ap, ◌∙◌, append_assoc, arith}
use Rattle.counts.specs.declared.Counts.{Counts}
use Rattle.packet_spec.specs.Header.{types_bad}
use Rattle.receiver_spec.specs.Opening.{open_receiver}
use Rattle.receiver_spec.specs.State.{zero_receiver, Receiver}
use Rattle.receiver_spec.specs.Step.{step_of}
use Rattle.receiver_spec.specs.Answers.{gives, is_break, is_jump, is_late, refuses, StepAnswer}
use Rattle.receiver_spec.specs.Kinds.{was_refused}
use Rattle.journal_spec.specs.Records.{Record, ending, opening, beginning, piece, time, bad, records_of}
use Rattle.journal_spec.specs.Contents.{Contents, opens, packet, ends, breaks, unopened, between, within, are_zeros, longest_packet, contents_of, limit, journal_of}
use Rattle.journal_spec.specs.Lines.{counts_line, broken_line}
use Rattle.journal_spec.specs.Transcript.{packets_in, is_whole, answers_of, printed_of, printed_text, counts_as_packet, counts_as_late, how_many, lost_in, printed, transcript}
use Rattle.counts.specs.Counts.{no_counts, counted, line_of}

-- what is printed of the contents still to come
unfoldable pub told : Receiver → Counts → Contents → List ℕ
told r k (opens t140 red c) = told (open_receiver t140 red).receiver k c
told r k (packet p c) = printed_of p (step_of r p).answer ++ told (step_of r p).receiver (counted (step_of r p).answer k) c
told r k ends = line_of k
told r k breaks = broken_line

-- contents after an open hold no other
abbrev NoOpens : Contents → Type 0
NoOpens (opens t140 red c) = ⊥
NoOpens (packet p c) = NoOpens c
NoOpens ends = Unit {0}
NoOpens breaks = Unit {0}

-- a journal that tells anything tells an open first
abbrev OpensFirst : Contents → Type 0
OpensFirst (opens t140 red c) = NoOpens c
OpensFirst (packet p c) = ⊥
OpensFirst ends = ⊥
OpensFirst breaks = Unit {0}

no_opens : (rs : List Record) → NoOpens (contents_of between rs) × ((n : ℕ) (ps : List ℕ) → NoOpens (contents_of (within n ps) rs))
unfolding contents_of
no_opens [] = (tt, λ n ps. tt)
no_opens (time ∷ rs) = ((no_opens rs).0, λ n ps. tt)
no_opens (ending ∷ rs) = (tt, λ n ps. tt)
no_opens (opening t140 red ∷ rs) = (tt, λ n ps. tt)
no_opens (bad ∷ rs) = (tt, λ n ps. tt)
no_opens (beginning m ∷ rs) = (go (ltb longest_packet m) (eqb m 0) (no_opens rs), λ n ps. tt)
  where
    go : (x y : Bool) → NoOpens (contents_of between rs) × ((n : ℕ) (ps : List ℕ) → NoOpens (contents_of (within n ps) rs))
        → NoOpens (cond x breaks (cond y (packet [] (contents_of between rs)) (contents_of (within m []) rs)))
    go true y f = tt
    go false true f = f.0
    go false false f = f.1 m []
no_opens (piece x ∷ rs) = (tt, λ n ps. go n (ps ++ x) (ltb (length (ps ++ x)) n) (are_zeros (drop n (ps ++ x))) (no_opens rs))
  where
    go : (n : ℕ) (qs : List ℕ) (x y : Bool) → NoOpens (contents_of between rs) × ((n : ℕ) (ps : List ℕ) → NoOpens (contents_of (within n ps) rs))
        → NoOpens (cond x (contents_of (within n qs) rs) (cond y (packet (take n qs) (contents_of between rs)) breaks))
    go n qs true y f = f.1 n qs
    go n qs false true f = f.0
    go n qs false false f = tt

opens_first : (rs : List Record) → OpensFirst (contents_of unopened rs)
unfolding contents_of
opens_first [] = tt
opens_first (time ∷ rs) = opens_first rs
opens_first (ending ∷ rs) = tt
opens_first (beginning m ∷ rs) = tt
opens_first (piece x ∷ rs) = tt
opens_first (bad ∷ rs) = tt
opens_first (opening t140 red ∷ rs) = go (types_bad t140 red)
  where
    go : (x : Bool) → OpensFirst (cond x breaks (opens t140 red (contents_of between rs)))
    go true = tt
    go false = (no_opens rs).0

-- the counts over a list of answers, on top of those so far
abbrev line_with : Counts → List StepAnswer → List ℕ
line_with k answers =
    counts_line (k.packets + how_many counts_as_packet answers) (k.late + how_many counts_as_late answers) (k.lost + lost_in answers) (k.refused + how_many was_refused answers)

same_line : {a a' b b' c c' d d' : ℕ} → a ≡ a' → b ≡ b' → c ≡ c' → d ≡ d' → counts_line a b c d ≡ counts_line a' b' c' d'
same_line p q r s = λ i. counts_line (p i) (q i) (r i) (s i)

count_one : (k : Counts) (a : StepAnswer) (answers : List StepAnswer) → line_with (counted a k) answers ≡ line_with k (a ∷ answers)
count_one k (refuses n) answers = same_line (omega arith) (omega arith) (omega arith) (omega arith)
count_one k (is_late z) answers = same_line (omega arith) (omega arith) (omega arith) (omega arith)
count_one k (is_jump z) answers = same_line (omega arith) (omega arith) (omega arith) (omega arith)
count_one k (is_break g) answers = same_line (omega arith) (omega arith) (omega arith) (omega arith)
count_one k (gives g) answers = same_line (omega arith) (omega arith) (omega arith) (omega arith)

-- the text, and the line that closes it
abbrev printed_with : Receiver → Counts → Contents → List ℕ
printed_with r k c = printed_text r (packets_in c) ++ cond (is_whole c) (line_with k (answers_of r (packets_in c))) broken_line

told_packets : (c : Contents) → NoOpens c → (r : Receiver) (k : Counts) → told r k c ≡ printed_with r k c
unfolding told line_of
told_packets (opens t140 red c) h r k = absurd h
told_packets (packet p c) h r k =
    let s = step_of r p in
    ap (λ (l : List ℕ). printed_of p s.answer ++ l) (told_packets c h s.receiver (counted s.answer k))
    ∙ ap (λ (l : List ℕ). printed_of p s.answer ++ (printed_text s.receiver (packets_in c) ++ cond (is_whole c) l broken_line))
    (count_one k s.answer (answers_of s.receiver (packets_in c)))
    ∙ sym (append_assoc (printed_of p s.answer) (printed_text s.receiver (packets_in c))
    (cond (is_whole c) (line_with k (s.answer ∷ answers_of s.receiver (packets_in c))) broken_line))
told_packets ends h r k = same_line (omega arith) (omega arith) (omega arith) (omega arith)
told_packets breaks h r k = refl

told_first : (c : Contents) → OpensFirst c → told zero_receiver no_counts c ≡ printed c
unfolding told
told_first (opens t140 red c) h =
    told_packets c h (open_receiver t140 red).receiver no_counts
    ∙ ap (λ (l : List ℕ). printed_text (open_receiver t140 red).receiver (packets_in c) ++ cond (is_whole c) l broken_line)
    (same_line (omega arith) (omega arith) (omega arith) (omega arith))
told_first (packet p c) h = absurd h
told_first ends h = absurd h
told_first breaks h = refl

pub told_is : (j : List ℕ) → told zero_receiver no_counts (journal_of j) ≡ transcript j
unfolding transcript journal_of
told_is j = told_first (contents_of unopened (records_of (take limit j))) (opens_first (records_of (take limit j)))
