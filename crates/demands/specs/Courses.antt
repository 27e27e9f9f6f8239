-- 02, request 4: what a packet adds to the record and leaves of the receiver, by its course.
use Rattle.std.specs.Prelude.{ℕ, ◌≤◌, ◌≡◌, List, [], true, false}
use Rattle.packet_spec.specs.Reading.{Content, holds}
use Rattle.delivery.specs.Numbers.{next}
use Rattle.delivery.specs.Record.{Entry}
use Rattle.delivery.specs.Course.{Course, forward, late, jump, break, course_at}
use Rattle.receiver_spec.specs.State.{Receiver, fresh_receiver, kept_by, keeping, keeping_none, read_by}
use Rattle.receiver_spec.specs.Record.{loss_of, entries_of}
use Rattle.demands.specs.Line.{Line}

-- a receiver that has a source reads a packet, whose number has this course
pub record HasCourse (r : Receiver) (p : List ℕ) (course : Course) : Type 0 where
  pub content : Content
  pub read : read_by r p ≡ holds content
  pub sourced : r.has_source ≡ true
  pub course_is : course_at r.expected (kept_by r) content.sequence ≡ course

module _ (l : Line) where
  -- what a packet adds to the record
  abbrev pub added : Receiver → List ℕ → List Entry
  added r p = entries_of r p (l.step r p).answer

  pub record Courses : Type 0 where
    -- whatever comes, one packet writes at most 2,998 marks: those of 2,999 ahead
    pub few_marks : (r : Receiver) (p : List ℕ) → loss_of (l.step r p).answer ≤ 2998
    -- a number kept makes no difference to a forward packet, which clears it
    pub forward_clears : (r : Receiver) (p : List ℕ) → HasCourse r p forward → (l.step r p ≡ l.step (keeping_none r) p) × ((l.step r p).receiver.has_kept ≡ false)
    pub late_stays : (r : Receiver) (p : List ℕ) → HasCourse r p late → (added r p ≡ []) × ((l.step r p).receiver ≡ r)
    -- "keeps its sequence plus 1, wrapped", and nothing else changes
    pub jump_keeps : (r : Receiver) (p : List ℕ) (m : HasCourse r p jump) → (added r p ≡ []) × ((l.step r p).receiver ≡ keeping r (next m.content.sequence))
    -- "starts the receiver afresh": what is added and left is a fresh receiver's
    pub break_afresh : (r : Receiver) (p : List ℕ) → HasCourse r p break
        → (added r p ≡ added (fresh_receiver r.t140 r.red) p) × ((l.step r p).receiver ≡ (l.step (fresh_receiver r.t140 r.red) p).receiver)
