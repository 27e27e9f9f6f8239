-- What an open, a packet, the end and a break come to.
use Rattle.std.specs.Prelude.{ℕ, ◌≡◌, List, length}
use Rattle.base.specs.Arrays.{part, over}
use Rattle.parts.specs.declared.Part.{Part}
use Rattle.parts.specs.declared.Part.TheVariants.{Kind, Types, Red, Length, Low, Piece, Time, Opened, Packet, Ended, Broken}
use Rattle.receiver.specs.declared.Receiver.{Receiver}
use Rattle.receiver.specs.View.{receiver_of}
use Rattle.receiver_spec.specs.Opening.{open_receiver}
use Rattle.receiver_spec.specs.Step.{step_of}
use Rattle.journal_spec.specs.Lines.{broken_line}
use Rattle.printing.specs.Fitting.{fitting}
use Rattle.counts.specs.declared.Counts.{Counts}
use Rattle.counts.specs.Counts.{counted, wrapped64, line_of, Counting}
use Rattle.due.specs.declared.Due.{Due}
use Rattle.due.specs.Due.{empty_due, line_due, due_of}
use Rattle.acting.specs.declared.Acted.{Acted}

pub record OpensReceiver (k : Counts) (t140 red : ℕ) (a : Acted) : Type 0 where
  pub receiver : receiver_of a.receiver ≡ (open_receiver t140 red).receiver
  pub counts : a.counts ≡ k
  pub due : a.due ≡ empty_due

-- the packet x
pub record Steps (r : Receiver) (k : Counts) (x : List ℕ) (a : Acted) : Type 0 where
  pub receiver : receiver_of a.receiver ≡ (step_of (receiver_of r) x).receiver
  pub counts : a.counts ≡ wrapped64 (counted (step_of (receiver_of r) x).answer k)
  pub counting : Counting (step_of (receiver_of r) x).answer k a.counts
  pub due : a.due ≡ due_of (step_of (receiver_of r) x).answer

-- a line over the front of p
pub record PutsLine (line p : List ℕ) (d : Due) (p' : List ℕ) : Type 0 where
  pub due : d ≡ line_due (length (fitting line p))
  pub lent : p' ≡ over (fitting line p) p

pub record Closes (line : List ℕ) (r : Receiver) (k : Counts) (p : List ℕ) (a : Acted) (p' : List ℕ) : Type 0 where
  pub receiver : a.receiver ≡ r
  pub counts : a.counts ≡ k
  pub closing : PutsLine line p a.due p'

pub record Goes (r : Receiver) (k : Counts) (p : List ℕ) (a : Acted) (p' : List ℕ) : Type 0 where
  pub receiver : a.receiver ≡ r
  pub counts : a.counts ≡ k
  pub due : a.due ≡ empty_due
  pub lent : p' ≡ p

unfoldable pub Acts : Part → ℕ → Receiver → Counts → List ℕ → Acted → List ℕ → Type 0
Acts (Opened t140 red) size r k p a p' = OpensReceiver k t140 red a × (p' ≡ p)
Acts Packet size r k p a p' = Steps r k (part 0 size p) a × (p' ≡ p)
Acts Ended size r k p a p' = Closes (line_of k) r k p a p'
Acts Broken size r k p a p' = Closes broken_line r k p a p'
Acts Kind size r k p a p' = Goes r k p a p'
Acts Types size r k p a p' = Goes r k p a p'
Acts (Red t140) size r k p a p' = Goes r k p a p'
Acts Length size r k p a p' = Goes r k p a p'
Acts (Low high) size r k p a p' = Goes r k p a p'
Acts (Piece n) size r k p a p' = Goes r k p a p'
Acts (Time n) size r k p a p' = Goes r k p a p'
