-- From the keys to the transcript: a whole journal of the packets that our sender wrote prints what was typed, less what still
-- waits, and no loss.
use Prim.Native.Nat.{ℕ}
use mathlib.Core.Path.{◌≡◌, ◌∙◌, ap}
use mathlib.Core.List.{List, ◌++◌, map}
use lib.ListN.{length, length-map}
use Rattle.packet_spec.specs.Redundancy.{joined}
use Rattle.sender_spec.specs.State.{Settings}
use Rattle.sender_spec.specs.Calls.{open_sender}
use Rattle.journal_spec.specs.Contents.{whole_of, journal_of}
use Rattle.journal_spec.specs.Lines.{counts_line}
use Rattle.journal_spec.specs.Transcript.{transcript}
use Rattle.demands.specs.Ours.{ours}
use Rattle.demands.specs.Sending.{Call, primary_sent, sent_by, typed_by, left_by}
use Rattle.journal_spec.proofs.NoLoss.{prints_each}
use Rattle.demands.proofs.Demand2.{demand_2}
use Rattle.demands.proofs.Demand3.{ours_arrive}

pub printed : (x : Settings) (calls : List Call) → (open_sender x).number ≡ 0
    → (j : List ℕ) → journal_of j ≡ whole_of x.t140 x.red (map (λ w. w.packet) (sent_by ours x calls))
    → (text : List ℕ) × (transcript j ≡ text ++ counts_line (length (sent_by ours x calls)) 0 0 0) × (text ++ (left_by ours x calls).waiting ≡ typed_by ours x calls)
printed x calls o j e = (
  joined (map primary_sent (sent_by ours x calls)),
  prints_each x.t140 x.red j e (ours_arrive x calls o)
      ∙ ap (λ (n : ℕ). joined (map primary_sent (sent_by ours x calls)) ++ counts_line n 0 0 0) (length-map (sent_by ours x calls) (λ w. w.packet)),
  demand_2.as_typed x calls o,
)
