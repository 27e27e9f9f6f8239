use Rattle.std.proofs.Common.{◌≡◌, ◌+◌, ◌<◌, ◌≤◌, Ok, drop}
use Rattle.std.proofs.Math.Seq.{slice}
use Rattle.packet_spec.specs.Redundancy.{total, are_text}
use Rattle.packet_spec.specs.Internal.Heads.{heads_in}
use Rattle.text_spec.specs.Utf8.{is_text}
use Rattle.text_spec.proofs.Walks.{goes_on}
use Rattle.text.specs.Owed.{owes}
use Rattle.blocks.proofs.BlockWalk.{Here}
use Rattle.blocks.proofs.judging.judge_text.Given as goal

-- what is left to check from block k on, which lies at a place
abbrev pub invariant-walk : goal.invariant-walk
invariant-walk l =
    let hs = heads_in l.count (drop l.from l.packet) in
    (l.outcome ≡ Ok tt) × (l.at + total (drop l.k hs) ≤ l.end) × (l.count < l.k → l.at ≡ l.end) × (are_text hs (slice l.first l.end l.packet) ≡ are_text (drop l.k hs) (slice l.at l.end l.packet))

abbrev pub invariant-loop-byte : goal.invariant-loop-byte
invariant-loop-byte l =
    (l.outcome ≡ Ok tt) × Here l.packet (heads_in l.count (drop l.from l.packet)) l.count l.end l.k l.at l.to
    × (is_text l.block ≡ goes_on (owes l.owed) (drop l.byte-index l.block))
