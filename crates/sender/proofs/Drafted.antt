-- The packet that is written from a sender's draft is the one that 01 has the sender send.
use Prim.Native.Nat.{ℕ, ◌%◌, ◌<◌}
use mathlib.Core.Path.{◌≡◌, ap}
use mathlib.Core.List.{List}
use mathlib.Core.Bool.{cond}
use native.Mathlib.Omega.{arith}
use lib.Dec.{eqb}
use lib.ListN.{length}
use Rattle.sender.specs.declared.Sender.{Sender}
use Rattle.packet_spec.specs.Reading.{Content}
use Rattle.packet_spec.specs.Encoding.{plain_bytes, redundant_bytes}
use Rattle.packet_spec.proofs.ReadBack.{types_small}
use Rattle.sender_spec.specs.Settings.{settings_number}
use Rattle.sender_spec.specs.Packets.{taken, content_of, packet_bytes}
use Rattle.sender_spec.proofs.SettingsPass.{settings_good}
use Rattle.slots.specs.Slots.{texts_size}
use Rattle.writer.specs.Draft as Draft
use Rattle.writer.specs.Draft.{draft_packet}
use Rattle.settings.specs.State.{settings_of}
use Rattle.sender.specs.State.{state_of}
use Rattle.sender.specs.Clocking.{marker_due, draft_of}
use Rattle.sender.proofs.Taken.{taken_lies}

-- a content with another primary
abbrev carrying : Content → List ℕ → Content
carrying c x = record { marker = c.marker; sequence = c.sequence; timestamp = c.timestamp; source = c.source; older = c.older; primary = x }

-- payload types that pass have 7 bits
pub packet_is : (s : Sender) (texts log : List ℕ) (t : ℕ) (size : length texts ≡ texts_size) → settings_number (settings_of s.settings) ≡ 0
    → draft_packet (draft_of s t (marker_due s (length (taken (state_of s texts log) t))) (length (taken (state_of s texts log) t))) texts ≡ packet_bytes (state_of s texts log) t
packet_is s texts log t size ok =
    let state = state_of s texts log in
    let t140 = s.settings.t140 in
    let red = s.settings.red in
    let types : (t140 < 128) × (red < 128) × (t140 ≡ red → ⊥) = types_small t140 red (settings_good (settings_of s.settings) ok).typed in
    let a : t140 % 128 ≡ t140 = omega arith in
    let b : red % 128 ≡ red = omega arith in
    let content : Draft.draft_content (draft_of s t (marker_due s (length (taken state t))) (length (taken state t))) texts ≡ content_of state t = ap (carrying (content_of state t)) (taken_lies s texts log t size) in
    λ i. cond (eqb s.settings.level 0) (plain_bytes (a i) (content i)) (redundant_bytes (a i) (b i) (content i))
