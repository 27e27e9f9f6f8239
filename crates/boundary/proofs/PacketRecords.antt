-- The record of a packet that was read is the one that the definitions give.
use Prim.Native.Nat.{ℕ, zero, suc, ◌+◌, ◌-◌, ◌*◌, ◌<◌, ◌≤◌}
use mathlib.Core.Path.{◌≡◌, ◌∙◌, refl, ap, sym}
use mathlib.Core.List.{List, [], ◌∷◌, ◌++◌}
use native.Mathlib.Omega.{arith}
use lib.ListN.{length, take, drop, length-drop}
use lib.Seq.{length-take-le}
use borrow.Author.Tests.{lt-ltb, le-ltb}
use Rattle.std.specs.Prelude.{Ok, Err}
use Rattle.packet.specs.declared.Packet.{Packet}
use Rattle.packet.specs.declared.Refusal.{Refusal}
use Rattle.base.specs.Arrays.{filled}
use Rattle.packet_spec.specs.Limits.{level}
use Rattle.packet_spec.specs.Header.{Expected, header_end, payload_end}
use Rattle.packet_spec.specs.Redundancy.{Head, total, older_of}
use Rattle.packet_spec.specs.Internal.Heads.{heads_in}
use Rattle.packet_spec.specs.Reading.{Content, reading, starts_at}
use Rattle.packet.specs.Refusal.{number}
use Rattle.packet.specs.Places.{numbered, placed, read_of}
use Rattle.boundary.specs.declared.packets.Older.{Older}
use Rattle.boundary.specs.declared.packets.PacketRecord.{PacketRecord}
use Rattle.boundary.specs.Packets.{none, places_from, record_of, read_number, packet_behind}
use Rattle.boundary.specs.Internal.Places.{head_places, older_places, record_from}
use Rattle.packet_spec.proofs.RefusalNumbers.{reading_positive}
use Rattle.packet_spec.proofs.Payload.{header_long}
use Rattle.packet_spec.proofs.BlocksLie.{Lies, lies, few}
use Rattle.packet_spec.proofs.HeadersTell.{Headed, headed}
use Rattle.reader.proofs.AnswerToReading.{was_refused_lem, was_accepted}

-- one more block after the others
pub places_snoc : (at : ℕ) (hs : List Head) (h : Head)
    → head_places at (hs ++ (h ∷ [])) ≡ head_places at hs ++ (record { offset = h.offset; at = at + total hs; len = h.len } ∷ [])
places_snoc at [] h = let e : at ≡ at + 0 = omega arith in ap (λ (n : ℕ). record { offset = h.offset; at = n; len = h.len } ∷ []) e
places_snoc at (x ∷ xs) h =
    let e : at + x.len + total xs ≡ at + (x.len + total xs) = omega arith in
    ap (λ (l : List Older). record { offset = x.offset; at = at; len = x.len } ∷ l)
    (places_snoc (at + x.len) xs h ∙ ap (λ (n : ℕ). head_places (at + x.len) xs ++ (record { offset = h.offset; at = n; len = h.len } ∷ [])) e)

pub places_length : (at : ℕ) (hs : List Head) → length (head_places at hs) ≡ length hs
places_length at [] = refl
places_length at (h ∷ hs) = ap suc (places_length (at + h.len) hs)

older_places_lem : (at : ℕ) (hs : List Head) (s : List ℕ) → total hs ≤ length s → places_from at (older_of hs s) ≡ head_places at hs
older_places_lem at [] s f = refl
older_places_lem at (h ∷ hs) s f =
    let d : length (drop h.len s) ≡ length s - h.len = length-drop h.len s in
    let n : length (take h.len s) ≡ h.len = length-take-le h.len s (omega arith) in
    ap (λ (k : ℕ). record { offset = h.offset; at = at; len = k } ∷ places_from (at + k) (older_of hs (drop h.len s))) n
    ∙ ap (λ (l : List Older). record { offset = h.offset; at = at; len = h.len } ∷ l) (older_places_lem (at + h.len) hs (drop h.len s) (omega arith))

-- the places by plain facts
module _ (p : List ℕ) (first count : ℕ) where
  pub none_past : length p < first → [] ≡ older_places p first count
  none_past h = rw (lt-ltb (length p) first h)

  pub none_many : first ≤ length p → level < count → [] ≡ older_places p first count
  none_many a h = rw (le-ltb (length p) first a, lt-ltb level count h)

  pub none_short : first ≤ length p → count ≤ level → first < 4 * count + 1 → [] ≡ older_places p first count
  none_short a b h = rw (le-ltb (length p) first a, le-ltb level count b, lt-ltb first (4 * count + 1) h)

  pub inside_places : first ≤ length p → count ≤ level → 4 * count + 1 ≤ first → head_places first (heads_in count (drop (first - (4 * count + 1)) p)) ≡ older_places p first count
  inside_places a b c = rw (le-ltb (length p) first a, le-ltb level count b, le-ltb first (4 * count + 1) c)

module _ (p : List ℕ) (c : Content) (l : Lies p c) (t : Headed p c) (small : length c.older ≤ level) where
  -- the headers that stand right before the oldest block are the packet's
  heads_are : heads_in (length c.older) (drop (starts_at p c 0 - (4 * length c.older + 1)) p) ≡ t.hs
  heads_are = ap (λ (n : ℕ). heads_in n (drop (starts_at p c 0 - (4 * n + 1)) p)) t.count ∙ go (length t.hs) refl
    where
      go : (n : ℕ) → length t.hs ≡ n → heads_in n (drop (starts_at p c 0 - (4 * n + 1)) p) ≡ t.hs
      go zero e = sym (t.are ∙ ap (λ (n : ℕ). heads_in n (drop (header_end p) p)) e)
      go (suc n) e =
          let f : starts_at p c 0 ≡ header_end p + 4 * length t.hs + 1 = t.after (omega arith) in
          let d : starts_at p c 0 - (4 * suc n + 1) ≡ header_end p = omega arith in
          ap (λ (k : ℕ). heads_in (suc n) (drop k p)) d ∙ sym (t.are ∙ ap (λ (k : ℕ). heads_in k (drop (header_end p) p)) e)

  record_is : record_from p (placed p c) ≡ record_of p c
  record_is =
      let first = starts_at p c 0 in
      let n = length c.older in
      let m : n ≡ length t.hs = t.count in
      let r : header_end p + 4 * length t.hs ≤ first = t.room in
      let i : payload_end p ≤ length p = l.inside in
      let f : 12 ≤ header_end p = header_long p in
      let older : older_places p first n ≡ places_from first c.older =
      sym (inside_places p first n (omega arith) small (omega arith))
      ∙ ap (head_places first) heads_are
      ∙ sym (ap (places_from first) t.cut.2 ∙ older_places_lem first t.hs t.cut.0 t.cut.1) in
      ap (λ (o : List Older). record {
        marker = (placed p c).marker;
        sequence = c.sequence;
        timestamp = c.timestamp;
        source = c.source;
        count = n;
        older = filled none level o;
        primary = payload_end p - length c.primary;
        end = payload_end p;
      }) older

-- what the exported reader says of its number and of the record lent to it
module _ (e : Expected) (t140 red : ℕ) (p : List ℕ) (before : PacketRecord) where
  abbrev pub Leaves : ℕ → PacketRecord → Type 0
  Leaves k after = (k ≡ read_number (reading level e t140 red p)) × (after ≡ packet_behind p (reading level e t140 red p) before)

  pub leaves_refused : (k : Refusal) → numbered (Err k) ≡ read_of e t140 red p → Leaves (number k) before
  unfolding read_of
  leaves_refused k is =
      let r = was_refused_lem p k (reading level e t140 red p) is in
      (sym (ap read_number r), sym (ap (λ y. packet_behind p y before) r))

  pub leaves_accepted : (x : Packet) → numbered (Ok x) ≡ read_of e t140 red p → Leaves 0 (record_from p x)
  unfolding read_of
  leaves_accepted x is =
      let r = was_accepted p x (reading level e t140 red p) (reading_positive level e t140 red p) is in
      let c = r.0 in (
        sym (ap read_number r.1),
        ap (record_from p) r.2 ∙ record_is p c (lies level e t140 red p c r.1) (headed level e t140 red p c r.1) (few level e t140 red p c r.1)
            ∙ sym (ap (λ y. packet_behind p y before) r.1),
      )
