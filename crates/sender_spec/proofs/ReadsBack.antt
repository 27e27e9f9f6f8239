-- Every packet that is due of a good sender is accepted, and read back whole.
use Prim.Native.Nat.{ℕ, ◌≤◌}
use mathlib.Core.Path.{◌≡◌, ap}
use mathlib.Core.List.{List, [], ◌∷◌, map, reverse}
use mathlib.Core.Bool.{true, false}
use native.Mathlib.Nat.{le_trans}
use lib.Dec.{eqb}
use lib.ListN.{length, take}
use borrow.Author.Tests.{eqb-true}
use Rattle.packet_spec.specs.Limits.{level}
use Rattle.packet_spec.specs.Header.{Expected, types_bad}
use Rattle.packet_spec.specs.Redundancy.{Block, blocks_of, all_text}
use Rattle.packet_spec.specs.Reading.{holds, reading}
use Rattle.packet_spec.specs.Encoding.{plain_bytes, redundant_bytes, Admits}
use Rattle.sender_spec.specs.Settings.{settings_number}
use Rattle.sender_spec.specs.State.{Sender}
use Rattle.sender_spec.specs.Packets.{recent_run, repeated, due, content_of, packet_bytes}
use Rattle.base.proofs.Tests.{by_test}
use Rattle.packet_spec.proofs.ReadBack.{plain_back, redundant_back}
use Rattle.base.specs.Every.{Every}
use Rattle.sender_spec.proofs.StaysSendable.{Sendable, Good, taken_good}
use Rattle.sender_spec.proofs.SettingsPass.{settings_good}
use Rattle.sender_spec.proofs.Sizes.{Short, plain_size, redundant_size, level_fits, lengths_fit}
use Rattle.sender_spec.proofs.Carried.{Repeatable, older_few, older_good, older_fall}

all_text_lem : (bs : List Block) (x : List ℕ) → Every Repeatable bs → Sendable x → all_text (blocks_of bs x) ≡ true
all_text_lem [] x e h = rw h.0
all_text_lem (b ∷ bs) x e h = rw e.0.0.0 (all_text_lem bs x e.1 h)

pub all_short : (bs : List Block) → Every Repeatable bs → Every Short bs
all_short [] e = tt
all_short (b ∷ bs) e = (e.0.0.1, all_short bs e.1)

module _ (s : Sender) (t : ℕ) (ok : settings_number s.settings ≡ 0) (g : Good s) (is_due_lem : due s t ≡ true) where
  -- by a reader that expects the source
  module _ (expected : Expected) (admits : Admits expected s.settings.source) where
    abbrev ReadBack : List ℕ → Type 0
    ReadBack p = reading level expected s.settings.t140 s.settings.red p ≡ holds (content_of s t)

    types : types_bad s.settings.t140 s.settings.red ≡ false
    types = (settings_good s.settings ok).typed

    text : all_text (blocks_of (content_of s t).older (content_of s t).primary) ≡ true
    text = all_text_lem (content_of s t).older (content_of s t).primary (older_good s t g) (taken_good s t g)

    plain : eqb s.settings.level 0 ≡ true → ReadBack (plain_bytes s.settings.t140 (content_of s t))
    plain e =
        let none : (content_of s t).older ≡ [] = ap (λ (n : ℕ). map (repeated t) (reverse (recent_run t (take n s.kept)))) (eqb-true s.settings.level 0 e) in
        plain_back level expected s.settings.t140 s.settings.red (content_of s t) types admits text none
        (le_trans (plain_size level s.settings.t140 (content_of s t) (taken_good s t g).1) level_fits)

    redundant : ReadBack (redundant_bytes s.settings.t140 s.settings.red (content_of s t))
    redundant =
        let older = (content_of s t).older in
        let few : length older ≤ level = le_trans (older_few s t) (settings_good s.settings ok).few in
        let short : Every Short older = all_short older (older_good s t g) in
        redundant_back level expected s.settings.t140 s.settings.red (content_of s t) types admits text few (lengths_fit older short)
        (older_fall s t ok g is_due_lem)
        (le_trans (redundant_size level s.settings.t140 s.settings.red (content_of s t) few short (taken_good s t g).1) level_fits)

    pub reads_back : reading level expected s.settings.t140 s.settings.red (packet_bytes s t) ≡ holds (content_of s t)
    reads_back = by_test ReadBack (eqb s.settings.level 0) plain (λ e. redundant)
