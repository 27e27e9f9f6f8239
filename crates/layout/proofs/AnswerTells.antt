-- Laws for callers: what an answer tells of checks 10 to 14, whatever is made of their numbers.
use Prim.Native.Nat.{ℕ, ◌≤◌}
use mathlib.Core.Path.{◌≡◌, ◌∙◌, refl, ap, sym}
use mathlib.Core.List.{List}
use lib.ListN.{length}
use borrow.Author.Rules.{rules}
use borrow.Author.Tests.{ltb-false}
use Rattle.std.specs.Prelude.{Result, Ok, Err}
use Rattle.packet.specs.declared.Refusal.{Refusal}
use Rattle.layout.specs.declared.Layout.{Layout}
use Rattle.base.specs.Checks.{checked, number_by}
use Rattle.packet_spec.specs.Limits.{shortest}
use Rattle.packet_spec.specs.Header.{header_end, payload_end}
use Rattle.packet_spec.specs.Internal.Layout.{layout_checks}
use Rattle.packet.specs.Refusal.{number}
use Rattle.layout.specs.Internal.Seen.{LayoutSeen, layout_seen, refused_layout, passed_layout, layout_of}
use Rattle.base.proofs.InOrder.{number_first, refused_by_lem, passed_by, none_applies}
use Rattle.packet.proofs.Names.{number_positive}

module _ (p : List ℕ) where
  number_told : (r : Result Layout Refusal) → layout_seen r ≡ layout_of p → (layout_seen r).number ≡ number_by (layout_checks p)
  unfolding layout_of
  number_told r told = ap (λ (s : LayoutSeen). s.number) told ∙ number_first (λ (s : LayoutSeen). s.number) refused_layout (layout_checks p) (passed_layout p) (λ n. refl) refl

  pub refused_told : (k : Refusal) → layout_seen (Err k) ≡ layout_of p → {A : Type 0} (refuse : ℕ → A) (x : A) → checked refuse (layout_checks p) x ≡ refuse (number k)
  refused_told k told refuse x = refused_by_lem refuse (layout_checks p) x (number k) (number_positive k) (sym (number_told (Err k) told))

  module _ (l : Layout) (told : layout_seen (Ok l) ≡ layout_of p) where
    no_check : number_by (layout_checks p) ≡ 0
    no_check = sym (number_told (Ok l) told)

    pub passed_told : {A : Type 0} (refuse : ℕ → A) (x : A) → checked refuse (layout_checks p) x ≡ x
    passed_told refuse x = passed_by refuse (layout_checks p) x (search rules) no_check

    placed : layout_seen (Ok l) ≡ passed_layout p
    unfolding layout_of
    placed = told ∙ passed_told refused_layout (passed_layout p)

    pub lies_told : (shortest ≤ length p) × (l.from ≡ header_end p) × (l.end ≡ payload_end p)
    lies_told = (ltb-false (length p) shortest (none_applies (layout_checks p) (search rules) no_check).0, ap (λ (s : LayoutSeen). s.from) placed, ap (λ (s : LayoutSeen). s.end) placed)
