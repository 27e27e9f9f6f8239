-- What is seen of a packet's layout: 01's number, and where that is 0 where the payload lies.
use Rattle.std.specs.Prelude.{ℕ, List, Result, Ok, Err}
use Rattle.layout.specs.declared.Layout.{Layout}
use Rattle.base.specs.Checks.{checked}
use Rattle.packet_spec.specs.Header.{header_end, payload_end}
use Rattle.packet_spec.specs.Internal.Layout.{layout_checks}
use Rattle.packet.specs.declared.Refusal.{Refusal}
use Rattle.packet.specs.Refusal.{number}

pub record LayoutSeen : Type 0 where
  pub number : ℕ
  pub from : ℕ
  pub end : ℕ

abbrev pub refused_layout : ℕ → LayoutSeen
refused_layout n = record { number = n; from = 0; end = 0 }

abbrev pub layout_seen : Result Layout Refusal → LayoutSeen
layout_seen (Ok l) = record { number = 0; from = l.from; end = l.end }
layout_seen (Err r) = refused_layout (number r)

abbrev pub passed_layout : List ℕ → LayoutSeen
passed_layout p = record { number = 0; from = header_end p; end = payload_end p }

unfoldable pub layout_of : List ℕ → LayoutSeen
layout_of p = checked refused_layout (layout_checks p) (passed_layout p)
