-- Checks 10 to 14, which look at the packet alone: where header, payload and padding lie.
use Rattle.std.specs.Prelude.{ℕ, List, take, drop}
use Rattle.base.specs.Checks.{Check}
use Rattle.packet_spec.specs.Header.{Any}
use Rattle.packet_spec.specs.Reading.{header_checks}

abbrev pub layout_checks : List ℕ → List Check
layout_checks p = take 5 (drop 1 (header_checks Any 0 0 p))
