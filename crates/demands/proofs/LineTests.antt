-- 01's line tests, by computing. T11's sender keeps three blocks.
-- Needs level 3.
use mathlib.Core.Path.{refl}
use Rattle.packet_spec.specs.Limits.{level}
use Rattle.packet_spec.specs.Redundancy.{headers}
use Rattle.packet_spec.specs.Reading.{reading}
use Rattle.receiver_spec.specs.Step.{step_of}
use Rattle.sender_spec.specs.Settings.{settings_number}
use Rattle.sender_spec.specs.Calls.{open_sender, offer_of, clock_of}
use Rattle.demands.specs.LineTests.{table, LineTests}

pub line_tests : LineTests
unfolding table step_of reading headers open_sender offer_of clock_of settings_number level
line_tests =
    (refl, (refl, (refl, (refl, (refl, (refl, (refl, (refl, (refl, (refl, (refl, (refl, (refl, (refl, (refl, (refl, (refl, (refl, (refl, (refl, tt))))))))))))))))))))
