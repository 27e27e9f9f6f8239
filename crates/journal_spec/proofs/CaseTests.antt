-- 01's whole case, and journals that are broken, by computing.
use Prim.Native.Nat.{ℕ, zero, suc}
use mathlib.Core.Path.{◌≡◌, refl}
use mathlib.Core.List.{List, [], ◌∷◌, ◌++◌}
use lib.ListN.{replicate}
use Rattle.packet_spec.specs.Limits.{level}
use Rattle.packet_spec.specs.Redundancy.{headers}
use Rattle.packet_spec.specs.Reading.{reading}
use Rattle.receiver_spec.specs.Step.{step_of}
use Rattle.journal_spec.specs.Records.{records_up_to}
use Rattle.journal_spec.specs.Contents.{contents_of, limit, journal_of}
use Rattle.journal_spec.specs.Lines.{decimal_up_to, decimal, counts_line, broken_line}
use Rattle.journal_spec.specs.Transcript.{transcript}

-- `02 00 12 03 80 64 00 05 00 00 03 E8 11 22 33 44 E2 04 B0 01 03 62 41`, fourteen bytes 00
abbrev packet_a : List ℕ
packet_a =
    0x02 ∷ 0x00 ∷ 0x12 ∷ 0x03 ∷ 0x80 ∷ 0x64 ∷ 0x00 ∷ 0x05 ∷ 0x00 ∷ 0x00 ∷ 0x03 ∷ 0xE8 ∷ 0x11 ∷ 0x22 ∷ 0x33 ∷ 0x44
    ∷ 0xE2 ∷ 0x04 ∷ 0xB0 ∷ 0x01 ∷ 0x03 ∷ 0x62 ∷ 0x41 ∷ replicate 14 0

-- a plain letter from the same source, with the two bytes of its number; and `B` two numbers behind packet A
abbrev letter : ℕ → ℕ → ℕ → List ℕ
letter high low x = 0x02 ∷ 0x00 ∷ 0x0D ∷ 0x03 ∷ 0x80 ∷ 0x62 ∷ high ∷ low ∷ 0x00 ∷ 0x00 ∷ 0x03 ∷ 0xE8 ∷ 0x11 ∷ 0x22 ∷ 0x33 ∷ 0x44 ∷ x ∷ replicate 3 0

abbrev packet_b : List ℕ
packet_b = letter 0x00 0x07 0x42

-- a journal and what it prints
pub record Row : Type 0 where
  pub journal : List ℕ
  pub prints : List ℕ

abbrev pub Holds : List Row → Type 0
Holds [] = Unit {0}
Holds (row ∷ rows) = (transcript row.journal ≡ row.prints) × Holds rows

abbrev opened : List ℕ → List ℕ
opened rest = 0x01 ∷ 0x62 ∷ 0x64 ∷ rest

abbrev time : List ℕ
time = 0x04 ∷ replicate 8 7

-- n pieces of zeros
abbrev pieces : ℕ → List ℕ
pieces zero = []
pieces (suc n) = 0x03 ∷ replicate 16 0 ++ pieces n

-- 01's whole case
abbrev whole_case : List ℕ
whole_case = opened (packet_a ++ (0x00 ∷ []))

abbrev rows : List Row
rows =
    -- `A`, newline, `packets 1 late 0 lost 0 refused 0`, newline
    record { journal = whole_case; prints = 65 ∷ counts_line 1 0 0 0 }
    -- bytes after kind 0 are not read
    ∷ record { journal = whole_case ++ (7 ∷ 7 ∷ []); prints = 65 ∷ counts_line 1 0 0 0 }
    -- a copy is late, and a number left out is marked and counted
    ∷ record { journal = opened (packet_a ++ (packet_a ++ (0x00 ∷ []))); prints = 65 ∷ counts_line 1 1 0 0 }
    ∷ record { journal = opened (packet_a ++ (packet_b ++ (0x00 ∷ []))); prints = 65 ∷ 0xEF ∷ 0xBF ∷ 0xBD ∷ 66 ∷ counts_line 2 0 1 0 }
    -- a jump counts as late, and a break as a packet, without a mark; a copy between them is late
    ∷ record { journal = opened (packet_a ++ (letter 0x20 0x00 0x43 ++ (0x00 ∷ []))); prints = 65 ∷ counts_line 1 1 0 0 }
    ∷ record { journal = opened (packet_a ++ (letter 0x20 0x00 0x43 ++ (letter 0x20 0x01 0x44 ++ (0x00 ∷ [])))); prints = 65 ∷ 68 ∷ counts_line 2 1 0 0 }
    ∷ record {
      journal = opened (packet_a ++ (letter 0x20 0x00 0x43 ++ (packet_a ++ (letter 0x20 0x01 0x44 ++ (0x00 ∷ [])))));
      prints = 65 ∷ 68 ∷ counts_line 2 2 0 0;
    }
    -- times before the open and between packets
    ∷ record { journal = time ++ opened (time ++ (0x00 ∷ [])); prints = counts_line 0 0 0 0 }
    -- a packet of length 0 is read at once, and refused
    ∷ record { journal = opened (0x02 ∷ 0 ∷ 0 ∷ 0x00 ∷ []); prints = counts_line 0 0 0 1 }
    -- one of 1,488 bytes too
    ∷ record { journal = opened (0x02 ∷ 0x05 ∷ 0xD0 ∷ pieces 93 ++ (0x00 ∷ [])); prints = counts_line 0 0 0 1 }
    -- no bytes, no open, no end, a second open, types that do not pass, an unknown kind, a length of 1,489
    ∷ record { journal = []; prints = broken_line }
    ∷ record { journal = 0x00 ∷ []; prints = broken_line }
    ∷ record { journal = time ++ (0x00 ∷ []); prints = broken_line }
    ∷ record { journal = opened []; prints = broken_line }
    ∷ record { journal = opened (opened (0x00 ∷ [])); prints = broken_line }
    ∷ record { journal = 0x01 ∷ 0x62 ∷ 0x62 ∷ 0x00 ∷ []; prints = broken_line }
    ∷ record { journal = opened (0x05 ∷ 0x00 ∷ []); prints = broken_line }
    ∷ record { journal = opened (0x02 ∷ 0x05 ∷ 0xD1 ∷ pieces 94 ++ (0x00 ∷ [])); prints = broken_line }
    -- within a packet's pieces a time, nonzero filling, and an early end
    ∷ record { journal = opened (0x02 ∷ 0 ∷ 1 ∷ time ++ (pieces 1 ++ (0x00 ∷ []))); prints = broken_line }
    ∷ record { journal = opened (0x02 ∷ 0 ∷ 1 ∷ 0x03 ∷ 0 ∷ 1 ∷ replicate 14 0 ++ (0x00 ∷ [])); prints = broken_line }
    ∷ record { journal = opened (0x02 ∷ 0 ∷ 1 ∷ 0x03 ∷ replicate 15 0); prints = broken_line }
    ∷ []

pub journal_tests : Holds rows
unfolding transcript journal_of limit contents_of records_up_to step_of reading headers level
journal_tests = (refl, (refl, (refl, (refl, (refl, (refl, (refl, (refl, (refl, (refl, (refl, (refl, (refl, (refl, (refl, (refl, (refl, (refl, (refl, (refl, (refl, tt)))))))))))))))))))))

-- the line of counts
pub counts_line_lem : counts_line 1 0 0 0
    ≡ 10 ∷ 112 ∷ 97 ∷ 99 ∷ 107 ∷ 101 ∷ 116 ∷ 115 ∷ 32 ∷ 49 ∷ 32 ∷ 108 ∷ 97 ∷ 116 ∷ 101 ∷ 32 ∷ 48 ∷ 32 ∷ 108 ∷ 111 ∷ 115 ∷ 116 ∷ 32 ∷ 48
    ∷ 32 ∷ 114 ∷ 101 ∷ 102 ∷ 117 ∷ 115 ∷ 101 ∷ 100 ∷ 32 ∷ 48 ∷ 10 ∷ []
unfolding counts_line decimal decimal_up_to
counts_line_lem = refl
