-- The number of each refusal: 01's "Refusal numbers", and 02's 9, 22 and 27.
use Rattle.std.specs.Prelude.{ℕ, Result, Ok, Err}
use Rattle.packet.specs.declared.Refusal.{Refusal}
use Rattle.packet.specs.declared.Refusal.TheVariants.{Level, Buffering, PayloadTypes, WaitingRoom, Clock, Text, NoText, Space, Rate, Short, Long, Version, Header, Padding, PayloadType, Source, BlockHeaders, BlockCount, BlockType, BlockLengths, BlockText, BlockAges, HeldPacket}

abbrev pub number : Refusal → ℕ
number Level = 1
number Buffering = 2
number PayloadTypes = 3
number WaitingRoom = 4
number Clock = 5
number Text = 6
number NoText = 7
number Space = 8
number Rate = 9
number Short = 10
number Long = 11
number Version = 12
number Header = 13
number Padding = 14
number PayloadType = 15
number Source = 16
number BlockHeaders = 17
number BlockCount = 18
number BlockType = 19
number BlockLengths = 20
number BlockText = 21
number BlockAges = 22
number HeldPacket = 27

-- 0 where a call is accepted
abbrev pub outcome_number : Result Unit Refusal → ℕ
outcome_number (Ok _) = 0
outcome_number (Err r) = number r
