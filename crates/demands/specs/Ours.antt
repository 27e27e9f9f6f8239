-- Our line: the calls that the code is proved to make.
use Rattle.text_spec.specs.Utf8.{text_of}
use Rattle.packet_spec.specs.Limits.{level}
use Rattle.packet_spec.specs.Reading.{reading, block_at}
use Rattle.receiver_spec.specs.Opening as receiver
use Rattle.receiver_spec.specs.Step.{step_of, text_given}
use Rattle.holding_spec.specs.Opening as holding
use Rattle.holding_spec.specs.Step.{holding_step, text_handed}
use Rattle.sender_spec.specs.Calls as sender
use Rattle.sender_spec.specs.Calls.{offer_of, clock_of}
use Rattle.demands.specs.Line.{Line}

abbrev pub ours : Line
ours = record {
  text = text_of;
  read = reading level;
  block = block_at;
  open_receiver = receiver.open_receiver;
  step = step_of;
  hand_out = text_given;
  open_holding = holding.open_holding;
  hold = holding_step;
  hand_out_either = text_handed;
  open_sender = sender.open_sender;
  offer = offer_of;
  clock = clock_of;
}
