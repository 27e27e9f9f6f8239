use Rattle.std.proofs.Common.{◌≡◌, ◌∙◌, ℕ, List, ap, sym, rules}
use Rattle.std.specs.Prelude.{Ok}
use Rattle.base.specs.Flags.{bit}
use Rattle.packet_spec.specs.Header.{Expected}
use Rattle.header.specs.declared.Header.{Header}
use Rattle.packet.specs.Places.{expected_source}
use Rattle.header.specs.Internal.Seen.{HeaderSeen, header_seen, passed_header, header_of}
use Rattle.blocks.specs.Internal.Seen.{BlocksSeen, blocks_seen_at}
use Rattle.packet.proofs.Names.{number_positive}
use Rattle.reader.proofs.Placed.{header_refused, header_passed, blocks_seen, blocks_refused, blocks_placed}
use Rattle.reader.proofs.read_from.Goals as goal

-- what an accepted header says, and what the blocks after it are
module _ (e : Expected) (t140 red : ℕ) (p : List ℕ) (h : Header) (told : header_seen (Ok h) ≡ header_of e t140 red p) where
  passed : (header_of e t140 red p).number ≡ 0
  passed = ap (λ (x : HeaderSeen). x.number) (sym told)

  header_is : header_seen (Ok h) ≡ passed_header t140 p
  header_is = told ∙ header_passed e t140 red p passed

  blocks_are : blocks_seen_at h.plain t140 p h.from h.end ≡ blocks_seen e t140 red p passed
  blocks_are = ap (λ (x : HeaderSeen). blocks_seen_at x.plain t140 p x.from x.end) header_is

pub returns-in_err-header : goal.returns-in_err-header
returns-in_err-header c =
    let a = c.args in
    let told = header_refused (expected_source a.expected) a.t140 a.red a.packet.now _ (number_positive _) (ap (λ (x : HeaderSeen). x.number) (sym c.in_err-header.ensures)) in
    search (rules, told)

pub returns-in_err-blocks : goal.returns-in_err-blocks
returns-in_err-blocks c =
    let a = c.args in
    let e = expected_source a.expected in
    let p = a.packet.now in
    let h = c.in_ok-header in
    let b = c.in_err-blocks.ensures ∙ blocks_are e a.t140 a.red p h.header h.ensures in
    let told = blocks_refused e a.t140 a.red p (passed e a.t140 a.red p h.header h.ensures) _ (number_positive _) (ap (λ (x : BlocksSeen). x.number) (sym b)) in
    search (rules, told)

pub returns : goal.returns
returns c =
    let a = c.args in
    let e = expected_source a.expected in
    let p = a.packet.now in
    let read = c.in_ok-header in
    let h = header_is e a.t140 a.red p read.header read.ensures in
    let b = c.in_ok-blocks.ensures ∙ blocks_are e a.t140 a.red p read.header read.ensures in
    let m = c.from.ensures ∙ ap (λ (x : HeaderSeen). bit x.marker) h in
    (λ i. record {
      number = 0;
      packet = record {
        marker = m i;
        sequence = (h i).sequence;
        timestamp = (h i).timestamp;
        source = (h i).source;
        count = (b i).count;
        first = (b i).first;
        primary = (b i).primary;
        end = (h i).end;
      };
    })
    ∙ blocks_placed e a.t140 a.red p (passed e a.t140 a.red p read.header read.ensures) (ap (λ (x : BlocksSeen). x.number) (sym b))
