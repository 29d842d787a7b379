use Rattle.std.proofs.Common.{List, ℕ, ap, ◌∙◌}
use Rattle.cj_cdm.specs.declared.reading.said.MessageSaid.{MessageSaid}
use Rattle.cj_cdm.specs.Messages.{PlainMessage, PlainSide}
use Rattle.cj_cdm.specs.Read.{plain_side, side_of_said}
use Rattle.cj_cdm.proofs.reading.message_of.Goals as goal

-- what a message says with this originator and these objects
abbrev with_parts : MessageSaid → List ℕ → PlainSide → PlainSide → PlainMessage
with_parts m originator one other = record {
  stamp = record { created = m.heading.stamp.created.micros; originator = originator; number = m.heading.stamp.number };
  tca = m.heading.tca.micros;
  miss = m.heading.miss;
  start = m.heading.start.micros;
  stop = m.heading.stop.micros;
  object1 = one;
  object2 = other;
}

pub returns-in-Ok : goal.returns-in-Ok
returns-in-Ok c =
    let m = c.args.said.now in
    let originator = m.heading.stamp.originator.now in
    ap (λ (o : List ℕ). with_parts m o (plain_side c.in-Ok.first) (plain_side c.in-Ok.second)) c.in_ok-originator.ensures
    ∙ ap (λ (s : PlainSide). with_parts m originator s (plain_side c.in-Ok.second)) c.in-Ok.ensures.first
    ∙ ap (λ (s : PlainSide). with_parts m originator (side_of_said m.first) s) c.in-Ok.ensures.second
