use Rattle.lines.specs.Commands.{command_of_two}
use Rattle.packet.specs.Names.{bytes_of}
use Rattle.lines.proofs.commands.command_of_two.Goals as goal

pub returns-then-same_text : goal.returns-then-same_text
unfolding command_of_two bytes_of
returns-then-same_text c = rw (c.in-Some.is, ← c.same_text.ensures, c.if-same_text.true)

pub returns-then-same_text-2 : goal.returns-then-same_text-2
unfolding command_of_two bytes_of
returns-then-same_text-2 c = rw (
  c.in-Some.is,
  ← c.same_text.ensures,
  c.if-same_text.false,
  ← c.same_text-2.ensures,
  c.if-same_text-2.true,
)

pub returns-then-same_text-3 : goal.returns-then-same_text-3
unfolding command_of_two bytes_of
returns-then-same_text-3 c = rw (
  c.in-Some.is,
  ← c.same_text.ensures,
  c.if-same_text.false,
  ← c.same_text-2.ensures,
  c.if-same_text-2.false,
  ← c.same_text-3.ensures,
  c.if-same_text-3.true,
)

pub returns-in_default : goal.returns-in_default
unfolding command_of_two
returns-in_default c = rw c.in_default.is

pub returns : goal.returns
unfolding command_of_two bytes_of
returns c = rw (
  c.in-Some.is,
  ← c.same_text.ensures,
  c.if-same_text.false,
  ← c.same_text-2.ensures,
  c.if-same_text-2.false,
  ← c.same_text-3.ensures,
  c.if-same_text-3.false,
)
