-- `back::value` meets its contract. Assumes nothing.
use mathlib.Core.Path.{◌∙◌}
use native.Mathlib.Omega.{arith}
use lib.ListN.{length}
use Rattle.writing.proofs.Parts as parts
use Rattle.back.proofs.value.Goals as goal

pub returns-in-1 : goal.returns-in-1
returns-in-1 c = c.from.ensures ∙ parts.one_byte c.args.s.now c.in-1.is

pub bounds-s-0-in_default : goal.bounds-s-0-in_default
bounds-s-0-in_default c = omega (arith, (parts.four_left (length c.args.s.now) c.requires (λ e. omega arith) (λ e. omega arith)))

pub bounds-s-1-in_default : goal.bounds-s-1-in_default
bounds-s-1-in_default c = omega (arith, (parts.four_left (length c.args.s.now) c.requires (λ e. omega arith) (λ e. omega arith)))

pub bounds-s-2 : goal.bounds-s-2
bounds-s-2 c = omega (arith, (parts.four_left (length c.args.s.now) c.requires (λ e. omega arith) (λ e. omega arith)))

pub bounds-s-3 : goal.bounds-s-3
bounds-s-3 c = omega (arith, (parts.four_left (length c.args.s.now) c.requires (λ e. omega arith) (λ e. omega arith)))

pub returns-in_default : goal.returns-in_default
returns-in_default c = c.number32.ensures ∙ parts.four_bytes c.args.s.now (parts.four_left (length c.args.s.now) c.requires (λ e. omega arith) (λ e. omega arith))
