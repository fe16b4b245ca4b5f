use Rattle.std.proofs.Common.{◌≡◌, ◌≢◌, ap, rules, arith, drop, length}
use borrow.Author.Tests.{tests}
use Rattle.std.proofs.lemmas.Iterator.{index_from_first, IsFirst-from_position, YieldsList-from_slice}
use Rattle.input.specs.Input.{line_length}
use Rattle.input.proofs.InputLaws.{cons_here, cons_on, line_none, end_all}
use Rattle.input.proofs.newline_from.Goals as goal

pub returns : goal.returns
returns c =
    let first = index_from_first line_length (λ b. b ≡ 10) (λ b. b ≢ 10) line_none cons_here (λ b bs h. cons_on b bs h) _ _
    (IsFirst-from_position _ _ _ (λ b. b ≡ 10) (λ b. b ≢ 10) c.position.ensures.ran (YieldsList-from_slice _ c.iter.ensures.rest) (λ x q k. search (rules, tests)) (λ x q k. search (rules, tests))) in
    let all : _ ≡ drop c.args.from c.args.input.now = end_all c.args.from c.args.input.now in
    omega (arith, c.requires.count, c.unwrap_or.ensures, first, ap length all, ap line_length all)
