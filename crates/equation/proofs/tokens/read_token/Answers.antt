-- `equation::tokens::read_token` meets its contract. Assumes nothing.
use mathlib.Core.Path.{sym, ◌∙◌}
use native.Mathlib.Omega.{arith}
use borrow.Author.Tests.{lt-ltb, le-ltb}
use Rattle.equation.proofs.TokenLaws as tokens
use Rattle.equation.proofs.tokens.read_token.Goals as goal

pub returns-then-eq-at : goal.returns-then-eq-at
returns-then-eq-at c = tokens.token_end c.args.eq.now c.args.at c.if-eq-at.true

pub returns-then-code-lt128 : goal.returns-then-code-lt128
returns-then-code-lt128 c = c.connective.ensures ∙ sym (tokens.token_at c.args.eq.now c.args.at (omega arith) ∙ simp (lt-ltb _ _ c.if-code-lt128.true))

pub returns-else-code-lt128 : goal.returns-else-code-lt128
returns-else-code-lt128 c = c.read_relation.ensures ∙ sym (tokens.token_at c.args.eq.now c.args.at (omega arith) ∙ simp (le-ltb _ _ c.if-code-lt128.false))
