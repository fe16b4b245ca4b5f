-- `equation::tokens::stars` meets its contract. Assumes nothing.
use Rattle.std.proofs.Common.{◌≡◌, ◌==◌, ◌∙◌, rules}
use Rattle.std.specs.List.{count_by}
use Rattle.equation.proofs.TokenLaws.{stars_counted}
use Rattle.equation.proofs.tokens.stars.Goals as goal

pub returns : goal.returns
returns c = let e : c.count.result ≡ count_by (λ b. b == 42) c.args.constant.now = search rules in e ∙ stars_counted c.args.constant.now
