use Rattle.std.proofs.Common.{ℕ, List}
use Rattle.classday.specs.Sheet.{prints_at}
use Rattle.classday.proofs.Parts as laws
use Rattle.classday.proofs.turn.reply_behind.Goals as goal

pub returns : goal.returns
returns c =
    laws.reply_put (λ (line : List ℕ). prints_at c.args.server c.args.disk.now c.args.owner.now c.args.table.now line)
    c.args.input.now c.args.text.now _ c.args.from c.args.to c.args.at _ _ _ c.reply.result
    c.least-stop.ensures.2 c.least-start.ensures.2 c.least-place.ensures.2 c.reply.ensures
