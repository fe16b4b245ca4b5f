use Rattle.embed.proofs.Checked.{two_counts}
use Rattle.embed.proofs.write_counts.Goals as goal

pub returns : goal.returns
returns c = two_counts c.args.counts.now c.args.taken c.args.size c.requires
