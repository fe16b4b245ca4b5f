use Rattle.history.proofs.Made.{made_ok}
use Rattle.sitting.proofs.Starting.{new_going, made_played}
use Rattle.sitting.proofs.run.Goals as goal

pub unwrap-server-requires : goal.unwrap-server-requires
unwrap-server-requires c = made_ok _ _ _ c.requires.legal c.make.ensures

pub play-requires : goal.play-requires
play-requires c = new_going _ _ c.unwrap-server.result c.new_sitting.ensures

pub returns : goal.returns
returns c = made_played _ _ _ _ _ c.make.result c.unwrap-server.result _ _ _ _ _ _ _ c.make.ensures c.unwrap-server.ensures c.new_sitting.ensures c.play.ensures
