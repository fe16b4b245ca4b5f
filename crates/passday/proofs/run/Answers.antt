use Rattle.history.proofs.Made.{made_ok}
use Rattle.pass.proofs.Starting.{new_going, made_played}
use Rattle.pass.specs.Sheets.{no_more}
use Rattle.passday.proofs.run.Goals as goal

pub unwrap-server-requires : goal.unwrap-server-requires
unwrap-server-requires c = made_ok _ _ _ c.requires.legal c.make.ensures

pub play-requires : goal.play-requires
play-requires c = new_going _ c.unwrap-server.result c.new_pass.ensures

pub returns : goal.returns
returns c = made_played 560 no_more _ _ _ _ c.make.result c.unwrap-server.result _ _ _ _ _ _ _ c.make.ensures c.unwrap-server.ensures c.new_pass.ensures c.play.ensures
