use Rattle.embed.proofs.Writing.{run_server}
use Rattle.embed.proofs.Reading.{state_too, server_fits}
use Rattle.embed.proofs.words.encode.Goals as goal

pub returns : goal.returns
returns c = let all = state_too c.args.server c.args.state.now c.write_session-4.new.state (rw (← run_server c.args.server c.args.state.now c.requires, ← c.write_head.ensures.state_after, ← c.write_session.ensures.state_after, ← c.write_session-2.ensures.state_after, ← c.write_session-3.ensures.state_after) c.write_session-4.ensures.state_after) (server_fits c.args.server c.write_head.ensures.last_fits c.write_session.ensures.session_fits c.write_session-2.ensures.session_fits c.write_session-3.ensures.session_fits c.write_session-4.ensures.session_fits) in record { state_after = all.0; state_after_2 = all.1 }
