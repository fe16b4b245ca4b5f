use mathlib.Core.Path.{refl, sym, ◌∙◌}
use native.Mathlib.Omega.{arith}
use lib.Seq.{length-take-le}
use Rattle.embed.specs.Words.{is_state}
use Rattle.embed.proofs.Writing.{encode_alone, words_same}
use lib.ListN.{replicate}
use Rattle.embed.proofs.words.is_state.Goals as goal

pub server_at-server-requires : goal.server_at-server-requires
server_at-server-requires c = c.requires

pub slice_bounds-encode-end : goal.slice_bounds-encode-end
slice_bounds-encode-end c = refl

pub encode-requires : goal.encode-requires
encode-requires c = omega arith

pub returns : goal.returns
unfolding is_state
returns c = rw (← encode_alone _ (replicate 54 0) (omega arith), ← c.server_at-server.ensures, ← c.encode.ensures.state_after) (c.eq.ensures ∙ words_same _ _)
