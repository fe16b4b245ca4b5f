-- All the demands at work: of each that has its cases in another crate one of them, applied to what `Demands` says of it. Assumes nothing.
use mathlib.Core.Path.{◌≡◌}
use mathlib.Core.List.{[], ◌∷◌, map, Memᴰ}
use Rattle.calls.specs.Call.{receive}
use Rattle.model.specs.State.{session_at}
use Rattle.model.specs.Step.{step}
use Rattle.table.specs.Given.{blocks_for}
use Rattle.worked.proofs.Passes.{opened, upload, short_upload}
use Rattle.worked.proofs.Demand1 as demand_1
use Rattle.worked.proofs.Machine as machine
use Rattle.paging.specs.Client.{oldest_first}
use Rattle.paging.specs.Paging.{entry, entry_of, begins, paged_by, state_of}
use Rattle.paging.specs.Pieces.{AsksWith}
use Rattle.paging.specs.Worked as paging
use Rattle.paging.specs.Worked.{sized, uploaded, pieces, rest, beginning, reader, output}
use Rattle.paging.proofs.Worked as client
use Rattle.paging.proofs.Said as said
use Rattle.demands.specs.Demands.{Demands}

module _ (d : Demands) where
  -- demand 1: UPLOAD_CMD of one byte leaves all as it was
  pub short_upload_leaves : demand_1.Unchanged short_upload
  short_upload_leaves = demand_1.short_upload_leaves d.every_answer

  -- demand 2: UL_GO_RESP for a new file, byte by byte
  pub new_file_law : machine.Gets opened 6 (upload 0) (8 ∷ 4 ∷ 1 ∷ 0 ∷ 0 ∷ 0 ∷ 0 ∷ 0 ∷ 0 ∷ 0 ∷ [])
  new_file_law = machine.new_file_law d.real_answers

  -- paging: the first page, file 3 among those given, all of them, and the SELECT_CMD in three pieces
  pub first_page : (session_at (step (state_of paging.small sized beginning) (receive 1 8 rest output)).after 0).selected ≡ 2 ∷ []
  first_page = client.first_page d.page_answer

  pub last_given : Memᴰ (entry 3 9) (paged_by paging.small sized reader).given
  last_given = client.last_given d.paging

  pub whole_given : entry 2 7 ∷ entry 1 8 ∷ entry 3 9 ∷ [] ≡ map entry_of (oldest_first sized (state_of paging.small sized reader))
  whole_given = client.whole_given d.paging_whole

  pub pieces_ask : AsksWith paging.small sized (begins uploaded) 1 8 pieces rest output
  pieces_ask = client.pieces_ask d.in_pieces

  -- the paper's examples: 0, 256 and 257 bytes take 0, 1 and 2 blocks
  pub three_lengths : map blocks_for (0 ∷ 256 ∷ 257 ∷ []) ≡ 0 ∷ 1 ∷ 2 ∷ []
  three_lengths = (said.amounts d.examples).0
