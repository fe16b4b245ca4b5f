-- ALL THAT IS PROMISED, in one statement: the three demands, sentence by sentence. Whoever reads one file reads this one; the file behind each name
-- says it in full. `demands` (proofs/Demands.antt) proves all of it together. Assumes nothing.
use Rattle.std.specs.Prelude.{◌≡◌, true}
use Rattle.history.specs.Calls.{Start, legal, History}
use Rattle.paging.specs.Examples.{Examples}
use Rattle.paging.specs.Paging.{PageAnswer, Paging, PagingWhole}
use Rattle.paging.specs.Pieces.{InPieces}
use Rattle.promises.specs.Demand1.{Demand1}
use Rattle.promises.specs.Demand2.{Demand2}
use Rattle.demands.specs.Demand3.{Demand3}
use Rattle.demands.specs.Downloads.{FromPupilToPupil, AskedAndSent}

pub record Demands : Type 0 where
  -- 1. "Every byte sequence, clock reading and lent buffer gets an answer. The program always ends, asks nothing of its caller beforehand, and
  -- refuses by a number from the table or closes the link. A refusal leaves the files, the session and the output buffer as that table says."
  pub every_answer : Demand1
  -- 2. "Every packet written or read, header check, selection, refusal and closing is what FTL0 version 0 .. and our marked house rules define": the
  -- server is the machine of crates/model, and what a download brings is the file (Downloads.antt). "A packet written reads back as itself. Cutting
  -- elsewhere the bytes that a link takes .. changes no packet sent and no state after it."
  pub real_answers : Demand2
  -- 3. "From an empty store, after any calls, links lost at any byte and clocks running backwards included: each storage block is free or belongs to
  -- one file; no file number is given twice; a complete file is the bytes accepted under its number, in order, with only the [five] server-set fields
  -- replaced; a call changes no file but its own. Upload times rise strictly in order of completion."
  pub sound_store : (s : Start) → legal s ≡ true → (h : History) → Demand3 s h
  -- with demand 2: who downloads a complete file is sent the bytes accepted under its number, the five fields set, whatever others do meanwhile
  pub pupil_to_pupil : FromPupilToPupil
  -- the same from DOWNLOAD_CMD to DATA_END
  pub asked_and_sent : AskedAndSent
  -- "So whoever selects from upload time 0, then again above each page's newest time, with an equation that has room for that condition, until a page
  -- is shorter than MAXSEL, has been given every matching file complete by then once, oldest first." (crates/paging/specs/Paging.antt). It is said of the
  -- machine after any calls, which by demand 2 the server is.
  pub page_answer : PageAnswer
  pub paging : Paging
  pub paging_whole : PagingWhole
  -- "First, the server must hear the command, however the radio link chops the bytes": the client's SELECT may come in any pieces
  pub in_pieces : InPieces
  -- P1 to P12 of the scope paper: what the definitions give is what the paper says
  pub examples : Examples
