-- Downloads from one link to another at work: the statements on them are applied to a small case, and what is sent is stated. Assumes nothing.
use mathlib.Core.Path.{◌≡◌, refl, ap, ◌∙◌, sym, subst}
use mathlib.Core.Bool.{true}
use mathlib.Core.List.{List, [], ◌∷◌}
use mathlib.Core.Option.{some}
use Prim.Native.Nat.{ℕ, zero, suc}
use native.Mathlib.Omega.{arith}
use lib.ListN.{length, drop}
use Rattle.header.proofs.Examples.{smallest}
use Rattle.header.specs.Fields.{fields_set}
use Rattle.model.specs.State.{File, file, session_at}
use Rattle.model.specs.Files.{find}
use Rattle.model.specs.Step.{step}
use Rattle.steps.specs.Parts.{sent_by}
use Rattle.transfers.specs.Downloads.{for_uplink, request_or_uplink, own_or_other, requests_and_uplink, sent_to, end_to, data_to, Downloading, number_asked}
use Rattle.worked.proofs.Passes.{pair, pair_legal, output, of, download, both, handed, meanwhile}
use Rattle.worked.proofs.Machine.{at_work}
use Rattle.demands.specs.Downloads.{accepted_set, Handed}
use Rattle.demands.specs.Demand3.{model_at}
use Rattle.demands.specs.Demands.{Demands}
use Rattle.demands.proofs.Example.{downloaded}

abbrev handed_file : File
handed_file = file 1 80 (fields_set 1 7 smallest) 7

begun_other : Downloading (model_at pair handed) 2 1 0 handed_file
unfolding at_work
begun_other = record { from_one = omega arith; linked = refl; down = refl; found = refl }

only_meanwhile : requests_and_uplink (model_at pair handed) 2 meanwhile ≡ true
unfolding requests_and_uplink own_or_other request_or_uplink
only_meanwhile = refl

other_ends : end_to (model_at pair handed) 2 meanwhile ≡ true
unfolding at_work end_to sent_to sent_by
other_ends = refl

pub asked_number : number_asked (session_at (model_at pair both) 1) (drop 2 (download 0 0)) ≡ 1
unfolding at_work number_asked
asked_number = refl

module _ (d : Demands) where
  -- what the first link uploaded is sent to the second, whatever the first one does meanwhile
  pub handed_over : data_to (model_at pair handed) 2 meanwhile ≡ fields_set 1 7 smallest
  handed_over =
      d.pupil_to_pupil pair pair_legal handed 2 1 handed_file begun_other meanwhile only_meanwhile other_ends
      ∙ ap (fields_set 1 7) downloaded.after

  -- the same from DOWNLOAD_CMD on
  pub asked_for : Handed pair both 2 9 (download 0 0) output (drop 2 (download 0 0)) meanwhile
  unfolding at_work
  asked_for =
      d.asked_and_sent pair pair_legal both 2 9 11 (download 0 0) output (drop 2 (download 0 0)) downloaded.asked refl refl meanwhile only_meanwhile other_ends

  -- it is the file of the number that was asked for, and its bytes are those accepted under it
  pub asked_was : find (number_asked (session_at (model_at pair both) 1) (drop 2 (download 0 0))) (model_at pair both).files ≡ some asked_for.file
  asked_was = asked_for.was

  pub asked_sent : data_to (step (model_at pair both) (of 2 9 (download 0 0))).after 2 meanwhile
      ≡ accepted_set pair both (number_asked (session_at (model_at pair both) 1) (drop 2 (download 0 0))) asked_for.file.time
  asked_sent = asked_for.sent
