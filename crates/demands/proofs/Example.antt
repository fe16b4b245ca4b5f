-- What the definitions of demand 3 give for the passes of crates/worked, by computation. AtWork.antt and DownloadsAtWork.antt apply the theorems to them.
-- Assumes nothing.
use mathlib.Core.Path.{◌≡◌, refl}
use mathlib.Core.List.{List, [], ◌∷◌, ◌++◌}
use mathlib.Core.Option.{some}
use Prim.Native.Nat.{ℕ}
use lib.ListN.{length, get_or, take, drop}
use Rattle.header.proofs.Examples.{smallest}
use Rattle.header.specs.Fields.{fields_set}
use Rattle.packet.specs.Frame.{packet}
use Rattle.blocks.specs.FreeMap.{bit_at}
use Rattle.server.specs.State.{map_part, owner_part}
use Rattle.history.specs.Calls.{start}
use Rattle.model.specs.Step.{ends_in, run}
use Rattle.steps.specs.Parts as parts
use Rattle.accepted.specs.Link.{link_bytes}
use Rattle.accepted.specs.Link as accepted-link
use Rattle.accepted.specs.Events as accepted-events
use Rattle.accepted.specs.Accepted.{accepted, reserved, numbers_given, total}
use Rattle.accepted.specs.Accepted as accepted-accepted
use Rattle.worked.proofs.Passes as worked-passes
use Rattle.worked.proofs.Passes.{small, pair, download, before_upload, lost_once, both, handed, complete80}
use Rattle.demands.specs.Demand3.{server_at, lent_at, files_at, transcript_at}

-- the file with a lost link, by place: partial, and complete
pub record LostOnce : Type 0 where
  pub half : accepted (transcript_at small before_upload) 1 ≡ take 40 smallest
  pub partial : (files_at small before_upload 0).file ≡ record { number = 1; size = 80; received = 40; time = 0 }
  pub bytes : accepted (transcript_at small lost_once) 1 ≡ smallest
  pub blocks : reserved (transcript_at small lost_once) 1 ≡ 1
  pub file : (files_at small lost_once 0).file ≡ record { number = 1; size = 80; received = 80; time = 4 }
  -- the block is free at first, and then owned by place 0
  pub free : bit_at (map_part (server_at small start) (lent_at small start)) 0 ≡ 1
  pub bit : bit_at (map_part (server_at small lost_once) (lent_at small lost_once)) 0 ≡ 0
  pub owner : get_or (owner_part (server_at small lost_once) (lent_at small lost_once)) 0 0 ≡ 1
  pub sum : total (length (numbers_given (transcript_at small lost_once))) (reserved (transcript_at small lost_once)) ≡ 1
  pub none : total (length (numbers_given (transcript_at small start))) (reserved (transcript_at small start)) ≡ 0

-- two links, two files
pub record Both : Type 0 where
  pub file : (files_at pair both 0).file ≡ record { number = 1; size = 80; received = 80; time = 7 }

pub record Downloads : Type 0 where
  -- what was accepted for the file that the first link uploaded, before the second one's DOWNLOAD_CMD and after it
  pub before : accepted (transcript_at pair both) 1 ≡ smallest
  pub after : accepted (transcript_at pair handed) 1 ≡ smallest
  -- behind the second link's last packet comes its DOWNLOAD_CMD
  pub asked : ends_in (link_bytes (transcript_at pair both) 1 ++ download 0 0) ≡ some (packet 8 (drop 2 (download 0 0)))
  pub fields : fields_set 1 4 smallest ≡ complete80

pub record Computed : Type 0 where
  pub lost_once_law : LostOnce
  pub both : Both

-- whoever unfolds this unfolds all that the examples compute with
computing : ℕ
unfolding
    worked-passes.computing run parts.sent_by accepted-link.taken_by accepted-link.behind accepted-link.received_by accepted-link.anew_by link_bytes
    accepted-events.named_by accepted-events.none_by accepted-events.upload_of accepted-events.on_quiet accepted-events.on_go accepted-events.on_sent
    accepted-events.on_answer accepted-accepted.added_by accepted accepted-accepted.announced_by accepted-accepted.announced accepted-accepted.blocks_of total
    accepted-accepted.given_by numbers_given transcript_at ends_in handed complete80
computing = 0

pub computed : Computed
unfolding computing
computed =
    record {
      lost_once_law = record {
        half = refl;
        partial = refl;
        bytes = refl;
        blocks = refl;
        file = refl;
        free = refl;
        bit = refl;
        owner = refl;
        sum = refl;
        none = refl;
      };
      both = record { file = refl };
    }

pub downloaded : Downloads
unfolding computing
downloaded = record { before = refl; after = refl; asked = refl; fields = refl }
