-- Whoever asks for a directory gets the entries of its files, which are complete and stay as they were. Assumes nothing.
use mathlib.Core.Path.{◌≡◌, refl, ap, ◌∙◌, subst}
use mathlib.Core.Bool.{Bool}
use mathlib.Core.List.{List}
use Prim.Native.Nat.{ℕ, ◌+◌, ◌-◌, ◌≤◌, ◌<◌}
use native.Mathlib.Omega.{arith}
use borrow.Author.Tests.{lt-ltb, le-ltb}
use lib.ListN.{length, take, drop}
use Rattle.session.specs.declared.reply.Reply.TheVariants as reply
use Rattle.session.specs.Reply.{sent_info, tell}
use Rattle.calls.specs.Call.{Call}
use Rattle.model.specs.State.{no_download, listing, with_down}
use Rattle.model.specs.State.{Model, session_at, in_session, stepped}
use Rattle.model.specs.Downlink.{directory_of, listing_due, on_request}
use Rattle.model.specs.Step.{step}
use Rattle.steps.specs.Sound.{Sound}
use Rattle.steps.specs.Naming.{DownOk, Named}
use Rattle.transfers.specs.Directories.{Listing, DirectoryBrings, DirectoryEnds}
use Rattle.steps.proofs.Found.{directory_same}
use Rattle.steps.proofs.Calls.{complete_stays}
use Rattle.transfers.proofs.Sent.{Source, Has, sent_all_law, all_ended}

-- ---- a session that is being sent the directory of the files of these numbers

module _ (i : ℕ) (long : Bool) (ns bytes : List ℕ) where
  entries_kept : (m : Model) (c : Call) (at : ℕ) → Sound m → Named m → (session_at m i).down ≡ listing long ns at → directory_of long ns m.files ≡ bytes
      → directory_of long ns (step m c).after.files ≡ bytes
  entries_kept m c at s k d e =
      directory_same long m.files (step m c).after.files (λ n a. complete_stays m c n s k a) ns (subst (DownOk m.files) d (k.down i)) ∙ e

  -- what is due of it
  due_is : (m : Model) (at : ℕ) (out : List ℕ) → directory_of long ns m.files ≡ bytes
      → on_request (listing long ns at) m i out ≡ listing_due bytes m i long ns at out
  unfolding on_request
  due_is m at out e = ap (λ (x : List ℕ). listing_due x m i long ns at out) e

  due_more : (m : Model) (at : ℕ) (out : List ℕ) → at < length bytes
      → listing_due bytes m i long ns at out
      ≡ stepped (sent_info 0 (take 256 (drop at bytes)) 0 out) (in_session i (with_down (listing long ns (at + length (take 256 (drop at bytes))))) m)
  unfolding listing_due
  due_more m at out k = rw (lt-ltb at (length bytes) k)

  due_end : (m : Model) (at : ℕ) (out : List ℕ) → length bytes ≤ at
      → listing_due bytes m i long ns at out ≡ stepped (tell reply.DataEnd 0 out) (in_session i (with_down no_download) m)
  unfolding listing_due
  due_end m at out k = rw (le-ltb at (length bytes) k)

  due_none : (m : Model) (out : List ℕ) → on_request no_download m i out ≡ stepped (tell reply.Nothing 0 out) m
  unfolding on_request
  due_none m out = refl

  abbrev directory_source : Source i bytes
  directory_source =
      record {
        going = listing long ns;
        over = no_download;
        Stays = λ m. directory_of long ns m.files ≡ bytes;
        kept = entries_kept;
        more = λ m at out e k. due_is m at out e ∙ due_more m at out k;
        end = λ m at out e k. due_is m at out e ∙ due_end m at out k;
        rests = due_none;
      }

module _ (m : Model) (s : Sound m) (k : Named m) (session : ℕ) (long : Bool) (ns : List ℕ) (offset : ℕ) (d : Listing m session long ns offset) where
  abbrev bytes : List ℕ
  bytes = directory_of long ns m.files

  begun : Has session d.from_one bytes (directory_source (session - 1) long ns bytes) (session_at m (session - 1)) m offset
  begun = record { linked = d.linked; down = d.down; place = record { selected = refl; next = refl }; stays = refl; sound = s; named = k }

-- THEOREM: whoever asks for a directory gets the entries of its files
pub directory_brings : DirectoryBrings
directory_brings m s k session long ns offset d cs only =
    let bytes = directory_of long ns m.files in
    let r =
    sent_all_law session d.from_one bytes (directory_source (session - 1) long ns bytes) (session_at m (session - 1)) cs m offset
    (begun m s k session long ns offset d) only in
    record {
      brings = record { back = r.back; front = r.front; whole = r.whole };
      linked = r.linked;
      down = r.down;
      selected = r.place.selected;
      next = r.place.next;
    }

-- THEOREM: and gets all of them
pub directory_ends : DirectoryEnds
directory_ends m s k session long ns offset d cs only many =
    let bytes = directory_of long ns m.files in
    all_ended session d.from_one bytes (directory_source (session - 1) long ns bytes) (session_at m (session - 1)) cs m offset
    (begun m s k session long ns offset d) only (omega arith)
