-- A request is a step of the machine.
use Rattle.std.specs.Prelude.{Result, Ok}
use mathlib.Core.Path.{◌≡◌, refl, sym, ap, ap₂, ◌∙◌}
use mathlib.Core.Bool.{Bool, true, false, cond}
use mathlib.Core.List.{List, [], ◌∷◌, ◌++◌, map}
use mathlib.Core.Option.{Option, some}
use Prim.Native.Nat.{ℕ, ◌+◌, ◌-◌, ◌%◌, ◌≤◌, ◌<◌}
use native.Mathlib.Omega.{arith}
use native.Mathlib.Nat.{mod-eq_of_lt}
use borrow.Author.Tests.{eqb-true, eqb-false, ltb-true, le-ltb, lt-ltb}
use lib.Dec.{eqb, ltb}
use lib.ListN.{length, take, drop, length-take, length-drop}
use Rattle.packet.specs.Packet.{packet_of}
use Rattle.session.specs.declared.state.Session.{Session}
use Rattle.session.specs.declared.state.Downlink.{Downlink}
use Rattle.session.specs.declared.state.Downlink.TheVariants as down
use Rattle.session.specs.declared.state.Listed.{Listed}
use Rattle.session.specs.declared.reply.Reply.{Reply}
use Rattle.session.specs.declared.reply.Reply.TheVariants as reply
use Rattle.session.specs.declared.reply.Answer.TheVariants as answer
use Rattle.session.specs.State.{with_down}
use Rattle.session.specs.Reply.{Told, told, tell, answered, sent_info}
use Rattle.table.specs.Table.{files}
use Rattle.links.proofs.Facts.{SendingAt, ListingAt, LinkFacts, selection_of}
use Rattle.links.proofs.Facts as links
use Rattle.server.specs.declared.Server.{Server}
use Rattle.server.specs.State.{Lent, link_of, with_link, owner_part, table_part}
use Rattle.header.specs.Entries.{running_on}
use Rattle.listing.specs.declared.Filled.{Filled}
use Rattle.listing.specs.Listing.{entries_of, next_bytes, fill_of}
use Rattle.listing.proofs.FillLaws.{next_of_all, fill_moves}
use Rattle.sending.specs.Sending.{Due, asked, asked_of, least_of, data_of, sending_of, listing_of, due_of}
use Rattle.sending.specs.Sending as sending
use Rattle.sending.proofs.SendLaws.{listing_bytes}
use Rattle.carry.specs.Turn.{Mem}
use Rattle.server.specs.Turns.{parts_of}
use Rattle.server.specs.Calls as server
use Rattle.server.specs.Calls.{due_as, request_of, request_by}
use Rattle.acts.specs.Change.{Files}
use Rattle.history.specs.Good.{Good}
use Rattle.history.specs.Stored.{files_of}
use Rattle.history.specs.Calls as history
use Rattle.history.proofs.Leaves.{mem_of, stored_parts}
use Rattle.model.specs.State as model
use Rattle.model.specs.State.{File, in_session, Stepped, stepped}
use Rattle.model.specs.Files.{find}
use Rattle.model.specs.Downlink.{data_due, entry_in, directory_of, listing_due, on_request}
use Rattle.model.specs.Step.{refusal, step}
use Rattle.views.specs.View.{file_of, numbered, names_of, bytes_behind, down_of, view}
use Rattle.refines.specs.Refines.{Refines}
use Rattle.views.proofs.Views.{facts, Through, check_is, through, find_view, open_view, state_moved, view_stays, found_at}
use Rattle.views.proofs.Listings.{entry_by, entries_are, behind_is}
use Rattle.refines.proofs.Plain.{told_room, refined, by_check}
use Rattle.views.proofs.Bytes as bytes

module _ (sv : Server) (l : Lent) (g : Good sv l) (i : ℕ) (inside : i < sv.sessions) (linked : (link_of sv i).linked ≡ true) where
  abbrev F : Files
  F = files_of sv l

  abbrev s : Session
  s = link_of sv i

  pub own : LinkFacts (files (table_part sv l)) sv.most (selection_of sv.most l.selected i) (links.packet_of l.held i) s
  own = (facts sv l g).sessions.each i inside linked

  abbrev selected : List ℕ
  selected = selection_of sv.most l.selected i

  abbrev read : Downlink → model.Downlink
  read d = down_of F (numbered sv l) selected s.next d

  -- the downlink moves
  pub down_moved : (d : Downlink) → view (with_link sv i (with_down s d)) l ≡ in_session i (model.with_down (read d)) (view sv l)
  down_moved d = state_moved sv l g i inside linked (with_down s d) (model.with_down (read d)) linked refl

  -- what is due, as a call tells it and leaves it
  abbrev due : Due → Stepped
  due d = stepped (told d.asked.answer d.out) (view (with_link sv i d.asked.session) l)

  module _ (out : List ℕ) (room : 258 ≤ length out) where
    told_due : (r : Reply) (d : Downlink) → due (sending.told (with_down s d) (answered r 0 out)) ≡ stepped (tell r 0 out) (in_session i (model.with_down (read d)) (view sv l))
    told_due r d = ap₂ stepped (ap (λ (t : Told). told t.answer t.out) (told_room r 0 out room)) (down_moved d)

    module _ (place offset sent : ℕ) (c : SendingAt (files (table_part sv l)) place (offset + sent)) where
      abbrev at : ℕ
      at = offset + sent

      abbrev info : List ℕ
      info = take 256 (drop at (F place).bytes)

      onward : at < length (F place).bytes → (n : ℕ) → n ≡ length info → offset + (sent + n) % 4294967296 ≡ at + length info
      onward h n e =
          let b = bytes.countable sv l (facts sv l g) place c.complete in
          let k : length info ≤ length (drop at (F place).bytes) =
          omega (arith, bytes.least_length (drop at (F place).bytes), bytes.least_le (length (drop at (F place).bytes))) in
          let d = length-drop at (F place).bytes in
          ap (λ (z : ℕ). offset + z) (mod-eq_of_lt (omega arith)) ∙ omega arith

      data_due_law : at < length (F place).bytes
          → due (data_of s place offset sent (least_of ((F place).file.size - at)) l.disk (owner_part sv l) out)
          ≡ stepped (sent_info 0 info 0 out) (in_session i (model.with_down (model.sending (F place).file.number (at + length info))) (view sv l))
      unfolding data_of
      data_due_law h =
          ap₂ stepped
          (ap₂ (λ (n : ℕ) (xs : List ℕ). told (answer.Sent 0 (2 + n)) (packet_of 0 xs ++ drop (2 + n) out))
          (bytes.data_length sv l (facts sv l g) place c.complete at) (bytes.data_read sv l (facts sv l g) place c.complete at h))
          (down_moved (down.Sending place offset ((sent + least_of ((F place).file.size - at)) % 4294967296))
          ∙ ap (λ (z : ℕ). in_session i (model.with_down (model.sending (F place).file.number z)) (view sv l))
          (onward h (least_of ((F place).file.size - at)) (bytes.data_length sv l (facts sv l g) place c.complete at)))

      sending_due : due (sending_of s place offset sent l.disk (owner_part sv l) (files (table_part sv l)) out)
          ≡ data_due (some (file_of (F place))) (view sv l) i (F place).file.number at out
      unfolding sending_of data_due
      sending_due =
          ap (λ (n : ℕ). due (cond (ltb at n) more ends)) (bytes.size_is sv l (facts sv l g) place c.complete)
          ∙ go (ltb at (length (F place).bytes)) refl
        where
          more : Due
          more = data_of s place offset sent (least_of ((F place).file.size - at)) l.disk (owner_part sv l) out

          ends : Due
          ends = sending.told (with_down s (down.Ended place)) (answered reply.DataEnd 0 out)

          go : (t : Bool) → ltb at (length (F place).bytes) ≡ t
              → due (cond t more ends)
              ≡ cond t (stepped (sent_info 0 info 0 out) (in_session i (model.with_down (model.sending (F place).file.number (at + length info))) (view sv l)))
              (stepped (tell reply.DataEnd 0 out) (in_session i (model.with_down (model.ended (F place).file.number)) (view sv l)))
          go true e = data_due_law (ltb-true at (length (F place).bytes) e)
          go false e = told_due reply.DataEnd (down.Ended place)

    -- a directory
    module _ (listed : Listed) (long : Bool) (done sent : ℕ) (c : ListingAt (files (table_part sv l)) selected s.next listed done sent) where
      abbrev es : List (List ℕ)
      es = entries_of listed long s.next l.disk (owner_part sv l) (files (table_part sv l)) selected

      abbrev ns : List ℕ
      ns = names_of F selected s.next listed

      abbrev filled : Filled
      filled = fill_of es done sent

      abbrev behind : ℕ
      behind = length (running_on (take done es)) + sent

      -- the store that the session's entries are read from
      abbrev m : Mem
      m = parts_of sv i (mem_of l)

      -- all its bytes, and those that lie behind
      found_all : (xs : List ℕ) → map (λ n. entry_in long (find n (view sv l).files)) xs ≡ map (entry_by m long) xs
      found_all [] = refl
      found_all (x ∷ xs) =
          ap₂ (λ (f : Option File) (ys : List (List ℕ)). entry_in long f ∷ ys) (find_view sv l g x) (found_all xs)

      entries_is : directory_of long ns (view sv l).files ≡ running_on es
      entries_is =
          ap running_on (found_all ns
          ∙ sym (entries_are m (facts sv l g).store.files.numbers selected s.count s.next own.next own.names sv.last
          (stored_parts sv l g i) long listed c.one))

      behind_read : (a b : ℕ) → bytes_behind (numbered sv l) long ns a b ≡ length (running_on (take a es)) + b
      behind_read a b =
          behind_is m (facts sv l g).store.files.numbers selected s.count s.next own.next own.names sv.last (stored_parts sv l g i) long
          listed c.one a b

      -- the information of its next DATA
      abbrev next : List ℕ
      next = take 256 (drop behind (running_on es))

      size_is : filled.size ≡ length next
      unfolding fill_of
      size_is = ap length (next_of_all es done sent)

      -- bytes are left exactly where there is information
      left_over : (filled.size ≡ 0 → ⊥) → sent ≤ length (running_on (drop done es))
      unfolding fill_of
      left_over n =
          let z : length (next_bytes es done sent) ≡ 0 → ⊥ = n in
          omega (arith, z, length-take 256 (drop sent (running_on (drop done es))), length-drop sent (running_on (drop done es)))

      moved_is : (filled.size ≡ 0 → ⊥) → read (down.Listing listed long filled.done filled.sent) ≡ model.listing long ns (behind + length next)
      moved_is n =
          ap (model.listing long ns)
          (behind_read filled.done filled.sent ∙ fill_moves es done sent (left_over n) ∙ ap (λ (k : ℕ). behind + k) size_is)

      data_listed : (filled.size ≡ 0 → ⊥)
          → due (asked (asked_of (with_down s (down.Listing listed long filled.done filled.sent)) (answer.Sent 0 (2 + filled.size)))
          (packet_of 0 (next_bytes es done sent) ++ drop (2 + filled.size) out))
          ≡ stepped (sent_info 0 next 0 out) (in_session i (model.with_down (model.listing long ns (behind + length next))) (view sv l))
      data_listed n =
          ap₂ stepped
          (ap₂ (λ (k : ℕ) (xs : List ℕ). told (answer.Sent 0 (2 + k)) (packet_of 0 xs ++ drop (2 + k) out)) size_is (next_of_all es done sent))
          (down_moved (down.Listing listed long filled.done filled.sent)
          ∙ ap (λ (d : model.Downlink). in_session i (model.with_down d) (view sv l)) (moved_is n))

      listing_due_law : due (listing_of s listed long done sent l.disk (owner_part sv l) (files (table_part sv l)) selected out)
          ≡ on_request (read (down.Listing listed long done sent)) (view sv l) i out
      unfolding on_request listing_due
      listing_due_law =
          ap due (listing_bytes s listed long es done sent out)
          ∙ go (eqb filled.size 0) refl
          ∙ ap₂ (λ (entries : List ℕ) (k : ℕ). listing_due entries (view sv l) i long ns k out) (sym entries_is) (sym (behind_read done sent))
        where
          few : filled.size ≡ 0 → length (running_on es) ≤ behind
          few z = omega (arith, size_is, length-take 256 (drop behind (running_on es)), length-drop behind (running_on es))

          many : (filled.size ≡ 0 → ⊥) → behind < length (running_on es)
          many z = omega (arith, size_is, length-take 256 (drop behind (running_on es)), length-drop behind (running_on es))

          go : (t : Bool) → eqb filled.size 0 ≡ t
              → due (cond t (sending.told (with_down s down.Idle) (answered reply.DataEnd 0 out))
              (asked (asked_of (with_down s (down.Listing listed long filled.done filled.sent)) (answer.Sent 0 (2 + filled.size)))
              (packet_of 0 (next_bytes es done sent) ++ drop (2 + filled.size) out)))
              ≡ listing_due (running_on es) (view sv l) i long ns behind out
          go true e = rw (le-ltb behind (length (running_on es)) (few (eqb-true filled.size 0 e))) (told_due reply.DataEnd down.Idle)
          go false e =
              rw (lt-ltb behind (length (running_on es)) (many (eqb-false filled.size 0 e))) (data_listed (eqb-false filled.size 0 e))

    due_is : (d : Downlink) → s.down ≡ d
        → due (due_of d s l.disk (owner_part sv l) (files (table_part sv l)) selected out) ≡ on_request (read d) (view sv l) i out
    unfolding due_of on_request tell
    due_is down.Idle e = ap (stepped (told (answer.Quiet 0) out)) (view_stays sv l g i inside)
    due_is (down.Sending place offset sent) e =
        let c = own.sending place offset sent e in
        sending_due place offset sent c
        ∙ ap (λ (f : Option File). data_due f (view sv l) i (F place).file.number (offset + sent) out) (sym (found_at sv l g place c.complete.number))
    due_is (down.Ended place) e = ap (stepped (told (answer.Quiet 0) out)) (view_stays sv l g i inside)
    due_is (down.Aborting place) e = told_due reply.Aborted down.Idle
    due_is (down.Listing listed long done sent) e = listing_due_law listed long done sent (own.listing listed long done sent e)

module _ (sv : Server) (l : Lent) (g : Good sv l) where
  abbrev asks : List ℕ → Result ℕ ℕ → Stepped
  asks out k = stepped (told (server.on_request k sv l out).done.answer (server.on_request k sv l out).out) (view (server.on_request k sv l out).done.server l)

  request_goes : (session : ℕ) (out : List ℕ) → Through sv session true (length out)
      → asks out (Ok (session - 1)) ≡ on_request (model.session_at (view sv l) (session - 1)).down (view sv l) (session - 1) out
  unfolding server.on_request due_as
  request_goes session out t =
      due_is sv l g (session - 1) t.inside t.linked out t.room (link_of sv (session - 1)).down refl
      ∙ ap (λ (k : model.Session). on_request k.down (view sv l) (session - 1) out) (sym (open_view sv l g (session - 1) t.inside t.linked))

  pub request_refines : (session : ℕ) (out : List ℕ) → Refines sv l (history.request session out)
  unfolding request_of request_by server.on_request step
  request_refines session out =
      refined sv l (history.request session out)
      (ap (asks out) (check_is sv l g session true (length out))
      ∙ by_check (refusal (view sv l) session true (length out)) (session - 1) (asks out) _ (view sv l) out
      (λ z. request_goes session out (through sv l g session true (length out) z)) refl)
