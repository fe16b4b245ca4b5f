-- What each act leaves where it refuses, closes or discards; the numbers are those of the table, since the store is sound. Assumes nothing.
use mathlib.Core.Path.{◌≡◌, refl, sym, ap, ◌∙◌, subst}
use mathlib.Core.Bool.{Bool, true, false, cond}
use mathlib.Core.List.{List}
use Prim.Native.Nat.{ℕ, ◌+◌, ◌≤◌, ◌<◌}
use native.Mathlib.Omega.{arith}
use borrow.Author.Tests.{le-ltb, le-leb, eq-eqb, ne_eqb, eqb-true, eqb-false}
use lib.Dec.{eqb, leb, ltb}
use lib.ListN.{length, take, drop}
use lib.Seq.{length-take-le}
use mathlib.Core.Option.{Option, none, some}
use Rattle.header.specs.Items.{marked, walk, fields_of}
use Rattle.header.specs.Header.{check_items, check_values, verdict, proper, complete, bytes_of, header_length, header_sum, body_sum}
use Rattle.numbers.specs.Numbers.{number}
use Rattle.equation.specs.Answer.{refusal, validity_of}
use Rattle.equation.specs.Tree.{Tree, parse}
use Rattle.blocks.specs.FreeMap.{free_count}
use Rattle.session.specs.declared.state.Session.{Session}
use Rattle.session.specs.declared.state.Uplink.{Uplink}
use Rattle.session.specs.declared.state.Uplink.TheVariants as up
use Rattle.session.specs.declared.reply.Reply.{Reply}
use Rattle.session.specs.declared.reply.Reply.TheVariants as reply
use Rattle.session.specs.State.{with_up}
use Rattle.std.proofs.Common.{Some, None, Ok, Err}
use Rattle.std.specs.Prelude as std
use Rattle.table.specs.Table.{files, free_of}
use Rattle.table.specs.Given.{next_number, upload_time, blocks_for}
use Rattle.table.proofs.Finding.{free_place}
use Rattle.files.specs.Uploads as filesUp
use Rattle.files.specs.View.{record_at, bytes_at}
use Rattle.files.specs.Completion.{check_of, complete_of, destinations_at}
use Rattle.files.specs.Selection.{select_number, select_of, selects}
use Rattle.files.specs.Sound.{Sound, Sizes}
use Rattle.files.proofs.Soundness.{store_is, files_most}
use Rattle.files.proofs.Received.{append_done}
use Rattle.files.proofs.Completed.{check_is, complete_done}
use Rattle.carry.specs.declared.turn.Last.{Last}
use Rattle.carry.specs.Turn.{turn_of, Mem, mem, Turned, turned}
use Rattle.carry.specs.Upload as upload
use Rattle.carry.specs.Download as download
use Rattle.carry.specs.Carry.{on_frees, on_writes, on_moves, on_chooses, carry_out}
use Rattle.decide.specs.declared.act.Act.{Act}
use Rattle.decide.proofs.Closing.{closes, close_alone}
use Rattle.promises.specs.Parts.{one_of}
use Rattle.promises.specs.Demand1.{upload_errors, download_errors, naks, UploadOver, over, overrun}
use Rattle.answers.proofs.Deciding as decided

-- ---- what a turn leaves, by its reply

-- a reply that neither refuses nor closes
abbrev pub is_plain : Reply → Bool
is_plain reply.Nothing = true
is_plain reply.Closing = false
is_plain reply.DataEnd = true
is_plain (reply.Login clock) = true
is_plain (reply.Go number offset) = true
is_plain (reply.UploadError e) = false
is_plain reply.Ack = true
is_plain (reply.Nak e) = false
is_plain (reply.DownloadError e) = false
is_plain reply.Aborted = true
is_plain reply.Completed = true
is_plain (reply.Selected count) = true

-- the link stays open
pub data Carried (s : Session) (last : Last) (m : Mem) : Turned → Type 0 where
  plain : (t : Turned) → is_plain t.turn.reply ≡ true → Carried s last m t
  upload_error : (e : ℕ) → one_of e upload_errors ≡ true → Carried s last m (turned (turn_of s last (reply.UploadError e)) m)
  download_error : (e : ℕ) → one_of e download_errors ≡ true → Carried s last m (turned (turn_of s last (reply.DownloadError e)) m)
  nak : (e : ℕ) (u : Uplink) (map owner table : List ℕ) → one_of e naks ≡ true → UploadOver e u
      → Carried s last m (turned (turn_of (with_up s u) last (reply.Nak e)) (mem m.disk map owner table m.selected))

clash : false ≡ true → ⊥
clash e = let z : ◌≡◌ {A = ℕ} 0 1 = cc in omega arith

pub carried_open : (s : Session) (last : Last) (m : Mem) (t : Turned) → Carried s last m t → t.turn.reply ≡ reply.Closing → ⊥
carried_open s last m t (plain t' e) q = clash (sym (ap is_plain q) ∙ e)
carried_open s last m t (upload_error e o) q = let z : ◌≡◌ {A = ℕ} 0 1 = cc in omega arith
carried_open s last m t (download_error e o) q = let z : ◌≡◌ {A = ℕ} 0 1 = cc in omega arith
carried_open s last m t (nak e u map owner table o v) q = let z : ◌≡◌ {A = ℕ} 0 1 = cc in omega arith

-- ---- the numbers

items_number : (file : List ℕ) → (check_items file ≡ 0 → ⊥) → one_of (check_items file) naks ≡ true
unfolding check_items
items_number file = go (marked file) (walk 0 (drop 2 file)).whole (proper (fields_of file)) (complete (fields_of file))
  where
    go : (a b c d : Bool)
        → (◌≡◌ {A = ℕ} (cond a (cond b (cond c (cond d 0 6) 14) 14) 7) 0 → ⊥)
        → one_of (cond a (cond b (cond c (cond d 0 6) 14) 14) 7) naks ≡ true
    go false b c d z = refl
    go true false c d z = refl
    go true true false d z = refl
    go true true true false z = refl
    go true true true true z = absurd (z refl)

values_number : (file : List ℕ) (announced : ℕ) → (check_values file announced ≡ 0 → ⊥) → one_of (check_values file announced) naks ≡ true
unfolding check_values
values_number file announced =
    go (eqb (number (bytes_of 11 (fields_of file))) (header_length file)) (eqb (number (bytes_of 4 (fields_of file))) announced)
    (eqb (header_sum file) (number (bytes_of 10 (fields_of file)))) (eqb (body_sum file) (number (bytes_of 9 (fields_of file))))
  where
    go : (a b c d : Bool)
        → (◌≡◌ {A = ℕ} (cond a (cond b (cond c (cond d 0 16) 15) 14) 14) 0 → ⊥)
        → one_of (cond a (cond b (cond c (cond d 0 16) 15) 14) 14) naks ≡ true
    go false b c d z = refl
    go true false c d z = refl
    go true true false d z = refl
    go true true true false z = refl
    go true true true true z = absurd (z refl)

-- the verdict on a file is 0 or one of UL_NAK_RESP's numbers
verdict_number : (file : List ℕ) (announced : ℕ) → (verdict file announced ≡ 0 → ⊥) → one_of (verdict file announced) naks ≡ true
unfolding verdict
verdict_number file announced =
    go (ltb (length file) announced) (check_items file) (check_values file announced) (items_number file) (values_number file announced)
  where
    by : (i v : ℕ) → ((i ≡ 0 → ⊥) → one_of i naks ≡ true) → ((v ≡ 0 → ⊥) → one_of v naks ≡ true)
        → (b : Bool)
        → eqb i 0 ≡ b
        → (cond b v i ≡ 0 → ⊥)
        → one_of (cond b v i) naks ≡ true
    by i v f g true q z = g z
    by i v f g false q z = f z

    go : (t : Bool) (i v : ℕ) → ((i ≡ 0 → ⊥) → one_of i naks ≡ true) → ((v ≡ 0 → ⊥) → one_of v naks ≡ true)
        → (cond t 16 (cond (eqb i 0) v i) ≡ 0 → ⊥)
        → one_of (cond t 16 (cond (eqb i 0) v i)) naks ≡ true
    go true i v f g z = refl
    go false i v f g z = by i v f g (eqb i 0) refl z

-- an equation is accepted, or refused by 8
validity_number : (eq : List ℕ) → length eq ≤ 256 → (validity_of eq ≡ 0 → ⊥) → one_of (validity_of eq) download_errors ≡ true
unfolding validity_of refusal
validity_number eq h = rw (le-ltb 2047 (length eq) (omega arith)) (go (parse eq))
  where
    go : (t : Option Tree) → (refusal t ≡ 0 → ⊥) → one_of (refusal t) download_errors ≡ true
    go none z = refl
    go (some t) z = absurd (z refl)

pub select_number_law : (eq : List ℕ) (n most : ℕ) → 1 ≤ most → most ≤ 50 → most ≤ n → length eq ≤ 256 → select_number eq n most ≡ validity_of eq
unfolding select_number
select_number_law eq n most a b c d = rw (le-leb 1 most a, le-leb most 50 b, le-leb most n c, le-leb (length eq) 256 d)

-- a new file is begun, or refused by 3 or 13
pub data Begins (map owner table : List ℕ) (b : filesUp.Begins) : Type 0 where
  started : (place : ℕ) → b.answer ≡ Ok place → Begins map owner table b
  refused : (e : ℕ) → one_of e upload_errors ≡ true → b ≡ filesUp.begins (Err e) map owner table → Begins map owner table b

module _ (map owner table : List ℕ) (last latest : ℕ) (s : Sound map owner table last latest) (a : 1 ≤ length owner) (b : length owner ≤ 4096) where
  begin_at_law : (place n size : ℕ) → place < 256 → Begins map owner table (filesUp.begin_at place n size map owner table)
  unfolding filesUp.begin_at
  begin_at_law place n size h = rw (store_is map owner table last latest s a b place h) (go _ _ _ (leb (blocks_for size) (free_count map)))
    where
      go : (map' owner' table' : List ℕ) (t : Bool)
          → Begins map owner table
          (cond (eqb (cond t 0 13) 0) (filesUp.begins (Ok place) map' owner' table') (filesUp.begins (Err (cond t 0 13)) map owner table))
      go map' owner' table' true = started place refl
      go map' owner' table' false = refused 13 refl refl

  begin_in_law : (f : std.Option ℕ) → free_of (files table) ≡ f → (n size : ℕ) → Begins map owner table (filesUp.begin_in f n size map owner table)
  unfolding filesUp.begin_in
  begin_in_law None e n size = refused 13 refl refl
  begin_in_law (Some place) e n size =
      begin_at_law place n size (omega (arith, (free_place (files table) place e).0, files_most map owner table last latest s))

  begin_with_law : (g : std.Option ℕ) (size : ℕ) → Begins map owner table (filesUp.begin_with g size map owner table)
  unfolding filesUp.begin_with
  begin_with_law None size = refused 3 refl refl
  begin_with_law (Some n) size = begin_in_law (free_of (files table)) refl n size

-- ---- each act

-- what the acts read: a sound store with its room, MAXSEL numbers lent, and information in 256 bytes
pub record Ready (s : Session) (last : Last) (most size : ℕ) (info : List ℕ) (m : Mem) : Type 0 where
  pub sound : Sound m.map m.owner m.table last.number last.time
  pub sizes : Sizes m.disk m.owner
  pub some_most : 1 ≤ most
  pub few_most : most ≤ 50
  pub selection : most ≤ length m.selected
  pub information : length info ≡ 256
  pub fits : size ≤ 256
  pub file : (place : ℕ) → decided.Uploads s.up place → (record_at m.table place).number ≡ 0 → ⊥

module _ (s : Session) (last : Last) (clock most size : ℕ) (info : List ℕ) (m : Mem) (r : Ready s last most size info m) where
  begun_carried : (n : ℕ) (b : filesUp.Begins) → Begins m.map m.owner m.table b → Carried s last m (on_frees m (upload.begun_as n s last b))
  unfolding on_frees upload.begun_as upload.begun_turn
  begun_carried n b (started place e) = rw e (plain _ refl)
  begun_carried n b (refused e o q) = rw q (upload_error e o)

  begin_carried : (g : std.Option ℕ) (n : ℕ) → Carried s last m (on_frees m (upload.begin_with g s last n m.map m.owner m.table))
  unfolding on_frees upload.begin_with
  begin_carried None n = upload_error 3 refl
  begin_carried (Some k) n =
      begun_carried k (filesUp.begin_of m.map m.owner m.table last.number n)
      (begin_with_law m.map m.owner m.table last.number last.time r.sound r.sizes.some r.sizes.most
      (next_number last.number) n)

  store_carried : (place offset received : ℕ) → decided.Uploads s.up place
      → (record_at m.table place).received + size ≤ (record_at m.table place).size
      → Carried s last m (on_writes m (upload.store_turn s last place offset received size info m.disk m.owner m.table))
  unfolding on_writes upload.store_turn upload.appended_as upload.stored_as
  store_carried place offset received u h =
      rw (
        le-ltb (length info) size (omega (arith, r.information, r.fits)),
        append_done m.map m.disk m.owner m.table last.number last.time r.sound r.sizes place (r.file place u)
            (take size info)
            (rw (length-take-le size info (omega (arith, r.information, r.fits))) h),
      )
      (plain _ refl)

  discard_carried : (place e : ℕ) (u : Uplink) → one_of e naks ≡ true → UploadOver e u
      → Carried s last m (on_frees m (upload.discard_turn s last place u e m.map m.owner m.table))
  unfolding on_frees upload.discard_turn
  discard_carried place e u o v = nak e u _ _ _ o v

  -- DATA_END: the header's checks, then 3
  rejected_carried : (place : ℕ) → (check_of m.disk m.owner m.table place ≡ 0 → ⊥)
      → one_of (check_of m.disk m.owner m.table place) naks ≡ true
      → Carried s last m (on_moves m (upload.finish_turn s last place clock m.disk m.map m.owner m.table))
  unfolding on_moves upload.judged_at upload.finish_as upload.with_disk upload.discard_turn
  rejected_carried place z o = rw (ne_eqb (check_of m.disk m.owner m.table place) 0 z) (nak _ up.Idle _ _ _ o over)

  timed_carried : (place : ℕ)
      → ((time : ℕ) → (complete_of m.disk m.owner m.table place time).answer ≡ 0)
      → (g : std.Option ℕ)
      → Carried s last m (on_moves m (upload.finish_as (upload.timed g) s last place m.disk m.map m.owner m.table))
  unfolding on_moves upload.timed upload.finish_as upload.with_disk upload.discard_turn upload.with_blocks upload.accept_turn upload.accepted_as
  timed_carried place d None = nak 3 up.Idle _ _ _ refl over
  timed_carried place d (Some time) = rw (d time) (plain _ refl)

  accepted_carried : (place : ℕ) → check_of m.disk m.owner m.table place ≡ 0
      → ((time : ℕ) → (complete_of m.disk m.owner m.table place time).answer ≡ 0)
      → Carried s last m (on_moves m (upload.finish_turn s last place clock m.disk m.map m.owner m.table))
  unfolding upload.judged_at
  accepted_carried place z d =
      rw (eq-eqb (check_of m.disk m.owner m.table place) 0 z) (timed_carried place d (upload_time clock last.time))

  finish_carried : (place : ℕ) → decided.Uploads s.up place
      → Carried s last m (on_moves m (upload.finish_turn s last place clock m.disk m.map m.owner m.table))
  finish_carried place u = go (eqb (check_of m.disk m.owner m.table place) 0) refl
    where
      file : (record_at m.table place).number ≡ 0 → ⊥
      file = r.file place u

      is : check_of m.disk m.owner m.table place ≡ verdict (bytes_at m.disk m.owner m.table place) (record_at m.table place).size
      is = check_is m.map m.disk m.owner m.table last.number last.time r.sound r.sizes place file

      go : (t : Bool) → eqb (check_of m.disk m.owner m.table place) 0 ≡ t
          → Carried s last m (on_moves m (upload.finish_turn s last place clock m.disk m.map m.owner m.table))
      go true q =
          let z = eqb-true (check_of m.disk m.owner m.table place) 0 q in
          accepted_carried place z
          (complete_done m.map m.disk m.owner m.table last.number last.time r.sound r.sizes place file z)
      go false q =
          let z = eqb-false (check_of m.disk m.owner m.table place) 0 q in
          rejected_carried place z
          (subst (λ (n : ℕ). one_of n naks ≡ true) (sym is)
          (verdict_number (bytes_at m.disk m.owner m.table place) (record_at m.table place).size (λ y. z (is ∙ y))))

  -- SELECT_CMD: 8, "a refused SELECT keeps the old selection"
  selected_carried : (eq : List ℕ) → length eq ≤ 256
      → Carried s last m (on_chooses m (download.selected_as s last (select_of eq m.disk m.owner m.table m.selected most)))
  unfolding on_chooses download.selected_as select_of
  selected_carried eq h =
      go (select_number eq (length m.selected) most)
      (λ z. subst (λ (n : ℕ). one_of n download_errors ≡ true) (sym is) (validity_number eq h (λ y. z (is ∙ y)))) _ _
    where
      is : select_number eq (length m.selected) most ≡ validity_of eq
      is = select_number_law eq (length m.selected) most r.some_most r.few_most r.selection h

      go : (n : ℕ) → ((n ≡ 0 → ⊥) → one_of n download_errors ≡ true)
          → (count : ℕ) (selected : List ℕ)
          → Carried s last m
          (on_chooses m
          (download.selected_as s last
          (cond (eqb n 0) (selects (Ok count) selected) (selects (Err n) m.selected))))
      go n o count selected = by (eqb n 0) refl
        where
          by : (t : Bool) → eqb n 0 ≡ t
              → Carried s last m
              (on_chooses m
              (download.selected_as s last
              (cond t (selects (Ok count) selected) (selects (Err n) m.selected))))
          by true q = plain _ refl
          by false q = rw q (download_error n (o (eqb-false n 0 q)))

  select_carried : Carried s last m (on_chooses m (download.select_turn s last most size info m.disk m.owner m.table m.selected))
  unfolding download.select_turn
  select_carried =
      rw (le-ltb (length info) size (omega (arith, r.information, r.fits)))
      (selected_carried (take size info) (omega (arith, length-take-le size info (omega (arith, r.information, r.fits)), r.fits)))

  send_carried : (place offset lock passed : ℕ)
      → Carried s last m (turned (download.begin_turn s last place offset lock passed m.disk m.owner m.table) m)
  unfolding download.begin_turn
  send_carried place offset lock passed = go _ (ltb (destinations_at m.disk m.owner m.table place) lock)
    where
      go : (s' : Session) (t : Bool) → Carried s last m (turned (cond t (turn_of s last (reply.DownloadError 10)) (turn_of s' last reply.Nothing)) m)
      go s' true = download_error 10 refl
      go s' false = plain _ refl

  confirm_carried : (place destination : ℕ)
      → Carried s last m (turned (download.confirm_turn s last place destination m.disk m.owner m.table) m)
  unfolding download.confirm_turn
  confirm_carried place destination = go _ (ltb (destinations_at m.disk m.owner m.table place) destination)
    where
      go : (s' : Session) (t : Bool) → Carried s last m (turned (cond t (turn_of s' last reply.Aborted) (turn_of s' last reply.Completed)) m)
      go s' true = plain _ refl
      go s' false = plain _ refl

  pub carried : (a : Act) → decided.Proper s.up size (files m.table) a → closes a ≡ false
      → Carried s last m (carry_out a s last clock most size info m)
  unfolding carry_out
  carried a decided.close f = let z : ◌≡◌ {A = ℕ} 0 1 = cc in absurd (omega arith)
  carried a decided.ignore f = plain _ refl
  carried a (decided.upload_error e o) f = upload_error e o
  carried a (decided.download_error e o) f = download_error e o
  carried a (decided.begin n) f = begin_carried (next_number last.number) n
  carried a (decided.resume place number received) f = plain _ refl
  carried a (decided.store place offset received u h) f = store_carried place offset received u h
  carried a (decided.overrun place u) f = discard_carried place 16 up.Ignoring refl (overrun refl)
  carried a decided.stop f = plain _ refl
  carried a (decided.finish place u) f = finish_carried place u
  carried a decided.select f = select_carried
  carried a (decided.send place offset lock passed) f = send_carried place offset lock passed
  carried a (decided.confirm place destination) f = confirm_carried place destination
  carried a decided.ending f = plain _ refl
  carried a (decided.abort place) f = plain _ refl
  carried a decided.break_off f = plain _ refl
  carried a (decided.list l long passed) f = unfold download.list_turn in plain _ refl

-- closing alone
pub carried_close : (a : Act) (s : Session) (last : Last) (clock most size : ℕ) (info : List ℕ) (m : Mem) → closes a ≡ true
    → carry_out a s last clock most size info m ≡ on_chooses m (download.close_turn last m.selected)
unfolding carry_out
carried_close a s last clock most size info m e = ap (λ (b : Act). carry_out b s last clock most size info m) (close_alone a e)
