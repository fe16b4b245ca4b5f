-- What an act that was decided on leaves of its session and of the files, as the sessions' facts need it: no file but the session's own upload
-- changes, and the session afterwards names what the store has.
use mathlib.Core.Path.{◌≡◌, refl, sym, ap, ◌∙◌, subst}
use mathlib.Core.Bool.{Bool, true, false, cond}
use mathlib.Core.List.{List, [], ◌∷◌, map, Memᴰ}
use Prim.Native.Nat.{ℕ, zero, suc, ◌+◌, ◌≤◌, ◌<◌}
use native.Mathlib.Omega.{arith}
use borrow.Author.Tests.{eq-eqb, ne_eqb, ltb-false}
use lib.Dec.{eqb, ltb}
use lib.ListN.{length, length-map, get_or, take, get_or-append}
use lib.Seq.{length-take-le}
use Rattle.session.specs.declared.state.Session.{Session}
use Rattle.session.specs.declared.state.Uplink.{Uplink}
use Rattle.session.specs.declared.state.Uplink.TheVariants as up
use Rattle.session.specs.declared.state.Downlink.{Downlink}
use Rattle.session.specs.declared.state.Downlink.TheVariants as down
use Rattle.session.specs.declared.state.Listed.{Listed}
use Rattle.session.specs.declared.reply.Reply.{Reply}
use Rattle.session.specs.declared.reply.Reply.TheVariants.{Nothing, DataEnd, Completed, Aborted}
use Rattle.session.specs.State.{with_up, with_down, with_next, with_selection}
use Rattle.session.specs.Expected.{takes_command}
use Rattle.blocks.proofs.Owners.{blocks_le}
use Rattle.table.specs.declared.File.{File}
use Rattle.std.proofs.Common.{Option, Some, None, Result, Ok, Err}
use Rattle.table.specs.Table.{no_file, files, numbers, uploaded}
use Rattle.table.specs.Given.{next_number, upload_time}
use Rattle.table.proofs.Finding.{find_own}
use Rattle.table.proofs.Records.{get_put_other, uploaded_file, uploaded_time}
use Rattle.files.specs.View.{View, record_at}
use Rattle.files.specs.Uploads as uploads
use Rattle.files.specs.Completion.{check_of, completed, complete_number, complete_of, destinations_at}
use Rattle.files.specs.Selection.{Selects, select_number, select_of, chosen, numbers_at, listed}
use Rattle.files.proofs.Calls.{by_number}
use Rattle.files.proofs.Beginning.{BeginLeaves, begin_leaves, begin_kept}
use Rattle.files.proofs.Received.{append_kept, append_leaves, AppendLeaves}
use Rattle.files.proofs.Soundness.{file_fits_law, file_room}
use Rattle.files.proofs.Choice.{chosen_most}
use Rattle.files.proofs.Selected as choice
use Rattle.links.specs.Sound.{link}
use Rattle.links.specs.Kept.{Uploads}
use Rattle.links.proofs.Facts.{CompleteAt, PartialAt, SendingAt, ListingAt, Selectable}
use Rattle.decide.specs.declared.act.Act.{Act}
use Rattle.decide.specs.declared.act.Act.TheVariants as act
use Rattle.carry.specs.declared.turn.Last.{Last}
use Rattle.carry.specs.declared.turn.Turn.{Turn}
use Rattle.carry.specs.Turn.{Mem, mem, Turned, turned, turn_of, Writes, Chooses}
use Rattle.carry.specs.Upload as upload
use Rattle.carry.specs.Download as download
use Rattle.carry.specs.Carry.{on_frees, on_writes, on_moves, on_chooses, carry_out}
use Rattle.acts.proofs.Interface.{Stored}
use Rattle.history.proofs.Others.{Reads}
use Rattle.history.proofs.Decided.{Own, Resumes, Stores, Sends, Lists, Fit}

-- ---- the two sides of a session

abbrev pub Up : List File → Uplink → Type 0
Up fs up.Idle = Unit {0}
Up fs (up.Receiving place offset received) = PartialAt fs place (offset + received)
Up fs up.Ignoring = Unit {0}

-- with the session's selection and its place in it
abbrev pub Down : List File → List ℕ → ℕ → Downlink → Type 0
Down fs selected next down.Idle = Unit {0}
Down fs selected next (down.Sending place offset sent) = SendingAt fs place (offset + sent)
Down fs selected next (down.Ended place) = CompleteAt fs place
Down fs selected next (down.Aborting place) = CompleteAt fs place
Down fs selected next (down.Listing l long done sent) = ListingAt fs selected next l done sent

-- an upload, as a session's facts have it
pub up_of : (fs : List File) (u : Uplink)
    → ((place offset received : ℕ) → u ≡ up.Receiving place offset received → PartialAt fs place (offset + received)) → Up fs u
up_of fs up.Idle f = tt
up_of fs (up.Receiving place offset received) f = f place offset received refl
up_of fs up.Ignoring f = tt

pub receiving_of : (fs : List File) (u : Uplink) → Up fs u → (place offset received : ℕ) → u ≡ up.Receiving place offset received
    → PartialAt fs place (offset + received)
receiving_of fs u h place offset received e = subst (λ (x : Uplink). Up fs x) e h

pub own_idle : (place : ℕ) → Own up.Idle place → ⊥
own_idle place o = let e = o.receiving in let z : ◌≡◌ {A = ℕ} 0 1 = cc in omega arith

own_ignoring : (place : ℕ) → Own up.Ignoring place → ⊥
own_ignoring place o = let e = o.receiving in let z : ◌≡◌ {A = ℕ} 0 1 = cc in omega arith

-- a session with another downlink, as far into the selection as it has files
pub reads_with : (fs : List File) (most : ℕ) (selected : List ℕ) (s s' : Session) → Reads fs most selected s
    → Down fs selected s'.next s'.down → s'.count ≡ s.count → s'.next ≤ s.count → Reads fs most selected s'
reads_with fs most selected s s' r d c n =
    record {
      sending = λ place offset sent e. subst (λ (x : Downlink). Down fs selected s'.next x) e d;
      ended = λ place e. subst (λ (x : Downlink). Down fs selected s'.next x) e d;
      aborting = λ place e. subst (λ (x : Downlink). Down fs selected s'.next x) e d;
      listing = λ l long done sent e. subst (λ (x : Downlink). Down fs selected s'.next x) e d;
      at_most = omega (arith, r.at_most);
      next = omega arith;
      names = λ k h. r.names k (omega arith);
    }

-- a session with another uplink
pub reads_up : (fs : List File) (most : ℕ) (selected : List ℕ) (s : Session) (v : Uplink)
    → Reads fs most selected s → Reads fs most selected (with_up s v)
reads_up fs most selected s v r =
    record {
      sending = r.sending;
      ended = r.ended;
      aborting = r.aborting;
      listing = r.listing;
      at_most = r.at_most;
      next = r.next;
      names = r.names;
    }

own_place : (p offset received place : ℕ) → Own (up.Receiving p offset received) place → place ≡ p
own_place p offset received place o = let e = o.receiving in cc

-- what holds of both things that a test picks from
pub by_test : {A : Type 0} (P : A → Type 0) (b : Bool) (x y : A) → (b ≡ true → P x) → (b ≡ false → P y) → P (cond b x y)
by_test P true x y f g = f refl
by_test P false x y f g = g refl

-- an entry of a list stands in it
at_in : (l : List ℕ) (k : ℕ) → k < length l → Memᴰ (get_or l k 0) l
at_in [] k h = absurd (omega arith)
at_in (x ∷ l) zero h = Memᴰ.head refl
at_in (x ∷ l) (suc k) h = Memᴰ.tail (at_in l k (omega arith))

mapped_at : (f : ℕ → ℕ) (l : List ℕ) (k : ℕ) → k < length l → get_or (map f l) k 0 ≡ f (get_or l k 0)
mapped_at f [] k h = absurd (omega arith)
mapped_at f (x ∷ l) zero h = refl
mapped_at f (x ∷ l) (suc k) h = mapped_at f l k (omega arith)

-- a file is no longer than the store, 4,096 blocks of 256 bytes
pub file_most : (m : Mem) (last : Last) → Stored m last → (q : ℕ) → ((record_at m.table q).number ≡ 0 → ⊥) → (record_at m.table q).size ≤ 1048576
file_most m last stored q n =
    omega (
      arith,
      file_room m.map m.owner m.table last.number last.time stored.sound q n,
      blocks_le (q + 1) m.owner,
      stored.sizes.most,
    )

-- no more bytes of a file were received than announced
pub file_received : (m : Mem) (last : Last) → Stored m last → (q : ℕ) → ((record_at m.table q).number ≡ 0 → ⊥)
    → (record_at m.table q).received ≤ (record_at m.table q).size
file_received m last stored q n =
    (file_fits_law m.map m.owner m.table last.number last.time stored.sound q n).received

-- ---- what an act leaves

pub record Acted (links : List Session) (most : ℕ) (m : Mem) (s : Session) (t : Turned) : Type 0 where
  -- "a call changes no file but its own"
  pub kept : (q : ℕ) → ((record_at m.table q).number ≡ 0 → ⊥) → (Own s.up q → ⊥) → record_at t.mem.table q ≡ record_at m.table q
  pub receiving : Up (files t.mem.table) t.turn.session.up
  -- a file that some session uploads is taken up by no other
  pub alone : (place : ℕ) → Own t.turn.session.up place → (j : ℕ) → j < 4 → Uploads (link links j) place → Own s.up place
  pub reads : Reads (files m.table) most t.mem.selected t.turn.session
  -- of an unfinished packet no act changes the bytes held; closing forgets it
  pub held : 2 ≤ t.turn.session.held → t.turn.session.held ≡ s.held

module _ (links : List Session) (most : ℕ) (m : Mem) (s : Session) (last : Last) (stored : Stored m last) (u : Up (files m.table) s.up)
    (r : Reads (files m.table) most m.selected s)
    (live : (j place : ℕ) → j < 4 → Uploads (link links j) place → (record_at m.table place).number ≡ 0 → ⊥) where
  abbrev Done : Turned → Type 0
  Done t = Acted links most m s t

  -- the files and the upload stay
  quiet : (t : Turned) → t.mem.table ≡ m.table → t.turn.session.up ≡ s.up → t.turn.session.held ≡ s.held
      → Reads (files m.table) most t.mem.selected t.turn.session → Done t
  quiet t e f b g =
      record {
        kept = λ q n o. ap (λ (x : List ℕ). record_at x q) e;
        receiving = subst (λ (x : List ℕ). Up (files x) t.turn.session.up) (sym e) (subst (λ (x : Uplink). Up (files m.table) x) (sym f) u);
        alone = λ place o j h v. subst (λ (x : Uplink). Own x place) f o;
        reads = g;
        held = λ h. b;
      }

  -- the upload ends, and no other file changes
  ended : (t : Turned) → ((q : ℕ) → (Own s.up q → ⊥) → record_at t.mem.table q ≡ record_at m.table q)
      → ((place : ℕ) → Own t.turn.session.up place → ⊥) → Up (files t.mem.table) t.turn.session.up
      → (2 ≤ t.turn.session.held → t.turn.session.held ≡ s.held)
      → Reads (files m.table) most t.mem.selected t.turn.session → Done t
  ended t k n f b g =
      record { kept = λ q z o. k q o; receiving = f; alone = λ place o j h v. absurd (n place o); reads = g; held = b }

  -- ---- UPLOAD_CMD

  module _ (size number : ℕ) where
    abbrev b : uploads.Begins
    b = uploads.begin_of m.map m.owner m.table last.number size

    abbrev begun_mem : Mem
    begun_mem = mem m.disk b.map b.owner b.table m.selected

    -- a new file stands where none was
    begun_new : (p : ℕ) → BeginLeaves m.map m.owner m.table last.number last.time size p b
        → Done (turned (upload.begun_turn (Ok p) s last number) begun_mem)
    unfolding upload.begun_turn
    begun_new p l =
        record {
          kept = λ q n o.
              ap (λ (v : View). v.file) (l.others m.disk q (λ e. n (ap (λ (k : ℕ). (record_at m.table k).number) e ∙ l.free)));
          receiving =
              record {
                number = λ z. let e = ap (λ (f : File). f.number) l.file in omega arith;
                time = ap (λ (f : File). f.time) l.file;
                agree = sym (ap (λ (f : File). f.received) l.file);
              };
          alone = λ place o j h v.
              absurd (live j place h v (ap (λ (k : ℕ). (record_at m.table k).number) (own_place p 0 0 place o) ∙ l.free));
          reads = reads_up (files m.table) most m.selected s (up.Receiving p 0 0) r;
          held = λ b. refl;
        }

    begun : (a : Result ℕ ℕ) → b.answer ≡ a → Done (turned (upload.begun_turn a s last number) begun_mem)
    unfolding upload.begun_turn
    begun (Err n) e =
        quiet _ (ap (λ (x : uploads.Begins). x.table) (begin_kept m.map m.owner m.table last.number size n e)) refl refl r
    begun (Ok p) e = begun_new p (begin_leaves m.map m.owner m.table last.number last.time stored.sound size p e)

  begin_done : (size : ℕ) (g : Option ℕ) → Done (on_frees m (upload.begin_with g s last size m.map m.owner m.table))
  unfolding upload.begin_with upload.begun_as on_frees
  begin_done size None = quiet _ refl refl refl r
  begin_done size (Some number) = begun size number (b size number).answer refl

  resume_done : (place number received : ℕ) → Resumes (files m.table) links place received
      → Done (turned (upload.resume_turn s last place number received) m)
  resume_done place number received h =
      record {
        kept = λ q n o. refl;
        receiving =
            record { number = h.partial.number; time = h.partial.time; agree = omega (arith, h.partial.agree) };
        alone = λ q o j l v.
            absurd (h.alone j l (subst (λ (x : ℕ). Uploads (link links j) x) (own_place place received 0 q o) v));
        reads = reads_up (files m.table) most m.selected s (up.Receiving place received 0) r;
        held = λ b. refl;
      }

  -- ---- DATA

  module _ (place offset received size : ℕ) (info : List ℕ) (f : Stores (files m.table) s.up size place offset received) where
    own : Own s.up place
    own = record { offset = offset; received = received; receiving = f.own }

    partial : PartialAt (files m.table) place (offset + received)
    partial = subst (λ (x : Uplink). Up (files m.table) x) f.own u

    abbrev w : uploads.Writes
    w = uploads.append_of m.disk m.owner m.table place (take size info)

    abbrev appended : Turn → Turned
    appended t = turned t (mem w.disk m.map m.owner w.table m.selected)

    counted : size ≤ length info → offset + upload.grown received size ≡ (record_at m.table place).received + length (take size info)
    counted h =
        let n = file_most m last stored place partial.number in
        let z = length-take-le size info h in
        let e = partial.agree in
        let g = f.room in
        omega arith

    append_new : size ≤ length info → AppendLeaves m.map m.disk m.owner m.table last.number last.time place (take size info) w
        → Done (appended (turn_of (with_up s (up.Receiving place offset (upload.grown received size))) last Nothing))
    append_new h l =
        record {
          kept = λ q n o.
              ap (λ (v : View). v.file) (l.others q (λ e. o (subst (λ (x : ℕ). Own s.up x) (sym e) own)));
          receiving =
              record {
                number = λ z. partial.number (sym (ap (λ (x : File). x.number) l.file) ∙ z);
                time = ap (λ (x : File). x.time) l.file ∙ partial.time;
                agree = counted h ∙ sym (ap (λ (x : File). x.received) l.file);
              };
          alone = λ q o j b v. subst (λ (x : ℕ). Own s.up x) (sym (own_place place offset (upload.grown received size) q o)) own;
          reads = reads_up (files m.table) most m.selected s (up.Receiving place offset (upload.grown received size)) r;
          held = λ b. refl;
        }

    append_done : size ≤ length info → (k : ℕ) → w.answer ≡ k
        → Done (appended (upload.stored_as k s last place offset (upload.grown received size)))
    unfolding upload.stored_as
    append_done h k e =
        by_number k
        (λ z. rw (eq-eqb k 0 z)
        (append_new h
        (append_leaves m.map m.disk m.owner m.table last.number last.time stored.sound place (take size info) (e ∙ z))))
        (λ z. rw (ne_eqb k 0 z)
        (quiet _ (ap (λ (x : uploads.Writes). x.table) (append_kept m.disk m.owner m.table place (take size info) k e z)) refl refl r))

    store_done : Done (on_writes m (upload.store_turn s last place offset received size info m.disk m.owner m.table))
    unfolding upload.store_turn upload.appended_as on_writes
    store_done =
        by_test (λ (x : Writes). Done (on_writes m x)) (ltb (length info) size) _ _ (λ e. quiet _ refl refl refl r)
        (λ e. append_done (ltb-false (length info) size e) w.answer refl)

  -- ---- an upload that ends

  reads_then : (v : Uplink) → Reads (files m.table) most m.selected (with_up s v)
  reads_then v = reads_up (files m.table) most m.selected s v r

  module _ (place : ℕ) (own : Own s.up place) where
    -- another file than the session's own
    other : (q : ℕ) → (Own s.up q → ⊥) → q ≡ place → ⊥
    other q o e = o (subst (λ (x : ℕ). Own s.up x) (sym e) own)

    abbrev d : uploads.Frees
    d = uploads.discard_of m.map m.owner m.table place

    discard_other : (q : ℕ) → (Own s.up q → ⊥) → record_at d.table q ≡ record_at m.table q
    unfolding uploads.discard_of
    discard_other q o =
        by_test (λ (x : uploads.Frees). record_at x.table q ≡ record_at m.table q)
        (eqb (uploads.discard_number m.map m.owner place (record_at m.table place)) 0) _ _
        (λ e. get_put_other m.table place no_file q (other q o)) (λ e. refl)

    complete_other : (time q : ℕ) → (Own s.up q → ⊥)
        → record_at (complete_of m.disk m.owner m.table place time).table q ≡ record_at m.table q
    unfolding complete_of
    complete_other time q o =
        by_test (λ (x : uploads.Writes). record_at x.table q ≡ record_at m.table q)
        (eqb (complete_number m.disk m.owner place (record_at m.table place)) 0) _ _
        (λ e. get_put_other m.table place (completed time (record_at m.table place)) q (other q o)) (λ e. refl)

    overrun_done : Done (on_frees m (upload.discard_turn s last place up.Ignoring 16 m.map m.owner m.table))
    unfolding upload.discard_turn on_frees
    overrun_done = ended _ discard_other own_ignoring tt (λ h. refl) (reads_then up.Ignoring)

    rejected_done : (number : ℕ)
        → Done (on_moves m (upload.with_disk m.disk (upload.discard_turn s last place up.Idle number m.map m.owner m.table)))
    unfolding upload.with_disk upload.discard_turn on_moves
    rejected_done number = ended _ discard_other own_idle tt (λ h. refl) (reads_then up.Idle)

    accepted_done : (time : ℕ)
        → Done (on_moves m (upload.with_blocks m.map m.owner (upload.accept_turn s last place time m.disk m.owner m.table)))
    unfolding upload.with_blocks upload.accept_turn upload.accepted_as on_moves
    accepted_done time =
        let c = complete_of m.disk m.owner m.table place time in
        by_test (λ (x : Turn). Done (turned x (mem c.disk m.map m.owner c.table m.selected))) (eqb c.answer 0) _ _
        (λ e. ended _ (complete_other time) own_idle tt (λ h. refl) (reads_then up.Idle))
        (λ e. ended _ (complete_other time) own_idle tt (λ h. refl) (reads_then up.Idle))

    timed_done : (g : Option ℕ) → Done (on_moves m (upload.finish_as (upload.timed g) s last place m.disk m.map m.owner m.table))
    unfolding upload.finish_as upload.timed
    timed_done None = rejected_done 3
    timed_done (Some time) = accepted_done time

    finish_done : (clock : ℕ) → Done (on_moves m (upload.finish_turn s last place clock m.disk m.map m.owner m.table))
    unfolding upload.finish_as upload.judged_at
    finish_done clock =
        let k = check_of m.disk m.owner m.table place in
        by_test (λ x. Done (on_moves m (upload.finish_as x s last place m.disk m.map m.owner m.table))) (eqb k 0) _ _
        (λ e. timed_done (upload_time clock last.time)) (λ e. rejected_done k)

  -- ---- the downlink

  close_done : Done (on_chooses m (download.close_turn last m.selected))
  unfolding download.close_turn on_chooses
  close_done =
      ended _ (λ q o. refl) own_idle tt (λ h. absurd (omega arith))
      (record {
        sending = λ place offset sent e. absurd (let z : ◌≡◌ {A = ℕ} 0 1 = cc in omega arith);
        ended = λ place e. absurd (let z : ◌≡◌ {A = ℕ} 0 1 = cc in omega arith);
        aborting = λ place e. absurd (let z : ◌≡◌ {A = ℕ} 0 1 = cc in omega arith);
        listing = λ l long done sent e. absurd (let z : ◌≡◌ {A = ℕ} 0 1 = cc in omega arith);
        at_most = omega arith;
        next = omega arith;
        names = λ k h. absurd (omega arith);
      })

  send_done : (place offset lock passed : ℕ) → Sends (files m.table) s.count place offset passed
      → Done (turned (download.begin_turn s last place offset lock passed m.disk m.owner m.table) m)
  unfolding download.begin_turn
  send_done place offset lock passed h =
      by_test (λ (x : Turn). Done (turned x m)) (ltb (destinations_at m.disk m.owner m.table place) lock) _ _
      (λ e. quiet _ refl refl refl r)
      (λ e.
      quiet _ refl refl refl
      (reads_with (files m.table) most m.selected s (with_down (with_next s passed) (down.Sending place offset 0)) r
      (record { complete = h.sending.complete; within = omega (arith, h.sending.within) }) refl h.few))

  -- a session with another downlink
  down_done : (v : Downlink) (reply : Reply) → Down (files m.table) m.selected s.next v → Done (turned (turn_of (with_down s v) last reply) m)
  down_done v reply h = quiet _ refl refl refl (reads_with (files m.table) most m.selected s (with_down s v) r h refl r.next)

  list_done : (l : Listed) (long : Bool) (passed : ℕ) → Lists (files m.table) s.count l passed
      → Done (turned (download.list_turn s last l long passed) m)
  unfolding download.list_turn
  list_done l long passed h =
      quiet _ refl refl refl
      (reads_with (files m.table) most m.selected s (with_down (with_next s passed) (down.Listing l long 0 0)) r
      (record { one = h.one; come = omega arith; within = omega arith }) refl h.few)

  confirm_done : (place destination : ℕ) → Done (turned (download.confirm_turn s last place destination m.disk m.owner m.table) m)
  unfolding download.confirm_turn
  confirm_done place destination =
      by_test (λ (x : Turn). Done (turned x m)) (ltb (destinations_at m.disk m.owner m.table place) destination) _ _
      (λ e. down_done down.Idle Aborted tt) (λ e. down_done down.Idle Completed tt)

  -- ---- SELECT_CMD

  module _ (eq : List ℕ) (idle : takes_command s.down ≡ true) where
    abbrev ps : List ℕ
    ps = chosen most eq m.disk m.owner m.table

    -- each number of the selection is that of a complete file
    chosen_complete : (k : ℕ) → k < length ps → CompleteAt (files m.table) (get_or ps k 0)
    chosen_complete k h =
        let c = choice.selected_sound m.map most eq m.disk m.owner m.table last.number last.time stored.sound in
        let p = get_or ps k 0 in
        let a : 0 < uploaded (record_at m.table p) = c.complete p (at_in ps k h) in
        let n = uploaded_file (record_at m.table p) (λ z. omega arith) in
        record { number = n; time = λ z. omega (arith, uploaded_time (record_at m.table p) n) }

    chosen_named : (k : ℕ) → k < length ps → Selectable (files m.table) (get_or (listed most (numbers_at m.table ps) m.selected) k 0)
    chosen_named k h =
        let p = get_or ps k 0 in
        let ns = numbers_at m.table ps in
        let c = chosen_complete k h in
        let e : get_or (listed most ns m.selected) k 0 ≡ (record_at m.table p).number =
        get_or-append ns _ 0 k (omega (arith, length-map ps (λ (place : ℕ). (record_at m.table place).number)))
        ∙ mapped_at (λ (place : ℕ). (record_at m.table place).number) ps k h in
        subst (λ (n : ℕ). Selectable (files m.table) n) (sym e)
        (record { place = p; found = find_own (files m.table) stored.sound.files.numbers p c.number; complete = c })

    taken_idle : (l : Listed) (long : Bool) (done sent : ℕ) → s.down ≡ down.Listing l long done sent → ⊥
    taken_idle l long done sent e =
        let c : false ≡ true = sym (ap takes_command e) ∙ idle in
        let z : ◌≡◌ {A = ℕ} 0 1 = cc in omega arith

    chosen_reads : Reads (files m.table) most (listed most (numbers_at m.table ps) m.selected) (with_selection s (length ps))
    chosen_reads =
        record {
          sending = r.sending;
          ended = r.ended;
          aborting = r.aborting;
          listing = λ l long done sent e. absurd (taken_idle l long done sent e);
          at_most = chosen_most eq m.disk m.owner m.table m.selected most;
          next = omega arith;
          names = chosen_named;
        }

    selected_done : Done (on_chooses m (download.selected_as s last (select_of eq m.disk m.owner m.table m.selected most)))
    unfolding select_of download.selected_as on_chooses
    selected_done =
        let k = select_number eq (length m.selected) most in
        by_test (λ (x : Selects). Done (on_chooses m (download.selected_as s last x))) (eqb k 0) _ _
        (λ e. quiet _ refl refl refl chosen_reads)
        (λ e. rw e (quiet _ refl refl refl r))

  select_done : (size : ℕ) (info : List ℕ) → takes_command s.down ≡ true
      → Done (on_chooses m (download.select_turn s last most size info m.disk m.owner m.table m.selected))
  unfolding download.select_turn on_chooses
  select_done size info idle =
      by_test (λ (x : Chooses). Done (on_chooses m x)) (ltb (length info) size) _ _ (λ e. quiet _ refl refl refl r)
      (λ e. selected_done (take size info) idle)

  -- ---- every act

  pub acted : (a : Act) (clock size : ℕ) (info : List ℕ) → Fit (files m.table) links s size a → Done (carry_out a s last clock most size info m)
  unfolding carry_out
  acted act.Close clock size info f = close_done
  acted act.Ignore clock size info f = quiet _ refl refl refl r
  acted (act.Tell reply) clock size info f = quiet _ refl refl refl r
  acted (act.Begin n) clock size info f = begin_done n (next_number last.number)
  acted (act.Resume place number received) clock size info f = resume_done place number received f
  acted (act.Store place offset received) clock size info f = store_done place offset received size info f
  acted (act.Overrun place) clock size info f = overrun_done place f
  acted act.Stop clock size info f = ended _ (λ q o. refl) own_idle tt (λ h. refl) (reads_then up.Idle)
  acted (act.Finish place) clock size info f = finish_done place f clock
  acted act.Select clock size info f = select_done size info f
  acted (act.Send place offset lock passed) clock size info f = send_done place offset lock passed f
  acted (act.Confirm place destination) clock size info f = confirm_done place destination
  acted (act.End reply) clock size info f = down_done down.Idle reply tt
  acted (act.Abort place) clock size info f = down_done (down.Aborting place) DataEnd f
  acted (act.List l long passed) clock size info f = list_done l long passed f
