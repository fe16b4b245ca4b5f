-- What each act of the uplink leaves of a sound store.
use mathlib.Core.Path.{◌≡◌, refl, sym, ap, ◌∙◌, subst}
use mathlib.Core.Bool.{Bool, true, false, cond}
use mathlib.Core.List.{List, []}
use Prim.Native.Nat.{ℕ, ◌+◌, ◌≤◌, ◌<◌}
use native.Mathlib.Omega.{arith}
use lib.Dec.{ltb}
use lib.ListN.{length, take}
use lib.Seq.{length-take-le}
use borrow.Author.Tests.{ltb-false, eq-eqb, ne_eqb}
use Rattle.blocks.specs.Check.{words_for}
use Rattle.blocks.specs.Contents.{held}
use Rattle.blocks.proofs.Owners.{blocks_le}
use Rattle.session.specs.declared.state.Session.{Session}
use Rattle.session.specs.declared.state.Uplink.{Uplink}
use Rattle.session.specs.declared.state.Uplink.TheVariants as up
use Rattle.session.specs.declared.reply.Reply.TheVariants.{Nothing, Go, UploadError, Ack, Nak}
use Rattle.session.specs.State.{with_up}
use Rattle.table.specs.declared.File.{File}
use Rattle.std.proofs.Common.{Option, Some, None, Result, Ok, Err}
use Rattle.table.specs.Table.{no_file}
use Rattle.table.specs.Table as table
use Rattle.table.specs.Given.{next_number, upload_time}
use Rattle.table.proofs.Giving.{number_given, time_given}
use Rattle.files.specs.View.{record_at, bytes_at}
use Rattle.files.specs.Uploads as files
use Rattle.files.specs.Completion.{check_of, complete_of}
use Rattle.files.specs.Sound.{Sound, Sizes}
use Rattle.files.proofs.Calls.{done, by_number}
use Rattle.files.proofs.Soundness.{file_room}
use Rattle.files.proofs.Beginning.{BeginLeaves, begin_leaves, begin_kept}
use Rattle.files.proofs.Received.{AppendLeaves, append_done, append_leaves}
use Rattle.files.proofs.Completed.{CompleteLeaves, check_is, check_whole, complete_done, complete_leaves}
use Rattle.files.proofs.Discarded.{DiscardLeaves, discard_done, discard_leaves}
use Rattle.links.proofs.Facts.{PartialAt}
use Rattle.carry.specs.declared.turn.Last.{Last}
use Rattle.carry.specs.declared.turn.Turn.{Turn}
use Rattle.carry.specs.Turn.{last_of, turn_of, Mem, mem, turned, Moves, writes}
use Rattle.carry.specs.Upload as upload
use Rattle.carry.specs.Carry.{on_frees, on_writes, on_moves}
use Rattle.acts.specs.Change.{view, same, begins, receives, completes, discards}
use Rattle.acts.proofs.Interface.{Stored}
use Rattle.acts.proofs.Asked.{Room}
use Rattle.acts.proofs.Effects.{Acted}

-- ---- lists of the same lengths

sizes_of : (disk owner disk' owner' : List ℕ) → Sizes disk owner → length disk' ≡ length disk → length owner' ≡ length owner → Sizes disk' owner'
sizes_of disk owner disk' owner' z d o =
    record { some = omega (arith, z.some); most = omega (arith, z.most); bytes = omega (arith, z.bytes) }

-- the map has the words of its blocks
map_same : (map owner table map' owner' table' : List ℕ) (last latest last' latest' : ℕ) → Sound map owner table last latest
    → Sound map' owner' table' last' latest' → length owner' ≡ length owner → length map' ≡ length map
map_same map owner table map' owner' table' last latest last' latest' s s' e = s'.blocks.words ∙ ap words_for e ∙ sym s.blocks.words

view_is : (f g : File) (x y : List ℕ) → f ≡ g → x ≡ y → view f x ≡ view g y
view_is f g x y e d = rw (e, d)

no_bytes : (disk owner table : List ℕ) (p : ℕ) → record_at table p ≡ no_file → bytes_at disk owner table p ≡ []
no_bytes disk owner table p e = ap (λ (f : File). take f.received (held (p + 1) owner disk)) e

-- ---- uplinks and turns

pub idle_over : (q offset received : ℕ) → up.Idle ≡ up.Receiving q offset received → ⊥
idle_over q offset received e = let z : ◌≡◌ {A = ℕ} 0 1 = cc in omega arith

pub ignoring_over : (q offset received : ℕ) → up.Ignoring ≡ up.Receiving q offset received → ⊥
ignoring_over q offset received e = let z : ◌≡◌ {A = ℕ} 0 1 = cc in omega arith

stored : (refused : ℕ) (s : Session) (last : Last) (p offset received : ℕ) → refused ≡ 0
    → upload.stored_as refused s last p offset received ≡ turn_of (with_up s (up.Receiving p offset received)) last Nothing
unfolding upload.stored_as
stored refused s last p offset received e = done refused _ (turn_of s last (Nak refused)) e

accepted : (refused : ℕ) (s : Session) (last : Last) (time : ℕ) → refused ≡ 0
    → upload.accepted_as refused s last time ≡ turn_of (with_up s up.Idle) (last_of last.number time) Ack
unfolding upload.accepted_as
accepted refused s last time e = done refused _ (turn_of (with_up s up.Idle) last (Nak refused)) e

finish_checked : (s : Session) (last : Last) (p clock : ℕ) (disk map owner table : List ℕ) → check_of disk owner table p ≡ 0
    → upload.finish_turn s last p clock disk map owner table
    ≡ upload.finish_as (upload.timed (upload_time clock last.time)) s last p disk map owner table
unfolding upload.judged_at
finish_checked s last p clock disk map owner table e = rw (eq-eqb (check_of disk owner table p) 0 e)

finish_rejected : (s : Session) (last : Last) (p clock : ℕ) (disk map owner table : List ℕ) → (check_of disk owner table p ≡ 0 → ⊥)
    → upload.finish_turn s last p clock disk map owner table
    ≡ upload.with_disk disk (upload.discard_turn s last p up.Idle (check_of disk owner table p) map owner table)
unfolding upload.judged_at upload.finish_as
finish_rejected s last p clock disk map owner table n = rw (ne_eqb (check_of disk owner table p) 0 n)

module _ (s : Session) (m : Mem) (last : Last) (st : Stored m last) (more : List ℕ) where
  -- ---- the store as it was

  pub same_store : (t : Turn) (selected : List ℕ) → t.last ≡ last → length selected ≡ length m.selected
      → Acted s more m last (turned t (mem m.disk m.map m.owner m.table selected))
  same_store t selected e l =
      record {
        kept = record {
          stored = record {
            sound = subst (λ (x : Last). Sound m.map m.owner m.table x.number x.time) (sym e) st.sound;
            sizes = st.sizes;
          };
          lengths = record { disk = refl; map = refl; owner = refl; table = refl; selected = l };
          change = same (record { files = λ q. refl; given = e });
        };
        own = tt;
        free = refl;
        order = λ from. refl;
      }

  -- ---- UPLOAD_CMD

  begun : (size p : ℕ) (b : files.Begins) → BeginLeaves m.map m.owner m.table last.number last.time size p b
      → (number : ℕ) → number ≡ last.number + 1
      → Acted s more m last
      (turned (turn_of (with_up s (up.Receiving p 0 0)) (last_of number last.time) (Go number 0))
      (mem m.disk b.map b.owner b.table m.selected))
  begun size p b l number e =
      record {
        kept = record {
          stored = record {
            sound = subst (λ (n : ℕ). Sound b.map b.owner b.table n last.time) (sym e) l.sound;
            sizes = sizes_of m.disk m.owner m.disk b.owner st.sizes refl l.blocks_size;
          };
          lengths = record {
            disk = refl;
            map = map_same m.map m.owner m.table b.map b.owner b.table last.number last.time (last.number + 1)
                last.time st.sound l.sound l.blocks_size;
            owner = l.blocks_size;
            table = l.table_size;
            selected = refl;
          };
          change = begins (record {
            place = p;
            size = size;
            free = l.free;
            here = view_is _ (files.new_file (last.number + 1) size) _ [] l.file (l.bytes m.disk);
            others = l.others m.disk;
            given = ap (λ (n : ℕ). last_of n last.time) e;
          });
        };
        own = refl;
        free = l.fewer;
        order = l.order;
      }

  begun_or_not : (size number : ℕ) → number ≡ last.number + 1 → (a : Result ℕ ℕ)
      → (files.begin_of m.map m.owner m.table last.number size).answer ≡ a
      → (b : files.Begins) → b ≡ files.begin_of m.map m.owner m.table last.number size
      → Acted s more m last (turned (upload.begun_turn a s last number) (mem m.disk b.map b.owner b.table m.selected))
  unfolding upload.begun_turn
  begun_or_not size number e (Err n) q b w =
      subst (λ (c : files.Begins). Acted s more m last (turned (turn_of s last (UploadError n))
      (mem m.disk c.map c.owner c.table m.selected)))
      (sym (w ∙ begin_kept m.map m.owner m.table last.number size n q))
      (same_store (turn_of s last (UploadError n)) m.selected refl refl)
  begun_or_not size number e (Ok p) q b w =
      begun size p b
      (subst (λ (c : files.Begins). BeginLeaves m.map m.owner m.table last.number last.time size p c) (sym w)
      (begin_leaves m.map m.owner m.table last.number last.time st.sound size p q))
      number e

  pub begin_acts : (size : ℕ) → Acted s more m last (on_frees m (upload.begin_turn s last size m.map m.owner m.table))
  unfolding on_frees upload.begin_with upload.begun_as
  begin_acts size = go (next_number last.number) refl
    where
      go : (g : Option ℕ) → next_number last.number ≡ g
          → Acted s more m last (on_frees m (upload.begin_with g s last size m.map m.owner m.table))
      go None q = same_store (turn_of s last (UploadError 3)) m.selected refl refl
      go (Some number) q =
          begun_or_not size number (number_given last.number number q).next
          (files.begin_of m.map m.owner m.table last.number size).answer refl
          (files.begin_of m.map m.owner m.table last.number size) refl

  -- ---- DATA

  appended : (p offset received : ℕ) (w : files.Writes) → AppendLeaves m.map m.disk m.owner m.table last.number last.time p more w
      → s.up ≡ up.Receiving p offset received → PartialAt (table.files m.table) p (offset + received)
      → (record_at m.table p).received + length more ≤ (record_at m.table p).size
      → (onward : ℕ) → onward ≡ received + length more
      → Acted s more m last
      (turned (turn_of (with_up s (up.Receiving p offset onward)) last Nothing) (mem w.disk m.map m.owner w.table m.selected))
  appended p offset received w l e f h onward o =
      record {
        kept = record {
          stored = record { sound = l.sound; sizes = sizes_of m.disk m.owner w.disk m.owner st.sizes l.disk_size refl };
          lengths = record { disk = l.disk_size; map = refl; owner = refl; table = l.table_size; selected = refl };
          change = receives (record {
            place = p;
            more = more;
            partial = record { number = f.number; time = f.time };
            room = h;
            here = view_is _ _ _ _ l.file l.bytes;
            others = l.others;
            given = refl;
          });
        };
        own = (refl, record { offset = offset; received = received; receiving = e; onward = ap (λ (n : ℕ). up.Receiving p offset n) o });
        free = refl;
        order = l.order;
      }

  -- ---- a partial discarded

  discarded : (p : ℕ) (d : files.Frees) → DiscardLeaves m.map m.owner m.table last.number last.time p d
      → (offset received : ℕ) → s.up ≡ up.Receiving p offset received → PartialAt (table.files m.table) p (offset + received)
      → (u : Uplink) → ((q o r : ℕ) → u ≡ up.Receiving q o r → ⊥) → (number : ℕ)
      → Acted s more m last (turned (turn_of (with_up s u) last (Nak number)) (mem m.disk d.map d.owner d.table m.selected))
  discarded p d l offset received e f u over number =
      record {
        kept = record {
          stored = record { sound = l.sound; sizes = sizes_of m.disk m.owner m.disk d.owner st.sizes refl l.blocks_size };
          lengths = record {
            disk = refl;
            map = map_same m.map m.owner m.table d.map d.owner d.table last.number last.time last.number
                last.time st.sound l.sound l.blocks_size;
            owner = l.blocks_size;
            table = l.table_size;
            selected = refl;
          };
          change = discards (record {
            place = p;
            partial = record { number = f.number; time = f.time };
            here = view_is _ no_file _ [] l.file (no_bytes m.disk d.owner d.table p l.file);
            others = l.others m.disk;
            given = refl;
          });
        };
        own = record {
          uploading = record { offset = offset; received = received; receiving = e };
          over = λ q g. over q g.offset g.received g.receiving;
        };
        free = l.free;
        order = l.order f.time;
      }

  pub discard_acts : (p offset received : ℕ) → s.up ≡ up.Receiving p offset received → PartialAt (table.files m.table) p (offset + received)
      → (u : Uplink) → ((q o r : ℕ) → u ≡ up.Receiving q o r → ⊥) → (number : ℕ)
      → Acted s more m last (on_frees m (upload.discard_turn s last p u number m.map m.owner m.table))
  unfolding on_frees upload.discard_turn
  discard_acts p offset received e f u over number =
      discarded p (files.discard_of m.map m.owner m.table p)
      (discard_leaves m.map m.owner m.table last.number last.time st.sound p
      (discard_done m.map m.owner m.table last.number last.time st.sound st.sizes.some st.sizes.most p f.number))
      offset received e f u over number

  -- ---- DATA_END

  completed : (p time : ℕ) (c : files.Writes) → CompleteLeaves m.map m.disk m.owner m.table last.number last.time p time c
      → (offset received : ℕ) → s.up ≡ up.Receiving p offset received → PartialAt (table.files m.table) p (offset + received)
      → check_of m.disk m.owner m.table p ≡ 0 → last.time < time
      → Acted s more m last (turned (turn_of (with_up s up.Idle) (last_of last.number time) Ack)
      (mem c.disk m.map m.owner c.table m.selected))
  completed p time c l offset received e f z h =
      record {
        kept = record {
          stored = record {
            sound = l.sound h
                (check_whole m.map m.disk m.owner m.table last.number last.time st.sound st.sizes p f.number z);
            sizes = sizes_of m.disk m.owner c.disk m.owner st.sizes l.disk_size refl;
          };
          lengths = record { disk = l.disk_size; map = refl; owner = refl; table = l.table_size; selected = refl };
          change = completes (record {
            place = p;
            time = time;
            partial = record { number = f.number; time = f.time };
            whole = sym (check_is m.map m.disk m.owner m.table last.number last.time st.sound st.sizes p f.number) ∙ z;
            above = h;
            here = view_is _ _ _ _ l.file l.bytes;
            others = l.others;
            given = refl;
          });
        };
        own = record {
          uploading = record { offset = offset; received = received; receiving = e };
          over = λ q g. idle_over q g.offset g.received g.receiving;
        };
        free = refl;
        order = l.order h f.time;
      }

  module _ (p offset received : ℕ) (e : s.up ≡ up.Receiving p offset received) (f : PartialAt (table.files m.table) p (offset + received)) where
    accept_acts : (time : ℕ) → check_of m.disk m.owner m.table p ≡ 0 → last.time < time
        → Acted s more m last (on_moves m (upload.with_blocks m.map m.owner (upload.accept_turn s last p time m.disk m.owner m.table)))
    unfolding on_moves upload.with_blocks upload.accept_turn
    accept_acts time z h =
        let c = complete_of m.disk m.owner m.table p time in
        let a = complete_done m.map m.disk m.owner m.table last.number last.time st.sound st.sizes p f.number z time in
        subst (λ (t : Turn). Acted s more m last (turned t (mem c.disk m.map m.owner c.table m.selected)))
        (sym (accepted c.answer s last time a))
        (completed p time c
        (complete_leaves m.map m.disk m.owner m.table last.number last.time st.sound p time a)
        offset received e f z h)

    reject_acts : (number : ℕ)
        → Acted s more m last (on_moves m (upload.with_disk m.disk (upload.discard_turn s last p up.Idle number m.map m.owner m.table)))
    unfolding on_moves on_frees upload.with_disk
    reject_acts number = discard_acts p offset received e f up.Idle idle_over number

    given_acts : (clock : ℕ) → check_of m.disk m.owner m.table p ≡ 0 → (g : Option ℕ) → upload_time clock last.time ≡ g
        → Acted s more m last (on_moves m (upload.finish_as (upload.timed g) s last p m.disk m.map m.owner m.table))
    unfolding upload.finish_as upload.timed
    given_acts clock z None q = reject_acts 3
    given_acts clock z (Some time) q = accept_acts time z (time_given clock last.time time q).later

    pub finish_acts : (clock : ℕ) → Acted s more m last (on_moves m (upload.finish_turn s last p clock m.disk m.map m.owner m.table))
    finish_acts clock =
        by_number (check_of m.disk m.owner m.table p)
        (λ z.
        subst (λ (r : Moves). Acted s more m last (on_moves m r)) (sym (finish_checked s last p clock m.disk m.map m.owner m.table z))
        (given_acts clock z (upload_time clock last.time) refl))
        (λ n.
        subst (λ (r : Moves). Acted s more m last (on_moves m r)) (sym (finish_rejected s last p clock m.disk m.map m.owner m.table n))
        (reject_acts (check_of m.disk m.owner m.table p)))

-- ---- the information of a DATA

module _ (s : Session) (m : Mem) (last : Last) (st : Stored m last) (p offset received size : ℕ)
    (r : Room s size (table.files m.table) p offset received) (f : PartialAt (table.files m.table) p (offset + received)) (info : List ℕ) where
  -- a file of at most 4,096 blocks has fewer bytes than 32 bits count
  onward : size ≤ length info → upload.grown received size ≡ received + length (take size info)
  onward h =
      let b = file_room m.map m.owner m.table last.number last.time st.sound p f.number in
      let c = blocks_le (p + 1) m.owner in
      let t = length-take-le size info h in
      omega (arith, b, c, t, st.sizes.most, f.agree, r.fits)

  taken : size ≤ length info → (w : files.Writes) → w ≡ files.append_of m.disk m.owner m.table p (take size info)
      → Acted s (take size info) m last (on_writes m (upload.appended_as s last p offset (upload.grown received size) w))
  unfolding on_writes upload.appended_as
  taken h w q =
      let k : (record_at m.table p).received + length (take size info) ≤ (record_at m.table p).size =
      omega (arith, length-take-le size info h, r.fits) in
      let a = append_done m.map m.disk m.owner m.table last.number last.time st.sound st.sizes p f.number
      (take size info) k in
      subst (λ (t : Turn). Acted s (take size info) m last (turned t (mem w.disk m.map m.owner w.table m.selected)))
      (sym (stored w.answer s last p offset (upload.grown received size) (ap (λ (v : files.Writes). v.answer) q ∙ a)))
      (appended s m last st (take size info) p offset received w
      (subst (λ (v : files.Writes). AppendLeaves m.map m.disk m.owner m.table last.number last.time p (take size info) v) (sym q)
      (append_leaves m.map m.disk m.owner m.table last.number last.time st.sound p (take size info) a))
      r.receiving f k (upload.grown received size) (onward h))

  pub store_acts : Acted s (take size info) m last (on_writes m (upload.store_turn s last p offset received size info m.disk m.owner m.table))
  unfolding on_writes upload.store_turn
  store_acts = go (ltb (length info) size) refl
    where
      go : (t : Bool) → ltb (length info) size ≡ t
          → Acted s (take size info) m last (on_writes m (cond t (writes (turn_of s last Nothing) m.disk m.table)
          (upload.appended_as s last p offset (upload.grown received size) (files.append_of m.disk m.owner m.table p (take size info)))))
      go true q = same_store s m last st (take size info) (turn_of s last Nothing) m.selected refl refl
      go false q = taken (ltb-false (length info) size q) (files.append_of m.disk m.owner m.table p (take size info)) refl
