-- The sessions' facts after each call: what refusal 35 says of the sessions ("a length, offset or name points at what the store lacks") never
-- comes to hold, and what calls keep besides stays. One session moves; the others keep theirs, since no file but the session's own upload
-- changes.
use mathlib.Core.Path.{◌≡◌, refl, sym, ap, ◌∙◌, subst}
use mathlib.Core.Bool.{Bool, true, false}
use mathlib.Core.List.{List, ◌++◌}
use Prim.Native.Nat.{ℕ, ◌+◌, ◌*◌, ◌-◌, ◌%◌, ◌≤◌, ◌<◌, min}
use native.Mathlib.Omega.{arith}
use borrow.Author.Tests.{ltb-true, ltb-false}
use lib.Dec.{eqb, ltb}
use lib.ListN.{length, length-append, length-take, length-drop, length-replicate, replicate, get_or, set, take, drop, get_or-append}
use lib.Seq.{length-take-le, get_or-take, get_or-drop, get_or-append-add, get_or-set_same, get_or-set_other, take_at, drop_at, ext_get_or}
use Rattle.packet.specs.declared.frame.Frame.{Frame}
use Rattle.session.specs.declared.state.Session.{Session}
use Rattle.session.specs.declared.state.Uplink.TheVariants as up
use Rattle.session.specs.declared.state.Downlink.{Downlink}
use Rattle.session.specs.declared.state.Downlink.TheVariants as down
use Rattle.session.specs.declared.state.Listed.{Listed}
use Rattle.session.specs.declared.state.Listed.TheVariants as listed
use Rattle.session.specs.State.{closed_session, fresh_session, with_held, with_down}
use Rattle.table.specs.declared.File.{File}
use Rattle.std.proofs.Common.{Option, Some, None}
use Rattle.table.specs.Table.{files, file_at, numbers}
use Rattle.table.specs.Fit.{Distinct}
use Rattle.table.proofs.Finding.{by_equal}
use Rattle.files.proofs.Choice.{take_le}
use Rattle.links.specs.Sound.{link}
use Rattle.links.specs.Sound as size
use Rattle.links.specs.Kept.{Uploads}
use Rattle.links.proofs.Facts.{CompleteAt, SendingAt, ListingAt, Unfinished, LinkFacts, selection_of, packet_of, LinksFacts, part_end}
use Rattle.decide.specs.Decide.{decide_of}
use Rattle.carry.specs.declared.turn.Last.{Last}
use Rattle.carry.specs.Turn.{Mem, Turned}
use Rattle.carry.specs.Carry.{carry_out}
use Rattle.server.specs.State.{with_part}
use Rattle.server.specs.Turns.{size_in}
use Rattle.directory.specs.Directory.{found_in}
use Rattle.entries.proofs.Laws.{entry_short}
use Rattle.listing.specs.Listing.{entry_in, entries_of, fill_of}
use Rattle.listing.proofs.EntryLaws.{entries_count, entry_of}
use Rattle.listing.proofs.FillLaws.{fill_within}
use Rattle.sending.specs.Sending.{Due, least_of, data_of, sending_of, listed_as, listing_of, due_of}
use Rattle.acts.proofs.Interface.{Stored, Kept}
use Rattle.history.proofs.Directories.{CompleteIn, listed_complete}
use Rattle.history.proofs.Others.{Reads, reads_of, reads_still, link_still}
use Rattle.history.proofs.Decided.{Own, decide_fit}
use Rattle.history.proofs.Acted.{up_of, receiving_of, Down, reads_with, by_test, file_most, file_received, own_idle, Acted, acted}

-- ---- a session's part of what is lent

module _ (a n : ℕ) (p l : List ℕ) (size : length p ≡ n) (room : a + n ≤ length l) where
  front : length (take a l) ≡ a
  front = length-take-le a l (omega arith)

  rest : length (drop n (drop a l)) ≡ length l - a - n
  rest = length-drop n (drop a l) ∙ ap (λ (k : ℕ). k - n) (length-drop a l)

  pub part_length : length (with_part a n p l) ≡ length l
  part_length =
      omega (arith, length-append (take a l) (p ++ drop n (drop a l)), length-append p (drop n (drop a l)), front, rest)

  pub part_own : take n (drop a (with_part a n p l)) ≡ p
  part_own = ap (take n) (drop_at (take a l) (p ++ drop n (drop a l)) a front) ∙ take_at p (drop n (drop a l)) n size

  part_below : (k : ℕ) → k < a → get_or (with_part a n p l) k 0 ≡ get_or l k 0
  part_below k h = get_or-append (take a l) (p ++ drop n (drop a l)) 0 k (omega (arith, front)) ∙ get_or-take a l k 0 h

  part_above : (k : ℕ) → get_or (with_part a n p l) (a + n + k) 0 ≡ get_or l (a + n + k) 0
  part_above k =
      let e : a + n + k ≡ length (take a l) + (length p + k) = omega (arith, front) in
      let d : a + n + k ≡ a + (n + k) = omega arith in
      ap (λ (x : ℕ). get_or (with_part a n p l) x 0) e
      ∙ get_or-append-add (take a l) (p ++ drop n (drop a l)) (length p + k) 0
      ∙ get_or-append-add p (drop n (drop a l)) k 0
      ∙ get_or-drop n (drop a l) k 0
      ∙ get_or-drop a l (n + k) 0
      ∙ ap (λ (x : ℕ). get_or l x 0) (sym d)

  part_after : (k : ℕ) → a + n ≤ k → get_or (with_part a n p l) k 0 ≡ get_or l k 0
  part_after k h =
      let e : k ≡ a + n + (k - (a + n)) = omega arith in
      ap (λ (x : ℕ). get_or (with_part a n p l) x 0) e ∙ part_above (k - (a + n)) ∙ ap (λ (x : ℕ). get_or l x 0) (sym e)

-- session i's part of the selections is replaced, and the others' stay
module _ (sessions most i : ℕ) (p selected : List ℕ) (h : i < sessions) (lent : sessions * most ≤ length selected) (size : length p ≡ most) where
  room_at : i * most + most ≤ length selected
  room_at = omega (arith, part_end i sessions most h)

  pub selection_own : selection_of most (with_part (i * most) most p selected) i ≡ p
  selection_own = part_own (i * most) most p selected size room_at

  pub selection_other : (j : ℕ) → (j ≡ i → ⊥) → (k : ℕ) → k < most
      → get_or (selection_of most (with_part (i * most) most p selected) j) k 0 ≡ get_or (selection_of most selected j) k 0
  selection_other j n k l =
      at_part (with_part (i * most) most p selected) ∙ go (ltb j i) refl ∙ sym (at_part selected)
    where
      at_part : (x : List ℕ) → get_or (selection_of most x j) k 0 ≡ get_or x (j * most + k) 0
      at_part x = get_or-take most (drop (j * most) x) k 0 l ∙ get_or-drop (j * most) x k 0

      go : (t : Bool) → ltb j i ≡ t → get_or (with_part (i * most) most p selected) (j * most + k) 0 ≡ get_or selected (j * most + k) 0
      go true e =
          part_below (i * most) most p selected size room_at (j * most + k) (omega (arith, part_end j i most (ltb-true j i e)))
      go false e =
          let b : i < j = omega (arith, ltb-false j i e, n) in
          part_after (i * most) most p selected size room_at (j * most + k) (omega (arith, part_end i j most b))

  part_size : (x : List ℕ) (j : ℕ) → length x ≡ length selected → length (selection_of most x j) ≡ length (selection_of most selected j)
  part_size x j e =
      length-take most (drop (j * most) x)
      ∙ ap (min most) (length-drop (j * most) x ∙ ap (λ (y : ℕ). y - j * most) e ∙ sym (length-drop (j * most) selected))
      ∙ sym (length-take most (drop (j * most) selected))

  pub part_stays : (j : ℕ) → (j ≡ i → ⊥) → selection_of most (with_part (i * most) most p selected) j ≡ selection_of most selected j
  part_stays j n =
      let q = selection_of most (with_part (i * most) most p selected) j in
      ext_get_or 0 q (selection_of most selected j)
      (part_size (with_part (i * most) most p selected) j (part_length (i * most) most p selected size room_at))
      (λ k l. selection_other j n k (omega (arith, take_le most (drop (j * most) (with_part (i * most) most p selected)))))

-- hearing replaces session i's part of the unfinished packets
module _ (sessions i : ℕ) (p held : List ℕ) (h : i < sessions) (lent : sessions * 258 ≤ length held) (size : length p ≡ 258) where
  pub packet_own : packet_of (with_part (i * 258) 258 p held) i ≡ p
  packet_own = selection_own sessions 258 i p held h lent size

  pub packet_stays : (j : ℕ) → (j ≡ i → ⊥) → packet_of (with_part (i * 258) 258 p held) j ≡ packet_of held j
  packet_stays = part_stays sessions 258 i p held h lent size

-- ---- one session moves

-- two sessions that differ do not upload the same file
pub apart_both : (fs : List File) (sessions most : ℕ) (selected held : List ℕ) (links : List Session)
    → LinksFacts fs sessions most selected held links
    → (i j : ℕ) → (j ≡ i → ⊥) → i < 4 → j < 4 → (place : ℕ) → Uploads (link links i) place → Uploads (link links j) place → ⊥
apart_both fs sessions most selected held links f i j n a b place u v = go (ltb i j) refl
  where
    go : (t : Bool) → ltb i j ≡ t → ⊥
    go true e = f.apart i j (ltb-true i j e) b place u v
    go false e = f.apart j i (omega (arith, ltb-false i j e, n)) a place v u

-- a session that uploads is one of those in use, and its file is there
pub uploads_live : (fs : List File) (sessions most : ℕ) (selected held : List ℕ) (links : List Session)
    → LinksFacts fs sessions most selected held links
    → (j place : ℕ) → j < 4 → Uploads (link links j) place → (file_at fs place).number ≡ 0 → ⊥
uploads_live fs sessions most selected held links f j place h v = go (ltb j sessions) refl
  where
    go : (t : Bool) → ltb j sessions ≡ t → (file_at fs place).number ≡ 0 → ⊥
    go true e = ((f.each j (ltb-true j sessions e) v.linked).receiving place v.offset v.received v.receiving).number
    go false e =
        let c = f.beyond j (ltb-false j sessions e) h in
        let d = v.linked in
        absurd (let z : ◌≡◌ {A = ℕ} 0 1 = cc in omega arith)

module _ (fs fs' : List File) (sessions most : ℕ) (selected selected' held held' : List ℕ) (links : List Session) (i : ℕ) (s : Session)
    (f : LinksFacts fs sessions most selected held links) (h : i < sessions) (four : length links ≡ 4) where
  here : (j : ℕ) → j ≡ i → link (set links i s) j ≡ s
  here j e =
      ap (λ (k : ℕ). link (set links i s) k) e ∙ get_or-set_same links i s closed_session (omega (arith, f.number))

  there : (j : ℕ) → (j ≡ i → ⊥) → link (set links i s) j ≡ link links j
  there j n = get_or-set_other links i j s closed_session n

  -- the others have their facts over the new files, and the session has its own and uploads what no other does
  pub one_moves : length selected' ≡ length selected → length held' ≡ length held
      → ((j : ℕ) → j < sessions → (j ≡ i → ⊥) → (link links j).linked ≡ true
      → LinkFacts fs' most (selection_of most selected' j) (packet_of held' j) (link links j))
      → (s.linked ≡ true → LinkFacts fs' most (selection_of most selected' i) (packet_of held' i) s)
      → ((place : ℕ) → Uploads s place → (j : ℕ) → j < 4 → (j ≡ i → ⊥) → Uploads (link links j) place → ⊥)
      → LinksFacts fs' sessions most selected' held' (set links i s)
  one_moves ls lh others own sole =
      record {
        number = f.number;
        maxsel = f.maxsel;
        selections = omega (arith, f.selections);
        packets = omega (arith, f.packets);
        each = λ j l o. by_equal j i (mine j l o) (theirs j l o);
        beyond = λ j l k. ap (λ (x : Session). x.linked) (there j (λ e. omega arith)) ∙ f.beyond j l k;
        apart = pairs;
      }
    where
      mine : (j : ℕ) → j < sessions → (link (set links i s) j).linked ≡ true → j ≡ i
          → LinkFacts fs' most (selection_of most selected' j) (packet_of held' j) (link (set links i s) j)
      mine j l o e =
          subst (λ (x : Session). LinkFacts fs' most (selection_of most selected' j) (packet_of held' j) x) (sym (here j e))
          (subst (λ (x : ℕ). LinkFacts fs' most (selection_of most selected' x) (packet_of held' x) s) (sym e)
          (own (sym (ap (λ (x : Session). x.linked) (here j e)) ∙ o)))

      theirs : (j : ℕ) → j < sessions → (link (set links i s) j).linked ≡ true → (j ≡ i → ⊥)
          → LinkFacts fs' most (selection_of most selected' j) (packet_of held' j) (link (set links i s) j)
      theirs j l o n =
          subst (λ (x : Session). LinkFacts fs' most (selection_of most selected' j) (packet_of held' j) x) (sym (there j n))
          (others j l n (sym (ap (λ (x : Session). x.linked) (there j n)) ∙ o))

      pairs : (a b : ℕ) → a < b → b < 4 → (place : ℕ) → Uploads (link (set links i s) a) place → Uploads (link (set links i s) b) place → ⊥
      pairs a b l k place u v =
          by_equal a i
          (λ e.
          let n : b ≡ i → ⊥ = λ d. omega arith in
          sole place (subst (λ (x : Session). Uploads x place) (here a e) u) b k n (subst (λ (x : Session). Uploads x place) (there b n) v))
          (λ n.
          by_equal b i
          (λ e.
          sole place (subst (λ (x : Session). Uploads x place) (here b e) v) a (omega arith) n
          (subst (λ (x : Session). Uploads x place) (there a n) u))
          (λ d.
          f.apart a b l k place (subst (λ (x : Session). Uploads x place) (there a n) u)
          (subst (λ (x : Session). Uploads x place) (there b d) v)))

-- ---- an act

-- the session's downlink and selection do not see how many bytes of a packet are held
reads_held : (fs : List File) (most : ℕ) (selected : List ℕ) (s : Session) (n : ℕ) → Reads fs most selected s → Reads fs most selected (with_held s n)
reads_held fs most selected s n r =
    record {
      sending = r.sending;
      ended = r.ended;
      aborting = r.aborting;
      listing = r.listing;
      at_most = r.at_most;
      next = r.next;
      names = r.names;
    }

module _ (sessions most : ℕ) (selected held held' : List ℕ) (links : List Session) (i n : ℕ) (m : Mem) (last : Last) (t : Turned)
    (f : LinksFacts (files m.table) sessions most selected held links) (h : i < sessions) (linked : (link links i).linked ≡ true)
    (four : length links ≡ 4) (k : Kept m last t) (part : m.selected ≡ selection_of most selected i) (lengths : length held' ≡ length held)
    (packets : (j : ℕ) → (j ≡ i → ⊥) → packet_of held' j ≡ packet_of held j)
    (unfinished : 2 ≤ t.turn.session.held → Unfinished t.turn.session.held (packet_of held' i))
    (a : Acted links most m (with_held (link links i) n) t) where
  abbrev fs : List File
  fs = files m.table

  abbrev fs' : List File
  fs' = files t.mem.table

  abbrev selected' : List ℕ
  selected' = with_part (i * most) most t.mem.selected selected

  uploads_own : (place : ℕ) → Own (link links i).up place → Uploads (link links i) place
  uploads_own place o = record { linked = linked; offset = o.offset; received = o.received; receiving = o.receiving }

  own_of : (j place : ℕ) → Uploads (link links j) place → Own (link links j).up place
  own_of j place v = record { offset = v.offset; received = v.received; receiving = v.receiving }

  complete_kept : (q : ℕ) → CompleteAt fs q → file_at fs' q ≡ file_at fs q
  complete_kept q c =
      a.kept q c.number (λ o. c.time ((f.each i h linked).receiving q o.offset o.received o.receiving).time)

  numbers_once : Distinct (numbers fs')
  numbers_once = k.stored.sound.files.numbers

  part_room : length t.mem.selected ≡ most
  part_room =
      k.lengths.selected ∙ ap length part
      ∙ length-take-le most (drop (i * most) selected)
      (omega (arith, f.selections, part_end i sessions most h, length-drop (i * most) selected))

  others_keep : (j : ℕ) → j < sessions → (j ≡ i → ⊥) → (link links j).linked ≡ true
      → LinkFacts fs' most (selection_of most selected' j) (packet_of held' j) (link links j)
  others_keep j l ne o =
      subst (λ (x : List ℕ). LinkFacts fs' most (selection_of most selected' j) x (link links j)) (sym (packets j ne))
      (link_still fs fs' complete_kept numbers_once most (selection_of most selected j) (selection_of most selected' j) (packet_of held j) (link links j)
      (f.each j l o) apart (part_stays sessions most i t.mem.selected selected h f.selections part_room j ne))
    where
      apart : (place offset received : ℕ) → (link links j).up ≡ up.Receiving place offset received → file_at fs' place ≡ file_at fs place
      apart place offset received e =
          let v : Uploads (link links j) place = record { linked = o; offset = offset; received = received; receiving = e } in
          a.kept place ((f.each j l o).receiving place offset received e).number
          (λ w.
          apart_both fs sessions most selected held links f i j ne (omega (arith, f.number)) (omega (arith, f.number)) place
          (uploads_own place w) v)

  own_holds : LinkFacts fs' most (selection_of most selected' i) (packet_of held' i) t.turn.session
  own_holds =
      let e = selection_own sessions most i t.mem.selected selected h f.selections part_room in
      let r = reads_still fs fs' complete_kept numbers_once most t.mem.selected (selection_of most selected' i) t.turn.session a.reads
      e in
      record {
        receiving = receiving_of fs' t.turn.session.up a.receiving;
        sending = r.sending;
        ended = r.ended;
        aborting = r.aborting;
        listing = r.listing;
        at_most = r.at_most;
        next = r.next;
        names = r.names;
        packet = unfinished;
      }

  sole : (place : ℕ) → Uploads t.turn.session place → (j : ℕ) → j < 4 → (j ≡ i → ⊥) → Uploads (link links j) place → ⊥
  sole place u j l ne v =
      let o : Own t.turn.session.up place = record { offset = u.offset; received = u.received; receiving = u.receiving } in
      apart_both fs sessions most selected held links f i j ne (omega (arith, f.number)) l place (uploads_own place (a.alone place o j l v)) v

  acted_links : LinksFacts fs' sessions most selected' held' (set links i t.turn.session)
  acted_links =
      one_moves fs fs' sessions most selected selected' held held' links i t.turn.session f h four
      (part_length (i * most) most t.mem.selected selected part_room (omega (arith, f.selections, part_end i sessions most h)))
      lengths others_keep (λ o. own_holds) sole

-- an act of session i, decided on what was heard on its link, with the facts that the session had
module _ (sessions most : ℕ) (selected held : List ℕ) (links : List Session) (i n : ℕ) (m : Mem) (last : Last) (clock : ℕ) (frame : Frame)
    (info : List ℕ) where
  abbrev pub acting : Session
  acting = with_held (link links i) n

  abbrev pub turn_at : Turned
  turn_at = carry_out (decide_of acting links frame info (files m.table) m.selected) acting last clock most (size_in frame) info m

  pub turn_acted : LinksFacts (files m.table) sessions most selected held links → i < sessions → (link links i).linked ≡ true → Stored m last
      → m.selected ≡ selection_of most selected i → Acted links most m acting turn_at
  turn_acted f h linked st part =
      let g = f.each i h linked in
      let r : Reads (files m.table) most m.selected acting =
      reads_held (files m.table) most m.selected (link links i) n
      (subst (λ (x : List ℕ). Reads (files m.table) most x (link links i)) (sym part)
      (reads_of (files m.table) most (selection_of most selected i) (packet_of held i) (link links i) g)) in
      acted links most m acting last st (up_of (files m.table) (link links i).up g.receiving) r
      (uploads_live (files m.table) sessions most selected held links f)
      (decide_of acting links frame info (files m.table) m.selected) clock (size_in frame) info
      (decide_fit (files m.table) links acting most m.selected r frame info)

-- The hypotheses follow from a good state: LinksFacts and Stored are what refusal 35 tests and what calls keep, Kept is what an act leaves of a
-- sound store, m has the session's part of the selections, and hearing leaves the other sessions' packets (`packet_stays`). The last one is about
-- the bytes held that were heard, since an act leaves them or forgets them (`turn_acted`, field held).
pub turn_links : (sessions most : ℕ) (selected held held' : List ℕ) (links : List Session) (i n : ℕ) (m : Mem) (last : Last) (clock : ℕ)
    (frame : Frame) (info : List ℕ)
    → let s = with_held (link links i) n in
    let t = carry_out (decide_of s links frame info (files m.table) m.selected) s last clock most (size_in frame) info m in
    LinksFacts (files m.table) sessions most selected held links
    → i < sessions
    → (link links i).linked ≡ true
    → length links ≡ 4
    → Stored m last
    → Kept m last t
    → m.selected ≡ selection_of most selected i
    → length held' ≡ length held
    → ((j : ℕ) → (j ≡ i → ⊥) → packet_of held' j ≡ packet_of held j)
    → (2 ≤ t.turn.session.held → Unfinished t.turn.session.held (packet_of held' i))
    → LinksFacts (files t.mem.table) sessions most (with_part (i * most) most t.mem.selected selected) held' (set links i t.turn.session)
turn_links sessions most selected held held' links i n m last clock frame info f h linked four st k part lengths packets unfinished =
    acted_links sessions most selected held held' links i n m last (turn_at sessions most selected held links i n m last clock frame info)
    f h linked four k part lengths packets unfinished
    (turn_acted sessions most selected held links i n m last clock frame info f h linked st part)

-- ---- login, a lost link

-- a session whose uplink is idle uploads nothing
idle_none : (s : Session) → s.up ≡ up.Idle → (place : ℕ) → Uploads s place → ⊥
idle_none s e place u =
    own_idle place (record { offset = u.offset; received = u.received; receiving = sym e ∙ u.receiving })

-- a session at login names nothing
fresh_facts : (fs : List File) (most : ℕ) (selected part : List ℕ) → LinkFacts fs most selected part fresh_session
fresh_facts fs most selected part =
    record {
      receiving = λ place offset received e. absurd (let z : ◌≡◌ {A = ℕ} 0 1 = cc in omega arith);
      sending = λ place offset sent e. absurd (let z : ◌≡◌ {A = ℕ} 0 1 = cc in omega arith);
      ended = λ place e. absurd (let z : ◌≡◌ {A = ℕ} 0 1 = cc in omega arith);
      aborting = λ place e. absurd (let z : ◌≡◌ {A = ℕ} 0 1 = cc in omega arith);
      listing = λ l long done sent e. absurd (let z : ◌≡◌ {A = ℕ} 0 1 = cc in omega arith);
      at_most = omega arith;
      next = omega arith;
      names = λ k h. absurd (omega arith);
      packet = λ h. absurd (omega arith);
    }

module _ (fs : List File) (sessions most : ℕ) (selected held : List ℕ) (links : List Session) (i : ℕ)
    (f : LinksFacts fs sessions most selected held links) (h : i < sessions) (four : length links ≡ 4) where
  pub login_links : LinksFacts fs sessions most selected held (set links i fresh_session)
  login_links =
      one_moves fs fs sessions most selected selected held held links i fresh_session f h four refl refl (λ j l n o. f.each j l o)
      (λ o. fresh_facts fs most (selection_of most selected i) (packet_of held i))
      (λ place u j l n v. idle_none fresh_session refl place u)

  -- "The unfinished packet and the selection are forgotten."
  pub lose_links : LinksFacts fs sessions most (with_part (i * most) most (replicate most 0) selected) (with_part (i * 258) 258 (replicate 258 0) held)
      (set links i closed_session)
  lose_links =
      one_moves fs fs sessions most selected (with_part (i * most) most (replicate most 0) selected) held
      (with_part (i * 258) 258 (replicate 258 0) held) links i closed_session f h four
      (part_length (i * most) most (replicate most 0) selected (length-replicate {A = ℕ} most 0)
      (omega (arith, f.selections, part_end i sessions most h)))
      (part_length (i * 258) 258 (replicate 258 0) held (length-replicate {A = ℕ} 258 0) (omega (arith, f.packets)))
      stays
      (λ o. absurd (let z : ◌≡◌ {A = ℕ} 0 1 = cc in omega arith))
      (λ place u j l n v. idle_none closed_session refl place u)
    where
      stays : (j : ℕ) → j < sessions → (j ≡ i → ⊥) → (link links j).linked ≡ true
          → LinkFacts fs most (selection_of most (with_part (i * most) most (replicate most 0) selected) j)
          (packet_of (with_part (i * 258) 258 (replicate 258 0) held) j) (link links j)
      stays j l n o =
          let e = part_stays sessions most i (replicate most 0) selected h f.selections (length-replicate {A = ℕ} most 0) j n in
          let d = packet_stays sessions i (replicate 258 0) held h f.packets (length-replicate {A = ℕ} 258 0) j n in
          subst (λ (x : List ℕ). LinkFacts fs most x (packet_of (with_part (i * 258) 258 (replicate 258 0) held) j) (link links j)) (sym e)
          (subst (λ (x : List ℕ). LinkFacts fs most (selection_of most selected j) x (link links j)) (sym d) (f.each j l o))

-- ---- a request

down_of_law : (fs : List File) (most : ℕ) (selected : List ℕ) (s : Session) → Reads fs most selected s → (d : Downlink) → s.down ≡ d
    → Down fs selected s.next d
down_of_law fs most selected s r down.Idle e = tt
down_of_law fs most selected s r (down.Sending place offset sent) e = r.sending place offset sent e
down_of_law fs most selected s r (down.Ended place) e = r.ended place e
down_of_law fs most selected s r (down.Aborting place) e = r.aborting place e
down_of_law fs most selected s r (down.Listing l long done sent) e = r.listing l long done sent e

-- "up to 256 bytes": no more than there are
least_le : (n : ℕ) → least_of n ≤ n
unfolding least_of
least_le n = by_test (λ (x : ℕ). x ≤ n) (ltb n 256) _ _ (λ e. omega arith) (λ e. ltb-false n 256 e)

-- the downlink after a request, that of a file no longer than the store
module _ (fs : List File) (s : Session) (disk owner selected out : List ℕ)
    (most : (q : ℕ) → CompleteAt fs q → (file_at fs q).size ≤ 1048576)
    (received : (q : ℕ) → CompleteAt fs q → (file_at fs q).received ≤ (file_at fs q).size)
    (complete : (l : Listed) → ((place : ℕ) → l ≡ listed.One place → CompleteAt fs place) → (d : ℕ)
    → CompleteIn fs (get_or (found_in l s.next fs selected) d None)) (P : Session → Type 0)
    (stays : P s) (moves : (v : Downlink) → Down fs selected s.next v → P (with_down s v)) where
  sending_moves : (place offset sent : ℕ) → SendingAt fs place (offset + sent) → P (sending_of s place offset sent disk owner fs out).asked.session
  unfolding sending_of data_of
  sending_moves place offset sent c =
      by_test (λ (x : Due). P x.asked.session) (ltb (offset + sent) (file_at fs place).size) _ _
      (λ e. moves (down.Sending place offset ((sent + least_of ((file_at fs place).size - (offset + sent))) % 4294967296)) (further e))
      (λ e. moves (down.Ended place) c.complete)
    where
      further : ltb (offset + sent) (file_at fs place).size ≡ true
          → SendingAt fs place (offset + (sent + least_of ((file_at fs place).size - (offset + sent))) % 4294967296)
      further e =
          record {
            complete = c.complete;
            within =
                omega (
                  arith,
                  least_le ((file_at fs place).size - (offset + sent)),
                  ltb-true (offset + sent) (file_at fs place).size e,
                  most place c.complete,
                );
          }

  -- an entry is no longer than its file
  entry_most : (long : Bool) (f : Option ℕ) → CompleteIn fs f → length (entry_in long disk owner fs f) ≤ size.size_in fs f
  unfolding entry_in size.size_in
  entry_most long None c = omega arith
  entry_most long (Some place) c =
      omega (arith, (entry_short long disk owner place (file_at fs place).received).within, received place c)

  filled_on : (l : Listed) (long : Bool) (done sent : ℕ) → ListingAt fs selected s.next l done sent
      → let f = fill_of (entries_of l long s.next disk owner fs selected) done sent in
      ListingAt fs selected s.next l f.done f.sent
  filled_on l long done sent c =
      let es = entries_of l long s.next disk owner fs selected in
      let f = fill_of es done sent in
      let n = entries_count long disk owner l s.next fs selected in
      let w = fill_within es done sent (omega (arith, c.come)) in
      let e = entry_of long disk owner l s.next fs selected f.done in
      record {
        one = c.one;
        come = omega (arith, w.0);
        within =
            omega (
              arith,
              w.1,
              ap length e,
              entry_most long (get_or (found_in l s.next fs selected) f.done None) (complete l c.one f.done),
            );
      }

  listing_moves : (l : Listed) (long : Bool) (done sent : ℕ) → ListingAt fs selected s.next l done sent
      → P (listing_of s l long done sent disk owner fs selected out).asked.session
  unfolding listed_as
  listing_moves l long done sent c =
      let f = fill_of (entries_of l long s.next disk owner fs selected) done sent in
      by_test (λ (x : Due). P x.asked.session) (eqb f.size 0) _ _ (λ e. moves down.Idle tt)
      (λ e. moves (down.Listing l long f.done f.sent) (filled_on l long done sent c))

  due_moves : (d : Downlink) → Down fs selected s.next d → P (due_of d s disk owner fs selected out).asked.session
  unfolding due_of
  due_moves down.Idle c = stays
  due_moves (down.Sending place offset sent) c = sending_moves place offset sent c
  due_moves (down.Ended place) c = stays
  due_moves (down.Aborting place) c = moves down.Idle tt
  due_moves (down.Listing l long done sent) c = listing_moves l long done sent c

-- the bytes that a request sends do not matter to the sessions: any disk, owners and output
pub request_links : (sessions most : ℕ) (selected held : List ℕ) (links : List Session) (i : ℕ) (m : Mem) (last : Last) (disk owner out : List ℕ)
    → LinksFacts (files m.table) sessions most selected held links
    → i < sessions
    → (link links i).linked ≡ true
    → length links ≡ 4
    → Stored m last
    → LinksFacts (files m.table) sessions most selected held
    (set links i (due_of (link links i).down (link links i) disk owner (files m.table) (selection_of most selected i) out).asked.session)
request_links sessions most selected held links i m last disk owner out f h linked four st =
    due_moves (files m.table) (link links i) disk owner (selection_of most selected i) out (λ q c. file_most m last st q c.number)
    (λ q c. file_received m last st q c.number)
    (listed_complete (files m.table) (selection_of most selected i) (link links i).count (link links i).next r.next r.names)
    (λ (x : Session). LinksFacts (files m.table) sessions most selected held (set links i x))
    (moved (link links i) refl (f.each i h linked))
    (λ v c. moved (with_down (link links i) v) refl (facts v c))
    (link links i).down (down_of_law (files m.table) most (selection_of most selected i) (link links i) r (link links i).down refl)
  where
    r : Reads (files m.table) most (selection_of most selected i) (link links i)
    r = reads_of (files m.table) most (selection_of most selected i) (packet_of held i) (link links i) (f.each i h linked)

    facts : (v : Downlink) → Down (files m.table) (selection_of most selected i) (link links i).next v
        → LinkFacts (files m.table) most (selection_of most selected i) (packet_of held i) (with_down (link links i) v)
    facts v c =
        let w = reads_with (files m.table) most (selection_of most selected i) (link links i) (with_down (link links i) v) r c refl r.next in
        record {
          receiving = (f.each i h linked).receiving;
          sending = w.sending;
          ended = w.ended;
          aborting = w.aborting;
          listing = w.listing;
          at_most = w.at_most;
          next = w.next;
          names = w.names;
          packet = (f.each i h linked).packet;
        }

    moved : (s : Session) → s.up ≡ (link links i).up
        → LinkFacts (files m.table) most (selection_of most selected i) (packet_of held i) s
        → LinksFacts (files m.table) sessions most selected held (set links i s)
    moved s e w =
        one_moves (files m.table) (files m.table) sessions most selected selected held held links i s f h four refl refl
        (λ j l n o. f.each j l o) (λ o. w)
        (λ place u j l n v.
        apart_both (files m.table) sessions most selected held links f i j n (omega (arith, f.number)) l place
        (record { linked = linked; offset = u.offset; received = u.received; receiving = sym e ∙ u.receiving }) v)
