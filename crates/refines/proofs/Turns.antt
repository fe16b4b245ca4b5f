-- What an act of a session leaves, in the view: the files of the store that it leaves, and its own session; the other sessions are as they were.
use mathlib.Core.Path.{◌≡◌, refl, ap, ap₂, ◌∙◌}
use mathlib.Core.Bool.{Bool, true, false, cond}
use mathlib.Core.List.{List}
use mathlib.Core.Option.{Option}
use Prim.Native.Nat.{ℕ, ◌+◌, ◌*◌, ◌≤◌, ◌<◌}
use native.Mathlib.Omega.{arith}
use lib.ListN.{length, set, take}
use lib.Seq.{get_or-set_same, get_or-set_other, set-set}
use Rattle.packet.specs.declared.frame.Frame.{Frame}
use Rattle.session.specs.declared.state.Session.{Session}
use Rattle.session.specs.declared.state.Uplink.{Uplink}
use Rattle.session.specs.declared.state.Uplink.TheVariants as up
use Rattle.session.specs.declared.state.Downlink.{Downlink}
use Rattle.session.specs.declared.state.Downlink.TheVariants as down
use Rattle.session.specs.declared.state.Listed.{Listed}
use Rattle.session.specs.State.{closed_session, with_held}
use Rattle.table.specs.Table.{files, numbers, find_of}
use Rattle.table.specs.Fit.{Distinct}
use Rattle.files.specs.View.{View, view_at}
use Rattle.links.proofs.Facts.{LinkFacts, CompleteAt, selection_of, packet_of, part_end}
use Rattle.carry.specs.Turn.{Mem, Turned}
use Rattle.server.specs.declared.Server.{Server}
use Rattle.server.specs.State.{Lent, link_of, with_turn, owner_part, table_part}
use Rattle.server.specs.Turns.{parts_of}
use Rattle.acts.specs.Change.{Files}
use Rattle.history.specs.Good.{Good}
use Rattle.history.specs.Stored.{files_of}
use Rattle.acts.proofs.Interface.{files_in, Kept}
use Rattle.acts.proofs.Asked.{Uploading}
use Rattle.acts.proofs.Acts.{turn_after, act_kept, act_others, act_complete}
use Rattle.history.proofs.Parts.{front_back, part_size}
use Rattle.history.proofs.Sessions.{part_stays, part_own, apart_both}
use Rattle.history.proofs.Leaves.{mem_of, back_in, stored_parts}
use Rattle.model.specs.State as model
use Rattle.model.specs.State.{File, Model, in_session, Turn, turn}
use Rattle.views.specs.View.{file_in, numbered, listed, up_of, down_of, open_from, session_from, session_of, each, view}
use Rattle.views.proofs.Lists.{each_set, each_length}
use Rattle.views.proofs.Views.{facts, four}
use Rattle.views.proofs.Stores.{files_by, by_number}
use Rattle.views.proofs.Listings.{listing_stays}

-- ---- a session in two stores

pub up_same : (F G : Files) (u : Uplink) → ((place offset received : ℕ) → u ≡ up.Receiving place offset received → G place ≡ F place) → up_of G u ≡ up_of F u
up_same F G up.Idle h = refl
up_same F G (up.Receiving place offset received) h = ap (λ (v : View). model.receiving v.file.number) (h place offset received refl)
up_same F G up.Ignoring h = refl

-- the files by place and by number in both
module _ (F G : Files) (N O : ℕ → Option File) (selected : List ℕ) where
  pub down_same : (next : ℕ) (d : Downlink) → ((place offset sent : ℕ) → d ≡ down.Sending place offset sent → G place ≡ F place)
      → ((place : ℕ) → d ≡ down.Ended place → G place ≡ F place) → ((place : ℕ) → d ≡ down.Aborting place → G place ≡ F place)
      → ((listed : Listed) (long : Bool) (done sent : ℕ) → d ≡ down.Listing listed long done sent
      → down_of G O selected next (down.Listing listed long done sent) ≡ down_of F N selected next (down.Listing listed long done sent))
      → down_of G O selected next d ≡ down_of F N selected next d
  down_same next down.Idle a b c e = refl
  down_same next (down.Sending place offset sent) a b c e = ap (λ (v : View). model.sending v.file.number (offset + sent)) (a place offset sent refl)
  down_same next (down.Ended place) a b c e = ap (λ (v : View). model.ended v.file.number) (b place refl)
  down_same next (down.Aborting place) a b c e = ap (λ (v : View). model.aborting v.file.number) (c place refl)
  down_same next (down.Listing listed long done sent) a b c e = e listed long done sent refl

  link_same : (held : List ℕ) (s : Session)
      → (s.linked ≡ true → (up_of G s.up ≡ up_of F s.up) × (down_of G O selected s.next s.down ≡ down_of F N selected s.next s.down))
      → session_from G O selected held s ≡ session_from F N selected held s
  link_same held s h = go s.linked h
    where
      go : (b : Bool)
          → (b ≡ true → (up_of G s.up ≡ up_of F s.up) × (down_of G O selected s.next s.down ≡ down_of F N selected s.next s.down))
          → cond b (open_from G O selected held s) model.closed_session ≡ cond b (open_from F N selected held s) model.closed_session
      go true h =
          ap₂ (λ (u : model.Uplink) (d : model.Downlink).
          record { linked = true; up = u; down = d; selected = take s.count selected; next = s.next; held = take s.held held }) (h refl).0 (h refl).1
      go false h = refl

-- the downlink of a session names complete files, so it is the same in another store where these are as they were
pub down_stays : (m m' : Mem) (most : ℕ) (part : List ℕ) (s : Session) → LinkFacts (files m.table) most m.selected part s
    → Distinct (numbers (files m.table)) → Distinct (numbers (files m'.table))
    → ((q : ℕ) → CompleteAt (files m.table) q → files_in m' q ≡ files_in m q)
    → down_of (files_in m') (by_number m') m.selected s.next s.down ≡ down_of (files_in m) (by_number m) m.selected s.next s.down
down_stays m m' most part s f one two stays =
    down_same (files_in m) (files_in m') (by_number m) (by_number m') m.selected s.next s.down
    (λ place offset sent e. stays place (f.sending place offset sent e).complete)
    (λ place e. stays place (f.ended place e))
    (λ place e. stays place (f.aborting place e))
    (λ listed long done sent e.
    listing_stays m one m.selected s.count s.next f.next f.names m' two stays listed (f.listing listed long done sent e).one long done sent)

-- ---- the view of a turn

module _ (sv : Server) (l : Lent) (i : ℕ) where
  -- the view with another last number and time, other files, and another session i
  abbrev pub mk : ℕ → ℕ → List File → model.Session → Model
  mk number time fs k = model.model (view sv l) number time fs (set (each sv.sessions (session_of sv l)) i k)

  abbrev pub parts : Mem
  parts = parts_of sv i (mem_of l)

  -- what a turn says and leaves; `p` is the session's part of the unfinished packets afterwards
  abbrev pub turn_view : List ℕ → Turned → Turn
  turn_view p t =
      turn t.turn.reply
      (mk t.turn.last.number t.turn.last.time (files_by t.mem t.turn.last.number)
      (session_from (files_in t.mem) (by_number t.mem) t.mem.selected p t.turn.session))

module _ (sv : Server) (l : Lent) (g : Good sv l) (i : ℕ) (inside : i < sv.sessions) where
  listed_four : i < length (each sv.sessions (session_of sv l))
  listed_four = rw (each_length sv.sessions (session_of sv l)) inside

  -- session i of the view so changed
  pub link_mk : (number time : ℕ) (fs : List File) (k : model.Session) → model.session_at (mk sv l i number time fs k) i ≡ k
  link_mk number time fs k = get_or-set_same (each sv.sessions (session_of sv l)) i k model.closed_session listed_four

  pub with_mk : (number time : ℕ) (fs : List File) (k h : model.Session) → model.with_session (mk sv l i number time fs k) i h ≡ mk sv l i number time fs h
  with_mk number time fs k h =
      ap (λ (ks : List model.Session). model.model (view sv l) number time fs ks) (set-set (each sv.sessions (session_of sv l)) i k h)

  pub set_mk : (h : model.Session → model.Session) (number time : ℕ) (fs : List File) (k : model.Session) → in_session i h (mk sv l i number time fs k) ≡ mk sv l i number time fs (h k)
  set_mk h number time fs k =
      with_mk number time fs k (h (model.session_at (mk sv l i number time fs k) i)) ∙ ap (λ (z : model.Session). mk sv l i number time fs (h z)) (link_mk number time fs k)

  module _ (linked : (link_of sv i).linked ≡ true) (n clock : ℕ) (frame : Frame) (info : List ℕ) where
    abbrev pub acting : Session
    acting = with_held (link_of sv i) n

    abbrev pub turned : Turned
    turned = turn_after acting sv.links frame info (parts sv l i) sv.last clock sv.most

    own : LinkFacts (files (table_part sv l)) sv.most (selection_of sv.most l.selected i) (packet_of l.held i) (link_of sv i)
    own = (facts sv l g).sessions.each i inside linked

    kept : Kept (parts sv l i) sv.last turned
    kept = act_kept acting sv.links frame info (parts sv l i) sv.last clock sv.most (stored_parts sv l g i) own.receiving

    complete_stays : (q : ℕ) → CompleteAt (files (table_part sv l)) q → files_in turned.mem q ≡ files_of sv l q
    complete_stays = act_complete acting sv.links frame info (parts sv l i) sv.last clock sv.most (stored_parts sv l g i) own.receiving

    -- what another session names is as it was
    other_same : (j : ℕ) → j < sv.sessions → (j ≡ i → ⊥) → (link_of sv j).linked ≡ true
        → (up_of (files_in turned.mem) (link_of sv j).up ≡ up_of (files_of sv l) (link_of sv j).up)
        × (down_of (files_in turned.mem) (by_number turned.mem) (selection_of sv.most l.selected j) (link_of sv j).next (link_of sv j).down
        ≡ down_of (files_of sv l) (numbered sv l) (selection_of sv.most l.selected j) (link_of sv j).next (link_of sv j).down)
    other_same j h ne o =
        let f = (facts sv l g).sessions.each j h o in
        let four = (facts sv l g).sizes.sessions in (
          up_same (files_of sv l) (files_in turned.mem) (link_of sv j).up
              (λ place offset received e.
              act_others acting sv.links frame info (parts sv l i) sv.last clock sv.most (stored_parts sv l g i) own.receiving place
              (f.receiving place offset received e).number
              (λ (u : Uploading acting place).
              apart_both (files (table_part sv l)) sv.sessions sv.most l.selected l.held sv.links (facts sv l g).sessions i j ne
              (omega (arith, four)) (omega (arith, four)) place
              (record { linked = linked; offset = u.offset; received = u.received; receiving = u.receiving })
              (record { linked = o; offset = offset; received = received; receiving = e }))),
          down_stays (parts sv l j) turned.mem sv.most (packet_of l.held j) (link_of sv j) f (facts sv l g).store.files.numbers
              kept.stored.sound.files.numbers complete_stays,
        )

    module _ (held : List ℕ) (others : (j : ℕ) → (j ≡ i → ⊥) → packet_of held j ≡ packet_of l.held j) where
      abbrev pub left : Lent
      left = back_in sv i l turned.mem held

      abbrev pub server : Server
      server = with_turn sv i turned.turn

      owner_back : owner_part server left ≡ turned.mem.owner
      owner_back = front_back sv.blocks turned.mem.owner l.owner (facts sv l g).room.owner kept.lengths.owner

      table_back : table_part server left ≡ turned.mem.table
      table_back = front_back (4 * sv.files) turned.mem.table l.table (facts sv l g).room.table kept.lengths.table

      room : i * sv.most + sv.most ≤ length l.selected
      room = omega (arith, part_end i sv.sessions sv.most inside, (facts sv l g).room.selected)

      mine : length turned.mem.selected ≡ sv.most
      mine = kept.lengths.selected ∙ part_size (i * sv.most) sv.most l.selected room

      -- a session as the state left has it
      seen_in_law : (a b : List ℕ) (s : Session)
          → session_from (files_of server left) (numbered server left) a b s ≡ session_from (files_in turned.mem) (by_number turned.mem) a b s
      seen_in_law a b s =
          ap₂ (λ (o t : List ℕ).
          session_from (λ place. view_at turned.mem.disk o t place)
          (λ n. file_in (λ place. view_at turned.mem.disk o t place) (find_of (files t) n)) a b s) owner_back table_back

      here : session_of server left i
          ≡ session_from (files_in turned.mem) (by_number turned.mem) turned.mem.selected (packet_of held i) turned.turn.session
      here =
          seen_in_law _ _ (link_of server i)
          ∙ ap₂ (λ (a : List ℕ) (s : Session). session_from (files_in turned.mem) (by_number turned.mem) a (packet_of held i) s)
          (part_own (i * sv.most) sv.most turned.mem.selected l.selected mine room)
          (get_or-set_same sv.links i turned.turn.session closed_session (four sv l g i inside))

      there : (j : ℕ) → j < sv.sessions → (j ≡ i → ⊥) → session_of server left j ≡ session_of sv l j
      there j h ne =
          seen_in_law _ _ (link_of server j)
          ∙ ap (session_from (files_in turned.mem) (by_number turned.mem) _ (packet_of held j)) (get_or-set_other sv.links i j turned.turn.session closed_session ne)
          ∙ ap₂ (λ (a b : List ℕ). session_from (files_in turned.mem) (by_number turned.mem) a b (link_of sv j))
          (part_stays sv.sessions sv.most i turned.mem.selected l.selected inside (facts sv l g).sessions.selections mine j ne) (others j ne)
          ∙ link_same (files_of sv l) (files_in turned.mem) (numbered sv l) (by_number turned.mem) _ _ (link_of sv j) (other_same j h ne)

      -- THE VIEW OF A TURN
      pub turn_view_law : view server left ≡ (turn_view sv l i (packet_of held i) turned).after
      turn_view_law =
          ap₂ (λ (fs : List File) (ks : List model.Session). model.model (view sv l) turned.turn.last.number turned.turn.last.time fs ks)
          (ap₂ (λ (o t : List ℕ).
          listed turned.turn.last.number (λ n. file_in (λ place. view_at turned.mem.disk o t place) (find_of (files t) n))) owner_back table_back)
          (each_set sv.sessions (session_of sv l) (session_of server left) i inside there ∙ ap (set (each sv.sessions (session_of sv l)) i) here)
