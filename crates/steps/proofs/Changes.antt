-- Every step changes no file but one, and keeps a sound state sound. Assumes nothing.
use mathlib.Core.Path.{◌≡◌, refl, sym, ap, ap₂, ◌∙◌, subst}
use mathlib.Core.Bool.{Bool, true, false, cond}
use mathlib.Core.List.{List, [], ◌∷◌, ◌++◌}
use mathlib.Core.Option.{Option, none, some}
use Prim.Native.Nat.{ℕ, ◌+◌, ◌-◌, ◌≤◌, ◌<◌}
use native.Mathlib.Omega.{arith}
use borrow.Author.Tests.{eqb-true, leb-true, ltb-true, ltb-false}
use lib.Dec.{eqb, leb, ltb}
use lib.ListN.{length}
use lib.Seq.{get_or-set_other, set-get_or, set-set}
use Rattle.packet.specs.Frame.{Event, packet, too_long}
use Rattle.header.specs.Header.{verdict}
use Rattle.equation.specs.Answer.{validity_of}
use Rattle.table.specs.Given.{blocks_for, most_given}
use Rattle.model.specs.State.{File, file, Uplink, no_upload, receiving, ignoring, Downlink, no_download, sending, ended, aborting, listing, Session}
use Rattle.model.specs.State.{closed_session, fresh_session, with_up, with_down, with_selection, with_next, with_held, Model, model, session_at, with_session}
use Rattle.model.specs.State.{in_session, Turn, Stepped, stepped, closing}
use Rattle.model.specs.Files.{find, changed, without, reserved, free, uploading, selection}
use Rattle.model.specs.Uplink.{upload_new, upload_continued, on_upload_cmd, discarded, grown, data_to, on_data, time_at, completed, data_end_to, on_data_end}
use Rattle.model.specs.Downlink.{destinations_in, download_of, download_numbered, on_download_cmd, data_due, directory_of, listing_due, on_request}
use Rattle.model.specs.Downlink.{on_dl_ack_cmd, on_dl_nak_cmd, next_ten, directory_of_one, directory_numbered, on_dir_cmd, on_select_cmd}
use Rattle.calls.specs.Call.{login, receive, request, lose}
use Rattle.model.specs.Step.{if_no_upload, if_no_download, by_type, on_packet, ends_in, on_event, refusal, unless, step}
use Rattle.decide.specs.Words.{word_at}
use Rattle.session.specs.declared.reply.Answer.TheVariants as answer
use Rattle.session.specs.Reply.{told}
use Rattle.steps.specs.Parts.{session_in}
use Rattle.steps.specs.Change.{Leaves, Change, same, begins, grows, completes, drops, OneChange, OwnSession}
use Rattle.steps.proofs.Cutting.{session_there, link_held}
use Rattle.steps.specs.Sound.{Numbers, Sound, SoundStays}

abbrev Does : Model → ℕ → Turn → Type 0
Does m i t = Change m i t.after

-- nothing changes, or session i alone
keeps : (m : Model) (i : ℕ) → Change m i m
keeps m i =
    same (record {
      leaves = record {
        session = session_at m i;
        after = ap (λ (ss : List Session). model m m.last_number m.last_time m.files ss) (sym (set-get_or m.sessions i closed_session));
      };
    })

moves : (m : Model) (i : ℕ) (x : Session) → Change m i (with_session m i x)
moves m i x = same (record { leaves = record { session = x; after = refl } })

by : (m : Model) (i : ℕ) (b : Bool) (x y : Turn) → (b ≡ true → Does m i x) → (b ≡ false → Does m i y) → Does m i (cond b x y)
by m i true x y f g = f refl
by m i false x y f g = g refl

either : (m : Model) (i : ℕ) (b : Bool) (x y : Stepped) → Change m i x.after → Change m i y.after → Change m i (cond b x y).after
either m i true x y f g = f
either m i false x y f g = g

pub later : (clock last : ℕ) → last < time_at clock last
later clock last = go (ltb clock (last + 1)) refl
  where
    go : (b : Bool) → ltb clock (last + 1) ≡ b → last < cond b (last + 1) clock
    go true e = omega arith
    go false e = let k = ltb-false clock (last + 1) e in omega arith

module _ (m : Model) (i : ℕ) where
  abbrev stays : Change m i m
  stays = keeps m i

  new_does : (size : ℕ) → Does m i (upload_new m i size)
  unfolding upload_new
  new_does size =
      by m i (eqb m.last_number most_given) _ _ (λ _. stays)
      (λ _.
      by m i (ltb (length m.files) m.places) _ _
      (λ p.
      by m i (leb (blocks_for size) (free m)) _ _
      (λ r.
      begins (record {
        size = size;
        place = ltb-true (length m.files) m.places p;
        room = leb-true (blocks_for size) (free m) r;
        leaves = record { session = with_up (receiving (m.last_number + 1)) (session_at m i); after = refl };
      }))
      (λ _. stays))
      (λ _. stays))

  continued_does : (f : Option File) (n size : ℕ) → Does m i (upload_continued f m i n size)
  unfolding upload_continued
  continued_does none n size = stays
  continued_does (some f) n size =
      by m i (eqb f.time 0) _ _
      (λ _.
      by m i (eqb f.size size) _ _ (λ _. by m i (uploading m.sessions n) _ _ (λ _. stays) (λ _. moves m i (with_up (receiving n) (session_at m i))))
      (λ _. stays))
      (λ _. stays)

  upload_does : (info : List ℕ) → Does m i (on_upload_cmd m i info)
  unfolding on_upload_cmd
  upload_does info =
      by m i (eqb (length info) 8) _ _
      (λ _.
      by m i (eqb (word_at info 0) 0) _ _ (λ _. new_does (word_at info 4))
      (λ _. continued_does (find (word_at info 0) m.files) (word_at info 0) (word_at info 4)))
      (λ _. stays)

  closing_does : Does m i (closing m i)
  closing_does = moves m i closed_session

  dropped : (n : ℕ) (f : File) (u : Uplink) → (session_at m i).up ≡ receiving n → find n m.files ≡ some f → Change m i (discarded i n u m)
  dropped n f u o e =
      drops (record { n = n; file = f; own = o; found = e; leaves = record { session = with_up u (session_at m i); after = refl } })

  data_does : (u : Uplink) → (session_at m i).up ≡ u → (info : List ℕ) → Does m i (on_data u m i info)
  unfolding on_data data_to
  data_does no_upload o info = closing_does
  data_does (receiving n) o info = go (find n m.files) refl
    where
      go : (f : Option File) → find n m.files ≡ f → Does m i (data_to f m i n info)
      go none e = stays
      go (some f) e =
          by m i (ltb f.size (length f.bytes + length info)) _ _ (λ _. dropped n f ignoring o e)
          (λ q.
          grows (record {
            n = n;
            file = f;
            bytes = info;
            own = o;
            found = e;
            room = ltb-false f.size (length f.bytes + length info) q;
            leaves = record {
              session = session_at m i;
              after = ap (λ (ss : List Session). model m m.last_number m.last_time (changed n (grown info) m.files) ss)
                  (sym (set-get_or m.sessions i closed_session));
            };
          }))
  data_does ignoring o info = stays

  end_does : (u : Uplink) → (session_at m i).up ≡ u → (clock : ℕ) → Does m i (on_data_end u m i clock)
  unfolding on_data_end data_end_to
  end_does no_upload o clock = closing_does
  end_does (receiving n) o clock = go (find n m.files) refl
    where
      go : (f : Option File) → find n m.files ≡ f → Does m i (data_end_to f m i n clock)
      go none e = stays
      go (some f) e =
          by m i (eqb (verdict f.bytes f.size) 0) _ _
          (λ v.
          by m i (eqb m.last_time most_given) _ _ (λ _. dropped n f no_upload o e)
          (λ _.
          completes (record {
            n = n;
            file = f;
            t = time_at clock m.last_time;
            own = o;
            found = e;
            valid = eqb-true (verdict f.bytes f.size) 0 v;
            newer = later clock m.last_time;
            leaves = record { session = with_up no_upload (session_at m i); after = refl };
          })))
          (λ _. dropped n f no_upload o e)
  end_does ignoring o clock = moves m i (with_up no_upload (session_at m i))

  file_does : (f : Option File) (n offset lock passed : ℕ) → Does m i (download_of f m i n offset lock passed)
  unfolding download_of
  file_does none n offset lock passed = stays
  file_does (some f) n offset lock passed =
      by m i (eqb f.time 0) _ _ (λ _. stays)
      (λ _.
      by m i (ltb (length f.bytes) offset) _ _ (λ _. stays)
      (λ _.
      by m i (ltb (destinations_in f.bytes) lock) _ _ (λ _. stays)
      (λ _. moves m i (with_down (sending n offset) (with_next passed (session_at m i))))))

  download_does : (s : Session) (info : List ℕ) → Does m i (on_download_cmd m i s info)
  unfolding on_download_cmd download_numbered
  download_does s info =
      by m i (eqb (length info) 9) _ _
      (λ _.
      by m i (eqb (word_at info 0) 0) _ _
      (λ _. by m i (ltb s.next (length s.selected)) _ _ (λ _. file_does _ _ _ _ _) (λ _. stays))
      (λ _. file_does _ _ _ _ _))
      (λ _. stays)

  ack_does : (d : Downlink) (info : List ℕ) → Does m i (on_dl_ack_cmd d m i info)
  unfolding on_dl_ack_cmd
  ack_does no_download info = closing_does
  ack_does (sending n at) info = closing_does
  ack_does (ended n) info = moves m i (with_down no_download (session_at m i))
  ack_does (aborting n) info = closing_does
  ack_does (listing long ns at) info = closing_does

  nak_does : (d : Downlink) → Does m i (on_dl_nak_cmd d m i)
  unfolding on_dl_nak_cmd
  nak_does no_download = stays
  nak_does (sending n at) = moves m i (with_down (aborting n) (session_at m i))
  nak_does (ended n) = moves m i (with_down no_download (session_at m i))
  nak_does (aborting n) = closing_does
  nak_does (listing long ns at) = moves m i (with_down no_download (session_at m i))

  one_does : (f : Option File) (long : Bool) (n : ℕ) → Does m i (directory_of_one f m i long n)
  unfolding directory_of_one
  one_does none long n = stays
  one_does (some f) long n = by m i (eqb f.time 0) _ _ (λ _. stays) (λ _. moves m i (with_down (listing long (n ∷ []) 0) (session_at m i)))

  directory_does : (long : Bool) (s : Session) (info : List ℕ) → Does m i (on_dir_cmd long m i s info)
  unfolding on_dir_cmd directory_numbered
  directory_does long s info =
      by m i (eqb (length info) 4) _ _
      (λ _.
      by m i (eqb (word_at info 0) 0) _ _
      (λ _.
      by m i (ltb s.next (length s.selected)) _ _
      (λ _. moves m i (with_down (listing long (next_ten s) 0) (with_next (s.next + length (next_ten s)) (session_at m i)))) (λ _. stays))
      (λ _. one_does (find (word_at info 0) m.files) long (word_at info 0)))
      (λ _. stays)

  select_does : (info : List ℕ) → Does m i (on_select_cmd m i info)
  unfolding on_select_cmd
  select_does info =
      by m i (eqb (validity_of info) 0) _ _ (λ _. moves m i (with_selection (selection m.maxsel info m.files) (session_at m i))) (λ _. stays)

  if_no_upload_law : (u : Uplink) (x y : Turn) → Does m i x → Does m i y → Does m i (if_no_upload u x y)
  if_no_upload_law no_upload x y f g = f
  if_no_upload_law (receiving n) x y f g = g
  if_no_upload_law ignoring x y f g = g

  if_no_download_law : (d : Downlink) (x y : Turn) → Does m i x → Does m i y → Does m i (if_no_download d x y)
  if_no_download_law no_download x y f g = f
  if_no_download_law (sending n offset) x y f g = g
  if_no_download_law (ended n) x y f g = g
  if_no_download_law (aborting n) x y f g = g
  if_no_download_law (listing long ns at) x y f g = g

  packet_does : (clock kind : ℕ) (info : List ℕ) → Does m i (on_packet m i clock kind info)
  unfolding by_type
  packet_does clock kind info =
      by m i (eqb kind 0) _ _ (λ _. data_does (session_at m i).up refl info)
      (λ _.
      by m i (eqb kind 1) _ _ (λ _. by m i (eqb (length info) 0) _ _ (λ _. end_does (session_at m i).up refl clock) (λ _. closing_does))
      (λ _.
      by m i (eqb kind 3) _ _ (λ _. if_no_upload_law (session_at m i).up _ _ (upload_does info) closing_does)
      (λ _.
      by m i (eqb kind 8) _ _ (λ _. if_no_download_law (session_at m i).down _ _ (download_does (session_at m i) info) closing_does)
      (λ _.
      by m i (eqb kind 12) _ _ (λ _. ack_does (session_at m i).down info)
      (λ _.
      by m i (eqb kind 13) _ _ (λ _. by m i (eqb (length info) 0) _ _ (λ _. nak_does (session_at m i).down) (λ _. closing_does))
      (λ _.
      by m i (eqb kind 14) _ _ (λ _. if_no_download_law (session_at m i).down _ _ (directory_does false (session_at m i) info) closing_does)
      (λ _.
      by m i (eqb kind 15) _ _ (λ _. if_no_download_law (session_at m i).down _ _ (directory_does true (session_at m i) info) closing_does)
      (λ _. by m i (eqb kind 16) _ _ (λ _. if_no_download_law (session_at m i).down _ _ (select_does info) closing_does) (λ _. closing_does)))))))))

-- a state that differs in what session i holds
module _ (m : Model) (i : ℕ) (there : i < length m.sessions) (bytes : List ℕ) (x : Model) where
  abbrev held : Model
  held = in_session i (with_held bytes) m

  left_over : (n t : ℕ) (fs : List File) → Leaves held i x n t fs → Leaves m i x n t fs
  left_over n t fs l =
      record {
        session = l.session;
        after = l.after
            ∙ ap (λ (ss : List Session). model m n t fs ss) (set-set m.sessions i (with_held bytes (session_at m i)) l.session);
      }

  up_over : (n : ℕ) → (session_at held i).up ≡ receiving n → (session_at m i).up ≡ receiving n
  up_over n e = ap (λ (s : Session). s.up) (sym (link_held m i there bytes)) ∙ e

  over : Change held i x → Change m i x
  over (same k) = same (record { leaves = left_over _ _ _ k.leaves })
  over (begins k) = begins (record { size = k.size; place = k.place; room = k.room; leaves = left_over _ _ _ k.leaves })
  over (grows k) =
      grows (record {
        n = k.n;
        file = k.file;
        bytes = k.bytes;
        own = up_over k.n k.own;
        found = k.found;
        room = k.room;
        leaves = left_over _ _ _ k.leaves;
      })
  over (completes k) =
      completes (record {
        n = k.n;
        file = k.file;
        t = k.t;
        own = up_over k.n k.own;
        found = k.found;
        valid = k.valid;
        newer = k.newer;
        leaves = left_over _ _ _ k.leaves;
      })
  over (drops k) =
      drops (record { n = k.n; file = k.file; own = up_over k.n k.own; found = k.found; leaves = left_over _ _ _ k.leaves })

module _ (m : Model) (i : ℕ) where
  event_does : (e : Option Event) (clock : ℕ) (held input out : List ℕ) → i < length m.sessions → Change m i (on_event e m i clock held input out).after
  unfolding on_event
  event_does none clock held input out there = moves m i (with_held (held ++ input) (session_at m i))
  event_does (some too_long) clock held input out there = moves m i closed_session
  event_does (some (packet kind info)) clock held input out there =
      over m i there [] _ (packet_does (in_session i (with_held []) m) i clock kind info)

  due_does : (d : Downlink) (out : List ℕ) → Change m i (on_request d m i out).after
  unfolding on_request data_due listing_due
  due_does no_download out = keeps m i
  due_does (sending n at) out = go (find n m.files)
    where
      go : (f : Option File) → Change m i (data_due f m i n at out).after
      go none = keeps m i
      go (some f) = either m i (ltb at (length f.bytes)) _ _ (moves m i _) (moves m i (with_down (ended n) (session_at m i)))
  due_does (ended n) out = keeps m i
  due_does (aborting n) out = moves m i (with_down no_download (session_at m i))
  due_does (listing long ns at) out =
      either m i (ltb at (length (directory_of long ns m.files))) _ _ (moves m i _) (moves m i (with_down no_download (session_at m i)))

unless_does : (n : ℕ) (m : Model) (i : ℕ) (out : List ℕ) (x : Stepped) → (n ≡ 0 → Change m i x.after) → Change m i (unless n m out x).after
unfolding unless
unless_does n m i out x c = go (eqb n 0) refl
  where
    go : (b : Bool) → eqb n 0 ≡ b → Change m i (cond b x (stepped (told (answer.Refused n) out) m)).after
    go true e = c (eqb-true n 0 e)
    go false e = keeps m i

-- THEOREM: a step changes no file but one, in one of these ways, and no session but its own
pub one_change : OneChange
unfolding step
one_change m (login session clock out) =
    unless_does (refusal m session false (length out)) m (session - 1) out _ (λ _. moves m (session - 1) fresh_session)
one_change m (receive session clock input out) =
    unless_does (refusal m session true (length out)) m (session - 1) out _
    (λ z.
    event_does m (session - 1) (ends_in ((session_at m (session - 1)).held ++ input)) clock (session_at m (session - 1)).held input out
    (session_there m session true (length out) z))
one_change m (request session out) =
    unless_does (refusal m session true (length out)) m (session - 1) out _ (λ _. due_does m (session - 1) (session_at m (session - 1)).down out)
one_change m (lose session) = unless_does (refusal m session true 258) m (session - 1) [] _ (λ _. moves m (session - 1) closed_session)

-- ---- its own session alone

leaves_of : (m : Model) (i : ℕ) (m' : Model) → Change m i m' → (j : ℕ) → (j ≡ i → ⊥) → session_at m' j ≡ session_at m j
leaves_of m i m' c j n = go c
  where
    on : (k t : ℕ) (fs : List File) → Leaves m i m' k t fs → session_at m' j ≡ session_at m j
    on k t fs l = ap (λ (x : Model). session_at x j) l.after ∙ get_or-set_other m.sessions i j l.session closed_session n

    go : Change m i m' → session_at m' j ≡ session_at m j
    go (same k) = on _ _ _ k.leaves
    go (begins k) = on _ _ _ k.leaves
    go (grows k) = on _ _ _ k.leaves
    go (completes k) = on _ _ _ k.leaves
    go (drops k) = on _ _ _ k.leaves

-- THEOREM
pub own_session : OwnSession
own_session m c j n = leaves_of m (session_in c - 1) (step m c).after (one_change m c) j n

-- ---- every change keeps a sound state

up : (a b t b' t' : ℕ) (fs : List File) → b ≤ b' → t ≤ t' → Numbers a b t fs → Numbers a b' t' fs
up a b t b' t' [] h k n = tt
up a b t b' t' (f ∷ fs) h k n = (n.0, omega (arith, n.1), omega (arith, n.2), up f.number b t b' t' fs h k n.3)

down : (a a' b t : ℕ) (fs : List File) → a' ≤ a → Numbers a b t fs → Numbers a' b t fs
down a a' b t [] h n = tt
down a a' b t (f ∷ fs) h n = (omega (arith, n.0), n.1, n.2, n.3)

numbers_snoc : (a b t : ℕ) (fs : List File) (g : File) → Numbers a b t fs → a ≤ b → b < g.number → g.time ≤ t → Numbers a g.number t (fs ++ g ∷ [])
numbers_snoc a b t [] g n h k l = (omega arith, omega arith, l, tt)
numbers_snoc a b t (f ∷ fs) g n h k l = (n.0, omega (arith, n.1), n.2, numbers_snoc f.number b t fs g n.3 n.1 k l)

numbers_changed : (a b t n : ℕ) (h : File → File) (fs : List File) → ((f : File) → (h f).number ≡ f.number) → ((f : File) → f.time ≤ t → (h f).time ≤ t)
    → Numbers a b t fs → Numbers a b t (changed n h fs)
unfolding changed
numbers_changed a b t n h [] u v k = tt
numbers_changed a b t n h (f ∷ fs) u v k = go (eqb f.number n) (numbers_changed f.number b t n h fs u v k.3)
  where
    go : (x : Bool) → Numbers f.number b t (changed n h fs) → Numbers a b t (cond x (h f) f ∷ changed n h fs)
    go true r =
        let e = u f in
        (omega (arith, k.0), omega (arith, k.1), v f k.2, subst (λ (z : ℕ). Numbers z b t (changed n h fs)) (sym e) r)
    go false r = (k.0, k.1, k.2, r)

numbers_without : (a b t n : ℕ) (fs : List File) → Numbers a b t fs → Numbers a b t (without n fs)
unfolding without
numbers_without a b t n [] k = tt
numbers_without a b t n (f ∷ fs) k = go (eqb f.number n) (numbers_without f.number b t n fs k.3)
  where
    go : (x : Bool) → Numbers f.number b t (without n fs) → Numbers a b t (cond x (without n fs) (f ∷ without n fs))
    go true r = down f.number a b t (without n fs) (omega (arith, k.0)) r
    go false r = (k.0, k.1, k.2, r)

reserved_snoc : (fs : List File) (g : File) → reserved (fs ++ g ∷ []) ≡ reserved fs + blocks_for g.size
unfolding reserved
reserved_snoc [] g = omega arith
reserved_snoc (f ∷ fs) g = let e = reserved_snoc fs g in omega arith

reserved_changed : (n : ℕ) (h : File → File) (fs : List File) → ((f : File) → (h f).size ≡ f.size) → reserved (changed n h fs) ≡ reserved fs
unfolding reserved changed
reserved_changed n h [] u = refl
reserved_changed n h (f ∷ fs) u = ap₂ ◌+◌ (ap blocks_for (go (eqb f.number n))) (reserved_changed n h fs u)
  where
    go : (b : Bool) → (cond b (h f) f).size ≡ f.size
    go true = u f
    go false = refl

reserved_without : (n : ℕ) (fs : List File) → reserved (without n fs) ≤ reserved fs
unfolding reserved without
reserved_without n [] = omega arith
reserved_without n (f ∷ fs) = go (eqb f.number n) (reserved_without n fs)
  where
    go : (b : Bool) → reserved (without n fs) ≤ reserved fs → reserved (cond b (without n fs) (f ∷ without n fs)) ≤ blocks_for f.size + reserved fs
    go true e = omega arith
    go false e = omega arith

-- THEOREM: every change keeps it
pub sound_change : (m : Model) (i : ℕ) (m' : Model) → Sound m → Change m i m' → Sound m'
sound_change m i m' s (same k) = subst Sound (sym k.leaves.after) (record { numbers = s.numbers; room = s.room })
sound_change m i m' s (begins k) =
    let r = reserved_snoc m.files (file (m.last_number + 1) k.size [] 0) in
    subst Sound (sym k.leaves.after)
    (record {
      numbers = numbers_snoc 0 m.last_number m.last_time m.files (file (m.last_number + 1) k.size [] 0) s.numbers (omega arith) (omega arith)
          (omega arith);
      room = omega (arith, s.room, k.room);
    })
sound_change m i m' s (grows k) =
    subst Sound (sym k.leaves.after)
    (record {
      numbers = numbers_changed 0 m.last_number m.last_time k.n (grown k.bytes) m.files (λ f. refl) (λ f h. h) s.numbers;
      room = omega (arith, s.room, reserved_changed k.n (grown k.bytes) m.files (λ f. refl));
    })
sound_change m i m' s (completes k) =
    subst Sound (sym k.leaves.after)
    (record {
      numbers = numbers_changed 0 m.last_number k.t k.n (completed k.t) m.files (λ f. refl) (λ f h. omega arith)
          (up 0 m.last_number m.last_time m.last_number k.t m.files (omega arith) (omega (arith, k.newer)) s.numbers);
      room = omega (arith, s.room, reserved_changed k.n (completed k.t) m.files (λ f. refl));
    })
sound_change m i m' s (drops k) =
    subst Sound (sym k.leaves.after)
    (record {
      numbers = numbers_without 0 m.last_number m.last_time k.n m.files s.numbers;
      room = omega (arith, s.room, reserved_without k.n m.files);
    })

-- THEOREM
pub sound_step : SoundStays
sound_step m c s = sound_change m (session_in c - 1) (step m c).after s (one_change m c)
