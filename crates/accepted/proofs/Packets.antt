-- Each packet does to the files what its reply says, and leaves the session with the number that the reply names. Assumes nothing.
use mathlib.Core.Path.{◌≡◌, refl, sym, ap, ap₂, ◌∙◌, subst}
use mathlib.Core.Bool.{Bool, true, false, cond}
use mathlib.Core.Logic.{◌⊎◌, inl, inr}
use mathlib.Core.List.{List, [], ◌∷◌, ◌++◌}
use mathlib.Core.Option.{Option, none, some}
use Prim.Native.Nat.{ℕ, ◌+◌, ◌≤◌, ◌<◌}
use native.Mathlib.Omega.{arith}
use borrow.Author.Tests.{eqb-true, eqb-false, leb-true, ltb-true, ltb-false, eq-eqb, ne_eqb}
use lib.Dec.{eqb, leb, ltb}
use lib.ListN.{length, get_or, set}
use lib.Seq.{get_or-set_same}
use Rattle.numbers.proofs.NumberLaws.{number_four}
use Rattle.packet.specs.Packet.{packet_of}
use Rattle.packet.specs.Frame.{packet}
use Rattle.header.specs.Header.{verdict}
use Rattle.equation.specs.Answer.{validity_of}
use Rattle.table.specs.Given.{blocks_for, most_given}
use Rattle.session.specs.declared.reply.Reply.{Reply}
use Rattle.session.specs.declared.reply.Reply.TheVariants as reply
use Rattle.session.specs.Reply.{Told, tell}
use Rattle.decide.specs.Words.{word_at}
use Rattle.model.specs.State.{File, file, Uplink, no_upload, receiving, ignoring, Downlink, no_download, sending, ended, aborting, listing, Session}
use Rattle.model.specs.State.{closed_session, with_up, with_down, with_next, with_selection, Model, model, session_at, with_session, Turn, turn, closing}
use Rattle.model.specs.Files.{find, changed, without, free, uploading, selection}
use Rattle.model.specs.Uplink.{upload_new, upload_continued, on_upload_cmd, discarded, grown, data_to, on_data, time_at, completed, data_end_to, on_data_end}
use Rattle.model.specs.Downlink.{destinations_in, download_of, download_numbered, on_download_cmd, fewer_destinations, on_dl_ack_cmd, on_dl_nak_cmd, next_ten}
use Rattle.model.specs.Downlink.{directory_of_one, directory_numbered, on_dir_cmd, on_select_cmd}
use Rattle.model.specs.Step.{if_no_upload, if_no_download, by_type, on_packet}
use Rattle.steps.specs.Parts.{sent_by, type_of}
use Rattle.steps.specs.Sound.{Sound}
use Rattle.steps.specs.Naming.{Partial, UpOk, Named}
use Rattle.steps.proofs.Naming.{clash, find_past, find_new}
use Rattle.accepted.specs.Events.{Event, nothing, given, added, finished, dropped, named_by, on_quiet, on_go, on_sent, on_answer}
use Rattle.accepted.specs.Effect.{files_by, number_by, time_by, Effect}
use Rattle.accepted.specs.Agreement.{number_of}
use Rattle.accepted.proofs.Files.{number_some}

module _ (m : Model) where
  -- no file changes
  pub no_effect : (e : Event) (m' : Model) → e ≡ nothing → m'.files ≡ m.files → m'.last_number ≡ m.last_number → m'.last_time ≡ m.last_time
      → Effect e m m'
  unfolding files_by number_by time_by
  no_effect e m' z f n t = subst (λ (v : Event). Effect v m m') (sym z) (record { before = tt; files = f; number = n; time = t })

  -- session i is another one
  module _ (i : ℕ) (there : i < length m.sessions) (x : Session) where
    left : get_or (set m.sessions i x) i closed_session ≡ x
    left = get_or-set_same m.sessions i x closed_session there

    pub up_left : number_of (get_or (set m.sessions i x) i closed_session).up ≡ number_of x.up
    up_left = ap (λ (k : Session). number_of k.up) left

    pub held_left : (get_or (set m.sessions i x) i closed_session).held ≡ x.held
    held_left = ap (λ (k : Session). k.held) left

-- ---- UL_GO_RESP (4)

-- it names a partial file, by a number of 32 bits, with the length of its bytes as offset; `info` is that of the UPLOAD_CMD
pub record Gone (sent info : List ℕ) (m' : Model) : Type 0 where
  pub number : ℕ
  pub own : Partial number m'.files
  pub number_is : word_at sent 2 ≡ number
  pub offset_is : length own.file.bytes < 4294967296 → word_at sent 6 ≡ length own.file.bytes
  pub asked : (word_at info 0 ≡ 0 → ⊥) → number ≡ word_at info 0

-- whatever else is sent has another type
abbrev pub Offer : Told → List ℕ → Model → Type 0
Offer t info m' = type_of (sent_by t.answer t.out) ≡ 4 → Gone (sent_by t.answer t.out) info m'

-- ---- what a turn of session i does in the state m, its reply being told with so many bytes taken, in this output

pub record Tells (m : Model) (i taken : ℕ) (out : List ℕ) (clock kind : ℕ) (info : List ℕ) (t : Turn) : Type 0 where
  pub effect : Effect
      (on_answer (tell t.reply taken out).answer (tell t.reply taken out).out (number_of (session_at m i).up) (some (packet kind info)) clock)
      m t.after
  pub names : number_of (session_at t.after i).up
      ≡ named_by (tell t.reply taken out).answer (tell t.reply taken out).out (number_of (session_at m i).up)
  pub held : (session_at t.after i).held ≡ []
  pub offer : Offer (tell t.reply taken out) info t.after

module _ (m : Model) (i : ℕ) (there : i < length m.sessions) (clear : (session_at m i).held ≡ []) (s : Named m) (sound : Sound m)
    (bound : m.last_number ≤ most_given) (taken : ℕ) (out : List ℕ) (clock : ℕ) (info : List ℕ) where
  abbrev was : ℕ
  was = number_of (session_at m i).up

  abbrev Ok : ℕ → Turn → Type 0
  Ok kind t = Tells m i taken out clock kind info t

  -- the event, and the number named, by the reply
  abbrev event_on : ℕ → Reply → Event
  event_on kind r = on_answer (tell r taken out).answer (tell r taken out).out was (some (packet kind info)) clock

  abbrev named_on : Reply → ℕ
  named_on r = named_by (tell r taken out).answer (tell r taken out).out was

  by : (kind : ℕ) (b : Bool) (x y : Turn) → (b ≡ true → Ok kind x) → (b ≡ false → Ok kind y) → Ok kind (cond b x y)
  by kind true x y f g = f refl
  by kind false x y f g = g refl

  -- by what it leaves
  leaves : (kind : ℕ) (r : Reply) (n t : ℕ) (fs : List File) (x : Session)
      → Effect (event_on kind r) m (model m n t fs (set m.sessions i x)) → number_of x.up ≡ named_on r → x.held ≡ []
      → Offer (tell r taken out) info (model m n t fs (set m.sessions i x)) → Ok kind (turn r (model m n t fs (set m.sessions i x)))
  leaves kind r n t fs x e u h g = record { effect = e; names = up_left m i there x ∙ u; held = held_left m i there x ∙ h; offer = g }

  -- ---- turns that change no file

  -- a reply that says nothing of files
  record Plain (kind : ℕ) (r : Reply) : Type 0 where
    event : event_on kind r ≡ nothing
    named : named_on r ≡ was
    offer : (m' : Model) → Offer (tell r taken out) info m'

  stays : (kind : ℕ) (r : Reply) → Plain kind r → Ok kind (turn r m)
  stays kind r p = record { effect = no_effect m _ m p.event refl refl refl; names = sym p.named; held = clear; offer = p.offer m }

  moves : (kind : ℕ) (r : Reply) (x : Session) → Plain kind r → x.up ≡ (session_at m i).up → x.held ≡ (session_at m i).held
      → Ok kind (turn r (with_session m i x))
  moves kind r x p u h =
      leaves kind r m.last_number m.last_time m.files x (no_effect m _ (with_session m i x) p.event refl refl refl) (ap number_of u ∙ sym p.named)
      (h ∙ clear) (p.offer (with_session m i x))

  closes : (kind : ℕ) → Ok kind (closing m i)
  unfolding tell on_answer on_sent named_by packet_of sent_by
  closes kind =
      leaves kind reply.Closing m.last_number m.last_time m.files closed_session
      (no_effect m nothing (with_session m i closed_session) refl refl refl refl) refl refl (λ e. absurd (omega (arith, e)))

  -- ---- UPLOAD_CMD

  error : (e : ℕ) → Ok 3 (turn (reply.UploadError e) m)
  unfolding tell on_answer on_sent named_by packet_of sent_by
  error e = stays 3 (reply.UploadError e) (record { event = refl; named = refl; offer = λ m' e. absurd (omega (arith, e)) })

  -- a new file
  abbrev next : ℕ
  next = m.last_number + 1

  abbrev fresh : File
  fresh = file next (word_at info 4) [] 0

  abbrev begun : Model
  begun = model m next m.last_time (m.files ++ fresh ∷ []) (set m.sessions i (with_up (receiving next) (session_at m i)))

  begins : word_at info 0 ≡ 0 → (m.last_number ≡ most_given → ⊥) → length m.files < m.places → blocks_for (word_at info 4) ≤ free m
      → Ok 3 (turn (reply.Go next 0) begun)
  unfolding tell on_answer on_sent named_by packet_of sent_by on_go files_by number_by time_by
  begins z p q r =
      let word = number_four next (omega (arith, bound, p)) in
      leaves 3 (reply.Go next 0) next m.last_time (m.files ++ fresh ∷ []) (with_up (receiving next) (session_at m i))
      (subst (λ (e : Event). Effect e m begun)
      (sym (ap₂ (λ (b : Bool) (k : ℕ). cond b (given k (word_at info 4)) nothing) (eq-eqb (word_at info 0) 0 z) word))
      (record { before = record { next = refl; few = omega (arith, bound, p); place = q; room = r }; files = refl; number = refl; time = refl }))
      (sym word) clear
      (λ four.
      record {
        number = next;
        own = record {
          file = fresh;
          found = find_new m.files fresh (find_past next 0 m.last_number m.last_time m.files sound.numbers (omega arith));
          time = refl;
        };
        number_is = word;
        offset_is = λ h. number_four 0 h;
        asked = λ y. absurd (y z);
      })

  new_tells : word_at info 0 ≡ 0 → Ok 3 (upload_new m i (word_at info 4))
  unfolding upload_new
  new_tells z =
      by 3 (eqb m.last_number most_given) _ _ (λ _. error 3)
      (λ p.
      by 3 (ltb (length m.files) m.places) _ _
      (λ q.
      by 3 (leb (blocks_for (word_at info 4)) (free m)) _ _
      (λ r. begins z (eqb-false m.last_number most_given p) (ltb-true (length m.files) m.places q) (leb-true (blocks_for (word_at info 4)) (free m) r))
      (λ _. error 13))
      (λ _. error 13))

  taken_up : (n : ℕ) (f : File) → (word_at info 0 ≡ 0 → ⊥) → n ≡ word_at info 0 → find n m.files ≡ some f → f.time ≡ 0
      → Ok 3 (turn (reply.Go n (length f.bytes)) (with_session m i (with_up (receiving n) (session_at m i))))
  unfolding tell on_answer on_sent named_by packet_of sent_by on_go
  taken_up n f z e found t =
      let word = number_four n (omega (arith, bound, (number_some n 0 m.last_number m.last_time m.files f sound.numbers found).most)) in
      leaves 3 (reply.Go n (length f.bytes)) m.last_number m.last_time m.files (with_up (receiving n) (session_at m i))
      (no_effect m _ (with_session m i (with_up (receiving n) (session_at m i))) (rw (ne_eqb (word_at info 0) 0 z)) refl refl refl) (sym word) clear
      (λ four.
      record {
        number = n;
        own = record { file = f; found = found; time = t };
        number_is = word;
        offset_is = λ h. number_four (length f.bytes) h;
        asked = λ y. e;
      })

  upload_tells : Ok 3 (on_upload_cmd m i info)
  unfolding on_upload_cmd upload_continued
  upload_tells =
      by 3 (eqb (length info) 8) _ _
      (λ _.
      by 3 (eqb (word_at info 0) 0) _ _ (λ z. new_tells (eqb-true (word_at info 0) 0 z))
      (λ z. go (eqb-false (word_at info 0) 0 z) (find (word_at info 0) m.files) refl))
      (λ _. error 1)
    where
      go : (word_at info 0 ≡ 0 → ⊥) → (f : Option File) → find (word_at info 0) m.files ≡ f
          → Ok 3 (upload_continued f m i (word_at info 0) (word_at info 4))
      go z none e = error 4
      go z (some f) e =
          by 3 (eqb f.time 0) _ _
          (λ t.
          by 3 (eqb f.size (word_at info 4)) _ _
          (λ _.
          by 3 (uploading m.sessions (word_at info 0)) _ _ (λ _. error 2)
          (λ _. taken_up (word_at info 0) f z refl e (eqb-true f.time 0 t)))
          (λ _. error 2))
          (λ _. error 12)

  -- ---- DATA and DATA_END: the session uploads file n, which is there

  module _ (n : ℕ) (up : (session_at m i).up ≡ receiving n) where
    abbrev own : Partial n m.files
    own = subst (UpOk m.files) up (s.up i)

    was_is : was ≡ n
    was_is = ap number_of up

    not_0 : eqb n 0 ≡ false
    not_0 = ne_eqb n 0 (λ z. omega (arith, (number_some n 0 m.last_number m.last_time m.files own.file sound.numbers own.found).above))

    file_is : (f : File) → find n m.files ≡ some f → f.time ≡ 0
    file_is f e = let z : some f ≡ some own.file = sym e ∙ own.found in let w : f ≡ own.file = cc in ap (λ (g : File). g.time) w ∙ own.time

    drops : (kind e : ℕ) (u : Uplink) → number_of u ≡ 0 → Ok kind (turn (reply.Nak e) (discarded i n u m))
    unfolding tell on_answer on_sent named_by packet_of sent_by files_by number_by time_by
    drops kind e u z =
        leaves kind (reply.Nak e) m.last_number m.last_time (without n m.files) (with_up u (session_at m i))
        (subst (λ (k : ℕ). Effect (dropped k) m (discarded i n u m)) (sym was_is) (record { before = own; files = refl; number = refl; time = refl }))
        z clear (λ four. absurd (omega (arith, four)))

    abbrev longer : Model
    longer = model m m.last_number m.last_time (changed n (grown info) m.files) m.sessions

    grows : (f : File) → find n m.files ≡ some f → length f.bytes + length info ≤ f.size → Ok 0 (turn reply.Nothing longer)
    unfolding tell on_answer named_by sent_by on_quiet files_by number_by time_by
    grows f e q =
        record {
          effect = subst (λ (v : Event). Effect v m longer)
              (sym (ap (λ (k : ℕ). cond (eqb k 0) nothing (added k info)) was_is ∙ ap (λ (b : Bool). cond b nothing (added n info)) not_0))
              (record {
                before = record { own = record { file = f; found = e; time = file_is f e }; room = q };
                files = refl;
                number = refl;
                time = refl;
              });
          names = refl;
          held = clear;
          offer = λ four. absurd (omega (arith, four));
        }

    data_tells : Ok 0 (data_to (find n m.files) m i n info)
    unfolding data_to
    data_tells = go (find n m.files) refl
      where
        go : (f : Option File) → find n m.files ≡ f → Ok 0 (data_to f m i n info)
        go none e = clash (sym e ∙ own.found)
        go (some f) e =
            by 0 (ltb f.size (length f.bytes + length info)) _ _ (λ _. drops 0 16 ignoring refl)
            (λ q. grows f e (ltb-false f.size (length f.bytes + length info) q))

    abbrev whole : Model
    whole =
        model m m.last_number (time_at clock m.last_time) (changed n (completed (time_at clock m.last_time)) m.files)
        (set m.sessions i (with_up no_upload (session_at m i)))

    finishes : (kind : ℕ) (f : File) → find n m.files ≡ some f → verdict f.bytes f.size ≡ 0 → Ok kind (turn reply.Ack whole)
    unfolding tell on_answer on_sent named_by packet_of sent_by files_by number_by time_by
    finishes kind f e v =
        leaves kind reply.Ack m.last_number (time_at clock m.last_time) (changed n (completed (time_at clock m.last_time)) m.files)
        (with_up no_upload (session_at m i))
        (subst (λ (k : ℕ). Effect (finished k clock) m whole) (sym was_is)
        (record {
          before = record { own = record { file = f; found = e; time = file_is f e }; valid = v };
          files = refl;
          number = refl;
          time = refl;
        }))
        refl clear (λ four. absurd (omega (arith, four)))

    end_tells : (kind : ℕ) → Ok kind (data_end_to (find n m.files) m i n clock)
    unfolding data_end_to
    end_tells kind = go (find n m.files) refl
      where
        go : (f : Option File) → find n m.files ≡ f → Ok kind (data_end_to f m i n clock)
        go none e = clash (sym e ∙ own.found)
        go (some f) e =
            by kind (eqb (verdict f.bytes f.size) 0) _ _
            (λ v.
            by kind (eqb m.last_time most_given) _ _ (λ _. drops kind 3 no_upload refl)
            (λ _. finishes kind f e (eqb-true (verdict f.bytes f.size) 0 v)))
            (λ _. drops kind (verdict f.bytes f.size) no_upload refl)

  on_data_law : (u : Uplink) → (session_at m i).up ≡ u → Ok 0 (on_data u m i info)
  unfolding on_data tell on_answer named_by sent_by on_quiet
  on_data_law no_upload e = closes 0
  on_data_law (receiving n) e = data_tells n e
  on_data_law ignoring e = stays 0 reply.Nothing (record { event = rw e; named = refl; offer = λ m' d. absurd (omega (arith, d)) })

  on_data_end_law : (u : Uplink) → (session_at m i).up ≡ u → Ok 1 (on_data_end u m i clock)
  unfolding on_data_end tell on_answer named_by sent_by on_quiet
  on_data_end_law no_upload e = closes 1
  on_data_end_law (receiving n) e = end_tells n e 1
  on_data_end_law ignoring e =
      leaves 1 reply.Nothing m.last_number m.last_time m.files (with_up no_upload (session_at m i))
      (no_effect m _ (with_session m i (with_up no_upload (session_at m i))) refl refl refl refl) (sym (ap number_of e)) clear
      (λ four. absurd (omega (arith, four)))

  -- ---- the other packets

  module _ (kind : ℕ) (other : eqb kind 0 ≡ false) where
    silent : Plain kind reply.Nothing
    unfolding tell on_answer named_by sent_by on_quiet
    silent = record { event = rw other; named = refl; offer = λ m' e. absurd (omega (arith, e)) }

    refuses : (e : ℕ) → Ok kind (turn (reply.DownloadError e) m)
    unfolding tell on_answer on_sent named_by packet_of sent_by
    refuses e = stays kind (reply.DownloadError e) (record { event = refl; named = refl; offer = λ m' e. absurd (omega (arith, e)) })

    file_tells : (f : Option File) (n offset lock passed : ℕ) → Ok kind (download_of f m i n offset lock passed)
    unfolding download_of
    file_tells none n offset lock passed = refuses 4
    file_tells (some f) n offset lock passed =
        by kind (eqb f.time 0) _ _ (λ _. refuses 11)
        (λ _.
        by kind (ltb (length f.bytes) offset) _ _ (λ _. refuses 2)
        (λ _.
        by kind (ltb (destinations_in f.bytes) lock) _ _ (λ _. refuses 10)
        (λ _. moves kind reply.Nothing (with_down (sending n offset) (with_next passed (session_at m i))) silent refl refl)))

    download_tells : (k : Session) → Ok kind (on_download_cmd m i k info)
    unfolding on_download_cmd download_numbered
    download_tells k =
        by kind (eqb (length info) 9) _ _
        (λ _.
        by kind (eqb (word_at info 0) 0) _ _
        (λ _. by kind (ltb k.next (length k.selected)) _ _ (λ _. file_tells _ _ _ _ _) (λ _. refuses 5))
        (λ _. file_tells _ _ _ _ _))
        (λ _. refuses 1)

    aborts : (r : Reply) → (r ≡ reply.Aborted) ⊎ (r ≡ reply.Completed) → Plain kind r
    unfolding tell on_answer on_sent named_by packet_of sent_by
    aborts r (inl e) = subst (Plain kind) (sym e) (record { event = refl; named = refl; offer = λ m' e. absurd (omega (arith, e)) })
    aborts r (inr e) = subst (Plain kind) (sym e) (record { event = refl; named = refl; offer = λ m' e. absurd (omega (arith, e)) })

    one_of : (a b : Bool) → (cond a (cond b reply.Aborted reply.Completed) reply.Aborted ≡ reply.Aborted)
        ⊎ (cond a (cond b reply.Aborted reply.Completed) reply.Aborted ≡ reply.Completed)
    one_of true true = inl refl
    one_of true false = inr refl
    one_of false b = inl refl

    ack_tells : (d : Downlink) → Ok kind (on_dl_ack_cmd d m i info)
    unfolding on_dl_ack_cmd
    ack_tells no_download = closes kind
    ack_tells (sending n at) = closes kind
    ack_tells (ended n) =
        moves kind _ (with_down no_download (session_at m i))
        (aborts _ (one_of (eqb (length info) 1) (fewer_destinations (find n m.files) (get_or info 0 0)))) refl refl
    ack_tells (aborting n) = closes kind
    ack_tells (listing long ns at) = closes kind

    ends : Plain kind reply.DataEnd
    unfolding tell on_answer on_sent named_by packet_of sent_by
    ends = record { event = refl; named = refl; offer = λ m' e. absurd (omega (arith, e)) }

    nak_tells : (d : Downlink) → Ok kind (on_dl_nak_cmd d m i)
    unfolding on_dl_nak_cmd
    nak_tells no_download = stays kind reply.Nothing silent
    nak_tells (sending n at) = moves kind reply.DataEnd (with_down (aborting n) (session_at m i)) ends refl refl
    nak_tells (ended n) = moves kind reply.Aborted (with_down no_download (session_at m i)) (aborts reply.Aborted (inl refl)) refl refl
    nak_tells (aborting n) = closes kind
    nak_tells (listing long ns at) = moves kind reply.DataEnd (with_down no_download (session_at m i)) ends refl refl

    one_tells : (f : Option File) (long : Bool) (n : ℕ) → Ok kind (directory_of_one f m i long n)
    unfolding directory_of_one
    one_tells none long n = refuses 4
    one_tells (some f) long n =
        let x = with_down (listing long (n ∷ []) 0) (session_at m i) in
        by kind (eqb f.time 0) _ _ (λ _. refuses 11) (λ _. moves kind reply.Nothing x silent refl refl)

    directory_tells : (long : Bool) (k : Session) → Ok kind (on_dir_cmd long m i k info)
    unfolding on_dir_cmd directory_numbered
    directory_tells long k =
        let x = with_down (listing long (next_ten k) 0) (with_next (k.next + length (next_ten k)) (session_at m i)) in
        by kind (eqb (length info) 4) _ _
        (λ _.
        by kind (eqb (word_at info 0) 0) _ _
        (λ _. by kind (ltb k.next (length k.selected)) _ _ (λ _. moves kind reply.Nothing x silent refl refl) (λ _. refuses 5))
        (λ _. one_tells _ long _))
        (λ _. refuses 1)

    select_tells : Ok kind (on_select_cmd m i info)
    unfolding on_select_cmd tell on_answer on_sent named_by packet_of sent_by
    select_tells =
        by kind (eqb (validity_of info) 0) _ _
        (λ _.
        moves kind (reply.Selected (length (selection m.maxsel info m.files))) (with_selection (selection m.maxsel info m.files) (session_at m i))
        (record { event = refl; named = refl; offer = λ m' e. absurd (omega (arith, e)) }) refl refl)
        (λ _. refuses 8)

    if_no_download_law : (d : Downlink) (x : Turn) → Ok kind x → Ok kind (if_no_download d x (closing m i))
    if_no_download_law no_download x f = f
    if_no_download_law (sending n offset) x f = closes kind
    if_no_download_law (ended n) x f = closes kind
    if_no_download_law (aborting n) x f = closes kind
    if_no_download_law (listing long ns at) x f = closes kind

  if_no_upload_law : (u : Uplink) (x : Turn) → Ok 3 x → Ok 3 (if_no_upload u x (closing m i))
  if_no_upload_law no_upload x f = f
  if_no_upload_law (receiving n) x f = closes 3
  if_no_upload_law ignoring x f = closes 3

  typed : (kind k : ℕ) (x : Turn) → eqb kind k ≡ true → Ok k x → Ok kind x
  typed kind k x e o = subst (λ (j : ℕ). Ok j x) (sym (eqb-true kind k e)) o

  -- THEOREM
  pub packet_tells : (kind : ℕ) → Ok kind (on_packet m i clock kind info)
  unfolding by_type
  packet_tells kind =
      let d = (session_at m i).down in
      by kind (eqb kind 0) _ _ (λ e. typed kind 0 _ e (on_data_law (session_at m i).up refl))
      (λ z.
      by kind (eqb kind 1) _ _
      (λ e. typed kind 1 _ e (by 1 (eqb (length info) 0) _ _ (λ _. on_data_end_law (session_at m i).up refl) (λ _. closes 1)))
      (λ _.
      by kind (eqb kind 3) _ _ (λ e. typed kind 3 _ e (if_no_upload_law (session_at m i).up _ upload_tells))
      (λ _.
      by kind (eqb kind 8) _ _ (λ _. if_no_download_law kind z d _ (download_tells kind z (session_at m i)))
      (λ _.
      by kind (eqb kind 12) _ _ (λ _. ack_tells kind z d)
      (λ _.
      by kind (eqb kind 13) _ _ (λ _. by kind (eqb (length info) 0) _ _ (λ _. nak_tells kind z d) (λ _. closes kind))
      (λ _.
      by kind (eqb kind 14) _ _ (λ _. if_no_download_law kind z d _ (directory_tells kind z false (session_at m i)))
      (λ _.
      by kind (eqb kind 15) _ _ (λ _. if_no_download_law kind z d _ (directory_tells kind z true (session_at m i)))
      (λ _. by kind (eqb kind 16) _ _ (λ _. if_no_download_law kind z d _ (select_tells kind z)) (λ _. closes kind)))))))))
