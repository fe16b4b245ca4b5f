-- After every step what the sessions name is there. Assumes nothing.
use mathlib.Core.Path.{◌≡◌, refl, sym, ap, ap₂, ◌∙◌, subst}
use mathlib.Core.Bool.{Bool, true, false, cond}
use mathlib.Core.Logic.{◌⊎◌, inl, inr}
use mathlib.Core.List.{List, [], ◌∷◌, ◌++◌}
use mathlib.Core.Option.{Option, none, some}
use Prim.Native.Nat.{ℕ, zero, suc, ◌+◌, ◌-◌, ◌<◌}
use native.Mathlib.Omega.{arith}
use borrow.Author.Tests.{eqb-true, eqb-false, eq-eqb, ne_eqb}
use lib.Dec.{eqb, leb, ltb}
use lib.ListN.{length, get_or, set, drop, length-set}
use lib.Seq.{get_or-set_same, get_or-set_other, set-get_or}
use Rattle.packet.specs.Frame.{Event, packet, too_long}
use Rattle.header.specs.Header.{verdict}
use Rattle.equation.specs.Answer.{validity_of}
use Rattle.table.specs.Given.{blocks_for, most_given}
use Rattle.model.specs.State.{File, file, Uplink, no_upload, receiving, ignoring, Downlink, no_download, sending, ended, aborting, listing, Session}
use Rattle.model.specs.State.{closed_session, fresh_session, with_up, with_down, with_selection, with_next, with_held, Model, model, session_at, with_session}
use Rattle.model.specs.State.{in_session, Turn, Stepped, stepped, lost}
use Rattle.model.specs.Files.{find, changed, without, free, receives, uploading, selection}
use Rattle.model.specs.Uplink.{upload_new, upload_continued, on_upload_cmd, discarded, grown, data_to, on_data, time_at, completed, data_end_to}
use Rattle.model.specs.Uplink.{on_data_end}
use Rattle.model.specs.Downlink.{destinations_in, download_of, download_numbered, on_download_cmd, data_due, directory_of, listing_due, on_request}
use Rattle.model.specs.Downlink.{on_dl_ack_cmd, on_dl_nak_cmd, next_ten, directory_of_one, directory_numbered, on_dir_cmd, on_select_cmd}
use Rattle.calls.specs.Call.{Call, login, receive, request, lose}
use Rattle.model.specs.Step.{if_no_upload, if_no_download, by_type, on_packet, ends_in, on_event, refusal, unless, step}
use Rattle.decide.specs.Words.{word_at}
use Rattle.session.specs.declared.reply.Answer.TheVariants as answer
use Rattle.session.specs.Reply.{told}
use Rattle.steps.proofs.Cutting.{session_there}
use Rattle.steps.proofs.Found.{all_stay, all_take, all_drop, selection_complete}
use Rattle.steps.specs.Sound.{Numbers, Sound}
use Rattle.steps.specs.Naming.{Partial, Complete, AllComplete, UpOk, DownOk, Named, NamedStays}

-- ---- one session moves

pub clash : {P : Type 0} {f : File} → none ≡ some f → P
clash e = let z : ◌≡◌ {A = ℕ} 0 1 = cc in absurd (omega arith)

pub by_eq : {P : Type 0} (a b : ℕ) → (a ≡ b → P) → ((a ≡ b → ⊥) → P) → P
by_eq {P} a b f g = go (eqb a b) refl
  where
    go : (t : Bool) → eqb a b ≡ t → P
    go true e = f (eqb-true a b e)
    go false e = g (eqb-false a b e)

-- The files are others, and session i is x. What the others name is still there, and none of them uploads what x does.
module _ (m : Model) (number time : ℕ) (fs : List File) (i : ℕ) (x : Session) (there : i < length m.sessions) (s : Named m) where
  abbrev m' : Model
  m' = model m number time fs (set m.sessions i x)

  here : session_at m' i ≡ x
  here = get_or-set_same m.sessions i x closed_session there

  away : (j : ℕ) → (j ≡ i → ⊥) → session_at m' j ≡ session_at m j
  away j n = get_or-set_other m.sessions i j x closed_session n

  pub named_after : ((j : ℕ) → (j ≡ i → ⊥) → UpOk fs (session_at m j).up) → ((j : ℕ) → (j ≡ i → ⊥) → DownOk fs (session_at m j).down)
      → ((j : ℕ) → (j ≡ i → ⊥) → AllComplete fs (session_at m j).selected)
      → UpOk fs x.up → DownOk fs x.down → AllComplete fs x.selected
      → ((n : ℕ) → x.up ≡ receiving n → (j : ℕ) → (j ≡ i → ⊥) → (session_at m j).up ≡ receiving n → ⊥)
      → Named m'
  named_after ups downs lists u d l apart =
      record {
        up = λ j. by_eq j i (λ z. subst (λ (k : Session). UpOk fs k.up) (sym (ap (λ (k : ℕ). session_at m' k) z ∙ here)) u)
            (λ z. subst (λ (k : Session). UpOk fs k.up) (sym (away j z)) (ups j z));
        down = λ j. by_eq j i (λ z. subst (λ (k : Session). DownOk fs k.down) (sym (ap (λ (k : ℕ). session_at m' k) z ∙ here)) d)
            (λ z. subst (λ (k : Session). DownOk fs k.down) (sym (away j z)) (downs j z));
        selected = λ j. by_eq j i (λ z. subst (λ (k : Session). AllComplete fs k.selected) (sym (ap (λ (k : ℕ). session_at m' k) z ∙ here)) l)
            (λ z. subst (λ (k : Session). AllComplete fs k.selected) (sym (away j z)) (lists j z));
        alone = λ j k n a b.
            by_eq j i
            (λ z. by_eq k i (λ w. z ∙ sym w)
            (λ w. absurd (apart n (ap (λ (y : Session). y.up) (sym (ap (λ (r : ℕ). session_at m' r) z ∙ here)) ∙ a) k w (ap (λ (y : Session). y.up) (sym (away k w)) ∙ b))))
            (λ z. by_eq k i
            (λ w. absurd (apart n (ap (λ (y : Session). y.up) (sym (ap (λ (r : ℕ). session_at m' r) w ∙ here)) ∙ b) j z (ap (λ (y : Session). y.up) (sym (away j z)) ∙ a)))
            (λ w. s.alone j k n (ap (λ (y : Session). y.up) (sym (away j z)) ∙ a) (ap (λ (y : Session). y.up) (sym (away k w)) ∙ b)));
      }

-- ---- finding in other files

pub find_changed : (n k : ℕ) (h : File → File) (fs : List File) (f : File) → ((g : File) → (h g).number ≡ g.number) → find n fs ≡ some f
    → find n (changed k h fs) ≡ some (cond (eqb n k) (h f) f)
unfolding find changed
find_changed n k h [] f u e = clash e
find_changed n k h (x ∷ fs) f u e = go (eqb x.number n) refl e (find_changed n k h fs f u)
  where
    go : (b : Bool) → eqb x.number n ≡ b → cond b (some x) (find n fs) ≡ some f → (find n fs ≡ some f → find n (changed k h fs) ≡ some (cond (eqb n k) (h f) f))
        → cond (eqb (cond (eqb x.number k) (h x) x).number n) (some (cond (eqb x.number k) (h x) x)) (find n (changed k h fs))
        ≡ some (cond (eqb n k) (h f) f)
    go true d e ih =
        let z : x ≡ f = cc in
        let q = eqb-true x.number n d in
        rw (same (eqb x.number k), d) (ap₂ (λ (b : Bool) (y : File). some (cond b (h y) y)) (ap (λ (r : ℕ). eqb r k) q) z)
      where
        same : (b : Bool) → (cond b (h x) x).number ≡ x.number
        same true = u x
        same false = refl
    go false d e ih = rw (same (eqb x.number k), d) (ih e)
      where
        same : (b : Bool) → (cond b (h x) x).number ≡ x.number
        same true = u x
        same false = refl

pub find_without : (n k : ℕ) (fs : List File) → (n ≡ k → ⊥) → find n (without k fs) ≡ find n fs
unfolding find without
find_without n k [] z = refl
find_without n k (x ∷ fs) z = go (eqb x.number k) refl (find_without n k fs z)
  where
    go : (b : Bool) → eqb x.number k ≡ b → find n (without k fs) ≡ find n fs
        → find n (cond b (without k fs) (x ∷ without k fs)) ≡ cond (eqb x.number n) (some x) (find n fs)
    go true d e = rw (ne_eqb x.number n (λ w. z (sym w ∙ eqb-true x.number k d))) e
    go false d e = ap (cond (eqb x.number n) (some x)) e

pub find_snoc : (n : ℕ) (fs : List File) (g f : File) → find n fs ≡ some f → find n (fs ++ g ∷ []) ≡ some f
unfolding find
find_snoc n [] g f e = clash e
find_snoc n (x ∷ fs) g f e = go (eqb x.number n) e (find_snoc n fs g f)
  where
    go : (b : Bool) → cond b (some x) (find n fs) ≡ some f → (find n fs ≡ some f → find n (fs ++ g ∷ []) ≡ some f) → cond b (some x) (find n (fs ++ g ∷ [])) ≡ some f
    go true e h = e
    go false e h = h e

pub find_past : (n a b t : ℕ) (fs : List File) → Numbers a b t fs → b < n → find n fs ≡ none
unfolding find
find_past n a b t [] k h = refl
find_past n a b t (x ∷ fs) k h = rw (ne_eqb x.number n (λ z. let w = k.1 in omega arith)) (find_past n x.number b t fs k.3 h)

pub find_new : (fs : List File) (g : File) → find g.number fs ≡ none → find g.number (fs ++ g ∷ []) ≡ some g
unfolding find
find_new [] g e = rw (eq-eqb g.number g.number refl)
find_new (x ∷ fs) g e = go (eqb x.number g.number) e (find_new fs g)
  where
    go : (b : Bool) → cond b (some x) (find g.number fs) ≡ none → (find g.number fs ≡ none → find g.number (fs ++ g ∷ []) ≡ some g)
        → cond b (some x) (find g.number (fs ++ g ∷ [])) ≡ some g
    go true e h = clash (sym e)
    go false e h = h e

-- ---- what is named stays there

module _ (fs gs : List File) where
  up_stays : (u : Uplink) → ((n : ℕ) → u ≡ receiving n → Partial n fs → Partial n gs) → UpOk fs u → UpOk gs u
  up_stays no_upload h o = o
  up_stays (receiving n) h o = h n refl o
  up_stays ignoring h o = o

  down_stays : (d : Downlink) → ((n : ℕ) → Complete n fs → Complete n gs) → DownOk fs d → DownOk gs d
  down_stays no_download h o = o
  down_stays (sending n at) h o = h n o
  down_stays (ended n) h o = h n o
  down_stays (aborting n) h o = h n o
  down_stays (listing long ns at) h o = all_stay fs gs h ns o

pub not_both : {P : Type 0} (n : ℕ) (fs : List File) → Partial n fs → Complete n fs → P
not_both n fs p c =
    let z : some p.file ≡ some c.file = sym p.found ∙ c.found in
    let e : p.file ≡ c.file = cc in
    absurd (c.time (ap (λ (f : File). f.time) (sym e) ∙ p.time))

-- ---- the packets

module _ (m : Model) (i : ℕ) (there : i < length m.sessions) (s : Named m) where
  abbrev k : Session
  k = session_at m i

  -- the session's own downlink and selection move, its upload does not
  pub down_moves : (x : Session) → x.up ≡ (session_at m i).up → DownOk m.files x.down → AllComplete m.files x.selected → Named (with_session m i x)
  down_moves x e d l =
      named_after m m.last_number m.last_time m.files i x there s (λ j n. s.up j) (λ j n. s.down j) (λ j n. s.selected j)
      (subst (UpOk m.files) (sym e) (s.up i)) d l (λ n a j z b. z (s.alone j i n b (sym e ∙ a)))

  -- its upload ends
  up_ends : (x : Session) → ((n : ℕ) → x.up ≡ receiving n → ⊥) → UpOk m.files x.up → DownOk m.files x.down → AllComplete m.files x.selected
      → Named (with_session m i x)
  up_ends x e u d l =
      named_after m m.last_number m.last_time m.files i x there s (λ j n. s.up j) (λ j n. s.down j) (λ j n. s.selected j) u d l (λ n a j z b. e n a)

  -- the file that it uploads is no more
  drops : (n : ℕ) (x : Session) → (session_at m i).up ≡ receiving n → ((r : ℕ) → x.up ≡ receiving r → ⊥) → UpOk (without n m.files) x.up → x.down ≡ (session_at m i).down
      → x.selected ≡ (session_at m i).selected
      → Named (model m m.last_number m.last_time (without n m.files) (set m.sessions i x))
  drops n x e o u d l =
      named_after m m.last_number m.last_time (without n m.files) i x there s
      (λ j z. up_stays m.files (without n m.files) (session_at m j).up
      (λ r a p. let w = find_without r n m.files (λ y. z (s.alone j i n (a ∙ ap receiving y) e)) in record { file = p.file; found = w ∙ p.found; time = p.time })
      (s.up j))
      (λ j z. whole (session_at m j).down (s.down j)) (λ j z. all (session_at m j).selected (s.selected j)) u
      (subst (DownOk (without n m.files)) (sym d) (whole (session_at m i).down (s.down i)))
      (subst (AllComplete (without n m.files)) (sym l) (all (session_at m i).selected (s.selected i)))
      (λ r a j z b. o r a)
    where
      partial : Partial n m.files
      partial = subst (UpOk m.files) e (s.up i)

      one : (r : ℕ) → Complete r m.files → Complete r (without n m.files)
      one r c =
          by_eq r n (λ y. not_both n m.files partial (subst (λ (q : ℕ). Complete q m.files) y c))
          (λ y. record { file = c.file; found = find_without r n m.files y ∙ c.found; time = c.time })

      whole : (d : Downlink) → DownOk m.files d → DownOk (without n m.files) d
      whole d h = down_stays m.files (without n m.files) d one h

      all : (ns : List ℕ) → AllComplete m.files ns → AllComplete (without n m.files) ns
      all ns h = all_stay m.files (without n m.files) one ns h

  -- the file that it uploads is another one, with the same number; x is the session then
  changes : (n : ℕ) (h : File → File) (time : ℕ) (x : Session) → (session_at m i).up ≡ receiving n → ((g : File) → (h g).number ≡ g.number)
      → UpOk (changed n h m.files) x.up → x.down ≡ (session_at m i).down → x.selected ≡ (session_at m i).selected
      → ((r : ℕ) → x.up ≡ receiving r → r ≡ n)
      → Named (model m m.last_number time (changed n h m.files) (set m.sessions i x))
  changes n h time x e v u d l r =
      named_after m m.last_number time (changed n h m.files) i x there s
      (λ j z. up_stays m.files (changed n h m.files) (session_at m j).up
      (λ q a p. other q (λ y. z (s.alone j i n (a ∙ ap receiving y) e)) p) (s.up j))
      (λ j z. whole (session_at m j).down (s.down j)) (λ j z. all (session_at m j).selected (s.selected j)) u
      (subst (DownOk (changed n h m.files)) (sym d) (whole (session_at m i).down (s.down i)))
      (subst (AllComplete (changed n h m.files)) (sym l) (all (session_at m i).selected (s.selected i)))
      (λ q a j z b. z (s.alone j i n (b ∙ ap receiving (r q a)) e))
    where
      partial : Partial n m.files
      partial = subst (UpOk m.files) e (s.up i)

      away : (q : ℕ) (f : File) → (q ≡ n → ⊥) → find q m.files ≡ some f → find q (changed n h m.files) ≡ some f
      away q f y w = find_changed q n h m.files f v w ∙ ap (λ (b : Bool). some (cond b (h f) f)) (ne_eqb q n y)

      other : (q : ℕ) → (q ≡ n → ⊥) → Partial q m.files → Partial q (changed n h m.files)
      other q y p = record { file = p.file; found = away q p.file y p.found; time = p.time }

      one : (q : ℕ) → Complete q m.files → Complete q (changed n h m.files)
      one q c =
          by_eq q n (λ y. not_both n m.files partial (subst (λ (z : ℕ). Complete z m.files) y c))
          (λ y. record { file = c.file; found = away q c.file y c.found; time = c.time })

      whole : (d : Downlink) → DownOk m.files d → DownOk (changed n h m.files) d
      whole d o = down_stays m.files (changed n h m.files) d one o

      all : (ns : List ℕ) → AllComplete m.files ns → AllComplete (changed n h m.files) ns
      all ns o = all_stay m.files (changed n h m.files) one ns o

  -- nobody uploads the file: it is taken up
  takes_up : (n : ℕ) → Partial n m.files → ((j : ℕ) → (session_at m j).up ≡ receiving n → ⊥) → Named (with_session m i (with_up (receiving n) k))
  takes_up n p free =
      named_after m m.last_number m.last_time m.files i (with_up (receiving n) k) there s (λ j z. s.up j) (λ j z. s.down j) (λ j z. s.selected j)
      p (s.down i) (s.selected i)
      (λ r a j z b. let w : n ≡ r = cc in free j (b ∙ ap receiving (sym w)))

  -- a new file, whose number is above all
  begins : (size : ℕ) → Numbers 0 m.last_number m.last_time m.files
      → Named (model m (m.last_number + 1) m.last_time (m.files ++ file (m.last_number + 1) size [] 0 ∷ []) (set m.sessions i (with_up (receiving (m.last_number + 1)) k)))
  begins size ns =
      named_after m (m.last_number + 1) m.last_time (m.files ++ file (m.last_number + 1) size [] 0 ∷ []) i (with_up (receiving (m.last_number + 1)) k) there s
      (λ j z. up_stays m.files (m.files ++ file (m.last_number + 1) size [] 0 ∷ []) (session_at m j).up
      (λ r a p. record { file = p.file; found = find_snoc r m.files (file (m.last_number + 1) size [] 0) p.file p.found; time = p.time }) (s.up j))
      (λ j z. still (session_at m j).down (s.down j)) (λ j z. all (session_at m j).selected (s.selected j))
      (record { file = file (m.last_number + 1) size [] 0; found = find_new m.files (file (m.last_number + 1) size [] 0) past; time = refl })
      (still k.down (s.down i)) (all k.selected (s.selected i))
      (λ r a j z b. let w : m.last_number + 1 ≡ r = cc in nobody j (b ∙ ap receiving (sym w)))
    where
      past : find (m.last_number + 1) m.files ≡ none
      past = find_past (m.last_number + 1) 0 m.last_number m.last_time m.files ns (omega arith)

      one : (r : ℕ) → Complete r m.files → Complete r (m.files ++ file (m.last_number + 1) size [] 0 ∷ [])
      one r c = record { file = c.file; found = find_snoc r m.files (file (m.last_number + 1) size [] 0) c.file c.found; time = c.time }

      still : (d : Downlink) → DownOk m.files d → DownOk (m.files ++ file (m.last_number + 1) size [] 0 ∷ []) d
      still d h = down_stays m.files (m.files ++ file (m.last_number + 1) size [] 0 ∷ []) d one h

      all : (ns : List ℕ) → AllComplete m.files ns → AllComplete (m.files ++ file (m.last_number + 1) size [] 0 ∷ []) ns
      all ns h = all_stay m.files (m.files ++ file (m.last_number + 1) size [] 0 ∷ []) one ns h

      nobody : (j : ℕ) → (session_at m j).up ≡ receiving (m.last_number + 1) → ⊥
      nobody j b = let p : Partial (m.last_number + 1) m.files = subst (UpOk m.files) b (s.up j) in clash (sym past ∙ p.found)

-- ---- the walk

none_uploads : (ks : List Session) (n : ℕ) → uploading ks n ≡ false → (j : ℕ) → (get_or ks j closed_session).up ≡ receiving n → ⊥
unfolding uploading
none_uploads [] n e j a = let z : ◌≡◌ {A = ℕ} 0 1 = cc in omega arith
none_uploads (x ∷ ks) n e j a = go (receives x.up n) refl e (none_uploads ks n) j a
  where
    clash' : {P : Type 0} → true ≡ false → P
    clash' e = let z : ◌≡◌ {A = ℕ} 0 1 = cc in absurd (omega arith)

    go : (b : Bool) → receives x.up n ≡ b → cond b true (uploading ks n) ≡ false
        → (uploading ks n ≡ false → (j : ℕ) → (get_or ks j closed_session).up ≡ receiving n → ⊥) → (j : ℕ) → (get_or (x ∷ ks) j closed_session).up ≡ receiving n → ⊥
    go true d e h j a = clash' e
    go false d e h zero a = clash' (sym (eq-eqb n n refl) ∙ ap (λ (u : Uplink). receives u n) (sym a) ∙ d)
    go false d e h (suc j) a = h e j a

module _ (m : Model) (i : ℕ) (there : i < length m.sessions) (s : Named m) (sound : Sound m) where
  abbrev Ok : Turn → Type 0
  Ok t = Named t.after

  by : (b : Bool) (x y : Turn) → (b ≡ true → Ok x) → (b ≡ false → Ok y) → Ok (cond b x y)
  by true x y f g = f refl
  by false x y f g = g refl

  closed : Named (lost m i)
  closed = up_ends m i there s closed_session (λ n e. let z : ◌≡◌ {A = ℕ} 0 1 = cc in omega arith) tt tt tt

  rests : (u : Uplink) → (u ≡ no_upload) ⊎ (u ≡ ignoring) → (n : ℕ) → u ≡ receiving n → ⊥
  rests u (inl e) n f = let z : ◌≡◌ {A = ℕ} 0 1 = cc in omega arith
  rests u (inr e) n f = let z : ◌≡◌ {A = ℕ} 0 1 = cc in omega arith

  new_ok : (size : ℕ) → Ok (upload_new m i size)
  unfolding upload_new
  new_ok size =
      by (eqb m.last_number most_given) _ _ (λ _. s)
      (λ _. by (ltb (length m.files) m.places) _ _
      (λ _. by (leb (blocks_for size) (free m)) _ _ (λ _. begins m i there s size sound.numbers) (λ _. s)) (λ _. s))

  upload_ok : (info : List ℕ) → Ok (on_upload_cmd m i info)
  unfolding on_upload_cmd upload_continued
  upload_ok info =
      by (eqb (length info) 8) _ _
      (λ _. by (eqb (word_at info 0) 0) _ _ (λ _. new_ok (word_at info 4)) (λ _. go (word_at info 0) (word_at info 4) (find (word_at info 0) m.files) refl)) (λ _. s)
    where
      go : (n size : ℕ) (f : Option File) → find n m.files ≡ f → Ok (upload_continued f m i n size)
      go n size none e = s
      go n size (some f) e =
          by (eqb f.time 0) _ _
          (λ t. by (eqb f.size size) _ _
          (λ _. by (uploading m.sessions n) _ _ (λ _. s)
          (λ q. takes_up m i there s n (record { file = f; found = e; time = eqb-true f.time 0 t }) (none_uploads m.sessions n q)))
          (λ _. s))
          (λ _. s)

  data_ok : (u : Uplink) → (session_at m i).up ≡ u → (info : List ℕ) → Ok (on_data u m i info)
  unfolding on_data data_to
  data_ok no_upload a info = closed
  data_ok (receiving n) a info = go (find n m.files) refl
    where
      longer : Partial n m.files → Partial n (changed n (grown info) m.files)
      longer p =
          record {
            file = grown info p.file;
            found = find_changed n n (grown info) m.files p.file (λ g. refl) p.found
                ∙ ap (λ (b : Bool). some (cond b (grown info p.file) p.file)) (eq-eqb n n refl);
            time = p.time;
          }

      go : (f : Option File) → find n m.files ≡ f → Ok (data_to f m i n info)
      go none e = s
      go (some f) e =
          by (ltb f.size (length f.bytes + length info)) _ _
          (λ _. drops m i there s n (with_up ignoring (session_at m i)) a (rests ignoring (inr refl)) tt refl refl)
          (λ _.
          subst (λ (ks : List Session). Named (model m m.last_number m.last_time (changed n (grown info) m.files) ks)) (set-get_or m.sessions i closed_session)
          (changes m i there s n (grown info) m.last_time (session_at m i) a (λ g. refl)
          (subst (UpOk (changed n (grown info) m.files)) (sym a) (longer (subst (UpOk m.files) a (s.up i)))) refl refl
          (λ r b. let w : receiving r ≡ receiving n = sym b ∙ a in cc)))
  data_ok ignoring a info = s

  end_ok : (u : Uplink) → (session_at m i).up ≡ u → (clock : ℕ) → Ok (on_data_end u m i clock)
  unfolding on_data_end data_end_to
  end_ok no_upload a clock = closed
  end_ok (receiving n) a clock = go (find n m.files) refl
    where
      dropped : Named (discarded i n no_upload m)
      dropped = drops m i there s n (with_up no_upload (session_at m i)) a (rests no_upload (inl refl)) tt refl refl

      go : (f : Option File) → find n m.files ≡ f → Ok (data_end_to f m i n clock)
      go none e = s
      go (some f) e =
          by (eqb (verdict f.bytes f.size) 0) _ _
          (λ _. by (eqb m.last_time most_given) _ _ (λ _. dropped)
          (λ _.
          changes m i there s n (completed (time_at clock m.last_time)) (time_at clock m.last_time) (with_up no_upload (session_at m i)) a (λ g. refl) tt
          refl refl (λ r b. absurd (rests no_upload (inl refl) r b))))
          (λ _. dropped)
  end_ok ignoring a clock = up_ends m i there s (with_up no_upload (session_at m i)) (rests no_upload (inl refl)) tt (s.down i) (s.selected i)

  download_ok : (x : Session) (info : List ℕ) → Ok (on_download_cmd m i x info)
  unfolding on_download_cmd download_numbered download_of
  download_ok x info =
      by (eqb (length info) 9) _ _
      (λ _. by (eqb (word_at info 0) 0) _ _
      (λ _. by (ltb x.next (length x.selected)) _ _
      (λ _. go (get_or x.selected x.next 0) _ _ _ (find (get_or x.selected x.next 0) m.files) refl) (λ _. s))
      (λ _. go (word_at info 0) _ _ _ (find (word_at info 0) m.files) refl))
      (λ _. s)
    where
      go : (n offset lock passed : ℕ) (f : Option File) → find n m.files ≡ f → Ok (download_of f m i n offset lock passed)
      go n offset lock passed none e = s
      go n offset lock passed (some f) e =
          by (eqb f.time 0) _ _ (λ _. s)
          (λ t. by (ltb (length f.bytes) offset) _ _ (λ _. s)
          (λ _. by (ltb (destinations_in f.bytes) lock) _ _ (λ _. s)
          (λ _. down_moves m i there s (with_down (sending n offset) (with_next passed (session_at m i))) refl
          (record { file = f; found = e; time = eqb-false f.time 0 t }) (s.selected i))))

  ack_ok : (d : Downlink) (info : List ℕ) → Ok (on_dl_ack_cmd d m i info)
  unfolding on_dl_ack_cmd
  ack_ok no_download info = closed
  ack_ok (sending n at) info = closed
  ack_ok (ended n) info = down_moves m i there s (with_down no_download (session_at m i)) refl tt (s.selected i)
  ack_ok (aborting n) info = closed
  ack_ok (listing long ns at) info = closed

  nak_ok : (d : Downlink) → (session_at m i).down ≡ d → Ok (on_dl_nak_cmd d m i)
  unfolding on_dl_nak_cmd
  nak_ok no_download a = s
  nak_ok (sending n at) a = down_moves m i there s (with_down (aborting n) (session_at m i)) refl (subst (DownOk m.files) a (s.down i)) (s.selected i)
  nak_ok (ended n) a = down_moves m i there s (with_down no_download (session_at m i)) refl tt (s.selected i)
  nak_ok (aborting n) a = closed
  nak_ok (listing long ns at) a = down_moves m i there s (with_down no_download (session_at m i)) refl tt (s.selected i)

  -- x is the session itself, but for the bytes held
  directory_ok : (long : Bool) (x : Session) (info : List ℕ) → AllComplete m.files x.selected → Ok (on_dir_cmd long m i x info)
  unfolding on_dir_cmd directory_numbered directory_of_one
  directory_ok long x info l =
      by (eqb (length info) 4) _ _
      (λ _. by (eqb (word_at info 0) 0) _ _
      (λ _. by (ltb x.next (length x.selected)) _ _
      (λ _. down_moves m i there s (with_down (listing long (next_ten x) 0) (with_next (x.next + length (next_ten x)) (session_at m i))) refl
      (all_take 10 m.files (drop x.next x.selected) (all_drop x.next m.files x.selected l)) (s.selected i)) (λ _. s))
      (λ _. go (word_at info 0) (find (word_at info 0) m.files) refl))
      (λ _. s)
    where
      go : (n : ℕ) (f : Option File) → find n m.files ≡ f → Ok (directory_of_one f m i long n)
      go n none e = s
      go n (some f) e =
          by (eqb f.time 0) _ _ (λ _. s)
          (λ t. down_moves m i there s (with_down (listing long (n ∷ []) 0) (session_at m i)) refl
          (record { file = f; found = e; time = eqb-false f.time 0 t }, tt) (s.selected i))

  select_ok : (info : List ℕ) → Ok (on_select_cmd m i info)
  unfolding on_select_cmd
  select_ok info =
      by (eqb (validity_of info) 0) _ _
      (λ _. down_moves m i there s (with_selection (selection m.maxsel info m.files) (session_at m i)) refl (s.down i)
      (selection_complete 0 m.last_number m.last_time m.maxsel info m.files sound.numbers))
      (λ _. s)

  if_no_upload_law : (u : Uplink) (x y : Turn) → Ok x → Ok y → Ok (if_no_upload u x y)
  if_no_upload_law no_upload x y f g = f
  if_no_upload_law (receiving n) x y f g = g
  if_no_upload_law ignoring x y f g = g

  if_no_download_law : (d : Downlink) (x y : Turn) → Ok x → Ok y → Ok (if_no_download d x y)
  if_no_download_law no_download x y f g = f
  if_no_download_law (sending n offset) x y f g = g
  if_no_download_law (ended n) x y f g = g
  if_no_download_law (aborting n) x y f g = g
  if_no_download_law (listing long ns at) x y f g = g

  -- THEOREM: after every packet what the sessions name is there
  pub packet_ok : (clock kind : ℕ) (info : List ℕ) → Ok (on_packet m i clock kind info)
  unfolding by_type
  packet_ok clock kind info =
      by (eqb kind 0) _ _ (λ _. data_ok (session_at m i).up refl info)
      (λ _. by (eqb kind 1) _ _ (λ _. by (eqb (length info) 0) _ _ (λ _. end_ok (session_at m i).up refl clock) (λ _. closed))
      (λ _. by (eqb kind 3) _ _ (λ _. if_no_upload_law (session_at m i).up _ _ (upload_ok info) closed)
      (λ _. by (eqb kind 8) _ _ (λ _. if_no_download_law (session_at m i).down _ _ (download_ok (session_at m i) info) closed)
      (λ _. by (eqb kind 12) _ _ (λ _. ack_ok (session_at m i).down info)
      (λ _. by (eqb kind 13) _ _ (λ _. by (eqb (length info) 0) _ _ (λ _. nak_ok (session_at m i).down refl) (λ _. closed))
      (λ _. by (eqb kind 14) _ _ (λ _. if_no_download_law (session_at m i).down _ _ (directory_ok false (session_at m i) info (s.selected i)) closed)
      (λ _. by (eqb kind 15) _ _ (λ _. if_no_download_law (session_at m i).down _ _ (directory_ok true (session_at m i) info (s.selected i)) closed)
      (λ _. by (eqb kind 16) _ _ (λ _. if_no_download_law (session_at m i).down _ _ (select_ok info) closed) (λ _. closed)))))))))

  pick : (b : Bool) (x y : Stepped) → Named x.after → Named y.after → Named (cond b x y).after
  pick true x y f g = f
  pick false x y f g = g

  -- THEOREM: and after every request
  pub due_ok : (d : Downlink) → (session_at m i).down ≡ d → (out : List ℕ) → Named (on_request d m i out).after
  unfolding on_request data_due listing_due
  due_ok no_download a out = s
  due_ok (sending n at) a out = go (find n m.files) refl
    where
      go : (f : Option File) → find n m.files ≡ f → Named (data_due f m i n at out).after
      go none e = s
      go (some f) e =
          pick (ltb at (length f.bytes)) _ _ (down_moves m i there s _ refl (subst (DownOk m.files) a (s.down i)) (s.selected i))
          (down_moves m i there s (with_down (ended n) (session_at m i)) refl (subst (DownOk m.files) a (s.down i)) (s.selected i))
  due_ok (ended n) a out = s
  due_ok (aborting n) a out = down_moves m i there s (with_down no_download (session_at m i)) refl tt (s.selected i)
  due_ok (listing long ns at) a out =
      pick (ltb at (length (directory_of long ns m.files))) _ _ (down_moves m i there s _ refl (subst (DownOk m.files) a (s.down i)) (s.selected i))
      (down_moves m i there s (with_down no_download (session_at m i)) refl tt (s.selected i))

-- ---- every call

module _ (m : Model) (s : Named m) (sound : Sound m) where
  event_ok : (e : Option Event) (i clock : ℕ) (held input out : List ℕ) → i < length m.sessions → Named (on_event e m i clock held input out).after
  unfolding on_event
  event_ok none i clock held input out there = down_moves m i there s (with_held (held ++ input) (session_at m i)) refl (s.down i) (s.selected i)
  event_ok (some too_long) i clock held input out there = closed m i there s sound
  event_ok (some (packet kind info)) i clock held input out there =
      packet_ok (in_session i (with_held []) m) i (subst (λ (n : ℕ). i < n) (sym (length-set m.sessions i (with_held [] (session_at m i)))) there)
      (down_moves m i there s (with_held [] (session_at m i)) refl (s.down i) (s.selected i))
      (record { numbers = sound.numbers; room = sound.room }) clock kind info

  unless_ok : (n : ℕ) (out : List ℕ) (x : Stepped) → (n ≡ 0 → Named x.after) → Named (unless n m out x).after
  unfolding unless
  unless_ok n out x h = go (eqb n 0) refl
    where
      go : (b : Bool) → eqb n 0 ≡ b → Named (cond b x (stepped (told (answer.Refused n) out) m)).after
      go true e = h (eqb-true n 0 e)
      go false e = s

  step_ok : (c : Call) → Named (step m c).after
  unfolding step
  step_ok (login session clock out) =
      unless_ok (refusal m session false (length out)) out _
      (λ z. up_ends m (session - 1) (session_there m session false (length out) z) s fresh_session (λ n e. let y : ◌≡◌ {A = ℕ} 0 1 = cc in omega arith) tt tt tt)
  step_ok (receive session clock input out) =
      unless_ok (refusal m session true (length out)) out _
      (λ z. event_ok (ends_in ((session_at m (session - 1)).held ++ input)) (session - 1) clock (session_at m (session - 1)).held input out
      (session_there m session true (length out) z))
  step_ok (request session out) =
      unless_ok (refusal m session true (length out)) out _
      (λ z. due_ok m (session - 1) (session_there m session true (length out) z) s sound (session_at m (session - 1)).down refl out)
  step_ok (lose session) =
      unless_ok (refusal m session true 258) [] _ (λ z. closed m (session - 1) (session_there m session true 258 z) s sound)

-- THEOREM
pub named_step : NamedStays
named_step m s sound c = step_ok m s sound c
