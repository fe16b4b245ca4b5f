-- Two states with the same complete files and the same session answer its SELECT_CMD, its DOWNLOAD_CMD of a complete file, its directories of complete
-- files and its requests alike, and stay alike. Assumes nothing.
use mathlib.Core.Path.{◌≡◌, refl, sym, ap, ◌∙◌, subst}
use mathlib.Core.Bool.{Bool, true, false, cond}
use mathlib.Core.List.{List, [], ◌∷◌, map}
use mathlib.Core.Option.{Option, none, some}
use Prim.Native.Nat.{ℕ, ◌+◌, ◌<◌}
use native.Mathlib.Omega.{arith}
use borrow.Author.Tests.{eqb-true, eqb-false, ne_eqb}
use lib.Dec.{eqb, ltb}
use lib.ListN.{length, take, drop, length-set}
use lib.Seq.{get_or-set_same}
use Rattle.header.specs.Items.{fields_of}
use Rattle.equation.specs.Answer.{selects, validity_of}
use Rattle.session.specs.declared.reply.Reply.{Reply}
use Rattle.session.specs.declared.reply.Reply.TheVariants as reply
use Rattle.model.specs.State.{File, Downlink, no_download, sending, ended, aborting, listing, Session, closed_session, with_down, with_selection}
use Rattle.model.specs.State.{with_next, Model, session_at, in_session, Turn, turn, Stepped}
use Rattle.model.specs.Files.{find, matching, by_time, selection}
use Rattle.model.specs.Downlink.{destinations_in, download_of, data_due, directory_of, listing_due, on_request, next_ten, directory_of_one}
use Rattle.model.specs.Downlink.{directory_numbered, on_select_cmd}
use Rattle.steps.specs.Sound.{Numbers}
use Rattle.steps.specs.Naming.{Complete, AllComplete}
use Rattle.steps.specs.Neighbour.{completes, Alike, AlikeTurn, AlikeStep}
use Rattle.steps.proofs.Found.{directory_same}

matching_completes : (eq : List ℕ) (fs : List File) → matching eq (completes fs) ≡ matching eq fs
unfolding completes matching
matching_completes eq [] = refl
matching_completes eq (f ∷ fs) = go (eqb f.time 0) refl (matching_completes eq fs)
  where
    go : (b : Bool) → eqb f.time 0 ≡ b → matching eq (completes fs) ≡ matching eq fs
        → matching eq (cond b (completes fs) (f ∷ completes fs))
        ≡ cond b (matching eq fs) (cond (selects eq (fields_of f.bytes)) (f ∷ matching eq fs) (matching eq fs))
    go true d e = e
    go false d e = rw d (ap (λ (xs : List File). cond (selects eq (fields_of f.bytes)) (f ∷ xs) xs) e)

clash : {P : Type 0} {f : File} → none ≡ some f → P
clash e = let z : ◌≡◌ {A = ℕ} 0 1 = cc in absurd (omega arith)

find_above : (a b t n : ℕ) (fs : List File) (f : File) → Numbers a b t fs → find n fs ≡ some f → a < n
unfolding find
find_above a b t n [] f k e = clash e
find_above a b t n (x ∷ fs) f k e = go (eqb x.number n) refl e (find_above x.number b t n fs f k.3)
  where
    go : (c : Bool) → eqb x.number n ≡ c → cond c (some x) (find n fs) ≡ some f → (find n fs ≡ some f → x.number < n) → a < n
    go true d e h = omega (arith, k.0, eqb-true x.number n d)
    go false d e h = omega (arith, k.0, h e)

-- a complete file is found among the complete ones, and back
find_complete : (n : ℕ) (fs : List File) (f : File) → find n fs ≡ some f → (f.time ≡ 0 → ⊥) → find n (completes fs) ≡ some f
unfolding find completes
find_complete n [] f e h = e
find_complete n (x ∷ fs) f e h = go (eqb x.number n) refl (eqb x.time 0) refl e (λ q. find_complete n fs f q h)
  where
    go : (a : Bool) → eqb x.number n ≡ a → (b : Bool) → eqb x.time 0 ≡ b → cond a (some x) (find n fs) ≡ some f
        → (find n fs ≡ some f → find n (completes fs) ≡ some f) → find n (cond b (completes fs) (x ∷ completes fs)) ≡ some f
    go true d true c e ih = let z : x ≡ f = cc in absurd (h (ap (λ (y : File). y.time) (sym z) ∙ eqb-true x.time 0 c))
    go true d false c e ih = rw d e
    go false d true c e ih = ih e
    go false d false c e ih = rw d (ih e)

find_back : (a b t n : ℕ) (fs : List File) (f : File) → Numbers a b t fs → find n (completes fs) ≡ some f → find n fs ≡ some f
unfolding find completes
find_back a b t n [] f k e = e
find_back a b t n (x ∷ fs) f k e = go (eqb x.time 0) refl e (find_back x.number b t n fs f k.3)
  where
    go : (c : Bool) → eqb x.time 0 ≡ c → find n (cond c (completes fs) (x ∷ completes fs)) ≡ some f → (find n (completes fs) ≡ some f → find n fs ≡ some f)
        → cond (eqb x.number n) (some x) (find n fs) ≡ some f
    go true d e ih = let q = ih e in rw (ne_eqb x.number n (λ z. let w = find_above x.number b t n fs f k.3 q in omega arith)) q
    go false d e ih = pick (eqb x.number n) e
      where
        pick : (c : Bool) → cond c (some x) (find n (completes fs)) ≡ some f → cond c (some x) (find n fs) ≡ some f
        pick true e = e
        pick false e = ih e

module _ (m m' : Model) (i : ℕ) (a : Alike m m' i) where
  -- the session moves alike
  moves : (h h' : Session → Session) → h' (session_at m i) ≡ h (session_at m i) → Alike (in_session i h m) (in_session i h' m') i
  moves h h' e =
      record {
        files = a.files;
        maxsel = a.maxsel;
        session = get_or-set_same m'.sessions i (h' (session_at m' i)) closed_session a.there' ∙ ap h' a.session ∙ e
            ∙ sym (get_or-set_same m.sessions i (h (session_at m i)) closed_session a.there);
        there = subst (λ (n : ℕ). i < n) (sym (length-set m.sessions i (h (session_at m i)))) a.there;
        there' = subst (λ (n : ℕ). i < n) (sym (length-set m'.sessions i (h' (session_at m' i)))) a.there';
        sound = record { numbers = a.sound.numbers; room = a.sound.room };
        sound' = record { numbers = a.sound'.numbers; room = a.sound'.room };
      }

  stays : (r : Reply) → AlikeTurn (turn r m) (turn r m') i
  stays r = record { reply = refl; after = a }

  by : (b : Bool) (x y x' y' : Turn) → AlikeTurn x x' i → AlikeTurn y y' i → AlikeTurn (cond b x y) (cond b x' y') i
  by true x y x' y' p q = p
  by false x y x' y' p q = q

  -- the same file
  found : (n : ℕ) (f : File) → find n m.files ≡ some f → (f.time ≡ 0 → ⊥) → find n m'.files ≡ some f
  found n f e c =
      find_back 0 m'.last_number m'.last_time n m'.files f a.sound'.numbers (ap (find n) a.files ∙ find_complete n m.files f e c)

  chosen : (eq : List ℕ) → selection m'.maxsel eq m'.files ≡ selection m.maxsel eq m.files
  chosen eq =
      ap (λ (n : ℕ). selection n eq m'.files) a.maxsel
      ∙ ap (λ (xs : List File). map (λ (f : File). f.number) (take m.maxsel (by_time xs)))
      (sym (matching_completes eq m'.files) ∙ ap (matching eq) a.files ∙ matching_completes eq m.files)

  -- THEOREM: SELECT_CMD
  pub select_alike : (info : List ℕ) → AlikeTurn (on_select_cmd m i info) (on_select_cmd m' i info) i
  unfolding on_select_cmd
  select_alike info =
      by (eqb (validity_of info) 0) _ _ _ _
      (record {
        reply = ap (λ (ns : List ℕ). reply.Selected (length ns)) (chosen info);
        after = moves (with_selection (selection m.maxsel info m.files)) (with_selection (selection m'.maxsel info m'.files))
            (ap (λ (ns : List ℕ). with_selection ns (session_at m i)) (chosen info));
      })
      (stays (reply.DownloadError 8))

  -- THEOREM: DOWNLOAD_CMD of a complete file, by its number or as the next one selected
  pub download_alike : (n : ℕ) (f : File) → find n m.files ≡ some f → (f.time ≡ 0 → ⊥) → (offset lock passed : ℕ)
      → AlikeTurn (download_of (find n m.files) m i n offset lock passed) (download_of (find n m'.files) m' i n offset lock passed) i
  unfolding download_of
  download_alike n f e c offset lock passed =
      rw (e, found n f e c)
      (by (eqb f.time 0) _ _ _ _ (stays (reply.DownloadError 11))
      (by (ltb (length f.bytes) offset) _ _ _ _ (stays (reply.DownloadError 2))
      (by (ltb (destinations_in f.bytes) lock) _ _ _ _ (stays (reply.DownloadError 10))
      (record {
        reply = refl;
        after = moves (λ k. with_down (sending n offset) (with_next passed k)) (λ k. with_down (sending n offset) (with_next passed k)) refl;
      }))))

  -- THEOREM: DIR_SHORT_CMD and DIR_LONG_CMD of the next files selected, or of a complete file
  pub directory_alike : (long : Bool) (n : ℕ) → ((n ≡ 0 → ⊥) → Complete n m.files)
      → AlikeTurn (directory_numbered m i (session_at m i) long n) (directory_numbered m' i (session_at m' i) long n) i
  unfolding directory_numbered directory_of_one
  directory_alike long n c = go (eqb n 0) refl
    where
      one : Complete n m.files → AlikeTurn (directory_of_one (find n m.files) m i long n) (directory_of_one (find n m'.files) m' i long n) i
      one k =
          rw (k.found, found n k.file k.found k.time)
          (by (eqb k.file.time 0) _ _ _ _ (stays (reply.DownloadError 11))
          (record { reply = refl; after = moves (with_down (listing long (n ∷ []) 0)) (with_down (listing long (n ∷ []) 0)) refl }))

      next : (s s' : Session) → s' ≡ s
          → AlikeTurn
          (cond (ltb s.next (length s.selected))
          (turn reply.Nothing (in_session i (λ x. with_down (listing long (next_ten s) 0) (with_next (s.next + length (next_ten s)) x)) m))
          (turn (reply.DownloadError 5) m))
          (cond (ltb s'.next (length s'.selected))
          (turn reply.Nothing (in_session i (λ x. with_down (listing long (next_ten s') 0) (with_next (s'.next + length (next_ten s')) x)) m'))
          (turn (reply.DownloadError 5) m'))
          i
      next s s' e =
          rw e
          (by (ltb s.next (length s.selected)) _ _ _ _
          (record {
            reply = refl;
            after = moves (λ x. with_down (listing long (next_ten s) 0) (with_next (s.next + length (next_ten s)) x))
                (λ x. with_down (listing long (next_ten s) 0) (with_next (s.next + length (next_ten s)) x)) refl;
          })
          (stays (reply.DownloadError 5)))

      go : (b : Bool) → eqb n 0 ≡ b
          → AlikeTurn (directory_numbered m i (session_at m i) long n) (directory_numbered m' i (session_at m' i) long n) i
      go true e = rw e (next (session_at m i) (session_at m' i) a.session)
      go false e = rw e (one (c (eqb-false n 0 e)))

  either : (b : Bool) (x y x' y' : Stepped) → AlikeStep x x' i → AlikeStep y y' i → AlikeStep (cond b x y) (cond b x' y') i
  either true x y x' y' p q = p
  either false x y x' y' p q = q

  -- the same directory
  listed : (long : Bool) (ns : List ℕ) → AllComplete m.files ns → directory_of long ns m'.files ≡ directory_of long ns m.files
  listed long ns c = directory_same long m.files m'.files (λ n k. found n k.file k.found k.time ∙ sym k.found) ns c

  -- THEOREM: a request, the session's download being of a complete file, or its directory of complete files
  pub request_alike : (d : Downlink) (out : List ℕ) → ((n at : ℕ) → d ≡ sending n at → (f : File) → find n m.files ≡ some f → f.time ≡ 0 → ⊥)
      → ((n at : ℕ) → d ≡ sending n at → find n m.files ≡ none → ⊥)
      → ((long : Bool) (ns : List ℕ) (at : ℕ) → d ≡ listing long ns at → AllComplete m.files ns)
      → AlikeStep (on_request d m i out) (on_request d m' i out) i
  unfolding on_request data_due listing_due
  request_alike no_download out c k l = record { told = refl; after = a }
  request_alike (sending n at) out c k l = go (find n m.files) refl
    where
      go : (x : Option File) → find n m.files ≡ x → AlikeStep (data_due (find n m.files) m i n at out) (data_due (find n m'.files) m' i n at out) i
      go none e = absurd (k n at refl e)
      go (some f) e =
          rw (e, found n f e (c n at refl f e))
          (either (ltb at (length f.bytes)) _ _ _ _
          (record {
            told = refl;
            after = moves (with_down (sending n (at + length (take 256 (drop at f.bytes))))) (with_down (sending n (at + length (take 256 (drop at f.bytes))))) refl;
          })
          (record { told = refl; after = moves (with_down (ended n)) (with_down (ended n)) refl }))
  request_alike (ended n) out c k l = record { told = refl; after = a }
  request_alike (aborting n) out c k l = record { told = refl; after = moves (with_down no_download) (with_down no_download) refl }
  request_alike (listing long ns at) out c k l = due (directory_of long ns m.files) (directory_of long ns m'.files) (listed long ns (l long ns at refl))
    where
      due : (x x' : List ℕ) → x' ≡ x → AlikeStep (listing_due x m i long ns at out) (listing_due x' m' i long ns at out) i
      due x x' e =
          rw e
          (either (ltb at (length x)) _ _ _ _
          (record {
            told = refl;
            after = moves (with_down (listing long ns (at + length (take 256 (drop at x)))))
                (with_down (listing long ns (at + length (take 256 (drop at x))))) refl;
          })
          (record { told = refl; after = moves (with_down no_download) (with_down no_download) refl }))
