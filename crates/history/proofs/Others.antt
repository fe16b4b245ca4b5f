-- A session's facts over the files after a change of ONE file that it does not upload: "a call changes no file but its own" (demand 3). What a
-- session downloads and selects are complete files, which no change touches.
use mathlib.Core.Path.{◌≡◌, refl, sym, ap, ◌∙◌, subst}
use mathlib.Core.Bool.{Bool}
use mathlib.Core.List.{List}
use Prim.Native.Nat.{ℕ, ◌+◌, ◌≤◌, ◌<◌}
use native.Mathlib.Omega.{arith}
use lib.ListN.{get_or}
use Rattle.session.specs.declared.state.Session.{Session}
use Rattle.session.specs.declared.state.Uplink.TheVariants as up
use Rattle.session.specs.declared.state.Downlink.TheVariants as down
use Rattle.session.specs.declared.state.Listed.{Listed}
use Rattle.table.specs.declared.File.{File}
use Rattle.std.proofs.Common.{Some}
use Rattle.table.specs.Table.{files, file_at, find_of, numbers}
use Rattle.table.specs.Fit.{Distinct}
use Rattle.table.proofs.Finding.{find_number_law, find_own}
use Rattle.files.specs.View.{View}
use Rattle.links.proofs.Facts.{CompleteAt, SendingAt, ListingAt, Selectable, LinkFacts}
use Rattle.carry.specs.declared.turn.Last.{Last}
use Rattle.carry.specs.Turn.{Mem}
use Rattle.acts.specs.Change.{Files, Change, same, begins, receives, completes, discards}
use Rattle.acts.proofs.Interface.{files_in}
use Rattle.history.proofs.Directories.{listing_still}

-- ---- what a session reads

-- the part of a session's facts that names complete files: its download or directory, and its selection
pub record Reads (fs : List File) (most : ℕ) (selected : List ℕ) (s : Session) : Type 0 where
  pub sending : (place offset sent : ℕ) → s.down ≡ down.Sending place offset sent → SendingAt fs place (offset + sent)
  pub ended : (place : ℕ) → s.down ≡ down.Ended place → CompleteAt fs place
  pub aborting : (place : ℕ) → s.down ≡ down.Aborting place → CompleteAt fs place
  pub listing : (l : Listed) (long : Bool) (done sent : ℕ) → s.down ≡ down.Listing l long done sent → ListingAt fs selected s.next l done sent
  pub at_most : s.count ≤ most
  pub next : s.next ≤ s.count
  pub names : (k : ℕ) → k < s.count → Selectable fs (get_or selected k 0)

pub reads_of : (fs : List File) (most : ℕ) (selected part : List ℕ) (s : Session) → LinkFacts fs most selected part s → Reads fs most selected s
reads_of fs most selected part s f =
    record {
      sending = f.sending;
      ended = f.ended;
      aborting = f.aborting;
      listing = f.listing;
      at_most = f.at_most;
      next = f.next;
      names = f.names;
    }

-- complete files stay, and each number stands once
module _ (fs fs' : List File) (kept : (q : ℕ) → CompleteAt fs q → file_at fs' q ≡ file_at fs q) (once : Distinct (numbers fs')) where
  pub complete_still : (q : ℕ) → CompleteAt fs q → CompleteAt fs' q
  complete_still q c =
      record {
        number = λ e. c.number (sym (ap (λ (f : File). f.number) (kept q c)) ∙ e);
        time = λ e. c.time (sym (ap (λ (f : File). f.time) (kept q c)) ∙ e);
      }

  pub sending_still : (q sent : ℕ) → SendingAt fs q sent → SendingAt fs' q sent
  sending_still q sent h =
      record {
        complete = complete_still q h.complete;
        within = omega (arith, h.within, ap (λ (f : File). f.size) (kept q h.complete));
      }

  -- a number is found where it was
  found_at : (n : ℕ) (h : Selectable fs n) → find_of fs' n ≡ Some h.place
  found_at n h =
      let p = h.place in
      let e : (file_at fs' p).number ≡ n = ap (λ (f : File). f.number) (kept p h.complete) ∙ find_number_law fs n p h.found in
      subst (λ (k : ℕ). find_of fs' k ≡ Some p) e (find_own fs' once p (complete_still p h.complete).number)

  pub selectable_still : (n : ℕ) → Selectable fs n → Selectable fs' n
  selectable_still n h = record { place = h.place; found = found_at n h; complete = complete_still h.place h.complete }

  pub found_same : (n : ℕ) → Selectable fs n → find_of fs' n ≡ find_of fs n
  found_same n h = found_at n h ∙ sym h.found

  pub reads_still : (most : ℕ) (selected selected' : List ℕ) (s : Session)
      → Reads fs most selected s → selected' ≡ selected → Reads fs' most selected' s
  reads_still most selected selected' s r e =
      subst (λ (x : List ℕ). Reads fs' most x s) (sym e)
      (record {
        sending = λ place offset sent e. sending_still place (offset + sent) (r.sending place offset sent e);
        ended = λ place e. complete_still place (r.ended place e);
        aborting = λ place e. complete_still place (r.aborting place e);
        listing = λ l long done sent e.
            listing_still fs selected s.count s.next r.next r.names fs' kept found_same complete_still l done sent
            (r.listing l long done sent e);
        at_most = r.at_most;
        next = r.next;
        names = λ k h. selectable_still (get_or selected k 0) (r.names k h);
      })

  -- the facts of a session whose own upload and part of the selections stay
  pub link_still : (most : ℕ) (selected selected' part : List ℕ) (s : Session)
      → LinkFacts fs most selected part s
      → ((place offset received : ℕ) → s.up ≡ up.Receiving place offset received → file_at fs' place ≡ file_at fs place)
      → selected' ≡ selected
      → LinkFacts fs' most selected' part s
  link_still most selected selected' part s f own listed =
      let r = reads_still most selected selected' s (reads_of fs most selected part s f) listed in
      record {
        receiving = λ place offset received e.
            let h = f.receiving place offset received e in
            let k = own place offset received e in
            record {
              number = λ z. h.number (sym (ap (λ (g : File). g.number) k) ∙ z);
              time = ap (λ (g : File). g.time) k ∙ h.time;
              agree = h.agree ∙ sym (ap (λ (g : File). g.received) k);
            };
        sending = r.sending;
        ended = r.ended;
        aborting = r.aborting;
        listing = r.listing;
        at_most = r.at_most;
        next = r.next;
        names = r.names;
        packet = f.packet;
      }

-- ---- a change

-- the change begins, continues, completes or discards the file at the place
abbrev pub Touches : (last : Last) (before : Files) (last' : Last) (after : Files) → Change last before last' after → ℕ → Type 0
Touches last before last' after (same c) q = ⊥
Touches last before last' after (begins c) q = q ≡ c.place
Touches last before last' after (receives c) q = q ≡ c.place
Touches last before last' after (completes c) q = q ≡ c.place
Touches last before last' after (discards c) q = q ≡ c.place

module _ (last : Last) (before : Files) (last' : Last) (after : Files) where
  pub untouched : (c : Change last before last' after) (q : ℕ) → (Touches last before last' after c q → ⊥) → after q ≡ before q
  untouched (same c) q n = c.files q
  untouched (begins c) q n = c.others q n
  untouched (receives c) q n = c.others q n
  untouched (completes c) q n = c.others q n
  untouched (discards c) q n = c.others q n

  number_at : (q p : ℕ) → q ≡ p → (before q).file.number ≡ (before p).file.number
  number_at q p e = ap (λ (k : ℕ). (before k).file.number) e

  time_at_law : (q p : ℕ) → q ≡ p → (before q).file.time ≡ (before p).file.time
  time_at_law q p e = ap (λ (k : ℕ). (before k).file.time) e

  -- a complete file is touched by no change
  pub complete_untouched : (c : Change last before last' after) (q : ℕ) → ((before q).file.number ≡ 0 → ⊥) → ((before q).file.time ≡ 0 → ⊥)
      → after q ≡ before q
  complete_untouched (same c) q n t = c.files q
  complete_untouched (begins c) q n t = c.others q (λ e. n (number_at q c.place e ∙ c.free))
  complete_untouched (receives c) q n t = c.others q (λ e. t (time_at_law q c.place e ∙ c.partial.time))
  complete_untouched (completes c) q n t = c.others q (λ e. t (time_at_law q c.place e ∙ c.partial.time))
  complete_untouched (discards c) q n t = c.others q (λ e. t (time_at_law q c.place e ∙ c.partial.time))

-- a session that does not upload the changed file has its facts afterwards. That numbers stand once follows from a sound store (Kept).
pub link_kept : (m : Mem) (last : Last) (m' : Mem) (last' : Last) (c : Change last (files_in m) last' (files_in m'))
    → Distinct (numbers (files m'.table))
    → (most : ℕ) (selected part : List ℕ) (s : Session)
    → LinkFacts (files m.table) most selected part s
    → ((place offset received : ℕ) → s.up ≡ up.Receiving place offset received → Touches last (files_in m) last' (files_in m') c place → ⊥)
    → LinkFacts (files m'.table) most selected part s
link_kept m last m' last' c once most selected part s f apart =
    link_still (files m.table) (files m'.table)
    (λ q h. ap (λ (v : View). v.file) (complete_untouched last (files_in m) last' (files_in m') c q h.number h.time))
    once most selected selected part s f
    (λ place offset received e.
    ap (λ (v : View). v.file) (untouched last (files_in m) last' (files_in m') c place (apart place offset received e)))
    refl
