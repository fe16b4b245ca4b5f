-- THEOREM (demand 3): whoever selects from upload time 0, then again above each page's newest time, until a page is shorter than MAXSEL, has been
-- given every matching file complete by then once, oldest first. Assumes nothing.
use mathlib.Core.Path.{◌≡◌, refl, sym, ap, ap₂, ◌∙◌, subst}
use mathlib.Core.List.{List, [], ◌∷◌, ◌++◌, map, Memᴰ}
use mathlib.Core.Logic.{◌⊎◌, inl, inr, ⊎_elim}
use mathlib.Core.Option.{some}
use Prim.Native.Nat.{ℕ, ◌-◌, ◌≤◌, ◌<◌}
use native.Mathlib.Omega.{arith}
use lib.ListN.{length, take}
use Rattle.numbers.specs.Numbers.{number}
use Rattle.numbers.proofs.NumberLaws.{number_four}
use Rattle.equation.specs.Answer.{validity_of}
use Rattle.calls.specs.Call.{Call, receive, History, ◌▸◌}
use Rattle.model.specs.State.{File, Uplink, no_upload, receiving, ignoring, Model, empty, session_at}
use Rattle.model.specs.Files.{find, matching}
use Rattle.model.specs.Step.{step, run}
use Rattle.model.proofs.Order.{Rising, find_in, by_time_in, by_time_back, by_time_rising, matching_in, matching_back, matching_apart}
use Rattle.steps.specs.Parts.{session_in}
use Rattle.steps.specs.Naming.{UpOk, Partial}
use Rattle.steps.proofs.Calls.{by_lt}
use Rattle.steps.proofs.Found.{in_find}
use Rattle.steps.proofs.Naming.{by_eq}
use Rattle.steps.proofs.Own.{own_file}
use Rattle.paging.specs.Client.{Asks, oldest_first, above, page_of, numbers_of, Answers}
use Rattle.paging.specs.Paging.{Entry, entry, entry_of, time_of, page_in, newest_of, Client, begins, waits, asks, Paged, paged_by, page_for, state_of, Allowed}
use Rattle.paging.specs.Paging.{Finished, Clocks, Matches, Stands, EachStood, Once, Rises, PageAnswer, Paging, PagingWhole}
use Rattle.paging.proofs.Entries.{map_in, in_map, map_same, map_map, take_map, in_left, in_right, in_either, taken_in, rises_above, rises_from}
use Rattle.paging.proofs.Entries.{rises_take, Beyond, taken_or_beyond, rises_append, rises_unique, newest_known}
use Rattle.paging.proofs.Entries.{newest_most, Of, newest_is, rises_once, once_append}
use Rattle.paging.proofs.Files.{numbers_timed, rising_entries, above_in, in_above, above_rises}
use Rattle.paging.proofs.Known.{New, Known, found_low, new_file_law, complete_kept, step_grown, known, run_maxsel}
use Rattle.paging.proofs.Page.{page_answer}

-- ---- the files of a state, and a page of them

module _ (m : Model) (k : Known m) (eq : List ℕ) where
  found : (f : File) → Memᴰ f m.files → find f.number m.files ≡ some f
  found f i = in_find 0 m.last_number m.last_time m.files f k.sound.numbers i

  all_rise : Rising 0 (oldest_first eq m)
  all_rise =
      by_time_rising (matching eq m.files)
      (matching_apart eq m.files
      (numbers_timed 0 m.last_number m.last_time m.files k.sound.numbers
      (λ f g i j z e. k.apart f.number g.number f g (found f i) (found g j) z e)))
      (λ f i. let z = (matching_in eq m.files f i).1.complete in omega arith)

  inside : (f : File) → Memᴰ f (oldest_first eq m) → Memᴰ f m.files
  inside f i = (matching_in eq m.files f (by_time_in (matching eq m.files) f i)).0

  -- an entry of a matching complete file, and back
  stands_of : (f : File) → Memᴰ f (oldest_first eq m) → Stands m eq (entry_of f)
  stands_of f i =
      let s = (matching_in eq m.files f (by_time_in (matching eq m.files) f i)).1 in
      let w = found f (inside f i) in
      record {
        matches = record { file = f; found = w; time = refl; complete = s.complete; matched = s.true_on_law };
        header = ap (map number) (k.stamped f.number f w s.complete)
            ∙ ap (λ (n : ℕ). n ∷ []) (number_four f.time (omega (arith, k.small, (found_low m k.sound f.number f w).1)));
      }

  record In (fs : List File) (e : Entry) : Type 0 where
    file : File
    inside : Memᴰ file fs
    same : entry_of file ≡ e

  of_matches : (e : Entry) → Matches m eq e → In (oldest_first eq m) e
  of_matches e a =
      let i = find_in e.number m.files a.file a.found in
      record {
        file = a.file;
        inside = by_time_back (matching eq m.files) a.file
            (matching_back eq m.files a.file i.inside (record { complete = a.complete; true_on_law = a.matched }));
        same = ap₂ entry i.number a.time;
      }

  -- entries with one number are one file
  same_number : (e f : Entry) → Matches m eq e → Matches m eq f → e.number ≡ f.number → e.time ≡ f.time
  same_number e f a b n =
      let z : some a.file ≡ some b.file = sym a.found ∙ ap (λ (x : ℕ). find x m.files) n ∙ b.found in
      let w : a.file ≡ b.file = cc in
      sym a.time ∙ ap (λ (x : File). x.time) w ∙ b.time

  module _ (t : ℕ) where
    abbrev newer : List Entry
    newer = map entry_of (above t (oldest_first eq m))

    abbrev page : List Entry
    page = map entry_of (page_of m eq t)

    page_taken : take m.maxsel newer ≡ page
    page_taken = take_map entry_of m.maxsel (above t (oldest_first eq m))

    newer_rises : Rises t newer
    newer_rises =
        rises_from 0 t newer (rising_entries 0 (above t (oldest_first eq m)) (above_rises 0 t (oldest_first eq m) all_rise))
        (λ e i.
        let f = in_map entry_of e (above t (oldest_first eq m)) i in
        let a = (above_in t (oldest_first eq m) f.of f.inside).1 in
        let s = ap (λ (x : Entry). x.time) f.same in
        omega arith)

    page_rises : Rises t page
    page_rises = subst (Rises t) page_taken (rises_take t m.maxsel newer newer_rises)

    page_stands : (e : Entry) → Memᴰ e page → Stands m eq e
    page_stands e i =
        let f = in_map entry_of e (page_of m eq t) i in
        subst (Stands m eq) (sym f.same)
        (stands_of f.of (above_in t (oldest_first eq m) f.of (taken_in m.maxsel (above t (oldest_first eq m)) f.of f.inside)).0)

    -- a matching file above t is in the page, or the page is full of older ones
    page_or_beyond : (e : Entry) → Matches m eq e → t < e.time → Memᴰ e page ⊎ Beyond m.maxsel newer e
    page_or_beyond e a h =
        let i = of_matches e a in
        let s = ap (λ (x : Entry). x.time) i.same in
        let inside : Memᴰ e newer =
        subst (λ (x : Entry). Memᴰ x newer) i.same
        (map_in entry_of i.file (above t (oldest_first eq m)) (in_above t (oldest_first eq m) i.file i.inside (omega arith))) in
        ⊎_elim (λ (j : Memᴰ e (take m.maxsel newer)). inl (subst (λ (l : List Entry). Memᴰ e l) page_taken j))
        (λ (j : Beyond m.maxsel newer e). inr j) (taken_or_beyond t m.maxsel newer e newer_rises inside)

    -- the times that the client reads for the numbers of the page
    page_read : map (λ (n : ℕ). entry n (time_of (find n m.files))) (numbers_of (page_of m eq t)) ≡ page
    page_read =
        map_map (λ (n : ℕ). entry n (time_of (find n m.files))) (λ (f : File). f.number) (page_of m eq t)
        ∙ map_same (λ (f : File). entry f.number (time_of (find f.number m.files))) entry_of (page_of m eq t)
        (λ f i.
        let a = (above_in t (oldest_first eq m) f (taken_in m.maxsel (above t (oldest_first eq m)) f i)).0 in
        ap (λ x. entry f.number (time_of x)) (found f (inside f a)))

-- ---- what holds of a client between its calls. It survives that files are removed.

pub record Inv (m : Model) (eq : List ℕ) (t : ℕ) (given : List Entry) : Type 0 where
  pub low : t ≤ m.last_time
  pub rises : Rises 0 given
  pub top : (e : Entry) → Memᴰ e given → e.time ≤ t
  pub once : Once given
  -- no other file has the number of one that was given, now or later
  pub numbered : (e : Entry) → Memᴰ e given → (e.number ≤ m.last_number) × ((f : File) → find e.number m.files ≡ some f → f.time ≡ e.time)
  pub all : (e : Entry) → Matches m eq e → e.time ≤ t → Memᴰ e given

-- at first it has nothing
inv_begins : (m : Model) (eq : List ℕ) → Inv m eq 0 []
inv_begins m eq =
    record {
      low = omega arith;
      rises = tt;
      top = λ e i. absurd (mathlib.Core.List.Memᴰ.not-nil i);
      once = tt;
      numbered = λ e i. absurd (mathlib.Core.List.Memᴰ.not-nil i);
      all = λ e a h. absurd (a.complete (let z = a.time in omega arith));
    }

-- a session uploads the file of a number, or not
by_upload : {P : Type 0} (u : Uplink) (n : ℕ) → (u ≡ receiving n → P) → ((u ≡ receiving n → ⊥) → P) → P
by_upload no_upload n f g = g (λ e. let z : ◌≡◌ {A = ℕ} 0 1 = cc in omega arith)
by_upload (receiving k) n f g = by_eq k n (λ e. f (ap receiving e)) (λ z. g (λ e. z cc))
by_upload ignoring n f g = g (λ e. let z : ◌≡◌ {A = ℕ} 0 1 = cc in omega arith)

-- any call
module _ (m : Model) (k : Known m) (eq : List ℕ) (c : Call) where
  abbrev m' : Model
  m' = (step m c).after

  inv_call : (t : ℕ) (given : List Entry) → Inv m eq t given → Inv m' eq t given
  inv_call t given i =
      record {
        low = omega (arith, i.low, (step_grown m c).time);
        rises = i.rises;
        top = i.top;
        once = i.once;
        numbered = λ e j. (omega (arith, (i.numbered e j).0, (step_grown m c).number), same_file e j);
        all = λ e a h. go e a h (new_file_law m k c e.number a.file a.found a.complete);
      }
    where
      -- a file that is being uploaded is partial, so it is none that was given
      same_file : (e : Entry) → Memᴰ e given → (f : File) → find e.number m'.files ≡ some f → f.time ≡ e.time
      same_file e j f q =
          by_upload (session_at m (session_in c - 1)).up e.number
          (λ o.
          let p : Partial e.number m.files = subst (UpOk m.files) o (k.named.up (session_in c - 1)) in
          absurd (let z = (i.numbered e j).1 p.file p.found in let w = p.time in omega (arith, rises_above 0 given i.rises e j)))
          (λ o. (i.numbered e j).1 f (sym (own_file m c e.number o (i.numbered e j).0) ∙ q))

      go : (e : Entry) (a : Matches m' eq e) → e.time ≤ t → (find e.number m.files ≡ some a.file) ⊎ New m (session_in c - 1) e.number a.file
          → Memᴰ e given
      go e a h (inl q) = i.all e (record { file = a.file; found = q; time = a.time; complete = a.complete; matched = a.matched }) h
      go e a h (inr n) = absurd (let z = a.time in omega (arith, n.above, i.low))

  stands_kept : (e : Entry) → Stands m eq e → Stands m' eq e
  stands_kept e s =
      let a = s.matches in
      record {
        matches = record {
          file = a.file;
          found = complete_kept m k c e.number a.file a.found a.complete;
          time = a.time;
          complete = a.complete;
          matched = a.matched;
        };
        header = s.header;
      }

-- a page
module _ (m : Model) (k : Known m) (eq : List ℕ) (t : ℕ) (given : List Entry) (i : Inv m eq t given) where
  abbrev new : List Entry
  new = page m k eq t

  abbrev newest : ℕ
  newest = newest_of t new

  -- with the page, all up to its newest time is given
  inv_asks : Inv m eq newest (given ++ new)
  inv_asks =
      record {
        low = newest_low (newest_is t new);
        rises = rises_append 0 t given new (omega arith) i.rises i.top (page_rises m k eq t);
        top = λ e j.
            ⊎_elim (λ (x : Memᴰ e given). let a = i.top e x in let b = newest_known t new in omega arith)
            (λ (x : Memᴰ e new). newest_most t new e x) (in_either e given new j);
        once = once_append given new i.once
            (rises_once t new (page_rises m k eq t)
            (λ e f x y. same_number m k eq e f (page_stands m k eq t e x).matches (page_stands m k eq t f y).matches))
            (λ e f x y n.
            let a = (page_stands m k eq t f y).matches in
            let z = (i.numbered e x).1 a.file (ap (λ (r : ℕ). find r m.files) n ∙ a.found) in
            omega (arith, a.time, i.top e x, rises_above t new (page_rises m k eq t) f y));
        numbered = λ e j.
            ⊎_elim (λ (x : Memᴰ e given). i.numbered e x) (λ (x : Memᴰ e new). own e (page_stands m k eq t e x).matches)
            (in_either e given new j);
        all = λ e a h.
            by_lt t e.time
            (λ x. in_right e given new
            (⊎_elim (λ (y : Memᴰ e new). y) (λ (y : Beyond m.maxsel (newer m k eq t) e). absurd (not_beyond e x h y (newest_is t new)))
            (page_or_beyond m k eq t e a x)))
            (λ x. in_left e given new (i.all e a x));
      }
    where
      own : (e : Entry) → Matches m eq e → (e.number ≤ m.last_number) × ((f : File) → find e.number m.files ≡ some f → f.time ≡ e.time)
      own e a = (
        (found_low m k.sound e.number a.file a.found).0,
        λ f q.
            let z : some f ≡ some a.file = sym q ∙ a.found in
            let w : f ≡ a.file = cc in
            ap (λ (x : File). x.time) w ∙ a.time,
      )

      newest_low : (newest ≡ t) ⊎ Of new newest → newest ≤ m.last_time
      newest_low (inl e) = let a = i.low in omega arith
      newest_low (inr o) =
          let a = (page_stands m k eq t o.entry o.inside).matches in
          omega (arith, (found_low m k.sound o.entry.number a.file a.found).1, a.time, o.time)

      not_beyond : (e : Entry) → t < e.time → e.time ≤ newest → Beyond m.maxsel (newer m k eq t) e → (newest ≡ t) ⊎ Of new newest → ⊥
      not_beyond e x h b (inl q) = omega arith
      not_beyond e x h b (inr o) =
          let a = b.older o.entry (subst (λ (l : List Entry). Memᴰ o.entry l) (sym (page_taken m k eq t)) o.inside) in
          omega (arith, o.time)

  -- a page shorter than MAXSEL is the last one
  last_page : length new < m.maxsel → (e : Entry) → Matches m eq e → Memᴰ e (given ++ new)
  last_page h e a =
      by_lt t e.time
      (λ x. in_right e given new
      (⊎_elim (λ (y : Memᴰ e new). y)
      (λ (y : Beyond m.maxsel (newer m k eq t) e). absurd (let z = ap length (page_taken m k eq t) in omega (arith, y.full)))
      (page_or_beyond m k eq t e a x)))
      (λ x. in_left e given new (i.all e a x))

-- ---- the client

module _ (blocks places sessions maxsel : ℕ) (eq : List ℕ) (valid : validity_of eq ≡ 0) where
  abbrev m₀ : Model
  m₀ = empty blocks places sessions maxsel

  -- what is known after a history
  abbrev after : (h : History) → Clocks h → Known (run m₀ h)
  after = known blocks places sessions maxsel

  -- what a client has come to, and the state then
  abbrev R : Client → Paged
  R = paged_by m₀ eq

  abbrev S : Client → Model
  S = state_of m₀ eq

  -- its page is that of the state in which it asks
  module _ (h : History) (clocks : Clocks h) (t : ℕ) (small : t < 4294967296) (session clock : ℕ) (input out : List ℕ)
      (a : Asks (run m₀ h) eq t session input out) where
    abbrev m : Model
    m = run m₀ h

    answered : Answers (run m₀ h) eq t session clock input out
    answered = page_answer (run m₀ h) (after h clocks) eq valid t small session clock input out a

    page_is : page_in (run m₀ (h ▸ receive session clock input out)) session ≡ map entry_of (page_of (run m₀ h) eq t)
    unfolding page_in run
    page_is =
        ap (λ (ns : List ℕ). map (λ (n : ℕ). entry n (time_of (find n (step m (receive session clock input out)).after.files))) ns) answered.page
        ∙ ap (λ (x : Model). map (λ (n : ℕ). entry n (time_of (find n x.files))) (numbers_of (page_of m eq t))) answered.after
        ∙ page_read m (after h clocks) eq t

  module _ (h : History) (clocks : Clocks h) (t : ℕ) (given : List Entry) (i : Inv (run m₀ h) eq t given) (session clock : ℕ) (input out : List ℕ)
      (a : Asks (run m₀ h) eq t session input out) where
    K : Known (run m₀ h)
    K = after h clocks

    abbrev asking : Call
    asking = receive session clock input out

    small : t < 4294967296
    small = omega (arith, i.low, K.small)

    read : page_in (run m₀ (h ▸ asking)) session ≡ page (run m₀ h) K eq t
    read = page_is h clocks t small session clock input out a

    inv_page : Inv (run m₀ (h ▸ asking)) eq (newest_of t (page_in (run m₀ (h ▸ asking)) session)) (given ++ page_in (run m₀ (h ▸ asking)) session)
    inv_page =
        subst (λ (l : List Entry). Inv (run m₀ (h ▸ asking)) eq (newest_of t l) (given ++ l)) (sym read)
        (unfold run in
        inv_call (run m₀ h) K eq asking (newest_of t (page (run m₀ h) K eq t)) (given ++ page (run m₀ h) K eq t) (inv_asks (run m₀ h) K eq t given i))

    page_stood : (e : Entry) → Memᴰ e (page_in (run m₀ (h ▸ asking)) session) → Stands (run m₀ (h ▸ asking)) eq e
    page_stood e j =
        unfold run in
        stands_kept (run m₀ h) K eq asking e (page_stands (run m₀ h) K eq t e (subst (λ (l : List Entry). Memᴰ e l) read j))

    page_all : length (page_in (run m₀ (h ▸ asking)) session) < maxsel → (e : Entry) → Matches (run m₀ (h ▸ asking)) eq e
        → Memᴰ e (given ++ page_in (run m₀ (h ▸ asking)) session)
    page_all f e q =
        subst (λ (l : List Entry). Memᴰ e (given ++ l)) (sym read)
        (last_page (run m₀ h) K eq t given i (let z = ap length read in let w = run_maxsel blocks places sessions maxsel h in omega arith) e
        (record { file = q.file; found = before; time = q.time; complete = q.complete; matched = q.matched }))
      where
        before : find e.number (run m₀ h).files ≡ some q.file
        before =
            ap (λ (x : Model). find e.number x.files) (sym (answered h clocks t small session clock input out a).after) ∙ unfold run in q.found

  client_inv : (c : Client) → Allowed m₀ eq c → Clocks (R c).history → Inv (S c) eq (R c).newest (R c).given
  unfolding paged_by run
  client_inv (begins h) a k = inv_begins (run m₀ h) eq
  client_inv (waits c call) a k =
      inv_call (S c) (after (R c).history k.0) eq call (R c).newest (R c).given
      (client_inv c a k.0)
  client_inv (asks c session clock input out) a k =
      inv_page (R c).history k.0 (R c).newest (R c).given (client_inv c a.0 k.0) session clock input out a.1

  -- a page that is shorter than MAXSEL
  client_all : (c : Client) → Allowed m₀ eq c → Clocks (R c).history → Finished m₀ eq c
      → (e : Entry) → Matches (S c) eq e → Memᴰ e (R c).given
  unfolding paged_by
  client_all (begins h) a k f = absurd f
  client_all (waits c call) a k f = absurd f
  client_all (asks c session clock input out) a k f =
      page_all (R c).history k.0 (R c).newest (R c).given (client_inv c a.0 k.0) session clock input out a.1 f

  client_stood : (c : Client) → Allowed m₀ eq c → Clocks (R c).history → EachStood m₀ eq c
  unfolding paged_by
  client_stood (begins h) a k = tt
  client_stood (waits c call) a k = client_stood c a k.0
  client_stood (asks c session clock input out) a k = (
    client_stood c a.0 k.0,
    page_stood (R c).history k.0 (R c).newest (R c).given (client_inv c a.0 k.0) session clock input out a.1,
  )

  -- in a store from which nothing is removed, what was given stands still
  client_each : (c : Client) → Allowed m₀ eq c → Clocks (R c).history → (e : Entry) → Memᴰ e (R c).given
      → Stands (S c) eq e
  unfolding paged_by run
  client_each (begins h) a k e i = absurd (mathlib.Core.List.Memᴰ.not-nil i)
  client_each (waits c call) a k e i =
      stands_kept (S c) (after (R c).history k.0) eq call e (client_each c a k.0 e i)
  client_each (asks c session clock input out) a k e i =
      ⊎_elim
      (λ (j : Memᴰ e (R c).given).
      stands_kept (S c) (after (R c).history k.0) eq (receive session clock input out) e
      (client_each c a.0 k.0 e j))
      (λ (j : Memᴰ e (page_for m₀ eq (R c) session clock input out)). (client_stood (asks c session clock input out) a k).1 e j)
      (in_either e (R c).given (page_for m₀ eq (R c) session clock input out) i)

  client_whole : (c : Client) → Allowed m₀ eq c → Clocks (R c).history → Finished m₀ eq c
      → (R c).given ≡ map entry_of (oldest_first eq (S c))
  client_whole c a k f =
      let K = after (R c).history k in
      rises_unique 0 0 (R c).given (map entry_of (oldest_first eq (S c))) (client_inv c a k).rises
      (rising_entries 0 (oldest_first eq (S c)) (all_rise (S c) K eq))
      (λ e i.
      let j = of_matches (S c) K eq e (client_each c a k e i).matches in
      subst (λ (x : Entry). Memᴰ x (map entry_of (oldest_first eq (S c)))) j.same
      (map_in entry_of j.file (oldest_first eq (S c)) j.inside))
      (λ e i.
      let j = in_map entry_of e (oldest_first eq (S c)) i in
      client_all c a k f e (subst (Matches (S c) eq) (sym j.same) (stands_of (S c) K eq j.of j.inside).matches))

-- the newest time that a client knows is a 32-bit number
pub newest_small : (blocks places sessions maxsel : ℕ) (eq : List ℕ) → validity_of eq ≡ 0 → (c : Client) → Allowed (empty blocks places sessions maxsel) eq c
    → Clocks (paged_by (empty blocks places sessions maxsel) eq c).history → (paged_by (empty blocks places sessions maxsel) eq c).newest < 4294967296
newest_small blocks places sessions maxsel eq valid c a k =
    let K = known blocks places sessions maxsel (paged_by (empty blocks places sessions maxsel) eq c).history k in
    omega (arith, (client_inv blocks places sessions maxsel eq valid c a k).low, K.small)

-- ---- THE THEOREMS

pub page_answered : PageAnswer
page_answered blocks places sessions maxsel h clocks eq valid t small session clock input out a =
    answered blocks places sessions maxsel eq valid h clocks t small session clock input out a

pub paging : Paging
paging blocks places sessions maxsel eq valid c a k f =
    let i = client_inv blocks places sessions maxsel eq valid c a k in
    record {
      stood = client_stood blocks places sessions maxsel eq valid c a k;
      once = i.once;
      oldest_first_law = i.rises;
      every = client_all blocks places sessions maxsel eq valid c a k f;
    }

pub paging_whole : PagingWhole
paging_whole blocks places sessions maxsel eq valid c a k f = client_whole blocks places sessions maxsel eq valid c a k f
