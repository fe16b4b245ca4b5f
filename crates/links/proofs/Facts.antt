-- What refusal 35 says of the sessions ("a length, offset or name points at what the store lacks"), as facts, and that `links_sound` is true
-- exactly where they hold. With what calls keep besides (`LinksKept`) they are the facts of every state that calls made. Four closed sessions
-- have them, whatever the store. Assumes nothing.
use mathlib.Core.Path.{◌≡◌, refl, sym, ◌∙◌}
use mathlib.Core.Bool.{Bool, true, false, cond, not}
use mathlib.Core.List.{List, [], ◌∷◌}
use Prim.Native.Nat.{ℕ, zero, suc, ◌+◌, ◌*◌, ◌≤◌, ◌<◌}
use native.Mathlib.Omega.{arith}
use native.Mathlib.Nat.{suc-mul, mul-le-mul_right}
use lib.Dec.{eqb, leb, ltb}
use lib.ListN.{length, get_or, take, drop, length-drop}
use lib.Seq.{length-take-le, get_or-take}
use borrow.Author.Count.{below_none, below_more}
use borrow.Author.Tests.{ltb-false, ltb-true, leb-true, eqb-true, eqb-false, not-true, lt-ltb, le-ltb, le-leb, eq-eqb, ne_eqb}
use Rattle.packet.specs.Frame.{announced_in}
use Rattle.session.specs.declared.state.Session.{Session}
use Rattle.session.specs.declared.state.Uplink.{Uplink}
use Rattle.session.specs.declared.state.Uplink.TheVariants as up
use Rattle.session.specs.declared.state.Downlink.{Downlink}
use Rattle.session.specs.declared.state.Downlink.TheVariants as down
use Rattle.session.specs.declared.state.Listed.{Listed}
use Rattle.session.specs.declared.state.Listed.TheVariants as listed
use Rattle.session.specs.State.{closed_session}
use Rattle.table.specs.declared.File.{File}
use Rattle.std.proofs.Common.{Option, Some, None}
use Rattle.table.specs.Table.{file_at, find_of}
use Rattle.directory.specs.Directory.{found_in}
use Rattle.links.specs.Sound.{complete_at, uplink_sound, listed_sound, size_in, directory_sound, downlink_sound, named_at, named_sound, names_sound, selection_sound, packet_sound, link_sound, link_in, link_at, link, links_sound}
use Rattle.links.specs.Kept.{Uploads, LinksKept}

-- ---- the facts

-- a complete file stands at the place: a number and an upload time
pub record CompleteAt (fs : List File) (place : ℕ) : Type 0 where
  pub number : (file_at fs place).number ≡ 0 → ⊥
  pub time : (file_at fs place).time ≡ 0 → ⊥

-- a partial file stands at the place, a number and no upload time, and so many bytes are to the file's bytes as R says
pub record PartialBy (R : ℕ → ℕ → Type 0) (fs : List File) (place received : ℕ) : Type 0 where
  pub number : (file_at fs place).number ≡ 0 → ⊥
  pub time : (file_at fs place).time ≡ 0
  pub agree : R received (file_at fs place).received

-- they are all of the file's bytes
abbrev pub PartialAt : List File → ℕ → ℕ → Type 0
PartialAt = PartialBy ◌≡◌

-- a download has a complete file, and has not passed its end
pub record SendingAt (fs : List File) (place sent : ℕ) : Type 0 where
  pub complete : CompleteAt fs place
  pub within : sent ≤ (file_at fs place).size

-- a directory has complete files, has come to one of them or past the last, and not past that one's end
pub record ListingAt (fs : List File) (selected : List ℕ) (next : ℕ) (l : Listed) (done sent : ℕ) : Type 0 where
  pub one : (place : ℕ) → l ≡ listed.One place → CompleteAt fs place
  pub come : done ≤ length (found_in l next fs selected)
  pub within : sent ≤ size_in fs (get_or (found_in l next fs selected) done None)

-- the number is that of a complete file
pub record Selectable (fs : List File) (number : ℕ) : Type 0 where
  pub place : ℕ
  pub found : find_of fs number ≡ Some place
  pub complete : CompleteAt fs place

-- an unfinished packet has fewer bytes than its head announces, and it announces 256 at most
pub record Unfinished (held : ℕ) (part : List ℕ) : Type 0 where
  pub announces : announced_in part ≤ 256
  pub fewer : held < 2 + announced_in part

-- an open session, its part of the selections and of the unfinished packets; R is as above
pub record LinkBy (R : ℕ → ℕ → Type 0) (fs : List File) (most : ℕ) (selected part : List ℕ) (s : Session) : Type 0 where
  pub receiving : (place offset received : ℕ) → s.up ≡ up.Receiving place offset received → PartialBy R fs place (offset + received)
  pub sending : (place offset sent : ℕ) → s.down ≡ down.Sending place offset sent → SendingAt fs place (offset + sent)
  pub ended : (place : ℕ) → s.down ≡ down.Ended place → CompleteAt fs place
  pub aborting : (place : ℕ) → s.down ≡ down.Aborting place → CompleteAt fs place
  pub listing : (l : Listed) (long : Bool) (done sent : ℕ) → s.down ≡ down.Listing l long done sent → ListingAt fs selected s.next l done sent
  pub at_most : s.count ≤ most
  pub next : s.next ≤ s.count
  pub names : (k : ℕ) → k < s.count → Selectable fs (get_or selected k 0)
  pub packet : 2 ≤ s.held → Unfinished s.held part

-- as refusal 35 tests it, and as calls keep it
abbrev pub LinkTested : List File → ℕ → List ℕ → List ℕ → Session → Type 0
LinkTested = LinkBy ◌≤◌

abbrev pub LinkFacts : List File → ℕ → List ℕ → List ℕ → Session → Type 0
LinkFacts = LinkBy ◌≡◌

-- session i's part of the selections, MAXSEL numbers, and of the unfinished packets, 258 bytes
abbrev pub selection_of : ℕ → List ℕ → ℕ → List ℕ
selection_of most selected i = take most (drop (i * most) selected)

abbrev pub packet_of : List ℕ → ℕ → List ℕ
packet_of held i = take 258 (drop (i * 258) held)

-- all sessions, as refusal 35 tests them: at most 4 and MAXSEL at most 50, what they lend is long enough, and each open one has its facts
pub record LinksTested (fs : List File) (sessions most : ℕ) (selected held : List ℕ) (links : List Session) : Type 0 where
  pub number : sessions ≤ 4
  pub maxsel : most ≤ 50
  pub selections : sessions * most ≤ length selected
  pub packets : sessions * 258 ≤ length held
  pub each : (i : ℕ) → i < sessions → (link links i).linked ≡ true
      → LinkTested fs most (selection_of most selected i) (packet_of held i) (link links i)

-- all sessions, as calls keep them: also, one beyond their number is closed, and no two upload the same file
pub record LinksFacts (fs : List File) (sessions most : ℕ) (selected held : List ℕ) (links : List Session) : Type 0 where
  pub number : sessions ≤ 4
  pub maxsel : most ≤ 50
  pub selections : sessions * most ≤ length selected
  pub packets : sessions * 258 ≤ length held
  pub each : (i : ℕ) → i < sessions → (link links i).linked ≡ true
      → LinkFacts fs most (selection_of most selected i) (packet_of held i) (link links i)
  pub beyond : (i : ℕ) → sessions ≤ i → i < 4 → (link links i).linked ≡ false
  pub apart : (i j : ℕ) → i < j → j < 4 → (place : ℕ) → Uploads (link links i) place → Uploads (link links j) place → ⊥

-- ---- tests in a row

clash : false ≡ true → ⊥
clash e = let z : ◌≡◌ {A = ℕ} 0 1 = cc in omega arith

first : (a b : Bool) → cond a b false ≡ true → a ≡ true
first true b e = refl
first false b e = absurd (clash e)

rest : (a b : Bool) → cond a b false ≡ true → b ≡ true
rest true b e = e
rest false b e = absurd (clash e)

both : (a b : Bool) → a ≡ true → b ≡ true → cond a b false ≡ true
both true b e f = f
both false b e f = e

-- `cond a false b` has its first test the other way round
not_first : (a b : Bool) → cond a false b ≡ true → a ≡ false
not_first true b e = absurd (clash e)
not_first false b e = refl

not_rest : (a b : Bool) → cond a false b ≡ true → b ≡ true
not_rest true b e = absurd (clash e)
not_rest false b e = e

-- ---- files

pub complete_fact : (fs : List File) (place : ℕ) → complete_at fs place ≡ true → CompleteAt fs place
complete_fact fs place e = go (eqb (file_at fs place).number 0) refl e
  where
    go : (b : Bool) → eqb (file_at fs place).number 0 ≡ b → not (eqb (cond b 0 (file_at fs place).time) 0) ≡ true → CompleteAt fs place
    go true n e = absurd (clash e)
    go false n e = record { number = eqb-false _ _ n; time = eqb-false _ _ (not-true _ e) }

pub complete_test : (fs : List File) (place : ℕ) → CompleteAt fs place → complete_at fs place ≡ true
complete_test fs place h = rw (ne_eqb (file_at fs place).number 0 h.number, ne_eqb (file_at fs place).time 0 h.time)

pub partial_fact : (fs : List File) (place offset received : ℕ) → uplink_sound fs (up.Receiving place offset received) ≡ true → PartialBy ◌≤◌ fs place (offset + received)
unfolding uplink_sound
partial_fact fs place offset received e =
    record {
      number = eqb-false _ _ (not_first (eqb (file_at fs place).number 0) _ e);
      time = eqb-true _ _ (first (eqb (file_at fs place).time 0) _ (not_rest (eqb (file_at fs place).number 0) _ e));
      agree = leb-true _ _ (rest (eqb (file_at fs place).time 0) _ (not_rest (eqb (file_at fs place).number 0) _ e));
    }

pub partial_test : (fs : List File) (place offset received : ℕ) → PartialBy ◌≤◌ fs place (offset + received) → uplink_sound fs (up.Receiving place offset received) ≡ true
unfolding uplink_sound
partial_test fs place offset received h =
    rw (ne_eqb (file_at fs place).number 0 h.number, eq-eqb (file_at fs place).time 0 h.time)
    (le-leb (offset + received) (file_at fs place).received h.agree)

module _ (fs : List File) (selected : List ℕ) (next : ℕ) where
  pub sending_fact : (place offset sent : ℕ)
      → downlink_sound fs selected next (down.Sending place offset sent) ≡ true
      → SendingAt fs place (offset + sent)
  unfolding downlink_sound
  sending_fact place offset sent e =
      record { complete = complete_fact fs place (first (complete_at fs place) _ e); within = leb-true _ _ (rest (complete_at fs place) _ e) }

  pub sending_test : (place offset sent : ℕ)
      → SendingAt fs place (offset + sent)
      → downlink_sound fs selected next (down.Sending place offset sent) ≡ true
  unfolding downlink_sound
  sending_test place offset sent h = both _ _ (complete_test fs place h.complete) (le-leb _ _ h.within)

  ended_fact : (place : ℕ) → downlink_sound fs selected next (down.Ended place) ≡ true → CompleteAt fs place
  unfolding downlink_sound
  ended_fact place e = complete_fact fs place e

  aborting_fact : (place : ℕ) → downlink_sound fs selected next (down.Aborting place) ≡ true → CompleteAt fs place
  unfolding downlink_sound
  aborting_fact place e = complete_fact fs place e

  one_fact : (l : Listed) → listed_sound fs l ≡ true → (place : ℕ) → l ≡ listed.One place → CompleteAt fs place
  unfolding listed_sound
  one_fact l e place q = complete_fact fs place (rw q at e)

  pub listing_fact : (l : Listed) (long : Bool) (done sent : ℕ)
      → downlink_sound fs selected next (down.Listing l long done sent) ≡ true
      → ListingAt fs selected next l done sent
  unfolding downlink_sound directory_sound
  listing_fact l long done sent e =
      let e₁ = rest (listed_sound fs l) _ e in
      record {
        one = one_fact l (first (listed_sound fs l) _ e);
        come = leb-true _ _ (first (leb done (length (found_in l next fs selected))) _ e₁);
        within = leb-true _ _ (rest (leb done (length (found_in l next fs selected))) _ e₁);
      }

  one_test : (l : Listed) → ((place : ℕ) → l ≡ listed.One place → CompleteAt fs place) → listed_sound fs l ≡ true
  unfolding listed_sound
  one_test (listed.One place) f = complete_test fs place (f place refl)
  one_test (listed.Selected first) f = refl

  pub listing_test : (l : Listed) (long : Bool) (done sent : ℕ)
      → ListingAt fs selected next l done sent
      → downlink_sound fs selected next (down.Listing l long done sent) ≡ true
  unfolding downlink_sound directory_sound
  listing_test l long done sent h = both _ _ (one_test l h.one) (both _ _ (le-leb _ _ h.come) (le-leb _ _ h.within))

-- the two sides of a session
uplink_test : (fs : List File) (u : Uplink)
    → ((place offset received : ℕ) → u ≡ up.Receiving place offset received → PartialBy ◌≤◌ fs place (offset + received))
    → uplink_sound fs u ≡ true
unfolding uplink_sound
uplink_test fs up.Idle f = refl
uplink_test fs (up.Receiving place offset received) f = partial_test fs place offset received (f place offset received refl)
uplink_test fs up.Ignoring f = refl

module _ (fs : List File) (selected : List ℕ) (next : ℕ) where
  downlink_test : (d : Downlink)
      → ((place offset sent : ℕ) → d ≡ down.Sending place offset sent → SendingAt fs place (offset + sent))
      → ((place : ℕ) → d ≡ down.Ended place → CompleteAt fs place)
      → ((place : ℕ) → d ≡ down.Aborting place → CompleteAt fs place)
      → ((l : Listed) (long : Bool) (done sent : ℕ) → d ≡ down.Listing l long done sent → ListingAt fs selected next l done sent)
      → downlink_sound fs selected next d ≡ true
  unfolding downlink_sound
  downlink_test down.Idle f g h k = refl
  downlink_test (down.Sending place offset sent) f g h k = sending_test fs selected next place offset sent (f place offset sent refl)
  downlink_test (down.Ended place) f g h k = complete_test fs place (g place refl)
  downlink_test (down.Aborting place) f g h k = complete_test fs place (h place refl)
  downlink_test (down.Listing l long done sent) f g h k = listing_test fs selected next l long done sent (k l long done sent refl)

-- ---- selections

pub selectable_fact : (fs : List File) (number : ℕ) → named_sound fs number ≡ true → Selectable fs number
unfolding named_at
selectable_fact fs number e = go (find_of fs number) refl e
  where
    go : (w : Option ℕ) → find_of fs number ≡ w → named_at fs w ≡ true → Selectable fs number
    go None q e = absurd (clash e)
    go (Some place) q e = record { place = place; found = q; complete = complete_fact fs place e }

pub selectable_test : (fs : List File) (number : ℕ) → Selectable fs number → named_sound fs number ≡ true
unfolding named_at
selectable_test fs number h = rw h.found (complete_test fs h.place h.complete)

pub names_fact : (fs : List File) (xs : List ℕ) → names_sound fs xs ≡ true → (k : ℕ) → k < length xs → Selectable fs (get_or xs k 0)
unfolding names_sound
names_fact fs [] e k h = absurd (omega arith)
names_fact fs (x ∷ xs) e zero h = selectable_fact fs x (first (named_sound fs x) _ e)
names_fact fs (x ∷ xs) e (suc k) h = names_fact fs xs (rest (named_sound fs x) (names_sound fs xs) e) k (omega arith)

pub names_test : (fs : List File) (xs : List ℕ) → ((k : ℕ) → k < length xs → Selectable fs (get_or xs k 0)) → names_sound fs xs ≡ true
unfolding names_sound
names_test fs [] f = refl
names_test fs (x ∷ xs) f =
    both _ _ (selectable_test fs x (f 0 (omega arith))) (names_test fs xs (λ k h. f (suc k) (omega arith)))

-- the first `count` of a selection that has so many
module _ (fs : List File) (xs : List ℕ) (count : ℕ) (fits : count ≤ length xs) where
  taken_fact : names_sound fs (take count xs) ≡ true → (k : ℕ) → k < count → Selectable fs (get_or xs k 0)
  taken_fact e k h = rw (get_or-take count xs k 0 h) at (names_fact fs (take count xs) e k (rw (length-take-le count xs fits) h))

  taken_test : ((k : ℕ) → k < count → Selectable fs (get_or xs k 0)) → names_sound fs (take count xs) ≡ true
  taken_test f = names_test fs (take count xs) (λ k h. here k (rw (length-take-le count xs fits) at h))
    where
      here : (k : ℕ) → k < count → Selectable fs (get_or (take count xs) k 0)
      here k h = rw (get_or-take count xs k 0 h) (f k h)

-- ---- unfinished packets

pub unfinished_fact : (held : ℕ) (part : List ℕ) → packet_sound held part ≡ true → 2 ≤ held → Unfinished held part
unfolding packet_sound
unfinished_fact held part e h = go (rw (le-ltb held 2 h) at e)
  where
    go : cond (leb (announced_in part) 256) (ltb held (2 + announced_in part)) false ≡ true → Unfinished held part
    go e =
        record {
          announces = leb-true (announced_in part) 256 (first (leb (announced_in part) 256) _ e);
          fewer = ltb-true held (2 + announced_in part) (rest (leb (announced_in part) 256) _ e);
        }

pub unfinished_test : (held : ℕ) (part : List ℕ) → (2 ≤ held → Unfinished held part) → packet_sound held part ≡ true
unfolding packet_sound
unfinished_test held part f = go (ltb held 2) refl
  where
    last : Unfinished held part → cond (leb (announced_in part) 256) (ltb held (2 + announced_in part)) false ≡ true
    last u = both _ _ (le-leb _ _ u.announces) (lt-ltb _ _ u.fewer)

    go : (b : Bool) → ltb held 2 ≡ b → cond b true (cond (leb (announced_in part) 256) (ltb held (2 + announced_in part)) false) ≡ true
    go true e = refl
    go false e = last (f (ltb-false _ _ e))

-- ---- a session

module _ (fs : List File) (most : ℕ) (selected part : List ℕ) (s : Session) (size : length selected ≡ most) where
  pub link_fact : link_sound fs most selected part s ≡ true → s.linked ≡ true → LinkTested fs most selected part s
  unfolding link_sound selection_sound
  link_fact e l = go (rw l at e)
    where
      chosen : cond (leb s.count most) (cond (leb s.next s.count) (names_sound fs (take s.count selected)) false) false ≡ true
          → uplink_sound fs s.up ≡ true
          → downlink_sound fs selected s.next s.down ≡ true
          → packet_sound s.held part ≡ true
          → LinkTested fs most selected part s
      chosen c u d p =
          let m : s.count ≤ most = leb-true _ _ (first (leb s.count most) _ c) in
          let n = rest (leb s.count most) _ c in
          record {
            receiving = λ place offset received q. partial_fact fs place offset received (rw q at u);
            sending = λ place offset sent q. sending_fact fs selected s.next place offset sent (rw q at d);
            ended = λ place q. ended_fact fs selected s.next place (rw q at d);
            aborting = λ place q. aborting_fact fs selected s.next place (rw q at d);
            listing = λ l long done sent q. listing_fact fs selected s.next l long done sent (rw q at d);
            at_most = m;
            next = leb-true _ _ (first (leb s.next s.count) _ n);
            names = taken_fact fs selected s.count (omega arith) (rest (leb s.next s.count) _ n);
            packet = unfinished_fact s.held part p;
          }

      go : cond (uplink_sound fs s.up) (cond (downlink_sound fs selected s.next s.down) (cond (selection_sound fs most selected s.count s.next) (packet_sound s.held part) false) false) false ≡ true
          → LinkTested fs most selected part s
      go e =
          let e₁ = rest (uplink_sound fs s.up) _ e in
          let e₂ = rest (downlink_sound fs selected s.next s.down) _ e₁ in
          let selection = selection_sound fs most selected s.count s.next in
          chosen (first selection _ e₂) (first (uplink_sound fs s.up) _ e) (first (downlink_sound fs selected s.next s.down) _ e₁) (rest selection _ e₂)

  pub link_test : (s.linked ≡ true → LinkTested fs most selected part s) → link_sound fs most selected part s ≡ true
  unfolding link_sound selection_sound
  link_test f = go s.linked refl
    where
      opened : LinkTested fs most selected part s
          → cond (uplink_sound fs s.up) (cond (downlink_sound fs selected s.next s.down) (cond (selection_sound fs most selected s.count s.next) (packet_sound s.held part) false) false) false ≡ true
      opened h =
          let m : s.count ≤ length selected = omega (arith, h.at_most) in
          both _ _ (uplink_test fs s.up h.receiving)
          (both _ _ (downlink_test fs selected s.next s.down h.sending h.ended h.aborting h.listing)
          (both _ _
          (both _ _ (le-leb _ _ h.at_most) (both _ _ (le-leb _ _ h.next) (taken_test fs selected s.count m h.names)))
          (unfinished_test s.held part h.packet)))

      go : (b : Bool) → s.linked ≡ b
          → cond b (cond (uplink_sound fs s.up) (cond (downlink_sound fs selected s.next s.down) (cond (selection_sound fs most selected s.count s.next) (packet_sound s.held part) false) false) false) true ≡ true
      go true l = opened (f l)
      go false l = refl

-- ---- all sessions

-- what holds of 0 to 3
four : (P : ℕ → Type 0) → P 0 → P 1 → P 2 → P 3 → (i : ℕ) → i < 4 → P i
four P a b c d = below_more P 3 (below_more P 2 (below_more P 1 (below_more P 0 (below_none P) a) b) c) d

-- part i of so many equal parts ends within them
pub part_end : (i parts size : ℕ) → i < parts → i * size + size ≤ parts * size
part_end i parts size h = rw suc-mul at (mul-le-mul_right {m = suc i} {n = parts} size h)

-- session i's part of the selections has MAXSEL numbers
part_size : (most : ℕ) (selected : List ℕ) (sessions i : ℕ) → sessions * most ≤ length selected → i < sessions → length (selection_of most selected i) ≡ most
part_size most selected sessions i h l =
    length-take-le most (drop (i * most) selected) (rw (length-drop (i * most) selected) (omega (arith, part_end i sessions most l)))

module _ (fs : List File) (sessions most : ℕ) (selected held : List ℕ) where
  in_fact : (s : Session) (i : ℕ) → sessions * most ≤ length selected → link_in fs sessions most selected held s i ≡ true
      → i < sessions → s.linked ≡ true → LinkTested fs most (selection_of most selected i) (packet_of held i) s
  unfolding link_in
  in_fact s i h e l o =
      link_fact fs most (selection_of most selected i) (packet_of held i) s (part_size most selected sessions i h l) (rw (lt-ltb i sessions l) at e) o

  in_test : (s : Session) (i : ℕ) → sessions * most ≤ length selected
      → (i < sessions → s.linked ≡ true → LinkTested fs most (selection_of most selected i) (packet_of held i) s)
      → link_in fs sessions most selected held s i ≡ true
  unfolding link_in
  in_test s i h f = go (ltb i sessions) refl
    where
      go : (b : Bool) → ltb i sessions ≡ b
          → cond b (link_sound fs most (selection_of most selected i) (packet_of held i) s) true ≡ true
      go true e =
          let l : i < sessions = ltb-true _ _ e in
          link_test fs most (selection_of most selected i) (packet_of held i) s (part_size most selected sessions i h l) (f l)
      go false e = refl

module _ (fs : List File) (sessions most : ℕ) (selected held : List ℕ) (links : List Session) where
  record Tests : Type 0 where
    number : leb sessions 4 ≡ true
    maxsel : leb most 50 ≡ true
    selections : leb (sessions * most) (length selected) ≡ true
    packets : leb (sessions * 258) (length held) ≡ true
    each : (i : ℕ) → i < 4 → link_at fs sessions most selected held links i ≡ true

  -- `links_sound` is true: the facts hold
  pub sound_facts : links_sound fs sessions most selected held links ≡ true → LinksTested fs sessions most selected held links
  unfolding links_sound
  sound_facts e =
      let linked_at : ℕ → Bool = link_at fs sessions most selected held links in
      let e₁ = rest (leb sessions 4) _ e in
      let e₂ = rest (leb most 50) _ e₁ in
      let e₃ = rest (leb (sessions * most) (length selected)) _ e₂ in
      let e₄ = rest (leb (sessions * 258) (length held)) _ e₃ in
      let e₅ = rest (linked_at 0) _ e₄ in
      let e₆ = rest (linked_at 1) _ e₅ in
      facts
      (record {
        number = first (leb sessions 4) _ e;
        maxsel = first (leb most 50) _ e₁;
        selections = first (leb (sessions * most) (length selected)) _ e₂;
        packets = first (leb (sessions * 258) (length held)) _ e₃;
        each = four (λ i. linked_at i ≡ true) (first (linked_at 0) _ e₄) (first (linked_at 1) _ e₅) (first (linked_at 2) _ e₆) (rest (linked_at 2) _ e₆);
      })
    where
      facts : Tests → LinksTested fs sessions most selected held links
      facts t =
          let n : sessions * most ≤ length selected = leb-true _ _ t.selections in
          let m : sessions ≤ 4 = leb-true _ _ t.number in
          record {
            number = m;
            maxsel = leb-true _ _ t.maxsel;
            selections = n;
            packets = leb-true _ _ t.packets;
            each = λ i l. in_fact fs sessions most selected held (link links i) i n (t.each i (omega arith)) l;
          }

  -- the facts hold: `links_sound` is true
  pub facts_sound : LinksTested fs sessions most selected held links → links_sound fs sessions most selected held links ≡ true
  unfolding links_sound
  facts_sound f =
      both _ _ (le-leb _ _ f.number)
      (both _ _ (le-leb _ _ f.maxsel)
      (both _ _ (le-leb _ _ f.selections)
      (both _ _ (le-leb _ _ f.packets)
      (both _ _ (one 0) (both _ _ (one 1) (both _ _ (one 2) (one 3)))))))
    where
      one : (i : ℕ) → link_at fs sessions most selected held links i ≡ true
      one i = in_test fs sessions most selected held (link links i) i f.selections (f.each i)

-- ---- what calls keep

-- a session's facts by one relation, from those by another and what its upload's bytes are
with_bytes_law : (R Q : ℕ → ℕ → Type 0) (fs : List File) (most : ℕ) (selected part : List ℕ) (s : Session) → LinkBy R fs most selected part s
    → ((place offset received : ℕ) → s.up ≡ up.Receiving place offset received → Q (offset + received) (file_at fs place).received)
    → LinkBy Q fs most selected part s
with_bytes_law R Q fs most selected part s f q =
    record {
      receiving = λ place offset received e.
          let p = f.receiving place offset received e in
          record { number = p.number; time = p.time; agree = q place offset received e };
      sending = f.sending;
      ended = f.ended;
      aborting = f.aborting;
      listing = f.listing;
      at_most = f.at_most;
      next = f.next;
      names = f.names;
      packet = f.packet;
    }

module _ (fs : List File) (sessions most : ℕ) (selected held : List ℕ) (links : List Session) where
  -- what 35 tests and what calls keep are the facts of a state that calls made
  pub kept_facts : LinksTested fs sessions most selected held links → LinksKept fs sessions links → LinksFacts fs sessions most selected held links
  kept_facts t k =
      record {
        number = t.number;
        maxsel = t.maxsel;
        selections = t.selections;
        packets = t.packets;
        each = λ i l o.
            with_bytes_law ◌≤◌ ◌≡◌ fs most (selection_of most selected i) (packet_of held i) (link links i) (t.each i l o)
            (λ place offset received e. k.bytes i place l (record { linked = o; offset = offset; received = received; receiving = e }));
        beyond = k.beyond;
        apart = k.apart;
      }

  pub facts_tested : LinksFacts fs sessions most selected held links → LinksTested fs sessions most selected held links
  facts_tested f =
      record {
        number = f.number;
        maxsel = f.maxsel;
        selections = f.selections;
        packets = f.packets;
        each = λ i l o.
            with_bytes_law ◌≡◌ ◌≤◌ fs most (selection_of most selected i) (packet_of held i) (link links i) (f.each i l o)
            (λ place offset received e. omega (arith, ((f.each i l o).receiving place offset received e).agree));
      }

  pub facts_kept : LinksFacts fs sessions most selected held links → LinksKept fs sessions links
  facts_kept f =
      record {
        bytes = λ i place l u. ((f.each i l u.linked).receiving place u.offset u.received u.receiving).agree;
        beyond = f.beyond;
        apart = f.apart;
      }

-- ---- the state at making

closed_in : (fs : List File) (sessions most : ℕ) (selected held : List ℕ) (i : ℕ) → link_in fs sessions most selected held closed_session i ≡ true
unfolding link_in link_sound
closed_in fs sessions most selected held i = either (ltb i sessions)
  where
    either : (b : Bool) → cond b true true ≡ true
    either true = refl
    either false = refl

-- four closed sessions are sound, whatever the store: no session names anything before its link is made
closed_sound : (fs : List File) (sessions most : ℕ) (selected held : List ℕ)
    → sessions ≤ 4
    → most ≤ 50
    → sessions * most ≤ length selected
    → sessions * 258 ≤ length held
    → links_sound fs sessions most selected held (closed_session ∷ closed_session ∷ closed_session ∷ closed_session ∷ []) ≡ true
unfolding links_sound
closed_sound fs sessions most selected held n m l k =
    both _ _ (le-leb _ _ n)
    (both _ _ (le-leb _ _ m)
    (both _ _ (le-leb _ _ l)
    (both _ _ (le-leb _ _ k)
    (both _ _ (closed 0) (both _ _ (closed 1) (both _ _ (closed 2) (closed 3)))))))
  where
    closed : (i : ℕ) → link_in fs sessions most selected held closed_session i ≡ true
    closed = closed_in fs sessions most selected held

-- and nothing is uploaded
closed_kept : (fs : List File) (sessions : ℕ) → LinksKept fs sessions (closed_session ∷ closed_session ∷ closed_session ∷ closed_session ∷ [])
closed_kept fs sessions =
    record {
      bytes = λ i place l u. absurd (clash (sym (closed i) ∙ u.linked));
      beyond = λ i l h. closed i;
      apart = λ i j l h place u v. clash (sym (closed i) ∙ u.linked);
    }
  where
    closed : (i : ℕ) → (link (closed_session ∷ closed_session ∷ closed_session ∷ closed_session ∷ []) i).linked ≡ false
    closed zero = refl
    closed (suc zero) = refl
    closed (suc (suc zero)) = refl
    closed (suc (suc (suc zero))) = refl
    closed (suc (suc (suc (suc i)))) = refl

pub closed_facts : (fs : List File) (sessions most : ℕ) (selected held : List ℕ)
    → sessions ≤ 4
    → most ≤ 50
    → sessions * most ≤ length selected
    → sessions * 258 ≤ length held
    → LinksFacts fs sessions most selected held (closed_session ∷ closed_session ∷ closed_session ∷ closed_session ∷ [])
closed_facts fs sessions most selected held n m l k =
    let links = closed_session ∷ closed_session ∷ closed_session ∷ closed_session ∷ [] in
    kept_facts fs sessions most selected held links
    (sound_facts fs sessions most selected held links (closed_sound fs sessions most selected held n m l k)) (closed_kept fs sessions)
