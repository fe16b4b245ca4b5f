-- What an act that was decided on says of the session and of the files: an upload acted on is the session's own, a file taken up again is a
-- partial one that no session uploads, and a file sent is a complete one.
use mathlib.Core.Path.{◌≡◌, refl, sym, ◌∙◌, subst}
use mathlib.Core.Bool.{Bool, true, false, cond}
use mathlib.Core.List.{List}
use Prim.Native.Nat.{ℕ, ◌+◌, ◌-◌, ◌≤◌, ◌<◌}
use native.Mathlib.Omega.{arith}
use borrow.Author.Count.{below_none, below_more}
use borrow.Author.Tests.{eqb-true, eqb-false, ltb-true, ltb-false}
use lib.Dec.{eqb, ltb}
use lib.ListN.{length, get_or}
use Rattle.packet.specs.declared.frame.Frame.{Frame}
use Rattle.packet.specs.declared.frame.Frame.TheVariants.{Open, TooLong, Whole, Refused}
use Rattle.session.specs.declared.state.Session.{Session}
use Rattle.session.specs.declared.state.Uplink.{Uplink}
use Rattle.session.specs.declared.state.Uplink.TheVariants as up
use Rattle.session.specs.declared.state.Downlink.{Downlink}
use Rattle.session.specs.declared.state.Downlink.TheVariants as down
use Rattle.session.specs.declared.state.Listed.{Listed}
use Rattle.session.specs.declared.state.Listed.TheVariants as listed
use Rattle.session.specs.Expected.{takes_command, expected_down, expected}
use Rattle.table.specs.declared.File.{File}
use Rattle.std.proofs.Common.{Option, Some, None}
use Rattle.table.specs.Table.{file_at, find_of}
use Rattle.table.proofs.Finding.{find_found, find_number_law}
use Rattle.links.specs.Sound.{link}
use Rattle.links.specs.Kept.{Uploads}
use Rattle.links.proofs.Facts.{CompleteAt, PartialAt, SendingAt}
use Rattle.decide.specs.Words.{word_at}
use Rattle.decide.specs.Uplink.{uploads, uploading, on_continued, on_upload, on_data, on_end, on_uplink}
use Rattle.decide.specs.Downlink.{on_found, on_numbered, on_download, ten_from, list_found, list_numbered, on_directory, on_ack, on_nak, on_downlink}
use Rattle.decide.specs.Decide.{on_packet, on_frame, decide_of}
use Rattle.decide.specs.declared.act.Act.{Act}
use Rattle.decide.specs.declared.act.Act.TheVariants as act
use Rattle.server.specs.Turns.{size_in}
use Rattle.history.proofs.Others.{Reads}

-- the session uploads the file at the place
pub record Own (u : Uplink) (place : ℕ) : Type 0 where
  pub offset : ℕ
  pub received : ℕ
  pub receiving : u ≡ up.Receiving place offset received

-- a partial file that none of the four sessions uploads
pub record Resumes (fs : List File) (links : List Session) (place received : ℕ) : Type 0 where
  pub partial : PartialAt fs place received
  pub alone : (j : ℕ) → j < 4 → Uploads (link links j) place → ⊥

-- DATA within the announced length
pub record Stores (fs : List File) (u : Uplink) (size place offset received : ℕ) : Type 0 where
  pub own : u ≡ up.Receiving place offset received
  pub room : (file_at fs place).received + size ≤ (file_at fs place).size

-- a complete file, an offset within it, and no more files passed than are selected
pub record Sends (fs : List File) (count place offset passed : ℕ) : Type 0 where
  pub sending : SendingAt fs place offset
  pub few : passed ≤ count

-- a directory of a complete file, or of selected ones, and no more files passed than are selected
pub record Lists (fs : List File) (count : ℕ) (l : Listed) (passed : ℕ) : Type 0 where
  pub one : (place : ℕ) → l ≡ listed.One place → CompleteAt fs place
  pub few : passed ≤ count

-- what holds of an act on a packet of this size; a SELECT_CMD comes while the downlink is idle
abbrev pub Fit : List File → List Session → Session → ℕ → Act → Type 0
Fit fs links s size act.Close = Unit {0}
Fit fs links s size act.Ignore = Unit {0}
Fit fs links s size (act.Tell r) = Unit {0}
Fit fs links s size (act.Begin n) = Unit {0}
Fit fs links s size (act.Resume place number received) = Resumes fs links place received
Fit fs links s size (act.Store place offset received) = Stores fs s.up size place offset received
Fit fs links s size (act.Overrun place) = Own s.up place
Fit fs links s size act.Stop = Unit {0}
Fit fs links s size (act.Finish place) = Own s.up place
Fit fs links s size act.Select = takes_command s.down ≡ true
Fit fs links s size (act.Send place offset lock passed) = Sends fs s.count place offset passed
Fit fs links s size (act.Confirm place destination) = Unit {0}
Fit fs links s size (act.End r) = Unit {0}
Fit fs links s size (act.Abort place) = CompleteAt fs place
Fit fs links s size (act.List l long passed) = Lists fs s.count l passed

-- the act that a test picks
picked : (P : Act → Type 0) (b : Bool) (x y : Act) → (b ≡ true → P x) → (b ≡ false → P y) → P (cond b x y)
picked P true x y f g = f refl
picked P false x y f g = g refl

-- ---- the downlink's commands

down_taken : (u : Uplink) (d : Downlink) (kind size : ℕ) → ltb kind 8 ≡ false → expected u d kind size ≡ true → expected_down d kind size ≡ true
unfolding expected
down_taken u d kind size h e = rw h at e

-- SELECT_CMD is expected while the downlink is idle
pub select_taken : (d : Downlink) (kind size : ℕ) → kind ≡ 16 → expected_down d kind size ≡ true → takes_command d ≡ true
unfolding expected_down
select_taken d kind size k e = rw k at e

same_place : (place p : ℕ) → listed.One place ≡ listed.One p → place ≡ p
same_place place p q = cc

not_one : (first p : ℕ) → listed.Selected first ≡ listed.One p → ⊥
not_one first p q = let z : ◌≡◌ {A = ℕ} 0 1 = cc in omega arith

-- no more files are passed than are selected
ten_most : (next count : ℕ) → next ≤ count → ten_from next count ≤ count
unfolding ten_from
ten_most next count h = go (ltb (count - next) 10) refl
  where
    go : (b : Bool) → ltb (count - next) 10 ≡ b → cond b count (next + 10) ≤ count
    go true e = omega arith
    go false e = omega (arith, ltb-false (count - next) 10 e)

-- ---- no session uploads a file

neither : (a b : Bool) → cond a true b ≡ false → (a ≡ false) × (b ≡ false)
neither true b e = absurd (let z : ◌≡◌ {A = ℕ} 0 1 = cc in omega arith)
neither false b e = (refl, e)

not_uploads : (s : Session) (place : ℕ) → uploads s place ≡ false → Uploads s place → ⊥
not_uploads s place e u = eqb-false place place (rw (u.linked, u.receiving) at e) refl

alone_of : (links : List Session) (place : ℕ) → uploading links place ≡ false → (j : ℕ) → j < 4 → Uploads (link links j) place → ⊥
alone_of links place e =
    let p : ℕ → Bool = λ j. uploads (link links j) place in
    let e₁ = neither (p 0) _ e in
    let e₂ = neither (p 1) _ e₁.1 in
    let e₃ = neither (p 2) _ e₂.1 in
    let P : ℕ → Type 0 = λ j. Uploads (link links j) place → ⊥ in
    let no : (j : ℕ) → p j ≡ false → P j = λ j. not_uploads (link links j) place in
    below_more P 3 (below_more P 2 (below_more P 1 (below_more P 0 (below_none P) (no 0 e₁.0)) (no 1 e₂.0)) (no 2 e₃.0)) (no 3 e₃.1)

module _ (fs : List File) (links : List Session) (s : Session) (size : ℕ) where
  abbrev P : Act → Type 0
  P a = Fit fs links s size a

  -- ---- the uplink

  continued_fit : (f : Option ℕ) (number total : ℕ) → find_of fs number ≡ f → P (on_continued f number total links fs)
  unfolding on_continued
  continued_fit None number total e = tt
  continued_fit (Some place) number total e =
      picked P (eqb (file_at fs place).time 0) _ _
      (λ t.
      picked P (eqb (file_at fs place).size total) _ _
      (λ z.
      picked P (uploading links place) _ _ (λ u. tt)
      (λ u.
      record {
        partial =
            record {
              number = λ y. (find_found fs number place e).0 (sym (find_number_law fs number place e) ∙ y);
              time = eqb-true (file_at fs place).time 0 t;
              agree = refl;
            };
        alone = alone_of links place u;
      }))
      (λ z. tt))
      (λ t. tt)

  upload_fit : (info : List ℕ) → P (on_upload links size info fs)
  unfolding on_upload
  upload_fit info =
      picked P (eqb size 8) _ _
      (λ e.
      picked P (eqb (word_at info 0) 0) _ _ (λ z. tt)
      (λ z. continued_fit (find_of fs (word_at info 0)) (word_at info 0) (word_at info 4) refl))
      (λ e. tt)

  data_fit : (u : Uplink) → s.up ≡ u → P (on_data u size fs)
  unfolding on_data
  data_fit up.Idle e = tt
  data_fit (up.Receiving place offset received) e =
      picked P (ltb (file_at fs place).size ((file_at fs place).received + size)) _ _
      (λ t. record { offset = offset; received = received; receiving = e })
      (λ t. record { own = e; room = ltb-false (file_at fs place).size ((file_at fs place).received + size) t })
  data_fit up.Ignoring e = tt

  end_fit : (u : Uplink) → s.up ≡ u → P (on_end u)
  unfolding on_end
  end_fit up.Idle e = tt
  end_fit (up.Receiving place offset received) e = record { offset = offset; received = received; receiving = e }
  end_fit up.Ignoring e = tt

  uplink_fit : (kind : ℕ) (info : List ℕ) → P (on_uplink s.up links kind size info fs)
  unfolding on_uplink
  uplink_fit kind info =
      picked P (eqb kind 0) _ _ (λ e. data_fit s.up refl)
      (λ e. picked P (eqb kind 1) _ _ (λ d. end_fit s.up refl) (λ d. upload_fit info))

  -- ---- the downlink

  -- a file found, as the downlink names it
  module _ (selected : List ℕ) (most : ℕ) (r : Reads fs most selected s) where
    found_fit : (f : Option ℕ) (number offset lock passed : ℕ) → find_of fs number ≡ f → passed ≤ s.count → P (on_found f offset lock passed fs)
    unfolding on_found
    found_fit None number offset lock passed e h = tt
    found_fit (Some place) number offset lock passed e h =
        picked P (eqb (file_at fs place).time 0) _ _ (λ t. tt)
        (λ t.
        picked P (ltb (file_at fs place).size offset) _ _ (λ z. tt)
        (λ z.
        record {
          sending =
              record {
                complete =
                    record {
                      number = λ y. (find_found fs number place e).0 (sym (find_number_law fs number place e) ∙ y);
                      time = eqb-false (file_at fs place).time 0 t;
                    };
                within = ltb-false (file_at fs place).size offset z;
              };
          few = h;
        }))

    numbered_fit : (number offset lock : ℕ) → P (on_numbered number offset lock s.count s.next fs selected)
    unfolding on_numbered
    numbered_fit number offset lock =
        picked P (eqb number 0) _ _
        (λ e.
        picked P (ltb s.next s.count) _ _
        (λ h.
        found_fit (find_of fs (get_or selected s.next 0)) (get_or selected s.next 0) offset lock (s.next + 1) refl
        (omega (arith, ltb-true s.next s.count h)))
        (λ h. tt))
        (λ e. found_fit (find_of fs number) number offset lock s.next refl r.next)

    download_fit : (info : List ℕ) → P (on_download s.count s.next size info fs selected)
    unfolding on_download
    download_fit info =
        picked P (eqb size 9) _ _ (λ e. numbered_fit (word_at info 0) (word_at info 4) (get_or info 8 0)) (λ e. tt)

    list_found_fit : (f : Option ℕ) (number : ℕ) (long : Bool) → find_of fs number ≡ f → P (list_found f long s.next fs)
    unfolding list_found
    list_found_fit None number long e = tt
    list_found_fit (Some place) number long e =
        picked P (eqb (file_at fs place).time 0) _ _ (λ t. tt)
        (λ t.
        record {
          one = λ p q.
              subst (λ (x : ℕ). CompleteAt fs x) (same_place place p q)
              (record {
                number = λ y. (find_found fs number place e).0 (sym (find_number_law fs number place e) ∙ y);
                time = eqb-false (file_at fs place).time 0 t;
              });
          few = r.next;
        })

    list_numbered_fit : (number : ℕ) (long : Bool) → P (list_numbered number long s.count s.next fs)
    unfolding list_numbered
    list_numbered_fit number long =
        picked P (eqb number 0) _ _
        (λ e.
        picked P (ltb s.next s.count) _ _
        (λ h.
        record { one = λ p q. absurd (not_one s.next p q); few = ten_most s.next s.count r.next })
        (λ h. tt))
        (λ e. list_found_fit (find_of fs number) number long refl)

    directory_fit : (long : Bool) (info : List ℕ) → P (on_directory long s.count s.next size info fs)
    unfolding on_directory
    directory_fit long info = picked P (eqb size 4) _ _ (λ e. list_numbered_fit (word_at info 0) long) (λ e. tt)

    ack_fit : (d : Downlink) (destination : ℕ) → P (on_ack d size destination)
    unfolding on_ack
    ack_fit down.Idle destination = tt
    ack_fit (down.Sending place offset sent) destination = tt
    ack_fit (down.Ended place) destination = picked P (eqb size 1) _ _ (λ e. tt) (λ e. tt)
    ack_fit (down.Aborting place) destination = tt
    ack_fit (down.Listing l long done sent) destination = tt

    nak_fit : (d : Downlink) → s.down ≡ d → P (on_nak d)
    unfolding on_nak
    nak_fit down.Idle e = tt
    nak_fit (down.Sending place offset sent) e = (r.sending place offset sent e).complete
    nak_fit (down.Ended place) e = tt
    nak_fit (down.Aborting place) e = tt
    nak_fit (down.Listing l long done sent) e = tt

    downlink_fit : (kind : ℕ) (info : List ℕ) → expected_down s.down kind size ≡ true
        → P (on_downlink s.down s.count s.next kind size info fs selected)
    unfolding on_downlink
    downlink_fit kind info x =
        picked P (eqb kind 8) _ _ (λ e. download_fit info)
        (λ e.
        picked P (eqb kind 12) _ _ (λ d. ack_fit s.down (get_or info 0 0))
        (λ d.
        picked P (eqb kind 13) _ _ (λ c. nak_fit s.down refl)
        (λ c.
        picked P (eqb kind 16) _ _ (λ b. select_taken s.down kind size (eqb-true kind 16 b) x)
        (λ b. picked P (eqb kind 15) _ _ (λ a. directory_fit true info) (λ a. directory_fit false info)))))

    packet_fit : (kind : ℕ) (info : List ℕ) → P (on_packet s links kind size info fs selected)
    unfolding on_packet
    packet_fit kind info =
        picked P (expected s.up s.down kind size) _ _
        (λ e. picked P (ltb kind 8) _ _ (λ h. uplink_fit kind info) (λ h. downlink_fit kind info (down_taken s.up s.down kind size h e)))
        (λ e. tt)

-- every act decided on fits
module _ (fs : List File) (links : List Session) (s : Session) (most : ℕ) (selected : List ℕ) (r : Reads fs most selected s) where
  frame_fit : (frame : Frame) (info : List ℕ) → Fit fs links s (size_in frame) (on_frame s links frame info fs selected)
  unfolding on_frame size_in
  frame_fit Open info = tt
  frame_fit TooLong info = tt
  frame_fit (Whole kind size) info = packet_fit fs links s size selected most r kind info
  frame_fit (Refused n) info = tt

  pub decide_fit : (frame : Frame) (info : List ℕ) → Fit fs links s (size_in frame) (decide_of s links frame info fs selected)
  unfolding decide_of
  decide_fit frame info =
      picked (Fit fs links s (size_in frame)) (eqb (length info) 256) _ _ (λ e. frame_fit frame info) (λ e. tt)
