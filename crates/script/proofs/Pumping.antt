-- Requests end: a request that sends a packet leaves less to send. Assumes nothing.
use Rattle.std.specs.Prelude.{Result, Ok, Err}
use native.Mathlib.Omega.{arith}
use native.Mathlib.Nat.{mod-eq_of_lt}
use mathlib.Core.Path.{◌≡◌, refl, sym, ◌∙◌, ap}
use mathlib.Core.Bool.{Bool, true, false, cond}
use mathlib.Core.List.{List, ◌++◌}
use Prim.Native.Nat.{ℕ, suc, ◌+◌, ◌-◌, ◌*◌, ◌%◌, ◌≤◌, ◌<◌}
use lib.Dec.{eqb, ltb}
use lib.ListN.{length, get_or, set, take, drop, length-take, get_or-eq_default}
use lib.Seq.{get_or-set_same, length-take-le}
use borrow.Author.Tests.{ltb-true, ltb-false, eqb-false}
use Rattle.packet.specs.Packet.{packet_of}
use Rattle.session.specs.declared.state.Session.{Session}
use Rattle.session.specs.declared.state.Downlink.{Downlink}
use Rattle.session.specs.declared.state.Downlink.TheVariants as down
use Rattle.session.specs.declared.state.Listed.{Listed}
use Rattle.session.specs.declared.reply.Answer.TheVariants as answer
use Rattle.session.specs.declared.reply.Reply.TheVariants.{DataEnd}
use Rattle.session.specs.State.{closed_session, with_down}
use Rattle.session.specs.Reply.{answered}
use Rattle.table.specs.declared.File.{File}
use Rattle.table.specs.Table.{files, file_at}
use Rattle.blocks.proofs.Bits.{by_lt}
use Rattle.blocks.proofs.Owners.{blocks_le}
use Rattle.files.specs.Sound.{sound_test}
use Rattle.files.proofs.Soundness.{sound_facts, file_room}
use Rattle.links.specs.Sound.{links_sound}
use Rattle.links.proofs.Facts.{LinkTested}
use Rattle.links.proofs.Facts as links
use Rattle.server.specs.declared.Server.{Server}
use Rattle.server.specs.State.{Lent, link_of, with_link, words, part, owner_part, table_part}
use Rattle.server.specs.Check.{sizes_fit, room_fits, sound_parts, in_state, session_check, check_by, check_of}
use Rattle.listing.specs.declared.Filled.{Filled}
use Rattle.listing.specs.Listing.{entries_of, fill_of}
use Rattle.sending.specs.Sending.{least_of, told, asked, asked_of, data_of, sending_of, listed_as, due_of}
use Rattle.server.specs.Calls.{on_request, due_as}
use Rattle.server.proofs.CheckLaws.{check_go}
use Rattle.script.proofs.Listing.{requests_left, sent_fewer, requests_most}

-- ---- what a call that goes through says of the state

pub record Through (sv : Server) (l : Lent) (session i : ℕ) (wanted : Bool) : Type 0 where
  pub sound : sound_parts sv l.map l.owner l.table l.selected l.held ≡ true
  pub index : i ≡ session - 1
  pub state : in_state wanted (link_of sv i).linked ≡ true

session_through : (sv : Server) (session : ℕ) (wanted : Bool) (out i : ℕ) → session_check sv session wanted out ≡ Ok i
    → (i ≡ session - 1) × (in_state wanted (link_of sv i).linked ≡ true)
unfolding session_check
session_through sv session wanted out i e =
    go (eqb session 0) (ltb sv.sessions session) (in_state wanted (link_of sv (session - 1)).linked) refl (ltb out 258) e
  where
    go : (a b d : Bool) → in_state wanted (link_of sv (session - 1)).linked ≡ d → (f : Bool)
        → cond {A = Result ℕ ℕ} a (Err 34) (cond b (Err 34) (cond d (cond f (Err 32) (Ok (session - 1))) (Err 34))) ≡ Ok i
        → (i ≡ session - 1) × (in_state wanted (link_of sv i).linked ≡ true)
    go true b d p f e = let z : ◌≡◌ {A = ℕ} 0 1 = cc in absurd (omega arith)
    go false true d p f e = let z : ◌≡◌ {A = ℕ} 0 1 = cc in absurd (omega arith)
    go false false false p f e = let z : ◌≡◌ {A = ℕ} 0 1 = cc in absurd (omega arith)
    go false false true p true e = let z : ◌≡◌ {A = ℕ} 0 1 = cc in absurd (omega arith)
    go false false true p false e =
        let s : i ≡ session - 1 = cc in
        (s, ap (λ (k : ℕ). in_state wanted (link_of sv k).linked) s ∙ p)

pub through : (sv : Server) (l : Lent) (session out i : ℕ) (wanted : Bool) → check_of sv l session wanted out ≡ Ok i → Through sv l session i wanted
unfolding check_by
through sv l session out i wanted e =
    go (cond (sizes_fit sv.blocks sv.files sv.sessions sv.most)
    (room_fits sv.blocks sv.files sv.sessions sv.most (length l.disk) (length l.map) (length l.owner) (length l.table)
    (length l.selected) (length l.held)) false)
    (sound_parts sv l.map l.owner l.table l.selected l.held) refl e
  where
    go : (a b : Bool) → sound_parts sv l.map l.owner l.table l.selected l.held ≡ b
        → cond {A = Result ℕ ℕ} a (cond b (session_check sv session wanted out) (Err 35)) (Err 33) ≡ Ok i → Through sv l session i wanted
    go false b p e = let z : ◌≡◌ {A = ℕ} 0 1 = cc in absurd (omega arith)
    go true false p e = let z : ◌≡◌ {A = ℕ} 0 1 = cc in absurd (omega arith)
    go true true p e =
        record { sound = p; index = (session_through sv session wanted out i e).0; state = (session_through sv session wanted out i e).1 }

-- both parts of the soundness
sound_both : (a b : Bool) → cond a b false ≡ true → (a ≡ true) × (b ≡ true)
sound_both true b e = (refl, e)
sound_both false b e = let z : ◌≡◌ {A = ℕ} 0 1 = cc in absurd (omega arith)

-- an open session of a sound state has its facts
pub link_facts : (sv : Server) (l : Lent) (i : ℕ) → sound_parts sv l.map l.owner l.table l.selected l.held ≡ true
    → i < sv.sessions → (link_of sv i).linked ≡ true
    → LinkTested (files (table_part sv l)) sv.most (links.selection_of sv.most l.selected i) (links.packet_of l.held i) (link_of sv i)
unfolding sound_parts
link_facts sv l i e p q =
    (links.sound_facts (files (table_part sv l)) sv.sessions sv.most l.selected l.held sv.links
    (sound_both (sound_test (take (words sv.blocks) l.map) (take sv.blocks l.owner) (take (4 * sv.files) l.table) sv.last.number
    sv.last.time) (links_sound (files (table_part sv l)) sv.sessions sv.most l.selected l.held sv.links) e).1).each i p q

-- a file of a sound store has at most 1,048,576 bytes
pub file_most : (sv : Server) (l : Lent) (place : ℕ) → sound_parts sv l.map l.owner l.table l.selected l.held ≡ true
    → sv.blocks ≤ 4096 → sv.blocks ≤ length l.owner → ((file_at (files (table_part sv l)) place).number ≡ 0 → ⊥)
    → (file_at (files (table_part sv l)) place).size ≤ 1048576
unfolding sound_parts
file_most sv l place e p q n =
    let s = sound_facts (take (words sv.blocks) l.map) (take sv.blocks l.owner) (take (4 * sv.files) l.table) sv.last.number
    sv.last.time (sound_both _ _ e).0 in
    omega (
      arith,
      file_room (take (words sv.blocks) l.map) (take sv.blocks l.owner) (take (4 * sv.files) l.table) sv.last.number
          sv.last.time s place n,
      blocks_le (place + 1) (take sv.blocks l.owner),
      length-take-le sv.blocks l.owner q,
      p,
    )

-- ---- what is left to send

-- the entries of a directory, by the files that it names and its form
abbrev pub Entries : Type 0
Entries = Listed → Bool → List (List ℕ)

-- how many requests may still send a packet
unfoldable pub left_of : List File → Entries → Downlink → ℕ
left_of fs es down.Idle = 0
left_of fs es (down.Sending place offset sent) = suc ((file_at fs place).size - (offset + sent))
left_of fs es (down.Ended place) = 0
left_of fs es (down.Aborting place) = 1
left_of fs es (down.Listing l long done sent) = requests_left (es l long) done sent

-- a download within a file that 32 bits can count
pub record Countable (fs : List File) (es : Entries) (d : Downlink) : Type 0 where
  pub counted : (place offset sent : ℕ) → d ≡ down.Sending place offset sent → (file_at fs place).size ≤ 1048576
  pub listed : (l : Listed) (long : Bool) (done sent : ℕ) → requests_left (es l long) done sent ≤ 1048577

least_some : (n : ℕ) → 0 < n → (0 < least_of n) × (least_of n ≤ n)
unfolding least_of
least_some n p = go (ltb n 256) refl
  where
    go : (t : Bool) → ltb n 256 ≡ t → (0 < cond t n 256) × (cond t n 256 ≤ n)
    go true e = (p, omega arith)
    go false e = (omega arith, ltb-false n 256 e)

mod_fits : (a : ℕ) → a < 4294967296 → a % 4294967296 ≡ a
mod_fits a h = mod-eq_of_lt h

-- the next DATA leaves less
less_left : (size offset sent n : ℕ) → size ≤ 1048576 → 0 < n → n ≤ size - (offset + sent)
    → suc (size - (offset + (sent + n) % 4294967296)) < suc (size - (offset + sent))
less_left size offset sent n p q r = rw (mod_fits (sent + n) (omega (arith, p, q, r))) (omega arith)

ended_less : (place offset sent : ℕ) (fs : List File) (es : Entries)
    → left_of fs es (down.Ended place) < left_of fs es (down.Sending place offset sent)
unfolding left_of
ended_less place offset sent fs es = omega arith

aborting_less : (place : ℕ) (fs : List File) (es : Entries) → left_of fs es down.Idle < left_of fs es (down.Aborting place)
unfolding left_of
aborting_less place fs es = omega arith

data_less : (s : Session) (place offset sent : ℕ) (disk owner out : List ℕ) (fs : List File) (es : Entries) → (file_at fs place).size ≤ 1048576
    → offset + sent < (file_at fs place).size
    → left_of fs es (data_of s place offset sent (least_of ((file_at fs place).size - (offset + sent))) disk owner out).asked.session.down
    < left_of fs es (down.Sending place offset sent)
unfolding left_of data_of
data_less s place offset sent disk owner out fs es p q =
    let m = least_some ((file_at fs place).size - (offset + sent)) (omega (arith, q)) in
    less_left (file_at fs place).size offset sent (least_of ((file_at fs place).size - (offset + sent))) p m.0 m.1

sending_less : (s : Session) (place offset sent : ℕ) (disk owner out : List ℕ) (fs : List File) (es : Entries) → (file_at fs place).size ≤ 1048576
    → left_of fs es (sending_of s place offset sent disk owner fs out).asked.session.down < left_of fs es (down.Sending place offset sent)
unfolding sending_of
sending_less s place offset sent disk owner out fs es p = go (ltb (offset + sent) (file_at fs place).size) refl
  where
    go : (t : Bool) → ltb (offset + sent) (file_at fs place).size ≡ t
        → left_of fs es (cond t (data_of s place offset sent (least_of ((file_at fs place).size - (offset + sent))) disk owner out)
        (told (with_down s (down.Ended place)) (answered DataEnd 0 out))).asked.session.down < left_of fs es (down.Sending place offset sent)
    go true e = data_less s place offset sent disk owner out fs es p (ltb-true (offset + sent) (file_at fs place).size e)
    go false e = ended_less place offset sent fs es

idle_less : (l : Listed) (long : Bool) (done sent : ℕ) (fs : List File) (es : Entries)
    → left_of fs es down.Idle < left_of fs es (down.Listing l long done sent)
unfolding left_of requests_left
idle_less l long done sent fs es = omega arith

filled_less : (l : Listed) (long : Bool) (done sent : ℕ) (fs : List File) (es : Entries)
    → ((fill_of (es l long) done sent).size ≡ 0 → ⊥)
    → left_of fs es (down.Listing l long (fill_of (es l long) done sent).done (fill_of (es l long) done sent).sent)
    < left_of fs es (down.Listing l long done sent)
unfolding left_of
filled_less l long done sent fs es h = sent_fewer (es l long) done sent h

listing_less : (s : Session) (l : Listed) (long : Bool) (done sent : ℕ) (out : List ℕ) (fs : List File) (es : Entries)
    → left_of fs es (listed_as s l long (fill_of (es l long) done sent) out).asked.session.down < left_of fs es (down.Listing l long done sent)
unfolding listed_as
listing_less s l long done sent out fs es = go (eqb (fill_of (es l long) done sent).size 0) refl
  where
    f : Filled
    f = fill_of (es l long) done sent

    go : (t : Bool) → eqb f.size 0 ≡ t
        → left_of fs es (cond t (told (with_down s down.Idle) (answered DataEnd 0 out))
        (asked (asked_of (with_down s (down.Listing l long f.done f.sent)) (answer.Sent 0 (2 + f.size)))
        (packet_of 0 (take f.size f.bytes) ++ drop (2 + f.size) out))).asked.session.down < left_of fs es (down.Listing l long done sent)
    go true e = idle_less l long done sent fs es
    go false e = filled_less l long done sent fs es (eqb-false f.size 0 e)

due_less : (d : Downlink) (s : Session) (disk owner : List ℕ) (selected out : List ℕ) (fs : List File)
    → Countable fs (λ l long. entries_of l long s.next disk owner fs selected) d → (t n : ℕ)
    → (due_of d s disk owner fs selected out).asked.answer ≡ answer.Sent t n
    → left_of fs (λ l long. entries_of l long s.next disk owner fs selected) (due_of d s disk owner fs selected out).asked.session.down
    < left_of fs (λ l long. entries_of l long s.next disk owner fs selected) d
unfolding due_of
due_less down.Idle s disk owner selected out fs c t n e = let z : ◌≡◌ {A = ℕ} 0 1 = cc in absurd (omega arith)
due_less (down.Sending place offset sent) s disk owner selected out fs c t n e =
    sending_less s place offset sent disk owner out fs _ (c.counted place offset sent refl)
due_less (down.Ended place) s disk owner selected out fs c t n e = let z : ◌≡◌ {A = ℕ} 0 1 = cc in absurd (omega arith)
due_less (down.Aborting place) s disk owner selected out fs c t n e = aborting_less place fs _
due_less (down.Listing l long done sent) s disk owner selected out fs c t n e =
    listing_less s l long done sent out fs (λ k form. entries_of k form s.next disk owner fs selected)

pub down_most : (d : Downlink) (fs : List File) (es : Entries) → Countable fs es d → left_of fs es d ≤ 1048577
unfolding left_of
down_most down.Idle fs es c = omega arith
down_most (down.Sending place offset sent) fs es c = omega (arith, c.counted place offset sent refl)
down_most (down.Ended place) fs es c = omega arith
down_most (down.Aborting place) fs es c = omega arith
down_most (down.Listing l long done sent) fs es c = c.listed l long done sent

-- a request leaves the place in the selection
due_next : (d : Downlink) (s : Session) (disk owner : List ℕ) (fs : List File) (selected out : List ℕ)
    → (due_of d s disk owner fs selected out).asked.session.next ≡ s.next
unfolding due_of sending_of data_of listed_as
due_next down.Idle s disk owner fs selected out = refl
due_next (down.Sending place offset sent) s disk owner fs selected out = go (ltb (offset + sent) (file_at fs place).size)
  where
    go : (t : Bool)
        → (cond t (data_of s place offset sent (least_of ((file_at fs place).size - (offset + sent))) disk owner out)
        (told (with_down s (down.Ended place)) (answered DataEnd 0 out))).asked.session.next ≡ s.next
    go true = refl
    go false = refl
due_next (down.Ended place) s disk owner fs selected out = refl
due_next (down.Aborting place) s disk owner fs selected out = refl
due_next (down.Listing l long done sent) s disk owner fs selected out =
    go (fill_of (entries_of l long s.next disk owner fs selected) done sent)
    (eqb (fill_of (entries_of l long s.next disk owner fs selected) done sent).size 0)
  where
    go : (f : Filled) (t : Bool)
        → (cond t (told (with_down s down.Idle) (answered DataEnd 0 out))
        (asked (asked_of (with_down s (down.Listing l long f.done f.sent)) (answer.Sent 0 (2 + f.size)))
        (packet_of 0 (take f.size f.bytes) ++ drop (2 + f.size) out))).asked.session.next ≡ s.next
    go f true = refl
    go f false = refl

-- ---- a request that sends leaves less

-- the entries of session i's directories, counted from 0, with this place in its selection
abbrev pub entries_in : Server → Lent → ℕ → ℕ → Entries
entries_in sv l i next listed long =
    entries_of listed long next l.disk (owner_part sv l) (files (table_part sv l)) (part (i * sv.most) sv.most l.selected)

-- what is left on a session's downlink
abbrev pub left_in : Server → Lent → ℕ → ℕ
left_in sv l session =
    left_of (files (table_part sv l)) (entries_in sv l (session - 1) (link_of sv (session - 1)).next) (link_of sv (session - 1)).down

pub in_open : (linked : Bool) → in_state true linked ≡ true → linked ≡ true
unfolding in_state
in_open linked e = e

closed_clash : false ≡ true → ⊥
closed_clash e = let z : ◌≡◌ {A = ℕ} 0 1 = cc in omega arith

-- an open session is one of the list
open_index : (sv : Server) (i : ℕ) → (link_of sv i).linked ≡ true → i < length sv.links
open_index sv i e =
    by_lt i (length sv.links) (λ h. h)
    (λ h. absurd (closed_clash (sym (ap (λ (s : Session). s.linked) (get_or-eq_default sv.links closed_session h)) ∙ e)))

pub countable : (sv : Server) (l : Lent) (session i out : ℕ) → check_of sv l session true out ≡ Ok i
    → Countable (files (table_part sv l)) (entries_in sv l i (link_of sv i).next) (link_of sv i).down
countable sv l session i out e =
    let t = through sv l session out i true e in
    let p = check_go _ sv session true out (length l.disk) l.map l.owner l.table l.selected l.held i e in
    let f = link_facts sv l i t.sound p.index (in_open (link_of sv i).linked t.state) in
    record {
      counted = λ place offset sent q. file_most sv l place t.sound p.sizes.blocks p.room.owner
          (f.sending place offset sent q).complete.number;
      listed = λ k long done sent. requests_most k long (link_of sv i).next l.disk (owner_part sv l) (files (table_part sv l))
          (part (i * sv.most) sv.most l.selected) done sent
          (omega (arith, length-take sv.most (drop (i * sv.most) l.selected), p.sizes.most));
    }

less_link : (sv : Server) (l : Lent) (session i : ℕ) (s : Session) → i ≡ session - 1 → i < length sv.links → s.next ≡ (link_of sv i).next
    → left_of (files (table_part sv l)) (entries_in sv l i (link_of sv i).next) s.down
    < left_of (files (table_part sv l)) (entries_in sv l i (link_of sv i).next) (link_of sv i).down
    → left_in (with_link sv i s) l session < left_in sv l session
less_link sv l session i s e p same q =
    let a : link_of (with_link sv i s) (session - 1) ≡ s
    = ap (λ (k : ℕ). get_or (set sv.links i s) k closed_session) (sym e) ∙ get_or-set_same sv.links i s closed_session p in
    let b : left_in (with_link sv i s) l session ≡ left_of (files (table_part sv l)) (entries_in sv l i (link_of sv i).next) s.down
    = ap (λ (x : Session). left_of (files (table_part sv l)) (entries_in sv l (session - 1) x.next) x.down) a
    ∙ ap (λ (k : ℕ). left_of (files (table_part sv l)) (entries_in sv l k s.next) s.down) (sym e)
    ∙ ap (λ (n : ℕ). left_of (files (table_part sv l)) (entries_in sv l i n) s.down) same in
    let d : left_in sv l session ≡ left_of (files (table_part sv l)) (entries_in sv l i (link_of sv i).next) (link_of sv i).down
    = ap (λ (k : ℕ). left_of (files (table_part sv l)) (entries_in sv l k (link_of sv k).next) (link_of sv k).down) (sym e) in
    omega (arith, b, d, q)

pub request_less : (sv : Server) (l : Lent) (out : List ℕ) (session : ℕ) (c : Result ℕ ℕ) → check_of sv l session true (length out) ≡ c → (t n : ℕ)
    → (on_request c sv l out).done.answer ≡ answer.Sent t n → left_in (on_request c sv l out).done.server l session < left_in sv l session
unfolding on_request due_as
request_less sv l out session (Err k) e t n f = let z : ◌≡◌ {A = ℕ} 0 1 = cc in absurd (omega arith)
request_less sv l out session (Ok i) e t n f =
    let h = through sv l session (length out) i true e in
    less_link sv l session i
    (due_of (link_of sv i).down (link_of sv i) l.disk (owner_part sv l) (files (table_part sv l)) (part (i * sv.most) sv.most l.selected) out).asked.session
    h.index (open_index sv i (in_open (link_of sv i).linked h.state))
    (due_next (link_of sv i).down (link_of sv i) l.disk (owner_part sv l) (files (table_part sv l)) (part (i * sv.most) sv.most l.selected) out)
    (due_less (link_of sv i).down (link_of sv i) l.disk (owner_part sv l) (part (i * sv.most) sv.most l.selected) out (files (table_part sv l))
    (countable sv l session i (length out) e) t n f)

-- what is left is bounded, or the request is refused
pub left_most : (sv : Server) (l : Lent) (session i out : ℕ) → check_of sv l session true out ≡ Ok i → left_in sv l session ≤ 1048577
left_most sv l session i out e =
    let c = countable sv l session i out e in
    let d : left_in sv l session ≡ left_of (files (table_part sv l)) (entries_in sv l i (link_of sv i).next) (link_of sv i).down
    = ap (λ (k : ℕ). left_of (files (table_part sv l)) (entries_in sv l k (link_of sv k).next) (link_of sv k).down) (sym (through sv l session out i true e).index) in
    omega (arith, d, down_most (link_of sv i).down (files (table_part sv l)) (entries_in sv l i (link_of sv i).next) c)
