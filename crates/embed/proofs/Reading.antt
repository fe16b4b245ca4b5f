-- Words and servers: a server is read back from its words, and what words are read as has those words.
use Rattle.std.specs.Prelude.{Ok}
use mathlib.Core.Path.{◌≡◌, refl, sym, ap, subst, ◌∙◌}
use mathlib.Core.Bool.{Bool, true, false, cond}
use mathlib.Core.List.{List, [], ◌∷◌, ◌++◌, append_assoc}
use Prim.Native.Nat.{ℕ, zero, suc, ◌+◌, ◌≤◌, ◌<◌}
use native.Mathlib.Omega.{arith}
use native.Mathlib.Nat.{mod-eq_of_lt, add-zero}
use lib.ListN.{length, get_or, take, drop, take-append-drop, length-append, length-drop}
use lib.Seq.{take_at, drop-append-add, get_or-drop}
use lib.Dec.{eqb}
use borrow.Author.Tests.{eqb-true, eq-eqb, le-ltb}
use Rattle.session.specs.declared.state.Session.{Session}
use Rattle.session.specs.declared.state.Uplink.{Uplink}
use Rattle.session.specs.declared.state.Uplink.TheVariants as up
use Rattle.session.specs.declared.state.Downlink.{Downlink}
use Rattle.session.specs.declared.state.Downlink.TheVariants as down
use Rattle.session.specs.declared.state.Listed.TheVariants as listed
use Rattle.session.specs.State.{closed_session}
use Rattle.server.specs.declared.Server.{Server}
use Rattle.server.specs.State.{link_of}
use Rattle.embed.specs.Words.{up_words, down_words, flag, session_words, head_words, words_of, encode_of}
use Rattle.embed.specs.Words.{low, up_of, down_of, session_at, server_at, same_words, is_state, ready_of}
use Rattle.embed.specs.Fit.{up_offset, up_received, down_offset, down_sent, UpFits, DownFits, SessionFits, LastFits, ServerFits}
use Rattle.embed.proofs.Writing.{length_session, length_words}

-- ---- a session's words

-- the four words of a side, and that they are read as it
record UpAt (u : Uplink) : Type 0 where
  a : ℕ
  b : ℕ
  c : ℕ
  d : ℕ
  are : up_words u ≡ a ∷ b ∷ c ∷ d ∷ []
  back : up_of a b c d ≡ u

up_at : (u : Uplink) → UpFits u → UpAt u
unfolding up_words up_of up_offset up_received
up_at up.Idle f = record { a = 0; b = 0; c = 0; d = 0; are = refl; back = refl }
up_at (up.Receiving place offset received) f =
    record { a = 1; b = place; c = offset; d = received; are = refl; back = rw (mod-eq_of_lt f.offset, mod-eq_of_lt f.received) }
up_at up.Ignoring f = record { a = 2; b = 0; c = 0; d = 0; are = refl; back = refl }

record DownAt (u : Downlink) : Type 0 where
  a : ℕ
  b : ℕ
  c : ℕ
  d : ℕ
  are : down_words u ≡ a ∷ b ∷ c ∷ d ∷ []
  back : down_of a b c d ≡ u

down_at : (u : Downlink) → DownFits u → DownAt u
unfolding down_words down_of down_offset down_sent
down_at down.Idle f = record { a = 0; b = 0; c = 0; d = 0; are = refl; back = refl }
down_at (down.Sending place offset sent) f =
    record { a = 1; b = place; c = offset; d = sent; are = refl; back = rw (mod-eq_of_lt f.offset, mod-eq_of_lt f.sent) }
down_at (down.Ended place) f = record { a = 2; b = place; c = 0; d = 0; are = refl; back = refl }
down_at (down.Aborting place) f = record { a = 3; b = place; c = 0; d = 0; are = refl; back = refl }
down_at (down.Listing (listed.One place) true done sent) f = record { a = 5; b = place; c = done; d = sent; are = refl; back = refl }
down_at (down.Listing (listed.One place) false done sent) f = record { a = 4; b = place; c = done; d = sent; are = refl; back = refl }
down_at (down.Listing (listed.Selected first) true done sent) f = record { a = 7; b = first; c = done; d = sent; are = refl; back = refl }
down_at (down.Listing (listed.Selected first) false done sent) f = record { a = 6; b = first; c = done; d = sent; are = refl; back = refl }

flag_back : (b : Bool) → eqb (flag b) 1 ≡ b
flag_back true = refl
flag_back false = refl

-- a session is read from the words that begin with its own
session_parts : (l : Bool) (u : Uplink) (d : Downlink) (h c n : ℕ) (rest : List ℕ) (x : UpAt u) (y : DownAt d)
    → session_at ((flag l ∷ (up_words u ++ (down_words d ++ (h ∷ c ∷ n ∷ [])))) ++ rest) 0
    ≡ record { linked = l; up = u; down = d; held = h; count = c; next = n }
unfolding session_at
session_parts l u d h c n rest x y = go x.a x.b x.c x.d x.are x.back y.a y.b y.c y.d y.are y.back
  where
    go : (a1 a2 a3 a4 : ℕ) → up_words u ≡ a1 ∷ a2 ∷ a3 ∷ a4 ∷ [] → up_of a1 a2 a3 a4 ≡ u
        → (b1 b2 b3 b4 : ℕ) → down_words d ≡ b1 ∷ b2 ∷ b3 ∷ b4 ∷ [] → down_of b1 b2 b3 b4 ≡ d
        → session_at ((flag l ∷ (up_words u ++ (down_words d ++ (h ∷ c ∷ n ∷ [])))) ++ rest) 0
        ≡ record { linked = l; up = u; down = d; held = h; count = c; next = n }
    go a1 a2 a3 a4 p q b1 b2 b3 b4 r s = rw (p, r, q, s, flag_back l)

session_here : (s : Session) (rest : List ℕ) → SessionFits s → session_at (session_words s ++ rest) 0 ≡ s
unfolding session_words
session_here s rest f =
    session_parts s.linked s.up s.down s.held s.count s.next rest (up_at s.up f.up)
    (down_at s.down f.down)

-- ---- where a session's words stand

at_drop : (l : List ℕ) (at : ℕ) → session_at l at ≡ session_at (drop at l) 0
unfolding session_at
at_drop l at =
    let e0 : get_or (drop at l) 0 0 ≡ get_or l at 0 = get_or-drop at l 0 0 ∙ ap (λ (k : ℕ). get_or l k 0) (add-zero at) in
    rw (
      e0,
      get_or-drop at l 1 0,
      get_or-drop at l 2 0,
      get_or-drop at l 3 0,
      get_or-drop at l 4 0,
      get_or-drop at l 5 0,
      get_or-drop at l 6 0,
      get_or-drop at l 7 0,
      get_or-drop at l 8 0,
      get_or-drop at l 9 0,
      get_or-drop at l 10 0,
      get_or-drop at l 11 0,
    )

past : (xs ys : List ℕ) (n : ℕ) → length xs ≡ 12 → drop (12 + n) (xs ++ ys) ≡ drop n ys
past xs ys n e = subst (λ (k : ℕ). drop (k + n) (xs ++ ys) ≡ drop n ys) e (drop-append-add xs ys n)

-- the four sessions are read back from their words, after six others
record FourAt (l : List ℕ) (a b c d : Session) : Type 0 where
  first : session_at l 6 ≡ a
  second : session_at l 18 ≡ b
  third : session_at l 30 ≡ c
  fourth : session_at l 42 ≡ d

module _ (a b c d : Session) (fa : SessionFits a) (fb : SessionFits b) (fc : SessionFits c) (fd : SessionFits d) (rest : List ℕ) where
  four_at : (x1 x2 x3 x4 x5 x6 : ℕ)
      → FourAt (x1 ∷ x2 ∷ x3 ∷ x4 ∷ x5 ∷ x6 ∷ (session_words a ++ (session_words b ++ (session_words c ++ (session_words d ++ rest))))) a b c d
  four_at x1 x2 x3 x4 x5 x6 =
      let y = session_words d ++ rest in
      let z = session_words c ++ y in
      let w = session_words b ++ z in
      let l = x1 ∷ x2 ∷ x3 ∷ x4 ∷ x5 ∷ x6 ∷ (session_words a ++ w) in
      record {
        first = at_drop l 6 ∙ session_here a w fa;
        second = at_drop l 18 ∙ (ap (λ (k : List ℕ). session_at k 0) (past (session_words a) w 0 (length_session a)) ∙ session_here b z fb);
        third =
            at_drop l 30 ∙ (ap (λ (k : List ℕ). session_at k 0) (past (session_words a) w 12 (length_session a) ∙ past (session_words b) z 0
            (length_session b)) ∙ session_here c y fc);
        fourth =
            at_drop l 42 ∙ (ap (λ (k : List ℕ). session_at k 0) (past (session_words a) w 24 (length_session a) ∙
            (past (session_words b) z 12 (length_session b) ∙ past (session_words c) y 0 (length_session c))) ∙ session_here d rest fd);
      }

-- ---- a server's words

regroup : (a b c d r : List ℕ) → (a ++ (b ++ (c ++ d))) ++ r ≡ a ++ (b ++ (c ++ (d ++ r)))
regroup a b c d r =
    append_assoc a (b ++ (c ++ d)) r ∙ ap (λ (k : List ℕ). a ++ k) (append_assoc b (c ++ d) r ∙ ap (λ (k : List ℕ). b ++ k) (append_assoc c d r))

four_links : (l : List Session) → length l ≡ 4
    → get_or l 0 closed_session ∷ get_or l 1 closed_session ∷ get_or l 2 closed_session ∷ get_or l 3 closed_session ∷ [] ≡ l
four_links [] e = absurd (omega arith)
four_links (a ∷ []) e = absurd (omega arith)
four_links (a ∷ b ∷ []) e = absurd (omega arith)
four_links (a ∷ b ∷ c ∷ []) e = absurd (omega arith)
four_links (a ∷ b ∷ c ∷ d ∷ []) e = refl
four_links (a ∷ b ∷ c ∷ d ∷ x ∷ l) e = absurd (omega arith)

-- the server with the four sessions that its words have
abbrev four_of : Server → Server
four_of sv =
    record {
      blocks = sv.blocks;
      files = sv.files;
      sessions = sv.sessions;
      most = sv.most;
      last = sv.last;
      links = link_of sv 0 ∷ link_of sv 1 ∷ link_of sv 2 ∷ link_of sv 3 ∷ [];
    }

-- the server that is read where its four sessions are
server_from : (sv : Server) (x : List ℕ) → ServerFits sv
    → FourAt (head_words sv ++ x) (link_of sv 0) (link_of sv 1) (link_of sv 2) (link_of sv 3)
    → server_at (head_words sv ++ x) ≡ four_of sv
unfolding server_at
server_from sv x f w =
    rw (w.first, w.second, w.third, w.fourth, mod-eq_of_lt f.last.number, mod-eq_of_lt f.last.time)

words_then : (sv : Server) (r : List ℕ) → words_of sv ++ r
    ≡ head_words sv ++ (session_words (link_of sv 0) ++ (session_words (link_of sv 1) ++
    (session_words (link_of sv 2) ++ (session_words (link_of sv 3) ++ r))))
unfolding words_of
words_then sv r =
    ap (λ (k : List ℕ). head_words sv ++ k) (regroup (session_words (link_of sv 0)) (session_words (link_of sv 1)) (session_words (link_of sv 2))
    (session_words (link_of sv 3)) r)

server_then : (sv : Server) (r : List ℕ) → ServerFits sv → server_at (words_of sv ++ r) ≡ four_of sv
server_then sv r f =
    ap server_at (words_then sv r)
    ∙ server_from sv _ f (four_at (link_of sv 0) (link_of sv 1) (link_of sv 2) (link_of sv 3) (f.each 0 (omega arith)) (f.each 1 (omega arith))
    (f.each 2 (omega arith)) (f.each 3 (omega arith)) r sv.blocks sv.files sv.sessions sv.most sv.last.number sv.last.time)

four_read : (sv : Server) (state : List ℕ) → ServerFits sv → server_at (encode_of sv state) ≡ four_of sv
unfolding encode_of
four_read sv state f = server_then sv (drop 54 state) f

-- a server of four sessions, whose numbers fit their types, is read back from its words
pub read_back : (sv : Server) (state : List ℕ) → ServerFits sv → length sv.links ≡ 4 → server_at (encode_of sv state) ≡ sv
read_back sv state f e = four_read sv state f ∙ rw (four_links sv.links e)

four_words : (sv : Server) → words_of (four_of sv) ≡ words_of sv
unfolding words_of
four_words sv = refl

-- ---- which words are a state

same_self : (l : List ℕ) → same_words l l ≡ true
unfolding same_words
same_self [] = refl
same_self (x ∷ l) = rw (eq-eqb x x refl) (same_self l)

same_eq : (xs ys : List ℕ) → same_words xs ys ≡ true → xs ≡ ys
unfolding same_words
same_eq [] [] e = refl
same_eq [] (y ∷ ys) e = absurd (let z : ◌≡◌ {A = ℕ} 0 1 = cc in omega arith)
same_eq (x ∷ xs) [] e = absurd (let z : ◌≡◌ {A = ℕ} 0 1 = cc in omega arith)
same_eq (x ∷ xs) (y ∷ ys) e = go (eqb x y) refl e (same_eq xs ys)
  where
    go : (t : Bool) → eqb x y ≡ t → cond t (same_words xs ys) false ≡ true → (same_words xs ys ≡ true → xs ≡ ys) → x ∷ xs ≡ y ∷ ys
    go true p q ih = rw (eqb-true x y p, ih q)
    go false p q ih = absurd (let z : ◌≡◌ {A = ℕ} 0 1 = cc in omega arith)

front_words : (sv : Server) (state : List ℕ) → take 54 (encode_of sv state) ≡ words_of sv
unfolding encode_of
front_words sv state = take_at (words_of sv) (drop 54 state) 54 (length_words sv)

length_encoded : (sv : Server) (state : List ℕ) → 54 ≤ length state → length (encode_of sv state) ≡ length state
unfolding encode_of
length_encoded sv state h = omega (arith, length-append (words_of sv) (drop 54 state), length_words sv, length-drop 54 state, h)

-- the words that a call leaves are a state again
pub encoded_state : (sv : Server) (state : List ℕ) → ServerFits sv → is_state (encode_of sv state) ≡ true
unfolding is_state
encoded_state sv state f = rw (four_read sv state f, front_words sv state, four_words sv) (same_self (words_of sv))

pub state_too : (sv : Server) (state after : List ℕ) → after ≡ encode_of sv state → ServerFits sv → (after ≡ encode_of sv state) × (is_state after ≡ true)
state_too sv state after e f = (e, subst (λ (x : List ℕ). is_state x ≡ true) (sym e) (encoded_state sv state f))

-- what words that are a state are read as has those words
pub written_back : (state : List ℕ) → is_state state ≡ true → encode_of (server_at state) state ≡ state
unfolding is_state encode_of
written_back state e =
    ap (λ (l : List ℕ). l ++ drop 54 state) (sym (same_eq (take 54 state) (words_of (server_at state)) e)) ∙ take-append-drop 54 state

pub ready_again : (sv : Server) (state : List ℕ) (counts : ℕ) → ServerFits sv → 54 ≤ length state → 2 ≤ counts
    → ready_of true (encode_of sv state) counts ≡ Ok tt
unfolding ready_of
ready_again sv state counts f h k =
    rw (le-ltb (length (encode_of sv state)) 54 (omega (arith, length_encoded sv state h, h)), le-ltb counts 2 k, encoded_state sv state f)

-- whatever words are read, the numbers read fit their types
up_fits : (case place offset received : ℕ)
    → (up_offset (up_of case place offset received) < 4294967296) × (up_received (up_of case place offset received) < 4294967296)
unfolding up_of up_offset up_received
up_fits case place offset received = go (eqb case 1) (eqb case 2)
  where
    go : (a b : Bool)
        → (up_offset (cond a (up.Receiving place (low offset) (low received)) (cond b up.Ignoring up.Idle)) < 4294967296)
        × (up_received (cond a (up.Receiving place (low offset) (low received)) (cond b up.Ignoring up.Idle)) < 4294967296)
    go true b = (omega arith, omega arith)
    go false true = (omega arith, omega arith)
    go false false = (omega arith, omega arith)

down_fits : (case place offset sent : ℕ)
    → (down_offset (down_of case place offset sent) < 4294967296) × (down_sent (down_of case place offset sent) < 4294967296)
unfolding down_of down_offset down_sent
down_fits case place offset sent =
    either (eqb case 1) _ _ (omega arith, omega arith)
    (either (eqb case 2) _ _ (omega arith, omega arith)
    (either (eqb case 3) _ _ (omega arith, omega arith)
    (either (eqb case 4) _ _ (omega arith, omega arith)
    (either (eqb case 5) _ _ (omega arith, omega arith)
    (either (eqb case 6) _ _ (omega arith, omega arith)
    (either (eqb case 7) _ _ (omega arith, omega arith) (omega arith, omega arith)))))))
  where
    -- what holds of two states holds of the one that a test picks
    either : (b : Bool) (x y : Downlink) → (down_offset x < 4294967296) × (down_sent x < 4294967296)
        → (down_offset y < 4294967296) × (down_sent y < 4294967296)
        → (down_offset (cond b x y) < 4294967296) × (down_sent (cond b x y) < 4294967296)
    either true x y p q = p
    either false x y p q = q

session_fits : (l : List ℕ) (at : ℕ) → SessionFits (session_at l at)
unfolding session_at
session_fits l at =
    let u = up_fits (get_or l (at + 1) 0) (get_or l (at + 2) 0) (get_or l (at + 3) 0) (get_or l (at + 4) 0) in
    let d = down_fits (get_or l (at + 5) 0) (get_or l (at + 6) 0) (get_or l (at + 7) 0) (get_or l (at + 8) 0) in
    record { up = record { offset = u.0; received = u.1 }; down = record { offset = d.0; sent = d.1 } }

each_fits : (a b c d : Session) → SessionFits a → SessionFits b → SessionFits c → SessionFits d
    → (i : ℕ) → i < 4 → SessionFits (get_or (a ∷ b ∷ c ∷ d ∷ []) i closed_session)
each_fits a b c d fa fb fc fd zero h = fa
each_fits a b c d fa fb fc fd (suc zero) h = fb
each_fits a b c d fa fb fc fd (suc (suc zero)) h = fc
each_fits a b c d fa fb fc fd (suc (suc (suc zero))) h = fd
each_fits a b c d fa fb fc fd (suc (suc (suc (suc i)))) h = absurd (omega arith)

pub read_fits : (l : List ℕ) → ServerFits (server_at l)
unfolding server_at
read_fits l =
    record {
      last = record { number = omega arith; time = omega arith };
      each = each_fits (session_at l 6) (session_at l 18) (session_at l 30) (session_at l 42) (session_fits l 6) (session_fits l 18) (session_fits l 30)
          (session_fits l 42);
    }

-- a server fits whose four sessions do
pub server_fits : (sv : Server) → LastFits sv.last → SessionFits (link_of sv 0) → SessionFits (link_of sv 1) → SessionFits (link_of sv 2)
    → SessionFits (link_of sv 3) → ServerFits sv
server_fits sv f a b c d =
    record { last = f; each = one_of (λ (i : ℕ). SessionFits (link_of sv i)) a b c d }
  where
    one_of : (P : ℕ → Type 0) → P 0 → P 1 → P 2 → P 3 → (i : ℕ) → i < 4 → P i
    one_of P a b c d zero h = a
    one_of P a b c d (suc zero) h = b
    one_of P a b c d (suc (suc zero)) h = c
    one_of P a b c d (suc (suc (suc zero))) h = d
    one_of P a b c d (suc (suc (suc (suc i)))) h = absurd (omega arith)
