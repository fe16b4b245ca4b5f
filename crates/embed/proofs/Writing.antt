-- Words written one after the other are written as one run.
use mathlib.Core.Path.{◌≡◌, refl, ap, ◌∙◌}
use mathlib.Core.Bool.{Bool, true, false, cond, ◌&&◌}
use mathlib.Core.List.{List, [], ◌∷◌, ◌++◌}
use Prim.Native.Nat.{ℕ, zero, suc, ◌+◌, ◌≤◌, ◌<◌}
use native.Mathlib.Omega.{arith}
use mathlib.Core.List.{append-nil}
use lib.ListN.{length, length-append, get_or, set, take, drop}
use lib.Seq.{sets, sets-eq}
use lib.Dec.{eqb}
use lib.Pointwise.{pointwise}
use Rattle.session.specs.declared.state.Session.{Session}
use Rattle.session.specs.declared.state.Uplink.{Uplink}
use Rattle.session.specs.declared.state.Uplink.TheVariants as up
use Rattle.session.specs.declared.state.Downlink.{Downlink}
use Rattle.session.specs.declared.state.Downlink.TheVariants as down
use Rattle.server.specs.declared.Server.{Server}
use Rattle.server.specs.State.{link_of}
use Rattle.embed.specs.Words.{up_words, down_words, flag, session_words, head_words, words_of, encode_of, same_words}

-- ---- lengths

pub length_up : (u : Uplink) → length (up_words u) ≡ 4
unfolding up_words
length_up up.Idle = refl
length_up (up.Receiving place offset received) = refl
length_up up.Ignoring = refl

pub length_down : (d : Downlink) → length (down_words d) ≡ 4
unfolding down_words
length_down down.Idle = refl
length_down (down.Sending place offset sent) = refl
length_down (down.Ended place) = refl
length_down (down.Aborting place) = refl
length_down (down.Listing l long done sent) = refl

pub length_session : (s : Session) → length (session_words s) ≡ 12
unfolding session_words
length_session s =
    rw (
      length-append (up_words s.up) (down_words s.down ++ (s.held ∷ s.count ∷ s.next ∷ [])),
      length-append (down_words s.down)
          (s.held ∷ s.count ∷ s.next ∷ []),
      length_up s.up,
      length_down s.down,
    )

-- ---- runs

pub run_next : (xs : List ℕ) (l : List ℕ) (a b : ℕ) (ys : List ℕ) → b ≡ a + length xs → sets (sets l a xs) b ys ≡ sets l a (xs ++ ys)
run_next [] l a b ys e = ap (λ (k : ℕ). sets l k ys) (omega arith)
run_next (x ∷ xs) l a b ys e = run_next xs (set l a x) (suc a) b ys (omega arith)

pub run_four : (l : List ℕ) (at a b c d : ℕ)
    → set (set (set (set l at a) (at + 1) b) (at + 2) c) (at + 3) d ≡ sets l at (a ∷ b ∷ c ∷ d ∷ [])
run_four l at a b c d =
    let e1 : at + 1 ≡ suc at = omega arith in
    let e2 : at + 2 ≡ suc (suc at) = omega arith in
    let e3 : at + 3 ≡ suc (suc (suc at)) = omega arith in
    rw (e1, e2, e3)

pub run_three : (l : List ℕ) (at a b c : ℕ) → set (set (set l at a) (at + 1) b) (at + 2) c ≡ sets l at (a ∷ b ∷ c ∷ [])
run_three l at a b c =
    let e1 : at + 1 ≡ suc at = omega arith in
    let e2 : at + 2 ≡ suc (suc at) = omega arith in
    rw (e1, e2)

-- a session's words are written as its flag, its two sides and its three numbers
pub run_session : (l : List ℕ) (at : ℕ) (s : Session)
    → sets (sets (sets (set l at (flag s.linked)) (at + 1) (up_words s.up)) (at + 5) (down_words s.down)) (at + 9)
    (s.held ∷ s.count ∷ s.next ∷ [])
    ≡ sets l at (session_words s)
unfolding session_words
run_session l at s =
    let h = set l at (flag s.linked) in
    let tail = s.held ∷ s.count ∷ s.next ∷ [] in
    let e1 : at + 1 ≡ suc at = omega arith in
    run_next (down_words s.down) (sets h (at + 1) (up_words s.up)) (at + 5) (at + 9) tail (omega (arith, length_down s.down))
    ∙ run_next (up_words s.up) h (at + 1) (at + 5) (down_words s.down ++ tail) (omega (arith, length_up s.up))
    ∙ ap (λ (k : ℕ). sets h k (up_words s.up ++ (down_words s.down ++ tail))) e1

-- ---- all words

drop_all : (xs : List ℕ) (i : ℕ) → length xs ≤ i → drop i xs ≡ []
drop_all [] zero h = refl
drop_all [] (suc i) h = refl
drop_all (x ∷ xs) zero h = absurd (omega arith)
drop_all (x ∷ xs) (suc i) h = drop_all xs i (omega arith)

four_sessions : (a b c d : Session) → length (session_words a ++ (session_words b ++ (session_words c ++ session_words d))) ≡ 48
four_sessions a b c d =
    rw (
      length-append (session_words a) (session_words b ++ (session_words c ++ session_words d)),
      length-append (session_words b)
          (session_words c ++ session_words d),
      length-append (session_words c)
          (session_words d),
      length_session a,
      length_session b,
      length_session c,
      length_session d,
    )

pub length_words : (sv : Server) → length (words_of sv) ≡ 54
unfolding words_of
length_words sv =
    omega (
      arith,
      length-append (head_words sv) (session_words (link_of sv 0) ++
          (session_words (link_of sv 1) ++ (session_words (link_of sv 2) ++ session_words (link_of sv 3)))),
      four_sessions (link_of sv 0) (link_of sv 1)
          (link_of sv 2) (link_of sv 3),
    )

runs : (h a b c d : List ℕ) (l : List ℕ) → length h ≡ 6 → length a ≡ 12 → length b ≡ 12 → length c ≡ 12
    → sets (sets (sets (sets (sets l 0 h) 6 a) 18 b) 30 c) 42 d ≡ sets l 0 (h ++ (a ++ (b ++ (c ++ d))))
runs h a b c d l eh ea eb ec =
    run_next c (sets (sets (sets l 0 h) 6 a) 18 b) 30 42 d (omega (arith, ec))
    ∙ run_next b (sets (sets l 0 h) 6 a) 18 30 (c ++ d) (omega (arith, eb))
    ∙ run_next a (sets l 0 h) 6 18 (b ++ (c ++ d)) (omega (arith, ea))
    ∙ run_next h l 0 6 (a ++ (b ++ (c ++ d))) (omega (arith, eh))

all_runs : (sv : Server) (l : List ℕ)
    → sets (sets (sets (sets (sets l 0 (head_words sv)) 6 (session_words (link_of sv 0))) 18 (session_words (link_of sv 1))) 30
    (session_words (link_of sv 2))) 42 (session_words (link_of sv 3))
    ≡ sets l 0 (words_of sv)
unfolding words_of
all_runs sv l =
    runs (head_words sv) (session_words (link_of sv 0)) (session_words (link_of sv 1)) (session_words (link_of sv 2)) (session_words (link_of sv 3)) l refl
    (length_session (link_of sv 0)) (length_session (link_of sv 1)) (length_session (link_of sv 2))

front : (xs l : List ℕ) → length xs ≡ 54 → take 0 l ++ xs ++ drop (0 + length xs) l ≡ xs ++ drop 54 l
front xs l e = let z : 0 + length xs ≡ 54 = omega (arith, e) in rw z

pub run_server : (sv : Server) (l : List ℕ) → 54 ≤ length l
    → sets (sets (sets (sets (sets l 0 (head_words sv)) 6 (session_words (link_of sv 0))) 18 (session_words (link_of sv 1))) 30
    (session_words (link_of sv 2))) 42 (session_words (link_of sv 3))
    ≡ encode_of sv l
unfolding encode_of
run_server sv l h =
    all_runs sv l ∙ (sets-eq (words_of sv) l 0 (omega (arith, length_words sv, h)) ∙ front (words_of sv) l (length_words sv))

-- words alone
pub encode_alone : (sv : Server) (l : List ℕ) → length l ≤ 54 → encode_of sv l ≡ words_of sv
unfolding encode_of
encode_alone sv l h = rw (drop_all l 54 h) (append-nil (words_of sv))

-- ---- comparing

-- std's comparison of words
pub words_same : (xs ys : List ℕ) → pointwise eqb xs ys ≡ same_words xs ys
unfolding same_words
words_same [] [] = refl
words_same [] (y ∷ ys) = refl
words_same (x ∷ xs) [] = refl
words_same (x ∷ xs) (y ∷ ys) = go (eqb x y) (words_same xs ys)
  where
    go : (b : Bool) → pointwise eqb xs ys ≡ same_words xs ys → (b && pointwise eqb xs ys) ≡ cond b (same_words xs ys) false
    go true e = e
    go false e = refl
