-- The server's state as 64-bit words in the caller's memory: 6 words of the server, then 12 words for each of the four sessions. A word that a
-- case does not use is 0. Assumes nothing.
use Rattle.std.specs.Prelude.{Bool, true, false, cond, List, [], ◌∷◌, ◌++◌, ℕ, ◌+◌, ◌%◌, eqb, ltb, length, get_or, take, drop, ⊤, Result, Ok, Err}
use Rattle.session.specs.declared.state.Session.{Session}
use Rattle.session.specs.declared.state.Uplink.{Uplink}
use Rattle.session.specs.declared.state.Uplink.TheVariants as up
use Rattle.session.specs.declared.state.Downlink.{Downlink}
use Rattle.session.specs.declared.state.Downlink.TheVariants as down
use Rattle.session.specs.declared.state.Listed.{Listed}
use Rattle.session.specs.declared.state.Listed.TheVariants as listed
use Rattle.carry.specs.Turn.{last_of}
use Rattle.server.specs.declared.Server.{Server}
use Rattle.server.specs.State.{link_of}

-- ---- a server's words

-- the case, the place, the offset, the bytes received
unfoldable pub up_words : Uplink → List ℕ
up_words up.Idle = 0 ∷ 0 ∷ 0 ∷ 0 ∷ []
up_words (up.Receiving place offset received) = 1 ∷ place ∷ offset ∷ received ∷ []
up_words up.Ignoring = 2 ∷ 0 ∷ 0 ∷ 0 ∷ []

-- a directory of one file has the case 4 or 5, one of selected files 6 or 7; the greater one is the long form
abbrev pub listing_case : Listed → Bool → ℕ
listing_case (listed.One place) long = cond long 5 4
listing_case (listed.Selected first) long = cond long 7 6

-- the file's place, or the first selected one
abbrev pub listed_word : Listed → ℕ
listed_word (listed.One place) = place
listed_word (listed.Selected first) = first

-- the case, the place, the offset, the bytes sent; of a directory how many files lie behind, and how many bytes of the next one's entry
unfoldable pub down_words : Downlink → List ℕ
down_words down.Idle = 0 ∷ 0 ∷ 0 ∷ 0 ∷ []
down_words (down.Sending place offset sent) = 1 ∷ place ∷ offset ∷ sent ∷ []
down_words (down.Ended place) = 2 ∷ place ∷ 0 ∷ 0 ∷ []
down_words (down.Aborting place) = 3 ∷ place ∷ 0 ∷ 0 ∷ []
down_words (down.Listing l long done sent) = listing_case l long ∷ listed_word l ∷ done ∷ sent ∷ []

abbrev pub flag : Bool → ℕ
flag b = cond b 1 0

unfoldable pub session_words : Session → List ℕ
session_words s = flag s.linked ∷ (up_words s.up ++ (down_words s.down ++ (s.held ∷ s.count ∷ s.next ∷ [])))

abbrev pub head_words : Server → List ℕ
head_words sv = sv.blocks ∷ sv.files ∷ sv.sessions ∷ sv.most ∷ sv.last.number ∷ sv.last.time ∷ []

unfoldable pub words_of : Server → List ℕ
words_of sv =
    head_words sv
    ++ (session_words (link_of sv 0) ++ (session_words (link_of sv 1) ++ (session_words (link_of sv 2) ++ session_words (link_of sv 3))))

-- the words in the caller's memory; what is lent beyond them stays as it is
unfoldable pub encode_of : Server → List ℕ → List ℕ
encode_of sv state = words_of sv ++ drop 54 state

-- ---- the server that words are read as; a case that is none is read as the resting one, and a number as its low 32 bits

abbrev pub low : ℕ → ℕ
low n = n % 4294967296

unfoldable pub up_of : ℕ → ℕ → ℕ → ℕ → Uplink
up_of case place offset received =
    cond (eqb case 1) (up.Receiving place (low offset) (low received)) (cond (eqb case 2) up.Ignoring up.Idle)

unfoldable pub down_of : ℕ → ℕ → ℕ → ℕ → Downlink
down_of case place offset sent =
    cond (eqb case 1) (down.Sending place (low offset) (low sent))
    (cond (eqb case 2) (down.Ended place)
    (cond (eqb case 3) (down.Aborting place)
    (cond (eqb case 4) (down.Listing (listed.One place) false offset sent)
    (cond (eqb case 5) (down.Listing (listed.One place) true offset sent)
    (cond (eqb case 6) (down.Listing (listed.Selected place) false offset sent)
    (cond (eqb case 7) (down.Listing (listed.Selected place) true offset sent)
    down.Idle))))))

unfoldable pub session_at : List ℕ → ℕ → Session
session_at l at =
    record {
      linked = eqb (get_or l at 0) 1;
      up = up_of (get_or l (at + 1) 0) (get_or l (at + 2) 0) (get_or l (at + 3) 0) (get_or l (at + 4) 0);
      down = down_of (get_or l (at + 5) 0) (get_or l (at + 6) 0) (get_or l (at + 7) 0) (get_or l (at + 8) 0);
      held = get_or l (at + 9) 0;
      count = get_or l (at + 10) 0;
      next = get_or l (at + 11) 0;
    }

unfoldable pub server_at : List ℕ → Server
server_at l =
    record {
      blocks = get_or l 0 0;
      files = get_or l 1 0;
      sessions = get_or l 2 0;
      most = get_or l 3 0;
      last = last_of (low (get_or l 4 0)) (low (get_or l 5 0));
      links = session_at l 6 ∷ session_at l 18 ∷ session_at l 30 ∷ session_at l 42 ∷ [];
    }

-- ---- which words are a state

unfoldable pub same_words : List ℕ → List ℕ → Bool
same_words [] [] = true
same_words [] (y ∷ ys) = false
same_words (x ∷ xs) [] = false
same_words (x ∷ xs) (y ∷ ys) = cond (eqb x y) (same_words xs ys) false

-- the words of the server that they are read as: so no case or flag that is none, no number above its type, and 0 where a case uses no word
unfoldable pub is_state : List ℕ → Bool
is_state state = same_words (take 54 state) (words_of (server_at state))

-- "33 local: a size or length outside the table .. or a lent buffer too short", "35 local: in the state handed in, .. facts .. are broken":
-- "Order: 33, 35". Words that are no state are refused by 35, where nothing is to be refused by 33. `counts` is the length of what is lent for
-- the counts; `fit`: the sizes in words 0 to 3 are in the table, and all else that is lent has room for them.
unfoldable pub ready_of : Bool → List ℕ → ℕ → Result ⊤ ℕ
ready_of fit state counts =
    cond (ltb (length state) 54) (Err 33)
    (cond (ltb counts 2) (Err 33) (cond fit (cond (is_state state) (Ok tt) (Err 35)) (Err 33)))
