-- A client that pages, and what it has been given (demand 3): "So whoever selects from upload time 0, then again above each page's newest time,
-- with an equation that has room for that condition, until a page is shorter than MAXSEL, has been given every matching file complete by then
-- once, oldest first." Said of the machine of crates/model; the server after any calls is the machine after the same calls (`EveryHistory`, crates/refines).
-- Worked.antt has an example, and proofs/Worked.antt the statements at work on it. Assumes nothing.
use Rattle.std.specs.Prelude.{◌≡◌, true, cond, ℕ, ◌-◌, ◌<◌, ltb, length}
use mathlib.Core.List.{List, [], ◌∷◌, ◌++◌, map, Memᴰ}
use Rattle.std.proofs.Math.Option.{Option, none, some}
use Rattle.numbers.specs.Numbers as numbers
use Rattle.header.specs.Items.{fields_of}
use Rattle.equation.specs.Holds.{bytes_of}
use Rattle.equation.specs.Answer.{selects, validity_of}
use Rattle.calls.specs.Call.{Call, login, receive, request, lose, History, start, ◌▸◌}
use Rattle.model.specs.State.{File, Model, empty, session_at}
use Rattle.model.specs.Files.{find}
use Rattle.model.specs.Step.{run}
use Rattle.paging.specs.Client.{Asks, oldest_first, Answers}

-- ---- what is given

-- a file as it is given in a page: its number, and its upload time, which the client reads in its header
pub record Entry : Type 0 where
  pub number : ℕ
  pub time : ℕ

abbrev pub entry : ℕ → ℕ → Entry
entry number time = record { number = number; time = time }

abbrev pub entry_of : File → Entry
entry_of f = entry f.number f.time

-- the upload time of a file that was looked for
abbrev pub time_of : Option File → ℕ
time_of none = 0
time_of (some f) = f.time

-- the page that a session has in a state: "In demand 3 a page is the selection that one SELECT leaves"
unfoldable pub page_in : Model → ℕ → List Entry
page_in m session = map (λ n. entry n (time_of (find n m.files))) (session_at m (session - 1)).selected

-- the newest of the times of a page, and t where there is none newer
unfoldable pub newest_of : ℕ → List Entry → ℕ
newest_of t [] = t
newest_of t (e ∷ es) = newest_of (cond (ltb t e.time) e.time t) es

-- ---- the client

-- It begins at any history. Any calls may come between its pages, of any session, also of its own: among them those that bring the first bytes of a
-- SELECT_CMD. It may ask for each page on any session; the call that asks is a receive call: session, clock, bytes, and the output that the driver lends.
pub data Client : Type 0 where
  begins : History → Client
  waits : Client → Call → Client
  asks : Client → ℕ → ℕ → List ℕ → List ℕ → Client

-- the calls up to now, the newest time that the client knows, and what it has been given
pub record Paged : Type 0 where
  pub history : History
  pub newest : ℕ
  pub given : List Entry

abbrev pub paged : History → ℕ → List Entry → Paged
paged h t given = record { history = h; newest = t; given = given }

-- the server before any call, and the client's equation
module _ (m : Model) (eq : List ℕ) where
  -- the calls up to a page, and the page
  abbrev pub asked : Paged → ℕ → ℕ → List ℕ → List ℕ → History
  asked r session clock input out = r.history ▸ receive session clock input out

  abbrev pub page_for : Paged → ℕ → ℕ → List ℕ → List ℕ → List Entry
  page_for r session clock input out = page_in (run m (asked r session clock input out)) session

  abbrev pub asked_of : Paged → ℕ → ℕ → List ℕ → List ℕ → Paged
  asked_of r session clock input out =
      paged (asked r session clock input out) (newest_of r.newest (page_for r session clock input out)) (r.given ++ page_for r session clock input out)

  -- "selects from upload time 0, then again above each page's newest time"
  unfoldable pub paged_by : Client → Paged
  paged_by (begins h) = paged h 0 []
  paged_by (waits c call) = paged ((paged_by c).history ▸ call) (paged_by c).newest (paged_by c).given
  paged_by (asks c session clock input out) = asked_of (paged_by c) session clock input out

  -- the state then
  abbrev pub state_of : Client → Model
  state_of c = run m (paged_by c).history

  -- each of its pages it asked for above the newest time that it knew
  abbrev pub Allowed : Client → Type 0
  Allowed (begins h) = Unit {0}
  Allowed (waits c call) = Allowed c
  Allowed (asks c session clock input out) = Allowed c × Asks (state_of c) eq (paged_by c).newest session input out

  -- "until a page is shorter than MAXSEL": the last thing that it did was to ask for such a page
  abbrev pub Finished : Client → Type 0
  Finished (begins h) = ⊥
  Finished (waits c call) = ⊥
  Finished (asks c session clock input out) = length (page_for (paged_by c) session clock input out) < m.maxsel

-- ---- the clock

-- "the 32-bit clock": the calls that may complete a file are told it
abbrev pub Clocked : Call → Type 0
Clocked (login session clock out) = Unit {0}
Clocked (receive session clock input out) = clock < 4294967296
Clocked (request session out) = Unit {0}
Clocked (lose session) = Unit {0}

abbrev pub Clocks : History → Type 0
Clocks start = Unit {0}
Clocks (h ▸ c) = Clocks h × Clocked c

-- ---- the answer

-- in a state the file of this number is complete, has this upload time, and the equation matches it
pub record Matches (m : Model) (eq : List ℕ) (e : Entry) : Type 0 where
  pub file : File
  pub found : find e.number m.files ≡ some file
  pub time : file.time ≡ e.time
  pub complete : file.time ≡ 0 → ⊥
  pub matched : selects eq (fields_of file.bytes) ≡ true

-- and its header has one upload_time (12h), which is that time
pub record Stands (m : Model) (eq : List ℕ) (e : Entry) : Type 0 where
  pub matches : Matches m eq e
  pub header : map numbers.number (bytes_of 18 (fields_of matches.file.bytes)) ≡ e.time ∷ []

-- all that stands in a page was such a file when the page was given
abbrev pub EachStood : Model → List ℕ → Client → Type 0
EachStood m eq (begins h) = Unit {0}
EachStood m eq (waits c call) = EachStood m eq c
EachStood m eq (asks c session clock input out) =
    EachStood m eq c
    × ((e : Entry) → Memᴰ e (page_for m eq (paged_by m eq c) session clock input out)
    → Stands (run m (asked m eq (paged_by m eq c) session clock input out)) eq e)

-- no number stands twice
abbrev pub Once : List Entry → Type 0
Once [] = Unit {0}
Once (e ∷ es) = ((f : Entry) → Memᴰ f es → e.number ≡ f.number → ⊥) × Once es

-- the upload times rise strictly, and the first is above t
abbrev pub Rises : ℕ → List Entry → Type 0
Rises t [] = Unit {0}
Rises t (e ∷ es) = (t < e.time) × Rises e.time es

-- "every matching file complete by then once, oldest first". Nothing is said of what became of a file after it was given.
pub record AllGiven (m : Model) (eq : List ℕ) (c : Client) : Type 0 where
  pub stood : EachStood m eq c
  pub once : Once (paged_by m eq c).given
  pub oldest_first_law : Rises 0 (paged_by m eq c).given
  -- "every matching file complete by then": in the state that the last page leaves
  pub every : (e : Entry) → Matches (state_of m eq c) eq e → Memᴰ e (paged_by m eq c).given

-- For a server of any sizes, after any calls with a 32-bit clock, and for every equation that is not refused: a call that asks for the files above a
-- time is answered with them.
abbrev pub PageAnswer : Type 0
PageAnswer =
    (blocks places sessions maxsel : ℕ) (h : History) → Clocks h → (eq : List ℕ) → validity_of eq ≡ 0 → (t : ℕ) → t < 4294967296
    → (session clock : ℕ) (input out : List ℕ) → Asks (run (empty blocks places sessions maxsel) h) eq t session input out
    → Answers (run (empty blocks places sessions maxsel) h) eq t session clock input out

-- THE ANSWER TO THE PUPIL'S QUESTION
abbrev pub Paging : Type 0
Paging =
    (blocks places sessions maxsel : ℕ) (eq : List ℕ) → validity_of eq ≡ 0
    → (c : Client)
    → Allowed (empty blocks places sessions maxsel) eq c
    → Clocks (paged_by (empty blocks places sessions maxsel) eq c).history
    → Finished (empty blocks places sessions maxsel) eq c
    → AllGiven (empty blocks places sessions maxsel) eq c

-- The same in the words of the paper, for a store from which nothing is removed: what has been given are all matching complete files of the state that
-- the last page leaves, oldest first.
abbrev pub PagingWhole : Type 0
PagingWhole =
    (blocks places sessions maxsel : ℕ) (eq : List ℕ) → validity_of eq ≡ 0
    → (c : Client)
    → Allowed (empty blocks places sessions maxsel) eq c
    → Clocks (paged_by (empty blocks places sessions maxsel) eq c).history
    → Finished (empty blocks places sessions maxsel) eq c
    → (paged_by (empty blocks places sessions maxsel) eq c).given ≡ map entry_of (oldest_first eq (state_of (empty blocks places sessions maxsel) eq c))
