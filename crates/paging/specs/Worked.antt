-- A worked example: three blocks, three places for files, two sessions and MAXSEL 1. Two files are completed in one second, and a client pages. The
-- SELECT_CMD for its first page comes in three pieces, and between its pages a third file is completed. Assumes nothing.
use Rattle.std.specs.Prelude.{◌≡◌, List, [], ◌∷◌, ◌++◌, ℕ, ◌+◌, ◌≤◌, length, take, drop, replicate}
use Rattle.numbers.specs.Numbers.{four}
use Rattle.packet.specs.Packet.{packet_of}
use Rattle.equation.specs.Newer.{unmarked, narrowed}
use Rattle.equation.specs.Answer.{validity_of}
use Rattle.calls.specs.Call.{Call, login, receive, request, History, start, ◌▸◌}
use Rattle.model.specs.State.{Model, empty, session_at}
use Rattle.model.specs.Step.{run}
use Rattle.paging.specs.Examples.{smallest}
use Rattle.paging.specs.Client.{Asks, page_of, numbers_of}
use Rattle.paging.specs.Paging.{entry, Client, begins, waits, asks, state_of, paged_by, Allowed, Finished, Clocks, page_for, Matches}
use Rattle.paging.specs.Pieces.{waits_for, Pieces}
use Rattle.paging.specs.Directories.{entries_next}

abbrev pub small : Model
small = empty 3 3 2 1

abbrev pub output : List ℕ
output = replicate 258 0

-- a session takes one packet at time 7
abbrev pub taking : ℕ → ℕ → List ℕ → Call
taking session kind info = receive session 7 (packet_of kind info) output

-- UPLOAD_CMD for a new file of 80 bytes
abbrev pub upload : ℕ → Call
upload session = taking session 3 (four 0 ++ four 80)

-- Files 1 and 2 are begun on two sessions, and completed in the order 2, 1, both at time 7: "number 6 may complete after number 7 (003)".
unfoldable pub uploaded : History
uploaded =
    start ▸ login 1 7 output ▸ login 2 7 output ▸ upload 1 ▸ upload 2 ▸ taking 1 0 smallest ▸ taking 2 0 smallest ▸ taking 2 1 [] ▸ taking 1 1 []

-- file 3 when it is complete: its number, its times 9, the name "00000009", and the sum that they make
unfoldable pub third : List ℕ
third =
    170 ∷ 85 ∷ 1 ∷ 0 ∷ 4 ∷ 3 ∷ 0 ∷ 0 ∷ 0 ∷ 2 ∷ 0 ∷ 8 ∷ 48 ∷ 48 ∷ 48 ∷ 48 ∷ 48 ∷ 48 ∷ 48 ∷ 57 ∷ 3 ∷ 0 ∷ 3 ∷ 0 ∷ 0 ∷ 0 ∷ 4 ∷ 0 ∷ 4 ∷ 80 ∷ 0 ∷ 0 ∷ 0 ∷ 5 ∷ 0 ∷
    4 ∷ 0 ∷ 0 ∷ 0 ∷ 0 ∷ 6 ∷ 0 ∷ 4 ∷ 9 ∷ 0 ∷ 0 ∷ 0 ∷ 7 ∷ 0 ∷ 1 ∷ 0 ∷ 8 ∷ 0 ∷ 1 ∷ 0 ∷ 9 ∷ 0 ∷ 2 ∷ 0 ∷ 0 ∷ 10 ∷ 0 ∷ 2 ∷ 184 ∷ 3 ∷ 11 ∷ 0 ∷ 2 ∷ 80 ∷ 0 ∷
    18 ∷ 0 ∷ 4 ∷ 9 ∷ 0 ∷ 0 ∷ 0 ∷ 0 ∷ 0 ∷ 0 ∷ []

-- file_size (04) equal to 80
abbrev pub sized : List ℕ
sized = 128 ∷ 4 ∷ 0 ∷ 1 ∷ 80 ∷ []

-- file_name (02) equal to 243 letters, and an end mark: 248 bytes; without the mark nine bytes more are just 256
unfoldable pub longest : List ℕ
longest = 131 ∷ 2 ∷ 0 ∷ 243 ∷ replicate 243 97 ++ 0 ∷ []

-- the first bytes of the first SELECT_CMD come in two pieces, and between them the other session begins file 3
abbrev pub first : List ℕ
first = packet_of 16 (narrowed sized 0)

unfoldable pub pieces : List Call
pieces = receive 1 8 (take 1 first) output ∷ upload 2 ∷ receive 1 8 (take 5 (drop 1 first)) output ∷ []

unfoldable pub rest : List ℕ
rest = drop 6 first

-- it asks with the last piece, and while pages are full it asks again above the newest time; before its second page file 3 is completed
abbrev pub beginning : Client
beginning = waits_for (begins uploaded) pieces

unfoldable pub reader : Client
reader =
    asks
    (asks
    (asks (waits (waits (asks beginning 1 8 rest output) (taking 2 0 smallest)) (taking 2 1 [])) 1 8 (packet_of 16 (narrowed sized 7)) output) 1 8
    (packet_of 16 (narrowed sized 8)) output)
    1 4294967295 (packet_of 16 (narrowed sized 9)) output

-- The hypotheses of the theorems on paging are met: the client has been given all three files, one a page, and its last page was empty.
pub record Met : Type 0 where
  pub accepted : validity_of sized ≡ 0
  -- of the pieces: SELECT_CMD (16) for the equation, upload_time (12h) greater than 0, and AND
  pub bytes : first ≡ 14 ∷ 16 ∷ 128 ∷ 4 ∷ 0 ∷ 1 ∷ 80 ∷ 144 ∷ 18 ∷ 0 ∷ 4 ∷ 0 ∷ 0 ∷ 0 ∷ 0 ∷ 1 ∷ []
  pub room : length (unmarked sized) + 9 ≤ 256
  pub in_pieces : Pieces small sized (begins uploaded) 1 pieces rest output
  -- of one page
  pub before : Clocks (paged_by small sized beginning).history
  pub held : (session_at (state_of small sized beginning) 0).held ≡ 14 ∷ 16 ∷ 128 ∷ 4 ∷ 0 ∷ 1 ∷ []
  pub asking : Asks (state_of small sized beginning) sized 0 1 rest output
  pub oldest : numbers_of (page_of (state_of small sized beginning) sized 0) ≡ 2 ∷ []
  pub page : page_for small sized (paged_by small sized beginning) 1 8 rest output ≡ entry 2 7 ∷ []
  -- of the directory of this page
  pub page_before : Clocks (paged_by small sized (asks beginning 1 8 rest output)).history
  pub shown : entries_next (state_of small sized (asks beginning 1 8 rest output)) 1 ≡ entry 2 7 ∷ []
  -- of the second page, which is asked for in one piece behind a request of the other session
  pub first_allowed : Allowed small sized (asks beginning 1 8 rest output)
  pub second_in_one :
      Pieces small sized (asks beginning 1 8 rest output) 1 (request 2 output ∷ []) (packet_of 16 (narrowed sized 7)) output
  pub second_before : Clocks (paged_by small sized (waits_for (asks beginning 1 8 rest output) (request 2 output ∷ []))).history
  -- of the longest equation that has room for the condition, above the latest time
  pub longest_size : length longest ≡ 248
  pub longest_accepted : validity_of longest ≡ 0
  pub longest_room : length (unmarked longest) + 9 ≤ 256
  pub longest_in_one : Pieces small longest (begins uploaded) 1 [] (packet_of 16 (narrowed longest 0)) output
  pub longest_before : Clocks uploaded
  pub longest_asking : Asks (run small uploaded) longest 4294967295 1 (packet_of 16 (narrowed longest 4294967295)) output
  -- of the client
  pub allowed : Allowed small sized reader
  pub clocks : Clocks (paged_by small sized reader).history
  pub finished : Finished small sized reader
  pub given : (paged_by small sized reader).given ≡ entry 2 7 ∷ entry 1 8 ∷ entry 3 9 ∷ []
  -- of the last file that it is owed
  pub last : Matches (state_of small sized reader) sized (entry 3 9)
