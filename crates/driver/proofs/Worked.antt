-- A driver at work: it makes a server of one block, one file, one session and MAXSEL 1 in memory with just room, logs in, uploads the file of 80 bytes,
-- asks for it and is sent it. One of its calls lacks room for the counts. What the statements, hypotheses here, give of it, in plain numbers and bytes. Assumes
-- nothing.
use mathlib.Core.Path.{◌≡◌, refl, ◌∙◌, ap}
use mathlib.Core.Bool.{true}
use mathlib.Core.List.{List, [], ◌∷◌, ◌++◌}
use Prim.Native.Nat.{ℕ, ◌≤◌}
use native.Mathlib.Omega.{arith}
use lib.Count.{ones}
use lib.ListN.{length, replicate}
use Rattle.blocks.specs.FreeMap as blocks-map
use Rattle.blocks.specs.Owners as blocks-owners
use Rattle.blocks.specs.Answers as blocks-answers
use Rattle.server.specs.State.{lent}
use Rattle.server.specs.Check as check
use Rattle.server.specs.Making as making
use Rattle.history.specs.Calls.{lose, call_of, state, Start, legal, made, History, start, ◌▸◌, after}
use Rattle.model.specs.State.{empty}
use Rattle.model.specs.Step as machine
use Rattle.views.specs.View.{view}
use Rattle.cases.specs.Packets.{smallest, complete_as, upload, data', data_end, download}
use Rattle.cases.specs.Pass.{log_in, rx, pump}
use Rattle.cases.specs.Computing.{computing}
use Rattle.embed.specs.Words.{server_at, is_state}
use Rattle.embed.specs.Calls.{Received, received_by, tell_of, filled, free_by}
use Rattle.driver.specs.Driver.{Memory, makes, asked, answered, Calls, nothing, ◌▹◌, reached, Clocks, further, calls_of, StandsFor, EveryDriver, EveryMake, Plays, DriverPlays}

-- ---- the driver

-- the sizes, and memory that holds ones
unfoldable pub small : Start
small =
    record {
      blocks = 1;
      files = 1;
      sessions = 1;
      most = 1;
      lent = lent (replicate 256 1) (1 ∷ []) (1 ∷ []) (replicate 4 1) (1 ∷ []) (replicate 258 1);
    }

abbrev pub words : List ℕ
words = replicate 54 1

-- just room for the two counts; and for one alone
abbrev pub two : List ℕ
two = 9 ∷ 9 ∷ []

abbrev pub one : List ℕ
one = 9 ∷ []

-- the file is uploaded at time 4 and asked for at the latest time that there is; a request between has too short counts
unfoldable pub calls : Calls
calls =
    nothing ▹ asked (log_in 0) two ▹ asked (rx 4 (upload 0 80)) two ▹ asked pump one ▹ asked (rx 4 (data' smallest)) two ▹ asked (rx 4 data_end) two
    ▹ asked (rx 4294967295 (download 1 0 0)) two

-- the history that they are: the call with one count alone is not of it
unfoldable pub history : History
history = start ▸ log_in 0 ▸ rx 4 (upload 0 80) ▸ rx 4 (data' smallest) ▸ rx 4 data_end ▸ rx 4294967295 (download 1 0 0)

calls_are : calls_of calls ≡ history
unfolding calls history calls_of further
calls_are = refl

clocks : Clocks calls
unfolding calls
clocks = ((((((tt, tt), omega arith), tt), omega arith), omega arith), omega arith)

small_legal : legal small ≡ true
unfolding small check.sizes_fit check.room_fits
small_legal = refl

module _ (every : EveryDriver) (make : EveryMake) (machines : DriverPlays) where
  -- figmorella_make answers 0
  pub makes_it : (makes small words).code ≡ 0
  makes_it = make small words small_legal (omega arith)

  -- what it leaves: one block of one is free
  pub all_free : free_by (reached small words nothing).words (reached small words nothing).lent.map two ≡ filled 0 (1 ∷ 1 ∷ [])
  unfolding
      small calls_of after made making.make_of making.empty_of check.sizes_fit check.room_fits blocks-answers.make_map blocks-owners.map_of blocks-owners.word_of
      blocks-map.free_count ones
  all_free = (every small words makes_it nothing tt).free two (omega arith)

  -- ---- it is the server

  abbrev reached_it : Memory
  reached_it = reached small words calls

  stands : StandsFor reached_it (after small (calls_of calls))
  stands = every small words makes_it calls clocks

  pub words_are : (is_state (reached small words calls).words ≡ true) × (54 ≤ length (reached small words calls).words)
  words_are = (stands.words, stands.room)

  pub state_is : state (server_at (reached small words calls).words) (reached small words calls).lent ≡ after small history
  state_is = stands.is ∙ ap (after small) calls_are

  -- its next call is the server's, such as a lost link
  pub lost_link : answered (reached small words calls) (asked (lose 1) two)
      ≡ received_by (reached small words calls).words two (call_of (after small history).server (after small history).lent (lose 1))
  lost_link =
      stands.own (asked (lose 1) two) (omega arith)
      ∙ ap (λ (h : History). received_by reached_it.words two (call_of (after small h).server (after small h).lent (lose 1))) calls_are

  -- a request with one count is refused by 33 and changes nothing; with two it is refused neither by 33 nor by 35
  pub by_33 : (answered (reached small words calls) (asked pump one)).told.code ≡ 33
  by_33 = ap (λ (r : Received). r.told.code) (stands.short (asked pump one) (omega arith))

  pub as_it_was : (answered (reached small words calls) (asked pump one)).told.state ≡ (reached small words calls).words
  as_it_was = ap (λ (r : Received). r.told.state) (stands.short (asked pump one) (omega arith))

  pub not_33 : (answered (reached small words calls) (asked pump two)).told.code ≡ 33 → ⊥
  not_33 e = let z = stands.only_counts (asked pump two) e in omega arith

  pub not_35 : (answered (reached small words calls) (asked pump one)).told.code ≡ 35 → ⊥
  not_35 e = stands.never_35 (asked pump one) e

  -- a driver that begins with a lost link
  pub lost_first : is_state (reached small words (nothing ▹ asked (lose 1) two)).words ≡ true
  lost_first = (every small words makes_it (nothing ▹ asked (lose 1) two) (tt, tt)).words

  -- ---- it is the machine

  plays : Plays reached_it (machine.run (empty 1 1 1 1) (calls_of calls))
  unfolding small
  plays = machines small words makes_it calls clocks

  pub view_is : view (server_at (reached small words calls).words) (reached small words calls).lent ≡ machine.run (empty 1 1 1 1) history
  view_is = plays.view ∙ ap (machine.run (empty 1 1 1 1)) calls_are

  -- the next request is answered by 1; no byte is taken, and 82 are to be sent: DATA, with the file and its five fields set
  pub sends_code : (answered (reached small words calls) (asked pump two)).told.code ≡ 1
  unfolding computing calls machine.run calls_of further tell_of
  sends_code = plays.code (asked pump two) (omega arith)

  pub sends_counts : (answered (reached small words calls) (asked pump two)).told.counts ≡ 0 ∷ 82 ∷ []
  unfolding computing calls machine.run calls_of further tell_of
  sends_counts = plays.counts (asked pump two) (omega arith)

  pub sends_file : (answered (reached small words calls) (asked pump two)).out ≡ 80 ∷ 0 ∷ complete_as 1 4 ++ replicate 176 0
  unfolding computing calls machine.run calls_of further
  sends_file = plays.out (asked pump two) (omega arith)
