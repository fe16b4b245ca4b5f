-- A device that is fed bytes one at a time, for any device: its states and its events are parameters. Assumes nothing.
use Rattle.std.specs.Prelude.{List, [], ◌∷◌, ◌++◌, ℕ, zero, suc, ◌+◌, drop}
use Rattle.std.proofs.Math.Option.{Option, none, some}

-- what a byte does: the next state, and the event that it ends in, if any
pub data Step (S E : Type 0) : Type 0 where
  more : S → Step S E
  ends : S → E → Step S E

-- what bytes came to: the state after them, and the events in order
pub record Run (S E : Type 0) : Type 0 where
  pub state : S
  pub events : List E

-- what a call came to, which takes bytes up to the first event, or all: how many it took
pub record Call (S E : Type 0) : Type 0 where
  pub taken : ℕ
  pub state : S
  pub event : Option E

-- the events of a call
unfoldable pub events_of : {E : Type 0} → Option E → List E
events_of none = []
events_of (some e) = e ∷ []

module _ {S E : Type 0} where
  abbrev pub stopped : S → Run S E
  stopped s = record { state = s; events = [] }

  abbrev pub also : List E → Run S E → Run S E
  also es r = record { state = r.state; events = es ++ r.events }

  -- the run that a step begins
  unfoldable pub stepped : Step S E → (S → Run S E) → Run S E
  stepped (more s) k = k s
  stepped (ends s e) k = also (e ∷ []) (k s)

  -- a call that takes n bytes more
  abbrev pub further : ℕ → Call S E → Call S E
  further n c = record { taken = n + c.taken; state = c.state; event = c.event }

  -- the call that a step begins
  unfoldable pub called : Step S E → (S → Call S E) → Call S E
  called (more s) k = further 1 (k s)
  called (ends s e) k = record { taken = 1; state = s; event = some e }

  module _ (byte : S → ℕ → Step S E) where
    -- all bytes, one by one
    unfoldable pub run : S → List ℕ → Run S E
    run s [] = stopped s
    run s (b ∷ bs) = stepped (byte s b) (λ t. run t bs)

    -- the bytes in pieces
    unfoldable pub runs : S → List (List ℕ) → Run S E
    runs s [] = stopped s
    runs s (p ∷ ps) = also (run s p).events (runs (run s p).state ps)

    -- one call
    unfoldable pub call : S → List ℕ → Call S E
    call s [] = record { taken = 0; state = s; event = none }
    call s (b ∷ bs) = called (byte s b) (λ t. call t bs)

    -- calls, until no byte is left; the first number bounds how many
    unfoldable pub calls : ℕ → S → List ℕ → Run S E
    calls zero s bs = stopped s
    calls (suc k) s [] = stopped s
    calls (suc k) s (b ∷ bs) =
        also (events_of (call s (b ∷ bs)).event) (calls k (call s (b ∷ bs)).state (drop (call s (b ∷ bs)).taken (b ∷ bs)))
