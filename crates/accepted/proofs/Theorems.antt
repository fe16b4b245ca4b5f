-- DEMAND 3 OF THE MACHINE, as theorems: the statements of specs/Agreement.antt, for every history from an empty store. Assumes nothing.
use mathlib.Core.Path.{◌≡◌, refl, sym, ap, ◌∙◌, subst}
use mathlib.Core.Bool.{Bool, true, false, cond}
use mathlib.Core.List.{List, [], ◌++◌, append-nil}
use mathlib.Core.Logic.{◌⊎◌}
use mathlib.Core.Option.{Option, none, some}
use Prim.Native.Nat.{ℕ, ◌+◌, ◌-◌, ◌≤◌, ◌<◌}
use native.Mathlib.Omega.{arith}
use lib.Dec.{eqb}
use lib.ListN.{length, take}
use Rattle.packet.specs.Frame as frame
use Rattle.header.specs.Items.{fields_of}
use Rattle.header.specs.Header.{verdict, bytes_of, check_items}
use Rattle.header.specs.Fields.{fields_set}
use Rattle.header.proofs.Written.{Bytes}
use Rattle.header.proofs.Set.{verdict_parts, set_verdict, set_length, set_there, set_kept}
use Rattle.session.specs.declared.reply.Answer.{Answer}
use Rattle.session.specs.declared.reply.Answer.TheVariants as answer
use Rattle.decide.specs.Words.{word_at}
use Rattle.calls.specs.Call.{Call, login, receive, request, lose, History, start, ◌▸◌}
use Rattle.model.specs.State.{File, Model, empty}
use Rattle.model.specs.Files.{find}
use Rattle.model.specs.Step.{step, run}
use Rattle.steps.specs.Parts.{sent_by, type_of}
use Rattle.steps.specs.Change.{Change, same, begins, grows, completes, drops}
use Rattle.steps.specs.Naming.{Partial}
use Rattle.steps.proofs.Changes.{one_change}
use Rattle.steps.proofs.Own.{own_file}
use Rattle.accepted.specs.Exchange.{Exchange, session_of, sent_in, Transcript, ◌▹◌, exchanged, transcript}
use Rattle.accepted.specs.Link.{heard_by, heard_in, info_of, info_in}
use Rattle.accepted.specs.Events.{nothing, given, upload_of, on_go, on_sent, on_answer, event_by}
use Rattle.accepted.specs.Accepted.{added_by, accepted, reserved, total, numbers_given, from_one, blocks_of}
use Rattle.accepted.specs.Agreement.{NumbersOnce, BlocksReserved, number_of, OnlyFive, FiveFields, NamedByTime, StaysValid, Offered, Offers, OwnFile}
use Rattle.accepted.specs.Agreement.{Agrees, EveryTranscript}
use Rattle.accepted.proofs.Files.{found_number, number_some, numbers_rise, total_same, blocks_in, reserved_total, reserved_some}
use Rattle.accepted.proofs.Lists.{from_one_length, from_one_rising}
use Rattle.accepted.proofs.Bytes.{accepted_bytes}
use Rattle.accepted.proofs.Packets.{Gone}
use Rattle.accepted.proofs.Calls.{call_acts}
use Rattle.accepted.proofs.Story.{Story, as_told, story_step, story}

module _ (m : Model) (t : Transcript) (y : Story m t) where
  count_given : length (numbers_given t) ≡ m.last_number
  count_given = ap length y.numbers ∙ from_one_length m.last_number

  -- "no file number is given twice"
  numbers_once : NumbersOnce m t
  numbers_once =
      record {
        rising = rw y.numbers (from_one_rising m.last_number).0;
        counted = y.numbers ∙ ap from_one (sym count_given);
        own = λ n f e. found_number n m.files f e;
        known = λ n f e. omega (arith, count_given, (number_some n 0 m.last_number m.last_time m.files f y.sound.numbers e).most);
        apart = numbers_rise 0 m.last_number m.last_time m.files y.sound.numbers;
      }

  -- "blocks held equal the sum over live files of their reserved blocks by history"
  blocks_reserved : BlocksReserved m t
  blocks_reserved =
      reserved_total 0 m.last_number m.last_time m.files y.sound.numbers
      ∙ sym (total_same m.last_number (blocks_in m.files) (reserved t) (λ k h. ap blocks_of (sym (y.standing k))))
      ∙ ap (λ (n : ℕ). total n (reserved t)) (sym count_given)

  -- ".. with only the [five] server-set fields replaced"
  only_five : (n time : ℕ) (file : List ℕ) → Bytes file → check_items file ≡ 0 → OnlyFive file (fields_set n time file)
  only_five n time file v e =
      record {
        size = set_length n time file;
        rest = λ k o. set_kept n time file v e k (o.0, (o.1.0, (o.1.1.0, (o.1.1.1.0, tt)))) o.1.1.1.1.0;
      }

  set_as : (n : ℕ) (f : File) → find n m.files ≡ some f → (f.time ≡ 0 → ⊥) → f.bytes ≡ fields_set f.number f.time (accepted t n)
  set_as n f e late = (y.contents n f e).complete late

  five_fields : FiveFields m t
  five_fields b n f e late =
      let acc = accepted t n in
      subst (OnlyFive acc) (sym (set_as n f e late))
      (only_five f.number f.time acc (accepted_bytes n t b) (verdict_parts acc (length acc) ((y.contents n f e).checked late)).1)

  -- the name reads back as it was set
  named_by_time : NamedByTime m t
  named_by_time b n f e late =
      let acc = accepted t n in
      ap (λ (file : List ℕ). bytes_of 2 (fields_of file)) (set_as n f e late)
      ∙ (set_there f.number f.time acc (accepted_bytes n t b) (verdict_parts acc (length acc) ((y.contents n f e).checked late)).1).1.0

  -- an accepted file with its fields set is accepted again
  stays_valid : StaysValid m t
  stays_valid b n f e late =
      let acc = accepted t n in
      ap (λ (file : List ℕ). verdict file (length file)) (set_as n f e late)
      ∙ ap (verdict (fields_set f.number f.time acc)) (set_length f.number f.time acc)
      ∙ set_verdict f.number f.time acc (length acc) (accepted_bytes n t b) ((y.contents n f e).checked late)

  -- "a call changes no file but its own"
  own_stays : (c : Call) → OwnFile m t c
  own_stays c n f e other =
      own_file m c n (λ up. other (sym (ap number_of up) ∙ y.under (session_of c)))
      (number_some n 0 m.last_number m.last_time m.files f y.sound.numbers e).most
      ∙ e

-- ---- "a continuation offers that length"

-- a call that sends UL_GO_RESP adds no bytes
go_adds : (number n : ℕ) (h : Option frame.Event) → added_by (on_go number h) n ≡ []
unfolding on_go added_by
go_adds number n none = refl
go_adds number n (some frame.too_long) = refl
go_adds number n (some (frame.packet kind info)) = go (eqb (word_at info 0) 0)
  where
    go : (b : Bool) → added_by (cond b (given number (word_at info 4)) nothing) n ≡ []
    go true = refl
    go false = refl

answer_adds : (a : Answer) (out : List ℕ) (u : ℕ) (h : Option frame.Event) (clock n : ℕ) → type_of (sent_by a out) ≡ 4 → added_by (on_answer a out u h clock) n ≡ []
unfolding on_answer on_sent sent_by
answer_adds (answer.Quiet taken) out u h clock n e = absurd (omega (arith, e))
answer_adds (answer.Sent taken size) out u h clock n e = rw e (go_adds (word_at (take size out) 2) n h)
answer_adds (answer.Closed taken) out u h clock n e = absurd (omega (arith, e))
answer_adds (answer.Refused r) out u h clock n e = absurd (omega (arith, e))

event_adds : (c : Call) (a : Answer) (out : List ℕ) (u : ℕ) (h : Option frame.Event) (n : ℕ) → type_of (sent_by a out) ≡ 4 → added_by (event_by u h c a out) n ≡ []
unfolding added_by
event_adds (login session clock o) a out u h n e = refl
event_adds (receive session clock input o) a out u h n e = answer_adds a out u h clock n e
event_adds (request session o) a out u h n e = refl
event_adds (lose session) a out u h n e = refl

-- the sizes stay
blocks_stay : (m : Model) (i : ℕ) (m' : Model) → Change m i m' → m'.blocks ≡ m.blocks
blocks_stay m i m' (same k) = ap (λ (x : Model). x.blocks) k.leaves.after
blocks_stay m i m' (begins k) = ap (λ (x : Model). x.blocks) k.leaves.after
blocks_stay m i m' (grows k) = ap (λ (x : Model). x.blocks) k.leaves.after
blocks_stay m i m' (completes k) = ap (λ (x : Model). x.blocks) k.leaves.after
blocks_stay m i m' (drops k) = ap (λ (x : Model). x.blocks) k.leaves.after

module _ (m : Model) (t : Transcript) (y : Story m t) (few : m.blocks ≤ 4096) (c : Call) where
  abbrev m' : Model
  m' = (step m c).after

  abbrev x : Exchange
  x = exchanged m c

  after : Story m' (t ▹ x)
  after = story_step m t y c

  -- the bytes of a partial file that there is afterwards are those accepted before
  as_accepted : type_of (sent_in x) ≡ 4 → (k : ℕ) (own : Partial k m'.files) → own.file.bytes ≡ accepted t k
  unfolding accepted
  as_accepted four k own =
      (after.contents k own.file own.found).partial own.time
      ∙ ap (λ (bytes : List ℕ). accepted t k ++ bytes)
      (event_adds c (step m c).told.answer (step m c).told.out (upload_of t (session_of c)) (heard_in t x) k four)
      ∙ append-nil (accepted t k)

  -- an offset has 32 bits
  small : (k : ℕ) (own : Partial k m'.files) → length own.file.bytes < 4294967296
  small k own =
      let h = after.contents k own.file own.found in
      omega (
        arith,
        few,
        ap length (h.partial own.time),
        h.within,
        reserved_some k m'.files own.file own.found,
        after.sound.room,
        blocks_stay m (session_of c) m' (one_change m c),
      )

  offers : Offers m t c
  offers four =
      given (subst (λ (bytes : List ℕ). Gone (sent_in x) (info_of (heard_by c (step m c).told.answer bytes)) m') (y.unfinished (session_of c))
      ((call_acts m y.named y.sound y.bound y.waits c).offer four))
    where
      given : Gone (sent_in x) (info_in t x) m' → Offered t (info_in t x) (sent_in x)
      given g =
          record {
            offset = g.offset_is (small g.number g.own) ∙ ap length (as_accepted four g.number g.own)
                ∙ ap (λ (n : ℕ). length (accepted t n)) (sym g.number_is);
            number = λ z. g.number_is ∙ g.asked z;
          }

-- ---- AFTER ANY CALLS

agrees : (m : Model) (t : Transcript) → Story m t → m.blocks ≤ 4096 → Agrees m t
agrees m t y few =
    record {
      unfinished = y.unfinished;
      numbers = numbers_once m t y;
      standing = y.standing;
      blocks = blocks_reserved m t y;
      contents = y.contents;
      under = y.under;
      fields = five_fields m t y;
      named = named_by_time m t y;
      valid = stays_valid m t y;
      offers = offers m t y few;
      own = own_stays m t y;
      told = as_told m t y;
      times = record { rising = y.timed.rising; own = y.own; kept = y.kept };
    }

pub blocks_after : (m : Model) (h : History) → (run m h).blocks ≡ m.blocks
unfolding run
blocks_after m start = refl
blocks_after m (h ▸ c) = blocks_stay (run m h) (session_of c) (step (run m h) c).after (one_change (run m h) c) ∙ blocks_after m h

-- THEOREM
pub every_transcript : EveryTranscript
every_transcript blocks places sessions maxsel most h =
    let m = empty blocks places sessions maxsel in
    agrees (run m h) (transcript m h) (story blocks places sessions maxsel h) (omega (arith, most, blocks_after m h))
