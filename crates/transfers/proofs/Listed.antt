-- A DIR_SHORT_CMD or DIR_LONG_CMD that is not refused begins a directory. Assumes nothing.
use mathlib.Core.Path.{◌≡◌, refl, sym, ap, ◌∙◌, subst}
use mathlib.Core.Bool.{Bool, true, false, cond}
use mathlib.Core.List.{List, [], ◌∷◌, ◌++◌}
use mathlib.Core.Option.{Option, none, some}
use Prim.Native.Nat.{ℕ, min, ◌+◌, ◌-◌, ◌≤◌, ◌<◌}
use native.Mathlib.Omega.{arith}
use borrow.Author.Tests.{eqb-false, ltb-true}
use lib.Dec.{eqb, ltb}
use lib.ListN.{length, drop, length-take, length-drop}
use lib.Seq.{get_or-set_same}
use Rattle.packet.specs.Frame.{packet}
use Rattle.session.specs.declared.reply.Answer.TheVariants as answer
use Rattle.decide.specs.Words.{word_at}
use Rattle.calls.specs.Call.{receive}
use Rattle.model.specs.State.{File, listing, Session, closed_session, with_down, with_next, with_held}
use Rattle.model.specs.State.{Model, session_at, with_session, Turn, Stepped}
use Rattle.model.specs.Files.{find}
use Rattle.model.specs.Downlink.{next_ten, directory_of_one, directory_numbered, on_dir_cmd}
use Rattle.model.specs.Step.{by_type, on_packet, ends_in, step}
use Rattle.steps.specs.Naming.{AllComplete, Named}
use Rattle.transfers.specs.Directories.{directory_type, numbers_listed, place_after, Lists, DirectoryBegins}
use Rattle.steps.proofs.Found.{all_take, all_drop}
use Rattle.transfers.proofs.Quiet.{Accepts, refuses, by, by_state, Through, found, step_is, own, found_there, none_refused, gone_through, no_reply}

-- ---- what an accepted command leaves

module _ (m : Model) (i : ℕ) where
  -- the session is to be sent the directory of the files of these numbers
  record Directs (long : Bool) (ns : List ℕ) (place : ℕ) (t : Turn) : Type 0 where
    some : 1 ≤ length ns
    complete : AllComplete m.files ns
    after : t.after ≡ with_session m i (with_down (listing long ns 0) (with_next place (session_at m i)))

  abbrev Listing : Bool → List ℕ → ℕ → Turn → Type 0
  Listing long ns place t = Accepts m i (Directs long ns place) t

  either : (b : Bool) (long : Bool) (ns ks : List ℕ) (p q : ℕ) (x y : Turn) → Listing long ns p x → Listing long ks q y
      → Listing long (cond b ns ks) (cond b p q) (cond b x y)
  either true long ns ks p q x y f g = f
  either false long ns ks p q x y f g = g

  one_begins : (f : Option File) (long : Bool) (n : ℕ) → find n m.files ≡ f
      → Listing long (n ∷ []) (session_at m i).next (directory_of_one f m i long n)
  unfolding directory_of_one
  one_begins none long n e = refuses m i (Directs long (n ∷ []) (session_at m i).next) 4
  one_begins (some f) long n e =
      by m i (Directs long (n ∷ []) (session_at m i).next) (eqb f.time 0) _ _ (λ _. refuses m i (Directs long (n ∷ []) (session_at m i).next) 11)
      (λ q _.
      record { some = omega arith; complete = (record { file = f; found = e; time = eqb-false f.time 0 q }, tt); after = refl })

  -- there is a next file
  some_next : (s : Session) → s.next < length s.selected → 1 ≤ length (next_ten s)
  some_next s h =
      let l : length (next_ten s) ≡ min 10 (length s.selected - s.next) =
      length-take 10 (drop s.next s.selected) ∙ ap (min 10) (length-drop s.next s.selected) in
      omega arith

  command_begins : (long : Bool) (info : List ℕ) → AllComplete m.files (session_at m i).selected
      → Listing long (numbers_listed (session_at m i) info) (place_after (session_at m i) info) (on_dir_cmd long m i (session_at m i) info)
  unfolding on_dir_cmd directory_numbered numbers_listed place_after
  command_begins long info k =
      by m i (Directs long (numbers_listed s info) (place_after s info)) (eqb (length info) 4) _ _
      (λ _.
      either (eqb (word_at info 0) 0) long (next_ten s) (word_at info 0 ∷ []) (s.next + length (next_ten s)) s.next _ _
      (by m i next (ltb s.next (length s.selected)) _ _
      (λ q _.
      record {
        some = some_next s (ltb-true s.next (length s.selected) q);
        complete = all_take 10 m.files (drop s.next s.selected) (all_drop s.next m.files s.selected k);
        after = refl;
      })
      (λ _. refuses m i next 5))
      (one_begins (find (word_at info 0) m.files) long (word_at info 0) refl))
      (λ _. refuses m i (Directs long (numbers_listed s info) (place_after s info)) 1)
    where
      s : Session
      s = session_at m i

      next : Turn → Type 0
      next = Directs long (next_ten s) (s.next + length (next_ten s))

  packet_begins : (long : Bool) (clock : ℕ) (info : List ℕ) → AllComplete m.files (session_at m i).selected
      → Listing long (numbers_listed (session_at m i) info) (place_after (session_at m i) info) (on_packet m i clock (directory_type long) info)
  unfolding by_type
  packet_begins true clock info k =
      by_state m i (Directs true (numbers_listed (session_at m i) info) (place_after (session_at m i) info)) (session_at m i).down
      (on_dir_cmd true m i (session_at m i) info) (command_begins true info k)
  packet_begins false clock info k =
      by_state m i (Directs false (numbers_listed (session_at m i) info) (place_after (session_at m i) info)) (session_at m i).down
      (on_dir_cmd false m i (session_at m i) info) (command_begins false info k)

-- ---- the call

module _ (m : Model) (named : Named m) (long : Bool) (session clock taken : ℕ) (input out info : List ℕ)
    (came : ends_in ((session_at m (session - 1)).held ++ input) ≡ some (packet (directory_type long) info))
    (quiet : (step m (receive session clock input out)).told.answer ≡ answer.Quiet taken) where
  abbrev i : ℕ
  i = session - 1

  abbrev kind : ℕ
  kind = directory_type long

  abbrev M : Model
  M = found m session clock input out kind info came

  t : Through m session
  t = gone_through m session clock input out kind info came taken quiet

  own_is : session_at M i ≡ with_held [] (session_at m i)
  own_is = own m session clock input out kind info came t.there

  accepted : Directs M i long (numbers_listed (session_at M i) info) (place_after (session_at M i) info) (on_packet M i clock kind info)
  accepted =
      packet_begins M i long clock info (subst (λ (s : Session). AllComplete m.files s.selected) (sym own_is) (named.selected i))
      (no_reply m session clock input out kind info came taken quiet)

  after_is : (step m (receive session clock input out)).after
      ≡ with_session M i (with_down (listing long (numbers_listed (session_at M i) info) 0) (with_next (place_after (session_at M i) info) (session_at M i)))
  after_is =
      ap (λ (s : Stepped). s.after) (step_is m session clock input out kind info came (none_refused m session clock input out kind info came taken quiet))
      ∙ accepted.after

  abbrev ns : List ℕ
  ns = numbers_listed (session_at m i) info

  numbers_are : numbers_listed (session_at M i) info ≡ ns
  unfolding numbers_listed
  numbers_are = ap (λ (s : Session). cond (eqb (word_at info 0) 0) (next_ten s) (word_at info 0 ∷ [])) own_is

  place_is : place_after (session_at M i) info ≡ place_after (session_at m i) info
  unfolding place_after
  place_is = ap (λ (s : Session). cond (eqb (word_at info 0) 0) (s.next + length (next_ten s)) s.next) own_is

  abbrev left : Session
  left = with_down (listing long (numbers_listed (session_at M i) info) 0) (with_next (place_after (session_at M i) info) (session_at M i))

  session_is : session_at (step m (receive session clock input out)).after i ≡ left
  session_is =
      ap (λ (x : Model). session_at x i) after_is
      ∙ get_or-set_same M.sessions i left closed_session (found_there m session clock input out kind info came t.there)

  lists_here : Lists m session (step m (receive session clock input out)).after long ns (place_after (session_at m i) info)
  lists_here =
      record {
        listing = record {
          from_one = t.from_one;
          linked = ap (λ (s : Session). s.linked) session_is ∙ ap (λ (s : Session). s.linked) own_is ∙ t.linked;
          down = ap (λ (s : Session). s.down) session_is ∙ ap (λ (ks : List ℕ). listing long ks 0) numbers_are;
        };
        some = subst (λ (ks : List ℕ). 1 ≤ length ks) numbers_are accepted.some;
        complete = subst (AllComplete m.files) numbers_are accepted.complete;
        files = ap (λ (x : Model). x.files) after_is;
        selected = ap (λ (s : Session). s.selected) session_is ∙ ap (λ (s : Session). s.selected) own_is;
        next = ap (λ (s : Session). s.next) session_is ∙ place_is;
      }

-- THEOREM: a DIR_SHORT_CMD or DIR_LONG_CMD that is not refused begins a directory
pub directory_begins : DirectoryBegins
directory_begins m named long session clock taken input out info came quiet = lists_here m named long session clock taken input out info came quiet
