-- A DOWNLOAD_CMD that is not refused begins a download. Assumes nothing.
use mathlib.Core.Path.{◌≡◌, refl, sym, ap, ◌∙◌}
use mathlib.Core.Bool.{Bool, true, false, cond}
use mathlib.Core.List.{List, [], ◌++◌}
use mathlib.Core.Option.{Option, none, some}
use Prim.Native.Nat.{ℕ, ◌+◌, ◌-◌}
use borrow.Author.Tests.{eqb-false}
use lib.Dec.{eqb, ltb}
use lib.ListN.{length, get_or}
use lib.Seq.{get_or-set_same}
use Rattle.packet.specs.Frame.{packet}
use Rattle.session.specs.declared.reply.Answer.TheVariants as answer
use Rattle.session.specs.Reply.{tell}
use Rattle.decide.specs.Words.{word_at}
use Rattle.calls.specs.Call.{receive}
use Rattle.model.specs.State.{File, sending, Session, closed_session, with_down, with_next, with_held}
use Rattle.model.specs.State.{Model, session_at, in_session, Turn, Stepped, stepped}
use Rattle.model.specs.Files.{find}
use Rattle.model.specs.Downlink.{destinations_in, download_of, download_numbered, on_download_cmd}
use Rattle.model.specs.Step.{by_type, on_packet, ends_in, step}
use Rattle.transfers.specs.Downloads.{number_asked, Begins, DownloadBegins}
use Rattle.transfers.proofs.Quiet.{Accepts, refuses, by, by_state, Through, found, step_is, own, found_there, none_refused, gone_through, no_reply}

-- ---- what an accepted command leaves

module _ (m : Model) (i : ℕ) where
  -- the session is to be sent the file of a number from an offset on
  record Sends (n offset : ℕ) (t : Turn) : Type 0 where
    file : File
    found : find n m.files ≡ some file
    complete : file.time ≡ 0 → ⊥
    passed : ℕ
    after : t.after ≡ in_session i (λ s. with_down (sending n offset) (with_next passed s)) m

  abbrev Sending : ℕ → ℕ → Turn → Type 0
  Sending n offset t = Accepts m i (Sends n offset) t

  either : (b : Bool) (n k offset : ℕ) (x y : Turn) → Sending n offset x → Sending k offset y → Sending (cond b n k) offset (cond b x y)
  either true n k offset x y f g = f
  either false n k offset x y f g = g

  file_begins : (f : Option File) (n offset lock passed : ℕ) → find n m.files ≡ f → Sending n offset (download_of f m i n offset lock passed)
  unfolding download_of
  file_begins none n offset lock passed e = refuses m i (Sends n offset) 4
  file_begins (some f) n offset lock passed e =
      by m i (Sends n offset) (eqb f.time 0) _ _ (λ _. refuses m i (Sends n offset) 11)
      (λ q.
      by m i (Sends n offset) (ltb (length f.bytes) offset) _ _ (λ _. refuses m i (Sends n offset) 2)
      (λ _.
      by m i (Sends n offset) (ltb (destinations_in f.bytes) lock) _ _ (λ _. refuses m i (Sends n offset) 10)
      (λ _ _. record { file = f; found = e; complete = eqb-false f.time 0 q; passed = passed; after = refl })))

  command_begins : (s : Session) (info : List ℕ) → Sending (number_asked s info) (word_at info 4) (on_download_cmd m i s info)
  unfolding on_download_cmd download_numbered number_asked
  command_begins s info =
      by m i (Sends (number_asked s info) (word_at info 4)) (eqb (length info) 9) _ _
      (λ _.
      either (eqb (word_at info 0) 0) (get_or s.selected s.next 0) (word_at info 0) (word_at info 4) _ _
      (by m i (Sends (get_or s.selected s.next 0) (word_at info 4)) (ltb s.next (length s.selected)) _ _
      (λ _. file_begins _ _ (word_at info 4) _ _ refl) (λ _. refuses m i (Sends (get_or s.selected s.next 0) (word_at info 4)) 5))
      (file_begins _ _ (word_at info 4) _ _ refl))
      (λ _. refuses m i (Sends (number_asked s info) (word_at info 4)) 1)

  packet_begins : (clock : ℕ) (info : List ℕ) → Sending (number_asked (session_at m i) info) (word_at info 4) (on_packet m i clock 8 info)
  unfolding by_type
  packet_begins clock info =
      by_state m i (Sends (number_asked (session_at m i) info) (word_at info 4)) (session_at m i).down (on_download_cmd m i (session_at m i) info)
      (command_begins (session_at m i) info)

-- ---- the call

module _ (m : Model) (session clock taken : ℕ) (input out info : List ℕ) (came : ends_in ((session_at m (session - 1)).held ++ input) ≡ some (packet 8 info))
    (quiet : (step m (receive session clock input out)).told.answer ≡ answer.Quiet taken) where
  abbrev i : ℕ
  i = session - 1

  abbrev M : Model
  M = found m session clock input out 8 info came

  t : Through m session
  t = gone_through m session clock input out 8 info came taken quiet

  stepped_to_law : step m (receive session clock input out)
      ≡ stepped (tell (on_packet M i clock 8 info).reply (2 + length info - length (session_at m i).held) out) (on_packet M i clock 8 info).after
  stepped_to_law = step_is m session clock input out 8 info came (none_refused m session clock input out 8 info came taken quiet)

  own_is : session_at M i ≡ with_held [] (session_at m i)
  own_is = own m session clock input out 8 info came t.there

  accepted : Sends M i (number_asked (session_at M i) info) (word_at info 4) (on_packet M i clock 8 info)
  accepted = packet_begins M i clock info (no_reply m session clock input out 8 info came taken quiet)

  abbrev n : ℕ
  n = number_asked (session_at m i) info

  number_is : number_asked (session_at M i) info ≡ n
  unfolding number_asked
  number_is = ap (λ (s : Session). cond (eqb (word_at info 0) 0) (get_or s.selected s.next 0) (word_at info 0)) own_is

  abbrev left : Session
  left = with_down (sending (number_asked (session_at M i) info) (word_at info 4)) (with_next accepted.passed (session_at M i))

  session_is : session_at (step m (receive session clock input out)).after i ≡ left
  session_is =
      ap (λ (s : Stepped). session_at s.after i) stepped_to_law
      ∙ ap (λ (x : Model). session_at x i) accepted.after
      ∙ get_or-set_same M.sessions i left closed_session (found_there m session clock input out 8 info came t.there)

  pub begins_here : Begins m session clock input out info
  begins_here =
      record {
        file = accepted.file;
        was = ap (λ (k : ℕ). find k m.files) (sym number_is) ∙ accepted.found;
        complete = accepted.complete;
        downloading = record {
          from_one = t.from_one;
          linked = ap (λ (s : Session). s.linked) session_is ∙ ap (λ (s : Session). s.linked) own_is ∙ t.linked;
          down = ap (λ (s : Session). s.down) session_is ∙ ap (λ (k : ℕ). sending k (word_at info 4)) number_is;
          found = ap (λ (s : Stepped). find n s.after.files) stepped_to_law
              ∙ ap (λ (x : Model). find n x.files) accepted.after
              ∙ ap (λ (k : ℕ). find k m.files) (sym number_is)
              ∙ accepted.found;
        };
      }

-- THEOREM: a DOWNLOAD_CMD that is not refused begins a download
pub download_begins : DownloadBegins
download_begins m session clock taken input out info came quiet = begins_here m session clock taken input out info came quiet
