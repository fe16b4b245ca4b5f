-- The worked example, by computation, and the statements on paging applied to it. Assumes nothing.
use mathlib.Core.Path.{◌≡◌, refl, sym, ap, ap₂, ◌∙◌, subst}
use mathlib.Core.Bool.{Bool, true, false, cond}
use mathlib.Core.List.{List, [], ◌∷◌, ◌++◌, map, Memᴰ}
use mathlib.Core.Option.{Option, some}
use Prim.Native.Nat.{ℕ, ◌-◌, ◌≤◌, ◌<◌}
use lib.ListN.{length, drop, length-map}
use native.Mathlib.Omega.{arith}
use lib.Dec.{ltb}
use borrow.Author.Tests.{ltb-true}
use Rattle.numbers.specs.Numbers.{number, two}
use Rattle.packet.specs.Packet.{packet_of}
use Rattle.packet.specs.Frame.{packet}
use Rattle.header.specs.Items.{head_of, after, walk, marked, fields_of}
use Rattle.header.specs.Header.{listed, every, count_if, bytes_of, length_in, length_fits, ordered, proper, complete, sum_of, check_items, check_values, verdict}
use Rattle.header.specs.Header.{place_from}
use Rattle.numbers.specs.Hex.{hex_digit}
use Rattle.header.specs.Fields.{with_fields, with_sum, fields_set}
use Rattle.equation.specs.Newer.{before_mark, unmarked_past, narrowed}
use Rattle.equation.specs.Symbols.{stars_in, good_text, good_number, good, connective_of, relation_at, token_of, follow, symbols_past}
use Rattle.equation.specs.Relation.{width, compare, text_meets, number_meets, meets}
use Rattle.equation.specs.Holds.{holds}
use Rattle.equation.specs.Holds as items
use Rattle.equation.specs.Tree as tree
use Rattle.equation.specs.Answer as equation
use Rattle.session.specs.declared.reply.Answer.TheVariants as sent
use Rattle.session.specs.Reply.{tell}
use Rattle.calls.specs.Call.{Call, login, receive, request, lose, History, start, ◌▸◌}
use Rattle.model.specs.State.{File, file, no_download, Model, session_at}
use Rattle.model.specs.Files.{find, changed, without, reserved, uploading, matching, placed, by_time}
use Rattle.model.specs.Uplink.{upload_new, upload_continued, on_upload_cmd, data_to, on_data, data_end_to, on_data_end}
use Rattle.model.specs.Downlink.{directory_of, next_ten, on_select_cmd}
use Rattle.model.specs.Step.{by_type, ends_in, on_event, refusal, unless, step, run}
use Rattle.paging.specs.Examples.{smallest}
use Rattle.paging.specs.Client.{Idle, Asks, above, oldest_first, page_of, Answers}
use Rattle.paging.specs.Paging.{Entry, entry, entry_of, time_of, begins, asks, state_of, Once, Rises, Stands, AllGiven, page_in, newest_of, paged_by, asked}
use Rattle.paging.specs.Paging.{Clocked, Clocks, PageAnswer, Paging, PagingWhole}
use Rattle.paging.specs.Pieces.{is_piece, pieces_only, handed, waits_for, AsksWith, InPieces}
use Rattle.paging.specs.Directories.{times_in, times_of, TimesInDirectory, TimesOfPage}
use Rattle.paging.specs.Worked.{small, uploaded, third, sized, longest, pieces, rest, beginning, reader, output, Met}

-- an open session 1 whose downlink is idle
idle_is : (m : Model) → (session_at m 0).linked ≡ true → (session_at m 0).down ≡ no_download → Idle m 1
idle_is m l d = record { from_one = omega arith; linked = l; down = d }

asks_is : (m : Model) (eq : List ℕ) (t : ℕ) (input : List ℕ) → (session_at m 0).linked ≡ true → (session_at m 0).down ≡ no_download
    → ends_in ((session_at m 0).held ++ input) ≡ some (packet 16 (narrowed eq t)) → Asks m eq t 1 input output
asks_is m eq t input l d s = record { idle = idle_is m l d; room = omega arith; sends = s }

-- the clocks of a history by a test
abbrev early : Call → Bool
early (login session clock out) = true
early (receive session clock input out) = ltb clock 4294967296
early (request session out) = true
early (lose session) = true

abbrev all_early : History → Bool
all_early start = true
all_early (h ▸ c) = cond (early c) (all_early h) false

clocked : (c : Call) → early c ≡ true → Clocked c
clocked (login session clock out) e = tt
clocked (receive session clock input out) e = ltb-true clock 4294967296 e
clocked (request session out) e = tt
clocked (lose session) e = tt

clocks_is : (h : History) → all_early h ≡ true → Clocks h
clocks_is start e = tt
clocks_is (h ▸ c) e = go (early c) refl e (clocks_is h)
  where
    go : (b : Bool) → early c ≡ b → cond b (all_early h) false ≡ true → (all_early h ≡ true → Clocks h) → Clocks h × Clocked c
    go true q e ih = (ih e, clocked c q)
    go false q e ih = let z : ◌≡◌ {A = ℕ} 0 1 = cc in absurd (omega arith)

pub met : Met
unfolding
    uploaded third longest pieces rest reader smallest waits_for pieces_only is_piece handed page_in newest_of paged_by above number packet_of head_of after
    walk marked fields_of listed every count_if bytes_of length_in length_fits ordered proper complete sum_of check_items check_values verdict place_from
    with_fields with_sum fields_set hex_digit before_mark unmarked_past stars_in good_text good_number good connective_of relation_at token_of follow symbols_past width
    compare text_meets number_meets meets holds tree.pushed tree.joined tree.result tree.bind tree.run tree.parse tree.truth equation.said
    equation.answer equation.is_yes equation.refusal equation.validity_of tell find changed without reserved uploading matching placed by_time upload_new
    upload_continued on_upload_cmd data_to on_data data_end_to on_data_end on_select_cmd by_type ends_in on_event refusal unless step run
met =
    record {
      accepted = refl;
      bytes = refl;
      room = omega arith;
      in_pieces = record {
        idle = idle_is _ refl refl;
        nothing_held = refl;
        only = refl;
        room = omega arith;
        a_byte = λ e. let z = ap length e in omega arith;
        bytes = refl;
      };
      before = clocks_is (paged_by small sized beginning).history refl;
      held = refl;
      asking = asks_is _ sized 0 rest refl refl refl;
      oldest = refl;
      page = refl;
      page_before = clocks_is (paged_by small sized (asks beginning 1 8 rest output)).history refl;
      shown = refl;
      first_allowed = (tt, asks_is _ sized 0 rest refl refl refl);
      second_in_one = record {
        idle = idle_is _ refl refl;
        nothing_held = refl;
        only = refl;
        room = omega arith;
        a_byte = λ e. let z = ap length e in omega arith;
        bytes = refl;
      };
      second_before = clocks_is (paged_by small sized (waits_for (asks beginning 1 8 rest output) (request 2 output ∷ []))).history refl;
      longest_size = refl;
      longest_accepted = refl;
      longest_room = omega arith;
      longest_in_one = record {
        idle = idle_is _ refl refl;
        nothing_held = refl;
        only = refl;
        room = omega arith;
        a_byte = λ e. let z = ap length e in omega arith;
        bytes = refl;
      };
      longest_before = clocks_is uploaded refl;
      longest_asking = asks_is _ longest 4294967295 (packet_of 16 (narrowed longest 4294967295)) refl refl refl;
      allowed = (
        (
          (
            (tt, asks_is _ sized 0 rest refl refl refl),
            asks_is _ sized 7 (packet_of 16 (narrowed sized 7)) refl refl refl,
          ),
          asks_is _ sized 8 (packet_of 16 (narrowed sized 8)) refl refl refl,
        ),
        asks_is _ sized 9 (packet_of 16 (narrowed sized 9)) refl refl refl,
      );
      clocks = clocks_is (paged_by small sized reader).history refl;
      finished = omega arith;
      given = refl;
      last = record { file = file 3 80 third 9; found = refl; time = refl; complete = λ z. omega arith; matched = refl };
    }

-- ---- the statements at work: each is a hypothesis here, so that one made weaker no longer gives what the case says

module _ (page_answered : PageAnswer) where
  -- the answer is one page
  pub first_answered : Answers (state_of small sized beginning) sized 0 1 8 rest output
  first_answered =
      page_answered 3 3 2 1 (paged_by small sized beginning).history met.before sized met.accepted 0 (omega arith) 1 8 rest output met.asking

  -- file 2, which was completed first
  pub first_page : (session_at (step (state_of small sized beginning) (receive 1 8 rest output)).after 0).selected ≡ 2 ∷ []
  first_page = first_answered.page ∙ met.oldest

  -- the last 10 bytes of 16 are taken, SELECT_RESP says 1, and no file is changed
  pub first_told :
      ((step (state_of small sized beginning) (receive 1 8 rest output)).told.answer ≡ sent.Sent 10 4)
      × ((step (state_of small sized beginning) (receive 1 8 rest output)).told.out ≡ 2 ∷ 17 ∷ 1 ∷ 0 ∷ drop 4 output)
      × ((step (state_of small sized beginning) (receive 1 8 rest output)).after.files ≡ (state_of small sized beginning).files)
  unfolding packet_of
  first_told = (
    first_answered.told ∙ ap₂ (λ (bs hs : List ℕ). sent.Sent (length bs - length hs) 4) met.bytes met.held,
    first_answered.sent
        ∙ ap (λ (n : ℕ). packet_of 17 (two n) ++ drop 4 output)
        (sym (length-map (page_of (state_of small sized beginning) sized 0) (λ (f : File). f.number)) ∙ ap length met.oldest),
    ap (λ (m : Model). m.files) first_answered.after,
  )

  -- an equation of 248 bytes with an end mark, and the latest time, have room too
  pub longest_answered : Answers (run small uploaded) longest 4294967295 1 8 (packet_of 16 (narrowed longest 4294967295)) output
  longest_answered =
      page_answered 3 3 2 1 uploaded met.longest_before longest met.longest_accepted 4294967295 (omega arith) 1 8
      (packet_of 16 (narrowed longest 4294967295)) output met.longest_asking

module _ (times_of_page : TimesOfPage) where
  -- the short directory of the first page has one header, with the upload time 7
  pub page_times : times_in 1 (directory_of false (next_ten (session_at (state_of small sized (asks beginning 1 8 rest output)) 0))
      (state_of small sized (asks beginning 1 8 rest output)).files)
      ≡ (7 ∷ []) ∷ []
  page_times =
      ap (λ (es : List Entry). times_in (length es) (directory_of false (next_ten (session_at (state_of small sized (asks beginning 1 8 rest output)) 0))
      (state_of small sized (asks beginning 1 8 rest output)).files)) (sym met.shown)
      ∙ times_of_page 3 3 2 1 (paged_by small sized (asks beginning 1 8 rest output)).history met.page_before false 1
      ∙ ap times_of met.shown

module _ (times_in_directory : TimesInDirectory) where
  -- the long directory of file 3 has one header, with the upload time 9
  pub third_times : times_in 1 (directory_of true (3 ∷ []) (state_of small sized reader).files) ≡ (9 ∷ []) ∷ []
  third_times =
      times_in_directory 3 3 2 1 (paged_by small sized reader).history met.clocks true (3 ∷ [])
      (record { file = met.last.file; found = met.last.found; time = met.last.complete }, tt)
      ∙ ap (λ (f : Option File). (time_of f ∷ []) ∷ []) met.last.found
      ∙ ap (λ (t : ℕ). (t ∷ []) ∷ []) met.last.time

module _ (in_pieces : InPieces) where
  -- the SELECT_CMD in three pieces asks for the first page
  pub pieces_ask : AsksWith small sized (begins uploaded) 1 8 pieces rest output
  pieces_ask = in_pieces 3 3 2 1 sized met.accepted met.room (begins uploaded) tt 1 8 pieces rest output met.in_pieces met.before

  -- it is answered
  pub pieces_answered : (session_at (step (state_of small sized beginning) (receive 1 8 rest output)).after 0).selected ≡ 2 ∷ []
  unfolding waits_for paged_by
  pieces_answered = pieces_ask.answered.page ∙ met.oldest

  -- it may ask: its session is open and idle, there is room, and the bytes end in the SELECT_CMD
  pub pieces_allowed :
      (1 ≤ 1) × ((session_at (state_of small sized beginning) 0).linked ≡ true) × ((session_at (state_of small sized beginning) 0).down ≡ no_download)
      × (258 ≤ length output)
      × (ends_in ((session_at (state_of small sized beginning) 0).held ++ rest) ≡ some (packet 16 (narrowed sized 0)))
  unfolding waits_for pieces paged_by
  pieces_allowed =
      let a = pieces_ask.allowed.1 in
      (a.idle.from_one, a.idle.linked, a.idle.down, a.room, a.sends)

  -- a client that has its first page asks in one piece for the second, another session being asked between: the first page it had asked for as allowed
  pub second_asks : AsksWith small sized (asks beginning 1 8 rest output) 1 8 (request 2 output ∷ []) (packet_of 16 (narrowed sized 7)) output
  second_asks =
      in_pieces 3 3 2 1 sized met.accepted met.room (asks beginning 1 8 rest output) met.first_allowed 1 8 (request 2 output ∷ [])
      (packet_of 16 (narrowed sized 7)) output met.second_in_one met.second_before

  pub first_was_allowed : ends_in ((session_at (state_of small sized beginning) 0).held ++ rest) ≡ some (packet 16 (narrowed sized 0))
  unfolding waits_for paged_by pieces
  first_was_allowed = second_asks.allowed.0.1.sends

  -- the equation of 248 bytes, in one piece
  pub longest_asks : AsksWith small longest (begins uploaded) 1 8 [] (packet_of 16 (narrowed longest 0)) output
  unfolding paged_by waits_for
  longest_asks =
      in_pieces 3 3 2 1 longest met.longest_accepted met.longest_room (begins uploaded) tt 1 8 [] (packet_of 16 (narrowed longest 0)) output
      met.longest_in_one met.longest_before

module _ (paging : Paging) where
  -- the client has been given every matching complete file once, oldest first
  pub all_given : AllGiven small sized reader
  all_given = paging 3 3 2 1 sized met.accepted reader met.allowed met.clocks met.finished

  -- so file 3, completed between its pages, is among them
  pub last_given : Memᴰ (entry 3 9) (paged_by small sized reader).given
  last_given = all_given.every (entry 3 9) met.last

  -- no number twice, and the times rise
  pub in_order : Once (entry 2 7 ∷ entry 1 8 ∷ entry 3 9 ∷ []) × Rises 0 (entry 2 7 ∷ entry 1 8 ∷ entry 3 9 ∷ [])
  in_order = (subst Once met.given all_given.once, subst (Rises 0) met.given all_given.oldest_first_law)

  -- so 2 is not 1, and 8 is below 9; nor is 1 the number 3
  pub apart : (◌≡◌ {A = ℕ} 2 1 → ⊥) × (8 < 9)
  apart = (in_order.0.0 (entry 1 8) (Memᴰ.head refl), in_order.1.1.1.0)

  pub apart_too : ◌≡◌ {A = ℕ} 1 3 → ⊥
  apart_too = in_order.0.1.0 (entry 3 9) (Memᴰ.head refl)

  -- when the first page was given file 2 stood, and its header had one upload_time, 7
  pub stood : Stands (run small (asked small sized (paged_by small sized beginning) 1 8 rest output)) sized (entry 2 7)
  unfolding reader
  stood =
      all_given.stood.0.0.0.1 (entry 2 7) (subst (λ (es : List Entry). Memᴰ (entry 2 7) es) (sym met.page) (Memᴰ.head refl))

  -- it was complete and matched
  pub stood_complete :
      (find 2 (run small (asked small sized (paged_by small sized beginning) 1 8 rest output)).files ≡ some stood.matches.file)
      × (stood.matches.file.time ≡ 7)
      × (equation.selects sized (fields_of stood.matches.file.bytes) ≡ true)
      × (stood.matches.file.time ≡ 0 → ⊥)
  stood_complete = (stood.matches.found, stood.matches.time, stood.matches.matched, stood.matches.complete)

  pub stood_so : map number (items.bytes_of 18 (fields_of stood.matches.file.bytes)) ≡ 7 ∷ []
  stood_so = stood.header

module _ (paging_whole : PagingWhole) where
  -- in the words of the paper: what was given are all matching complete files of the store, oldest first
  pub whole_given : entry 2 7 ∷ entry 1 8 ∷ entry 3 9 ∷ [] ≡ map entry_of (oldest_first sized (state_of small sized reader))
  whole_given = sym met.given ∙ paging_whole 3 3 2 1 sized met.accepted reader met.allowed met.clocks met.finished
