-- UPLOAD_CMD is a step of the machine: a new file, and one continued.
use mathlib.Core.Path.{◌≡◌, refl, sym, ap, ap₂, ◌∙◌}
use mathlib.Core.Bool.{Bool, true, false, cond}
use mathlib.Core.List.{List, [], ◌∷◌, ◌++◌}
use Prim.Native.Nat.{ℕ, ◌+◌, ◌<◌}
use native.Mathlib.Omega.{arith}
use borrow.Author.Tests.{eqb-true, eqb-false}
use lib.Dec.{eqb, leb, ltb}
use lib.ListN.{length}
use Rattle.packet.specs.Frame.{padded}
use Rattle.blocks.specs.FreeMap.{free_count}
use Rattle.session.specs.declared.state.Uplink.TheVariants as up
use Rattle.session.specs.declared.reply.Reply.TheVariants as reply
use Rattle.session.specs.State.{with_up}
use Rattle.table.specs.declared.File as table
use Rattle.std.proofs.Common.{Option, Some, None, Result, Ok, Err}
use Rattle.table.specs.Table.{find_of, free_of}
use Rattle.table.specs.Given.{blocks_for, most_given}
use Rattle.table.proofs.Finding.{free_place}
use Rattle.files.specs.View.{record_at}
use Rattle.files.specs.Uploads as filesUp
use Rattle.files.proofs.Beginning.{BeginLeaves, begin_leaves, begin_kept}
use Rattle.files.proofs.Soundness.{store_is, files_most}
use Rattle.decide.specs.Words.{word_at}
use Rattle.decide.specs.Uplink.{on_continued}
use Rattle.decide.specs.Uplink as decide
use Rattle.decide.specs.declared.act.Act.TheVariants as act
use Rattle.carry.specs.Turn.{last_of, turn_of, Mem, mem, turned}
use Rattle.carry.specs.Upload as upload
use Rattle.carry.specs.Carry.{on_frees, carry_out}
use Rattle.links.proofs.Facts.{CompleteAt}
use Rattle.server.specs.declared.Server.{Server}
use Rattle.server.specs.State.{Lent, map_part, owner_part, table_part}
use Rattle.model.specs.State as model
use Rattle.model.specs.State.{File, file, in_session, Turn, turn}
use Rattle.model.specs.Files.{find, free}
use Rattle.model.specs.Uplink.{upload_new, upload_continued, on_upload_cmd}
use Rattle.views.proofs.Views.{facts}
use Rattle.refines.proofs.Turns.{parts, turn_view, set_mk}
use Rattle.views.proofs.Stores as stores
use Rattle.views.proofs.Counting.{free_is, places_full, places_left}
use Rattle.views.proofs.Bytes as bytes
use Rattle.refines.proofs.Packets.{Here, fs, sel, s0, k0, M, does, on, stays, tells}
use Rattle.refines.proofs.Uplink.{moved, down_kept, link_up}
use Rattle.refines.proofs.Uploads.{continues}

module _ (c : Here) (size : ℕ) where
  abbrev sv : Server
  sv = c.sv

  abbrev l : Lent
  l = c.l

  abbrev N : ℕ
  N = sv.last.number

  abbrev b : filesUp.Begins
  b = filesUp.begin_of (map_part sv l) (owner_part sv l) (table_part sv l) N size

  abbrev m : Mem
  m = mem l.disk b.map b.owner b.table (sel c)

  abbrev given : Turn
  given =
      turn (reply.Go (N + 1) 0) (in_session c.i (model.with_up (model.receiving (N + 1)))
      (model.model (M c) (N + 1) sv.last.time ((M c).files ++ file (N + 1) size [] 0 ∷ []) (M c).sessions))

  -- a new file stands where none was
  started : (place : ℕ) → b.answer ≡ Ok place
      → turn_view sv l c.i c.part (turned (turn_of (with_up (s0 c) (up.Receiving place 0 0)) (last_of (N + 1) sv.last.time) (reply.Go (N + 1) 0)) m) ≡ given
  started place e =
      moved c m (with_up (s0 c) (up.Receiving place 0 0)) (last_of (N + 1) sv.last.time) (reply.Go (N + 1) 0)
      ((M c).files ++ file (N + 1) size [] 0 ∷ []) (model.with_up (model.receiving (N + 1)) (k0 c)) c.linked
      (stores.files_added (parts sv l c.i) m (facts sv l c.good).store.files.numbers x.sound.files.numbers place (x.others l.disk) N x.free
      number
      ∙ ap (λ (f : File). (M c).files ++ f ∷ [])
      (ap₂ (λ (f : table.File) (bs : List ℕ). file f.number f.size bs f.time) x.file (x.bytes l.disk)))
      (link_up c m (up.Receiving place 0 0) refl
      (down_kept c m place x.sound.files.numbers (x.others l.disk) (λ (k : CompleteAt (fs c) place). k.number x.free))
      ∙ ap (λ (k : ℕ). model.with_up (model.receiving k) (k0 c)) number)
      ∙ ap (turn (reply.Go (N + 1) 0))
      (sym (set_mk sv l c.good c.i c.inside (model.with_up (model.receiving (N + 1))) (N + 1) sv.last.time ((M c).files ++ file (N + 1) size [] 0 ∷ []) (k0 c)))
    where
      x : BeginLeaves (map_part sv l) (owner_part sv l) (table_part sv l) N sv.last.time size place b
      x = begin_leaves (map_part sv l) (owner_part sv l) (table_part sv l) N sv.last.time (facts sv l c.good).store size place e

      number : (record_at b.table place).number ≡ N + 1
      number = ap (λ (f : table.File). f.number) x.file

  -- by what the store answers
  abbrev outcome : Result ℕ ℕ → Turn
  outcome (Err n) = turn (reply.UploadError n) (M c)
  outcome (Ok place) = given

  begun : (a : Result ℕ ℕ) → b.answer ≡ a → turn_view sv l c.i c.part (turned (upload.begun_turn a (s0 c) sv.last (N + 1)) m) ≡ outcome a
  unfolding upload.begun_turn
  begun (Err n) e =
      ap (λ (x : filesUp.Begins).
      turn_view sv l c.i c.part (turned (turn_of (s0 c) sv.last (reply.UploadError n)) (mem l.disk x.map x.owner x.table (sel c))))
      (begin_kept (map_part sv l) (owner_part sv l) (table_part sv l) N size n e)
      ∙ stays c (reply.UploadError n)
  begun (Ok place) e = started place e

  module _ (left : eqb N most_given ≡ false) where
    begin_in_law : b ≡ filesUp.begin_in (free_of (fs c)) (N + 1) size (map_part sv l) (owner_part sv l) (table_part sv l)
    unfolding filesUp.begin_with
    begin_in_law = rw left

    in_full : (filesUp.begin_in None (N + 1) size (map_part sv l) (owner_part sv l) (table_part sv l)).answer ≡ Err 13
    unfolding filesUp.begin_in
    in_full = refl

    in_place : (place : ℕ) → place < 256
        → (filesUp.begin_in (Some place) (N + 1) size (map_part sv l) (owner_part sv l) (table_part sv l)).answer
        ≡ cond (leb (blocks_for size) (free_count (map_part sv l))) (Ok place) (Err 13)
    unfolding filesUp.begin_in filesUp.begin_at
    in_place place h =
        rw (store_is (map_part sv l) (owner_part sv l) (table_part sv l) N sv.last.time (facts sv l c.good).store (facts sv l c.good).disk.some
        (facts sv l c.good).disk.most place h)
        (go _ _ _ (leb (blocks_for size) (free_count (map_part sv l))))
      where
        go : (map owner table : List ℕ) (t : Bool)
            → (cond (eqb (cond t 0 13) 0) (filesUp.begins (Ok place) map owner table)
            (filesUp.begins (Err (cond t 0 13)) (map_part sv l) (owner_part sv l) (table_part sv l))).answer
            ≡ cond t (Ok place) (Err 13)
        go map owner table true = refl
        go map owner table false = refl

    pick : (t : Bool) (place : ℕ) → outcome (cond t (Ok place) (Err 13)) ≡ cond t given (turn (reply.UploadError 13) (M c))
    pick true place = refl
    pick false place = refl

    room_does : turn_view sv l c.i c.part (turned (upload.begun_turn b.answer (s0 c) sv.last (N + 1)) m)
        ≡ cond (ltb (length (M c).files) sv.files) (cond (leb (blocks_for size) (free (M c))) given (turn (reply.UploadError 13) (M c)))
        (turn (reply.UploadError 13) (M c))
    room_does = begun b.answer refl ∙ go (free_of (fs c)) refl
      where
        go : (r : Option ℕ) → free_of (fs c) ≡ r
            → outcome b.answer
            ≡ cond (ltb (length (M c).files) sv.files) (cond (leb (blocks_for size) (free (M c))) given (turn (reply.UploadError 13) (M c)))
            (turn (reply.UploadError 13) (M c))
        go None e =
            ap outcome
            (ap (λ (x : filesUp.Begins). x.answer)
            (begin_in_law ∙ ap (λ (r : Option ℕ). filesUp.begin_in r (N + 1) size (map_part sv l) (owner_part sv l) (table_part sv l)) e) ∙ in_full)
            ∙ ap (λ (t : Bool). cond t (cond (leb (blocks_for size) (free (M c))) given (turn (reply.UploadError 13) (M c))) (turn (reply.UploadError 13) (M c)))
            (sym (places_full sv l c.good e))
        go (Some place) e =
            ap outcome
            (ap (λ (x : filesUp.Begins). x.answer)
            (begin_in_law ∙ ap (λ (r : Option ℕ). filesUp.begin_in r (N + 1) size (map_part sv l) (owner_part sv l) (table_part sv l)) e)
            ∙ in_place place
            (omega (
              arith,
              (free_place (fs c) place e).0,
              files_most (map_part sv l) (owner_part sv l) (table_part sv l) N sv.last.time (facts sv l c.good).store,
            )))
            ∙ pick (leb (blocks_for size) (free_count (map_part sv l))) place
            ∙ ap₂ (λ (t : Bool) (k : ℕ). cond t (cond (leb (blocks_for size) k) given (turn (reply.UploadError 13) (M c))) (turn (reply.UploadError 13) (M c)))
            (sym (places_left sv l c.good place e)) (sym (free_is sv l c.good))

  begins : does c (act.Begin size) ≡ upload_new (M c) c.i size
  unfolding carry_out on_frees upload.begin_with upload.begun_as upload_new
  begins = go (eqb N most_given) refl
    where
      go : (t : Bool) → eqb N most_given ≡ t
          → turn_view sv l c.i c.part
          (on_frees (parts sv l c.i) (upload.begin_with (cond t None (Some (N + 1))) (s0 c) sv.last size (map_part sv l) (owner_part sv l) (table_part sv l)))
          ≡ cond t (turn (reply.UploadError 3) (M c))
          (cond (ltb (length (M c).files) sv.files) (cond (leb (blocks_for size) (free (M c))) given (turn (reply.UploadError 13) (M c)))
          (turn (reply.UploadError 13) (M c)))
      go true e = stays c (reply.UploadError 3)
      go false e = room_does e

module _ (c : Here) where
  pub upload_does : does c (decide.on_upload c.sv.links (length c.info) (padded c.info) (fs c)) ≡ on_upload_cmd (M c) c.i c.info
  unfolding decide.on_upload on_upload_cmd
  upload_does =
      on c (eqb (length c.info) 8) _ _ _ _
      (λ q.
      let n = eqb-true (length c.info) 8 q in
      rw (bytes.word_padded c.info 0 (omega arith), bytes.word_padded c.info 4 (omega arith)) (words (word_at c.info 0) (word_at c.info 4)))
      (λ _. tells c (reply.UploadError 1))
    where
      words : (n size : ℕ)
          → does c (cond (eqb n 0) (act.Begin size) (on_continued (find_of (fs c) n) n size c.sv.links (fs c)))
          ≡ cond (eqb n 0) (upload_new (M c) c.i size) (upload_continued (find n (M c).files) (M c) c.i n size)
      words n size = on c (eqb n 0) _ _ _ _ (λ _. begins c size) (λ q. continues c n size (eqb-false n 0 q))
