-- What a call does to the files by place, at work: `Change`, as demand 3 promises it, is applied to a call that begins, continues, completes or discards
-- a file, and to one that changes none. Which of the five it is follows from the numbers and the records before and after. Assumes nothing.
use mathlib.Core.Path.{◌≡◌, refl, ap, ◌∙◌, sym}
use mathlib.Core.List.{List, [], ◌∷◌, ◌++◌}
use mathlib.Core.Option.{Option, none, some}
use Prim.Native.Nat.{ℕ, zero, suc, ◌+◌, ◌≤◌, ◌<◌}
use native.Mathlib.Omega.{arith}
use lib.ListN.{length, take}
use Rattle.header.proofs.Examples.{smallest}
use Rattle.header.specs.Header.{verdict}
use Rattle.header.specs.Fields.{fields_set}
use Rattle.table.specs.declared.File as table
use Rattle.table.specs.Table.{no_file}
use Rattle.files.specs.Uploads.{new_file, grown}
use Rattle.files.specs.Completion.{completed}
use Rattle.files.specs.View.{View}
use Rattle.carry.specs.declared.turn.Last.{Last}
use Rattle.carry.specs.Turn.{last_of}
use Rattle.acts.specs.Change.{Files, view, Same, Begins, Receives, Completes, Discards, Change, same, begins, receives, completes, discards}
use Rattle.history.specs.Calls.{Call, request, History, ◌▸◌}
use Rattle.model.specs.State.{File}
use Rattle.model.specs.Files.{find}
use Rattle.model.specs.Step.{refusal, unless, step, run}
use Rattle.worked.proofs.Passes as worked-passes
use Rattle.worked.proofs.Passes.{small, small_legal, output, rx, upload, data_end, opened, halfway, continued, rest}
use Rattle.demands.specs.Demand3.{server_at, files_at, model_at}
use Rattle.demands.specs.Demands.{Demands}

-- ---- which of the five it is

module _ (l : Last) (b : Files) (l' : Last) (a : Files) where
  begins_of : Change l b l' a → (l'.number ≡ l.number → ⊥) → Begins l b l' a
  begins_of (same x) n = absurd (n (ap (λ (k : Last). k.number) x.given))
  begins_of (begins x) n = x
  begins_of (receives x) n = absurd (n (ap (λ (k : Last). k.number) x.given))
  begins_of (completes x) n = absurd (n (ap (λ (k : Last). k.number) x.given))
  begins_of (discards x) n = absurd (n (ap (λ (k : Last). k.number) x.given))

  completes_of : Change l b l' a → (l'.time ≡ l.time → ⊥) → Completes l b l' a
  completes_of (same x) n = absurd (n (ap (λ (k : Last). k.time) x.given))
  completes_of (begins x) n = absurd (n (ap (λ (k : Last). k.time) x.given))
  completes_of (receives x) n = absurd (n (ap (λ (k : Last). k.time) x.given))
  completes_of (completes x) n = x
  completes_of (discards x) n = absurd (n (ap (λ (k : Last). k.time) x.given))

  -- a file begun has another number, one completed another time
  no_number : l' ≡ l → l' ≡ last_of (l.number + 1) l.time → ⊥
  no_number e g = omega (arith, ap (λ (k : Last). k.number) (sym e ∙ g))

  no_time : (time : ℕ) → l' ≡ l → l' ≡ last_of l.number time → l.time < time → ⊥
  no_time time e g above = omega (arith, above, ap (λ (k : Last). k.time) (sym e ∙ g))

  receives_of : Change l b l' a → l' ≡ l → ((a 0).file.number ≡ 0 → ⊥) → ((a 0).file.received ≡ (b 0).file.received → ⊥) → Receives l b l' a
  receives_of (same x) e n r = absurd (r (ap (λ (v : View). v.file.received) (x.files 0)))
  receives_of (begins x) e n r = absurd (no_number e x.given)
  receives_of (receives x) e n r = x
  receives_of (completes x) e n r = absurd (no_time x.time e x.given x.above)
  receives_of (discards x) e n r = absurd (go x.place x.here x.others)
    where
      go : (place : ℕ) → a place ≡ view no_file [] → ((q : ℕ) → (q ≡ place → ⊥) → a q ≡ b q) → ⊥
      go zero h o = n (ap (λ (v : View). v.file.number) h)
      go (suc k) h o = r (ap (λ (v : View). v.file.received) (o 0 (λ z. omega (arith, z))))

  discards_of : Change l b l' a → l' ≡ l → (a 0).file.number ≡ 0 → ((b 0).file.number ≡ 0 → ⊥) → Discards l b l' a
  discards_of (same x) e z n = absurd (n (sym (ap (λ (v : View). v.file.number) (x.files 0)) ∙ z))
  discards_of (begins x) e z n = absurd (no_number e x.given)
  discards_of (receives x) e z n = absurd (go x.place x.more x.here x.others)
    where
      go : (place : ℕ) (more : List ℕ) → a place ≡ view (grown (length more) (b place).file) ((b place).bytes ++ more)
          → ((q : ℕ) → (q ≡ place → ⊥) → a q ≡ b q)
          → ⊥
      go zero more h o = n (sym (ap (λ (v : View). v.file.number) h) ∙ z)
      go (suc k) more h o = n (sym (ap (λ (v : View). v.file.number) (o 0 (λ y. omega (arith, y)))) ∙ z)
  discards_of (completes x) e z n = absurd (no_time x.time e x.given x.above)
  discards_of (discards x) e z n = x

  -- where there is no file, none is continued, completed or discarded
  same_of : Change l b l' a → l' ≡ l → ((q : ℕ) → ((b q).file.number ≡ 0 → ⊥) → ⊥) → Same l b l' a
  same_of (same x) e n = x
  same_of (begins x) e n = absurd (no_number e x.given)
  same_of (receives x) e n = absurd (n x.place x.partial.number)
  same_of (completes x) e n = absurd (n x.place x.partial.number)
  same_of (discards x) e n = absurd (n x.place x.partial.number)

-- ---- the calls: UPLOAD_CMD, the first DATA, DATA_END when all is there, and too early; a request with nothing due

abbrev begun : History
begun = opened ▸ rx 6 (upload 0)

abbrev first_data : Call
first_data = rx 7 (40 ∷ 0 ∷ take 40 smallest)

abbrev pub after_call : History → Call → Files
after_call h c = files_at small (h ▸ c)

record Computed : Type 0 where
  none_yet : (server_at small opened).last ≡ last_of 0 0
  first_given : (server_at small begun).last ≡ last_of 1 0
  on_data_law : (server_at small (begun ▸ first_data)).last ≡ last_of 1 0
  empty_file : (files_at small begun 0).file.received ≡ 0
  half_file : (files_at small (begun ▸ first_data) 0).file ≡ record { number = 1; size = 80; received = 40; time = 0 }
  all_there : (server_at small (continued ▸ rest)).last ≡ last_of 1 0
  timed : (server_at small (continued ▸ rest ▸ rx 4 data_end)).last ≡ last_of 1 4
  half_last : (server_at small halfway).last ≡ last_of 1 0
  half_there : (files_at small halfway 0).file.number ≡ 1
  early_last : (server_at small (halfway ▸ rx 8 data_end)).last ≡ last_of 1 0
  early_gone : (files_at small (halfway ▸ rx 8 data_end) 0).file.number ≡ 0
  quiet : (server_at small (opened ▸ request 1 output)).last ≡ last_of 0 0

computed : Computed
unfolding worked-passes.computing
computed =
    record {
      none_yet = refl;
      first_given = refl;
      on_data_law = refl;
      empty_file = refl;
      half_file = refl;
      all_there = refl;
      timed = refl;
      half_last = refl;
      half_there = refl;
      early_last = refl;
      early_gone = refl;
      quiet = refl;
    }

-- the machine has no file before the first UPLOAD_CMD
none_found : (n : ℕ) (f : File) → find n (model_at small opened).files ≡ some f → ⊥
unfolding worked-passes.computing run step unless refusal find
none_found n f e = let z : ◌≡◌ {A = ℕ} 0 1 = ap (λ (o : Option File). is_some o) e in omega (arith, z)
  where
    is_some : Option File → ℕ
    is_some none = 0
    is_some (some g) = 1

module _ (d : Demands) where
  pub changes : (h : History) (c : Call) → Change (server_at small h).last (files_at small h) (server_at small (h ▸ c)).last (after_call h c)
  changes h c = (d.sound_store small small_legal h).places.change c

  -- UPLOAD_CMD begins a file at a place that was free: number 1, of which nothing is received
  pub begins_one : Begins (server_at small opened).last (files_at small opened) (server_at small begun).last (files_at small begun)
  begins_one =
      begins_of _ _ _ _ (changes opened (rx 6 (upload 0)))
      (λ e. omega (arith, e, ap (λ (k : Last). k.number) computed.none_yet, ap (λ (k : Last). k.number) computed.first_given))

  pub begun_free : (files_at small opened begins_one.place).file.number ≡ 0
  begun_free = begins_one.free

  pub begun_file : files_at small begun begins_one.place ≡ view (new_file 1 begins_one.size) []
  begun_file = begins_one.here ∙ ap (λ (k : Last). view (new_file (k.number + 1) begins_one.size) []) computed.none_yet

  pub begun_last : (server_at small begun).last ≡ last_of 1 0
  begun_last = begins_one.given ∙ ap (λ (k : Last). last_of (k.number + 1) k.time) computed.none_yet

  pub begun_others : (q : ℕ) → (q ≡ begins_one.place → ⊥) → files_at small begun q ≡ files_at small opened q
  begun_others = begins_one.others

  -- DATA adds to a partial file, within its announced length
  pub receives_half : Receives (server_at small begun).last (files_at small begun) (server_at small (begun ▸ first_data)).last (after_call begun first_data)
  receives_half =
      receives_of _ _ _ _ (changes begun first_data) (computed.on_data_law ∙ sym computed.first_given)
      (λ e. omega (arith, e, ap (λ (f : table.File). f.number) computed.half_file))
      (λ e. omega (arith, e, computed.empty_file, ap (λ (f : table.File). f.received) computed.half_file))

  pub half_partial : (files_at small begun receives_half.place).file.time ≡ 0
  half_partial = receives_half.partial.time

  pub half_room :
      (files_at small begun receives_half.place).file.received + length receives_half.more
      ≤ (files_at small begun receives_half.place).file.size
  half_room = receives_half.room

  pub half_file :
      after_call begun first_data receives_half.place
      ≡ view (grown (length receives_half.more) (files_at small begun receives_half.place).file)
      ((files_at small begun receives_half.place).bytes ++ receives_half.more)
  half_file = receives_half.here

  pub half_last : (server_at small (begun ▸ first_data)).last ≡ (server_at small begun).last
  half_last = receives_half.given

  pub half_others : (q : ℕ) → (q ≡ receives_half.place → ⊥) → after_call begun first_data q ≡ files_at small begun q
  half_others = receives_half.others

  -- DATA_END completes it: it passes the checks, its time is above the last one, and its fields are set
  pub completes_one :
      Completes (server_at small (continued ▸ rest)).last (files_at small (continued ▸ rest))
      (server_at small (continued ▸ rest ▸ rx 4 data_end)).last (after_call (continued ▸ rest) (rx 4 data_end))
  completes_one =
      completes_of _ _ _ _ (changes (continued ▸ rest) (rx 4 data_end))
      (λ e. omega (arith, e, ap (λ (k : Last). k.time) computed.all_there, ap (λ (k : Last). k.time) computed.timed))

  pub whole_partial : (files_at small (continued ▸ rest) completes_one.place).file.time ≡ 0
  whole_partial = completes_one.partial.time

  pub whole_checked :
      verdict (files_at small (continued ▸ rest) completes_one.place).bytes (files_at small (continued ▸ rest) completes_one.place).file.size ≡ 0
  whole_checked = completes_one.whole

  pub whole_time : ((server_at small (continued ▸ rest)).last.time < completes_one.time) × (completes_one.time ≡ 4)
  whole_time =
      (completes_one.above, sym (ap (λ (k : Last). k.time) completes_one.given) ∙ ap (λ (k : Last). k.time) computed.timed)

  pub whole_file :
      after_call (continued ▸ rest) (rx 4 data_end) completes_one.place
      ≡ view (completed completes_one.time (files_at small (continued ▸ rest) completes_one.place).file)
      (fields_set (files_at small (continued ▸ rest) completes_one.place).file.number completes_one.time
      (files_at small (continued ▸ rest) completes_one.place).bytes)
  whole_file = completes_one.here

  pub whole_others : (q : ℕ) → (q ≡ completes_one.place → ⊥) → after_call (continued ▸ rest) (rx 4 data_end) q ≡ files_at small (continued ▸ rest) q
  whole_others = completes_one.others

  -- DATA_END too early discards it
  pub discards_half :
      Discards (server_at small halfway).last (files_at small halfway) (server_at small (halfway ▸ rx 8 data_end)).last (after_call halfway (rx 8 data_end))
  discards_half =
      discards_of _ _ _ _ (changes halfway (rx 8 data_end)) (computed.early_last ∙ sym computed.half_last) computed.early_gone
      (λ e. omega (arith, e, computed.half_there))

  pub gone_partial : (files_at small halfway discards_half.place).file.time ≡ 0
  gone_partial = discards_half.partial.time

  pub gone_file : after_call halfway (rx 8 data_end) discards_half.place ≡ view no_file []
  gone_file = discards_half.here

  pub gone_last : (server_at small (halfway ▸ rx 8 data_end)).last ≡ (server_at small halfway).last
  gone_last = discards_half.given

  pub gone_others : (q : ℕ) → (q ≡ discards_half.place → ⊥) → after_call halfway (rx 8 data_end) q ≡ files_at small halfway q
  gone_others = discards_half.others

  -- a request with nothing due changes no file
  pub same_files :
      Same (server_at small opened).last (files_at small opened) (server_at small (opened ▸ request 1 output)).last (after_call opened (request 1 output))
  same_files =
      same_of _ _ _ _ (changes opened (request 1 output)) (computed.quiet ∙ sym computed.none_yet)
      (λ q live. none_found _ _ ((d.sound_store small small_legal opened).places.found q live))

  pub same_so : ((q : ℕ) → after_call opened (request 1 output) q ≡ files_at small opened q)
      × ((server_at small (opened ▸ request 1 output)).last ≡ (server_at small opened).last)
  same_so = (same_files.files, same_files.given)
