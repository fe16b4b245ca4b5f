-- SELECT_CMD is a step of the machine: the places that the store chooses are those of the oldest MAXSEL matching complete files by number.
use mathlib.Core.Path.{◌≡◌, refl, sym, ap, ap₂, ◌∙◌, subst}
use mathlib.Core.Bool.{Bool, true, false, cond}
use mathlib.Core.List.{List, ◌++◌, map, Memᴰ}
use mathlib.Core.Option.{Option, none, some}
use Prim.Native.Nat.{ℕ, ◌-◌, ◌*◌, ◌≤◌, ◌<◌}
use native.Mathlib.Omega.{arith}
use borrow.Author.Tests.{eqb-false, le-leb, le-ltb, leb-true}
use lib.Dec.{eqb, leb}
use lib.ListN.{length, get_or, take, drop, replicate, length-map}
use lib.Seq.{take_at}
use Rattle.packet.specs.Frame.{padded}
use Rattle.packet.proofs.FrameLaws.{padded_length}
use Rattle.header.specs.Items.{fields_of}
use Rattle.std.proofs.Common.{Result, Ok, Err, Some, None}
use Rattle.equation.specs.Answer.{answer_of, refusal, validity_of}
use Rattle.equation.specs.Answer as equation
use Rattle.equation.specs.Tree.{Tree, parse}
use Rattle.session.specs.declared.state.Downlink.{Downlink}
use Rattle.session.specs.declared.state.Downlink.TheVariants as down
use Rattle.session.specs.declared.reply.Reply.TheVariants as reply
use Rattle.session.specs.State.{with_selection}
use Rattle.session.specs.Expected.{takes_command}
use Rattle.table.specs.declared.Key.TheVariants.{Time}
use Rattle.std.specs.Prelude as std
use Rattle.table.specs.Table.{file_at, find_of, times, uploaded}
use Rattle.table.specs.Order.{in_order}
use Rattle.table.proofs.Records.{key_at, uploaded_file, uploaded_time}
use Rattle.table.proofs.Finding.{find_number_law}
use Rattle.table.proofs.Keeping.{number_le}
use Rattle.table.proofs.Ordering.{in_order_rises, in_order_above, in_order_all}
use Rattle.files.specs.View.{record_at, bytes_at}
use Rattle.files.specs.Selection.{meets_at, passing, numbers_at, chosen, select_number, selects, listed, select_of}
use Rattle.files.specs.Selection as selection
use Rattle.files.proofs.Selected.{meets_is}
use Rattle.links.proofs.Facts.{part_end}
use Rattle.decide.specs.declared.act.Act.TheVariants as act
use Rattle.carry.specs.Turn.{turn_of, Mem, mem, turned}
use Rattle.carry.specs.Download as download
use Rattle.carry.specs.Carry.{on_chooses, carry_out}
use Rattle.server.specs.declared.Server.{Server}
use Rattle.server.specs.State.{Lent, map_part, owner_part, table_part}
use Rattle.server.specs.Check.{sizes_fit}
use Rattle.server.proofs.CheckLaws.{both_true}
use Rattle.history.proofs.Parts.{part_size}
use Rattle.model.specs.State as model
use Rattle.model.specs.State.{File, in_session, turn}
use Rattle.model.specs.Files.{matching, by_time, selection}
use Rattle.model.specs.Downlink.{on_select_cmd}
use Rattle.views.specs.View.{file_of, file_in, numbered, down_of, view}
use Rattle.views.proofs.Views.{facts, numbered_own, open_from_law}
use Rattle.refines.proofs.Turns.{mk, parts, turn_view, set_mk}
use Rattle.views.proofs.Stores as stores
use Rattle.views.proofs.Bytes as bytes
use Rattle.views.proofs.Order as order
use Rattle.refines.proofs.Packets.{Here, F, N, fs, sel, s0, k0, M, does, stays}

-- both layers' test of an answer
yes_same : (r : Result Bool ℕ) → selection.is_yes r ≡ equation.is_yes r
unfolding selection.is_yes equation.is_yes
yes_same (Ok b) = refl
yes_same (Err n) = refl

-- an equation of at most 256 bytes is accepted, or refused by 8
refused_8 : (eq : List ℕ) → length eq ≤ 256 → (validity_of eq ≡ 0 → ⊥) → validity_of eq ≡ 8
unfolding validity_of refusal
refused_8 eq h = rw (le-ltb 2047 (length eq) (omega arith)) (go (parse eq))
  where
    go : (t : Option Tree) → (refusal t ≡ 0 → ⊥) → refusal t ≡ 8
    go none z = refl
    go (some t) z = absurd (z refl)

select_number_law : (eq : List ℕ) (n most : ℕ) → 1 ≤ most → most ≤ 50 → most ≤ n → length eq ≤ 256 → select_number eq n most ≡ validity_of eq
unfolding select_number
select_number_law eq n most a b c d = rw (le-leb 1 most a, le-leb most 50 b, le-leb most n c, le-leb (length eq) 256 d)

least_most : (b f s m : ℕ) → sizes_fit b f s m ≡ true → 1 ≤ m
unfolding sizes_fit
least_most b f s m e =
    let e2 = both_true (leb 1 b) _ e in
    let e3 = both_true (leb b 4096) _ e2.1 in
    let e4 = both_true (leb 1 f) _ e3.1 in
    let e5 = both_true (leb f 256) _ e4.1 in
    let e6 = both_true (leb 1 s) _ e5.1 in
    let e7 = both_true (leb s 4) _ e6.1 in
    let e8 = both_true (leb 1 m) _ e7.1 in
    leb-true 1 m e8.0

module _ (c : Here) where
  abbrev sv : Server
  sv = c.sv

  abbrev l : Lent
  l = c.l

  abbrev ts : List ℕ
  ts = times (fs c)

  -- the file at a place
  abbrev g : ℕ → File
  g p = file_of (F c p)

  abbrev test : ℕ → Bool
  test p = meets_at c.info l.disk (owner_part sv l) (table_part sv l) p

  abbrev all : List ℕ
  all = in_order 0 (fs c)

  known : (p : ℕ) → (file_at (fs c) p).number ≤ sv.last.number
  known p = number_le sv.last.number sv.last.time _ (fs c) (facts sv l c.good).store.files p

  time_at_law : (p : ℕ) → ((F c p).file.number ≡ 0 → ⊥) → get_or ts p 0 ≡ (F c p).file.time
  time_at_law p n = key_at Time (fs c) p ∙ uploaded_time (file_at (fs c) p) n

  -- a place in the order
  complete_in : (p : ℕ) → Memᴰ p all → 0 < uploaded (file_at (fs c) p)
  complete_in p m = in_order_above 0 (fs c) p m

  live_in : (p : ℕ) → Memᴰ p all → (F c p).file.number ≡ 0 → ⊥
  live_in p m = uploaded_file (file_at (fs c) p) (λ z. let k = complete_in p m in omega arith)

  -- the equation is true on a file by its place and by its bytes
  test_is : (p : ℕ) → ((F c p).file.number ≡ 0 → ⊥) → test p ≡ equation.selects c.info (fields_of (F c p).bytes)
  test_is p n =
      meets_is (map_part sv l) c.info l.disk (owner_part sv l) (table_part sv l) sv.last.number sv.last.time (facts sv l c.good).store
      (facts sv l c.good).disk c.short p n
      ∙ yes_same (answer_of c.info (bytes_at l.disk (owner_part sv l) (table_part sv l) p))

  -- ---- a file of the view has a place

  record Lies (f : File) : Type 0 where
    place : ℕ
    live : (F c place).file.number ≡ 0 → ⊥
    is : f ≡ g place

  lies : (f : File) (n : ℕ) → order.Stands (numbered sv l) n f → Lies f
  lies f n s = go (find_of (fs c) f.number) refl s.is
    where
      go : (r : std.Option ℕ) → find_of (fs c) f.number ≡ r → file_in (F c) r ≡ some f → Lies f
      go None e h = let z : ◌≡◌ {A = ℕ} 0 1 = cc in absurd (omega arith)
      go (Some p) e h =
          let z : g p ≡ f = cc in
          record { place = p; live = λ y. let k = find_number_law (fs c) f.number p e in let q = s.some in omega arith; is = sym z }

  stands : (p : ℕ) → ((F c p).file.number ≡ 0 → ⊥) → order.Stands (numbered sv l) sv.last.number (g p)
  stands p n =
      record {
        is = stores.by_place (parts sv l c.i) (facts sv l c.good).store.files.numbers p n;
        some = omega arith;
        most = known p;
      }

  -- two files with the same time are one
  same_time : (f h : File) (n m : ℕ) → order.Stands (numbered sv l) n f → order.Stands (numbered sv l) m h → (f.time ≡ 0 → ⊥) → h.time ≡ f.time
      → h.number ≡ f.number
  same_time f h n m s t z e = go (lies f n s) (lies h m t)
    where
      go : Lies f → Lies h → h.number ≡ f.number
      go a b =
          let ta : get_or ts a.place 0 ≡ f.time = time_at_law a.place a.live ∙ ap (λ (x : File). x.time) (sym a.is) in
          let tb : get_or ts b.place 0 ≡ h.time = time_at_law b.place b.live ∙ ap (λ (x : File). x.time) (sym b.is) in
          let p : a.place ≡ b.place =
          (facts sv l c.good).store.files.times a.place b.place (λ y. z (sym ta ∙ y)) (ta ∙ sym e ∙ sym tb) in
          ap (λ (x : File). x.number) (b.is ∙ ap g (sym p) ∙ sym a.is)

  -- ---- both lists have the same files, in rising order of time

  here_rises : order.Rising 0 (map g (passing test all))
  here_rises =
      order.chosen_rising g test ts all (λ p m. sym (time_at_law p (live_in p m))) (in_order_rises 0 (fs c))

  there_rises : order.Rising 0 (by_time (matching c.info (M c).files))
  there_rises =
      order.by_time_rising (matching c.info (M c).files)
      (order.matching_apart c.info (M c).files (order.listed_timed (numbered sv l) (numbered_own sv l) same_time sv.last.number))
      (λ f m. let k = (order.matching_in c.info (M c).files f m).1.complete in omega arith)

  here_there : (f : File) → order.In f (map g (passing test all)) → order.In f (by_time (matching c.info (M c).files))
  here_there f m =
      let i = order.map_in g (passing test all) f m in
      let q = order.passing_in test all i.place i.member in
      subst (λ (x : File). order.In x (by_time (matching c.info (M c).files))) (sym i.is) (go i.place q.0 q.1)
    where
      go : (p : ℕ) → Memᴰ p all → test p ≡ true → order.In (g p) (by_time (matching c.info (M c).files))
      go p n t =
          let live = live_in p n in
          order.by_time_back (matching c.info (M c).files) (g p)
          (order.matching_back c.info (M c).files (g p) (order.listed_back (numbered sv l) (numbered_own sv l) sv.last.number (g p) (stands p live))
          (record {
            complete = λ z. let k = complete_in p n in let w = uploaded_time (file_at (fs c) p) live in omega arith;
            true_on_law = sym (test_is p live) ∙ t;
          }))

  there_here : (f : File) → order.In f (by_time (matching c.info (M c).files)) → order.In f (map g (passing test all))
  there_here f m =
      let k = order.matching_in c.info (M c).files f (order.by_time_in (matching c.info (M c).files) f m) in
      go (lies f sv.last.number (order.listed_in (numbered sv l) (numbered_own sv l) sv.last.number f k.0)) k.1
    where
      go : Lies f → order.Matches c.info f → order.In f (map g (passing test all))
      go a k =
          let t : (F c a.place).file.time ≡ f.time = ap (λ (x : File). x.time) (sym a.is) in
          let w = uploaded_time (file_at (fs c) a.place) a.live in
          let n = k.complete in
          subst (λ (x : File). order.In x (map g (passing test all))) (sym a.is)
          (order.map_back g (passing test all) a.place
          (order.passing_back test all a.place
          (in_order_all 0 (fs c) (facts sv l c.good).store.files.times a.place (above t w n))
          (test_is a.place a.live ∙ ap (λ (x : File). equation.selects c.info (fields_of x.bytes)) (sym a.is) ∙ k.true_on_law)))
        where
          above : (F c a.place).file.time ≡ f.time → uploaded (file_at (fs c) a.place) ≡ (F c a.place).file.time → (f.time ≡ 0 → ⊥)
              → 0 < uploaded (file_at (fs c) a.place)
          above t w n = omega arith

  chosen_is : numbers_at (table_part sv l) (chosen sv.most c.info l.disk (owner_part sv l) (table_part sv l))
      ≡ selection sv.most c.info (M c).files
  chosen_is =
      sym (order.map_twice (λ f. f.number) g (take sv.most (passing test all)))
      ∙ ap (map (λ (f : File). f.number)) (sym (order.take_map g sv.most (passing test all)))
      ∙ ap (λ (xs : List File). map (λ (f : File). f.number) (take sv.most xs))
      (order.unique (map g (passing test all)) (by_time (matching c.info (M c).files)) 0 here_rises there_rises here_there there_here)

  -- ---- the turn

  abbrev ns : List ℕ
  ns = numbers_at (table_part sv l) (chosen sv.most c.info l.disk (owner_part sv l) (table_part sv l))

  abbrev count : ℕ
  count = length (chosen sv.most c.info l.disk (owner_part sv l) (table_part sv l))

  count_is : length ns ≡ count
  count_is = length-map (chosen sv.most c.info l.disk (owner_part sv l) (table_part sv l)) (λ place. (record_at (table_part sv l) place).number)

  size_sel : length (sel c) ≡ sv.most
  size_sel =
      part_size (c.i * sv.most) sv.most l.selected
      (omega (arith, part_end c.i sv.sessions sv.most c.inside, (facts sv l c.good).room.selected))

  number_is : select_number c.info (length (sel c)) sv.most ≡ validity_of c.info
  number_is =
      select_number_law c.info (length (sel c)) sv.most
      (least_most sv.blocks sv.files sv.sessions sv.most
      (both_true (sizes_fit sv.blocks sv.files sv.sessions sv.most) _ c.good.fits).0)
      (facts sv l c.good).sizes.most (omega (arith, size_sel)) c.short

  -- the numbers chosen, and zeros, in the session's part
  abbrev m : Mem
  m = mem l.disk (map_part sv l) (owner_part sv l) (table_part sv l) (listed sv.most ns (sel c))

  page : take count (listed sv.most ns (sel c)) ≡ selection sv.most c.info (M c).files
  page = take_at ns (replicate (sv.most - length ns) 0 ++ drop sv.most (sel c)) count count_is ∙ chosen_is

  -- the downlink is idle, so it names no file of the selection
  idle_same : (d : Downlink) → takes_command d ≡ true → (a b : List ℕ) (x y : ℕ) → down_of (F c) (N c) a x d ≡ down_of (F c) (N c) b y d
  idle_same down.Idle e a b x y = refl
  idle_same (down.Sending place offset sent) e a b x y = refl
  idle_same (down.Ended place) e a b x y = refl
  idle_same (down.Aborting place) e a b x y = refl
  idle_same (down.Listing listed long done sent) e a b x y = absurd (let z : ◌≡◌ {A = ℕ} 0 1 = cc in omega arith)

  selects_does : takes_command (s0 c).down ≡ true
      → turn_view sv l c.i c.part (turned (turn_of (with_selection (s0 c) count) sv.last (reply.Selected count)) m)
      ≡ turn (reply.Selected (length (selection sv.most c.info (M c).files)))
      (in_session c.i (model.with_selection (selection sv.most c.info (M c).files)) (M c))
  selects_does idle =
      ap₂ (λ (k : ℕ) (x : model.Session). turn (reply.Selected k) (mk sv l c.i sv.last.number sv.last.time (view sv l).files x))
      (sym count_is ∙ ap length chosen_is)
      (open_from_law (F c) (N c) (listed sv.most ns (sel c)) c.part (with_selection (s0 c) count) c.linked
      ∙ ap₂ (λ (d : model.Downlink) (xs : List ℕ). model.with_down d (model.with_selection xs (k0 c)))
      (idle_same (s0 c).down idle (listed sv.most ns (sel c)) (sel c) 0 (s0 c).next) page)
      ∙ ap (turn (reply.Selected (length (selection sv.most c.info (M c).files))))
      (sym (set_mk sv l c.good c.i c.inside (model.with_selection (selection sv.most c.info (M c).files)) sv.last.number sv.last.time
      (view sv l).files (k0 c)))

  chooses_does : takes_command (s0 c).down ≡ true
      → turn_view sv l c.i c.part
      (on_chooses (parts sv l c.i)
      (download.selected_as (s0 c) sv.last (select_of c.info l.disk (owner_part sv l) (table_part sv l) (sel c) sv.most)))
      ≡ on_select_cmd (M c) c.i c.info
  unfolding on_chooses download.selected_as select_of on_select_cmd
  chooses_does idle = rw number_is (go (eqb (validity_of c.info) 0) refl)
    where
      go : (t : Bool) → eqb (validity_of c.info) 0 ≡ t
          → turn_view sv l c.i c.part
          (on_chooses (parts sv l c.i)
          (download.selected_as (s0 c) sv.last
          (cond t (selects (Ok count) (listed sv.most ns (sel c))) (selects (Err (validity_of c.info)) (sel c)))))
          ≡ cond t (turn (reply.Selected (length (selection sv.most c.info (M c).files)))
          (in_session c.i (model.with_selection (selection sv.most c.info (M c).files)) (M c)))
          (turn (reply.DownloadError 8) (M c))
      go true q = selects_does idle
      go false q =
          rw q
          (stays c (reply.DownloadError (validity_of c.info))
          ∙ ap (λ (k : ℕ). turn (reply.DownloadError k) (M c)) (refused_8 c.info c.short (eqb-false (validity_of c.info) 0 q)))

  pub select_does : takes_command (s0 c).down ≡ true → does c act.Select ≡ on_select_cmd (M c) c.i c.info
  unfolding carry_out download.select_turn
  select_does idle =
      rw (le-ltb (length (padded c.info)) (length c.info) (omega (arith, padded_length c.info c.short, c.short)), bytes.take_padded c.info)
      (chooses_does idle)
