use native.Mathlib.Omega.{arith}
use mathlib.Core.Path.{◌≡◌, sym, ap, ◌∙◌}
use mathlib.Core.List.{List, ◌++◌}
use Prim.Native.Nat.{ℕ, ◌+◌, ◌*◌, ◌-◌}
use native.Mathlib.Nat.{add-sub_cancel_left, mul-le-mul}
use lib.ListN.{take, drop}
use lib.Seq.{length-take-le}
use Rattle.packet.specs.declared.frame.Frame.{Frame}
use Rattle.session.specs.declared.state.Session.{Session}
use Rattle.table.specs.Table.{files}
use Rattle.decide.specs.declared.act.Act.{Act}
use Rattle.decide.specs.Decide.{decide_of}
use Rattle.carry.specs.declared.turn.Turn.{Turn}
use Rattle.carry.specs.Turn.{mem, turned}
use Rattle.carry.specs.Carry.{carry_out}
use Rattle.server.specs.declared.Server.{Server}
use Rattle.server.specs.State.{words}
use Rattle.server.specs.Turns.{size_in, in_use, act_of, put_back}
use Rattle.server.proofs.turns.act_on.Goals as goal

pub size_in-size-requires : goal.size_in-size-requires
size_in-size-requires c = tt

pub slice_bounds-decide-end : goal.slice_bounds-decide-end
slice_bounds-decide-end c = c.requires.records

pub slice_bounds-decide-end-2 : goal.slice_bounds-decide-end-2
slice_bounds-decide-end-2 c = let e = c in sym (length-take-le _ e.args.table.now e.requires.records)

pub offset_bounds-selected-a : goal.offset_bounds-selected-a
offset_bounds-selected-a c = let e = c in omega (arith, mul-le-mul e.requires.session e.requires.most)

pub slice_bounds-decide-count : goal.slice_bounds-decide-count
slice_bounds-decide-count c = omega arith

pub slice_bounds-decide-start : goal.slice_bounds-decide-start
slice_bounds-decide-start c = omega arith

pub slice_bounds-decide-end-3 : goal.slice_bounds-decide-end-3
slice_bounds-decide-end-3 c = c.requires.selections

pub decide-what-requires : goal.decide-what-requires
decide-what-requires c = tt

pub slice_bounds-carry_out-end : goal.slice_bounds-carry_out-end
slice_bounds-carry_out-end c = c.requires.words

pub slice_bounds-carry_out-end-2 : goal.slice_bounds-carry_out-end-2
slice_bounds-carry_out-end-2 c = let e = c in sym (length-take-le _ e.args.map.now e.requires.words)

pub slice_bounds-carry_out-end-3 : goal.slice_bounds-carry_out-end-3
slice_bounds-carry_out-end-3 c = c.requires.owners

pub slice_bounds-carry_out-end-4 : goal.slice_bounds-carry_out-end-4
slice_bounds-carry_out-end-4 c = let e = c in sym (length-take-le _ e.args.owner.now e.requires.owners)

pub slice_bounds-carry_out-end-5 : goal.slice_bounds-carry_out-end-5
slice_bounds-carry_out-end-5 c = c.requires.records

pub slice_bounds-carry_out-end-6 : goal.slice_bounds-carry_out-end-6
slice_bounds-carry_out-end-6 c = let e = c in sym (length-take-le _ e.args.table.now e.requires.records)

pub offset_bounds-selected-a-2 : goal.offset_bounds-selected-a-2
offset_bounds-selected-a-2 c = let e = c in omega (arith, mul-le-mul e.requires.session e.requires.most)

pub slice_bounds-carry_out-count : goal.slice_bounds-carry_out-count
slice_bounds-carry_out-count c = omega arith

pub slice_bounds-carry_out-start : goal.slice_bounds-carry_out-start
slice_bounds-carry_out-start c = omega arith

pub slice_bounds-carry_out-end-7 : goal.slice_bounds-carry_out-end-7
slice_bounds-carry_out-end-7 c = c.requires.selections

pub carry_out-requires : goal.carry_out-requires
carry_out-requires c = tt

pub shape_of-disk : goal.shape_of-disk
shape_of-disk c = c.disk-1.given

pub shape_of-map : goal.shape_of-map
shape_of-map c = c.map-1.given.1

pub shape_of-owner : goal.shape_of-owner
shape_of-owner c = c.owner-1.given.1

pub shape_of-table : goal.shape_of-table
shape_of-table c = c.table-1.given.1

-- what was decided on the parts and carried out on them is the act. The code counts a part's entries as its end less its start
acted : (sv : Server) (i : ℕ) (s : Session) (frame : Frame) (clock : ℕ) (info disk map owner table selected : List ℕ) (size : ℕ) (what : Act) (t : Turn) (disk' map' owner' table' selected' : List ℕ) → size ≡ size_in frame → what ≡ decide_of s (in_use sv) frame info (files (take (4 * sv.files) table)) (take (i * sv.most + sv.most - i * sv.most) (drop (i * sv.most) selected)) → turned t (mem disk' map' owner' table' selected') ≡ carry_out what s sv.last clock sv.most size info (mem disk (take (words sv.blocks) map) (take sv.blocks owner) (take (4 * sv.files) table) (take (i * sv.most + sv.most - i * sv.most) (drop (i * sv.most) selected))) → turned t (mem disk' (map' ++ drop (words sv.blocks) map) (owner' ++ drop sv.blocks owner) (table' ++ drop (4 * sv.files) table) (take (i * sv.most) selected ++ (selected' ++ drop (i * sv.most + sv.most - i * sv.most) (drop (i * sv.most) selected)))) ≡ act_of sv i s frame clock info (mem disk map owner table selected)
unfolding act_of put_back
acted sv i s frame clock info disk map owner table selected size what t disk' map' owner' table' selected' sized decided carried =
    let d : i * sv.most + sv.most - i * sv.most ≡ sv.most = add-sub_cancel_left (i * sv.most) sv.most in
    rw (d, ← sized, ← rw d at decided, ← rw d at carried)

acted-by : (sv : Server) (i : ℕ) (s : Session) (frame : Frame) (clock : ℕ) (info disk map owner table selected : List ℕ) (size : ℕ) (what : Act) (t : Turn) (disk' map' owner' table' selected' : List ℕ) (links : List Session) → size ≡ size_in frame → links ≡ in_use sv → what ≡ decide_of s links frame info (files (take (4 * sv.files) table)) (take (i * sv.most + sv.most - i * sv.most) (drop (i * sv.most) selected)) → turned t (mem disk' map' owner' table' selected') ≡ carry_out what s sv.last clock sv.most size info (mem disk (take (words sv.blocks) map) (take sv.blocks owner) (take (4 * sv.files) table) (take (i * sv.most + sv.most - i * sv.most) (drop (i * sv.most) selected))) → turned t (mem disk' (map' ++ drop (words sv.blocks) map) (owner' ++ drop sv.blocks owner) (table' ++ drop (4 * sv.files) table) (take (i * sv.most) selected ++ (selected' ++ drop (i * sv.most + sv.most - i * sv.most) (drop (i * sv.most) selected)))) ≡ act_of sv i s frame clock info (mem disk map owner table selected)
acted-by sv i s frame clock info disk map owner table selected size what t disk' map' owner' table' selected' links sized used decided carried =
    acted sv i s frame clock info disk map owner table selected size what t disk' map' owner' table' selected' sized
    (decided
    ∙ ap (λ (ls : List Session). decide_of s ls frame info (files (take (4 * sv.files) table))
    (take (i * sv.most + sv.most - i * sv.most) (drop (i * sv.most) selected))) used) carried

pub returns : goal.returns
returns c = acted-by _ _ _ _ _ _ _ _ _ _ _ _ _ _ _ _ _ _ _ _ c.size_in-size.ensures c.in_use-links.ensures c.decide-what.ensures c.carry_out.ensures
