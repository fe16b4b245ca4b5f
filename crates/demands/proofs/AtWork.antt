-- Demand 3 at work: the statement, a hypothesis here, is applied to the small cases of Example.antt, and what it gives is stated.
-- Demands 1 and 2 at work: crates/worked. Assumes nothing.
use mathlib.Core.Path.{◌≡◌, ap, ◌∙◌, sym, subst}
use mathlib.Core.Logic.{◌⊎◌, inl, inr}
use mathlib.Core.Option.{some}
use Prim.Native.Nat.{ℕ, ◌≤◌}
use native.Mathlib.Omega.{arith}
use lib.ListN.{get_or, take}
use Rattle.header.proofs.Examples.{smallest}
use Rattle.header.specs.Fields.{fields_set}
use Rattle.blocks.specs.FreeMap.{free_count}
use Rattle.blocks.specs.Owners.{blocks}
use Rattle.table.specs.declared.File.{File}
use Rattle.server.specs.State.{map_part, owner_part}
use Rattle.history.specs.Calls.{Start, History, start}
use Rattle.model.specs.Files.{find, free}
use Rattle.accepted.specs.Exchange.{exchanged}
use Rattle.accepted.specs.Accepted.{accepted, reserved}
use Rattle.views.specs.View.{file_of}
use Rattle.worked.proofs.Passes.{small, small_legal, pair, pair_legal, rx, upload, opened, before_upload, lost_once, both}
use Rattle.demands.specs.Demand3.{server_at, lent_at, files_at, model_at, exchanged_at, transcript_at, Live, Placed, Free, Owned}
use Rattle.demands.specs.Demands.{Demands}
use Rattle.demands.proofs.Example.{computed}

-- a file is at a place, since its number is not 0
live : (s : Start) (h : History) (place n size received time : ℕ)
    → (files_at s h place).file ≡ record { number = n; size = size; received = received; time = time } → 1 ≤ n → Live (files_at s h place)
live s h place n size received time e above z = omega (arith, above, sym (ap (λ (f : File). f.number) e) ∙ z)

-- and it is complete, since its time is not 0
timed : (s : Start) (h : History) (place n size received time : ℕ)
    → (files_at s h place).file ≡ record { number = n; size = size; received = received; time = time } → 1 ≤ time
    → (files_at s h place).file.time ≡ 0 → ⊥
timed s h place n size received time e above z = omega (arith, above, sym (ap (λ (f : File). f.time) e) ∙ z)

live_half : Live (files_at small before_upload 0)
live_half = live small before_upload 0 1 80 40 0 computed.lost_once_law.partial (omega arith)

live_whole : Live (files_at small lost_once 0)
live_whole = live small lost_once 0 1 80 80 4 computed.lost_once_law.file (omega arith)

whole : (files_at small lost_once 0).file.time ≡ 0 → ⊥
whole = timed small lost_once 0 1 80 80 4 computed.lost_once_law.file (omega arith)

module _ (d : Demands) where
  -- the one block is free or belongs to one file; it is not free, so it is that of the file at the one place
  pub its_owner : Live (files_at small lost_once 0)
  its_owner = go ((d.sound_store small small_legal lost_once).blocks 0 (unfold small in omega arith))
    where
      go : Free (server_at small lost_once) (lent_at small lost_once) 0 ⊎ Owned (server_at small lost_once) (lent_at small lost_once) 0
          → Live (files_at small lost_once 0)
      go (inl f) = absurd (omega (arith, f.bit, computed.lost_once_law.bit))
      go (inr o) =
          let p : o.place ≡ 0 = omega (arith, o.owner, computed.lost_once_law.owner) in
          subst (λ (k : ℕ). Live (files_at small lost_once k)) p o.file

  -- before the upload it is free, by the owners too
  pub free_before : get_or (owner_part (server_at small start) (lent_at small start)) 0 0 ≡ 0
  free_before = go ((d.sound_store small small_legal start).blocks 0 (unfold small in omega arith))
    where
      go : Free (server_at small start) (lent_at small start) 0 ⊎ Owned (server_at small start) (lent_at small start) 0
          → get_or (owner_part (server_at small start) (lent_at small start)) 0 0 ≡ 0
      go (inl f) = f.owner
      go (inr o) = absurd (omega (arith, o.bit, computed.lost_once_law.free))

  -- one block is held, as reserved by history, and so none is free
  pub none_free : free_count (map_part (server_at small lost_once) (lent_at small lost_once)) ≡ 0
  unfolding small
  none_free =
      let b = (d.sound_store small small_legal lost_once).held in
      omega (arith, b.all, b.held, computed.lost_once_law.sum)

  -- before the upload none is held, and so the one is free
  pub one_free : free_count (map_part (server_at small start) (lent_at small start)) ≡ 1
  unfolding small
  one_free =
      let b = (d.sound_store small small_legal start).held in
      omega (arith, b.all, b.held, computed.lost_once_law.none)

  -- as of the machine
  pub none_free_there : free (model_at small lost_once) ≡ 0
  none_free_there = sym (d.sound_store small small_legal lost_once).held.free_is ∙ none_free

  -- file 1 has the one block that was reserved for it
  pub its_blocks : blocks 1 (owner_part (server_at small lost_once) (lent_at small lost_once)) ≡ 1
  its_blocks =
      (d.sound_store small small_legal lost_once).held.each 0 live_whole
      ∙ ap (λ (f : File). reserved (transcript_at small lost_once) f.number) computed.lost_once_law.file ∙ computed.lost_once_law.blocks

  -- the file at place 0 is the machine's file 1
  pub as_numbered : find 1 (model_at small lost_once).files ≡ some (file_of (files_at small lost_once 0))
  as_numbered =
      subst (λ (f : File). find f.number (model_at small lost_once).files ≡ some (file_of (files_at small lost_once 0))) computed.lost_once_law.file
      ((d.sound_store small small_legal lost_once).places.found 0 live_whole)

  -- and the machine's file stands at a place
  pub at_its_place : Placed (files_at small lost_once) (file_of (files_at small lost_once 0))
  at_its_place = (d.sound_store small small_legal lost_once).places.placed 1 (file_of (files_at small lost_once 0)) as_numbered

  pub placed_so : file_of (files_at small lost_once at_its_place.place) ≡ file_of (files_at small lost_once 0)
  placed_so = at_its_place.is

  pub placed_live : Live (files_at small lost_once at_its_place.place)
  placed_live = at_its_place.live

  -- no other place has a file with number 1
  pub only_one : (q : ℕ) → (files_at pair both 0).file.number ≡ (files_at pair both q).file.number → 0 ≡ q
  only_one q e = (d.sound_store pair pair_legal both).places.apart 0 q (live pair both 0 1 80 80 7 computed.both.file (omega arith)) e

  -- after the lost link the partial file is the 40 bytes of the whole DATA packet
  pub half_bytes : (files_at small before_upload 0).bytes ≡ take 40 smallest
  half_bytes =
      let r = d.sound_store small small_legal before_upload in
      (r.files.contents (files_at small before_upload 0).file.number (file_of (files_at small before_upload 0)) (r.places.found 0 live_half)).partial
      (ap (λ (f : File). f.time) computed.lost_once_law.partial)
      ∙ ap (λ (f : File). accepted (transcript_at small before_upload) f.number) computed.lost_once_law.partial ∙ computed.lost_once_law.half

  -- the complete file is what was accepted, with its fields set to number 1 and time 4
  pub lost_once_bytes : (files_at small lost_once 0).bytes ≡ fields_set 1 4 smallest
  lost_once_bytes =
      let r = d.sound_store small small_legal lost_once in
      (r.files.contents (files_at small lost_once 0).file.number (file_of (files_at small lost_once 0)) (r.places.found 0 live_whole)).complete whole
      ∙ ap (λ (f : File). fields_set f.number f.time (accepted (transcript_at small lost_once) f.number)) computed.lost_once_law.file
      ∙ ap (fields_set 1 4) computed.lost_once_law.bytes

  -- what the server answers to UPLOAD_CMD is what the machine answers
  pub answered_alike : exchanged_at small opened (rx 6 (upload 0)) ≡ exchanged (model_at small opened) (rx 6 (upload 0))
  answered_alike = (d.sound_store small small_legal opened).answers (rx 6 (upload 0))
