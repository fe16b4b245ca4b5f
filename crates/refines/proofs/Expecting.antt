-- Where the machine closes a link is where the table of expected packets (crates/session/specs/Expected.antt) has none. Assumes nothing.
use mathlib.Core.Path.{◌≡◌, refl}
use mathlib.Core.Bool.{Bool, true, false, cond}
use mathlib.Core.List.{List}
use mathlib.Core.Option.{Option}
use Prim.Native.Nat.{ℕ}
use native.Mathlib.Omega.{arith}
use borrow.Author.Tests.{eqb-true, eqb-false, leb-true, ltb-true, ltb-false, ne_eqb, le-leb}
use lib.Dec.{eqb, leb, ltb}
use Rattle.session.specs.declared.state.Uplink.{Uplink}
use Rattle.session.specs.declared.state.Uplink.TheVariants as up
use Rattle.session.specs.declared.state.Downlink.{Downlink}
use Rattle.session.specs.declared.state.Downlink.TheVariants as down
use Rattle.session.specs.Expected.{takes_data, takes_upload, takes_command, takes_ack, takes_nak, expected_up, expected_down, expected}
use Rattle.acts.specs.Change.{Files}
use Rattle.model.specs.State.{File, Turn}
use Rattle.model.specs.Step.{if_no_upload, if_no_download}
use Rattle.views.specs.View.{up_of, down_of}

upload_taken : (F : Files) (u : Uplink) (x y : Turn) → if_no_upload (up_of F u) x y ≡ cond (takes_upload u) x y
upload_taken F up.Idle x y = refl
upload_taken F (up.Receiving place offset received) x y = refl
upload_taken F up.Ignoring x y = refl

command_taken : (F : Files) (N : ℕ → Option File) (selected : List ℕ) (next : ℕ) (d : Downlink) (x y : Turn)
    → if_no_download (down_of F N selected next d) x y ≡ cond (takes_command d) x y
command_taken F N selected next down.Idle x y = refl
command_taken F N selected next (down.Sending place offset sent) x y = refl
command_taken F N selected next (down.Ended place) x y = refl
command_taken F N selected next (down.Aborting place) x y = refl
command_taken F N selected next (down.Listing listed long done sent) x y = refl

-- what each packet gets, by its type; `close` where it is not expected
module _ (kind size : ℕ) (data' end upload download ack nak short long select close : Turn) where
  -- as the machine has it, given which packets are taken
  abbrev up_lines : Bool → Turn → Turn
  up_lines takes-upload rest =
      cond (eqb kind 0) data' (cond (eqb kind 1) (cond (eqb size 0) end close) (cond (eqb kind 3) (cond takes-upload upload close) rest))

  abbrev down_lines : Bool → Turn
  down_lines takes-command =
      cond (eqb kind 8) (cond takes-command download close)
      (cond (eqb kind 12) ack
      (cond (eqb kind 13) (cond (eqb size 0) nak close)
      (cond (eqb kind 14) (cond takes-command short close)
      (cond (eqb kind 15) (cond takes-command long close)
      (cond (eqb kind 16) (cond takes-command select close) close)))))

  -- as the table has it, for a packet that is expected
  abbrev expected_lines : Turn
  expected_lines =
      cond (eqb kind 0) data'
      (cond (eqb kind 1) end
      (cond (eqb kind 3) upload
      (cond (eqb kind 8) download (cond (eqb kind 12) ack (cond (eqb kind 13) nak (cond (eqb kind 16) select (cond (eqb kind 15) long short)))))))

  -- types below 8
  up_table : (x y z empty takes-data takes-upload : Bool) (rest : Turn) → (takes-data ≡ false → data' ≡ close) → (takes-data ≡ false → end ≡ close)
      → cond x data' (cond y (cond empty end close) (cond z (cond takes-upload upload close) close))
      ≡ cond (cond x takes-data (cond y (cond empty takes-data false) (cond z takes-upload false))) (cond x data' (cond y end (cond z upload rest))) close
  up_table true y z e true v rest h k = refl
  up_table true y z e false v rest h k = h refl
  up_table false true z true true v rest h k = refl
  up_table false true z true false v rest h k = k refl
  up_table false true z false t v rest h k = refl
  up_table false false true e t true rest h k = refl
  up_table false false true e t false rest h k = refl
  up_table false false false e t v rest h k = refl

  -- 14, 15 and 16
  last_table : (takes : Bool)
      → cond (eqb kind 14) (cond takes short close) (cond (eqb kind 15) (cond takes long close) (cond (eqb kind 16) (cond takes select close) close))
      ≡ cond (cond (leb 14 kind) (cond (leb kind 16) takes false) false) (cond (eqb kind 16) select (cond (eqb kind 15) long short)) close
  last_table takes = by14 (eqb kind 14) refl
    where
      none : (b d : Bool) → leb 14 kind ≡ b → leb kind 16 ≡ d → eqb kind 14 ≡ false → eqb kind 15 ≡ false → eqb kind 16 ≡ false
          → close ≡ cond (cond b (cond d takes false) false) short close
      none true true p o a c q =
          absurd (omega (arith, leb-true 14 kind p, leb-true kind 16 o, eqb-false kind 14 a, eqb-false kind 15 c, eqb-false kind 16 q))
      none true false p o a c q = refl
      none false d p o a c q = refl

      by16 : (b : Bool) → eqb kind 16 ≡ b → eqb kind 14 ≡ false → eqb kind 15 ≡ false
          → cond b (cond takes select close) close ≡ cond (cond (leb 14 kind) (cond (leb kind 16) takes false) false) (cond b select short) close
      by16 true q a c = let k = eqb-true kind 16 q in rw (le-leb 14 kind (omega arith), le-leb kind 16 (omega arith))
      by16 false q a c = none (leb 14 kind) (leb kind 16) refl refl a c q

      by15 : (b : Bool) → eqb kind 15 ≡ b → eqb kind 14 ≡ false
          → cond b (cond takes long close) (cond (eqb kind 16) (cond takes select close) close)
          ≡ cond (cond (leb 14 kind) (cond (leb kind 16) takes false) false) (cond (eqb kind 16) select (cond b long short)) close
      by15 true q a =
          let k = eqb-true kind 15 q in
          rw (le-leb 14 kind (omega arith), le-leb kind 16 (omega arith), ne_eqb kind 16 (λ z. omega arith))
      by15 false q a = by16 (eqb kind 16) refl a q

      by14 : (b : Bool) → eqb kind 14 ≡ b
          → cond b (cond takes short close) (cond (eqb kind 15) (cond takes long close) (cond (eqb kind 16) (cond takes select close) close))
          ≡ cond (cond (leb 14 kind) (cond (leb kind 16) takes false) false) (cond (eqb kind 16) select (cond (eqb kind 15) long short)) close
      by14 true q =
          let k = eqb-true kind 14 q in
          rw (le-leb 14 kind (omega arith), le-leb kind 16 (omega arith), ne_eqb kind 16 (λ z. omega arith), ne_eqb kind 15 (λ z. omega arith))
      by14 false q = by15 (eqb kind 15) refl q

  -- types from 8 on
  down_table : (takes-command takes-ack takes-nak : Bool) → (takes-ack ≡ false → ack ≡ close) → (takes-nak ≡ false → nak ≡ close)
      → down_lines takes-command
      ≡ cond (cond (eqb kind 8) takes-command
      (cond (eqb kind 12) takes-ack
      (cond (eqb kind 13) (cond (eqb size 0) takes-nak false) (cond (leb 14 kind) (cond (leb kind 16) takes-command false) false))))
      (cond (eqb kind 8) download (cond (eqb kind 12) ack (cond (eqb kind 13) nak (cond (eqb kind 16) select (cond (eqb kind 15) long short))))) close
  down_table tc ta tn h k = go (eqb kind 8) (eqb kind 12) (eqb kind 13) (eqb size 0) tc ta tn h k (last_table tc)
    where
      go : (x y z e tc ta tn : Bool) → (ta ≡ false → ack ≡ close) → (tn ≡ false → nak ≡ close)
          → cond (eqb kind 14) (cond tc short close) (cond (eqb kind 15) (cond tc long close) (cond (eqb kind 16) (cond tc select close) close))
          ≡ cond (cond (leb 14 kind) (cond (leb kind 16) tc false) false) (cond (eqb kind 16) select (cond (eqb kind 15) long short)) close
          → cond x (cond tc download close) (cond y ack (cond z (cond e nak close)
          (cond (eqb kind 14) (cond tc short close) (cond (eqb kind 15) (cond tc long close) (cond (eqb kind 16) (cond tc select close) close)))))
          ≡ cond (cond x tc (cond y ta (cond z (cond e tn false) (cond (leb 14 kind) (cond (leb kind 16) tc false) false))))
          (cond x download (cond y ack (cond z nak (cond (eqb kind 16) select (cond (eqb kind 15) long short))))) close
      go true y z e true ta tn h k l = refl
      go true y z e false ta tn h k l = refl
      go false true z e tc true tn h k l = refl
      go false true z e tc false tn h k l = h refl
      go false false true true tc ta true h k l = refl
      go false false true true tc ta false h k l = k refl
      go false false true false tc ta tn h k l = refl
      go false false false e tc ta tn h k l = l

  -- THEOREM
  pub by_table : (F : Files) (N : ℕ → Option File) (selected : List ℕ) (next : ℕ) (u : Uplink) (d : Downlink) → (takes_data u ≡ false → data' ≡ close) → (takes_data u ≡ false → end ≡ close)
      → (takes_ack d ≡ false → ack ≡ close) → (takes_nak d ≡ false → nak ≡ close)
      → cond (eqb kind 0) data'
      (cond (eqb kind 1) (cond (eqb size 0) end close)
      (cond (eqb kind 3) (if_no_upload (up_of F u) upload close)
      (cond (eqb kind 8) (if_no_download (down_of F N selected next d) download close)
      (cond (eqb kind 12) ack
      (cond (eqb kind 13) (cond (eqb size 0) nak close)
      (cond (eqb kind 14) (if_no_download (down_of F N selected next d) short close)
      (cond (eqb kind 15) (if_no_download (down_of F N selected next d) long close)
      (cond (eqb kind 16) (if_no_download (down_of F N selected next d) select close) close))))))))
      ≡ cond (expected u d kind size) expected_lines close
  unfolding expected expected_up expected_down
  by_table F N selected next u d h k a n =
      rw (
        upload_taken F u upload close,
        command_taken F N selected next d download close,
        command_taken F N selected next d short close,
        command_taken F N selected next d long close,
        command_taken F N selected next d select close,
      )
      (by_side (ltb kind 8) refl)
    where
      by_side : (b : Bool) → ltb kind 8 ≡ b
          → up_lines (takes_upload u) (down_lines (takes_command d))
          ≡ cond (cond b (cond (eqb kind 0) (takes_data u)
          (cond (eqb kind 1) (cond (eqb size 0) (takes_data u) false) (cond (eqb kind 3) (takes_upload u) false)))
          (cond (eqb kind 8) (takes_command d)
          (cond (eqb kind 12) (takes_ack d)
          (cond (eqb kind 13) (cond (eqb size 0) (takes_nak d) false) (cond (leb 14 kind) (cond (leb kind 16) (takes_command d) false) false)))))
          expected_lines close
      by_side true q =
          let b = ltb-true kind 8 q in
          rw (
            ne_eqb kind 8 (λ z. omega arith),
            ne_eqb kind 12 (λ z. omega arith),
            ne_eqb kind 13 (λ z. omega arith),
            ne_eqb kind 14 (λ z. omega arith),
            ne_eqb kind 15 (λ z. omega arith),
            ne_eqb kind 16 (λ z. omega arith),
          )
          (up_table (eqb kind 0) (eqb kind 1) (eqb kind 3) (eqb size 0) (takes_data u) (takes_upload u) short h k)
      by_side false q =
          let b = ltb-false kind 8 q in
          rw (ne_eqb kind 0 (λ z. omega arith), ne_eqb kind 1 (λ z. omega arith), ne_eqb kind 3 (λ z. omega arith))
          (down_table (takes_command d) (takes_ack d) (takes_nak d) a n)
