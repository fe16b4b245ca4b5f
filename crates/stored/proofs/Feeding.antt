-- Scanning a file block by block: what holds between two blocks, for any run over bytes that goes on from part to part. Assumes nothing.
use mathlib.Core.Path.{◌≡◌, refl, sym, ap, ◌∙◌, subst}
use mathlib.Core.Bool.{Bool, true, false, not, cond}
use mathlib.Core.List.{List, [], ◌∷◌, ◌++◌}
use Prim.Native.Nat.{ℕ, suc, ◌+◌, ◌-◌, ◌*◌, ◌≤◌, ◌<◌}
use native.Mathlib.Omega.{arith}
use native.Mathlib.Numerals.{add-one}
use native.Mathlib.Nat.{add-sub_cancel_left}
use lib.Dec.{ltb, eqb}
use lib.ListN.{length, take, drop, length-take, length-drop}
use lib.Seq.{length-take-le, take-take, take-append-le, take-append-add, take-nil, take_all}
use borrow.Author.Tests.{ltb-true, ltb-false, not-true}
use Rattle.blocks.specs.Owners.{blocks, next_of}
use Rattle.blocks.specs.Contents.{held, held_from, contents}
use Rattle.blocks.proofs.Owners.{blocks_le}
use Rattle.blocks.proofs.Held.{held_next, held_last, length_held}
use Rattle.header.specs.Scan.{in_header, scan_from, header_from}
use Rattle.header.specs.declared.scan.Scan.{Scan}
use Rattle.header.proofs.Machine.{header_stop}
use Rattle.header.proofs.Written.{Bytes, bytes_take, bytes_drop, bytes_join}

to_end : (xs ys : List ℕ) (n : ℕ) → n ≡ 0 → xs ++ take n ys ≡ xs
to_end [] ys n e = rw e
to_end (x ∷ xs) ys n e = ap (λ (l : List ℕ). x ∷ l) (to_end xs ys n e)

-- of a block and what follows it, the first bytes: n of the block's, and the rest of what follows
part : (left n : ℕ) (d ys : List ℕ) → 256 ≤ length d → n ≤ left → n ≤ 256 → (n < 256 → n ≡ left)
    → take left (take 256 d ++ ys) ≡ take n d ++ take (left - n) ys
part left n d ys h a b f = go (ltb n 256) refl
  where
    go : (t : Bool) → ltb n 256 ≡ t → take left (take 256 d ++ ys) ≡ take n d ++ take (left - n) ys
    go true e =
        let l = length-take-le 256 d h in
        let q : n ≡ left = f (ltb-true n 256 e) in
        take-append-le left (take 256 d) ys (omega arith) ∙ take-take left 256 d (omega arith) ∙ ap (λ (k : ℕ). take k d) (sym q)
        ∙ sym (to_end (take n d) ys (left - n) (omega arith))
    go false e =
        let l = length-take-le 256 d h in
        let q : n ≡ 256 = omega (arith, ltb-false n 256 e) in
        let z : left ≡ length (take 256 d) + (left - n) = omega arith in
        ap (λ (k : ℕ). take k (take 256 d ++ ys)) z ∙ take-append-add (take 256 d) ys (left - n) ∙ ap (λ (k : ℕ). take k d ++ take (left - n) ys) (sym q)

-- block b is the next one, and the run over what is left of the file gives the run over the whole
pub record Feeding (run : Scan → List ℕ → Scan) (v : ℕ) (owner disk : List ℕ) (whole s : Scan) (left b : ℕ) : Type 0 where
  pub from : ℕ
  pub next : b ≡ next_of v owner from
  pub same : run s (take left (held_from v owner disk from)) ≡ whole

pub feed_start : (run : Scan → List ℕ → Scan) (v : ℕ) (owner disk : List ℕ) (start : Scan) (received : ℕ) (s : Scan) (b : ℕ)
    → s ≡ start → b ≡ next_of v owner 0 → Feeding run v owner disk (run start (contents v owner disk received)) s received b
feed_start run v owner disk start received s b e n =
    record { from = 0; next = n; same = ap (λ (z : Scan). run z (contents v owner disk received)) e }

-- n bytes of block b are fed
pub feed_next : (run : Scan → List ℕ → Scan) → ((s : Scan) (xs ys : List ℕ) → run s (xs ++ ys) ≡ run (run s xs) ys)
    → (v : ℕ) (owner disk : List ℕ) (whole s : Scan) (left b n : ℕ) → Feeding run v owner disk whole s left b
    → b < length owner → 256 * length owner ≤ length disk → n ≤ left → n ≤ 256 → (n < 256 → n ≡ left)
    → (s' : Scan) (b' : ℕ) → s' ≡ run s (take (256 * b + n - 256 * b) (drop (256 * b) disk)) → b' ≡ next_of v owner (b + 1)
    → Feeding run v owner disk whole s' (left - n) b'
feed_next run append v owner disk whole s left b n f h fits l m k s' b' e q =
    record { from = b + 1; next = q; same = ap (λ (z : Scan). run z after) e' ∙ sym (append s block after) ∙ ap (run s) (sym split) ∙ f.same }
  where
    block : List ℕ
    block = take n (drop (256 * b) disk)

    after : List ℕ
    after = take (left - n) (held_from v owner disk (b + 1))

    e' : s' ≡ run s block
    e' = rw add-sub_cancel_left at e

    size : 256 ≤ length (drop (256 * b) disk)
    size = rw length-drop (omega arith)

    at_block : held_from v owner disk f.from ≡ take 256 (drop (256 * b) disk) ++ held_from v owner disk (b + 1)
    at_block =
        held_next v owner disk f.from (subst (λ (x : ℕ). x < length owner) f.next h)
        ∙ ap (λ (x : ℕ). take 256 (drop (256 * x) disk) ++ held_from v owner disk (suc x)) (sym f.next)
        ∙ ap (λ (x : ℕ). take 256 (drop (256 * b) disk) ++ held_from v owner disk x) (sym (add-one b))

    split : take left (held_from v owner disk f.from) ≡ block ++ after
    split = ap (take left) at_block ∙ part left n (drop (256 * b) disk) (held_from v owner disk (b + 1)) size l m k

-- past the last block the whole is scanned
pub feed_done : (run : Scan → List ℕ → Scan) (v : ℕ) (owner disk : List ℕ) (whole s : Scan) (left b : ℕ) → Feeding run v owner disk whole s left b
    → length owner ≤ b → run s [] ≡ s → s ≡ whole
feed_done run v owner disk whole s left b f h none =
    let e : held_from v owner disk f.from ≡ [] = held_last v owner disk f.from (subst (λ (x : ℕ). length owner ≤ x) f.next h) in
    sym none ∙ sym (ap (λ (xs : List ℕ). run s (take left xs)) e ∙ ap (run s) (take-nil left)) ∙ f.same

pub scan_none : (s : Scan) → scan_from s [] ≡ s
unfolding scan_from
scan_none s = refl

pub header_none : (s : Scan) → header_from s [] ≡ s
unfolding header_from
header_none s = refl

-- past the header's end no block changes what the header says
pub feed_stop : (v : ℕ) (owner disk : List ℕ) (whole s : Scan) (left b : ℕ) → Feeding header_from v owner disk whole s left b
    → not (in_header s.phase) ≡ true → s ≡ whole
feed_stop v owner disk whole s left b f e =
    sym (header_stop s (take left (held_from v owner disk f.from)) (not-true (in_header s.phase) e)) ∙ f.same

-- ---- the contents

-- the contents are as long as the bytes received, or as the blocks hold
pub record Cut (v : ℕ) (owner disk : List ℕ) (received n : ℕ) : Type 0 where
  pub same : contents v owner disk n ≡ contents v owner disk received
  pub size : length (contents v owner disk received) ≡ n

pub cut : (v : ℕ) (owner disk : List ℕ) (received n : ℕ) → 256 * length owner ≤ length disk
    → n ≤ received → n ≤ 256 * blocks v owner → (n < 256 * blocks v owner → n ≡ received) → Cut v owner disk received n
cut v owner disk received n fits a b f = record { same = same; size = ap length (sym same) ∙ length-take-le n (held v owner disk) (omega (arith, l)) }
  where
    l : length (held v owner disk) ≡ 256 * blocks v owner
    l = length_held v owner disk fits

    go : (t : Bool) → ltb n (256 * blocks v owner) ≡ t → contents v owner disk n ≡ contents v owner disk received
    go true e = ap (λ (k : ℕ). take k (held v owner disk)) (f (ltb-true n (256 * blocks v owner) e))
    go false e =
        let m = ltb-false n (256 * blocks v owner) e in
        take_all n (held v owner disk) (omega (arith, l)) ∙ sym (take_all received (held v owner disk) (omega (arith, l)))

    same : contents v owner disk n ≡ contents v owner disk received
    same = go (ltb n (256 * blocks v owner)) refl

bytes_held : (v : ℕ) (owner disk : List ℕ) → Bytes disk → Bytes (held v owner disk)
unfolding held
bytes_held v [] disk b = tt
bytes_held v (o ∷ os) disk b = go (eqb o v) (bytes_held v os (drop 256 disk) (bytes_drop 256 disk b))
  where
    go : (t : Bool) → Bytes (held v os (drop 256 disk)) → Bytes (cond t (take 256 disk) [] ++ held v os (drop 256 disk))
    go true ih = bytes_join (take 256 disk) (held v os (drop 256 disk)) (bytes_take 256 disk b) ih
    go false ih = ih

pub bytes_contents : (v : ℕ) (owner disk : List ℕ) (received : ℕ) → Bytes disk → Bytes (contents v owner disk received)
bytes_contents v owner disk received b = bytes_take received (held v owner disk) (bytes_held v owner disk b)

-- no file in blocks is longer than a count can say
pub short_contents : (v : ℕ) (owner disk : List ℕ) (received : ℕ) → length owner ≤ 4096 → 256 * length owner ≤ length disk
    → length (contents v owner disk received) < 18446744073709551616
short_contents v owner disk received few fits =
    omega (arith, length-take received (held v owner disk), length_held v owner disk fits, blocks_le v owner)
