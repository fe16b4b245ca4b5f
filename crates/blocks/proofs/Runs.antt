-- Writing and reading by runs within blocks: what holds between two runs, and that one more run keeps it.
use mathlib.Core.Path.{◌≡◌, refl, sym, ap, ap₂, ◌∙◌, subst}
use Prim.Native.Nat.{ℕ, suc, ◌+◌, ◌-◌, ◌*◌, ◌/◌, ◌%◌, ◌≤◌, ◌<◌}
use native.Mathlib.Numerals.{add-one}
use native.Mathlib.Omega.{arith}
use mathlib.Core.List.{List, ◌++◌}
use lib.ListN.{length, take, drop, length-drop, length-append, take-append-drop}
use lib.Seq.{drop-drop, sets, length-sets, length-take-le}
use Rattle.blocks.specs.Owners.{blocks, nth, next_of}
use Rattle.blocks.specs.Contents.{held, stored}
use Rattle.blocks.proofs.Owners.{nth_next, nth_in}
use Rattle.blocks.proofs.Held.{stored_run, held_run}
use Rattle.blocks.proofs.Steps.{run_read}

-- of n bytes from byte `at` of owner v on, i are done, and the next one stands in block b
pub record Walk (v : ℕ) (owner : List ℕ) (at n i b : ℕ) : Type 0 where
  pub few : length owner ≤ 4096
  pub room : at + n ≤ 256 * blocks v owner
  pub done : i ≤ n
  pub block : i < n → b ≡ nth v owner ((at + i) / 256)

pub walk_in : (v : ℕ) (owner : List ℕ) (at n i b : ℕ) → Walk v owner at n i b → i < n → b < length owner
walk_in v owner at n i b w h =
    let r = w.room in
    let q : (at + i) / 256 < blocks v owner = omega arith in
    subst (λ (x : ℕ). x < length owner) (sym (w.block h)) (nth_in v owner ((at + i) / 256) q)

pub walk_next : (v : ℕ) (owner : List ℕ) (at n i b r e b' : ℕ) → Walk v owner at n i b → i < n → r ≤ n - i → (r < n - i → (at + i) % 256 + r ≡ 256)
    → e ≡ i + r → (e < n → b' ≡ next_of v owner (b + 1)) → Walk v owner at n e b'
walk_next v owner at n i b r e b' w h l f q s =
    record { few = w.few; room = w.room; done = omega arith; block = λ k. next k }
  where
    next : e < n → b' ≡ nth v owner ((at + e) / 256)
    next k =
        let g : (at + i) % 256 + r ≡ 256 = f (omega arith) in
        let m : suc ((at + i) / 256) ≡ (at + e) / 256 = omega arith in
        s k ∙ ap (next_of v owner) (add-one b) ∙ ap (λ (x : ℕ). next_of v owner (suc x)) (w.block h)
        ∙ sym (nth_next v owner ((at + i) / 256)) ∙ ap (nth v owner) m

-- a run of r elements from element i on is r long
pub run_size : (l : List ℕ) (i r : ℕ) → i + r ≤ length l → length (take (i + r - i) (drop i l)) ≡ r
run_size l i r h = length-take-le (i + r - i) (drop i l) (rw length-drop (omega arith)) ∙ less i r
  where
    less : (i r : ℕ) → i + r - i ≡ r
    less i r = omega arith

-- ---- writing

pub record Writing (disk₀ owner : List ℕ) (v at : ℕ) (bytes disk : List ℕ) (b i : ℕ) : Type 0 where
  pub walk : Walk v owner at (length bytes) i b
  pub fits : 256 * length owner ≤ length disk₀
  pub size : length disk ≡ length disk₀
  pub same : stored v owner disk₀ at bytes ≡ stored v owner disk (at + i) (drop i bytes)

pub write_next : (disk₀ owner : List ℕ) (v at : ℕ) (bytes disk : List ℕ) (b i r : ℕ) → Writing disk₀ owner v at bytes disk b i → i < length bytes
    → r ≤ length bytes - i → (at + i) % 256 + r ≤ 256 → (r < length bytes - i → (at + i) % 256 + r ≡ 256)
    → (disk' : List ℕ) (b' : ℕ) → disk' ≡ sets disk (256 * b + (at + i) % 256) (take (i + r - i) (drop i bytes)) → (i + r < length bytes → b' ≡ next_of v owner (b + 1))
    → Writing disk₀ owner v at bytes disk' b' (i + r)
write_next disk₀ owner v at bytes disk b i r t h l k f disk' b' d s =
    record {
      walk = walk_next v owner at (length bytes) i b r (i + r) b' t.walk h l f refl s;
      fits = t.fits;
      size = ap length d ∙ length-sets disk (256 * b + (at + i) % 256) run ∙ t.size;
      same = t.same ∙ ap (stored v owner disk (at + i)) whole
          ∙ stored_run v owner disk b ((at + i) / 256) ((at + i) % 256) (at + i) run (drop (i + r) bytes) (t.walk.block h) (omega arith) (omega (arith, size))
          ∙ ap₂ (λ (x : List ℕ) (n : ℕ). stored v owner x n (drop (i + r) bytes)) (sym d) (on size);
    }
  where
    run : List ℕ
    run = take (i + r - i) (drop i bytes)

    size : length run ≡ r
    size = run_size bytes i r (omega arith)

    whole : drop i bytes ≡ run ++ drop (i + r) bytes
    whole =
        let e : i + (i + r - i) ≡ i + r = omega arith in
        sym (take-append-drop (i + r - i) (drop i bytes)) ∙ ap (λ (x : List ℕ). run ++ x) (drop-drop (i + r - i) i bytes ∙ ap (λ (n : ℕ). drop n bytes) e)

    on : length run ≡ r → at + i + length run ≡ at + (i + r)
    on q = omega arith

-- ---- reading

pub record Reading (disk owner : List ℕ) (v at : ℕ) (out₀ out : List ℕ) (b i : ℕ) : Type 0 where
  pub walk : Walk v owner at (length out₀) i b
  pub fits : 256 * length owner ≤ length disk
  pub size : length out ≡ length out₀
  pub same : take i out ≡ take i (drop at (held v owner disk))

pub read_next : (disk owner : List ℕ) (v at : ℕ) (out₀ out : List ℕ) (b i r : ℕ) → Reading disk owner v at out₀ out b i → i < length out
    → r ≤ length out - i → (at + i) % 256 + r ≤ 256 → (r < length out - i → (at + i) % 256 + r ≡ 256)
    → (run : List ℕ) (b' : ℕ) → run ≡ take (length (take (i + r - i) (drop i out))) (drop (256 * b + (at + i) % 256) disk)
    → (i + r < length (take i out ++ (run ++ drop (i + r - i) (drop i out))) → b' ≡ next_of v owner (b + 1))
    → Reading disk owner v at out₀ (take i out ++ (run ++ drop (i + r - i) (drop i out))) b' (i + r)
read_next disk owner v at out₀ out b i r t h l k f run b' d s =
    let z = t.size in
    let j : b < length owner = walk_in v owner at (length out₀) i b t.walk (omega arith) in
    let c : i + r - i ≡ r = omega arith in
    let g = t.fits in
    let p = t.walk.room in
    let x : run ≡ take r (drop (256 * b + (at + i) % 256) disk) = d ∙ ap (λ (n : ℕ). take n (drop (256 * b + (at + i) % 256) disk)) (run_size out i r (omega arith)) in
    let y : length run ≡ r = ap length x ∙ length-take-le r (drop (256 * b + (at + i) % 256) disk) (rw length-drop (omega arith)) in
    let u : run ≡ take (i + r - i) (drop i (drop at (held v owner disk))) =
    x ∙ sym (held_run v owner disk b ((at + i) / 256) ((at + i) % 256) (at + i) r g (t.walk.block (omega arith)) (omega arith) k (omega arith) j)
    ∙ ap₂ (λ (n : ℕ) (q : List ℕ). take n q) (sym c) (sym (drop-drop i at (held v owner disk))) in
    let whole : length (take i out ++ (run ++ drop (i + r - i) (drop i out))) ≡ length out = length_part i (i + r - i) (y ∙ sym c) (omega arith) in
    record {
      walk = walk_next v owner at (length out₀) i b r (i + r) b' t.walk (omega arith) (omega arith) (λ q. f (omega arith)) refl (λ q. s (omega (arith, whole)));
      fits = g;
      size = whole ∙ z;
      same = run_read out run (drop at (held v owner disk)) i (i + r) (omega arith) (omega arith) (y ∙ sym c) t.same u;
    }
  where
    length_part : (a n : ℕ) → length run ≡ n → a + n ≤ length out → length (take a out ++ (run ++ drop n (drop a out))) ≡ length out
    length_part a n e q =
        simp (length-append, length-drop) (sum (length-take-le a out (omega arith)))
      where
        sum : length (take a out) ≡ a → length (take a out) + (length run + (length out - a - n)) ≡ length out
        sum w = omega arith
