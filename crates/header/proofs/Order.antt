-- What the order of the items says of how often each id is there, and of where 01 to 0b stand. Assumes nothing.
use Rattle.std.proofs.Common.{ap, ◌≡◌, ℕ, zero, suc, ◌+◌, ◌-◌, ◌<◌, ◌≤◌, Bool, true, false, cond, eqb, ltb, leb, List, [], ◌∷◌, length, sym, refl, ◌∙◌, arith, ltb-true, eq-eqb, ne_eqb, eqb-true, le-leb, leb-false, leb-true}
use borrow.Author.Tests.{eqb-false, lt-leb}
use Rattle.header.specs.Items.{Field}
use Rattle.header.specs.Header.{listed, every, count_if, times, bytes_of, length_in, listed_length, length_fits, fits, ordered, proper, complete, place_from}
use Rattle.header.specs.Fields.{before}
use Rattle.header.proofs.Machine.{clash}

abbrev pub low : ℕ → Bool
low n = leb n 11

pub record Once (last i n : ℕ) : Type 0 where
  pub most : n ≤ 1
  pub past : i ≤ last → n ≡ 0

-- each of 01 to 0b is there once at most, and none of those passed
pub once : (last i : ℕ) (is : List Field) → ordered last is ≡ true → i ≤ 11 → Once last i (times i is)
unfolding ordered count_if
once last i [] o h = record { most = omega arith; past = λ l. refl }
once last i (x ∷ xs) o h = go (leb x.id 11) refl (ltb last x.id) refl (eqb x.id i) refl o (λ l q. once l i xs q h)
  where
    go : (t : Bool)
        → leb x.id 11 ≡ t
        → (u : Bool)
        → ltb last x.id ≡ u
        → (e : Bool)
        → eqb x.id i ≡ e
        → cond t (cond u (ordered x.id xs) false) (ordered 11 xs) ≡ true
        → ((l : ℕ) → ordered l xs ≡ true → Once l i (times i xs))
        → Once last i (cond e 1 0 + times i xs)
    go true a true b true c o ih =
        let q = eqb-true x.id i c in
        let r = ih x.id o in
        let z = r.past (omega arith) in
        record { most = omega arith; past = λ l. absurd (omega (arith, ltb-true last x.id b)) }
    go true a true b false c o ih =
        let r = ih x.id o in
        record { most = omega arith; past = λ l. let z = r.past (omega (arith, ltb-true last x.id b)) in omega arith }
    go true a false b e c o ih = absurd (clash (sym o))
    go false a u b true c o ih = absurd (omega (arith, leb-false x.id 11 a, eqb-true x.id i c))
    go false a u b false c o ih =
        let r = ih 11 o in let z = r.past h in record { most = omega arith; past = λ l. omega arith }

-- after `last` at most the 11 - last others follow
few : (last : ℕ) (is : List Field) → last ≤ 11 → ordered last is ≡ true → count_if low is + last ≤ 11
unfolding ordered count_if
few last [] h o = omega arith
few last (x ∷ xs) h o = go (leb x.id 11) refl (ltb last x.id) refl o (few x.id xs) (few 11 xs)
  where
    go : (t : Bool)
        → leb x.id 11 ≡ t
        → (u : Bool)
        → ltb last x.id ≡ u
        → cond t (cond u (ordered x.id xs) false) (ordered 11 xs) ≡ true
        → (x.id ≤ 11 → ordered x.id xs ≡ true → count_if low xs + x.id ≤ 11)
        → (11 ≤ 11 → ordered 11 xs ≡ true → count_if low xs + 11 ≤ 11)
        → cond t 1 0 + count_if low xs + last ≤ 11
    go true a true b o ih ih₁ = let q = ih (leb-true x.id 11 a) o in omega (arith, ltb-true last x.id b)
    go true a false b o ih ih₁ = absurd (clash (sym o))
    go false a u b o ih ih₁ = let q = ih₁ (omega arith) o in omega arith

-- ---- 01 to 0b without a gap

-- the first k items have the ids after `last`, and no later one has an id up to 0b
abbrev pub Chain : ℕ → ℕ → List Field → Type 0
Chain zero last is = count_if low is ≡ 0
Chain (suc k) last [] = ⊥
Chain (suc k) last (x ∷ xs) = (x.id ≡ suc last) × Chain k (suc last) xs

-- what an ordered list begins with, where an item is still to come
record First (last : ℕ) (x : Field) (xs : List Field) : Type 0 where
  pub low : x.id ≤ 11
  pub above : last < x.id
  pub rest : ordered x.id xs ≡ true

first : (last : ℕ) (x : Field) (xs : List Field) → ordered last (x ∷ xs) ≡ true → (ordered 11 xs ≡ true → 11 < x.id → ⊥) → First last x xs
unfolding ordered
first last x xs o h = go (leb x.id 11) refl (ltb last x.id) refl o
  where
    go : (t : Bool)
        → leb x.id 11 ≡ t
        → (u : Bool)
        → ltb last x.id ≡ u
        → cond t (cond u (ordered x.id xs) false) (ordered 11 xs) ≡ true
        → First last x xs
    go true a true b o = record { low = leb-true x.id 11 a; above = ltb-true last x.id b; rest = o }
    go true a false b o = absurd (clash (sym o))
    go false a u b o = absurd (h o (leb-false x.id 11 a))

low_hit : (x : Field) (xs : List Field) → x.id ≤ 11 → count_if low (x ∷ xs) ≡ 1 + count_if low xs
unfolding count_if
low_hit x xs h = rw (le-leb x.id 11 h)

low_miss : (x : Field) (xs : List Field) → 11 < x.id → count_if low (x ∷ xs) ≡ count_if low xs
unfolding count_if
low_miss x xs h = rw (lt-leb x.id 11 h) (omega arith)

pub times_hit : (i : ℕ) (x : Field) (xs : List Field) → x.id ≡ i → times i (x ∷ xs) ≡ 1 + times i xs
unfolding count_if
times_hit i x xs e = rw (eq-eqb x.id i e)

pub times_miss : (i : ℕ) (x : Field) (xs : List Field) → (x.id ≡ i → ⊥) → times i (x ∷ xs) ≡ times i xs
unfolding count_if
times_miss i x xs e = rw (ne_eqb x.id i e) (omega arith)

-- as many as can be make a chain
chain_count : (k last : ℕ) (is : List Field) → last + k ≡ 11 → ordered last is ≡ true → count_if low is ≡ k → Chain k last is
chain_count zero last is h o e = e
chain_count (suc k) last [] h o e = unfold count_if in omega arith
chain_count (suc k) last (x ∷ xs) h o e =
    let f = first last x xs o (λ q u. let z = few 11 xs (omega arith) q in omega (arith, low_miss x xs u)) in
    let z = few x.id xs f.low f.rest in
    let c = low_hit x xs f.low in
    let i : x.id ≡ suc last = (let a = f.above in omega arith) in
    (i, chain_count k (suc last) xs (omega arith) (rw i at f.rest) (omega arith))

-- and so does each of them once or more
chain_times : (k last : ℕ) (is : List Field)
    → last + k ≡ 11
    → ordered last is ≡ true
    → ((i : ℕ) → last < i → i ≤ 11 → 1 ≤ times i is)
    → Chain k last is
chain_times zero last is h o t = let z = few last is (omega arith) o in omega arith
chain_times (suc k) last [] h o t = let z = t (suc last) (omega arith) (omega arith) in unfold count_if in omega arith
chain_times (suc k) last (x ∷ xs) h o t =
    let here = t (suc last) (omega arith) (omega arith) in
    let f = first last x xs o (λ q u. absurd (gone 11 q (omega arith) (omega arith) here)) in
    let i : x.id ≡ suc last = same f here (leb x.id (suc last)) refl in
    (i, chain_times k (suc last) xs (omega arith) (rw i at f.rest) (λ j a b. let m = t j (omega arith) b in omega (arith, times_miss j x xs (λ e. omega arith))))
  where
    gone : (l : ℕ) → ordered l xs ≡ true → suc last ≤ l → suc last < x.id → 1 ≤ times (suc last) (x ∷ xs) → ⊥
    gone l q a b m =
        let z = (once l (suc last) xs q (omega arith)).past a in omega (arith, times_miss (suc last) x xs (λ e. omega arith))

    same : First last x xs → 1 ≤ times (suc last) (x ∷ xs) → (t : Bool) → leb x.id (suc last) ≡ t → x.id ≡ suc last
    same f m true e = let a = f.above in omega (arith, leb-true x.id (suc last) e)
    same f m false e =
        let n = leb-false x.id (suc last) e in absurd (gone x.id f.rest (omega arith) n m)

-- a chain has them all
counted_chain : (k last : ℕ) (is : List Field) → last + k ≡ 11 → Chain k last is → count_if low is ≡ k
counted_chain zero last is h c = c
counted_chain (suc k) last [] h c = absurd c
counted_chain (suc k) last (x ∷ xs) h c =
    let i = c.0 in let r = counted_chain k (suc last) xs (omega arith) c.1 in omega (arith, low_hit x xs (omega arith))

there_chain : (k last i : ℕ) (is : List Field) → Chain k last is → last < i → i ≤ last + k → 1 ≤ times i is
there_chain zero last i is c a b = absurd (omega arith)
there_chain (suc k) last i [] c a b = absurd c
there_chain (suc k) last i (x ∷ xs) c a b = go (leb i (suc last)) refl (λ l. there_chain k (suc last) i xs c.1 l (omega arith))
  where
    go : (t : Bool) → leb i (suc last) ≡ t → (suc last < i → 1 ≤ times i xs) → 1 ≤ times i (x ∷ xs)
    go true e ih =
        let j = c.0 in let l = leb-true i (suc last) e in omega (arith, times_hit i x xs (omega arith))
    go false e ih =
        let j = c.0 in
        let l = leb-false i (suc last) e in
        let r = ih l in
        omega (arith, times_miss i x xs (λ z. omega arith))

-- ---- the table

abbrev AllTrue : {A : Type 0} → (A → Bool) → List A → Type 0
AllTrue p [] = Unit {0}
AllTrue p (x ∷ xs) = (p x ≡ true) × AllTrue p xs

all_true : {A : Type 0} (p : A → Bool) (xs : List A) → every p xs ≡ true → AllTrue p xs
unfolding every
all_true p [] e = tt
all_true p (x ∷ xs) e = go (p x) refl e (all_true p xs)
  where
    go : (t : Bool) → p x ≡ t → cond t (every p xs) false ≡ true → (every p xs ≡ true → AllTrue p xs) → (p x ≡ true) × AllTrue p xs
    go true f e ih = (f, ih e)
    go false f e ih = absurd (clash (sym e))

-- a test that holds of 01 to 0b holds of the whole table where it holds of upload_time
table_low : (f : ℕ → Bool) → ((i : ℕ) → 0 < i → i ≤ 11 → f i ≡ true) → every (λ row. f row.0) listed ≡ f 18
unfolding every listed
table_low f h =
    rw (h 1 (omega arith) (omega arith), h 2 (omega arith) (omega arith), h 3 (omega arith) (omega arith), h 4 (omega arith) (omega arith), h 5 (omega arith) (omega arith), h 6 (omega arith) (omega arith), h 7 (omega arith) (omega arith), h 8 (omega arith) (omega arith), h 9 (omega arith) (omega arith), h 10 (omega arith) (omega arith), h 11 (omega arith) (omega arith)) (go (f 18))
  where
    go : (t : Bool) → cond t true false ≡ t
    go true = refl
    go false = refl

-- the other way round
record Table (f : ℕ → Bool) : Type 0 where
  pub low : (i : ℕ) → 0 < i → i ≤ 11 → f i ≡ true
  pub upload : f 18 ≡ true

low_table : (f : ℕ → Bool) → every (λ row. f row.0) listed ≡ true → Table f
unfolding listed
low_table f e =
    let a = all_true (λ row. f row.0) listed e in
    record { low = go a; upload = a.1.1.1.1.1.1.1.1.1.1.1.0 }
  where
    go : AllTrue (λ row. f row.0) listed → (i : ℕ) → 0 < i → i ≤ 11 → f i ≡ true
    go a zero h l = absurd (omega arith)
    go a (suc zero) h l = a.0
    go a (suc (suc zero)) h l = a.1.0
    go a (suc (suc (suc zero))) h l = a.1.1.0
    go a (suc (suc (suc (suc zero)))) h l = a.1.1.1.0
    go a (suc (suc (suc (suc (suc zero))))) h l = a.1.1.1.1.0
    go a (suc (suc (suc (suc (suc (suc zero)))))) h l = a.1.1.1.1.1.0
    go a (suc (suc (suc (suc (suc (suc (suc zero))))))) h l = a.1.1.1.1.1.1.0
    go a (suc (suc (suc (suc (suc (suc (suc (suc zero)))))))) h l = a.1.1.1.1.1.1.1.0
    go a (suc (suc (suc (suc (suc (suc (suc (suc (suc zero))))))))) h l = a.1.1.1.1.1.1.1.1.0
    go a (suc (suc (suc (suc (suc (suc (suc (suc (suc (suc zero)))))))))) h l = a.1.1.1.1.1.1.1.1.1.0
    go a (suc (suc (suc (suc (suc (suc (suc (suc (suc (suc (suc zero))))))))))) h l = a.1.1.1.1.1.1.1.1.1.1.0
    go a (suc (suc (suc (suc (suc (suc (suc (suc (suc (suc (suc (suc i)))))))))))) h l = absurd (omega arith)

-- ---- proper and complete by the counts that the machine keeps

-- what a proper list of items has
pub record Proper (is : List Field) : Type 0 where
  pub fit : every fits is ≡ true
  pub order : ordered 0 is ≡ true
  pub upload : times 18 is ≤ 1

pub proper_parts : (is : List Field) → proper is ≡ true → Proper is
unfolding proper
proper_parts is e = go (every fits is) refl (every (λ row. leb (times row.0 is) 1) listed) refl (ordered 0 is) refl e
  where
    go : (a : Bool)
        → every fits is ≡ a
        → (b : Bool)
        → every (λ row. leb (times row.0 is) 1) listed ≡ b
        → (c : Bool)
        → ordered 0 is ≡ c
        → cond a (cond b c false) false ≡ true
        → Proper is
    go true f true t true o e =
        record { fit = f; order = o; upload = leb-true (times 18 is) 1 (low_table (λ i. leb (times i is) 1) t).upload }
    go true f true t false o e = absurd (clash (sym e))
    go true f false t c o e = absurd (clash (sym e))
    go false f b t c o e = absurd (clash (sym e))

module _ (is : List Field) (o : ordered 0 is ≡ true) where
  pub proper_ok : every fits is ≡ true → proper is ≡ leb (times 18 is) 1
  unfolding proper
  proper_ok f =
      let t : every (λ row. leb (times row.0 is) 1) listed ≡ leb (times 18 is) 1 =
      table_low (λ i. leb (times i is) 1) (λ i a b. le-leb (times i is) 1 (once 0 i is o b).most) in
      rw (f, o, t) (go (leb (times 18 is) 1))
    where
      go : (t : Bool) → cond t true false ≡ t
      go true = refl
      go false = refl

  chain_complete : complete is ≡ true → Chain 11 0 is
  unfolding complete
  chain_complete e =
      let t = low_table (λ i. leb 1 (times i is)) e in
      chain_times 11 0 is refl o (λ i a b. leb-true 1 (times i is) (t.low i a b))

  pub complete_ok : complete is ≡ cond (eqb (count_if low is) 11) (leb 1 (times 18 is)) false
  complete_ok = go (eqb (count_if low is) 11) refl (complete is) refl
    where
      each : count_if low is ≡ 11 → complete is ≡ leb 1 (times 18 is)
      each l =
          unfold complete in
          let c = chain_count 11 0 is refl o l in
          table_low (λ i. leb 1 (times i is)) (λ i a b. le-leb 1 (times i is) (there_chain 11 0 i is c a (omega arith)))

      go : (t : Bool) → eqb (count_if low is) 11 ≡ t → (c : Bool) → complete is ≡ c → c ≡ cond t (leb 1 (times 18 is)) false
      go true e c f = sym f ∙ each (eqb-true (count_if low is) 11 e)
      go false e true f = absurd (eqb-false (count_if low is) 11 e (counted_chain 11 0 is refl (chain_complete f)))
      go false e false f = refl

-- what a proper and complete list has: each listed item once
pub record Complete (is : List Field) : Type 0 where
  pub chain : Chain 11 0 is
  pub low : (i : ℕ) → 0 < i → i ≤ 11 → times i is ≡ 1
  pub upload : times 18 is ≡ 1

pub complete_parts : (is : List Field) → proper is ≡ true → complete is ≡ true → Complete is
complete_parts is p c =
    let q = proper_parts is p in
    let k = chain_complete is q.order c in
    let t : Table (λ i. leb 1 (times i is)) = unfold complete in low_table (λ i. leb 1 (times i is)) c in
    record {
      chain = k;
      low = λ i a b. (let m = (once 0 i is q.order b).most in let n = there_chain 11 0 i is k a (omega arith) in omega arith);
      upload = (let m = q.upload in omega (arith, leb-true 1 (times 18 is) t.upload));
    }

-- ---- lengths and places

pub every_here : (x : Field) (xs : List Field) → every fits (x ∷ xs) ≡ true → (fits x ≡ true) × (every fits xs ≡ true)
unfolding every
every_here x xs e = go (fits x) refl e
  where
    go : (t : Bool) → fits x ≡ t → cond t (every fits xs) false ≡ true → (fits x ≡ true) × (every fits xs ≡ true)
    go true f e = (f, e)
    go false f e = absurd (clash (sym e))

-- a listed item has the listed length
pub fit_length : (x : Field) (i n : ℕ) → x.id ≡ i → listed_length i ≡ suc n → fits x ≡ true → length x.bytes ≡ suc n
unfolding length_fits
fit_length x i n e l f = eqb-true (length x.bytes) (suc n) (sym (rw (e, l, ne_eqb (suc n) 0 (λ z. omega arith))) ∙ f)

-- the data of an item that is there
pub length_of : (i n : ℕ) (is : List Field) → listed_length i ≡ suc n → every fits is ≡ true → 1 ≤ times i is → length (bytes_of i is) ≡ suc n
unfolding bytes_of
length_of i n [] l f h = unfold count_if in absurd (omega arith)
length_of i n (x ∷ xs) l f h =
    let p = every_here x xs f in go (eqb x.id i) refl (λ m. length_of i n xs l p.1 m) p.0
  where
    go : (t : Bool) → eqb x.id i ≡ t → (1 ≤ times i xs → length (bytes_of i xs) ≡ suc n) → fits x ≡ true → length (cond t x.bytes (bytes_of i xs)) ≡ suc n
    go true e ih p = fit_length x i n (eqb-true x.id i e) l p
    go false e ih p = ih (omega (arith, times_miss i x xs (eqb-false x.id i e)))

pub some_length : (i : ℕ) → 0 < i → i ≤ 11 → listed_length i ≡ suc (listed_length i - 1)
unfolding listed length_in
some_length zero h l = absurd (omega arith)
some_length (suc zero) h l = refl
some_length (suc (suc zero)) h l = refl
some_length (suc (suc (suc zero))) h l = refl
some_length (suc (suc (suc (suc zero)))) h l = refl
some_length (suc (suc (suc (suc (suc zero))))) h l = refl
some_length (suc (suc (suc (suc (suc (suc zero)))))) h l = refl
some_length (suc (suc (suc (suc (suc (suc (suc zero))))))) h l = refl
some_length (suc (suc (suc (suc (suc (suc (suc (suc zero)))))))) h l = refl
some_length (suc (suc (suc (suc (suc (suc (suc (suc (suc zero))))))))) h l = refl
some_length (suc (suc (suc (suc (suc (suc (suc (suc (suc (suc zero)))))))))) h l = refl
some_length (suc (suc (suc (suc (suc (suc (suc (suc (suc (suc (suc zero))))))))))) h l = refl
some_length (suc (suc (suc (suc (suc (suc (suc (suc (suc (suc (suc (suc i)))))))))))) h l = absurd (omega arith)

-- the next item of a chain has the listed length
pub chain_length : (x : Field) (last k : ℕ) → last + suc k ≡ 11 → x.id ≡ suc last → fits x ≡ true → length x.bytes ≡ listed_length (suc last)
chain_length x last k h e f =
    let m = some_length (suc last) (omega arith) (omega arith) in
    fit_length x (suc last) (listed_length (suc last) - 1) e m f ∙ sym m

-- 01 to 0b stand at fixed places
pub place_chain : (k last d at : ℕ) (is : List Field)
    → last + k ≡ 11
    → d < k
    → Chain k last is
    → every fits is ≡ true
    → place_from (last + suc d) at is ≡ record { found = true; at = at + before d last + 3; size = listed_length (last + suc d) }
unfolding place_from before
place_chain zero last d at is h l c f = absurd (omega arith)
place_chain (suc k) last d at [] h l c f = absurd c
place_chain (suc k) last zero at (x ∷ xs) h l c f =
    let p = every_here x xs f in
    let i : last + 1 ≡ suc last = omega arith in
    let n = chain_length x last k h c.0 p.0 in
    let a : at + 3 ≡ at + 0 + 3 = omega arith in
    rw (i, c.0, eq-eqb (suc last) (suc last) refl, n, a)
place_chain (suc k) last (suc d) at (x ∷ xs) h l c f =
    let p = every_here x xs f in
    let i : last + suc (suc d) ≡ suc last + suc d = omega arith in
    let n = chain_length x last k h c.0 p.0 in
    let a : at + (3 + listed_length (suc last)) + before d (suc last) + 3 ≡ at + (3 + listed_length (suc last) + before d (suc last)) + 3 = omega arith in
    rw (i, c.0, ne_eqb (suc last) (suc last + suc d) (λ z. omega arith), n) (ap (λ (z : ℕ). place_from z (at + (3 + listed_length (suc last))) xs) i ∙ place_chain k (suc last) d (at + (3 + listed_length (suc last))) xs (omega arith) (omega arith) c.1 p.1 ∙ rw a)
