-- The client's bytes: the equation, the condition and AND. Of an accepted equation nothing but an end mark at its end is left out. Assumes nothing.
use mathlib.Core.Path.{◌≡◌, refl, sym, ap}
use mathlib.Core.Bool.{Bool, true, false, cond}
use mathlib.Core.List.{List, [], ◌∷◌, ◌++◌}
use mathlib.Core.Logic.{◌⊎◌, inl, inr, ⊎_elim}
use mathlib.Core.Option.{Option, none, some}
use Prim.Native.Nat.{ℕ, zero, suc, ◌+◌, ◌*◌, ◌≤◌}
use native.Mathlib.Omega.{arith}
use lib.Dec.{eqb, leb, ltb}
use lib.ListN.{length, take, length-append}
use borrow.Author.Tests.{eqb-true}
use Rattle.packet.specs.Packet.{packet_of}
use Rattle.equation.specs.Symbols.{good, connective_of, relation_at, token_of, Symbol, rel, and, or, bad, follow, symbols_past, symbols}
use Rattle.equation.specs.Tree.{pushed, joined, bind, run, Tree, leaf, both, either, parse}
use Rattle.equation.specs.Answer.{validity_of}
use Rattle.equation.specs.Newer.{newer_bytes, before_mark, unmarked_past, unmarked, narrowed}
use Rattle.equation.specs.declared.tokens.Token.{Token}
use Rattle.equation.specs.declared.tokens.Token.TheVariants.{Bad, End, And, Or, Rel}
use Rattle.equation.proofs.TokenLaws.{relation_fits}
use Rattle.equation.proofs.Trees.{accepted}

-- ---- symbols of an accepted equation

abbrev Fine : List Symbol → Type 0
Fine [] = Unit {0}
Fine (rel r ∷ ss) = Fine ss
Fine (and ∷ ss) = Fine ss
Fine (or ∷ ss) = Fine ss
Fine (bad ∷ ss) = ⊥

no_tree : (t : Tree) → none ≡ some t → ⊥
no_tree t e = let z : ◌≡◌ {A = ℕ} 0 1 = cc in omega arith

fine : (k : ℕ) (ss : List Symbol) (st : List Tree) (t : Tree) → run leaf both either k ss st ≡ some t → Fine ss
unfolding run
fine k [] st t h = tt
fine k (rel r ∷ ss) st t h = go (pushed (leaf k r) st) (λ ts. fine (suc k) ss ts t) h
  where
    go : (o : Option (List Tree)) → ((ts : List Tree) → run leaf both either (suc k) ss ts ≡ some t → Fine ss)
        → bind o (run leaf both either (suc k) ss) ≡ some t → Fine ss
    go none ih e = absurd (no_tree t (unfold bind in e))
    go (some ts) ih e = ih ts (unfold bind in e)
fine k (and ∷ ss) st t h = go (joined both st) (λ ts. fine k ss ts t) h
  where
    go : (o : Option (List Tree)) → ((ts : List Tree) → run leaf both either k ss ts ≡ some t → Fine ss)
        → bind o (run leaf both either k ss) ≡ some t → Fine ss
    go none ih e = absurd (no_tree t (unfold bind in e))
    go (some ts) ih e = ih ts (unfold bind in e)
fine k (or ∷ ss) st t h = go (joined either st) (λ ts. fine k ss ts t) h
  where
    go : (o : Option (List Tree)) → ((ts : List Tree) → run leaf both either k ss ts ≡ some t → Fine ss)
        → bind o (run leaf both either k ss) ≡ some t → Fine ss
    go none ih e = absurd (no_tree t (unfold bind in e))
    go (some ts) ih e = ih ts (unfold bind in e)
fine k (bad ∷ ss) st t h = absurd (no_tree t h)

-- ---- the end mark

-- an end mark is 00, and no byte follows it
low_end : (c n : ℕ) → connective_of c n ≡ End → (c ≡ 0) × (n ≡ 0)
unfolding connective_of
low_end c n e = go (eqb c 1) (eqb c 2) (eqb c 0) refl (eqb n 0) refl e
  where
    go : (a b d : Bool) → eqb c 0 ≡ d → (x : Bool) → eqb n 0 ≡ x → cond a And (cond b Or (cond d (cond x End Bad) Bad)) ≡ End → (c ≡ 0) × (n ≡ 0)
    go true b d p x q e = let z : ◌≡◌ {A = ℕ} 0 1 = cc in absurd (omega arith)
    go false true d p x q e = let z : ◌≡◌ {A = ℕ} 0 1 = cc in absurd (omega arith)
    go false false false p x q e = let z : ◌≡◌ {A = ℕ} 0 1 = cc in absurd (omega arith)
    go false false true p false q e = let z : ◌≡◌ {A = ℕ} 0 1 = cc in absurd (omega arith)
    go false false true p true q e = (eqb-true c 0 p, eqb-true n 0 q)

clash : (c i n : ℕ) (x y : Bool) → cond x (cond y (Rel c i n) Bad) Bad ≡ End → ◌≡◌ {A = ℕ} 0 1
clash c i n true true e = cc
clash c i n true false e = cc
clash c i n false y e = cc

relation_end : (c : ℕ) (bs : List ℕ) → relation_at c bs ≡ End → ◌≡◌ {A = ℕ} 0 1
unfolding relation_at
relation_end c [] e = clash c 0 0 false false e
relation_end c (a ∷ []) e = clash c 0 0 false false e
relation_end c (a ∷ b ∷ []) e = clash c 0 0 false false e
relation_end c (a ∷ b ∷ n ∷ bs) e = clash c (a + 256 * b) n (leb n (length bs)) (good c (take n bs)) e

end_is : (c : ℕ) (bs : List ℕ) → token_of (c ∷ bs) ≡ End → c ∷ bs ≡ 0 ∷ []
unfolding token_of
end_is c bs e = go (ltb c 128) e
  where
    none_left : (bs : List ℕ) → length bs ≡ 0 → bs ≡ []
    none_left [] h = refl
    none_left (b ∷ bs) h = absurd (omega arith)

    go : (x : Bool) → cond x (connective_of c (length bs)) (relation_at c bs) ≡ End → c ∷ bs ≡ 0 ∷ []
    go true e = let p = low_end c (length bs) e in rw (p.0, none_left bs p.1)
    go false e = let z = relation_end c bs e in absurd (omega arith)

-- what is kept of the bytes is all of them, or all but a mark at their end
abbrev Kept : List ℕ → List ℕ → Type 0
Kept kept bs = (kept ≡ bs) ⊎ (kept ++ (0 ∷ []) ≡ bs)

one_more : (c : ℕ) (kept bs : List ℕ) → Kept kept bs → Kept (c ∷ kept) (c ∷ bs)
one_more c kept bs (inl e) = inl (ap (λ (l : List ℕ). c ∷ l) e)
one_more c kept bs (inr e) = inr (ap (λ (l : List ℕ). c ∷ l) e)

at_token : (c : ℕ) (bs : List ℕ) → ((n : ℕ) → n ≤ length bs → Fine (symbols_past n bs) → Kept (unmarked_past n bs) bs)
    → (t : Token) → token_of (c ∷ bs) ≡ t → Fine (follow t (c ∷ bs) (λ n. symbols_past n bs))
    → Kept (before_mark t (λ n. c ∷ unmarked_past n bs)) (c ∷ bs)
unfolding follow before_mark
at_token c bs ih Bad e f = absurd f
at_token c bs ih End e f = inr (sym (end_is c bs e))
at_token c bs ih And e f = one_more c (unmarked_past 0 bs) bs (ih 0 (omega arith) f)
at_token c bs ih Or e f = one_more c (unmarked_past 0 bs) bs (ih 0 (omega arith) f)
at_token c bs ih (Rel d i n) e f =
    one_more c (unmarked_past (3 + n) bs) bs (ih (3 + n) (let h = relation_fits (c ∷ bs) d i n e in omega arith) f)

kept : (bs : List ℕ) (n : ℕ) → n ≤ length bs → Fine (symbols_past n bs) → Kept (unmarked_past n bs) bs
unfolding symbols_past unmarked_past
kept [] n h f = inl refl
kept (c ∷ bs) zero h f = at_token c bs (kept bs) (token_of (c ∷ bs)) refl f
kept (c ∷ bs) (suc n) h f = one_more c (unmarked_past n bs) bs (kept bs n (omega arith) f)

-- ---- THE LAWS

kept_all : (eq : List ℕ) → validity_of eq ≡ 0 → Kept (unmarked eq) eq
unfolding parse
kept_all eq v = kept eq 0 (omega arith) (let a = accepted eq v in fine 0 (symbols eq) [] a.tree a.parsed)

-- the bytes of an equation, with the condition and AND behind them
abbrev pub plus : List ℕ → ℕ → List ℕ
plus eq t = packet_of 16 (eq ++ (newer_bytes t ++ (1 ∷ [])))

pub record Marked (eq : List ℕ) (t : ℕ) : Type 0 where
  pub front : List ℕ
  pub mark : front ++ (0 ∷ []) ≡ eq
  pub bytes : packet_of 16 (narrowed eq t) ≡ plus front t

-- An accepted equation has no end mark, and its bytes are sent as they are; or it has one, and the bytes before it are sent.
pub client_bytes : (eq : List ℕ) (t : ℕ) → validity_of eq ≡ 0 → (packet_of 16 (narrowed eq t) ≡ plus eq t) ⊎ Marked eq t
client_bytes eq t v =
    ⊎_elim (λ (e : unmarked eq ≡ eq). inl (ap (λ (l : List ℕ). plus l t) e))
    (λ (e : unmarked eq ++ (0 ∷ []) ≡ eq). inr (record { front = unmarked eq; mark = e; bytes = refl })) (kept_all eq v)

-- so it is one byte longer at most than what is sent of it
pub at_most_a_mark : (eq : List ℕ) → validity_of eq ≡ 0 → length eq ≤ length (unmarked eq) + 1
at_most_a_mark eq v =
    ⊎_elim (λ (e : unmarked eq ≡ eq). let k = ap length e in omega arith)
    (λ (e : unmarked eq ++ (0 ∷ []) ≡ eq). let k = ap length e in omega (arith, length-append (unmarked eq) (0 ∷ []))) (kept_all eq v)

-- the equation, the condition and AND
pub narrowed_size : (eq : List ℕ) (t : ℕ) → length (narrowed eq t) ≡ length (unmarked eq) + 9
narrowed_size eq t = length-append (unmarked eq) (newer_bytes t ++ (1 ∷ []))
