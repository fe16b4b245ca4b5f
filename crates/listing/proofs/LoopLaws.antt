-- The loop of a filling: what holds while entries are read, one after the other. Assumes nothing.
use mathlib.Core.Path.{◌≡◌, refl, sym, ap, ◌∙◌}
use mathlib.Core.Bool.{Bool, true, false, cond}
use mathlib.Core.List.{List, [], ◌∷◌, ◌++◌, append_assoc, append-nil}
use Prim.Native.Nat.{ℕ, zero, suc, ◌+◌, ◌-◌, ◌≤◌, ◌<◌}
use native.Mathlib.Omega.{arith}
use native.Mathlib.Numerals.{add-one}
use lib.Dec.{leb, ltb}
use lib.ListN.{length, take, drop, get_or, replicate, length-append, length-take, length-drop, length-replicate, drop_of_length-le}
use lib.Seq.{take_all, take_at, drop_at, drop-cons, take-nil, drop-nil}
use borrow.Author.Tests.{leb-true, leb-false, ltb-true, ltb-false}
use Rattle.header.specs.Entries.{running_on}
use Rattle.listing.specs.Listing.{position, position_at, next_bytes, fill_of}
use Rattle.entries.specs.Entry.{Reads, reads, put_front}
use Rattle.listing.specs.declared.Progress.{Progress}
use Rattle.listing.specs.Progress.{put_from, progress, advanced, filled_with, rested}
use Rattle.listing.proofs.PositionLaws.{position_none}
use Rattle.listing.proofs.StepLaws.{behind_position, behind_bytes, some_position, some_bytes, rest_position, rest_bytes}

-- some zeros fewer
pub drop_zeros : (k n : ℕ) → drop {A = ℕ} k (replicate n 0) ≡ replicate (n - k) 0
drop_zeros zero n = ap (λ (k : ℕ). replicate k 0) (same n)
  where
    same : (n : ℕ) → n ≡ n - 0
    same n = omega arith
drop_zeros (suc k) zero = ap (λ (k : ℕ). replicate k 0) (none k)
  where
    none : (k : ℕ) → 0 ≡ 0 - suc k
    none k = omega arith
drop_zeros (suc k) (suc n) = drop_zeros k n ∙ ap (λ (k : ℕ). replicate k 0) (less k n)
  where
    less : (k n : ℕ) → n - k ≡ suc n - suc k
    less k n = omega arith

-- what is collected, with zeros behind it, and what goes on from the progress is what is asked for
pub record Going (es : List (List ℕ)) (done sent : ℕ) (p : Progress) (bytes : List ℕ) : Type 0 where
  pub front : List ℕ
  pub front_length : length front ≡ p.size
  pub within : p.size ≤ 256
  pub held : bytes ≡ front ++ replicate (256 - p.size) 0
  pub next : front ++ take (256 - p.size) (drop p.sent (running_on (drop p.done es))) ≡ next_bytes es done sent
  pub entry : p.done + (position_at (p.sent + (256 - p.size)) (drop p.done es)).entry ≡ done + (position_at (sent + 256) (drop done es)).entry
  pub byte : (position_at (p.sent + (256 - p.size)) (drop p.done es)).byte ≡ (position_at (sent + 256) (drop done es)).byte
  pub full : 256 ≤ p.size → position_at p.sent (drop p.done es) ≡ position 0 p.sent

pub going_start : (es : List (List ℕ)) (done sent : ℕ) → Going es done sent (progress done sent 0) (replicate 256 0)
going_start es done sent =
    record {
      front = [];
      front_length = refl;
      within = omega arith;
      held = refl;
      next = refl;
      entry = refl;
      byte = refl;
      full = λ h. absurd (omega arith);
    }

module _ (es : List (List ℕ)) (done sent : ℕ) (p : Progress) (bytes : List ℕ) (g : Going es done sent p bytes) where
  -- what is lent for the next entry, and what stands before it
  part : drop p.size bytes ≡ replicate (256 - p.size) 0
  part = rw g.held (drop_at g.front (replicate (256 - p.size) 0) p.size g.front_length)

  before : take p.size bytes ≡ g.front
  before = rw g.held (take_at g.front (replicate (256 - p.size) 0) p.size g.front_length)

  pub going_whole : length bytes ≡ 256
  going_whole =
      rw (g.held, length-append g.front (replicate (256 - p.size) 0), g.front_length, length-replicate {A = ℕ} (256 - p.size) 0)
      (omega (arith, g.within))

  -- past the last entry, or with 256 bytes collected, it is done
  ended : take (256 - p.size) (drop p.sent (running_on (drop p.done es))) ≡ []
      → (length (next_bytes es done sent) ≡ p.size) × (put_front (next_bytes es done sent) (replicate 256 0) ≡ bytes)
  ended none =
      let n : next_bytes es done sent ≡ g.front = sym g.next ∙ (rw none (append-nil g.front)) in
      let whole : take 256 g.front ≡ g.front = take_all 256 g.front (omega (arith, g.front_length, g.within)) in
      (rw n g.front_length, rw (n, whole, g.front_length, drop_zeros p.size 256) (sym g.held))

  pub going_past : length es ≤ p.done → filled_with (rested p) bytes ≡ fill_of es done sent
  unfolding fill_of running_on position_at
  going_past h =
      let d : drop p.done es ≡ [] = drop_of_length-le es h in
      let none : take (256 - p.size) (drop p.sent (running_on (drop p.done es))) ≡ [] =
      rw (d, drop-nil {A = ℕ} p.sent, take-nil {A = ℕ} (256 - p.size)) in
      let at : p.done + 0 ≡ done + (position_at (sent + 256) (drop done es)).entry = rw d at g.entry in
      let from : 0 ≡ (position_at (sent + 256) (drop done es)).byte = rw d at g.byte in
      let e : p.done ≡ done + (position_at (sent + 256) (drop done es)).entry = omega arith in
      let s = ended none in
      cc (e, from, s.0, s.1)

  pub going_full : 256 ≤ p.size → filled_with p bytes ≡ fill_of es done sent
  unfolding fill_of
  going_full h =
      let no_room : 256 - p.size ≡ 0 = omega arith in
      let same : p.sent + 0 ≡ p.sent = omega arith in
      let none : take (256 - p.size) (drop p.sent (running_on (drop p.done es))) ≡ [] = rw no_room in
      let at : p.done + 0 ≡ done + (position_at (sent + 256) (drop done es)).entry = rw (no_room, same, g.full h) at g.entry in
      let from : p.sent ≡ (position_at (sent + 256) (drop done es)).byte = rw (no_room, same, g.full h) at g.byte in
      let e : p.done ≡ done + (position_at (sent + 256) (drop done es)).entry = omega arith in
      let s = ended none in
      cc (e, from, s.0, s.1)

  -- the next entry is read into what is left of the bytes
  module _
      (e : List ℕ) (left : List (List ℕ)) (ahead : drop p.done es ≡ e ∷ left) (after : drop (p.done + 1) es ≡ left) (free : p.size < 256)
    where
      put_is : take p.size bytes ++ put_front (drop p.sent e) (drop p.size bytes)
          ≡ g.front ++ (take (256 - p.size) (drop p.sent e) ++ replicate (256 - p.size - (length e - p.sent)) 0)
      put_is =
          rw (
            before,
            part,
            length-replicate {A = ℕ} (256 - p.size) 0,
            drop_zeros (length (drop p.sent e)) (256 - p.size),
            length-drop p.sent e,
          )

      behind : length e ≤ p.sent
          → Going es done sent (progress (p.done + 1) (p.sent - length e) p.size)
          (take p.size bytes ++ put_front (drop p.sent e) (drop p.size bytes))
      behind h =
          let room : 1 ≤ 256 - p.size = omega arith in
          let nothing : drop p.sent e ≡ [] = drop_of_length-le e h in
          let at = behind_position e left p.sent (256 - p.size) room h in
          let none : 256 - p.size - (length e - p.sent) ≡ 256 - p.size = omega arith in
          let en = rw (ahead, at) at g.entry in
          record {
            front = g.front;
            front_length = g.front_length;
            within = g.within;
            held = put_is ∙ rw (nothing, take-nil {A = ℕ} (256 - p.size), none);
            next = rw after (rw (ahead, behind_bytes e left p.sent (256 - p.size) h) at g.next);
            entry = rw after (omega (arith, en));
            byte = rw after (rw (ahead, at) at g.byte);
            full = λ h. absurd (omega arith);
          }

      some : 256 - p.size < length e - p.sent
          → Going es done sent (progress p.done (p.sent + (256 - p.size)) (p.size + (256 - p.size)))
          (take p.size bytes ++ put_front (drop p.sent e) (drop p.size bytes))
      some h =
          let whole : p.size + (256 - p.size) ≡ 256 = omega arith in
          let none : 256 - p.size - (length e - p.sent) ≡ 0 = omega arith in
          let same : p.sent + (256 - p.size) + 0 ≡ p.sent + (256 - p.size) = omega arith in
          record {
            front = g.front ++ take (256 - p.size) (drop p.sent e);
            front_length =
                rw (
                  length-append g.front (take (256 - p.size) (drop p.sent e)),
                  length-take (256 - p.size) (drop p.sent e),
                  length-drop p.sent e,
                  g.front_length,
                )
                (omega arith);
            within = omega arith;
            held = put_is ∙ rw (none, whole) (sym (append_assoc g.front (take (256 - p.size) (drop p.sent e)) []));
            next =
                rw whole
                (append-nil (g.front ++ take (256 - p.size) (drop p.sent e)) ∙ (rw (ahead, some_bytes e left p.sent (256 - p.size) h) at g.next));
            entry = rw (whole, same) g.entry;
            byte = rw (whole, same) g.byte;
            full = λ _. rw ahead (some_position e left p.sent (256 - p.size) h);
          }

      rest : p.sent < length e
          → length e - p.sent ≤ 256 - p.size
          → Going es done sent (progress (p.done + 1) 0 (p.size + (length e - p.sent)))
          (take p.size bytes ++ put_front (drop p.sent e) (drop p.size bytes))
      rest l h =
          let at = rest_position e left p.sent (256 - p.size) l h in
          let all : take (256 - p.size) (drop p.sent e) ≡ drop p.sent e =
          take_all (256 - p.size) (drop p.sent e) (rw (length-drop p.sent e) h) in
          let less : 256 - p.size - (length e - p.sent) ≡ 256 - (p.size + (length e - p.sent)) = omega arith in
          let none : 0 + (256 - (p.size + (length e - p.sent))) ≡ 256 - (p.size + (length e - p.sent)) = omega arith in
          let en = rw (ahead, at, less) at g.entry in
          record {
            front = g.front ++ drop p.sent e;
            front_length = rw (length-append g.front (drop p.sent e), length-drop p.sent e, g.front_length);
            within = omega arith;
            held =
                put_is
                ∙ rw (all, less)
                (sym (append_assoc g.front (drop p.sent e) (replicate (256 - (p.size + (length e - p.sent))) 0)));
            next =
                rw after
                (append_assoc g.front (drop p.sent e) (take (256 - (p.size + (length e - p.sent))) (running_on left))
                ∙ (rw (ahead, rest_bytes e left p.sent (256 - p.size) l h, less) at g.next));
            entry = rw (none, after) (omega (arith, en));
            byte = rw (none, after) (rw (ahead, at, less) at g.byte);
            full = λ _. position_none (drop (p.done + 1) es);
          }

      step : Going es done sent (advanced p (length e) (256 - p.size))
          (take p.size bytes ++ put_front (drop p.sent e) (drop p.size bytes))
      unfolding advanced
      step = go (leb (length e) p.sent) refl (ltb (256 - p.size) (length e - p.sent)) refl
        where
          go : (t : Bool) → leb (length e) p.sent ≡ t → (u : Bool) → ltb (256 - p.size) (length e - p.sent) ≡ u
              → Going es done sent
              (cond t (progress (p.done + 1) (p.sent - length e) p.size)
              (cond u (progress p.done (p.sent + (256 - p.size)) (p.size + (256 - p.size)))
              (progress (p.done + 1) 0 (p.size + (length e - p.sent)))))
              (take p.size bytes ++ put_front (drop p.sent e) (drop p.size bytes))
          go true a u b = behind (leb-true (length e) p.sent a)
          go false a true b = some (ltb-true (256 - p.size) (length e - p.sent) b)
          go false a false b = rest (leb-false (length e) p.sent a) (ltb-false (256 - p.size) (length e - p.sent) b)

  pub going_step : p.done < length es
      → p.size < 256
      → Going es done sent (advanced p (length (get_or es p.done [])) (256 - p.size))
      (take p.size bytes ++ put_front (drop p.sent (get_or es p.done [])) (drop p.size bytes))
  going_step more free =
      step (get_or es p.done []) (drop (p.done + 1) es) (rw add-one (drop-cons es p.done [] more)) refl free

  -- the same, where what is lent is the part from the bytes collected on, and is put back as it is left
  pub going_read : (e : List ℕ) (r : ℕ) (ys : List ℕ) (q : Progress)
      → p.done < length es
      → p.size < 256
      → get_or es p.done [] ≡ e
      → reads r ys ≡ put_from e p.sent (take (256 - p.size) (drop p.size bytes))
      → q ≡ advanced p r (256 - p.size)
      → Going es done sent q (take p.size bytes ++ (ys ++ drop (256 - p.size) (drop p.size bytes)))
  going_read e r ys q more free at read on =
      let long : length (drop p.size bytes) ≡ 256 - p.size = length-drop p.size bytes ∙ ap (λ (n : ℕ). n - p.size) going_whole in
      let all : take (256 - p.size) (drop p.size bytes) ≡ drop p.size bytes = take_all (256 - p.size) (drop p.size bytes) (omega arith) in
      let none : drop (256 - p.size) (drop p.size bytes) ≡ [] = drop_of_length-le (drop p.size bytes) {i = 256 - p.size} (omega arith) in
      let size : r ≡ length e = ap (λ (x : Reads). x.size) read in
      let left : ys ≡ put_front (drop p.sent e) (drop p.size bytes) = ap (λ (x : Reads). x.out) read ∙ rw all in
      rw (on, none, append-nil ys, left, size, ← at) (going_step more free)

-- with each entry fewer files are left or less room is
pub advanced_less : (n : ℕ) (p : Progress) (size : ℕ)
    → p.done < n
    → p.size < 256
    → n - (advanced p size (256 - p.size)).done + (256 - (advanced p size (256 - p.size)).size) < n - p.done + (256 - p.size)
unfolding advanced
advanced_less n p size more free = go (leb size p.sent) refl (ltb (256 - p.size) (size - p.sent)) refl
  where
    next : Bool → Bool → Progress
    next t u =
        cond t (progress (p.done + 1) (p.sent - size) p.size)
        (cond u (progress p.done (p.sent + (256 - p.size)) (p.size + (256 - p.size)))
        (progress (p.done + 1) 0 (p.size + (size - p.sent))))

    go : (t : Bool) → leb size p.sent ≡ t → (u : Bool) → ltb (256 - p.size) (size - p.sent) ≡ u
        → n - (next t u).done + (256 - (next t u).size) < n - p.done + (256 - p.size)
    go true a u b = omega arith
    go false a true b = omega arith
    go false a false b = omega arith
