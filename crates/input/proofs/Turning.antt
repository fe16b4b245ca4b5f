-- Turns of a program until it is over (specs/Turns.antt), counted down. Assumes nothing.
use Rattle.std.proofs.Common.{◌≡◌, ℕ, ◌+◌, ◌-◌, ◌<◌, ◌≤◌, Bool, true, false, cond, ◌⊎◌, List, [], ◌++◌, refl, inl, inr, arith}
use Rattle.input.specs.Turns.{Turned, Run, begun, turned, Played}

-- a run, and how many turns may follow: none where the program is over, and else what is left of 2^64 - 1
pub record Playing {S : Type 0} (over : S → Bool) (Turn : S → List ℕ → List ℕ → S → Type 0) (first after : S) (left : ℕ) : Type 0 where
  pub turns : ℕ
  pub read : List ℕ
  pub wrote : List ℕ
  pub run : Run over Turn first turns read wrote after
  pub stands : ((over after ≡ true) × (left ≡ 0)) ⊎ ((over after ≡ false) × (turns + left ≡ 18446744073709551615))

next_stands : (b : Bool) (turns left more : ℕ) → 0 < left → turns + left ≡ 18446744073709551615 → more ≡ cond b 0 (left - 1)
    → ((b ≡ true) × (more ≡ 0)) ⊎ ((b ≡ false) × (turns + 1 + more ≡ 18446744073709551615))
next_stands true turns left more some sum e = inl (refl, e)
next_stands false turns left more some sum e = inr (refl, omega (arith, some, sum, e))

module _ {S : Type 0} (over : S → Bool) (Turn : S → List ℕ → List ℕ → S → Type 0) (first : S) where
  pub playing_none : over first ≡ false → Playing over Turn first first 18446744073709551615
  playing_none e = record { turns = 0; read = []; wrote = []; run = begun; stands = inr (e, refl) }

  pub playing_on : (before after : S) (left more : ℕ) → Playing over Turn first before left → 0 < left → Turned Turn before after
      → more ≡ cond (over after) 0 (left - 1) → Playing over Turn first after more
  playing_on before after left more l some t e = go l.stands
    where
      go : ((over before ≡ true) × (left ≡ 0)) ⊎ ((over before ≡ false) × (l.turns + left ≡ 18446744073709551615))
          → Playing over Turn first after more
      go (inl done) = absurd (omega (arith, some, done.1))
      go (inr on) =
          record {
            turns = l.turns + 1;
            read = l.read ++ t.read;
            wrote = l.wrote ++ t.wrote;
            run = turned l.turns l.read l.wrote t.read t.wrote before after l.run on.0 t.turn;
            stands = next_stands (over after) l.turns left more some on.1 e;
          }

  pub played_out : (after : S) (left : ℕ) → Playing over Turn first after left → left ≤ 0 → Played over Turn first after
  played_out after left l none =
      record {
        turns = l.turns;
        read = l.read;
        wrote = l.wrote;
        run = l.run;
        ends = go l.stands;
      }
    where
      go : ((over after ≡ true) × (left ≡ 0)) ⊎ ((over after ≡ false) × (l.turns + left ≡ 18446744073709551615))
          → (over after ≡ true) ⊎ (l.turns ≡ 18446744073709551615)
      go (inl done) = inl done.0
      go (inr on) = inr (omega (arith, none, on.1))

pub fewer_left : (over : Bool) (left more : ℕ) → 0 < left → more ≡ cond over 0 (left - 1) → more < left
fewer_left true left more some e = omega (arith, some, e)
fewer_left false left more some e = omega (arith, some, e)
