-- What a call tells stands in what it answers: the proofs of the calls end with these, so that a wrong one shows what differs. Assumes nothing.
use mathlib.Core.Path.{◌≡◌, ap}
use mathlib.Core.List.{List}
use Prim.Native.Nat.{ℕ}
use Rattle.server.specs.State.{Lent}
use Rattle.embed.specs.Calls.{Told, received, sent, gone}

pub received_told : (t u : Told) (l : Lent) (out : List ℕ) → t ≡ u → received t l out ≡ received u l out
received_told t u l out e = ap (λ (x : Told). received x l out) e

pub sent_told : (t u : Told) (out : List ℕ) → t ≡ u → sent t out ≡ sent u out
sent_told t u out e = ap (λ (x : Told). sent x out) e

pub gone_told : (t u : Told) (selected held : List ℕ) → t ≡ u → gone t selected held ≡ gone u selected held
gone_told t u selected held e = ap (λ (x : Told). gone x selected held) e
