-- How a directory's bytes are collected, entry by entry. Assumes nothing.
use Rattle.std.specs.Prelude.{cond, List, ℕ, ◌+◌, ◌-◌, leb, ltb, length, drop}
use Rattle.entries.specs.Entry.{Reads, reads, put_front}
use Rattle.listing.specs.declared.Progress.{Progress}
use Rattle.listing.specs.declared.Filled.{Filled}

-- the length of an entry, and its bytes from byte `skip` on at the front of what is lent
abbrev pub put_from : List ℕ → ℕ → List ℕ → Reads
put_from entry skip out = reads (length entry) (put_front (drop skip entry) out)

abbrev pub progress : ℕ → ℕ → ℕ → Progress
progress done sent size = record { done = done; sent = sent; size = size }

-- past an entry of `size` bytes, where `room` bytes more can be put: all its bytes lie behind; or it has more left than there is room for; or it has not
unfoldable pub advanced : Progress → ℕ → ℕ → Progress
advanced p size room =
    cond (leb size p.sent) (progress (p.done + 1) (p.sent - size) p.size)
    (cond (ltb room (size - p.sent)) (progress p.done (p.sent + room) (p.size + room))
    (progress (p.done + 1) 0 (p.size + (size - p.sent))))

-- no byte of an entry lies behind past the last one
abbrev pub rested : Progress → Progress
rested p = progress p.done 0 p.size

abbrev pub filled_with : Progress → List ℕ → Filled
filled_with p bytes = record { done = p.done; sent = p.sent; size = p.size; bytes = bytes }
